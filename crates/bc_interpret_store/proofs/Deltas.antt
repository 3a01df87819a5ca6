-- Laws of changes: those that fit can be taken back, and a list of them can be joined and cut.
use Rattle.std.proofs.Common.{◌≡◌, ℕ, ◌+◌, ◌-◌, ◌≤◌, List, [], ◌∷◌, ◌++◌, length, slice_get, slice_set, slice_range, take, drop, Some, refl, sym, ap, subst, ◌∙◌, arith}
use Rattle.std.proofs.lemmas.List.{set-set, set-get_or, set_past, take-take, take-append-drop, take_all, drop_all, length-drop}
use Rattle.std.proofs.lemmas.Option.{get_or_from_slice_get}
use Rattle.std.proofs.lemmas.Slice.{between_is}
use Rattle.bc_interpret_store.specs.declared.cell.Cell.{Cell}
use Rattle.bc_interpret_store.specs.declared.change.Change.{Change}
use Rattle.bc_interpret_store.specs.Changes.{applied, undone, cells_after, Fits, IsDelta, Walks}

pub put_past : (cells : List Cell) (a : ℕ) (cell : Cell) → length cells ≤ a → slice_set cells a cell ≡ cells
put_past cells a cell h = set_past cells a cell h

-- no change is left
pub all_applied : (left : List Change) (cells whole : List Cell) → length left ≡ 0 → applied left cells ≡ whole → cells ≡ whole
all_applied [] cells whole e h = h
all_applied (c ∷ left) cells whole e h = absurd (omega arith)

undone_last : (cs : List Change) (c : Change) (cells : List Cell) → undone (cs ++ c ∷ []) cells ≡ undone cs (slice_set cells c.address c.old)
undone_last [] c cells = refl
undone_last (x ∷ cs) c cells = ap (λ (s : List Cell). slice_set s x.address x.old) (undone_last cs c cells)

-- the steps of `undo`, and its end
pub undo_more : (left earlier : List Change) (c : Change) (cells new whole : List Cell) → left ≡ earlier ++ c ∷ [] → new ≡ slice_set cells c.address c.old
    → undone left cells ≡ whole → undone earlier new ≡ whole
undo_more left earlier c cells new whole e p h =
    ap (undone earlier) p ∙ (sym (undone_last earlier c cells) ∙ (sym (ap (λ (l : List Change). undone l cells) e) ∙ h))

pub all_undone : (left : List Change) (cells whole : List Cell) → length left ≡ 0 → undone left cells ≡ whole → cells ≡ whole
all_undone [] cells whole e h = h
all_undone (c ∷ left) cells whole e h = absurd (omega arith)

pub applied-append : (cs ds : List Change) (cells : List Cell) → applied (cs ++ ds) cells ≡ applied ds (applied cs cells)
applied-append [] ds cells = refl
applied-append (c ∷ cs) ds cells = applied-append cs ds (slice_set cells c.address c.new)

pub Fits-append : (cs ds : List Change) (cells : List Cell) → Fits cs cells → Fits ds (applied cs cells) → Fits (cs ++ ds) cells
Fits-append [] ds cells f g = g
Fits-append (c ∷ cs) ds cells f g = (f.0, Fits-append cs ds (slice_set cells c.address c.new) f.1 g)

pub fits_first : (cs ds : List Change) (cells : List Cell) → Fits (cs ++ ds) cells → Fits cs cells
fits_first [] ds cells f = tt
fits_first (c ∷ cs) ds cells f = (f.0, fits_first cs ds (slice_set cells c.address c.new) f.1)

pub fits_last : (cs ds : List Change) (cells : List Cell) → Fits (cs ++ ds) cells → Fits ds (applied cs cells)
fits_last [] ds cells f = f
fits_last (c ∷ cs) ds cells f = fits_last cs ds (slice_set cells c.address c.new) f.1

put_back : (cells : List Cell) (a : ℕ) (old new : Cell) → slice_get cells a ≡ Some old → slice_set (slice_set cells a new) a old ≡ cells
put_back cells a old new h =
    set-set cells a new old ∙ (ap (λ (v : Cell). slice_set cells a v) (sym (get_or_from_slice_get cells a old old h)) ∙ set-get_or cells a old)

-- changes that fit are taken back
pub undone_applied : (cs : List Change) (cells : List Cell) → Fits cs cells → undone cs (applied cs cells) ≡ cells
undone_applied [] cells f = refl
undone_applied (c ∷ cs) cells f =
    ap (λ (s : List Cell). slice_set s c.address c.old) (undone_applied cs (slice_set cells c.address c.new) f.1)
    ∙ put_back cells c.address c.old c.new f.0

pub delta_of : (cs : List Change) (before after : List Cell) → Fits cs before → applied cs before ≡ after → IsDelta cs before after
delta_of cs before after f e = record { makes = e; undoes = ap (undone cs) (sym e) ∙ undone_applied cs before f; fits = f }

-- the part of a list between two indices
pub joined : (cs : List Change) (i j : ℕ) → i ≤ j → take i cs ++ slice_range cs i j ≡ take j cs
joined cs i j h =
    ap (λ (l : List Change). l ++ slice_range cs i j) (sym (take-take i j cs h))
    ∙ (ap (λ (l : List Change). take i (take j cs) ++ l) (between_is cs i j) ∙ take-append-drop i (take j cs))

pub delta_between : (cs : List Change) (first : List Cell) (i j : ℕ) → Fits cs first → i ≤ j → IsDelta (slice_range cs i j) (cells_after first cs i) (cells_after first cs j)
delta_between cs first i j f h =
    let P : List Change → Type 0 = λ l. Fits l first in
    let whole : Fits (take j cs) first = fits_first (take j cs) (drop j cs) first (subst P (sym (take-append-drop j cs)) f) in
    let parts : Fits (take i cs ++ slice_range cs i j) first = subst P (sym (joined cs i j h)) whole in
    delta_of (slice_range cs i j) (cells_after first cs i) (cells_after first cs j)
    (fits_last (take i cs) (slice_range cs i j) first parts)
    (sym (applied-append (take i cs) (slice_range cs i j) first) ∙ ap (λ (l : List Change). applied l first) (joined cs i j h))

-- the two ways of `walk`
pub walk_on : (cs delta : List Change) (i j : ℕ) (old new : List Cell) → i ≤ j → delta ≡ slice_range cs i j → new ≡ applied delta old → Walks cs i j old new
walk_on cs delta i j old new h e p first f q =
    p ∙ (ap (λ (l : List Change). applied l old) e ∙ (ap (applied (slice_range cs i j)) q ∙ (delta_between cs first i j f h).makes))

pub walk_back : (cs delta : List Change) (i j : ℕ) (old new : List Cell) → j ≤ i → delta ≡ slice_range cs j i → new ≡ undone delta old → Walks cs i j old new
walk_back cs delta i j old new h e p first f q =
    p ∙ (ap (λ (l : List Change). undone l old) e ∙ (ap (undone (slice_range cs j i)) q ∙ (delta_between cs first j i f h).undoes))

-- ranges that end past the end, begin past it, or have no element
pub clipped : (cs : List Change) (i j : ℕ) → length cs ≤ j → slice_range cs i (length cs) ≡ slice_range cs i j
clipped cs i j h =
    take_all (length cs - i) (drop i cs) (omega (arith, length-drop i cs)) ∙ sym (take_all (j - i) (drop i cs) (omega (arith, length-drop i cs)))

pub past : (cs : List Change) (i j : ℕ) → length cs ≤ i → slice_range cs i j ≡ []
past cs i j h = ap (take (j - i)) (drop_all i cs h) ∙ take_all (j - i) [] (omega arith)

pub backwards : (cs : List Change) (i j : ℕ) → j ≤ i → slice_range cs i j ≡ []
backwards cs i j h = let none : j - i ≡ 0 = omega arith in ap (λ (n : ℕ). take n (drop i cs)) none
