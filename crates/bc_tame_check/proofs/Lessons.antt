-- What is learned from commands.
use Rattle.std.proofs.Common.{◌≡◌, ℕ, ◌<◌, Bool, true, false, inl, inr, List, [], ◌∷◌, ◌++◌, length, Option, Some, None, refl, sym, ap, ◌∙◌, arith}
use Rattle.std.specs.Prelude.{◌==◌, ◌&&◌, cond}
use Rattle.std.proofs.lemmas.Bool.{cond-true, cond-false}
use Rattle.std.proofs.lemmas.Bool.Decides.{eqb_tells}
use Rattle.bc_core.specs.Tree.{Exp, Place}
use Rattle.bc_core.specs.Commands as commands
use Rattle.bc_core.specs.Commands.{Variable, Command, Assign, Nested, block, Items, command}
use Rattle.bc_core.specs.View.{declarations, items}
use Rattle.bc_core.specs.declared.command.ListItem.{ListItem}
use Rattle.bc_core.specs.declared.command.Declaration.{Declaration}
use Rattle.bc_tame.specs.Tame as tame
use Rattle.bc_tame.specs.Tame.{Held, StringAt, AnyWord, Knows, Env, is_cell, is_text, note_of_place, is_only, offsets_at, and_where, are_assignments, learned_all, learned, bounds, has_no_entry}
use Rattle.bc_tame_check.specs.declared.held.Bounds.{Bounds}
use Rattle.bc_tame_check.specs.declared.held.Held as helds
use Rattle.bc_tame_check.specs.declared.held.Entry.{Entry}
use Rattle.bc_tame_check.specs.declared.held.Entry.TheVariants as entries
use Rattle.bc_tame_check.specs.Views.{bounds_in, held_of, set_over, listed, is_assign, is_nested}
use Rattle.bc_tame_check.proofs.Knowledge.{set_all_more}

none_where : (test : ℕ → Bool) (h : Held) (R : Knows) → ((j : ℕ) → test j ≡ false) → R ≡ and_where test h R
none_where test h R none = λ i. λ j. each j i where
  right_false : (a b : Bool) → b ≡ false → (a && b) ≡ false
  right_false true b e = e
  right_false false b e = refl

  each : (j : ℕ) → R j ≡ cond (is_cell (R j) && test j) h (R j)
  each j = sym (cond-false (is_cell (R j) && test j) h (R j) (right_false (is_cell (R j)) (test j) (none j)))

-- assignments and blocks
pub assigning : (c : Command) (v a : Exp) (is : Items) → c ≡ Assign v a → are_assignments (command c is) ≡ are_assignments is
assigning c v a is e = ap (λ x. are_assignments (command x is)) e

pub not_assigning : (c : Command) (is : Items) → is_assign c ≡ false → are_assignments (command c is) ≡ false
not_assigning (Assign v a) is e = absurd (cc)
not_assigning _ is e = refl

-- what a cell holds after an assignment
pub string_held : (text : ℕ → Option (List ℕ)) (m : ℕ) (bytes : List ℕ) → text m ≡ Some bytes → StringAt m ≡ tame.held_after text (Place m)
string_held text m bytes e = sym (cond-true (is_text (note_of_place (text m))) (StringAt m) AnyWord (ap (λ o. is_text (note_of_place o)) e))

pub word_held : (text : ℕ → Option (List ℕ)) (m : ℕ) → text m ≡ None → AnyWord ≡ tame.held_after text (Place m)
word_held text m e = sym (cond-false (is_text (note_of_place (text m))) (StringAt m) AnyWord (ap (λ o. is_text (note_of_place o)) e))

-- the only offset within bounds
pub only_offset : (b : Bounds) (h : Held) (R : Knows) → b.least ≡ b.greatest → and_where (is_only (Some (bounds b.least b.least))) h R ≡ and_where (is_only (Some (bounds_in b))) h R
only_offset b h R e = ap (λ n. and_where (is_only (Some (bounds b.least n))) h R) e

pub no_offset : (h : Held) (R : Knows) → R ≡ and_where (is_only None) h R
no_offset h R = none_where (is_only None) h R (λ j. refl)

pub many_offsets : (b : Bounds) (h : Held) (R : Knows) → ((b.least ≡ b.greatest) → ⊥) → R ≡ and_where (is_only (Some (bounds_in b))) h R
many_offsets b h R ne = none_where (is_only (Some (bounds_in b))) h R none where
  by : (j : ℕ) (s t : Bool) → (b.least == j) ≡ s → (b.greatest == j) ≡ t → (s && t) ≡ false
  by j false t e f = refl
  by j true false e f = refl
  by j true true e f = absurd (ne (same b.least j e ∙ sym (same b.greatest j f))) where
    same : (m n : ℕ) → (m == n) ≡ true → m ≡ n
    same m n e = elim (eqb_tells m n) [ inl y ↦ y.1 | inr y ↦ absurd (let z : ⊥ = cc (y.0) in z) ]

  none : (j : ℕ) → is_only (Some (bounds_in b)) j ≡ false
  none j = by j (b.least == j) (b.greatest == j) refl refl

pub one_learned : (R : Knows) (o : Option tame.Bounds) (a : Exp) (k : ℕ) (h : helds.Held) (g : Held) → ((x : Held) (S : Knows) → and_where (is_only (Some (bounds k k))) x S ≡ and_where (is_only o) x S)
    → o ≡ offsets_at R a → held_of h ≡ g → set_over R (listed (Some (entries.Only k h))) ≡ and_where (is_only (offsets_at R a)) g R
one_learned R o a k h g only e f = only (held_of h) R ∙ (λ i. and_where (is_only (e i)) (f i) R)

pub none_learned : (R : Knows) (o : Option tame.Bounds) (a : Exp) (g : Held) → ((x : Held) (S : Knows) → S ≡ and_where (is_only o) x S) → o ≡ offsets_at R a → R ≡ and_where (is_only (offsets_at R a)) g R
none_learned R o a g none e = none g R ∙ ap (λ x. and_where (is_only x) g R) e

pub item_learned : (E : Env) (R : Knows) (o : Option Entry) (c : Command) (v a : Exp) (is : Items) → c ≡ Assign v a → set_over R (listed o) ≡ and_where (is_only (offsets_at R a)) (tame.held_after E.text v) R
    → learned_all E (set_over R (listed o)) is ≡ learned_all E R (command c is)
item_learned E R o c v a is e f = ap (λ S. learned_all E S is) f ∙ ap (λ x. learned_all E R (command x is)) (sym e)

-- one more assignment
pub one_more : (E : Env) (P R : Knows) (old more new reads : List Entry) (o : Option Entry) (is js : Items) (whole : Knows) → R ≡ set_over P old → reads ≡ old ++ more → new ≡ more ++ listed o
    → learned_all E (set_over (set_over P reads) (listed o)) is ≡ learned_all E (set_over P reads) js → learned_all E (set_over R more) js ≡ whole
    → learned_all E (set_over R new) is ≡ whole
one_more E P R old more new reads o is js whole is_over split added step before =
    let here : set_over P reads ≡ set_over R more = ap (set_over P) split ∙ (set_all_more P old more ∙ ap (λ S. set_over S more) (sym is_over)) in
    ap (λ xs. learned_all E (set_over R xs) is) added
    ∙ (ap (λ S. learned_all E S is) (set_all_more R more (listed o) ∙ ap (λ S. set_over S (listed o)) (sym here))
    ∙ (step ∙ (ap (λ S. learned_all E S js) here ∙ before)))

pub learned_end : (E : Env) (S : Knows) (left : List ListItem) (whole : Knows) → length left < 1 → learned_all E S (items left) ≡ whole → S ≡ whole
learned_end E S [] whole few e = e
learned_end E S (d ∷ left) whole few e = absurd (omega arith)

-- what is learned from a block
pub nested_all : (E : Env) (R : Knows) (ds : List Declaration) (is : Items) (more : List Entry) → length ds ≡ 0 → are_assignments is ≡ true → set_over R more ≡ learned_all E R is
    → set_over R more ≡ learned E R (Nested (block (declarations ds) is))
nested_all E R [] is more e f g = g ∙ sym (cond-true (are_assignments is) (learned_all E R is) R f)
nested_all E R (d ∷ ds) is more e f g = absurd (omega arith)

pub nested_other : (E : Env) (R : Knows) (ds : List Declaration) (is : Items) → length ds ≡ 0 → are_assignments is ≡ false → R ≡ learned E R (Nested (block (declarations ds) is))
nested_other E R [] is e f = sym (cond-false (are_assignments is) (learned_all E R is) R f)
nested_other E R (d ∷ ds) is e f = absurd (omega arith)

pub nested_declares : (E : Env) (R : Knows) (ds : List Declaration) (is : Items) → ((length ds ≡ 0) → ⊥) → R ≡ learned E R (Nested (block (declarations ds) is))
nested_declares E R [] is e = absurd (e refl)
nested_declares E R (d ∷ ds) is e = refl

-- what is learned from a command
pub assignment_learned : (E : Env) (R : Knows) (c : Command) (v a : Exp) (more : List Entry) → c ≡ Assign v a → set_over R more ≡ and_where (is_only (offsets_at R a)) (tame.held_after E.text v) R → set_over R more ≡ learned E R c
assignment_learned E R c v a more e f = f ∙ ap (learned E R) (sym e)

pub block_learned : (E : Env) (R : Knows) (c : Command) (b : commands.Block) (more : List Entry) → c ≡ Nested b → set_over R more ≡ learned E R (Nested b) → set_over R more ≡ learned E R c
block_learned E R c b more e f = f ∙ ap (learned E R) (sym e)

pub nothing_learned : (E : Env) (R : Knows) (c : Command) → is_assign c ≡ false → is_nested c ≡ false → R ≡ learned E R c
nothing_learned E R (Assign v a) e f = absurd (cc)
nothing_learned E R (Nested b) e f = absurd (cc)
nothing_learned E R _ e f = refl

-- what is learned before the rest of a list
pub learned_nothing : (t : Bool) (R L : Knows) (more : List Entry) → length more ≡ 0 → set_over R more ≡ L → set_over R more ≡ cond t L R
learned_nothing true R L more e f = f
learned_nothing false R L [] e f = refl
learned_nothing false R L (d ∷ more) e f = absurd (omega arith)

pub learned_open : (t r : Bool) (R L : Knows) (more : List Entry) → r ≡ t → r ≡ true → set_over R more ≡ L → set_over R more ≡ cond t L R
learned_open t r R L more is sure f = f ∙ sym (cond-true t L R (sym is ∙ sure))

pub learned_closed : (t r : Bool) (R L : Knows) → r ≡ t → r ≡ false → R ≡ cond t L R
learned_closed t r R L is never = sym (cond-false t L R (sym is ∙ never))
