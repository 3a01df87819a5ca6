-- The body of a VALOF, found by its number.
use Rattle.std.proofs.Math.ListN.{get_or-map}
use Rattle.std.proofs.Common.{ℕ, zero, suc, ◌+◌, ◌<◌, ◌≤◌, ◌≡◌, ◌==◌, Bool, true, false, List, [], ◌∷◌, drop, length, get_or, eq-eqb, length-drop, append_assoc, subst, Result, Ok, Err, ◌-◌, refl, ap, sym, ◌∙◌, arith}
use Rattle.std.proofs.lemmas.Bool.{eqb-true}
use Rattle.std.proofs.lemmas.List.{length-map, get_or-drop, drop-drop}
use Rattle.bc_core.specs.declared.command.Valof as code
use Rattle.bc_core.specs.View.{valof_of, block_of}
use Rattle.bc_core.specs.Commands.{Valof}
use Rattle.bc_gen_defs.specs.Emit.{Code, Roots, Exits, zero_item, emit_block}
use Rattle.bc_gen_defs.specs.Bodies.{BodiesCode, body_exits, emit_valof, bodies_from, level_of}
use Rattle.bc_gen_defs.specs.Entries.{Marked, Plain, marked_over}
use Rattle.bc_gen.specs.declared.gen_error.GenError.{GenError}
use Rattle.bc_gen.specs.declared.context.Around.{Around}
use Rattle.bc_gen.specs.declared.writer.Writer.{Writer}
use Rattle.bc_gen.specs.Chosen.{coding}
use Rattle.bc_gen.specs.Room.{room_in, BlockHasRoom, ValofHasRoom}
use Rattle.bc_gen.specs.Surroundings.{roots_of, bodies_of, valofs_in}
use Rattle.bc_gen.specs.Writing.{Writes, Puts}
use Rattle.bc_gen.proofs.Rises.{out_of_memory}
use Rattle.bc_gen.proofs.Forms.{there, Wrote}

abbrev choice : Bool → Code Marked → Code Marked → Code Marked
choice t x y = elim t [ true ↦ x | false ↦ y ]

at_test : (t : Bool) (x y z : Code Marked) → (t ≡ true → x ≡ z) → (t ≡ false → y ≡ z) → choice t x y ≡ z
at_test true x y z p q = p refl
at_test false x y z p q = q refl

-- there is no body with a number below the first, or after the last
pub none_before : (over : BodiesCode Marked → Roots Marked) (first : ℕ) (vs : List Valof) (n s l f : ℕ) → n < first → bodies_from Plain over first vs n s l f ≡ ([], f)
none_before over first [] n s l f h = refl
none_before over first (v ∷ vs) n s l f h =
    let k : n < first + 1 = omega (arith, h) in
    at_test (n == first) _ _ _ (λ t. absurd (omega (arith, eqb-true n first t, h))) (λ t. none_before over (first + 1) vs n s l f k)

pub none_after : (over : BodiesCode Marked → Roots Marked) (first : ℕ) (vs : List Valof) (n s l f : ℕ) → first + length vs ≤ n → bodies_from Plain over first vs n s l f ≡ ([], f)
none_after over first [] n s l f h = refl
none_after over first (v ∷ vs) n s l f h =
    let k : first + 1 + length vs ≤ n = omega (arith, h) in
    at_test (n == first) _ _ _ (λ t. absurd (omega (arith, eqb-true n first t, h))) (λ t. none_after over (first + 1) vs n s l f k)

pub body_at : (over : BodiesCode Marked → Roots Marked) (first : ℕ) (vs : List Valof) (k : ℕ) (v : Valof) (n s l f : ℕ) → n ≡ first + k → k < length vs
    → bodies_from Plain over first vs n s l f ≡ emit_valof Plain (over (bodies_from Plain over (n + 1) (drop (suc k) vs))) (get_or vs k v).body n s l f
body_at over first [] k v n s l f e h = absurd (omega (arith, h))
body_at over first (u ∷ vs) zero v n s l f e h =
    let m : n ≡ first = omega (arith, e) in
    at_test (n == first) _ _ _
    (λ t. ap (λ (j : ℕ). emit_valof Plain (over (bodies_from Plain over (j + 1) vs)) u.body n s l f) (sym m))
    (λ t. absurd (no t m))
  where
    no : (n == first) ≡ false → n ≡ first → ⊥
    no t m = cc (eq-eqb n first m)
body_at over first (u ∷ vs) (suc k) v n s l f e h =
    let g : k < length vs = omega (arith, h) in
    let j : n ≡ first + 1 + k = omega (arith, e) in
    at_test (n == first) _ _ _ (λ t. absurd (omega (arith, eqb-true n first t, e))) (λ t. body_at over (first + 1) vs k v n s l f j g)

pub level_at : (vs : List Valof) (n : ℕ) (v : Valof) → n < length vs → level_of vs n ≡ (get_or vs n v).level
level_at [] n v h = absurd (omega (arith, h))
level_at (u ∷ vs) zero v h = refl
level_at (u ∷ vs) (suc n) v h = let g : n < length vs = omega (arith, h) in level_at vs n v g

pub outside : (vs : List code.Valof) (least n : ℕ) → least ≤ n → length vs ≤ n → least + length (drop least (valofs_in vs)) ≤ n
outside vs least n h g = let e = length-drop least (valofs_in vs) in let m = length-map vs valof_of in omega (arith, h, g, e, m)

-- a VALOF and those after it, among those with at least this number
found_at : (cvs : List code.Valof) (least n : ℕ) (v : code.Valof) → least ≤ n → v ≡ get_or cvs n v → get_or (drop least (valofs_in cvs)) (n - least) (valof_of v) ≡ valof_of v
found_at cvs least n v h e =
    let vs = valofs_in cvs in
    let d = valof_of v in
    let nk : least + (n - least) ≡ n = omega (arith, h) in
    get_or-drop least vs (n - least) d ∙ ap (λ (j : ℕ). get_or vs j d) nk ∙ get_or-map valof_of cvs n v ∙ ap valof_of (sym e)

rest_at : (vs : List Valof) (least n : ℕ) → least ≤ n → drop (suc (n - least)) (drop least vs) ≡ drop (n + 1) vs
rest_at vs least n h =
    let nk : least + suc (n - least) ≡ n + 1 = omega (arith, h) in
    drop-drop (suc (n - least)) least vs ∙ ap (λ (j : ℕ). drop j vs) nk

inside : (cvs : List code.Valof) (least n : ℕ) → least ≤ n → n < length cvs → n - least < length (drop least (valofs_in cvs))
inside cvs least n h g = omega (arith, length-drop least (valofs_in cvs), length-map cvs valof_of, h, g)

-- the code of the body with this number
pub body_is : (cvs : List code.Valof) (least n : ℕ) (v : code.Valof) (l f : ℕ) → least ≤ n → n < length cvs → v ≡ get_or cvs n v
    → bodies_of (valofs_in cvs) least n (level_of (valofs_in cvs) n) l f ≡ emit_valof Plain (roots_of (valofs_in cvs) (n + 1)) (block_of v.body) n v.level l f
body_is cvs least n v l f h g e =
    let vs = valofs_in cvs in
    let over = marked_over coding (level_of vs) in
    let k = n - least in
    let d = valof_of v in
    let nk : n ≡ least + k = omega (arith, h) in
    let m = length-map cvs valof_of in
    let among : n < length vs = omega (arith, m, g) in
    let level : level_of vs n ≡ v.level = level_at vs n d among ∙ ap (λ (u : Valof). u.level) (get_or-map valof_of cvs n v ∙ ap valof_of (sym e)) in
    ap (λ (s : ℕ). bodies_of vs least n s l f) level
    ∙ body_at over least (drop least vs) k d n v.level l f nk (inside cvs least n h g)
    ∙ ap (λ (u : Valof). emit_valof Plain (over (bodies_from Plain over (n + 1) (drop (suc k) (drop least vs)))) u.body n v.level l f) (found_at cvs least n v h e)
    ∙ ap (λ (us : List Valof). emit_valof Plain (over (bodies_from Plain over (n + 1) us)) d.body n v.level l f) (rest_at vs least n h)

pub valof_writes : {X : Type 0} (r : Result X GenError) (cvs : List code.Valof) (least n : ℕ) (v : code.Valof) (roots1 : Roots Marked) (E1 : Exits) (l : ℕ) (w0 w1 w2 : Writer)
    → least ≤ n → n < length cvs → v ≡ get_or cvs n v → roots1 ≡ roots_of (valofs_in cvs) (n + 1) → E1 ≡ body_exits l
    → Wrote w0 w1 (emit_block Plain roots1 (block_of v.body) v.level E1 w0.next) → Puts r w1 w2 (Plain zero_item ∷ [])
    → Writes r w0 w2 (bodies_of (valofs_in cvs) least n (level_of (valofs_in cvs) n) l w0.next)
valof_writes (Err x) cvs least n v roots1 E1 l w0 w1 w2 h g e er ee h1 h2 = out_of_memory x _ h2
valof_writes (Ok x) cvs least n v roots1 E1 l w0 w1 w2 h g e er ee h1 h2 =
    let b = body_is cvs least n v l w0.next h g e in
    let P : Code Marked → Type 0 = λ c. Wrote w0 w2 c in
    subst P (sym b) (rw (h2.0, h2.1, h1.0, h1.1, er, ee) (append_assoc (there w0) (emit_block Plain (roots_of (valofs_in cvs) (n + 1)) (block_of v.body) v.level (body_exits l) w0.next).0 (Plain zero_item ∷ []), refl))

-- the body with this number has room
which : (t : Bool) (X Y Z : Type 0) → (t ≡ true → X → Z) → (t ≡ false → Y → Z) → (elim t as (λ z. Type 0) [ true ↦ X | false ↦ Y ]) → Z
which true X Y Z f g h = f refl h
which false X Y Z f g h = g refl h

room_at : (first : ℕ) (vs : List Valof) (k : ℕ) (v : Valof) (n : ℕ) → n ≡ first + k → k < length vs → ValofHasRoom first vs n
    → BlockHasRoom (ValofHasRoom (n + 1) (drop (suc k) vs)) (get_or vs k v).body (get_or vs k v).level
room_at first [] k v n e h r = absurd (omega (arith, h))
room_at first (u ∷ vs) zero v n e h r =
    let m : n ≡ first = omega (arith, e) in
    which (n == first) _ _ _ (λ t b. subst (λ (j : ℕ). BlockHasRoom (ValofHasRoom (j + 1) vs) u.body u.level) (sym m) b) (λ t b. absurd (no t m)) r
  where
    no : (n == first) ≡ false → n ≡ first → ⊥
    no t m = cc (eq-eqb n first m)
room_at first (u ∷ vs) (suc k) v n e h r =
    let g : k < length vs = omega (arith, h) in
    let j : n ≡ first + 1 + k = omega (arith, e) in
    which (n == first) _ _ _ (λ t b. absurd (omega (arith, eqb-true n first t, e))) (λ t b. room_at (first + 1) vs k v n j g b) r

pub valof_has_room : (a a1 : Around) (n : ℕ) (v : code.Valof) → a.least ≤ n → n < length a.valofs.now → v ≡ get_or a.valofs.now n v
    → a1.valofs.now ≡ a.valofs.now → a1.least ≡ n + 1 → room_in a n → BlockHasRoom (room_in a1) (block_of v.body) v.level
valof_has_room a a1 n v h g e ev el r =
    let cvs = a.valofs.now in
    let vs = valofs_in cvs in
    let k = n - a.least in
    let nk : n ≡ a.least + k = omega (arith, h) in
    let here = room_at a.least (drop a.least vs) k (valof_of v) n nk (inside cvs a.least n h g) r in
    rw (el, ev) (
    subst (λ (us : List Valof). BlockHasRoom (ValofHasRoom (n + 1) us) (block_of v.body) v.level) (rest_at vs a.least n h)
    (subst (λ (u : Valof). BlockHasRoom (ValofHasRoom (n + 1) (drop (suc k) (drop a.least vs))) u.body u.level) (found_at cvs a.least n v h e) here)
    )
