-- The body of each VALOF is within the frame at its own level, and at no other level.
use Rattle.std.proofs.Common.{ℕ, ◌+◌, ◌≤◌, ◌==◌, ◌≡◌, cond, Bool, true, false, List, [], ◌∷◌, refl, sym, subst, arith}
use Rattle.std.proofs.lemmas.Bool.{eqb-true}
use Rattle.bc_core.specs.Tree.{Root}
use Rattle.bc_core.specs.Commands.{Valof}
use Rattle.bc_core.specs.Layout.{Bodies, cells_of_block}
use Rattle.bc_rules_defs.specs.declared.piece.Piece.{Piece}
use Rattle.bc_rules_defs.specs.declared.piece.Piece.TheVariants as pieces
use Rattle.bc_rules_defs.specs.declared.rule.Table.{Table}
use Rattle.bc_rules_defs.specs.Rules.{RootDerives}
use Rattle.bc_rules_defs.specs.Code.{root_code}
use Rattle.bc_gen_defs.specs.Emit.{Code, emit_block}
use Rattle.bc_gen_defs.specs.Bodies.{BodiesCode, coding_of, fill, label_ahead, body_exits, emit_valof, bodies_from}
use Rattle.bc_gen_defs.specs.Entries.{Mark, Marked, Plain, marked_over}
use Rattle.bc_build.specs.RoomLaws.{HasLevels}
use Rattle.bc_build.proofs.Marks.{AllMarks, marks_both}
use Rattle.bc_build.proofs.Frames.{most, RootFits, root_levels}
use Rattle.bc_build.proofs.Named.{AllNamed, root_names}
use Rattle.bc_build.proofs.Framed.{block_framed}

-- a VALOF at another level than its own takes more cells than a frame has
abbrev pub strict : (ℕ → ℕ) → Bodies → Bodies
strict levels V n s = cond (levels n == s) (V n s) 32769

abbrev pub table : (ℕ → ℕ) → ℕ → List Valof → Bodies
table levels first [] n s = 0
table levels first (v ∷ vs) n s =
    let inner = table levels (first + 1) vs in
    elim (n == first) [ true ↦ cells_of_block (strict levels inner) v.body s | false ↦ inner n s ]

-- the VALOF with this number fits
abbrev pub IsPlaced : (ℕ → ℕ) → Bodies → ℕ → Type 0
IsPlaced levels V n = (levels n ≤ most) × (V n (levels n) ≤ most)

pub placed : (levels : ℕ → ℕ) (V : Bodies) (n s : ℕ) → s ≤ most → strict levels V n s ≤ most → IsPlaced levels V n
placed levels V n s h c = of_test (levels n == s) refl c where
  of_test : (t : Bool) → (levels n == s) ≡ t → cond t (V n s) 32769 ≤ most → IsPlaced levels V n
  of_test true e k = subst (λ l. (l ≤ most) × (V n l ≤ most)) (sym (eqb-true (levels n) s e)) (h, k)
  of_test false e k = absurd (let l : 32769 ≤ 32768 = k in omega arith)

abbrev pub Leveled : Mark → Type 0
Leveled m = HasLevels m.root

abbrev AllPlaced : (ℕ → ℕ) → Bodies → BodiesCode Marked → Type 0
AllPlaced levels V bodies = (n : ℕ) → IsPlaced levels V n → (l f : ℕ) → AllMarks Leveled (bodies n (levels n) l f).0

fill_placed : (levels : ℕ → ℕ) (V : Bodies) (bodies : BodiesCode Marked) → AllPlaced levels V bodies → (ps : List Piece) (f : ℕ) → AllNamed (IsPlaced levels V) ps → AllMarks Leveled (fill Plain levels bodies ps f).0
fill_placed levels V bodies b [] f h = tt
fill_placed levels V bodies b (pieces.Item i ∷ ps) f h = fill_placed levels V bodies b ps f h
fill_placed levels V bodies b (pieces.Body n ∷ ps) f h =
    let x = bodies n (levels n) (label_ahead ps) f in
    let y = fill Plain levels bodies ps x.1 in
    marks_both Leveled x.0 y.0 (b n h.0 (label_ahead ps) f) (fill_placed levels V bodies b ps x.1 h.1)

module _ {T : Table} (choice : (r : Root) → RootDerives T r) (levels : ℕ → ℕ) where
  pub roots_placed : (V : Bodies) (bodies : BodiesCode Marked) → AllPlaced levels V bodies → (r : Root) (t f : ℕ) → RootFits (strict levels V) r → AllMarks Leveled (marked_over (coding_of choice) levels bodies r t f).0
  roots_placed V bodies b r t f h =
      let named = root_names (strict levels V) (IsPlaced levels V) (placed levels V) (choice r) t f h in
      (root_levels (strict levels V) r h, fill_placed levels V bodies b (root_code (choice r) t f) (f + (coding_of choice).labels r) named.all)

  either_placed : (t : Bool) (x y : Code Marked) (p q : ℕ) → (p ≤ most → AllMarks Leveled x.0) → (q ≤ most → AllMarks Leveled y.0) → (let c : ℕ = elim t [ true ↦ p | false ↦ q ] in c ≤ most)
      → AllMarks Leveled (let z : Code Marked = elim t [ true ↦ x | false ↦ y ] in z.0)
  either_placed true x y p q h k c = h c
  either_placed false x y p q h k c = k c

  pub bodies_placed : (first : ℕ) (vs : List Valof) → AllPlaced levels (table levels first vs) (bodies_from Plain (marked_over (coding_of choice) levels) first vs)
  bodies_placed first [] n h l f = tt
  bodies_placed first (v ∷ vs) n h l f =
      let roots = marked_over (coding_of choice) levels in
      let inner = bodies_from Plain roots (first + 1) vs in
      let V = table levels (first + 1) vs in
      let b = bodies_placed (first + 1) vs in
      either_placed (n == first) (emit_valof Plain (roots inner) v.body n (levels n) l f) (inner n (levels n) l f) (cells_of_block (strict levels V) v.body (levels n)) (V n (levels n))
      (λ c. marks_both Leveled (emit_block Plain (roots inner) v.body (levels n) (body_exits l) f).0 _ (block_framed (strict levels V) Leveled (roots inner) (roots_placed V inner b) v.body (levels n) (body_exits l) f h.0 c) tt)
      (λ c. b n (h.0, c) l f) h.1
