-- The code of VALOFs' bodies and of routines' bodies, given a choice of the roots' code.
use Rattle.std.specs.Prelude.{ℕ, zero, suc, ◌+◌, ◌==◌, true, false, List, [], ◌∷◌, ◌++◌}
use Rattle.bc_text_items.specs.declared.item.Item.{Item}
use Rattle.bc_text_items.specs.declared.item.Item.TheVariants as items
use Rattle.bc_rules_defs.specs.declared.piece.Piece.{Piece}
use Rattle.bc_rules_defs.specs.declared.piece.Piece.TheVariants as pieces
use Rattle.bc_rules_defs.specs.declared.rule.Table.{Table}
use Rattle.bc_rules_defs.specs.Rules.{Tree, RootDerives, root_shape}
use Rattle.bc_rules_defs.specs.Code.{root_code, root_labels}
use Rattle.bc_core.specs.Tree.{Root, Value}
use Rattle.bc_core.specs.Commands.{Block, Body, Gives, Does, Valof}
use Rattle.bc_gen_defs.specs.Emit.{Code, Roots, Exits, zero_item, execute, emit_block}

-- The code of a VALOF's body, given the VALOF's number, its level, the label after it, and the first free label.
abbrev pub BodiesCode : Type 0 → Type 0
BodiesCode X = (number level label first : ℕ) → Code X

-- the label of a VALOF, which comes right after its body
abbrev pub label_ahead : List Piece → ℕ
label_ahead (pieces.Item (items.Label l) ∷ ps) = l
label_ahead _ = 0

-- A root's pieces with the bodies of its VALOFs filled in: the code, the next free label, and the list of these bodies. The
-- bodies take labels from f on, in the order of the code. `levels` has the level of each VALOF.
abbrev pub fill : {X : Type 0} → (Item → X) → (levels : ℕ → ℕ) → BodiesCode X → List Piece → (f : ℕ) → List X × ℕ × List (List X)
fill of levels bodies [] f = ([], f, [])
fill of levels bodies (pieces.Item i ∷ ps) f = let x = fill of levels bodies ps f in (of i ∷ x.0, x.1, x.2)
fill of levels bodies (pieces.Body n ∷ ps) f =
    let b = bodies n (levels n) (label_ahead ps) f in
    let x = fill of levels bodies ps b.1 in
    (b.0 ++ x.0, x.1, b.0 ∷ x.2)

-- A choice of code for every root: its pieces, given the target and the first label; the number of its labels; and the tree of
-- rule names from which it comes.
pub record Coding : Type 0 where
  pub pieces : Root → (target first : ℕ) → List Piece
  pub labels : Root → ℕ
  pub derivation : Root → Tree

-- a derivation for each root
abbrev pub Choice : Table → Type 0
Choice T = (r : Root) → RootDerives T r

-- the code of the chosen derivations
abbrev pub coding_of : {T : Table} → Choice T → Coding
coding_of choice = record { pieces = λ r t f. root_code (choice r) t f; labels = λ r. root_labels (choice r); derivation = λ r. root_shape (choice r) }

-- The code of a root with its VALOFs' bodies: first the root takes the labels of its pieces, then the bodies take theirs.
abbrev pub over : Coding → (levels : ℕ → ℕ) → BodiesCode Item → Roots Item
over coding levels bodies r target f = let x = fill (λ i. i) levels bodies (coding.pieces r target f) (f + coding.labels r) in (x.0, x.1)

-- the exits at the beginning of a body: RESULTIS jumps to l
abbrev pub body_exits : ℕ → Exits
body_exits l = record { broken = 0; looped = 0; cases = 0; result = l; labels = λ k. 0 }

-- a VALOF's body; if its end is reached without RESULTIS, the value is 0
abbrev pub emit_valof : {X : Type 0} → (Item → X) → Roots X → Block → BodiesCode X
emit_valof of roots b number s l f = let x = emit_block of roots b s (body_exits l) f in (x.0 ++ of zero_item ∷ [], x.1)

-- The bodies of the VALOFs whose numbers begin with `first`. A VALOF within a body has a greater number than that body's.
abbrev pub bodies_from : {X : Type 0} → (Item → X) → (BodiesCode X → Roots X) → ℕ → List Valof → BodiesCode X
bodies_from of roots_over first [] n s l f = ([], f)
bodies_from of roots_over first (v ∷ vs) n s l f =
    let inner = bodies_from of roots_over (first + 1) vs in
    elim (n == first) [ true ↦ emit_valof of (roots_over inner) v.body n s l f | false ↦ inner n s l f ]

-- the body of a routine, where s is the next free offset of the frame
abbrev pub emit_body : {X : Type 0} → (Item → X) → Roots X → Body → (s f : ℕ) → Code X
emit_body of roots (Gives e) s f = let v = roots (Value s e) 0 f in (v.0 ++ of (execute 4) ∷ [], v.1)
emit_body of roots (Does b) s f = let x = emit_block of roots b s (body_exits 0) f in (x.0 ++ of zero_item ∷ of (execute 4) ∷ [], x.1)

-- the level of the VALOF with the number n
abbrev pub level_of : List Valof → ℕ → ℕ
level_of [] n = 0
level_of (v ∷ vs) zero = v.level
level_of (v ∷ vs) (suc n) = level_of vs n
