-- Marked code without its marks is plain code.
use Rattle.std.proofs.Common.{ℕ, ◌+◌, ◌==◌, ◌≡◌, Bool, true, false, not, List, [], ◌∷◌, ◌++◌, length, refl, ap, sym, ◌∙◌}
use Rattle.bc_text_items.specs.declared.item.Item.{Item}
use Rattle.bc_text_items.specs.declared.item.Item.TheVariants.{Data, DataLabel}
use Rattle.bc_rules_defs.specs.declared.piece.Piece.{Piece}
use Rattle.bc_rules_defs.specs.declared.piece.Piece.TheVariants as pieces
use Rattle.bc_core.specs.Tree.{Frame, Value, Test, Assign}
use Rattle.bc_core.specs.Commands.{Variable, Initial, Vector, Command, Block, block, Items, no_item, command, case, default, label, Body, Gives, Does, Place, Valof, Core}
use Rattle.bc_core.specs.Commands as commands
use Rattle.bc_core.specs.Level.{cells_of, cells_of_all, cells_declared, level_in_for, level_after_parameters}
use Rattle.bc_gen_defs.specs.Emit.{Code, Roots, Exits, labelled, labels_in, entries_in, table_of, emit_variable, emit_variables, emit_declarations, end_of_for, emit, emit_block, emit_items}
use Rattle.bc_gen_defs.specs.Bodies.{BodiesCode, Coding, fill, label_ahead, over, body_exits, emit_valof, bodies_from, emit_body, level_of}
use Rattle.bc_gen_defs.specs.Section.{emit_routines, routines_over, routines_code}
use Rattle.bc_gen_defs.specs.Entries.{Marked, Plain, Begins, plain_items, marked_over}

pub plain_append : (xs ys : List Marked) → plain_items (xs ++ ys) ≡ plain_items xs ++ plain_items ys
plain_append [] ys = refl
plain_append (Plain i ∷ xs) ys = ap (λ (is : List Item). i ∷ is) (plain_append xs ys)
plain_append (Begins m ∷ xs) ys = plain_append xs ys

abbrev plain : Item → Item
plain i = i

abbrev pub strip : Code Marked → Code Item
strip x = (plain_items x.0, x.1)

abbrev pub strip_roots : Roots Marked → Roots Item
strip_roots roots r t f = strip (roots r t f)

table_plain : (is : Items) (first : ℕ) → plain_items (table_of Plain is first) ≡ table_of plain is first
table_plain no_item first = refl
table_plain (command c is) first = table_plain is first
table_plain (case k is) first = ap (λ (t : List Item). Data k ∷ DataLabel first ∷ t) (table_plain is (first + 1))
table_plain (default is) first = table_plain is (first + 1)
table_plain (label k is) first = table_plain is first

variable_plain : (roots : Roots Marked) (v : Variable) (k s f : ℕ) → strip (emit_variable roots v k s f) ≡ emit_variable (strip_roots roots) v k s f
variable_plain roots (Initial e) k s f = refl
variable_plain roots (Vector n) k s f = refl

variables_plain : (roots : Roots Marked) (vs : List Variable) (k s f : ℕ) → strip (emit_variables roots vs k s f) ≡ emit_variables (strip_roots roots) vs k s f
variables_plain roots [] k s f = refl
variables_plain roots (v ∷ vs) k s f =
    let x = emit_variable roots v k s f in
    rw (sym (variable_plain roots v k s f), sym (variables_plain roots vs (k + cells_of v) s x.1)) (simp plain_append)

declarations_plain : (roots : Roots Marked) (ds : List (List Variable)) (s f : ℕ) → strip (emit_declarations roots ds s f) ≡ emit_declarations (strip_roots roots) ds s f
declarations_plain roots [] s f = refl
declarations_plain roots (vs ∷ ds) s f =
    let n = cells_of_all vs in
    let x = emit_variables roots vs s (s + n) f in
    rw (sym (variables_plain roots vs s (s + n) f), sym (declarations_plain roots ds (s + n) x.1)) (simp plain_append)

mutual
  command_plain : (roots : Roots Marked) (c : Command) (s : ℕ) (E : Exits) (f : ℕ) → strip (emit Plain roots c s E f) ≡ emit plain (strip_roots roots) c s E f
  command_plain roots (commands.Call e) s E f = refl
  command_plain roots (commands.Assign v a) s E f = refl
  command_plain roots (commands.If sense e b) s E f =
      let t = roots (Test s (not sense) e) f (f + 1) in
      rw (sym (block_plain roots b s E t.1)) (simp plain_append)
  command_plain roots (commands.Test e b c) s E f =
      let t = roots (Test s false e) f (f + 2) in
      let x = emit_block Plain roots b s E t.1 in
      rw (sym (block_plain roots b s E t.1), sym (block_plain roots c s E x.1)) (simp plain_append)
  command_plain roots (commands.While sense e b) s E f =
      let t = roots (Test s (not sense) e) (f + 1) (f + 2) in
      rw (sym (block_plain roots b s (record E { broken = f + 1; looped = f }) t.1)) (simp plain_append)
  command_plain roots (commands.Repeat b) s E f =
      rw (sym (block_plain roots b s (record E { broken = f + 1; looped = f }) (f + 2))) (simp plain_append)
  command_plain roots (commands.RepeatWhile b sense e) s E f =
      rw (sym (block_plain roots b s (record E { broken = f + 1; looped = f + 2 }) (f + 3))) (simp plain_append)
  command_plain roots (commands.For start limit by b) s E f =
      let s1 = level_in_for s in
      let i = roots (Assign s1 start (Frame s)) 0 (f + 3) in
      let n = roots (Assign s1 limit (Frame (s + 1))) 0 i.1 in
      let t = roots (Test s1 true (end_of_for by s)) (f + 1) n.1 in
      rw (sym (block_plain roots b s1 (record E { broken = f + 1; looped = f + 2 }) t.1)) (simp plain_append)
  command_plain roots (commands.SwitchOn e is) s E f =
      let v = roots (Value s e) 0 (f + 1 + entries_in is) in
      let E1 = record E { cases = f; labels = labelled is v.1 E.labels } in
      rw (sym (items_plain roots is s E1 (f + 1) (v.1 + labels_in is)), sym (table_plain is (f + 1))) (simp plain_append)
  command_plain roots commands.Break s E f = refl
  command_plain roots commands.Loop s E f = refl
  command_plain roots commands.EndCase s E f = refl
  command_plain roots commands.Return s E f = refl
  command_plain roots (commands.ResultIs e) s E f = simp plain_append
  command_plain roots commands.Finish s E f = refl
  command_plain roots (commands.Goto l) s E f = refl
  command_plain roots (commands.Nested b) s E f = block_plain roots b s E f

  block_plain : (roots : Roots Marked) (b : Block) (s : ℕ) (E : Exits) (f : ℕ) → strip (emit_block Plain roots b s E f) ≡ emit_block plain (strip_roots roots) b s E f
  block_plain roots (block ds is) s E f =
      let d = emit_declarations roots ds s (f + labels_in is) in
      rw (sym (declarations_plain roots ds s (f + labels_in is)), sym (items_plain roots is (s + cells_declared ds) (record E { labels = labelled is f E.labels }) 0 d.1)) (simp plain_append)

  items_plain : (roots : Roots Marked) (is : Items) (s : ℕ) (E : Exits) (first f : ℕ) → strip (emit_items Plain roots is s E first f) ≡ emit_items plain (strip_roots roots) is s E first f
  items_plain roots no_item s E first f = refl
  items_plain roots (command c is) s E first f =
      let x = emit Plain roots c s E f in
      rw (sym (command_plain roots c s E f), sym (items_plain roots is s E first x.1)) (simp plain_append)
  items_plain roots (case k is) s E first f = rw (sym (items_plain roots is s E (first + 1) f)) refl
  items_plain roots (default is) s E first f = rw (sym (items_plain roots is s E (first + 1) f)) refl
  items_plain roots (label l is) s E first f = rw (sym (items_plain roots is s E first f)) refl

abbrev strip_bodies : BodiesCode Marked → BodiesCode Item
strip_bodies bodies n s l f = strip (bodies n s l f)

fill_plain : (levels : ℕ → ℕ) (bodies : BodiesCode Marked) (ps : List Piece) (f : ℕ)
    → (plain_items (fill Plain levels bodies ps f).0 ≡ (fill plain levels (strip_bodies bodies) ps f).0) × ((fill Plain levels bodies ps f).1 ≡ (fill plain levels (strip_bodies bodies) ps f).1)
fill_plain levels bodies [] f = (refl, refl)
fill_plain levels bodies (pieces.Item i ∷ ps) f = let h = fill_plain levels bodies ps f in (ap (λ (is : List Item). i ∷ is) h.0, h.1)
fill_plain levels bodies (pieces.Body n ∷ ps) f =
    let b = bodies n (levels n) (label_ahead ps) f in
    let h = fill_plain levels bodies ps b.1 in
    (plain_append b.0 (fill Plain levels bodies ps b.1).0 ∙ ap (λ (is : List Item). plain_items b.0 ++ is) h.0, h.1)

roots_plain : (coding : Coding) (levels : ℕ → ℕ) (bodies : BodiesCode Marked) → strip_roots (marked_over coding levels bodies) ≡ over coding levels (strip_bodies bodies)
roots_plain coding levels bodies = λ i. λ r. λ t. λ f. let h = fill_plain levels bodies (coding.pieces r t f) (f + coding.labels r) in (h.0 i, h.1 i)

either_plain : (t : Bool) (A B : Code Marked) (C D : Code Item) → strip A ≡ C → strip B ≡ D → strip (elim t [ true ↦ A | false ↦ B ]) ≡ elim t [ true ↦ C | false ↦ D ]
either_plain true A B C D p q = p
either_plain false A B C D p q = q

roots_over_plain : (coding : Coding) (levels : ℕ → ℕ) (inner : BodiesCode Marked) (plainly : BodiesCode Item) → strip_bodies inner ≡ plainly
    → strip_roots (marked_over coding levels inner) ≡ over coding levels plainly
roots_over_plain coding levels inner plainly h = roots_plain coding levels inner ∙ ap (over coding levels) h

valof_plain : (coding : Coding) (levels : ℕ → ℕ) (inner : BodiesCode Marked) (plainly : BodiesCode Item) → strip_bodies inner ≡ plainly → (b : Block) (n s l f : ℕ)
    → strip (emit_valof Plain (marked_over coding levels inner) b n s l f) ≡ emit_valof plain (over coding levels plainly) b n s l f
valof_plain coding levels inner plainly h b n s l f =
    let e = roots_over_plain coding levels inner plainly h in
    let q = block_plain (marked_over coding levels inner) b s (body_exits l) f ∙ ap (λ (R : Roots Item). emit_block plain R b s (body_exits l) f) e in
    rw (sym q) (simp plain_append)

bodies_plain : (coding : Coding) (levels : ℕ → ℕ) (first : ℕ) (vs : List Valof) (n s l f : ℕ)
    → strip (bodies_from Plain (marked_over coding levels) first vs n s l f) ≡ bodies_from plain (over coding levels) first vs n s l f
bodies_plain coding levels first [] n s l f = refl
bodies_plain coding levels first (v ∷ vs) n s l f =
    let h : strip_bodies (bodies_from Plain (marked_over coding levels) (first + 1) vs) ≡ bodies_from plain (over coding levels) (first + 1) vs =
    λ i. λ m. λ r. λ k. λ g. bodies_plain coding levels (first + 1) vs m r k g i in
    either_plain (n == first) _ _ _ _
    (valof_plain coding levels (bodies_from Plain (marked_over coding levels) (first + 1) vs) (bodies_from plain (over coding levels) (first + 1) vs) h v.body n s l f)
    (bodies_plain coding levels (first + 1) vs n s l f)

body_plain : (roots : Roots Marked) (b : Body) (s f : ℕ) → strip (emit_body Plain roots b s f) ≡ emit_body plain (strip_roots roots) b s f
body_plain roots (Gives e) s f = simp plain_append
body_plain roots (Does b) s f = rw (sym (block_plain roots b s (body_exits 0) f)) (simp plain_append)

routines_plain : (roots : Roots Marked) (j : ℕ) (ps : List Place) (f : ℕ) → strip (emit_routines Plain roots j ps f) ≡ emit_routines plain (strip_roots roots) j ps f
routines_plain roots j [] f = refl
routines_plain roots j (commands.Code r ∷ ps) f =
    let x = emit_body Plain roots r.body (level_after_parameters r.parameters) f in
    rw (sym (body_plain roots r.body (level_after_parameters r.parameters) f), sym (routines_plain roots (j + 1) ps x.1)) (simp plain_append)
routines_plain roots j (commands.Static w ∷ ps) f = routines_plain roots (j + 1) ps f
routines_plain roots j (commands.Table ws ∷ ps) f = routines_plain roots (j + 1) ps f
routines_plain roots j (commands.Text bytes ∷ ps) f = routines_plain roots (j + 1) ps f

-- a section's marked code without its marks is its code
pub section_plain : (coding : Coding) (core : Core) → strip (routines_over Plain (marked_over coding (level_of core.valofs)) core) ≡ routines_code coding core
section_plain coding core =
    let levels = level_of core.valofs in
    let h : strip_bodies (bodies_from Plain (marked_over coding levels) 0 core.valofs) ≡ bodies_from plain (over coding levels) 0 core.valofs =
    λ i. λ m. λ r. λ k. λ g. bodies_plain coding levels 0 core.valofs m r k g i in
    let roots = marked_over coding levels (bodies_from Plain (marked_over coding levels) 0 core.valofs) in
    routines_plain roots 0 core.places (length core.places + 1)
    ∙ ap (λ (R : Roots Item). emit_routines plain R 0 core.places (length core.places + 1))
    (roots_over_plain coding levels (bodies_from Plain (marked_over coding levels) 0 core.valofs) (bodies_from plain (over coding levels) 0 core.valofs) h)
