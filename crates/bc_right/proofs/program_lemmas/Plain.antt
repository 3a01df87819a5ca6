-- The code of routines contains no byte and sets no global.
use Rattle.std.proofs.Common.{ℕ, ◌+◌, ◌==◌, Bool, true, false, not, List, [], ◌∷◌, ◌++◌}
use Rattle.bc_text_items.specs.declared.item.Item.{Item}
use Rattle.bc_text_items.specs.declared.item.Item.TheVariants.{Label, Data, DataLabel, Byte, Operation, Global}
use Rattle.bc_core.specs.Tree.{Frame, Root, Value, Test, Assign}
use Rattle.bc_core.specs.Commands.{Variable, Initial, Vector, Command, Block, block, Items, no_item, command, case, default, label, Body, Gives, Does, Valof, Place}
use Rattle.bc_core.specs.Commands as commands
use Rattle.bc_core.specs.Command.{step_of_for}
use Rattle.bc_core.specs.Level.{cells_of, cells_of_all, cells_declared, level_in_for, level_after_parameters}
use Rattle.bc_rules_defs.specs.declared.rule.Table.{Table}
use Rattle.bc_rules_defs.specs.declared.piece.Piece.{Piece}
use Rattle.bc_rules_defs.specs.declared.piece.Piece.TheVariants as pieces
use Rattle.bc_rules_defs.specs.Rules.{RootDerives}
use Rattle.bc_rules_defs.specs.Code.{root_code}
use Rattle.bc_rules_defs.proofs.Plain.{ArePlain, root_plain as code_of_root_plain}
use Rattle.bc_gen_defs.specs.Emit.{Exits, jump, execute, zero_item, cases_in, labelled, labels_in, defaulted, entries_in, table_of, emit_variable, emit_variables, emit_declarations, end_of_for, emit, emit_block, emit_items}
use Rattle.bc_gen_defs.specs.Bodies.{Choice, label_ahead, fill, over, coding_of, body_exits, bodies_from, emit_body}
use Rattle.bc_gen_defs.specs.Section.{emit_routines}
use Rattle.bc_right.specs.steps.Premises.{Roots, BodiesCode, Code}

abbrev pub Plain : List Item → Type 0
Plain [] = Unit {0}
Plain (Byte b ∷ is) = ⊥
Plain (Label m ∷ is) = Plain is
Plain (Data n ∷ is) = Plain is
Plain (DataLabel m ∷ is) = Plain is
Plain (Operation f i b n ∷ is) = Plain is
Plain (Global n m ∷ is) = ⊥

pub plain_both : (xs ys : List Item) → Plain xs → Plain ys → Plain (xs ++ ys)
plain_both [] ys h k = k
plain_both (Byte b ∷ xs) ys h k = absurd h
plain_both (Label m ∷ xs) ys h k = plain_both xs ys h k
plain_both (Data n ∷ xs) ys h k = plain_both xs ys h k
plain_both (DataLabel m ∷ xs) ys h k = plain_both xs ys h k
plain_both (Operation f i b n ∷ xs) ys h k = plain_both xs ys h k
plain_both (Global n m ∷ xs) ys h k = absurd h

-- pieces whose items are operations and labels
abbrev PlainPieces : List Piece → Type 0
PlainPieces [] = Unit {0}
PlainPieces (pieces.Item i ∷ ps) = Plain (i ∷ []) × PlainPieces ps
PlainPieces (pieces.Body n ∷ ps) = PlainPieces ps

are_so : (ps : List Piece) → ArePlain ps → PlainPieces ps
are_so [] h = tt
are_so (pieces.Item (Operation f i b n) ∷ ps) h = (tt, are_so ps h.1)
are_so (pieces.Item (Label n) ∷ ps) h = (tt, are_so ps h.1)
are_so (pieces.Item i ∷ ps) h = absurd h.0
are_so (pieces.Body n ∷ ps) h = are_so ps h.1

root_plain : {T : Table} {r : Root} (d : RootDerives T r) (t f : ℕ) → PlainPieces (root_code d t f)
root_plain d t f = are_so (root_code d t f) (code_of_root_plain d t f)

-- the same with the bodies of VALOFs filled in
filled_plain : (levels : ℕ → ℕ) (bodies : BodiesCode) → ((n s l f : ℕ) → Plain (bodies n s l f).0) → (ps : List Piece) (g : ℕ) → PlainPieces ps → Plain (fill (λ i. i) levels bodies ps g).0
filled_plain levels bodies all [] g h = tt
filled_plain levels bodies all (pieces.Item i ∷ ps) g h = plain_both (i ∷ []) (fill (λ i. i) levels bodies ps g).0 h.0 (filled_plain levels bodies all ps g h.1)
filled_plain levels bodies all (pieces.Body n ∷ ps) g h =
    let b = bodies n (levels n) (label_ahead ps) g in
    plain_both b.0 (fill (λ i. i) levels bodies ps b.1).0 (all n (levels n) (label_ahead ps) g) (filled_plain levels bodies all ps b.1 h)

abbrev PlainRoots : Roots → Type 0
PlainRoots roots = (r : Root) (t f : ℕ) → Plain (roots r t f).0

roots_plain : {T : Table} (choice : Choice T) (levels : ℕ → ℕ) (bodies : BodiesCode) → ((n s l f : ℕ) → Plain (bodies n s l f).0) → PlainRoots (over (coding_of choice) levels bodies)
roots_plain choice levels bodies all r t f = filled_plain levels bodies all (root_code (choice r) t f) _ (root_plain (choice r) t f)

table_plain : (is : Items) (first : ℕ) → Plain (table_of (λ i. i) is first)
table_plain no_item first = tt
table_plain (command c is) first = table_plain is first
table_plain (case k is) first = table_plain is (first + 1)
table_plain (default is) first = table_plain is (first + 1)
table_plain (label k is) first = table_plain is first

module _ (roots : Roots) (plain : PlainRoots roots) where
  variable_plain : (v : Variable) (k s f : ℕ) → Plain (emit_variable roots v k s f).0
  variable_plain (Initial e) k s f = plain _ 0 f
  variable_plain (Vector n) k s f = plain _ 0 f

  variables_plain : (vs : List Variable) (k s f : ℕ) → Plain (emit_variables roots vs k s f).0
  variables_plain [] k s f = tt
  variables_plain (v ∷ vs) k s f =
      let x = emit_variable roots v k s f in
      plain_both x.0 (emit_variables roots vs (k + cells_of v) s x.1).0 (variable_plain v k s f) (variables_plain vs (k + cells_of v) s x.1)

  declarations_plain : (ds : List (List Variable)) (s f : ℕ) → Plain (emit_declarations roots ds s f).0
  declarations_plain [] s f = tt
  declarations_plain (vs ∷ ds) s f =
      let n = cells_of_all vs in
      let x = emit_variables roots vs s (s + n) f in
      plain_both x.0 (emit_declarations roots ds (s + n) x.1).0 (variables_plain vs s (s + n) f) (declarations_plain ds (s + n) x.1)

  mutual
    command_plain : (c : Command) (s : ℕ) (E : Exits) (f : ℕ) → Plain (emit (λ i. i) roots c s E f).0
    command_plain (commands.Call e) s E f = plain (Value s e) 0 f
    command_plain (commands.Assign v a) s E f = plain (Assign s v a) 0 f
    command_plain (commands.If sense e b) s E f =
        let t = roots (Test s (not sense) e) f (f + 1) in
        let x = emit_block (λ i. i) roots b s E t.1 in
        plain_both t.0 (x.0 ++ Label f ∷ []) (plain (Test s (not sense) e) f (f + 1)) (plain_both x.0 (Label f ∷ []) (block_plain b s E t.1) tt)
    command_plain (commands.Test e b d) s E f =
        let t = roots (Test s false e) f (f + 2) in
        let x = emit_block (λ i. i) roots b s E t.1 in
        let y = emit_block (λ i. i) roots d s E x.1 in
        let last = y.0 ++ Label (f + 1) ∷ [] in
        plain_both t.0 (x.0 ++ (jump (f + 1) ∷ Label f ∷ last)) (plain (Test s false e) f (f + 2))
        (plain_both x.0 (jump (f + 1) ∷ Label f ∷ last) (block_plain b s E t.1) (plain_both y.0 (Label (f + 1) ∷ []) (block_plain d s E x.1) tt))
    command_plain (commands.While sense e b) s E f =
        let t = roots (Test s (not sense) e) (f + 1) (f + 2) in
        let E1 = record E { broken = f + 1; looped = f } in
        let x = emit_block (λ i. i) roots b s E1 t.1 in
        plain_both t.0 (x.0 ++ jump f ∷ Label (f + 1) ∷ []) (plain (Test s (not sense) e) (f + 1) (f + 2)) (plain_both x.0 (jump f ∷ Label (f + 1) ∷ []) (block_plain b s E1 t.1) tt)
    command_plain (commands.Repeat b) s E f =
        let E1 = record E { broken = f + 1; looped = f } in
        let x = emit_block (λ i. i) roots b s E1 (f + 2) in
        plain_both x.0 (jump f ∷ Label (f + 1) ∷ []) (block_plain b s E1 (f + 2)) tt
    command_plain (commands.RepeatWhile b sense e) s E f =
        let E1 = record E { broken = f + 1; looped = f + 2 } in
        let x = emit_block (λ i. i) roots b s E1 (f + 3) in
        let t = roots (Test s sense e) f x.1 in
        plain_both x.0 (Label (f + 2) ∷ (t.0 ++ Label (f + 1) ∷ [])) (block_plain b s E1 (f + 3)) (plain_both t.0 (Label (f + 1) ∷ []) (plain (Test s sense e) f x.1) tt)
    command_plain (commands.For start limit by b) s E f =
        let s1 = level_in_for s in
        let i = roots (Assign s1 start (Frame s)) 0 (f + 3) in
        let n = roots (Assign s1 limit (Frame (s + 1))) 0 i.1 in
        let t = roots (Test s1 true (end_of_for by s)) (f + 1) n.1 in
        let E1 = record E { broken = f + 1; looped = f + 2 } in
        let x = emit_block (λ i. i) roots b s1 E1 t.1 in
        let u = roots (Assign s1 (step_of_for by s) (Frame s)) 0 x.1 in
        let tail4 = jump f ∷ Label (f + 1) ∷ [] in
        let tail3 = Label (f + 2) ∷ (u.0 ++ tail4) in
        let tail1 = Label f ∷ (t.0 ++ (x.0 ++ tail3)) in
        plain_both i.0 (n.0 ++ tail1) (plain _ 0 (f + 3)) (plain_both n.0 tail1 (plain _ 0 i.1)
        (plain_both t.0 (x.0 ++ tail3) (plain _ (f + 1) n.1) (plain_both x.0 tail3 (block_plain b s1 E1 t.1) (plain_both u.0 tail4 (plain _ 0 x.1) tt))))
    command_plain (commands.SwitchOn e is) s E f =
        let v = roots (Value s e) 0 (f + 1 + entries_in is) in
        let E1 = record E { cases = f; labels = labelled is v.1 E.labels } in
        let x = emit_items (λ i. i) roots is s E1 (f + 1) (v.1 + labels_in is) in
        let rest = x.0 ++ Label f ∷ [] in
        plain_both v.0 (execute 23 ∷ Data (cases_in is) ∷ DataLabel (defaulted is (f + 1) f) ∷ (table_of (λ i. i) is (f + 1) ++ rest)) (plain (Value s e) 0 (f + 1 + entries_in is))
        (plain_both (table_of (λ i. i) is (f + 1)) rest (table_plain is (f + 1)) (plain_both x.0 (Label f ∷ []) (items_plain is s E1 (f + 1) (v.1 + labels_in is)) tt))
    command_plain commands.Break s E f = tt
    command_plain commands.Loop s E f = tt
    command_plain commands.EndCase s E f = tt
    command_plain commands.Return s E f = tt
    command_plain (commands.ResultIs e) s E f = let v = roots (Value s e) 0 f in plain_both v.0 (jump E.result ∷ []) (plain (Value s e) 0 f) tt
    command_plain commands.Finish s E f = tt
    command_plain (commands.Goto l) s E f = tt
    command_plain (commands.Nested b) s E f = block_plain b s E f

    block_plain : (b : Block) (s : ℕ) (E : Exits) (f : ℕ) → Plain (emit_block (λ i. i) roots b s E f).0
    block_plain (block ds is) s E f =
        let d = emit_declarations roots ds s (f + labels_in is) in
        let E1 = record E { labels = labelled is f E.labels } in
        plain_both d.0 (emit_items (λ i. i) roots is (s + cells_declared ds) E1 0 d.1).0 (declarations_plain ds s (f + labels_in is)) (items_plain is (s + cells_declared ds) E1 0 d.1)

    items_plain : (is : Items) (s : ℕ) (E : Exits) (first f : ℕ) → Plain (emit_items (λ i. i) roots is s E first f).0
    items_plain no_item s E first f = tt
    items_plain (command c is) s E first f =
        let x = emit (λ i. i) roots c s E f in
        plain_both x.0 (emit_items (λ i. i) roots is s E first x.1).0 (command_plain c s E f) (items_plain is s E first x.1)
    items_plain (case k is) s E first f = items_plain is s E (first + 1) f
    items_plain (default is) s E first f = items_plain is s E (first + 1) f
    items_plain (label l is) s E first f = items_plain is s E first f

  body_plain : (b : Body) (s f : ℕ) → Plain (emit_body (λ i. i) roots b s f).0
  body_plain (Gives e) s f = let v = roots (Value s e) 0 f in plain_both v.0 (execute 4 ∷ []) (plain (Value s e) 0 f) tt
  body_plain (Does b) s f = let x = emit_block (λ i. i) roots b s (body_exits 0) f in plain_both x.0 (zero_item ∷ execute 4 ∷ []) (block_plain b s (body_exits 0) f) tt

  routines_plain : (j : ℕ) (places : List Place) (f : ℕ) → Plain (emit_routines (λ i. i) roots j places f).0
  routines_plain j [] f = tt
  routines_plain j (commands.Code r ∷ places) f =
      let x = emit_body (λ i. i) roots r.body (level_after_parameters r.parameters) f in
      plain_both x.0 (emit_routines (λ i. i) roots (j + 1) places x.1).0 (body_plain r.body (level_after_parameters r.parameters) f) (routines_plain (j + 1) places x.1)
  routines_plain j (commands.Static w ∷ places) f = routines_plain (j + 1) places f
  routines_plain j (commands.Table ws ∷ places) f = routines_plain (j + 1) places f
  routines_plain j (commands.Text bytes ∷ places) f = routines_plain (j + 1) places f

bodies_plain : {T : Table} (choice : Choice T) (levels : ℕ → ℕ) (vs : List Valof) (first n s l f : ℕ) → Plain (bodies_from (λ i. i) (over (coding_of choice) levels) first vs n s l f).0
bodies_plain choice levels [] first n s l f = tt
bodies_plain choice levels (v ∷ vs) first n s l f = by_number (λ k s1 l1 f1. bodies_plain choice levels vs (first + 1) k s1 l1 f1) (n == first) where
  inner : BodiesCode
  inner = bodies_from (λ i. i) (over (coding_of choice) levels) (first + 1) vs

  own : Roots
  own = over (coding_of choice) levels inner

  by_number : ((k s1 l1 f1 : ℕ) → Plain (inner k s1 l1 f1).0) → (t : Bool) → Plain (elim t as (λ z. Code) [ true ↦ (let x = emit_block (λ i. i) own v.body s (body_exits l) f in (x.0 ++ zero_item ∷ [], x.1)) | false ↦ inner n s l f ]).0
  by_number ih true = plain_both (emit_block (λ i. i) own v.body s (body_exits l) f).0 (zero_item ∷ []) (block_plain own (roots_plain choice levels inner ih) v.body s (body_exits l) f) tt
  by_number ih false = ih n s l f

-- the routines of a section
pub section_plain : {T : Table} (choice : Choice T) (levels : ℕ → ℕ) (vs : List Valof) (places : List Place) (f : ℕ)
    → Plain (emit_routines (λ i. i) (over (coding_of choice) levels (bodies_from (λ i. i) (over (coding_of choice) levels) 0 vs)) 0 places f).0
section_plain choice levels vs places f =
    let bodies = bodies_from (λ i. i) (over (coding_of choice) levels) 0 vs in
    routines_plain (over (coding_of choice) levels bodies) (roots_plain choice levels bodies (λ n s l g. bodies_plain choice levels vs 0 n s l g)) 0 places f
