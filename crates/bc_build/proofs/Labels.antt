-- If the labels of a section suffice, those of each root do.
use Rattle.std.proofs.Common.{ℕ, ◌+◌, ◌≤◌, ◌==◌, Bool, true, false, not, List, [], ◌∷◌, length, ap, subst, sym}
use Rattle.bc_core.specs.Tree.{Frame, Root, Value, Test, Assign}
use Rattle.bc_core.specs.Commands.{Variable, Initial, Vector, Command, Block, block, Items, no_item, command, case, default, label, Body, Gives, Does, Place, Valof, Core}
use Rattle.bc_core.specs.Commands as commands
use Rattle.bc_core.specs.Level.{cells_of, cells_of_all, cells_declared, level_in_for, level_after_parameters}
use Rattle.bc_core.specs.Command.{step_of_for}
use Rattle.bc_rules_defs.specs.declared.piece.Piece.{Piece}
use Rattle.bc_rules_defs.specs.declared.piece.Piece.TheVariants as pieces
use Rattle.bc_gen_defs.specs.Emit.{Code, Roots, Exits, labelled, labels_in, entries_in, table_of, emit_variable, emit_variables, emit_declarations, end_of_for, emit, emit_block, emit_items}
use Rattle.bc_gen_defs.specs.Bodies.{BodiesCode, Coding, fill, label_ahead, body_exits, emit_valof, bodies_from, emit_body, level_of}
use Rattle.bc_gen_defs.specs.Section.{emit_routines}
use Rattle.bc_gen_defs.specs.Entries.{Mark, Marked, Plain, marked_over, marked_code}
use Rattle.bc_gen_defs.proofs.Plainly.{section_plain}
use Rattle.bc_gen.proofs.Rises.{Rising, Growing, upto, less, variables_up, declarations_up, block_up, items_up, fill_up, marked_up, bodies_up, routines_up}
use Rattle.bc_build.specs.RoomLaws.{LabelsHaveRoom}
use Rattle.bc_build.proofs.Marks.{AllMarks, marks_both, table_marks, entries_of_marks}

-- the labels of a mark's root end at n or before
abbrev Ends : Coding → ℕ → Mark → Type 0
Ends coding n m = m.first + coding.labels m.root ≤ n

module _ (P : Mark → Type 0) (n : ℕ) (roots : Roots Marked) (up : Rising roots) (r : (x : Root) (t f : ℕ) → (roots x t f).1 ≤ n → AllMarks P (roots x t f).0) where
  variable_ends : (v : Variable) (k s f : ℕ) → (emit_variable roots v k s f).1 ≤ n → AllMarks P (emit_variable roots v k s f).0
  variable_ends (Initial e) k s f h = r (Assign s e (Frame k)) 0 f h
  variable_ends (Vector c) k s f h = r (Assign s (Frame (k + 1)) (Frame k)) 0 f h

  variables_end : (vs : List Variable) (k s f : ℕ) → (emit_variables roots vs k s f).1 ≤ n → AllMarks P (emit_variables roots vs k s f).0
  variables_end [] k s f h = tt
  variables_end (v ∷ vs) k s f h =
      let x = emit_variable roots v k s f in
      let y = emit_variables roots vs (k + cells_of v) s x.1 in
      marks_both P x.0 y.0 (variable_ends v k s f (upto x.1 y.1 n (variables_up roots up vs (k + cells_of v) s x.1) h)) (variables_end vs (k + cells_of v) s x.1 h)

  declarations_end : (ds : List (List Variable)) (s f : ℕ) → (emit_declarations roots ds s f).1 ≤ n → AllMarks P (emit_declarations roots ds s f).0
  declarations_end [] s f h = tt
  declarations_end (vs ∷ ds) s f h =
      let c = cells_of_all vs in
      let x = emit_variables roots vs s (s + c) f in
      let y = emit_declarations roots ds (s + c) x.1 in
      marks_both P x.0 y.0 (variables_end vs s (s + c) f (upto x.1 y.1 n (declarations_up roots up ds (s + c) x.1) h)) (declarations_end ds (s + c) x.1 h)

  mutual
    command_ends : (c : Command) (s : ℕ) (E : Exits) (f : ℕ) → (emit Plain roots c s E f).1 ≤ n → AllMarks P (emit Plain roots c s E f).0
    command_ends (commands.Call e) s E f h = r (Value s e) 0 f h
    command_ends (commands.Assign v a) s E f h = r (Assign s v a) 0 f h
    command_ends (commands.If sense e b) s E f h =
        let t = roots (Test s (not sense) e) f (f + 1) in
        let x = emit_block Plain roots b s E t.1 in
        marks_both P t.0 _ (r (Test s (not sense) e) f (f + 1) (upto t.1 x.1 n (block_up roots up b s E t.1) h)) (marks_both P x.0 _ (block_ends b s E t.1 h) tt)
    command_ends (commands.Test e b c) s E f h =
        let t = roots (Test s false e) f (f + 2) in
        let x = emit_block Plain roots b s E t.1 in
        let y = emit_block Plain roots c s E x.1 in
        let hx = upto x.1 y.1 n (block_up roots up c s E x.1) h in
        let ht = upto t.1 x.1 n (block_up roots up b s E t.1) hx in
        marks_both P t.0 _ (r (Test s false e) f (f + 2) ht) (marks_both P x.0 _ (block_ends b s E t.1 hx) (marks_both P y.0 _ (block_ends c s E x.1 h) tt))
    command_ends (commands.While sense e b) s E f h =
        let t = roots (Test s (not sense) e) (f + 1) (f + 2) in
        let E1 = record E { broken = f + 1; looped = f } in
        let x = emit_block Plain roots b s E1 t.1 in
        marks_both P t.0 _ (r (Test s (not sense) e) (f + 1) (f + 2) (upto t.1 x.1 n (block_up roots up b s E1 t.1) h)) (marks_both P x.0 _ (block_ends b s E1 t.1 h) tt)
    command_ends (commands.Repeat b) s E f h =
        let E1 = record E { broken = f + 1; looped = f } in
        marks_both P (emit_block Plain roots b s E1 (f + 2)).0 _ (block_ends b s E1 (f + 2) h) tt
    command_ends (commands.RepeatWhile b sense e) s E f h =
        let E1 = record E { broken = f + 1; looped = f + 2 } in
        let x = emit_block Plain roots b s E1 (f + 3) in
        let t = roots (Test s sense e) f x.1 in
        marks_both P x.0 _ (block_ends b s E1 (f + 3) (upto x.1 t.1 n (up.up (Test s sense e) f x.1) h)) (marks_both P t.0 _ (r (Test s sense e) f x.1 h) tt)
    command_ends (commands.For start limit by b) s E f h =
        let s1 = level_in_for s in
        let E1 = record E { broken = f + 1; looped = f + 2 } in
        let i = roots (Assign s1 start (Frame s)) 0 (f + 3) in
        let l = roots (Assign s1 limit (Frame (s + 1))) 0 i.1 in
        let t = roots (Test s1 true (end_of_for by s)) (f + 1) l.1 in
        let x = emit_block Plain roots b s1 E1 t.1 in
        let u = roots (Assign s1 (step_of_for by s) (Frame s)) 0 x.1 in
        let hx = upto x.1 u.1 n (up.up (Assign s1 (step_of_for by s) (Frame s)) 0 x.1) h in
        let ht = upto t.1 x.1 n (block_up roots up b s1 E1 t.1) hx in
        let hl = upto l.1 t.1 n (up.up (Test s1 true (end_of_for by s)) (f + 1) l.1) ht in
        let hi = upto i.1 l.1 n (up.up (Assign s1 limit (Frame (s + 1))) 0 i.1) hl in
        marks_both P i.0 _ (r (Assign s1 start (Frame s)) 0 (f + 3) hi) (marks_both P l.0 _ (r (Assign s1 limit (Frame (s + 1))) 0 i.1 hl)
        (marks_both P t.0 _ (r (Test s1 true (end_of_for by s)) (f + 1) l.1 ht) (marks_both P x.0 _ (block_ends b s1 E1 t.1 hx)
        (marks_both P u.0 _ (r (Assign s1 (step_of_for by s) (Frame s)) 0 x.1 h) tt))))
    command_ends (commands.SwitchOn e is) s E f h =
        let g = f + 1 + entries_in is in
        let v = roots (Value s e) 0 g in
        let E1 = record E { cases = f; labels = labelled is v.1 E.labels } in
        let x = emit_items Plain roots is s E1 (f + 1) (v.1 + labels_in is) in
        let hv = upto v.1 x.1 n (less v.1 (labels_in is) x.1 (items_up roots up is s E1 (f + 1) (v.1 + labels_in is))) h in
        marks_both P v.0 _ (r (Value s e) 0 g hv) (marks_both P (table_of Plain is (f + 1)) _ (table_marks P is (f + 1))
        (marks_both P x.0 _ (items_end is s E1 (f + 1) (v.1 + labels_in is) h) tt))
    command_ends commands.Break s E f h = tt
    command_ends commands.Loop s E f h = tt
    command_ends commands.EndCase s E f h = tt
    command_ends commands.Return s E f h = tt
    command_ends (commands.ResultIs e) s E f h = marks_both P (roots (Value s e) 0 f).0 _ (r (Value s e) 0 f h) tt
    command_ends commands.Finish s E f h = tt
    command_ends (commands.Goto l) s E f h = tt
    command_ends (commands.Nested b) s E f h = block_ends b s E f h

    block_ends : (b : Block) (s : ℕ) (E : Exits) (f : ℕ) → (emit_block Plain roots b s E f).1 ≤ n → AllMarks P (emit_block Plain roots b s E f).0
    block_ends (block ds is) s E f h =
        let d = emit_declarations roots ds s (f + labels_in is) in
        let E1 = record E { labels = labelled is f E.labels } in
        let s1 = s + cells_declared ds in
        let x = emit_items Plain roots is s1 E1 0 d.1 in
        marks_both P d.0 x.0 (declarations_end ds s (f + labels_in is) (upto d.1 x.1 n (items_up roots up is s1 E1 0 d.1) h)) (items_end is s1 E1 0 d.1 h)

    items_end : (is : Items) (s : ℕ) (E : Exits) (first f : ℕ) → (emit_items Plain roots is s E first f).1 ≤ n → AllMarks P (emit_items Plain roots is s E first f).0
    items_end no_item s E first f h = tt
    items_end (command c is) s E first f h =
        let x = emit Plain roots c s E f in
        let y = emit_items Plain roots is s E first x.1 in
        marks_both P x.0 y.0 (command_ends c s E f (upto x.1 y.1 n (items_up roots up is s E first x.1) h)) (items_end is s E first x.1 h)
    items_end (case v is) s E first f h = items_end is s E (first + 1) f h
    items_end (default is) s E first f h = items_end is s E (first + 1) f h
    items_end (label l is) s E first f h = items_end is s E first f h

  body_ends : (b : Body) (s f : ℕ) → (emit_body Plain roots b s f).1 ≤ n → AllMarks P (emit_body Plain roots b s f).0
  body_ends (Gives e) s f h = marks_both P (roots (Value s e) 0 f).0 _ (r (Value s e) 0 f h) tt
  body_ends (Does b) s f h = marks_both P (emit_block Plain roots b s (body_exits 0) f).0 _ (block_ends b s (body_exits 0) f h) tt

  routines_end : (j : ℕ) (ps : List Place) (f : ℕ) → (emit_routines Plain roots j ps f).1 ≤ n → AllMarks P (emit_routines Plain roots j ps f).0
  routines_end j [] f h = tt
  routines_end j (commands.Code p ∷ ps) f h =
      let s = level_after_parameters p.parameters in
      let x = emit_body Plain roots p.body s f in
      let y = emit_routines Plain roots (j + 1) ps x.1 in
      marks_both P x.0 y.0 (body_ends p.body s f (upto x.1 y.1 n (routines_up roots up (j + 1) ps x.1) h)) (routines_end (j + 1) ps x.1 h)
  routines_end j (commands.Static w ∷ ps) f h = routines_end (j + 1) ps f h
  routines_end j (commands.Table ws ∷ ps) f h = routines_end (j + 1) ps f h
  routines_end j (commands.Text bytes ∷ ps) f h = routines_end (j + 1) ps f h

module _ (coding : Coding) (n : ℕ) (levels : ℕ → ℕ) where
  abbrev BodiesEnd : BodiesCode Marked → Type 0
  BodiesEnd bodies = (k s l f : ℕ) → (bodies k s l f).1 ≤ n → AllMarks (Ends coding n) (bodies k s l f).0

  fill_ends : (bodies : BodiesCode Marked) → Growing bodies → BodiesEnd bodies → (ps : List Piece) (f : ℕ) → (fill Plain levels bodies ps f).1 ≤ n → AllMarks (Ends coding n) (fill Plain levels bodies ps f).0
  fill_ends bodies g b [] f h = tt
  fill_ends bodies g b (pieces.Item i ∷ ps) f h = fill_ends bodies g b ps f h
  fill_ends bodies g b (pieces.Body k ∷ ps) f h =
      let x = bodies k (levels k) (label_ahead ps) f in
      let y = fill Plain levels bodies ps x.1 in
      marks_both (Ends coding n) x.0 y.0 (b k (levels k) (label_ahead ps) f (upto x.1 y.1 n (fill_up levels bodies g ps x.1) h)) (fill_ends bodies g b ps x.1 h)

  roots_end : (bodies : BodiesCode Marked) → Growing bodies → BodiesEnd bodies → (r : Root) (t f : ℕ) → (marked_over coding levels bodies r t f).1 ≤ n → AllMarks (Ends coding n) (marked_over coding levels bodies r t f).0
  roots_end bodies g b r t f h =
      let ps = coding.pieces r t f in
      let f1 = f + coding.labels r in
      (upto f1 (fill Plain levels bodies ps f1).1 n (fill_up levels bodies g ps f1) h, fill_ends bodies g b ps f1 h)

  either_ends : (t : Bool) (x y : Code Marked) → (x.1 ≤ n → AllMarks (Ends coding n) x.0) → (y.1 ≤ n → AllMarks (Ends coding n) y.0)
      → (let z : Code Marked = elim t [ true ↦ x | false ↦ y ] in z.1) ≤ n → AllMarks (Ends coding n) (let z : Code Marked = elim t [ true ↦ x | false ↦ y ] in z.0)
  either_ends true x y a b h = a h
  either_ends false x y a b h = b h

  bodies_end : (first : ℕ) (vs : List Valof) → BodiesEnd (bodies_from Plain (marked_over coding levels) first vs)
  bodies_end first [] k s l f h = tt
  bodies_end first (v ∷ vs) k s l f h =
      let inner = bodies_from Plain (marked_over coding levels) (first + 1) vs in
      let roots = marked_over coding levels inner in
      let g = bodies_up coding levels (first + 1) vs in
      let b = bodies_end (first + 1) vs in
      either_ends (k == first) (emit_valof Plain roots v.body k s l f) (inner k s l f)
      (λ c. marks_both (Ends coding n) (emit_block Plain roots v.body s (body_exits l) f).0 _ (block_ends (Ends coding n) n roots (marked_up coding levels inner g) (roots_end inner g b) v.body s (body_exits l) f c) tt)
      (λ c. b k s l f c) h

pub labels_have_room : LabelsHaveRoom
labels_have_room coding core h =
    let levels = level_of core.valofs in
    let inner = bodies_from Plain (marked_over coding levels) 0 core.valofs in
    let roots = marked_over coding levels inner in
    let g = bodies_up coding levels 0 core.valofs in
    let ends : (emit_routines Plain roots 0 core.places (length core.places + 1)).1 ≤ 20001 = subst (λ k. k ≤ 20001) (sym (ap (λ x. x.1) (section_plain coding core))) h in
    let marks = routines_end (Ends coding 20001) 20001 roots (marked_up coding levels inner g) (roots_end coding 20001 levels inner g (bodies_end coding 20001 levels 0 core.valofs)) 0 core.places (length core.places + 1) ends in
    entries_of_marks (Ends coding 20001) (λ e. e.first + coding.labels e.root ≤ 20001) (λ k m i. i) 0 (marked_code coding core) marks
