-- If commands are within a frame, so are the roots of their code.
use Rattle.std.proofs.Common.{ℕ, ◌+◌, ◌≤◌, max, true, false, not, List, [], ◌∷◌, arith}
use Rattle.bc_core.specs.Tree.{Exp, Frame, Root, Value, Test, Assign}
use Rattle.bc_core.specs.Commands.{Variable, Initial, Vector, Command, Block, block, Items, no_item, command, case, default, label, Body, Gives, Does}
use Rattle.bc_core.specs.Commands as commands
use Rattle.bc_core.specs.Level.{cells_of, cells_of_all, cells_declared, level_in_for}
use Rattle.bc_core.specs.Layout.{Bodies, cells_of_exp, cells_of_initial, cells_of_initials, cells_of_declarations, cells_of_command, cells_of_block, cells_of_items, cells_of_body}
use Rattle.bc_core.specs.Command.{step_of_for}
use Rattle.bc_gen_defs.specs.Emit.{Roots, Exits, labelled, labels_in, entries_in, table_of, emit_variable, emit_variables, emit_declarations, end_of_for, emit, emit_block, emit_items}
use Rattle.bc_gen_defs.specs.Bodies.{body_exits, emit_body}
use Rattle.bc_gen_defs.specs.Entries.{Mark, Marked, Plain}
use Rattle.bc_build.proofs.Marks.{AllMarks, marks_both, table_marks}
use Rattle.bc_build.proofs.Frames.{most, left_most, right_most, exp_fits, sides_fit, RootFits}

-- the level after declarations
after_most : (V : Bodies) (ds : List (List Variable)) (s : ℕ) → s ≤ most → cells_of_declarations V ds s ≤ most → s + cells_declared ds ≤ most
after_most V [] s h c = omega arith
after_most V (vs ∷ ds) s h c =
    let n = cells_of_all vs in
    let ci = cells_of_initials V vs (s + n) in
    let cd = cells_of_declarations V ds (s + n) in
    let up : s + n ≤ most = left_most (s + n) (max ci cd) c in
    let all = after_most V ds (s + n) up (right_most ci cd (right_most (s + n) (max ci cd) c)) in
    let l : (s + n) + cells_declared ds ≤ most = all in
    omega arith

module _ (V : Bodies) (P : Mark → Type 0) (roots : Roots Marked) (r : (x : Root) (t f : ℕ) → RootFits V x → AllMarks P (roots x t f).0) where
  root_framed : (e : Exp) (s t f : ℕ) → s ≤ most → cells_of_exp V e s ≤ most → AllMarks P (roots (Value s e) t f).0
  root_framed e s t f h c = r (Value s e) t f (exp_fits V e s h c)

  variable_framed : (v : Variable) (k s f : ℕ) → s ≤ most → cells_of_initial V v s ≤ most → AllMarks P (emit_variable roots v k s f).0
  variable_framed (Initial e) k s f h c = r (Assign s e (Frame k)) 0 f (exp_fits V e s h c, h)
  variable_framed (Vector n) k s f h c = r (Assign s (Frame (k + 1)) (Frame k)) 0 f (h, h)

  variables_framed : (vs : List Variable) (k s f : ℕ) → s ≤ most → cells_of_initials V vs s ≤ most → AllMarks P (emit_variables roots vs k s f).0
  variables_framed [] k s f h c = tt
  variables_framed (v ∷ vs) k s f h c =
      let x = emit_variable roots v k s f in
      let y = emit_variables roots vs (k + cells_of v) s x.1 in
      let cv = cells_of_initial V v s in
      let cs = cells_of_initials V vs s in
      marks_both P x.0 y.0 (variable_framed v k s f h (left_most cv cs c)) (variables_framed vs (k + cells_of v) s x.1 h (right_most cv cs c))

  declarations_framed : (ds : List (List Variable)) (s f : ℕ) → s ≤ most → cells_of_declarations V ds s ≤ most → AllMarks P (emit_declarations roots ds s f).0
  declarations_framed [] s f h c = tt
  declarations_framed (vs ∷ ds) s f h c =
      let n = cells_of_all vs in
      let x = emit_variables roots vs s (s + n) f in
      let y = emit_declarations roots ds (s + n) x.1 in
      let ci = cells_of_initials V vs (s + n) in
      let cd = cells_of_declarations V ds (s + n) in
      let up = left_most (s + n) (max ci cd) c in
      let parts = right_most (s + n) (max ci cd) c in
      marks_both P x.0 y.0 (variables_framed vs s (s + n) f up (left_most ci cd parts)) (declarations_framed ds (s + n) x.1 up (right_most ci cd parts))

  mutual
    command_framed : (c : Command) (s : ℕ) (E : Exits) (f : ℕ) → s ≤ most → cells_of_command V c s ≤ most → AllMarks P (emit Plain roots c s E f).0
    command_framed (commands.Call e) s E f h c = root_framed e s 0 f h c
    command_framed (commands.Assign v a) s E f h c = r (Assign s v a) 0 f (sides_fit V v a s h c)
    command_framed (commands.If sense e b) s E f h c =
        let t = roots (Test s (not sense) e) f (f + 1) in
        let x = emit_block Plain roots b s E t.1 in
        let ce = cells_of_exp V e s in
        let cb = cells_of_block V b s in
        marks_both P t.0 _ (r (Test s (not sense) e) f (f + 1) (exp_fits V e s h (left_most ce cb c)))
        (marks_both P x.0 _ (block_framed b s E t.1 h (right_most ce cb c)) tt)
    command_framed (commands.Test e b d) s E f h c =
        let t = roots (Test s false e) f (f + 2) in
        let x = emit_block Plain roots b s E t.1 in
        let y = emit_block Plain roots d s E x.1 in
        let ce = cells_of_exp V e s in
        let cb = cells_of_block V b s in
        let cd = cells_of_block V d s in
        let parts = right_most ce (max cb cd) c in
        marks_both P t.0 _ (r (Test s false e) f (f + 2) (exp_fits V e s h (left_most ce (max cb cd) c)))
        (marks_both P x.0 _ (block_framed b s E t.1 h (left_most cb cd parts))
        (marks_both P y.0 _ (block_framed d s E x.1 h (right_most cb cd parts)) tt))
    command_framed (commands.While sense e b) s E f h c =
        let t = roots (Test s (not sense) e) (f + 1) (f + 2) in
        let x = emit_block Plain roots b s (record E { broken = f + 1; looped = f }) t.1 in
        let ce = cells_of_exp V e s in
        let cb = cells_of_block V b s in
        marks_both P t.0 _ (r (Test s (not sense) e) (f + 1) (f + 2) (exp_fits V e s h (left_most ce cb c)))
        (marks_both P x.0 _ (block_framed b s (record E { broken = f + 1; looped = f }) t.1 h (right_most ce cb c)) tt)
    command_framed (commands.Repeat b) s E f h c =
        let x = emit_block Plain roots b s (record E { broken = f + 1; looped = f }) (f + 2) in
        marks_both P x.0 _ (block_framed b s (record E { broken = f + 1; looped = f }) (f + 2) h c) tt
    command_framed (commands.RepeatWhile b sense e) s E f h c =
        let x = emit_block Plain roots b s (record E { broken = f + 1; looped = f + 2 }) (f + 3) in
        let t = roots (Test s sense e) f x.1 in
        let cb = cells_of_block V b s in
        let ce = cells_of_exp V e s in
        marks_both P x.0 _ (block_framed b s (record E { broken = f + 1; looped = f + 2 }) (f + 3) h (left_most cb ce c))
        (marks_both P t.0 _ (r (Test s sense e) f x.1 (exp_fits V e s h (right_most cb ce c))) tt)
    command_framed (commands.For start limit by b) s E f h c =
        let s1 = level_in_for s in
        let i = roots (Assign s1 start (Frame s)) 0 (f + 3) in
        let n = roots (Assign s1 limit (Frame (s + 1))) 0 i.1 in
        let t = roots (Test s1 true (end_of_for by s)) (f + 1) n.1 in
        let x = emit_block Plain roots b s1 (record E { broken = f + 1; looped = f + 2 }) t.1 in
        let u = roots (Assign s1 (step_of_for by s) (Frame s)) 0 x.1 in
        let ci = cells_of_exp V start s1 in
        let cn = cells_of_exp V limit s1 in
        let cb = cells_of_block V b s1 in
        let own : s1 + 2 ≤ most = left_most (s1 + 2) (max ci (max cn cb)) c in
        let parts = right_most (s1 + 2) (max ci (max cn cb)) c in
        let inner = right_most ci (max cn cb) parts in
        let h1 : s1 ≤ most = omega arith in
        let up : s1 + 1 ≤ most = omega arith in
        marks_both P i.0 _ (r (Assign s1 start (Frame s)) 0 (f + 3) (exp_fits V start s1 h1 (left_most ci (max cn cb) parts), h1))
        (marks_both P n.0 _ (r (Assign s1 limit (Frame (s + 1))) 0 i.1 (exp_fits V limit s1 h1 (left_most cn cb inner), h1))
        (marks_both P t.0 _ (r (Test s1 true (end_of_for by s)) (f + 1) n.1 (h1, (up, up), (up, up)))
        (marks_both P x.0 _ (block_framed b s1 (record E { broken = f + 1; looped = f + 2 }) t.1 h1 (right_most cn cb inner))
        (marks_both P u.0 _ (r (Assign s1 (step_of_for by s) (Frame s)) 0 x.1 ((h1, (up, up), up), h1)) tt))))
    command_framed (commands.SwitchOn e is) s E f h c =
        let v = roots (Value s e) 0 (f + 1 + entries_in is) in
        let E1 = record E { cases = f; labels = labelled is v.1 E.labels } in
        let x = emit_items Plain roots is s E1 (f + 1) (v.1 + labels_in is) in
        let ce = cells_of_exp V e s in
        let ci = cells_of_items V is s in
        marks_both P v.0 _ (root_framed e s 0 (f + 1 + entries_in is) h (left_most ce ci c))
        (marks_both P (table_of Plain is (f + 1)) _ (table_marks P is (f + 1))
        (marks_both P x.0 _ (items_framed is s E1 (f + 1) (v.1 + labels_in is) h (right_most ce ci c)) tt))
    command_framed commands.Break s E f h c = tt
    command_framed commands.Loop s E f h c = tt
    command_framed commands.EndCase s E f h c = tt
    command_framed commands.Return s E f h c = tt
    command_framed (commands.ResultIs e) s E f h c = marks_both P (roots (Value s e) 0 f).0 _ (root_framed e s 0 f h c) tt
    command_framed commands.Finish s E f h c = tt
    command_framed (commands.Goto l) s E f h c = tt
    command_framed (commands.Nested b) s E f h c = block_framed b s E f h c

    pub block_framed : (b : Block) (s : ℕ) (E : Exits) (f : ℕ) → s ≤ most → cells_of_block V b s ≤ most → AllMarks P (emit_block Plain roots b s E f).0
    block_framed (block ds is) s E f h c =
        let d = emit_declarations roots ds s (f + labels_in is) in
        let s1 = s + cells_declared ds in
        let E1 = record E { labels = labelled is f E.labels } in
        let x = emit_items Plain roots is s1 E1 0 d.1 in
        let cd = cells_of_declarations V ds s in
        let ci = cells_of_items V is s1 in
        let of_declarations = left_most cd ci c in
        marks_both P d.0 x.0 (declarations_framed ds s (f + labels_in is) h of_declarations)
        (items_framed is s1 E1 0 d.1 (after_most V ds s h of_declarations) (right_most cd ci c))

    items_framed : (is : Items) (s : ℕ) (E : Exits) (first f : ℕ) → s ≤ most → cells_of_items V is s ≤ most → AllMarks P (emit_items Plain roots is s E first f).0
    items_framed no_item s E first f h c = tt
    items_framed (command d is) s E first f h c =
        let x = emit Plain roots d s E f in
        let y = emit_items Plain roots is s E first x.1 in
        let cd = cells_of_command V d s in
        let ci = cells_of_items V is s in
        marks_both P x.0 y.0 (command_framed d s E f h (left_most cd ci c)) (items_framed is s E first x.1 h (right_most cd ci c))
    items_framed (case v is) s E first f h c = items_framed is s E (first + 1) f h c
    items_framed (default is) s E first f h c = items_framed is s E (first + 1) f h c
    items_framed (label l is) s E first f h c = items_framed is s E first f h c

  pub body_framed : (b : Body) (s f : ℕ) → s ≤ most → cells_of_body V b s ≤ most → AllMarks P (emit_body Plain roots b s f).0
  body_framed (Gives e) s f h c = marks_both P (roots (Value s e) 0 f).0 _ (root_framed e s 0 f h c) tt
  body_framed (Does b) s f h c = marks_both P (emit_block Plain roots b s (body_exits 0) f).0 _ (block_framed b s (body_exits 0) f h c) tt
