-- No code returns a lower next label than it was given.
use Rattle.std.proofs.Common.{ℕ, ◌+◌, ◌≡◌, ◌==◌, ◌≤◌, Bool, true, false, not, List, [], ◌∷◌, arith}
use Rattle.bc_core.specs.Tree.{Frame, Root, Value, Test, Assign}
use Rattle.bc_core.specs.Commands.{Variable, Initial, Vector, Command, Block, block, Items, no_item, command, case, default, label, Body, Gives, Does, Place, Valof}
use Rattle.bc_core.specs.Commands as commands
use Rattle.bc_core.specs.Level.{cells_of, cells_of_all, cells_declared, level_in_for, level_after_parameters}
use Rattle.bc_core.specs.Command.{step_of_for}
use Rattle.bc_rules_defs.specs.declared.piece.Piece.{Piece}
use Rattle.bc_rules_defs.specs.declared.piece.Piece.TheVariants as pieces
use Rattle.bc_gen_defs.specs.Emit.{Code, Roots, Exits, labelled, labels_in, entries_in, emit_variable, emit_variables, emit_declarations, end_of_for, emit, emit_block, emit_items}
use Rattle.bc_gen_defs.specs.Bodies.{BodiesCode, Coding, body_exits, fill, label_ahead, emit_valof, bodies_from, emit_body}
use Rattle.bc_gen_defs.specs.Section.{emit_routines}
use Rattle.bc_gen_defs.specs.Entries.{Marked, Plain, marked_over}
use Rattle.bc_gen.specs.declared.gen_error.GenError.{GenError}
use Rattle.bc_gen.specs.declared.gen_error.GenError.TheVariants as errors
use Rattle.bc_gen.specs.Writing.{RunsOut}

pub record Rising (roots : Roots Marked) : Type 0 where
  pub up : (r : Root) (t f : ℕ) → f ≤ (roots r t f).1

pub record Growing (bodies : BodiesCode Marked) : Type 0 where
  pub up : (n s l f : ℕ) → f ≤ (bodies n s l f).1

pub upto : (a b c : ℕ) → a ≤ b → b ≤ c → a ≤ c
upto a b c h k = omega arith

pub less : (f k n : ℕ) → f + k ≤ n → f ≤ n
less f k n h = omega arith

pub out : (e : GenError) (n m : ℕ) → RunsOut e n → n ≤ m → RunsOut e m
out errors.TooManyLabels n m h k = omega (arith, h, k)
out errors.Memory n m h k = tt

pub out_of_memory : (e : GenError) (n : ℕ) → e ≡ errors.Memory → RunsOut e n
out_of_memory errors.TooManyLabels n h = absurd (cc)
out_of_memory errors.Memory n h = tt

variable_up : (roots : Roots Marked) → Rising roots → (v : Variable) (k s f : ℕ) → f ≤ (emit_variable roots v k s f).1
variable_up roots r (Initial e) k s f = r.up (Assign s e (Frame k)) 0 f
variable_up roots r (Vector n) k s f = r.up (Assign s (Frame (k + 1)) (Frame k)) 0 f

pub variables_up : (roots : Roots Marked) → Rising roots → (vs : List Variable) (k s f : ℕ) → f ≤ (emit_variables roots vs k s f).1
variables_up roots r [] k s f = omega arith
variables_up roots r (v ∷ vs) k s f =
    let x = emit_variable roots v k s f in
    upto f x.1 _ (variable_up roots r v k s f) (variables_up roots r vs (k + cells_of v) s x.1)

pub declarations_up : (roots : Roots Marked) → Rising roots → (ds : List (List Variable)) (s f : ℕ) → f ≤ (emit_declarations roots ds s f).1
declarations_up roots r [] s f = omega arith
declarations_up roots r (vs ∷ ds) s f =
    let n = cells_of_all vs in
    let x = emit_variables roots vs s (s + n) f in
    upto f x.1 _ (variables_up roots r vs s (s + n) f) (declarations_up roots r ds (s + n) x.1)

mutual
  pub command_up : (roots : Roots Marked) → Rising roots → (c : Command) (s : ℕ) (E : Exits) (f : ℕ) → f ≤ (emit Plain roots c s E f).1
  command_up roots r (commands.Call e) s E f = r.up (Value s e) 0 f
  command_up roots r (commands.Assign v a) s E f = r.up (Assign s v a) 0 f
  command_up roots r (commands.If sense e b) s E f =
      let t = roots (Test s (not sense) e) f (f + 1) in
      less f 1 _ (upto (f + 1) t.1 _ (r.up (Test s (not sense) e) f (f + 1)) (block_up roots r b s E t.1))
  command_up roots r (commands.Test e b c) s E f =
      let t = roots (Test s false e) f (f + 2) in
      let x = emit_block Plain roots b s E t.1 in
      less f 2 _ (upto (f + 2) t.1 _ (r.up (Test s false e) f (f + 2)) (upto t.1 x.1 _ (block_up roots r b s E t.1) (block_up roots r c s E x.1)))
  command_up roots r (commands.While sense e b) s E f =
      let t = roots (Test s (not sense) e) (f + 1) (f + 2) in
      less f 2 _ (upto (f + 2) t.1 _ (r.up (Test s (not sense) e) (f + 1) (f + 2)) (block_up roots r b s (record E { broken = f + 1; looped = f }) t.1))
  command_up roots r (commands.Repeat b) s E f = less f 2 _ (block_up roots r b s (record E { broken = f + 1; looped = f }) (f + 2))
  command_up roots r (commands.RepeatWhile b sense e) s E f =
      let x = emit_block Plain roots b s (record E { broken = f + 1; looped = f + 2 }) (f + 3) in
      less f 3 _ (upto (f + 3) x.1 _ (block_up roots r b s (record E { broken = f + 1; looped = f + 2 }) (f + 3)) (r.up (Test s sense e) f x.1))
  command_up roots r (commands.For start limit by b) s E f =
      let s1 = level_in_for s in
      let i = roots (Assign s1 start (Frame s)) 0 (f + 3) in
      let n = roots (Assign s1 limit (Frame (s + 1))) 0 i.1 in
      let t = roots (Test s1 true (end_of_for by s)) (f + 1) n.1 in
      let x = emit_block Plain roots b s1 (record E { broken = f + 1; looped = f + 2 }) t.1 in
      less f 3 _ (upto (f + 3) i.1 _ (r.up (Assign s1 start (Frame s)) 0 (f + 3)) (upto i.1 n.1 _ (r.up (Assign s1 limit (Frame (s + 1))) 0 i.1)
      (upto n.1 t.1 _ (r.up (Test s1 true (end_of_for by s)) (f + 1) n.1) (upto t.1 x.1 _ (block_up roots r b s1 (record E { broken = f + 1; looped = f + 2 }) t.1)
      (r.up (Assign s1 (step_of_for by s) (Frame s)) 0 x.1)))))
  command_up roots r (commands.SwitchOn e is) s E f =
      let g = f + 1 + entries_in is in
      let v = roots (Value s e) 0 g in
      let E1 = record E { cases = f; labels = labelled is v.1 E.labels } in
      less f 1 _ (less (f + 1) (entries_in is) _ (upto g v.1 _ (r.up (Value s e) 0 g) (less v.1 (labels_in is) _ (items_up roots r is s E1 (f + 1) (v.1 + labels_in is)))))
  command_up roots r commands.Break s E f = omega arith
  command_up roots r commands.Loop s E f = omega arith
  command_up roots r commands.EndCase s E f = omega arith
  command_up roots r commands.Return s E f = omega arith
  command_up roots r (commands.ResultIs e) s E f = r.up (Value s e) 0 f
  command_up roots r commands.Finish s E f = omega arith
  command_up roots r (commands.Goto l) s E f = omega arith
  command_up roots r (commands.Nested b) s E f = block_up roots r b s E f

  pub block_up : (roots : Roots Marked) → Rising roots → (b : Block) (s : ℕ) (E : Exits) (f : ℕ) → f ≤ (emit_block Plain roots b s E f).1
  block_up roots r (block ds is) s E f =
      let d = emit_declarations roots ds s (f + labels_in is) in
      less f (labels_in is) _ (upto (f + labels_in is) d.1 _ (declarations_up roots r ds s (f + labels_in is))
      (items_up roots r is (s + cells_declared ds) (record E { labels = labelled is f E.labels }) 0 d.1))

  pub items_up : (roots : Roots Marked) → Rising roots → (is : Items) (s : ℕ) (E : Exits) (first f : ℕ) → f ≤ (emit_items Plain roots is s E first f).1
  items_up roots r no_item s E first f = omega arith
  items_up roots r (command c is) s E first f =
      let x = emit Plain roots c s E f in
      upto f x.1 _ (command_up roots r c s E f) (items_up roots r is s E first x.1)
  items_up roots r (case v is) s E first f = items_up roots r is s E (first + 1) f
  items_up roots r (default is) s E first f = items_up roots r is s E (first + 1) f
  items_up roots r (label l is) s E first f = items_up roots r is s E first f

pub fill_up : (levels : ℕ → ℕ) (bodies : BodiesCode Marked) → Growing bodies → (ps : List Piece) (f : ℕ) → f ≤ (fill Plain levels bodies ps f).1
fill_up levels bodies b [] f = omega arith
fill_up levels bodies b (pieces.Item i ∷ ps) f = fill_up levels bodies b ps f
fill_up levels bodies b (pieces.Body n ∷ ps) f =
    let x = bodies n (levels n) (label_ahead ps) f in
    upto f x.1 _ (b.up n (levels n) (label_ahead ps) f) (fill_up levels bodies b ps x.1)

pub marked_up : (coding : Coding) (levels : ℕ → ℕ) (bodies : BodiesCode Marked) → Growing bodies → Rising (marked_over coding levels bodies)
marked_up coding levels bodies b = record { up = λ r t f. less f (coding.labels r) _ (fill_up levels bodies b (coding.pieces r t f) (f + coding.labels r)) }

chosen_up : (t : Bool) (x y : Code Marked) (f : ℕ) → f ≤ x.1 → f ≤ y.1 → f ≤ (elim t as (λ v. Code Marked) [ true ↦ x | false ↦ y ]).1
chosen_up true x y f h k = h
chosen_up false x y f h k = k

pub bodies_up : (coding : Coding) (levels : ℕ → ℕ) (first : ℕ) (vs : List Valof) → Growing (bodies_from Plain (marked_over coding levels) first vs)
bodies_up coding levels first [] = record { up = λ n s l f. omega arith }
bodies_up coding levels first (v ∷ vs) =
    let inner = bodies_from Plain (marked_over coding levels) (first + 1) vs in
    let g = bodies_up coding levels (first + 1) vs in
    record {
      up = λ n s l f. chosen_up (n == first) (emit_valof Plain (marked_over coding levels inner) v.body n s l f) (inner n s l f) f
          (block_up (marked_over coding levels inner) (marked_up coding levels inner g) v.body s (body_exits l) f) (g.up n s l f);
    }

body_up : (roots : Roots Marked) → Rising roots → (b : Body) (s f : ℕ) → f ≤ (emit_body Plain roots b s f).1
body_up roots r (Gives e) s f = r.up (Value s e) 0 f
body_up roots r (Does b) s f = block_up roots r b s (body_exits 0) f

pub routines_up : (roots : Roots Marked) → Rising roots → (j : ℕ) (ps : List Place) (f : ℕ) → f ≤ (emit_routines Plain roots j ps f).1
routines_up roots r j [] f = omega arith
routines_up roots r j (commands.Code p ∷ ps) f =
    let x = emit_body Plain roots p.body (level_after_parameters p.parameters) f in
    upto f x.1 _ (body_up roots r p.body (level_after_parameters p.parameters) f) (routines_up roots r (j + 1) ps x.1)
routines_up roots r j (commands.Static w ∷ ps) f = routines_up roots r (j + 1) ps f
routines_up roots r j (commands.Table ws ∷ ps) f = routines_up roots r (j + 1) ps f
routines_up roots r j (commands.Text bytes ∷ ps) f = routines_up roots r (j + 1) ps f
