-- The marks in a section's code belong to its roots, in the order of the walk.
use Rattle.std.proofs.Common.{◌≡◌, ◌∙◌, ℕ, suc, ◌+◌, ◌==◌, Bool, true, false, not, cond, List, [], ◌∷◌, ◌++◌, map, length, refl, ap, sym, arith, append-nil}
use Rattle.std.specs.Prelude.{flat_map}
use Rattle.std.proofs.lemmas.Bool.{eqb-true}
use Rattle.bc_text_items.specs.declared.item.Item.{Item}
use Rattle.bc_core.specs.Tree.{Frame, Root, Value, Test, Assign}
use Rattle.bc_core.specs.Commands.{Variable, Initial, Vector, Command, Block, block, Items, no_item, command, case, default, label, Body, Gives, Does, Place, Valof}
use Rattle.bc_core.specs.Commands as commands
use Rattle.bc_core.specs.Level.{cells_of, cells_of_all, cells_declared, level_in_for, level_after_parameters}
use Rattle.bc_core.specs.Command.{step_of_for}
use Rattle.bc_rules_defs.specs.declared.rule.Table.{Table}
use Rattle.bc_rules_defs.specs.declared.piece.Piece.{Piece}
use Rattle.bc_rules_defs.specs.declared.piece.Piece.TheVariants as pieces
use Rattle.bc_rules_defs.specs.Code.{root_code, root_labels}
use Rattle.bc_rules_defs.specs.Entry.{Entry}
use Rattle.bc_gen_defs.specs.Emit.{Code, Roots, Exits, zero_item, labelled, labels_in, entries_in, table_of, emit_variable, emit_variables, emit_declarations, end_of_for, emit, emit_block, emit_items}
use Rattle.bc_gen_defs.specs.Bodies.{Choice, BodiesCode, coding_of, fill, label_ahead, body_exits, emit_valof, bodies_from, emit_body, level_of}
use Rattle.bc_gen_defs.specs.Section.{emit_routines}
use Rattle.bc_gen_defs.specs.Entries.{Marked, Plain, Begins, entries_from, marked_over, marked_code}
use Rattle.bc_gen_laws.specs.roots.Roots.{bodies_in, in_code, Counted, with_bodies, roots_of_variable, roots_of_variables, roots_of_declarations, roots_of_command, roots_of_block, roots_of_items, roots_of_bodies, roots_of_body, roots_of_places}
use Rattle.bc_gen_laws.specs.roots.Laws.{EntriesAreOfTheRoots}
use Rattle.bc_gen_laws.proofs.root_lemmas.Valofs.{same_bodies}

abbrev marked : List Marked → List Root
marked [] = []
marked (Plain i ∷ ps) = marked ps
marked (Begins m ∷ ps) = m.root ∷ marked ps

-- exactly these roots are marked in this code
record Has (ps : List Marked) (rs : List Root) : Type 0 where
  is : marked ps ≡ rs

marked_append : (xs ys : List Marked) → marked (xs ++ ys) ≡ marked xs ++ marked ys
marked_append [] ys = refl
marked_append (Plain i ∷ xs) ys = marked_append xs ys
marked_append (Begins m ∷ xs) ys = ap (λ rs. m.root ∷ rs) (marked_append xs ys)

none : Has [] []
none = record { is = refl }

both : {xs ys : List Marked} {rs qs : List Root} → Has xs rs → Has ys qs → Has (xs ++ ys) (rs ++ qs)
both {xs = xs} {ys = ys} {rs = rs} h i = record { is = marked_append xs ys ∙ ap (λ l. l ++ marked ys) h.is ∙ ap (λ l. rs ++ l) i.is }

-- followed by code without marks
last : {xs ys : List Marked} {rs : List Root} → Has xs rs → Has ys [] → Has (xs ++ ys) rs
last {rs = rs} h i = let b = both h i in record { is = b.is ∙ append-nil rs }

item : {ps : List Marked} {rs : List Root} (i : Item) → Has ps rs → Has (Plain i ∷ ps) rs
item i h = record { is = h.is }

table_has : (is : Items) (first : ℕ) → Has (table_of Plain is first) []
table_has no_item first = none
table_has (command c is) first = table_has is first
table_has (case k is) first = item _ (item _ (table_has is (first + 1)))
table_has (default is) first = table_has is (first + 1)
table_has (label k is) first = table_has is first

record Counts (roots : Roots Marked) (of : Counted) : Type 0 where
  each : (r : Root) (t f : ℕ) → Has (roots r t f).0 (of r)

variable_has : (roots : Roots Marked) (of : Counted) → Counts roots of → (v : Variable) (k s f : ℕ) → Has (emit_variable roots v k s f).0 (roots_of_variable of v k s)
variable_has roots of r (Initial e) k s f = r.each (Assign s e (Frame k)) 0 f
variable_has roots of r (Vector n) k s f = r.each (Assign s (Frame (k + 1)) (Frame k)) 0 f

variables_have : (roots : Roots Marked) (of : Counted) → Counts roots of → (vs : List Variable) (k s f : ℕ) → Has (emit_variables roots vs k s f).0 (roots_of_variables of vs k s)
variables_have roots of r [] k s f = none
variables_have roots of r (v ∷ vs) k s f =
    let x = emit_variable roots v k s f in
    both (variable_has roots of r v k s f) (variables_have roots of r vs (k + cells_of v) s x.1)

declarations_have : (roots : Roots Marked) (of : Counted) → Counts roots of → (ds : List (List Variable)) (s f : ℕ) → Has (emit_declarations roots ds s f).0 (roots_of_declarations of ds s)
declarations_have roots of r [] s f = none
declarations_have roots of r (vs ∷ ds) s f =
    let n = cells_of_all vs in
    let x = emit_variables roots vs s (s + n) f in
    both (variables_have roots of r vs s (s + n) f) (declarations_have roots of r ds (s + n) x.1)

mutual
  command_has : (roots : Roots Marked) (of : Counted) → Counts roots of → (c : Command) (s : ℕ) (E : Exits) (f : ℕ) → Has (emit Plain roots c s E f).0 (roots_of_command of c s)
  command_has roots of r (commands.Call e) s E f = r.each (Value s e) 0 f
  command_has roots of r (commands.Assign v a) s E f = r.each (Assign s v a) 0 f
  command_has roots of r (commands.If sense e b) s E f =
      let t = roots (Test s (not sense) e) f (f + 1) in
      both (r.each (Test s (not sense) e) f (f + 1)) (last (block_has roots of r b s E t.1) (item _ none))
  command_has roots of r (commands.Test e b c) s E f =
      let t = roots (Test s false e) f (f + 2) in
      let x = emit_block Plain roots b s E t.1 in
      both (r.each (Test s false e) f (f + 2)) (both (block_has roots of r b s E t.1) (item _ (item _ (last (block_has roots of r c s E x.1) (item _ none)))))
  command_has roots of r (commands.While sense e b) s E f =
      let t = roots (Test s (not sense) e) (f + 1) (f + 2) in
      item _ (both (r.each (Test s (not sense) e) (f + 1) (f + 2)) (last (block_has roots of r b s (record E { broken = f + 1; looped = f }) t.1) (item _ (item _ none))))
  command_has roots of r (commands.Repeat b) s E f =
      item _ (last (block_has roots of r b s (record E { broken = f + 1; looped = f }) (f + 2)) (item _ (item _ none)))
  command_has roots of r (commands.RepeatWhile b sense e) s E f =
      let x = emit_block Plain roots b s (record E { broken = f + 1; looped = f + 2 }) (f + 3) in
      item _ (both (block_has roots of r b s (record E { broken = f + 1; looped = f + 2 }) (f + 3)) (item _ (last (r.each (Test s sense e) f x.1) (item _ none))))
  command_has roots of r (commands.For start limit by b) s E f =
      let s1 = level_in_for s in
      let i = roots (Assign s1 start (Frame s)) 0 (f + 3) in
      let n = roots (Assign s1 limit (Frame (s + 1))) 0 i.1 in
      let t = roots (Test s1 true (end_of_for by s)) (f + 1) n.1 in
      let x = emit_block Plain roots b s1 (record E { broken = f + 1; looped = f + 2 }) t.1 in
      both (r.each (Assign s1 start (Frame s)) 0 (f + 3)) (both (r.each (Assign s1 limit (Frame (s + 1))) 0 i.1)
      (item _ (both (r.each (Test s1 true (end_of_for by s)) (f + 1) n.1)
      (both (block_has roots of r b s1 (record E { broken = f + 1; looped = f + 2 }) t.1)
      (item _ (last (r.each (Assign s1 (step_of_for by s) (Frame s)) 0 x.1) (item _ (item _ none))))))))
  command_has roots of r (commands.SwitchOn e is) s E f =
      let v = roots (Value s e) 0 (f + 1 + entries_in is) in
      let E1 = record E { cases = f; labels = labelled is v.1 E.labels } in
      both (r.each (Value s e) 0 (f + 1 + entries_in is)) (item _ (item _ (item _ (both (table_has is (f + 1)) (last (items_have roots of r is s E1 (f + 1) (v.1 + labels_in is)) (item _ none))))))
  command_has roots of r commands.Break s E f = item _ none
  command_has roots of r commands.Loop s E f = item _ none
  command_has roots of r commands.EndCase s E f = item _ none
  command_has roots of r commands.Return s E f = item _ (item _ none)
  command_has roots of r (commands.ResultIs e) s E f = last (r.each (Value s e) 0 f) (item _ none)
  command_has roots of r commands.Finish s E f = item _ none
  command_has roots of r (commands.Goto l) s E f = item _ none
  command_has roots of r (commands.Nested b) s E f = block_has roots of r b s E f

  block_has : (roots : Roots Marked) (of : Counted) → Counts roots of → (b : Block) (s : ℕ) (E : Exits) (f : ℕ) → Has (emit_block Plain roots b s E f).0 (roots_of_block of b s)
  block_has roots of r (block ds is) s E f =
      let d = emit_declarations roots ds s (f + labels_in is) in
      both (declarations_have roots of r ds s (f + labels_in is)) (items_have roots of r is (s + cells_declared ds) (record E { labels = labelled is f E.labels }) 0 d.1)

  items_have : (roots : Roots Marked) (of : Counted) → Counts roots of → (is : Items) (s : ℕ) (E : Exits) (first f : ℕ) → Has (emit_items Plain roots is s E first f).0 (roots_of_items of is s)
  items_have roots of r no_item s E first f = none
  items_have roots of r (command c is) s E first f =
      let x = emit Plain roots c s E f in
      both (command_has roots of r c s E f) (items_have roots of r is s E first x.1)
  items_have roots of r (case k is) s E first f = item _ (items_have roots of r is s E (first + 1) f)
  items_have roots of r (default is) s E first f = item _ (items_have roots of r is s E (first + 1) f)
  items_have roots of r (label l is) s E first f = item _ (items_have roots of r is s E first f)

-- ---- Bodies

-- the bodies of VALOFs, each at its level
record BodiesHave (levels : ℕ → ℕ) (bodies : BodiesCode Marked) (within : ℕ → List Root) : Type 0 where
  each : (n l f : ℕ) → Has (bodies n (levels n) l f).0 (within n)

fill_has : (levels : ℕ → ℕ) (bodies : BodiesCode Marked) (within : ℕ → List Root) → BodiesHave levels bodies within → (ps : List Piece) (f : ℕ)
    → Has (fill Plain levels bodies ps f).0 (flat_map within (bodies_in ps))
fill_has levels bodies within h [] f = none
fill_has levels bodies within h (pieces.Item i ∷ ps) f = item i (fill_has levels bodies within h ps f)
fill_has levels bodies within h (pieces.Body n ∷ ps) f =
    let b = bodies n (levels n) (label_ahead ps) f in
    both (h.each n (label_ahead ps) f) (fill_has levels bodies within h ps b.1)

roots_count : {T : Table} (choice : Choice T) (levels : ℕ → ℕ) (bodies : BodiesCode Marked) (within : ℕ → List Root) → BodiesHave levels bodies within
    → Counts (marked_over (coding_of choice) levels bodies) (with_bodies (in_code choice) within)
roots_count choice levels bodies within h = record {
  each = λ r t f.
      let ps = root_code (choice r) t f in
      let x = fill_has levels bodies within h ps (f + root_labels (choice r)) in
      record { is = ap (λ rs. r ∷ rs) (x.is ∙ ap (flat_map within) (same_bodies (choice r) t f)) };
}

-- the levels of these VALOFs, whose numbers begin with `first`
abbrev AreTheirLevels : (levels : ℕ → ℕ) → (first : ℕ) → List Valof → Type 0
AreTheirLevels levels first vs = (k : ℕ) → level_of vs k ≡ levels (first + k)

pub own_level : (levels : ℕ → ℕ) (first : ℕ) (v : Valof) (vs : List Valof) → AreTheirLevels levels first (v ∷ vs) → (n : ℕ) → (n == first) ≡ true → levels n ≡ v.level
own_level levels first v vs h n e = ap levels (eqb-true n first e) ∙ ap levels (let z : first ≡ first + 0 = omega arith in z) ∙ sym (h 0)

pub further_levels : (levels : ℕ → ℕ) (first : ℕ) (v : Valof) (vs : List Valof) → AreTheirLevels levels first (v ∷ vs) → AreTheirLevels levels (first + 1) vs
further_levels levels first v vs h k = h (suc k) ∙ ap levels (let z : first + suc k ≡ first + 1 + k = omega arith in z)

-- the body with this number, or a later one
one_body : {T : Table} (choice : Choice T) (levels : ℕ → ℕ) (first : ℕ) (v : Valof) (vs : List Valof) → AreTheirLevels levels first (v ∷ vs)
    → BodiesHave levels (bodies_from Plain (marked_over (coding_of choice) levels) (first + 1) vs) (roots_of_bodies (in_code choice) (first + 1) vs)
    → (n l f : ℕ) (b : Bool) → (n == first) ≡ b
    → (let inner = bodies_from Plain (marked_over (coding_of choice) levels) (first + 1) vs in
    let within = roots_of_bodies (in_code choice) (first + 1) vs in
    Has (let z : Code Marked = elim b [ true ↦ emit_valof Plain (marked_over (coding_of choice) levels inner) v.body n (levels n) l f | false ↦ inner n (levels n) l f ] in z.0)
    (cond b (roots_of_block (with_bodies (in_code choice) within) v.body v.level) (within n)))
one_body choice levels first v vs h rest n l f true e =
    let inner = bodies_from Plain (marked_over (coding_of choice) levels) (first + 1) vs in
    let within = roots_of_bodies (in_code choice) (first + 1) vs in
    let of = with_bodies (in_code choice) within in
    let x = block_has (marked_over (coding_of choice) levels inner) of (roots_count choice levels inner within rest) v.body (levels n) (body_exits l) f in
    let y = last x (item zero_item none) in
    record { is = y.is ∙ ap (roots_of_block of v.body) (own_level levels first v vs h n e) }
one_body choice levels first v vs h rest n l f false e = rest.each n l f

bodies_have : {T : Table} (choice : Choice T) (levels : ℕ → ℕ) (first : ℕ) (vs : List Valof) → AreTheirLevels levels first vs
    → BodiesHave levels (bodies_from Plain (marked_over (coding_of choice) levels) first vs) (roots_of_bodies (in_code choice) first vs)
bodies_have choice levels first [] h = record { each = λ n l f. none }
bodies_have choice levels first (v ∷ vs) h = record {
  each = λ n l f. one_body choice levels first v vs h (bodies_have choice levels (first + 1) vs (further_levels levels first v vs h)) n l f (n == first) refl;
}

body_has : (roots : Roots Marked) (of : Counted) → Counts roots of → (b : Body) (s f : ℕ) → Has (emit_body Plain roots b s f).0 (roots_of_body of b s)
body_has roots of r (Gives e) s f = last (r.each (Value s e) 0 f) (item _ none)
body_has roots of r (Does b) s f = last (block_has roots of r b s (body_exits 0) f) (item _ (item _ none))

routines_have : (roots : Roots Marked) (of : Counted) → Counts roots of → (j : ℕ) (ps : List Place) (f : ℕ) → Has (emit_routines Plain roots j ps f).0 (roots_of_places of ps)
routines_have roots of r j [] f = none
routines_have roots of r j (commands.Code p ∷ ps) f =
    let x = emit_body Plain roots p.body (level_after_parameters p.parameters) f in
    item _ (both (body_has roots of r p.body (level_after_parameters p.parameters) f) (routines_have roots of r (j + 1) ps x.1))
routines_have roots of r j (commands.Static w ∷ ps) f = routines_have roots of r (j + 1) ps f
routines_have roots of r j (commands.Table ws ∷ ps) f = routines_have roots of r (j + 1) ps f
routines_have roots of r j (commands.Text bytes ∷ ps) f = routines_have roots of r (j + 1) ps f

entries_marked : (k : ℕ) (ps : List Marked) → map (λ (e : Entry). e.root) (entries_from k ps) ≡ marked ps
entries_marked k [] = refl
entries_marked k (Plain i ∷ ps) = entries_marked (k + 1) ps
entries_marked k (Begins m ∷ ps) = ap (λ rs. m.root ∷ rs) (entries_marked k ps)

pub entries_are_of_the_roots : EntriesAreOfTheRoots
entries_are_of_the_roots T choice core =
    let levels = level_of core.valofs in
    let bodies = bodies_from Plain (marked_over (coding_of choice) levels) 0 core.valofs in
    let own : AreTheirLevels levels 0 core.valofs = λ k. ap levels (let z : k ≡ 0 + k = omega arith in z) in
    let counts = roots_count choice levels bodies (roots_of_bodies (in_code choice) 0 core.valofs) (bodies_have choice levels 0 core.valofs own) in
    let all = routines_have (marked_over (coding_of choice) levels bodies) (with_bodies (in_code choice) (roots_of_bodies (in_code choice) 0 core.valofs)) counts 0 core.places (length core.places + 1) in
    entries_marked 0 (marked_code (coding_of choice) core) ∙ all.is
