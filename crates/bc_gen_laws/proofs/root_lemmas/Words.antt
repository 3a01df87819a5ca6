-- A section takes the fixed words of its commands and data, and the words of its roots.
use Rattle.std.proofs.Common.{◌≡◌, ◌∙◌, ℕ, ◌+◌, ◌/◌, ◌==◌, Bool, true, false, not, cond, List, [], ◌∷◌, ◌++◌, length, refl, ap, arith}
use Rattle.std.specs.Prelude.{sum_by, flat_map}
use Rattle.std.proofs.lemmas.List.Sums.{sum_by-cons, sum_by-append}
use Rattle.bc_core.specs.Tree.{Frame, Root, Value, Test, Assign}
use Rattle.bc_core.specs.Commands.{Variable, Initial, Vector, Command, Block, block, Items, no_item, command, case, default, label, Body, Gives, Does, Place, Valof}
use Rattle.bc_core.specs.Commands as commands
use Rattle.bc_core.specs.Level.{cells_of, cells_of_all, cells_declared, level_in_for, level_after_parameters}
use Rattle.bc_core.specs.Command.{step_of_for}
use Rattle.bc_rules_defs.specs.declared.rule.Table.{Table}
use Rattle.bc_rules_defs.specs.Code.{root_cost}
use Rattle.bc_gen_defs.specs.Bodies.{Choice, level_of}
use Rattle.bc_gen_defs.specs.Emit.{end_of_for}
use Rattle.bc_gen_defs.specs.Size.{Words, words_of_variable, words_of_variables, words_of_declarations, words_of_command, words_of_block, words_of_items, with_bodies, words_of_bodies, words_of_body, words_of_places}
use Rattle.bc_gen_laws.proofs.size_lemmas.Sections.{sections_have_their_size}
use Rattle.bc_gen_laws.specs.roots.Roots as walk
use Rattle.bc_gen_laws.specs.roots.Roots.{in_code, Counted, roots_of_variable, roots_of_variables, roots_of_declarations, roots_of_command, roots_of_block, roots_of_items, roots_of_bodies, roots_of_body, roots_of_places}
use Rattle.bc_gen_laws.specs.roots.Laws.{SizeIsByTheRoots}
use Rattle.bc_gen_laws.proofs.root_lemmas.Valofs.{words_of_root}
use Rattle.bc_gen_laws.proofs.root_lemmas.Marks.{own_level, further_levels}

-- the words of something are its fixed words and the own words of all roots that it contributes
record Splits (own words fixed : Words) (of : Counted) : Type 0 where
  each : (r : Root) → words r ≡ fixed r + sum_by own (of r)

-- two parts
two : (own : Words) (xs ys : List Root) (c d : ℕ) {a b : ℕ} → a ≡ c + sum_by own xs → b ≡ d + sum_by own ys → a + b ≡ (c + d) + sum_by own (xs ++ ys)
two own xs ys c d h i = let k = sum_by-append own xs ys in omega (arith, h, i, k)

variable_splits : (own words fixed : Words) (of : Counted) → Splits own words fixed of → (v : Variable) (k s : ℕ) → words_of_variable words v k s ≡ words_of_variable fixed v k s + sum_by own (roots_of_variable of v k s)
variable_splits own words fixed of h (Initial e) k s = h.each (Assign s e (Frame k))
variable_splits own words fixed of h (Vector n) k s = h.each (Assign s (Frame (k + 1)) (Frame k))

variables_split : (own words fixed : Words) (of : Counted) → Splits own words fixed of → (vs : List Variable) (k s : ℕ) → words_of_variables words vs k s ≡ words_of_variables fixed vs k s + sum_by own (roots_of_variables of vs k s)
variables_split own words fixed of h [] k s = refl
variables_split own words fixed of h (v ∷ vs) k s =
    two own (roots_of_variable of v k s) (roots_of_variables of vs (k + cells_of v) s) _ _ (variable_splits own words fixed of h v k s) (variables_split own words fixed of h vs (k + cells_of v) s)

declarations_split : (own words fixed : Words) (of : Counted) → Splits own words fixed of → (ds : List (List Variable)) (s : ℕ) → words_of_declarations words ds s ≡ words_of_declarations fixed ds s + sum_by own (roots_of_declarations of ds s)
declarations_split own words fixed of h [] s = refl
declarations_split own words fixed of h (vs ∷ ds) s =
    let n = cells_of_all vs in
    two own (roots_of_variables of vs s (s + n)) (roots_of_declarations of ds (s + n)) _ _ (variables_split own words fixed of h vs s (s + n)) (declarations_split own words fixed of h ds (s + n))

mutual
  command_splits : (own words fixed : Words) (of : Counted) → Splits own words fixed of → (c : Command) (s : ℕ) → words_of_command words c s ≡ words_of_command fixed c s + sum_by own (roots_of_command of c s)
  command_splits own words fixed of h (commands.Call e) s = h.each (Value s e)
  command_splits own words fixed of h (commands.Assign v a) s = h.each (Assign s v a)
  command_splits own words fixed of h (commands.If sense e b) s = two own (of (Test s (not sense) e)) (roots_of_block of b s) _ _ (h.each (Test s (not sense) e)) (block_splits own words fixed of h b s)
  command_splits own words fixed of h (commands.Test e b c) s =
      let i =
      two own (of (Test s false e)) (roots_of_block of b s ++ roots_of_block of c s) _ _ (h.each (Test s false e))
      (two own (roots_of_block of b s) (roots_of_block of c s) _ _ (block_splits own words fixed of h b s) (block_splits own words fixed of h c s)) in
      omega (arith, i)
  command_splits own words fixed of h (commands.While sense e b) s =
      let i = two own (of (Test s (not sense) e)) (roots_of_block of b s) _ _ (h.each (Test s (not sense) e)) (block_splits own words fixed of h b s) in
      omega (arith, i)
  command_splits own words fixed of h (commands.Repeat b) s = let i = block_splits own words fixed of h b s in omega (arith, i)
  command_splits own words fixed of h (commands.RepeatWhile b sense e) s = two own (roots_of_block of b s) (of (Test s sense e)) _ _ (block_splits own words fixed of h b s) (h.each (Test s sense e))
  command_splits own words fixed of h (commands.For start limit by b) s =
      let s1 = level_in_for s in
      let step = of (Assign s1 (step_of_for by s) (Frame s)) in
      let body = roots_of_block of b s1 in
      let test = of (Test s1 true (end_of_for by s)) in
      let last = of (Assign s1 limit (Frame (s + 1))) in
      let i4 = two own body step _ _ (block_splits own words fixed of h b s1) (h.each (Assign s1 (step_of_for by s) (Frame s))) in
      let i3 = two own test (body ++ step) _ _ (h.each (Test s1 true (end_of_for by s))) i4 in
      let i2 = two own last (test ++ (body ++ step)) _ _ (h.each (Assign s1 limit (Frame (s + 1)))) i3 in
      let i1 = two own (of (Assign s1 start (Frame s))) (last ++ (test ++ (body ++ step))) _ _ (h.each (Assign s1 start (Frame s))) i2 in
      omega (arith, i1)
  command_splits own words fixed of h (commands.SwitchOn e is) s =
      let i = two own (of (Value s e)) (roots_of_items of is s) _ _ (h.each (Value s e)) (items_split own words fixed of h is s) in
      omega (arith, i)
  command_splits own words fixed of h commands.Break s = refl
  command_splits own words fixed of h commands.Loop s = refl
  command_splits own words fixed of h commands.EndCase s = refl
  command_splits own words fixed of h commands.Return s = refl
  command_splits own words fixed of h (commands.ResultIs e) s = let i = h.each (Value s e) in omega (arith, i)
  command_splits own words fixed of h commands.Finish s = refl
  command_splits own words fixed of h (commands.Goto l) s = refl
  command_splits own words fixed of h (commands.Nested b) s = block_splits own words fixed of h b s

  block_splits : (own words fixed : Words) (of : Counted) → Splits own words fixed of → (b : Block) (s : ℕ) → words_of_block words b s ≡ words_of_block fixed b s + sum_by own (roots_of_block of b s)
  block_splits own words fixed of h (block ds is) s =
      two own (roots_of_declarations of ds s) (roots_of_items of is (s + cells_declared ds)) _ _ (declarations_split own words fixed of h ds s) (items_split own words fixed of h is (s + cells_declared ds))

  items_split : (own words fixed : Words) (of : Counted) → Splits own words fixed of → (is : Items) (s : ℕ) → words_of_items words is s ≡ words_of_items fixed is s + sum_by own (roots_of_items of is s)
  items_split own words fixed of h no_item s = refl
  items_split own words fixed of h (command c is) s = two own (roots_of_command of c s) (roots_of_items of is s) _ _ (command_splits own words fixed of h c s) (items_split own words fixed of h is s)
  items_split own words fixed of h (case k is) s = items_split own words fixed of h is s
  items_split own words fixed of h (default is) s = items_split own words fixed of h is s
  items_split own words fixed of h (label l is) s = items_split own words fixed of h is s

-- ---- Bodies

abbrev zero_words : Words
zero_words r = 0

record BodiesSplit (own : Words) (words fixed : ℕ → ℕ) (within : ℕ → List Root) : Type 0 where
  each : (n : ℕ) → words n ≡ fixed n + sum_by own (within n)

all_split : (own : Words) (words fixed : ℕ → ℕ) (within : ℕ → List Root) → BodiesSplit own words fixed within → (ns : List ℕ) → sum_by words ns ≡ sum_by fixed ns + sum_by own (flat_map within ns)
all_split own words fixed within h [] = refl
all_split own words fixed within h (n ∷ ns) =
    let a = sum_by-cons words n ns in
    let b = sum_by-cons fixed n ns in
    let i = two own (within n) (flat_map within ns) _ _ (h.each n) (all_split own words fixed within h ns) in
    omega (arith, a, b, i)

roots_split : {T : Table} (choice : Choice T) (own : Words) (words fixed : ℕ → ℕ) (within : ℕ → List Root) → BodiesSplit own words fixed within
    → Splits own (with_bodies own words) (with_bodies zero_words fixed) (walk.with_bodies (in_code choice) within)
roots_split choice own words fixed within h = record {
  each = λ r.
      let ns = in_code choice r in
      let a = words_of_root words (choice r) in
      let b = words_of_root fixed (choice r) in
      let i = all_split own words fixed within h ns in
      let c = sum_by-cons own r (flat_map within ns) in
      omega (arith, a, b, i, c);
}

one_body : {T : Table} (choice : Choice T) (own : Words) (levels : ℕ → ℕ) (first : ℕ) (v : Valof) (vs : List Valof) → ((k : ℕ) → level_of (v ∷ vs) k ≡ levels (first + k))
    → BodiesSplit own (words_of_bodies own levels (first + 1) vs) (words_of_bodies zero_words levels (first + 1) vs) (roots_of_bodies (in_code choice) (first + 1) vs)
    → (n : ℕ) (b : Bool) → (n == first) ≡ b
    → (let words = words_of_bodies own levels (first + 1) vs in
    let fixed = words_of_bodies zero_words levels (first + 1) vs in
    let within = roots_of_bodies (in_code choice) (first + 1) vs in
    (let k : ℕ = elim b [ true ↦ words_of_block (with_bodies own words) v.body (levels n) + 1 | false ↦ words n ] in k)
    ≡ (let k : ℕ = elim b [ true ↦ words_of_block (with_bodies zero_words fixed) v.body (levels n) + 1 | false ↦ fixed n ] in k)
    + sum_by own (cond b (roots_of_block (walk.with_bodies (in_code choice) within) v.body v.level) (within n)))
one_body choice own levels first v vs h rest n true e =
    let words = words_of_bodies own levels (first + 1) vs in
    let fixed = words_of_bodies zero_words levels (first + 1) vs in
    let within = roots_of_bodies (in_code choice) (first + 1) vs in
    let of = walk.with_bodies (in_code choice) within in
    let i = block_splits own (with_bodies own words) (with_bodies zero_words fixed) of (roots_split choice own words fixed within rest) v.body (levels n) in
    let l = ap (λ s. sum_by own (roots_of_block of v.body s)) (own_level levels first v vs h n e) in
    omega (arith, i, l)
one_body choice own levels first v vs h rest n false e = rest.each n

bodies_split : {T : Table} (choice : Choice T) (own : Words) (levels : ℕ → ℕ) (first : ℕ) (vs : List Valof) → ((k : ℕ) → level_of vs k ≡ levels (first + k))
    → BodiesSplit own (words_of_bodies own levels first vs) (words_of_bodies zero_words levels first vs) (roots_of_bodies (in_code choice) first vs)
bodies_split choice own levels first [] h = record { each = λ n. refl }
bodies_split choice own levels first (v ∷ vs) h = record {
  each = λ n. one_body choice own levels first v vs h (bodies_split choice own levels (first + 1) vs (further_levels levels first v vs h)) n (n == first) refl;
}

body_splits : (own words fixed : Words) (of : Counted) → Splits own words fixed of → (b : Body) (s : ℕ) → words_of_body words b s ≡ words_of_body fixed b s + sum_by own (roots_of_body of b s)
body_splits own words fixed of h (Gives e) s = let i = h.each (Value s e) in omega (arith, i)
body_splits own words fixed of h (Does b) s = let i = block_splits own words fixed of h b s in omega (arith, i)

places_split : (own words fixed : Words) (of : Counted) → Splits own words fixed of → (ps : List Place) → words_of_places words ps ≡ words_of_places fixed ps + sum_by own (roots_of_places of ps)
places_split own words fixed of h [] = refl
places_split own words fixed of h (commands.Code r ∷ ps) =
    let s = level_after_parameters r.parameters in
    two own (roots_of_body of r.body s) (roots_of_places of ps) _ _ (body_splits own words fixed of h r.body s) (places_split own words fixed of h ps)
places_split own words fixed of h (commands.Static w ∷ ps) = let i = places_split own words fixed of h ps in omega (arith, i)
places_split own words fixed of h (commands.Table ws ∷ ps) = let i = places_split own words fixed of h ps in omega (arith, i)
places_split own words fixed of h (commands.Text bytes ∷ ps) = let i = places_split own words fixed of h ps in let d = (length bytes + 2) / 2 in omega (arith, i)

pub size_is_by_the_roots : SizeIsByTheRoots
size_is_by_the_roots T choice core =
    let levels = level_of core.valofs in
    let own : Words = λ r. root_cost (choice r) in
    let within = roots_of_bodies (in_code choice) 0 core.valofs in
    let theirs = λ (k : ℕ). ap levels (let z : k ≡ 0 + k = omega arith in z) in
    let bodies = bodies_split choice own levels 0 core.valofs theirs in
    let words = words_of_bodies own levels 0 core.valofs in
    let fixed = words_of_bodies zero_words levels 0 core.valofs in
    let roots = roots_split choice own words fixed within bodies in
    sections_have_their_size T choice core ∙ places_split own (with_bodies own words) (with_bodies zero_words fixed) (walk.with_bodies (in_code choice) within) roots core.places
