-- In a well-formed section every VALOF is at its level.
use Rattle.std.proofs.Common.{◌≡◌, ℕ, zero, suc, ◌+◌, ◌&&◌, Bool, true, false, List, [], ◌∷◌, refl}
use Rattle.std.specs.Prelude.{map, slice_get, length, not, nat_le}
use Rattle.std.proofs.lemmas.Bool.{eqb-true}
use Rattle.bc_core.specs.Tree.{Exp, Num, Frame, Glob, Place, Load, Neg, Not, Bin, Cond, Call, Args, no_argument, argument, count}
use Rattle.bc_core.specs.Tree as tree
use Rattle.bc_core.specs.Commands.{Variable, Initial, Vector, Command, Block, block, Items, no_item, command, case, default, label, Body, Gives, Does, Valof, Core}
use Rattle.bc_core.specs.Commands as commands
use Rattle.bc_core.specs.Level.{side_level, cells_of_all, cells_declared, level_in_for, level_after_parameters}
use Rattle.bc_core.specs.WellFormed.{nodes, entries_differ, most_nodes, Around, stands_at, exp_fits, args_fit, root_fits, assignment_fits, variables_fit, declarations_fit, Jumps, in_a_loop, in_list, jumps_in_routine, jumps_in_valof, has_entries, are_distinct, labels_of, command_fits, block_fits, items_fit, body_fits, place_fits, places_fit, valofs_fit, is_core, global_fits}
use Rattle.bc_core.specs.Layout.{frame_size}
use Rattle.bc_gen_defs.specs.Bodies.{level_of}
use Rattle.bc_right.specs.steps.Premises.{Levelled, AllLevelled}
use Rattle.bc_right.specs.commands.Levelled.{SidesLevelled, VariablesLevelled, DeclarationsLevelled, CommandLevelled, BlockLevelled, ItemsLevelled, BodyLevelled, ValofsLevelled}
use Rattle.bc_right.specs.commands.Section.{PlacesLevelled}

both_true : (a b : Bool) → (a && b) ≡ true → (a ≡ true) × (b ≡ true)
both_true true b e = (refl, e)
both_true false b e = absurd (let f : false ≡ true = e in cc)

-- the context of a body has the levels of the section's VALOFs
abbrev Agrees : (ℕ → ℕ) → Around → Type 0
Agrees levels A = (n s : ℕ) → stands_at (slice_get A.levels n) s ≡ true → levels n ≡ s

module _ (levels : ℕ → ℕ) (A : Around) (agrees : Agrees levels A) where
  mutual
    exp_levelled : (e : Exp) (s : ℕ) → exp_fits A e s ≡ true → Levelled levels e s
    exp_levelled (Load e) s h = exp_levelled e s h
    exp_levelled (Neg e) s h = exp_levelled e s h
    exp_levelled (Not e) s h = exp_levelled e s h
    exp_levelled (Bin op a b) s h = let k = both_true _ _ h in (exp_levelled a (s + 1) k.0, exp_levelled b (s + 1) k.1)
    exp_levelled (Cond c x y) s h =
        let k = both_true (exp_fits A c s && exp_fits A x s) (exp_fits A y s) h in
        let l = both_true (exp_fits A c s) (exp_fits A x s) k.0 in
        (exp_levelled c s l.0, exp_levelled x s l.1, exp_levelled y s k.1)
    exp_levelled (Call es f) s h = let k = both_true _ _ h in (all_levelled es (s + 2) k.0, exp_levelled f (s + 2 + count es) k.1)
    exp_levelled (tree.Valof n) s h = let k = both_true (nat_le A.first n) (stands_at (slice_get A.levels n) s) h in agrees n s k.1
    exp_levelled (Num n) s h = tt
    exp_levelled (Frame n) s h = tt
    exp_levelled (Glob n) s h = tt
    exp_levelled (Place n) s h = tt

    all_levelled : (es : Args) (s : ℕ) → args_fit A es s ≡ true → AllLevelled levels es s
    all_levelled no_argument s h = tt
    all_levelled (argument e es) s h = let k = both_true _ _ h in (exp_levelled e s k.0, all_levelled es (s + 1) k.1)

  root_levelled : (e : Exp) (s : ℕ) → root_fits A e s ≡ true → Levelled levels e s
  root_levelled e s h = exp_levelled e s (both_true (nat_le (nodes e) most_nodes) (exp_fits A e s) h).1

  sides_levelled : (v a : Exp) (s : ℕ) → assignment_fits A v a s ≡ true → SidesLevelled levels v a s
  sides_levelled v a s h =
      let k = both_true (nat_le (nodes v + nodes a) most_nodes && exp_fits A v (side_level a s)) (exp_fits A a (side_level a s)) h in
      let l = both_true (nat_le (nodes v + nodes a) most_nodes) (exp_fits A v (side_level a s)) k.0 in
      (exp_levelled v (side_level a s) l.1, exp_levelled a (side_level a s) k.1)

  variables_levelled : (vs : List Variable) (k s : ℕ) → variables_fit A vs k s ≡ true → VariablesLevelled levels vs k s
  variables_levelled [] k s h = tt
  variables_levelled (Initial e ∷ vs) k s h = let l = both_true (assignment_fits A e (Frame k) s) (variables_fit A vs (k + 1) s) h in (sides_levelled e (Frame k) s l.0, variables_levelled vs (k + 1) s l.1)
  variables_levelled (Vector n ∷ vs) k s h = (tt, variables_levelled vs (k + (n + 2)) s h)

  declarations_levelled : (ds : List (List Variable)) (s : ℕ) → declarations_fit A ds s ≡ true → DeclarationsLevelled levels ds s
  declarations_levelled [] s h = tt
  declarations_levelled (vs ∷ ds) s h =
      let s1 = s + cells_of_all vs in
      let l = both_true (variables_fit A vs s s1) (declarations_fit A ds s1) h in
      (variables_levelled vs s s1 l.0, declarations_levelled ds s1 l.1)

  mutual
    command_levelled : (J : Jumps) (c : Command) (s : ℕ) → command_fits A J c s ≡ true → CommandLevelled levels c s
    command_levelled J (commands.Call e) s h = root_levelled e s h
    command_levelled J (commands.Assign v a) s h = sides_levelled v a s h
    command_levelled J (commands.If sense e b) s h = let k = both_true (root_fits A e s) (block_fits A J b s) h in (root_levelled e s k.0, block_levelled J b s k.1)
    command_levelled J (commands.Test e b c) s h =
        let k = both_true (root_fits A e s && block_fits A J b s) (block_fits A J c s) h in
        let l = both_true (root_fits A e s) (block_fits A J b s) k.0 in
        (root_levelled e s l.0, block_levelled J b s l.1, block_levelled J c s k.1)
    command_levelled J (commands.While sense e b) s h = let k = both_true (root_fits A e s) (block_fits A (in_a_loop J) b s) h in (root_levelled e s k.0, block_levelled (in_a_loop J) b s k.1)
    command_levelled J (commands.Repeat b) s h = block_levelled (in_a_loop J) b s h
    command_levelled J (commands.RepeatWhile b sense e) s h = let k = both_true (root_fits A e s) (block_fits A (in_a_loop J) b s) h in (root_levelled e s k.0, block_levelled (in_a_loop J) b s k.1)
    command_levelled J (commands.For start limit by b) s h =
        let s1 = level_in_for s in
        let k = both_true (assignment_fits A start (Frame s) s1 && assignment_fits A limit (Frame (s + 1)) s1) (block_fits A (in_a_loop J) b s1) h in
        let l = both_true (assignment_fits A start (Frame s) s1) (assignment_fits A limit (Frame (s + 1)) s1) k.0 in
        (sides_levelled start (Frame s) s1 l.0, sides_levelled limit (Frame (s + 1)) s1 l.1, block_levelled (in_a_loop J) b s1 k.1)
    command_levelled J (commands.SwitchOn e is) s h =
        let J1 = in_list is (record J { in_cases = true }) in
        let k = both_true (root_fits A e s && are_distinct (labels_of is) && entries_differ is) (items_fit A J1 is s) h in
        let j = both_true (root_fits A e s && are_distinct (labels_of is)) (entries_differ is) k.0 in
        let l = both_true (root_fits A e s) (are_distinct (labels_of is)) j.0 in
        (root_levelled e s l.0, items_levelled J1 is s k.1)
    command_levelled J (commands.ResultIs e) s h = let k = both_true J.in_valof (root_fits A e s) h in root_levelled e s k.1
    command_levelled J (commands.Nested b) s h = block_levelled J b s h
    command_levelled J commands.Break s h = tt
    command_levelled J commands.Loop s h = tt
    command_levelled J commands.EndCase s h = tt
    command_levelled J commands.Return s h = tt
    command_levelled J commands.Finish s h = tt
    command_levelled J (commands.Goto l) s h = tt

    block_levelled : (J : Jumps) (b : Block) (s : ℕ) → block_fits A J b s ≡ true → BlockLevelled levels b s
    block_levelled J (block ds is) s h =
        let d = declarations_fit A ds s in
        let e = not (has_entries is) in
        let f = are_distinct (labels_of is) in
        let k = both_true (d && e && f) (items_fit A (in_list is J) is (s + cells_declared ds)) h in
        let l = both_true (d && e) f k.0 in
        let m = both_true d e l.0 in
        (declarations_levelled ds s m.0, items_levelled (in_list is J) is (s + cells_declared ds) k.1)

    items_levelled : (J : Jumps) (is : Items) (s : ℕ) → items_fit A J is s ≡ true → ItemsLevelled levels is s
    items_levelled J no_item s h = tt
    items_levelled J (command c is) s h = let k = both_true (command_fits A J c s) (items_fit A J is s) h in (command_levelled J c s k.0, items_levelled J is s k.1)
    items_levelled J (case n is) s h = items_levelled J is s h
    items_levelled J (default is) s h = items_levelled J is s h
    items_levelled J (label n is) s h = items_levelled J is s h

  body_levelled : (b : Body) (s : ℕ) → body_fits A b s ≡ true → BodyLevelled levels b s
  body_levelled (Gives e) s h = root_levelled e s h
  body_levelled (Does b) s h = block_levelled jumps_in_routine b s h

  places_levelled : (valofs : List Valof) (ps : List commands.Place) → places_fit A valofs ps ≡ true → PlacesLevelled levels ps
  places_levelled valofs [] h = tt
  places_levelled valofs (commands.Code r ∷ ps) h =
      let k = both_true (place_fits A valofs (commands.Code r)) (places_fit A valofs ps) h in
      let g = global_fits r.global in
      let f = nat_le (frame_size valofs r) 32768 in
      let l = both_true (g && f) (body_fits A r.body (level_after_parameters r.parameters)) k.0 in
      (body_levelled r.body (level_after_parameters r.parameters) l.1, places_levelled valofs ps k.1)
  places_levelled valofs (commands.Static w ∷ ps) h = places_levelled valofs ps (both_true true (places_fit A valofs ps) h).1
  places_levelled valofs (commands.Table ws ∷ ps) h = places_levelled valofs ps (both_true true (places_fit A valofs ps) h).1
  places_levelled valofs (commands.Text bytes ∷ ps) h = places_levelled valofs ps (both_true (nat_le (length bytes) 255) (places_fit A valofs ps) h).1

valofs_levelled : (levels : ℕ → ℕ) (A : Around) → Agrees levels A → (vs : List Valof) → valofs_fit A vs ≡ true → ValofsLevelled levels vs
valofs_levelled levels A agrees [] h = tt
valofs_levelled levels A agrees (v ∷ vs) h =
    let inner : Around = record A { first = A.first + 1 } in
    let k = both_true (block_fits inner jumps_in_valof v.body v.level) (valofs_fit inner vs) h in
    (block_levelled levels inner agrees jumps_in_valof v.body v.level k.0, valofs_levelled levels inner agrees vs k.1)

levels_agree : (vs : List Valof) (n s : ℕ) → stands_at (slice_get (map (λ (v : Valof). v.level) vs) n) s ≡ true → level_of vs n ≡ s
levels_agree [] n s h = absurd (let f : false ≡ true = h in cc)
levels_agree (v ∷ vs) zero s h = eqb-true v.level s h
levels_agree (v ∷ vs) (suc n) s h = levels_agree vs n s h

pub section_levelled : (core : Core) → is_core core ≡ true → PlacesLevelled (level_of core.valofs) core.places × ValofsLevelled (level_of core.valofs) core.valofs
section_levelled core h =
    let A : Around = record { places = length core.places; first = 0; levels = map (λ (v : Valof). v.level) core.valofs } in
    let k = both_true (places_fit A core.valofs core.places) (valofs_fit A core.valofs) h in
    (places_levelled (level_of core.valofs) A (levels_agree core.valofs) core.valofs core.places k.0, valofs_levelled (level_of core.valofs) A (levels_agree core.valofs) core.valofs k.1)
