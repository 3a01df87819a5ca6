-- The roots of a section without fault have few nodes.
use Rattle.std.proofs.Common.{ℕ, ◌+◌, ◌≤◌, ◌^◌, ◌≡◌, ◌&&◌, not, true, List, [], ◌∷◌, map, length, arith}
use Rattle.std.specs.Prelude.{nat_le}
use Rattle.std.proofs.lemmas.Bool.{and_parts}
use Rattle.bc_core.specs.Tree.{Exp, Frame, Root}
use Rattle.bc_core.specs.Commands.{Variable, Initial, Vector, Command, Block, block, Items, no_item, command, case, default, label, Body, Gives, Does, Place, Code, Static, Table, Text, Valof}
use Rattle.bc_core.specs.Commands as commands
use Rattle.bc_core.specs.Level.{side_level, cells_of_all, cells_declared, level_in_for, level_after_parameters}
use Rattle.bc_core.specs.Layout.{frame_size}
use Rattle.bc_core.specs.WellFormed.{Around, Jumps, nodes, most_nodes, exp_fits, root_fits, assignment_fits, variables_fit, declarations_fit, labels_of, are_distinct, entries_differ, has_entries, in_a_loop, in_list, command_fits, block_fits, items_fit, jumps_in_routine, jumps_in_valof, body_fits, global_fits, places_fit, valofs_fit}
use Rattle.bc_select_defs.specs.Nodes.{root_nodes}
use Rattle.bc_scope_defs.specs.Translation.{core_of}
use Rattle.bc_scope_laws.proofs.Fitting.{sections_fit}
use Rattle.bc_gen_defs.specs.Bodies.{coding_of}
use Rattle.bc_build.specs.RoomLaws.{RootsHaveFewNodes}
use Rattle.bc_build.proofs.Throughout.{OfVariables, OfDeclarations, OfCommand, OfBlock, OfItems, OfBody, OfPlaces, OfValofs}
use Rattle.bc_build.proofs.Emitted.{Suits, all_roots}

abbrev Few : Exp → Type 0
Few e = nodes e ≤ most_nodes

abbrev HasFewNodes : Root → Type 0
HasFewNodes r = root_nodes r ≤ 2 ^ 32

suits : Suits HasFewNodes Few
suits = record {
  value = λ s e h. omega arith;
  test = λ s sense e h. omega arith;
  assign = λ s v a h k. omega arith;
  frame = λ k. omega arith;
  end = λ by s. omega arith;
  step = λ by s. omega arith;
}

at_most : (n : ℕ) → nat_le n most_nodes ≡ true → n ≤ most_nodes
at_most n h = grind arith

root_few : (A : Around) (e : Exp) (s : ℕ) → root_fits A e s ≡ true → Few e
root_few A e s h = at_most (nodes e) (and_parts (nat_le (nodes e) most_nodes) (exp_fits A e s) h).0

assignment_few : (A : Around) (v a : Exp) (s : ℕ) → assignment_fits A v a s ≡ true → Few v × Few a
assignment_few A v a s h =
    let n = nat_le (nodes v + nodes a) most_nodes in
    let x = exp_fits A v (side_level a s) in
    let k = at_most (nodes v + nodes a) (and_parts n x (and_parts (n && x) (exp_fits A a (side_level a s)) h).0).0 in
    (omega (arith, k), omega (arith, k))

variables_few : (A : Around) (vs : List Variable) (k s : ℕ) → variables_fit A vs k s ≡ true → OfVariables Few vs
variables_few A [] k s h = tt
variables_few A (Initial e ∷ vs) k s h =
    let p = and_parts (assignment_fits A e (Frame k) s) (variables_fit A vs (k + 1) s) h in
    ((assignment_few A e (Frame k) s p.0).0, variables_few A vs (k + 1) s p.1)
variables_few A (Vector n ∷ vs) k s h = variables_few A vs (k + (n + 2)) s h

declarations_few : (A : Around) (ds : List (List Variable)) (s : ℕ) → declarations_fit A ds s ≡ true → OfDeclarations Few ds
declarations_few A [] s h = tt
declarations_few A (vs ∷ ds) s h =
    let s1 = s + cells_of_all vs in
    let p = and_parts (variables_fit A vs s s1) (declarations_fit A ds s1) h in
    (variables_few A vs s s1 p.0, declarations_few A ds s1 p.1)

mutual
  command_few : (A : Around) (J : Jumps) (c : Command) (s : ℕ) → command_fits A J c s ≡ true → OfCommand Few c
  command_few A J (commands.Call e) s h = root_few A e s h
  command_few A J (commands.Assign v a) s h = assignment_few A v a s h
  command_few A J (commands.If sense e b) s h =
      let p = and_parts (root_fits A e s) (block_fits A J b s) h in
      (root_few A e s p.0, block_few A J b s p.1)
  command_few A J (commands.Test e b c) s h =
      let x = root_fits A e s in
      let y = block_fits A J b s in
      let p = and_parts (x && y) (block_fits A J c s) h in
      let q = and_parts x y p.0 in
      (root_few A e s q.0, block_few A J b s q.1, block_few A J c s p.1)
  command_few A J (commands.While sense e b) s h =
      let p = and_parts (root_fits A e s) (block_fits A (in_a_loop J) b s) h in
      (root_few A e s p.0, block_few A (in_a_loop J) b s p.1)
  command_few A J (commands.Repeat b) s h = block_few A (in_a_loop J) b s h
  command_few A J (commands.RepeatWhile b sense e) s h =
      let p = and_parts (root_fits A e s) (block_fits A (in_a_loop J) b s) h in
      (block_few A (in_a_loop J) b s p.1, root_few A e s p.0)
  command_few A J (commands.For start limit by b) s h =
      let s1 = level_in_for s in
      let x = assignment_fits A start (Frame s) s1 in
      let y = assignment_fits A limit (Frame (s + 1)) s1 in
      let p = and_parts (x && y) (block_fits A (in_a_loop J) b s1) h in
      let q = and_parts x y p.0 in
      ((assignment_few A start (Frame s) s1 q.0).0, (assignment_few A limit (Frame (s + 1)) s1 q.1).0, block_few A (in_a_loop J) b s1 p.1)
  command_few A J (commands.SwitchOn e is) s h =
      let x = root_fits A e s in
      let y = are_distinct (labels_of is) in
      let J1 = in_list is (record J { in_cases = true }) in
      let z = entries_differ is in
      let p = and_parts (x && y && z) (items_fit A J1 is s) h in
      (root_few A e s (and_parts x y (and_parts (x && y) z p.0).0).0, items_few A J1 is s p.1)
  command_few A J commands.Break s h = tt
  command_few A J commands.Loop s h = tt
  command_few A J commands.EndCase s h = tt
  command_few A J commands.Return s h = tt
  command_few A J (commands.ResultIs e) s h = root_few A e s (and_parts J.in_valof (root_fits A e s) h).1
  command_few A J commands.Finish s h = tt
  command_few A J (commands.Goto l) s h = tt
  command_few A J (commands.Nested b) s h = block_few A J b s h

  block_few : (A : Around) (J : Jumps) (b : Block) (s : ℕ) → block_fits A J b s ≡ true → OfBlock Few b
  block_few A J (block ds is) s h =
      let x = declarations_fit A ds s in
      let y = not (has_entries is) in
      let z = are_distinct (labels_of is) in
      let s1 = s + cells_declared ds in
      let p = and_parts (x && y && z) (items_fit A (in_list is J) is s1) h in
      (declarations_few A ds s (and_parts x y (and_parts (x && y) z p.0).0).0, items_few A (in_list is J) is s1 p.1)

  items_few : (A : Around) (J : Jumps) (is : Items) (s : ℕ) → items_fit A J is s ≡ true → OfItems Few is
  items_few A J no_item s h = tt
  items_few A J (command c is) s h =
      let p = and_parts (command_fits A J c s) (items_fit A J is s) h in
      (command_few A J c s p.0, items_few A J is s p.1)
  items_few A J (case k is) s h = items_few A J is s h
  items_few A J (default is) s h = items_few A J is s h
  items_few A J (label k is) s h = items_few A J is s h

body_few : (A : Around) (b : Body) (s : ℕ) → body_fits A b s ≡ true → OfBody Few b
body_few A (Gives e) s h = root_few A e s h
body_few A (Does b) s h = block_few A jumps_in_routine b s h

places_few : (A : Around) (vs : List Valof) (ps : List Place) → places_fit A vs ps ≡ true → OfPlaces Few ps
places_few A vs [] h = tt
places_few A vs (Code r ∷ ps) h =
    let s = level_after_parameters r.parameters in
    let x = global_fits r.global && nat_le (frame_size vs r) 32768 in
    let y = body_fits A r.body s in
    let p = and_parts (x && y) (places_fit A vs ps) h in
    (body_few A r.body s (and_parts x y p.0).1, places_few A vs ps p.1)
places_few A vs (Static w ∷ ps) h = places_few A vs ps (and_parts true (places_fit A vs ps) h).1
places_few A vs (Table ws ∷ ps) h = places_few A vs ps (and_parts true (places_fit A vs ps) h).1
places_few A vs (Text bytes ∷ ps) h = places_few A vs ps (and_parts (nat_le (length bytes) 255) (places_fit A vs ps) h).1

valofs_few : (A : Around) (vs : List Valof) → valofs_fit A vs ≡ true → OfValofs Few vs
valofs_few A [] h = tt
valofs_few A (v ∷ vs) h =
    let inner : Around = record A { first = A.first + 1 } in
    let p = and_parts (block_fits inner jumps_in_valof v.body v.level) (valofs_fit inner vs) h in
    (block_few inner jumps_in_valof v.body v.level p.0, valofs_few inner vs p.1)

pub roots_have_few_nodes : RootsHaveFewNodes
roots_have_few_nodes T choice ds n z =
    let c = core_of ds in
    let A : Around = record { places = length c.places; first = 0; levels = map (λ (v : Valof). v.level) c.valofs } in
    let p = and_parts (places_fit A c.valofs c.places) (valofs_fit A c.valofs) (sections_fit ds z n) in
    all_roots HasFewNodes Few suits (coding_of choice) c (places_few A c.valofs c.places p.0) (valofs_few A c.valofs p.1)
