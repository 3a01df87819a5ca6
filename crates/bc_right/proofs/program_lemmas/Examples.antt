-- The law's premises can be met: by the program whose START only finishes, whatever derivations are chosen.
use Rattle.std.proofs.Common.{◌≡◌, ⊎_elim, ℕ, zero, suc, ◌-◌, ◌<◌, ◌≤◌, ◌&&◌, Bool, true, false, None, List, [], ◌∷◌, ◌++◌, length, refl, arith}
use Rattle.std.specs.Prelude.{Some, All, slice_index, nat_lt, replicate}
use Rattle.std.proofs.lemmas.Bool.{cases_lt}
use Rattle.std.proofs.lemmas.Bool.Decides.{nat_tests}
use Rattle.std.proofs.lemmas.List.{get_or-replicate, length-replicate}
use Rattle.std.proofs.Math.ListN.{get_or-eq_default}
use Rattle.bc_machine_defs.specs.Streams.{Content, HoldBytes}
use Rattle.bc_machine_defs.specs.State.{start}
use Rattle.bc_core.specs.Commands.{block, no_item, command, Does, Core, Code}
use Rattle.bc_core.specs.Commands as c
use Rattle.bc_core.specs.WellFormed.{is_core}
use Rattle.bc_core.specs.Map.{IsMap}
use Rattle.bc_core.specs.Meaning.{meaning}
use Rattle.bc_core.specs.Same.{Same}
use Rattle.bc_rules_defs.specs.declared.rule.Table.{Table}
use Rattle.bc_gen_defs.specs.Bodies.{Choice, coding_of}
use Rattle.bc_link.specs.Layout.{stack_base_of}
use Rattle.bc_link.specs.Refusals.{refusal_of}
use Rattle.bc_link.specs.Store.{boot, globals_of, words_from, store_of}
use Rattle.bc_right.specs.programs.Linked.{segments_of, linked_map}
use Rattle.bc_right.proofs.program_lemmas.Program.{programs_run}
use Rattle.bc_right.proofs.program_lemmas.Ranges.{linked_map_is_map}

abbrev are_small : List ℕ → Bool
are_small [] = true
are_small (w ∷ ws) = nat_lt w 65536 && are_small ws

both_true : (a b : Bool) → (a && b) ≡ true → (a ≡ true) × (b ≡ true)
both_true true b e = (refl, e)
both_true false b e = absurd (let f : false ≡ true = e in cc)

zeros_small : (n i : ℕ) → slice_index (replicate n 0) i < 65536
zeros_small n i = ⊎_elim inside outside (cases_lt i n) where
  inside : i < n → slice_index (replicate n 0) i < 65536
  inside lt = let e : slice_index (replicate n 0) i ≡ 0 = get_or-replicate n i 0 0 lt in omega arith

  outside : n ≤ i → slice_index (replicate n 0) i < 65536
  outside ge =
      let l : length {A = ℕ} (replicate n 0) ≡ n = length-replicate {A = ℕ} n 0 in
      let k : length {A = ℕ} (replicate n 0) ≤ i = omega arith in
      let e : slice_index (replicate n 0) i ≡ 0 = get_or-eq_default (replicate n 0) 0 k in omega arith

small_then_zeros : (ws : List ℕ) (n i : ℕ) → are_small ws ≡ true → slice_index (ws ++ replicate n 0) i < 65536
small_then_zeros [] n i h = zeros_small n i
small_then_zeros (w ∷ ws) n zero h = let k = (both_true (nat_lt w 65536) (are_small ws) h).0 in grind (arith, nat_tests)
small_then_zeros (w ∷ ws) n (suc i) h = small_then_zeros ws n i (both_true (nat_lt w 65536) (are_small ws) h).1

-- `START() BE FINISH`
abbrev finishing : Core
finishing = record { places = Code (record { global = Some 1; parameters = 0; body = Does (block [] (command c.Finish no_item)) }) ∷ []; valofs = [] }

module _ (T : Table) (choice : Choice T) where
  accepted : refusal_of (segments_of (coding_of choice) (finishing ∷ [])) ≡ None
  accepted = refl

  fits : All (λ core. is_core core ≡ true) (finishing ∷ [])
  fits zero d lt = refl
  fits (suc k) d lt = absurd (omega arith)

  store_small : (i : ℕ) → slice_index (store_of (segments_of (coding_of choice) (finishing ∷ []))) i < 65536
  store_small i =
      let segments = segments_of (coding_of choice) (finishing ∷ []) in
      small_then_zeros (boot ++ replicate 5 0 ++ globals_of segments ++ words_from 520 segments) (65536 - stack_base_of segments) i refl

  pub finishing_is_map : IsMap (finishing ∷ []) (linked_map (coding_of choice) (finishing ∷ []))
  finishing_is_map = linked_map_is_map T choice (finishing ∷ []) accepted

  pub finishing_runs : (streams : Content) → HoldBytes streams.inputs → (n : ℕ)
      → (let segments = segments_of (coding_of choice) (finishing ∷ []) in
      Same (meaning (finishing ∷ []) (linked_map (coding_of choice) (finishing ∷ [])) streams n) n (start (store_of segments) (stack_base_of segments) streams))
  finishing_runs streams bytes n = programs_run T choice (finishing ∷ []) fits accepted store_small streams bytes n
