-- When a run begins, the library's routines can be called in any frame above the stack's base; and the law of a whole program.
use Rattle.std.proofs.Common.{◌≡◌, ⊎_elim, ℕ, zero, suc, ◌+◌, ◌-◌, ◌<◌, ◌≤◌, ◌&&◌, List, [], ◌∷◌, map, length, Bool, true, false, Some, None, refl, sym, ap, ◌∙◌, subst, arith}
use Rattle.std.specs.Prelude.{All, nat_le, nat_lt}
use Rattle.std.specs.Fmt.{signed_decimal}
use Rattle.std.proofs.lemmas.Bool.{cases_lt}
use Rattle.std.proofs.lemmas.Bool.Decides.{nat_tests}
use Rattle.std.proofs.lemmas.Option.{slice_get_past}
use Rattle.std.proofs.Math.ListN.{get_or-eq_default}
use Rattle.bc_word.specs.Words.{signed}
use Rattle.bc_machine_defs.specs.Streams.{Content}
use Rattle.bc_machine_defs.specs.StreamCalls.{output_of}
use Rattle.bc_core.specs.Tree.{Num}
use Rattle.bc_core.specs.Commands.{Core, Does, Call as Calls}
use Rattle.bc_core.specs.Map.{IsMap, placed, Holding, ARoutine, Words, Standing, standing, Range, range, range_of, size_of, Inside}
use Rattle.bc_core.specs.Store.{Cell, Dead, Set, cell_at}
use Rattle.bc_core.specs.Outcome.{Done, Finished}
use Rattle.bc_core.specs.Start.{setting, global_cell, word_of, data_word, data_cell, start_cell, cells_from, start_cells}
use Rattle.bc_core.specs.Laws.{is_live}
use Rattle.bc_core.specs.Meaning.{Ended, OfSection, calls, callee_among, entered_at, entered_of, meaning_over}
use Rattle.bc_library_laws.specs.Library.{library, commands, calling}
use Rattle.bc_library_laws.specs.Laws.{start, AProgramPrintsItsNumber, state, Ready, after_writes, turns_of}
use Rattle.bc_library_laws.proofs.Steps.{fits_true}
use Rattle.bc_library_laws.proofs.Finding.{has, unlike, itself}
use Rattle.bc_library_laws.proofs.Numbers.{writen_does}

-- a list that isn't unfolded
pub first_cells : List Standing → List Cell
first_cells all = start_cells all

pub first_cells-are : (all : List Standing) → first_cells all ≡ start_cells all
unfolding first_cells
first_cells-are all = refl

cells_sized : (all : List Standing) (n : ℕ) → n ≡ 65536 → first_cells all ≡ cells_from n 0 all
unfolding first_cells
cells_sized all n e = ap (λ k. cells_from k 0 all) (sym e)

length_from : (n a : ℕ) (all : List Standing) → length (cells_from n a all) ≡ n
length_from zero a all = refl
length_from (suc n) a all = ap (λ z. suc z) (length_from n (a + 1) all)

cell_from : (n a k : ℕ) (all : List Standing) → k < n → cell_at (cells_from n a all) k ≡ start_cell all (a + k)
cell_from zero a k all lt = absurd (omega arith)
cell_from (suc n) a zero all lt = let e : a ≡ a + 0 = omega arith in ap (λ z. start_cell all z) e
cell_from (suc n) a (suc k) all lt = let e : a + 1 + k ≡ a + suc k = omega arith in cell_from n (a + 1) k all (omega arith) ∙ ap (λ z. start_cell all z) e

some_size : (n : ℕ) × (n ≡ 65536)
some_size = (65536, refl)

pub cells_length : (all : List Standing) → length (first_cells all) ≡ 65536
cells_length all = let n = some_size in ap length (cells_sized all n.0 n.1) ∙ length_from n.0 0 all ∙ n.1

pub cell_is : (all : List Standing) (a : ℕ) → a < 65536 → cell_at (first_cells all) a ≡ start_cell all a
cell_is all a lt =
    let n = some_size in
    let e : 0 + a ≡ a = omega arith in
    ap (λ z. cell_at z a) (cells_sized all n.0 n.1) ∙ cell_from n.0 0 a all (omega (arith, n.1)) ∙ ap (λ z. start_cell all z) e

-- no data is at the base or above
no_word : (base a : ℕ) (s : Standing) → Inside base (range_of s) → base ≤ a → word_of s.holding s.address a ≡ None
no_word base a s inside le = by s.address s.holding inside.1 where
  by : (from : ℕ) (h : Holding) → from + size_of h ≤ base → word_of h from a ≡ None
  by from (ARoutine g) fits = refl
  by from (Words ws) fits =
      let up : nat_le from a ≡ true = fits_true from a (omega arith) in
      rw (up, word_of) (slice_get_past ws (a - from) (omega arith))

pub no_words : (base a : ℕ) (ss : List Standing) → All (Inside base) (map range_of ss) → base ≤ a → data_word ss a ≡ None
no_words base a [] h le = refl
no_words base a (s ∷ ss) h le =
    rw (no_word base a s (h 0 (range 0 0) (omega arith)) le, no_words base a ss (λ k d lt. h (suc k) d (omega arith)) le) refl

pub nothing_there : (all : List Standing) (a : ℕ) → 520 ≤ a → data_word all a ≡ None → start_cell all a ≡ Dead
nothing_there all a up e =
    let out : nat_lt a 520 ≡ false = grind (arith, nat_tests) in
    by (nat_le 8 a) (nat_lt a 520) out where
      by : (x y : Bool) → y ≡ false → elim (x && y) as (λ z. Cell) [ true ↦ global_cell (setting all (a - 8)) | false ↦ data_cell (data_word all a) ] ≡ Dead
      by true y e1 = rw (e1, e) refl
      by false y e1 = rw e refl

-- no section after the library sets WRCH
pub ready_at_start : (cores : List Core) (address : ℕ → ℕ) (places : List (ℕ → ℕ)) (base : ℕ)
    → IsMap (library ∷ cores) (record { places = address ∷ places; stack_base = base })
    → setting (standing (placed cores places)) 14 ≡ Some 530
    → (f most : ℕ) → base ≤ f → f + most ≤ 65536
    → Ready address (first_cells (standing (placed (library ∷ cores) (address ∷ places)))) f most
ready_at_start cores address places base m wrch f most up room =
    let all : List Standing = standing (placed (library ∷ cores) (address ∷ places)) in
    let high : 520 + 26 ≤ base = (m.inside 0 (range 0 0) (omega arith)).1 in
    let within : All (Inside base) (map range_of (standing (placed (library ∷ cores) (address ∷ places)))) = (λ k d lt. m.inside (suc k) d (omega arith)) in
    record {
      whole = cells_length (standing (placed (library ∷ cores) (address ∷ places)));
      free = λ a le. ⊎_elim
          (λ lt. ap is_live (cell_is (standing (placed (library ∷ cores) (address ∷ places))) a lt ∙ nothing_there (standing (placed (library ∷ cores) (address ∷ places))) a (omega arith) (no_words base a (standing (placed (library ∷ cores) (address ∷ places))) within (omega arith))))
          (λ ge. ap is_live (get_or-eq_default (first_cells (standing (placed (library ∷ cores) (address ∷ places)))) Dead (omega (arith, cells_length (standing (placed (library ∷ cores) (address ∷ places)))))))
          (cases_lt a 65536);
      room = room;
      write_char = cell_is (standing (placed (library ∷ cores) (address ∷ places))) 22 (omega arith) ∙ ap global_cell wrch;
      get_byte = cell_is (standing (placed (library ∷ cores) (address ∷ places))) 28 (omega arith);
      write_s = cell_is (standing (placed (library ∷ cores) (address ∷ places))) 30 (omega arith);
      write_n = cell_is (standing (placed (library ∷ cores) (address ∷ places))) 31 (omega arith);
    }

over_cells : (w : ℕ) → w < 65536 → (address other : ℕ → ℕ) (base : ℕ) → IsMap (library ∷ start w ∷ []) (record { places = address ∷ other ∷ []; stack_base = base })
    → (c : List Cell) (streams : Content) (n : ℕ) → Ready address c (base + 4) 20 → cell_at c 9 ≡ Set (other 1)
    → meaning_over c (entered_at (placed (library ∷ start w ∷ []) (address ∷ other ∷ []))) base streams (suc (turns_of (signed w) + n))
    ≡ Ended (output_of (after_writes (signed_decimal (signed w)) streams)) Finished
over_cells w word address other base m c streams n r c9 =
    let d : Range = range 0 0 in
    let e1 = unlike (address 1) (other 1) (m.apart.1.0 5 d (omega arith)) in
    let e2 = unlike (address 2) (other 1) (m.apart.1.1.0 4 d (omega arith)) in
    let e3 = unlike (address 3) (other 1) (m.apart.1.1.1.0 3 d (omega arith)) in
    let e4 = unlike (address 4) (other 1) (m.apart.1.1.1.1.0 2 d (omega arith)) in
    let e5 = unlike (address 5) (other 1) (m.apart.1.1.1.1.1.0 1 d (omega arith)) in
    let e6 = unlike (address 6) (other 1) (m.apart.1.1.1.1.1.1.0 0 d (omega arith)) in
    let known : entered_at (placed (library ∷ start w ∷ []) (address ∷ other ∷ [])) (other 1) ≡ entered_of (Some (OfSection (record { core = start w; address = other })
    (record { global = Some 1; parameters = 0; body = Does (commands (Calls (calling 23 (Num w ∷ [])) ∷ [])) }))) = rw (e1, e2, e3, e4, e5, e6, itself (other 1), callee_among) refl in
    let fits : nat_le (base + 2 + 5) 65536 ≡ true = fits_true _ _ (omega (arith, r.room)) in
    let there : base + 4 ≡ base + 2 + 2 = omega arith in
    let depth : turns_of (signed w) + suc n ≡ suc (turns_of (signed w) + n) = omega arith in
    let h = has (start w ∷ []) address (other ∷ []) base m in
    let does = writen_does (placed (library ∷ start w ∷ []) (address ∷ other ∷ [])) address h w word c streams (base + 2 + 2) (suc n) n (subst (λ f. Ready address c f 20) there r) in
    let does1 = subst (λ k. calls (placed (library ∷ start w ∷ []) (address ∷ other ∷ [])) k (address 5) (w ∷ []) (base + 2 + 2) (state c streams (turns_of (signed w) + n)) ≡ Done 0 (state c (after_writes (signed_decimal (signed w)) streams) n)) depth does in
    rw (c9, known, fits, r.write_n, does1) refl

-- for every word, every map and every input: the program prints the number and finishes
pub whole_program : AProgramPrintsItsNumber
whole_program w word address other base m room streams n =
    let all : List Standing = standing (placed (library ∷ start w ∷ []) (address ∷ other ∷ [])) in
    let r = ready_at_start (start w ∷ []) address (other ∷ []) base m refl (base + 4) 20 (omega arith) (omega arith) in
    let c9 = cell_is (standing (placed (library ∷ start w ∷ []) (address ∷ other ∷ []))) 9 (omega arith) in
    subst (λ c. meaning_over c (entered_at (placed (library ∷ start w ∷ []) (address ∷ other ∷ []))) base streams (suc (turns_of (signed w) + n)) ≡ Ended (output_of (after_writes (signed_decimal (signed w)) streams)) Finished)
    (first_cells-are (standing (placed (library ∷ start w ∷ []) (address ∷ other ∷ []))))
    (over_cells w word address other base m (first_cells (standing (placed (library ∷ start w ∷ []) (address ∷ other ∷ [])))) streams n r c9)
