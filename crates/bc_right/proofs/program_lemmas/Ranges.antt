-- The linker's addresses are a map: section by section, routines are in order, followed by data.
use Rattle.std.proofs.Common.{◌≡◌, inl, inr, ℕ, zero, suc, ◌+◌, ◌≤◌, List, [], ◌∷◌, ◌++◌, length, refl, ap, subst, arith}
use Rattle.std.specs.Prelude.{map, All}
use Rattle.bc_text_items.specs.Sizes.{size_of_all}
use Rattle.bc_text_items.specs.Assembled.{label_places}
use Rattle.bc_core.specs.Commands as commands
use Rattle.bc_core.specs.Commands.{Place, Core, Body, Gives, Does}
use Rattle.bc_core.specs.Level.{level_after_parameters}
use Rattle.bc_core.specs.Tree.{Value}
use Rattle.bc_core.specs.Map.{Holding, ARoutine, Words, Standing, standing_from, standing, placed, Range, range, range_of, Apart, AllApart, Inside}
use Rattle.bc_rules_defs.specs.declared.rule.Table.{Table}
use Rattle.bc_gen_defs.specs.Emit.{zero_item, execute, emit_block}
use Rattle.bc_gen_defs.specs.Bodies.{Choice, over, coding_of, bodies_from, body_exits, emit_body, level_of}
use Rattle.bc_gen_defs.specs.Section.{emit_routines}
use Rattle.bc_link.specs.Labels.{label_address}
use Rattle.bc_link.specs.Layout.{size_of_segments, stack_base_of}
use Rattle.bc_link.specs.Store.{words_from, store_of}
use Rattle.bc_right.specs.steps.CodeAt.{HasWords, HasItems, words}
use Rattle.bc_right.specs.steps.Premises.{Roots}
use Rattle.bc_right.proofs.step_lemmas.Items.{words_append, has_back}
use Rattle.bc_right.specs.programs.Linked.{segments_of, addresses_from, LinkedMapIsMap}
use Rattle.bc_right.proofs.program_lemmas.Standing.{words_front, DataAfter, DataAt}
use Rattle.bc_right.proofs.program_lemmas.Cells.{in_bounds}
use Rattle.bc_right.proofs.program_lemmas.Program.{section, routines, sections, first_part, one_stands, NoneTwice, after_first, section_words, sections_once}

-- routines are in order between two bounds
abbrev RoutineAfter : Holding → (a low : ℕ) → (ℕ → Type 0) → Type 0
RoutineAfter (ARoutine g) a low rest = (low ≤ a) × rest (a + 1)
RoutineAfter (Words ws) a low rest = rest low

abbrev RoutinesAt : (low high : ℕ) → List Standing → Type 0
RoutinesAt low high [] = low ≤ high
RoutinesAt low high (s ∷ ss) = RoutineAfter s.holding s.address low (λ z. RoutinesAt z high ss)

-- a routine has at least one word
body_words : (roots : Roots) (b : Body) (s f : ℕ) → 1 ≤ words (emit_body (λ i. i) roots b s f).0
body_words roots (Gives e) s f = let v = roots (Value s e) 0 f in let h = words_append v.0 (execute 4 ∷ []) in omega arith
body_words roots (Does b) s f = let x = emit_block (λ i. i) roots b s (body_exits 0) f in let h = words_append x.0 (zero_item ∷ execute 4 ∷ []) in omega arith

routines_at : (roots : Roots) (address : ℕ → ℕ) (store : List ℕ) (low j : ℕ) (ps : List Place) (f c : ℕ) → low ≤ c → HasItems address store c (emit_routines (λ i. i) roots j ps f).0 → RoutinesAt low (c + words (emit_routines (λ i. i) roots j ps f).0) (standing_from address (j + 1) ps)
routines_at roots address store low j [] f c le h = omega arith
routines_at roots address store low j (commands.Code r ∷ ps) f c le h =
    let x = emit_body (λ i. i) roots r.body (level_after_parameters r.parameters) f in
    let y = emit_routines (λ i. i) roots (j + 1) ps x.1 in
    let e = words_append x.0 y.0 in
    let more = body_words roots r.body (level_after_parameters r.parameters) f in
    let end : c + 0 + words x.0 + words y.0 ≡ c + (0 + words (x.0 ++ y.0)) = omega arith in (
      omega (arith, h.1),
      subst (λ z. RoutinesAt (address (j + 1) + 1) z (standing_from address (j + 1 + 1) ps)) end
          (routines_at roots address store (address (j + 1) + 1) (j + 1) ps x.1 (c + 0 + words x.0) (omega (arith, h.1)) (has_back address store (c + 0) x.0 y.0 h.2)),
    )
routines_at roots address store low j (commands.Static w ∷ ps) f c le h = routines_at roots address store low (j + 1) ps f c le h
routines_at roots address store low j (commands.Table ws ∷ ps) f c le h = routines_at roots address store low (j + 1) ps f c le h
routines_at roots address store low j (commands.Text bytes ∷ ps) f c le h = routines_at roots address store low (j + 1) ps f c le h

-- ranges between two bounds, and a range that overlaps none of the others
abbrev Within : (low high : ℕ) → List Standing → Type 0
Within low high [] = Unit {0}
Within low high (s ∷ ss) = (low ≤ (range_of s).from) × ((range_of s).from + (range_of s).size ≤ high) × Within low high ss

abbrev ApartFrom : Range → List Standing → Type 0
ApartFrom r [] = Unit {0}
ApartFrom r (s ∷ ss) = Apart r (range_of s) × ApartFrom r ss

abbrev EachApart : List Standing → Type 0
EachApart [] = Unit {0}
EachApart (s ∷ ss) = ApartFrom (range_of s) ss × EachApart ss

within_wider : (low high low1 high1 : ℕ) (ss : List Standing) → low1 ≤ low → high ≤ high1 → Within low high ss → Within low1 high1 ss
within_wider low high low1 high1 [] lo hi h = tt
within_wider low high low1 high1 (s ∷ ss) lo hi h = (omega (arith, h.0), omega (arith, h.1), within_wider low high low1 high1 ss lo hi h.2)

within_both : (low high : ℕ) (xs ys : List Standing) → Within low high xs → Within low high ys → Within low high (xs ++ ys)
within_both low high [] ys h k = k
within_both low high (x ∷ xs) ys h k = (h.0, h.1, within_both low high xs ys h.2 k)

below_all : (r : Range) (low high : ℕ) (ss : List Standing) → r.from + r.size ≤ low → Within low high ss → ApartFrom r ss
below_all r low high [] le h = tt
below_all r low high (s ∷ ss) le h = (inl (omega (arith, h.0)), below_all r low high ss le h.2)

apart_both : (r : Range) (xs ys : List Standing) → ApartFrom r xs → ApartFrom r ys → ApartFrom r (xs ++ ys)
apart_both r [] ys h k = k
apart_both r (x ∷ xs) ys h k = (h.0, apart_both r xs ys h.1 k)

each_both : (low middle high : ℕ) (xs ys : List Standing) → Within low middle xs → EachApart xs → Within middle high ys → EachApart ys → EachApart (xs ++ ys)
each_both low middle high [] ys w h v k = k
each_both low middle high (x ∷ xs) ys w h v k = (apart_both (range_of x) xs ys h.0 (below_all (range_of x) middle high ys w.1 v), each_both low middle high xs ys w.2 h.1 v k)

routine_bounds : (low high : ℕ) (ss : List Standing) → RoutinesAt low high ss → low ≤ high
routine_bounds low high [] h = h
routine_bounds low high (s ∷ ss) h = by s.address s.holding (λ z k. routine_bounds z high ss k) h where
  by : (from : ℕ) (k : Holding) → ((z : ℕ) → RoutinesAt z high ss → z ≤ high) → RoutineAfter k from low (λ z. RoutinesAt z high ss) → low ≤ high
  by from (ARoutine g) ih d = let k = ih (from + 1) d.1 in omega (arith, d.0)
  by from (Words ws) ih d = ih low d

-- each routine is among the routines, and each place's words are among the data
section_within : (store : List ℕ) (rl rh dl dh : ℕ) (ss : List Standing) → rh ≤ dl → RoutinesAt rl rh ss → DataAt store dl dh ss → Within rl dh ss
section_within store rl rh dl dh [] le r d = tt
section_within store rl rh dl dh (s ∷ ss) le r d = by s.address s.holding (λ a b k l q. section_within store a rh b dh ss q k l) r d where
  by : (from : ℕ) (k : Holding) → ((a b : ℕ) → RoutinesAt a rh ss → DataAt store b dh ss → rh ≤ b → Within a dh ss) → RoutineAfter k from rl (λ z. RoutinesAt z rh ss) → DataAfter store k from dl (λ z. DataAt store z dh ss)
      → (let t : Standing = record { address = from; holding = k } in Within rl dh (t ∷ ss))
  by from (ARoutine g) ih p q =
      let k = routine_bounds (from + 1) rh ss p.1 in
      let l = in_bounds store dl dh ss q in
      (p.0, omega arith, within_wider (from + 1) dh rl dh ss (omega (arith, p.0)) (omega arith) (ih (from + 1) dl p.1 q le))
  by from (Words ws) ih p q =
      let k = routine_bounds rl rh ss p in
      let l = in_bounds store (from + length ws) dh ss q.2 in
      (omega (arith, q.1), omega arith, ih rl (from + length ws) p q.2 (omega (arith, q.1)))

-- a routine before all others, and words before all others
routine_apart : (store : List ℕ) (r : Range) (rl rh dl dh : ℕ) (ss : List Standing) → r.from + r.size ≤ rl → rh ≤ dl → RoutinesAt rl rh ss → DataAt store dl dh ss → ApartFrom r ss
routine_apart store r rl rh dl dh [] lt le p q = tt
routine_apart store r rl rh dl dh (s ∷ ss) lt le p q = by s.address s.holding (λ a b l m k n. routine_apart store r a rh b dh ss l m k n) p q where
  by : (from : ℕ) (k : Holding) → ((a b : ℕ) → r.from + r.size ≤ a → rh ≤ b → RoutinesAt a rh ss → DataAt store b dh ss → ApartFrom r ss) → RoutineAfter k from rl (λ z. RoutinesAt z rh ss) → DataAfter store k from dl (λ z. DataAt store z dh ss)
      → (let t : Standing = record { address = from; holding = k } in ApartFrom r (t ∷ ss))
  by from (ARoutine g) ih p q = (inl (omega (arith, p.0)), ih (from + 1) dl (omega (arith, p.0)) le p.1 q)
  by from (Words ws) ih p q =
      let k = routine_bounds rl rh ss p in
      (inl (omega (arith, q.1)), ih rl (from + length ws) lt (omega (arith, q.1)) p q.2)

words_apart : (store : List ℕ) (r : Range) (rl rh dl dh : ℕ) (ss : List Standing) → rh ≤ r.from → r.from + r.size ≤ dl → RoutinesAt rl rh ss → DataAt store dl dh ss → ApartFrom r ss
words_apart store r rl rh dl dh [] lt le p q = tt
words_apart store r rl rh dl dh (s ∷ ss) lt le p q = by s.address s.holding (λ a b m k n. words_apart store r a rh b dh ss lt m k n) p q where
  by : (from : ℕ) (k : Holding) → ((a b : ℕ) → r.from + r.size ≤ b → RoutinesAt a rh ss → DataAt store b dh ss → ApartFrom r ss) → RoutineAfter k from rl (λ z. RoutinesAt z rh ss) → DataAfter store k from dl (λ z. DataAt store z dh ss)
      → (let t : Standing = record { address = from; holding = k } in ApartFrom r (t ∷ ss))
  by from (ARoutine g) ih p q = let k = routine_bounds (from + 1) rh ss p.1 in (inr (omega arith), ih (from + 1) dl le p.1 q)
  by from (Words ws) ih p q = (inl (omega (arith, q.1)), ih rl (from + length ws) (omega (arith, q.1)) p q.2)

section_apart : (store : List ℕ) (rl rh dl dh : ℕ) (ss : List Standing) → rh ≤ dl → RoutinesAt rl rh ss → DataAt store dl dh ss → EachApart ss
section_apart store rl rh dl dh [] le p q = tt
section_apart store rl rh dl dh (s ∷ ss) le p q = by s.address s.holding (λ a b l k n. section_apart store a rh b dh ss l k n) p q where
  by : (from : ℕ) (k : Holding) → ((a b : ℕ) → rh ≤ b → RoutinesAt a rh ss → DataAt store b dh ss → EachApart ss) → RoutineAfter k from rl (λ z. RoutinesAt z rh ss) → DataAfter store k from dl (λ z. DataAt store z dh ss)
      → (let t : Standing = record { address = from; holding = k } in EachApart (t ∷ ss))
  by from (ARoutine g) ih p q = (routine_apart store (range from 1) (from + 1) rh dl dh ss (omega arith) le p.1 q, ih (from + 1) dl le p.1 q)
  by from (Words ws) ih p q = (words_apart store (range from (length ws)) rl rh (from + length ws) dh ss (omega (arith, q.1)) (omega arith) p q.2, ih rl (from + length ws) (omega (arith, q.1)) p q.2)

module _ (T : Table) (choice : Choice T) (store : List ℕ) where
  record Lies (low high : ℕ) (ss : List Standing) : Type 0 where
    within : Within low high ss
    apart : EachApart ss

  all_lie : (cores : List Core) (c : ℕ) → HasWords store c (words_from c (sections T choice store cores)) → NoneTwice T choice store cores → Lies c (c + size_of_segments (sections T choice store cores)) (standing (placed cores (addresses_from c (sections T choice store cores))))
  all_lie [] c h e = record { within = tt; apart = tt }
  all_lie (core ∷ cores) c h e =
      let seg = section T choice store core in
      let end = c + size_of_all seg in
      let top = c + size_of_segments (sections T choice store (core ∷ cores)) in
      let address = label_address (label_places c seg) in
      let one = one_stands T choice store core c (words_front store c (first_part T choice store core c) (words_from end (sections T choice store cores)) h) e.0 in
      let here = standing_from address 1 core.places in
      let rest = standing (placed cores (addresses_from end (sections T choice store cores))) in
      let middle = c + words (routines T choice store core) in
      let levels = level_of core.valofs in
      let roots = over (coding_of choice) levels (bodies_from (λ i. i) (over (coding_of choice) levels) 0 core.valofs) in
      let ordered = routines_at roots address store c 0 core.places (length core.places + 1) c (omega arith) one.code in
      let own = section_within store c middle middle end here (omega arith) ordered one.data_at in
      let later = all_lie cores end (after_first T choice store core cores c h) e.1 in
      record {
        within = within_both c top here rest (within_wider c end c top here (omega arith) (omega arith) own) (within_wider end (end + size_of_segments (sections T choice store cores)) c top rest (omega arith) (omega arith) later.within);
        apart = each_both c end (end + size_of_segments (sections T choice store cores)) here rest own (section_apart store c middle middle end here (omega arith) ordered one.data_at) later.within later.apart;
      }

-- the same in the terms of the map
all_apart_from : (r : Range) (ss : List Standing) → ApartFrom r ss → All (Apart r) (map range_of ss)
all_apart_from r [] h k d lt = absurd (omega arith)
all_apart_from r (s ∷ ss) h zero d lt = h.0
all_apart_from r (s ∷ ss) h (suc k) d lt = all_apart_from r ss h.1 k d (omega arith)

all_apart : (ss : List Standing) → EachApart ss → AllApart (map range_of ss)
all_apart [] h = tt
all_apart (s ∷ ss) h = (all_apart_from (range_of s) ss h.0, all_apart ss h.1)

all_inside : (base low : ℕ) (ss : List Standing) → 520 ≤ low → Within low base ss → All (Inside base) (map range_of ss)
all_inside base low [] le h k d lt = absurd (omega arith)
all_inside base low (s ∷ ss) le h zero d lt = (omega (arith, h.0), h.1)
all_inside base low (s ∷ ss) le h (suc k) d lt = all_inside base low ss le h.2 k d (omega arith)

first_inside : (base : ℕ) (rs : List Range) → 546 ≤ base → All (Inside base) rs → All (Inside base) (range 520 26 ∷ rs)
first_inside base rs le h zero d lt = (omega arith, omega arith)
first_inside base rs le h (suc k) d lt = h k d (omega arith)

names : (T : Table) (choice : Choice T) (store : List ℕ) (cores : List Core) (c : ℕ) → length cores ≡ length (addresses_from c (sections T choice store cores))
names T choice store [] c = refl
names T choice store (core ∷ cores) c = ap (λ n. suc n) (names T choice store cores (c + size_of_all (section T choice store core)))

pub linked_map_is_map : LinkedMapIsMap
linked_map_is_map T choice cores accepted =
    let store = store_of (segments_of (coding_of choice) cores) in
    let base = stack_base_of (segments_of (coding_of choice) cores) in
    let places = standing (placed cores (addresses_from 546 (sections T choice store cores))) in
    let lies = all_lie T choice store cores 546 (section_words T choice cores accepted) (sections_once T choice cores accepted) in
    let end : 546 + size_of_segments (sections T choice store cores) ≡ base = omega arith in
    let within = subst (λ z. Within 546 z places) end lies.within in
    record {
      named = names T choice store cores 546;
      inside = first_inside base (map range_of places) (omega arith) (all_inside base 546 places (omega arith) within);
      apart = (all_apart_from (range 520 26) places (below_all (range 520 26) 546 base places (omega arith) within), all_apart places lies.apart);
    }
