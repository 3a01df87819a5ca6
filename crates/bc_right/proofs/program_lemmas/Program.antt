-- A whole program: what is in the store that the linker makes, and the run from its start.
use Rattle.std.proofs.Common.{◌≡◌, ◌⊎◌, inl, inr, ⊎_elim, ℕ, suc, ◌+◌, ◌-◌, ◌==◌, ◌<◌, ◌≤◌, Bool, true, false, Option, Some, None, List, [], ◌∷◌, ◌++◌, length, append_assoc, length-append, refl, sym, ap, ◌∙◌, subst, arith}
use Rattle.std.specs.Prelude.{slice_index, nat_le, cond, All, replicate}
use Rattle.std.proofs.lemmas.Bool.{eqb-true}
use Rattle.std.proofs.lemmas.Bool.Decides.{nat_tests}
use Rattle.std.proofs.lemmas.List.{get_or-replicate, length-replicate}
use Rattle.bc_text_items.specs.declared.item.Item.{Item}
use Rattle.bc_text_items.specs.Sizes.{size_of_all}
use Rattle.bc_text_items.specs.Assembled.{assembled, label_places, global_settings}
use Rattle.bc_text_items.proofs.Parts as items
use Rattle.bc_machine_defs.specs.Streams.{Content, HoldBytes}
use Rattle.bc_machine_defs.specs.State.{start}
use Rattle.bc_core.specs.Commands as commands
use Rattle.bc_core.specs.Commands.{Place, Core}
use Rattle.bc_core.specs.WellFormed.{is_core}
use Rattle.bc_core.specs.Map.{Standing, standing_from, standing, Placed, placed}
use Rattle.bc_core.specs.Store.{Dead, cell_at}
use Rattle.bc_machine_defs.specs.declared.streams.Side.TheVariants.{Input, Output}
use Rattle.bc_core.specs.Primitive.{Select, ReadByte, WriteByte, Find, EndStream, Primitive, Known, primitives, primitive_among, address_among}
use Rattle.bc_core.specs.Start.{or_else, setting}
use Rattle.bc_core.specs.Meaning.{Callee, OfSection, OfLibrary, callee, callee_among, of_library}
use Rattle.bc_core.specs.Meaning as meanings
use Rattle.bc_rules_defs.specs.declared.rule.Table.{Table}
use Rattle.bc_gen_defs.specs.Bodies.{Choice, over, coding_of, level_of}
use Rattle.bc_gen_defs.specs.Section.{routines_code, section_items, data_items, setting_items}
use Rattle.bc_link.specs.Labels.{label_address, labels_of}
use Rattle.bc_link.specs.Layout.{size_of_segments, stack_base_of}
use Rattle.bc_link.specs.declared.link_error.LinkError.TheVariants.{LabelTwice, GlobalTwice, TooLarge}
use Rattle.bc_link.specs.Refusals.{first_of, first_repeated, label_twice_from, global_twice, too_large, repeated_global_of, label_unset_from, globals_set, refusal_of}
use Rattle.std.specs.List.{flat_map}
use Rattle.std.specs.Option.{option_map}
use Rattle.bc_link.specs.Store.{boot, words_from, globals_of, store_of}
use Rattle.bc_link.proofs.Lengths.{length-assembled}
use Rattle.bc_right.specs.steps.CodeAt.{HasWords, HasItems, words}
use Rattle.bc_right.specs.steps.Landing.{Moment, Stands}
use Rattle.bc_right.proofs.rule_lemmas.Derivations.{derivations_are_right}
use Rattle.bc_right.specs.commands.Library.{primitive_items}
use Rattle.bc_right.specs.commands.Whole.{boot_items}
use Rattle.bc_right.specs.commands.Section.{AllStand}
use Rattle.bc_right.specs.programs.Linked.{library_routines, library_items, sections_of, segments_of, addresses_from, linked_map, ProgramsRun}
use Rattle.bc_link.proofs.Standing.{store_is_whole}
use Rattle.bc_core.specs.Meaning.{meaning}
use Rattle.bc_core.specs.Same.{Same}
use Rattle.bc_right.specs.steps.Agreement.{Holds}
use Rattle.bc_right.proofs.command_lemmas.Whole.{meaning_is_run}
use Rattle.bc_right.proofs.program_lemmas.Levels.{section_levelled}
use Rattle.bc_right.proofs.program_lemmas.Plain.{Plain, section_plain}
use Rattle.bc_right.proofs.program_lemmas.Standing.{words_front, words_back, words_after, word_at, LabelsAt, labels_front, labels_back, items_stand, plain_size, DataAt, no_byte_in_data, no_byte_in_settings, data_stand}
use Rattle.bc_right.proofs.program_lemmas.Distinct.{Distinct, neither, none_of, are_distinct, labels_at}
use Rattle.bc_right.proofs.program_lemmas.Globals.{Pairs, length_written, pairs_of, pairs_from, found, or_zero, section_settings, setting_among, found_both, found_exchanged, numbers_both, numbers, written_found, globals_written, all_numbers}
use Rattle.bc_right.proofs.program_lemmas.Cells.{first_cells, first_cells-are, cells_length, Clear, clear_both, clear_below, clear_above, data_wider, data_both, cell_dead, cells_agree}

module _ (T : Table) (choice : Choice T) (store : List ℕ) where
  abbrev pub section : Core → List Item
  section core = section_items (coding_of choice) core

  abbrev pub routines : Core → List Item
  routines core = (routines_code (coding_of choice) core).0

  abbrev pub sections : List Core → List (List Item)
  sections cores = sections_of (coding_of choice) cores

  plain : (core : Core) → Plain (routines core)
  plain core = section_plain choice (level_of core.valofs) core.valofs core.places (length core.places + 1)

  -- a section's routines, followed by its data
  pub record OneStands (address : ℕ → ℕ) (core : Core) (c end : ℕ) : Type 0 where
    pub code : HasItems address store c (routines core)
    pub data_at : DataAt store (c + words (routines core)) end (standing_from address 1 core.places)
    pub within : c + words (routines core) ≤ end

  pub one_stands : (core : Core) (c : ℕ) → HasWords store c (assembled (label_address (label_places c (section core))) (section core)) → first_repeated (labels_of (section core)) ≡ None
      → OneStands (label_address (label_places c (section core))) core c (c + size_of_all (section core))
  one_stands core c h e =
      let address = label_address (label_places c (section core)) in
      let rs = routines core in
      let others = data_items 0 core.places ++ setting_items 0 core.places in
      let settings = setting_items 0 core.places in
      let none = no_byte_in_settings 0 core.places in
      let apart = items.parts address c rs others (no_byte_in_data 0 core.places settings none) in
      let all = subst (λ z. HasWords store c z) apart.words h in
      let labels = subst (λ z. LabelsAt address z) apart.places (labels_at c (section core) e) in
      let size = plain_size rs (plain core) in
      let len = length-assembled address rs in
      let middle : c + length (assembled address rs) ≡ c + words rs = omega (arith, size, len) in
      let middle1 : c + size_of_all rs ≡ c + words rs = omega (arith, size) in
      record {
        code = items_stand address store c rs (plain core) (words_front store c (assembled address rs) (assembled address others) all) (labels_front address (label_places c rs) (label_places (c + size_of_all rs) others) labels);
        data_at = data_stand address store (c + words rs) (c + size_of_all (section core)) 0 core.places settings (c + words rs) none (omega arith) (omega (arith, apart.size, size))
            (subst (λ z. HasWords store z (assembled address others)) middle (words_back store c (assembled address rs) (assembled address others) all))
            (subst (λ z. LabelsAt address (label_places z others)) middle1 (labels_back address (label_places c rs) (label_places (c + size_of_all rs) others) labels));
        within = omega (arith, apart.size, size);
      }

  -- no label is set twice
  abbrev pub NoneTwice : List Core → Type 0
  NoneTwice [] = Unit {0}
  NoneTwice (core ∷ cores) = (first_repeated (labels_of (section core)) ≡ None) × NoneTwice cores

  none_twice : (k : ℕ) (cores : List Core) → label_twice_from k (sections cores) ≡ None → NoneTwice cores
  none_twice k [] e = tt
  none_twice k (core ∷ cores) e =
      let h = neither _ (label_twice_from (k + 1) (sections cores)) e in
      (none_of (LabelTwice k) (first_repeated (labels_of (section core))) h.0, none_twice (k + 1) cores h.1)

  abbrev pub first_part : Core → ℕ → List ℕ
  first_part core c = assembled (label_address (label_places c (section core))) (section core)

  pub after_first : (core : Core) (cores : List Core) (c : ℕ) → HasWords store c (words_from c (section core ∷ sections cores)) → HasWords store (c + size_of_all (section core)) (words_from (c + size_of_all (section core)) (sections cores))
  after_first core cores c h =
      let rest = words_from (c + size_of_all (section core)) (sections cores) in
      let len : c + length (first_part core c) ≡ c + size_of_all (section core) = ap (λ z. c + z) (length-assembled (label_address (label_places c (section core))) (section core)) in
      subst (λ z. HasWords store z rest) len (words_back store c (first_part core c) rest h)

  -- the data of all sections
  data_of : (cores : List Core) (c : ℕ) → HasWords store c (words_from c (sections cores)) → NoneTwice cores → DataAt store c (c + size_of_segments (sections cores)) (standing (placed cores (addresses_from c (sections cores))))
  data_of [] c h e = omega arith
  data_of (core ∷ cores) c h e =
      let end = c + size_of_all (section core) in
      let top = c + size_of_segments (sections (core ∷ cores)) in
      let address = label_address (label_places c (section core)) in
      let one = one_stands core c (words_front store c (first_part core c) (words_from end (sections cores)) h) e.0 in
      data_both store c end top (standing_from address 1 core.places) (standing (placed cores (addresses_from end (sections cores))))
      (data_wider store (c + words (routines core)) end c end (standing_from address 1 core.places) (omega arith) (omega arith) one.data_at)
      (data_wider store end (end + size_of_segments (sections cores)) end top (standing (placed cores (addresses_from end (sections cores)))) (omega arith) (omega arith) (data_of cores end (after_first core cores c h) e.1))

  abbrev AllFit : List Core → Type 0
  AllFit [] = Unit {0}
  AllFit (core ∷ cores) = (is_core core ≡ true) × AllFit cores

  all_fit : (cores : List Core) → All (λ core. is_core core ≡ true) cores → AllFit cores
  all_fit [] h = tt
  all_fit (core ∷ cores) h = let first : 0 < suc (length cores) = omega arith in (h 0 core first, all_fit cores (λ k d lt. h (suc k) d (omega arith)))

  module _ (S : Moment) (same_store : S.store ≡ store) (all : List Standing) (dead : (a : ℕ) → (a < 8) ⊎ (520 ≤ a) → Clear a all → cell_at S.cells a ≡ Dead) (top_fits : S.top < 65536) where
    -- the routines of all sections, with no data among them
    all_stand : (cores : List Core) (c : ℕ) (before : List Standing) → HasWords store c (words_from c (sections cores)) → NoneTwice cores → AllFit cores → ((a : ℕ) → c ≤ a → Clear a before) → before ++ standing (placed cores (addresses_from c (sections cores))) ≡ all
        → 520 ≤ c → c + size_of_segments (sections cores) ≤ S.top → AllStand S (placed cores (addresses_from c (sections cores)))
    all_stand [] c before h e fit clear is low high = tt
    all_stand (core ∷ cores) c before h e fit clear is low high =
        let end = c + size_of_all (section core) in
        let address = label_address (label_places c (section core)) in
        let levels = level_of core.valofs in
        let here = standing_from address 1 core.places in
        let rest = standing (placed cores (addresses_from end (sections cores))) in
        let one = one_stands core c (words_front store c (first_part core c) (words_from end (sections cores)) h) e.0 in
        let following = after_first core cores c h in
        let later = data_of cores end following e.1 in
        let levelled = section_levelled core fit.0 in (
          record {
            over = over (coding_of choice) levels;
            begin = c;
            first = length core.places + 1;
            end = c + words (routines core);
            right = derivations_are_right T choice address levels S;
            places = levelled.0;
            valofs = levelled.1;
            stands = record {
              code = record {
                has = subst (λ z. HasItems address z c (routines core)) (sym same_store) one.code;
                dead = λ a lo hi. dead a (inr (omega arith)) (subst (λ z. Clear a z) is (clear_both a before (here ++ rest) (clear a lo)
                    (clear_both a here rest (clear_below store (c + words (routines core)) end a here one.data_at hi)
                    (clear_below store end (end + size_of_segments (sections cores)) a rest later (omega (arith, one.within, hi))))));
                below = omega (arith, one.within, high);
                fits = omega (arith, one.within, high, top_fits);
              };
              ends = refl;
            };
          },
          all_stand cores end (before ++ here) following e.1 fit.1 (λ a le. clear_both a before here (clear a (omega arith)) (clear_above store (c + words (routines core)) end a here one.data_at le))
              (append_assoc before here rest ∙ is) (omega arith) (omega (arith, high)),
        )

  -- what sets a global
  settings_found : (cores : List Core) (c n : ℕ) → setting (standing (placed cores (addresses_from c (sections cores)))) n ≡ or_else (found (pairs_from c (sections cores)) n) (address_among primitives n)
  settings_found [] c n = refl
  settings_found (core ∷ cores) c n =
      let end = c + size_of_all (section core) in
      let address = label_address (label_places c (section core)) in
      let rest = standing (placed cores (addresses_from end (sections cores))) in
      let own = found (pairs_of address (global_settings (setting_items 0 core.places))) n in
      setting_among address 0 core.places rest n ∙ ap (λ z. or_else own z) (settings_found cores end n)
      ∙ sym (or_assoc own (found (pairs_from end (sections cores)) n) (address_among primitives n))
      ∙ ap (λ z. or_else (or_else (found (pairs_of address z) n) (found (pairs_from end (sections cores)) n)) (address_among primitives n)) (sym (section_settings (routines core) core.places (plain core)))
      ∙ ap (λ z. or_else z (address_among primitives n)) (sym (found_both (pairs_of address (global_settings (section core))) (pairs_from end (sections cores)) n)) where
        or_assoc : (a b d : Option ℕ) → or_else (or_else a b) d ≡ or_else a (or_else b d)
        or_assoc None b d = refl
        or_assoc (Some v) b d = refl

-- the primitives
abbrev EachStands : Moment → List Known → Type 0
EachStands S [] = Unit {0}
EachStands S (k ∷ ks) = ((end : ℕ) × Stands (λ l. 0) S k.address (primitive_items k.primitive) end) × EachStands S ks

known_stands : (S : Moment) (ks : List Known) (v : ℕ) (q : Primitive) → EachStands S ks → primitive_among ks v ≡ Some q → (end : ℕ) × Stands (λ l. 0) S v (primitive_items q) end
known_stands S [] v q h e = absurd (let f : None ≡ Some q = e in cc)
known_stands S (k ∷ ks) v q h e = by (λ g. known_stands S ks v q h.1 g) (k.address == v) refl e where
  by : (primitive_among ks v ≡ Some q → (end : ℕ) × Stands (λ l. 0) S v (primitive_items q) end) → (t : Bool) → (k.address == v) ≡ t → (elim t as (λ z. Option Primitive) [ true ↦ Some k.primitive | false ↦ primitive_among ks v ]) ≡ Some q → (end : ℕ) × Stands (λ l. 0) S v (primitive_items q) end
  by ih true f g =
      let same : k.primitive ≡ q = cc in
      subst (λ z. (end : ℕ) × Stands (λ l. 0) S z (primitive_items q) end) (eqb-true k.address v f) (subst (λ z. (end : ℕ) × Stands (λ l. 0) S k.address (primitive_items z) end) same h.0)
  by ih false f g = ih g

no_routine : (s : Placed) (r : commands.Routine) (q : Primitive) → Some (OfSection s r) ≡ Some (OfLibrary q) → ⊥
no_routine s r q e = let f : OfSection s r ≡ OfLibrary q = cc in cc

-- a call that finds its routine among a section's places is no call of a primitive
no_primitive : (section : Placed) (l : ℕ) (ps : List Place) (v : ℕ) (q : Primitive) → callee_among section l ps v ≡ Some (OfLibrary q) → ⊥
no_primitive section l [] v q e = let f : None ≡ Some (OfLibrary q) = e in cc
no_primitive section l (commands.Code r ∷ ps) v q e = by (no_primitive section (l + 1) ps v q) (section.address l == v) e where
  by : (callee_among section (l + 1) ps v ≡ Some (OfLibrary q) → ⊥) → (t : Bool) → (elim t as (λ z. Option Callee) [ true ↦ Some (OfSection section r) | false ↦ callee_among section (l + 1) ps v ]) ≡ Some (OfLibrary q) → ⊥
  by ih true f = no_routine section r q f
  by ih false f = ih f
no_primitive section l (commands.Static w ∷ ps) v q e = no_primitive section (l + 1) ps v q e
no_primitive section l (commands.Table ws ∷ ps) v q e = no_primitive section (l + 1) ps v q e
no_primitive section l (commands.Text bytes ∷ ps) v q e = no_primitive section (l + 1) ps v q e

library_found : (program : List Placed) (v : ℕ) (q : Primitive) → callee program v ≡ Some (OfLibrary q) → primitive_among primitives v ≡ Some q
library_found [] v q e = by (primitive_among primitives v) e where
  by : (o : Option Primitive) → of_library o ≡ Some (OfLibrary q) → o ≡ Some q
  by None f = absurd (let g : None ≡ Some (OfLibrary q) = f in cc)
  by (Some p) f = let g : OfLibrary p ≡ OfLibrary q = cc in let same : p ≡ q = cc in ap (λ z. Some z) same
library_found (p ∷ ps) v q e = by (λ g. library_found ps v q g) (callee_among p 1 p.core.places v) refl e where
  by : (callee ps v ≡ Some (OfLibrary q) → primitive_among primitives v ≡ Some q) → (o : Option Callee) → callee_among p 1 p.core.places v ≡ o → meanings.or_else o (callee ps v) ≡ Some (OfLibrary q) → primitive_among primitives v ≡ Some q
  by ih None f g = ih g
  by ih (Some k) f g = absurd (no_primitive p 1 p.core.places v q (f ∙ g))

-- code without labels is right whatever the addresses of labels are
abbrev library_address : ℕ → ℕ
library_address = label_address (label_places 520 library_items)

module _ (store : List ℕ) (S : Moment) (same_store : S.store ≡ store) (all : List Standing) (dead : (a : ℕ) → (a < 8) ⊎ (520 ≤ a) → Clear a all → cell_at S.cells a ≡ Dead) (top_fits : S.top < 65536)
    (clear_low : (a : ℕ) → a < 546 → Clear a all) (above : 546 ≤ S.top) where
  -- items at one of the first addresses
  low_stands : (address : ℕ → ℕ) (c end : ℕ) (is : List Item) → (c + words is ≤ 8) ⊎ (520 ≤ c) → end ≤ 546 → c + words is ≡ end → HasItems address store c is → Stands address S c is end
  low_stands address c end is where_at le e h = record {
    code = record {
      has = subst (λ z. HasItems address z c is) (sym same_store) h;
      dead = λ a lo hi. dead a (⊎_elim (λ lt. inl (omega arith)) (λ ge. inr (omega arith)) where_at) (clear_low a (omega arith));
      below = omega arith;
      fits = omega arith;
    };
    ends = e;
  }

  boot_stands : HasWords store 0 boot → Stands (λ l. 0) S 0 boot_items 3
  boot_stands h =
      let at : (0 + words boot_items ≤ 8) ⊎ (520 ≤ 0) = inl (omega arith) in
      low_stands (λ l. 0) 0 3 boot_items at (omega arith) refl (items_stand (λ l. 0) store 0 boot_items tt h tt)

  library_stands : HasWords store 520 (assembled library_address library_items) → EachStands S primitives
  library_stands h =
      let here : HasItems library_address store 520 library_routines = items_stand library_address store 520 library_routines tt h (refl, (refl, (refl, (refl, (refl, (refl, (refl, (refl, tt)))))))) in
      let x1 = here.2 in
      let x2 = x1.2.2.2.2.2 in
      let x3 = x2.2.2.2.2.2 in
      let x4 = x3.2.2.2 in
      let x5 = x4.2.2.2.2.2 in
      let x6 = x5.2.2.2.2 in
      let x7 = x6.2.2.2.2 in
      let x8 = x7.2.2.2.2 in
      ((524, low_stands (λ l. 0) 520 524 (primitive_items (Select Input)) (inr (omega arith)) (omega arith) refl (x1.0, tt, (x1.2.0, tt, (x1.2.2.0, tt, (x1.2.2.2.0, tt, tt))))), ((528, low_stands (λ l. 0) 524 528 (primitive_items (Select Output)) (inr (omega arith)) (omega arith) refl (x2.0, tt, (x2.2.0, tt, (x2.2.2.0, tt, (x2.2.2.2.0, tt, tt))))), ((530, low_stands (λ l. 0) 528 530 (primitive_items ReadByte) (inr (omega arith)) (omega arith) refl (x3.0, tt, (x3.2.0, tt, tt))), ((534, low_stands (λ l. 0) 530 534 (primitive_items WriteByte) (inr (omega arith)) (omega arith) refl (x4.0, tt, (x4.2.0, tt, (x4.2.2.0, tt, (x4.2.2.2.0, tt, tt))))), ((537, low_stands (λ l. 0) 534 537 (primitive_items (Find Input)) (inr (omega arith)) (omega arith) refl (x5.0, tt, (x5.2.0, tt, (x5.2.2.0, tt, tt)))), ((540, low_stands (λ l. 0) 537 540 (primitive_items (Find Output)) (inr (omega arith)) (omega arith) refl (x6.0, tt, (x6.2.0, tt, (x6.2.2.0, tt, tt)))), ((543, low_stands (λ l. 0) 540 543 (primitive_items (EndStream Input)) (inr (omega arith)) (omega arith) refl (x7.0, tt, (x7.2.0, tt, (x7.2.2.0, tt, tt)))), ((546, low_stands (λ l. 0) 543 546 (primitive_items (EndStream Output)) (inr (omega arith)) (omega arith) refl (x8.0, tt, (x8.2.0, tt, (x8.2.2.0, tt, tt)))), tt))))))))

module _ (T : Table) (choice : Choice T) (cores : List Core) (accepted : refusal_of (segments_of (coding_of choice) cores) ≡ None) where
  abbrev pub segments : List (List Item)
  segments = segments_of (coding_of choice) cores

  abbrev pub own_sections : List (List Item)
  own_sections = sections_of (coding_of choice) cores

  abbrev pub linked_store : List ℕ
  linked_store = store_of segments

  abbrev pub base : ℕ
  base = stack_base_of segments

  abbrev program : List Placed
  program = placed cores (addresses_from 546 own_sections)

  low_words : List ℕ
  low_words = boot ++ replicate 5 0

  not_twice : label_twice_from 0 segments ≡ None
  not_twice = (neither (label_twice_from 0 segments) (first_of (global_twice segments) (first_of (too_large segments) (label_unset_from 0 segments))) accepted).0

  globals_once : first_repeated (flat_map globals_set segments) ≡ None
  globals_once =
      let h = neither (label_twice_from 0 segments) (first_of (global_twice segments) (first_of (too_large segments) (label_unset_from 0 segments))) accepted in
      none_of GlobalTwice (repeated_global_of segments) (neither (global_twice segments) (first_of (too_large segments) (label_unset_from 0 segments)) h.1).0

  pub fits : base ≤ 65472
  fits =
      let h = neither (label_twice_from 0 segments) (first_of (global_twice segments) (first_of (too_large segments) (label_unset_from 0 segments))) accepted in
      let k = neither (global_twice segments) (first_of (too_large segments) (label_unset_from 0 segments)) h.1 in
      by (nat_le base 65472) refl (neither (too_large segments) (label_unset_from 0 segments) k.1).0 where
        by : (t : Bool) → nat_le base 65472 ≡ t → cond t None (Some TooLarge) ≡ None → base ≤ 65472
        by true e f = grind (arith, nat_tests)
        by false e f = absurd (let g : Some TooLarge ≡ None = f in cc)

  zeros : List ℕ
  zeros = replicate (65536 - base) 0

  all_standing : List Standing
  all_standing = standing program

  store_parts : linked_store ≡ (low_words ++ globals_of segments) ++ (words_from 520 segments ++ zeros)
  unfolding low_words zeros
  store_parts = append_assoc (low_words ++ globals_of segments) (words_from 520 segments) zeros

  store_low : linked_store ≡ low_words ++ (globals_of segments ++ (words_from 520 segments ++ zeros))
  store_low = store_parts ∙ append_assoc low_words (globals_of segments) (words_from 520 segments ++ zeros)

  length_globals : length (globals_of segments) ≡ 512
  length_globals = ap length (globals_written 520 segments (replicate 512 0)) ∙ length_written (pairs_from 520 segments) (replicate 512 0) ∙ length-replicate {A = ℕ} 512 0

  boot_words : HasWords linked_store 0 boot
  unfolding low_words
  boot_words = subst (λ z. HasWords z 0 boot) (sym store_low) (refl, (refl, (refl, tt)))

  global_words : HasWords linked_store 8 (globals_of segments)
  unfolding low_words
  global_words = subst (λ z. HasWords z 8 (globals_of segments)) (sym store_low) (words_after low_words (globals_of segments) (words_from 520 segments ++ zeros))

  length_low : length (low_words ++ globals_of segments) ≡ 520
  unfolding low_words
  length_low = let a = length-append low_words (globals_of segments) in let b = length_globals in let l : length low_words ≡ 8 = refl in omega arith

  segment_words : HasWords linked_store 520 (words_from 520 segments)
  segment_words =
      subst (λ z. HasWords z 520 (words_from 520 segments)) (sym store_parts)
      (subst (λ z. HasWords ((low_words ++ globals_of segments) ++ (words_from 520 segments ++ zeros)) z (words_from 520 segments)) length_low (words_after (low_words ++ globals_of segments) (words_from 520 segments) zeros))

  library_words : HasWords linked_store 520 (assembled library_address library_items)
  library_words = words_front linked_store 520 (assembled library_address library_items) (words_from 546 own_sections) segment_words

  pub section_words : HasWords linked_store 546 (words_from 546 own_sections)
  section_words = words_back linked_store 520 (assembled library_address library_items) (words_from 546 own_sections) segment_words

  pub sections_once : NoneTwice T choice linked_store cores
  sections_once = none_twice T choice linked_store 1 cores (neither (option_map (LabelTwice 0) (first_repeated (labels_of library_items))) (label_twice_from 1 own_sections) not_twice).1

  all_data : DataAt linked_store 546 (546 + size_of_segments own_sections) all_standing
  unfolding all_standing
  all_data = data_of T choice linked_store cores 546 section_words sections_once

  numbers_once : Distinct (numbers (pairs_from 520 segments))
  numbers_once = subst Distinct (sym (all_numbers 520 segments)) (are_distinct (flat_map globals_set segments) globals_once)

  library_pairs : Pairs
  library_pairs = pairs_of library_address (global_settings library_items)

  global_is : (n : ℕ) → n < 512 → slice_index linked_store (8 + n) ≡ or_zero (setting all_standing n) 0
  unfolding all_standing library_pairs
  global_is n lt =
      let pairs = pairs_from 520 segments in
      let own = pairs_from 546 own_sections in
      let inside : n < length {A = ℕ} (replicate 512 0) = subst (λ z. n < z) (sym (length-replicate {A = ℕ} 512 0)) lt in
      let apart = subst Distinct (numbers_both library_pairs own) numbers_once in
      word_at linked_store 8 n (globals_of segments) global_words (subst (λ z. n < z) (sym length_globals) lt)
      ∙ ap (λ z. slice_index z n) (globals_written 520 segments (replicate 512 0))
      ∙ written_found pairs (replicate 512 0) n numbers_once inside
      ∙ ap (λ z. or_zero (found pairs n) z) (get_or-replicate 512 n 0 0 lt)
      ∙ ap (λ z. or_zero z 0) (found_exchanged library_pairs own n apart)
      ∙ ap (λ z. or_zero z 0) (sym (settings_found T choice linked_store cores 546 n))

  moment_of_start : Moment
  moment_of_start = record { top = base + 2; cells = first_cells all_standing; store = linked_store }

  dead_cells : (a : ℕ) → (a < 8) ⊎ (520 ≤ a) → Clear a all_standing → cell_at moment_of_start.cells a ≡ Dead
  unfolding moment_of_start
  dead_cells a out clear = cell_dead all_standing a out clear

  low_clear : (a : ℕ) → a < 546 → Clear a all_standing
  low_clear a lt = clear_below linked_store 546 (546 + size_of_segments own_sections) a all_standing all_data lt

  sections_stand : AllFit T choice linked_store cores → AllStand moment_of_start program
  unfolding moment_of_start all_standing
  sections_stand fit = all_stand T choice linked_store moment_of_start refl all_standing dead_cells (let f = fits in omega arith) cores 546 [] section_words sections_once fit (λ a le. tt) refl (omega arith) (omega arith)

  first_holds : Holds (base + 2) moment_of_start.cells moment_of_start.store
  unfolding moment_of_start
  first_holds = record {
    agrees = cells_agree all_standing linked_store 546 (546 + size_of_segments own_sections) all_data global_is;
    above = λ a ge. cell_dead all_standing a (inr (omega arith)) (clear_above linked_store 546 (546 + size_of_segments own_sections) a all_standing all_data (omega arith));
    whole = (store_is_whole segments).2 (let f = fits in omega arith);
    spans = cells_length all_standing;
  }

  pub program_runs : AllFit T choice linked_store cores → ((i : ℕ) → slice_index linked_store i < 65536) → (streams : Content) → HoldBytes streams.inputs → (n : ℕ) → Same (meaning cores (linked_map (coding_of choice) cores) streams n) n (start linked_store base streams)
  unfolding moment_of_start all_standing
  program_runs fit store_words streams bytes n =
      let top_fits : base + 2 < 65536 = let f = fits in omega arith in
      let over_low : 546 ≤ base + 2 = omega arith in
      meaning_is_run moment_of_start cores (linked_map (coding_of choice) cores) (λ l. 0) 3
      (boot_stands linked_store moment_of_start refl all_standing dead_cells top_fits low_clear over_low boot_words) (sections_stand fit)
      (λ v q e. known_stands moment_of_start primitives v q (library_stands linked_store moment_of_start refl all_standing dead_cells top_fits low_clear over_low library_words) (library_found program v q e))
      (first_cells-are all_standing) (omega arith) (let f = fits in omega arith) first_holds streams n
      (record { a = omega arith; b = omega arith; c = omega arith; p = omega arith; store = store_words; inputs = bytes })

pub programs_run : ProgramsRun
programs_run T choice cores fit accepted store_words streams bytes n =
    program_runs T choice cores accepted (all_fit T choice (store_of (segments_of (coding_of choice) cores)) cores fit) store_words streams bytes n
