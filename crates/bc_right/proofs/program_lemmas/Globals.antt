-- The linker writes into the cells of the globals exactly what the sections and the primitives set.
use Rattle.std.proofs.Common.{◌≡◌, ℕ, ◌+◌, ◌==◌, ◌<◌, Bool, true, false, Option, Some, None, List, [], ◌∷◌, ◌++◌, length, append_assoc, refl, sym, ap, ◌∙◌, subst, arith}
use Rattle.std.specs.Prelude.{map, slice_index, slice_set}
use Rattle.std.specs.List.{flat_map}
use Rattle.std.proofs.lemmas.Bool.{eqb-true}
use Rattle.std.proofs.lemmas.List.{get_or-set_same, get_or-set_other, length-set}
use Rattle.bc_text_items.specs.declared.item.Item.{Item}
use Rattle.bc_text_items.specs.declared.item.Item.TheVariants.{Label, Data, DataLabel, Byte, Operation, Global}
use Rattle.bc_text_items.specs.Sizes.{size_of_all}
use Rattle.bc_text_items.specs.Assembled.{label_places, global_settings}
use Rattle.bc_text_items.proofs.Parts as items
use Rattle.bc_core.specs.Commands as commands
use Rattle.bc_core.specs.Commands.{Place}
use Rattle.bc_core.specs.Map.{ARoutine, Standing, standing_from}
use Rattle.bc_core.specs.Start.{or_else, sets, setting}
use Rattle.bc_gen_defs.specs.Section as section
use Rattle.bc_gen_defs.specs.Section.{data_items, setting_items}
use Rattle.bc_link.specs.Labels.{label_address}
use Rattle.bc_link.specs.Refusals.{globals_set}
use Rattle.bc_link.specs.Store.{with_settings, with_globals_from}
use Rattle.bc_right.proofs.program_lemmas.Plain.{Plain}
use Rattle.bc_right.proofs.program_lemmas.Distinct.{Absent, Distinct}
use Rattle.bc_right.proofs.program_lemmas.Standing.{no_byte_in_data, no_byte_in_settings}

-- each global with the address that it is set to, in order
abbrev pub Pairs : Type 0
Pairs = List (ℕ × ℕ)

abbrev pub numbers : Pairs → List ℕ
numbers ps = map (λ (p : ℕ × ℕ). p.0) ps

abbrev pub pairs_of : (ℕ → ℕ) → List (ℕ × ℕ) → Pairs
pairs_of address [] = []
pairs_of address (s ∷ ss) = (s.0, address s.1) ∷ pairs_of address ss

abbrev pub pairs_from : ℕ → List (List Item) → Pairs
pairs_from start [] = []
pairs_from start (seg ∷ segs) = pairs_of (label_address (label_places start seg)) (global_settings seg) ++ pairs_from (start + size_of_all seg) segs

abbrev pub written : Pairs → List ℕ → List ℕ
written [] cells = cells
written (p ∷ ps) cells = written ps (slice_set cells p.0 p.1)

abbrev pub found : Pairs → ℕ → Option ℕ
found [] n = None
found (p ∷ ps) n = elim (p.0 == n) [ true ↦ Some p.1 | false ↦ found ps n ]

abbrev pub or_zero : Option ℕ → ℕ → ℕ
or_zero None d = d
or_zero (Some v) d = v

settings_written : (address : ℕ → ℕ) (ss : List (ℕ × ℕ)) (cells : List ℕ) → with_settings address ss cells ≡ written (pairs_of address ss) cells
settings_written address [] cells = refl
settings_written address ((n, l) ∷ ss) cells = settings_written address ss (slice_set cells n (address l))

written_both : (ps qs : Pairs) (cells : List ℕ) → written (ps ++ qs) cells ≡ written qs (written ps cells)
written_both [] qs cells = refl
written_both (p ∷ ps) qs cells = written_both ps qs (slice_set cells p.0 p.1)

pub globals_written : (start : ℕ) (segs : List (List Item)) (cells : List ℕ) → with_globals_from start segs cells ≡ written (pairs_from start segs) cells
globals_written start [] cells = refl
globals_written start (seg ∷ segs) cells =
    let address = label_address (label_places start seg) in
    globals_written (start + size_of_all seg) segs (with_settings address (global_settings seg) cells)
    ∙ ap (λ z. written (pairs_from (start + size_of_all seg) segs) z) (settings_written address (global_settings seg) cells)
    ∙ sym (written_both (pairs_of address (global_settings seg)) (pairs_from (start + size_of_all seg) segs) cells)

pub absent_found : (ps : Pairs) (n : ℕ) → Absent n (numbers ps) → found ps n ≡ None
absent_found [] n h = refl
absent_found (p ∷ ps) n h = by (p.0 == n) refl (absent_found ps n h.1) where
  by : (t : Bool) → (p.0 == n) ≡ t → found ps n ≡ None → (elim t as (λ z. Option ℕ) [ true ↦ Some p.1 | false ↦ found ps n ]) ≡ None
  by true e ih = absurd (h.0 (sym (eqb-true p.0 n e)))
  by false e ih = ih

-- if the globals are distinct, each cell holds what sets it
pub written_found : (ps : Pairs) (cells : List ℕ) (n : ℕ) → Distinct (numbers ps) → n < length cells → slice_index (written ps cells) n ≡ or_zero (found ps n) (slice_index cells n)
written_found [] cells n h lt = refl
written_found (p ∷ ps) cells n h lt =
    written_found ps (slice_set cells p.0 p.1) n h.1 (subst (λ z. n < z) (sym (length-set cells p.0 p.1)) lt) ∙ by (p.0 == n) refl where
      by : (t : Bool) → (p.0 == n) ≡ t → or_zero (found ps n) (slice_index (slice_set cells p.0 p.1) n) ≡ or_zero (elim t as (λ z. Option ℕ) [ true ↦ Some p.1 | false ↦ found ps n ]) (slice_index cells n)
      by true e =
          let same = eqb-true p.0 n e in
          ap (λ z. or_zero z (slice_index (slice_set cells p.0 p.1) n)) (absent_found ps n (subst (λ z. Absent z (numbers ps)) same h.0))
          ∙ ap (λ z. slice_index (slice_set cells z p.1) n) same ∙ get_or-set_same cells n p.1 0 lt
      by false e = ap (λ z. or_zero (found ps n) z) (get_or-set_other cells p.0 n p.1 0 (λ k. let f : true ≡ false = sym (ap (λ z. z == n) (sym k) ∙ eqb_refl n) ∙ e in cc)) where
        eqb_refl : (k : ℕ) → (k == k) ≡ true
        eqb_refl k = grind arith

pub numbers_both : (ps qs : Pairs) → numbers (ps ++ qs) ≡ numbers ps ++ numbers qs
numbers_both [] qs = refl
numbers_both (p ∷ ps) qs = ap (λ z. p.0 ∷ z) (numbers_both ps qs)

pub length_written : (ps : Pairs) (cells : List ℕ) → length (written ps cells) ≡ length cells
length_written [] cells = refl
length_written (p ∷ ps) cells = length_written ps (slice_set cells p.0 p.1) ∙ length-set cells p.0 p.1

absent_back : (x : ℕ) (xs ys : List ℕ) → Absent x (xs ++ ys) → Absent x ys
absent_back x [] ys h = h
absent_back x (y ∷ xs) ys h = absent_back x xs ys h.1

or_none : (o : Option ℕ) → or_else o None ≡ o
or_none None = refl
or_none (Some v) = refl

-- for distinct globals the order doesn't matter
pub found_exchanged : (ps qs : Pairs) (n : ℕ) → Distinct (numbers ps ++ numbers qs) → found (ps ++ qs) n ≡ or_else (found qs n) (found ps n)
found_exchanged [] qs n h = sym (or_none (found qs n))
found_exchanged (p ∷ ps) qs n h = by (p.0 == n) refl (found_exchanged ps qs n h.1) where
  by : (t : Bool) → (p.0 == n) ≡ t → found (ps ++ qs) n ≡ or_else (found qs n) (found ps n)
      → (elim t as (λ z. Option ℕ) [ true ↦ Some p.1 | false ↦ found (ps ++ qs) n ]) ≡ or_else (found qs n) (elim t as (λ z. Option ℕ) [ true ↦ Some p.1 | false ↦ found ps n ])
  by true e ih = sym (ap (λ z. or_else z (Some p.1)) (absent_found qs n (subst (λ z. Absent z (numbers qs)) (eqb-true p.0 n e) (absent_back p.0 (numbers ps) (numbers qs) h.0))))
  by false e ih = ih

-- the settings of a section
plain_settings : (is : List Item) → Plain is → global_settings is ≡ []
plain_settings [] h = refl
plain_settings (Byte b ∷ is) h = absurd h
plain_settings (Label m ∷ is) h = plain_settings is h
plain_settings (Data n ∷ is) h = plain_settings is h
plain_settings (DataLabel n ∷ is) h = plain_settings is h
plain_settings (Operation f i b n ∷ is) h = plain_settings is h
plain_settings (Global g m ∷ is) h = absurd h

data_settings : (ws : List ℕ) (rest : List Item) → global_settings (map Data ws ++ rest) ≡ global_settings rest
data_settings [] rest = refl
data_settings (w ∷ ws) rest = data_settings ws rest

byte_settings : (bs : List ℕ) (rest : List Item) → global_settings (map Byte bs ++ rest) ≡ global_settings rest
byte_settings [] rest = refl
byte_settings (b ∷ bs) rest = byte_settings bs rest

places_settings : (j : ℕ) (ps : List Place) (others : List Item) → global_settings (data_items j ps ++ others) ≡ global_settings others
places_settings j [] others = refl
places_settings j (commands.Code r ∷ ps) others = places_settings (j + 1) ps others
places_settings j (commands.Static w ∷ ps) others = places_settings (j + 1) ps others
places_settings j (commands.Table ws ∷ ps) others =
    ap global_settings (append_assoc (map Data ws) (data_items (j + 1) ps) others) ∙ data_settings ws (data_items (j + 1) ps ++ others) ∙ places_settings (j + 1) ps others
places_settings j (commands.Text bytes ∷ ps) others =
    ap global_settings (append_assoc (map Byte bytes) (data_items (j + 1) ps) others) ∙ byte_settings bytes (data_items (j + 1) ps ++ others) ∙ places_settings (j + 1) ps others

pub section_settings : (routines : List Item) (ps : List Place) → Plain routines → global_settings (routines ++ (data_items 0 ps ++ setting_items 0 ps)) ≡ global_settings (setting_items 0 ps)
section_settings routines ps plain =
    let others = data_items 0 ps ++ setting_items 0 ps in
    (items.parts (λ l. 0) 0 routines others (no_byte_in_data 0 ps (setting_items 0 ps) (no_byte_in_settings 0 ps))).settings
    ∙ ap (λ z. z ++ global_settings others) (plain_settings routines plain) ∙ places_settings 0 ps (setting_items 0 ps)

or_assoc : (a b c : Option ℕ) → or_else (or_else a b) c ≡ or_else a (or_else b c)
or_assoc None b c = refl
or_assoc (Some v) b c = refl

-- what sets a global, among a section's places and then among others
pub setting_among : (address : ℕ → ℕ) (j : ℕ) (ps : List Place) (ss : List Standing) (n : ℕ) → setting (standing_from address (j + 1) ps ++ ss) n ≡ or_else (found (pairs_of address (global_settings (setting_items j ps))) n) (setting ss n)
setting_among address j [] ss n = refl
setting_among address j (commands.Code r ∷ ps) ss n = by_global r.global (setting_among address (j + 1) ps ss n) where
  others : Option ℕ
  others = found (pairs_of address (global_settings (setting_items (j + 1) ps))) n

  by_test : (t : Bool) → or_else (elim t as (λ z. Option ℕ) [ true ↦ Some (address (j + 1)) | false ↦ None ]) (or_else others (setting ss n)) ≡ or_else (elim t as (λ z. Option ℕ) [ true ↦ Some (address (j + 1)) | false ↦ others ]) (setting ss n)
  by_test true = refl
  by_test false = refl

  by_global : (g : Option ℕ) → setting (standing_from address (j + 1 + 1) ps ++ ss) n ≡ or_else others (setting ss n)
      → or_else (sets (ARoutine g) (address (j + 1)) n) (setting (standing_from address (j + 1 + 1) ps ++ ss) n) ≡ or_else (found (pairs_of address (global_settings (section.setting g (j + 1) ++ setting_items (j + 1) ps))) n) (setting ss n)
  by_global None ih = ih
  by_global (Some m) ih = ap (λ z. or_else (sets (ARoutine (Some m)) (address (j + 1)) n) z) ih ∙ by_test (m == n)
setting_among address j (commands.Static w ∷ ps) ss n = setting_among address (j + 1) ps ss n
setting_among address j (commands.Table ws ∷ ps) ss n = setting_among address (j + 1) ps ss n
setting_among address j (commands.Text bytes ∷ ps) ss n = setting_among address (j + 1) ps ss n

pub found_both : (ps qs : Pairs) (n : ℕ) → found (ps ++ qs) n ≡ or_else (found ps n) (found qs n)
found_both [] qs n = refl
found_both (p ∷ ps) qs n = by (p.0 == n) (found_both ps qs n) where
  by : (t : Bool) → found (ps ++ qs) n ≡ or_else (found ps n) (found qs n) → (elim t as (λ z. Option ℕ) [ true ↦ Some p.1 | false ↦ found (ps ++ qs) n ]) ≡ or_else (elim t as (λ z. Option ℕ) [ true ↦ Some p.1 | false ↦ found ps n ]) (found qs n)
  by true ih = refl
  by false ih = ih

-- the numbers of the globals that are set, in the form in which the linker looks for duplicates
set_numbers : (address : ℕ → ℕ) (is : List Item) → numbers (pairs_of address (global_settings is)) ≡ globals_set is
set_numbers address [] = refl
set_numbers address (Label m ∷ is) = set_numbers address is
set_numbers address (Data n ∷ is) = set_numbers address is
set_numbers address (DataLabel n ∷ is) = set_numbers address is
set_numbers address (Byte b ∷ is) = set_numbers address is
set_numbers address (Operation f i b n ∷ is) = set_numbers address is
set_numbers address (Global g m ∷ is) = ap (λ z. g ∷ z) (set_numbers address is)

pub all_numbers : (start : ℕ) (segs : List (List Item)) → numbers (pairs_from start segs) ≡ flat_map globals_set segs
all_numbers start [] = refl
all_numbers start (seg ∷ segs) =
    let address = label_address (label_places start seg) in
    numbers_both (pairs_of address (global_settings seg)) (pairs_from (start + size_of_all seg) segs)
    ∙ ap (λ z. z ++ numbers (pairs_from (start + size_of_all seg) segs)) (set_numbers address seg) ∙ ap (λ z. globals_set seg ++ z) (all_numbers (start + size_of_all seg) segs)
