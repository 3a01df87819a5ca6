-- The store at the start of a run.
use Rattle.std.proofs.Common.{◌≡◌, ◌≢◌, ⊎_elim, ℕ, zero, suc, ◌+◌, ◌-◌, ◌*◌, ◌<◌, ◌≤◌, Bool, true, false, List, [], ◌∷◌, ◌++◌, length, map, take, drop, Some, None, refl, sym, ap, ◌∙◌, arith}
use Rattle.std.specs.Prelude.{◌==◌, nat_le, cond, Option, slice_get, slice_index, slice_index_or, slice_set}
use Rattle.std.proofs.Math.ListN.{replicate, get_or, get_or-map}
use Rattle.std.proofs.lemmas.List.{map-append, append_assoc, append-nil, take_all, take_more, drop_all, get_or-set_same, get_or-set_other, get_or-replicate, length-set, length-map, length-append, length-replicate}
use Rattle.std.proofs.lemmas.Option.{slice_get_past, slice_get_within}
use Rattle.std.proofs.lemmas.Bool.{cases_lt}
use Rattle.std.proofs.lemmas.Bool.Decides.{nat_tests}
use Rattle.bc_core.specs.declared.command.Place as core
use Rattle.bc_core.specs.Commands.{Place, Code, Static, Table, Text}
use Rattle.bc_core.specs.Map.{Placed, Holding, ARoutine, Words, Standing, held_by, standing, standing_from}
use Rattle.bc_core.specs.Start.{or_else, sets, setting, word_of, data_word, data_cell, start_cell, cells_from}
use Rattle.bc_core.specs.Store as store
use Rattle.bc_core.specs.Store.{cell_at}
use Rattle.bc_core.specs.View.{place_of}
use Rattle.bc_core.specs.Words.{packed, data_words}
use Rattle.bc_interpret_store.specs.declared.cell.Cell.{Cell}
use Rattle.bc_interpret_store.specs.declared.cell.Cell.TheVariants as cells_of
use Rattle.bc_interpret_store.specs.Cells.{cell_view}
use Rattle.bc_interpret_steps.specs.declared.sections.Section.{Section}
use Rattle.bc_interpret_steps.specs.Sections.{placed_of, program_of}
use Rattle.bc_interpret.specs.Starting.{HasSetting, Sets, AreDead, written, words_in, places_in, filled_with}
use Rattle.bc_interpret.proofs.Tables.{by_cond}

-- words of bytes

pub packed_word : (bytes : List ℕ) (k : ℕ) → 2 * k < length bytes → slice_get (packed bytes) k ≡ Some (slice_index bytes (2 * k) * 256 + slice_index bytes (2 * k + 1))
packed_word [] k l = absurd (omega arith)
packed_word (high ∷ []) zero l = ap Some (omega arith)
packed_word (high ∷ []) (suc k) l = absurd (omega arith)
packed_word (high ∷ low ∷ bytes) zero l = refl
packed_word (high ∷ low ∷ bytes) (suc k) l =
    let e : 2 * suc k ≡ suc (suc (2 * k)) = omega arith in
    let e1 : 2 * suc k + 1 ≡ suc (suc (2 * k + 1)) = omega arith in
    packed_word bytes k (omega arith)
    ∙ sym (ap (λ n. Some (slice_index (high ∷ low ∷ bytes) n * 256 + slice_index (high ∷ low ∷ bytes) (2 * suc k + 1))) e
    ∙ ap (λ n. Some (slice_index (high ∷ low ∷ bytes) (suc (suc (2 * k))) * 256 + slice_index (high ∷ low ∷ bytes) n)) e1)

pub no_packed_word : (bytes : List ℕ) (k : ℕ) → length bytes ≤ 2 * k → slice_get (packed bytes) k ≡ None
no_packed_word [] k l = slice_get_past (packed []) k (omega arith)
no_packed_word (high ∷ []) zero l = absurd (omega arith)
no_packed_word (high ∷ []) (suc k) l = slice_get_past (packed (high ∷ [])) (suc k) (omega arith)
no_packed_word (high ∷ low ∷ bytes) zero l = absurd (omega arith)
no_packed_word (high ∷ low ∷ bytes) (suc k) l = no_packed_word bytes k (omega arith)

-- the words of a place, one by one

drop_at : (ws : List ℕ) (k w : ℕ) → Some w ≡ slice_get ws k → drop k ws ≡ w ∷ drop (k + 1) ws
drop_at [] k w h = let e : Some w ≡ None = h ∙ slice_get_past [] k (omega arith) in cc
drop_at (x ∷ ws) zero w h = ap (λ v. v ∷ ws) (let e : Some x ≡ Some w = sym h in cc)
drop_at (x ∷ ws) (suc k) w h = let n : suc (k + 1) ≡ suc k + 1 = omega arith in drop_at ws k w h ∙ ap (λ m. w ∷ drop m (x ∷ ws)) n

past_words : (ws : List ℕ) (k : ℕ) → None ≡ slice_get ws k → length ws ≤ k
past_words [] k h = omega arith
past_words (x ∷ ws) zero h = let e : Some x ≡ None = sym h in cc
past_words (x ∷ ws) (suc k) h = let l = past_words ws k h in omega arith

pub word_more : (ws : List ℕ) (k from w : ℕ) (now new whole : List store.Cell) → Some w ≡ slice_get ws k → new ≡ slice_set now (from + k) (store.Set w)
    → written (drop k ws) (from + k) now ≡ whole → written (drop (k + 1) ws) (from + (k + 1)) new ≡ whole
word_more ws k from w now new whole e p h =
    let n : from + (k + 1) ≡ from + k + 1 = omega arith in
    ap (λ a. written (drop (k + 1) ws) a new) n
    ∙ (ap (written (drop (k + 1) ws) (from + k + 1)) p ∙ (sym (ap (λ vs. written vs (from + k) now) (drop_at ws k w e)) ∙ h))

pub words_done : (ws : List ℕ) (k from : ℕ) (now whole : List store.Cell) → None ≡ slice_get ws k → written (drop k ws) (from + k) now ≡ whole → now ≡ whole
words_done ws k from now whole e h = sym (ap (λ vs. written vs (from + k) now) (drop_all k ws (past_words ws k e))) ∙ h

pub word_left : (ws : List ℕ) (k w : ℕ) → Some w ≡ slice_get ws k → k < length ws
word_left ws k w h = slice_get_within ws k w (sym h)

-- the places of a section and of the program, the last one first

words_are : (p : Place) → words_in (held_by p) ≡ data_words p
words_are (Code r) = refl
words_are (Static w) = refl
words_are (Table ws) = refl
words_are (Text bytes) = refl

filled_append : (xs ys : List Standing) (cells : List store.Cell) → filled_with (xs ++ ys) cells ≡ filled_with xs (filled_with ys cells)
filled_append [] ys cells = refl
filled_append (s ∷ xs) ys cells = ap (written (words_in s.holding) s.address) (filled_append xs ys cells)

abbrev standing_at : (ℕ → ℕ) → ℕ → Place → Standing
standing_at address label p = record { address = address label; holding = held_by p }

standing_last : (address : ℕ → ℕ) (label : ℕ) (ps : List Place) (p : Place) → standing_from address label (ps ++ p ∷ []) ≡ standing_from address label ps ++ standing_at address (label + length ps) p ∷ []
standing_last address label [] p = let n : label ≡ label + 0 = omega arith in ap (λ l. standing_at address l p ∷ []) n
standing_last address label (q ∷ ps) p =
    let n : label + 1 + length ps ≡ label + suc (length ps) = omega arith in
    ap (λ ss. standing_at address label q ∷ ss) (standing_last address (label + 1) ps p ∙ ap (λ l. standing_from address (label + 1) ps ++ standing_at address l p ∷ []) n)

place_put : (address : ℕ → ℕ) (ps : List Place) (p : Place) (label : ℕ) (now : List store.Cell) → label ≡ 1 + length ps
    → filled_with (standing_from address 1 (ps ++ p ∷ [])) now ≡ filled_with (standing_from address 1 ps) (written (data_words p) (address label) now)
place_put address ps p label now e =
    ap (λ ss. filled_with ss now) (standing_last address 1 ps p)
    ∙ (filled_append (standing_from address 1 ps) (standing_at address (1 + length ps) p ∷ []) now
    ∙ (ap (λ ws. filled_with (standing_from address 1 ps) (written ws (address (1 + length ps)) now)) (words_are p)
    ∙ ap (λ l. filled_with (standing_from address 1 ps) (written (data_words p) (address l) now)) (sym e)))

pub place_more : (address : ℕ → ℕ) (left earlier : List core.Place) (p : core.Place) (label : ℕ) (now new whole : List store.Cell) → left ≡ earlier ++ p ∷ [] → label ≡ length left
    → new ≡ written (data_words (place_of p)) (address label) now → filled_with (standing_from address 1 (map place_of left)) now ≡ whole
    → filled_with (standing_from address 1 (map place_of earlier)) new ≡ whole
place_more address left earlier p label now new whole e l h k =
    let ps = map place_of earlier in
    let whole_row : map place_of left ≡ ps ++ place_of p ∷ [] = ap (map place_of) e ∙ map-append place_of earlier (p ∷ []) in
    let n : label ≡ 1 + length ps = omega (arith, l, ap length e, length-append earlier (p ∷ []), length-map earlier place_of) in
    ap (filled_with (standing_from address 1 ps)) h
    ∙ (sym (place_put address ps (place_of p) label now n) ∙ (sym (ap (λ qs. filled_with (standing_from address 1 qs) now) whole_row) ∙ k))

standing_more : (ss : List Placed) (s : Placed) → standing (ss ++ s ∷ []) ≡ standing ss ++ places_in s
standing_more [] s = append-nil (places_in s)
standing_more (x ∷ ss) s = ap (λ ys. places_in x ++ ys) (standing_more ss s) ∙ sym (append_assoc (places_in x) (standing ss) (places_in s))

section_more : (left earlier : List Section) (s : Section) (now new whole : List store.Cell) → left ≡ earlier ++ s ∷ [] → new ≡ filled_with (places_in (placed_of s)) now
    → filled_with (standing (program_of left)) now ≡ whole → filled_with (standing (program_of earlier)) new ≡ whole
section_more left earlier s now new whole e h k =
    let program = program_of earlier in
    let all : standing (program_of left) ≡ standing program ++ places_in (placed_of s) =
    ap (λ ss. standing (program_of ss)) e ∙ (ap standing (map-append placed_of earlier (s ∷ [])) ∙ standing_more program (placed_of s)) in
    ap (filled_with (standing program)) h
    ∙ (sym (filled_append (standing program) (places_in (placed_of s)) now) ∙ (sym (ap (λ ss. filled_with ss now) all) ∙ k))

pub section_put : (ss : List Section) (n : ℕ) (s : Section) (now new whole : List store.Cell) → 0 < n → n ≤ length ss → s ≡ get_or ss (n - 1) s
    → new ≡ filled_with (places_in (placed_of s)) now → filled_with (standing (program_of (take n ss))) now ≡ whole
    → filled_with (standing (program_of (take (n - 1) ss))) new ≡ whole
section_put ss n s now new whole p l e h k =
    let m : n ≡ n - 1 + 1 = omega arith in
    let split : take n ss ≡ take (n - 1) ss ++ s ∷ [] =
    ap (λ i. take i ss) m ∙ (take_more ss (n - 1) s (omega arith) ∙ ap (λ x. take (n - 1) ss ++ x ∷ []) (sym e)) in
    section_more (take n ss) (take (n - 1) ss) s now new whole split h k

-- what is in the cells then

written_size : (ws : List ℕ) (from : ℕ) (cells : List store.Cell) → length (written ws from cells) ≡ length cells
written_size [] from cells = refl
written_size (w ∷ ws) from cells = written_size ws (from + 1) (slice_set cells from (store.Set w)) ∙ length-set cells from (store.Set w)

filled_size : (all : List Standing) (cells : List store.Cell) → length (filled_with all cells) ≡ length cells
filled_size [] cells = refl
filled_size (s ∷ ss) cells = written_size (words_in s.holding) s.address (filled_with ss cells) ∙ filled_size ss cells

-- the word if there is one, else what was there
abbrev over : Option ℕ → store.Cell → store.Cell
over None c = c
over (Some w) c = store.Set w

word_from : (ws : List ℕ) (from a : ℕ) → from ≤ a → word_of (Words ws) from a ≡ slice_get ws (a - from)
word_from ws from a l = by_cond (nat_le from a) (slice_get ws (a - from)) None ∙ grind (arith, nat_tests)

no_word_from : (ws : List ℕ) (from a : ℕ) → a < from → word_of (Words ws) from a ≡ None
no_word_from ws from a l = by_cond (nat_le from a) (slice_get ws (a - from)) None ∙ grind (arith, nat_tests)

written_before : (ws : List ℕ) (from : ℕ) (cells : List store.Cell) (a : ℕ) → a < from → cell_at (written ws from cells) a ≡ cell_at cells a
written_before [] from cells a l = refl
written_before (w ∷ ws) from cells a l =
    let apart : a ≢ from = omega arith in
    written_before ws (from + 1) (slice_set cells from (store.Set w)) a (omega arith) ∙ get_or-set_other cells from a (store.Set w) store.Dead apart

written_on : (ws : List ℕ) (from : ℕ) (cells : List store.Cell) (k : ℕ) → from + k < length cells → cell_at (written ws from cells) (from + k) ≡ over (slice_get ws k) (cell_at cells (from + k))
written_on [] from cells k l = sym (ap (λ x. over x (cell_at cells (from + k))) (slice_get_past [] k (omega arith)))
written_on (w ∷ ws) from cells zero l =
    let more = slice_set cells from (store.Set w) in
    let n : from + 0 ≡ from = omega arith in
    ap (cell_at (written ws (from + 1) more)) n ∙ (written_before ws (from + 1) more from (omega arith) ∙ get_or-set_same cells from (store.Set w) store.Dead (omega arith))
written_on (w ∷ ws) from cells (suc k) l =
    let more = slice_set cells from (store.Set w) in
    let n : from + suc k ≡ from + 1 + k = omega arith in
    let apart : from + suc k ≢ from = omega arith in
    let inside : from + 1 + k < length more = omega (arith, length-set cells from (store.Set w)) in
    ap (cell_at (written ws (from + 1) more)) n
    ∙ (written_on ws (from + 1) more k inside
    ∙ (ap (λ b. over (slice_get ws k) (cell_at more b)) (sym n)
    ∙ ap (over (slice_get ws k)) (get_or-set_other cells from (from + suc k) (store.Set w) store.Dead apart)))

written_at : (ws : List ℕ) (from : ℕ) (cells : List store.Cell) (a : ℕ) → a < length cells → cell_at (written ws from cells) a ≡ over (word_of (Words ws) from a) (cell_at cells a)
written_at ws from cells a l =
    ⊎_elim (λ before. written_before ws from cells a before ∙ sym (ap (λ x. over x (cell_at cells a)) (no_word_from ws from a before)))
    (λ later.
    let n : from + (a - from) ≡ a = omega arith in
    let here = written_on ws from cells (a - from) (omega arith) in
    sym (ap (cell_at (written ws from cells)) n) ∙ (here
    ∙ (ap (λ b. over (slice_get ws (a - from)) (cell_at cells b)) n ∙ sym (ap (λ x. over x (cell_at cells a)) (word_from ws from a later)))))
    (cases_lt a from)

no_choice : (b : Bool) (x : Option ℕ) → x ≡ None → cond b x None ≡ None
no_choice true x e = e
no_choice false x e = refl

word_in_holding : (held : Holding) (from a : ℕ) → word_of (Words (words_in held)) from a ≡ word_of held from a
word_in_holding (ARoutine global) from a =
    by_cond (nat_le from a) (slice_get [] (a - from)) None ∙ no_choice (nat_le from a) (slice_get [] (a - from)) (slice_get_past [] (a - from) (omega arith))
word_in_holding (Words ws) from a = refl

over_data : (x y : Option ℕ) → over x (data_cell y) ≡ data_cell (or_else x y)
over_data None y = refl
over_data (Some w) y = refl

pub filled_at : (all : List Standing) (n : ℕ) (cells : List store.Cell) (a : ℕ) → AreDead n cells → a < n → cell_at (filled_with all cells) a ≡ data_cell (data_word all a)
filled_at [] n cells a d l = d.each a l
filled_at (s ∷ ss) n cells a d l =
    let more = filled_with ss cells in
    let inside : a < length more = omega (arith, filled_size ss cells, d.size) in
    written_at (words_in s.holding) s.address more a inside
    ∙ (ap (λ x. over x (cell_at more a)) (word_in_holding s.holding s.address a)
    ∙ (ap (over (word_of s.holding s.address a)) (filled_at ss n cells a d l) ∙ over_data (word_of s.holding s.address a) (data_word ss a)))

pub all_dead : (n : ℕ) (cells : List Cell) → cells ≡ replicate n cells_of.Dead → AreDead n (map cell_view cells)
all_dead n cells e =
    record {
      size = length-map cells cell_view ∙ (ap length e ∙ length-replicate n cells_of.Dead);
      each = λ a l. get_or-map cell_view cells a cells_of.Dead ∙ ap cell_view (ap (λ cs. slice_index_or cs a cells_of.Dead) e ∙ get_or-replicate n a cells_of.Dead cells_of.Dead l);
    }

-- a list that had no cell gets n of them
pub resized : (n len : ℕ) (old new : List Cell) → old ≡ [] → len ≡ 0 → new ≡ take n old ++ replicate (n - len) cells_of.Dead → new ≡ replicate n cells_of.Dead
resized n len old new e l h =
    h ∙ (ap (λ cs. take n cs ++ replicate (n - len) cells_of.Dead) e ∙ (ap (λ m. take n [] ++ replicate (n - m) cells_of.Dead) l
    ∙ (ap (λ cs. cs ++ replicate (n - 0) cells_of.Dead) (take_all n [] (omega arith)) ∙ (let z : n - 0 ≡ n = omega arith in ap (λ m. replicate m cells_of.Dead) z))))

-- the places from here on have the setting, and those before have none

abbrev pub SettingFrom : Placed → (label : ℕ) → List Place → ℕ → Type 0
SettingFrom s label left n =
    (rest : List Standing) → setting (standing_from s.address 1 s.core.places ++ rest) n ≡ setting (standing_from s.address label left ++ rest) n

pub setting_found : (s : Placed) (label : ℕ) (p : Place) (left : List Place) (n : ℕ) → SettingFrom s label (p ∷ left) n → Sets p n true → HasSetting s n (Some (s.address label))
setting_found s label p left n h e rest =
    h rest ∙ ap (λ x. or_else x (setting (standing_from s.address (label + 1) left ++ rest) n)) (e (s.address label))

pub setting_on : (s : Placed) (label : ℕ) (p : Place) (left : List Place) (n : ℕ) → SettingFrom s label (p ∷ left) n → Sets p n false → SettingFrom s (label + 1) left n
setting_on s label p left n h e rest =
    h rest ∙ ap (λ x. or_else x (setting (standing_from s.address (label + 1) left ++ rest) n)) (e (s.address label))

-- one section more

pub setting_in_section : (s : Placed) (sections : List Placed) (n w : ℕ) → HasSetting s n (Some w) → setting (standing (s ∷ sections)) n ≡ Some w
setting_in_section s sections n w h = h (standing sections)

pub setting_after : (s : Placed) (sections : List Placed) (n : ℕ) → HasSetting s n None → setting (standing (s ∷ sections)) n ≡ setting (standing sections) n
setting_after s sections n h = h (standing sections)

-- whether it is this global
abbrev pub is_it : Option ℕ → ℕ → Bool
is_it None n = false
is_it (Some m) n = m == n

pub sets_routine : (global : Option ℕ) (address n : ℕ) → sets (ARoutine global) address n ≡ cond (is_it global n) (Some address) None
sets_routine None address n = refl
sets_routine (Some m) address n = by_cond (m == n) (Some address) None

-- the cells, one by one

pub cell_more : (cells : List Cell) (c : Cell) (count a : ℕ) (all : List Standing) (whole : List store.Cell) → a < count → cell_view c ≡ start_cell all a
    → map cell_view cells ++ cells_from (count - a) a all ≡ whole → map cell_view (cells ++ c ∷ []) ++ cells_from (count - (a + 1)) (a + 1) all ≡ whole
cell_more cells c count a all whole l e h =
    let n : count - a ≡ suc (count - (a + 1)) = omega arith in
    let rest = cells_from (count - (a + 1)) (a + 1) all in
    ap (λ xs. xs ++ rest) (map-append cell_view cells (c ∷ []))
    ∙ (append_assoc (map cell_view cells) (cell_view c ∷ []) rest
    ∙ (ap (λ x. map cell_view cells ++ x ∷ rest) e
    ∙ (ap (λ m. map cell_view cells ++ cells_from m a all) (sym n) ∙ h)))

pub cells_whole : (cells : List Cell) (count : ℕ) (all : List Standing) (whole : List store.Cell) → map cell_view cells ++ cells_from (count - count) count all ≡ whole → map cell_view cells ≡ whole
cells_whole cells count all whole h =
    let n : count - count ≡ 0 = omega arith in
    sym (append-nil (map cell_view cells)) ∙ (ap (λ m. map cell_view cells ++ cells_from m count all) (sym n) ∙ h)
