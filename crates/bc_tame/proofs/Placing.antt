-- Where the places of the sections of a program are: what they set, what their data is, and that one section's places are no other's.
use Rattle.std.proofs.Common.{◌≡◌, ◌⊎◌, inl, inr, ⊎_elim, ℕ, zero, suc, ◌+◌, ◌-◌, ◌<◌, ◌≤◌, ◌==◌, ◌&&◌, ◌||◌, List, [], ◌∷◌, ◌++◌, length, map, Bool, true, false, Option, Some, None, refl, sym, ap, ◌∙◌, subst, arith}
use Rattle.std.specs.Prelude.{All, nat_lt, nat_le, not, slice_get}
use Rattle.std.proofs.lemmas.Bool.Decides.{nat_tests}
use Rattle.std.proofs.lemmas.Option.{slice_get_past, slice_get_within}
use Rattle.bc_core.specs.Commands.{Place, Code, Static, Table, Text, Routine, Core}
use Rattle.bc_core.specs.Words.{packed, string_words}
use Rattle.bc_core.specs.Map.{Placed, placed, Holding, ARoutine, Words, Standing, standing, standing_from, Range, range, range_of, size_of, Inside, Apart, AllApart}
use Rattle.bc_core.specs.Start.{word_of, data_word, sets, setting, or_else}
use Rattle.bc_core.specs.Meaning.{callee, callee_among}
use Rattle.bc_library_laws.specs.Library.{library}
use Rattle.bc_library_laws.proofs.Finding.{itself}
use Rattle.bc_tame.specs.Tame.{Known, tame_routine}
use Rattle.bc_tame.specs.Programs.{library_sets, known, routine_from, Setter, setter_at, setters_from, setter_for, times_set, env_of, may_set, tame_places, tame_sections, text_from, table_from, static_from, are_bytes, are_words}
use Rattle.bc_tame.proofs.Fine.{Shape, Fixed, both_true, same_true, less_true}
use Rattle.bc_tame.proofs.Frames.{HoldsWords}
use Rattle.bc_tame.proofs.Expressions.{AreWords}
use Rattle.bc_tame.proofs.Sections.{of_text, either_of, bytes_of}

-- a routine sets START's global, or one that isn't the library's
pub free_of : (setters : List Setter) (h : ℕ) → may_set setters (Some h) ≡ true → (h ≡ 1) ⊎ ((h < 512) × (library_sets h ≡ false))
free_of setters h may =
    either_of _ _ may (λ e. inl (same_true h 1 e))
    (λ e. let low = both_true (nat_lt h 512) (not (library_sets h) && (times_set setters h == 1)) e in
    let free = both_true (not (library_sets h)) (times_set setters h == 1) low.1 in
    inr (less_true h 512 low.0, not_true (library_sets h) free.0)) where
      not_true : (t : Bool) → not t ≡ true → t ≡ false
      not_true true z = let y : ⊥ = cc in absurd y
      not_true false z = refl

not_librarys : (setters : List Setter) (h g : ℕ) → may_set setters (Some h) ≡ true → library_sets g ≡ true → (h == g) ≡ false
not_librarys setters h g may lib = by (h == g) refl where
  by : (t : Bool) → (h == g) ≡ t → t ≡ false
  by false e = refl
  by true e =
      let here : library_sets h ≡ true = subst (λ z. library_sets z ≡ true) (sym (same_true h g e)) lib in
      ⊎_elim (λ one. let start : library_sets 1 ≡ true = subst (λ z. library_sets z ≡ true) one here in let z : ⊥ = cc in absurd z)
      (λ free. let other : library_sets h ≡ false = free.1 in let z : ⊥ = cc in absurd z) (free_of setters h may)

-- the first routine that sets the global g is among places
pub record SetHere (address : ℕ → ℕ) (setters : List Setter) (label : ℕ) (routine_at : ℕ → Option Known) (ss : List Standing) (g : ℕ) (k : Known) : Type 0 where
  pub place : ℕ
  pub above : label ≤ place
  pub routine : routine_at place ≡ Some k
  pub is : setting ss g ≡ Some (address place)
  pub may : may_set setters (Some g) ≡ true

-- none of the places sets it
pub record SetLater (ss rest : List Standing) (more : List Setter) (g : ℕ) (k : Known) : Type 0 where
  pub later : setter_for more g ≡ Some k
  pub is : setting ss g ≡ setting rest g

shifted : (r : Routine) (ps : List Place) (room : ℕ) (rooms : List ℕ) (label m : ℕ) → label + 1 ≤ m → routine_from (Code r ∷ ps) (room ∷ rooms) label m ≡ routine_from ps rooms (label + 1) m
shifted r ps room rooms label m up = let test : (label == m) ≡ false = grind (arith, nat_tests) in rw (test, routine_from) refl

pub set_among : (address : ℕ → ℕ) (core : Core) (all : List ℕ) (setters : List Setter) (ps : List Place) (rooms : List ℕ) (label : ℕ) (rest : List Standing) (more : List Setter) (g : ℕ) (k : Known)
    → tame_places core all setters ps rooms ≡ true → setter_for (setters_from ps rooms ++ more) g ≡ Some k
    → SetHere address setters label (routine_from ps rooms label) (standing_from address label ps ++ rest) g k ⊎ SetLater (standing_from address label ps ++ rest) rest more g k
set_among address core all setters [] [] label rest more g k ok e = inr (record { later = e; is = refl })
set_among address core all setters [] (room ∷ rooms) label rest more g k ok e = let z : ⊥ = cc in absurd z
set_among address core all setters (Code r ∷ ps) [] label rest more g k ok e = let z : ⊥ = cc in absurd z
set_among address core all setters (Static w ∷ ps) [] label rest more g k ok e = let z : ⊥ = cc in absurd z
set_among address core all setters (Text bs ∷ ps) [] label rest more g k ok e = let z : ⊥ = cc in absurd z
set_among address core all setters (Table ws ∷ ps) [] label rest more g k ok e = let z : ⊥ = cc in absurd z
set_among address core all setters (Table ws ∷ ps) (room ∷ rooms) label rest more g k ok e =
    ⊎_elim (λ h. let up : label ≤ h.place = omega (arith, h.above) in inl (record { place = h.place; above = up; routine = h.routine; is = h.is; may = h.may }))
    (λ h. inr (record { later = h.later; is = h.is }))
    (set_among address core all setters ps rooms (label + 1) rest more g k (both_true (are_words ws) (tame_places core all setters ps rooms) ok).1 e)
set_among address core all setters (Static w ∷ ps) (room ∷ rooms) label rest more g k ok e =
    ⊎_elim (λ h. let up : label ≤ h.place = omega (arith, h.above) in inl (record { place = h.place; above = up; routine = h.routine; is = h.is; may = h.may }))
    (λ h. inr (record { later = h.later; is = h.is }))
    (set_among address core all setters ps rooms (label + 1) rest more g k (both_true (nat_lt w 65536) (tame_places core all setters ps rooms) ok).1 e)
set_among address core all setters (Text bs ∷ ps) (room ∷ rooms) label rest more g k ok e =
    ⊎_elim (λ h. let up : label ≤ h.place = omega (arith, h.above) in inl (record { place = h.place; above = up; routine = h.routine; is = h.is; may = h.may }))
    (λ h. inr (record { later = h.later; is = h.is }))
    (set_among address core all setters ps rooms (label + 1) rest more g k (both_true (are_bytes (length bs ∷ bs)) (tame_places core all setters ps rooms) ok).1 e)
set_among address core all setters (Code r ∷ ps) (room ∷ rooms) label rest more g k ok e =
    let oks = both_true (may_set setters r.global) (tame_routine (env_of core all setters room) core.valofs r && tame_places core all setters ps rooms) ok in
    let places = both_true (tame_routine (env_of core all setters room) core.valofs r) (tame_places core all setters ps rooms) oks.1 in
    by (λ e1. set_among address core all setters ps rooms (label + 1) rest more g k places.1 e1) r.global oks.0 e where
      by : (setter_for (setters_from ps rooms ++ more) g ≡ Some k
          → SetHere address setters (label + 1) (routine_from ps rooms (label + 1)) (standing_from address (label + 1) ps ++ rest) g k ⊎ SetLater (standing_from address (label + 1) ps ++ rest) rest more g k)
          → (o : Option ℕ) → may_set setters o ≡ true → setter_for ((setter_at o (known r.parameters room) ++ setters_from ps rooms) ++ more) g ≡ Some k
          → SetHere address setters label (routine_from (Code r ∷ ps) (room ∷ rooms) label) (record { address = address label; holding = ARoutine o } ∷ (standing_from address (label + 1) ps ++ rest)) g k
          ⊎ SetLater (record { address = address label; holding = ARoutine o } ∷ (standing_from address (label + 1) ps ++ rest)) rest more g k
      by next None may e1 =
          ⊎_elim (λ h. let up : label ≤ h.place = omega (arith, h.above) in inl (record { place = h.place; above = up; routine = shifted r ps room rooms label h.place h.above ∙ h.routine; is = h.is; may = h.may }))
          (λ h. inr (record { later = h.later; is = h.is })) (next e1)
      by next (Some s) may e1 = of_test (s == g) refl e1 where
        of_test : (t : Bool) → (s == g) ≡ t → elim t as (λ z. Option Known) [ true ↦ Some (known r.parameters room) | false ↦ setter_for (setters_from ps rooms ++ more) g ] ≡ Some k
            → SetHere address setters label (routine_from (Code r ∷ ps) (room ∷ rooms) label) (record { address = address label; holding = ARoutine (Some s) } ∷ (standing_from address (label + 1) ps ++ rest)) g k
            ⊎ SetLater (record { address = address label; holding = ARoutine (Some s) } ∷ (standing_from address (label + 1) ps ++ rest)) rest more g k
        of_test true same e2 =
            let here : (label == label) ≡ true = itself label in
            let low : label ≤ label = omega arith in
            inl (record { place = label; above = low; routine = rw (here, routine_from) e2; is = rw (same, sets) refl; may = subst (λ z. may_set setters (Some z) ≡ true) (same_true s g same) may })
        of_test false other e2 =
            ⊎_elim (λ h. let up : label ≤ h.place = omega (arith, h.above) in inl (record { place = h.place; above = up; routine = shifted r ps room rooms label h.place h.above ∙ h.routine; is = rw (other, sets) h.is; may = h.may }))
            (λ h. inr (record { later = h.later; is = rw (other, sets) h.is })) (next e2)

-- no place of a section sets a global of the library
setting_other : (address : ℕ → ℕ) (core : Core) (all : List ℕ) (setters : List Setter) (ps : List Place) (rooms : List ℕ) (label g : ℕ) (rest : List Standing)
    → tame_places core all setters ps rooms ≡ true → library_sets g ≡ true → setting (standing_from address label ps ++ rest) g ≡ setting rest g
setting_other address core all setters [] rooms label g rest ok lib = refl
setting_other address core all setters (Code r ∷ ps) [] label g rest ok lib = let z : ⊥ = cc in absurd z
setting_other address core all setters (Static w ∷ ps) [] label g rest ok lib = let z : ⊥ = cc in absurd z
setting_other address core all setters (Text bs ∷ ps) [] label g rest ok lib = let z : ⊥ = cc in absurd z
setting_other address core all setters (Table ws ∷ ps) [] label g rest ok lib = let z : ⊥ = cc in absurd z
setting_other address core all setters (Table ws ∷ ps) (room ∷ rooms) label g rest ok lib =
    setting_other address core all setters ps rooms (label + 1) g rest (both_true (are_words ws) (tame_places core all setters ps rooms) ok).1 lib
setting_other address core all setters (Static w ∷ ps) (room ∷ rooms) label g rest ok lib =
    setting_other address core all setters ps rooms (label + 1) g rest (both_true (nat_lt w 65536) (tame_places core all setters ps rooms) ok).1 lib
setting_other address core all setters (Text bs ∷ ps) (room ∷ rooms) label g rest ok lib =
    setting_other address core all setters ps rooms (label + 1) g rest (both_true (are_bytes (length bs ∷ bs)) (tame_places core all setters ps rooms) ok).1 lib
setting_other address core all setters (Code r ∷ ps) (room ∷ rooms) label g rest ok lib =
    let more = both_true (may_set setters r.global) (tame_routine (env_of core all setters room) core.valofs r && tame_places core all setters ps rooms) ok in
    let oks = both_true (tame_routine (env_of core all setters room) core.valofs r) (tame_places core all setters ps rooms) more.1 in
    by (setting_other address core all setters ps rooms (label + 1) g rest oks.1 lib) r.global more.0 where
      by : setting (standing_from address (label + 1) ps ++ rest) g ≡ setting rest g → (h : Option ℕ) → may_set setters h ≡ true
          → setting (record { address = address label; holding = ARoutine h } ∷ (standing_from address (label + 1) ps ++ rest)) g ≡ setting rest g
      by next None may = next
      by next (Some h) may = let test : (h == g) ≡ false = not_librarys setters h g may lib in rw (test, sets) next

pub setting_others : (setters : List Setter) (cores : List Core) (places : List (ℕ → ℕ)) (all : List (List ℕ)) → tame_sections setters cores all ≡ true
    → (g : ℕ) → library_sets g ≡ true → setting (standing (placed cores places)) g ≡ setting [] g
setting_others setters [] places all ok g lib = refl
setting_others setters (core ∷ cores) [] all ok g lib = refl
setting_others setters (core ∷ cores) (p ∷ places) [] ok g lib = let z : ⊥ = cc in absurd z
setting_others setters (core ∷ cores) (p ∷ places) (rooms ∷ all) ok g lib =
    let oks = both_true (tame_places core rooms setters core.places rooms) (tame_sections setters cores all) ok in
    setting_other p core rooms setters core.places rooms 1 g (standing (placed cores places)) oks.0 lib ∙ setting_others setters cores places all oks.1 g lib

-- the library sets its own globals alone
differs : (k g : ℕ) → library_sets k ≡ true → library_sets g ≡ false → (k == g) ≡ false
differs k g lib free = by (k == g) refl where
  by : (t : Bool) → (k == g) ≡ t → t ≡ false
  by false e = refl
  by true e = let here : library_sets g ≡ true = subst (λ z. library_sets z ≡ true) (same_true k g e) lib in let z : ⊥ = cc in absurd z

pub setting_library : (address : ℕ → ℕ) (own : List Placed) (g : ℕ) → library_sets g ≡ false → setting (standing (record { core = library; address = address } ∷ own)) g ≡ setting (standing own) g
setting_library address own g free =
    let e20 = differs 20 g refl free in
    let e21 = differs 21 g refl free in
    let e22 = differs 22 g refl free in
    let e24 = differs 24 g refl free in
    let e23 = differs 23 g refl free in
    let e25 = differs 25 g refl free in
    rw (e20, e21, e22, e24, e23, e25, sets) refl

-- globals hold words
abbrev pub MaybeWord : Option ℕ → Type 0
MaybeWord None = Unit {0}
MaybeWord (Some w) = w < 65536

chosen : (t : Bool) (w : ℕ) (o : Option ℕ) → w < 65536 → MaybeWord o → MaybeWord (elim t as (λ z. Option ℕ) [ true ↦ Some w | false ↦ o ])
chosen true w o lt h = lt
chosen false w o lt h = h

either : (o other : Option ℕ) → MaybeWord o → MaybeWord other → MaybeWord (or_else o other)
either None other h k = k
either (Some w) other h k = h

pub setting_word : (base : ℕ) → base ≤ 65536 → (ss : List Standing) → All (Inside base) (map range_of ss) → (g : ℕ) → MaybeWord (setting ss g)
setting_word base low [] h g =
    chosen (11 == g) 520 _ (omega arith) (chosen (12 == g) 524 _ (omega arith) (chosen (13 == g) 528 _ (omega arith) (chosen (14 == g) 530 _ (omega arith)
    (chosen (15 == g) 534 _ (omega arith) (chosen (16 == g) 537 _ (omega arith) (chosen (17 == g) 540 _ (omega arith) (chosen (18 == g) 543 None (omega arith) tt)))))))
setting_word base low (s ∷ ss) h g =
    either (sets s.holding s.address g) (setting ss g) (of_one s.holding (h 0 (range 0 0) (omega arith)).1) (setting_word base low ss (λ k d lt. h (suc k) d (omega arith)) g) where
      of_one : (x : Holding) → s.address + size_of x ≤ base → MaybeWord (sets x s.address g)
      of_one (ARoutine None) le = tt
      of_one (ARoutine (Some m)) le = chosen (m == g) s.address None (omega (arith, le, low)) tt
      of_one (Words ws) le = tt

-- data holds words
small_get : (ws : List ℕ) → AreWords ws → (k : ℕ) → MaybeWord (slice_get ws k)
small_get [] h k = tt
small_get (w ∷ ws) h zero = h.0
small_get (w ∷ ws) h (suc k) = small_get ws h.1 k

packed_words : (bs : List ℕ) → are_bytes bs ≡ true → AreWords (packed bs)
packed_words [] ok = tt
packed_words (high ∷ []) ok = let a : high < 256 = less_true high 256 (both_true (nat_lt high 256) true ok).0 in (omega (arith, a), tt)
packed_words (high ∷ low ∷ bs) ok =
    let oks = both_true (nat_lt high 256) (nat_lt low 256 && are_bytes bs) ok in
    let more = both_true (nat_lt low 256) (are_bytes bs) oks.1 in
    let a : high < 256 = less_true high 256 oks.0 in
    let b : low < 256 = less_true low 256 more.0 in
    (omega (arith, a, b), packed_words bs more.1)

small_words : (ws : List ℕ) → are_words ws ≡ true → AreWords ws
small_words [] ok = tt
small_words (w ∷ ws) ok = let oks = both_true (nat_lt w 65536) (are_words ws) ok in (less_true w 65536 oks.0, small_words ws oks.1)

chosen_get : (t : Bool) (o : Option ℕ) → MaybeWord o → MaybeWord (elim t as (λ z. Option ℕ) [ true ↦ o | false ↦ None ])
chosen_get true o h = h
chosen_get false o h = tt

pub data_small : (address : ℕ → ℕ) (core : Core) (all : List ℕ) (setters : List Setter) (ps : List Place) (rooms : List ℕ) (label a : ℕ) (rest : List Standing)
    → tame_places core all setters ps rooms ≡ true → MaybeWord (data_word rest a) → MaybeWord (data_word (standing_from address label ps ++ rest) a)
data_small address core all setters [] rooms label a rest ok h = h
data_small address core all setters (Static w ∷ ps) [] label a rest ok h = let z : ⊥ = cc in absurd z
data_small address core all setters (Static w ∷ ps) (room ∷ rooms) label a rest ok h =
    let oks = both_true (nat_lt w 65536) (tame_places core all setters ps rooms) ok in
    let lt : w < 65536 = less_true w 65536 oks.0 in
    either (word_of (Words (w ∷ [])) (address label) a) (data_word (standing_from address (label + 1) ps ++ rest) a)
    (chosen_get (nat_le (address label) a) (slice_get (w ∷ []) (a - address label)) (small_get (w ∷ []) (lt, tt) (a - address label)))
    (data_small address core all setters ps rooms (label + 1) a rest oks.1 h)
data_small address core all setters (Table ws ∷ ps) [] label a rest ok h = let z : ⊥ = cc in absurd z
data_small address core all setters (Table ws ∷ ps) (room ∷ rooms) label a rest ok h =
    let oks = both_true (are_words ws) (tame_places core all setters ps rooms) ok in
    either (word_of (Words ws) (address label) a) (data_word (standing_from address (label + 1) ps ++ rest) a)
    (chosen_get (nat_le (address label) a) (slice_get ws (a - address label)) (small_get ws (small_words ws oks.0) (a - address label)))
    (data_small address core all setters ps rooms (label + 1) a rest oks.1 h)
data_small address core all setters (Code r ∷ ps) [] label a rest ok h = let z : ⊥ = cc in absurd z
data_small address core all setters (Text bs ∷ ps) [] label a rest ok h = let z : ⊥ = cc in absurd z
data_small address core all setters (Code r ∷ ps) (room ∷ rooms) label a rest ok h =
    let more = both_true (may_set setters r.global) (tame_routine (env_of core all setters room) core.valofs r && tame_places core all setters ps rooms) ok in
    data_small address core all setters ps rooms (label + 1) a rest (both_true (tame_routine (env_of core all setters room) core.valofs r) (tame_places core all setters ps rooms) more.1).1 h
data_small address core all setters (Text bs ∷ ps) (room ∷ rooms) label a rest ok h =
    let oks = both_true (are_bytes (length bs ∷ bs)) (tame_places core all setters ps rooms) ok in
    either (word_of (Words (string_words bs)) (address label) a) (data_word (standing_from address (label + 1) ps ++ rest) a)
    (chosen_get (nat_le (address label) a) (slice_get (string_words bs) (a - address label)) (small_get (string_words bs) (packed_words (length bs ∷ bs) oks.0) (a - address label)))
    (data_small address core all setters ps rooms (label + 1) a rest oks.1 h)

pub data_of : (setters : List Setter) (cores : List Core) (places : List (ℕ → ℕ)) (all : List (List ℕ)) → tame_sections setters cores all ≡ true → (a : ℕ) → MaybeWord (data_word (standing (placed cores places)) a)
data_of setters [] places all ok a = tt
data_of setters (core ∷ cores) [] all ok a = tt
data_of setters (core ∷ cores) (p ∷ places) [] ok a = let z : ⊥ = cc in absurd z
data_of setters (core ∷ cores) (p ∷ places) (rooms ∷ all) ok a =
    let oks = both_true (tame_places core rooms setters core.places rooms) (tame_sections setters cores all) ok in
    data_small p core rooms setters core.places rooms 1 a (standing (placed cores places)) oks.0 (data_of setters cores places all oks.1 a)

not_within : (from size a b i : ℕ) (ws : List ℕ) → Apart (range from (length ws)) (range b size) → i < size → a ≡ b + i → elim (nat_le from a) as (λ z. Option ℕ) [ true ↦ slice_get ws (a - from) | false ↦ None ] ≡ None
not_within from size a b i ws (inl h) lt e =
    let up : nat_le from a ≡ true = grind (arith, nat_tests) in
    rw up (slice_get_past ws (a - from) (omega (arith, h, e)))
not_within from size a b i ws (inr h) lt e = let low : nat_le from a ≡ false = grind (arith, nat_tests) in rw low refl

pub word_at : (address : ℕ → ℕ) (ps : List Place) (label m : ℕ) (bytes : List ℕ) (rest : List Standing) → AllApart (map range_of (standing_from address label ps ++ rest)) → text_from ps label m ≡ Some bytes
    → (i w : ℕ) → slice_get (string_words bytes) i ≡ Some w → data_word (standing_from address label ps ++ rest) (address m + i) ≡ Some w
word_at address [] label m bytes rest apart e i w there = let z : ⊥ = cc in absurd z
word_at address (Code r ∷ ps) label m bytes rest apart e i w there = word_at address ps (label + 1) m bytes rest apart.1 e i w there
word_at address (Static v ∷ ps) label m bytes rest apart e i w there =
    let out = not_within (address label) (length (string_words bytes)) (address m + i) (address m) i (v ∷ []) (of_text address (Apart (range (address label) 1)) ps (label + 1) m bytes rest e apart.0) (slice_get_within (string_words bytes) i w there) refl in
    rw (word_of, out) (word_at address ps (label + 1) m bytes rest apart.1 e i w there)
word_at address (Table ws ∷ ps) label m bytes rest apart e i w there =
    let out = not_within (address label) (length (string_words bytes)) (address m + i) (address m) i ws (of_text address (Apart (range (address label) (length ws))) ps (label + 1) m bytes rest e apart.0) (slice_get_within (string_words bytes) i w there) refl in
    rw (word_of, out) (word_at address ps (label + 1) m bytes rest apart.1 e i w there)
word_at address (Text bs ∷ ps) label m bytes rest apart e i w there =
    by (λ e1. word_at address ps (label + 1) m bytes rest apart.1 e1 i w there) (label == m) refl e where
      by : (text_from ps (label + 1) m ≡ Some bytes → data_word (standing_from address (label + 1) ps ++ rest) (address m + i) ≡ Some w) → (t : Bool) → (label == m) ≡ t
          → elim t as (λ z. Option (List ℕ)) [ true ↦ Some bs | false ↦ text_from ps (label + 1) m ] ≡ Some bytes
          → or_else (elim (nat_le (address label) (address m + i)) as (λ z. Option ℕ) [ true ↦ slice_get (string_words bs) (address m + i - address label) | false ↦ None ]) (data_word (standing_from address (label + 1) ps ++ rest) (address m + i)) ≡ Some w
      by next true same e1 =
          let here : address label ≡ address m = ap address (same_true label m same) in
          let up : nat_le (address label) (address m + i) ≡ true = grind (arith, nat_tests) in
          let back : address m + i - address label ≡ i = omega (arith, here) in
          let eb : bs ≡ bytes = ap bytes_of e1 in
          let get : slice_get (string_words bs) i ≡ Some w = subst (λ (z : List ℕ). slice_get (string_words z) i ≡ Some w) (sym eb) there in
          rw (up, back, get) refl
      by next false other e1 =
          let out = not_within (address label) (length (string_words bytes)) (address m + i) (address m) i (string_words bs) (of_text address (Apart (range (address label) (length (string_words bs)))) ps (label + 1) m bytes rest e1 apart.0) (slice_get_within (string_words bytes) i w there) refl in
          rw out (next e1)

-- whether an address is that of a static or of a word of a table; the answer for other places is given
pub is_static : (ℕ → ℕ) → List Place → (label : ℕ) → (others : Bool) → (a : ℕ) → Bool
is_static address [] label others a = others
is_static address (Static w ∷ ps) label others a = (address label == a) || is_static address ps (label + 1) others a
is_static address (Table ws ∷ ps) label others a = (nat_le (address label) a && nat_lt a (address label + length ws)) || is_static address ps (label + 1) others a
is_static address (p ∷ ps) label others a = is_static address ps (label + 1) others a

-- the same for all sections
abbrev pub statics : List Placed → ℕ → Bool
statics [] a = false
statics (s ∷ ss) a = is_static s.address s.core.places 1 (statics ss a) a

pub right : (a b : Bool) → b ≡ true → (a || b) ≡ true
right true b e = refl
right false b e = e

pub static_there : (address : ℕ → ℕ) (ps : List Place) (label m : ℕ) (others : Bool) → static_from ps label m ≡ true → is_static address ps label others (address m) ≡ true
unfolding is_static
static_there address [] label m others e = let z : ⊥ = cc in absurd z
static_there address (Code r ∷ ps) label m others e = static_there address ps (label + 1) m others e
static_there address (Table ws ∷ ps) label m others e = right _ _ (static_there address ps (label + 1) m others e)
static_there address (Text bs ∷ ps) label m others e = static_there address ps (label + 1) m others e
static_there address (Static w ∷ ps) label m others e = by (λ e1. static_there address ps (label + 1) m others e1) (label == m) refl e where
  by : (static_from ps (label + 1) m ≡ true → is_static address ps (label + 1) others (address m) ≡ true) → (t : Bool) → (label == m) ≡ t
      → elim t as (λ z. Bool) [ true ↦ true | false ↦ static_from ps (label + 1) m ] ≡ true → ((address label == address m) || is_static address ps (label + 1) others (address m)) ≡ true
  by next true same e1 =
      let here : address label ≡ address m = ap address (same_true label m same) in
      let test : (address label == address m) ≡ true = grind (arith, nat_tests) in rw test refl
  by next false other e1 = right (address label == address m) _ (next e1)

not_among : (from many b size a : ℕ) → Apart (range from many) (range b size) → b ≤ a → a < b + size → (nat_le from a && nat_lt a (from + many)) ≡ false
not_among from many b size a (inl x) le lt =
    let up : nat_le from a ≡ true = grind (arith, nat_tests) in
    let past_end : nat_lt a (from + many) ≡ false = grind (arith, nat_tests) in
    rw (up, past_end) refl
not_among from many b size a (inr x) le lt = let low : nat_le from a ≡ false = grind (arith, nat_tests) in rw low refl

static_not : (address : ℕ → ℕ) (ps : List Place) (label a b size : ℕ) (rest : List Standing) (others : Bool) → All (λ x. Apart x (range b size)) (map range_of (standing_from address label ps ++ rest)) → b ≤ a → a < b + size
    → (All (λ x. Apart x (range b size)) (map range_of rest) → others ≡ false) → is_static address ps label others a ≡ false
unfolding is_static
static_not address [] label a b size rest others h le lt absent = absent h
static_not address (Code r ∷ ps) label a b size rest others h le lt absent = static_not address ps (label + 1) a b size rest others (λ k d l. h (suc k) d (omega arith)) le lt absent
static_not address (Table ws ∷ ps) label a b size rest others h le lt absent =
    let test : (nat_le (address label) a && nat_lt a (address label + length ws)) ≡ false = not_among (address label) (length ws) b size a (h 0 (range 0 0) (omega arith)) le lt in
    rw test (static_not address ps (label + 1) a b size rest others (λ k d l. h (suc k) d (omega arith)) le lt absent)
static_not address (Text bs ∷ ps) label a b size rest others h le lt absent = static_not address ps (label + 1) a b size rest others (λ k d l. h (suc k) d (omega arith)) le lt absent
static_not address (Static w ∷ ps) label a b size rest others h le lt absent =
    let test : (address label == a) ≡ false = away (h 0 (range 0 0) (omega arith)) in
    rw test (static_not address ps (label + 1) a b size rest others (λ k d l. h (suc k) d (omega arith)) le lt absent) where
      away : Apart (range (address label) 1) (range b size) → (address label == a) ≡ false
      away (inl x) = grind (arith, nat_tests)
      away (inr x) = grind (arith, nat_tests)

pub words_from : (σ : Shape) (a : ℕ) (ws : List ℕ) → ((i w : ℕ) → slice_get ws i ≡ Some w → σ (a + i) ≡ Fixed w) → HoldsWords σ a ws
words_from σ a [] h = tt
words_from σ a (w ∷ ws) h =
    let e : a + 0 ≡ a = omega arith in
    (ap σ (sym e) ∙ h 0 w refl, words_from σ (a + 1) ws (λ i v get. let f : a + 1 + i ≡ a + suc i = omega arith in ap σ f ∙ h (suc i) v get))

flipped : (x y : Range) → Apart x y → Apart y x
flipped x y (inl h) = inr h
flipped x y (inr h) = inl h

pub static_not_text : (address : ℕ → ℕ) (ps : List Place) (label m : ℕ) (bytes : List ℕ) (rest : List Standing) (others : Bool) → AllApart (map range_of (standing_from address label ps ++ rest)) → text_from ps label m ≡ Some bytes
    → (i : ℕ) → i < length (string_words bytes) → ((b size : ℕ) → b ≤ address m + i → address m + i < b + size → All (λ x. Apart x (range b size)) (map range_of rest) → others ≡ false)
    → is_static address ps label others (address m + i) ≡ false
unfolding is_static
static_not_text address [] label m bytes rest others apart e i lt absent = let z : ⊥ = cc in absurd z
static_not_text address (Code r ∷ ps) label m bytes rest others apart e i lt absent = static_not_text address ps (label + 1) m bytes rest others apart.1 e i lt absent
static_not_text address (Table ws ∷ ps) label m bytes rest others apart e i lt absent =
    let test : (nat_le (address label) (address m + i) && nat_lt (address m + i) (address label + length ws)) ≡ false =
    not_among (address label) (length ws) (address m) (length (string_words bytes)) (address m + i) (of_text address (Apart (range (address label) (length ws))) ps (label + 1) m bytes rest e apart.0) (omega arith) (omega (arith, lt)) in
    rw test (static_not_text address ps (label + 1) m bytes rest others apart.1 e i lt absent)
static_not_text address (Static w ∷ ps) label m bytes rest others apart e i lt absent =
    let test : (address label == address m + i) ≡ false = away (of_text address (Apart (range (address label) 1)) ps (label + 1) m bytes rest e apart.0) in
    rw test (static_not_text address ps (label + 1) m bytes rest others apart.1 e i lt absent) where
      away : Apart (range (address label) 1) (range (address m) (length (string_words bytes))) → (address label == address m + i) ≡ false
      away (inl x) = grind (arith, nat_tests)
      away (inr x) = grind (arith, nat_tests)
static_not_text address (Text bs ∷ ps) label m bytes rest others apart e i lt absent = by (λ e1. static_not_text address ps (label + 1) m bytes rest others apart.1 e1 i lt absent) (label == m) refl e where
  by : (text_from ps (label + 1) m ≡ Some bytes → is_static address ps (label + 1) others (address m + i) ≡ false) → (t : Bool) → (label == m) ≡ t
      → elim t as (λ z. Option (List ℕ)) [ true ↦ Some bs | false ↦ text_from ps (label + 1) m ] ≡ Some bytes → is_static address ps (label + 1) others (address m + i) ≡ false
  by next true same e1 =
      let eb : bs ≡ bytes = ap bytes_of e1 in
      let here : address label ≡ address m = ap address (same_true label m same) in
      let few : i < length (string_words bs) = subst (λ (z : List ℕ). i < length (string_words z)) (sym eb) lt in
      let low : address label ≤ address m + i = omega (arith, here) in
      let high : address m + i < address label + length (string_words bs) = omega (arith, here, few) in
      static_not address ps (label + 1) (address m + i) (address label) (length (string_words bs)) rest others (λ k d l. flipped (range (address label) (length (string_words bs))) _ (apart.0 k d l)) low high
      (absent (address label) (length (string_words bs)) low high)
  by next false other e1 = next e1

-- no static of sections is in a range that is apart from theirs
pub statics_not : (ss : List Placed) (a b size : ℕ) → All (λ x. Apart x (range b size)) (map range_of (standing ss)) → b ≤ a → a < b + size → statics ss a ≡ false
statics_not [] a b size h le lt = refl
statics_not (s ∷ ss) a b size h le lt = static_not s.address s.core.places 1 a b size (standing ss) (statics ss a) h le lt (λ k. statics_not ss a b size k le lt)

pub of_static : (address : ℕ → ℕ) (P : Range → Type 0) (ps : List Place) (label m : ℕ) (rest : List Standing)
    → static_from ps label m ≡ true → All P (map range_of (standing_from address label ps ++ rest)) → P (range (address m) 1)
of_static address P [] label m rest e h = let z : ⊥ = cc in absurd z
of_static address P (Code r ∷ ps) label m rest e h = of_static address P ps (label + 1) m rest e (λ k d lt. h (suc k) d (omega arith))
of_static address P (Text w ∷ ps) label m rest e h = of_static address P ps (label + 1) m rest e (λ k d lt. h (suc k) d (omega arith))
of_static address P (Table ws ∷ ps) label m rest e h = of_static address P ps (label + 1) m rest e (λ k d lt. h (suc k) d (omega arith))
of_static address P (Static w ∷ ps) label m rest e h =
    by (λ e1. of_static address P ps (label + 1) m rest e1 (λ k d lt. h (suc k) d (omega arith))) (label == m) refl e where
      by : (static_from ps (label + 1) m ≡ true → P (range (address m) 1)) → (t : Bool) → (label == m) ≡ t
          → elim t as (λ z. Bool) [ true ↦ true | false ↦ static_from ps (label + 1) m ] ≡ true → P (range (address m) 1)
      by next true same e1 = subst (λ z. P (range (address z) 1)) (same_true label m same) (h 0 (range 0 0) (omega arith))
      by next false other e1 = next e1

either_some : (o other : Option ℕ) → ((w : ℕ) × (other ≡ Some w)) → (w : ℕ) × (or_else o other ≡ Some w)
either_some None other h = h
either_some (Some v) other h = (v, refl)

pub static_word : (address : ℕ → ℕ) (ps : List Place) (label m : ℕ) (rest : List Standing) → static_from ps label m ≡ true → (w : ℕ) × (data_word (standing_from address label ps ++ rest) (address m) ≡ Some w)
static_word address [] label m rest e = let z : ⊥ = cc in absurd z
static_word address (Code r ∷ ps) label m rest e = static_word address ps (label + 1) m rest e
static_word address (Text bs ∷ ps) label m rest e = either_some (word_of (Words (string_words bs)) (address label) (address m)) _ (static_word address ps (label + 1) m rest e)
static_word address (Table ws ∷ ps) label m rest e = either_some (word_of (Words ws) (address label) (address m)) _ (static_word address ps (label + 1) m rest e)
static_word address (Static w ∷ ps) label m rest e = by (λ e1. static_word address ps (label + 1) m rest e1) (label == m) refl e where
  by : (static_from ps (label + 1) m ≡ true → (v : ℕ) × (data_word (standing_from address (label + 1) ps ++ rest) (address m) ≡ Some v)) → (t : Bool) → (label == m) ≡ t
      → elim t as (λ z. Bool) [ true ↦ true | false ↦ static_from ps (label + 1) m ] ≡ true
      → (v : ℕ) × (or_else (word_of (Words (w ∷ [])) (address label) (address m)) (data_word (standing_from address (label + 1) ps ++ rest) (address m)) ≡ Some v)
  by next true same e1 =
      let here : address label ≡ address m = ap address (same_true label m same) in
      let up : nat_le (address label) (address m) ≡ true = grind (arith, nat_tests) in
      let back : address m - address label ≡ 0 = omega (arith, here) in
      (w, rw (up, back, word_of) refl)
  by next false other e1 = either_some (word_of (Words (w ∷ [])) (address label) (address m)) _ (next e1)

-- the words of tables
pub of_table : (address : ℕ → ℕ) (P : Range → Type 0) (ps : List Place) (label m : ℕ) (rest : List Standing)
    → 0 < table_from ps label m → All P (map range_of (standing_from address label ps ++ rest)) → P (range (address m) (table_from ps label m))
of_table address P [] label m rest some h = absurd (omega (arith, some))
of_table address P (Code r ∷ ps) label m rest some h = of_table address P ps (label + 1) m rest some (λ k d lt. h (suc k) d (omega arith))
of_table address P (Text bs ∷ ps) label m rest some h = of_table address P ps (label + 1) m rest some (λ k d lt. h (suc k) d (omega arith))
of_table address P (Static w ∷ ps) label m rest some h = of_table address P ps (label + 1) m rest some (λ k d lt. h (suc k) d (omega arith))
of_table address P (Table ws ∷ ps) label m rest some h =
    by (λ some1. of_table address P ps (label + 1) m rest some1 (λ k d lt. h (suc k) d (omega arith))) (label == m) refl some where
      by : (0 < table_from ps (label + 1) m → P (range (address m) (table_from ps (label + 1) m))) → (t : Bool) → (label == m) ≡ t
          → 0 < elim t as (λ z. ℕ) [ true ↦ length ws | false ↦ table_from ps (label + 1) m ] → P (range (address m) (elim t as (λ z. ℕ) [ true ↦ length ws | false ↦ table_from ps (label + 1) m ]))
      by next true same some1 = subst (λ z. P (range (address z) (length ws))) (same_true label m same) (h 0 (range 0 0) (omega arith))
      by next false other some1 = next some1

pub table_there : (address : ℕ → ℕ) (ps : List Place) (label m i : ℕ) (others : Bool) → i < table_from ps label m → is_static address ps label others (address m + i) ≡ true
unfolding is_static
table_there address [] label m i others lt = absurd (omega (arith, lt))
table_there address (Code r ∷ ps) label m i others lt = table_there address ps (label + 1) m i others lt
table_there address (Text bs ∷ ps) label m i others lt = table_there address ps (label + 1) m i others lt
table_there address (Static w ∷ ps) label m i others lt = right (address label == address m + i) _ (table_there address ps (label + 1) m i others lt)
table_there address (Table ws ∷ ps) label m i others lt = by (λ lt1. table_there address ps (label + 1) m i others lt1) (label == m) refl lt where
  by : (i < table_from ps (label + 1) m → is_static address ps (label + 1) others (address m + i) ≡ true) → (t : Bool) → (label == m) ≡ t
      → i < elim t as (λ z. ℕ) [ true ↦ length ws | false ↦ table_from ps (label + 1) m ]
      → ((nat_le (address label) (address m + i) && nat_lt (address m + i) (address label + length ws)) || is_static address ps (label + 1) others (address m + i)) ≡ true
  by next true same lt1 =
      let here : address label ≡ address m = ap address (same_true label m same) in
      let low : nat_le (address label) (address m + i) ≡ true = grind (arith, nat_tests) in
      let high : nat_lt (address m + i) (address label + length ws) ≡ true = grind (arith, nat_tests) in
      rw (low, high) refl
  by next false other lt1 = right (nat_le (address label) (address m + i) && nat_lt (address m + i) (address label + length ws)) _ (next lt1)

word_in : (ws : List ℕ) (i : ℕ) → i < length ws → (w : ℕ) × (slice_get ws i ≡ Some w)
word_in [] i lt = absurd (omega arith)
word_in (w ∷ ws) zero lt = (w, refl)
word_in (w ∷ ws) (suc i) lt = word_in ws i (omega arith)

pub table_word : (address : ℕ → ℕ) (ps : List Place) (label m i : ℕ) (rest : List Standing) → i < table_from ps label m → (w : ℕ) × (data_word (standing_from address label ps ++ rest) (address m + i) ≡ Some w)
table_word address [] label m i rest lt = absurd (omega (arith, lt))
table_word address (Code r ∷ ps) label m i rest lt = table_word address ps (label + 1) m i rest lt
table_word address (Text bs ∷ ps) label m i rest lt = either_some (word_of (Words (string_words bs)) (address label) (address m + i)) _ (table_word address ps (label + 1) m i rest lt)
table_word address (Static v ∷ ps) label m i rest lt = either_some (word_of (Words (v ∷ [])) (address label) (address m + i)) _ (table_word address ps (label + 1) m i rest lt)
table_word address (Table ws ∷ ps) label m i rest lt = by (λ lt1. table_word address ps (label + 1) m i rest lt1) (label == m) refl lt where
  by : (i < table_from ps (label + 1) m → (v : ℕ) × (data_word (standing_from address (label + 1) ps ++ rest) (address m + i) ≡ Some v)) → (t : Bool) → (label == m) ≡ t
      → i < elim t as (λ z. ℕ) [ true ↦ length ws | false ↦ table_from ps (label + 1) m ]
      → (v : ℕ) × (or_else (word_of (Words ws) (address label) (address m + i)) (data_word (standing_from address (label + 1) ps ++ rest) (address m + i)) ≡ Some v)
  by next true same lt1 =
      let here : address label ≡ address m = ap address (same_true label m same) in
      let up : nat_le (address label) (address m + i) ≡ true = grind (arith, nat_tests) in
      let back : address m + i - address label ≡ i = omega (arith, here) in
      let w = word_in ws i lt1 in
      let get = w.1 in
      (w.0, rw (up, back, get, word_of) refl)
  by next false other lt1 = either_some (word_of (Words ws) (address label) (address m + i)) _ (next lt1)

-- an address is in one of these ranges
abbrev pub Within : ℕ → List Range → Type 0
Within a [] = ⊥
Within a (x ∷ xs) = ((x.from ≤ a) × (a < x.from + x.size)) ⊎ Within a xs

pub each_within : (xs : List Range) → All (λ x. (a : ℕ) → x.from ≤ a → a < x.from + x.size → Within a xs) xs
each_within [] k d lt = absurd (omega arith)
each_within (x ∷ xs) zero d lt = λ a low high. inl (low, high)
each_within (x ∷ xs) (suc k) d lt = λ a low high. inr (each_within xs k d (omega arith) a low high)

within_more : (address : ℕ → ℕ) (label : ℕ) (ps : List Place) (rest : List Standing) (a : ℕ) → Within a (map range_of rest) → Within a (map range_of (standing_from address label ps ++ rest))
within_more address label [] rest a w = w
within_more address label (p ∷ ps) rest a w = inr (within_more address (label + 1) ps rest a w)

away_from : (x : Range) (a : ℕ) (xs : List Range) → All (Apart x) xs → Within a xs → (a < x.from) ⊎ (x.from + x.size ≤ a)
away_from x a [] h w = absurd w
away_from x a (y ∷ ys) h (inl here) = by (h 0 (range 0 0) (omega arith)) where
  by : Apart x y → (a < x.from) ⊎ (x.from + x.size ≤ a)
  by (inl before) = inr (omega (arith, here.0, before))
  by (inr behind) = inl (omega (arith, here.1, behind))
away_from x a (y ∷ ys) h (inr w) = away_from x a ys (λ k d lt. h (suc k) d (omega arith)) w

not_here : (b a : ℕ) → (a < b) ⊎ (b + 1 ≤ a) → (b == a) ≡ false
not_here b a (inl h) = grind (arith, nat_tests)
not_here b a (inr h) = grind (arith, nat_tests)

no_word_here : (from a : ℕ) (ws : List ℕ) → (a < from) ⊎ (from + length ws ≤ a) → elim (nat_le from a) as (λ z. Option ℕ) [ true ↦ slice_get ws (a - from) | false ↦ None ] ≡ None
no_word_here from a ws (inl h) = let low : nat_le from a ≡ false = grind (arith, nat_tests) in rw low refl
no_word_here from a ws (inr h) = let up : nat_le from a ≡ true = grind (arith, nat_tests) in rw up (slice_get_past ws (a - from) (omega (arith, h)))

not_inside : (from many a : ℕ) → (a < from) ⊎ (from + many ≤ a) → (nat_le from a && nat_lt a (from + many)) ≡ false
not_inside from many a (inl h) = let low : nat_le from a ≡ false = grind (arith, nat_tests) in rw low refl
not_inside from many a (inr h) =
    let up : nat_le from a ≡ true = grind (arith, nat_tests) in
    let past_end : nat_lt a (from + many) ≡ false = grind (arith, nat_tests) in
    rw (up, past_end) refl

-- at an address in other places these places have nothing
pub record Past (section : Placed) (label : ℕ) (ps : List Place) (rest : List Standing) (a : ℕ) : Type 0 where
  pub called : callee_among section label ps a ≡ None
  pub word : data_word (standing_from section.address label ps ++ rest) a ≡ data_word rest a
  pub static : (others : Bool) → is_static section.address ps label others a ≡ others

pub past : (section : Placed) (label : ℕ) (ps : List Place) (rest : List Standing) (a : ℕ) → AllApart (map range_of (standing_from section.address label ps ++ rest)) → Within a (map range_of rest)
    → Past section label ps rest a
unfolding is_static
past section label [] rest a apart w = record { called = refl; word = refl; static = λ others. refl }
past section label (Code r ∷ ps) rest a apart w =
    let p = past section (label + 1) ps rest a apart.1 w in
    let test : (section.address label == a) ≡ false = not_here (section.address label) a (away_from (range (section.address label) 1) a _ apart.0 (within_more section.address (label + 1) ps rest a w)) in
    record { called = rw (test, callee_among) p.called; word = p.word; static = p.static }
past section label (Static v ∷ ps) rest a apart w =
    let p = past section (label + 1) ps rest a apart.1 w in
    let away = away_from (range (section.address label) 1) a _ apart.0 (within_more section.address (label + 1) ps rest a w) in
    let test : (section.address label == a) ≡ false = not_here (section.address label) a away in
    let none = no_word_here (section.address label) a (v ∷ []) away in
    record { called = p.called; word = rw (word_of, none) p.word; static = λ others. rw test (p.static others) }
past section label (Table ws ∷ ps) rest a apart w =
    let p = past section (label + 1) ps rest a apart.1 w in
    let away = away_from (range (section.address label) (length ws)) a _ apart.0 (within_more section.address (label + 1) ps rest a w) in
    let none = no_word_here (section.address label) a ws away in
    let test : (nat_le (section.address label) a && nat_lt a (section.address label + length ws)) ≡ false = not_inside (section.address label) (length ws) a away in
    record { called = p.called; word = rw (word_of, none) p.word; static = λ others. rw test (p.static others) }
past section label (Text bs ∷ ps) rest a apart w =
    let p = past section (label + 1) ps rest a apart.1 w in
    let none = no_word_here (section.address label) a (string_words bs) (away_from (range (section.address label) (length (string_words bs))) a _ apart.0 (within_more section.address (label + 1) ps rest a w)) in
    record { called = p.called; word = rw (word_of, none) p.word; static = p.static }

-- what a program has in the places of its last sections is what these have
pub record Reaches (program : List Placed) (base : ℕ) (ss : List Placed) : Type 0 where
  pub called : (a : ℕ) → Within a (map range_of (standing ss)) → callee program a ≡ callee ss a
  pub word : (a : ℕ) → Within a (map range_of (standing ss)) → data_word (standing program) a ≡ data_word (standing ss) a
  pub static : (a : ℕ) → Within a (map range_of (standing ss)) → statics program a ≡ statics ss a
  pub inside : All (Inside base) (map range_of (standing ss))
  pub apart : AllApart (map range_of (standing ss))

rest_inside : (base : ℕ) (address : ℕ → ℕ) (label : ℕ) (ps : List Place) (rest : List Standing) → All (Inside base) (map range_of (standing_from address label ps ++ rest)) → All (Inside base) (map range_of rest)
rest_inside base address label [] rest h = h
rest_inside base address label (p ∷ ps) rest h = rest_inside base address (label + 1) ps rest (λ k d lt. h (suc k) d (omega arith))

rest_apart : (address : ℕ → ℕ) (label : ℕ) (ps : List Place) (rest : List Standing) → AllApart (map range_of (standing_from address label ps ++ rest)) → AllApart (map range_of rest)
rest_apart address label [] rest h = h
rest_apart address label (p ∷ ps) rest h = rest_apart address (label + 1) ps rest h.1

pub onwards : (program : List Placed) (base : ℕ) (s : Placed) (ss : List Placed) → Reaches program base (s ∷ ss) → Reaches program base ss
onwards program base s ss r = record {
  called = λ a w. r.called a (more a w) ∙ (let e = (skip a w).called in rw e refl);
  word = λ a w. r.word a (more a w) ∙ (skip a w).word;
  static = λ a w. r.static a (more a w) ∙ (skip a w).static (statics ss a);
  inside = rest_inside base s.address 1 s.core.places (standing ss) r.inside;
  apart = rest_apart s.address 1 s.core.places (standing ss) r.apart;
} where
  more : (a : ℕ) → Within a (map range_of (standing ss)) → Within a (map range_of (standing (s ∷ ss)))
  more a w = within_more s.address 1 s.core.places (standing ss) a w

  skip : (a : ℕ) → Within a (map range_of (standing ss)) → Past s 1 s.core.places (standing ss) a
  skip a w = past s 1 s.core.places (standing ss) a r.apart w
