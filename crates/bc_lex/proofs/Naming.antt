-- The first source with a name.
use Rattle.std.proofs.Common.{◌≡◌, ◌≢◌, ◌∙◌, refl, sym, ap, arith, ℕ, zero, suc, ◌+◌, ◌<◌, Bool, true, false, inl, inr, List, [], ◌∷◌, ◌++◌, length, Some, None, cond, nat_eq, append_assoc, slice_get}
use Rattle.std.proofs.lemmas.Bool.{eq-eqb, eqb-true, both_ways, cases_Bool}
use Rattle.bc_lex.specs.Quotes.{IsCharacter, Spells, Empty, More}
use Rattle.bc_lex.specs.Files.{File}
use Rattle.bc_lex.specs.Search.{is_closed, same_as, names_on, names_from, spells_name, source_from}
use Rattle.bc_lex.specs.Tokens.{IsFirstNamed, IsUnnamed}
use Rattle.bc_lex.proofs.Runs.{drop-front}
use Rattle.bc_lex.proofs.Quoting.{quoted_character}

-- the first byte of a name is compared with the first character of a string
names_turn : (b : ℕ) (name first rest : List ℕ) (c : ℕ) → IsCharacter 34 first c → names_from (b ∷ name) (first ++ rest) ≡ names_on (names_from name) (first ++ rest) (cond (nat_eq c b) (Some (length first)) None)
names_turn b name first rest c ch = ap (λ q. names_on (names_from name) (first ++ rest) (same_as b q)) (quoted_character 34 first rest c refl ch)

names_end : (first rest : List ℕ) (c : ℕ) → IsCharacter 34 first c → names_from [] (first ++ rest) ≡ false
names_end first rest c ch = ap is_closed (quoted_character 34 first rest c refl ch)

names_goes_on : (name first rest : List ℕ) (c b : ℕ) (t : Bool) → nat_eq c b ≡ t → names_on (names_from name) (first ++ rest) (cond t (Some (length first)) None) ≡ true → (c ≡ b) × (names_from name rest ≡ true)
names_goes_on name first rest c b true e h = (eqb-true c b e, ap (names_from name) (sym (drop-front first rest)) ∙ h)
names_goes_on name first rest c b false e h = let n : false ≡ true = h in cc

pub names_sound : (text cs : List ℕ) → Spells 34 text cs → (name rest : List ℕ) → names_from name (text ++ 34 ∷ rest) ≡ true → name ≡ cs
names_sound text cs Empty [] rest h = refl
names_sound text cs Empty (b ∷ name) rest h = let n : false ≡ true = h in cc
names_sound text cs (More first more c others ch sp) [] rest h =
    let same : names_from [] ((first ++ more) ++ 34 ∷ rest) ≡ names_from [] (first ++ (more ++ 34 ∷ rest)) = ap (names_from []) (append_assoc first more (34 ∷ rest)) in
    absurd (both_ways (names_from [] ((first ++ more) ++ 34 ∷ rest)) (same ∙ names_end first (more ++ 34 ∷ rest) c ch) h)
names_sound text cs (More first more c others ch sp) (b ∷ name) rest h =
    let same : names_from (b ∷ name) (first ++ (more ++ 34 ∷ rest)) ≡ true = ap (names_from (b ∷ name)) (sym (append_assoc first more (34 ∷ rest))) ∙ h in
    let p = names_goes_on name first (more ++ 34 ∷ rest) c b (nat_eq c b) refl (sym (names_turn b name first (more ++ 34 ∷ rest) c ch) ∙ same) in
    let ih : name ≡ others = names_sound more others sp name rest p.1 in
    let head : c ≡ b = p.0 in
    cc

pub names_complete : (text cs : List ℕ) → Spells 34 text cs → (rest : List ℕ) → names_from cs (text ++ 34 ∷ rest) ≡ true
names_complete text cs Empty rest = refl
names_complete text cs (More first more c others ch sp) rest =
    let t : nat_eq c c ≡ true = eq-eqb c c refl in
    ap (names_from (c ∷ others)) (append_assoc first more (34 ∷ rest)) ∙ names_turn c others first (more ++ 34 ∷ rest) c ch
    ∙ ap (λ b. names_on (names_from others) (first ++ (more ++ 34 ∷ rest)) (cond b (Some (length first)) None)) t
    ∙ ap (names_from others) (drop-front first (more ++ 34 ∷ rest)) ∙ names_complete more others sp rest

-- a string spells only one name
pub record Names (string name : List ℕ) : Type 0 where
  pub only : (other : List ℕ) → spells_name string other ≡ true → other ≡ name
  pub this : spells_name string name ≡ true

pub string_names : (text cs : List ℕ) → Spells 34 text cs → Names (34 ∷ (text ++ 34 ∷ [])) cs
unfolding spells_name
string_names text cs sp = record { only = λ other h. names_sound text cs sp other [] h; this = names_complete text cs sp [] }

-- the first file has the name
first_here : (f : File) (files : List File) (name : List ℕ) → f.name ≡ name → IsFirstNamed (f ∷ files) name 0
first_here f files name e = record {
  text = f.text;
  there = ap (λ n. Some (let g : File = record { name = n; text = f.text } in g)) e;
  first = λ j other lt get. absurd (omega arith);
}

later_first : (f : File) (files : List File) (name : List ℕ) (k : ℕ) → f.name ≢ name → ((j : ℕ) (other : File) → j < k → slice_get files j ≡ Some other → other.name ≢ name) → (j : ℕ) (other : File) → j < suc k → slice_get (f ∷ files) j ≡ Some other → other.name ≢ name
later_first f files name k ne h zero other lt get = let same : f ≡ other = cc in λ e. ne (ap (λ g. g.name) same ∙ e)
later_first f files name k ne h (suc j) other lt get = h j other (omega arith) get

first_later : (f : File) (files : List File) (name : List ℕ) (k : ℕ) → f.name ≢ name → IsFirstNamed files name k → IsFirstNamed (f ∷ files) name (suc k)
first_later f files name k ne h = record { text = h.text; there = h.there; first = later_first f files name k ne h.first }

source_step : (string name : List ℕ) → Names string name → (i : ℕ) (f : File) (files : List File) (j : ℕ) (t : Bool) → spells_name string f.name ≡ t → (source_from string (i + 1) files ≡ Some j → (k : ℕ) × (j ≡ i + 1 + k) × IsFirstNamed files name k) → cond t (Some i) (source_from string (i + 1) files) ≡ Some j → (k : ℕ) × (j ≡ i + k) × IsFirstNamed (f ∷ files) name k
source_step string name names i f files j true e ih h = let same : i ≡ j = cc in (0, omega arith, first_here f files name (names.only f.name e))
source_step string name names i f files j false e ih h =
    let p = ih h in
    let ne : f.name ≢ name = λ same. both_ways (spells_name string f.name) e (ap (spells_name string) same ∙ names.this) in
    let j_is : j ≡ i + 1 + p.0 = p.1 in
    (suc p.0, omega arith, first_later f files name p.0 ne p.2)

pub source_some : (string name : List ℕ) → Names string name → (i : ℕ) (files : List File) (j : ℕ) → source_from string i files ≡ Some j → (k : ℕ) × (j ≡ i + k) × IsFirstNamed files name k
source_some string name names i [] j h = let n : None ≡ Some j = h in cc
source_some string name names i (f ∷ files) j h = source_step string name names i f files j (spells_name string f.name) refl (source_some string name names (i + 1) files j) h

unnamed_later : (f : File) (files : List File) (name : List ℕ) → f.name ≢ name → IsUnnamed files name → IsUnnamed (f ∷ files) name
unnamed_later f files name ne h zero other get = let same : f ≡ other = cc in λ e. ne (ap (λ g. g.name) same ∙ e)
unnamed_later f files name ne h (suc j) other get = h j other get

none_step : (string name : List ℕ) → Names string name → (i : ℕ) (f : File) (files : List File) (t : Bool) → spells_name string f.name ≡ t → (source_from string (i + 1) files ≡ None → IsUnnamed files name) → cond t (Some i) (source_from string (i + 1) files) ≡ None → IsUnnamed (f ∷ files) name
none_step string name names i f files true e ih h = let n : Some i ≡ None = h in cc
none_step string name names i f files false e ih h =
    unnamed_later f files name (λ same. both_ways (spells_name string f.name) e (ap (spells_name string) same ∙ names.this)) (ih h)

pub source_none : (string name : List ℕ) → Names string name → (i : ℕ) (files : List File) → source_from string i files ≡ None → IsUnnamed files name
source_none string name names i [] h = λ j other get. let n : None ≡ Some other = get in cc
source_none string name names i (f ∷ files) h = none_step string name names i f files (spells_name string f.name) refl (source_none string name names (i + 1) files) h

-- and the converse

apart_names : (string name : List ℕ) → Names string name → (other : List ℕ) → other ≢ name → spells_name string other ≡ false
apart_names string name names other ne = elim (cases_Bool (spells_name string other)) [ inl t ↦ absurd (ne (names.only other t)) | inr f ↦ f ]

pub source_first : (string name : List ℕ) → Names string name → (i : ℕ) (files : List File) (k : ℕ) → IsFirstNamed files name k → source_from string i files ≡ Some (i + k)
source_first string name names i [] k h = let n : None ≡ Some (let g : File = record { name = name; text = h.text } in g) = h.there in cc
source_first string name names i (f ∷ files) zero h =
    let there : Some f ≡ Some (let g : File = record { name = name; text = h.text } in g) = h.there in
    let same : f ≡ (let g : File = record { name = name; text = h.text } in g) = cc in
    let z : i ≡ i + 0 = omega arith in
    ap (λ t. cond t (Some i) (source_from string (i + 1) files)) (ap (λ g. spells_name string g.name) same ∙ names.this) ∙ ap Some z
source_first string name names i (f ∷ files) (suc k) h =
    let ne : f.name ≢ name = h.first 0 f (omega arith) refl in
    let later : IsFirstNamed files name k = record { text = h.text; there = h.there; first = λ j other lt get. h.first (suc j) other (omega arith) get } in
    let s : i + 1 + k ≡ i + suc k = omega arith in
    ap (λ t. cond t (Some i) (source_from string (i + 1) files)) (apart_names string name names f.name ne) ∙ source_first string name names (i + 1) files k later ∙ ap Some s

pub source_unnamed : (string name : List ℕ) → Names string name → (i : ℕ) (files : List File) → IsUnnamed files name → source_from string i files ≡ None
source_unnamed string name names i [] h = refl
source_unnamed string name names i (f ∷ files) h =
    ap (λ t. cond t (Some i) (source_from string (i + 1) files)) (apart_names string name names f.name (h 0 f refl)) ∙ source_unnamed string name names (i + 1) files (λ j other get. h (suc j) other get)
