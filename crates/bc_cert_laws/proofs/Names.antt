-- The last field of a node line is read as rules exactly if it is the names of these rules.
use Rattle.std.proofs.Common.{◌≡◌, ◌⊎◌, inl, inr, ⊎_elim, ℕ, ◌<◌, ◌==◌, ◌||◌, true, List, [], ◌∷◌, ◌++◌, map, Option, Some, None, refl, ap, ap₂, sym, subst, ◌∙◌, arith, ne_eqb, append-nil}
use Rattle.std.specs.List.{AllByRecursion}
use Rattle.std.proofs.lemmas.Bool.{eqb-true}
use Rattle.std.proofs.lemmas.Bool.Decides.{nat_tests}
use Rattle.bc_rules_defs.specs.declared.rule.Rule.{Rule}
use Rattle.bc_cert_read.specs.declared.chain.Rules.{Rules}
use Rattle.bc_cert_read.specs.declared.chain.Rules.TheVariants.{Taken}
use Rattle.bc_cert_read.specs.declared.chain.Names.{Names}
use Rattle.bc_cert_read.specs.declared.chain.Names.TheVariants.{Nothing}
use Rattle.bc_cert_read.specs.Fields.{small, fields}
use Rattle.bc_cert_read.specs.Chains.{with_number, rule_name, longer, ended, names_from, names, rules}
use Rattle.bc_rules_defs.specs.Names.{rule_named}
use Rattle.bc_cert_laws.specs.Entries.{IsSmall}
use Rattle.bc_cert_laws.specs.Faults.{Name, IsName, v, j, a, name_text, further_names, names_field}
use Rattle.bc_cert_laws.specs.Standing.{AreNamed, no_name}
use Rattle.bc_cert_laws.proofs.Numbers.{got, chosen, passed, small_read, small_back}
use Rattle.bc_cert_laws.proofs.Fields.{Without, Above, each, each_of_two, without, joined, parted, fields_back}
use Rattle.bc_cert_laws.proofs.Forms.{at_same, number_above}
use Rattle.bc_cert_laws.proofs.Chains.{run, names_said}

-- one name
letters : (b : ℕ) → (b == 86 || b == 74 || b == 65) ≡ true → (b ≡ 86) ⊎ ((b ≡ 74) ⊎ (b ≡ 65))
letters b h = grind (arith, nat_tests)

is_name : (b n : ℕ) → IsSmall n → (b ≡ 86) ⊎ ((b ≡ 74) ⊎ (b ≡ 65)) → IsName (record { letter = b; number = n })
is_name b n s (inl e) = subst (λ c. IsName (record { letter = c; number = n })) (sym e) (v s)
is_name b n s (inr (inl e)) = subst (λ c. IsName (record { letter = c; number = n })) (sym e) (j s)
is_name b n s (inr (inr e)) = subst (λ c. IsName (record { letter = c; number = n })) (sym e) (a s)

record NameRead (text : List ℕ) (o : Option Rule) : Type 0 where
  name : Name
  is : text ≡ name_text name
  room : IsName name
  rule : rule_named name.letter name.number ≡ o

numbered_read : (b : ℕ) (bs : List ℕ) (m : Option ℕ) (o : Option Rule) → (b ≡ 86) ⊎ ((b ≡ 74) ⊎ (b ≡ 65)) → small bs ≡ m → with_number b m ≡ Some o → NameRead (b ∷ bs) o
numbered_read b bs None o l e h = absurd (cc)
numbered_read b bs (Some n) o l e h =
    let s = small_read n bs e in
    record { name = record { letter = b; number = n }; is = ap (λ t. b ∷ t) s.0; room = is_name b n s.1 l; rule = cc }

name_read : (text : List ℕ) (o : Option Rule) → rule_name text ≡ Some o → NameRead text o
name_read [] o h = absurd (cc)
name_read (b ∷ bs) o h =
    let p = passed (b == 86 || b == 74 || b == 65) _ o h in
    numbered_read b bs (small bs) o (letters b p.0) refl p.1

name_back : (x : Name) → IsName x → rule_name (name_text x) ≡ Some (rule_named x.letter x.number)
name_back x (v {n = n} h) = ap (with_number 86) (small_back n h)
name_back x (j {n = n} h) = ap (with_number 74) (small_back n h)
name_back x (a {n = n} h) = ap (with_number 65) (small_back n h)

name_above : (x : Name) → IsName x → Above 46 (name_text x)
name_above x (v {n = n} h) = (omega arith, number_above 46 n (omega arith) (omega arith))
name_above x (j {n = n} h) = (omega arith, number_above 46 n (omega arith) (omega arith))
name_above x (a {n = n} h) = (omega arith, number_above 46 n (omega arith) (omega arith))

-- names in fields
record NamesRead (ns : Names) (fs : List (List ℕ)) (rs : Rules) : Type 0 where
  list : List Name
  are : fs ≡ map name_text list
  room : AllByRecursion IsName list
  end : ended (run ns list) ≡ rs

names_read : (ns : Names) (fs : List (List ℕ)) (rs : Rules) → names_from ns fs ≡ Some rs → NamesRead ns fs rs
names_read ns [] rs h = record { list = []; are = refl; room = tt; end = cc }
names_read ns (f ∷ fs) rs h =
    let p = got (rule_name f) (λ r. names_from (longer ns r) fs) rs h in
    let n = name_read f p.0 p.1 in
    let rest = names_read (longer ns p.0) fs rs p.2 in
    record { list = n.name ∷ rest.list; are = ap₂ (λ x xs. x ∷ xs) n.is rest.are; room = (n.room, rest.room); end = ap (λ o. ended (run (longer ns o) rest.list)) n.rule ∙ rest.end }

names_back : (ns : Names) (xs : List Name) → AllByRecursion IsName xs → names_from ns (map name_text xs) ≡ Some (ended (run ns xs))
names_back ns [] h = refl
names_back ns (x ∷ xs) h = rw (name_back x h.0) (names_back (longer ns (rule_named x.letter x.number)) xs h.1)

-- the field
names_joined : (x : Name) (xs : List Name) → names_field (x ∷ xs) ≡ joined 46 (name_text x) (map name_text xs)
names_joined x [] = append-nil (name_text x)
names_joined x (y ∷ ys) = ap (λ t. name_text x ++ 46 ∷ t) (names_joined y ys)

pub record RulesRead (text : List ℕ) (rs : Rules) : Type 0 where
  pub names : List Name
  pub is : text ≡ names_field names
  pub room : AllByRecursion IsName names
  pub rules : AreNamed names rs

of_fields : (text f : List ℕ) (fs : List (List ℕ)) (rs : Rules) (xs : List Name) → text ≡ joined 46 f fs → f ∷ fs ≡ map name_text xs → AllByRecursion IsName xs → ended (run Nothing xs) ≡ rs → RulesRead text rs
of_fields text f fs rs [] e i h k = absurd (cc)
of_fields text f fs rs (x ∷ xs) e i h k =
    let first : f ≡ name_text x = cc in
    let more : fs ≡ map name_text xs = cc in
    record {
      names = x ∷ xs;
      is = e ∙ ap₂ (joined 46) first more ∙ sym (names_joined x xs);
      room = h;
      rules = subst (AreNamed (x ∷ xs)) k (names_said (x ∷ xs) (λ z. cc));
    }

of_names : (text : List ℕ) (rs : Rules) → names text ≡ Some rs → RulesRead text rs
of_names text rs h =
    let p = parted 46 text in
    let n = names_read Nothing (p.first ∷ p.more) rs (sym (ap (names_from Nothing) p.fields) ∙ h) in
    of_fields text p.first p.more rs n.list p.is n.are n.room n.end

pub rules_read : (text : List ℕ) (rs : Rules) → rules text ≡ Some rs → RulesRead text rs
rules_read [] rs h = of_names [] rs h
rules_read (b ∷ []) rs h =
    ⊎_elim
    (λ p. at_same (RulesRead (b ∷ [])) Taken rs p.1 (record { names = []; is = ap (λ c. c ∷ []) (eqb-true b 45 p.0); room = tt; rules = no_name }))
    (λ p. of_names (b ∷ []) rs p.1)
    (chosen (b == 45) (Some Taken) _ rs h)
rules_read (b ∷ c ∷ bs) rs h = of_names (b ∷ c ∷ bs) rs h

rules_names : (b : ℕ) (bs : List ℕ) → 46 < b → rules (b ∷ bs) ≡ names (b ∷ bs)
rules_names b [] h = rw (ne_eqb b 45 (λ e. omega arith))
rules_names b (c ∷ bs) h = refl

all_without : (xs : List Name) → AllByRecursion IsName xs → AllByRecursion (Without 46) (map name_text xs)
all_without [] h = tt
all_without (x ∷ xs) h = (without 46 46 (omega arith) (name_text x) (name_above x h.0), all_without xs h.1)

pub rules_back : (xs : List Name) → AllByRecursion IsName xs → (rs : Rules) × (rules (names_field xs) ≡ Some rs) × AreNamed xs rs
rules_back [] h = (Taken, refl, no_name)
rules_back (x ∷ xs) h =
    let w = all_without (x ∷ xs) h in
    let cut = ap (fields 46) (names_joined x xs) ∙ fields_back 46 (name_text x) (map name_text xs) w.0 w.1 in (
      ended (run Nothing (x ∷ xs)),
      rules_names x.letter _ (name_above x h.0).0 ∙ ap (names_from Nothing) cut ∙ names_back Nothing (x ∷ xs) h,
      names_said (x ∷ xs) (λ z. cc),
    )

above_name : (x : Name) → IsName x → Above 32 (name_text x)
above_name x h = each (λ b. 46 < b) (λ b. 32 < b) (λ b k. omega arith) (name_text x) (name_above x h)

further_above : (xs : List Name) → AllByRecursion IsName xs → Above 32 (further_names xs)
further_above [] h = tt
further_above (x ∷ xs) h = (omega arith, each_of_two (λ b. 32 < b) (name_text x) (further_names xs) (above_name x h.0) (further_above xs h.1))

pub names_above : (xs : List Name) → AllByRecursion IsName xs → Above 32 (names_field xs)
names_above [] h = (omega arith, tt)
names_above (x ∷ xs) h = each_of_two (λ b. 32 < b) (name_text x) (further_names xs) (above_name x h.0) (further_above xs h.1)
