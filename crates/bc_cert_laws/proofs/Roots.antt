-- A root line is read exactly if it is the line of that root.
use Rattle.std.proofs.Common.{◌≡◌, ⊎_elim, ℕ, ◌+◌, ◌<◌, ◌==◌, ◌&&◌, true, false, List, [], ◌∷◌, ◌++◌, Some, refl, ap, ap₂, sym, subst, ◌∙◌, arith}
use Rattle.std.specs.List.{AllByRecursion}
use Rattle.std.specs.Fmt.{decimal}
use Rattle.std.proofs.lemmas.Bool.{eqb-true, and_parts}
use Rattle.std.proofs.lemmas.Fmt.{decimal_digit}
use Rattle.bc_core.specs.Tree.{Root}
use Rattle.bc_rules_defs.specs.declared.rule.Rule.{Rule}
use Rattle.bc_rules_defs.specs.declared.rule.Rule.TheVariants.{A1, A2, A3}
use Rattle.bc_rules_defs.specs.Names.{rule_number, rule_letter}
use Rattle.bc_cert_write.specs.Lines.{line, rule_name, sense_field}
use Rattle.bc_cert_read.specs.declared.lines.RootLine.{RootLine}
use Rattle.bc_cert_read.specs.declared.lines.RootLine.TheVariants.{Value, Test, Assign}
use Rattle.bc_cert_read.specs.Fields.{following, level}
use Rattle.bc_cert_read.specs.Lines.{assigned, root_of, root_line}
use Rattle.bc_cert_laws.specs.Entries.{IsLevel}
use Rattle.bc_cert_laws.specs.Faults.{Grown, IsAssignment, first, second, third, RootOver, value, test, assign}
use Rattle.bc_cert_laws.specs.Standing.{root_text, RootLineIsSmall}
use Rattle.bc_cert_laws.proofs.Numbers.{got, chosen, passed, level_read, level_back}
use Rattle.bc_cert_laws.proofs.Fields.{Above, joined, after_read, line_from, line_to, IsOneLine, line_ends}
use Rattle.bc_cert_laws.proofs.Forms.{at_same, number_above}

-- the fields after the first one
abbrev root_fields : RootLine → List (List ℕ)
root_fields Value = (86 ∷ []) ∷ []
root_fields (Test sense) = sense_field sense ∷ []
root_fields (Assign r s) = rule_name r ∷ decimal s ∷ []

root_fields_are : (r : RootLine) → root_text r ≡ line (82 ∷ []) (root_fields r)
root_fields_are Value = refl
root_fields_are (Test sense) = refl
root_fields_are (Assign r s) = refl

-- the text after the first field says the root
abbrev Says : List ℕ → RootLine → Type 0
Says text r = (82 ∷ 32 ∷ text ≡ joined 32 (82 ∷ []) (root_fields r)) × RootLineIsSmall r

one_says : (a b : ℕ) (r : RootLine) → (a == b) ≡ true → Says (b ∷ []) r → Says (a ∷ []) r
one_says a b r e h = subst (λ c. Says (c ∷ []) r) (sym (eqb-true a b e)) h

one_read : (a : ℕ) (r : RootLine) → root_of (a ∷ []) ≡ Some r → Says (a ∷ []) r
one_read a r h =
    ⊎_elim (λ p. at_same (Says (a ∷ [])) Value r p.1 (one_says a 86 Value p.0 (refl, tt)))
    (λ p. ⊎_elim (λ q. at_same (Says (a ∷ [])) (Test false) r q.1 (one_says a 70 (Test false) q.0 (refl, tt)))
    (λ q. let t = passed (a == 84) (Some (Test true)) r q.1 in at_same (Says (a ∷ [])) (Test true) r t.1 (one_says a 84 (Test true) t.0 (refl, tt)))
    (chosen (a == 70) (Some (Test false)) _ r p.1))
    (chosen (a == 86) (Some Value) _ r h)

name_is : (r : Rule) (n : ℕ) → n ∷ [] ≡ decimal (rule_number r) → rule_letter r ≡ 65 → 65 ∷ n ∷ [] ≡ rule_name r
name_is r n e l = ap₂ (λ x y. x ∷ y) (sym l) e

assign_says : (n m s : ℕ) (digits : List ℕ) (r : Rule) → (n == m) ≡ true → m ∷ [] ≡ decimal (rule_number r) → rule_letter r ≡ 65 → IsAssignment r → (digits ≡ decimal s) × IsLevel s → Says (65 ∷ n ∷ 32 ∷ digits) (Assign r s)
assign_says n m s digits r t e l i h =
    let name : 65 ∷ n ∷ [] ≡ rule_name r = ap (λ x. 65 ∷ x ∷ []) (eqb-true n m t) ∙ name_is r m e l in
    (ap₂ (λ x y. 82 ∷ 32 ∷ (x ++ 32 ∷ y)) name h.0, (i, h.1))

one_digit : (n : ℕ) → n < 10 → (48 + n) ∷ [] ≡ decimal n
one_digit n h = sym (decimal_digit n h)

assigned_read : (n : ℕ) (digits : List ℕ) (r : RootLine) → assigned n digits ≡ Some r → Says (65 ∷ n ∷ 32 ∷ digits) r
assigned_read n digits r h =
    let p = got (level digits) _ r h in
    let s = level_read p.0 digits p.1 in
    ⊎_elim (λ q. at_same (Says (65 ∷ n ∷ 32 ∷ digits)) (Assign A1 p.0) r q.1 (assign_says n 49 p.0 digits A1 q.0 (one_digit 1 (omega arith)) refl first s))
    (λ q. ⊎_elim (λ u. at_same (Says (65 ∷ n ∷ 32 ∷ digits)) (Assign A2 p.0) r u.1 (assign_says n 50 p.0 digits A2 u.0 (one_digit 2 (omega arith)) refl second s))
    (λ u. let t = passed (n == 51) (Some (Assign A3 p.0)) r u.1 in at_same (Says (65 ∷ n ∷ 32 ∷ digits)) (Assign A3 p.0) r t.1 (assign_says n 51 p.0 digits A3 t.0 (one_digit 3 (omega arith)) refl third s))
    (chosen (n == 50) (Some (Assign A2 p.0)) _ r q.1))
    (chosen (n == 49) (Some (Assign A1 p.0)) _ r p.2)

root_of_read : (text : List ℕ) (r : RootLine) → root_of text ≡ Some r → Says text r
root_of_read [] r h = absurd (cc)
root_of_read (a ∷ []) r h = one_read a r h
root_of_read (a ∷ n ∷ []) r h = absurd (cc)
root_of_read (a ∷ n ∷ b ∷ digits) r h =
    let p = passed (a == 65 && b == 32) (assigned n digits) r h in
    let t = and_parts (a == 65) (b == 32) p.0 in
    subst (λ x. Says x r) (ap₂ (λ x y. x ∷ n ∷ y ∷ digits) (sym (eqb-true a 65 t.0)) (sym (eqb-true b 32 t.1))) (assigned_read n digits r p.1)

pub root_read : (l : List ℕ) (r : RootLine) → root_line l ≡ Some r → (l ++ 10 ∷ [] ≡ root_text r) × RootLineIsSmall r
root_read l r h =
    let p = got (following l 82) (λ text. root_of text) r h in
    let s = root_of_read p.0 r p.2 in
    (line_from l (82 ∷ []) (root_fields r) (after_read 82 l p.0 p.1 ∙ s.0) ∙ sym (root_fields_are r), s.1)

-- what is written is read
assign_back : (r : Rule) (s : ℕ) → IsAssignment r → IsLevel s → root_line (82 ∷ 32 ∷ (rule_name r ++ 32 ∷ decimal s)) ≡ Some (Assign r s)
assign_back _ s first h = ap (λ x. root_line (82 ∷ 32 ∷ 65 ∷ (x ++ 32 ∷ decimal s))) (decimal_digit 1 (omega arith)) ∙ rw (level_back s h)
assign_back _ s second h = ap (λ x. root_line (82 ∷ 32 ∷ 65 ∷ (x ++ 32 ∷ decimal s))) (decimal_digit 2 (omega arith)) ∙ rw (level_back s h)
assign_back _ s third h = ap (λ x. root_line (82 ∷ 32 ∷ 65 ∷ (x ++ 32 ∷ decimal s))) (decimal_digit 3 (omega arith)) ∙ rw (level_back s h)

joined_back : (r : RootLine) → RootLineIsSmall r → root_line (joined 32 (82 ∷ []) (root_fields r)) ≡ Some r
joined_back Value h = refl
joined_back (Test true) h = refl
joined_back (Test false) h = refl
joined_back (Assign r s) h = assign_back r s h.0 h.1

pub root_back : (l : List ℕ) (r : RootLine) → RootLineIsSmall r → l ++ 10 ∷ [] ≡ root_text r → root_line l ≡ Some r
root_back l r h e = ap root_line (line_to l (82 ∷ []) (root_fields r) (e ∙ root_fields_are r)) ∙ joined_back r h

name_above : (r : Rule) → IsAssignment r → Above 10 (rule_name r)
name_above _ first = (omega arith, number_above 10 1 (omega arith) (omega arith))
name_above _ second = (omega arith, number_above 10 2 (omega arith) (omega arith))
name_above _ third = (omega arith, number_above 10 3 (omega arith) (omega arith))

fields_above : (r : RootLine) → RootLineIsSmall r → AllByRecursion (Above 10) (root_fields r)
fields_above Value h = ((omega arith, tt), tt)
fields_above (Test true) h = ((omega arith, tt), tt)
fields_above (Test false) h = ((omega arith, tt), tt)
fields_above (Assign r s) h = (name_above r h.0, (number_above 10 s (omega arith) (omega (arith, h.1)), tt))

text_ends : (r : RootLine) → RootLineIsSmall r → IsOneLine (root_text r)
text_ends r h = subst IsOneLine (sym (root_fields_are r)) (line_ends (82 ∷ []) (root_fields r) ((omega arith, tt), fields_above r h))

pub root_ends : (ts : List Grown) (r : Root) (l : List ℕ) → RootOver ts r l → IsOneLine l
root_ends ts r l value = text_ends Value tt
root_ends ts r l (test {sense = sense}) = text_ends (Test sense) tt
root_ends ts r l (assign {s = s} {r = rule} h i j k) = text_ends (Assign rule s) (h, i)

pub root_begins : (r : RootLine) → (rest : List ℕ) × (root_text r ≡ 82 ∷ rest)
root_begins Value = (_, refl)
root_begins (Test sense) = (_, refl)
root_begins (Assign r s) = (_, refl)
