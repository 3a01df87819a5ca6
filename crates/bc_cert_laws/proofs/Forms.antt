-- Forms as fields: a text is read as a form exactly if it is a sign, or a letter and a number, of that form.
use Rattle.std.proofs.Common.{◌≡◌, ⊎_elim, ℕ, ◌^◌, ◌<◌, ◌≤◌, ◌==◌, true, cond, List, [], ◌∷◌, Option, Some, None, IfSome, refl, ap, sym, subst, ◌∙◌, arith}
use Rattle.std.specs.List.{AllByRecursion}
use Rattle.std.specs.Int.{IsInRange}
use Rattle.std.specs.Fmt.{decimal}
use Rattle.std.proofs.lemmas.Bool.{eqb-true}
use Rattle.bc_word.specs.declared.operator.Op.{Op}
use Rattle.bc_word.specs.declared.operator.Op.TheVariants.{Multiply}
use Rattle.bc_word.specs.Words.{number_of}
use Rattle.bc_cert_write.specs.Lines.{words_field}
use Rattle.bc_cert_read.specs.declared.form.Form.{Form}
use Rattle.bc_cert_read.specs.declared.form.Form.TheVariants as forms
use Rattle.bc_cert_read.specs.Fields.{small}
use Rattle.bc_cert_read.specs.Lines.{operators, op_among, op_numbered, operator_form, sign, lettered, form}
use Rattle.bc_cert_laws.specs.Entries.{IsNumber, IsSmall}
use Rattle.bc_cert_laws.specs.Standing.{form_text, FormIsSmall}
use Rattle.bc_cert_laws.proofs.Numbers.{got, chosen, passed, decimal_digits, small_read, small_back}
use Rattle.bc_cert_laws.proofs.Fields.{Above, each}

-- what holds of the one holds of the other
pub at_same : {A : Type 0} (P : A → Type 0) (a b : A) → Some a ≡ Some b → P a → P b
at_same P a b e h = let s : a ≡ b = cc in subst P s h

-- the text says the form
abbrev Says : List ℕ → Form → Type 0
Says text f = (text ≡ form_text f) × FormIsSmall f

pub letter_is : (b c : ℕ) (bs : List ℕ) → (b == c) ≡ true → b ∷ bs ≡ c ∷ bs
letter_is b c bs e = ap (λ x. x ∷ bs) (eqb-true b c e)

sign_read : (b : ℕ) (f : Form) → sign b ≡ Some f → Says (b ∷ []) f
sign_read b f h =
    ⊎_elim (λ p. at_same (Says (b ∷ [])) forms.Load f p.1 (letter_is b 33 [] p.0, tt))
    (λ p. ⊎_elim (λ q. at_same (Says (b ∷ [])) forms.Neg f q.1 (letter_is b 77 [] q.0, tt))
    (λ q. ⊎_elim (λ r. at_same (Says (b ∷ [])) forms.Not f r.1 (letter_is b 126 [] r.0, tt))
    (λ r. let s = passed (b == 63) (Some forms.Cond) f r.1 in at_same (Says (b ∷ [])) forms.Cond f s.1 (letter_is b 63 [] s.0, tt))
    (chosen (b == 126) (Some forms.Not) _ f q.1))
    (chosen (b == 77) (Some forms.Neg) _ f p.1))
    (chosen (b == 33) (Some forms.Load) _ f h)

op_read : (n : ℕ) (ops : List Op) (op : Op) → op_among n ops ≡ Some op → number_of op ≡ n
op_read n [] op h = absurd (cc)
op_read n (o ∷ ops) op h = ⊎_elim (λ p. at_same (λ x. number_of x ≡ n) o op p.1 (eqb-true (number_of o) n p.0)) (λ p. op_read n ops op p.1) (chosen (number_of o == n) (Some o) _ op h)

op_back : (op : Op) → op_numbered (number_of op) ≡ Some op
op_back Multiply = refl
op_back _ = refl

pub op_small : (op : Op) → IsSmall (number_of op)
op_small Multiply = omega arith
op_small _ = omega arith

operator_read : (n : ℕ) (o : Option Op) (f : Form) → ((op : Op) → o ≡ Some op → number_of op ≡ n) → operator_form o ≡ Some f → Says (88 ∷ decimal n) f
operator_read n None f k h = absurd (cc)
operator_read n (Some op) f k h = at_same (Says (88 ∷ decimal n)) (forms.Bin op) f h (ap (λ m. 88 ∷ decimal m) (sym (k op refl)), tt)

-- a form with a number
abbrev numbered : ℕ → ℕ → List (ℕ × (ℕ → Form)) → Option Form
numbered b n [] = cond (b == 88) (operator_form (op_numbered n)) None
numbered b n (x ∷ xs) = cond (b == x.0) (Some (x.1 n)) (numbered b n xs)

abbrev numbered_forms : List (ℕ × (ℕ → Form))
numbered_forms = (78, forms.Num) ∷ (80, forms.Frame) ∷ (71, forms.Glob) ∷ (76, forms.Place) ∷ (86, forms.Valof) ∷ (75, forms.Call) ∷ []

numbered_read : (b n : ℕ) (f : Form) (xs : List (ℕ × (ℕ → Form))) → AllByRecursion (λ (x : ℕ × (ℕ → Form)). Says (x.0 ∷ decimal n) (x.1 n)) xs → numbered b n xs ≡ Some f → Says (b ∷ decimal n) f
numbered_read b n f [] k h =
    let p = passed (b == 88) _ f h in
    subst (λ c. Says (c ∷ decimal n) f) (sym (eqb-true b 88 p.0)) (operator_read n (op_numbered n) f (op_read n operators) p.1)
numbered_read b n f (x ∷ xs) k h =
    ⊎_elim (λ p. at_same (Says (b ∷ decimal n)) (x.1 n) f p.1 (subst (λ c. Says (c ∷ decimal n) (x.1 n)) (sym (eqb-true b x.0 p.0)) k.0))
    (λ p. numbered_read b n f xs k.1 p.1)
    (chosen (b == x.0) (Some (x.1 n)) _ f h)

lettered_read : (b n : ℕ) (f : Form) → IsSmall n → lettered b n ≡ Some f → Says (b ∷ decimal n) f
lettered_read b n f s h = numbered_read b n f numbered_forms ((refl, s), ((refl, s), ((refl, s), ((refl, s), ((refl, s), ((refl, s), tt)))))) h

pub form_read : (text : List ℕ) (f : Form) → form text ≡ Some f → (text ≡ form_text f) × FormIsSmall f
form_read [] f h = absurd (cc)
form_read (b ∷ []) f h = sign_read b f h
form_read (b ∷ c ∷ bs) f h =
    let n = got (small (c ∷ bs)) (λ m. lettered b m) f h in
    let s = small_read n.0 (c ∷ bs) n.1 in
    subst (λ t. Says (b ∷ t) f) (sym s.0) (lettered_read b n.0 f s.1 n.2)

lettered_back : (b n : ℕ) (text : List ℕ) → small text ≡ Some n → form (b ∷ text) ≡ lettered b n
lettered_back b n [] h = absurd (cc)
lettered_back b n (c ∷ bs) h = rw h

with_number : (b n : ℕ) → IsSmall n → form (b ∷ decimal n) ≡ lettered b n
with_number b n h = lettered_back b n (decimal n) (small_back n h)

pub form_back : (f : Form) → FormIsSmall f → form (form_text f) ≡ Some f
form_back (forms.Num n) h = with_number 78 n h
form_back (forms.Frame n) h = with_number 80 n h
form_back (forms.Glob n) h = with_number 71 n h
form_back (forms.Place n) h = with_number 76 n h
form_back (forms.Valof n) h = with_number 86 n h
form_back forms.Load h = refl
form_back forms.Neg h = refl
form_back forms.Not h = refl
form_back (forms.Bin op) h = with_number 88 (number_of op) (op_small op) ∙ ap operator_form (op_back op)
form_back forms.Cond h = refl
form_back (forms.Call n) h = with_number 75 n h

-- the bytes of numbers and forms
pub number_above : (bound n : ℕ) → bound ≤ 47 → n < 2 ^ 64 → Above bound (decimal n)
number_above bound n h k = each (IsInRange 48 57) (λ b. bound < b) (λ b i. omega arith) (decimal n) (decimal_digits n k)

pub number_bytes : (n : ℕ) → n < 2 ^ 64 → Above 10 (decimal n)
number_bytes n h = number_above 10 n (omega arith) h

pub words_above : (o : Option ℕ) → IfSome o IsNumber → Above 32 (words_field o)
words_above None h = (omega arith, tt)
words_above (Some n) h = number_above 32 n (omega arith) h

pub form_above : (f : Form) → FormIsSmall f → Above 32 (form_text f)
form_above (forms.Num n) h = (omega arith, number_above 32 n (omega arith) (omega arith))
form_above (forms.Frame n) h = (omega arith, number_above 32 n (omega arith) (omega arith))
form_above (forms.Glob n) h = (omega arith, number_above 32 n (omega arith) (omega arith))
form_above (forms.Place n) h = (omega arith, number_above 32 n (omega arith) (omega arith))
form_above (forms.Valof n) h = (omega arith, number_above 32 n (omega arith) (omega arith))
form_above forms.Load h = (omega arith, tt)
form_above forms.Neg h = (omega arith, tt)
form_above forms.Not h = (omega arith, tt)
form_above (forms.Bin op) h = let s = op_small op in (omega arith, number_above 32 (number_of op) (omega arith) (omega arith))
form_above forms.Cond h = (omega arith, tt)
form_above (forms.Call n) h = (omega arith, number_above 32 n (omega arith) (omega arith))
