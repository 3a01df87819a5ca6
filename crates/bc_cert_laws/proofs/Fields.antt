-- Fields: a text is cut into fields exactly if it is these fields with separators between them.
use Rattle.std.proofs.Common.{◌≡◌, ◌≢◌, ℕ, ◌<◌, ◌≤◌, ◌==◌, Bool, true, false, cond, List, [], ◌∷◌, ◌++◌, Option, Some, None, refl, ap, sym, ◌∙◌, arith, ne_eqb, eq-eqb, append_assoc}
use Rattle.std.specs.List.{AllByRecursion}
use Rattle.std.proofs.lemmas.Bool.{eqb-true}
use Rattle.std.proofs.lemmas.List.{append_cancel_right}
use Rattle.bc_cert_write.specs.Lines.{line}
use Rattle.bc_cert_read.specs.Fields.{cut, longer, fields, put, field, field_of, following}
use Rattle.bc_cert_laws.specs.Faults.{lines}
use Rattle.bc_cert_laws.proofs.Numbers.{passed}

-- no byte is this one, and each is greater
abbrev pub Without : ℕ → List ℕ → Type 0
Without separator = AllByRecursion (λ b. b ≢ separator)

abbrev pub Above : ℕ → List ℕ → Type 0
Above bound = AllByRecursion (λ b. bound < b)

pub each : {A : Type 0} (P Q : A → Type 0) → ((a : A) → P a → Q a) → (xs : List A) → AllByRecursion P xs → AllByRecursion Q xs
each P Q f [] h = tt
each P Q f (x ∷ xs) h = (f x h.0, each P Q f xs h.1)

pub each_of_two : {A : Type 0} (P : A → Type 0) (xs ys : List A) → AllByRecursion P xs → AllByRecursion P ys → AllByRecursion P (xs ++ ys)
each_of_two P [] ys h k = k
each_of_two P (x ∷ xs) ys h k = (h.0, each_of_two P xs ys h.1 k)

pub without : (separator bound : ℕ) → separator ≤ bound → (bs : List ℕ) → Above bound bs → Without separator bs
without separator bound h = each (λ b. bound < b) (λ b. b ≢ separator) (λ b k e. omega arith)

pub lower : (bs : List ℕ) → Above 32 bs → Above 10 bs
lower = each (λ b. 32 < b) (λ b. 10 < b) (λ b h. omega arith)

-- fields with a separator between each two
abbrev pub joined : ℕ → List ℕ → List (List ℕ) → List ℕ
joined separator f [] = f
joined separator f (g ∷ gs) = f ++ separator ∷ joined separator g gs

-- up to the first separator
cut_at : (separator b : ℕ) (bs rest : List ℕ) (t : Bool) → (b == separator) ≡ t → ((cut separator bs).following ≡ Some rest → bs ≡ (cut separator bs).first ++ separator ∷ rest)
    → (cond t (record { first = []; following = Some bs }) (longer (b ∷ []) (cut separator bs))).following ≡ Some rest
    → b ∷ bs ≡ (cond t (record { first = []; following = Some bs }) (longer (b ∷ []) (cut separator bs))).first ++ separator ∷ rest
cut_at separator b bs rest true e f h = let s = eqb-true b separator e in cc
cut_at separator b bs rest false e f h = ap (λ x. b ∷ x) (f h)

pub cut_read : (separator : ℕ) (bs rest : List ℕ) → (cut separator bs).following ≡ Some rest → bs ≡ (cut separator bs).first ++ separator ∷ rest
cut_read separator [] rest h = absurd (cc)
cut_read separator (b ∷ bs) rest h = cut_at separator b bs rest (b == separator) refl (cut_read separator bs rest) h

pub cut_back : (separator : ℕ) (first rest : List ℕ) → Without separator first → cut separator (first ++ separator ∷ rest) ≡ record { first = first; following = Some rest }
cut_back separator [] rest h = rw (eq-eqb separator separator refl)
cut_back separator (b ∷ bs) rest h = rw (ne_eqb b separator h.0) (ap (longer (b ∷ [])) (cut_back separator bs rest h.1))

field_parts : (f first rest : List ℕ) (o : Option (List ℕ)) → field_of f o ≡ Some (first, rest) → (f ≡ first) × (o ≡ Some rest)
field_parts f first rest None h = absurd (cc)
field_parts f first rest (Some r) h = let e : (f, r) ≡ (first, rest) = cc in (ap (λ (p : List ℕ × List ℕ). p.0) e, ap (λ (p : List ℕ × List ℕ). Some p.1) e)

pub field_read : (text first rest : List ℕ) → field text ≡ Some (first, rest) → text ≡ first ++ 32 ∷ rest
field_read text first rest h =
    let p = field_parts (cut 32 text).first first rest (cut 32 text).following h in
    cut_read 32 text rest p.1 ∙ ap (λ f. f ++ 32 ∷ rest) p.0

pub field_back : (first rest : List ℕ) → Without 32 first → field (first ++ 32 ∷ rest) ≡ Some (first, rest)
field_back first rest h = rw (cut_back 32 first rest h)

-- after a letter and a blank
pub after_read : (letter : ℕ) (text rest : List ℕ) → following text letter ≡ Some rest → text ≡ letter ∷ 32 ∷ rest
after_read letter [] rest h = absurd (cc)
after_read letter (a ∷ []) rest h = absurd (cc)
after_read letter (a ∷ b ∷ bs) rest h = let p = passed (a == letter) _ rest h in let q = passed (b == 32) (Some bs) rest p.1 in let x = eqb-true a letter p.0 in let y = eqb-true b 32 q.0 in cc

-- all fields
pub record Parted (separator : ℕ) (text : List ℕ) : Type 0 where
  pub first : List ℕ
  pub more : List (List ℕ)
  pub fields : fields separator text ≡ first ∷ more
  pub is : text ≡ joined separator first more

more_of_first : (separator b : ℕ) (f : List ℕ) (fs : List (List ℕ)) → b ∷ joined separator f fs ≡ joined separator (b ∷ f) fs
more_of_first separator b f [] = refl
more_of_first separator b f (g ∷ gs) = refl

parted_at : (separator b : ℕ) (bs : List ℕ) (t : Bool) → (b == separator) ≡ t → (p : Parted separator bs) → (f : List ℕ) × (fs : List (List ℕ)) × (cond t ([] ∷ fields separator bs) (put b (fields separator bs)) ≡ f ∷ fs) × (b ∷ bs ≡ joined separator f fs)
parted_at separator b bs true e p = ([], p.first ∷ p.more, ap (λ x. [] ∷ x) p.fields, let s = eqb-true b separator e in ap (λ x. b ∷ x) p.is ∙ ap (λ x. x ∷ joined separator p.first p.more) s)
parted_at separator b bs false e p = (b ∷ p.first, p.more, ap (put b) p.fields, ap (λ x. b ∷ x) p.is ∙ more_of_first separator b p.first p.more)

pub parted : (separator : ℕ) (bs : List ℕ) → Parted separator bs
parted separator [] = record { first = []; more = []; fields = refl; is = refl }
parted separator (b ∷ bs) = let p = parted_at separator b bs (b == separator) refl (parted separator bs) in record { first = p.0; more = p.1; fields = p.2; is = p.3 }

fields_front : (separator : ℕ) (f rest : List ℕ) → Without separator f → fields separator (f ++ separator ∷ rest) ≡ f ∷ fields separator rest
fields_front separator [] rest h = rw (eq-eqb separator separator refl)
fields_front separator (b ∷ bs) rest h = rw (ne_eqb b separator h.0) (ap (put b) (fields_front separator bs rest h.1))

one_field : (separator : ℕ) (f : List ℕ) → Without separator f → fields separator f ≡ f ∷ []
one_field separator [] h = refl
one_field separator (b ∷ bs) h = rw (ne_eqb b separator h.0) (ap (put b) (one_field separator bs h.1))

pub fields_back : (separator : ℕ) (f : List ℕ) (fs : List (List ℕ)) → Without separator f → AllByRecursion (Without separator) fs → fields separator (joined separator f fs) ≡ f ∷ fs
fields_back separator f [] h k = one_field separator f h
fields_back separator f (g ∷ gs) h k = fields_front separator f (joined separator g gs) h ∙ ap (λ x. f ∷ x) (fields_back separator g gs k.0 k.1)

-- a line
line_joined : (f : List ℕ) (fs : List (List ℕ)) → line f fs ≡ joined 32 f fs ++ 10 ∷ []
line_joined f [] = refl
line_joined f (g ∷ gs) = ap (λ x. f ++ 32 ∷ x) (line_joined g gs) ∙ sym (append_assoc f (32 ∷ joined 32 g gs) (10 ∷ []))

pub line_from : (l f : List ℕ) (fs : List (List ℕ)) → l ≡ joined 32 f fs → l ++ 10 ∷ [] ≡ line f fs
line_from l f fs h = ap (λ x. x ++ 10 ∷ []) h ∙ sym (line_joined f fs)

pub line_to : (l f : List ℕ) (fs : List (List ℕ)) → l ++ 10 ∷ [] ≡ line f fs → l ≡ joined 32 f fs
line_to l f fs h = append_cancel_right l (joined 32 f fs) (10 ∷ []) (h ∙ line_joined f fs)

-- a single line with its LF
abbrev pub IsOneLine : List ℕ → Type 0
IsOneLine text = (l : List ℕ) × (text ≡ l ++ 10 ∷ []) × (lines l ≡ 0)

no_line_end : (l : List ℕ) → Above 10 l → lines l ≡ 0
no_line_end [] h = refl
no_line_end (b ∷ bs) h = rw (ne_eqb b 10 (λ e. omega arith)) (no_line_end bs h.1)

joined_above : (f : List ℕ) (fs : List (List ℕ)) → AllByRecursion (Above 10) (f ∷ fs) → Above 10 (joined 32 f fs)
joined_above f [] h = h.0
joined_above f (g ∷ gs) h = each_of_two (λ b. 10 < b) f (32 ∷ joined 32 g gs) h.0 (omega arith, joined_above g gs h.1)

pub line_ends : (f : List ℕ) (fs : List (List ℕ)) → AllByRecursion (Above 10) (f ∷ fs) → IsOneLine (line f fs)
line_ends f fs h = (joined 32 f fs, line_joined f fs, no_line_end (joined 32 f fs) (joined_above f fs h))
