-- The form of spellings: each fact is one test over the rows of the table.
use Rattle.std.proofs.Common.{◌≡◌, ◌∙◌, refl, sym, ap, ℕ, Bool, true, false, not, ◌&&◌, ◌||◌, inl, inr, List, [], ◌∷◌, Some, None, cond, nat_eq}
use Rattle.std.specs.List.{list_all}
use Rattle.std.specs.Cmp.Lexicographic.{pointwise}
use Rattle.std.proofs.lemmas.Bool.{and_parts, or_cases, both_ways, not-true, eqb-true}
use Rattle.std.proofs.lemmas.Slice.Eq.{bytes_eq-Decides}
use Rattle.bc_lex_tokens.specs.declared.symbol.Symbol.{Symbol}
use Rattle.bc_lex_tokens.specs.declared.symbol.Symbol.TheVariants as symbol
use Rattle.std.specs.Prelude.{codes}
use Rattle.bc_lex_tokens.specs.Spelling.{spellings, symbol_in, symbol_of}
use Rattle.bc_lex.specs.Bytes.{is_letter}
use Rattle.bc_lex.specs.Tags.{has_tag}
use Rattle.bc_lex.specs.Faults.{is_sign_byte}

-- a sign has one or two bytes; a section bracket has two and begins with $
abbrev is_short : ℕ → List ℕ → Symbol → Bool
is_short b [] s = not (has_tag s)
is_short b (c ∷ []) s = not (has_tag s) || nat_eq b 36
is_short b (c ∷ d ∷ more) s = false

-- a word, or a sign
abbrev row_test : List ℕ → Symbol → Bool
row_test [] s = false
row_test (b ∷ bs) s = (is_letter b && not (has_tag s)) || (is_sign_byte b && is_short b bs s)

table_step : (test : List ℕ → Symbol → Bool) (row : List ℕ × Symbol) (rows : List (List ℕ × Symbol)) (text : List ℕ) (s : Symbol) (t : Bool) → pointwise nat_eq row.0 text ≡ t → test row.0 row.1 ≡ true → (symbol_in rows text ≡ Some s → test text s ≡ true) → cond t (Some row.1) (symbol_in rows text) ≡ Some s → test text s ≡ true
table_step test row rows text s true e here later h =
    let same : row.0 ≡ text = (bytes_eq-Decides row.0 text).0 e in
    let one : row.1 ≡ s = cc in
    ap (λ ys. test ys s) (sym same) ∙ ap (λ x. test row.0 x) (sym one) ∙ here
table_step test row rows text s false e here later h = later h

pub table_test : (test : List ℕ → Symbol → Bool) (rows : List (List ℕ × Symbol)) (text : List ℕ) (s : Symbol) → list_all (λ row. test row.0 row.1) rows ≡ true → symbol_in rows text ≡ Some s → test text s ≡ true
table_test test [] text s h e = let n : None ≡ Some s = e in cc
table_test test (row ∷ rows) text s h e =
    let p = and_parts (test row.0 row.1) (list_all (λ r. test r.0 r.1) rows) h in
    table_step test row rows text s (pointwise nat_eq row.0 text) refl p.0 (λ later. table_test test rows text s p.1 later) e

spelled_test : (text : List ℕ) (s : Symbol) → symbol_of text ≡ Some s → row_test text s ≡ true
unfolding symbol_of
spelled_test text s h = table_test row_test spellings text s refl h

pub data Shape : List ℕ → Symbol → Type 0 where
  Letters : (b : ℕ) (bs : List ℕ) (s : Symbol) → is_letter b ≡ true → has_tag s ≡ false → Shape (b ∷ bs) s
  One : (b : ℕ) (s : Symbol) → is_sign_byte b ≡ true → has_tag s ≡ false → Shape (b ∷ []) s
  Two : (b c : ℕ) (s : Symbol) → is_sign_byte b ≡ true → (has_tag s ≡ true → b ≡ 36) → Shape (b ∷ c ∷ []) s

dollar : (b : ℕ) (s : Symbol) → (not (has_tag s) || nat_eq b 36) ≡ true → has_tag s ≡ true → b ≡ 36
dollar b s h tag = elim (or_cases (not (has_tag s)) (nat_eq b 36) h) [
  | inl p ↦ absurd (both_ways (has_tag s) (not-true (has_tag s) p) tag)
  | inr p ↦ eqb-true b 36 p
]

sign_shape : (b : ℕ) (bs : List ℕ) (s : Symbol) → is_sign_byte b ≡ true → is_short b bs s ≡ true → Shape (b ∷ bs) s
sign_shape b [] s h e = One b s h (not-true (has_tag s) e)
sign_shape b (c ∷ []) s h e = Two b c s h (dollar b s e)
sign_shape b (c ∷ d ∷ more) s h e = let n : false ≡ true = e in cc

shape_of : (text : List ℕ) (s : Symbol) → row_test text s ≡ true → Shape text s
shape_of [] s h = let n : false ≡ true = h in cc
shape_of (b ∷ bs) s h = elim (or_cases (is_letter b && not (has_tag s)) (is_sign_byte b && is_short b bs s) h) [
  | inl p ↦ (let q = and_parts (is_letter b) (not (has_tag s)) p in Letters b bs s q.0 (not-true (has_tag s) q.1))
  | inr p ↦ (let q = and_parts (is_sign_byte b) (is_short b bs s) p in sign_shape b bs s q.0 q.1)
]

pub shape : (text : List ℕ) (s : Symbol) → symbol_of text ≡ Some s → Shape text s
shape text s h = shape_of text s (spelled_test text s h)

-- GET has only one spelling
abbrev is_get_symbol : Symbol → Bool
is_get_symbol symbol.Get = true
is_get_symbol _ = false

abbrev get_test : List ℕ → Symbol → Bool
get_test text s = not (is_get_symbol s) || pointwise nat_eq text (codes "GET")

pub get_spelled : (text : List ℕ) → symbol_of text ≡ Some symbol.Get → text ≡ codes "GET"
unfolding symbol_of
get_spelled text h = (bytes_eq-Decides text (codes "GET")).0 (table_test get_test spellings text symbol.Get refl h)
