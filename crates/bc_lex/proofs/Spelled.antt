-- The symbols found without the table of spellings are those of the table.
use Rattle.std.proofs.Common.{◌≡◌, ℕ, Bool, true, false, cond, Option, Some, None, List, [], ◌∷◌, length, get_or, refl, ap, sym, ◌∙◌, rules, arith, true≢false}
use Rattle.std.specs.Prelude.{nat_eq, ◌==◌, ◌&&◌, if◌then◌else◌}
use Rattle.std.specs.Cmp.Lexicographic.{pointwise, same_text}
use Rattle.bc_lex_tokens.specs.declared.symbol.Symbol.{Symbol}
use Rattle.bc_lex_tokens.specs.Spelling.{symbol_in, symbol_of, spellings}
use Rattle.bc_lex.specs.Spelled.{symbol_by_byte, may_spell}

-- the rows with one byte
abbrev by_row : List ℕ → Symbol → ℕ → Option Symbol → Option Symbol
by_row (a ∷ []) s b x = if b == a then Some s else x
by_row _ s b x = x

abbrev by_rows : List (List ℕ × Symbol) → ℕ → Option Symbol
by_rows [] b = None
by_rows (row ∷ rows) b = by_row row.0 row.1 b (by_rows rows b)

one_row : (text : List ℕ) (s : Symbol) (b : ℕ) (x : Option Symbol) → by_row text s b x ≡ cond (pointwise nat_eq text (b ∷ [])) (Some s) x
one_row [] s b x = refl
one_row (a ∷ []) s b x = search rules
one_row (a ∷ c ∷ cs) s b x = search rules

by_rows_are : (rows : List (List ℕ × Symbol)) (b : ℕ) → by_rows rows b ≡ symbol_in rows (b ∷ [])
by_rows_are [] b = refl
by_rows_are (row ∷ rows) b = ap (by_row row.0 row.1 b) (by_rows_are rows b) ∙ one_row row.0 row.1 b (symbol_in rows (b ∷ []))

pub by_byte_is : (b : ℕ) → symbol_by_byte b ≡ symbol_of (b ∷ [])
unfolding symbol_of
by_byte_is b = by_rows_are spellings b

pub alone : (text : List ℕ) (b d : ℕ) → length text ≡ 1 → b ≡ get_or text 0 d → symbol_by_byte b ≡ symbol_of text
alone [] b d h i = absurd (omega (arith, h))
alone (x ∷ []) b d h i = by_byte_is b ∙ ap (λ y. symbol_of (y ∷ [])) i
alone (x ∷ y ∷ ys) b d h i = absurd (omega (arith, h))

-- every spelling passes the test of its first two bytes
abbrev all_fit : List (List ℕ × Symbol) → Bool
all_fit [] = true
all_fit (row ∷ rows) = may_spell row.0 && all_fit rows

first_of : (a b : Bool) → (a && b) ≡ true → a ≡ true
first_of true b h = refl
first_of false b h = h

second_of : (a b : Bool) → (a && b) ≡ true → b ≡ true
second_of true b h = h
second_of false true h = refl
second_of false false h = h

not_in : (rows : List (List ℕ × Symbol)) (text : List ℕ) → all_fit rows ≡ true → may_spell text ≡ false → symbol_in rows text ≡ None
not_in [] text h k = refl
not_in (row ∷ rows) text h k = other (pointwise nat_eq row.0 text) refl (not_in rows text (second_of (may_spell row.0) (all_fit rows) h) k) where
  other : (same : Bool) → same ≡ pointwise nat_eq row.0 text → symbol_in rows text ≡ None → cond (pointwise nat_eq row.0 text) (Some row.1) (symbol_in rows text) ≡ None
  other true e tail = absurd (true≢false (sym (first_of (may_spell row.0) (all_fit rows) h) ∙ ap may_spell (same_text row.0 text e) ∙ k))
  other false e tail = ap (λ t. cond t (Some row.1) (symbol_in rows text)) (sym e) ∙ tail

pub none_spelled : (text : List ℕ) → may_spell text ≡ false → symbol_of text ≡ None
unfolding symbol_of
none_spelled text h = not_in spellings text refl h
