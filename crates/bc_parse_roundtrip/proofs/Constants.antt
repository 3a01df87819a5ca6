-- A character constant is read back as its character. One computed test goes over all 256 bytes.
use Rattle.std.proofs.Common.{◌≡◌, ℕ, ◌<◌, Bool, true, false, not, ◌&&◌, List, [], ◌∷◌, Option, Some, None, eqb, refl, ap}
use Rattle.std.proofs.lemmas.Bool.{and_parts, eqb-true, eqb-false, not-true, lt-ltb}
use Rattle.bc_lex_tokens.specs.Token.{Character}
use Rattle.bc_lex.specs.Bytes.{escaped}
use Rattle.bc_lex.specs.Quotes.{Plain, Escape}
use Rattle.bc_lex.specs.Lexemes.{IsLexeme, Constant}
use Rattle.bc_parse_tree.specs.Rendered.{escape_of, in_signs, character_text}
use Rattle.bc_parse_roundtrip.proofs.Numerals.{below_holds}

abbrev stands_for : Option ℕ → ℕ → Bool
stands_for None c = false
stands_for (Some b) c = eqb b c

abbrev is_written : ℕ → Option ℕ → Bool
is_written c None = not (eqb c 10) && (not (eqb c 39) && not (eqb c 42))
is_written c (Some e) = stands_for (escaped e) c

stands : (o : Option ℕ) (c : ℕ) → stands_for o c ≡ true → o ≡ Some c
stands None c h = let n : false ≡ true = h in cc
stands (Some b) c h = ap (λ x. Some x) (eqb-true b c h)

constant_written : (c : ℕ) (o : Option ℕ) (after : List ℕ) → is_written c o ≡ true → IsLexeme (in_signs c o) after (Character c)
constant_written c None after h =
    let p = and_parts (not (eqb c 10)) (not (eqb c 39) && not (eqb c 42)) h in
    let q = and_parts (not (eqb c 39)) (not (eqb c 42)) p.1 in
    Constant (c ∷ []) after c (Plain c (eqb-false c 10 (not-true (eqb c 10) p.0)) (eqb-false c 39 (not-true (eqb c 39) q.0)) (eqb-false c 42 (not-true (eqb c 42) q.1)))
constant_written c (Some e) after h = Constant (42 ∷ e ∷ []) after c (Escape e c (stands (escaped e) c h))

pub constant_lexeme : (c : ℕ) (after : List ℕ) → c < 256 → IsLexeme (character_text c) after (Character c)
constant_lexeme c after lt = rw (lt-ltb c 256 lt) (constant_written c (escape_of c) after (below_holds 256 (λ b. is_written b (escape_of b)) refl c lt))
