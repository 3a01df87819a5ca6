-- What `parse` returns, from closing and reading.
use Rattle.std.proofs.Common.{◌≡◌, ◌∙◌, ℕ, ◌≤◌, List, length, Result, Ok, Err, refl, sym, ap, subst, arith}
use Rattle.bc_lex_tokens.specs.Token.{Lexeme}
use Rattle.bc_parse_tree.specs.Parts.{Part}
use Rattle.bc_parse_tree.specs.Tree.{Declarations}
use Rattle.bc_parse_tree.specs.Spelling.{SpellsSection}
use Rattle.bc_parse_tree.specs.Height.{declarations_height}
use Rattle.bc_parse_tree.specs.Size.{declarations_size}
use Rattle.bc_parse_tree.specs.Laws.{SizeIsBounded}
use Rattle.bc_parse_defs.specs.Closing.{Placed, closed_list, parts_in, places_in}
use Rattle.bc_parse_defs.specs.Closing as closing
use Rattle.bc_parse_defs.specs.ClosingLaws.{ClosedIsShort}
use Rattle.bc_parse_defs.specs.Seen.{Lists, unzipped, all_unzipped}
use Rattle.bc_parse_defs.specs.Reading.{section_of}
use Rattle.bc_parse_defs.specs.Reading as reading
use Rattle.bc_parse_defs.specs.Laws.{ReadIsSpelled, ReadNestsLittle}
use Rattle.bc_parse.specs.Parsing.{TokensSpell, parsed, placed, placed_fault, read_list}
use Rattle.bc_parse.specs.declared.error.ParseError.{ParseError}
use Rattle.bc_parse.specs.declared.error.ParseError.TheVariants as errors

-- a closed list, before its parts and places were separated
pub record Zipped (r : Result (List Placed) closing.Fault) (c : Lists) : Type 0 where
  pub placed_parts : List Placed
  pub was : r ≡ Ok placed_parts
  pub parts : parts_in placed_parts ≡ c.0
  pub places : places_in placed_parts ≡ c.1

zipped : (r : Result (List Placed) closing.Fault) (c : Lists) → all_unzipped r ≡ Ok c → Zipped r c
zipped (Ok ps) c e = let same : unzipped ps ≡ c = cc in record { placed_parts = ps; was = refl; parts = ap (λ (x : Lists). x.0) same; places = ap (λ (x : Lists). x.1) same }
zipped (Err f) c e = absurd cc

pub parsed_is : (ts : List Lexeme) (c : Lists) → all_unzipped (closed_list ts) ≡ Ok c → parsed ts ≡ placed c.1 (length ts) (section_of c.0)
parsed_is ts c e =
    let z = zipped (closed_list ts) c e in
    ap (read_list (length ts)) z.was ∙ rw (z.parts, z.places) refl

pub not_open : (ts : List Lexeme) (n : ℕ) → all_unzipped (closed_list ts) ≡ Err (closing.NotOpen n) → parsed ts ≡ Err (errors.NotOpen n)
not_open ts n e = go (closed_list ts) e
  where
    go : (r : Result (List Placed) closing.Fault) → all_unzipped r ≡ Err (closing.NotOpen n) → read_list (length ts) r ≡ Err (errors.NotOpen n)
    go (Ok ps) e = absurd cc
    go (Err (closing.NotOpen m)) e = let same : m ≡ n = cc in ap (λ (k : ℕ). Err (errors.NotOpen k)) same
    go (Err closing.Unclosed) e = absurd cc

pub unclosed : (ts : List Lexeme) → all_unzipped (closed_list ts) ≡ Err closing.Unclosed → parsed ts ≡ Err errors.Unclosed
unclosed ts e = go (closed_list ts) e
  where
    go : (r : Result (List Placed) closing.Fault) → all_unzipped r ≡ Err closing.Unclosed → read_list (length ts) r ≡ Err errors.Unclosed
    go (Ok ps) e = absurd cc
    go (Err (closing.NotOpen m)) e = absurd cc
    go (Err closing.Unclosed) e = refl

-- what holds of a section that is returned
pub record Parsed (ts : List Lexeme) (ds : Declarations) : Type 0 where
  pub spelled : TokensSpell ts ds
  pub nests : declarations_height ds ≤ 200
  pub size : declarations_size ds ≤ length ts
  pub exact : parsed ts ≡ Ok ds

pub parsed_ok : (ts : List Lexeme) (c : Lists) (ds : Declarations) → ReadIsSpelled → ReadNestsLittle → SizeIsBounded → ClosedIsShort → all_unzipped (closed_list ts) ≡ Ok c → section_of c.0 ≡ Ok ds → Parsed ts ds
parsed_ok ts c ds spelled nests sized short e read =
    let z = zipped (closed_list ts) c e in
    let spells : SpellsSection ds (parts_in z.placed_parts) = subst (λ (r : List Part). SpellsSection ds r) (sym z.parts) (spelled c.0 ds read) in
    record {
      spelled = (z.placed_parts, z.was, spells);
      nests = nests c.0 ds read;
      size = omega (arith, sized ds (parts_in z.placed_parts) spells, short ts z.placed_parts z.was);
      exact = parsed_is ts c e ∙ rw read refl;
    }

pub expected_at : (ts : List Lexeme) (c : Lists) (left at : ℕ) → all_unzipped (closed_list ts) ≡ Ok c → section_of c.0 ≡ Err (reading.Expected left) → placed_fault c.1 (length ts) (reading.Expected left) ≡ errors.Expected at → parsed ts ≡ Err (errors.Expected at)
expected_at ts c left at e read is = parsed_is ts c e ∙ rw read (ap (λ (x : ParseError). Err x) is)

pub deep_at : (ts : List Lexeme) (c : Lists) (left at : ℕ) → all_unzipped (closed_list ts) ≡ Ok c → section_of c.0 ≡ Err (reading.TooDeep left) → placed_fault c.1 (length ts) (reading.TooDeep left) ≡ errors.TooDeep at → parsed ts ≡ Err (errors.TooDeep at)
deep_at ts c left at e read is = parsed_is ts c e ∙ rw read (ap (λ (x : ParseError). Err x) is)
