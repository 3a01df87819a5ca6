-- The canonical spelling of a section is parsed as that section.
use Rattle.std.proofs.Common.{◌≡◌, ◌∙◌, List, length, Ok, ap}
use Rattle.bc_lex_tokens.specs.Token.{Lexeme}
use Rattle.bc_parse_tree.specs.Tree.{Declarations}
use Rattle.bc_parse_tree.specs.Canonical.{section_spelling}
use Rattle.bc_parse_defs.specs.Closing.{places_in}
use Rattle.bc_parse_defs.specs.Reading.{section_of}
use Rattle.bc_parse_laws.specs.Laws.{SpellingIsRead, SpellingIsClosed}
use Rattle.bc_parse.specs.Canonical.{IsCanonical}
use Rattle.bc_parse.specs.Parsing.{parsed, placed, read_list}

pub canonical_parsed : (ds : Declarations) (ts : List Lexeme) → SpellingIsRead → SpellingIsClosed → IsCanonical ds ts → parsed ts ≡ Ok ds
canonical_parsed ds ts read followed_by c =
    let list = followed_by ds ts c.tokens in
    let whole : section_of (section_spelling ds) ≡ Ok ds = read ds c.some_spelling c.is_spelled c.nests c.brackets c.repeats in
    ap (read_list (length ts)) list.1 ∙ (rw list.2 (ap (placed (places_in list.0) (length ts)) whole))
