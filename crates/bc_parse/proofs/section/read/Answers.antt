use Rattle.std.proofs.Common.{◌≡◌, ◌∙◌, ap, arith}
use Rattle.std.proofs.lemmas.List.{length-map}
use Rattle.bc_lex_tokens.specs.Token.{lexeme_of, lexemes_of}
use Rattle.bc_parse_tree.specs.View.{section_view}
use Rattle.bc_parse_tree.specs.Parts.{parts}
use Rattle.bc_parse_defs.specs.Seen.{lists}
use Rattle.bc_parse_defs.specs.Reading.{section_of}
use Rattle.std.proofs.Common.{Ok, refl}
use Rattle.bc_parse.proofs.Parses.{parsed_ok}
use Rattle.bc_parse.proofs.section.read.Goals as goal

pub returns-in-Ok-section_in-clause-size : goal.returns-in-Ok-section_in-clause-size
returns-in-Ok-section_in-clause-size c =
    let ts = lexemes_of c.args.tokens.now in
    let list = lists c.in-Ok.list in
    let all = ap parts c.as_slice.ensures.value in
    let read : section_of list.0 ≡ Ok (section_view c.in-Ok-section_in.section) = ap section_of (rw all refl) ∙ c.in-Ok-section_in.ensures.read in
    let found = parsed_ok ts list (section_view c.in-Ok-section_in.section) c.read_is_spelled.ensures c.read_nests_little.ensures c.spelling_is_as_long.ensures c.closed_is_short.ensures c.in-Ok.ensures read in
    omega (arith, found.size, length-map c.args.tokens.now lexeme_of)
