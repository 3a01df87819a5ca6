use Rattle.std.proofs.Common.{subst, Result}
use Rattle.bc_lex_tokens.specs.Token.{lexemes_of}
use Rattle.bc_parse_tree.specs.Tree.{Declarations}
use Rattle.bc_parse_tree.specs.View.{section_view}
use Rattle.bc_parse.specs.declared.error.ParseError.{ParseError}
use Rattle.bc_parse.specs.Parsing.{Answers}
use Rattle.bc_parse.proofs.Canonical.{canonical_parsed}
use Rattle.bc_parse.proofs.section.parse.Goals as goal

pub returns-clause-canonical : goal.returns-clause-canonical
returns-clause-canonical c ds is =
    subst (λ (answer : Result Declarations ParseError). Answers (λ s. section_view s) c.read.result answer)
    (canonical_parsed ds (lexemes_of c.args.tokens.now) c.spelling_is_read.ensures c.spelling_is_closed.ensures is) c.read.ensures.exact
