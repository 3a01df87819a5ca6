use Rattle.std.proofs.Common.{ap, ◌∙◌}
use Rattle.bc_lex_tokens.specs.Token.{lexemes_of}
use Rattle.bc_parse_tree.specs.View.{section_view}
use Rattle.bc_core.specs.View.{section}
use Rattle.bc_lex.specs.Files.{files_of}
use Rattle.bc_tame_built.proofs.Tame.{resolved_from}
use Rattle.bc_tame_built.proofs.program.resolved.Goals as goal

pub returns-in-Ok-resolve : goal.returns-in-Ok-resolve
returns-in-Ok-resolve c =
    let e = ap lexemes_of c.as_slice.ensures.value in
    let found = c.in-Ok-resolve.ensures in
    resolved_from (files_of c.args.sources.now) c.args.main (lexemes_of c.as_slice.result.now) (section_view c.in-Ok-parse.section) (section c.in-Ok-resolve.core)
    (λ others h. e ∙ c.in-Ok.ensures.only_tokens others h) c.in-Ok-parse.ensures.exact found.1
