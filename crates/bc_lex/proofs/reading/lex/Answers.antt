use Rattle.bc_lex_tokens.specs.Token.{lexemes_of}
use Rattle.bc_lex.specs.Files.{files_of}
use Rattle.bc_lex.proofs.Answering.{answers_tokens, answers_few, answers_fault, answers_only_tokens, answers_only_fault}
use Rattle.bc_lex.proofs.reading.lex.Goals as goal

pub returns-clause-tokens : goal.returns-clause-tokens
returns-clause-tokens c = answers_tokens (files_of c.args.sources.now) c.args.main (λ v. lexemes_of v.items) c.read.result c.read.ensures

pub returns-clause-few : goal.returns-clause-few
returns-clause-few c = answers_few (files_of c.args.sources.now) c.args.main (λ v. lexemes_of v.items) c.read.result c.read.ensures

pub returns-clause-fault : goal.returns-clause-fault
returns-clause-fault c = answers_fault (files_of c.args.sources.now) c.args.main (λ v. lexemes_of v.items) c.read.result c.read.ensures

pub returns-clause-only_tokens : goal.returns-clause-only_tokens
returns-clause-only_tokens c = answers_only_tokens (files_of c.args.sources.now) c.args.main (λ v. lexemes_of v.items) c.read.result c.read.ensures

pub returns-clause-only_fault : goal.returns-clause-only_fault
returns-clause-only_fault c = answers_only_fault (files_of c.args.sources.now) c.args.main (λ v. lexemes_of v.items) c.read.result c.read.ensures
