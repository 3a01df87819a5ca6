use Rattle.std.proofs.Common.{◌≡◌, drop}
use Rattle.bc_lex_tokens.specs.Token.{lexemes_of}
use Rattle.bc_parse_defs.specs.Closing.{closed, closed_list}
use Rattle.bc_parse_defs.specs.Seen.{lists, tags, all_unzipped}
use Rattle.bc_parse_defs.proofs.Stepping.{remaining}
use Rattle.bc_parse_defs.proofs.closing.close.Given as goal

abbrev pub invariant-loop-at : goal.invariant-loop-at
invariant-loop-at l = remaining (lists l.list) (closed l.at (tags l.opened.items) l.is_after_end (lexemes_of (drop l.at l.tokens))) ≡ all_unzipped (closed_list (lexemes_of l.tokens))
