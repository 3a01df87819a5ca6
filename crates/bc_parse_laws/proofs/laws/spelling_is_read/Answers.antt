use Rattle.std.proofs.Common.{arith}
use Rattle.bc_parse_laws.proofs.Grammar.{section_formed}
use Rattle.bc_parse_laws.proofs.Balance.{rounds_are_open}
use Rattle.bc_parse_laws.proofs.Free.{declarations_free}
use Rattle.bc_parse_laws.proofs.Sections.{section_again}
use Rattle.bc_parse_laws.proofs.laws.spelling_is_read.Goals as goal

pub returns : goal.returns
returns c = λ ds ts spelled high open_now free. section_again ds (declarations_free ds (section_formed spelled) (record { holds = free })) high (omega (arith, rounds_are_open ds))
