use Rattle.std.proofs.Common.{◌≡◌, take, vec_len}
use Rattle.bc_machine_defs.proofs.image.Words.to_numbers.Given as goal

abbrev pub invariant-loop-word : goal.invariant-loop-word
invariant-loop-word l = (l.numbers.items ≡ take l.word-index l.word-items) × (vec_len l.numbers ≡ l.word-index)
