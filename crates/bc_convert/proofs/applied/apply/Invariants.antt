use Rattle.std.proofs.Common.{◌≡◌, ◌++◌, drop, length}
use Rattle.bc_convert.specs.Converted.{converted_from, RiseWithin}
use Rattle.bc_convert.proofs.applied.apply.Given as goal

abbrev pub invariant-loop-replacement : goal.invariant-loop-replacement
invariant-loop-replacement l = record {
  whole : l.whole.items ++ converted_from l.at l.text (drop l.replacement-index l.replacements) ≡ converted_from 0 l.text l.replacements;
  rise : RiseWithin l.at (length l.text) (drop l.replacement-index l.replacements);
}
