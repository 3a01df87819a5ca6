-- A fault of a text as an error of a file.
use Rattle.std.specs.Prelude.{ℕ}
use Rattle.bc_lex.specs.declared.fault.FaultKind.{FaultKind}
use Rattle.bc_lex.specs.declared.fault.FaultKind.TheVariants as faults
use Rattle.bc_lex.specs.declared.error.LexError.{LexError}
use Rattle.bc_lex.specs.declared.error.LexError.TheVariants as errors

-- the error for a fault in this file, at this offset
abbrev pub error_of : FaultKind → ℕ → ℕ → LexError
error_of faults.BadCharacter file offset = errors.BadCharacter file offset
error_of faults.NumberTooLarge file offset = errors.NumberTooLarge file offset
error_of faults.StringTooLong file offset = errors.StringTooLong file offset
error_of faults.Unterminated file offset = errors.Unterminated file offset
error_of faults.BadEscape file offset = errors.BadEscape file offset
