-- For proofs: the call that each continuation of the interpreter closes.
use Rattle.std.specs.Prelude.{Option, None}
use Rattle.bc_interpret_steps.specs.declared.forms.OpenCall.{OpenCall}
use Rattle.bc_interpret_steps.specs.declared.continuations.Rest.{Rest}
use Rattle.bc_interpret_steps.specs.declared.continuations.Rest.TheVariants as rests

-- the call that is over once this continuation is done
abbrev pub opened : Rest → Option OpenCall
opened (rests.Closes call n a) = call
opened r = None
