-- How a run ended by itself, in terms of bc_core.
use Rattle.bc_core.specs.Outcome as outcomes
use Rattle.bc_interpret_steps.specs.declared.forms.Ending.{Ending}
use Rattle.bc_interpret_steps.specs.declared.forms.Ending.TheVariants as endings

abbrev pub ending : Ending → outcomes.Ending
ending endings.Finished = outcomes.Finished
ending endings.ZeroDivide = outcomes.ZeroDivide
