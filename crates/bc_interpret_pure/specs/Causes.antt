-- The causes of a wild step that the code reports, as causes of the definitions.
use Rattle.bc_interpret_pure.specs.declared.context.Cause.{Cause}
use Rattle.bc_interpret_pure.specs.declared.context.Cause.TheVariants as cause_forms
use Rattle.bc_interpret_defs.specs.Causes as causes

-- the cause of the definitions that the code's cause reports
abbrev pub cause_of : Cause → causes.Cause
cause_of (cause_forms.Unset a) = causes.Unset a
cause_of (cause_forms.Dead a) = causes.Dead a
cause_of (cause_forms.NoCell a) = causes.NoCell a
cause_of (cause_forms.NotRoutine v) = causes.NotRoutine v
cause_of (cause_forms.FrameTooLarge f) = causes.FrameTooLarge f
cause_of cause_forms.Malformed = causes.Malformed
