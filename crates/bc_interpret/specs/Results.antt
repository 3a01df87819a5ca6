-- When a reported outcome agrees with the meaning, and when a reported wild cause is right.
use Rattle.std.specs.Prelude.{◌≡◌, List}
use Rattle.bc_machine_defs.specs.Streams.{Content}
use Rattle.bc_machine_defs.specs.StreamCalls.{output_of}
use Rattle.bc_core.specs.Meaning.{Result, Ended, Going, Wild}
use Rattle.bc_core.specs.Map.{Placed}
use Rattle.bc_core.specs.Outcome.{State}
use Rattle.bc_interpret_defs.specs.Machine.{At}
use Rattle.bc_interpret_defs.specs.Trails.{Standing}
use Rattle.bc_interpret_defs.specs.Meeting.{ComesTo}
use Rattle.bc_interpret_pure.specs.Causes.{cause_of}
use Rattle.bc_interpret_steps.specs.Endings.{ending}
use Rattle.bc_interpret_trace.specs.Shown.{Shows}
use Rattle.bc_interpret.specs.declared.run.Interpreted.{Interpreted}
use Rattle.bc_interpret.specs.declared.run.Outcome.{Outcome}
use Rattle.bc_interpret.specs.declared.run.Outcome.TheVariants as outcomes

-- if a wild access is reported, the machine reaches from here a step that is wild with that cause, and this is its trail
abbrev pub Names : List Placed → At → State → Outcome → List Standing → Type 0
Names program from start (outcomes.Wild cause) trail = ComesTo program from start (cause_of cause) trail
Names program from start outcome trail = Unit {0}

-- the same of the trail that is reported
abbrev pub NamesBy : List Placed → At → State → Interpreted → Type 0
NamesBy program from start i = (trail : List Standing) × Names program from start i.outcome trail × Shows i.trail trail

-- the reported outcome, with the output that the streams hold, is this result; after a device failure nothing is said
abbrev pub IsResult : Result → Outcome → Content → Type 0
IsResult r (outcomes.Ended e) streams = r ≡ Ended (output_of streams) (ending e)
IsResult r outcomes.Going streams = r ≡ Going (output_of streams)
IsResult r (outcomes.Wild cause) streams = r ≡ Wild
IsResult r outcomes.Device streams = Unit {0}
