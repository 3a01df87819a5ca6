-- What remains in a source and what was written to a sink, for the contracts of streams.
use Rattle.std.specs.Prelude.{ℕ, List, [], Option, Some}
use Rattle.bcpl_sources.specs.declared.devices.Sink.{Sink}
use Rattle.bcpl_sources.specs.declared.devices.Sink.TheVariants as sinks
use Rattle.bcpl_sources.specs.declared.devices.Source.{Source}
use Rattle.bcpl_sources.specs.declared.devices.Source.TheVariants as sources

-- The bytes that a source has yet to give, if they are known.
abbrev pub source_remaining : {R F : Type 0} → (R → Option (List ℕ)) → (F → Option (List ℕ)) → Source R F → Option (List ℕ)
source_remaining of_standard of_file (sources.Standard reader) = of_standard reader
source_remaining of_standard of_file (sources.File reader) = of_file reader
source_remaining of_standard of_file sources.Empty = Some []

-- The bytes that were written to a sink, if they are known.
abbrev pub sink_contents : {O F : Type 0} → (O → Option (List ℕ)) → (F → Option (List ℕ)) → Sink O F → Option (List ℕ)
sink_contents of_standard of_file (sinks.Standard writer) = of_standard writer
sink_contents of_standard of_file (sinks.File writer) = of_file writer
