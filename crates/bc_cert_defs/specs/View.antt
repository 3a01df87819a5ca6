-- The program's verdicts as those of `Verdict`.
use Rattle.std.specs.Prelude.{map}
use Rattle.bc_core.specs.View.{root}
use Rattle.bc_cert_defs.specs.declared.verdict.Judged as code
use Rattle.bc_cert_defs.specs.declared.verdict.Verdict as code_verdict
use Rattle.bc_cert_defs.specs.Verdict.{Judged, Verdict}

abbrev pub judged : code.Judged → Judged
judged e = record { segment = e.segment; item = e.item; root = root e.root; target = e.target; first = e.first; code = e.code.items; words = e.words }

abbrev pub verdict : code_verdict.Verdict → Verdict
verdict v = record { table = v.table; entries = map judged v.entries.items }
