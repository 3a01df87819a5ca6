-- Worked examples: the first faults of short texts, and a certificate without entries.
use Rattle.std.specs.Prelude.{◌≡◌, List, [], ◌∷◌, ◌++◌, refl}
use Rattle.std.proofs.Common.{arith}
use Rattle.bc_rules_defs.specs.declared.rule.Table.{Table}
use Rattle.bc_rules_defs.specs.declared.rule.Table.TheVariants.{One, Two}
use Rattle.bc_cert_defs.specs.declared.check_fault.CheckFault.TheVariants.{Header, Truncated}
use Rattle.bc_cert_defs.specs.Text.{header_line, end_line}
use Rattle.bc_cert_defs.specs.Verdict.{Judged}
use Rattle.bc_cert_laws.specs.Entries.{Says, none}
use Rattle.bc_cert_laws.specs.Faults.{the_header, between, the_end, Lacks, at_line, in_header, in_lines, nothing, header, no_header}

is_after : {T : Table} {js : List Judged} → ¬ (between T js ≡ the_header)
is_after h = cc

is_no_end : {T U : Table} {js ks : List Judged} → ¬ (between T js ≡ the_end U ks)
is_no_end h = cc

-- no bytes, and an incomplete first line
pub of_nothing : Lacks [] Header
of_nothing = in_header refl

pub of_a_front : Lacks (66 ∷ 67 ∷ 80 ∷ []) Header
of_a_front = in_header refl

-- a first line that isn't a header
pub of_another_line : Lacks (88 ∷ 10 ∷ []) Header
of_another_line = at_line (88 ∷ []) [] nothing refl (no_header is_none) where
  is_none : (T : Table) → ¬ (88 ∷ 10 ∷ [] ≡ header_line T)
  is_none One h = cc
  is_none Two h = cc

-- only the header
pub of_the_header : Lacks (header_line Two) Truncated
of_the_header = in_lines {rest = []} (header {T = Two}) is_after refl (λ T js h r. is_no_end h)

-- no entries: `BCPLCERT 1`, and `Z 0`
pub of_no_entries : Says (header_line One ++ end_line 0) (record { table = One; entries = [] })
of_no_entries = record { texts = []; entries = none; count = omega arith; text = refl }
