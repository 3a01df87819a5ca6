-- The certificate of a build is accepted, from the bytes that are written to the comparison with the segments.
use Rattle.std.specs.Prelude.{◌≡◌, ◌⊎◌, ℕ, List, ◌++◌, map, Some, Result, Ok, Err, MatchResult}
use Rattle.std.specs.Io.KnownBytes.{Appends}
use Rattle.bc_text_items.specs.declared.item.Item.{Item}
use Rattle.bc_rules_defs.specs.declared.rule.Table.TheVariants.{Two}
use Rattle.bc_rules_defs.specs.Entry.{Entry}
use Rattle.bc_cert_defs.specs.declared.check_fault.CheckFault.{CheckFault}
use Rattle.bc_cert_defs.specs.declared.check_fault.CheckFault.TheVariants as faults
use Rattle.bc_cert_defs.specs.declared.mismatch.Mismatch.{Mismatch}
use Rattle.bc_cert_defs.specs.declared.verdict.Verdict as code
use Rattle.bc_cert_defs.specs.Verdict.{Verdict}
use Rattle.bc_cert_defs.specs.View.{verdict}
use Rattle.bc_cert_defs.specs.Against.{Fit, Misfit}
use Rattle.bc_cert_write.specs.Certificate.{Derived, entry_of, certificate}
use Rattle.bc_cert.specs.Answer.{IsAnswer}
use Rattle.bc_build.specs.Least.{judged, AreLeast}
use Rattle.bc_build.specs.Certified.{IsCertified}

-- A writer that had the bytes `old` has received the further `bytes`, and the contract of `write_cert` for Ok holds of them.
abbrev pub IsWritten : List Entry → (old bytes : List ℕ) → Type 0
IsWritten entries old bytes = (ds : List Derived) → entries ≡ map entry_of ds → Appends (Some old) (Some (old ++ bytes)) (certificate ds)

-- The verdict that the certificate of a build must have.
abbrev pub expected : List Entry → Verdict
expected entries = record { table = Two; entries = map judged entries }

-- The contract of `check_against` allows this answer for this verdict.
abbrev pub IsCompared : List (List Item) → Verdict → Result (Unit {0}) Mismatch → Type 0
IsCompared segments v answer = MatchResult answer (λ done. Fit segments 0 0 v.entries) (λ fault. Misfit segments 0 0 0 v.entries fault)

-- The answer of `check` is the expected verdict, and the only answer that `check_against` may give for it is Ok; or the reader failed, or
-- memory ran out.
abbrev pub IsTaken : List (List Item) → List Entry → Result code.Verdict CheckFault → Type 0
IsTaken segments entries (Ok v) =
    (verdict v ≡ expected entries) × ((answer : Result (Unit {0}) Mismatch) → IsCompared segments (verdict v) answer → answer ≡ Ok tt)
IsTaken segments entries (Err f) = (f ≡ faults.Read) ⊎ (f ≡ faults.Memory)

-- This holds of every answer of `check` for the bytes that `write_cert` wrote for the entries of a build.
abbrev pub CertificateIsTaken : Type 0
CertificateIsTaken =
    (segments : List (List Item)) (entries : List Entry) (old bytes : List ℕ) (answer : Result code.Verdict CheckFault)
    → AreLeast segments entries → IsCertified entries → IsWritten entries old bytes → IsAnswer (Some bytes) answer → IsTaken segments entries answer
