-- What `check` and `check_sums` return, by the bytes that their reader delivers. The content of some readers is known to the contracts.
use Rattle.std.specs.Prelude.{◌≡◌, ◌≤◌, ℕ, ◌+◌, ◌-◌, ◌^◌, min, length, List, [], ◌∷◌, Option, Result, Ok, Err}
use Rattle.std.specs.Option.{IfSome}
use Rattle.bc_cert_defs.specs.declared.check_fault.CheckFault.{CheckFault}
use Rattle.bc_cert_defs.specs.declared.check_fault.CheckFault.TheVariants as faults
use Rattle.bc_cert_defs.specs.declared.verdict.Verdict as code
use Rattle.bc_cert_defs.specs.Verdict.{Judged, Verdict}
use Rattle.bc_cert_defs.specs.View.{verdict}
use Rattle.bc_cert.specs.declared.sums.Sums.{Sums}
use Rattle.bc_cert_laws.specs.Entries.{Says}
use Rattle.bc_cert_laws.specs.Faults.{Lacks}

-- the greatest number of bytes of a certificate
abbrev pub limit : ℕ
limit = 1073741824

-- if the contracts know the reader's bytes, they are no more than a certificate may have
abbrev pub IsShort : Option (List ℕ) → Type 0
IsShort known = IfSome known (λ bytes. length bytes ≤ limit)

-- there are bytes, delivered by the reader, that say this verdict; if the contracts know the reader's bytes, these are all of them
abbrev pub IsSaid : Option (List ℕ) → Verdict → Type 0
IsSaid known v = (bytes : List ℕ) × IfSome known (λ xs. xs ≡ bytes) × Says bytes v

-- there are bytes, delivered by the reader, that have this first fault; if the contracts know the reader's bytes, all of them have it too
abbrev pub IsLacking : Option (List ℕ) → CheckFault → Type 0
IsLacking known f = (bytes : List ℕ) × IfSome known (λ xs. Lacks xs f) × Lacks bytes f

-- nothing is promised about `Read` and `Memory`; every other fault is that of the bytes
abbrev pub IsFault : Option (List ℕ) → CheckFault → Type 0
IsFault known faults.Read = Unit {0}
IsFault known faults.Memory = Unit {0}
IsFault known f = IsLacking known f

-- `check` returns the verdict that the bytes say, or a fault as above
abbrev pub IsAnswer : Option (List ℕ) → Result code.Verdict CheckFault → Type 0
IsAnswer known (Ok v) = IsSaid known (verdict v)
IsAnswer known (Err f) = IsFault known f

-- the sum of the entries' words
abbrev pub sum_of : List Judged → ℕ
sum_of [] = 0
sum_of (j ∷ js) = j.words + sum_of js

-- the sums of a verdict; the sum of its words is at most 2^64 - 1
pub record AreSums (s : Sums) (v : Verdict) : Type 0 where
  pub table : s.table ≡ v.table
  pub entries : s.entries ≡ length v.entries
  pub words : s.words ≡ min (sum_of v.entries) (2 ^ 64 - 1)

-- these are the sums of a verdict that the reader's bytes say
abbrev pub AreSaid : Option (List ℕ) → Sums → Type 0
AreSaid known s = (v : Verdict) × IsSaid known v × AreSums s v

-- `check_sums` returns the sums of the verdict that the bytes say, or a fault as above
abbrev pub IsSumsAnswer : Option (List ℕ) → Result Sums CheckFault → Type 0
IsSumsAnswer known (Ok s) = AreSaid known s
IsSumsAnswer known (Err f) = IsFault known f
