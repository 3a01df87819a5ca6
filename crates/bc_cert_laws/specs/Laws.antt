-- Statements of the laws about accepted certificates and about the first faults of all other bytes.
use Rattle.std.specs.Prelude.{◌≡◌, ℕ, ◌≤◌, ◌⊎◌, ◌↔◌, List, ◌++◌, map, length, Ok, Err}
use Rattle.std.specs.List.{AllByRecursion, AllZip}
use Rattle.bc_rules_defs.specs.declared.rule.Table.{Table}
use Rattle.bc_rules_defs.specs.declared.rule.Table.TheVariants.{Two}
use Rattle.bc_rules_defs.specs.Entry.{Entry}
use Rattle.bc_rules_defs.specs.Rules.{RootDerives}
use Rattle.bc_rules_defs.specs.Code.{root_code, root_cost}
use Rattle.bc_cert_defs.specs.declared.check_fault.CheckFault.{CheckFault}
use Rattle.bc_cert_defs.specs.declared.check_fault.CheckFault.TheVariants.{Header, Truncated}
use Rattle.bc_cert_defs.specs.Verdict.{Judged, Verdict}
use Rattle.bc_rules.specs.Derivation.{IsDerivation}
use Rattle.bc_cert_write.specs.Certificate.{Derived, entry_of, certificate}
use Rattle.bc_cert_laws.specs.Entries.{IsNumber, Says, SamePiece}
use Rattle.bc_cert_laws.specs.Written.{HasRoom, HasFewest, verdict_of}
use Rattle.bc_cert_laws.specs.Faults.{IsUnended, Lacks, the_end, Reaches}
use Rattle.bc_cert_laws.specs.Judging.{judged}

-- the checker's function accepts the bytes with exactly the verdict that they say, and refuses them with exactly their first fault
pub record IsJudged (bytes : List ℕ) : Type 0 where
  pub accepted : (v : Verdict) → (judged bytes ≡ Ok v) ↔ Says bytes v
  pub refused : (f : CheckFault) → (judged bytes ≡ Err f) ↔ Lacks bytes f

-- this holds for all bytes
abbrev pub JudgedIsSaid : Type 0
JudgedIsSaid = (bytes : List ℕ) → IsJudged bytes

-- bytes say a verdict exactly if right lines lead to the end with it
abbrev pub SaysIsReached : Type 0
SaysIsReached = (bytes : List ℕ) (v : Verdict) → Says bytes v ↔ Reaches bytes (the_end v.table v.entries)

-- the bytes say one verdict or have one first fault, and not both
pub record HasOneAnswer (bytes : List ℕ) : Type 0 where
  pub verdict : (v w : Verdict) → Says bytes v → Says bytes w → v ≡ w
  pub fault : (f g : CheckFault) → Lacks bytes f → Lacks bytes g → f ≡ g
  pub either : ((v : Verdict) × Says bytes v) ⊎ ((f : CheckFault) × Lacks bytes f)
  pub never_both : (v : Verdict) (f : CheckFault) → Says bytes v → ¬ Lacks bytes f

abbrev pub OneAnswer : Type 0
OneAnswer = (bytes : List ℕ) → HasOneAnswer bytes

-- a first fault remains the first one if more bytes follow, except for two faults that depend on where the bytes end: an incomplete
-- first line, and a missing end line
abbrev pub LongerFaults : Type 0
LongerFaults = (bytes more : List ℕ) (f : CheckFault) → (f ≡ Header → ¬ IsUnended bytes) → ¬ (f ≡ Truncated) → Lacks bytes f → Lacks (bytes ++ more) f

-- if each derivation has the fewest words and all numbers have room, the certificate is accepted and says these entries
abbrev pub CertificateIsSaid : Type 0
CertificateIsSaid =
    (ds : List Derived) → AllByRecursion HasFewest ds → AllByRecursion HasRoom ds → IsNumber (length ds)
    → Says (certificate ds) (verdict_of ds)

-- the entry's code is that of a derivation of its root, with the entry's words, and no derivation of the root has fewer
pub record IsLeastCode (T : Table) (j : Judged) : Type 0 where
  pub derivation : RootDerives T j.root
  pub code : AllZip SamePiece j.code (root_code derivation j.target j.first)
  pub words : root_cost derivation ≡ j.words
  pub fewest : (other : RootDerives T j.root) → j.words ≤ root_cost other

-- every entry of an accepted certificate is least code, by the table of the header
abbrev pub AcceptedIsLeast : Type 0
AcceptedIsLeast = (bytes : List ℕ) (v : Verdict) → Says bytes v → AllByRecursion (IsLeastCode v.table) v.entries

-- entries whose rules are derivations of their roots by table 2 are the entries of some derivations, and so have a certificate
abbrev pub HaveCertificate : Type 0
HaveCertificate = (es : List Entry) → AllByRecursion (λ (e : Entry). IsDerivation Two e.root e.derivation) es → (ds : List Derived) × (es ≡ map entry_of ds)
