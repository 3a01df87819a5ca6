-- A first fault remains the first one if more bytes follow.
use Rattle.std.proofs.Common.{◌≡◌, ℕ, List, ◌∷◌, ◌++◌, refl, subst, append_assoc}
use Rattle.bc_cert_defs.specs.declared.check_fault.CheckFault.{CheckFault}
use Rattle.bc_cert_defs.specs.declared.check_fault.CheckFault.TheVariants.{Header, Truncated}
use Rattle.bc_cert_laws.specs.Faults.{IsUnended, Lacks, at_line, in_header, in_lines}
use Rattle.bc_cert_laws.specs.Laws.{LongerFaults}

goes_on : (bytes more : List ℕ) (f : CheckFault) → Lacks bytes f → (f ≡ Header → ¬ IsUnended bytes) → ¬ (f ≡ Truncated) → Lacks (bytes ++ more) f
goes_on _ more _ (at_line {text = text} {f = f} l rest r u fault) a b =
    let joined : text ++ (l ++ 10 ∷ (rest ++ more)) ≡ (text ++ (l ++ 10 ∷ rest)) ++ more = simp append_assoc in
    subst (λ x. Lacks x f) joined (at_line l (rest ++ more) r u fault)
goes_on _ more _ (in_header u) a b = absurd (a refl u)
goes_on _ more _ (in_lines r s u e) a b = absurd (b refl)

pub longer_faults : LongerFaults
longer_faults bytes more f a b h = goes_on bytes more f h a b
