-- Bytes say one verdict or have one first fault, because the checker's function returns one result.
use Rattle.std.proofs.Common.{◌≡◌, ◌⊎◌, Result, Ok, Err, inl, inr, refl, sym, ◌∙◌}
use Rattle.bc_cert_defs.specs.declared.check_fault.CheckFault.{CheckFault}
use Rattle.bc_cert_defs.specs.Verdict.{Verdict}
use Rattle.bc_cert_laws.specs.Entries.{Says}
use Rattle.bc_cert_laws.specs.Faults.{Lacks}
use Rattle.bc_cert_laws.specs.Judging.{judged}
use Rattle.bc_cert_laws.specs.Laws.{JudgedIsSaid, OneAnswer}
use Rattle.bc_cert_laws.proofs.Whole.{judged_says, says_judged, judged_lacks, lacks_judged}

pub is_said : JudgedIsSaid
is_said bytes = record {
  accepted = λ v. (judged_says bytes v, says_judged bytes v);
  refused = λ f. (judged_lacks bytes f, lacks_judged bytes f);
}

ok_same : {v w : Verdict} → ◌≡◌ {A = Result Verdict CheckFault} (Ok v) (Ok w) → v ≡ w
ok_same h = cc

err_same : {f g : CheckFault} → ◌≡◌ {A = Result Verdict CheckFault} (Err f) (Err g) → f ≡ g
err_same h = cc

apart : {v : Verdict} {f : CheckFault} → ◌≡◌ {A = Result Verdict CheckFault} (Ok v) (Err f) → ⊥
apart h = cc

pub has_one_answer : OneAnswer
has_one_answer bytes = record {
  verdict = λ v w h i. ok_same (sym (says_judged bytes v h) ∙ says_judged bytes w i);
  fault = λ f g h i. err_same (sym (lacks_judged bytes f h) ∙ lacks_judged bytes g i);
  either = at (judged bytes) refl;
  never_both = λ v f h i. apart (sym (says_judged bytes v h) ∙ lacks_judged bytes f i);
} where
  at : (r : Result Verdict CheckFault) → judged bytes ≡ r → ((v : Verdict) × Says bytes v) ⊎ ((f : CheckFault) × Lacks bytes f)
  at (Ok v) e = inl (v, judged_says bytes v e)
  at (Err f) e = inr (f, judged_lacks bytes f e)
