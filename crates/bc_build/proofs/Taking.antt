-- The certificate of a build is accepted.
use Rattle.std.proofs.Common.{◌≡◌, ◌∙◌, ◌⊎◌, inl, inr, ℕ, List, length, drop, Some, Result, Ok, Err, refl, sym, ap, subst}
use Rattle.std.proofs.Math.Seq.{drop-append_seam}
use Rattle.bc_text_items.specs.declared.item.Item.{Item}
use Rattle.bc_rules_defs.specs.Entry.{Entry}
use Rattle.bc_cert_defs.specs.declared.check_fault.CheckFault.{CheckFault}
use Rattle.bc_cert_defs.specs.declared.check_fault.CheckFault.TheVariants as faults
use Rattle.bc_cert_defs.specs.declared.mismatch.Mismatch.{Mismatch}
use Rattle.bc_cert_defs.specs.Verdict.{Judged, Verdict}
use Rattle.bc_cert_defs.specs.View.{verdict}
use Rattle.bc_cert_defs.specs.Against.{Fit, Misfit, order, outside, differs, later}
use Rattle.bc_cert_write.specs.Certificate.{certificate}
use Rattle.bc_cert.specs.Answer.{IsFault}
use Rattle.bc_cert_laws.specs.Entries.{Says}
use Rattle.bc_cert_laws.specs.Laws.{HasOneAnswer, OneAnswer}
use Rattle.bc_build.specs.Certified.{IsCertified}
use Rattle.bc_build.specs.Taken.{IsWritten, expected, IsCompared, CertificateIsTaken}

no_misfit : {segments : List (List Item)} {s i n : ℕ} {es : List Judged} {m : Mismatch} → Fit segments s i es → Misfit segments s i n es m → ⊥
no_misfit fit (order wrong) = wrong fit.0
no_misfit fit (outside b wrong) = wrong fit.1
no_misfit fit (differs b l wrong) = wrong fit.2
no_misfit fit (later b l s rest) = no_misfit fit.3 rest

compared : (segments : List (List Item)) (v : Verdict) (answer : Result (Unit {0}) Mismatch) → Fit segments 0 0 v.entries → IsCompared segments v answer → answer ≡ Ok tt
compared segments v (Ok tt) fit h = refl
compared segments v (Err m) fit h = absurd (no_misfit fit h)

-- bytes that are a certificate have no fault
no_fault : (bytes : List ℕ) (v : Verdict) (f : CheckFault) → HasOneAnswer bytes → Says bytes v → IsFault (Some bytes) f → (f ≡ faults.Read) ⊎ (f ≡ faults.Memory)
no_fault bytes v faults.Read one said h = inl refl
no_fault bytes v faults.Memory one said h = inr refl
no_fault bytes v faults.Header one said h = absurd (one.never_both v faults.Header said h.1)
no_fault bytes v (faults.Line n) one said h = absurd (one.never_both v (faults.Line n) said h.1)
no_fault bytes v faults.Truncated one said h = absurd (one.never_both v faults.Truncated said h.1)
no_fault bytes v (faults.WrongCost e n) one said h = absurd (one.never_both v (faults.WrongCost e n) said h.1)
no_fault bytes v (faults.WrongRule e n) one said h = absurd (one.never_both v (faults.WrongRule e n) said h.1)
no_fault bytes v (faults.WrongCode e) one said h = absurd (one.never_both v (faults.WrongCode e) said h.1)
no_fault bytes v (faults.WrongWords e) one said h = absurd (one.never_both v (faults.WrongWords e) said h.1)
no_fault bytes v (faults.TooDeep n) one said h = absurd (one.never_both v (faults.TooDeep n) said h.1)

-- the written bytes have the expected verdict
written_says : (entries : List Entry) (old bytes : List ℕ) → IsCertified entries → IsWritten entries old bytes → Says bytes (expected entries)
written_says entries old bytes c written =
    let all = written c.derived c.named in
    let same : bytes ≡ certificate c.derived = sym (drop-append_seam old bytes) ∙ ap (λ (l : List ℕ). drop (length old) l) all ∙ drop-append_seam old (certificate c.derived) in
    subst (λ b. Says b (expected entries)) (sym same) c.said

pub certificate_is_taken : OneAnswer → CertificateIsTaken
certificate_is_taken one segments entries old bytes (Ok v) least certified written answer =
    let is = subst (λ b. Says b (verdict v)) (sym answer.1) answer.2 in
    let same = (one bytes).verdict (verdict v) (expected entries) is (written_says entries old bytes certified written) in
    let fit = subst (λ (w : Verdict). Fit segments 0 0 w.entries) (sym same) least.fit in
    (same, λ a h. compared segments (verdict v) a fit h)
certificate_is_taken one segments entries old bytes (Err f) least certified written answer =
    no_fault bytes (expected entries) f (one bytes) (written_says entries old bytes certified written) answer
