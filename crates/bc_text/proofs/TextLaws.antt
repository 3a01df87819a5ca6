-- The laws of texts and their faults, proved from the result of reading them.
use Rattle.std.proofs.Common.{◌≡◌, ◌⊎◌, inl, inr, ℕ, List, Result, Ok, Err, refl, sym, ◌∙◌}
use Rattle.bc_text_items.specs.declared.item.Item.{Item}
use Rattle.bc_text.specs.Texts.{GoesOn}
use Rattle.bc_text.specs.Faults.{HasFault}
use Rattle.bc_text.specs.Laws.{IsOneText, HasOneFault, IsTextOrFault, IsFirst}
use Rattle.bc_text.specs.Steps.{Progress, start, run, answer}
use Rattle.bc_text.specs.declared.text_error.TextError.{TextError}
use Rattle.bc_text.proofs.Complete.{text_read}
use Rattle.bc_text.proofs.FaultsMet.{fault_met}
use Rattle.bc_text.proofs.Whole.{text_of_answer, fault_of_answer, answer_of_fault, run_goes_on, run_has_fault, goes_on_runs}
use Rattle.bc_text.proofs.Feeding.{fault-append}

pub one_text : (bytes : List ℕ) → IsOneText bytes
one_text bytes segments is = (
  λ others also. let same : Ok others ≡ Ok segments = sym (text_read bytes others also) ∙ text_read bytes segments is in cc,
  λ fault wrong. let same : Err fault ≡ Ok segments = sym (answer_of_fault bytes fault wrong) ∙ text_read bytes segments is in cc,
)

pub one_fault : (bytes : List ℕ) → HasOneFault bytes
one_fault bytes one other a b = let same : Err one ≡ Err other = sym (answer_of_fault bytes one a) ∙ answer_of_fault bytes other b in cc

pub text_or_fault : (bytes : List ℕ) → IsTextOrFault bytes
text_or_fault bytes = go (answer bytes start) refl
  where
    go : (r : Result (List (List Item)) TextError) → answer bytes start ≡ r → IsTextOrFault bytes
    go (Ok segments) e = inl (segments, text_of_answer bytes segments e)
    go (Err fault) e = inr (fault, fault_of_answer bytes fault e)

pub fault_is_first : (bytes : List ℕ) → IsFirst bytes
fault_is_first bytes = record {
  stays = λ fault more has. fault-append bytes more fault has;
  known = go (run bytes start) refl;
  apart = λ fault has goes. let p = goes_on_runs bytes goes in let same : Err fault ≡ Ok p.0 = sym (fault_met bytes fault has) ∙ p.1 in cc;
}
  where
    go : (r : Result Progress TextError) → run bytes start ≡ r → GoesOn bytes ⊎ ((fault : TextError) × HasFault bytes fault)
    go (Ok p) e = inl (run_goes_on bytes p e)
    go (Err fault) e = inr (fault, run_has_fault bytes fault e)
