-- The results of the reader's calls, given what it has read.
use Rattle.std.proofs.Common.{◌≡◌, ◌⊎◌, inl, inr, ℕ, List, [], ◌∷◌, ◌++◌, Vec, Option, Some, None, Result, Ok, Err, OnOk, OnErr, sym, ap, subst, ◌∙◌, ◌+◌, ◌<◌, ◌≤◌, length, take, drop, get_or, append-nil, take-append-drop}
use Rattle.std.proofs.lemmas.List.{take_more, take_all}
use Rattle.std.proofs.lemmas.Grind.{flat_map-append}
use Rattle.std.specs.Borrow.{Bor}
use Rattle.std.specs.declared.alloc.Global.{Global}
use Rattle.bc_text_items.specs.declared.item.Item.{Item}
use Rattle.bc_text.specs.Faults.{HasFault, IsFaultOf}
use Rattle.bc_text.specs.Steps.{Progress, start, run, on_ok, answer_of}
use Rattle.bc_text.specs.Reading.{HasRead, HasFailed, IsAnswer, IsAnswerAtEnd, Feeds, Finishes, IsWholeAnswer, IsOnly, IsRefused, bytes_of}
use Rattle.bc_text.specs.declared.text_error.TextError.{TextError}
use Rattle.bc_text.specs.declared.text_error.TextError.TheVariants as errors
use Rattle.bc_text.proofs.States.{run-append}
use Rattle.bc_text.proofs.Complete.{text_read}
use Rattle.bc_text.proofs.FaultsMet.{fault_met}
use Rattle.bc_text.proofs.Whole.{run_goes_on, run_has_fault, text_of_answer, fault_of_answer, answer_of_fault}

-- a run continues after what was read
run-read : (bytes piece : List ℕ) (p : Progress) → run bytes start ≡ Ok p → run (bytes ++ piece) start ≡ run piece p
run-read bytes piece p e = run-append bytes piece start ∙ ap (λ r. on_ok r (run piece)) e

pub feeds_answer : {X : Type 0} (old new : Option Progress) (piece bytes : List ℕ) (result : Result X TextError)
    → Feeds old piece result new → HasRead old bytes → IsAnswer (bytes ++ piece) result
feeds_answer None new piece bytes result f h = absurd h
feeds_answer (Some p) None piece bytes (Ok x) f h = absurd f
feeds_answer (Some p) (Some q) piece bytes (Ok x) f h = run_goes_on (bytes ++ piece) q (run-read bytes piece p h ∙ f)
feeds_answer (Some p) new piece bytes (Err fault) f h =
    elim f.0 [ inl e ↦ inl e | inr e ↦ inr (run_has_fault (bytes ++ piece) fault (run-read bytes piece p h ∙ e)) ]

pub feeds_read : {X : Type 0} (old new : Option Progress) (piece bytes : List ℕ) (result : Result X TextError)
    → Feeds old piece result new → HasRead old bytes → OnOk result (HasRead new (bytes ++ piece))
feeds_read None new piece bytes result f h = absurd h
feeds_read (Some p) None piece bytes (Ok x) f h = absurd f
feeds_read (Some p) (Some q) piece bytes (Ok x) f h = run-read bytes piece p h ∙ f
feeds_read (Some p) new piece bytes (Err fault) f h = tt

pub feeds_failed : {X : Type 0} (old new : Option Progress) (piece : List ℕ) (result : Result X TextError) → Feeds old piece result new → OnErr result (HasFailed new)
feeds_failed None new piece (Ok x) f = tt
feeds_failed None new piece (Err fault) f = f.1
feeds_failed (Some p) new piece (Ok x) f = tt
feeds_failed (Some p) new piece (Err fault) f = f.1

pub feeds_again : {X : Type 0} (old new : Option Progress) (piece : List ℕ) (result : Result X TextError) → Feeds old piece result new → HasFailed old → result ≡ Err errors.Failed
feeds_again None new piece result f h = f.0
feeds_again (Some p) new piece result f h = absurd cc

pub finishes_answer : (reader : Option Progress) (bytes : List ℕ) (result : Result (Vec (List Item) Global) TextError)
    → Finishes reader result → HasRead reader bytes → IsAnswerAtEnd bytes result
finishes_answer None bytes result f h = absurd h
finishes_answer (Some p) bytes (Ok v) f h = text_of_answer bytes v.items (ap answer_of h ∙ f)
finishes_answer (Some p) bytes (Err fault) f h = fault_of_answer bytes fault (ap answer_of h ∙ f)

pub finishes_again : (reader : Option Progress) (result : Result (Vec (List Item) Global) TextError) → Finishes reader result → HasFailed reader → result ≡ Err errors.Failed
finishes_again None result f h = f
finishes_again (Some p) result f h = absurd cc

-- ---- The whole text

-- a fault of bytes stays their fault whatever follows them
pub fault-append : (bytes more : List ℕ) (fault : TextError) → HasFault bytes fault → HasFault (bytes ++ more) fault
fault-append bytes more fault h =
    run_has_fault (bytes ++ more) fault (run-append bytes more start ∙ ap (λ r. on_ok r (run more)) (fault_met bytes fault h))

pub whole_only : (bytes : List ℕ) (result : Result (Vec (List Item) Global) TextError) → IsWholeAnswer bytes result → IsOnly bytes result
whole_only bytes (Ok v) is segments text =
    let same : Ok v.items ≡ Ok segments = sym (text_read bytes v.items is) ∙ text_read bytes segments text in cc
whole_only bytes (Err fault) (inl e) segments text = e
whole_only bytes (Err fault) (inr wrong) segments text =
    let never : Err fault ≡ Ok segments = sym (answer_of_fault bytes fault wrong) ∙ text_read bytes segments text in absurd cc

pub whole_refused : (bytes : List ℕ) (result : Result (Vec (List Item) Global) TextError) → IsWholeAnswer bytes result → IsRefused bytes result
whole_refused bytes (Ok v) is wrong f =
    let never : Ok v.items ≡ Err wrong = sym (text_read bytes v.items is) ∙ answer_of_fault bytes wrong f in absurd cc
whole_refused bytes (Err fault) (inl e) wrong f = inl e
whole_refused bytes (Err fault) (inr is) wrong f =
    let same : Err fault ≡ Err wrong = sym (answer_of_fault bytes fault is) ∙ answer_of_fault bytes wrong f in inr cc

pub nothing_read : (p : Progress) → p ≡ start → run [] start ≡ Ok p
unfolding run
nothing_read p e = ap (λ q. Ok q) (sym e)

-- ---- Pieces

-- the pieces are those before, this one, and the rest
pieces_parted : (pieces : List (Bor (List ℕ))) (i : ℕ) (d : Bor (List ℕ)) → i < length pieces
    → bytes_of pieces ≡ (bytes_of (take i pieces) ++ (get_or pieces i d).now) ++ bytes_of (drop (i + 1) pieces)
pieces_parted pieces i d h =
    let now : Bor (List ℕ) → List ℕ = λ piece. piece.now in
    ap bytes_of (sym (take-append-drop (i + 1) pieces))
    ∙ flat_map-append now (take (i + 1) pieces) (drop (i + 1) pieces)
    ∙ ap (λ t. t ++ bytes_of (drop (i + 1) pieces))
    (ap bytes_of (take_more pieces i d h)
    ∙ flat_map-append now (take i pieces) (get_or pieces i d ∷ [])
    ∙ ap (λ t. bytes_of (take i pieces) ++ t) (append-nil (get_or pieces i d).now))

-- an error of a piece is one of the whole
pub piece_refused : (pieces : List (Bor (List ℕ))) (i : ℕ) (d : Bor (List ℕ)) (fault : TextError) → i < length pieces
    → (fault ≡ errors.Memory) ⊎ HasFault (bytes_of (take i pieces) ++ (get_or pieces i d).now) fault
    → (fault ≡ errors.Memory) ⊎ IsFaultOf (bytes_of pieces) fault
piece_refused pieces i d fault h (inl e) = inl e
piece_refused pieces i d fault h (inr f) =
    inr (inl (subst (λ t. HasFault t fault) (sym (pieces_parted pieces i d h))
    (fault-append (bytes_of (take i pieces) ++ (get_or pieces i d).now) (bytes_of (drop (i + 1) pieces)) fault f)))

-- at the end the pieces read are all of them
pub all_read : (pieces : List (Bor (List ℕ))) (i : ℕ) (result : Result (Vec (List Item) Global) TextError) → length pieces ≤ i
    → IsAnswerAtEnd (bytes_of (take i pieces)) result → IsWholeAnswer (bytes_of pieces) result
all_read pieces i result h is = whole result (subst (λ ps. IsAnswerAtEnd (bytes_of ps) result) (take_all i pieces h) is)
  where
    whole : (r : Result (Vec (List Item) Global) TextError) → IsAnswerAtEnd (bytes_of pieces) r → IsWholeAnswer (bytes_of pieces) r
    whole (Ok v) is = is
    whole (Err fault) is = inr is
