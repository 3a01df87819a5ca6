-- What a run from the beginning says of its bytes, in both directions.
use Rattle.std.proofs.Common.{◌≡◌, inl, inr, ℕ, List, [], ◌∷◌, ◌++◌, Result, Ok, Err, Bool, refl, sym, ap, subst, ◌∙◌, append_assoc, append-nil}
use Rattle.bc_text_items.specs.declared.item.Item.{Item}
use Rattle.bc_text.specs.Texts.{Begins, IsText, GoesOn, elements_of, nothing, comment}
use Rattle.bc_text.specs.Faults.{HasFault, IsUnended, IsFaultOf}
use Rattle.bc_text.specs.Steps.{Progress, start, step, run, on_ok, finished, finished_at, answer, answer_of}
use Rattle.bc_text.specs.declared.head.Head.{Head}
use Rattle.bc_text.specs.declared.head.Head.TheVariants as heads
use Rattle.bc_text.specs.declared.head.Position.{Position}
use Rattle.bc_text.specs.declared.head.Position.TheVariants as places
use Rattle.bc_text.specs.declared.text_error.TextError.{TextError}
use Rattle.bc_text.specs.declared.text_error.TextError.TheVariants as errors
use Rattle.bc_text.proofs.States.{run-append}
use Rattle.bc_text.proofs.Complete.{text_read}
use Rattle.bc_text.proofs.FaultsMet.{fault_met, only_unended}
use Rattle.bc_text.proofs.Sound.{Stands, LeadsOn, step_leads, begins-trans}

-- ---- From the run to the relations

-- the state to which a run led, or the fault that it met
abbrev pub RunTells : List ℕ → Result Progress TextError → Type 0
RunTells bytes (Ok p) = Stands bytes p
RunTells bytes (Err fault) = HasFault bytes fault

start_stands : Stands [] start
start_stands = record {
  before = [];
  held = [];
  whole = refl;
  count = refl;
  begins = λ after. nothing;
  is_open = refl;
}

run_tells_from : (done bytes : List ℕ) (p : Progress) → Stands done p → RunTells (done ++ bytes) (run bytes p)
unfolding run
run_tells_from done [] p s = rw (append-nil done) s
run_tells_from done (byte ∷ bytes) p s = go (step p byte) (step_leads done byte p s) (λ q. run_tells_from (done ++ byte ∷ []) bytes q)
  where
    go : (r : Result Progress TextError) → LeadsOn done byte r → ((q : Progress) → Stands (done ++ byte ∷ []) q → RunTells ((done ++ byte ∷ []) ++ bytes) (run bytes q))
        → RunTells (done ++ byte ∷ bytes) (on_ok r (run bytes))
    go (Ok q) leads next = subst (λ t. RunTells t (run bytes q)) (append_assoc done (byte ∷ []) bytes) (next q leads)
    go (Err fault) leads next = leads bytes

pub run_tells : (bytes : List ℕ) → RunTells bytes (run bytes start)
run_tells bytes = run_tells_from [] bytes start start_stands

-- at the end, no part is incomplete and no item follows the last segment
finished_tells : (bytes : List ℕ) (place : Position) (i : List Item) (s segments : List (List Item)) (at : ℕ)
    → Stands bytes (record { segments = s; items = i; place = place; at = at }) → finished_at place i s ≡ Ok segments → IsText bytes segments
finished_tells bytes places.Between [] s segments at stands e =
    let same : s ≡ segments = cc in
    let whole : bytes ≡ stands.before = stands.whole ∙ ap (λ t. stands.before ++ t) stands.is_open ∙ append-nil stands.before in
    let h = subst (λ t. Begins (stands.before ++ (t ++ [])) (elements_of s ++ []) (t ++ [])) stands.is_open (stands.begins []) in
    subst (λ t. Begins bytes (elements_of t) []) same
    (subst (λ t. Begins t (elements_of s) []) (append-nil stands.before ∙ sym whole) (subst (λ t. Begins (stands.before ++ []) t []) (append-nil (elements_of s)) h))
finished_tells bytes places.Comment [] s segments at stands e =
    let same : s ≡ segments = cc in
    let line = stands.is_open.0 in
    let held : stands.held ++ [] ≡ 47 ∷ (line ++ []) = ap (λ t. t ++ []) stands.is_open.1 in
    let whole : stands.before ++ (stands.held ++ []) ≡ bytes = ap (λ t. stands.before ++ t) (append-nil stands.held) ∙ sym stands.whole in
    let h = begins-trans (stands.begins []) (subst (λ t. Begins t [] []) (sym held) (comment line stands.is_open.2 tt nothing)) in
    subst (λ t. Begins bytes (elements_of t) []) same
    (subst (λ t. Begins t (elements_of s) []) whole
    (subst (λ t. Begins (stands.before ++ (stands.held ++ [])) t []) (append-nil (elements_of s ++ []) ∙ append-nil (elements_of s)) h))
finished_tells bytes places.Between (x ∷ i) s segments at stands e = absurd cc
finished_tells bytes places.Comment (x ∷ i) s segments at stands e = absurd cc
finished_tells bytes (places.Head head) i s segments at stands e = absurd cc
finished_tells bytes (places.Minus head from) i s segments at stands e = absurd cc
finished_tells bytes (places.Digits head from negative value) i s segments at stands e = absurd cc

-- ---- From every place the end of a segment can be reached

-- bytes after which a reader can end
abbrev Ends : Progress → Type 0
Ends p = (more : List ℕ) × (segments : List (List Item)) × (answer more p ≡ Ok segments)

head_ends : (s : List (List Item)) (i : List Item) (at : ℕ) (head : Head) → Ends (record { segments = s; items = i; place = places.Head head; at = at })
unfolding run step
head_ends s i at heads.Label = (48 ∷ 90 ∷ [], _, refl)
head_ends s i at heads.Data = (48 ∷ 90 ∷ [], _, refl)
head_ends s i at heads.DataLabel = (48 ∷ 90 ∷ [], _, refl)
head_ends s i at heads.Byte = (48 ∷ 90 ∷ [], _, refl)
head_ends s i at (heads.Operation function indirect base) = (48 ∷ 90 ∷ [], _, refl)
head_ends s i at heads.Global = (48 ∷ 76 ∷ 48 ∷ 90 ∷ [], _, refl)
head_ends s i at (heads.GlobalLabel g) = (48 ∷ 90 ∷ [], _, refl)

minus_ends : (s : List (List Item)) (i : List Item) (at : ℕ) (head : Head) (from : ℕ) → Ends (record { segments = s; items = i; place = places.Minus head from; at = at })
unfolding run step
minus_ends s i at heads.Label from = (48 ∷ 90 ∷ [], _, refl)
minus_ends s i at heads.Data from = (48 ∷ 90 ∷ [], _, refl)
minus_ends s i at heads.DataLabel from = (48 ∷ 90 ∷ [], _, refl)
minus_ends s i at heads.Byte from = (48 ∷ 90 ∷ [], _, refl)
minus_ends s i at (heads.Operation function indirect base) from = (48 ∷ 90 ∷ [], _, refl)
minus_ends s i at heads.Global from = (48 ∷ 76 ∷ 48 ∷ 90 ∷ [], _, refl)
minus_ends s i at (heads.GlobalLabel g) from = (48 ∷ 90 ∷ [], _, refl)

digits_end : (s : List (List Item)) (i : List Item) (at : ℕ) (head : Head) (from : ℕ) (negative : Bool) (value : ℕ)
    → Ends (record { segments = s; items = i; place = places.Digits head from negative value; at = at })
unfolding run step
digits_end s i at heads.Label from negative value = (90 ∷ [], _, refl)
digits_end s i at heads.Data from negative value = (90 ∷ [], _, refl)
digits_end s i at heads.DataLabel from negative value = (90 ∷ [], _, refl)
digits_end s i at heads.Byte from negative value = (90 ∷ [], _, refl)
digits_end s i at (heads.Operation function indirect base) from negative value = (90 ∷ [], _, refl)
digits_end s i at heads.Global from negative value = (76 ∷ 48 ∷ 90 ∷ [], _, refl)
digits_end s i at (heads.GlobalLabel g) from negative value = (90 ∷ [], _, refl)

place_ends : (s : List (List Item)) (i : List Item) (at : ℕ) (place : Position) → Ends (record { segments = s; items = i; place = place; at = at })
unfolding run step
place_ends s i at places.Between = (90 ∷ [], _, refl)
place_ends s i at places.Comment = (10 ∷ 90 ∷ [], _, refl)
place_ends s i at (places.Head head) = head_ends s i at head
place_ends s i at (places.Minus head from) = minus_ends s i at head from
place_ends s i at (places.Digits head from negative value) = digits_end s i at head from negative value

-- ---- Answers

-- the result of bytes that follow others
answer-append : (xs ys : List ℕ) (p : Progress) → run xs start ≡ Ok p → answer (xs ++ ys) start ≡ answer ys p
answer-append xs ys p e = ap answer_of (run-append xs ys start ∙ ap (λ r. on_ok r (run ys)) e)

-- what is read is a text of its segments
pub text_of_answer : (bytes : List ℕ) (segments : List (List Item)) → answer bytes start ≡ Ok segments → IsText bytes segments
text_of_answer bytes segments e = go (run bytes start) (run_tells bytes) e
  where
    go : (r : Result Progress TextError) → RunTells bytes r → answer_of r ≡ Ok segments → IsText bytes segments
    go (Ok p) stands e = finished_tells bytes p.place p.items p.segments segments p.at stands e
    go (Err fault) has e = absurd cc

-- where no fault was met, the bytes can be continued to a text
pub run_goes_on : (bytes : List ℕ) (p : Progress) → run bytes start ≡ Ok p → GoesOn bytes
run_goes_on bytes p e =
    let (more, segments, h) = place_ends p.segments p.items p.at p.place in
    (more, segments, text_of_answer (bytes ++ more) segments (answer-append bytes more p e ∙ h))

-- a fault that was met is a fault of the bytes
pub run_has_fault : (bytes : List ℕ) (fault : TextError) → run bytes start ≡ Err fault → HasFault bytes fault
run_has_fault bytes fault e = subst (RunTells bytes) e (run_tells bytes)

-- bytes without a fault that aren't a text are unended
pub run_unended : (bytes : List ℕ) (p : Progress) (fault : TextError) → run bytes start ≡ Ok p → finished p ≡ Err fault → (fault ≡ errors.Unended) × IsUnended bytes
run_unended bytes p fault e f =
    (only_unended p.place p.items p.segments fault f, (λ segments is. let both : Err fault ≡ Ok segments = sym f ∙ ap answer_of (sym e) ∙ text_read bytes segments is in cc, run_goes_on bytes p e))

-- what can be continued to a text has no fault
pub goes_on_runs : (bytes : List ℕ) → GoesOn bytes → (p : Progress) × (run bytes start ≡ Ok p)
goes_on_runs bytes (more, segments, is) = go (run bytes start) refl
  where
    go : (r : Result Progress TextError) → run bytes start ≡ r → (p : Progress) × (r ≡ Ok p)
    go (Ok p) e = (p, refl)
    go (Err fault) e =
        let h : Err fault ≡ Ok segments = sym (ap answer_of (run-append bytes more start ∙ ap (λ r. on_ok r (run more)) e)) ∙ text_read (bytes ++ more) segments is in
        absurd cc

-- the result is an error exactly if it is the fault of the bytes
pub fault_of_answer : (bytes : List ℕ) (fault : TextError) → answer bytes start ≡ Err fault → IsFaultOf bytes fault
fault_of_answer bytes fault e = go (run bytes start) refl e
  where
    go : (r : Result Progress TextError) → run bytes start ≡ r → answer_of r ≡ Err fault → IsFaultOf bytes fault
    go (Ok p) is e = inr (run_unended bytes p fault is e)
    go (Err found) is e = inl (run_has_fault bytes fault (is ∙ (let same : found ≡ fault = cc in ap (λ f. Err f) same)))

pub answer_of_fault : (bytes : List ℕ) (fault : TextError) → IsFaultOf bytes fault → answer bytes start ≡ Err fault
answer_of_fault bytes fault (inl has) = ap answer_of (fault_met bytes fault has)
answer_of_fault bytes fault (inr (is, unended)) = go (answer bytes start) refl
  where
    found : (p : Progress) × (run bytes start ≡ Ok p)
    found = goes_on_runs bytes unended.1

    go : (r : Result (List (List Item)) TextError) → answer bytes start ≡ r → answer bytes start ≡ Err fault
    go (Ok segments) e = absurd (unended.0 segments (text_of_answer bytes segments e))
    go (Err other) e = e ∙ ap (λ f. Err f) (only_unended found.0.place found.0.items found.0.segments other (sym (ap answer_of found.1) ∙ e) ∙ sym is)
