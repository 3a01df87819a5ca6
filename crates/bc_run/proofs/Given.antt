-- What a reader that says which bytes it holds has returned.
use Rattle.std.proofs.Common.{◌≡◌, ◌≤◌, ◌∙◌, ℕ, List, [], ◌++◌, length, take, drop, Option, Some, None, append_assoc, append-nil, ap, sym, inl, inr}
use Rattle.std.specs.Option.{IfSome}
use Rattle.std.specs.Io.KnownBytes.{Consumes, IsAtEnd}
use Rattle.std.proofs.lemmas.List.{take-append-drop, take-take}
use Rattle.bc_text.specs.Faults.{IsFaultOf}
use Rattle.bc_text.specs.declared.text_error.TextError.{TextError}
use Rattle.bc_run.specs.Runs.{BeginsWith, IsTextFault, text_limit}

-- its bytes begin with what was consumed
pub begins : (known left : Option (List ℕ)) (bytes : List ℕ) → Consumes known left bytes → IfSome known (BeginsWith bytes)
begins None left bytes h = tt
begins (Some xs) (Some ys) bytes h = (ys, h)
begins (Some xs) None bytes h = absurd h

-- and with what was consumed before and a part of what is consumed now
pub begins-part : (known between left : Option (List ℕ)) (bytes now : List ℕ) (kept count : ℕ) → kept ≤ count → Consumes known between bytes → Consumes between left (take count now) → IfSome known (BeginsWith (bytes ++ take kept now))
begins-part None between left bytes now kept count small h e = tt
begins-part (Some xs) None left bytes now kept count small h e = absurd h
begins-part (Some xs) (Some ys) None bytes now kept count small h e = absurd e
begins-part (Some xs) (Some ys) (Some zs) bytes now kept count small h e =
    let part : take count now ≡ take kept now ++ drop kept (take count now) = sym (take-append-drop kept (take count now)) ∙ ap (λ front. front ++ drop kept (take count now)) (take-take kept count now small) in
    (drop kept (take count now) ++ zs, h ∙ ap (λ more. bytes ++ more) (e ∙ ap (λ front. front ++ zs) part ∙ append_assoc (take kept now) (drop kept (take count now)) zs) ∙ sym (append_assoc bytes (take kept now) (drop kept (take count now) ++ zs)))

-- at the end all was consumed
pub all-given : (known between left : Option (List ℕ)) (bytes now : List ℕ) (count : ℕ) → count ≡ 0 → Consumes known between bytes
    → Consumes between left (take count now) → IsAtEnd left → IfSome known (λ xs. xs ≡ bytes)
all-given None between left bytes now count none h e end = tt
all-given (Some xs) None left bytes now count none h e end = absurd h
all-given (Some xs) (Some ys) None bytes now count none h e end = absurd e
all-given (Some xs) (Some ys) (Some zs) bytes now count none h e end =
    let empty : take count now ≡ [] = ap (λ n. take n now) none in
    h ∙ ap (λ more. bytes ++ more) (e ∙ ap (λ front. front ++ zs) empty ∙ end) ∙ append-nil bytes

all-begin : (known : Option (List ℕ)) (bytes : List ℕ) → IfSome known (λ xs. xs ≡ bytes) → IfSome known (BeginsWith bytes)
all-begin None bytes h = tt
all-begin (Some xs) bytes h = ([], h ∙ sym (append-nil bytes))

-- the fault of all of the bytes
pub wrong-in-all : (known : Option (List ℕ)) (bytes : List ℕ) (fault : TextError) → IfSome known (λ xs. xs ≡ bytes) → length bytes ≤ text_limit → IsFaultOf bytes fault → IsTextFault known fault
wrong-in-all known bytes fault all short (inl first) = inr (inl (bytes, all-begin known bytes all, first))
wrong-in-all known bytes fault all short (inr unended) = inr (inr (unended.0, (bytes, all, short, unended.1)))
