-- Frames of calls.
use Rattle.std.proofs.Common.{◌≡◌, ◌+◌, ◌<◌, ◌≤◌, ℕ, true, false, inl, inr, List, Some, refl, sym, ap, ◌∙◌, arith}
use Rattle.std.specs.Prelude.{nat_le}
use Rattle.std.proofs.lemmas.Bool.{le-leb}
use Rattle.std.proofs.lemmas.Bool.Decides.{leb_tells}
use Rattle.bc_core.specs.Meaning.{OfLibrary, passed, with_arguments}
use Rattle.bc_core.specs.Outcome.{choose, in_turn, wild, followed, then_do, left}
use Rattle.bc_core.specs.Primitive.{Primitive, primitive_work}
use Rattle.bc_interpret_defs.specs.Machine as machine
use Rattle.bc_interpret_steps.specs.declared.state.State.{State}
use Rattle.bc_interpret_steps.specs.declared.calls.Fit.TheVariants as forms
use Rattle.bc_interpret_steps.specs.Came.{state_of, Turned, Framed}
use Rattle.bc_interpret_steps.specs.Arrived.{IsServed}

-- the test of a bound
above_false : (a b : ℕ) → b < a → nat_le a b ≡ false
above_false a b h = elim (leb_tells a b) [ inl e ↦ absurd (omega (arith, e.1)) | inr e ↦ e.0 ]

below_true : (a b : ℕ) → a ≤ b → nat_le a b ≡ true
below_true a b h = le-leb a b h

pub too_large : (f size : ℕ) (old new : State) → 65536 < f + size → Framed forms.TooLarge f size old new
too_large f size old new h = (h, λ r streams. ap (λ t. choose t (in_turn r) wild (state_of old streams)) (above_false (f + size) 65536 h))

pub no_turn : (f size : ℕ) (old new : State) → f + size ≤ 65536 → Turned false old new → Framed forms.NoTurn f size old new
no_turn f size old new h t r streams = ap (λ t. choose t (in_turn r) wild (state_of old streams)) (below_true (f + size) 65536 h) ∙ t.0 r streams

pub fits : (f size : ℕ) (old new : State) → f + size ≤ 65536 → Turned true old new → new.store ≡ old.store → Framed forms.Fits f size old new
fits f size old new h t e = (λ r streams. ap (λ t. choose t (in_turn r) wild (state_of old streams)) (below_true (f + size) 65536 h) ∙ t r streams, e, h)

-- a primitive that is called
pub served : (q : Primitive) (value f from : ℕ) (us : List ℕ) (rs : List machine.Rest) (old mid new : State) → Framed forms.Fits f 3 old mid → from ≡ f + 2 → new.store ≡ passed 1 from us mid.store → new.turns ≡ mid.turns → IsServed (machine.arrive (Some (OfLibrary q)) value us f rs) (Some (OfLibrary q)) us f q f old rs new
served q value f from us rs old mid new framed at e t =
    let put : new.store ≡ passed 1 (f + 2) us mid.store = e ∙ ap (λ a. passed 1 a us mid.store) at in
    record {
      comes = λ streams. framed.0 (then_do (with_arguments 1 (f + 2) us (primitive_work q f)) (λ v. machine.give (machine.Number v) rs)) streams
          ∙ (λ i. followed (left 1 (f + 2) (primitive_work q f (record { cells = sym put i; streams = streams; turns = sym t i }))) (λ v. machine.give (machine.Number v) rs));
      frame = refl;
      is_primitive = refl;
      has_argument = put ∙ ap (λ cells. passed 1 (f + 2) us cells) framed.1;
      fits = framed.2;
    }
