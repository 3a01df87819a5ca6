-- `Yields r P`: P holds of what a reading gives, if it gives anything. There is a lemma for each way to combine
-- readings, so a proof follows the text of the reader.
use Rattle.std.proofs.Common.{◌≡◌, ℕ, zero, suc, Bool, true, false, cond, Option, Some, None, Result, Ok, Err, refl, subst}
use Rattle.bc_parse_defs.specs.Reading.{Fault, ◌>>=◌, Piece, turns, on}

abbrev pub Yields : {X : Type 0} → Result X Fault → (X → Type 0) → Type 0
Yields (Ok x) P = P x
Yields (Err e) P = Unit {0}

pub then : {X Y : Type 0} (r : Result X Fault) (f : X → Result Y Fault) (P : X → Type 0) (Q : Y → Type 0) → Yields r P → ((x : X) → P x → Yields (f x) Q) → Yields (r >>= f) Q
then (Ok x) f P Q p next = next x p
then (Err e) f P Q p next = tt

pub guard : {X : Type 0} (b : Bool) (r : Result X Fault) (e : Fault) (Q : X → Type 0) → (b ≡ true → Yields r Q) → Yields (cond b r (Err e)) Q
guard true r e Q p = p refl
guard false r e Q p = tt

pub branch : {X : Type 0} (b : Bool) (r t : Result X Fault) (Q : X → Type 0) → (b ≡ true → Yields r Q) → (b ≡ false → Yields t Q) → Yields (cond b r t) Q
branch true r t Q p q = p refl
branch false r t Q p q = q refl

pub choice : {A X : Type 0} (o : Option A) (r : Result X Fault) (f : A → Result X Fault) (Q : X → Type 0) → (o ≡ None → Yields r Q) → ((x : A) → o ≡ Some x → Yields (f x) Q) → Yields (on o r f) Q
choice None r f Q p q = p refl
choice (Some x) r f Q p q = q x refl

pub from_yields : {X : Type 0} (r : Result X Fault) (x : X) (Q : X → Type 0) → Yields r Q → r ≡ Ok x → Q x
from_yields (Ok y) x Q p e = let same : y ≡ x = cc in subst Q same p
from_yields (Err d) x Q p e = absurd cc

-- an invariant of a loop
module _ {X : Type 0} (step : Piece X → Result (Piece X × Bool) Fault) (I Q : Piece X → Type 0) (each : (s : Piece X) → I s → Yields (step s) (λ t. cond t.1 (Q t.0) (I t.0))) where
  ended : (k : ℕ) → ((t : Piece X) → I t → Yields (turns step k t) Q) → (last : Bool) (t : Piece X) → cond last (Q t) (I t) → Yields (cond last (Ok t) (turns step k t)) Q
  ended k again true t h = h
  ended k again false t h = again t h

  pub looped : (k : ℕ) (s : Piece X) → I s → Yields (turns step k s) Q
  unfolding turns
  looped zero s i = tt
  looped (suc k) s i = then (step s) (λ t. cond t.1 (Ok t.0) (turns step k t.0)) (λ t. cond t.1 (Q t.0) (I t.0)) Q (each s i) (λ t h. ended k (looped k) t.1 t.0 h)
