-- Which steps of the machine are calls.
use Rattle.std.specs.Prelude.{ℕ, ◌≡◌, List, ◌∷◌}
use Rattle.bc_interpret_defs.specs.Machine.{Number, Work, Give, Rest, Calls}

-- the step calls this value with these arguments, in the frame at f
pub record IsCall (w : Work) (rs : List Rest) (value : ℕ) (arguments : List ℕ) (f : ℕ) : Type 0 where
  pub following : List Rest
  pub work : w ≡ Give (Number value)
  pub rests : rs ≡ Calls arguments f ∷ following
