-- How the machine gets from one state to another while the source takes turns.
use Rattle.std.specs.Prelude.{ℕ, ◌≡◌, ◌+◌, ◌≤◌, ◌<◌, List, slice_index}
use Rattle.bc_machine_defs.specs.declared.state.End.{End}
use Rattle.bc_machine_defs.specs.Streams.{Content, HoldBytes}
use Rattle.bc_machine_defs.specs.State.{State, state}
use Rattle.bc_machine_defs.specs.Run.{runs}

-- the registers A, B, C and P, the store and the streams
abbrev pub machine : (a b c p : ℕ) → List ℕ → Content → State
machine a b c p store streams = state (record { a = a; b = b; c = c; p = p }) store streams

-- A run of k instructions from y ends like a run of j instructions from x, where j exceeds k by at least the number of turns taken, by
-- which the remaining turns fell from t to t1.
pub record Ahead (x : State) (t : ℕ) (y : State) (t1 : ℕ) : Type 0 where
  pub by : (k : ℕ) → (j : ℕ) × (k + t ≤ j + t1) × (runs j x ≡ runs k y)

-- after j instructions the machine has ended so, or is still running, with these streams
pub record StopsAt (x : State) (j : ℕ) (end : End) (streams : Content) : Type 0 where
  pub end_is : (runs j x).1 ≡ end
  pub streams_are : (runs j x).0.streams ≡ streams

-- registers and store hold words, and inputs bytes
pub record AreWords (x : State) : Type 0 where
  pub a : x.registers.a < 65536
  pub b : x.registers.b < 65536
  pub c : x.registers.c < 65536
  pub p : x.registers.p < 65536
  pub store : (i : ℕ) → slice_index x.store i < 65536
  pub inputs : HoldBytes x.streams.inputs
