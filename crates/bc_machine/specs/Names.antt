-- The names of the streams that are passed in.
use Rattle.std.specs.Prelude.{ℕ, List, map}
use Rattle.std.specs.declared.vec.Vec.{Vec}
use Rattle.std.specs.declared.alloc.Global.{Global}
use Rattle.bc_machine.specs.declared.names.Named.{Named}

abbrev pub Bytes : Type 0
Bytes = Vec ℕ Global

-- the names of these devices
abbrev pub given_names : {T : Type 0} → List (Named T) → List (List ℕ)
given_names {T} named = map (λ (n : Named T). n.name.items) named

-- the bytes of these names
abbrev pub bytes_of : List Bytes → List (List ℕ)
bytes_of names = map (λ (name : Bytes). name.items) names

-- each name with the bytes of its input
abbrev pub named_bytes : List (Named Bytes) → List (List ℕ × List ℕ)
named_bytes named = map (λ (n : Named Bytes). (n.name.items, n.device.items)) named
