-- For proofs: the walk's data in the code as those of the definitions.
use Rattle.std.specs.Prelude.{nat_le, ◌&&◌, Bool, List, [], ◌∷◌, map, ℕ}
use Rattle.std.specs.Borrow.{Bor}
use Rattle.bc_scope_faults.specs.declared.judging.Allowed as code_allowed
use Rattle.bc_scope_faults.specs.declared.judging.Met as code_met
use Rattle.bc_scope_defs.specs.Found.{Thing, AValof, ARoutine, Data}
use Rattle.bc_scope_defs.specs.FramesAlong.{frame_of}
use Rattle.bc_scope_defs.specs.Faults.{Allowed, Met}

-- what may be done, as the definitions have it
abbrev pub allowed_view : code_allowed.Allowed → Allowed
allowed_view a = record { in_loop = a.in_loop; in_cases = a.in_cases; in_valof = a.in_valof; may_return = a.may_return }

-- names of the code, as lists of bytes
abbrev pub names_view : List (Bor (List ℕ)) → List (List ℕ)
names_view ns = map (λ n. n.now) ns

-- the labels of a list up to some point, as the definitions have them
abbrev pub met_view : code_met.Met → Met
met_view m = record { names = names_view m.names.keys; values = m.values.keys; default = m.default }

-- whether each frame of these routines has at most 32,768 cells, and b
abbrev pub frames_fit : Bool → List Thing → Bool
frames_fit b [] = b
frames_fit b (AValof f ∷ things) = frames_fit b things
frames_fit b (ARoutine r ∷ things) = frames_fit (b && nat_le (frame_of r) 32768) things
frames_fit b (Data q d ∷ things) = frames_fit b things
