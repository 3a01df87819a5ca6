-- For proofs: what the lines above a tree need to know of it, computed as the program does it.
use Rattle.std.specs.Prelude.{ℕ, ◌+◌, ◌==◌, max, Bool, true, false, ◌||◌, cond, List, [], ◌∷◌}
use Rattle.bc_rules_defs.specs.declared.rule.Mode.TheVariants.{Any, Push}
use Rattle.bc_rules_defs.specs.declared.rule.Aim.{Aim}
use Rattle.bc_rules_defs.specs.declared.rule.Aim.TheVariants.{Gets, Jumps}
use Rattle.bc_cert_read.specs.declared.form.Form.{Form}
use Rattle.bc_cert_read.specs.declared.form.Form.TheVariants.{Bin, Call}
use Rattle.bc_cert_read.specs.declared.mark.TreeFacts.{TreeFacts}
use Rattle.bc_cert_read.specs.declared.mark.Shown.{Shown}

abbrev pub has_aim : Shown → Aim → Bool
has_aim s (Gets Any) = s.any
has_aim s (Gets Push) = s.push
has_aim s (Jumps false) = s.on_false
has_aim s (Jumps true) = s.on_true

abbrev pub is_some : Shown → Bool
is_some s = s.any || s.push || s.on_false || s.on_true

abbrev pub first_level : Form → ℕ × ℕ
first_level (Bin op) = (1, 0)
first_level (Call n) = (2, 1)
first_level _ = (0, 0)

-- the first part has this level, and each further one is higher by the step
abbrev pub levels_from : ℕ → ℕ → List TreeFacts → Bool
levels_from s step [] = true
levels_from s step (m ∷ ms) = cond (m.level == s) (levels_from (s + step) step ms) false

abbrev pub levels_fit : ℕ → Form → List TreeFacts → Bool
levels_fit s form ms = levels_from (s + (first_level form).0) (first_level form).1 ms

abbrev pub depth_from : ℕ → List TreeFacts → ℕ
depth_from d [] = d
depth_from d (m ∷ ms) = depth_from (max d m.depth) ms

abbrev pub depth_over : List TreeFacts → ℕ
depth_over ms = depth_from 0 ms + 1

abbrev pub all_bare : List TreeFacts → Bool
all_bare [] = true
all_bare (m ∷ ms) = cond m.is_bare (all_bare ms) false
