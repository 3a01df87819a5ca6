-- The parts of a derivation of least words have least words, since the whole would have fewer with a shorter part.
use Rattle.std.proofs.Common.{ℕ, ◌+◌, ◌≤◌, arith}
use Rattle.bc_core.specs.Tree.{Exp, Args}
use Rattle.bc_rules_defs.specs.declared.rule.Table.{Table}
use Rattle.bc_rules_defs.specs.declared.rule.Aim.{Aim}
use Rattle.bc_rules_defs.specs.Rules.{Derives, DerivesAll}
use Rattle.bc_rules_defs.specs.Code.{cost, all_cost}
use Rattle.bc_cert_laws.specs.Standing.{IsFewest}

abbrev pub AreFewest : {T : Table} {es : Args} → DerivesAll T es → ℕ → Type 0
AreFewest {T = T} {es = es} ds s = (other : DerivesAll T es) → all_cost ds s ≤ all_cost other s

-- k and m are the words of the rule and of the other parts
pub by_one : {T : Table} {e : Exp} {aim : Aim} (d : Derives T e aim) (s k : ℕ) → ((other : Derives T e aim) → cost d s + k ≤ cost other s + k) → IsFewest d s
by_one d s k f = λ other. let h = f other in omega arith

pub by_first : {T : Table} {e : Exp} {aim : Aim} (d : Derives T e aim) (s m k : ℕ) → ((other : Derives T e aim) → cost d s + m + k ≤ cost other s + m + k) → IsFewest d s
by_first d s m k f = λ other. let h = f other in omega arith

pub by_second : {T : Table} {e : Exp} {aim : Aim} (d : Derives T e aim) (s m k : ℕ) → ((other : Derives T e aim) → m + cost d s + k ≤ m + cost other s + k) → IsFewest d s
by_second d s m k f = λ other. let h = f other in omega arith

pub by_last : {T : Table} {e : Exp} {aim : Aim} (d : Derives T e aim) (s m : ℕ) → ((other : Derives T e aim) → m + cost d s ≤ m + cost other s) → IsFewest d s
by_last d s m f = λ other. let h = f other in omega arith

pub by_first_of_three : {T : Table} {e : Exp} {aim : Aim} (d : Derives T e aim) (s m n k : ℕ) → ((other : Derives T e aim) → cost d s + m + n + k ≤ cost other s + m + n + k) → IsFewest d s
by_first_of_three d s m n k f = λ other. let h = f other in omega arith

pub by_second_of_three : {T : Table} {e : Exp} {aim : Aim} (d : Derives T e aim) (s m n k : ℕ) → ((other : Derives T e aim) → m + cost d s + n + k ≤ m + cost other s + n + k) → IsFewest d s
by_second_of_three d s m n k f = λ other. let h = f other in omega arith

-- the arguments of a call, and those after the first one
pub all_by_first : {T : Table} {es : Args} (ds : DerivesAll T es) (s m k : ℕ) → ((other : DerivesAll T es) → all_cost ds s + m + k ≤ all_cost other s + m + k) → AreFewest ds s
all_by_first ds s m k f = λ other. let h = f other in omega arith

pub all_by_last : {T : Table} {es : Args} (ds : DerivesAll T es) (s m : ℕ) → ((other : DerivesAll T es) → m + all_cost ds s ≤ m + all_cost other s) → AreFewest ds s
all_by_last ds s m f = λ other. let h = f other in omega arith
