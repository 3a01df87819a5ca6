-- For proofs: the checker's state as a state of `bc_cert_laws`.
use Rattle.std.specs.Prelude.{◌≡◌, ℕ, ◌+◌, ◌-◌, ◌^◌, min, true, List, [], ◌∷◌, ◌++◌, map, replicate, Result, Ok}
use Rattle.bc_core.specs.Tree.{Num, Value}
use Rattle.bc_cert_defs.specs.Verdict.{Judged, Verdict}
use Rattle.bc_rules_defs.specs.declared.rule.Table.{Table}
use Rattle.bc_rules.specs.Fits.{root_fits}
use Rattle.bc_cert_defs.specs.declared.check_fault.CheckFault.{CheckFault}
use Rattle.bc_cert_read.specs.Stacks.{◌>>=◌, Rooted}
use Rattle.bc_cert_defs.specs.View.{judged}
use Rattle.bc_cert_read.specs.TreeView.{stack, rooted}
use Rattle.bc_cert.specs.declared.checker.Checker.{Checker}
use Rattle.bc_cert.specs.declared.sums.Sums.{Sums}
use Rattle.bc_cert.specs.declared.stage.Stage as code
use Rattle.bc_cert.specs.declared.stage.Stage.TheVariants as stages
use Rattle.bc_cert_laws.specs.Judging.{Stage, the_header, between, nodes, code as code_stage, the_end, State, line_step}

abbrev pub stage : code.Stage → Stage
stage stages.Header = the_header
stage stages.Between = between
stage (stages.Nodes h) = nodes h
stage (stages.Code h r) = code_stage h (rooted r.value)
stage stages.End = the_end

-- the state, with only the entries that are kept
abbrev pub own : Checker → State
own c = record { lines = c.lines; table = c.table; entries = map judged c.entries.items; stage = stage c.stage; trees = stack c.trees; nodes = c.nodes }

-- the verdict over the entries that are kept; and the verdict of a state with the table of sums
abbrev pub verdict_so_far : Checker → Verdict
verdict_so_far c = record { table = c.table; entries = map judged c.entries.items }

abbrev pub table_alone : Sums → State → Verdict
table_alone sums st = record { table = sums.table; entries = st.entries }

-- the state with these entries before its own
abbrev pub following : List Judged → State → State
following js st = record st { entries = js ++ st.entries }

abbrev pub fed_after : List Judged → State × List ℕ → State × List ℕ
fed_after js s = (following js s.0, s.1)

-- placeholders for dropped entries, of which only the number matters
abbrev pub no_entry : Judged
no_entry = record { segment = 0; item = 0; root = Value 0 (Num 0); target = 0; first = 0; code = []; words = 0 }

abbrev pub gone : ℕ → List Judged
gone n = replicate n no_entry

abbrev pub state : Checker → State
state c = following (gone c.passed) (own c)

-- the sum of n and the entries' words, at most 2^64 - 1, added one after another
abbrev pub summed : ℕ → List Judged → ℕ
summed n [] = n
summed n (j ∷ js) = summed (min (n + j.words) (2 ^ 64 - 1)) js

abbrev pub fed : Checker → State × List ℕ
fed c = (state c, c.line.items)

-- a complete line, with no bytes after it
abbrev pub whole_line : List ℕ → State → Result (State × List ℕ) CheckFault
whole_line line st = line_step line st >>= (λ s. Ok (s, []))

-- the rules of a root are a derivation of it by some table
abbrev pub IsDerived : Rooted → Type 0
IsDerived r = (T : Table) × (root_fits T r.root r.derivation ≡ true)

-- the incomplete line, the trees and the counters haven't changed
pub record Kept (old new : Checker) : Type 0 where
  pub line : new.line.items ≡ old.line.items
  pub trees : stack new.trees ≡ stack old.trees
  pub lines : new.lines ≡ old.lines
  pub nodes : new.nodes ≡ old.nodes
  pub passed : new.passed ≡ old.passed
