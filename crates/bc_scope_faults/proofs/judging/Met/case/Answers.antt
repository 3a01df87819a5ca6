use Rattle.std.proofs.Common.{◌∙◌, ℕ, List, sym, ap, not, [], ◌∷◌, ◌++◌}
use Rattle.bc_scope_defs.specs.Faults.{Met, or_else, unless, has_value, ACaseTwice}
use Rattle.bc_scope_faults.specs.Seen.{names_view}
use Rattle.bc_scope_faults.proofs.Sets.{fresh_value, seen_value}
use Rattle.bc_scope_faults.proofs.judging.Met.case.Goals as goal

pub returns-then-branch : goal.returns-then-branch
returns-then-branch c =
    let met = c.args.self.now in
    let ws = met.values.keys in
    let f = fresh_value ws c.insert.new.self.keys c.get.result c.in_ok-insert.field-0 c.in_ok-insert.ensures.added c.in_ok-insert.ensures.keys c.if-branch.true in
    let placed = ap (λ u. or_else u (unless (not (has_value ws c.args.value)) ACaseTwice)) c.in_ok-require_allowed.ensures in
    let once = ap (λ v. unless (not (has_value ws v)) ACaseTwice) (sym c.get.ensures.same) in
    let made : List ℕ → Met = λ vs. record { names = names_view met.names.keys; values = vs; default = met.default } in
    (placed ∙ once ∙ f.0, ap made (f.1 ∙ ap (λ v. ws ++ v ∷ []) c.get.ensures.same))

pub returns-else-branch : goal.returns-else-branch
returns-else-branch c =
    let ws = c.args.self.now.values.keys in
    let placed = ap (λ u. or_else u (unless (not (has_value ws c.args.value)) ACaseTwice)) c.in_ok-require_allowed.ensures in
    let once = ap (λ v. unless (not (has_value ws v)) ACaseTwice) (sym c.get.ensures.same) in
    placed ∙ once ∙ seen_value ws c.get.result c.in_ok-insert.field-0 c.in_ok-insert.ensures.added c.if-branch.false
