-- A line between entries.
use Rattle.std.proofs.Common.{◌≡◌, ap, sym, ◌∙◌, subst}
use Rattle.bc_cert_read.specs.TreeView.{Steps}
use Rattle.bc_cert.specs.View.{state, stage}
use Rattle.bc_cert.proofs.Steps.{between_line}
use Rattle.bc_cert.proofs.checker.Checker.judge.Goals as goal

pub returns-in-Between-clause-exact : goal.returns-in-Between-clause-exact
returns-in-Between-clause-exact c =
    let old : c.replace-stage.result ≡ c.args.self.now.stage = cc in
    subst (λ r. Steps (state c.between.new.self) c.between.result r) (between_line c.args.line.now (state c.args.self.now) c.place-place.result (ap stage (sym old ∙ c.in-Between.is)) c.place-place.ensures) c.between.ensures.exact
