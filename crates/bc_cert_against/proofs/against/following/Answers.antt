-- The items of a body are skipped.
use Rattle.std.proofs.Common.{subst, sym}
use Rattle.bc_rules_defs.specs.declared.piece.Piece.TheVariants as pieces
use Rattle.bc_cert_defs.specs.Against.{Passes}
use Rattle.bc_cert_defs.proofs.Standing.{body_passes}
use Rattle.bc_cert_against.proofs.against.following.Goals as goal

pub returns-then-count-items : goal.returns-then-count-items
returns-then-count-items c =
    subst (λ p. Passes p c.args.items.now c.after-then-count-items.result.now) (sym c.in-Body.is)
    (subst (λ more. Passes (pieces.Body c.in-Body.count) c.args.items.now more) (sym c.after-then-count-items.ensures) (body_passes _ _ c.if-count-items.true))
