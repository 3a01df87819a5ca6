-- The first item is this one.
use Rattle.std.proofs.Common.{◌≡◌, ℕ, ◌≤◌, ◌==◌, true, false, zero, suc, sym, ◌∙◌, arith}
use Rattle.bc_cert_defs.proofs.Standing.{item_passes, passing_item}
use Rattle.bc_cert_against.proofs.against.begins_with.Goals as goal

some_item : (n : ℕ) → false ≡ (n == 0) → 1 ≤ n
some_item zero h = absurd (let k : false ≡ true = h in cc)
some_item (suc n) h = omega arith

pub returns-then-not-is_empty : goal.returns-then-not-is_empty
returns-then-not-is_empty c = (
  (λ h. item_passes c.args.item c.args.items.now c.index-items-0.result (some_item _ (sym c.if-not-is_empty.true ∙ c.is_empty.ensures)) (sym c.index-items-0.is ∙ c.is_same.ensures.same h)),
  (λ h. c.is_same.ensures.only (c.index-items-0.is ∙ passing_item c.args.item c.args.items.now c.index-items-0.result h)),
)
