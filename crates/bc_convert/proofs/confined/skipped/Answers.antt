use Rattle.std.proofs.Common.{◌≡◌, ◌∙◌, sym, ap, drop}
use Rattle.bc_convert.proofs.Confining.{skips_prefix}
use Rattle.bc_convert.proofs.confined.skipped.Goals as goal

pub returns : goal.returns
returns c =
    c.split_at.ensures.back ∙ (ap (λ n. drop n c.args.tokens.now) c.count_until.ensures.value ∙ sym (skips_prefix c.args.at c.args.tokens.now))
