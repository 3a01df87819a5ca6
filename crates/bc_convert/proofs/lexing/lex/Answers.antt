use Rattle.std.proofs.Common.{arith, refl, ◌≤◌, ◌+◌, length}
use Rattle.std.proofs.lemmas.Grind.{common_steps}
use Rattle.bc_convert.proofs.Gapping.{gap_end, gap_stop, token_more, token_last}
use Rattle.bc_convert.proofs.lexing.lex.Goals as goal

pub returns-then-is_empty : goal.returns-then-is_empty
returns-then-is_empty c =
    let short : length c.args.text.now ≤ c.loop.at + c.gap.result = grind (arith, common_steps) in
    let last = gap_stop c.loop.at c.gap.result c.args.text.now short (rw c.following.ensures.rest at c.gap.ensures.gap) in
    token_last c.args.text.now c.loop.at c.loop.tokens.items c.loop.invariant.before last

pub returns : goal.returns
returns c =
    let short : length c.args.text.now ≤ c.loop.at = omega arith in
    token_last c.args.text.now c.loop.at c.loop.tokens.items c.loop.invariant.before (gap_end c.loop.at c.args.text.now short)

pub loop-preserved : goal.loop-preserved
loop-preserved c =
    let begins = rw c.following.ensures.rest at c.gap.ensures.longest in
    let gap = rw c.following.ensures.rest at c.gap.ensures.gap in
    let token = rw c.following-rest.ensures.rest at c.lexeme-kind.ensures.token in
    record {
      within = omega arith;
      moves = omega arith;
      before = token_more c.args.text.now c.loop.at c.gap.result c.lexeme-kind.result.1 c.loop.tokens.items c.push.new.self.items _
          c.in_ok-push.ensures.items refl refl c.loop.invariant.before gap (omega arith) (omega arith) begins token;
    }
