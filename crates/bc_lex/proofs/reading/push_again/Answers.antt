use Rattle.std.proofs.Common.{◌≡◌, ◌≤◌, ◌∙◌, sym, ap, arith, length}
use Rattle.std.proofs.lemmas.Result.{err_from_is_err_and}
use Rattle.std.proofs.lemmas.List.{length-map}
use Rattle.std.proofs.Math.ListN.{get_or-map}
use Rattle.bc_lex_tokens.specs.Token.{lexeme_of, lexemes_of}
use Rattle.bc_lex.proofs.Turns.{bind_fails, bind_goes_on}
use Rattle.bc_lex.proofs.Repeating.{still_kept, copy_turn}
use Rattle.bc_lex.proofs.reading.push_again.Goals as goal

pub returns-in_err-push : goal.returns-in_err-push
returns-in_err-push c =
    let p = err_from_is_err_and c.from_residual.result c.from_residual.ensures.1 in
    let old = lexemes_of c.args.tokens.now.items in
    let now = lexemes_of c.loop-index.tokens.items in
    let t = lexeme_of c.index-token.result.now in
    let n : length old ≡ length c.args.tokens.now.items = length-map c.args.tokens.now.items lexeme_of in
    let within : c.args.end ≤ length old = omega arith in
    let same = ap lexeme_of c.index-token.ensures ∙ sym (get_or-map lexeme_of c.loop-index.tokens.items c.loop-index.index c.index-token.result.now) in
    let h = copy_turn old now c.loop-index.index c.args.end t _ c.loop-index-test.true within c.loop-index.invariant.kept same c.loop-index.invariant.read in
    rw (p.1, p.2) (bind_fails _ _ _ c.in_err-push.field-0.0 h c.in_err-push.ensures)

pub loop-index-preserved : goal.loop-index-preserved
loop-index-preserved c =
    let old = lexemes_of c.args.tokens.now.items in
    let now = lexemes_of c.loop-index.tokens.items in
    let t = lexeme_of c.index-token.result.now in
    let n : length old ≡ length c.args.tokens.now.items = length-map c.args.tokens.now.items lexeme_of in
    let within : c.args.end ≤ length old = omega arith in
    let same = ap lexeme_of c.index-token.ensures ∙ sym (get_or-map lexeme_of c.loop-index.tokens.items c.loop-index.index c.index-token.result.now) in
    let h = copy_turn old now c.loop-index.index c.args.end t _ c.loop-index-test.true within c.loop-index.invariant.kept same c.loop-index.invariant.read in
    record {
      kept = still_kept old now (lexemes_of c.push.new.tokens.items) t c.loop-index.invariant.kept c.in_ok-push.ensures;
      read = bind_goes_on _ _ _ _ h c.in_ok-push.ensures;
    }
