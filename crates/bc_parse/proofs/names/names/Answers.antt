use Rattle.std.proofs.Common.{◌∙◌, ◌+◌, length, arith, ap, Err}
use Rattle.std.proofs.lemmas.Result.{err_from_is_err_and}
use Rattle.bc_parse_defs.specs.Reading as reading
use Rattle.bc_parse_defs.specs.Reading.{name_turn, names_read}
use Rattle.bc_parse.specs.Seen.{seen, list_view}
use Rattle.bc_parse.specs.Names.{names_view}
use Rattle.bc_parse.proofs.Turns.{turns_more, turns_last, turns_fails, turns_spent}
use Rattle.bc_parse.proofs.Lists.{length_seen}
use Rattle.bc_parse.proofs.names.names.Goals as goal

pub returns-in_err-list : goal.returns-in_err-list
unfolding names_read
returns-in_err-list c =
    let p = err_from_is_err_and c.from_residual.result c.from_residual.ensures.1 in
    rw (p.1, p.2) (turns_fails name_turn (length (seen c.args.rest) + 1) c.loop.counter _ _ c.loop.invariant.read c.in_err-list.field-0.0 (omega arith) c.in_err-list.ensures)

pub returns-in-Last : goal.returns-in-Last
unfolding names_read
returns-in-Last c = turns_last name_turn (length (seen c.args.rest) + 1) c.loop.counter _ _ c.loop.invariant.read (list_view names_view) _ _ (omega arith) c.in_ok-list.ensures c.in-Last.is

pub loop-preserved : goal.loop-preserved
loop-preserved c = record {
  total = c.loop.invariant.total;
  read = turns_more name_turn (length (seen c.args.rest) + 1) c.loop.counter _ _ c.loop.invariant.read (list_view names_view) _ _ (omega arith) c.in_ok-list.ensures c.in-More.is;
}

pub returns : goal.returns
unfolding names_read
returns c = turns_spent name_turn (length (seen c.args.rest) + 1) c.loop.counter _ _ c.loop.invariant.read (omega arith) ∙ ap (λ n. Err (reading.Expected n)) (length_seen c.loop.found.rest)
