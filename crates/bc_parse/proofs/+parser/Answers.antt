use Rattle.std.proofs.Common.{◌+◌, ◌-◌, length, arith, Ok, refl}
use Rattle.std.proofs.lemmas.Result.{err_from_is_err_and}
use Rattle.std.proofs.lemmas.Bool.{lt-ltb}
use Rattle.bc_parse_tree.specs.View.{exp_view, exps_view, command_view, labels_view, entries_view, definitions_view}
use Rattle.bc_parse_defs.specs.Reading.{exp_of, command_of, definition_of, exps_turn, grow_turn, repeat_turn, label_read, label_start, entry_turn, definition_turn, place_turn, exps_read, grow_read, repeats_read, labels_read, entries_read, definitions_read, places_read, test_read, for_read, switch_read, routine_read}
use Rattle.bc_parse.specs.Seen.{seen, read_view, list_view, levelled_view, parts_view}
use Rattle.bc_parse.proofs.Turns.{turns_more, turns_last, turns_fails, turns_spent, fails_then, more_low, ok_is, choice_is, while_is, until_is}
use Rattle.bc_parse.proofs.Lists.{length_seen}
use Rattle.bc_parse.proofs.Ties.{exp_runs, command_runs, definition_runs}
use Rattle.bc_parse.proofs.+parser.Goals as goal

pub expressions::exp-returns-in_err-first-clause-read : goal.expressions::exp-returns-in_err-first-clause-read
expressions::exp-returns-in_err-first-clause-read t c = λ n h.
    let a = c.args in
    let p = err_from_is_err_and c.from_residual.result c.from_residual.ensures.1 in
    rw (p.1, p.2, exp_runs n a.room.nest a.room.round a.level (seen a.rest) (omega arith) (omega arith)) (fails_then c.in_err-first.field-0.0 _ _ (c.in_err-first.ensures.read (n - 1) (omega arith)))

pub expressions::exp-returns-clause-read : goal.expressions::exp-returns-clause-read
expressions::exp-returns-clause-read t c = λ n h.
    let a = c.args in
    rw (exp_runs n a.room.nest a.room.round a.level (seen a.rest) (omega arith) (omega arith), c.in_ok-first.ensures.read (n - 1) (omega arith), length_seen a.rest) (c.suffixes.ensures.read (n - 1) (omega arith))

pub commands::command-returns-clause-read : goal.commands::command-returns-clause-read
commands::command-returns-clause-read t c = λ n h. let a = c.args in rw (command_runs n a.room.nest a.room.round (seen a.rest) (omega arith) (omega arith)) (c.command_by_word.ensures.read (n - 1) (omega arith))

pub declarations::definition-returns-clause-read : goal.declarations::definition-returns-clause-read
declarations::definition-returns-clause-read t c = λ n h. let a = c.args in rw (definition_runs n a.room.nest a.room.round (seen a.rest) (omega arith) (omega arith)) (c.defined.ensures.read (n - 1) (omega arith))

pub expressions::suffixes-returns-in_err-whole-clause-read : goal.expressions::suffixes-returns-in_err-whole-clause-read
unfolding grow_read
expressions::suffixes-returns-in_err-whole-clause-read t c = λ n h.
    let a = c.args in
    let p = err_from_is_err_and c.from_residual.result c.from_residual.ensures.1 in
    rw (p.1, p.2) (fails_then c.in_err-whole.field-0.0 _ _ (turns_fails (grow_turn (exp_of n) a.room.nest a.room.round a.begin a.level) (length (seen a.first.rest) + 1) c.loop.counter _ _ (c.loop.invariant.read n h) c.in_err-whole.field-0.0 (omega arith) (c.in_err-whole.ensures.read n h)))

pub expressions::suffixes-returns-in-Last-clause-read : goal.expressions::suffixes-returns-in-Last-clause-read
unfolding grow_read
expressions::suffixes-returns-in-Last-clause-read t c = λ n h.
    let a = c.args in
    let whole = turns_last (grow_turn (exp_of n) a.room.nest a.room.round a.begin a.level) (length (seen a.first.rest) + 1) c.loop.counter _ _ (c.loop.invariant.read n h) levelled_view _ _ (omega arith) (c.in_ok-whole.ensures.read n h) c.in-Last.is in
    rw whole refl

pub expressions::suffixes-loop-preserved : goal.expressions::suffixes-loop-preserved
expressions::suffixes-loop-preserved t c =
    let a = c.args in
    record {
      total = c.loop.invariant.total;
      low = more_low _ _ _ c.in-More.is c.in_ok-whole.ensures.low;
      read = λ n h. turns_more (grow_turn (exp_of n) a.room.nest a.room.round a.begin a.level) (length (seen a.first.rest) + 1) c.loop.counter _ _ (c.loop.invariant.read n h) levelled_view _ _ (omega arith) (c.in_ok-whole.ensures.read n h) c.in-More.is;
    }

pub expressions::suffixes-returns-clause-read : goal.expressions::suffixes-returns-clause-read
unfolding grow_read
expressions::suffixes-returns-clause-read t c = λ n h.
    let a = c.args in
    rw (c.no_turn_left.ensures, turns_spent (grow_turn (exp_of n) a.room.nest a.room.round a.begin a.level) (length (seen a.first.rest) + 1) c.loop.counter _ _ (c.loop.invariant.read n h) (omega arith)) refl

pub expressions::exps-returns-in_err-list-clause-read : goal.expressions::exps-returns-in_err-list-clause-read
unfolding exps_read exps_turn
expressions::exps-returns-in_err-list-clause-read t c = λ n h.
    let a = c.args in
    let p = err_from_is_err_and c.from_residual.result c.from_residual.ensures.1 in
    rw (p.1, p.2) (turns_fails (exps_turn (exp_of n) a.room.nest a.room.round a.level a.limit) (length (seen a.rest) + 1) c.loop.counter _ _ (c.loop.invariant.read n h) c.in_err-list.field-0.0 (omega arith) (c.in_err-list.ensures.read _ (c.exp.ensures.read n h)))

pub expressions::exps-returns-in-Last-clause-read : goal.expressions::exps-returns-in-Last-clause-read
unfolding exps_read exps_turn
expressions::exps-returns-in-Last-clause-read t c = λ n h.
    let a = c.args in
    let whole = turns_last (exps_turn (exp_of n) a.room.nest a.room.round a.level a.limit) (length (seen a.rest) + 1) c.loop.counter _ _ (c.loop.invariant.read n h) (list_view exps_view) _ _ (omega arith) (c.in_ok-list.ensures.read _ (c.exp.ensures.read n h)) c.in-Last.is in
    whole

pub expressions::exps-loop-preserved : goal.expressions::exps-loop-preserved
unfolding exps_turn
expressions::exps-loop-preserved t c =
    let a = c.args in
    record {
      total = c.loop.invariant.total;
      low = more_low _ _ _ c.in-More.is c.in_ok-list.ensures.low;
      read = λ n h. turns_more (exps_turn (exp_of n) a.room.nest a.room.round a.level a.limit) (length (seen a.rest) + 1) c.loop.counter _ _ (c.loop.invariant.read n h) (list_view exps_view) _ _ (omega arith) (c.in_ok-list.ensures.read _ (c.exp.ensures.read n h)) c.in-More.is;
    }

pub expressions::exps-returns-clause-read : goal.expressions::exps-returns-clause-read
unfolding exps_read
expressions::exps-returns-clause-read t c = λ n h.
    let a = c.args in
    rw c.no_turn_left.ensures (turns_spent (exps_turn (exp_of n) a.room.nest a.room.round a.level a.limit) (length (seen a.rest) + 1) c.loop.counter _ _ (c.loop.invariant.read n h) (omega arith))

pub commands::repeats-returns-in_err-found-clause-read : goal.commands::repeats-returns-in_err-found-clause-read
unfolding repeats_read
commands::repeats-returns-in_err-found-clause-read t c = λ n h.
    let a = c.args in
    let p = err_from_is_err_and c.from_residual.result c.from_residual.ensures.1 in
    rw (p.1, p.2) (turns_fails (repeat_turn (exp_of n) a.room.nest a.room.round) (length (seen a.first.rest) + 1) c.loop.counter _ _ (c.loop.invariant.read n h) c.in_err-found.field-0.0 (omega arith) (c.in_err-found.ensures.read n h))

pub commands::repeats-returns-in-Last-clause-read : goal.commands::repeats-returns-in-Last-clause-read
unfolding repeats_read
commands::repeats-returns-in-Last-clause-read t c = λ n h.
    let a = c.args in
    let whole = turns_last (repeat_turn (exp_of n) a.room.nest a.room.round) (length (seen a.first.rest) + 1) c.loop.counter _ _ (c.loop.invariant.read n h) command_view _ _ (omega arith) (c.in_ok-found.ensures.read n h) c.in-Last.is in
    whole

pub commands::repeats-loop-preserved : goal.commands::repeats-loop-preserved
commands::repeats-loop-preserved t c =
    let a = c.args in
    record {
      total = c.loop.invariant.total;
      low = more_low _ _ _ c.in-More.is c.in_ok-found.ensures.low;
      read = λ n h. turns_more (repeat_turn (exp_of n) a.room.nest a.room.round) (length (seen a.first.rest) + 1) c.loop.counter _ _ (c.loop.invariant.read n h) command_view _ _ (omega arith) (c.in_ok-found.ensures.read n h) c.in-More.is;
    }

pub commands::repeats-returns-clause-read : goal.commands::repeats-returns-clause-read
unfolding repeats_read
commands::repeats-returns-clause-read t c = λ n h.
    let a = c.args in
    rw c.no_turn_left.ensures (turns_spent (repeat_turn (exp_of n) a.room.nest a.room.round) (length (seen a.first.rest) + 1) c.loop.counter _ _ (c.loop.invariant.read n h) (omega arith))

pub blocks::labels-returns-in_err-list-clause-read : goal.blocks::labels-returns-in_err-list-clause-read
unfolding labels_read
blocks::labels-returns-in_err-list-clause-read t c = λ n h.
    let a = c.args in
    let p = err_from_is_err_and c.from_residual.result c.from_residual.ensures.1 in
    rw (p.1, p.2) (turns_fails (λ s. label_read (exp_of n) a.room.nest a.room.round s (label_start s.rest)) (length (seen a.rest) + 1) c.loop.counter _ _ (c.loop.invariant.read n h) c.in_err-list.field-0.0 (omega arith) (c.in_err-list.ensures.read n h))

pub blocks::labels-returns-in-Last-clause-read : goal.blocks::labels-returns-in-Last-clause-read
unfolding labels_read
blocks::labels-returns-in-Last-clause-read t c = λ n h.
    let a = c.args in
    let whole = turns_last (λ s. label_read (exp_of n) a.room.nest a.room.round s (label_start s.rest)) (length (seen a.rest) + 1) c.loop.counter _ _ (c.loop.invariant.read n h) (list_view labels_view) _ _ (omega arith) (c.in_ok-list.ensures.read n h) c.in-Last.is in
    whole

pub blocks::labels-loop-preserved : goal.blocks::labels-loop-preserved
blocks::labels-loop-preserved t c =
    let a = c.args in
    record {
      total = c.loop.invariant.total;
      low = more_low _ _ _ c.in-More.is c.in_ok-list.ensures.low;
      read = λ n h. turns_more (λ s. label_read (exp_of n) a.room.nest a.room.round s (label_start s.rest)) (length (seen a.rest) + 1) c.loop.counter _ _ (c.loop.invariant.read n h) (list_view labels_view) _ _ (omega arith) (c.in_ok-list.ensures.read n h) c.in-More.is;
    }

pub blocks::labels-returns-clause-read : goal.blocks::labels-returns-clause-read
unfolding labels_read
blocks::labels-returns-clause-read t c = λ n h.
    let a = c.args in
    rw c.no_turn_left.ensures (turns_spent (λ s. label_read (exp_of n) a.room.nest a.room.round s (label_start s.rest)) (length (seen a.rest) + 1) c.loop.counter _ _ (c.loop.invariant.read n h) (omega arith))

pub declarations::entries-returns-in_err-list-clause-read : goal.declarations::entries-returns-in_err-list-clause-read
unfolding entries_read
declarations::entries-returns-in_err-list-clause-read t c = λ n h.
    let a = c.args in
    let p = err_from_is_err_and c.from_residual.result c.from_residual.ensures.1 in
    rw (p.1, p.2) (turns_fails (entry_turn (exp_of n) a.room.nest a.room.round) (length (seen a.rest) + 1) c.loop.counter _ _ (c.loop.invariant.read n h) c.in_err-list.field-0.0 (omega arith) (c.in_err-list.ensures.read n h))

pub declarations::entries-returns-in-Last-clause-read : goal.declarations::entries-returns-in-Last-clause-read
unfolding entries_read
declarations::entries-returns-in-Last-clause-read t c = λ n h.
    let a = c.args in
    let whole = turns_last (entry_turn (exp_of n) a.room.nest a.room.round) (length (seen a.rest) + 1) c.loop.counter _ _ (c.loop.invariant.read n h) (list_view entries_view) _ _ (omega arith) (c.in_ok-list.ensures.read n h) c.in-Last.is in
    whole

pub declarations::entries-loop-preserved : goal.declarations::entries-loop-preserved
declarations::entries-loop-preserved t c =
    let a = c.args in
    record {
      total = c.loop.invariant.total;
      low = more_low _ _ _ c.in-More.is c.in_ok-list.ensures.low;
      read = λ n h. turns_more (entry_turn (exp_of n) a.room.nest a.room.round) (length (seen a.rest) + 1) c.loop.counter _ _ (c.loop.invariant.read n h) (list_view entries_view) _ _ (omega arith) (c.in_ok-list.ensures.read n h) c.in-More.is;
    }

pub declarations::entries-returns-clause-read : goal.declarations::entries-returns-clause-read
unfolding entries_read
declarations::entries-returns-clause-read t c = λ n h.
    let a = c.args in
    rw c.no_turn_left.ensures (turns_spent (entry_turn (exp_of n) a.room.nest a.room.round) (length (seen a.rest) + 1) c.loop.counter _ _ (c.loop.invariant.read n h) (omega arith))

pub declarations::definitions-returns-in_err-list-clause-read : goal.declarations::definitions-returns-in_err-list-clause-read
unfolding definitions_read definition_turn
declarations::definitions-returns-in_err-list-clause-read t c = λ n h.
    let a = c.args in
    let p = err_from_is_err_and c.from_residual.result c.from_residual.ensures.1 in
    rw (p.1, p.2) (turns_fails (definition_turn (exp_of n) (command_of n) (definition_of n) a.room.nest a.room.round) (length (seen a.rest) + 1) c.loop.counter _ _ (c.loop.invariant.read n h) c.in_err-list.field-0.0 (omega arith) (c.in_err-list.ensures.read _ (c.definition.ensures.read n h)))

pub declarations::definitions-returns-in-Last-clause-read : goal.declarations::definitions-returns-in-Last-clause-read
unfolding definitions_read definition_turn
declarations::definitions-returns-in-Last-clause-read t c = λ n h.
    let a = c.args in
    let whole = turns_last (definition_turn (exp_of n) (command_of n) (definition_of n) a.room.nest a.room.round) (length (seen a.rest) + 1) c.loop.counter _ _ (c.loop.invariant.read n h) (list_view definitions_view) _ _ (omega arith) (c.in_ok-list.ensures.read _ (c.definition.ensures.read n h)) c.in-Last.is in
    whole

pub declarations::definitions-loop-preserved : goal.declarations::definitions-loop-preserved
unfolding definition_turn
declarations::definitions-loop-preserved t c =
    let a = c.args in
    record {
      total = c.loop.invariant.total;
      low = more_low _ _ _ c.in-More.is c.in_ok-list.ensures.low;
      read = λ n h. turns_more (definition_turn (exp_of n) (command_of n) (definition_of n) a.room.nest a.room.round) (length (seen a.rest) + 1) c.loop.counter _ _ (c.loop.invariant.read n h) (list_view definitions_view) _ _ (omega arith) (c.in_ok-list.ensures.read _ (c.definition.ensures.read n h)) c.in-More.is;
    }

pub declarations::definitions-returns-clause-read : goal.declarations::definitions-returns-clause-read
unfolding definitions_read
declarations::definitions-returns-clause-read t c = λ n h.
    let a = c.args in
    rw c.no_turn_left.ensures (turns_spent (definition_turn (exp_of n) (command_of n) (definition_of n) a.room.nest a.room.round) (length (seen a.rest) + 1) c.loop.counter _ _ (c.loop.invariant.read n h) (omega arith))

pub blocks::places-returns-in_err-list-clause-read : goal.blocks::places-returns-in_err-list-clause-read
unfolding places_read
blocks::places-returns-in_err-list-clause-read t c = λ n h.
    let a = c.args in
    let p = err_from_is_err_and c.from_residual.result c.from_residual.ensures.1 in
    rw (p.1, p.2) (turns_fails (place_turn (exp_of n) (command_of n) (definition_of n) a.mode a.room.nest a.room.round) (length (seen a.rest) + 1) c.loop.counter _ _ (c.loop.invariant.read n h) c.in_err-list.field-0.0 (omega arith) (c.in_err-list.ensures.read n h))

pub blocks::places-returns-in-Last-clause-read : goal.blocks::places-returns-in-Last-clause-read
unfolding places_read
blocks::places-returns-in-Last-clause-read t c = λ n h.
    let a = c.args in
    let whole = turns_last (place_turn (exp_of n) (command_of n) (definition_of n) a.mode a.room.nest a.room.round) (length (seen a.rest) + 1) c.loop.counter _ _ (c.loop.invariant.read n h) parts_view _ _ (omega arith) (c.in_ok-list.ensures.read n h) c.in-Last.is in
    whole

pub blocks::places-loop-preserved : goal.blocks::places-loop-preserved
blocks::places-loop-preserved t c =
    let a = c.args in
    record {
      total = c.loop.invariant.total;
      low = more_low _ _ _ c.in-More.is c.in_ok-list.ensures.low;
      read = λ n h. turns_more (place_turn (exp_of n) (command_of n) (definition_of n) a.mode a.room.nest a.room.round) (length (seen a.rest) + 1) c.loop.counter _ _ (c.loop.invariant.read n h) parts_view _ _ (omega arith) (c.in_ok-list.ensures.read n h) c.in-More.is;
    }

pub blocks::places-returns-clause-read : goal.blocks::places-returns-clause-read
unfolding places_read
blocks::places-returns-clause-read t c = λ n h.
    let a = c.args in
    rw c.no_turn_left.ensures (turns_spent (place_turn (exp_of n) (command_of n) (definition_of n) a.mode a.room.nest a.room.round) (length (seen a.rest) + 1) c.loop.counter _ _ (c.loop.invariant.read n h) (omega arith))

pub expressions::chosen-returns-clause-read : goal.expressions::chosen-returns-clause-read
expressions::chosen-returns-clause-read t c = λ n h place.
    let a = c.args in
    let same = ok_is (exp_view a.left.tree.exp) (exp_view c.in_ok-test.test.value) (Ok (exp_view a.left.tree.exp)) refl c.in_ok-test.ensures in
    rw (choice_is (exp_of n) a.room.nest a.room.round a.begin a.left.height c.in_ok-this.this.height place _ (exp_view a.left.tree.exp) _ _ (seen a.rest) _ (omega arith) (c.in_ok-this.ensures.read n (omega arith)) same c.max.ensures) (c.choice_rest.ensures.read n h)

pub commands::test-returns-clause-read : goal.commands::test-returns-clause-read
unfolding test_read
commands::test-returns-clause-read t c = λ n h. rw (c.in_ok-test.ensures.read n (omega arith), c.in_ok-this.ensures.read n (omega arith)) (c.test_else.ensures.read n h)

pub commands::for_command-returns-clause-read : goal.commands::for_command-returns-clause-read
unfolding for_read
commands::for_command-returns-clause-read t c = λ n h. rw (c.in_ok-variable.ensures, c.in_ok-rest.ensures, c.in_ok-start.ensures.read n (omega arith)) (c.for_to.ensures.read n h)

pub commands::switch_on-returns-clause-read : goal.commands::switch_on-returns-clause-read
unfolding switch_read
commands::switch_on-returns-clause-read t c = λ n h. rw (c.in_ok-value.ensures.read n (omega arith), c.in_ok-rest.ensures) (c.switch_cases.ensures.read n h)

pub blocks::label_step-returns-in-Default-clause-read : goal.blocks::label_step-returns-in-Default-clause-read
blocks::label_step-returns-in-Default-clause-read t c = λ n h. rw (← c.in-Default.ensures) (c.default_label.ensures.read n c.args.room.nest c.args.room.round)

pub blocks::label_step-returns-in-Name-clause-read : goal.blocks::label_step-returns-in-Name-clause-read
blocks::label_step-returns-in-Name-clause-read t c = λ n h. rw (← c.in-Name.ensures) (c.name_label.ensures.read n c.args.room.nest c.args.room.round)

pub blocks::place_step-returns-clause-low : goal.blocks::place_step-returns-clause-low
blocks::place_step-returns-clause-low t c = c.turn_of.ensures.low c.args.room.nest c.in_ok-found.ensures.low

pub declarations::routine-returns-in-None-clause-read : goal.declarations::routine-returns-in-None-clause-read
unfolding routine_read
declarations::routine-returns-in-None-clause-read t c = λ n h. rw (lt-ltb 0 c.args.room.round (omega arith), c.in_ok-found.ensures, ← c.in-None.ensures) (c.procedure.ensures.read n h)

pub commands::repeat_step-returns-in-While-clause-read : goal.commands::repeat_step-returns-in-While-clause-read
commands::repeat_step-returns-in-While-clause-read t c = λ n h.
    let a = c.args in
    let body = command_view c.in_ok-body-in-Some.body.value in
    let same = ok_is (command_view a.whole.tree) body (Ok (command_view a.whole.tree)) refl c.in_ok-body-in-Some.ensures in
    rw (while_is (exp_of n) a.room.nest a.room.round (read_view command_view a.whole) body c.in-Some.word (seen c.in-Some.rest) c.in-Some.ensures (omega arith) same c.in-While.is)
    (c.repeated_while.ensures.read _ (c.exp.ensures.read n (omega arith)))

pub commands::repeat_step-returns-in-Until-clause-read : goal.commands::repeat_step-returns-in-Until-clause-read
commands::repeat_step-returns-in-Until-clause-read t c = λ n h.
    let a = c.args in
    let body = command_view c.in_ok-body-in-Some.body.value in
    let same = ok_is (command_view a.whole.tree) body (Ok (command_view a.whole.tree)) refl c.in_ok-body-in-Some.ensures in
    rw (until_is (exp_of n) a.room.nest a.room.round (read_view command_view a.whole) body c.in-Some.word (seen c.in-Some.rest) c.in-Some.ensures (omega arith) same c.in-Until.is)
    (c.repeated_until.ensures.read _ (c.exp-in-Until.ensures.read n (omega arith)))
