use Rattle.std.proofs.Common.{◌≡◌, ◌-◌, ◌+◌, ◌*◌, ◌≤◌, ℕ, length}
use Rattle.bc_parse_tree.specs.Tree.{none, no_labels, no_entries, no_declarations, no_items, no_definitions}
use Rattle.bc_parse_tree.specs.View.{exps_view, command_view, definitions_view, labels_view, entries_view}
use Rattle.bc_parse_defs.specs.Reading.{piece, turns, exp_of, command_of, definition_of, exps_turn, grow_turn, repeat_turn, label_read, label_start, entry_turn, definition_turn, place_turn}
use Rattle.bc_parse.specs.Seen.{seen, read_view, list_view, levelled_view, parts_view}
use Rattle.bc_parse.proofs.+parser.Given as goal

abbrev pub decreases-expressions::exp : goal.decreases-expressions::exp
decreases-expressions::exp l = 64 * (l.room.nest + l.room.round) + 20

abbrev pub decreases-expressions::boxed_exp : goal.decreases-expressions::boxed_exp
decreases-expressions::boxed_exp l = 64 * (l.room.nest + l.room.round) + 21

abbrev pub decreases-expressions::operand : goal.decreases-expressions::operand
decreases-expressions::operand l = 64 * (l.room.nest + l.room.round) + 19

abbrev pub decreases-expressions::operand_rest : goal.decreases-expressions::operand_rest
decreases-expressions::operand_rest l = 64 * (l.room.nest + l.room.round) + 18

abbrev pub decreases-expressions::bracket : goal.decreases-expressions::bracket
decreases-expressions::bracket l = 64 * (l.room.nest + l.room.round) + 17

abbrev pub decreases-expressions::suffixes : goal.decreases-expressions::suffixes
decreases-expressions::suffixes l = 64 * (l.room.nest + l.room.round) + 19

abbrev pub decreases-expressions::suffix_step : goal.decreases-expressions::suffix_step
decreases-expressions::suffix_step l = 64 * (l.room.nest + l.room.round) + 18

abbrev pub decreases-expressions::operated : goal.decreases-expressions::operated
decreases-expressions::operated l = 64 * (l.room.nest + l.room.round) + 16

abbrev pub decreases-expressions::called : goal.decreases-expressions::called
decreases-expressions::called l = 64 * (l.room.nest + l.room.round) + 16

abbrev pub decreases-expressions::chosen : goal.decreases-expressions::chosen
decreases-expressions::chosen l = 64 * (l.room.nest + l.room.round) + 16

abbrev pub decreases-expressions::exps : goal.decreases-expressions::exps
decreases-expressions::exps l = 64 * (l.room.nest + l.room.round) + 22

abbrev pub decreases-expressions::arguments : goal.decreases-expressions::arguments
decreases-expressions::arguments l = 64 * (l.room.nest + l.room.round) + 23

abbrev pub decreases-commands::command : goal.decreases-commands::command
decreases-commands::command l = 64 * (l.room.nest + l.room.round) + 32

abbrev pub decreases-commands::command_by_word : goal.decreases-commands::command_by_word
decreases-commands::command_by_word l = 64 * (l.room.nest + l.room.round) + 31

abbrev pub decreases-commands::compound : goal.decreases-commands::compound
decreases-commands::compound l = 64 * (l.room.nest + l.room.round) + 30

abbrev pub decreases-commands::repeatable : goal.decreases-commands::repeatable
decreases-commands::repeatable l = 64 * (l.room.nest + l.room.round) + 30

abbrev pub decreases-commands::tested : goal.decreases-commands::tested
decreases-commands::tested l = 64 * (l.room.nest + l.room.round) + 28

abbrev pub decreases-commands::test : goal.decreases-commands::test
decreases-commands::test l = 64 * (l.room.nest + l.room.round) + 28

abbrev pub decreases-commands::for_command : goal.decreases-commands::for_command
decreases-commands::for_command l = 64 * (l.room.nest + l.room.round) + 28

abbrev pub decreases-commands::switch_on : goal.decreases-commands::switch_on
decreases-commands::switch_on l = 64 * (l.room.nest + l.room.round) + 28

abbrev pub decreases-commands::simple : goal.decreases-commands::simple
decreases-commands::simple l = 64 * (l.room.nest + l.room.round) + 28

abbrev pub decreases-commands::assigned : goal.decreases-commands::assigned
decreases-commands::assigned l = 64 * (l.room.nest + l.room.round) + 28

abbrev pub decreases-commands::repeats : goal.decreases-commands::repeats
decreases-commands::repeats l = 64 * (l.room.nest + l.room.round) + 29

abbrev pub decreases-commands::step : goal.decreases-commands::step
decreases-commands::step l = 64 * (l.room.nest + l.room.round) + 22

abbrev pub decreases-commands::repeat_step : goal.decreases-commands::repeat_step
decreases-commands::repeat_step l = 64 * (l.room.nest + l.room.round) + 26

abbrev pub decreases-blocks::labels : goal.decreases-blocks::labels
decreases-blocks::labels l = 64 * (l.room.nest + l.room.round) + 25

abbrev pub decreases-blocks::label_step : goal.decreases-blocks::label_step
decreases-blocks::label_step l = 64 * (l.room.nest + l.room.round) + 24

abbrev pub decreases-declarations::entries : goal.decreases-declarations::entries
decreases-declarations::entries l = 64 * (l.room.nest + l.room.round) + 24

abbrev pub decreases-declarations::entry_step : goal.decreases-declarations::entry_step
decreases-declarations::entry_step l = 64 * (l.room.nest + l.room.round) + 23

abbrev pub decreases-declarations::entry : goal.decreases-declarations::entry
decreases-declarations::entry l = 64 * (l.room.nest + l.room.round) + 22

abbrev pub decreases-declarations::definition : goal.decreases-declarations::definition
decreases-declarations::definition l = 64 * (l.room.nest + l.room.round) + 31

abbrev pub decreases-declarations::defined : goal.decreases-declarations::defined
decreases-declarations::defined l = 64 * (l.room.nest + l.room.round) + 30

abbrev pub decreases-declarations::variables : goal.decreases-declarations::variables
decreases-declarations::variables l = 64 * (l.room.nest + l.room.round) + 28

abbrev pub decreases-declarations::routine : goal.decreases-declarations::routine
decreases-declarations::routine l = 64 * (l.room.nest + l.room.round) + 28

abbrev pub decreases-declarations::procedure : goal.decreases-declarations::procedure
decreases-declarations::procedure l = 64 * (l.room.nest + l.room.round) + 27

abbrev pub decreases-declarations::definitions : goal.decreases-declarations::definitions
decreases-declarations::definitions l = 64 * (l.room.nest + l.room.round) + 33

abbrev pub decreases-declarations::constants : goal.decreases-declarations::constants
decreases-declarations::constants l = 64 * (l.room.nest + l.room.round) + 34

abbrev pub decreases-declarations::declaration : goal.decreases-declarations::declaration
decreases-declarations::declaration l = 64 * (l.room.nest + l.room.round) + 35

abbrev pub decreases-blocks::item_part : goal.decreases-blocks::item_part
decreases-blocks::item_part l = 64 * (l.room.nest + l.room.round) + 35

abbrev pub decreases-blocks::add_element : goal.decreases-blocks::add_element
decreases-blocks::add_element l = 64 * (l.room.nest + l.room.round) + 37

abbrev pub decreases-blocks::place_step : goal.decreases-blocks::place_step
decreases-blocks::place_step l = 64 * (l.room.nest + l.room.round) + 38

abbrev pub decreases-blocks::places : goal.decreases-blocks::places
decreases-blocks::places l = 64 * (l.room.nest + l.room.round) + 39

abbrev pub decreases-blocks::block : goal.decreases-blocks::block
decreases-blocks::block l = 64 * (l.room.nest + l.room.round) + 40

abbrev pub decreases-blocks::block_body : goal.decreases-blocks::block_body
decreases-blocks::block_body l = 64 * (l.room.nest + l.room.round) + 41

abbrev pub decreases-blocks::body : goal.decreases-blocks::body
decreases-blocks::body l = 64 * (l.room.nest + l.room.round) + 42

abbrev pub decreases-blocks::do_body : goal.decreases-blocks::do_body
decreases-blocks::do_body l = 64 * (l.room.nest + l.room.round) + 43

abbrev pub decreases-commands::simple_command : goal.decreases-commands::simple_command
decreases-commands::simple_command l = 64 * (l.room.nest + l.room.round) + 29

abbrev pub decreases-expressions::choice_rest : goal.decreases-expressions::choice_rest
decreases-expressions::choice_rest l = 64 * (l.room.nest + l.room.round) + 15

abbrev pub decreases-commands::test_else : goal.decreases-commands::test_else
decreases-commands::test_else l = 64 * (l.room.nest + l.room.round) + 27

abbrev pub decreases-commands::for_to : goal.decreases-commands::for_to
decreases-commands::for_to l = 64 * (l.room.nest + l.room.round) + 27

abbrev pub decreases-commands::for_by : goal.decreases-commands::for_by
decreases-commands::for_by l = 64 * (l.room.nest + l.room.round) + 26

abbrev pub decreases-commands::switch_cases : goal.decreases-commands::switch_cases
decreases-commands::switch_cases l = 64 * (l.room.nest + l.room.round) + 27

abbrev pub invariant-expressions::exps-loop : goal.invariant-expressions::exps-loop
invariant-expressions::exps-loop l = record {
  total : l.end ≡ length (seen l.rest) + 1;
  low : l.found.height ≤ l.room.nest;
  read : (n : ℕ) → l.room.nest + l.room.round ≤ n → turns (exps_turn (exp_of n) l.room.nest l.room.round l.level l.limit) (length (seen l.rest) + 1 - l.counter) (read_view (list_view exps_view) l.found) ≡ turns (exps_turn (exp_of n) l.room.nest l.room.round l.level l.limit) (length (seen l.rest) + 1) (piece none 0 (seen l.rest));
}

abbrev pub invariant-expressions::suffixes-loop : goal.invariant-expressions::suffixes-loop
invariant-expressions::suffixes-loop l = record {
  total : l.turns ≡ length (seen l.fn.first.rest) + 1;
  low : l.left.height ≤ l.room.nest;
  read : (n : ℕ) → l.room.nest + l.room.round ≤ n + 1 → turns (grow_turn (exp_of n) l.room.nest l.room.round l.begin l.level) (length (seen l.fn.first.rest) + 1 - l.counter) (read_view levelled_view l.left) ≡ turns (grow_turn (exp_of n) l.room.nest l.room.round l.begin l.level) (length (seen l.fn.first.rest) + 1) (read_view levelled_view l.fn.first);
}

abbrev pub invariant-commands::repeats-loop : goal.invariant-commands::repeats-loop
invariant-commands::repeats-loop l = record {
  total : l.turns ≡ length (seen l.fn.first.rest) + 1;
  low : l.whole.height ≤ l.room.nest;
  read : (n : ℕ) → l.room.nest + l.room.round ≤ n + 1 → turns (repeat_turn (exp_of n) l.room.nest l.room.round) (length (seen l.fn.first.rest) + 1 - l.counter) (read_view command_view l.whole) ≡ turns (repeat_turn (exp_of n) l.room.nest l.room.round) (length (seen l.fn.first.rest) + 1) (read_view command_view l.fn.first);
}

abbrev pub invariant-blocks::labels-loop : goal.invariant-blocks::labels-loop
invariant-blocks::labels-loop l = record {
  total : l.end ≡ length (seen l.rest) + 1;
  low : l.found.height ≤ l.room.nest;
  read : (n : ℕ) → l.room.nest + l.room.round ≤ n → turns (λ s. label_read (exp_of n) l.room.nest l.room.round s (label_start s.rest)) (length (seen l.rest) + 1 - l.counter) (read_view (list_view labels_view) l.found) ≡ turns (λ s. label_read (exp_of n) l.room.nest l.room.round s (label_start s.rest)) (length (seen l.rest) + 1) (piece no_labels 0 (seen l.rest));
}

abbrev pub invariant-declarations::entries-loop : goal.invariant-declarations::entries-loop
invariant-declarations::entries-loop l = record {
  total : l.end ≡ length (seen l.rest) + 1;
  low : l.found.height ≤ l.room.nest;
  read : (n : ℕ) → l.room.nest + l.room.round ≤ n → turns (entry_turn (exp_of n) l.room.nest l.room.round) (length (seen l.rest) + 1 - l.counter) (read_view (list_view entries_view) l.found) ≡ turns (entry_turn (exp_of n) l.room.nest l.room.round) (length (seen l.rest) + 1) (piece no_entries 0 (seen l.rest));
}

abbrev pub invariant-declarations::definitions-loop : goal.invariant-declarations::definitions-loop
invariant-declarations::definitions-loop l = record {
  total : l.end ≡ length (seen l.rest) + 1;
  low : l.found.height ≤ l.room.nest;
  read : (n : ℕ) → l.room.nest + l.room.round ≤ n → turns (definition_turn (exp_of n) (command_of n) (definition_of n) l.room.nest l.room.round) (length (seen l.rest) + 1 - l.counter) (read_view (list_view definitions_view) l.found) ≡ turns (definition_turn (exp_of n) (command_of n) (definition_of n) l.room.nest l.room.round) (length (seen l.rest) + 1) (piece no_definitions 0 (seen l.rest));
}

abbrev pub invariant-blocks::places-loop : goal.invariant-blocks::places-loop
invariant-blocks::places-loop l = record {
  total : l.end ≡ length (seen l.rest) + 1;
  low : l.found.height ≤ l.room.nest;
  read : (n : ℕ) → l.room.nest + l.room.round ≤ n → turns (place_turn (exp_of n) (command_of n) (definition_of n) l.mode l.room.nest l.room.round) (length (seen l.rest) + 1 - l.counter) (read_view parts_view l.found) ≡ turns (place_turn (exp_of n) (command_of n) (definition_of n) l.mode l.room.nest l.room.round) (length (seen l.rest) + 1) (piece (no_declarations, no_items) 0 (seen l.rest));
}
