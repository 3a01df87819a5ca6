-- For proofs: what a function of the parser reads where the definition has no function of its own for it. That is the rest of a
-- construct whose first parts are read, and a tree that is made of its last part.
use Rattle.std.specs.Prelude.{ℕ, ◌+◌, ◌-◌, Bool, false, ◌==◌, if◌then◌else◌, List, length, max, Result, Ok, Err}
use Rattle.bc_lex_tokens.specs.declared.symbol.Symbol.TheVariants as sign
use Rattle.bc_parse_tree.specs.Parts.{Part}
use Rattle.bc_parse_tree.specs.Tree.{Exp, Exps, Block, Declarations, Items, Command, Definition}
use Rattle.bc_parse_tree.specs.Tree as tree
use Rattle.bc_parse_tree.specs.View.{for_from}
use Rattle.bc_parse_tree.specs.Spelling.{add_item, count}
use Rattle.bc_parse_defs.specs.declared.words.Places.{Places}
use Rattle.bc_parse_defs.specs.declared.words.Places.TheVariants as places
use Rattle.bc_parse_defs.specs.Reading.{Fault, Expected, Piece, piece, on, expect_of, name_of, word_in, as_body, call_in, may_command}
use Rattle.bc_parse_defs.specs.Reading.{Reader, CommandReader, DefinitionReader, simple_word_of, simple_read, assigned_read, body_read, do_read}
use Rattle.bc_parse_defs.specs.Reading.{step_read, places_read, item_read}
use Rattle.bc_parse.specs.Seen.{◌~>◌}

-- ---- a tree that is made of its last part

-- the tree of a part, which nests one deeper than it
abbrev pub around : {X Y : Type 0} → (X → Y) → Piece X → Result (Piece Y) Fault
around make = λ p. Ok (piece (make p.tree) (p.height + 1) p.rest)

-- the tree of a part and of parts before it that nest so deep
abbrev pub joined : {X Y : Type 0} → (height : ℕ) → (X → Y) → Piece X → Result (Piece Y) Fault
joined height make = λ p. Ok (piece (make p.tree) (max height p.height + 1) p.rest)

-- the same, in a loop that goes on
abbrev pub joined_so_far : {X Y : Type 0} → (height : ℕ) → (X → Y) → Piece X → Result (Piece Y × Bool) Fault
joined_so_far height make = λ p. Ok (piece (make p.tree) (max height p.height + 1) p.rest, false)

-- an expression with its level
abbrev pub levelled : (level : ℕ) → Piece Exp → Result (Piece (Exp × ℕ)) Fault
levelled level = λ p. Ok (piece (p.tree, level) p.height p.rest)

-- a command as a body
abbrev pub body_of_command : Piece Command → Result (Piece Block) Fault
body_of_command = λ c. Ok (piece (as_body c.tree c.height).0 (as_body c.tree c.height).1 c.rest)

-- the command of a list of expressions without `:=`: one call
abbrev pub call_alone : Piece Exps → Result (Piece Command) Fault
call_alone xs = on (call_in xs.tree) (Err (Expected (length xs.rest))) (λ c. Ok (piece (tree.Do c.0 c.1) (xs.height + 1) xs.rest))

-- the assignment to these targets, which nest so deep, of as many values
abbrev pub assignment_to : Exps → (height : ℕ) → Piece Exps → Result (Piece Command) Fault
assignment_to targets height = λ es. if count es.tree == count targets then joined height (tree.Assign targets) es else Err (Expected (length es.rest))

-- the variables of these names, with as many initialisers
abbrev pub variables_of : List (List ℕ) → Piece Exps → Result (Piece Definition) Fault
variables_of names = λ es. if count es.tree == length names then around (tree.Variables names) es else Err (Expected (length es.rest))

-- ---- the rest of a construct

-- the name after GOTO
abbrev pub goto_rest : List Part → Result (Piece Command) Fault
goto_rest ts = name_of ts ~> λ n. Ok (piece (tree.Goto n.0) 1 n.1)

-- the comma of a choice and its second value, where the test and the first value nest so deep
abbrev pub choice_rest : Reader → (nest round height : ℕ) → (test this : Exp) → List Part → Result (Piece (Exp × ℕ)) Fault
choice_rest E nest round height test this ts =
    (expect_of sign.Comma ts ~> λ remaining. E (nest - 1) round 1 remaining ~> joined height (tree.Cond test this)) ~> levelled 1

module _ (E : Reader) (C : CommandReader) (D : DefinitionReader) (nest round : ℕ) where
  -- a command that REPEAT can follow, without its repetitions
  abbrev pub unrepeated_read : List Part → Result (Piece Command) Fault
  unrepeated_read ts = on (word_in simple_word_of ts) (assigned_read E C D nest round ts) (λ w. simple_read E C D nest round w.0 w.1)

  -- ELSE and the second body of a TEST, where the test and the first body nest so deep
  abbrev pub else_rest : (height : ℕ) → (test : Exp) → (this : Block) → List Part → Result (Piece Command) Fault
  else_rest height test this ts =
      expect_of sign.Else ts ~> λ remaining. body_read E C D (nest - 1) round remaining ~> joined height (tree.Test test this)

  -- the step and the body of a FOR, where its start and its limit nest so deep
  abbrev pub for_by_rest : (height : ℕ) → (variable : List ℕ) → (start limit : Exp) → List Part → Result (Piece Command) Fault
  for_by_rest height variable start limit ts =
      step_read E C D (nest - 1) round ts ~> λ step.
      do_read E C D (nest - 1) round step.rest ~> joined (max height step.height) (λ b. for_from variable start limit step.tree b)

  -- TO and all that follows it, where the start nests so deep
  abbrev pub for_to_rest : (height : ℕ) → (variable : List ℕ) → (start : Exp) → List Part → Result (Piece Command) Fault
  for_to_rest height variable start ts =
      expect_of sign.To ts ~> λ remaining.
      E (nest - 1) round 1 remaining ~> λ limit.
      for_by_rest (max height limit.height) variable start limit.tree limit.rest

  -- the items of a SWITCHON, from `$(` on, where its value nests so deep
  abbrev pub cases_rest : (height : ℕ) → (value : Exp) → List Part → Result (Piece Command) Fault
  cases_rest height value ts =
      expect_of sign.OpenSection ts ~> λ inner.
      places_read E C D places.Cases (nest - 1) round inner ~> joined height (λ p. tree.SwitchOn value p.1)

  -- BE and the body of a routine with these parameters
  abbrev pub be_rest : (name : List ℕ) → (parameters : List (List ℕ)) → List Part → Result (Piece Definition) Fault
  be_rest name parameters ts =
      expect_of sign.Be ts ~> λ remaining. body_read E C D (nest - 1) round remaining ~> around (tree.Routine name parameters)

  -- one more item, in a list that may have items
  abbrev pub item_more : Places → Piece (Declarations × Items) → Result (Piece (Declarations × Items)) Fault
  item_more mode s =
      if may_command mode then (
      item_read E C D nest round s.rest ~> λ i. Ok (piece (s.tree.0, add_item s.tree.1 i.tree) (max s.height i.height) i.rest))
      else Err (Expected (length s.rest))
