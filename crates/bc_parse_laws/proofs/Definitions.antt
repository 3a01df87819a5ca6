-- Canonical spellings of definitions and declarations are read back.
use Rattle.std.proofs.Common.{◌≡◌, ℕ, zero, suc, ◌-◌, ◌+◌, ◌<◌, ◌≤◌, true, false, List, [], ◌∷◌, ◌++◌, length, max, Some, None, Result, Ok, refl, sym, ap, ◌∙◌, append_assoc, arith}
use Rattle.std.proofs.lemmas.Bool.{lt-ltb, eq-eqb}
use Rattle.std.proofs.lemmas.List.{length-append}
use Rattle.bc_lex_tokens.specs.declared.symbol.Symbol.TheVariants as sign
use Rattle.bc_parse_tree.specs.declared.tree.Storage.{Storage}
use Rattle.bc_parse_tree.specs.declared.tree.Storage.TheVariants as storage
use Rattle.bc_parse_tree.specs.Parts.{Part, A, Name}
use Rattle.bc_parse_tree.specs.Tree.{Exp, Exps, none, more, Block, block, Entries, no_entries, entry, Declaration, Definition, Definitions, no_definitions, definition}
use Rattle.bc_parse_tree.specs.Tree as tree
use Rattle.bc_parse_tree.specs.Spelling.{count, named, add_definition}
use Rattle.bc_parse_tree.specs.Canonical.{whole, after_commas, after_first, block_spelling, entry_sign, entries_spelling, definition_spelling, definitions_spelling, declaration_spelling}
use Rattle.bc_parse_tree.specs.Height.{exp_height, exps_height, block_height, entries_height, definition_height, definitions_height, declaration_height}
use Rattle.bc_parse_defs.specs.declared.words.DeclarationWord.{DeclarationWord}
use Rattle.bc_parse_defs.specs.declared.words.DeclarationWord.TheVariants as declaration_word
use Rattle.bc_parse_defs.specs.Reading.{Fault, Piece, piece, turns, after_of, separator_of, no_parts, word_in, declaration_word_of, Shape, Values, shape_of, vector_shape, variables_read, vector_read, routine_read, shaped_read, defined_read, definition_turn, definitions_read, declaration_read, exp_of, command_of, definition_of}
use Rattle.bc_parse_laws.proofs.Rounds.{part_rounds, exp_rounds, exps_rounds, block_rounds, entries_rounds, definition_rounds, definitions_rounds, declaration_rounds}
use Rattle.bc_parse_laws.proofs.Formed.{SomeExps, SomeDefinitions}
use Rattle.bc_parse_laws.proofs.Ends.{turn_last, turn_next}
use Rattle.bc_parse_laws.proofs.Expressions.{WholeAgain, PartAgain, PartsAgain, exps_again}
use Rattle.bc_parse_laws.proofs.Lists.{names_again, parameters_again, EntriesAgain, entries_again}
use Rattle.bc_parse_laws.proofs.Commands.{Quiet, BlockAgain, body_again}
use Rattle.bc_parse_laws.proofs.Simple.{exps_head}
use Rattle.bc_parse_laws.proofs.Ends.{unrepeated}

-- ---- definitions

abbrev pub DefinitionAgain : Definition → Type 0
DefinitionAgain d = (n nest round : ℕ) (rest : List Part) → definition_height d ≤ nest → definition_rounds d ≤ round → nest + round ≤ n → Quiet rest → definition_of n nest round (definition_spelling d ++ rest) ≡ Ok (piece d (definition_height d) rest)

definition_runs : (n nest round : ℕ) (ts : List Part) (r : Result (Piece Definition) Fault) → 0 < nest → nest + round ≤ n
    → ((m : ℕ) → nest + round ≤ m + 1 → defined_read (exp_of m) (command_of m) (definition_of m) nest round ts ≡ r) → definition_of n nest round ts ≡ r
unfolding definition_of
definition_runs zero nest round ts r some enough read = absurd (omega arith)
definition_runs (suc n) nest round ts r some enough read = rw (lt-ltb 0 nest some) (read n (omega arith))

variables_read_again : (m : List ℕ) (ns : List (List ℕ)) (es : Exps) → SomeExps es → length (m ∷ ns) ≡ count es → PartsAgain es → (n nest round : ℕ) (rest : List Part) → exps_height es + 1 ≤ nest → exps_rounds es ≤ round → nest + round ≤ n + 1 → Quiet rest
    → variables_read (exp_of n) (command_of n) (definition_of n) nest round (named (m ∷ ns) ++ A sign.Equal ∷ (after_first (after_commas es) ++ rest)) ≡ Ok (piece (tree.Variables (m ∷ ns) es) (exps_height es + 1) rest)
unfolding variables_read
variables_read_again m ns es some same again n nest round rest high deep enough end =
    let fits : count es ≤ length (m ∷ ns) = omega arith in
    rw (
      names_again m ns (A sign.Equal ∷ (after_first (after_commas es) ++ rest)) refl,
      exps_again es some again n (nest - 1) round 1 (length (m ∷ ns)) rest fits (omega arith) (omega arith) (omega arith) end.remaining.stops end.remaining.no_comma,
      eq-eqb (count es) (length (m ∷ ns)) (sym same),
    ) refl

values_shape : (ts : List Part) → after_of sign.Vector ts ≡ None → shape_of (A sign.Equal ∷ ts) ≡ Values
values_shape ts no_vector = rw (no_vector, vector_shape) refl

variables_defined : (m : List ℕ) (ns : List (List ℕ)) (es : Exps) → SomeExps es → length (m ∷ ns) ≡ count es → PartsAgain es → (n nest round : ℕ) (rest : List Part) → exps_height es + 1 ≤ nest → exps_rounds es ≤ round → nest + round ≤ n + 1 → Quiet rest
    → defined_read (exp_of n) (command_of n) (definition_of n) nest round (named (m ∷ ns) ++ A sign.Equal ∷ (after_first (after_commas es) ++ rest)) ≡ Ok (piece (tree.Variables (m ∷ ns) es) (exps_height es + 1) rest)
unfolding defined_read shaped_read
variables_defined m [] es some same again n nest round rest high deep enough end =
    let after : List Part = A sign.Equal ∷ (after_first (after_commas es) ++ rest) in
    ap (λ (shape : Shape). shaped_read (exp_of n) (command_of n) (definition_of n) nest round m (length after) (Name m ∷ after) shape) (values_shape (after_first (after_commas es) ++ rest) (exps_head es some rest).no_vector)
    ∙ variables_read_again m [] es some same again n nest round rest high deep enough end
variables_defined m (l ∷ ns) es some same again n nest round rest high deep enough end = variables_read_again m (l ∷ ns) es some same again n nest round rest high deep enough end

pub variables_again : (ns : List (List ℕ)) (es : Exps) → SomeExps es → length ns ≡ count es → PartsAgain es → DefinitionAgain (tree.Variables ns es)
variables_again [] none some same again n nest round rest high deep enough end = absurd some
variables_again [] (more e es) some same again n nest round rest high deep enough end = absurd (omega arith)
variables_again (m ∷ ns) es some same again n nest round rest high deep enough end =
    ap (definition_of n nest round) (append_assoc (named (m ∷ ns)) (A sign.Equal ∷ after_first (after_commas es)) rest)
    ∙ definition_runs n nest round _ _ (omega arith) enough (λ i le. variables_defined m ns es some same again i nest round rest high deep le end)

vector_defined : (m : List ℕ) (k : Exp) → PartAgain k → (n nest round : ℕ) (rest : List Part) → exp_height k + 1 ≤ nest → part_rounds k (exp_rounds k) ≤ round → nest + round ≤ n + 1 → Quiet rest
    → defined_read (exp_of n) (command_of n) (definition_of n) nest round (definition_spelling (tree.Vector m k) ++ rest) ≡ Ok (piece (tree.Vector m k) (exp_height k + 1) rest)
unfolding defined_read shaped_read vector_read
vector_defined m k again n nest round rest high deep enough end = rw (again n (nest - 1) round 2 rest (omega arith) deep (omega arith) end.remaining.stops) refl

pub vector_again : (m : List ℕ) (k : Exp) → PartAgain k → DefinitionAgain (tree.Vector m k)
vector_again m k again n nest round rest high deep enough end = definition_runs n nest round _ _ (omega arith) enough (λ i le. vector_defined m k again i nest round rest high deep le end)

function_defined : (m : List ℕ) (ps : List (List ℕ)) (e : Exp) → WholeAgain e → (n nest round : ℕ) (rest : List Part) → exp_height e + 1 ≤ nest → max 1 (exp_rounds e) ≤ round → nest + round ≤ n + 1 → Quiet rest
    → defined_read (exp_of n) (command_of n) (definition_of n) nest round (Name m ∷ A sign.OpenBracket ∷ (named ps ++ A sign.CloseBracket ∷ A sign.Equal ∷ (whole e ++ rest))) ≡ Ok (piece (tree.Function m ps e) (exp_height e + 1) rest)
unfolding defined_read shaped_read routine_read
function_defined m ps e again n nest round rest high deep enough end =
    rw (lt-ltb 0 round (omega arith), parameters_again ps (A sign.Equal ∷ (whole e ++ rest)), again n (nest - 1) round rest (omega arith) (omega arith) (omega arith) end.remaining (unrepeated e rest end.no_repeat)) refl

pub function_again : (m : List ℕ) (ps : List (List ℕ)) (e : Exp) → WholeAgain e → DefinitionAgain (tree.Function m ps e)
function_again m ps e again n nest round rest high deep enough end =
    let shape : definition_spelling (tree.Function m ps e) ++ rest ≡ Name m ∷ A sign.OpenBracket ∷ (named ps ++ A sign.CloseBracket ∷ A sign.Equal ∷ (whole e ++ rest)) = simp append_assoc in
    ap (definition_of n nest round) shape
    ∙ definition_runs n nest round _ _ (omega arith) enough (λ i le. function_defined m ps e again i nest round rest high deep le end)

routine_defined : (m : List ℕ) (ps : List (List ℕ)) (b : Block) → BlockAgain b → (n nest round : ℕ) (rest : List Part) → block_height b + 1 ≤ nest → max 1 (block_rounds b) ≤ round → nest + round ≤ n + 1 → Quiet rest
    → defined_read (exp_of n) (command_of n) (definition_of n) nest round (Name m ∷ A sign.OpenBracket ∷ (named ps ++ A sign.CloseBracket ∷ A sign.Be ∷ (block_spelling b ++ rest))) ≡ Ok (piece (tree.Routine m ps b) (block_height b + 1) rest)
unfolding defined_read shaped_read routine_read
routine_defined m ps b again n nest round rest high deep enough end =
    rw (lt-ltb 0 round (omega arith), parameters_again ps (A sign.Be ∷ (block_spelling b ++ rest)), body_again b again n (nest - 1) round rest (omega arith) (omega arith) (omega arith) end.no_repeat) refl

pub routine_again : (m : List ℕ) (ps : List (List ℕ)) (b : Block) → BlockAgain b → DefinitionAgain (tree.Routine m ps b)
routine_again m ps b again n nest round rest high deep enough end =
    let shape : definition_spelling (tree.Routine m ps b) ++ rest ≡ Name m ∷ A sign.OpenBracket ∷ (named ps ++ A sign.CloseBracket ∷ A sign.Be ∷ (block_spelling b ++ rest)) = simp append_assoc in
    ap (definition_of n nest round) shape
    ∙ definition_runs n nest round _ _ (omega arith) enough (λ i le. routine_defined m ps b again i nest round rest high deep le end)

-- ---- lists of definitions

abbrev pub DefinitionsAgain : Definitions → Type 0
DefinitionsAgain no_definitions = Unit {0}
DefinitionsAgain (definition d ds) = DefinitionAgain d × DefinitionsAgain ds

abbrev pub append_definitions : Definitions → Definitions → Definitions
append_definitions no_definitions es = es
append_definitions (definition d ds) es = definition d (append_definitions ds es)

append_one_definition : (ds : Definitions) (d : Definition) → append_definitions ds (definition d no_definitions) ≡ add_definition ds d
append_one_definition no_definitions d = refl
append_one_definition (definition c ds) d = ap (λ (r : Definitions). definition c r) (append_one_definition ds d)

pub append_more_definitions : (ds : Definitions) (d : Definition) (es : Definitions) → append_definitions (add_definition ds d) es ≡ append_definitions ds (definition d es)
append_more_definitions no_definitions d es = refl
append_more_definitions (definition c ds) d es = ap (λ (r : Definitions). definition c r) (append_more_definitions ds d es)

abbrev count_definitions : Definitions → ℕ
count_definitions no_definitions = 0
count_definitions (definition d ds) = count_definitions ds + 1

definitions_long : (ds : Definitions) → count_definitions ds ≤ length (definitions_spelling ds)
definitions_long no_definitions = omega arith
definitions_long (definition d ds) = omega (arith, definitions_long ds, length-append (definition_spelling d) (definitions_spelling ds))

last_definition_turn : (n nest round : ℕ) (s : Piece Definitions) (d : Definition) (height : ℕ) (rest : List Part) → definition_of n nest round s.rest ≡ Ok (piece d height rest) → after_of sign.And rest ≡ None
    → definition_turn (exp_of n) (command_of n) (definition_of n) nest round s ≡ Ok (piece (add_definition s.tree d) (max s.height height) rest, true)
unfolding definition_turn
last_definition_turn n nest round s d height rest read no_and = rw (read, no_and) refl

one_definition_turn : (n nest round : ℕ) (s : Piece Definitions) (d : Definition) (height : ℕ) (rest : List Part) → definition_of n nest round s.rest ≡ Ok (piece d height (A sign.And ∷ rest))
    → definition_turn (exp_of n) (command_of n) (definition_of n) nest round s ≡ Ok (piece (add_definition s.tree d) (max s.height height) rest, false)
unfolding definition_turn
one_definition_turn n nest round s d height rest read = rw read refl

definitions_turned : (ds : Definitions) → DefinitionsAgain ds → (d : Definition) → DefinitionAgain d → (n k nest round : ℕ) (found : Definitions) (h : ℕ) (rest : List Part) → count_definitions ds < k
    → definition_height d ≤ nest → definitions_height ds ≤ nest → definition_rounds d ≤ round → definitions_rounds ds ≤ round → nest + round ≤ n → Quiet rest → after_of sign.And rest ≡ None
    → turns (definition_turn (exp_of n) (command_of n) (definition_of n) nest round) k (piece found h (definition_spelling d ++ (definitions_spelling ds ++ rest)))
    ≡ Ok (piece (append_definitions found (definition d ds)) (max h (max (definition_height d) (definitions_height ds))) rest)
definitions_turned ds again d first n zero nest round found h rest long high high_more deep deep_more enough end no_and = absurd (omega arith)
definitions_turned no_definitions again d first n (suc k) nest round found h rest long high high_more deep deep_more enough end no_and =
    let g : max h (definition_height d) ≡ max h (max (definition_height d) 0) = omega arith in
    turn_last (definition_turn (exp_of n) (command_of n) (definition_of n) nest round) k _ _ (last_definition_turn n nest round (piece found h _) d (definition_height d) rest (first n nest round rest high deep enough end) no_and)
    ∙ rw (append_one_definition found d, g) refl
definitions_turned (definition c ds) again d first n (suc k) nest round found h rest long high high_more deep deep_more enough end no_and =
    let step = definition_turn (exp_of n) (command_of n) (definition_of n) nest round in
    let g : max (max h (definition_height d)) (max (definition_height c) (definitions_height ds)) ≡ max h (max (definition_height d) (max (definition_height c) (definitions_height ds))) = omega arith in
    let after : List Part = (definition_spelling c ++ definitions_spelling ds) ++ rest in
    let and_end : Quiet (A sign.And ∷ after) = record { remaining = record { stops = refl; no_comma = refl; no_assign = refl }; no_repeat = refl } in
    turn_next step k (piece found h _) (piece (add_definition found d) (max h (definition_height d)) after)
    (one_definition_turn n nest round (piece found h _) d (definition_height d) after (first n nest round (A sign.And ∷ after) high deep enough and_end))
    ∙ ap (λ (r : List Part). turns step k (piece (add_definition found d) (max h (definition_height d)) r)) (append_assoc (definition_spelling c) (definitions_spelling ds) rest)
    ∙ definitions_turned ds again.1 c again.0 n k nest round (add_definition found d) (max h (definition_height d)) rest (omega arith) (omega arith) (omega arith) (omega arith) (omega arith) enough end no_and
    ∙ rw (append_more_definitions found d (definition c ds), g) refl

definitions_again : (ds : Definitions) → SomeDefinitions ds → DefinitionsAgain ds → (n nest round : ℕ) (rest : List Part) → definitions_height ds ≤ nest → definitions_rounds ds ≤ round → nest + round ≤ n → Quiet rest → after_of sign.And rest ≡ None
    → definitions_read (exp_of n) (command_of n) (definition_of n) nest round (after_first (definitions_spelling ds) ++ rest) ≡ Ok (piece ds (definitions_height ds) rest)
unfolding definitions_read
definitions_again no_definitions some again n nest round rest high deep enough end no_and = absurd some
definitions_again (definition d ds) some again n nest round rest high deep enough end no_and =
    let ts : List Part = definition_spelling d ++ (definitions_spelling ds ++ rest) in
    let long : count_definitions ds < length ts + 1 = omega (arith, definitions_long ds, length-append (definition_spelling d) (definitions_spelling ds ++ rest), length-append (definitions_spelling ds) rest) in
    let g : max 0 (max (definition_height d) (definitions_height ds)) ≡ max (definition_height d) (definitions_height ds) = omega arith in
    rw (
      append_assoc (definition_spelling d) (definitions_spelling ds) rest,
      definitions_turned ds again.1 d again.0 n (length ts + 1) nest round no_definitions 0 rest long (omega arith) (omega arith) (omega arith) (omega arith) enough end no_and,
      g,
    ) refl

-- ---- declarations

-- the word of a declaration, and what is read after it
pub record DeclarationRead (d : Declaration) (n nest round : ℕ) (rest : List Part) : Type 0 where
  pub word : DeclarationWord
  pub after : List Part
  pub front : word_in declaration_word_of (declaration_spelling d ++ rest) ≡ Some (word, after)
  pub read : declaration_read (exp_of n) (command_of n) (definition_of n) nest round word after ≡ Ok (piece d (declaration_height d) rest)
  pub no_separator : separator_of (declaration_spelling d ++ rest) ≡ None
  pub no_close : after_of sign.CloseSection (declaration_spelling d ++ rest) ≡ None
  pub no_end : no_parts (declaration_spelling d ++ rest) ≡ None

abbrev pub DeclarationAgain : Declaration → Type 0
DeclarationAgain d = (n nest round : ℕ) (rest : List Part) → declaration_height d ≤ nest → declaration_rounds d ≤ round → nest + round ≤ n → Quiet rest → after_of sign.And rest ≡ None → DeclarationRead d n nest round rest

let_read : (ds : Definitions) → SomeDefinitions ds → DefinitionsAgain ds → (n nest round : ℕ) (rest : List Part) → definitions_height ds ≤ nest → definitions_rounds ds ≤ round → nest + round ≤ n → Quiet rest → after_of sign.And rest ≡ None
    → declaration_read (exp_of n) (command_of n) (definition_of n) nest round declaration_word.Let (after_first (definitions_spelling ds) ++ rest) ≡ Ok (piece (tree.Let ds) (definitions_height ds) rest)
unfolding declaration_read
let_read ds some again n nest round rest high deep enough end no_and = rw (definitions_again ds some again n nest round rest high deep enough end no_and) refl

pub let_again : (ds : Definitions) → SomeDefinitions ds → DefinitionsAgain ds → DeclarationAgain (tree.Let ds)
let_again ds some again n nest round rest high deep enough end no_and = record {
  word = declaration_word.Let;
  after = after_first (definitions_spelling ds) ++ rest;
  front = refl;
  read = let_read ds some again n nest round rest high deep enough end no_and;
  no_separator = refl;
  no_close = refl;
  no_end = refl;
}

constants_read : (s : Storage) (es : Entries) → EntriesAgain es → (n nest round : ℕ) (rest : List Part) → entries_height es ≤ nest → entries_rounds es ≤ round → nest + round ≤ n
    → declaration_read (exp_of n) (command_of n) (definition_of n) nest round (declaration_word.Constants s) (A sign.OpenSection ∷ ((after_first (entries_spelling (entry_sign s) es) ++ A sign.CloseSection ∷ []) ++ rest)) ≡ Ok (piece (tree.Constants s es) (entries_height es) rest)
unfolding declaration_read
constants_read s es again n nest round rest high deep enough =
    rw (append_assoc (after_first (entries_spelling (entry_sign s) es)) (A sign.CloseSection ∷ []) rest, entries_again s es again n nest round rest high deep enough) refl

pub constants_again : (s : Storage) (es : Entries) → EntriesAgain es → DeclarationAgain (tree.Constants s es)
constants_again storage.Manifest es again n nest round rest high deep enough end no_and =
    record { word = declaration_word.Constants storage.Manifest; after = _; front = refl; read = constants_read storage.Manifest es again n nest round rest high deep enough; no_separator = refl; no_close = refl; no_end = refl }
constants_again storage.Static es again n nest round rest high deep enough end no_and =
    record { word = declaration_word.Constants storage.Static; after = _; front = refl; read = constants_read storage.Static es again n nest round rest high deep enough; no_separator = refl; no_close = refl; no_end = refl }
constants_again storage.Global es again n nest round rest high deep enough end no_and =
    record { word = declaration_word.Constants storage.Global; after = _; front = refl; read = constants_read storage.Global es again n nest round rest high deep enough; no_separator = refl; no_close = refl; no_end = refl }
