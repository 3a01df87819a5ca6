-- Canonical spellings of items and blocks are read back.
use Rattle.std.proofs.Common.{◌≡◌, ℕ, zero, suc, ◌-◌, ◌+◌, ◌<◌, ◌≤◌, Bool, true, false, ◌&&◌, cond, List, [], ◌∷◌, ◌++◌, length, max, Some, None, Result, Ok, refl, sym, ap, subst, ◌∙◌, append_assoc, arith}
use Rattle.std.proofs.Math.Numerals.{add-one}
use Rattle.std.proofs.lemmas.List.{length-append}
use Rattle.bc_lex_tokens.specs.declared.symbol.Symbol.TheVariants as sign
use Rattle.bc_parse_tree.specs.Parts.{Part, A}
use Rattle.bc_parse_tree.specs.Tree.{Exp, Exps, none, more, Block, block, Declaration, Declarations, no_declarations, declaration, Entries, no_entries, entry, Definition, Definitions, no_definitions, definition, Item, Labelled, Labels_alone, Items, no_items, item, Label, Labels, no_labels, label, Command}
use Rattle.bc_parse_tree.specs.Tree as tree
use Rattle.bc_parse_tree.specs.Spelling.{add_declaration, add_item}
use Rattle.bc_parse_tree.specs.Canonical.{declaration_spelling, declarations_spelling, item_spelling, items_spelling, labels_spelling, command_spelling, after_first}
use Rattle.bc_parse_tree.specs.Height.{block_height, item_height, items_height, declaration_height, declarations_height}
use Rattle.bc_parse_defs.specs.declared.words.Places.{Places}
use Rattle.bc_parse_defs.specs.declared.words.Places.TheVariants as places
use Rattle.bc_parse_defs.specs.declared.words.DeclarationWord.{DeclarationWord}
use Rattle.bc_parse_defs.specs.Reading.{Fault, Piece, piece, turns, after_of, separator_of, no_parts, end_of, place_end, word_in, declaration_word_of, label_start, NoLabel, is_place_end, no_item_yet, may_command, declares, item_read, declaration_read, part_read, place_turn, places_read, block_read, exp_of, command_of, definition_of}
use Rattle.bc_parse_laws.proofs.Rounds.{block_rounds, item_rounds, items_rounds, declaration_rounds, declarations_rounds}
use Rattle.bc_parse_laws.proofs.Formed.{EndsInNoValof, SomeLabels, FormedCommand}
use Rattle.bc_parse_laws.proofs.Ends.{turn_last, turn_next, ItemHead, command_head}
use Rattle.bc_parse_laws.proofs.Lists.{LabelsAgain, labels_again}
use Rattle.bc_parse_laws.proofs.Commands.{Quiet, BlockAgain, inside, CommandAgain, CasesAgain}
use Rattle.bc_parse_laws.proofs.Definitions.{DeclarationRead, DeclarationAgain}

-- ---- items

-- a place ends here
pub record PlaceAfter (ts : List Part) : Type 0 where
  pub quiet : Quiet ts
  pub no_label : label_start ts ≡ NoLabel
  pub is_end : is_place_end ts ≡ true

abbrev pub ItemRead : Item → Type 0
ItemRead i = (n nest round : ℕ) (rest : List Part) → item_height i ≤ nest → item_rounds i ≤ round → nest + round ≤ n → PlaceAfter rest
    → item_read (exp_of n) (command_of n) (definition_of n) nest round (item_spelling i ++ rest) ≡ Ok (piece i (item_height i) rest)

abbrev pub ItemAgain : Item → Type 0
ItemAgain i = ((ts : List Part) → ItemHead (item_spelling i ++ ts)) × ItemRead i

abbrev pub ItemsAgain : Items → Type 0
ItemsAgain no_items = Unit {0}
ItemsAgain (item i is) = ItemAgain i × ItemsAgain is

labels_head : (ls : Labels) → SomeLabels ls → (ts : List Part) → ItemHead (labels_spelling ls ++ ts)
labels_head no_labels some ts = absurd some
labels_head (label (tree.Case k) ls) some ts = record { no_separator = refl; no_close = refl; no_declaration = refl }
labels_head (label tree.Default ls) some ts = record { no_separator = refl; no_close = refl; no_declaration = refl }
labels_head (label (tree.Named n) ls) some ts = record { no_separator = refl; no_close = refl; no_declaration = refl }

labelled_head : (ls : Labels) (c : Command) → FormedCommand EndsInNoValof c → (ts : List Part) → ItemHead (item_spelling (Labelled ls c) ++ ts)
labelled_head no_labels c formed ts = let h = command_head c formed ts in record { no_separator = h.no_separator; no_close = h.no_close; no_declaration = h.no_declaration }
labelled_head (label l ls) c formed ts = subst ItemHead (sym (append_assoc (labels_spelling (label l ls)) (command_spelling c) ts)) (labels_head (label l ls) tt (command_spelling c ++ ts))

and_no : (b : Bool) → (b && false) ≡ false
and_no true = refl
and_no false = refl

labelled_read : (ls : Labels) (c : Command) → FormedCommand EndsInNoValof c → LabelsAgain ls → CommandAgain c → ItemRead (Labelled ls c)
unfolding item_read
labelled_read ls c formed first second n nest round rest high deep enough end =
    let head = command_head c formed rest in
    rw (
      append_assoc (labels_spelling ls) (command_spelling c) rest,
      labels_again ls first n nest round (command_spelling c ++ rest) (omega arith) (omega arith) enough head.no_label,
      head.no_separator,
      head.no_close,
      and_no,
      second n nest round rest (omega arith) (omega arith) enough end.quiet,
    ) refl

pub labelled_again : (ls : Labels) (c : Command) → FormedCommand EndsInNoValof c → LabelsAgain ls → CommandAgain c → ItemAgain (Labelled ls c)
labelled_again ls c formed first second = (labelled_head ls c formed, labelled_read ls c formed first second)

alone_read : (ls : Labels) → SomeLabels ls → LabelsAgain ls → ItemRead (Labels_alone ls)
unfolding item_read
alone_read no_labels some again n nest round rest high deep enough end = absurd some
alone_read (label l ls) some again n nest round rest high deep enough end = rw (labels_again (label l ls) again n nest round rest high deep enough end.no_label, end.is_end) refl

pub alone_again : (ls : Labels) → SomeLabels ls → LabelsAgain ls → ItemAgain (Labels_alone ls)
alone_again ls some again = (labels_head ls some, alone_read ls some again)

-- ---- places

abbrev pub append_items : Items → Items → Items
append_items no_items is = is
append_items (item i is) js = item i (append_items is js)

pub append_one_item : (is : Items) (i : Item) → append_items is (item i no_items) ≡ add_item is i
append_one_item no_items i = refl
append_one_item (item h is) i = ap (λ (r : Items). item h r) (append_one_item is i)

pub append_more_items : (is : Items) (i : Item) (js : Items) → append_items (add_item is i) js ≡ append_items is (item i js)
append_more_items no_items i js = refl
append_more_items (item h is) i js = ap (λ (r : Items). item h r) (append_more_items is i js)

abbrev count_items : Items → ℕ
count_items no_items = 0
count_items (item i is) = count_items is + 1

items_long : (is : Items) → count_items is ≤ length (items_spelling is)
items_long no_items = omega arith
items_long (item i is) = omega (arith, items_long is, length-append (item_spelling i) (items_spelling is))

abbrev pub DeclarationsAgain : Declarations → Type 0
DeclarationsAgain no_declarations = Unit {0}
DeclarationsAgain (declaration d ds) = DeclarationAgain d × DeclarationsAgain ds

abbrev pub append_declarations : Declarations → Declarations → Declarations
append_declarations no_declarations es = es
append_declarations (declaration d ds) es = declaration d (append_declarations ds es)

pub append_one_declaration : (ds : Declarations) (d : Declaration) → append_declarations ds (declaration d no_declarations) ≡ add_declaration ds d
append_one_declaration no_declarations d = refl
append_one_declaration (declaration c ds) d = ap (λ (r : Declarations). declaration c r) (append_one_declaration ds d)

pub append_more_declarations : (ds : Declarations) (d : Declaration) (es : Declarations) → append_declarations (add_declaration ds d) es ≡ append_declarations ds (declaration d es)
append_more_declarations no_declarations d es = refl
append_more_declarations (declaration c ds) d es = ap (λ (r : Declarations). declaration c r) (append_more_declarations ds d es)

abbrev pub count_declarations : Declarations → ℕ
count_declarations no_declarations = 0
count_declarations (declaration d ds) = count_declarations ds + 1

pub declarations_long : (ds : Declarations) → count_declarations ds ≤ length (declarations_spelling ds)
declarations_long no_declarations = omega arith
declarations_long (declaration d ds) = omega (arith, declarations_long ds, length-append (declaration_spelling d) (declarations_spelling ds))

-- the turn of one part
module _ (mode : Places) (n nest round : ℕ) where
  abbrev step : Piece (Declarations × Items) → Result (Piece (Declarations × Items) × Bool) Fault
  step = place_turn (exp_of n) (command_of n) (definition_of n) mode nest round

  part_turn : (s : Piece (Declarations × Items)) (t : Declarations × Items) (height : ℕ) (tail after : List Part) (last : Bool) → end_of mode s.rest ≡ None → separator_of s.rest ≡ None
      → part_read (exp_of n) (command_of n) (definition_of n) mode nest round s ≡ Ok (piece t height tail) → place_end mode tail ≡ Ok (after, last) → step s ≡ Ok (piece t height after, last)
  unfolding place_turn
  part_turn s t height tail after last no_end no_separator read then = rw (no_end, no_separator, read, then) refl

  pub end_turn : (s : Piece (Declarations × Items)) (after : List Part) → end_of mode s.rest ≡ Some after → step s ≡ Ok (piece s.tree s.height after, true)
  unfolding place_turn
  end_turn s after is = rw is refl

  item_part : (s : Piece (Declarations × Items)) (i : Item) (height : ℕ) (rest : List Part) → declares mode (no_item_yet s.tree.1) s.rest ≡ None → may_command mode ≡ true
      → item_read (exp_of n) (command_of n) (definition_of n) nest round s.rest ≡ Ok (piece i height rest)
      → part_read (exp_of n) (command_of n) (definition_of n) mode nest round s ≡ Ok (piece (s.tree.0, add_item s.tree.1 i) (max s.height height) rest)
  unfolding part_read
  item_part s i height rest no_declaration may read = rw (no_declaration, may, read) refl

  declaration_part : (s : Piece (Declarations × Items)) (d : Declaration) (height : ℕ) (w : DeclarationWord) (after rest : List Part) → declares mode (no_item_yet s.tree.1) s.rest ≡ Some (w, after)
      → declaration_read (exp_of n) (command_of n) (definition_of n) nest round w after ≡ Ok (piece d height rest)
      → part_read (exp_of n) (command_of n) (definition_of n) mode nest round s ≡ Ok (piece (add_declaration s.tree.0 d, s.tree.1) (max s.height height) rest)
  unfolding part_read
  declaration_part s d height w after rest is read = rw (is, read) refl

-- a list with items
abbrev pub HasItems : Places → Type 0
HasItems places.Section = ⊥
HasItems places.Block = Unit {0}
HasItems places.Cases = Unit {0}

-- a list with declarations
abbrev pub HasDeclarations : Places → Type 0
HasDeclarations places.Section = Unit {0}
HasDeclarations places.Block = Unit {0}
HasDeclarations places.Cases = ⊥

item_begins : (mode : Places) → HasItems mode → (first : Bool) (ts : List Part) → ItemHead ts → (end_of mode ts ≡ None) × (declares mode first ts ≡ None) × (may_command mode ≡ true)
item_begins places.Section has first ts head = absurd has
item_begins places.Block has true ts head = (head.no_close, head.no_declaration, refl)
item_begins places.Block has false ts head = (head.no_close, refl, refl)
item_begins places.Cases has first ts head = (head.no_close, refl, refl)

item_ends : (mode : Places) → HasItems mode → (rest : List Part) → place_end mode (A sign.CloseSection ∷ rest) ≡ Ok (rest, true)
item_ends places.Section has rest = absurd has
item_ends places.Block has rest = refl
item_ends places.Cases has rest = refl

close_after : (rest : List Part) → PlaceAfter (A sign.CloseSection ∷ rest)
close_after rest = record { quiet = record { remaining = record { stops = refl; no_comma = refl; no_assign = refl }; no_repeat = refl }; no_label = refl; is_end = refl }

semicolon_after : (rest : List Part) → PlaceAfter (A sign.Semicolon ∷ rest)
semicolon_after rest = record { quiet = record { remaining = record { stops = refl; no_comma = refl; no_assign = refl }; no_repeat = refl }; no_label = refl; is_end = refl }

-- one item's turn
item_turn : (mode : Places) → HasItems mode → (i : Item) → ItemAgain i → (n nest round : ℕ) (s : Piece (Declarations × Items)) (tail after : List Part) (last : Bool) → s.rest ≡ item_spelling i ++ tail → item_height i ≤ nest → item_rounds i ≤ round → nest + round ≤ n
    → PlaceAfter tail → place_end mode tail ≡ Ok (after, last)
    → place_turn (exp_of n) (command_of n) (definition_of n) mode nest round s ≡ Ok (piece (s.tree.0, add_item s.tree.1 i) (max s.height (item_height i)) after, last)
item_turn mode has i again n nest round s tail after last front high deep enough remaining then =
    let head = subst ItemHead (sym front) (again.0 tail) in
    let begins = item_begins mode has (no_item_yet s.tree.1) s.rest head in
    let read = ap (item_read (exp_of n) (command_of n) (definition_of n) nest round) front ∙ again.1 n nest round tail high deep enough remaining in
    part_turn mode n nest round s (s.tree.0, add_item s.tree.1 i) (max s.height (item_height i)) tail after last begins.0 head.no_separator
    (item_part mode n nest round s i (item_height i) tail begins.1 begins.2 read) then

semicolon_ends : (mode : Places) (after : List Part) → place_end mode (A sign.Semicolon ∷ after) ≡ Ok (after, false)
semicolon_ends mode after = refl

items_turned : (mode : Places) → HasItems mode → (is : Items) → ItemsAgain is → (i : Item) → ItemAgain i → (n k nest round : ℕ) (ds : Declarations) (found : Items) (h : ℕ) (rest : List Part) → count_items is < k
    → item_height i ≤ nest → items_height is ≤ nest → item_rounds i ≤ round → items_rounds is ≤ round → nest + round ≤ n
    → turns (place_turn (exp_of n) (command_of n) (definition_of n) mode nest round) k (piece (ds, found) h (item_spelling i ++ (items_spelling is ++ A sign.CloseSection ∷ rest)))
    ≡ Ok (piece (ds, append_items found (item i is)) (max h (max (item_height i) (items_height is))) rest)
items_turned mode has is again i first n zero nest round ds found h rest long high high_more deep deep_more enough = absurd (omega arith)
items_turned mode has no_items again i first n (suc k) nest round ds found h rest long high high_more deep deep_more enough =
    let g : max h (item_height i) ≡ max h (max (item_height i) 0) = omega arith in
    turn_last (place_turn (exp_of n) (command_of n) (definition_of n) mode nest round) k _ _
    (item_turn mode has i first n nest round (piece (ds, found) h _) (A sign.CloseSection ∷ rest) rest true refl high deep enough (close_after rest) (item_ends mode has rest))
    ∙ rw (append_one_item found i, g) refl
items_turned mode has (item j is) again i first n (suc k) nest round ds found h rest long high high_more deep deep_more enough =
    let after : List Part = (item_spelling j ++ items_spelling is) ++ A sign.CloseSection ∷ rest in
    let g : max (max h (item_height i)) (max (item_height j) (items_height is)) ≡ max h (max (item_height i) (max (item_height j) (items_height is))) = omega arith in
    turn_next (place_turn (exp_of n) (command_of n) (definition_of n) mode nest round) k _ _
    (item_turn mode has i first n nest round (piece (ds, found) h _) (A sign.Semicolon ∷ after) after false refl high deep enough (semicolon_after after) (semicolon_ends mode after))
    ∙ ap (λ (r : List Part). turns (place_turn (exp_of n) (command_of n) (definition_of n) mode nest round) k (piece (ds, add_item found i) (max h (item_height i)) r)) (append_assoc (item_spelling j) (items_spelling is) (A sign.CloseSection ∷ rest))
    ∙ items_turned mode has is again.1 j again.0 n k nest round ds (add_item found i) (max h (item_height i)) rest (omega arith) (omega arith) (omega arith) (omega arith) (omega arith) enough
    ∙ rw (append_more_items found i (item j is), g) refl

-- one declaration's turn
declaration_begins : (mode : Places) → HasDeclarations mode → (d : Declaration) (n nest round : ℕ) (rest ts : List Part) → ts ≡ declaration_spelling d ++ rest → (r : DeclarationRead d n nest round rest) → (end_of mode ts ≡ None) × (declares mode true ts ≡ Some (r.word, r.after))
declaration_begins places.Section has d n nest round rest ts is r = (ap no_parts is ∙ r.no_end, ap (word_in declaration_word_of) is ∙ r.front)
declaration_begins places.Block has d n nest round rest ts is r = (ap (after_of sign.CloseSection) is ∙ r.no_close, ap (word_in declaration_word_of) is ∙ r.front)
declaration_begins places.Cases has d n nest round rest ts is r = absurd has

declaration_turn : (mode : Places) → HasDeclarations mode → (d : Declaration) → DeclarationAgain d → (n nest round : ℕ) (s : Piece (Declarations × Items)) (tail after : List Part) (last : Bool) → s.rest ≡ declaration_spelling d ++ tail → s.tree.1 ≡ no_items → declaration_height d ≤ nest → declaration_rounds d ≤ round → nest + round ≤ n
    → Quiet tail → after_of sign.And tail ≡ None → place_end mode tail ≡ Ok (after, last)
    → place_turn (exp_of n) (command_of n) (definition_of n) mode nest round s ≡ Ok (piece (add_declaration s.tree.0 d, s.tree.1) (max s.height (declaration_height d)) after, last)
declaration_turn mode has d again n nest round s tail after last front no_item high deep enough end no_and then =
    let r = again n nest round tail high deep enough end no_and in
    let begins = declaration_begins mode has d n nest round tail s.rest front r in
    let first : declares mode (no_item_yet s.tree.1) s.rest ≡ Some (r.word, r.after) = ap (λ (is : Items). declares mode (no_item_yet is) s.rest) no_item ∙ begins.1 in
    part_turn mode n nest round s (add_declaration s.tree.0 d, s.tree.1) (max s.height (declaration_height d)) tail after last begins.0 (ap separator_of front ∙ r.no_separator)
    (declaration_part mode n nest round s d (declaration_height d) r.word r.after tail first r.read) then

turn_either : {X : Type 0} (step : Piece X → Result (Piece X × Bool) Fault) (k : ℕ) (s t : Piece X) (last : Bool) → step s ≡ Ok (t, last) → turns step (suc k) s ≡ cond last (Ok t) (turns step k t)
turn_either step k s t true e = turn_last step k s t e
turn_either step k s t false e = turn_next step k s t e

-- declarations, and then the end or the first item
pub declarations_turned : (mode : Places) → HasDeclarations mode → (ds : Declarations) → DeclarationsAgain ds → (d : Declaration) → DeclarationAgain d → (n j k nest round : ℕ) (found : Declarations) (h : ℕ) (tail after : List Part) (last : Bool) → j ≡ count_declarations ds + suc k
    → declaration_height d ≤ nest → declarations_height ds ≤ nest → declaration_rounds d ≤ round → declarations_rounds ds ≤ round → nest + round ≤ n → Quiet tail → after_of sign.And tail ≡ None → place_end mode tail ≡ Ok (after, last)
    → turns (place_turn (exp_of n) (command_of n) (definition_of n) mode nest round) j (piece (found, no_items) h (declaration_spelling d ++ (declarations_spelling ds ++ tail)))
    ≡ cond last (Ok (piece (append_declarations found (declaration d ds), no_items) (max h (max (declaration_height d) (declarations_height ds))) after))
    (turns (place_turn (exp_of n) (command_of n) (definition_of n) mode nest round) k (piece (append_declarations found (declaration d ds), no_items) (max h (max (declaration_height d) (declarations_height ds))) after))
declarations_turned mode has ds again d first n zero k nest round found h tail after last is high high_more deep deep_more enough end no_and then = absurd (omega arith)
declarations_turned mode has no_declarations again d first n (suc j) k nest round found h tail after last is high high_more deep deep_more enough end no_and then =
    let same : j ≡ k = omega arith in
    let g : max h (declaration_height d) ≡ max h (max (declaration_height d) 0) = omega arith in
    turn_either (place_turn (exp_of n) (command_of n) (definition_of n) mode nest round) j _ _ last
    (declaration_turn mode has d first n nest round (piece (found, no_items) h _) tail after last refl refl high deep enough end no_and then)
    ∙ rw (append_one_declaration found d, g, same) refl
declarations_turned mode has (declaration c ds) again d first n (suc j) k nest round found h tail after last is high high_more deep deep_more enough end no_and then =
    let between : List Part = (declaration_spelling c ++ declarations_spelling ds) ++ tail in
    let remaining : Quiet (A sign.Semicolon ∷ between) = (semicolon_after between).quiet in
    let g : max (max h (declaration_height d)) (max (declaration_height c) (declarations_height ds)) ≡ max h (max (declaration_height d) (max (declaration_height c) (declarations_height ds))) = omega arith in
    turn_next (place_turn (exp_of n) (command_of n) (definition_of n) mode nest round) j _ _
    (declaration_turn mode has d first n nest round (piece (found, no_items) h _) (A sign.Semicolon ∷ between) between false refl refl high deep enough remaining refl (semicolon_ends mode between))
    ∙ ap (λ (r : List Part). turns (place_turn (exp_of n) (command_of n) (definition_of n) mode nest round) j (piece (add_declaration found d, no_items) (max h (declaration_height d)) r)) (append_assoc (declaration_spelling c) (declarations_spelling ds) tail)
    ∙ declarations_turned mode has ds again.1 c again.0 n j k nest round (add_declaration found d) (max h (declaration_height d)) tail after last (omega arith) (omega arith) (omega arith) (omega arith) (omega arith) enough end no_and then
    ∙ rw (append_more_declarations found d (declaration c ds), g) refl

-- ---- blocks

items_place : (mode : Places) → HasItems mode → (i : Item) (is : Items) → ItemAgain i → ItemsAgain is → (n nest round : ℕ) (rest : List Part) → items_height (item i is) ≤ nest → items_rounds (item i is) ≤ round → nest + round ≤ n
    → places_read (exp_of n) (command_of n) (definition_of n) mode nest round (after_first (items_spelling (item i is)) ++ A sign.CloseSection ∷ rest) ≡ Ok (piece (no_declarations, item i is) (items_height (item i is)) rest)
unfolding places_read
items_place mode has i is first again n nest round rest high deep enough =
    let ts : List Part = item_spelling i ++ (items_spelling is ++ A sign.CloseSection ∷ rest) in
    let long : count_items is < length ts + 1 = omega (arith, items_long is, length-append (item_spelling i) (items_spelling is ++ A sign.CloseSection ∷ rest), length-append (items_spelling is) (A sign.CloseSection ∷ rest)) in
    let g : max 0 (max (item_height i) (items_height is)) ≡ max (item_height i) (items_height is) = omega arith in
    rw (
      append_assoc (item_spelling i) (items_spelling is) (A sign.CloseSection ∷ rest),
      items_turned mode has is again i first n (length ts + 1) nest round no_declarations no_items 0 rest long (omega arith) (omega arith) (omega arith) (omega arith) enough,
      g,
    ) refl

nothing_place : (mode : Places) → HasItems mode → (n nest round : ℕ) (rest : List Part) → places_read (exp_of n) (command_of n) (definition_of n) mode nest round (A sign.CloseSection ∷ rest) ≡ Ok (piece (no_declarations, no_items) 0 rest)
unfolding places_read
nothing_place mode has n nest round rest =
    rw (add-one (suc (length rest))) (turn_last (place_turn (exp_of n) (command_of n) (definition_of n) mode nest round) (suc (length rest)) _ _ (end_turn mode n nest round (piece (no_declarations, no_items) 0 (A sign.CloseSection ∷ rest)) rest (ends mode has)))
  where
    ends : (mode : Places) → HasItems mode → end_of mode (A sign.CloseSection ∷ rest) ≡ Some rest
    ends places.Section has = absurd has
    ends places.Block has = refl
    ends places.Cases has = refl

pub cases_again : (is : Items) → ItemsAgain is → CasesAgain is
cases_again no_items again n nest round rest high deep enough = nothing_place places.Cases tt n nest round rest
cases_again (item i is) again n nest round rest high deep enough = items_place places.Cases tt i is again.0 again.1 n nest round rest high deep enough

abbrev BlockPlaces : Declarations → Items → Type 0
BlockPlaces ds is = (n nest round : ℕ) (rest : List Part) → block_height (block ds is) ≤ nest → block_rounds (block ds is) ≤ round → nest + round ≤ n
    → places_read (exp_of n) (command_of n) (definition_of n) places.Block nest round (inside (block ds is) ++ rest) ≡ Ok (piece (ds, is) (block_height (block ds is)) rest)

block_places : (ds : Declarations) (is : Items) → DeclarationsAgain ds → ItemsAgain is → BlockPlaces ds is
unfolding places_read
block_places no_declarations no_items first second n nest round rest high deep enough =
    nothing_place places.Block tt n nest round rest ∙ let g : 0 ≡ max 0 0 = omega arith in ap (λ (h : ℕ). Ok (piece (no_declarations, no_items) h rest)) g
block_places no_declarations (item i is) first second n nest round rest high deep enough =
    let g : items_height (item i is) ≡ max 0 (items_height (item i is)) = omega arith in
    ap (places_read (exp_of n) (command_of n) (definition_of n) places.Block nest round) (append_assoc (item_spelling i ++ items_spelling is) (A sign.CloseSection ∷ []) rest)
    ∙ items_place places.Block tt i is second.0 second.1 n nest round rest (omega arith) (omega arith) enough
    ∙ ap (λ (h : ℕ). Ok (piece (no_declarations, item i is) h rest)) g
block_places (declaration d ds) no_items first second n nest round rest high deep enough =
    let shape : inside (block (declaration d ds) no_items) ++ rest ≡ declaration_spelling d ++ (declarations_spelling ds ++ A sign.CloseSection ∷ rest) = simp append_assoc in
    let ts : List Part = declaration_spelling d ++ (declarations_spelling ds ++ A sign.CloseSection ∷ rest) in
    let k : ℕ = length ts - count_declarations ds in
    let long : length ts + 1 ≡ count_declarations ds + suc k = omega (arith, declarations_long ds, length-append (declaration_spelling d) (declarations_spelling ds ++ A sign.CloseSection ∷ rest), length-append (declarations_spelling ds) (A sign.CloseSection ∷ rest)) in
    let g : max 0 (max (declaration_height d) (declarations_height ds)) ≡ max (max (declaration_height d) (declarations_height ds)) 0 = omega arith in
    ap (places_read (exp_of n) (command_of n) (definition_of n) places.Block nest round) shape
    ∙ declarations_turned places.Block tt ds first.1 d first.0 n (length ts + 1) k nest round no_declarations 0 (A sign.CloseSection ∷ rest) rest true long (omega arith) (omega arith) (omega arith) (omega arith) enough (close_after rest).quiet refl refl
    ∙ ap (λ (h : ℕ). Ok (piece (declaration d ds, no_items) h rest)) g
block_places (declaration d ds) (item i is) first second n nest round rest high deep enough =
    let after : List Part = item_spelling i ++ (items_spelling is ++ A sign.CloseSection ∷ rest) in
    let shape : inside (block (declaration d ds) (item i is)) ++ rest ≡ declaration_spelling d ++ (declarations_spelling ds ++ A sign.Semicolon ∷ after) = simp append_assoc in
    let ts : List Part = declaration_spelling d ++ (declarations_spelling ds ++ A sign.Semicolon ∷ after) in
    let k : ℕ = length ts - count_declarations ds in
    let size : length ts ≡ length (declaration_spelling d) + (length (declarations_spelling ds) + (length (item_spelling i) + (length (items_spelling is) + (length rest + 1)) + 1)) =
    omega (arith, length-append (declaration_spelling d) (declarations_spelling ds ++ A sign.Semicolon ∷ after), length-append (declarations_spelling ds) (A sign.Semicolon ∷ after), length-append (item_spelling i) (items_spelling is ++ A sign.CloseSection ∷ rest), length-append (items_spelling is) (A sign.CloseSection ∷ rest)) in
    let long : length ts + 1 ≡ count_declarations ds + suc k = omega (arith, size, declarations_long ds) in
    let items_fit : count_items is < k = omega (arith, size, declarations_long ds, items_long is) in
    let g : max (max 0 (max (declaration_height d) (declarations_height ds))) (max (item_height i) (items_height is)) ≡ max (max (declaration_height d) (declarations_height ds)) (max (item_height i) (items_height is)) = omega arith in
    ap (places_read (exp_of n) (command_of n) (definition_of n) places.Block nest round) shape
    ∙ declarations_turned places.Block tt ds first.1 d first.0 n (length ts + 1) k nest round no_declarations 0 (A sign.Semicolon ∷ after) after false long (omega arith) (omega arith) (omega arith) (omega arith) enough (semicolon_after after).quiet refl refl
    ∙ items_turned places.Block tt is second.1 i second.0 n k nest round (declaration d ds) no_items (max 0 (max (declaration_height d) (declarations_height ds))) rest items_fit (omega arith) (omega arith) (omega arith) (omega arith) enough
    ∙ ap (λ (h : ℕ). Ok (piece (declaration d ds, item i is) h rest)) g

pub block_again : (ds : Declarations) (is : Items) → DeclarationsAgain ds → ItemsAgain is → BlockAgain (block ds is)
unfolding block_read
block_again ds is first second n nest round rest high deep enough = rw (block_places ds is first second n nest round rest high deep enough) refl
