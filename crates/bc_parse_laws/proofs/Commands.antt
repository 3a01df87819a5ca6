-- Canonical spellings of bodies and commands are read back.
use Rattle.std.proofs.Common.{◌≡◌, ℕ, zero, suc, ◌-◌, ◌+◌, ◌<◌, ◌≤◌, List, [], ◌∷◌, ◌++◌, max, Result, Ok, refl, ap, ◌∙◌, append_assoc, arith}
use Rattle.std.proofs.lemmas.Bool.{lt-ltb}
use Rattle.bc_lex_tokens.specs.declared.symbol.Symbol.TheVariants as sign
use Rattle.bc_parse_tree.specs.Parts.{Part, A, Name}
use Rattle.bc_parse_tree.specs.Tree.{Exp, Exps, none, more, Block, block, Declarations, no_declarations, declaration, Items, no_items, item, Command}
use Rattle.bc_parse_tree.specs.Tree as tree
use Rattle.bc_parse_tree.specs.Canonical.{whole, part_of, after_first, block_spelling, declarations_spelling, items_spelling, command_spelling}
use Rattle.bc_parse_tree.specs.Height.{exp_height, block_height, items_height, command_height}
use Rattle.bc_parse_defs.specs.declared.words.Places.TheVariants as places
use Rattle.bc_parse_defs.specs.declared.words.Tested.{Tested}
use Rattle.bc_parse_defs.specs.declared.words.Tested.TheVariants as tested
use Rattle.bc_parse_defs.specs.Reading.{Fault, Piece, piece, tested_command, block_read, body_of_block, body_read, do_read, valof_read, started_read, operand_read, places_read, tested_read, test_read, step_read, for_read, switch_read, compound_read, command_read, exp_of, command_of, definition_of}
use Rattle.bc_parse_laws.proofs.Rounds.{part_rounds, exp_rounds, block_rounds, items_rounds, command_rounds}
use Rattle.bc_parse_laws.proofs.Ends.{NoRepeat, After, unrepeated}
use Rattle.bc_parse_laws.proofs.Expressions.{WholeAgain, PartAgain, Operand, operand_alone}

-- here nothing continues a command, and nothing is repeated
pub record Quiet (ts : List Part) : Type 0 where
  pub remaining : After ts
  pub no_repeat : NoRepeat ts

word_after : (ts : List Part) → After (A sign.Do ∷ ts)
word_after ts = record { stops = refl; no_comma = refl; no_assign = refl }

-- ---- bodies

-- what is in a block, and its last bracket
abbrev pub inside : Block → List Part
inside (block ds is) = after_first (declarations_spelling ds ++ items_spelling is) ++ A sign.CloseSection ∷ []

abbrev pub BlockAgain : Block → Type 0
BlockAgain b = (n nest round : ℕ) (rest : List Part) → block_height b ≤ nest → block_rounds b ≤ round → nest + round ≤ n → block_read (exp_of n) (command_of n) (definition_of n) nest round (inside b ++ rest) ≡ Ok (piece b (block_height b) rest)

pub body_again : (b : Block) → BlockAgain b → (n nest round : ℕ) (rest : List Part) → block_height b ≤ nest → block_rounds b ≤ round → nest + round ≤ n → NoRepeat rest
    → body_read (exp_of n) (command_of n) (definition_of n) nest round (block_spelling b ++ rest) ≡ Ok (piece b (block_height b) rest)
unfolding body_read body_of_block
body_again (block ds is) again n nest round rest high deep enough quiet = rw (again n nest round rest high deep enough, quiet) refl

do_again : (b : Block) → BlockAgain b → (n nest round : ℕ) (rest : List Part) → block_height b ≤ nest → block_rounds b ≤ round → nest + round ≤ n → NoRepeat rest
    → do_read (exp_of n) (command_of n) (definition_of n) nest round (A sign.Do ∷ (block_spelling b ++ rest)) ≡ Ok (piece b (block_height b) rest)
unfolding do_read
do_again b again n nest round rest high deep enough quiet = body_again b again n nest round rest high deep enough quiet

valof_operand : (b : Block) → BlockAgain b → (m nest round : ℕ) (rest : List Part) → block_height b + 1 ≤ nest → block_rounds b ≤ round → nest + round ≤ m + 1 → NoRepeat rest
    → Operand m nest round (whole (tree.Valof b) ++ rest) ≡ Ok (piece (tree.Valof b, 12) (block_height b + 1) rest)
unfolding operand_read started_read valof_read
valof_operand b again m nest round rest high deep enough quiet = rw (body_again b again m (nest - 1) round rest (omega arith) deep (omega arith) quiet) refl

pub valof_again : (b : Block) → BlockAgain b → WholeAgain (tree.Valof b)
valof_again b again n nest round rest high deep enough end quiet =
    operand_alone n nest round 1 _ rest (tree.Valof b) 12 (block_height b + 1) (omega arith) enough end.stops (λ m le. valof_operand b again m nest round rest high deep le quiet)

-- ---- commands

abbrev pub CommandAgain : Command → Type 0
CommandAgain c = (n nest round : ℕ) (rest : List Part) → command_height c ≤ nest → command_rounds c ≤ round → nest + round ≤ n → Quiet rest → command_of n nest round (command_spelling c ++ rest) ≡ Ok (piece c (command_height c) rest)

pub command_runs : (n nest round : ℕ) (ts : List Part) (r : Result (Piece Command) Fault) → 0 < nest → nest + round ≤ n
    → ((m : ℕ) → nest + round ≤ m + 1 → command_read (exp_of m) (command_of m) (definition_of m) nest round ts ≡ r) → command_of n nest round ts ≡ r
unfolding command_of
command_runs zero nest round ts r some enough read = absurd (omega arith)
command_runs (suc n) nest round ts r some enough read = rw (lt-ltb 0 nest some) (read n (omega arith))

tested_again : (t : Tested) (e : Exp) (b : Block) → WholeAgain e → BlockAgain b → (m nest round : ℕ) (rest : List Part) → max (exp_height e) (block_height b) + 1 ≤ nest → max (exp_rounds e) (block_rounds b) ≤ round → nest + round ≤ m + 1 → Quiet rest
    → tested_read (exp_of m) (command_of m) (definition_of m) t nest round (whole e ++ A sign.Do ∷ (block_spelling b ++ rest)) ≡ Ok (piece (tested_command t e b) (max (exp_height e) (block_height b) + 1) rest)
unfolding tested_read
tested_again t e b first body m nest round rest high deep enough end =
    rw (
      first m (nest - 1) round (A sign.Do ∷ (block_spelling b ++ rest)) (omega arith) (omega arith) (omega arith) (word_after _) (unrepeated e _ refl),
      do_again b body m (nest - 1) round rest (omega arith) (omega arith) (omega arith) end.no_repeat,
    ) refl

pub if_again : (e : Exp) (b : Block) → WholeAgain e → BlockAgain b → CommandAgain (tree.If e b)
unfolding command_read compound_read
if_again e b first body n nest round rest high deep enough end =
    command_runs n nest round _ _ (omega arith) enough (λ m le. rw (append_assoc (whole e) (A sign.Do ∷ block_spelling b) rest) (tested_again tested.If e b first body m nest round rest high deep le end))

pub unless_again : (e : Exp) (b : Block) → WholeAgain e → BlockAgain b → CommandAgain (tree.Unless e b)
unfolding command_read compound_read
unless_again e b first body n nest round rest high deep enough end =
    command_runs n nest round _ _ (omega arith) enough (λ m le. rw (append_assoc (whole e) (A sign.Do ∷ block_spelling b) rest) (tested_again tested.Unless e b first body m nest round rest high deep le end))

pub while_again : (e : Exp) (b : Block) → WholeAgain e → BlockAgain b → CommandAgain (tree.While e b)
unfolding command_read compound_read
while_again e b first body n nest round rest high deep enough end =
    command_runs n nest round _ _ (omega arith) enough (λ m le. rw (append_assoc (whole e) (A sign.Do ∷ block_spelling b) rest) (tested_again tested.While e b first body m nest round rest high deep le end))

pub until_again : (e : Exp) (b : Block) → WholeAgain e → BlockAgain b → CommandAgain (tree.Until e b)
unfolding command_read compound_read
until_again e b first body n nest round rest high deep enough end =
    command_runs n nest round _ _ (omega arith) enough (λ m le. rw (append_assoc (whole e) (A sign.Do ∷ block_spelling b) rest) (tested_again tested.Until e b first body m nest round rest high deep le end))

test_read_again : (e : Exp) (b d : Block) → WholeAgain e → BlockAgain b → BlockAgain d → (m nest round : ℕ) (rest : List Part) → max (max (exp_height e) (block_height b)) (block_height d) + 1 ≤ nest → max (max (exp_rounds e) (block_rounds b)) (block_rounds d) ≤ round → nest + round ≤ m + 1 → Quiet rest
    → test_read (exp_of m) (command_of m) (definition_of m) nest round (whole e ++ A sign.Do ∷ (block_spelling b ++ A sign.Else ∷ (block_spelling d ++ rest))) ≡ Ok (piece (tree.Test e b d) (max (max (exp_height e) (block_height b)) (block_height d) + 1) rest)
unfolding test_read
test_read_again e b d first body other m nest round rest high deep enough end =
    rw (
      first m (nest - 1) round (A sign.Do ∷ (block_spelling b ++ A sign.Else ∷ (block_spelling d ++ rest))) (omega arith) (omega arith) (omega arith) (word_after _) (unrepeated e _ refl),
      do_again b body m (nest - 1) round (A sign.Else ∷ (block_spelling d ++ rest)) (omega arith) (omega arith) (omega arith) refl,
      body_again d other m (nest - 1) round rest (omega arith) (omega arith) (omega arith) end.no_repeat,
    ) refl

pub test_again : (e : Exp) (b d : Block) → WholeAgain e → BlockAgain b → BlockAgain d → CommandAgain (tree.Test e b d)
unfolding command_read compound_read
test_again e b d first body other n nest round rest high deep enough end =
    let shape : command_spelling (tree.Test e b d) ++ rest ≡ A sign.Test ∷ (whole e ++ A sign.Do ∷ (block_spelling b ++ A sign.Else ∷ (block_spelling d ++ rest))) = simp append_assoc in
    ap (command_of n nest round) shape
    ∙ command_runs n nest round _ _ (omega arith) enough (λ m le. test_read_again e b d first body other m nest round rest high deep le end)

for_read_again : (s : List ℕ) (a z : Exp) (b : Block) → WholeAgain a → WholeAgain z → BlockAgain b → (m nest round : ℕ) (rest : List Part) → max (max (exp_height a) (exp_height z)) (block_height b) + 1 ≤ nest → max (max (exp_rounds a) (exp_rounds z)) (block_rounds b) ≤ round → nest + round ≤ m + 1 → Quiet rest
    → for_read (exp_of m) (command_of m) (definition_of m) nest round (Name s ∷ A sign.Equal ∷ (whole a ++ A sign.To ∷ (whole z ++ A sign.Do ∷ (block_spelling b ++ rest)))) ≡ Ok (piece (tree.For s a z b) (max (max (exp_height a) (exp_height z)) (block_height b) + 1) rest)
unfolding for_read step_read
for_read_again s a z b first last body m nest round rest high deep enough end =
    let g : max (max (max (exp_height a) (exp_height z)) 0) (block_height b) + 1 ≡ max (max (exp_height a) (exp_height z)) (block_height b) + 1 = omega arith in
    rw (
      first m (nest - 1) round (A sign.To ∷ (whole z ++ A sign.Do ∷ (block_spelling b ++ rest))) (omega arith) (omega arith) (omega arith) (record { stops = refl; no_comma = refl; no_assign = refl }) (unrepeated a _ refl),
      last m (nest - 1) round (A sign.Do ∷ (block_spelling b ++ rest)) (omega arith) (omega arith) (omega arith) (word_after _) (unrepeated z _ refl),
      do_again b body m (nest - 1) round rest (omega arith) (omega arith) (omega arith) end.no_repeat,
      g,
    ) refl

pub for_again : (s : List ℕ) (a z : Exp) (b : Block) → WholeAgain a → WholeAgain z → BlockAgain b → CommandAgain (tree.For s a z b)
unfolding command_read compound_read
for_again s a z b first last body n nest round rest high deep enough end =
    let shape : command_spelling (tree.For s a z b) ++ rest ≡ A sign.For ∷ Name s ∷ A sign.Equal ∷ (whole a ++ A sign.To ∷ (whole z ++ A sign.Do ∷ (block_spelling b ++ rest))) = simp append_assoc in
    ap (command_of n nest round) shape
    ∙ command_runs n nest round _ _ (omega arith) enough (λ m le. for_read_again s a z b first last body m nest round rest high deep le end)

for_by_read_again : (s : List ℕ) (a z k : Exp) (b : Block) → WholeAgain a → WholeAgain z → PartAgain k → BlockAgain b → (m nest round : ℕ) (rest : List Part) → max (max (max (exp_height a) (exp_height z)) (exp_height k)) (block_height b) + 1 ≤ nest → max (max (max (exp_rounds a) (exp_rounds z)) (part_rounds k (exp_rounds k))) (block_rounds b) ≤ round → nest + round ≤ m + 1 → Quiet rest
    → for_read (exp_of m) (command_of m) (definition_of m) nest round (Name s ∷ A sign.Equal ∷ (whole a ++ A sign.To ∷ (whole z ++ A sign.By ∷ (part_of k (whole k) ++ A sign.Do ∷ (block_spelling b ++ rest))))) ≡ Ok (piece (tree.ForBy s a z k b) (max (max (max (exp_height a) (exp_height z)) (exp_height k)) (block_height b) + 1) rest)
unfolding for_read step_read
for_by_read_again s a z k b first last by body m nest round rest high deep enough end =
    let after_last : List Part = part_of k (whole k) ++ A sign.Do ∷ (block_spelling b ++ rest) in
    rw (
      first m (nest - 1) round (A sign.To ∷ (whole z ++ A sign.By ∷ (part_of k (whole k) ++ A sign.Do ∷ (block_spelling b ++ rest)))) (omega arith) (omega arith) (omega arith) (record { stops = refl; no_comma = refl; no_assign = refl }) (unrepeated a _ refl),
      last m (nest - 1) round (A sign.By ∷ (part_of k (whole k) ++ A sign.Do ∷ (block_spelling b ++ rest))) (omega arith) (omega arith) (omega arith) (record { stops = refl; no_comma = refl; no_assign = refl }) (unrepeated z _ refl),
      by m (nest - 1) round 2 (A sign.Do ∷ (block_spelling b ++ rest)) (omega arith) (omega arith) (omega arith) refl,
      do_again b body m (nest - 1) round rest (omega arith) (omega arith) (omega arith) end.no_repeat,
    ) refl

pub for_by_again : (s : List ℕ) (a z k : Exp) (b : Block) → WholeAgain a → WholeAgain z → PartAgain k → BlockAgain b → CommandAgain (tree.ForBy s a z k b)
unfolding command_read compound_read
for_by_again s a z k b first last by body n nest round rest high deep enough end =
    let shape : command_spelling (tree.ForBy s a z k b) ++ rest ≡ A sign.For ∷ Name s ∷ A sign.Equal ∷ (whole a ++ A sign.To ∷ (whole z ++ A sign.By ∷ (part_of k (whole k) ++ A sign.Do ∷ (block_spelling b ++ rest)))) = simp append_assoc in
    ap (command_of n nest round) shape
    ∙ command_runs n nest round _ _ (omega arith) enough (λ m le. for_by_read_again s a z k b first last by body m nest round rest high deep le end)

abbrev pub CasesAgain : Items → Type 0
CasesAgain is = (n nest round : ℕ) (rest : List Part) → items_height is ≤ nest → items_rounds is ≤ round → nest + round ≤ n
    → places_read (exp_of n) (command_of n) (definition_of n) places.Cases nest round (after_first (items_spelling is) ++ A sign.CloseSection ∷ rest) ≡ Ok (piece (no_declarations, is) (items_height is) rest)

switch_read_again : (e : Exp) (is : Items) → WholeAgain e → CasesAgain is → (m nest round : ℕ) (rest : List Part) → max (exp_height e) (items_height is) + 1 ≤ nest → max (exp_rounds e) (items_rounds is) ≤ round → nest + round ≤ m + 1
    → switch_read (exp_of m) (command_of m) (definition_of m) nest round (whole e ++ A sign.Into ∷ A sign.OpenSection ∷ (after_first (items_spelling is) ++ A sign.CloseSection ∷ rest)) ≡ Ok (piece (tree.SwitchOn e is) (max (exp_height e) (items_height is) + 1) rest)
unfolding switch_read
switch_read_again e is first cases m nest round rest high deep enough =
    rw (
      first m (nest - 1) round (A sign.Into ∷ A sign.OpenSection ∷ (after_first (items_spelling is) ++ A sign.CloseSection ∷ rest)) (omega arith) (omega arith) (omega arith) (record { stops = refl; no_comma = refl; no_assign = refl }) (unrepeated e _ refl),
      cases m (nest - 1) round rest (omega arith) (omega arith) (omega arith),
    ) refl

pub switch_again : (e : Exp) (is : Items) → WholeAgain e → CasesAgain is → CommandAgain (tree.SwitchOn e is)
unfolding command_read compound_read
switch_again e is first cases n nest round rest high deep enough end =
    let shape : command_spelling (tree.SwitchOn e is) ++ rest ≡ A sign.SwitchOn ∷ (whole e ++ A sign.Into ∷ A sign.OpenSection ∷ (after_first (items_spelling is) ++ A sign.CloseSection ∷ rest)) = simp append_assoc in
    ap (command_of n nest round) shape
    ∙ command_runs n nest round _ _ (omega arith) enough (λ m le. switch_read_again e is first cases m nest round rest high deep le)
