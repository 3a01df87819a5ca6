-- Weights of commands, which decrease in the generator's recursion: it goes down the trees, and from a VALOF's body only to VALOFs
-- of greater numbers.
use Rattle.std.proofs.Common.{ℕ, zero, suc, ◌+◌, ◌*◌, ◌≡◌, ◌≤◌, ◌<◌, List, [], ◌∷◌, drop, length, get_or, Vec, Global, ap, add-one, arith}
use Rattle.bc_core.specs.declared.command.ListItem.{ListItem}
use Rattle.bc_core.specs.declared.command.ListItem.TheVariants as entries
use Rattle.bc_core.specs.declared.command.Valof.{Valof}
use Rattle.bc_core.specs.declared.command.Command.{Command as CodeCommand}
use Rattle.bc_core.specs.declared.command.Command as forms
use Rattle.bc_core.specs.declared.command.Block.{Block as CodeBlock}
use Rattle.bc_core.specs.declared.command.Condition.{Condition}
use Rattle.bc_core.specs.declared.expression.CoreExp.{CoreExp}
use Rattle.bc_core.specs.View.{items, items_before, block_of, command}
use Rattle.bc_core.proofs.Rows.{if_view, test_view, while_view, repeat_view, repeat_while_view, for_view, switchon_view, nested_view}
use Rattle.bc_core.specs.Commands as commands
use Rattle.bc_core.specs.Commands.{Command, Block, block, Items, no_item, case, default, label}
use Rattle.bc_gen.specs.declared.context.Around.{Around}

abbrev mutual
  pub weight : Command → ℕ
  weight (commands.If sense e b) = 1 + weight_of_block b
  weight (commands.Test e b c) = 1 + weight_of_block b + weight_of_block c
  weight (commands.While sense e b) = 1 + weight_of_block b
  weight (commands.Repeat b) = 1 + weight_of_block b
  weight (commands.RepeatWhile b sense e) = 1 + weight_of_block b
  weight (commands.For start limit by b) = 1 + weight_of_block b
  weight (commands.SwitchOn e is) = 1 + weight_of_items is
  weight (commands.Nested b) = 1 + weight_of_block b
  weight _ = 1

  pub weight_of_block : Block → ℕ
  weight_of_block (block ds is) = 1 + weight_of_items is

  pub weight_of_items : Items → ℕ
  weight_of_items no_item = 1
  weight_of_items (commands.command c is) = 1 + weight c + weight_of_items is
  weight_of_items (case k is) = 1 + weight_of_items is
  weight_of_items (default is) = 1 + weight_of_items is
  weight_of_items (label l is) = 1 + weight_of_items is

-- each VALOF counts more than any call within its body
abbrev pub weight_of_valofs : List Valof → ℕ
weight_of_valofs [] = 0
weight_of_valofs (v ∷ vs) = 64 + 64 * weight_of_block (block_of v.body) + weight_of_valofs vs

abbrev pub weight_around : Around → ℕ
weight_around a = weight_of_valofs (drop a.least a.valofs.now)

pub weight_if : (c : Condition) (b : CodeBlock) → weight (command (forms.If c b)) ≡ 1 + weight_of_block (block_of b)
weight_if c b = ap weight (if_view c b)

pub weight_test : (e : CoreExp) (b d : CodeBlock) → weight (command (forms.Test e b d)) ≡ 1 + weight_of_block (block_of b) + weight_of_block (block_of d)
weight_test e b d = ap weight (test_view e b d)

pub weight_while : (c : Condition) (b : CodeBlock) → weight (command (forms.While c b)) ≡ 1 + weight_of_block (block_of b)
weight_while c b = ap weight (while_view c b)

pub weight_repeat : (b : CodeBlock) → weight (command (forms.Repeat b)) ≡ 1 + weight_of_block (block_of b)
weight_repeat b = ap weight (repeat_view b)

pub weight_repeat_while : (b : CodeBlock) (c : Condition) → weight (command (forms.RepeatWhile b c)) ≡ 1 + weight_of_block (block_of b)
weight_repeat_while b c = ap weight (repeat_while_view b c)

pub weight_for : (start limit : CoreExp) (by : ℕ) (b : CodeBlock) → weight (command (forms.For start limit by b)) ≡ 1 + weight_of_block (block_of b)
weight_for start limit by b = ap weight (for_view start limit by b)

pub weight_switchon : (e : CoreExp) (is : Vec ListItem Global) → weight (command (forms.SwitchOn e is)) ≡ 1 + weight_of_items (items is.items)
weight_switchon e is = ap weight (switchon_view e is)

pub weight_nested : (b : CodeBlock) → weight (command (forms.Nested b)) ≡ 1 + weight_of_block (block_of b)
weight_nested b = ap weight (nested_view b)

weight_before : (i : ListItem) (is : Items) → weight_of_items (items_before i no_item) + weight_of_items is ≡ 1 + weight_of_items (items_before i is)
weight_before (entries.Command c) is = omega arith
weight_before (entries.Case k) is = omega arith
weight_before entries.Default is = omega arith
weight_before (entries.Label l) is = omega arith

weight_positive : (is : Items) → 1 ≤ weight_of_items is
weight_positive no_item = omega arith
weight_positive (commands.command c is) = omega arith
weight_positive (case k is) = omega arith
weight_positive (default is) = omega arith
weight_positive (label l is) = omega arith

-- an item weighs no more than a list that contains it
pub weight_of_one : (xs : List ListItem) (i : ℕ) (x : ListItem) → i < length xs → weight_of_items (items_before (get_or xs i x) no_item) ≤ weight_of_items (items xs)
weight_of_one [] i x h = absurd (omega (arith, h))
weight_of_one (y ∷ xs) zero x h = omega (arith, weight_before y (items xs), weight_positive (items xs))
weight_of_one (y ∷ xs) (suc i) x h =
    let g : i < length xs = omega (arith, h) in
    omega (arith, weight_of_one xs i x g, weight_before y (items xs), weight_positive (items_before y no_item))

from_valof : (vs : List Valof) (least i : ℕ) (v : Valof) → least ≤ i → i < length vs
    → 64 + 64 * weight_of_block (block_of (get_or vs i v).body) + weight_of_valofs (drop (suc i) vs) ≤ weight_of_valofs (drop least vs)
from_valof [] least i v h g = absurd (omega (arith, g))
from_valof (u ∷ vs) zero zero v h g = omega arith
from_valof (u ∷ vs) zero (suc i) v h g =
    let k : i < length vs = omega (arith, g) in
    let z : 0 ≤ i = omega arith in
    let r : 64 + 64 * weight_of_block (block_of (get_or vs i v).body) + weight_of_valofs (drop (suc i) vs) ≤ weight_of_valofs vs = from_valof vs 0 i v z k in
    omega (arith, r)
from_valof (u ∷ vs) (suc least) zero v h g = absurd (omega (arith, h))
from_valof (u ∷ vs) (suc least) (suc i) v h g =
    let k : i < length vs = omega (arith, g) in
    let z : least ≤ i = omega (arith, h) in
    from_valof vs least i v z k

-- a VALOF's body and the VALOFs after it weigh less than all VALOFs from an earlier one on
pub weight_of_valof : (vs : List Valof) (least i : ℕ) (v : Valof) → least ≤ i → i < length vs
    → 64 + 64 * weight_of_block (block_of (get_or vs i v).body) + weight_of_valofs (drop (i + 1) vs) ≤ weight_of_valofs (drop least vs)
weight_of_valof vs least i v h g = rw (add-one i) (from_valof vs least i v h g)
