-- A tree that contains a `Vec` appears as the list of its elements. Cite these lemmas where code takes such a tree
-- apart or makes one.
use Rattle.std.proofs.Common.{◌≡◌, ℕ, ◌+◌, ◌<◌, refl, ap, ◌∙◌, Vec, Box, Global, List, [], ◌∷◌, ◌++◌, length, get_or, take}
use Rattle.std.proofs.lemmas.List.{take_more}
use Rattle.bc_core.specs.declared.expression.CoreExp.{CoreExp, Row_of-CoreExp, end_of-CoreExp, more_of-CoreExp, items-the_row-CoreExp, items_hidden-the_row-CoreExp-0}
use Rattle.bc_core.specs.declared.expression.CoreExp as expressions
use Rattle.bc_core.specs.declared.expression.CoreExp.TheBlock.{hidden-the_row-CoreExp-0}
use Rattle.bc_core.specs.declared.command.Command.{Row_of-ListItem, end_of-ListItem, more_of-ListItem, items-the_row-ListItem, items_hidden-the_row-ListItem-0}
use Rattle.bc_core.specs.declared.command.Command as command_forms
use Rattle.bc_core.specs.declared.command.Command.TheBlock.{hidden-the_row-ListItem-0}
use Rattle.bc_core.specs.declared.command.ListItem.{ListItem}
use Rattle.bc_core.specs.declared.command.Block.{Block}
use Rattle.bc_core.specs.declared.command.Condition.{Condition}
use Rattle.bc_core.specs.Commands as commands
use Rattle.bc_core.specs.Tree as tree
use Rattle.bc_core.specs.Tree.{Exp, Args, no_argument, argument}
use Rattle.bc_core.specs.View.{exp, args_of_row, args, command, items_of_row, items_before, items, declarations, block_of}

args_row : {n : _} (es : Row_of-CoreExp n) → args_of_row es ≡ args (items-the_row-CoreExp n es)
args_row end_of-CoreExp = refl
args_row (more_of-CoreExp e es) = ap (argument (exp e)) (args_row es)

-- the view of a call, by the list of its arguments
pub call_view : (es : Vec CoreExp Global) (f : Box CoreExp Global) → exp (expressions.Call es f) ≡ tree.Call (args es.items) (exp f.value)
call_view es f = ap (λ a. tree.Call a (exp f.value)) (args_row (hidden-the_row-CoreExp-0 es) ∙ ap args (items_hidden-the_row-CoreExp-0 es))

-- one more argument at the end
abbrev pub then_argument : Args → Exp → Args
then_argument no_argument e = argument e no_argument
then_argument (argument d es) e = argument d (then_argument es e)

pub args_append : (es : List CoreExp) (e : CoreExp) → args (es ++ e ∷ []) ≡ then_argument (args es) (exp e)
args_append [] e = refl
args_append (d ∷ es) e = ap (argument (exp d)) (args_append es e)

pub args_take : (es : List CoreExp) (i : ℕ) (e : CoreExp) → i < length es → args (take (i + 1) es) ≡ then_argument (args (take i es)) (exp (get_or es i e))
args_take es i e h = ap args (take_more es i e h) ∙ args_append (take i es) (get_or es i e)

items_row : {n : _} (is : Row_of-ListItem n) → items_of_row is ≡ items (items-the_row-ListItem n is)
items_row end_of-ListItem = refl
items_row (more_of-ListItem i is) = ap (items_before i) (items_row is)

items_hidden : (is : Vec ListItem Global) → items_of_row (hidden-the_row-ListItem-0 is) ≡ items is.items
items_hidden is = items_row (hidden-the_row-ListItem-0 is) ∙ ap items (items_hidden-the_row-ListItem-0 is)

-- the view of a command, by the blocks and the list that it contains
pub if_view : (c : Condition) (b : Block) → command (command_forms.If c b) ≡ commands.If c.sense (exp c.test) (block_of b)
if_view c b = ap (λ is. commands.If c.sense (exp c.test) (commands.block (declarations b.declarations.items) is)) (items_hidden b.list)

pub test_view : (e : CoreExp) (b d : Block) → command (command_forms.Test e b d) ≡ commands.Test (exp e) (block_of b) (block_of d)
test_view e b d =
    ap (λ is. commands.Test (exp e) (commands.block (declarations b.declarations.items) is) (commands.block (declarations d.declarations.items) (items_of_row (hidden-the_row-ListItem-0 d.list)))) (items_hidden b.list)
    ∙ ap (λ is. commands.Test (exp e) (block_of b) (commands.block (declarations d.declarations.items) is)) (items_hidden d.list)

pub while_view : (c : Condition) (b : Block) → command (command_forms.While c b) ≡ commands.While c.sense (exp c.test) (block_of b)
while_view c b = ap (λ is. commands.While c.sense (exp c.test) (commands.block (declarations b.declarations.items) is)) (items_hidden b.list)

pub repeat_view : (b : Block) → command (command_forms.Repeat b) ≡ commands.Repeat (block_of b)
repeat_view b = ap (λ is. commands.Repeat (commands.block (declarations b.declarations.items) is)) (items_hidden b.list)

pub repeat_while_view : (b : Block) (c : Condition) → command (command_forms.RepeatWhile b c) ≡ commands.RepeatWhile (block_of b) c.sense (exp c.test)
repeat_while_view b c = ap (λ is. commands.RepeatWhile (commands.block (declarations b.declarations.items) is) c.sense (exp c.test)) (items_hidden b.list)

pub for_view : (start limit : CoreExp) (by : ℕ) (b : Block) → command (command_forms.For start limit by b) ≡ commands.For (exp start) (exp limit) by (block_of b)
for_view start limit by b = ap (λ is. commands.For (exp start) (exp limit) by (commands.block (declarations b.declarations.items) is)) (items_hidden b.list)

pub switchon_view : (e : CoreExp) (is : Vec ListItem Global) → command (command_forms.SwitchOn e is) ≡ commands.SwitchOn (exp e) (items is.items)
switchon_view e is = ap (commands.SwitchOn (exp e)) (items_hidden is)

pub nested_view : (b : Block) → command (command_forms.Nested b) ≡ commands.Nested (block_of b)
nested_view b = ap (λ is. commands.Nested (commands.block (declarations b.declarations.items) is)) (items_hidden b.list)
