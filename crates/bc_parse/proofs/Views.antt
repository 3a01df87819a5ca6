-- The views of labels, constants and commands, as they are constructed.
use Rattle.std.proofs.Common.{◌≡◌, ◌∙◌, ℕ, List, Vec, sym, ap}
use Rattle.std.specs.Borrow.{Bor}
use Rattle.std.specs.declared.alloc.Global.{Global}
use Rattle.std.specs.declared.boxed.Box.{Box}
use Rattle.bc_parse_tree.specs.declared.tree.Exp as code
use Rattle.bc_parse_tree.specs.declared.tree.Command.{Command-F, fold-roll-Command}
use Rattle.bc_parse_tree.specs.declared.tree.Command.TheVariants as commands
use Rattle.bc_parse_tree.specs.declared.tree.Label.{Label-F, fold-roll-Label}
use Rattle.bc_parse_tree.specs.declared.tree.Label.TheVariants as labels
use Rattle.bc_parse_tree.specs.Tree.{Exp, Block, Declaration, Definition, Item, Label, Command}
use Rattle.bc_parse_tree.specs.Tree as tree
use Rattle.bc_parse_tree.specs.View.{exp_view, exps_view, command_view, label_view, command_step, declaration_step, definition_step, exp_step, label_step, block_step, constant_step, item_step}

pub case_view : (e : code.Exp) → label_view (labels.Case e) ≡ tree.Case (exp_view e)
case_view e = ap label_view (sym (labels.rolls-Case e)) ∙ fold-roll-Label Command Declaration Definition Exp Label Block (List ℕ × Exp) Item command_step declaration_step definition_step exp_step label_step block_step constant_step item_step (Label-F.Case e)

pub default_view : label_view labels.Default ≡ tree.Default
default_view = ap label_view (sym labels.rolls-Default) ∙ fold-roll-Label Command Declaration Definition Exp Label Block (List ℕ × Exp) Item command_step declaration_step definition_step exp_step label_step block_step constant_step item_step Label-F.Default

pub named_view : (n : Bor (List ℕ)) → label_view (labels.Name n) ≡ tree.Named n.now
named_view n = ap label_view (sym (labels.rolls-Name n)) ∙ fold-roll-Label Command Declaration Definition Exp Label Block (List ℕ × Exp) Item command_step declaration_step definition_step exp_step label_step block_step constant_step item_step (Label-F.Label::Name n)

pub call_view : (f : Box code.Exp Global) (es : Vec code.Exp Global) → command_view (commands.Call f es) ≡ tree.Do (exp_view f.value) (exps_view es.items)
call_view f es = ap command_view (sym (commands.rolls-Call f es)) ∙ fold-roll-Command Command Declaration Definition Exp Label Block (List ℕ × Exp) Item command_step declaration_step definition_step exp_step label_step block_step constant_step item_step (Command-F.Command::Call f es)

pub assign_view : (xs es : Vec code.Exp Global) → command_view (commands.Assign xs es) ≡ tree.Assign (exps_view xs.items) (exps_view es.items)
assign_view xs es = ap command_view (sym (commands.rolls-Assign xs es)) ∙ fold-roll-Command Command Declaration Definition Exp Label Block (List ℕ × Exp) Item command_step declaration_step definition_step exp_step label_step block_step constant_step item_step (Command-F.Assign xs es)
