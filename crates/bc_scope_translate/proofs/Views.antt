-- Views of the trees that hold several parts.
use Rattle.std.proofs.Common.{◌≡◌, ◌∙◌, ◌++◌, ◌⊎◌, inl, inr, ℕ, List, Option, Some, None, Vec, sym, ap}
use Rattle.std.specs.Borrow.{Bor}
use Rattle.std.specs.declared.alloc.Global.{Global}
use Rattle.std.specs.declared.boxed.Box.{Box}
use Rattle.bc_parse_tree.specs.declared.tree.Block as code_block
use Rattle.bc_parse_tree.specs.declared.tree.Block.{fold_out-Block, out-Block}
use Rattle.bc_parse_tree.specs.declared.tree.Command as code_command
use Rattle.bc_parse_tree.specs.declared.tree.Command.{Command-F, fold-roll-Command}
use Rattle.bc_parse_tree.specs.declared.tree.Command.TheVariants as commands
use Rattle.bc_parse_tree.specs.declared.tree.Constant as code_constant
use Rattle.bc_parse_tree.specs.declared.tree.Constant.{fold_out-Constant, out-Constant}
use Rattle.bc_parse_tree.specs.declared.tree.Declaration.{Declaration-F, fold-roll-Declaration}
use Rattle.bc_parse_tree.specs.declared.tree.Declaration.TheVariants as declarations
use Rattle.bc_parse_tree.specs.declared.tree.Definition as code_definition
use Rattle.bc_parse_tree.specs.declared.tree.BinaryOp.{BinaryOp}
use Rattle.bc_parse_tree.specs.declared.tree.Exp as code
use Rattle.bc_parse_tree.specs.declared.tree.Exp.{Exp-F, fold-roll-Exp}
use Rattle.bc_parse_tree.specs.declared.tree.Exp.TheVariants as exps
use Rattle.bc_parse_tree.specs.declared.tree.Item as code_item
use Rattle.bc_parse_tree.specs.declared.tree.Storage.{Storage}
use Rattle.bc_parse_tree.specs.Tree.{Exp, Block, block, Declaration, Definition, Item, Label, Command}
use Rattle.bc_parse_tree.specs.Tree as tree
use Rattle.bc_parse_tree.specs.View.{exp_view, exps_view, block_view, command_view, declaration_view, declarations_view, definitions_view, entries_view, items_view, constant_view, command_step, declaration_step, definition_step, exp_step, label_step, block_step, constant_step, item_step}
use Rattle.bc_core.specs.Level.{level_in_for}
use Rattle.bc_scope_defs.specs.Scope.{Env, Numbers}
use Rattle.bc_scope_defs.specs.Scoping.{in_for}
use Rattle.bc_scope_defs.specs.Numbering.{following, after_block, after_command}
use Rattle.bc_scope_defs.specs.Found.{found, found_in_block, found_in_command}

pub block_seen : (b : code_block.Block) → block_view b ≡ block (declarations_view (out-Block b).declarations.items) (items_view (out-Block b).items.items)
block_seen b = fold_out-Block Command Declaration Definition Exp Label Block (List ℕ × Exp) Item command_step declaration_step definition_step exp_step label_step block_step constant_step item_step b

pub constant_seen : (c : code_constant.Constant) → constant_view c ≡ ((out-Constant c).name.now, exp_view (out-Constant c).value)
constant_seen c = fold_out-Constant Command Declaration Definition Exp Label Block (List ℕ × Exp) Item command_step declaration_step definition_step exp_step label_step block_step constant_step item_step c

pub constants_view : (k : Storage) (cs : Vec code_constant.Constant Global) → declaration_view (declarations.Constants k cs) ≡ tree.Constants k (entries_view cs.items)
constants_view k cs = ap declaration_view (sym (declarations.rolls-Constants k cs)) ∙ fold-roll-Declaration Command Declaration Definition Exp Label Block (List ℕ × Exp) Item command_step declaration_step definition_step exp_step label_step block_step constant_step item_step (Declaration-F.Constants k cs)

pub let_view : (ds : Vec code_definition.Definition Global) → declaration_view (declarations.Let ds) ≡ tree.Let (definitions_view ds.items)
let_view ds = ap declaration_view (sym (declarations.rolls-Let ds)) ∙ fold-roll-Declaration Command Declaration Definition Exp Label Block (List ℕ × Exp) Item command_step declaration_step definition_step exp_step label_step block_step constant_step item_step (Declaration-F.Let ds)

pub binary_view : (o : BinaryOp) (l : Box code.Exp Global) (r : Box code.Exp Global) → exp_view (exps.Bin o l r) ≡ tree.Bin o (exp_view l.value) (exp_view r.value)
binary_view o l r = ap exp_view (sym (exps.rolls-Bin o l r)) ∙ fold-roll-Exp Command Declaration Definition Exp Label Block (List ℕ × Exp) Item command_step declaration_step definition_step exp_step label_step block_step constant_step item_step (Exp-F.Bin o l r)

pub condition_view : (t : Box code.Exp Global) (x : Box code.Exp Global) (y : Box code.Exp Global) → exp_view (exps.Cond t x y) ≡ tree.Cond (exp_view t.value) (exp_view x.value) (exp_view y.value)
condition_view t x y = ap exp_view (sym (exps.rolls-Cond t x y)) ∙ fold-roll-Exp Command Declaration Definition Exp Label Block (List ℕ × Exp) Item command_step declaration_step definition_step exp_step label_step block_step constant_step item_step (Exp-F.Cond t x y)

pub call_view : (f : Box code.Exp Global) (es : Vec code.Exp Global) → exp_view (exps.Call f es) ≡ tree.Call (exp_view f.value) (exps_view es.items)
call_view f es = ap exp_view (sym (exps.rolls-Call f es)) ∙ fold-roll-Exp Command Declaration Definition Exp Label Block (List ℕ × Exp) Item command_step declaration_step definition_step exp_step label_step block_step constant_step item_step (Exp-F.Exp::Call f es)

pub do_view : (f : Box code.Exp Global) (es : Vec code.Exp Global) → command_view (commands.Call f es) ≡ tree.Do (exp_view f.value) (exps_view es.items)
do_view f es = ap command_view (sym (commands.rolls-Call f es)) ∙ fold-roll-Command Command Declaration Definition Exp Label Block (List ℕ × Exp) Item command_step declaration_step definition_step exp_step label_step block_step constant_step item_step (Command-F.Command::Call f es)

pub assign_view : (xs : Vec code.Exp Global) (es : Vec code.Exp Global) → command_view (commands.Assign xs es) ≡ tree.Assign (exps_view xs.items) (exps_view es.items)
assign_view xs es = ap command_view (sym (commands.rolls-Assign xs es)) ∙ fold-roll-Command Command Declaration Definition Exp Label Block (List ℕ × Exp) Item command_step declaration_step definition_step exp_step label_step block_step constant_step item_step (Command-F.Assign xs es)

pub test_view : (e : Box code.Exp Global) (b : code_block.Block) (d : code_block.Block) → command_view (commands.Test e b d) ≡ tree.Test (exp_view e.value) (block_view b) (block_view d)
test_view e b d = ap command_view (sym (commands.rolls-Test e b d)) ∙ fold-roll-Command Command Declaration Definition Exp Label Block (List ℕ × Exp) Item command_step declaration_step definition_step exp_step label_step block_step constant_step item_step (Command-F.Test e b d)

pub switchon_view : (e : code.Exp) (is : Vec code_item.Item Global) → command_view (commands.SwitchOn e is) ≡ tree.SwitchOn (exp_view e) (items_view is.items)
switchon_view e is = ap command_view (sym (commands.rolls-SwitchOn e is)) ∙ fold-roll-Command Command Declaration Definition Exp Label Block (List ℕ × Exp) Item command_step declaration_step definition_step exp_step label_step block_step constant_step item_step (Command-F.SwitchOn e is)

if_view : (e : code.Exp) (b : code_block.Block) → command_view (commands.If e b) ≡ tree.If (exp_view e) (block_view b)
if_view e b = ap command_view (sym (commands.rolls-If e b)) ∙ fold-roll-Command Command Declaration Definition Exp Label Block (List ℕ × Exp) Item command_step declaration_step definition_step exp_step label_step block_step constant_step item_step (Command-F.If e b)

unless_view : (e : code.Exp) (b : code_block.Block) → command_view (commands.Unless e b) ≡ tree.Unless (exp_view e) (block_view b)
unless_view e b = ap command_view (sym (commands.rolls-Unless e b)) ∙ fold-roll-Command Command Declaration Definition Exp Label Block (List ℕ × Exp) Item command_step declaration_step definition_step exp_step label_step block_step constant_step item_step (Command-F.Unless e b)

while_view : (e : code.Exp) (b : code_block.Block) → command_view (commands.While e b) ≡ tree.While (exp_view e) (block_view b)
while_view e b = ap command_view (sym (commands.rolls-While e b)) ∙ fold-roll-Command Command Declaration Definition Exp Label Block (List ℕ × Exp) Item command_step declaration_step definition_step exp_step label_step block_step constant_step item_step (Command-F.While e b)

until_view : (e : code.Exp) (b : code_block.Block) → command_view (commands.Until e b) ≡ tree.Until (exp_view e) (block_view b)
until_view e b = ap command_view (sym (commands.rolls-Until e b)) ∙ fold-roll-Command Command Declaration Definition Exp Label Block (List ℕ × Exp) Item command_step declaration_step definition_step exp_step label_step block_step constant_step item_step (Command-F.Until e b)

repeat_while_view : (r : Box code_command.Command Global) (e : code.Exp) → command_view (commands.RepeatWhile r e) ≡ tree.RepeatWhile (command_view r.value) (exp_view e)
repeat_while_view r e = ap command_view (sym (commands.rolls-RepeatWhile r e)) ∙ fold-roll-Command Command Declaration Definition Exp Label Block (List ℕ × Exp) Item command_step declaration_step definition_step exp_step label_step block_step constant_step item_step (Command-F.RepeatWhile r e)

repeat_until_view : (r : Box code_command.Command Global) (e : code.Exp) → command_view (commands.RepeatUntil r e) ≡ tree.RepeatUntil (command_view r.value) (exp_view e)
repeat_until_view r e = ap command_view (sym (commands.rolls-RepeatUntil r e)) ∙ fold-roll-Command Command Declaration Definition Exp Label Block (List ℕ × Exp) Item command_step declaration_step definition_step exp_step label_step block_step constant_step item_step (Command-F.RepeatUntil r e)

for_view : (n : Bor (List ℕ)) (a z : Box code.Exp Global) (b : code_block.Block) → command_view (commands.For n a z None b) ≡ tree.For n.now (exp_view a.value) (exp_view z.value) (block_view b)
for_view n a z b = ap command_view (sym (commands.rolls-For n a z None b)) ∙ fold-roll-Command Command Declaration Definition Exp Label Block (List ℕ × Exp) Item command_step declaration_step definition_step exp_step label_step block_step constant_step item_step (Command-F.For n a z None b)

for_by_view : (n : Bor (List ℕ)) (a z k : Box code.Exp Global) (b : code_block.Block) → command_view (commands.For n a z (Some k) b) ≡ tree.ForBy n.now (exp_view a.value) (exp_view z.value) (exp_view k.value) (block_view b)
for_by_view n a z k b = ap command_view (sym (commands.rolls-For n a z (Some k) b)) ∙ fold-roll-Command Command Declaration Definition Exp Label Block (List ℕ × Exp) Item command_step declaration_step definition_step exp_step label_step block_step constant_step item_step (Command-F.For n a z (Some k) b)

-- a body after an expression: the numbers after it, and what is found
pub guarded : (E : Env) (at : Numbers) (s : ℕ) (c : code_command.Command) (e : code.Exp) (b : code_block.Block)
    → (c ≡ commands.If e b) ⊎ ((c ≡ commands.Unless e b) ⊎ ((c ≡ commands.While e b) ⊎ (c ≡ commands.Until e b)))
    → (after_command at (command_view c) ≡ after_block (following at (exp_view e)) (block_view b))
    × (found_in_command E at (command_view c) s ≡ found E at (exp_view e) s ++ found_in_block E (following at (exp_view e)) (block_view b) s)
guarded E at s c e b (inl h) = let v = ap command_view h ∙ if_view e b in (ap (after_command at) v, ap (λ d. found_in_command E at d s) v)
guarded E at s c e b (inr (inl h)) = let v = ap command_view h ∙ unless_view e b in (ap (after_command at) v, ap (λ d. found_in_command E at d s) v)
guarded E at s c e b (inr (inr (inl h))) = let v = ap command_view h ∙ while_view e b in (ap (after_command at) v, ap (λ d. found_in_command E at d s) v)
guarded E at s c e b (inr (inr (inr h))) = let v = ap command_view h ∙ until_view e b in (ap (after_command at) v, ap (λ d. found_in_command E at d s) v)

-- an expression after a command
pub repeated : (E : Env) (at : Numbers) (s : ℕ) (c : code_command.Command) (r : Box code_command.Command Global) (e : code.Exp)
    → (c ≡ commands.RepeatWhile r e) ⊎ (c ≡ commands.RepeatUntil r e)
    → (after_command at (command_view c) ≡ following (after_command at (command_view r.value)) (exp_view e))
    × (found_in_command E at (command_view c) s ≡ found_in_command E at (command_view r.value) s ++ found E (after_command at (command_view r.value)) (exp_view e) s)
repeated E at s c r e (inl h) = let v = ap command_view h ∙ repeat_while_view r e in (ap (after_command at) v, ap (λ d. found_in_command E at d s) v)
repeated E at s c r e (inr h) = let v = ap command_view h ∙ repeat_until_view r e in (ap (after_command at) v, ap (λ d. found_in_command E at d s) v)

-- a FOR, with a BY or without
pub counted : (E : Env) (at : Numbers) (s : ℕ) (c : code_command.Command) (n : Bor (List ℕ)) (a z : Box code.Exp Global) (k : Option (Box code.Exp Global)) (b : code_block.Block)
    → c ≡ commands.For n a z k b
    → (after_command at (command_view c) ≡ after_block (following (following at (exp_view a.value)) (exp_view z.value)) (block_view b))
    × (found_in_command E at (command_view c) s
    ≡ found E at (exp_view a.value) (level_in_for s) ++ (found E (following at (exp_view a.value)) (exp_view z.value) (level_in_for s) ++ found_in_block (in_for E n.now s) (following (following at (exp_view a.value)) (exp_view z.value)) (block_view b) (level_in_for s)))
counted E at s c n a z None b h = let v = ap command_view h ∙ for_view n a z b in (ap (after_command at) v, ap (λ d. found_in_command E at d s) v)
counted E at s c n a z (Some k) b h = let v = ap command_view h ∙ for_by_view n a z k b in (ap (after_command at) v, ap (λ d. found_in_command E at d s) v)
