-- What a part's check says of the whole, where the result of the part is that of the whole.
use Rattle.std.proofs.Common.{◌≡◌, ℕ, ◌+◌, true, Bool, List, ◌++◌, length, Some, sym, subst}
use Rattle.std.specs.Prelude.{Result, Ok, Err, IfOk, OnOk}
use Rattle.bc_core.specs.Tree.{Exp, Call}
use Rattle.bc_core.specs.Commands.{Command, Variable, block, Items}
use Rattle.bc_core.specs.View.{args}
use Rattle.bc_core.specs.WellFormed.{has, labels_of}
use Rattle.bc_core.specs.declared.expression.CoreExp.{CoreExp}
use Rattle.bc_tame.specs.Tame.{Known, called, fits_call, tame_args, tame_items, in_list, parameters_set}
use Rattle.bc_tame_check.specs.declared.at.At.{At}
use Rattle.bc_tame_check.specs.declared.held.Entry.{Entry}
use Rattle.bc_tame_check.specs.Views.{env_at, reads_at, exits_at, notes_in, set_over, AreDeclared}
use Rattle.bc_tame_check.specs.Passes.{CallFits, ExpPasses, CommandPasses, ListPasses, block_passes_as}
use Rattle.bc_tame_check.proofs.Calls.{known_call, call_true}
use Rattle.bc_tame_check.proofs.Loops.{block_true, list_true}

-- what holds on success, through a lemma
pub on_ok : {A E P Q : Type 0} (r : Result A E) → (P → Q) → OnOk r P → OnOk r Q
on_ok (Ok x) f h = f h
on_ok (Err e) f h = tt

pub if_ok : {A E : Type 0} (r : Result A E) (P Q : A → Type 0) → ((x : A) → P x → Q x) → IfOk r P → IfOk r Q
if_ok (Ok x) P Q f h = f x h
if_ok (Err e) P Q f h = tt

pub as_expression : {A E : Type 0} (at : At) (r : Result A E) (e f : Exp) → e ≡ f → OnOk r (ExpPasses at f) → OnOk r (ExpPasses at e)
as_expression at r e f is h = subst (λ x. OnOk r (ExpPasses at x)) (sym is) h

pub as_command : {A E : Type 0} (at : At) (r : Result A E) (k l : Command) → k ≡ l → OnOk r (CommandPasses at l) → OnOk r (CommandPasses at k)
as_command at r k l e h = subst (λ c. OnOk r (CommandPasses at c)) (sym e) h

pub call_passes : {A E : Type 0} (at : At) (r : Result A E) (values : List CoreExp) (f : Exp) (level : ℕ)
    → level ≡ at.level + 2 → tame_args (env_at at) (reads_at at) (args values) level ≡ true → OnOk r (CallFits at values f) → OnOk r (ExpPasses at (Call (args values) f))
call_passes at r values f level above all h = on_ok r (λ fits. call_true (env_at at) (reads_at at) (args values) f at.level level above all fits) h

pub known_passes : {A E : Type 0} (at : At) (r : Result A E) (values : List CoreExp) (f : Exp) (k : Known)
    → called (env_at at) f ≡ Some k → OnOk r (fits_call (Some k) (length values) at.level at.around.size ≡ true) → OnOk r (CallFits at values f)
known_passes at r values f k e h = on_ok r (λ fits. known_call (env_at at) values f (notes_in at values) at.level k e fits) h

pub block_passes_on : {A E : Type 0} (at : At) (kept : Bool) (r : Result A E) (ds : List (List Variable)) (is : Items) (reads : List Entry) (level : ℕ) → AreDeclared at kept ds reads level
    → OnOk r (tame_items (env_at at) (set_over (parameters_set at.parameters) reads) (in_list is (exits_at at)) is level ≡ true) → OnOk r (block_passes_as at kept (block ds is) ≡ true)
block_passes_on at kept r ds is reads level d h =
    on_ok r (λ listed. block_true at kept (set_over (parameters_set at.parameters) reads) ds is level d.pass d.set d.above listed) h

pub list_passes_on : {A E : Type 0} (at : At) (r : Result A E) (is : Items) (labels : List ℕ) → labels ≡ labels_of is ++ at.exits.labels.now
    → OnOk r (tame_items (env_at at) (reads_at at) (record { in_loop = at.exits.in_loop; in_cases = at.exits.in_cases; in_valof = at.exits.in_valof; may_return = at.exits.may_return; labels = has labels }) is at.level ≡ true)
    → OnOk r (ListPasses at is)
list_passes_on at r is labels e h =
    on_ok r (λ listed. list_true (env_at at) (reads_at at) at.exits.in_loop at.exits.in_cases at.exits.in_valof at.exits.may_return is is labels at.exits.labels.now at.level e listed) h
