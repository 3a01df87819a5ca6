-- The views of the interpreter's types: its work and continuations as those of the machine. A rest is a continuation (usually called a
-- continuation frame).
use Rattle.std.specs.Prelude.{◌≡◌, ℕ, Bool, true, false, List, [], ◌∷◌, ◌++◌, map, drop, reverse, slice_index_or, Option, Some, None}
use Rattle.bc_core.specs.View.{exp, args, items, variable, declarations, command, block_of, valof_of}
use Rattle.bc_core.specs.Commands as commands
use Rattle.bc_core.specs.Exit as exits
use Rattle.bc_core.specs.Lists as lists
use Rattle.bc_interpret_defs.specs.Machine as machine
use Rattle.bc_interpret_steps.specs.declared.forms.Site.{Site}
use Rattle.bc_interpret_steps.specs.declared.forms.Exit.{Exit}
use Rattle.bc_interpret_steps.specs.declared.forms.Exit.TheVariants as exit_forms
use Rattle.bc_interpret_steps.specs.declared.forms.Entry.{Entry}
use Rattle.bc_interpret_steps.specs.declared.forms.Entry.TheVariants as entries
use Rattle.bc_interpret_steps.specs.declared.forms.Work.{Work}
use Rattle.bc_interpret_steps.specs.declared.forms.Work.TheVariants as works
use Rattle.bc_interpret_steps.specs.declared.continuations.NumberRest.{NumberRest}
use Rattle.bc_interpret_steps.specs.declared.continuations.NumberRest.TheVariants as number_rests
use Rattle.bc_interpret_steps.specs.declared.continuations.ValueRest.{ValueRest}
use Rattle.bc_interpret_steps.specs.declared.continuations.ValueRest.TheVariants as value_rests
use Rattle.bc_interpret_steps.specs.declared.continuations.TruthRest.{TruthRest}
use Rattle.bc_interpret_steps.specs.declared.continuations.TruthRest.TheVariants as truth_rests
use Rattle.bc_interpret_steps.specs.declared.continuations.NothingRest.{NothingRest}
use Rattle.bc_interpret_steps.specs.declared.continuations.NothingRest.TheVariants as nothing_rests
use Rattle.bc_interpret_steps.specs.declared.continuations.ExitRest.{ExitRest}
use Rattle.bc_interpret_steps.specs.declared.continuations.ExitRest.TheVariants as exit_rests
use Rattle.bc_interpret_steps.specs.declared.forms.OpenCall.{OpenCall}
use Rattle.bc_interpret_steps.specs.declared.continuations.Rest.{Rest}
use Rattle.bc_interpret_steps.specs.declared.continuations.Rest.TheVariants as rests

-- where a part is evaluated, as the definitions have it
abbrev pub spot_of : Site → machine.Spot
spot_of E =
    record {
      address = λ l. slice_index_or E.section.now.addresses.now l 0;
      first = E.first;
      valofs = map valof_of (drop E.first E.section.now.valofs.now);
      frame =
          E.frame;
    }

-- an exit, as the definitions have it
abbrev pub exit_of : Exit → exits.Exit
exit_of exit_forms.Past = exits.Past
exit_of exit_forms.Broke = exits.Broke
exit_of exit_forms.Looped = exits.Looped
exit_of exit_forms.LeftCases = exits.LeftCases
exit_of exit_forms.Returned = exits.Returned
exit_of (exit_forms.Resulted v) = exits.Resulted v
exit_of (exit_forms.Jumped l) = exits.Jumped l

-- where a list is entered, as the definitions have it
abbrev pub entry_of : Entry → lists.Entry
entry_of entries.Beginning = lists.Beginning
entry_of (entries.AtCase v) = lists.AtCase v
entry_of entries.AtDefault = lists.AtDefault
entry_of (entries.AtLabel l) = lists.AtLabel l

-- the arguments already given: none if the call is fresh, else these
abbrev pub given_for : (fresh : Bool) → List ℕ → List ℕ
given_for true vs = []
given_for false vs = vs

-- the work as the machine's, with the arguments already given
abbrev pub work_of : List ℕ → Work → machine.Work
work_of vs (works.Evaluate E e) = machine.Evaluate (spot_of E) (exp e.now) E.level
work_of vs (works.Decide E e) = machine.Decide (spot_of E) (exp e.now) E.level
work_of vs (works.Argue a) = machine.Argue (spot_of a.site) (given_for a.fresh vs) (args a.left.now) a.level (exp a.routine.now) a.count a.site.level
work_of vs (works.Store E v a) = machine.Store (spot_of E) (exp v.now) (exp a.now) E.level
work_of vs (works.Perform E c) = machine.Perform (spot_of E) (command c.now) E.level
work_of vs (works.While E c b) = machine.Perform (spot_of E) (commands.While c.now.sense (exp c.now.test) (block_of b.now)) E.level
work_of vs (works.Repeat E b) = machine.Perform (spot_of E) (commands.Repeat (block_of b.now)) E.level
work_of vs (works.RepeatWhile E b c) = machine.Perform (spot_of E) (commands.RepeatWhile (block_of b.now) c.now.sense (exp c.now.test)) E.level
work_of vs (works.Enter E b) = machine.Enter (spot_of E) (block_of b.now) E.level
work_of vs (works.Declare E ds is level) = machine.Declare (spot_of E) (declarations ds.now) (items is.now) E.level level
work_of vs (works.Initialise E xs k) = machine.Initialise (spot_of E) (map variable xs.now) k E.level
work_of vs (works.Listing E is at) = machine.Listing (spot_of E) (items is.now) E.level (entry_of at)
work_of vs (works.Round E r) = machine.Round (spot_of E) r.limit r.by (block_of r.body.now) E.level
work_of vs (works.Number v) = machine.Give (machine.Number v)
work_of vs (works.Verdict t) = machine.Give (machine.Verdict t)
work_of vs works.Nothing = machine.Give machine.Nothing
work_of vs (works.Left x) = machine.Give (machine.Left (exit_of x))

-- the continuations, kind by kind, as the definitions have them; vs are the arguments already given
abbrev pub number_rest : List ℕ → NumberRest → machine.Rest
number_rest vs number_rests.Loads = machine.Loads
number_rest vs number_rests.Negates = machine.Negates
number_rest vs number_rests.Complements = machine.Complements
number_rest vs number_rests.Tests = machine.Tests
number_rest vs (number_rests.Operates E op e) = machine.Operates (spot_of E) op (exp e.now) E.level
number_rest vs (number_rests.Operated op x) = machine.Operated op x
number_rest vs (number_rests.Argues a) =
    machine.Argues (spot_of a.site) (given_for a.fresh vs) (args a.left.now) a.level (exp a.routine.now) a.count a.site.level

abbrev pub value_rest : ValueRest → machine.Rest
value_rest (value_rests.Stores E a) = machine.Stores (spot_of E) (exp a.now) E.level
value_rest (value_rests.Stored w) = machine.Stored w
value_rest (value_rests.StoresAt a) = machine.StoresAt a
value_rest value_rests.Drops = machine.Drops
value_rest (value_rests.Fors E by b) = machine.Fors (spot_of E) by (block_of b.now) E.level
value_rest (value_rests.Switches E is) = machine.Switches (spot_of E) (items is.now) E.level
value_rest value_rests.Leaves = machine.Leaves

abbrev pub truth_rest : TruthRest → machine.Rest
truth_rest truth_rests.Opposes = machine.Opposes
truth_rest (truth_rests.Conjoins E e) = machine.Conjoins (spot_of E) (exp e.now) E.level
truth_rest (truth_rests.Disjoins E e) = machine.Disjoins (spot_of E) (exp e.now) E.level
truth_rest (truth_rests.Selects E x y) = machine.Selects (spot_of E) (exp x.now) (exp y.now) E.level
truth_rest (truth_rests.Ifs E sense b) = machine.Ifs (spot_of E) sense (block_of b.now) E.level
truth_rest (truth_rests.Chooses E b c) = machine.Chooses (spot_of E) (block_of b.now) (block_of c.now) E.level
truth_rest (truth_rests.Whiles E c b) = machine.Whiles (spot_of E) c.now.sense (exp c.now.test) (block_of b.now) E.level
truth_rest (truth_rests.RepeatWhiles E b c) = machine.RepeatWhiles (spot_of E) (block_of b.now) c.now.sense (exp c.now.test) E.level

abbrev pub nothing_rest : NothingRest → machine.Rest
nothing_rest nothing_rests.Passes = machine.Passes
nothing_rest (nothing_rests.Limits E limit by b) = machine.Limits (spot_of E) (exp limit.now) by (block_of b.now) E.level
nothing_rest (nothing_rests.Declares E ds is level) = machine.Declares (spot_of E) (declarations ds.now) (items is.now) E.level level
nothing_rest (nothing_rests.Initialises E xs k) = machine.Initialises (spot_of E) (map variable xs.now) k E.level

abbrev pub exit_rest : ExitRest → machine.Rest
exit_rest exit_rests.Returns = machine.Returns
exit_rest (exit_rests.Results n) = machine.Results n
exit_rest (exit_rests.WhileBody E c b) = machine.WhileBody (spot_of E) c.now.sense (exp c.now.test) (block_of b.now) E.level
exit_rest (exit_rests.RepeatBody E b) = machine.RepeatBody (spot_of E) (block_of b.now) E.level
exit_rest (exit_rests.RepeatWhileBody E b c) = machine.RepeatWhileBody (spot_of E) (block_of b.now) c.now.sense (exp c.now.test) E.level
exit_rest (exit_rests.ForBody E r) = machine.ForBody (spot_of E) r.limit r.by (block_of r.body.now) E.level
exit_rest (exit_rests.Skips that) = machine.Skips (block_of that.now)
exit_rest exit_rests.Cases = machine.Cases
exit_rest (exit_rests.Follows E is) = machine.Follows (spot_of E) (items is.now) E.level
exit_rest (exit_rests.Listed E is) = machine.Listed (spot_of E) (items is.now) E.level

-- a call, as the definitions have it
abbrev pub open_call : OpenCall → machine.OpenCall
open_call call = record { routine = call.routine; frame = call.frame }

abbrev pub call_if : Option OpenCall → Option machine.OpenCall
call_if None = None
call_if (Some call) = Some (open_call call)

-- the continuations with one more pushed, after these given arguments
abbrev pub stacked : List machine.Rest → List ℕ → Rest → List machine.Rest
stacked rs vs (rests.Number r) = number_rest vs r ∷ rs
stacked rs vs (rests.Value r) = value_rest r ∷ rs
stacked rs vs (rests.Calls fresh f) = machine.Calls (given_for fresh vs) f ∷ rs
stacked rs vs (rests.Truth r) = truth_rest r ∷ rs
stacked rs vs (rests.Nothing r) = nothing_rest r ∷ rs
stacked rs vs (rests.Exit r) = exit_rest r ∷ rs
stacked rs vs (rests.Closes call n a) = machine.Closes (call_if call) n a ∷ rs
stacked rs vs (rests.Given v first) = rs

-- the given arguments after that
abbrev pub then_given : List ℕ → Rest → List ℕ
then_given vs (rests.Number r) = []
then_given vs (rests.Value r) = []
then_given vs (rests.Calls fresh f) = []
then_given vs (rests.Truth r) = []
then_given vs (rests.Nothing r) = []
then_given vs (rests.Exit r) = []
then_given vs (rests.Closes call n a) = []
then_given vs (rests.Given v first) = given_for first vs ++ v ∷ []

-- the continuations as a list, put on rs: the last one pushed comes first
abbrev pub stack_on : List machine.Rest → List ℕ → List Rest → List machine.Rest
stack_on rs vs [] = rs
stack_on rs vs (x ∷ xs) = stack_on (stacked rs vs x) (then_given vs x) xs

abbrev pub given_on : List ℕ → List Rest → List ℕ
given_on vs [] = vs
given_on vs (x ∷ xs) = given_on (then_given vs x) xs

-- the continuations as a list
abbrev pub stack : List Rest → List machine.Rest
stack xs = stack_on [] [] xs

-- the arguments that are given on top of the stack of continuations
abbrev pub given : List Rest → List ℕ
given xs = given_on [] xs

-- the continuation that was popped, which is no argument
abbrev pub Taken : Option Rest → (old new : List Rest) → Type 0
Taken None old new = stack old ≡ []
Taken (Some (rests.Given v first)) old new = ⊥
Taken (Some r) old new = stack old ≡ stacked (stack new) (given new) r

-- the argument that this entry is, and whether it is the first one; or the entry is a continuation, and ends the given arguments
abbrev pub IsGiven : Option (ℕ × Bool) → Rest → Type 0
IsGiven None r = (vs : List ℕ) → then_given vs r ≡ []
IsGiven (Some g) r = r ≡ rests.Given g.0 g.1

-- the given arguments were gathered, the last one first, and the continuations are unchanged
abbrev pub Gathered : (fresh : Bool) → (old new : List Rest) → (arguments : List ℕ) → Type 0
Gathered fresh old new arguments = (stack new ≡ stack old) × (reverse arguments ≡ given_for fresh (given old))

-- the last of the wanted arguments have been gathered; the others are still among the continuations, or there are no others
abbrev pub Gathering : (more : Bool) → (wanted : List ℕ) → (left : List Rest) → (arguments : List ℕ) → Type 0
Gathering true wanted left arguments = wanted ≡ given left ++ reverse arguments
Gathering false wanted left arguments = wanted ≡ reverse arguments

-- the last given argument was popped, if there was one; there may be more
abbrev pub TakesGiven : (more : Bool) → (old new : List Rest) → (before after : List ℕ) → Type 0
TakesGiven more old new before after =
    (stack new ≡ stack old) × ((wanted : List ℕ) → Gathering true wanted old before → Gathering more wanted new after)
