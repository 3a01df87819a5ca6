-- A step of the machine preserves the meaning of the remaining run: commands, blocks, lists and loops.
use Rattle.std.proofs.Common.{None, ◌≡◌, ℕ, ◌+◌, List, [], ◌∷◌, Bool, true, false, refl, ◌||◌, ◌∙◌, sym, subst}
use Rattle.bc_word.specs.Words.{holds}
use Rattle.bc_core.specs.Tree.{Exp}
use Rattle.bc_core.specs.Commands.{Variable, Initial, Vector, Command, Block, block, Items, no_item, command, case, default, label}
use Rattle.bc_core.specs.Commands as commands
use Rattle.bc_core.specs.Level.{level_in_for, cells_of_all, cells_declared}
use Rattle.bc_core.specs.Store.{opened}
use Rattle.bc_core.specs.Map.{Placed}
use Rattle.bc_core.specs.Outcome.{State, Outcome, Done, Run, wild, followed, then_do, choose, read, write, left, Round, next_round, repeated}
use Rattle.bc_core.specs.Value.{has_call, value, truth, assign}
use Rattle.bc_core.specs.Exit.{Exit, Past, Resulted, Jumped, past, onward}
use Rattle.bc_core.specs.Lists.{Entry, Beginning, AtCase, AtDefault, AtLabel, has_case, has_label, entry_of, meets_case, meets_default, meets_label, met, after_list, listed, after_cases}
use Rattle.bc_core.specs.Loop.{LoopRound, back, leave, after_body, agrees, end_relation}
use Rattle.bc_core.specs.Command.{initialise, declare, perform, perform_block, perform_items}
use Rattle.bc_core.specs.Meaning.{Call as Calling, valofs_from}
use Rattle.bc_interpret_defs.specs.Machine.{Spot, cell_of, Answer, Work, Perform, Enter, Declare, Initialise, Listing, Rest, At, Step, go, give, quiet, first_command, list_step, enter, step}
use Rattle.bc_interpret_defs.specs.Machine as machine
use Rattle.bc_interpret_defs.specs.Resume.{context_at, number, verdict, nothing, out, while_round, repeat_round, test_round, repeat_while_round, for_step, for_round, list_round, resume, meant}
use Rattle.bc_interpret_defs.proofs.Joining.{join3, join4, join_taken2, join_left, join_within, join_within2, choose2, choose3}
use Rattle.bc_interpret_defs.proofs.Alike.{AlikeCall}
use Rattle.bc_interpret_defs.proofs.Rounds.{context_alike, while_again, repeat_again, repeat_while_again, for_again, list_again, assign_frame}
use Rattle.bc_interpret_defs.proofs.Kept.{Kept, by_number, true_or_not, evaluate_kept, decide_kept}
use Rattle.bc_interpret_defs.proofs.Quiet.{quiet_assign}

-- all rounds of a loop, from the first
pub from_round : {A : Type 0} (call : Calling) (rs : List Rest) (f : A → Run (Round A Exit)) (x : A) (st : State) (o : Outcome Answer) → repeated f x st ≡ followed (f x st) (next_round (repeated f)) → followed (followed (followed (f x st) (next_round (repeated f))) out) (resume call rs) ≡ o → followed (followed (repeated f x st) out) (resume call rs) ≡ o
from_round call rs f x st o h k = subst (λ z. followed (followed z out) (resume call rs) ≡ o) (sym h) k

for_kept : (call : Calling) (E : Spot) (start limit : Exp) (by : ℕ) (b : Block) (s : ℕ) (rs : List Rest) (st : State) → meant call (record { work = Perform E (commands.For start limit by b) s; rests = rs }) st ≡ meant call (record { work = machine.Evaluate E start (level_in_for s); rests = machine.StoresAt (cell_of E s) ∷ machine.Limits E limit by b s ∷ machine.Closes None 1 (E.frame + s) ∷ rs }) (record st { cells = opened 1 (E.frame + s) st.cells })
for_kept call E start limit by b s rs st =
    let C = context_at call E in
    let a = E.frame + s in
    let st1 = record st { cells = opened 1 a st.cells } in
    let v = value C start E.frame (level_in_for s) in
    let l = value C limit E.frame (level_in_for s) in
    let rounds : ℕ → Run Exit = λ n. repeated (for_round C n by b E.frame s) tt in
    let closes = resume call (machine.Closes None 1 a ∷ rs) in
    let limits = resume call (machine.Limits E limit by b s ∷ machine.Closes None 1 a ∷ rs) in
    let stores = resume call (machine.StoresAt (cell_of E s) ∷ machine.Limits E limit by b s ∷ machine.Closes None 1 a ∷ rs) in
    subst (λ z. followed (followed (left 1 a (followed z (λ u. then_do l rounds))) out) (resume call rs) ≡ followed (followed (v st1) number) stores)
    (sym (assign_frame C start s E.frame (level_in_for s) st1))
    (join_within2 1 a (v st1) (λ w. write (cell_of E s) w) (λ u. then_do l rounds) out (resume call rs) number stores
    (λ w st2. join_within 1 a (write (cell_of E s) w st2) (λ u. then_do l rounds) out (resume call rs) nothing limits
    (λ u st3. join_within 1 a (l st3) rounds out (resume call rs) (λ n. then_do (rounds n) out) closes
    (λ n st4. join_left 1 a (rounds n st4) out (resume call rs) out closes (λ x st5. refl)))))

-- the items after a command
on_kept : (call : Calling) (E : Spot) (is : Items) (s : ℕ) (rs : List Rest) (st : State) → followed (followed (perform_items (context_at call E) is E.frame s Beginning st) out) (resume call rs) ≡ followed (machine.go_on E is s rs st) (meant call)
on_kept call E no_item s rs st = refl
on_kept call E (command c is) s rs st = refl
on_kept call E (case k is) s rs st = refl
on_kept call E (default is) s rs st = refl
on_kept call E (label l is) s rs st = refl

-- the first command of a list, and then the remaining items
first_by : (call : Calling) (E : Spot) (v a : Exp) (is : Items) (s : ℕ) (rs : List Rest) (st : State) (t : Bool) → (has_call v || has_call a) ≡ t
    → meant call (record { work = Listing E (command (commands.Assign v a) is) s Beginning; rests = rs }) st ≡ followed (by_number t (go (Perform E (commands.Assign v a) s) (machine.Follows E is s ∷ rs)) (then_do (assign (quiet E) v a E.frame s) (λ u. machine.go_on E is s rs)) st) (meant call)
first_by call E v a is s rs st true h =
    let C = context_at call E in
    join3 (perform C (commands.Assign v a) E.frame s st) (onward (perform_items C is E.frame s Beginning)) out (resume call rs) out (resume call (machine.Follows E is s ∷ rs)) (λ x st1. refl)
first_by call E v a is s rs st false h =
    let C = context_at call E in
    let q = assign (quiet E) v a E.frame s in
    let following = onward (perform_items C is E.frame s Beginning) in
    let next : Unit {0} → Step = λ u. machine.go_on E is s rs in
    subst (λ z. followed (followed (followed (followed (z st) past) following) out) (resume call rs) ≡ followed (followed (q st) next) (meant call))
    (sym (quiet_assign E.address call (λ r1 vs f. wild) (valofs_from E.address call E.first E.valofs) (λ n p s1. wild) v a h E.frame s))
    (join4 (q st) past following out (resume call rs) next (meant call) (λ u st1. on_kept call E is s rs st1))

first_kept : (call : Calling) (E : Spot) (c : Command) (is : Items) (s : ℕ) (rs : List Rest) (st : State)
    → meant call (record { work = Listing E (command c is) s Beginning; rests = rs }) st ≡ followed (first_command E c is s rs st) (meant call)
first_kept call E (commands.Assign v a) is s rs st = first_by call E v a is s rs st (has_call v || has_call a) refl
first_kept call E c is s rs st =
    let C = context_at call E in
    join3 (perform C c E.frame s st) (onward (perform_items C is E.frame s Beginning)) out (resume call rs) out (resume call (machine.Follows E is s ∷ rs)) (λ x st1. refl)

pub listing_kept : (program : List Placed) (call : Calling) (E : Spot) (is : Items) (s : ℕ) (at : Entry) (rs : List Rest) (st : State) → Kept program call (Listing E is s at) rs st
listing_kept program call E no_item s at rs st = refl
listing_kept program call E (command c is) s Beginning rs st = first_kept call E c is s rs st
listing_kept program call E (command c is) s (AtCase v) rs st = listing_kept program call E is s (AtCase v) rs st
listing_kept program call E (command c is) s AtDefault rs st = listing_kept program call E is s AtDefault rs st
listing_kept program call E (command c is) s (AtLabel l) rs st = listing_kept program call E is s (AtLabel l) rs st
listing_kept program call E (case k is) s at rs st = listing_kept program call E is s (met (meets_case k at) at) rs st
listing_kept program call E (default is) s at rs st = listing_kept program call E is s (met (meets_default at) at) rs st
listing_kept program call E (label l is) s at rs st = listing_kept program call E is s (met (meets_label l at) at) rs st

pub declare_kept : (program : List Placed) (call : Calling) → AlikeCall 0 call call → (E : Spot) (ds : List (List Variable)) (is : Items) (s level : ℕ) (rs : List Rest) (st : State) → Kept program call (Declare E ds is s level) rs st
declare_kept program call t E [] is s level rs st =
    let C = context_at call E in
    let f = list_round C is E.frame level in
    from_round call rs f Beginning st _ (list_again C (context_alike call t E) is E.frame level Beginning st)
    (join4 (perform_items C is E.frame level Beginning st) (after_list (has_label is)) (next_round (repeated f)) out (resume call rs)
    out (resume call (machine.Listed E is level ∷ rs)) (λ x st1. refl))
declare_kept program call t E (vs ∷ ds) is s level rs st =
    let C = context_at call E in
    let n = cells_of_all vs in
    let a = E.frame + s in
    let st1 = record st { cells = opened n a st.cells } in
    let r = declare C ds E.frame (s + n) (listed (has_label is) (perform_items C is E.frame level) Beginning) in
    join_within n a (initialise C vs E.frame s (s + n) st1) (λ u. r) out (resume call rs) nothing (resume call (machine.Declares E ds is (s + n) level ∷ machine.Closes None n a ∷ rs))
    (λ u st2. join_left n a (r st2) out (resume call rs) out (resume call (machine.Closes None n a ∷ rs)) (λ x st3. refl))

pub enter_kept : (program : List Placed) (call : Calling) → AlikeCall 0 call call → (E : Spot) (b : Block) (s : ℕ) (rs : List Rest) (st : State) → Kept program call (Enter E b s) rs st
enter_kept program call t E (block ds is) s rs st = declare_kept program call t E ds is s (s + cells_declared ds) rs st

-- after a test
if_by : (program : List Placed) (call : Calling) → AlikeCall 0 call call → (E : Spot) (sense : Bool) (e : Exp) (b : Block) (s : ℕ) (rs : List Rest) (st : State) (t : Bool) → has_call e ≡ t → meant call (record { work = Perform E (commands.If sense e b) s; rests = rs }) st ≡ followed (by_number t (go (machine.Decide E e s) (machine.Ifs E sense b s ∷ rs)) (then_do (truth (quiet E) e E.frame s) (λ v. choose (agrees sense v) (enter E b s rs) (give (machine.Left Past) rs))) st) (meant call)
if_by program call k E sense e b s rs st true h =
    let C = context_at call E in
    join3 (truth C e E.frame s st) (λ v. choose (agrees sense v) (perform_block C b E.frame s) (Done Past)) out (resume call rs) verdict (resume call (machine.Ifs E sense b s ∷ rs)) (λ v st1. refl)
if_by program call k E sense e b s rs st false h =
    let C = context_at call E in
    let q = truth (quiet E) e E.frame s in
    let body : Bool → Run Exit = λ v. choose (agrees sense v) (perform_block C b E.frame s) (Done Past) in
    let next : Bool → Step = λ v. choose (agrees sense v) (enter E b s rs) (give (machine.Left Past) rs) in
    subst (λ z. followed (followed (followed (z st) body) out) (resume call rs) ≡ followed (followed (q st) next) (meant call)) (true_or_not call E e s h)
    (join3 (q st) body out (resume call rs) next (meant call)
    (λ v st1. choose2 (agrees sense v) st1 (perform_block C b E.frame s) (Done Past) out (enter E b s rs) (give (machine.Left Past) rs) (resume call rs) (meant call) (enter_kept program call k E b s rs st1) refl))

while_by : (program : List Placed) (call : Calling) → AlikeCall 0 call call → (E : Spot) (sense : Bool) (e : Exp) (b : Block) (s : ℕ) (rs : List Rest) (st : State) (t : Bool) → has_call e ≡ t → meant call (record { work = Perform E (commands.While sense e b) s; rests = rs }) st ≡ followed (by_number t (go (machine.Decide E e s) (machine.Whiles E sense e b s ∷ rs)) (then_do (truth (quiet E) e E.frame s) (λ v. choose (agrees sense v) (enter E b s (machine.WhileBody E sense e b s ∷ rs)) (give (machine.Left Past) rs))) st) (meant call)
while_by program call k E sense e b s rs st true h =
    let C = context_at call E in
    let f = while_round C sense e b E.frame s in
    from_round call rs f tt st _ (while_again C (context_alike call k E) sense e b E.frame s tt st)
    (join4 (truth C e E.frame s st) (λ v. choose (agrees sense v) (then_do (perform_block C b E.frame s) (after_body back)) leave) (next_round (repeated f)) out (resume call rs)
    verdict (resume call (machine.Whiles E sense e b s ∷ rs)) (λ v st1. refl))
while_by program call k E sense e b s rs st false h =
    let C = context_at call E in
    let f = while_round C sense e b E.frame s in
    let nr = next_round (repeated f) in
    let R = resume call rs in
    let q = truth (quiet E) e E.frame s in
    let body : LoopRound = then_do (perform_block C b E.frame s) (after_body back) in
    let rounds : Bool → LoopRound = λ v. choose (agrees sense v) body leave in
    let within = machine.WhileBody E sense e b s ∷ rs in
    let next : Bool → Step = λ v. choose (agrees sense v) (enter E b s within) (give (machine.Left Past) rs) in
    from_round call rs f tt st _ (while_again C (context_alike call k E) sense e b E.frame s tt st)
    (subst (λ z. followed (followed (followed (followed (z st) rounds) nr) out) R ≡ followed (followed (q st) next) (meant call)) (true_or_not call E e s h)
    (join4 (q st) rounds nr out R next (meant call)
    (λ v st1. choose3 (agrees sense v) st1 body leave nr out (enter E b s within) (give (machine.Left Past) rs) R (meant call)
    (join4 (perform_block C b E.frame s st1) (after_body back) nr out R out (resume call within) (λ x st2. refl) ∙ enter_kept program call k E b s within st1) refl)))

pub perform_kept : (program : List Placed) (call : Calling) → AlikeCall 0 call call → (E : Spot) (c : Command) (s : ℕ) (rs : List Rest) (st : State) → Kept program call (Perform E c s) rs st
perform_kept program call t E (commands.Call e) s rs st =
    join3 (value (context_at call E) e E.frame s st) (λ v. Done Past) out (resume call rs) number (resume call (machine.Drops ∷ rs)) (λ v st1. refl)
    ∙ evaluate_kept program call E e s (machine.Drops ∷ rs) st
perform_kept program call t E (commands.Assign v a) s rs st =
    join3 (assign (context_at call E) v a E.frame s st) past out (resume call rs) nothing (resume call (machine.Passes ∷ rs)) (λ u st1. refl)
perform_kept program call t E (commands.If sense e b) s rs st = if_by program call t E sense e b s rs st (has_call e) refl
perform_kept program call t E (commands.Test e b c) s rs st =
    let C = context_at call E in
    join3 (truth C e E.frame s st) (λ v. choose v (perform_block C b E.frame s) (perform_block C c E.frame s)) out (resume call rs) verdict (resume call (machine.Chooses E b c s ∷ rs)) (λ v st1. refl)
    ∙ decide_kept program call E e s (machine.Chooses E b c s ∷ rs) st
perform_kept program call t E (commands.While sense e b) s rs st = while_by program call t E sense e b s rs st (has_call e) refl
perform_kept program call t E (commands.Repeat b) s rs st =
    let C = context_at call E in
    let f = repeat_round C b E.frame s in
    from_round call rs f tt st _ (repeat_again C (context_alike call t E) b E.frame s tt st)
    (join4 (perform_block C b E.frame s st) (after_body back) (next_round (repeated f)) out (resume call rs) out (resume call (machine.RepeatBody E b s ∷ rs)) (λ x st1. refl))
perform_kept program call t E (commands.RepeatWhile b sense e) s rs st =
    let C = context_at call E in
    let f = repeat_while_round C b sense e E.frame s in
    from_round call rs f tt st _ (repeat_while_again C (context_alike call t E) b sense e E.frame s tt st)
    (join4 (perform_block C b E.frame s st) (after_body (test_round C sense e E.frame s)) (next_round (repeated f)) out (resume call rs)
    out (resume call (machine.RepeatWhileBody E b sense e s ∷ rs)) (λ x st1. refl))
perform_kept program call t E (commands.For start limit by b) s rs st = for_kept call E start limit by b s rs st
perform_kept program call t E (commands.SwitchOn e is) s rs st =
    let C = context_at call E in
    join3 (value C e E.frame s st) (λ v. then_do (listed (has_label is) (perform_items C is E.frame s) (entry_of (has_case is) v)) after_cases) out (resume call rs)
    number (resume call (machine.Switches E is s ∷ rs)) (λ v st1. refl)
    ∙ evaluate_kept program call E e s (machine.Switches E is s ∷ rs) st
perform_kept program call t E commands.Break s rs st = refl
perform_kept program call t E commands.Loop s rs st = refl
perform_kept program call t E commands.EndCase s rs st = refl
perform_kept program call t E commands.Return s rs st = refl
perform_kept program call t E (commands.ResultIs e) s rs st =
    join3 (value (context_at call E) e E.frame s st) (λ v. Done (Resulted v)) out (resume call rs) number (resume call (machine.Leaves ∷ rs)) (λ v st1. refl)
    ∙ evaluate_kept program call E e s (machine.Leaves ∷ rs) st
perform_kept program call t E commands.Finish s rs st = refl
perform_kept program call t E (commands.Goto l) s rs st =
    join_taken2 st.turns st (Done (Jumped l)) out (give (machine.Left (Jumped l)) rs) (resume call rs) (meant call) (λ st1. refl)
perform_kept program call t E (commands.Nested b) s rs st = enter_kept program call t E b s rs st

pub initialise_kept : (program : List Placed) (call : Calling) (E : Spot) (vs : List Variable) (k s : ℕ) (rs : List Rest) (st : State) → Kept program call (Initialise E vs k s) rs st
initialise_kept program call E [] k s rs st = refl
initialise_kept program call E (Initial e ∷ vs) k s rs st =
    let C = context_at call E in
    let v = value C e E.frame s in
    let following = initialise C vs E.frame (k + 1) s in
    let inits = resume call (machine.Initialises E vs (k + 1) s ∷ rs) in
    let stores = resume call (machine.StoresAt (cell_of E k) ∷ machine.Initialises E vs (k + 1) s ∷ rs) in
    subst (λ z. followed (followed (followed z (λ u. following)) nothing) (resume call rs) ≡ followed (followed (v st) number) stores)
    (sym (assign_frame C e k E.frame s st))
    (join4 (v st) (λ w. write (cell_of E k) w) (λ u. following) nothing (resume call rs) number stores
    (λ w st1. join3 (write (cell_of E k) w st1) (λ u. following) nothing (resume call rs) nothing inits (λ u st2. refl)))
initialise_kept program call E (Vector n ∷ vs) k s rs st =
    join3 (write (cell_of E k) (cell_of E (k + 1)) st) (λ u. initialise (context_at call E) vs E.frame (k + (n + 2)) s) nothing (resume call rs)
    (λ u. go (Initialise E vs (k + (n + 2)) s) rs) (meant call) (λ u st1. refl)

round_chosen : (program : List Placed) (call : Calling) → AlikeCall 0 call call → (E : Spot) (limit by : ℕ) (b : Block) (s : ℕ) (rs : List Rest) (st : State) (t : Bool) → followed (followed (followed (choose t leave (then_do (perform_block (context_at call E) b E.frame (level_in_for s)) (after_body (for_step (context_at call E) by E.frame s))) st) (next_round (repeated (for_round (context_at call E) limit by b E.frame s)))) out) (resume call rs) ≡ followed (choose t (give (machine.Left Past) rs) (enter E b (level_in_for s) (machine.ForBody E limit by b s ∷ rs)) st) (meant call)
round_chosen program call t E limit by b s rs st true = refl
round_chosen program call t E limit by b s rs st false =
    let C = context_at call E in
    join4 (perform_block C b E.frame (level_in_for s) st) (after_body (for_step C by E.frame s)) (next_round (repeated (for_round C limit by b E.frame s))) out (resume call rs)
    out (resume call (machine.ForBody E limit by b s ∷ rs)) (λ x st1. refl)
    ∙ enter_kept program call t E b (level_in_for s) (machine.ForBody E limit by b s ∷ rs) st

pub round_kept : (program : List Placed) (call : Calling) → AlikeCall 0 call call → (E : Spot) (limit by : ℕ) (b : Block) (s : ℕ) (rs : List Rest) (st : State) → Kept program call (machine.Round E limit by b s) rs st
round_kept program call t E limit by b s rs st =
    let C = context_at call E in
    let f = for_round C limit by b E.frame s in
    from_round call rs f tt st _ (for_again C (context_alike call t E) limit by b E.frame s tt st)
    (join4 (read (cell_of E s) st) (λ i. choose (holds (end_relation by) i limit) leave (then_do (perform_block C b E.frame (level_in_for s)) (after_body (for_step C by E.frame s)))) (next_round (repeated f)) out (resume call rs)
    (λ i. choose (holds (end_relation by) i limit) (give (machine.Left Past) rs) (enter E b (level_in_for s) (machine.ForBody E limit by b s ∷ rs))) (meant call)
    (λ i st1. round_chosen program call t E limit by b s rs st1 (holds (end_relation by) i limit)))
