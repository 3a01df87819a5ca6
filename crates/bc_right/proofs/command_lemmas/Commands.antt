-- The code of a command does what the command means, form by form.
use Rattle.std.proofs.Common.{◌≡◌, ℕ, ◌+◌, ◌%◌, ◌≤◌, ◌==◌, ◌||◌, Bool, true, false, not, List, [], ◌∷◌, ◌++◌, refl, sym, ap, ◌∙◌, subst, arith}
use Rattle.std.proofs.lemmas.Bool.{eqb-true}
use Rattle.bc_text_items.specs.declared.item.Item.TheVariants.{Label, Data, DataLabel}
use Rattle.bc_core.specs.Tree.{Frame, Load, Value, Test, Assign}
use Rattle.bc_core.specs.Commands.{Variable, Initial, Vector, Command, Block, block, Items, no_item, command, case, default, label}
use Rattle.bc_core.specs.Commands as commands
use Rattle.bc_core.specs.Level.{cells_of, cells_of_all, cells_declared, level_in_for}
use Rattle.bc_core.specs.Layout.{Bodies, cells_of_initials, cells_of_declarations, cells_of_command, cells_of_block, cells_of_items}
use Rattle.bc_core.specs.Outcome.{Run, then_do, choose, repeated}
use Rattle.bc_core.specs.Store.{Dead, cell_at}
use Rattle.bc_core.specs.Loop.{back, leave, after_body, end_relation, for_loop}
use Rattle.bc_word.specs.Words.{holds}
use Rattle.bc_text_items.specs.declared.item.Base.TheVariants as bases
use Rattle.bc_text_items.specs.declared.item.Function.TheVariants as functions
use Rattle.bc_text_items.specs.Sizes.{operation_size}
use Rattle.bc_machine_defs.specs.Effect.{running}
use Rattle.bc_right.specs.steps.Leads.{machine}
use Rattle.bc_right.proofs.step_lemmas.Agreeing.{keeps_then, keeps_held, holds_up, holds_held}
use Rattle.std.specs.Prelude.{cond, slice_set}
use Rattle.std.proofs.lemmas.List.{get_or-set_same}
use Rattle.bc_core.specs.Value.{Context, value, truth, assign}
use Rattle.bc_core.specs.Exit.{Exit, Past, Broke, Looped, LeftCases, Returned, Jumped}
use Rattle.bc_core.specs.Lists.{Entry, Beginning, AtCase, AtDefault, AtLabel, has_case, has_label, met, listed}
use Rattle.bc_core.specs.Command.{step_of_for, initialise_one, initialise, declare, perform, perform_block, perform_items}
use Rattle.bc_right.specs.steps.Premises.{Roots}
use Rattle.bc_gen_defs.specs.Emit.{Exits, jump, end_of_for, labels_in, emit_variable, emit_variables, emit_declarations, emit, emit_block, emit_items, labelled, execute, entries_in, defaulted, cases_in, table_of}
use Rattle.bc_right.proofs.command_lemmas.Switching.{passes_over, switch_lands}
use Rattle.bc_right.specs.steps.Landing.{Moment, moment, Later, Stands, Goal, Does}
use Rattle.bc_right.specs.steps.Premises.{RootsLand, StoresLast}
use Rattle.bc_right.specs.steps.Goals.{value_goal, test_goal, end_goal}
use Rattle.bc_right.proofs.command_lemmas.Forms.{for_goal}
use Rattle.bc_right.proofs.command_lemmas.ForTest.{Held}
use Rattle.bc_right.specs.commands.Exits.{exit_goal}
use Rattle.bc_right.specs.commands.Levelled.{VariableLevelled, VariablesLevelled, DeclarationsLevelled, CommandLevelled, BlockLevelled, ItemsLevelled}
use Rattle.bc_right.proofs.step_lemmas.Steps.{later_then, later_refl, acts, plain, leads_more, bind_from, lands_from, parts, at_end, at_label, after_item, after_label, jump_first, at_place, jumped, lands_done, does_done, does_then, does_at, does_turn}
use Rattle.bc_right.proofs.command_lemmas.ForTest.{for_test_lands}
use Rattle.bc_right.proofs.step_lemmas.Cells.{does_with_cells}
use Rattle.bc_right.proofs.command_lemmas.Forms.{Entered, cased, starts_at, goes_to, ends_at, in_order, assign_lands, call_lands, resultis_lands, finish_lands, if_lands, test_lands, in_loop, repeat_lands, while_lands, repeat_while_lands, for_loop_lands, list_lands}

module _ (C : Context) (address levels : ℕ → ℕ) (V : Bodies) (S : Moment) (most : ℕ) (roots : Roots) (R : RootsLand C address levels V S most roots) where
  variable_lands : (K : Moment) → Later S K → (v : Variable) (p k s f c end : ℕ) → Stands address S c (emit_variable roots v k s f).0 end → p + cells_of_initials V (v ∷ []) s ≤ 65536 → VariableLevelled levels v k s → (limit a : ℕ) → Does K most (p + s) p limit a c (end_goal end) (initialise_one C v p k s)
  variable_lands K old (Initial e) p k s f c end st room l limit a = R.assigns K old e (Frame k) p s f a c end limit st (omega (arith, room)) l.0 tt
  variable_lands K old (Vector n) p k s f c end st room l limit a = R.assigns K old (Frame (k + 1)) (Frame k) p s f a c end limit st (omega (arith, room)) tt tt

  variables_land : (K : Moment) → Later S K → (vs : List Variable) (p k s f c end : ℕ) → Stands address S c (emit_variables roots vs k s f).0 end → p + cells_of_initials V vs s ≤ 65536 → VariablesLevelled levels vs k s → (limit a : ℕ) → Does K most (p + s) p limit a c (end_goal end) (initialise C vs p k s)
  variables_land K old [] p k s f c end st room l limit a = does_done (end_goal end) tt (λ b2 n le. at_end st)
  variables_land K old (v ∷ vs) p k s f c end st room l limit a =
      let x = emit_variable roots v k s f in
      let y = emit_variables roots vs (k + cells_of v) s x.1 in
      let q = parts x.0 y.0 st in
      does_then (end_goal q.middle) (end_goal end) (initialise_one C v p k s) (λ u. initialise C vs p (k + cells_of v) s) (variable_lands K old v p k s f c q.middle q.front (omega (arith, room)) l.0 limit a)
      (λ u a1 b1 c1 g turns e. does_at (end_goal end) (initialise C vs p (k + cells_of v) s) e (variables_land K old vs p (k + cells_of v) s x.1 q.middle end q.back (omega (arith, room)) l.1 limit a1))

  does_top : (K : Moment) → (top top1 p limit a c : ℕ) (goal : Goal Exit) (r : Run Exit) → top1 ≡ top → Does K most top1 p limit a c goal r → Does K most top p limit a c goal r
  does_top K top top1 p limit a c goal r e d = subst (λ z. Does K most z p limit a c goal r) e d

  declarations_land : (K : Moment) → Later S K → (ds : List (List Variable)) (p s f c mid top1 limit : ℕ) (goal : Goal Exit) (r : Run Exit) → Stands address S c (emit_declarations roots ds s f).0 mid → p + cells_of_declarations V ds s ≤ 65536 → DeclarationsLevelled levels ds s → top1 ≡ p + (s + cells_declared ds) → ((a1 : ℕ) → Does K most top1 p limit a1 mid goal r)
      → (a : ℕ) → Does K most (p + s) p limit a c goal (declare C ds p s r)
  declarations_land K old [] p s f c mid top1 limit goal r st room l e d a = does_at goal r (at_end st) (does_top K (p + s) top1 p limit a mid goal r (omega arith) (d a))
  declarations_land K old (vs ∷ ds) p s f c mid top1 limit goal r st room l e d a =
      let n = cells_of_all vs in
      let x = emit_variables roots vs s (s + n) f in
      let y = emit_declarations roots ds (s + n) x.1 in
      let q = parts x.0 y.0 st in
      let rest = declare C ds p (s + n) r in
      let run = then_do (initialise C vs p s (s + n)) (λ u. rest) in
      does_with_cells n (p + s) goal run (does_top K (p + s + n) (p + (s + n)) p limit a c goal run (omega arith)
      (does_then (end_goal q.middle) goal (initialise C vs p s (s + n)) (λ u. rest) (variables_land K old vs p s (s + n) f c q.middle q.front (omega (arith, room)) l.0 limit a)
      (λ u a1 b1 c1 g turns h. does_at goal rest h (declarations_land K old ds p (s + n) x.1 q.middle mid top1 limit goal r q.back (omega (arith, room)) l.1 (omega arith) d a1))))

  -- a list is entered at this item or after it
  entry_lands : (K : Moment) → (top p limit a c c1 : ℕ) (goal : Goal Exit) (items : Entry → Run Exit) (at : Entry) (here rest : Bool) → (here || rest) ≡ true
      → (here ≡ true → c1 ≡ c) → Does K most top p limit a c goal (items Beginning) → (rest ≡ true → Does K most top p limit a c1 goal (items at)) → Does K most top p limit a c1 goal (items (met here at))
  entry_lands K top p limit a c c1 goal items at true rest e same h k = does_at goal (items Beginning) (same refl) h
  entry_lands K top p limit a c c1 goal items at false rest e same h k = k e

  -- a list is entered at this CASE or at one after it
  case_lands : (K : Moment) → (top p limit a c l later : ℕ) (goal : Goal Exit) (items : Entry → Run Exit) (at : Entry) (here rest : Bool) → (here || rest) ≡ true
      → address l ≡ c → Does K most top p limit a c goal (items Beginning) → (rest ≡ true → Does K most top p limit a (address later) goal (items at)) → Does K most top p limit a (address (cond here l later)) goal (items (met here at))
  case_lands K top p limit a c l later goal items at true rest e same h k = does_at goal (items Beginning) same h
  case_lands K top p limit a c l later goal items at false rest e same h k = k e

  -- the limit is kept in the frame: the loop is seen from the moment at which it was stored
  for_lands : (K : Moment) → Later S K → (p s c mid1 mid2 end limit a by : ℕ) (E : Exits) (start : Run (Unit {0})) (last variable : Run ℕ) (step : Run (Unit {0})) (body : Run Exit) → p + (s + 4) ≤ 65536
      → ((K1 : Moment) → Later S K1 → (limit a : ℕ) → Does K1 most (p + (s + 2)) p limit a c (end_goal mid1) start)
      → ((K1 : Moment) → Later S K1 → (limit a : ℕ) → StoresLast address S K1 most (p + (s + 2)) p limit a mid1 (s + 1) mid2 last)
      → ((K1 : Moment) → Later S K1 → (n : ℕ) → Held S K1 (p + (s + 1)) n → (limit a : ℕ) → Does K1 most (p + (s + 2)) p limit a mid2 (exit_goal address S E end limit) (repeated (λ v. then_do variable (λ k. choose (holds (end_relation by) k n) leave (then_do body (after_body (then_do step (λ w. back)))))) tt))
      → Does K most (p + s + 1) p limit a c (exit_goal address S E end limit) (for_loop by start last variable step body)
  for_lands K old p s c mid1 mid2 end limit a by E start last variable step body room hs hl hb = record {
    from = λ O x t b m st le here.
        let top1 = p + (s + 2) in
        let top = p + s + 1 in
        let goal = exit_goal address S E end limit in
        let K1 = moment top1 st.cells m in
        let up : Later O K1 = record { low = omega (arith, here.later.low); keeps = here.later.keeps } in
        let old1 = later_then old (later_then here.since up) in
        let rest : ℕ → Run Exit = λ n. repeated (λ v. then_do variable (λ k. choose (holds (end_relation by) k n) leave (then_do body (after_body (then_do step (λ w. back)))))) tt in
        bind_from K1 K K1 O most x t top1 top p limit (end_goal mid1) goal (start st) (λ u. then_do last rest)
        ((hs K1 old1 limit a).from K1 x t b m st le (record { few = here.few; are_words = here.are_words; leads = here.leads; holds = holds_up top top1 st.cells m (omega arith) here.holds; since = later_refl K1; later = later_refl K1 }))
        (λ u a1 b1 c1 g1 m1 st1 r1 le1 e1. let own = hl K1 old1 limit a1 in
        bind_from K1 K K1 O most x t top1 top p limit (value_goal own.middle) goal (last st1) rest (own.gives.from K1 x t b1 m1 st1 le1 (plain (at_place e1 r1)))
        (λ n a2 b2 c2 g2 m2 st2 r2 le2 w.
        let k = p + (s + 1) in
        let dead1 : cell_at st.cells k ≡ Dead = here.holds.above k (omega arith) in
        let dead2 : cell_at st2.cells k ≡ Dead = r2.later.keeps.dead k (omega arith) dead1 in
        let m3 = slice_set m2 k a2 in
        let K2 = moment top1 st2.cells m3 in
        let at_k : (s + 1 + p) % 65536 ≡ k = omega arith in
        let r3 = at_place w.1 r2 in
        let stored = acts old1 functions.Store false bases.P (s + 1) [] own.stores r3 ∙ ap (λ z. running (machine a2 b2 (own.middle + operation_size bases.P (s + 1)) p (slice_set m2 z a2) st2.streams)) at_k
        ∙ ap (λ z. running (machine a2 b2 z p m3 st2.streams)) (at_end (after_item own.stores)) in
        let late : Later O K2 = record { low = omega (arith, here.later.low); keeps = keeps_then O.top O.cells st2.cells st2.cells O.store m2 m3 (later_then up r2.later).keeps (keeps_held O.top k a2 st2.cells m2 (omega (arith, here.later.low))) } in
        let old2 = later_then old (later_then here.since late) in
        let held : Held S K2 k n = record { dead = dead2; above = omega (arith, (later_then old here.since).low, here.later.low); within = omega arith; is = get_or-set_same m2 k a2 0 (omega (arith, r2.holds.whole)) ∙ w.0 } in
        lands_from K2 K K2 O most x t top1 top p limit goal (rest n st2) here.since late (omega (arith, here.later.low)) (omega arith) (omega arith) (λ i lo hi. let same : i ≡ k = omega arith in ap (λ z. cell_at st2.cells z) same ∙ dead2)
        ((hb K2 old2 n held limit a2).from K2 x t b2 m3 st2 le2 (plain (record { few = r2.few; are_words = r2.are_words; leads = leads_more t g2 r3.leads stored; holds = holds_held top1 k a2 st2.cells m2 r2.holds dead2; since = later_refl K2; later = later_refl K2 })))));
  }

  mutual
    command_lands : (K : Moment) → Later S K → (k : Command) (p s : ℕ) (E : Exits) (f c end : ℕ) → Stands address S c (emit (λ i. i) roots k s E f).0 end → p + cells_of_command V k s ≤ 65536 → CommandLevelled levels k s → (limit a : ℕ) → Does K most (p + s) p limit a c (exit_goal address S E end limit) (perform C k p s)
    command_lands K old (commands.Call e) p s E f c end st room l limit a = call_lands address S K old most E end (value C e p s) (R.gives K old e p s f a c end limit st room l)
    command_lands K old (commands.Assign v w) p s E f c end st room l limit a = assign_lands address S K old most E end (assign C v w p s) (R.assigns K old v w p s f a c end limit st room l.0 l.1)
    command_lands K old (commands.If sense e b) p s E f c end st room l limit a =
        let t = roots (Test s (not sense) e) f (f + 1) in
        let x = emit_block (λ i. i) roots b s E t.1 in
        let q = parts t.0 (x.0 ++ Label f ∷ []) st in
        let u = parts x.0 (Label f ∷ []) q.back in
        let over : u.middle ≡ end = at_end (after_label u.back) in
        if_lands address S K old most E f q.middle end sense (truth C e p s) (perform_block C b p s) (R.tests K old (not sense) e p s f (f + 1) a c q.middle limit q.front (omega (arith, room)) l.0)
        (λ a1. ends_at address S K old most E u.middle end (perform_block C b p s) over (block_lands K old b p s E t.1 q.middle u.middle u.front (omega (arith, room)) l.1 limit a1)) (at_label u.back ∙ over)
    command_lands K old (commands.Test e b d) p s E f c end st room l limit a =
        let t = roots (Test s false e) f (f + 2) in
        let x = emit_block (λ i. i) roots b s E t.1 in
        let y = emit_block (λ i. i) roots d s E x.1 in
        let q = parts t.0 (x.0 ++ (jump (f + 1) ∷ Label f ∷ (y.0 ++ Label (f + 1) ∷ []))) st in
        let u = parts x.0 (jump (f + 1) ∷ Label f ∷ (y.0 ++ Label (f + 1) ∷ [])) q.back in
        let after = after_item u.back in
        let w = parts y.0 (Label (f + 1) ∷ []) (after_label after) in
        let over : w.middle ≡ end = at_end (after_label w.back) in
        let there : address (f + 1) ≡ end = at_label w.back ∙ over in
        let goal = exit_goal address S E end limit in
        test_lands address S K old most E f q.middle end (truth C e p s) (perform_block C b p s) (perform_block C d p s) (R.tests K old false e p s f (f + 2) a c q.middle limit q.front (omega (arith, room)) l.0)
        (λ a1. goes_to address S K old most E u.middle end (perform_block C b p s) (λ O x1 t1 a2 b2 c2 g m st2 e2 r le. lands_done limit goal Past (jumped old (jump_first u.back) (at_place e2 r)) le there) (block_lands K old b p s E t.1 q.middle u.middle u.front (omega (arith, room)) l.1 limit a1))
        (λ a1. does_at goal (perform_block C d p s) (at_label after) (ends_at address S K old most E w.middle end (perform_block C d p s) over (block_lands K old d p s E x.1 (u.middle + 2) w.middle w.front (omega (arith, room)) l.2 limit a1)))
    command_lands K old (commands.While sense e b) p s E f c end st room l limit a =
        let E1 = in_loop E (f + 1) f in
        let t = roots (Test s (not sense) e) (f + 1) (f + 2) in
        let x = emit_block (λ i. i) roots b s E1 t.1 in
        let here : c ≡ address f = sym (at_label st) in
        let q = parts t.0 (x.0 ++ jump f ∷ Label (f + 1) ∷ []) (after_label st) in
        let u = parts x.0 (jump f ∷ Label (f + 1) ∷ []) q.back in
        let after = after_item u.back in
        let there : address (f + 1) ≡ end = at_label after ∙ at_end (after_label after) in
        let goal = exit_goal address S E end limit in
        does_at goal (perform C (commands.While sense e b) p s) here
        (while_lands address S K old most E f (f + 1) q.middle u.middle end sense (truth C e p s) (perform_block C b p s)
        (λ limit1 a1. does_at (test_goal (not sense) (address (f + 1)) q.middle) (truth C e p s) (sym here) (R.tests K old (not sense) e p s (f + 1) (f + 2) a1 c q.middle limit1 q.front (omega (arith, room)) l.0))
        (λ limit1 a1. block_lands K old b p s E1 t.1 q.middle u.middle u.front (omega (arith, room)) l.1 limit1 a1) (jump_first u.back) there)
    command_lands K old (commands.Repeat b) p s E f c end st room l limit a =
        let E1 = in_loop E (f + 1) f in
        let x = emit_block (λ i. i) roots b s E1 (f + 2) in
        let here : c ≡ address f = sym (at_label st) in
        let u = parts x.0 (jump f ∷ Label (f + 1) ∷ []) (after_label st) in
        let after = after_item u.back in
        let there : address (f + 1) ≡ end = at_label after ∙ at_end (after_label after) in
        let goal = exit_goal address S E end limit in
        does_at goal (perform C (commands.Repeat b) p s) here
        (repeat_lands address S K old most E f (f + 1) u.middle end (perform_block C b p s)
        (λ limit1 a1. does_at (exit_goal address S E1 u.middle limit1) (perform_block C b p s) (sym here) (block_lands K old b p s E1 (f + 2) c u.middle u.front room l limit1 a1)) (jump_first u.back) there)
    command_lands K old (commands.RepeatWhile b sense e) p s E f c end st room l limit a =
        let E1 = in_loop E (f + 1) (f + 2) in
        let x = emit_block (λ i. i) roots b s E1 (f + 3) in
        let t = roots (Test s sense e) f x.1 in
        let here : c ≡ address f = sym (at_label st) in
        let u = parts x.0 (Label (f + 2) ∷ (t.0 ++ Label (f + 1) ∷ [])) (after_label st) in
        let q = parts t.0 (Label (f + 1) ∷ []) (after_label u.back) in
        let over : q.middle ≡ end = at_end (after_label q.back) in
        let goal = exit_goal address S E end limit in
        does_at goal (perform C (commands.RepeatWhile b sense e) p s) here
        (repeat_while_lands address S K old most E f (f + 1) (f + 2) u.middle end sense (truth C e p s) (perform_block C b p s)
        (λ limit1 a1. does_at (exit_goal address S E1 u.middle limit1) (perform_block C b p s) (sym here) (block_lands K old b p s E1 (f + 3) c u.middle u.front (omega (arith, room)) l.1 limit1 a1))
        (λ limit1 a1. subst (λ z. Does K most (p + s) p limit1 a1 u.middle (test_goal sense (address f) z) (truth C e p s)) over (R.tests K old sense e p s f x.1 a1 u.middle q.middle limit1 q.front (omega (arith, room)) l.0)) (at_label u.back) (at_label q.back ∙ over))
    command_lands K old (commands.For start last by b) p s E f c end st room l limit a =
        let s1 = level_in_for s in
        let i = roots (Assign s1 start (Frame s)) 0 (f + 3) in
        let n = roots (Assign s1 last (Frame (s + 1))) 0 i.1 in
        let t = roots (Test s1 true (end_of_for by s)) (f + 1) n.1 in
        let E1 = in_loop E (f + 1) (f + 2) in
        let x = emit_block (λ i. i) roots b s1 E1 t.1 in
        let u = roots (Assign s1 (step_of_for by s) (Frame s)) 0 x.1 in
        let tail4 = jump f ∷ Label (f + 1) ∷ [] in
        let tail3 = Label (f + 2) ∷ (u.0 ++ tail4) in
        let tail1 = Label f ∷ (t.0 ++ (x.0 ++ tail3)) in
        let q1 = parts i.0 (n.0 ++ tail1) st in
        let q2 = parts n.0 tail1 q1.back in
        let here = at_label q2.back in
        let q3 = parts t.0 (x.0 ++ tail3) (after_label q2.back) in
        let q4 = parts x.0 tail3 q3.back in
        let q5 = parts u.0 tail4 (after_label q4.back) in
        let after = after_item q5.back in
        let over : address (f + 1) ≡ end = at_label after ∙ at_end (after_label after) in
        let body = perform_block C b p s1 in
        let variable = value C (Load (Frame s)) p s1 in
        let step = assign C (step_of_for by s) (Frame s) p s1 in
        does_with_cells 1 (p + s) (exit_goal address S E end limit) (for_loop by (assign C start (Frame s) p s1) (value C last p s1) variable step body)
        (for_lands K old p s c q1.middle q2.middle end limit a by E (assign C start (Frame s) p s1) (value C last p s1) variable step body (omega (arith, room))
        (λ K1 old1 limit1 a1. R.assigns K1 old1 start (Frame s) p s1 (f + 3) a1 c q1.middle limit1 q1.front (omega (arith, room)) l.0.0 tt)
        (λ K1 old1 limit1 a1. R.limits K1 old1 last p s i.1 a1 q1.middle q2.middle limit1 q2.front (omega (arith, room)) l.1.0)
        (λ K1 old1 n1 held limit1 a1. subst (λ z. Does K1 most (p + s1) p limit1 a1 z (exit_goal address S E end limit1) (repeated (λ v. then_do variable (λ k. choose (holds (end_relation by) k n1) leave (then_do body (after_body (then_do step (λ w. back)))))) tt)) here
        (for_loop_lands address S K1 old1 most E f (f + 1) (f + 2) q3.middle q4.middle q5.middle end by n1 variable step body
        (λ limit2 a2. does_at (for_goal by n1 (address (f + 1)) q3.middle) variable here (for_test_lands C address levels V S most roots R K1 old1 by n1 p s (f + 1) n.1 a2 q2.middle q3.middle limit2 q3.front (omega (arith, room)) held))
        (λ limit2 a2. block_lands K1 old1 b p s1 E1 t.1 q3.middle q4.middle q4.front (omega (arith, room)) l.2 limit2 a2)
        (λ limit2 a2. R.assigns K1 old1 (step_of_for by s) (Frame s) p s1 x.1 a2 q4.middle q5.middle limit2 q5.front (omega (arith, room)) (tt, tt) tt)
        (at_label q4.back) (jump_first q5.back) over)))
    command_lands K old (commands.SwitchOn e is) p s E f c end st room l limit a =
        let v = roots (Value s e) 0 (f + 1 + entries_in is) in
        let d = defaulted is (f + 1) f in
        let E1 = record E { cases = f; labels = labelled is v.1 E.labels } in
        let x = emit_items (λ i. i) roots is s E1 (f + 1) (v.1 + labels_in is) in
        let rest = x.0 ++ Label f ∷ [] in
        let tail = execute 23 ∷ Data (cases_in is) ∷ DataLabel d ∷ (table_of (λ i. i) is (f + 1) ++ rest) in
        let q1 = parts v.0 tail st in
        let q2 = parts (table_of (λ i. i) is (f + 1)) rest (after_item (after_item (after_item q1.back))) in
        let q3 = parts x.0 (Label f ∷ []) q2.back in
        switch_lands address S K old most E is f v.1 (f + 1) q1.middle q2.middle q3.middle end end rest (value C e p s) (perform_items C is p s) (R.gives K old e p s (f + 1 + entries_in is) a c q1.middle limit q1.front (omega (arith, room)) l.0)
        q1.back (at_label q3.back) (at_end (after_label q3.back)) (λ none st1. passes_over C is p s st1 none)
        (λ at entered limit1 a1. items_land K old is p s E1 (f + 1) (v.1 + labels_in is) q2.middle q3.middle q3.front (omega (arith, room)) l.1 at entered limit1 a1)
    command_lands K old commands.Break p s E f c end st room l limit a = does_done (exit_goal address S E end limit) Broke (λ b2 n le. (end, st))
    command_lands K old commands.Loop p s E f c end st room l limit a = does_done (exit_goal address S E end limit) Looped (λ b2 n le. (end, st))
    command_lands K old commands.EndCase p s E f c end st room l limit a = does_done (exit_goal address S E end limit) LeftCases (λ b2 n le. (end, st))
    command_lands K old commands.Return p s E f c end st room l limit a = does_done (exit_goal address S E end limit) Returned (λ b2 n le. (end, st))
    command_lands K old (commands.ResultIs e) p s E f c end st room l limit a =
        let v = roots (Value s e) 0 f in
        let q = parts v.0 (jump E.result ∷ []) st in
        resultis_lands address S K old most E q.middle end (value C e p s) (R.gives K old e p s f a c q.middle limit q.front room l) (jump_first q.back)
    command_lands K old commands.Finish p s E f c end st room l limit a = finish_lands address S K old most (exit_goal address S E end limit) st
    command_lands K old (commands.Goto m) p s E f c end st room l limit a = does_turn old (exit_goal address S E end limit) (Jumped m) (jump_first st) (λ b2 n lt. (refl, lt))
    command_lands K old (commands.Nested b) p s E f c end st room l limit a = block_lands K old b p s E f c end st room l limit a

    pub block_lands : (K : Moment) → Later S K → (b : Block) (p s : ℕ) (E : Exits) (f c end : ℕ) → Stands address S c (emit_block (λ i. i) roots b s E f).0 end → p + cells_of_block V b s ≤ 65536 → BlockLevelled levels b s → (limit a : ℕ) → Does K most (p + s) p limit a c (exit_goal address S E end limit) (perform_block C b p s)
    block_lands K old (block ds is) p s E f c end st room l limit a =
        let s1 = s + cells_declared ds in
        let d = emit_declarations roots ds s (f + labels_in is) in
        let E1 = record E { labels = labelled is f E.labels } in
        let x = emit_items (λ i. i) roots is s1 E1 0 d.1 in
        let q = parts d.0 x.0 st in
        let goal = exit_goal address S E end limit in
        declarations_land K old ds p s (f + labels_in is) c q.middle (p + s1) limit goal (listed (has_label is) (perform_items C is p s1) Beginning) q.front (omega (arith, room)) l.0 refl
        (λ a1. list_lands address S K old most E is f 0 q.middle end (perform_items C is p s1)
        (λ at entered limit1 a2. items_land K old is p s1 E1 0 d.1 q.middle end q.back (omega (arith, room)) l.1 at entered limit1 a2) Beginning tt) a

    items_land : (K : Moment) → Later S K → (is : Items) (p s : ℕ) (E : Exits) (first f c end : ℕ) → Stands address S c (emit_items (λ i. i) roots is s E first f).0 end → p + cells_of_items V is s ≤ 65536 → ItemsLevelled levels is s → (at : Entry) → Entered at is → (limit a : ℕ) → Does K most (p + s) p limit a (starts_at address E is first c at) (exit_goal address S E end limit) (perform_items C is p s at)
    items_land K old no_item p s E first f c end st room lv Beginning entered limit a = does_done (exit_goal address S E end limit) Past (λ b2 n le. at_end st)
    items_land K old no_item p s E first f c end st room lv (AtCase v) entered limit a = absurd (let h : false ≡ true = entered in cc)
    items_land K old no_item p s E first f c end st room lv AtDefault entered limit a = absurd (let h : false ≡ true = entered in cc)
    items_land K old no_item p s E first f c end st room lv (AtLabel l) entered limit a = absurd (let h : false ≡ true = entered in cc)
    items_land K old (command k is) p s E first f c end st room lv Beginning entered limit a =
        let x = emit (λ i. i) roots k s E f in
        let y = emit_items (λ i. i) roots is s E first x.1 in
        let q = parts x.0 y.0 st in
        in_order address S K old most E q.middle end (perform C k p s) (perform_items C is p s Beginning) (command_lands K old k p s E f c q.middle q.front (omega (arith, room)) lv.0 limit a)
        (λ a1. items_land K old is p s E first x.1 q.middle end q.back (omega (arith, room)) lv.1 Beginning tt limit a1)
    items_land K old (command k is) p s E first f c end st room lv (AtCase v) entered limit a =
        let x = emit (λ i. i) roots k s E f in
        let q = parts x.0 (emit_items (λ i. i) roots is s E first x.1).0 st in
        record { from = (items_land K old is p s E first x.1 q.middle end q.back (omega (arith, room)) lv.1 (AtCase v) entered limit a).from }
    items_land K old (command k is) p s E first f c end st room lv AtDefault entered limit a =
        let x = emit (λ i. i) roots k s E f in
        let q = parts x.0 (emit_items (λ i. i) roots is s E first x.1).0 st in
        record { from = (items_land K old is p s E first x.1 q.middle end q.back (omega (arith, room)) lv.1 AtDefault entered limit a).from }
    items_land K old (command k is) p s E first f c end st room lv (AtLabel l) entered limit a =
        let x = emit (λ i. i) roots k s E f in
        let q = parts x.0 (emit_items (λ i. i) roots is s E first x.1).0 st in
        record { from = (items_land K old is p s E first x.1 q.middle end q.back (omega (arith, room)) lv.1 (AtLabel l) entered limit a).from }
    items_land K old (case k is) p s E first f c end st room lv Beginning entered limit a = items_land K old is p s E (first + 1) f c end (after_label st) room lv Beginning tt limit a
    items_land K old (case k is) p s E first f c end st room lv (AtCase v) entered limit a =
        case_lands K (p + s) p limit a c first (cased is (first + 1) v) (exit_goal address S E end limit) (perform_items C is p s) (AtCase v) (k == v) (has_case is v) entered (at_label st)
        (items_land K old is p s E (first + 1) f c end (after_label st) room lv Beginning tt limit a)
        (λ e. items_land K old is p s E (first + 1) f c end (after_label st) room lv (AtCase v) e limit a)
    items_land K old (case k is) p s E first f c end st room lv AtDefault entered limit a = items_land K old is p s E (first + 1) f c end (after_label st) room lv AtDefault entered limit a
    items_land K old (case k is) p s E first f c end st room lv (AtLabel l) entered limit a = items_land K old is p s E (first + 1) f c end (after_label st) room lv (AtLabel l) entered limit a
    items_land K old (default is) p s E first f c end st room lv Beginning entered limit a = items_land K old is p s E (first + 1) f c end (after_label st) room lv Beginning tt limit a
    items_land K old (default is) p s E first f c end st room lv (AtCase v) entered limit a = items_land K old is p s E (first + 1) f c end (after_label st) room lv (AtCase v) entered limit a
    items_land K old (default is) p s E first f c end st room lv AtDefault entered limit a = does_at (exit_goal address S E end limit) (perform_items C is p s Beginning) (at_label st) (items_land K old is p s E (first + 1) f c end (after_label st) room lv Beginning tt limit a)
    items_land K old (default is) p s E first f c end st room lv (AtLabel l) entered limit a = items_land K old is p s E (first + 1) f c end (after_label st) room lv (AtLabel l) entered limit a
    items_land K old (label k is) p s E first f c end st room lv Beginning entered limit a = items_land K old is p s E first f c end (after_label st) room lv Beginning tt limit a
    items_land K old (label k is) p s E first f c end st room lv (AtCase v) entered limit a = items_land K old is p s E first f c end (after_label st) room lv (AtCase v) entered limit a
    items_land K old (label k is) p s E first f c end st room lv AtDefault entered limit a = items_land K old is p s E first f c end (after_label st) room lv AtDefault entered limit a
    items_land K old (label k is) p s E first f c end st room lv (AtLabel l) entered limit a =
        entry_lands K (p + s) p limit a c (address (E.labels l)) (exit_goal address S E end limit) (perform_items C is p s) (AtLabel l) (k == l) (has_label is l) entered
        (λ e. ap (λ z. address (E.labels z)) (sym (eqb-true k l e)) ∙ at_label st)
        (items_land K old is p s E first f c end (after_label st) room lv Beginning tt limit a)
        (λ e. items_land K old is p s E first f c end (after_label st) room lv (AtLabel l) e limit a)

  pub commands_land : (K : Moment) → Later S K → (k : Command) (p s : ℕ) (E : Exits) (f a c end limit : ℕ) → Stands address S c (emit (λ i. i) roots k s E f).0 end → p + cells_of_command V k s ≤ 65536 → CommandLevelled levels k s → Does K most (p + s) p limit a c (exit_goal address S E end limit) (perform C k p s)
  commands_land K old k p s E f a c end limit st room l = command_lands K old k p s E f c end st room l limit a
