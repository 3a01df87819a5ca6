use Rattle.std.proofs.Common.{◌≡◌, ◌+◌, ◌<◌, suc, [], ◌∷◌, List, sym, ap, subst, ◌∙◌, arith}
use Rattle.bc_interpret_defs.specs.Machine as machine
use Rattle.bc_interpret_defs.specs.Trails.{trail_in}
use Rattle.bc_interpret_steps.specs.Code.{stack}
use Rattle.bc_interpret_steps.specs.Sections.{program_of, IsTable}
use Rattle.bc_interpret_steps.specs.Came.{state_of}
use Rattle.bc_interpret_steps.specs.Passing.{work_next}
use Rattle.bc_interpret_trace.specs.Shown.{Shows}
use Rattle.bc_interpret.specs.Moving.{at_of, left_of}
use Rattle.bc_interpret.specs.Results.{IsResult, Names}
use Rattle.bc_interpret.specs.Starting.{IsStart}
use Rattle.bc_interpret.proofs.Meanings.{run_means, run_names}
use Rattle.bc_interpret.proofs.running.observe.Goals as goal

pub to_end-requires : goal.to_end-requires
to_end-requires g c = (program_of c.args.sections.now, subst (IsTable (program_of c.args.sections.now)) (sym c.as_slice.ensures.value) c.in_ok-table.ensures)

pub returns : goal.returns
unfolding IsStart
returns g c =
    let program = program_of c.args.sections.now in
    let base = c.args.stack_base in
    let t = subst (IsTable program) (sym c.as_slice.ensures.value) c.in_ok-table.ensures in
    let rests : stack c.push-2.new.rests.items ≡ machine.Loads ∷ machine.Calls [] (base + 2) ∷ [] =
    c.in_ok-push-2.ensures.stack ∙ ap (λ (rs : List machine.Rest). machine.Loads ∷ rs)
    (c.in_ok-push.ensures.stack ∙ ((λ i. machine.Calls [] (c.first_frame.ensures i) ∷ stack (c.run_over-run.ensures.rests i)))) in
    let store = c.run_over-run.ensures.store ∙ c.in_ok-store.ensures in
    let next = ap work_next c.run_over-run.ensures.next in
    let h = c.in_ok-outcome.ensures in
    let st = c.run_over-run.result.state in
    let l : st.turns < suc st.turns = omega arith in
    record {
      means = λ known. run_means program base c.args.turns c.push-2.new.rests.items st (g.S.Streams.content c.args.streams.now) (g.S.Streams.content c.to_end.new.streams) c.in_ok-outcome.outcome
          store c.run_over-run.ensures.turns rests (subst (λ w. IsResult (left_of program (suc st.turns) w c.push-2.new.rests.items st (g.S.Streams.content c.args.streams.now)) c.in_ok-outcome.outcome (g.S.Streams.content c.to_end.new.streams)) next (h.means known program t (suc st.turns) l));
      names = λ known. run_names program base c.args.turns c.push-2.new.rests.items st (g.S.Streams.content c.args.streams.now) (record { outcome = c.in_ok-outcome.outcome; trail = c.in_ok-trail.trail }) (trail_in (stack c.to_end.new.run.stacks.rests.items))
          store c.run_over-run.ensures.turns rests (subst (λ w. Names program (at_of w c.push-2.new.rests.items) (state_of st (g.S.Streams.content c.args.streams.now)) c.in_ok-outcome.outcome (trail_in (stack c.to_end.new.run.stacks.rests.items))) next (h.names known program t)) (subst (λ xs. Shows c.in_ok-trail.trail (trail_in (stack xs))) c.as_slice-2.ensures.value c.in_ok-trail.ensures);
      kept = h.kept;
      failed = h.failed;
      counted = h.counted;
    }
