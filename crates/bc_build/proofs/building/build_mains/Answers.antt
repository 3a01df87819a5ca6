use Rattle.std.proofs.Common.{◌+◌, List, subst, sym, drop, get_or}
use Rattle.std.proofs.lemmas.Result.{IfOk-weaker, IfErr-weaker}
use Rattle.bc_text_items.specs.declared.item.Item.{Item}
use Rattle.bc_lex.specs.Files.{files_of}
use Rattle.bc_build.specs.Refused.{IsRefused}
use Rattle.bc_build.specs.Steps.{AreCoded}
use Rattle.bc_build.specs.declared.build_error.BuildError.TheVariants.{Memory}
use Rattle.bc_build.proofs.Coded.{err_is, next_main, no_main, coded_more, whole_from, main_refused, memory_refused, link_refused}
use Rattle.bc_build.proofs.Facts.{is_built, built_runs, built_accepted, built_code, built_size, built_least, built_text}
use Rattle.bc_build.proofs.Certifying.{built_certified}
use Rattle.bc_build.proofs.Worked.{worked_more, linked_worked}
use Rattle.bc_build.proofs.building.build_mains.Goals as goal

pub returns-in_err-items-clause-refused : goal.returns-in_err-items-clause-refused
returns-in_err-items-clause-refused c =
    let files = files_of c.args.sources.now in
    let mains = c.args.mains.now in
    let n = c.loop-number.number in
    let a = subst (λ left. AreCoded files mains n left c.loop-number.segments.items c.loop-number.entries.items) (next_main mains n c.loop-number-test.true) c.loop-number.invariant.coded in
    let h = main_refused files mains n (get_or mains n 0) _ _ _ c.in_err-items.field-0.0 a c.in_err-items.ensures.refused in
    err_is c.from_residual.result c.in_err-items.field-0.0 (IsRefused files mains) c.from_residual.ensures.1 h

pub returns-in_err-push-clause-refused : goal.returns-in_err-push-clause-refused
returns-in_err-push-clause-refused c =
    let files = files_of c.args.sources.now in
    let mains = c.args.mains.now in
    let n = c.loop-number.number in
    let a = subst (λ left. AreCoded files mains n left c.loop-number.segments.items c.loop-number.entries.items) (next_main mains n c.loop-number-test.true) c.loop-number.invariant.coded in
    let h = memory_refused files mains n (get_or mains n 0) _ _ _ _ _ a c.in_ok-items.ensures.compiled in
    err_is c.from_residual-in_err-push.result Memory (IsRefused files mains) c.from_residual-in_err-push.ensures.1 h

pub returns-in_err-add_entries-clause-refused : goal.returns-in_err-add_entries-clause-refused
returns-in_err-add_entries-clause-refused c =
    let files = files_of c.args.sources.now in
    let mains = c.args.mains.now in
    let n = c.loop-number.number in
    let a = subst (λ left. AreCoded files mains n left c.loop-number.segments.items c.loop-number.entries.items) (next_main mains n c.loop-number-test.true) c.loop-number.invariant.coded in
    let h = memory_refused files mains n (get_or mains n 0) _ _ _ _ _ a c.in_ok-items.ensures.compiled in
    err_is c.from_residual-in_err-add_entries.result c.in_err-add_entries.field-0.0 (IsRefused files mains) c.from_residual-in_err-add_entries.ensures.1
    (subst (IsRefused files mains) (sym c.in_err-add_entries.ensures.refused) h)

pub returns-in_err-append-clause-refused : goal.returns-in_err-append-clause-refused
returns-in_err-append-clause-refused c =
    let files = files_of c.args.sources.now in
    let mains = c.args.mains.now in
    let n = c.loop-number.number in
    let a = subst (λ left. AreCoded files mains n left c.loop-number.segments.items c.loop-number.entries.items) (next_main mains n c.loop-number-test.true) c.loop-number.invariant.coded in
    let h = memory_refused files mains n (get_or mains n 0) _ _ _ _ _ a c.in_ok-items.ensures.compiled in
    err_is c.from_residual-in_err-append.result Memory (IsRefused files mains) c.from_residual-in_err-append.ensures.1 h

pub loop-number-preserved : goal.loop-number-preserved
loop-number-preserved c =
    let files = files_of c.args.sources.now in
    let mains = c.args.mains.now in
    let n = c.loop-number.number in
    let left = drop (n + 1) mains in
    let a = subst (λ left. AreCoded files mains n left c.loop-number.segments.items c.loop-number.entries.items) (next_main mains n c.loop-number-test.true) c.loop-number.invariant.coded in
    let g = c.in_ok-items.field-0 in
    record {
      coded = subst (λ (ss : List (List Item)). AreCoded files mains (n + 1) left ss c.add_entries.new.all.items) (sym c.in_ok-push.ensures.items)
          (coded_more files mains n (get_or mains n 0) left c.loop-number.segments.items c.loop-number.entries.items g.items g.entries.items c.add_entries.new.all.items a c.in_ok-items.ensures.compiled c.in_ok-add_entries.ensures.added);
      worked = worked_more n c.loop-number.entries.items g.entries.items c.add_entries.new.all.items c.loop-number.workings.items g.workings.items c.append.new.self.items
          c.in_ok-add_entries.ensures.added c.in_ok-append.ensures.items c.loop-number.invariant.worked c.in_ok-items.ensures.worked;
    }

pub returns-clause-built : goal.returns-clause-built
returns-clause-built c =
    let files = files_of c.args.sources.now in
    let mains = c.args.mains.now in
    let n = c.loop-number.number in
    let a = subst (λ left. AreCoded files mains n left c.loop-number.segments.items c.loop-number.entries.items) (no_main mains n c.loop-number-test.false) c.loop-number.invariant.coded in
    IfOk-weaker c.linked.result _ _ (λ built l. is_built files mains built (whole_from files mains n c.loop-number.segments.items c.loop-number.entries.items built a l)) c.linked.ensures.built

pub returns-clause-runs : goal.returns-clause-runs
returns-clause-runs c =
    let files = files_of c.args.sources.now in
    let mains = c.args.mains.now in
    let n = c.loop-number.number in
    let a = subst (λ left. AreCoded files mains n left c.loop-number.segments.items c.loop-number.entries.items) (no_main mains n c.loop-number-test.false) c.loop-number.invariant.coded in
    IfOk-weaker c.linked.result _ _
    (λ built l. built_runs c.linked_map_is_map.ensures c.sections_run.ensures files mains built (whole_from files mains n c.loop-number.segments.items c.loop-number.entries.items built a l) l.words) c.linked.ensures.built

pub returns-clause-least : goal.returns-clause-least
returns-clause-least c =
    let files = files_of c.args.sources.now in
    let mains = c.args.mains.now in
    let n = c.loop-number.number in
    let a = subst (λ left. AreCoded files mains n left c.loop-number.segments.items c.loop-number.entries.items) (no_main mains n c.loop-number-test.false) c.loop-number.invariant.coded in
    IfOk-weaker c.linked.result _ _ (λ built l. built_least files mains built (whole_from files mains n c.loop-number.segments.items c.loop-number.entries.items built a l)) c.linked.ensures.built

pub returns-clause-certified : goal.returns-clause-certified
returns-clause-certified c =
    let files = files_of c.args.sources.now in
    let mains = c.args.mains.now in
    let n = c.loop-number.number in
    let a = subst (λ left. AreCoded files mains n left c.loop-number.segments.items c.loop-number.entries.items) (no_main mains n c.loop-number-test.false) c.loop-number.invariant.coded in
    IfOk-weaker c.linked.result _ _ (λ built l. built_certified files mains built (whole_from files mains n c.loop-number.segments.items c.loop-number.entries.items built a l) c.loop-number.segments.items c.loop-number.entries.items l) c.linked.ensures.built

pub returns-clause-accepted : goal.returns-clause-accepted
returns-clause-accepted c =
    let files = files_of c.args.sources.now in
    let mains = c.args.mains.now in
    let n = c.loop-number.number in
    let a = subst (λ left. AreCoded files mains n left c.loop-number.segments.items c.loop-number.entries.items) (no_main mains n c.loop-number-test.false) c.loop-number.invariant.coded in
    IfOk-weaker c.linked.result _ _ (λ built l. built_accepted files mains built (whole_from files mains n c.loop-number.segments.items c.loop-number.entries.items built a l)) c.linked.ensures.built

pub returns-clause-coded : goal.returns-clause-coded
returns-clause-coded c =
    let files = files_of c.args.sources.now in
    let mains = c.args.mains.now in
    let n = c.loop-number.number in
    let a = subst (λ left. AreCoded files mains n left c.loop-number.segments.items c.loop-number.entries.items) (no_main mains n c.loop-number-test.false) c.loop-number.invariant.coded in
    IfOk-weaker c.linked.result _ _ (λ built l. built_code files mains built (whole_from files mains n c.loop-number.segments.items c.loop-number.entries.items built a l)) c.linked.ensures.built

pub returns-clause-worked : goal.returns-clause-worked
returns-clause-worked c = linked_worked c.loop-number.segments.items c.loop-number.entries.items c.loop-number.workings.items c.linked.result c.linked.ensures.built c.linked.ensures.worked c.loop-number.invariant.worked

pub returns-clause-size : goal.returns-clause-size
returns-clause-size c =
    let files = files_of c.args.sources.now in
    let mains = c.args.mains.now in
    let n = c.loop-number.number in
    let a = subst (λ left. AreCoded files mains n left c.loop-number.segments.items c.loop-number.entries.items) (no_main mains n c.loop-number-test.false) c.loop-number.invariant.coded in
    IfOk-weaker c.linked.result _ _ (λ built l. built_size files mains built (whole_from files mains n c.loop-number.segments.items c.loop-number.entries.items built a l)) c.linked.ensures.built

pub returns-clause-text : goal.returns-clause-text
returns-clause-text c = IfOk-weaker c.linked.result _ _ (λ built l. built_text c.loop-number.segments.items c.loop-number.entries.items built l) c.linked.ensures.built

pub returns-clause-refused : goal.returns-clause-refused
returns-clause-refused c =
    let files = files_of c.args.sources.now in
    let mains = c.args.mains.now in
    let n = c.loop-number.number in
    let a = subst (λ left. AreCoded files mains n left c.loop-number.segments.items c.loop-number.entries.items) (no_main mains n c.loop-number-test.false) c.loop-number.invariant.coded in
    IfErr-weaker c.linked.result _ _ (λ e l. link_refused c.labels_stand_once.ensures c.sections_fit.ensures files mains n c.loop-number.segments.items c.loop-number.entries.items e a l) c.linked.ensures.refused
