use Rattle.std.proofs.Common.{◌+◌, ◌++◌, ◌∷◌, [], map, drop, get_or, sym, ap, subst, ◌∙◌}
use Rattle.std.proofs.lemmas.List.{map-append}
use Rattle.bc_core.specs.View.{section}
use Rattle.bc_lex.specs.Files.{files_of}
use Rattle.bc_tame_built.specs.Laws.{AreResolved}
use Rattle.bc_tame_built.proofs.Tame.{next_main, no_main, resolved_more, all_translated}
use Rattle.bc_tame_built.proofs.program.all_resolved.Goals as goal

pub loop-main-preserved : goal.loop-main-preserved
loop-main-preserved c =
    let files = files_of c.args.sources.now in
    let mains = c.args.mains.now in
    let n = c.loop-main.main-index in
    let cores = map section c.loop-main.cores.items in
    let a = subst (λ left. AreResolved files mains left cores) (next_main mains n c.loop-main-test.true) c.loop-main.invariant in
    subst (AreResolved files mains (drop (n + 1) mains)) (sym (ap (map section) c.in_ok-push.ensures.items ∙ map-append section c.loop-main.cores.items (c.in_ok-core.core ∷ [])))
    (resolved_more files mains (get_or mains n 0) (drop (n + 1) mains) cores (section c.in_ok-core.core) a c.in_ok-core.ensures)

pub returns : goal.returns
returns c =
    let files = files_of c.args.sources.now in
    let mains = c.args.mains.now in
    let n = c.loop-main.main-index in
    let cores = map section c.loop-main.cores.items in
    all_translated files mains cores (subst (λ left. AreResolved files mains left cores) (no_main mains n c.loop-main-test.false) c.loop-main.invariant)
