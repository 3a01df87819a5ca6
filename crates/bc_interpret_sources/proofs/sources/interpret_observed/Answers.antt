use Rattle.std.proofs.Common.{◌≡◌, map, sym, ap, ◌∙◌}
use Rattle.bc_core.specs.View.{section}
use Rattle.bc_scope_defs.specs.Translation.{core_of}
use Rattle.bc_interpret_sources.proofs.Resolved.{means, names, runs_to}
use Rattle.bc_interpret_sources.proofs.sources.interpret_observed.Goals as goal

pub returns-clause-means : goal.returns-clause-means
returns-clause-means g c = λ sections are_parsed known.
    means c.sections_keep_their_meaning.ensures sections (map section c.as_slice.result.now) c.args.program.now.image.now (g.S.Streams.content c.args.streams.now) (g.S.Streams.content c.interpret_observed.new.streams) c.args.turns c.in_ok-interpreted.interpreted.outcome
    (c.in_ok-cores.ensures sections are_parsed ∙ ap (map section) (sym c.as_slice.ensures.value)) (c.in_ok-interpreted.ensures.means known)

pub returns-clause-names : goal.returns-clause-names
returns-clause-names g c = λ sections are_parsed known.
    names (map section c.as_slice.result.now) (map core_of sections) c.args.program.now.image.now (g.S.Streams.content c.args.streams.now) c.args.turns c.in_ok-interpreted.interpreted
    (c.in_ok-cores.ensures sections are_parsed ∙ ap (map section) (sym c.as_slice.ensures.value)) (c.in_ok-interpreted.ensures.names known)

pub returns-clause-runs : goal.returns-clause-runs
returns-clause-runs g c = λ known.
    let b = c.requires.built in
    let image = c.args.program.now.image.now in
    let before = g.S.Streams.content c.args.streams.now in
    let after = g.S.Streams.content c.interpret_observed.new.streams in
    runs_to b.sections image before after c.args.turns c.in_ok-interpreted.interpreted.outcome b.runs (g.S.Streams.holds_bytes c.args.streams.now known)
    (means c.sections_keep_their_meaning.ensures b.sections (map section c.as_slice.result.now) image before after c.args.turns c.in_ok-interpreted.interpreted.outcome
    (c.in_ok-cores.ensures b.sections b.parsed ∙ ap (map section) (sym c.as_slice.ensures.value)) (c.in_ok-interpreted.ensures.means known))
