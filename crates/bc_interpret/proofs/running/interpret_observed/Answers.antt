use Rattle.std.proofs.Common.{◌≡◌, map, drop, ap, ◌∙◌}
use Rattle.bc_core.specs.Map.{placed}
use Rattle.bc_core.specs.View.{section}
use Rattle.bc_interpret_steps.specs.Sections.{program_of}
use Rattle.bc_interpret.specs.Interpreted.{map_of}
use Rattle.bc_interpret.specs.Placing.{addresses_of, label_addresses}
use Rattle.bc_interpret.proofs.Meanings.{meaning_is, names_is}
use Rattle.bc_interpret.proofs.running.interpret_observed.Goals as goal

pub returns : goal.returns
returns g c =
    let image = c.args.image.now in
    let cores = map section c.args.cores.now in
    let places : c.after_first-places.result.now ≡ drop 1 image.places = c.after_first-places.ensures ∙ ap (drop 1) c.as_slice.ensures in
    let e : program_of c.as_slice-3.result.now ≡ placed cores (map_of image).places =
    ap program_of c.as_slice-3.ensures.value
    ∙ (c.in_ok-sections.ensures
    ∙ (ap (λ all. placed cores (addresses_of all)) c.as_slice-2.ensures.value
    ∙ ap (placed cores) (c.in_ok-addresses.ensures ∙ ap label_addresses places))) in
    let h = c.in_ok-interpreted.ensures in
    record {
      means = λ known. meaning_is (program_of c.as_slice-3.result.now) cores (map_of image) c.get-stack_base.result c.args.turns (g.S.Streams.content c.args.streams.now)
          (g.S.Streams.content c.observe.new.streams) c.in_ok-interpreted.interpreted.outcome e c.get-stack_base.ensures.same (h.means known);
      names = λ known. names_is (program_of c.as_slice-3.result.now) cores (map_of image) c.get-stack_base.result c.args.turns (g.S.Streams.content c.args.streams.now)
          c.in_ok-interpreted.interpreted e c.get-stack_base.ensures.same (h.names known);
      kept = h.kept;
      failed = h.failed;
      counted = h.counted;
    }
