use Rattle.std.proofs.Common.{◌≡◌, ◌++◌, map, drop}
use Rattle.bc_core.specs.View.{place_of}
use Rattle.bc_gen_defs.specs.Section.{setting_items}
use Rattle.bc_gen.proofs.generation.put_settings.Given as goal

abbrev pub invariant-loop-place : goal.invariant-loop-place
invariant-loop-place l =
    (l.items.items ++ setting_items l.label (map place_of (drop l.place-index l.places)) ≡ l.fn.items.items ++ setting_items 0 (map place_of l.places)) × (l.label ≡ l.place-index)
