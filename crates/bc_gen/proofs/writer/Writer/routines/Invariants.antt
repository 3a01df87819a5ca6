use Rattle.std.proofs.Common.{◌≡◌, ◌++◌, map, drop}
use Rattle.bc_core.specs.View.{place_of}
use Rattle.bc_gen_defs.specs.Entries.{Plain}
use Rattle.bc_gen_defs.specs.Section.{emit_routines}
use Rattle.bc_gen.specs.Parts.{parts}
use Rattle.bc_gen.specs.Surroundings.{roots_in}
use Rattle.bc_gen.proofs.writer.Writer.routines.Given as goal

abbrev pub invariant-loop-place : goal.invariant-loop-place
invariant-loop-place l =
    let rest = emit_routines Plain (roots_in l.around) l.label (map place_of (drop l.place-index l.places)) l.self.next in
    let whole = emit_routines Plain (roots_in l.around) 0 (map place_of l.places) l.fn.self.next in
    (parts l.self.parts.items ++ rest.0 ≡ parts l.fn.self.parts.items ++ whole.0) × (rest.1 ≡ whole.1) × (l.label ≡ l.place-index)
