-- The writer has taken the header and the lines of the entries up to here.
use Rattle.std.proofs.Common.{◌≡◌, List, ◌++◌, map, take, flat_map}
use Rattle.std.specs.Io.KnownBytes.{Appends}
use Rattle.bc_rules_defs.specs.declared.rule.Table.TheVariants.{Two}
use Rattle.bc_rules_defs.specs.View.{entry}
use Rattle.bc_cert_defs.specs.Text.{header_line}
use Rattle.bc_cert_write.specs.Certificate.{Derived, entry_of, entry_text}
use Rattle.bc_cert_write.proofs.writing.write_cert.Given as goal

abbrev pub invariant-loop-entry : goal.invariant-loop-entry
invariant-loop-entry g l =
    let contents = g.W.Write.contents in
    (ds : List Derived) → map entry l.entries ≡ map entry_of ds → Appends (contents l.fn.out) (contents l.out) (header_line Two ++ flat_map entry_text (take l.entry-index ds))
