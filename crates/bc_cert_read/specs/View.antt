-- For proofs: borrowed fields as lists of bytes.
use Rattle.std.specs.Prelude.{ℕ, List, Vec, Option, Some, None}
use Rattle.std.specs.declared.alloc.Global.{Global}
use Rattle.bc_rules_defs.specs.declared.piece.Piece.{Piece}
use Rattle.std.specs.Borrow.{Bor}
use Rattle.bc_cert_read.specs.Fields.{Cut}

abbrev pub slice : Option (Bor (List ℕ)) → Option (List ℕ)
slice None = None
slice (Some s) = Some s.now

abbrev pub cut : (Bor (List ℕ) × Option (Bor (List ℕ))) → Cut
cut c = record { first = c.0.now; following = slice c.1 }

abbrev pub pair : Option (Bor (List ℕ) × Bor (List ℕ)) → Option (List ℕ × List ℕ)
pair None = None
pair (Some p) = Some (p.0.now, p.1.now)

abbrev pub code : Option (Vec Piece Global) → Option (List Piece)
code None = None
code (Some v) = Some v.items
