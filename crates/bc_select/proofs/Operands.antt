-- The content of a content isn't an operand.
use Rattle.std.proofs.Common.{◌≡◌, Bool, true, false, Option, Some, None, cond, refl}
use Rattle.bc_core.specs.declared.operands.Operand.{Operand}
use Rattle.bc_core.specs.Operand.{content_of}

again : (direct : Bool) (o : Operand) → content_of (cond direct (Some (record o { direct = false })) None) ≡ None
again true o = refl
again false o = refl

pub content_twice : (p : Option Operand) → content_of (content_of p) ≡ None
content_twice None = refl
content_twice (Some o) = again o.direct o
