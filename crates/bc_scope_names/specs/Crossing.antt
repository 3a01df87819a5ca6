-- For proofs: what a name means when it is seen from inside a routine or a VALOF.
use Rattle.std.specs.Prelude.{nat_lt, cond, true, false}
use Rattle.bc_scope_defs.specs.Scope.{Meant}
use Rattle.bc_scope_defs.specs.Scoping.{around_routine, around_valof}
use Rattle.bc_scope_names.specs.declared.scope.Borders.{Borders}
use Rattle.bc_scope_names.specs.declared.scope.Bound.{Bound}
use Rattle.bc_scope_names.specs.Known.{meant_view}

-- what a name's newest entry means inside these borders
abbrev pub seen : Borders → Bound → Meant
seen b k =
    let m = meant_view k.meant in
    cond (nat_lt k.place b.outermost) (around_routine false m)
    (cond (nat_lt k.place b.routine) (around_routine true m)
    (cond (nat_lt k.place b.valof) (around_valof m) m))
