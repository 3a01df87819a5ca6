-- The arguments of a call, with one more at the end.
use Rattle.std.proofs.Common.{ℕ, ◌+◌, ◌<◌, List, length, get_or, take, sym, subst}
use Rattle.bc_core.specs.declared.expression.CoreExp.{CoreExp}
use Rattle.bc_core.specs.Tree.{Exp, Args, no_argument, argument}
use Rattle.bc_core.specs.View.{exp, args}
use Rattle.bc_core.proofs.Rows.{then_argument, args_take}
use Rattle.bc_build.specs.Ranges.{AreSmall, AllAreSmall}

all_then : (es : Args) (e : Exp) → AllAreSmall es → AreSmall e → AllAreSmall (then_argument es e)
all_then no_argument e h i = (i, tt)
all_then (argument d es) e h i = (h.0, all_then es e h.1 i)

pub all_more : (es : List CoreExp) (i : ℕ) (e : CoreExp) → i < length es → AllAreSmall (args (take i es)) → AreSmall (exp (get_or es i e)) → AllAreSmall (args (take (i + 1) es))
all_more es i e h all one = subst AllAreSmall (sym (args_take es i e h)) (all_then (args (take i es)) (exp (get_or es i e)) all one)
