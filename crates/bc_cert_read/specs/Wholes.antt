-- For proofs: the expression of a node from those of its parts, computed as the program does it.
use Rattle.std.specs.Prelude.{List, [], ◌∷◌, Option, Some, None}
use Rattle.bc_word.specs.declared.operator.Op.{Op}
use Rattle.bc_core.specs.Tree.{Exp, Num, Frame, Glob, Place, Load, Neg, Not, Bin, Cond, Call, Valof, no_argument, argument}
use Rattle.bc_cert_read.specs.declared.form.Form.{Form}
use Rattle.bc_cert_read.specs.declared.form.Form.TheVariants as forms

abbrev pub leaf : List Exp → Exp → Option Exp
leaf [] e = Some e
leaf _ e = None

abbrev pub one_of : List Exp → Option Exp
one_of (e ∷ []) = Some e
one_of _ = None

abbrev pub with_one : (Exp → Exp) → Option Exp → Option Exp
with_one f None = None
with_one f (Some e) = Some (f e)

abbrev pub two_of : Op → List Exp → Option Exp
two_of op (a ∷ b ∷ []) = Some (Bin op a b)
two_of op _ = None

abbrev pub three_of : List Exp → Option Exp
three_of (c ∷ x ∷ y ∷ []) = Some (Cond c x y)
three_of _ = None

abbrev pub with_argument : Exp → Option Exp → Option Exp
with_argument e (Some (Call es f)) = Some (Call (argument e es) f)
with_argument e _ = None

-- the last part is the routine
abbrev pub called_of : List Exp → Option Exp
called_of [] = None
called_of (f ∷ []) = Some (Call no_argument f)
called_of (e ∷ f ∷ es) = with_argument e (called_of (f ∷ es))

abbrev pub whole : Form → List Exp → Option Exp
whole (forms.Num n) es = leaf es (Num n)
whole (forms.Frame n) es = leaf es (Frame n)
whole (forms.Glob n) es = leaf es (Glob n)
whole (forms.Place n) es = leaf es (Place n)
whole (forms.Valof n) es = leaf es (Valof n)
whole forms.Load es = with_one Load (one_of es)
whole forms.Neg es = with_one Neg (one_of es)
whole forms.Not es = with_one Not (one_of es)
whole (forms.Bin op) es = two_of op es
whole forms.Cond es = three_of es
whole (forms.Call n) es = called_of es
