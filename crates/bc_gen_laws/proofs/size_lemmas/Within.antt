-- Neither an operand nor a 0 that is dropped contains a VALOF.
use Rattle.std.proofs.Common.{◌≡◌, ◌∙◌, ℕ, ◌+◌, Bool, true, false, Option, Some, None, cond, refl, ap, arith}
use Rattle.bc_word.specs.declared.operator.Op.{Op}
use Rattle.bc_word.specs.declared.operator.Op.TheVariants as operators
use Rattle.bc_core.specs.declared.operands.Operand.{Operand}
use Rattle.bc_core.specs.Tree.{Exp, Num, Frame, Glob, Place, Load, Bin, Root, Value, Test, Assign}
use Rattle.bc_core.specs.Operand.{constant_of, moved, first_some, operand_of_operator, content_of, operand_of}
use Rattle.bc_rules_defs.specs.Free.{is_zero, beside_zero, without_zero}
use Rattle.bc_rules_defs.proofs.Bodies.{Weighing, of_root}
use Rattle.bc_gen_defs.specs.Size.{words_within, words_within_args, words_within_root}

abbrev Nothing : (ℕ → ℕ) → Exp → Type 0
Nothing B e = words_within B e ≡ 0

constant_within : (B : ℕ → ℕ) (e : Exp) (c : ℕ) → constant_of e ≡ Some c → Nothing B e
constant_within B (Num n) c h = refl
constant_within B _ c h = absurd (cc)

-- an address moved by a number
moved_by : (B : ℕ → ℕ) (a b : Exp) (k : Option ℕ) (o : Operand) → constant_of b ≡ k → moved a k ≡ Some o → words_within B a + words_within B b ≡ 0
moved_by B (Frame n) b (Some c) o e h = let z = constant_within B b c e in omega (arith, z)
moved_by B (Glob n) b (Some c) o e h = let z = constant_within B b c e in omega (arith, z)
moved_by B _ b _ o e h = absurd (cc)

sum_within : (B : ℕ → ℕ) (a b : Exp) (x y : Option Operand) (o : Operand) → moved a (constant_of b) ≡ x → moved b (constant_of a) ≡ y → first_some x y ≡ Some o → words_within B a + words_within B b ≡ 0
sum_within B a b (Some p) y o f g h = moved_by B a b (constant_of b) p refl f
sum_within B a b None (Some p) o f g h = let z = moved_by B b a (constant_of a) p refl g in omega (arith, z)
sum_within B a b None None o f g h = absurd (cc)

operator_within : (B : ℕ → ℕ) (op : Op) (a b : Exp) (o : Operand) → operand_of_operator op a b ≡ Some o → words_within B a + words_within B b ≡ 0
operator_within B operators.Add a b o h = sum_within B a b (moved a (constant_of b)) (moved b (constant_of a)) o refl refl h
operator_within B _ a b o h = absurd (cc)

content_within : (B : ℕ → ℕ) (a : Exp) (q : Option Operand) (o : Operand) → ((r : Operand) → q ≡ Some r → Nothing B a) → content_of q ≡ Some o → Nothing B a
content_within B a None o inner g = absurd (cc)
content_within B a (Some r) o inner g = inner r refl

pub operand_within : (B : ℕ → ℕ) (e : Exp) (p : Option Operand) (o : Operand) → operand_of e ≡ p → p ≡ Some o → Nothing B e
operand_within B (Num n) p o e h = refl
operand_within B (Frame k) p o e h = refl
operand_within B (Glob n) p o e h = refl
operand_within B (Place m) p o e h = refl
operand_within B (Load a) p o e h = content_within B a (operand_of a) o (λ r f. operand_within B a (operand_of a) r refl f) (e ∙ h)
operand_within B (Bin op a b) p o e h = operator_within B op a b o (e ∙ h)
operand_within B _ p o e h = absurd (cc)

pub no_operand_body : (B : ℕ → ℕ) (e : Exp) (o : Operand) → operand_of e ≡ Some o → Nothing B e
no_operand_body B e o h = operand_within B e (operand_of e) o refl h

zero_within : (B : ℕ → ℕ) (e : Exp) → is_zero e ≡ true → Nothing B e
zero_within B (Num n) h = refl
zero_within B _ h = absurd (cc)

beside_within : (B : ℕ → ℕ) (a b c : Exp) (x y : Bool) → is_zero b ≡ x → is_zero a ≡ y → cond x (Some a) (cond y (Some b) None) ≡ Some c → words_within B a + words_within B b ≡ words_within B c
beside_within B a b c true y f g h = let e : a ≡ c = cc in let z = zero_within B b f in let w = ap (words_within B) e in omega (arith, z, w)
beside_within B a b c false true f g h = let e : b ≡ c = cc in let z = zero_within B a g in let w = ap (words_within B) e in omega (arith, z, w)
beside_within B a b c false false f g h = absurd (cc)

pub beside_zero_within : (B : ℕ → ℕ) (a b c : Exp) → beside_zero a b ≡ Some c → words_within B a + words_within B b ≡ words_within B c
beside_zero_within B a b c h = beside_within B a b c (is_zero b) (is_zero a) refl refl h

minus_within : (B : ℕ → ℕ) (a b c : Exp) (x : Bool) → is_zero b ≡ x → cond x (Some a) None ≡ Some c → words_within B a + words_within B b ≡ words_within B c
minus_within B a b c true f h = let e : a ≡ c = cc in let z = zero_within B b f in let w = ap (words_within B) e in omega (arith, z, w)
minus_within B a b c false f h = absurd (cc)

pub without_zero_within : (B : ℕ → ℕ) (op : Op) (a b c : Exp) → without_zero op a b ≡ Some c → words_within B a + words_within B b ≡ words_within B c
without_zero_within B operators.Add a b c h = beside_zero_within B a b c h
without_zero_within B operators.Subtract a b c h = minus_within B a b c (is_zero b) refl h
without_zero_within B _ a b c h = absurd (cc)

-- hence the words of the bodies in an expression are a weight of it
abbrev pub within : (ℕ → ℕ) → Weighing
within B = record {
  of = words_within B;
  of_all = words_within_args B;
  load = λ e. refl;
  neg = λ e. refl;
  inverse = λ e. refl;
  operator = λ op a b. refl;
  condition = λ c x y. refl;
  call = λ es f. refl;
  no_argument = refl;
  arguments = λ e es. refl;
  constant = λ n. refl;
  operand = no_operand_body B;
  beside = beside_zero_within B;
  without = without_zero_within B;
}

pub root_within : (B : ℕ → ℕ) (r : Root) → of_root (within B) r ≡ words_within_root B r
root_within B (Value s e) = refl
root_within B (Test s sense e) = refl
root_within B (Assign s v a) = refl
