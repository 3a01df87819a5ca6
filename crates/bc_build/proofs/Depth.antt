-- A translated expression nests at most twice as deep as its source.
use Rattle.std.proofs.Common.{ℕ, ◌+◌, ◌*◌, ◌≤◌, Option, Some, None, arith}
use Rattle.std.specs.Prelude.{max}
use Rattle.bc_word.specs.declared.operator.Op.{Op}
use Rattle.bc_parse_tree.specs.declared.tree.UnaryOp.{UnaryOp}
use Rattle.bc_parse_tree.specs.declared.tree.UnaryOp.TheVariants as unary
use Rattle.bc_parse_tree.specs.Tree as tree
use Rattle.bc_parse_tree.specs.Height.{exp_height, exps_height}
use Rattle.bc_core.specs.Tree.{Exp, Num, Frame, Glob, Place, Load, Neg, Not, Bin, Cond, Call, Valof}
use Rattle.bc_scope_defs.specs.Scope.{Meant, Constant, Pending, Static, Global, Routine, Variable, OuterVariable, OuterLabel, StrayVariable, StrayLabel, LabelOutside, Undeclared, Env, Numbers, meant_by}
use Rattle.bc_scope_defs.specs.Scope as scope
use Rattle.bc_scope_defs.specs.Numbering.{following}
use Rattle.bc_scope_defs.specs.Scoping.{operator}
use Rattle.bc_scope_defs.specs.Translation.{Forms, form_of_name, form_of_unary, form_of_binary, negation, opposite, or_not, forms, core_arguments}
use Rattle.bc_cert_laws.specs.Entries.{nested, all_nested}

abbrev pub AreNested : Forms → ℕ → Type 0
AreNested f n = (nested f.address ≤ n) × (nested f.content ≤ n)

name_nested : (m : Meant) → AreNested (form_of_name m) 2
name_nested (Constant w) = (omega arith, omega arith)
name_nested Pending = (omega arith, omega arith)
name_nested (Static m) = (omega arith, omega arith)
name_nested (Global n) = (omega arith, omega arith)
name_nested (Routine m) = (omega arith, omega arith)
name_nested (Variable k) = (omega arith, omega arith)
name_nested (scope.Label l) = (omega arith, omega arith)
name_nested OuterVariable = (omega arith, omega arith)
name_nested OuterLabel = (omega arith, omega arith)
name_nested StrayVariable = (omega arith, omega arith)
name_nested StrayLabel = (omega arith, omega arith)
name_nested LabelOutside = (omega arith, omega arith)
name_nested Undeclared = (omega arith, omega arith)

negation_nested : (e : Exp) → nested (negation e) ≤ nested e + 1
negation_nested (Bin op a b) = of_operator (opposite op) where
  of_operator : (o : Option Op) → nested (or_not o op a b) ≤ nested (Bin op a b) + 1
  of_operator None = omega arith
  of_operator (Some o) = omega arith
negation_nested (Num n) = omega arith
negation_nested (Frame k) = omega arith
negation_nested (Glob n) = omega arith
negation_nested (Place m) = omega arith
negation_nested (Load e) = omega arith
negation_nested (Neg e) = omega arith
negation_nested (Not e) = omega arith
negation_nested (Cond c x y) = omega arith
negation_nested (Call es f) = omega arith
negation_nested (Valof n) = omega arith

unary_nested : (m : UnaryOp) (f : Forms) (n : ℕ) → AreNested f (2 * n) → AreNested (form_of_unary m f) (2 * (n + 1))
unary_nested unary.Load f n h = let a = h.1 in (omega arith, omega arith)
unary_nested unary.Address f n h = let a = h.0 in (omega arith, omega arith)
unary_nested unary.Not f n h = let a = h.1 in let b = negation_nested f.content in (omega arith, omega arith)
unary_nested unary.Neg f n h = let a = h.1 in (omega arith, omega arith)

binary_nested : (o : Option Op) (l r : Exp) (m n : ℕ) → nested l ≤ 2 * m → nested r ≤ 2 * n → AreNested (form_of_binary o l r) (2 * (max m n + 1))
binary_nested None l r m n h k = (omega arith, omega arith)
binary_nested (Some op) l r m n h k = (omega arith, omega arith)

mutual
  -- the address and the content
  pub forms_nested : (E : Env) (at : Numbers) (e : tree.Exp) → AreNested (forms E at e) (2 * exp_height e)
  forms_nested E at (tree.Name n) = name_nested (meant_by E n)
  forms_nested E at (tree.Num w) = (omega arith, omega arith)
  forms_nested E at (tree.Character w) = (omega arith, omega arith)
  forms_nested E at tree.True = (omega arith, omega arith)
  forms_nested E at tree.False = (omega arith, omega arith)
  forms_nested E at (tree.Text bytes) = (omega arith, omega arith)
  forms_nested E at (tree.Table ks) = (omega arith, omega arith)
  forms_nested E at (tree.Valof b) = (omega arith, omega arith)
  forms_nested E at (tree.Unary m e) = unary_nested m (forms E at e) (exp_height e) (forms_nested E at e)
  forms_nested E at (tree.Bin o l r) = binary_nested (operator o) _ _ (exp_height l) (exp_height r) (forms_nested E at l).1 (forms_nested E (following at l) r).1
  forms_nested E at (tree.Cond c x y) =
      let hc = (forms_nested E at c).1 in
      let hx = (forms_nested E (following at c) x).1 in
      let hy = (forms_nested E (following (following at c) x) y).1 in
      (omega arith, omega arith)
  forms_nested E at (tree.Call f es) =
      let hf = (forms_nested E at f).1 in
      let hs = arguments_nested E (following at f) es in
      (omega arith, omega arith)

  pub arguments_nested : (E : Env) (at : Numbers) (es : tree.Exps) → all_nested (core_arguments E at es) ≤ 2 * exps_height es
  arguments_nested E at tree.none = omega arith
  arguments_nested E at (tree.more e es) =
      let he = (forms_nested E at e).1 in
      let hs = arguments_nested E (following at e) es in
      omega arith
