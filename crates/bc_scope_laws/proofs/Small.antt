-- A translated expression has at most twice as many nodes as its source.
use Rattle.std.proofs.Common.{◌≡◌, ℕ, ◌+◌, ◌*◌, ◌≤◌, true, List, [], ◌∷◌, Option, Some, None, arith}
use Rattle.std.specs.Prelude.{nat_le}
use Rattle.bc_word.specs.declared.operator.Op.{Op}
use Rattle.bc_parse_tree.specs.declared.tree.UnaryOp.{UnaryOp}
use Rattle.bc_parse_tree.specs.declared.tree.UnaryOp.TheVariants as unary
use Rattle.bc_parse_tree.specs.Tree as tree
use Rattle.bc_parse_tree.specs.Size.{exp_size, exps_size}
use Rattle.bc_core.specs.Tree.{Exp, Num, Frame, Glob, Place, Load, Neg, Not, Bin, Cond, Call, Valof}
use Rattle.bc_core.specs.WellFormed.{nodes, nodes_of_args, most_nodes}
use Rattle.bc_scope_defs.specs.Scope.{Meant, Constant, Pending, Static, Global, Routine, Variable, OuterVariable, OuterLabel, StrayVariable, StrayLabel, LabelOutside, Undeclared, Env, Numbers, meant_by}
use Rattle.bc_scope_defs.specs.Scope as scope
use Rattle.bc_scope_defs.specs.Numbering.{following}
use Rattle.bc_scope_defs.specs.Scoping.{operator}
use Rattle.bc_scope_defs.specs.Translation.{Forms, form_of_name, form_of_unary, form_of_binary, negation, opposite, or_not, forms, core_arguments, forms_of_all}

abbrev pub AreSmall : Forms → ℕ → Type 0
AreSmall f n = (nodes f.address ≤ n) × (nodes f.content ≤ n)

two_enough : (a b n : ℕ) → a ≤ 2 → b ≤ 2 → n ≡ 2 → (a ≤ n) × (b ≤ n)
two_enough a b n h k e = (omega arith, omega arith)

name_small : (m : Meant) → AreSmall (form_of_name m) 2
name_small (Constant w) = (omega arith, omega arith)
name_small Pending = (omega arith, omega arith)
name_small (Static m) = (omega arith, omega arith)
name_small (Global n) = (omega arith, omega arith)
name_small (Routine m) = (omega arith, omega arith)
name_small (Variable k) = (omega arith, omega arith)
name_small (scope.Label l) = (omega arith, omega arith)
name_small OuterVariable = (omega arith, omega arith)
name_small OuterLabel = (omega arith, omega arith)
name_small StrayVariable = (omega arith, omega arith)
name_small StrayLabel = (omega arith, omega arith)
name_small LabelOutside = (omega arith, omega arith)
name_small Undeclared = (omega arith, omega arith)

negation_nodes : (e : Exp) → nodes (negation e) ≤ 1 + nodes e
negation_nodes (Bin op a b) = of_operator (opposite op) where
  of_operator : (o : Option Op) → nodes (or_not o op a b) ≤ 1 + nodes (Bin op a b)
  of_operator None = omega arith
  of_operator (Some o) = omega arith
negation_nodes (Num n) = omega arith
negation_nodes (Frame k) = omega arith
negation_nodes (Glob n) = omega arith
negation_nodes (Place m) = omega arith
negation_nodes (Load e) = omega arith
negation_nodes (Neg e) = omega arith
negation_nodes (Not e) = omega arith
negation_nodes (Cond c x y) = omega arith
negation_nodes (Call es f) = omega arith
negation_nodes (Valof n) = omega arith

unary_small : (m : UnaryOp) (f : Forms) (n : ℕ) → AreSmall f (2 * n) → AreSmall (form_of_unary m f) (2 * (n + 1))
unary_small unary.Load f n h = let a = h.1 in (omega arith, omega arith)
unary_small unary.Address f n h = let a = h.0 in (omega arith, omega arith)
unary_small unary.Not f n h = let a = h.1 in let b = negation_nodes f.content in (omega arith, omega arith)
unary_small unary.Neg f n h = let a = h.1 in (omega arith, omega arith)

binary_small : (o : Option Op) (l r : Exp) (m n : ℕ) → nodes l ≤ 2 * m → nodes r ≤ 2 * n → AreSmall (form_of_binary o l r) (2 * (m + n + 1))
binary_small None l r m n h k = (omega arith, omega arith)
binary_small (Some op) l r m n h k = (omega arith, omega arith)

mutual
  pub small : (E : Env) (at : Numbers) (e : tree.Exp) → AreSmall (forms E at e) (2 * exp_size e)
  small E at (tree.Name n) = name_small (meant_by E n)
  small E at (tree.Num w) = (omega arith, omega arith)
  small E at (tree.Character w) = (omega arith, omega arith)
  small E at tree.True = (omega arith, omega arith)
  small E at tree.False = (omega arith, omega arith)
  small E at (tree.Text bytes) = (omega arith, omega arith)
  small E at (tree.Table ks) = (omega arith, omega arith)
  small E at (tree.Valof b) = (omega arith, omega arith)
  small E at (tree.Unary m e) = unary_small m (forms E at e) (exp_size e) (small E at e)
  small E at (tree.Bin o l r) = binary_small (operator o) _ _ (exp_size l) (exp_size r) (small E at l).1 (small E (following at l) r).1
  small E at (tree.Cond c x y) =
      let hc = (small E at c).1 in
      let hx = (small E (following at c) x).1 in
      let hy = (small E (following (following at c) x) y).1 in
      (omega arith, omega arith)
  small E at (tree.Call f es) =
      let hf = (small E at f).1 in
      let hs = arguments_small E (following at f) es in
      (omega arith, omega arith)

  pub arguments_small : (E : Env) (at : Numbers) (es : tree.Exps) → nodes_of_args (core_arguments E at es) ≤ 2 * exps_size es
  arguments_small E at tree.none = omega arith
  arguments_small E at (tree.more e es) =
      let he = (small E at e).1 in
      let hs = arguments_small E (following at e) es in
      omega arith

-- the addresses, and the contents, of several
abbrev pub nodes_of_addresses : List Forms → ℕ
nodes_of_addresses [] = 0
nodes_of_addresses (f ∷ fs) = nodes f.address + nodes_of_addresses fs

abbrev pub nodes_of_contents : List Forms → ℕ
nodes_of_contents [] = 0
nodes_of_contents (f ∷ fs) = nodes f.content + nodes_of_contents fs

pub addresses_small : (E : Env) (at : Numbers) (es : tree.Exps) → nodes_of_addresses (forms_of_all E at es) ≤ 2 * exps_size es
addresses_small E at tree.none = omega arith
addresses_small E at (tree.more e es) =
    let he = (small E at e).0 in
    let hs = addresses_small E (following at e) es in
    omega arith

pub contents_small : (E : Env) (at : Numbers) (es : tree.Exps) → nodes_of_contents (forms_of_all E at es) ≤ 2 * exps_size es
contents_small E at tree.none = omega arith
contents_small E at (tree.more e es) =
    let he = (small E at e).1 in
    let hs = contents_small E (following at e) es in
    omega arith

pub few : (n : ℕ) → n ≤ most_nodes → nat_le n most_nodes ≡ true
few n h = grind arith
