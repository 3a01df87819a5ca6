-- The bodies of VALOFs in the code of a derivation are those of the VALOFs in its expression, wherever the code is placed.
use Rattle.std.proofs.Common.{◌≡◌, ◌∙◌, ℕ, ◌+◌, Bool, true, false, cond, Some, List, [], ◌∷◌, ◌++◌, refl, ap, sym, arith}
use Rattle.bc_word.specs.declared.operator.Op.{Op}
use Rattle.bc_word.specs.declared.operator.Op.TheVariants.{Add, Subtract, Equal, NotEqual}
use Rattle.bc_core.specs.declared.operands.Operand.{Operand}
use Rattle.bc_core.specs.Tree.{Exp, Num, Load, Neg, Not, Bin, Cond, Call, Valof, Args, no_argument, argument, count, Root, Value, Test, Assign}
use Rattle.bc_core.specs.Operand.{operand_of}
use Rattle.bc_rules_defs.specs.declared.rule.Table.{Table}
use Rattle.bc_rules_defs.specs.declared.rule.Aim.{Aim}
use Rattle.bc_rules_defs.specs.declared.piece.Piece.{Piece}
use Rattle.bc_rules_defs.specs.declared.piece.Piece.TheVariants.{Item, Body}
use Rattle.bc_rules_defs.specs.Free.{beside_zero, without_zero, jumps_at}
use Rattle.bc_rules_defs.specs.Piece.{K, J}
use Rattle.bc_rules_defs.specs.Rules.{Derives, v1, v6, v7, v8, v10, v11, v22, j7, j8, j9, DerivesAll, no_more, one_more, RootDerives, value, test, a1, a2, a3}
use Rattle.bc_rules_defs.specs.Code.{labels, all_labels, code, root_code}
use Rattle.bc_rules_defs.specs.Layers.{Layer, own, body, part, argument_layers, layers, root_layers, code_of}
use Rattle.bc_rules_defs.specs.Made.{Here, Own, number, Claim, Stand, done, piece, own_label, a_body, a_part, Made}
use Rattle.bc_rules_defs.proofs.Layers.{code_is, root_code_is}
use Rattle.bc_rules_defs.proofs.Made.{by_parts, root_stands}

-- the bodies among pieces, in their order
abbrev pub bodies : List Piece → List ℕ
bodies [] = []
bodies (Item i ∷ ps) = bodies ps
bodies (Body n ∷ ps) = n ∷ bodies ps

pub bodies_append : (xs ys : List Piece) → bodies (xs ++ ys) ≡ bodies xs ++ bodies ys
bodies_append [] ys = refl
bodies_append (Item i ∷ xs) ys = bodies_append xs ys
bodies_append (Body n ∷ xs) ys = ap (λ ns. n ∷ ns) (bodies_append xs ys)

no_body : {H : Here} {p : Piece} → Own H p → (ps : List Piece) → bodies (p ∷ ps) ≡ bodies ps
no_body (number h) ps = refl
no_body o ps = refl

-- ---- The bodies don't depend on where the code is placed

-- the bodies in layers; for a part, those in its code at level 0
abbrev put_by : {T : Table} → List (Layer T) → List ℕ
put_by [] = []
put_by (own p ∷ ls) = put_by ls
put_by (body n f ∷ ls) = n ∷ put_by ls
put_by (part d s t f ∷ ls) = bodies (code d 0 0 0) ++ put_by ls

abbrev Same : (T : Table) → Claim T
Same T e aim d s t f = bodies (code d s t f) ≡ bodies (code d 0 0 0)

puts : {T : Table} {H : Here} {k m : ℕ} {ls : List (Layer T)} → Stand (Same T) H k m ls → bodies (code_of ls) ≡ put_by ls
puts (done h i) = refl
puts (piece {ls = ls} o h) = no_body o (code_of ls) ∙ puts h
puts (own_label h) = puts h
puts (a_body {n = n} o h) = ap (λ ns. n ∷ ns) (puts h)
puts (a_part {d = d} {u = u} {v = v} {m = m} {ls = ls} o a c h) =
    bodies_append (code d u v m) (code_of ls) ∙ ap (λ ns. ns ++ bodies (code_of ls)) c ∙ ap (λ ns. bodies (code d 0 0 0) ++ ns) (puts h)

argument_bodies : {T : Table} {es : Args} (ds : DerivesAll T es) (s t f s' t' f' : ℕ) (ls ls' : List (Layer T)) → put_by ls ≡ put_by ls' → put_by (argument_layers ds s t f ++ ls) ≡ put_by (argument_layers ds s' t' f' ++ ls')
argument_bodies no_more s t f s' t' f' ls ls' h = h
argument_bodies (one_more d ds) s t f s' t' f' ls ls' h = ap (λ ns. bodies (code d 0 0 0) ++ ns) (argument_bodies ds (s + 1) t (f + labels d) (s' + 1) t' (f' + labels d) ls ls' h)

jump_puts : (T : Table) (b : Bool) (t : ℕ) → put_by (cond b (own {T = T} (J t) ∷ []) []) ≡ []
jump_puts T true t = refl
jump_puts T false t = refl

alike : {T : Table} {e : Exp} {aim : Aim} (d : Derives T e aim) (s t f : ℕ) → put_by (layers d s t f) ≡ put_by (layers d 0 0 0)
alike (v22 ds r) s t f = argument_bodies ds (s + 2) t f 2 0 0 _ _ refl
alike (j7 {T = T} {n = n} {sense = sense}) s t f = jump_puts T (jumps_at sense n) t ∙ sym (jump_puts T (jumps_at sense n) 0)
alike d s t f = refl

same_step : {T : Table} (e : Exp) (aim : Aim) (d : Derives T e aim) → ((s t f : ℕ) → Made (Same T) e aim d s t f) → (s t f : ℕ) → Same T e aim d s t f
same_step e aim d all s t f =
    let h = all s t f in let i = all 0 0 0 in
    ap bodies (code_is d s t f) ∙ puts h.stand ∙ alike d s t f ∙ sym (puts i.stand) ∙ sym (ap bodies (code_is d 0 0 0))

same : {T : Table} (e : Exp) (aim : Aim) (d : Derives T e aim) (s t f : ℕ) → Same T e aim d s t f
same {T = T} e aim d s t f = by_parts (Same T) (λ e aim d all s t f. same_step e aim d all s t f) d s t f

root_alike : {T : Table} {r : Root} (d : RootDerives T r) (t f : ℕ) → put_by (root_layers d t f) ≡ put_by (root_layers d 0 0)
root_alike (value d) t f = refl
root_alike d t f = refl

pub same_bodies : {T : Table} {r : Root} (d : RootDerives T r) (t f : ℕ) → bodies (root_code d t f) ≡ bodies (root_code d 0 0)
same_bodies {T = T} d t f =
    ap bodies (root_code_is d t f) ∙ puts (root_stands (Same T) same d t f) ∙ root_alike d t f ∙ sym (puts (root_stands (Same T) same d 0 0)) ∙ sym (ap bodies (root_code_is d 0 0))

-- ---- The bodies are those of the expression

-- A weight of expressions that is the sum of the weights of the VALOFs in them.
pub record Weighing : Type 0 where
  pub of : Exp → ℕ
  pub of_all : Args → ℕ
  pub load : (e : Exp) → of (Load e) ≡ of e
  pub neg : (e : Exp) → of (Neg e) ≡ of e
  pub inverse : (e : Exp) → of (Not e) ≡ of e
  pub operator : (op : Op) (a b : Exp) → of (Bin op a b) ≡ of a + of b
  pub condition : (c x y : Exp) → of (Cond c x y) ≡ of c + of x + of y
  pub call : (es : Args) (f : Exp) → of (Call es f) ≡ of_all es + of f
  pub no_argument : of_all no_argument ≡ 0
  pub arguments : (e : Exp) (es : Args) → of_all (argument e es) ≡ of e + of_all es
  pub constant : (n : ℕ) → of (Num n) ≡ 0
  pub operand : (e : Exp) (o : Operand) → operand_of e ≡ Some o → of e ≡ 0
  pub beside : (a b c : Exp) → beside_zero a b ≡ Some c → of a + of b ≡ of c
  pub without : (op : Op) (a b c : Exp) → without_zero op a b ≡ Some c → of a + of b ≡ of c

abbrev pub of_root : Weighing → Root → ℕ
of_root W (Value s e) = W.of e
of_root W (Test s sense e) = W.of e
of_root W (Assign s v a) = W.of v + W.of a

-- the weight of the VALOFs whose bodies are among these pieces, and the same for layers
abbrev pub of_bodies : Weighing → List Piece → ℕ
of_bodies W [] = 0
of_bodies W (Item i ∷ ps) = of_bodies W ps
of_bodies W (Body n ∷ ps) = W.of (Valof n) + of_bodies W ps

abbrev of_layers : {T : Table} → Weighing → List (Layer T) → ℕ
of_layers W [] = 0
of_layers W (own p ∷ ls) = of_layers W ls
of_layers W (body n f ∷ ls) = W.of (Valof n) + of_layers W ls
of_layers W (part {e = e} d s t f ∷ ls) = W.of e + of_layers W ls

of_append : (W : Weighing) (xs ys : List Piece) → of_bodies W (xs ++ ys) ≡ of_bodies W xs + of_bodies W ys
of_append W [] ys = omega arith
of_append W (Item i ∷ xs) ys = of_append W xs ys
of_append W (Body n ∷ xs) ys = let h = of_append W xs ys in omega (arith, h)

no_weight : (W : Weighing) {H : Here} {p : Piece} → Own H p → (ps : List Piece) → of_bodies W (p ∷ ps) ≡ of_bodies W ps
no_weight W (number h) ps = refl
no_weight W o ps = refl

of_arguments : (W : Weighing) {T : Table} {es : Args} (ds : DerivesAll T es) (s t f : ℕ) (ls : List (Layer T)) → of_layers W (argument_layers ds s t f ++ ls) ≡ W.of_all es + of_layers W ls
of_arguments W no_more s t f ls = let h = W.no_argument in omega (arith, h)
of_arguments W (one_more {e = e} {es = es} d ds) s t f ls = let h = W.arguments e es in let i = of_arguments W ds (s + 1) t (f + labels d) ls in omega (arith, h, i)

no_jump : (W : Weighing) (T : Table) (b : Bool) (t : ℕ) → of_layers W (cond b (own {T = T} (J t) ∷ []) []) ≡ 0
no_jump W T true t = refl
no_jump W T false t = refl

weighed : (W : Weighing) {T : Table} {e : Exp} {aim : Aim} (d : Derives T e aim) (s t f : ℕ) → W.of e ≡ of_layers W (layers d s t f)
weighed W (v1 {e = e} {o = o} h) s t f = W.operand e o h
weighed W (v6 {a = a} {b = b} {o = o} h d) s t f = let i = W.operator Add a b in let z = W.operand b o h in omega (arith, i, z)
weighed W (v7 {a = a} {b = b} {o = o} h free d) s t f = let i = W.operator Add a b in let z = W.operand a o h in omega (arith, i, z)
weighed W (v8 {op = op} {a = a} {b = b} {c = c} h d) s t f = let i = W.operator op a b in let z = W.without op a b c h in omega (arith, i, z)
weighed W (v10 {a = a} {b = b} {o = o} h d) s t f = let i = W.operator Subtract a b in let z = W.operand b o h in omega (arith, i, z)
weighed W (v11 {a = a} {b = b} {o = o} h free d) s t f = let i = W.operator Subtract a b in let z = W.operand a o h in omega (arith, i, z)
weighed W (v22 {es = es} {f = r} ds d) s t f = let i = W.call es r in let k = of_arguments W ds (s + 2) t f (part d (s + 2 + count es) t (f + all_labels ds) ∷ own (K s) ∷ []) in omega (arith, i, k)
weighed W (j7 {T = T} {n = n} {sense = sense}) s t f = W.constant n ∙ sym (no_jump W T (jumps_at sense n) t)
weighed W (j8 {a = a} {b = b} {c = c} h k d) s t f = let i = W.operator Equal a b in let z = W.beside a b c k in omega (arith, i, z)
weighed W (j9 {a = a} {b = b} {c = c} h k d) s t f = let i = W.operator NotEqual a b in let z = W.beside a b c k in omega (arith, i, z)
weighed W d s t f = grind (arith, W.load, W.neg, W.inverse, W.operator, W.condition, W.constant)

module _ (W : Weighing) where
  abbrev Weighs : (T : Table) → Claim T
  Weighs T e aim d s t f = W.of e ≡ of_bodies W (code d s t f)

  layers_weigh : {T : Table} {H : Here} {k m : ℕ} {ls : List (Layer T)} → Stand (Weighs T) H k m ls → of_layers W ls ≡ of_bodies W (code_of ls)
  layers_weigh (done h i) = refl
  layers_weigh (piece {ls = ls} o h) = layers_weigh h ∙ sym (no_weight W o (code_of ls))
  layers_weigh (own_label h) = layers_weigh h
  layers_weigh (a_body {n = n} o h) = ap (λ z. W.of (Valof n) + z) (layers_weigh h)
  layers_weigh (a_part {d = d} {u = u} {v = v} {m = m} {ls = ls} o a c h) = let i = layers_weigh h in let j = of_append W (code d u v m) (code_of ls) in omega (arith, c, i, j)

  weigh_step : {T : Table} (e : Exp) (aim : Aim) (d : Derives T e aim) → ((s t f : ℕ) → Made (Weighs T) e aim d s t f) → (s t f : ℕ) → Weighs T e aim d s t f
  weigh_step e aim d all s t f = let h = all s t f in weighed W d s t f ∙ layers_weigh h.stand ∙ sym (ap (of_bodies W) (code_is d s t f))

  weighs : {T : Table} (e : Exp) (aim : Aim) (d : Derives T e aim) (s t f : ℕ) → Weighs T e aim d s t f
  weighs {T = T} e aim d s t f = by_parts (Weighs T) (λ e aim d all s t f. weigh_step e aim d all s t f) d s t f

  root_weighed : {T : Table} {r : Root} (d : RootDerives T r) (t f : ℕ) → of_root W r ≡ of_layers W (root_layers d t f)
  root_weighed (value d) t f = omega arith
  root_weighed (test d) t f = omega arith
  root_weighed (a1 {a = a} {o = o} h v) t f = let z = W.operand a o h in omega (arith, z)
  root_weighed (a2 h free a v) t f = omega arith
  root_weighed (a3 h v a) t f = omega arith

  pub root_weighs : {T : Table} {r : Root} (d : RootDerives T r) (t f : ℕ) → of_root W r ≡ of_bodies W (root_code d t f)
  root_weighs {T = T} d t f = root_weighed d t f ∙ layers_weigh (root_stands (Weighs T) weighs d t f) ∙ sym (ap (of_bodies W) (root_code_is d t f))
