-- The code of a derivation takes as many words as its cost says.
use Rattle.std.proofs.Common.{◌≡◌, ℕ, ◌+◌, Bool, true, false, not, cond, List, [], ◌∷◌, ◌++◌, refl, sym, ap, ◌∙◌, arith, append_assoc, append-nil, add-zero}
use Rattle.bc_word.specs.declared.operator.Op.{Op}
use Rattle.bc_word.specs.declared.operator.Op.TheVariants.{Multiply, Divide, Remainder, Add, Subtract, Equal, NotEqual, Less, GreaterEqual, Greater, LessEqual, ShiftLeft, ShiftRight, And, Or, NotEquivalent, Equivalent}
use Rattle.bc_word.specs.Words.{number_of, negated}
use Rattle.bc_text_items.specs.declared.item.Item.TheVariants.{Operation}
use Rattle.bc_text_items.specs.declared.item.Base.{Base}
use Rattle.bc_text_items.specs.declared.item.Base.TheVariants.{Number, P, Label}
use Rattle.bc_text_items.specs.declared.item.Function.{Function}
use Rattle.bc_text_items.specs.declared.item.Function.TheVariants as functions
use Rattle.bc_text_items.specs.Sizes.{operation_size}
use Rattle.bc_core.specs.declared.operands.Operand.{Operand}
use Rattle.bc_core.specs.Tree.{Exp, Args, count, Root}
use Rattle.bc_rules_defs.specs.declared.rule.Table.{Table}
use Rattle.bc_rules_defs.specs.declared.rule.Aim.{Aim}
use Rattle.bc_rules_defs.specs.declared.piece.Piece.{Piece}
use Rattle.bc_rules_defs.specs.declared.piece.Piece.TheVariants.{Item, Body}
use Rattle.bc_rules_defs.specs.Free.{jumps_at}
use Rattle.bc_rules_defs.specs.Piece.{on, SP, LIP, X, J, jump_if, label, w, operand_words, words}
use Rattle.bc_rules_defs.specs.Rules.{Derives, v0, v1, v2, v3, v4, v6, v7, v8, v9, v10, v11, v12, v13, v14, v15, v16, v17, v18, v19, v20, v21, v22, v22_valof, j1, j2, j3, j4, j5, j6, j7, j8, j9, DerivesAll, no_more, one_more, RootDerives, value, test, a1, a2, a3}
use Rattle.bc_rules_defs.specs.Code.{labels, all_labels, code, all_code, cost, all_cost, root_code, root_cost}

-- pieces that take n words, whatever follows them
record Weighs (ps : List Piece) (n : ℕ) : Type 0 where
  all : (rest : List Piece) → words (ps ++ rest) ≡ n + words rest

weighs_none : Weighs [] 0
weighs_none = record { all = λ rest. omega arith }

weighs_both : {xs ys : List Piece} {m n : ℕ} → Weighs xs m → Weighs ys n → Weighs (xs ++ ys) (m + n)
weighs_both {xs = xs} {ys = ys} {m = m} {n = n} h i = record { all = λ rest. ap words (append_assoc xs ys rest) ∙ h.all (ys ++ rest) ∙ omega (arith, i.all rest) }

weighs_as : {xs : List Piece} {m n : ℕ} → Weighs xs m → m ≡ n → Weighs xs n
weighs_as {xs = xs} {m = m} {n = n} h e = record { all = λ rest. h.all rest ∙ ap (λ k. k + words rest) e }

-- an operation, a label and a body put before such pieces
weighs_operation : (f : Function) (i : Bool) (b : Base) (k : ℕ) {ps : List Piece} {n : ℕ} → Weighs ps n → Weighs (Item (Operation f i b k) ∷ ps) (operation_size b k + n)
weighs_operation f i b k {ps = ps} {n = n} h = record { all = λ rest. ap (λ z. operation_size b k + z) (h.all rest) ∙ omega arith }

op : (f : Function) (i : Bool) (b : Base) (k : ℕ) → Weighs (Item (Operation f i b k) ∷ []) (operation_size b k)
op f i b k = record { all = λ rest. refl }

weighs_label : (k : ℕ) {ps : List Piece} {n : ℕ} → Weighs ps n → Weighs (label k ∷ ps) n
weighs_label k {ps = ps} {n = n} h = record { all = λ rest. ap (λ z. 0 + z) (h.all rest) ∙ omega arith }

weighs_body : (k : ℕ) {ps : List Piece} {n : ℕ} → Weighs ps n → Weighs (Body k ∷ ps) n
weighs_body k {ps = ps} {n = n} h = record { all = λ rest. h.all rest }

-- the same for the operations that have names
on_end : (f : Function) (o : Operand) → Weighs (on f o ∷ []) (operand_words o)
on_end f o = op f (cond o.direct false true) o.base o.n

pub operator_words : (o : Op) → operation_size Number (number_of o) ≡ 1
operator_words Multiply = refl
operator_words Divide = refl
operator_words Remainder = refl
operator_words Add = refl
operator_words Subtract = refl
operator_words Equal = refl
operator_words NotEqual = refl
operator_words Less = refl
operator_words GreaterEqual = refl
operator_words Greater = refl
operator_words LessEqual = refl
operator_words ShiftLeft = refl
operator_words ShiftRight = refl
operator_words And = refl
operator_words Or = refl
operator_words NotEquivalent = refl
operator_words Equivalent = refl

apply_end : (o : Op) → Weighs (X (number_of o) ∷ []) 1
apply_end o = weighs_as (op functions.Execute false Number (number_of o)) (operator_words o)

hold : (s : ℕ) {ps : List Piece} {n : ℕ} → Weighs ps n → Weighs (SP s ∷ ps) (w s + n)
hold s h = weighs_operation functions.Store false P s h

take_back : (s : ℕ) {ps : List Piece} {n : ℕ} → Weighs ps n → Weighs (LIP s ∷ ps) (w s + n)
take_back s h = weighs_operation functions.Load true P s h

jump_end : (sense : Bool) (t : ℕ) → Weighs (jump_if sense t ∷ []) 2
jump_end true t = op functions.JumpIfTrue false Label t
jump_end false t = op functions.JumpIfFalse false Label t

number_end : (b : Bool) (t : ℕ) → Weighs (cond b (J t ∷ []) []) (cond b 2 0)
number_end true t = op functions.Jump false Label t
number_end false t = weighs_none

-- a condition: the test, the two values, and a jump and two labels
choice_weighs : {xs ys zs : List Piece} {k l m : ℕ} (f : ℕ) → Weighs xs k → Weighs ys l → Weighs zs m → Weighs (xs ++ ys ++ J (f + 1) ∷ label f ∷ zs ++ label (f + 1) ∷ []) (k + l + m + 2)
choice_weighs {k = k} {l = l} {m = m} f h i j =
    weighs_as (weighs_both (weighs_both (weighs_both h i) (weighs_operation functions.Jump false Label (f + 1) (weighs_label f j))) (weighs_label (f + 1) weighs_none)) (omega arith)

mutual
  code_weighs : {T : Table} {e : Exp} {aim : Aim} (d : Derives T e aim) (s t f : ℕ) → Weighs (code d s t f) (cost d s)
  code_weighs (v0 d) s t f = code_weighs d s t f
  code_weighs (v1 {o = o} h) s t f = on_end functions.Load o
  code_weighs (v2 d) s t f = weighs_both (code_weighs d s t f) (op functions.Execute false Number 1)
  code_weighs (v3 d) s t f = weighs_both (code_weighs d s t f) (op functions.Execute false Number 2)
  code_weighs (v4 d) s t f = weighs_both (code_weighs d s t f) (op functions.Execute false Number 3)
  code_weighs (v6 {o = o} h d) s t f = weighs_both (code_weighs d (s + 1) t f) (on_end functions.Add o)
  code_weighs (v7 {o = o} h free d) s t f = weighs_both (code_weighs d (s + 1) t f) (on_end functions.Add o)
  code_weighs (v8 h d) s t f = code_weighs d (s + 1) t f
  code_weighs (v9 {n = n} d) s t f = weighs_both (code_weighs d (s + 1) t f) (op functions.Add false Number (negated n))
  code_weighs (v10 {o = o} h d) s t f = weighs_both (code_weighs d (s + 1) t f) (weighs_as (weighs_operation functions.Execute false Number 2 (weighs_both (on_end functions.Add o) (op functions.Execute false Number 2))) (omega arith))
  code_weighs (v11 {o = o} h free d) s t f = weighs_both (code_weighs d (s + 1) t f) (weighs_operation functions.Execute false Number 2 (on_end functions.Add o))
  code_weighs (v12 {op = o} x y) s t f = weighs_both (weighs_both (code_weighs x (s + 1) t f) (code_weighs y (s + 1) t (f + labels x))) (apply_end o)
  code_weighs (v13 {q = o} h free x y) s t f = weighs_both (weighs_both (code_weighs x (s + 1) t f) (code_weighs y (s + 1) t (f + labels x))) (apply_end o)
  code_weighs (v14 free x y) s t f = weighs_both (weighs_both (code_weighs x (s + 1) t f) (code_weighs y (s + 1) t (f + labels x))) (weighs_operation functions.Execute false Number 9 (op functions.Execute false Number 2))
  code_weighs (v15 {q = o} h x y) s t f = weighs_as (weighs_both (weighs_both (code_weighs x (s + 1) t f) (hold s (code_weighs y (s + 1) t (f + labels x)))) (take_back s (apply_end o))) (omega arith)
  code_weighs (v16 {op = o} free x y) s t f = weighs_as (weighs_both (weighs_both (code_weighs x (s + 1) t f) (hold s (code_weighs y (s + 1) t (f + labels x)))) (take_back s (apply_end o))) (omega arith)
  code_weighs (v17 {op = o} x y) s t f = weighs_as (weighs_both (weighs_both (code_weighs x (s + 1) t f) (hold s (code_weighs y (s + 1) t (f + labels x)))) (hold (s + 1) (take_back s (take_back (s + 1) (apply_end o))))) (omega arith)
  code_weighs (v18 x y) s t f = weighs_as (weighs_both (weighs_both (code_weighs x (s + 1) t f) (hold s (code_weighs y (s + 1) t (f + labels x)))) (op functions.Add true P s)) (omega arith)
  code_weighs (v19 x y) s t f = weighs_as (weighs_both (weighs_both (code_weighs x (s + 1) t f) (hold s (code_weighs y (s + 1) t (f + labels x)))) (weighs_operation functions.Execute false Number 2 (op functions.Add true P s))) (omega arith)
  code_weighs (v20 c x y) s t f = choice_weighs f (code_weighs c s f (f + 2)) (code_weighs x s t (f + 2 + labels c)) (code_weighs y s t (f + 2 + labels c + labels x))
  code_weighs (v21 c y x) s t f = choice_weighs f (code_weighs c s f (f + 2)) (code_weighs y s t (f + 2 + labels c)) (code_weighs x s t (f + 2 + labels c + labels y))
  code_weighs (v22 {es = es} ds r) s t f = weighs_both (weighs_both (all_weighs ds (s + 2) t f) (code_weighs r (s + 2 + count es) t (f + all_labels ds))) (op functions.Call false Number s)
  code_weighs (v22_valof {n = n}) s t f = weighs_body n (weighs_label f weighs_none)
  code_weighs (j1 d) s t f = code_weighs d s t f
  code_weighs (j2 x y) s t f = weighs_both (code_weighs x (s + 1) t f) (code_weighs y (s + 1) t (f + labels x))
  code_weighs (j3 x y) s t f = weighs_as (weighs_both (weighs_both (code_weighs x (s + 1) f (f + 1)) (code_weighs y (s + 1) t (f + 1 + labels x))) (weighs_label f weighs_none)) (omega arith)
  code_weighs (j4 x y) s t f = weighs_both (code_weighs x (s + 1) t f) (code_weighs y (s + 1) t (f + labels x))
  code_weighs (j5 x y) s t f = weighs_as (weighs_both (weighs_both (code_weighs x (s + 1) f (f + 1)) (code_weighs y (s + 1) t (f + 1 + labels x))) (weighs_label f weighs_none)) (omega arith)
  code_weighs (j6 {sense = sense} h d) s t f = weighs_both (code_weighs d s t f) (jump_end sense t)
  code_weighs (j7 {n = n} {sense = sense}) s t f = number_end (jumps_at sense n) t
  code_weighs (j8 {sense = sense} k h d) s t f = weighs_both (code_weighs d (s + 1) t f) (jump_end (not sense) t)
  code_weighs (j9 {sense = sense} k h d) s t f = weighs_both (code_weighs d (s + 1) t f) (jump_end sense t)

  all_weighs : {T : Table} {es : Args} (ds : DerivesAll T es) (s t f : ℕ) → Weighs (all_code ds s t f) (all_cost ds s)
  all_weighs no_more s t f = weighs_none
  all_weighs (one_more d ds) s t f = weighs_as (weighs_both (code_weighs d s t f) (hold s (all_weighs ds (s + 1) t (f + labels d)))) (omega arith)

root_weighs : {T : Table} {r : Root} (d : RootDerives T r) (t f : ℕ) → Weighs (root_code d t f) (root_cost d)
root_weighs (value {s = s} d) t f = code_weighs d s t f
root_weighs (test {s = s} d) t f = code_weighs d s t f
root_weighs (a1 {s = s} {o = o} h x) t f = weighs_both (code_weighs x s t f) (on_end functions.Store o)
root_weighs (a2 {s = s} h free x y) t f = weighs_as (weighs_both (weighs_both (code_weighs x (s + 1) t f) (hold s (code_weighs y (s + 1) t (f + labels x)))) (op functions.Store true P s)) (omega arith)
root_weighs (a3 {s = s} h x y) t f = weighs_as (weighs_both (weighs_both (code_weighs x (s + 1) t f) (hold s (code_weighs y (s + 1) t (f + labels x)))) (hold (s + 1) (take_back s (op functions.Store true P (s + 1))))) (omega arith)

weight : {ps : List Piece} {n : ℕ} → Weighs ps n → words ps ≡ n
weight {ps = ps} {n = n} h = ap words (sym (append-nil ps)) ∙ h.all [] ∙ add-zero n

pub code_words : {T : Table} {e : Exp} {aim : Aim} (d : Derives T e aim) (s t f : ℕ) → words (code d s t f) ≡ cost d s
code_words d s t f = weight (code_weighs d s t f)

pub root_words : {T : Table} {r : Root} (d : RootDerives T r) (t f : ℕ) → words (root_code d t f) ≡ root_cost d
root_words d t f = weight (root_weighs d t f)
