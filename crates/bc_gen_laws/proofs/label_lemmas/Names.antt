-- The code of a derivation uses only its own labels, its target, and the labels that its expression names.
use Rattle.std.proofs.Common.{◌≡◌, ℕ, ◌+◌, ◌≤◌, ◌<◌, ◌&&◌, Bool, true, false, cond, Option, Some, None, List, ◌∷◌, sym, subst, arith}
use Rattle.std.specs.Prelude.{nat_le}
use Rattle.std.proofs.lemmas.Bool.Decides.{nat_tests}
use Rattle.bc_word.specs.declared.operator.Op.{Op}
use Rattle.bc_word.specs.declared.operator.Op.TheVariants as operators
use Rattle.bc_text_items.specs.declared.item.Function.{Function}
use Rattle.bc_text_items.specs.declared.item.Base.TheVariants.{Label}
use Rattle.bc_text_items.specs.declared.item.Item.TheVariants as items
use Rattle.bc_core.specs.declared.operands.Operand.{Operand}
use Rattle.bc_core.specs.Tree.{Exp, Num, Frame, Glob, Place, Load, Neg, Not, Bin, Cond, Call, Valof, Args, no_argument, argument, count, Root, Value, Test, Assign}
use Rattle.bc_core.specs.Level.{operand_level, argument_level, routine_level}
use Rattle.bc_core.specs.Operand.{operand_of, content_of, constant_of, moved, first_some, operand_of_operator}
use Rattle.bc_core.specs.WellFormed.{Around, exp_fits, args_fit}
use Rattle.bc_rules_defs.specs.declared.rule.Table.{Table}
use Rattle.bc_rules_defs.specs.declared.rule.Aim.{Aim}
use Rattle.bc_rules_defs.specs.declared.rule.Aim.TheVariants.{Gets, Jumps}
use Rattle.bc_rules_defs.specs.declared.piece.Piece.{Piece}
use Rattle.bc_rules_defs.specs.Rules.{Derives, RootDerives}
use Rattle.bc_rules_defs.specs.Code.{labels, code, root_labels, root_code}
use Rattle.bc_rules_defs.specs.Layers.{Layer, code_of}
use Rattle.bc_rules_defs.specs.Made.{Among, first, later, Within, itself, loaded, negated, inverted, left, right, condition, this, that, an_argument, routine, Side, the_value, the_test, assigned, address, Here, Own, number, frame, cell, next_cell, cell_of_part, operand, to_target, to_own, Aimed, a_value, same_target, own_target, Claim, Stand, done, own_label, a_body, a_part, here, Made, aim_of_root, at_root}
use Rattle.bc_rules_defs.specs.Made as stand
use Rattle.bc_rules_defs.proofs.Layers.{code_is, root_code_is}
use Rattle.bc_rules_defs.proofs.Made.{by_parts, root_stands, in_bounds}
use Rattle.bc_link.specs.Labels.{use_of}
use Rattle.bc_gen_laws.proofs.label_lemmas.Fresh.{left_true, right_true}
use Rattle.bc_gen_laws.proofs.label_lemmas.Speaking.{In, Known, PiecesSpeak, pieces_both, no_piece, piece, body, BaseKnown, operation_known}

-- an expression that names only the places 1 to n - 1
abbrev mutual
  pub Names : ℕ → Exp → Type 0
  Names n (Place m) = In n m
  Names n (Load e) = Names n e
  Names n (Neg e) = Names n e
  Names n (Not e) = Names n e
  Names n (Bin op a b) = Names n a × Names n b
  Names n (Cond c x y) = Names n c × Names n x × Names n y
  Names n (Call es f) = AllName n es × Names n f
  Names n (Num m) = Unit {0}
  Names n (Frame m) = Unit {0}
  Names n (Glob m) = Unit {0}
  Names n (Valof m) = Unit {0}

  pub AllName : ℕ → Args → Type 0
  AllName n no_argument = Unit {0}
  AllName n (argument e es) = Names n e × AllName n es

abbrev pub NamesOfRoot : ℕ → Root → Type 0
NamesOfRoot n (Value s e) = Names n e
NamesOfRoot n (Test s sense e) = Names n e
NamesOfRoot n (Assign s v a) = Names n v × Names n a

place_in : (n m places : ℕ) → places < n → (nat_le 1 m && nat_le m places) ≡ true → In n m
place_in n m places h e =
    let a = left_true (nat_le 1 m) (nat_le m places) e in
    let b = right_true (nat_le 1 m) (nat_le m places) e in
    (grind (arith, nat_tests), grind (arith, nat_tests))

mutual
  pub exp_names : (A : Around) (n : ℕ) → A.places < n → (e : Exp) (s : ℕ) → exp_fits A e s ≡ true → Names n e
  exp_names A n p (Num m) s h = tt
  exp_names A n p (Frame m) s h = tt
  exp_names A n p (Glob m) s h = tt
  exp_names A n p (Place m) s h = place_in n m A.places p h
  exp_names A n p (Load e) s h = exp_names A n p e s h
  exp_names A n p (Neg e) s h = exp_names A n p e s h
  exp_names A n p (Not e) s h = exp_names A n p e s h
  exp_names A n p (Bin op a b) s h =
      let x = exp_fits A a (operand_level s) in
      let y = exp_fits A b (operand_level s) in
      (exp_names A n p a (operand_level s) (left_true x y h), exp_names A n p b (operand_level s) (right_true x y h))
  exp_names A n p (Cond c x y) s h =
      let cs = exp_fits A c s in
      let xs = exp_fits A x s in
      let ys = exp_fits A y s in
      let front = left_true (cs && xs) ys h in
      (exp_names A n p c s (left_true cs xs front), exp_names A n p x s (right_true cs xs front), exp_names A n p y s (right_true (cs && xs) ys h))
  exp_names A n p (Call es f) s h =
      let x = args_fit A es (argument_level s) in
      let y = exp_fits A f (routine_level s (count es)) in
      (args_name A n p es (argument_level s) (left_true x y h), exp_names A n p f (routine_level s (count es)) (right_true x y h))
  exp_names A n p (Valof m) s h = tt

  args_name : (A : Around) (n : ℕ) → A.places < n → (es : Args) (s : ℕ) → args_fit A es s ≡ true → AllName n es
  args_name A n p no_argument s h = tt
  args_name A n p (argument e es) s h =
      let x = exp_fits A e s in
      let y = args_fit A es (s + 1) in
      (exp_names A n p e s (left_true x y h), args_name A n p es (s + 1) (right_true x y h))

-- an operand's label is one of them
abbrev OperandKnown : ℕ → Option Operand → Type 0
OperandKnown n None = Unit {0}
OperandKnown n (Some o) = BaseKnown n o.base o.n

moved_known : (n : ℕ) (a : Exp) (c : Option ℕ) → OperandKnown n (moved a c)
moved_known n (Frame k) (Some c) = tt
moved_known n (Glob k) (Some c) = tt
moved_known n (Frame k) None = tt
moved_known n (Glob k) None = tt
moved_known n (Num m) c = tt
moved_known n (Place m) c = tt
moved_known n (Load e) c = tt
moved_known n (Neg e) c = tt
moved_known n (Not e) c = tt
moved_known n (Bin op a b) c = tt
moved_known n (Cond a x y) c = tt
moved_known n (Call es f) c = tt
moved_known n (Valof m) c = tt

first_known : (n : ℕ) (x y : Option Operand) → OperandKnown n x → OperandKnown n y → OperandKnown n (first_some x y)
first_known n None y h k = k
first_known n (Some o) y h k = h

content_known : (n : ℕ) (x : Option Operand) → OperandKnown n x → OperandKnown n (content_of x)
content_known n None h = tt
content_known n (Some o) h = by o.direct where
  by : (b : Bool) → OperandKnown n (cond b (Some (record o { direct = false })) None)
  by true = h
  by false = tt

operator_known : (n : ℕ) (op : Op) (a b : Exp) → OperandKnown n (operand_of_operator op a b)
operator_known n operators.Add a b = first_known n (moved a (constant_of b)) (moved b (constant_of a)) (moved_known n a (constant_of b)) (moved_known n b (constant_of a))
operator_known n _ a b = tt

all_operands : (n : ℕ) (e : Exp) → Names n e → OperandKnown n (operand_of e)
all_operands n (Num m) h = tt
all_operands n (Frame m) h = tt
all_operands n (Glob m) h = tt
all_operands n (Place m) h = h
all_operands n (Load e) h = content_known n (operand_of e) (all_operands n e h)
all_operands n (Neg e) h = tt
all_operands n (Not e) h = tt
all_operands n (Bin op a b) h = operator_known n op a b
all_operands n (Cond c x y) h = tt
all_operands n (Call es f) h = tt
all_operands n (Valof m) h = tt

operand_known : (n : ℕ) (function : Function) (e : Exp) (o : Operand) → operand_of e ≡ Some o → Names n e → Known n (use_of (items.Operation function (cond o.direct false true) o.base o.n))
operand_known n function e o h k = operation_known n function (cond o.direct false true) o.base o.n (subst (OperandKnown n) h (all_operands n e k))

-- a derivation that jumps has a target
abbrev Aims : ℕ → Aim → ℕ → Type 0
Aims n (Gets m) t = Unit {0}
Aims n (Jumps sense) t = In n t

argument_names : (n : ℕ) {es : Args} {e : Exp} {s u : ℕ} → Among es s e u → AllName n es → Names n e
argument_names n first h = h.0
argument_names n (later o) h = argument_names n o h.1

part_names : (n : ℕ) {a e : Exp} {s u : ℕ} → Within a s e u → Names n a → Names n e
part_names n itself h = h
part_names n loaded h = h
part_names n negated h = h
part_names n inverted h = h
part_names n left h = h.0
part_names n right h = h.1
part_names n condition h = h.0
part_names n this h = h.1
part_names n that h = h.2
part_names n (an_argument o) h = argument_names n o h.0
part_names n routine h = h.1

side_names : (n : ℕ) {r : Root} {e : Exp} {u : ℕ} → Side r e u → NamesOfRoot n r → Names n e
side_names n the_value h = h
side_names n the_test h = h
side_names n (assigned i) h = h.0
side_names n (address i) h = h.1

module _ (n : ℕ) where
  abbrev Speaks : (T : Table) → Claim T
  Speaks T e aim d s t f = Names n e → Aims n aim t → 1 ≤ f → f + labels d ≤ n → PiecesSpeak n (code d s t f)

  -- the expressions of the layers name known places, their jumps go to known labels, and their own labels are known
  record Knows (H : Here) : Type 0 where
    sees : (e : Exp) (u : ℕ) → H.sees e u → Names n e
    target : (sense : Bool) → H.aim ≡ Jumps sense → In n H.target
    first : 1 ≤ H.first
    parts : H.parts ≤ n
    end : H.end ≤ n

  own_known : {H : Here} {p : Piece} {ps : List Piece} → Knows H → Own H p → PiecesSpeak n ps → PiecesSpeak n (p ∷ ps)
  own_known K (number h) i = piece tt i
  own_known K frame i = piece tt i
  own_known K cell i = piece tt i
  own_known K next_cell i = piece tt i
  own_known K (cell_of_part o) i = piece tt i
  own_known K (operand {i = function} {a = a} {u = u} {o = o} x h) i = piece (operand_known n function a o h (K.sees a u x)) i
  own_known K (to_target {i = function} {sense = sense} h) i = piece (operation_known n function false Label _ (K.target sense h)) i
  own_known K (to_own h k) i = let l = K.first in let u = K.parts in piece (omega arith, omega arith) i

  aimed : {H : Here} {aim : Aim} {v : ℕ} → Knows H → Aimed H aim v → Aims n aim v
  aimed K a_value = tt
  aimed K (same_target {a = a} h) = K.target a h
  aimed K (own_target h k) = let l = K.first in let u = K.parts in (omega arith, omega arith)

  layers_speak : {T : Table} {H : Here} {k m : ℕ} {ls : List (Layer T)} → Knows H → 1 ≤ k → 1 ≤ m → Stand (Speaks T) H k m ls → PiecesSpeak n (code_of ls)
  layers_speak K l p (done h i) = no_piece
  layers_speak K l p (stand.piece o h) = own_known K o (layers_speak K l p h)
  layers_speak K l p (own_label h) = piece tt (layers_speak K (omega arith) p h)
  layers_speak K l p (a_body o h) = let b = in_bounds h in let x = b.0 in let u = K.parts in body (l, omega arith) (piece tt (layers_speak K (omega arith) p h))
  layers_speak K l p (a_part {e = e} {u = u} o a c h) =
      let b = in_bounds h in let x = b.1 in let y = K.end in
      pieces_both (c (K.sees e u o) (aimed K a) p (omega arith)) (layers_speak K l (omega arith) h)

  step : {T : Table} (e : Exp) (aim : Aim) (d : Derives T e aim) → ((s t f : ℕ) → Made (Speaks T) e aim d s t f) → (s t f : ℕ) → Speaks T e aim d s t f
  step e aim d all s t f h g l u =
      let made = all s t f in
      let b = in_bounds made.stand in let x = b.0 in let y = b.1 in
      let K : Knows (here e aim s t f made.parts (f + labels d)) = record { sees = λ a k o. part_names n o h; target = λ sense e. subst (λ a. Aims n a t) e g; first = l; parts = omega arith; end = u } in
      subst (PiecesSpeak n) (sym (code_is d s t f)) (layers_speak K l (omega arith) made.stand)

  speaks : {T : Table} (e : Exp) (aim : Aim) (d : Derives T e aim) (s t f : ℕ) → Speaks T e aim d s t f
  speaks {T = T} e aim d s t f = by_parts (Speaks T) (λ e aim d all s t f. step e aim d all s t f) d s t f

  -- the target of a test
  abbrev pub AimsOfRoot : Root → ℕ → Type 0
  AimsOfRoot (Value s e) t = Unit {0}
  AimsOfRoot (Test s sense e) t = In n t
  AimsOfRoot (Assign s v a) t = Unit {0}

  root_aims : (r : Root) (t : ℕ) → AimsOfRoot r t → Aims n (aim_of_root r) t
  root_aims (Value s e) t g = tt
  root_aims (Test s sense e) t g = g
  root_aims (Assign s v a) t g = tt

  pub root_speaks : {T : Table} {r : Root} (d : RootDerives T r) (t f : ℕ) → NamesOfRoot n r → AimsOfRoot r t → 1 ≤ f → f + root_labels d ≤ n → PiecesSpeak n (root_code d t f)
  root_speaks {T = T} {r = r} d t f h g l u =
      let stand = root_stands (Speaks T) speaks d t f in
      let K : Knows (at_root r t f (f + root_labels d)) = record { sees = λ a k o. side_names n o h; target = λ sense e. subst (λ a. Aims n a t) e (root_aims r t g); first = l; parts = omega arith; end = u } in
      subst (PiecesSpeak n) (sym (root_code_is d t f)) (layers_speak K l l stand)
