-- The items of a derivation's code fit into a code line if the derivation's nodes and labels have room.
use Rattle.std.proofs.Common.{◌≡◌, ℕ, ◌+◌, ◌%◌, ◌≤◌, Bool, true, false, cond, Option, Some, None, List, [], ◌∷◌, ◌++◌, refl, sym, subst, arith}
use Rattle.std.specs.List.{AllByRecursion}
use Rattle.bc_word.specs.declared.operator.Op.TheVariants as operators
use Rattle.bc_core.specs.declared.operands.Operand.{Operand}
use Rattle.bc_core.specs.Tree.{Exp, Num, Frame, Glob, Place, Load, Neg, Not, Bin, Cond, Call, Args, count, Root, Value, Test, Assign}
use Rattle.bc_core.specs.Level.{side_level}
use Rattle.bc_core.specs.Operand.{operand_of, constant_of, moved, first_some, content_of}
use Rattle.bc_rules_defs.specs.declared.piece.Piece.{Piece}
use Rattle.bc_rules_defs.specs.declared.piece.Piece.TheVariants as pieces
use Rattle.bc_rules_defs.specs.declared.rule.Table.{Table}
use Rattle.bc_rules_defs.specs.declared.rule.Aim.{Aim}
use Rattle.bc_rules_defs.specs.declared.rule.Aim.TheVariants.{Gets, Jumps}
use Rattle.bc_rules_defs.specs.Rules.{Derives, RootDerives}
use Rattle.bc_rules_defs.specs.Code.{labels, code, root_labels, root_code}
use Rattle.bc_rules_defs.specs.Layers.{Layer, code_of}
use Rattle.bc_rules_defs.specs.Made.{Among, first, later, Within, itself, loaded, negated, inverted, left, right, condition, this, that, an_argument, routine, Side, the_value, the_test, assigned, address, Here, Own, number, frame, cell, next_cell, cell_of_part, operand, to_target, to_own, Aimed, a_value, same_target, own_target, Claim, Stand, done, piece, own_label, a_body, a_part, here, Made, level_of_root, at_root}
use Rattle.bc_rules_defs.proofs.Layers.{code_is, root_code_is}
use Rattle.bc_rules_defs.proofs.Made.{by_parts, root_stands, in_bounds}
use Rattle.bc_text.specs.Printed.{IsItem}
use Rattle.bc_select_defs.specs.Nodes.{in_order, all_in_order, root_in_order}
use Rattle.bc_cert_write.specs.Shown.{Shown, root_shown}
use Rattle.bc_cert_write.proofs.Texts.{nodes_in_order}
use Rattle.bc_cert_laws.specs.Entries.{IsSmall, IsLevel, HasSmallNumber, RootHasRoom}
use Rattle.bc_cert_laws.proofs.Growth.{HaveRoom, all_front, all_after}
use Rattle.bc_cert_laws.proofs.Fields.{each_of_two}
use Rattle.bc_cert_laws.proofs.Kept.{keys}

-- the items among pieces
abbrev pub HasItemRoom : Piece → Type 0
HasItemRoom (pieces.Item i) = IsItem i
HasItemRoom (pieces.Body n) = Unit {0}

abbrev pub HaveItemRoom : List Piece → Type 0
HaveItemRoom ps = AllByRecursion HasItemRoom ps

both : (ps qs : List Piece) → HaveItemRoom ps → HaveItemRoom qs → HaveItemRoom (ps ++ qs)
both ps qs h k = each_of_two HasItemRoom ps qs h k

-- operands
moved_small : (e : Exp) (c : Option ℕ) (o : Operand) → moved e c ≡ Some o → o.n ≤ 65535
moved_small (Frame k) (Some c) o h = let i : (k + c) % 65536 ≡ o.n = cc in omega arith
moved_small (Glob k) (Some c) o h = let i : (k + c) % 65536 ≡ o.n = cc in omega arith
moved_small e c o h = cc

either_small : (p q : Option Operand) (o : Operand) → ((x : Operand) → p ≡ Some x → x.n ≤ 65535) → ((x : Operand) → q ≡ Some x → x.n ≤ 65535) → first_some p q ≡ Some o → o.n ≤ 65535
either_small (Some x) q o f g h = f o h
either_small None q o f g h = g o h

content_small : (p : Option Operand) (o : Operand) → ((x : Operand) → p ≡ Some x → x.n ≤ 65535) → content_of p ≡ Some o → o.n ≤ 65535
content_small None o f h = cc
content_small (Some x) o f h = at x.direct h where
  at : (b : Bool) → cond b (Some (record x { direct = false })) None ≡ Some o → o.n ≤ 65535
  at true h = let i : x.n ≡ o.n = cc in let k = f x refl in omega arith
  at false h = cc

-- the nodes of an expression have room
abbrev Roomy : Exp × ℕ → Type 0
Roomy n = IsLevel n.1 × HasSmallNumber n.0

abbrev AllRoomy : Exp → ℕ → Type 0
AllRoomy e s = AllByRecursion Roomy (in_order e s)

own_roomy : (e : Exp) (s : ℕ) → AllRoomy e s → Roomy (e, s)
own_roomy (Load e) s h = (all_after Roomy (in_order e s) _ h).0
own_roomy (Neg e) s h = (all_after Roomy (in_order e s) _ h).0
own_roomy (Not e) s h = (all_after Roomy (in_order e s) _ h).0
own_roomy (Bin op a b) s h = (all_after Roomy (in_order a (s + 1) ++ in_order b (s + 1)) _ h).0
own_roomy (Cond c x y) s h = (all_after Roomy ((in_order c s ++ in_order x s) ++ in_order y s) _ h).0
own_roomy (Call es f) s h = (all_after Roomy (all_in_order es (s + 2) ++ in_order f (s + 2 + count es)) _ h).0
own_roomy e s h = h.0

argument_roomy : {es : Args} {e : Exp} {s u : ℕ} → Among es s e u → AllByRecursion Roomy (all_in_order es s) → AllRoomy e u
argument_roomy (first {e = e} {es = es} {s = s}) h = all_front Roomy (in_order e s) (all_in_order es (s + 1)) h
argument_roomy (later {a = a} {es = es} {s = s} o) h = argument_roomy o (all_after Roomy (in_order a s) (all_in_order es (s + 1)) h)

part_roomy : {a e : Exp} {s u : ℕ} → Within a s e u → AllRoomy a s → AllRoomy e u
part_roomy itself h = h
part_roomy (loaded {e = e} {s = s}) h = all_front Roomy (in_order e s) _ h
part_roomy (negated {e = e} {s = s}) h = all_front Roomy (in_order e s) _ h
part_roomy (inverted {e = e} {s = s}) h = all_front Roomy (in_order e s) _ h
part_roomy (left {a = a} {b = b} {s = s}) h = let xs = in_order a (s + 1) in let ys = in_order b (s + 1) in all_front Roomy xs ys (all_front Roomy (xs ++ ys) _ h)
part_roomy (right {a = a} {b = b} {s = s}) h = let xs = in_order a (s + 1) in let ys = in_order b (s + 1) in all_after Roomy xs ys (all_front Roomy (xs ++ ys) _ h)
part_roomy (condition {c = c} {x = x} {y = y} {s = s}) h =
    let cs = in_order c s in let xs = in_order x s in let ys = in_order y s in all_front Roomy cs xs (all_front Roomy (cs ++ xs) ys (all_front Roomy ((cs ++ xs) ++ ys) _ h))
part_roomy (this {c = c} {x = x} {y = y} {s = s}) h =
    let cs = in_order c s in let xs = in_order x s in let ys = in_order y s in all_after Roomy cs xs (all_front Roomy (cs ++ xs) ys (all_front Roomy ((cs ++ xs) ++ ys) _ h))
part_roomy (that {c = c} {x = x} {y = y} {s = s}) h =
    let cs = in_order c s in let xs = in_order x s in let ys = in_order y s in all_after Roomy (cs ++ xs) ys (all_front Roomy ((cs ++ xs) ++ ys) _ h)
part_roomy (an_argument {es = es} {f = f} {s = s} o) h =
    let xs = all_in_order es (s + 2) in let ys = in_order f (s + 2 + count es) in argument_roomy o (all_front Roomy xs ys (all_front Roomy (xs ++ ys) _ h))
part_roomy (routine {es = es} {f = f} {s = s}) h =
    let xs = all_in_order es (s + 2) in let ys = in_order f (s + 2 + count es) in all_after Roomy xs ys (all_front Roomy (xs ++ ys) _ h)

side_roomy : {r : Root} {e : Exp} {u : ℕ} → Side r e u → AllByRecursion Roomy (root_in_order r) → AllRoomy e u
side_roomy the_value h = h
side_roomy the_test h = h
side_roomy (assigned {v = v} {a = a} {s = s} i) h = let k = side_level a s in subst (AllRoomy v) i (all_front Roomy (in_order v k) (in_order a k) h)
side_roomy (address {v = v} {a = a} {s = s} i) h = let k = side_level a s in subst (AllRoomy a) i (all_after Roomy (in_order v k) (in_order a k) h)

operand_small : (e : Exp) (s : ℕ) (o : Operand) → operand_of e ≡ Some o → AllRoomy e s → o.n ≤ 65535
operand_small (Num n) s o h room = let i : n ≡ o.n = cc in let k = room.0.1 in omega arith
operand_small (Frame n) s o h room = let i : n ≡ o.n = cc in let k = room.0.1 in omega arith
operand_small (Glob n) s o h room = let i : n ≡ o.n = cc in let k = room.0.1 in omega arith
operand_small (Place n) s o h room = let i : n ≡ o.n = cc in let k = room.0.1 in omega arith
operand_small (Load e) s o h room = content_small (operand_of e) o (λ x i. operand_small e s x i (all_front Roomy (in_order e s) _ room)) h
operand_small (Bin operators.Add a b) s o h room = either_small (moved a (constant_of b)) (moved b (constant_of a)) o (λ x i. moved_small a (constant_of b) x i) (λ x i. moved_small b (constant_of a) x i) h
operand_small e s o h room = cc

-- what is known at each layer of the code
record Fits (H : Here) : Type 0 where
  sees : (e : Exp) (u : ℕ) → H.sees e u → AllRoomy e u
  target : (sense : Bool) → H.aim ≡ Jumps sense → IsSmall H.target
  level : IsLevel H.level
  parts : H.parts ≤ 65536
  end : H.end ≤ 65536

abbrev Aims : Aim → ℕ → Type 0
Aims (Gets m) t = Unit {0}
Aims (Jumps sense) t = IsSmall t

own_room : {H : Here} {p : Piece} → Fits H → Own H p → HasItemRoom p
own_room F (number h) = h
own_room F frame = let l = F.level in omega arith
own_room F cell = let l = F.level in omega arith
own_room F next_cell = let l = F.level in omega arith
own_room F (cell_of_part {a = a} {u = u} o) = let l = (own_roomy a u (F.sees a u o)).0 in omega arith
own_room F (operand {a = a} {u = u} {o = o} x h) = operand_small a u o h (F.sees a u x)
own_room F (to_target {sense = sense} h) = F.target sense h
own_room F (to_own h k) = let l = F.parts in omega arith

aimed : {H : Here} {aim : Aim} {v : ℕ} → Fits H → Aimed H aim v → Aims aim v
aimed F a_value = tt
aimed F (same_target {a = a} h) = F.target a h
aimed F (own_target h k) = let l = F.parts in omega arith

abbrev HasRoom : (T : Table) → Claim T
HasRoom T e aim d s t f = Aims aim t → f + labels d ≤ 65536 → AllRoomy e s → HaveItemRoom (code d s t f)

layers_room : {T : Table} {H : Here} {k m : ℕ} {ls : List (Layer T)} → Fits H → Stand (HasRoom T) H k m ls → HaveItemRoom (code_of ls)
layers_room F (done h i) = tt
layers_room F (piece o h) = (own_room F o, layers_room F h)
layers_room F (own_label h) = let b = (in_bounds h).0 in let l = F.parts in (omega arith, layers_room F h)
layers_room F (a_body o h) = let b = (in_bounds h).0 in let l = F.parts in (tt, (omega arith, layers_room F h))
layers_room F (a_part {e = e} {d = d} {u = u} {v = v} {m = m} {ls = ls} o a c h) =
    let b = (in_bounds h).1 in let l = F.end in
    both (code d u v m) (code_of ls) (c (aimed F a) (omega arith) (F.sees e u o)) (layers_room F h)

step : {T : Table} (e : Exp) (aim : Aim) (d : Derives T e aim) → ((s t f : ℕ) → Made (HasRoom T) e aim d s t f) → (s t f : ℕ) → HasRoom T e aim d s t f
step e aim d all s t f small fits room =
    let made = all s t f in
    let b = (in_bounds made.stand).1 in
    let F : Fits (here e aim s t f made.parts (f + labels d)) = record {
      sees = λ a u o. part_roomy o room;
      target = λ sense i. subst (λ a. Aims a t) i small;
      level = (own_roomy e s room).0;
      parts = omega arith;
      end = fits;
    } in
    subst HaveItemRoom (sym (code_is d s t f)) (layers_room F made.stand)

code_room : {T : Table} (e : Exp) (aim : Aim) (d : Derives T e aim) (s t f : ℕ) → HasRoom T e aim d s t f
code_room {T = T} e aim d s t f = by_parts (HasRoom T) (λ e aim d all s t f. step e aim d all s t f) d s t f

-- of a root
shown_roomy : (T : Table) (ns : List Shown) → HaveRoom T ns → AllByRecursion Roomy (keys ns)
shown_roomy T [] h = tt
shown_roomy T (n ∷ ns) h = ((h.0.level, h.0.number), shown_roomy T ns h.1)

root_level : (r : Root) → RootHasRoom r → AllByRecursion Roomy (root_in_order r) → IsLevel (level_of_root r)
root_level (Value s e) level room = (own_roomy e s room).0
root_level (Test s sense e) level room = (own_roomy e s room).0
root_level (Assign s v a) level room = level

pub root_code_room : {T : Table} {r : Root} (d : RootDerives T r) (t f : ℕ) → IsSmall t → f + root_labels d ≤ 65536 → RootHasRoom r → HaveRoom T (root_shown d) → HaveItemRoom (root_code d t f)
root_code_room {T = T} {r = r} d t f small fits level room =
    let all : AllByRecursion Roomy (root_in_order r) = subst (AllByRecursion Roomy) (nodes_in_order T r d) (shown_roomy T (root_shown d) room) in
    let F : Fits (at_root r t f (f + root_labels d)) = record {
      sees = λ a u o. side_roomy o all;
      target = λ sense i. small;
      level = root_level r level all;
      parts = omega arith;
      end = fits;
    } in
    subst HaveItemRoom (sym (root_code_is d t f)) (layers_room F (root_stands (HasRoom T) code_room d t f))
