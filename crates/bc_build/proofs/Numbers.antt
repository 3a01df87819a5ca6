-- The node lines of a root have room: levels, numbers, words and depth.
use Rattle.std.proofs.Common.{ℕ, ◌+◌, ◌≤◌, ◌<◌, ◌^◌, cond, Bool, true, false, Option, Some, None, List, [], ◌∷◌, ◌++◌, map, sym, subst, arith}
use Rattle.std.specs.Prelude.{IfSome}
use Rattle.std.specs.List.{AllByRecursion}
use Rattle.bc_core.specs.Tree.{Exp, Num, Frame, Glob, Place, Load, Neg, Not, Bin, Cond, Call, Valof, Args, no_argument, argument, count, Root, Value, Test, Assign}
use Rattle.bc_core.specs.Level.{side_level}
use Rattle.bc_core.specs.Operand.{is_operand}
use Rattle.bc_core.specs.WellFormed.{nodes, nodes_of_args}
use Rattle.bc_rules_defs.specs.declared.rule.Table.{Table}
use Rattle.bc_rules_defs.specs.declared.rule.Mode.TheVariants.{Any, Push}
use Rattle.bc_rules_defs.specs.declared.rule.Aim.{Aim}
use Rattle.bc_rules_defs.specs.declared.rule.Aim.TheVariants.{Gets, Jumps}
use Rattle.bc_select_defs.specs.Nodes.{in_order, all_in_order, root_in_order, root_nodes}
use Rattle.bc_select_defs.specs.Choices.{choices, words_for}
use Rattle.bc_select.specs.Small.{Small}
use Rattle.bc_select.proofs.Bounds.{small}
use Rattle.bc_cert_write.specs.Shown.{Shown, root_shown}
use Rattle.bc_cert_write.proofs.Texts.{nodes_in_order}
use Rattle.bc_cert_laws.specs.Entries.{IsNumber, HasSmallNumber, nested, all_nested, NodeHasRoom, RootHasRoom}
use Rattle.bc_build.specs.RoomLaws.{IsShallow, HasSmallForm, NodesHaveRoom}

abbrev OfAll : (Exp × ℕ → Type 0) → List (Exp × ℕ) → Type 0
OfAll P ns = AllByRecursion P ns

following : (P : Exp × ℕ → Type 0) (xs ys : List (Exp × ℕ)) → OfAll P xs → OfAll P ys → OfAll P (xs ++ ys)
following P [] ys h k = k
following P (x ∷ xs) ys h k = (h.0, following P xs ys h.1 k)

first : (P : Exp × ℕ → Type 0) (xs ys : List (Exp × ℕ)) → OfAll P (xs ++ ys) → OfAll P xs
first P [] ys h = tt
first P (x ∷ xs) ys h = (h.0, first P xs ys h.1)

second : (P : Exp × ℕ → Type 0) (xs ys : List (Exp × ℕ)) → OfAll P (xs ++ ys) → OfAll P ys
second P [] ys h = h
second P (x ∷ xs) ys h = second P xs ys h.1

zipped : (P Q : Exp × ℕ → Type 0) (ns : List (Exp × ℕ)) → OfAll P ns → OfAll Q ns → OfAll (λ n. P n × Q n) ns
zipped P Q [] h k = tt
zipped P Q (n ∷ ns) h k = ((h.0, k.0), zipped P Q ns h.1 k.1)

-- no node is greater or deeper than the whole
module _ (most deep : ℕ) where
  abbrev Within : Exp × ℕ → Type 0
  Within n = (nodes n.0 ≤ most) × (nested n.0 ≤ deep)

  mutual
    within : (e : Exp) (s : ℕ) → nodes e ≤ most → nested e ≤ deep → OfAll Within (in_order e s)
    within (Num n) s h d = ((h, d), tt)
    within (Frame k) s h d = ((h, d), tt)
    within (Glob n) s h d = ((h, d), tt)
    within (Place m) s h d = ((h, d), tt)
    within (Valof n) s h d = ((h, d), tt)
    within (Load e) s h d = following Within _ _ (within e s (omega arith) (omega arith)) ((h, d), tt)
    within (Neg e) s h d = following Within _ _ (within e s (omega arith) (omega arith)) ((h, d), tt)
    within (Not e) s h d = following Within _ _ (within e s (omega arith) (omega arith)) ((h, d), tt)
    within (Bin op a b) s h d = following Within _ _ (following Within _ _ (within a (s + 1) (omega arith) (omega arith)) (within b (s + 1) (omega arith) (omega arith))) ((h, d), tt)
    within (Cond c x y) s h d =
        following Within _ _ (following Within _ _ (following Within _ _ (within c s (omega arith) (omega arith)) (within x s (omega arith) (omega arith))) (within y s (omega arith) (omega arith))) ((h, d), tt)
    within (Call es f) s h d = following Within _ _ (following Within _ _ (all_within es (s + 2) (omega arith) (omega arith)) (within f (s + 2 + count es) (omega arith) (omega arith))) ((h, d), tt)

    all_within : (es : Args) (s : ℕ) → nodes_of_args es ≤ most → all_nested es ≤ deep → OfAll Within (all_in_order es s)
    all_within no_argument s h d = tt
    all_within (argument e es) s h d = following Within _ _ (within e s (omega arith) (omega arith)) (all_within es (s + 1) (omega arith) (omega arith))

-- the levels of a call's arguments increase, so there are few of them
abbrev Low : Exp × ℕ → Type 0
Low n = (n.1 ≤ 32768) × HasSmallForm n.0

abbrev IsSmallNode : Exp × ℕ → Type 0
IsSmallNode n = HasSmallNumber n.0

own_level : (e : Exp) (s : ℕ) → OfAll Low (in_order e s) → s ≤ 32768
own_level (Num n) s h = h.0.0
own_level (Frame k) s h = h.0.0
own_level (Glob n) s h = h.0.0
own_level (Place m) s h = h.0.0
own_level (Valof n) s h = h.0.0
own_level (Load e) s h = (second Low (in_order e s) ((Load e, s) ∷ []) h).0.0
own_level (Neg e) s h = (second Low (in_order e s) ((Neg e, s) ∷ []) h).0.0
own_level (Not e) s h = (second Low (in_order e s) ((Not e, s) ∷ []) h).0.0
own_level (Bin op a b) s h = (second Low (in_order a (s + 1) ++ in_order b (s + 1)) ((Bin op a b, s) ∷ []) h).0.0
own_level (Cond c x y) s h = (second Low ((in_order c s ++ in_order x s) ++ in_order y s) ((Cond c x y, s) ∷ []) h).0.0
own_level (Call es f) s h = (second Low (all_in_order es (s + 2) ++ in_order f (s + 2 + count es)) ((Call es f, s) ∷ []) h).0.0

mutual
  numbers : (e : Exp) (s : ℕ) → OfAll Low (in_order e s) → OfAll IsSmallNode (in_order e s)
  numbers (Num n) s h = (h.0.1, tt)
  numbers (Frame k) s h = (h.0.1, tt)
  numbers (Glob n) s h = (h.0.1, tt)
  numbers (Place m) s h = (h.0.1, tt)
  numbers (Valof n) s h = (h.0.1, tt)
  numbers (Load e) s h = following IsSmallNode _ _ (numbers e s (first Low (in_order e s) ((Load e, s) ∷ []) h)) (tt, tt)
  numbers (Neg e) s h = following IsSmallNode _ _ (numbers e s (first Low (in_order e s) ((Neg e, s) ∷ []) h)) (tt, tt)
  numbers (Not e) s h = following IsSmallNode _ _ (numbers e s (first Low (in_order e s) ((Not e, s) ∷ []) h)) (tt, tt)
  numbers (Bin op a b) s h =
      let xs = in_order a (s + 1) in
      let ys = in_order b (s + 1) in
      let k = first Low (xs ++ ys) ((Bin op a b, s) ∷ []) h in
      following IsSmallNode _ _ (following IsSmallNode _ _ (numbers a (s + 1) (first Low xs ys k)) (numbers b (s + 1) (second Low xs ys k))) (tt, tt)
  numbers (Cond c x y) s h =
      let cs = in_order c s in
      let xs = in_order x s in
      let ys = in_order y s in
      let k = first Low ((cs ++ xs) ++ ys) ((Cond c x y, s) ∷ []) h in
      let l = first Low (cs ++ xs) ys k in
      following IsSmallNode _ _ (following IsSmallNode _ _ (following IsSmallNode _ _ (numbers c s (first Low cs xs l)) (numbers x s (second Low cs xs l))) (numbers y s (second Low (cs ++ xs) ys k))) (tt, tt)
  numbers (Call es f) s h =
      let xs = all_in_order es (s + 2) in
      let ys = in_order f (s + 2 + count es) in
      let k = first Low (xs ++ ys) ((Call es f, s) ∷ []) h in
      let of_routine = second Low xs ys k in
      let l = own_level f (s + 2 + count es) of_routine in
      let few : count es ≤ 65535 = omega arith in
      following IsSmallNode _ _ (following IsSmallNode _ _ (all_numbers es (s + 2) (first Low xs ys k)) (numbers f (s + 2 + count es) of_routine)) (few, tt)

  all_numbers : (es : Args) (s : ℕ) → OfAll Low (all_in_order es s) → OfAll IsSmallNode (all_in_order es s)
  all_numbers no_argument s h = tt
  all_numbers (argument e es) s h =
      let xs = in_order e s in
      let ys = all_in_order es (s + 1) in
      following IsSmallNode _ _ (numbers e s (first Low xs ys h)) (all_numbers es (s + 1) (second Low xs ys h))

-- the same for a root
root_within : (r : Root) → root_nodes r ≤ 2 ^ 32 → IsShallow r → OfAll (Within (2 ^ 32) 400) (root_in_order r)
root_within (Value s e) h d = within (2 ^ 32) 400 e s h d
root_within (Test s sense e) h d = within (2 ^ 32) 400 e s h d
root_within (Assign s v a) h d = following (Within (2 ^ 32) 400) _ _ (within (2 ^ 32) 400 v (side_level a s) (omega (arith, h)) d.0) (within (2 ^ 32) 400 a (side_level a s) (omega (arith, h)) d.1)

root_numbers : (r : Root) → OfAll Low (root_in_order r) → OfAll IsSmallNode (root_in_order r)
root_numbers (Value s e) h = numbers e s h
root_numbers (Test s sense e) h = numbers e s h
root_numbers (Assign s v a) h =
    let xs = in_order v (side_level a s) in
    let ys = in_order a (side_level a s) in
    following IsSmallNode _ _ (numbers v (side_level a s) (first Low xs ys h)) (numbers a (side_level a s) (second Low xs ys h))

below_side : (t : Bool) (s : ℕ) → cond t s (s + 1) ≤ 32768 → s ≤ 32768
below_side true s h = h
below_side false s h = let l : s + 1 ≤ 32768 = h in omega arith

root_has_room : (r : Root) → OfAll Low (root_in_order r) → RootHasRoom r
root_has_room (Value s e) h = tt
root_has_room (Test s sense e) h = tt
root_has_room (Assign s v a) h = below_side (is_operand a) s (own_level v (side_level a s) (first Low (in_order v (side_level a s)) (in_order a (side_level a s)) h))

-- the least words of a node
small_number : (x : Option ℕ) → Small x → IfSome x IsNumber
small_number None h = tt
small_number (Some n) h = let l : n < 2 ^ 60 = h in omega arith

words_small : (T : Table) (e : Exp) (s : ℕ) → nodes e ≤ 2 ^ 32 → (aim : Aim) → IfSome (words_for aim (choices T e s)) IsNumber
words_small T e s h (Gets Any) = small_number _ (small T e s (omega arith)).any
words_small T e s h (Gets Push) = small_number _ (small T e s (omega arith)).push
words_small T e s h (Jumps false) = small_number _ (small T e s (omega arith)).on_false
words_small T e s h (Jumps true) = small_number _ (small T e s (omega arith)).on_true

-- what is known of each node
abbrev Known : Exp × ℕ → Type 0
Known n = (Low n × IsSmallNode n) × Within (2 ^ 32) 400 n

lines_have_room : (T : Table) (ns : List Shown) → OfAll Known (map (λ n. (n.expression, n.level)) ns) → AllByRecursion (NodeHasRoom T) ns
lines_have_room T [] h = tt
lines_have_room T (n ∷ ns) h = (
  record { level = h.0.0.0.0; number = h.0.0.1; words = words_small T n.expression n.level h.0.1.0; depth = h.0.1.1 },
  lines_have_room T ns h.1,
)

pub nodes_have_room : NodesHaveRoom
nodes_have_room T r d levels forms shallow few =
    let ns = root_in_order r in
    let low = zipped (λ n. n.1 ≤ 32768) (λ n. HasSmallForm n.0) ns levels forms in
    let known = zipped (λ n. Low n × IsSmallNode n) (Within (2 ^ 32) 400) ns (zipped Low IsSmallNode ns low (root_numbers r low)) (root_within r few shallow) in
    (lines_have_room T (root_shown d) (subst (OfAll Known) (sym (nodes_in_order T r d)) known), root_has_room r low)
