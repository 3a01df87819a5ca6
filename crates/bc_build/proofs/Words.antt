-- The least words of a root have room in a certificate.
use Rattle.std.proofs.Common.{ℕ, ◌+◌, ◌*◌, ◌≤◌, ◌<◌, ◌^◌, ◌≡◌, Bool, true, false, Option, Some, None, refl, subst, arith}
use Rattle.bc_text_items.specs.declared.item.Base.{Base}
use Rattle.bc_text_items.specs.declared.item.Base.TheVariants.{Number, P, G, Label}
use Rattle.bc_text_items.specs.Sizes.{operation_size}
use Rattle.bc_core.specs.declared.operands.Operand.{Operand}
use Rattle.bc_core.specs.Tree.{Exp, Value, Test, Assign}
use Rattle.bc_core.specs.Operand.{operand_of}
use Rattle.bc_core.specs.WellFormed.{nodes}
use Rattle.bc_rules_defs.specs.declared.rule.Table.{Table}
use Rattle.bc_rules_defs.specs.declared.rule.Table.TheVariants.{Two}
use Rattle.bc_rules_defs.specs.declared.rule.Mode.TheVariants.{Any}
use Rattle.bc_rules_defs.specs.declared.rule.Aim.TheVariants.{Gets}
use Rattle.bc_rules_defs.specs.Piece.{w, operand_words}
use Rattle.bc_rules_defs.specs.Rules.{Derives, RootDerives, value, a1, a3}
use Rattle.bc_rules_defs.specs.Code.{cost, root_cost}
use Rattle.bc_select_defs.specs.Chosen.{chosen, chosen_words, chosen_is_least}
use Rattle.bc_select.specs.Small.{Small}
use Rattle.bc_select.proofs.Bounds.{small, w_few}
use Rattle.bc_build.specs.RoomLaws.{RootWordsHaveRoom}

value_few : (T : Table) (e : Exp) (s : ℕ) → nodes e ≤ 2 ^ 32 → root_cost (chosen T (Value s e)) < 2 ^ 60
value_few T e s h = subst Small (chosen_words T (Value s e)) (small T e s (omega arith)).any

test_few : (T : Table) (e : Exp) (sense : Bool) (s : ℕ) → nodes e ≤ 2 ^ 32 → root_cost (chosen T (Test s sense e)) < 2 ^ 60
test_few T e true s h = subst Small (chosen_words T (Test s true e)) (small T e s (omega arith)).on_true
test_few T e false s h = subst Small (chosen_words T (Test s false e)) (small T e s (omega arith)).on_false

-- a side of an assignment has a derivation of few words
derivation : {T : Table} {e : Exp} {s : ℕ} (d : RootDerives T (Value s e)) → (b : Derives T e (Gets Any)) × (cost b s ≡ root_cost d)
derivation (value d) = (d, refl)

record FewWords (T : Table) (e : Exp) (s : ℕ) : Type 0 where
  by : Derives T e (Gets Any)
  few : cost by s < 2 ^ 60

side_few : (T : Table) (e : Exp) (s : ℕ) → nodes e ≤ 2 ^ 32 → FewWords T e s
side_few T e s h = let b = derivation (chosen T (Value s e)) in let k = value_few T e s h in record { by = b.0; few = omega (arith, b.1, k) }

size_few : (b : Base) (n : ℕ) → operation_size b n ≤ 2
size_few Label n = omega arith
size_few Number n = w_few n
size_few P n = w_few n
size_few G n = w_few n

-- the assignment has one too, and the chosen one has no more
sides_few : (T : Table) (v a : Exp) (s : ℕ) (p : Option Operand) → operand_of a ≡ p → nodes v + nodes a ≤ 2 ^ 32 → root_cost (chosen T (Assign s v a)) < 2 ^ 64
sides_few T v a s (Some o) i h =
    let b = side_few T v s (omega arith) in
    let few = b.few in
    let stored : operand_words o ≤ 2 = size_few o.base o.n in
    let least : root_cost (chosen T (Assign s v a)) ≤ cost b.by s + operand_words o = (chosen_is_least T (Assign s v a)).fewest (a1 i b.by) in
    omega (arith, few, stored, least)
sides_few T v a s None i h =
    let b = side_few T v (s + 1) (omega arith) in
    let d = side_few T a (s + 1) (omega arith) in
    let few = b.few in
    let also = d.few in
    let held = w_few s in
    let held_too = w_few (s + 1) in
    let least : root_cost (chosen T (Assign s v a)) ≤ cost b.by (s + 1) + cost d.by (s + 1) + (2 * w s + 2 * w (s + 1)) = (chosen_is_least T (Assign s v a)).fewest (a3 i b.by d.by) in
    omega (arith, few, also, held, held_too, least)

pub root_words_have_room : RootWordsHaveRoom
root_words_have_room (Value s e) h = let few = value_few Two e s h in omega (arith, few)
root_words_have_room (Test s sense e) h = let few = test_few Two e sense s h in omega (arith, few)
root_words_have_room (Assign s v a) h = sides_few Two v a s (operand_of a) refl h
