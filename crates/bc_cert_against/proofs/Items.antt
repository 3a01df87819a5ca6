-- The derived equality of items is equality.
use Rattle.std.proofs.Common.{◌≡◌, ℕ, Bool, true, false, nat_eq, ◌&&◌, refl, ap, rules}
use Rattle.std.proofs.lemmas.Bool.{eqb-true}
use denote.Enum.Bare.{same_true}
use Rattle.bc_text_items.specs.contracts.item.Function.{the_type as function_type}
use Rattle.bc_text_items.specs.contracts.item.Base.{the_type as base_type}
use Rattle.bc_text_items.specs.declared.item.Item.{Item}
use Rattle.bc_text_items.specs.declared.item.Item.TheVariants.{Label, Data, DataLabel, Byte, Operation, Global}
use Rattle.bc_text_items.specs.declared.item.Function.{Function}
use Rattle.bc_text_items.specs.declared.item.Base.{Base}
use Rattle.bc_text_items.specs.contracts.item.ItemPartialEq.TheImpl.{ghosts}
use Rattle.bc_text_items.specs.contracts.item.FunctionPartialEq.TheImpl.{ghosts as functions}
use Rattle.bc_text_items.specs.contracts.item.BasePartialEq.TheImpl.{ghosts as bases}

and_left : (a b : Bool) → (a && b) ≡ true → a ≡ true
and_left true b h = refl
and_left false b h = h

and_right : (a b : Bool) → (a && b) ≡ true → b ≡ true
and_right true b h = h
and_right false b h = absurd (let k : false ≡ true = h in cc)

same_global : {n m l k : ℕ} → n ≡ m → l ≡ k → Global n l ≡ Global m k
same_global e f = cc

same_operation : {f g : Function} {i j : Bool} {b c : Base} {n m : ℕ} → f ≡ g → i ≡ j → b ≡ c → n ≡ m → Operation f i b n ≡ Operation g j c m
same_operation e h k l = cc

pub same : (a b : Item) → ghosts.eq a b ≡ true → a ≡ b
same (Label m0) (Label n0) h = ap Label (eqb-true m0 n0 (search rules))
same (Label m0) (Data n0) h = absurd (let k : false ≡ true = h in cc)
same (Label m0) (DataLabel n0) h = absurd (let k : false ≡ true = h in cc)
same (Label m0) (Byte n0) h = absurd (let k : false ≡ true = h in cc)
same (Label m0) (Operation n0 n1 n2 n3) h = absurd (let k : false ≡ true = h in cc)
same (Label m0) (Global n0 n1) h = absurd (let k : false ≡ true = h in cc)
same (Data m0) (Label n0) h = absurd (let k : false ≡ true = h in cc)
same (Data m0) (Data n0) h = ap Data (eqb-true m0 n0 (search rules))
same (Data m0) (DataLabel n0) h = absurd (let k : false ≡ true = h in cc)
same (Data m0) (Byte n0) h = absurd (let k : false ≡ true = h in cc)
same (Data m0) (Operation n0 n1 n2 n3) h = absurd (let k : false ≡ true = h in cc)
same (Data m0) (Global n0 n1) h = absurd (let k : false ≡ true = h in cc)
same (DataLabel m0) (Label n0) h = absurd (let k : false ≡ true = h in cc)
same (DataLabel m0) (Data n0) h = absurd (let k : false ≡ true = h in cc)
same (DataLabel m0) (DataLabel n0) h = ap DataLabel (eqb-true m0 n0 (search rules))
same (DataLabel m0) (Byte n0) h = absurd (let k : false ≡ true = h in cc)
same (DataLabel m0) (Operation n0 n1 n2 n3) h = absurd (let k : false ≡ true = h in cc)
same (DataLabel m0) (Global n0 n1) h = absurd (let k : false ≡ true = h in cc)
same (Byte m0) (Label n0) h = absurd (let k : false ≡ true = h in cc)
same (Byte m0) (Data n0) h = absurd (let k : false ≡ true = h in cc)
same (Byte m0) (DataLabel n0) h = absurd (let k : false ≡ true = h in cc)
same (Byte m0) (Byte n0) h = ap Byte (eqb-true m0 n0 (search rules))
same (Byte m0) (Operation n0 n1 n2 n3) h = absurd (let k : false ≡ true = h in cc)
same (Byte m0) (Global n0 n1) h = absurd (let k : false ≡ true = h in cc)
same (Operation m0 m1 m2 m3) (Label n0) h = absurd (let k : false ≡ true = h in cc)
same (Operation m0 m1 m2 m3) (Data n0) h = absurd (let k : false ≡ true = h in cc)
same (Operation m0 m1 m2 m3) (DataLabel n0) h = absurd (let k : false ≡ true = h in cc)
same (Operation m0 m1 m2 m3) (Byte n0) h = absurd (let k : false ≡ true = h in cc)
same (Operation m0 true m2 m3) (Operation n0 true n2 n3) h = let k : (functions.eq m0 n0 && (bases.eq m2 n2 && nat_eq m3 n3)) ≡ true = h in let r = and_right (functions.eq m0 n0) _ k in same_operation (same_true function_type (search rules) _ _ (and_left (functions.eq m0 n0) _ k)) refl (same_true base_type (search rules) _ _ (and_left (bases.eq m2 n2) _ r)) (eqb-true m3 n3 (and_right (bases.eq m2 n2) _ r))
same (Operation m0 false m2 m3) (Operation n0 false n2 n3) h = let k : (functions.eq m0 n0 && (bases.eq m2 n2 && nat_eq m3 n3)) ≡ true = h in let r = and_right (functions.eq m0 n0) _ k in same_operation (same_true function_type (search rules) _ _ (and_left (functions.eq m0 n0) _ k)) refl (same_true base_type (search rules) _ _ (and_left (bases.eq m2 n2) _ r)) (eqb-true m3 n3 (and_right (bases.eq m2 n2) _ r))
same (Operation m0 true m2 m3) (Operation n0 false n2 n3) h = absurd (let k : false ≡ true = and_right (functions.eq m0 n0) _ h in cc)
same (Operation m0 false m2 m3) (Operation n0 true n2 n3) h = absurd (let k : false ≡ true = and_right (functions.eq m0 n0) _ h in cc)
same (Operation m0 m1 m2 m3) (Global n0 n1) h = absurd (let k : false ≡ true = h in cc)
same (Global m0 m1) (Label n0) h = absurd (let k : false ≡ true = h in cc)
same (Global m0 m1) (Data n0) h = absurd (let k : false ≡ true = h in cc)
same (Global m0 m1) (DataLabel n0) h = absurd (let k : false ≡ true = h in cc)
same (Global m0 m1) (Byte n0) h = absurd (let k : false ≡ true = h in cc)
same (Global m0 m1) (Operation n0 n1 n2 n3) h = absurd (let k : false ≡ true = h in cc)
same (Global m0 m1) (Global n0 n1) h = let k : (nat_eq m0 n0 && nat_eq m1 n1) ≡ true = h in same_global (eqb-true m0 n0 (and_left (nat_eq m0 n0) _ k)) (eqb-true m1 n1 (and_right (nat_eq m0 n0) _ k))
