-- Sequences of steps that may fail, and Boolean tests as statements.
use Rattle.std.proofs.Common.{◌≡◌, ℕ, ◌==◌, ◌≤◌, Bool, true, false, cond, List, length, Result, Ok, Err, refl, arith}
use Rattle.std.specs.Prelude.{◌+◌, ◌&&◌, nat_le}
use Rattle.bc_cert_defs.specs.declared.check_fault.CheckFault.{CheckFault}
use Rattle.bc_cert_defs.specs.Verdict.{Judged}
use Rattle.bc_cert_read.specs.declared.position.Position.{Position}
use Rattle.bc_cert_read.specs.Stacks.{◌>>=◌}
use Rattle.bc_cert_laws.specs.Faults.{lines}

-- the place of the next line, after these lines, these entries and this number of nodes
pub record StandsAfter (text : List ℕ) (js : List Judged) (nodes : ℕ) (p : Position) : Type 0 where
  pub line : p.line ≡ lines text + 1
  pub entry : p.entry ≡ length js
  pub node : p.node ≡ nodes

pub ok_same : {A : Type 0} {x y : A} → ◌≡◌ {A = Result A CheckFault} (Ok x) (Ok y) → x ≡ y
ok_same h = cc

pub err_same : {A : Type 0} {e f : CheckFault} → ◌≡◌ {A = Result A CheckFault} (Err e) (Err f) → e ≡ f
err_same h = cc

-- a step that didn't fail
pub record Bound {A B : Type 0} (r : Result A CheckFault) (f : A → Result B CheckFault) (y : B) : Type 0 where
  pub value : A
  pub was : r ≡ Ok value
  pub is : f value ≡ Ok y

pub bound : {A B : Type 0} (r : Result A CheckFault) (f : A → Result B CheckFault) (y : B) → (r >>= f) ≡ Ok y → Bound r f y
bound (Ok x) f y h = record { value = x; was = refl; is = h }
bound (Err e) f y h = cc

pub passed : {A : Type 0} (b : Bool) (x : Result A CheckFault) (e : CheckFault) (y : A) → cond b x (Err e) ≡ Ok y → (b ≡ true) × (x ≡ Ok y)
passed true x e y h = (refl, h)
passed false x e y h = cc

pub both_true : (a b : Bool) → a ≡ true → b ≡ true → (a && b) ≡ true
both_true a b h i = cc

pub equal_true : (m n : ℕ) → m ≡ n → (m == n) ≡ true
equal_true m n h = grind (arith, h)

pub equal_false : (m n : ℕ) → ¬ (m ≡ n) → (m == n) ≡ false
equal_false m n h = grind (arith, h)

pub not_equal : (m n : ℕ) → (m == n) ≡ false → ¬ (m ≡ n)
not_equal m n h k = grind (arith, h, k)

pub at_most_true : (m n : ℕ) → m ≤ n → nat_le m n ≡ true
at_most_true m n h = grind (arith, h)

pub at_most : (m n : ℕ) → nat_le m n ≡ true → m ≤ n
at_most m n h = grind (arith, h)

pub not_at_most : (m n : ℕ) → nat_le m n ≡ false → ¬ (m ≤ n)
not_at_most m n h k = grind (arith, h, k)
