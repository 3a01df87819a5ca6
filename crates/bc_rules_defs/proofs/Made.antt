-- The layers of each derivation are as `Made` says, with one line for each rule.
use Rattle.std.proofs.Common.{◌≡◌, ℕ, ◌+◌, ◌≤◌, Bool, true, false, not, cond, Some, None, List, [], ◌∷◌, ◌++◌, refl, ap, subst, arith}
use Rattle.bc_word.specs.declared.operator.Op.{Op}
use Rattle.bc_word.specs.declared.operator.Op.TheVariants as operators
use Rattle.bc_word.specs.Words.{number_of}
use Rattle.std.specs.Prelude.{is_some}
use Rattle.bc_core.specs.declared.operands.Operand.{Operand}
use Rattle.bc_core.specs.Level.{side_level}
use Rattle.bc_core.specs.Tree.{Exp, Bin, Args, count, Root}
use Rattle.bc_core.specs.Operand.{operand_of}
use Rattle.bc_rules_defs.specs.declared.rule.Table.{Table}
use Rattle.bc_rules_defs.specs.declared.rule.Aim.{Aim}
use Rattle.bc_rules_defs.specs.declared.rule.Aim.TheVariants.{Jumps}
use Rattle.bc_rules_defs.specs.Free.{is_zero, without_zero, jumps_at}
use Rattle.bc_rules_defs.specs.Piece.{J, jump_if}
use Rattle.bc_rules_defs.specs.Rules.{Derives, v0, v1, v2, v3, v4, v6, v7, v8, v9, v10, v11, v12, v13, v14, v15, v16, v17, v18, v19, v20, v21, v22, v22_valof, j1, j2, j3, j4, j5, j6, j7, j8, j9, DerivesAll, no_more, one_more, RootDerives, value, test, a1, a2, a3}
use Rattle.bc_rules_defs.specs.Code.{labels, all_labels, root_labels}
use Rattle.bc_rules_defs.specs.Layers.{Layer, own, argument_layers, root_layers}
use Rattle.bc_rules_defs.specs.Made.{Among, first, later, Within, itself, loaded, negated, inverted, left, right, condition, this, that, an_argument, routine, the_value, the_test, assigned, address, Here, number, frame, cell, next_cell, cell_of_part, operand, to_target, to_own, a_value, same_target, own_target, Claim, Stand, done, piece, own_label, a_body, a_part, here, Made, at_root}

operator_small : (op : Op) → number_of op ≤ 65535
operator_small operators.Multiply = omega arith
operator_small op = omega arith

-- the operand that remains when a 0 is dropped is one of the two
beside : (op : Op) (a b c : Exp) (s : ℕ) (here there : Bool) → cond here (Some a) (cond there (Some b) None) ≡ Some c → Within (Bin op a b) s c (s + 1)
beside op a b c s true y h = let same : a ≡ c = cc in subst (λ e. Within (Bin op a b) s e (s + 1)) same left
beside op a b c s false true h = let same : b ≡ c = cc in subst (λ e. Within (Bin op a b) s e (s + 1)) same right
beside op a b c s false false h = absurd (let f : None ≡ Some c = h in cc)

without : (op : Op) (a b c : Exp) (s : ℕ) → without_zero op a b ≡ Some c → Within (Bin op a b) s c (s + 1)
without operators.Add a b c s h = beside operators.Add a b c s (is_zero b) (is_zero a) h
without operators.Subtract a b c s h = beside operators.Subtract a b c s (is_zero b) false h
without op a b c s h = absurd (let f : None ≡ Some c = h in cc)

module _ {T : Table} (C : Claim T) where
  from : {H : Here} {k m n : ℕ} {ls : List (Layer T)} → m ≡ n → Stand C H k m ls → Stand C H k n ls
  from {H = H} {k = k} {ls = ls} e h = subst (λ m. Stand C H k m ls) e h

  jumps : (sense : Bool) {H : Here} {k m : ℕ} {a : Bool} {ls : List (Layer T)} → H.aim ≡ Jumps a → Stand C H k m ls → Stand C H k m (own (jump_if sense H.target) ∷ ls)
  jumps true h i = piece (to_target h) i
  jumps false h i = piece (to_target h) i

  jumps_or_not : (b : Bool) (H : Here) {k m : ℕ} {a : Bool} → H.aim ≡ Jumps a → k ≡ H.parts → m ≡ H.end → Stand C H k m (cond b (own (J H.target) ∷ []) [])
  jumps_or_not true H h i j = piece (to_target h) (done i j)
  jumps_or_not false H h i j = done i j

  -- if the claim holds of a derivation's parts, it holds of the derivation
  abbrev pub Step : Type 0
  Step = (e : Exp) (aim : Aim) (d : Derives T e aim) → ((s t f : ℕ) → Made C e aim d s t f) → (s t f : ℕ) → C e aim d s t f

  -- the claim of the arguments of a call
  abbrev OfAll : {es : Args} → DerivesAll T es → (s t f : ℕ) → Type 0
  OfAll no_more s t f = Unit {0}
  OfAll (one_more d ds) s t f = C _ _ d s t f × OfAll ds (s + 1) t (f + labels d)

  arguments : {es : Args} (ds : DerivesAll T es) (s t f : ℕ) → OfAll ds s t f → {H : Here} {k : ℕ} {ls : List (Layer T)} → ((e : Exp) (u : ℕ) → Among es s e u → H.sees e u)
      → Stand C H k (f + all_labels ds) ls → Stand C H k f (argument_layers ds s t f ++ ls)
  arguments no_more s t f all sees rest = from (omega arith) rest
  arguments (one_more d ds) s t f all sees rest =
      a_part (sees _ _ first) a_value all.0 (piece (cell_of_part (sees _ _ first))
      (arguments ds (s + 1) t (f + labels d) all.1 (λ e u x. sees e u (later x)) (from (omega arith) rest)))

  module _ (step : Step) where
    mutual
      made : {e : Exp} {aim : Aim} (d : Derives T e aim) (s t f : ℕ) → Made C e aim d s t f
      made (v0 d) s t f = record { parts = f; stand = a_part itself a_value (step _ _ d (made d) s t f) (done refl refl) }
      made (v1 h) s t f = record { parts = f; stand = piece (operand itself h) (done refl (omega arith)) }
      made (v2 d) s t f = record { parts = f; stand = a_part loaded a_value (step _ _ d (made d) s t f) (piece (number (omega arith)) (done refl refl)) }
      made (v3 d) s t f = record { parts = f; stand = a_part negated a_value (step _ _ d (made d) s t f) (piece (number (omega arith)) (done refl refl)) }
      made (v4 d) s t f = record { parts = f; stand = a_part inverted a_value (step _ _ d (made d) s t f) (piece (number (omega arith)) (done refl refl)) }
      made (v6 h a) s t f = record { parts = f; stand = a_part left a_value (step _ _ a (made a) (s + 1) t f) (piece (operand right h) (done refl refl)) }
      made (v7 h free b) s t f = record { parts = f; stand = a_part right a_value (step _ _ b (made b) (s + 1) t f) (piece (operand left h) (done refl refl)) }
      made (v8 {op = op} {a = a} {b = b} {c = c} h d) s t f = record { parts = f; stand = a_part (without op a b c s h) a_value (step _ _ d (made d) (s + 1) t f) (done refl refl) }
      made (v9 a) s t f = record { parts = f; stand = a_part left a_value (step _ _ a (made a) (s + 1) t f) (piece (number (omega arith)) (done refl refl)) }
      made (v10 h a) s t f = record { parts = f; stand = a_part left a_value (step _ _ a (made a) (s + 1) t f) (piece (number (omega arith)) (piece (operand right h) (piece (number (omega arith)) (done refl refl)))) }
      made (v11 h free b) s t f = record { parts = f; stand = a_part right a_value (step _ _ b (made b) (s + 1) t f) (piece (number (omega arith)) (piece (operand left h) (done refl refl))) }
      made (v12 {op = op} a b) s t f = record { parts = f; stand = a_part left a_value (step _ _ a (made a) (s + 1) t f) (a_part right a_value (step _ _ b (made b) (s + 1) t (f + labels a)) (piece (number (operator_small op)) (done refl (omega arith)))) }
      made (v13 {q = q} h free b a) s t f = record { parts = f; stand = a_part right a_value (step _ _ b (made b) (s + 1) t f) (a_part left a_value (step _ _ a (made a) (s + 1) t (f + labels b)) (piece (number (operator_small q)) (done refl (omega arith)))) }
      made (v14 free b a) s t f = record { parts = f; stand = a_part right a_value (step _ _ b (made b) (s + 1) t f) (a_part left a_value (step _ _ a (made a) (s + 1) t (f + labels b)) (piece (number (omega arith)) (piece (number (omega arith)) (done refl (omega arith))))) }
      made (v15 {q = q} h a b) s t f = record { parts = f; stand = a_part left a_value (step _ _ a (made a) (s + 1) t f) (piece cell (a_part right a_value (step _ _ b (made b) (s + 1) t (f + labels a)) (piece cell (piece (number (operator_small q)) (done refl (omega arith)))))) }
      made (v16 {op = op} free b a) s t f = record { parts = f; stand = a_part right a_value (step _ _ b (made b) (s + 1) t f) (piece cell (a_part left a_value (step _ _ a (made a) (s + 1) t (f + labels b)) (piece cell (piece (number (operator_small op)) (done refl (omega arith)))))) }
      made (v17 {op = op} a b) s t f = record { parts = f; stand = a_part left a_value (step _ _ a (made a) (s + 1) t f) (piece cell (a_part right a_value (step _ _ b (made b) (s + 1) t (f + labels a)) (piece next_cell (piece cell (piece next_cell (piece (number (operator_small op)) (done refl (omega arith)))))))) }
      made (v18 a b) s t f = record { parts = f; stand = a_part left a_value (step _ _ a (made a) (s + 1) t f) (piece cell (a_part right a_value (step _ _ b (made b) (s + 1) t (f + labels a)) (piece cell (done refl (omega arith))))) }
      made (v19 a b) s t f = record { parts = f; stand = a_part left a_value (step _ _ a (made a) (s + 1) t f) (piece cell (a_part right a_value (step _ _ b (made b) (s + 1) t (f + labels a)) (piece (number (omega arith)) (piece cell (done refl (omega arith)))))) }
      made (v20 c x y) s t f = record { parts = f + 2; stand = a_part condition (own_target (omega arith) (omega arith)) (step _ _ c (made c) s f (f + 2)) (a_part this a_value (step _ _ x (made x) s t (f + 2 + labels c)) (piece (to_own (omega arith) (omega arith)) (own_label (a_part that a_value (step _ _ y (made y) s t (f + 2 + labels c + labels x)) (own_label (done (omega arith) (omega arith))))))) }
      made (v21 c y x) s t f = record { parts = f + 2; stand = a_part condition (own_target (omega arith) (omega arith)) (step _ _ c (made c) s f (f + 2)) (a_part that a_value (step _ _ y (made y) s t (f + 2 + labels c)) (piece (to_own (omega arith) (omega arith)) (own_label (a_part this a_value (step _ _ x (made x) s t (f + 2 + labels c + labels y)) (own_label (done (omega arith) (omega arith))))))) }
      made (v22 {es = es} ds r) s t f = record { parts = f; stand = arguments ds (s + 2) t f (of_all ds (s + 2) t f) (λ e n x. an_argument x) (a_part routine a_value (step _ _ r (made r) (s + 2 + count es) t (f + all_labels ds)) (piece frame (done refl (omega arith)))) }
      made v22_valof s t f = record { parts = f + 1; stand = a_body itself (done refl refl) }
      made (j1 d) s t f = record { parts = f; stand = a_part inverted (same_target refl) (step _ _ d (made d) s t f) (done refl refl) }
      made (j2 a b) s t f = record { parts = f; stand = a_part left (same_target refl) (step _ _ a (made a) (s + 1) t f) (a_part right (same_target refl) (step _ _ b (made b) (s + 1) t (f + labels a)) (done refl (omega arith))) }
      made (j3 a b) s t f = record { parts = f + 1; stand = a_part left (own_target (omega arith) (omega arith)) (step _ _ a (made a) (s + 1) f (f + 1)) (a_part right (same_target refl) (step _ _ b (made b) (s + 1) t (f + 1 + labels a)) (own_label (done refl (omega arith)))) }
      made (j4 a b) s t f = record { parts = f; stand = a_part left (same_target refl) (step _ _ a (made a) (s + 1) t f) (a_part right (same_target refl) (step _ _ b (made b) (s + 1) t (f + labels a)) (done refl (omega arith))) }
      made (j5 a b) s t f = record { parts = f + 1; stand = a_part left (own_target (omega arith) (omega arith)) (step _ _ a (made a) (s + 1) f (f + 1)) (a_part right (same_target refl) (step _ _ b (made b) (s + 1) t (f + 1 + labels a)) (own_label (done refl (omega arith)))) }
      made (j6 {sense = sense} h d) s t f = record { parts = f; stand = a_part itself a_value (step _ _ d (made d) s t f) (jumps sense refl (done refl refl)) }
      made (j7 {n = n} {sense = sense}) s t f = record { parts = f; stand = jumps_or_not (jumps_at sense n) _ refl refl (omega arith) }
      made (j8 {a = a} {b = b} {c = c} {sense = sense} h k d) s t f = record { parts = f; stand = a_part (beside _ a b c s (is_zero b) (is_zero a) k) a_value (step _ _ d (made d) (s + 1) t f) (jumps (not sense) refl (done refl refl)) }
      made (j9 {a = a} {b = b} {c = c} {sense = sense} h k d) s t f = record { parts = f; stand = a_part (beside _ a b c s (is_zero b) (is_zero a) k) a_value (step _ _ d (made d) (s + 1) t f) (jumps sense refl (done refl refl)) }

      of_all : {es : Args} (ds : DerivesAll T es) (s t f : ℕ) → OfAll ds s t f
      of_all no_more s t f = tt
      of_all (one_more d ds) s t f = (step _ _ d (made d) s t f, of_all ds (s + 1) t (f + labels d))

    pub by_parts : {e : Exp} {aim : Aim} (d : Derives T e aim) (s t f : ℕ) → C e aim d s t f
    by_parts d s t f = step _ _ d (made d) s t f

  -- the sides of an assignment
  at_operand : (a : Exp) (s : ℕ) {o : Operand} → operand_of a ≡ Some o → side_level a s ≡ s
  at_operand a s h = ap (λ z. cond (is_some z) s (s + 1)) h

  above : (a : Exp) (s : ℕ) → operand_of a ≡ None → side_level a s ≡ s + 1
  above a s h = ap (λ z. cond (is_some z) s (s + 1)) h

  pub root_stands : ((e : Exp) (aim : Aim) (d : Derives T e aim) (s t f : ℕ) → C e aim d s t f) → {r : Root} (d : RootDerives T r) (t f : ℕ)
      → Stand C (at_root r t f (f + root_labels d)) f f (root_layers d t f)
  root_stands all (value {s = s} d) t f = a_part the_value a_value (all _ _ d s t f) (done refl refl)
  root_stands all (test {s = s} d) t f = a_part the_test (same_target refl) (all _ _ d s t f) (done refl refl)
  root_stands all (a1 {s = s} {a = a} h v) t f = let at = at_operand a s h in a_part (assigned at) a_value (all _ _ v s t f) (piece (operand (address at) h) (done refl refl))
  root_stands all (a2 {s = s} {a = a} h free x v) t f =
      let at = above a s h in
      a_part (address at) a_value (all _ _ x (s + 1) t f) (piece cell (a_part (assigned at) a_value (all _ _ v (s + 1) t (f + labels x)) (piece cell (done refl (omega arith)))))
  root_stands all (a3 {s = s} {a = a} h v x) t f =
      let at = above a s h in
      a_part (assigned at) a_value (all _ _ v (s + 1) t f)
      (piece cell (a_part (address at) a_value (all _ _ x (s + 1) t (f + labels v)) (piece next_cell (piece cell (piece next_cell (done refl (omega arith)))))))

-- the next labels don't exceed their ends
pub in_bounds : {T : Table} {C : Claim T} {H : Here} {k m : ℕ} {ls : List (Layer T)} → Stand C H k m ls → (k ≤ H.parts) × (m ≤ H.end)
in_bounds (done h i) = (omega arith, omega arith)
in_bounds (piece o h) = in_bounds h
in_bounds (own_label h) = let b = in_bounds h in let l = b.0 in (omega arith, b.1)
in_bounds (a_body o h) = let b = in_bounds h in let l = b.0 in (omega arith, b.1)
in_bounds (a_part o a c h) = let b = in_bounds h in let l = b.1 in (b.0, omega arith)
