-- The steps by which a node line is judged.
use Rattle.std.proofs.Common.{◌≡◌, refl, ap, sym, ◌∙◌, ℕ, zero, suc, ◌-◌, ◌<◌, ◌≤◌, Bool, true, false, List, [], ◌∷◌, ◌++◌, map, take, drop, length, Result, Ok, Err, cond, arith, length-append, length-take}
use Rattle.std.specs.Prelude.{nat_lt}
use Rattle.bc_cert_defs.specs.declared.check_fault.CheckFault.{CheckFault}
use Rattle.bc_cert_defs.specs.declared.check_fault.CheckFault.TheVariants as faults
use Rattle.bc_core.specs.declared.expression.CoreExp.{CoreExp}
use Rattle.bc_core.specs.Tree.{Exp}
use Rattle.bc_core.specs.View.{exp}
use Rattle.bc_rules_defs.specs.declared.derivation.Derivation.{Derivation}
use Rattle.bc_rules_defs.specs.declared.rule.Table.{Table}
use Rattle.bc_rules_defs.specs.View.{derivation}
use Rattle.bc_cert_read.specs.declared.lines.NodeLine.{NodeLine}
use Rattle.bc_cert_read.specs.Form.{parts_of}
use Rattle.bc_cert_read.specs.declared.mark.Shown.{Shown}
use Rattle.bc_cert_read.specs.declared.position.Position.{Position}
use Rattle.bc_cert_read.specs.Wholes.{whole}
use Rattle.bc_cert_read.specs.Stacks.{◌>>=◌, Stack, fitting, with_whole, without_expressions, node_judged_over, put_over, AreParallel, node_whole, node_from, node_step}
use Rattle.bc_cert_read.specs.TreeView.{Fails}

pub take_seen : (n : ℕ) (es : List CoreExp) → map exp (take n es) ≡ take n (map exp es)
take_seen zero es = refl
take_seen (suc n) [] = refl
take_seen (suc n) (e ∷ es) = ap (λ xs. exp e ∷ xs) (take_seen n es)

pub drop_seen : (n : ℕ) (es : List CoreExp) → map exp (drop n es) ≡ drop n (map exp es)
drop_seen zero es = refl
drop_seen (suc n) [] = refl
drop_seen (suc n) (e ∷ es) = drop_seen n es

pub trees_take_seen : (n : ℕ) (ds : List Derivation) → map derivation (take n ds) ≡ take n (map derivation ds)
trees_take_seen zero ds = refl
trees_take_seen (suc n) [] = refl
trees_take_seen (suc n) (d ∷ ds) = ap (λ xs. derivation d ∷ xs) (trees_take_seen n ds)

pub trees_drop_seen : (n : ℕ) (ds : List Derivation) → map derivation (drop n ds) ≡ drop n (map derivation ds)
trees_drop_seen zero ds = refl
trees_drop_seen (suc n) [] = refl
trees_drop_seen (suc n) (d ∷ ds) = trees_drop_seen n ds

pub trees_push_seen : (ds : List Derivation) (d : Derivation) → map derivation (ds ++ d ∷ []) ≡ map derivation ds ++ derivation d ∷ []
trees_push_seen [] d = refl
trees_push_seen (x ∷ ds) d = ap (λ xs. derivation x ∷ xs) (trees_push_seen ds d)

pub fails_with : {X : Type 0} (f : CheckFault) (r : Result X CheckFault) → r ≡ Err f → Fails f r
fails_with faults.Header r h = h
fails_with (faults.Line l) r h = h
fails_with faults.Truncated r h = h
fails_with (faults.WrongCost e n) r h = h
fails_with (faults.WrongRule e n) r h = h
fails_with (faults.WrongCode e) r h = h
fails_with (faults.WrongWords e) r h = h
fails_with (faults.TooDeep l) r h = h
fails_with faults.Read r h = h
fails_with faults.Memory r h = tt

-- a failed step fails the whole
pub fails_along : {X Y : Type 0} (f : CheckFault) (r : Result X CheckFault) (k : Result Y CheckFault) → (r ≡ Err f → k ≡ Err f) → Fails f r → Fails f k
fails_along faults.Header r k g h = g h
fails_along (faults.Line l) r k g h = g h
fails_along faults.Truncated r k g h = g h
fails_along (faults.WrongCost e n) r k g h = g h
fails_along (faults.WrongRule e n) r k g h = g h
fails_along (faults.WrongCode e) r k g h = g h
fails_along (faults.WrongWords e) r k g h = g h
fails_along (faults.TooDeep l) r k g h = g h
fails_along faults.Read r k g h = g h
fails_along faults.Memory r k g h = tt

not_less : {A : Type 0} (a b : ℕ) (x y : A) (t : Bool) → b ≤ a → nat_lt a b ≡ t → cond t x y ≡ y
not_less a b x y true h e = absurd (let i : a < b = grind (arith, e) in omega arith)
not_less a b x y false h e = refl

pub step_from : (T : Table) (line : NodeLine) (p : Position) (st : Stack) (at : ℕ) → parts_of line.form ≤ length st.facts → at ≡ length st.facts - parts_of line.form → node_step T line p st ≡ node_from T line p st at
step_from T line p st at h e = not_less (length st.facts) (parts_of line.form) _ _ (nat_lt (length st.facts) (parts_of line.form)) h refl ∙ ap (λ n. node_from T line p st n) (sym e)

pub step_fault : (T : Table) (line : NodeLine) (p : Position) (st : Stack) (at : ℕ) (f : CheckFault) → fitting line (drop at st.marks) p ≡ Err f → node_from T line p st at ≡ Err f
step_fault T line p st at f h = ap (λ r. r >>= (λ depth. node_whole T line p st at depth)) h

pub step_whole : (T : Table) (line : NodeLine) (p : Position) (st : Stack) (at depth : ℕ) → fitting line (drop at st.marks) p ≡ Ok depth → node_from T line p st at ≡ node_whole T line p st at depth
step_whole T line p st at depth h = ap (λ r. r >>= (λ d. node_whole T line p st at d)) h

pub whole_fault : (T : Table) (line : NodeLine) (p : Position) (st : Stack) (at depth : ℕ) (f : CheckFault) → with_whole p (whole line.form (drop at st.expressions)) ≡ Err f → node_whole T line p st at depth ≡ Err f
whole_fault T line p st at depth f h = ap (λ r. r >>= (λ e. node_judged_over T line p (without_expressions at st) at depth e)) h

pub whole_judged : (T : Table) (line : NodeLine) (p : Position) (st : Stack) (at depth : ℕ) (e : Exp) → with_whole p (whole line.form (drop at st.expressions)) ≡ Ok e → node_whole T line p st at depth ≡ node_judged_over T line p (without_expressions at st) at depth e
whole_judged T line p st at depth e h = ap (λ r. r >>= (λ x. node_judged_over T line p (without_expressions at st) at depth x)) h

-- the four lists of a stack keep equal lengths
pub put_parallel : (line : NodeLine) (st : Stack) (at depth : ℕ) (e : Exp) (shown : Shown) → at ≤ length st.marks → at ≤ length st.facts → at ≤ length st.derivations → length st.expressions ≡ at → AreParallel (put_over line st at depth e shown)
put_parallel line st at depth e shown h i j k = record {
  marks = simp (length-append, length-take) (omega arith);
  expressions = simp (length-append, length-take) (omega arith);
  derivations = simp (length-append, length-take) (omega arith);
}
