-- The code of a derivation depends only on its rules.
use Rattle.std.proofs.Common.{◌≡◌, ℕ, ◌+◌, ◌<◌, ◌≤◌, Bool, true, false, List, Option, Some, None, cond, refl, ap, sym, ◌∙◌, arith}
use Rattle.std.specs.Prelude.{nat_le}
use Rattle.std.specs.Option.{SomeIff}
use Rattle.bc_rules_defs.specs.declared.piece.Piece.{Piece}
use Rattle.bc_rules_defs.specs.Code.{root_labels}
use Rattle.bc_rules_defs.specs.ByShape.{root_labels_by, root_code_by}
use Rattle.bc_rules_defs.proofs.ByShape.{root_labels_same, root_code_same}
use Rattle.bc_rules.specs.Code.{IsNextLabel, IsCodeOf}
use Rattle.bc_rules.proofs.Bridge.{root_found}
use Rattle.bc_cert_defs.specs.declared.head.Head.{Head}
use Rattle.bc_cert_read.specs.Stacks.{Rooted}
use Rattle.bc_cert_laws.specs.Judging.{right_of}
use Rattle.bc_cert.specs.View.{IsDerived}

labels_none : (n k : ℕ) (t : Bool) (x : Option ℕ) → x ≡ None → SomeIff x (n ≤ 65536) k → nat_le n 65536 ≡ t → t ≡ false
labels_none n k true None g h e = absurd (h (grind (arith, e)))
labels_none n k false None g h e = refl
labels_none n k t (Some m) g h e = cc

labels_some : (n k m : ℕ) (t : Bool) (x : Option ℕ) → x ≡ Some m → SomeIff x (n ≤ 65536) k → nat_le n 65536 ≡ t → t ≡ true
labels_some n k m t None g h e = cc
labels_some n k m true (Some l) g h e = refl
labels_some n k m false (Some l) g h e = let i : n ≤ 65536 = h.0 in absurd (let j : 65536 < n = grind (arith, e) in omega arith)

pub no_room : (h : Head) (r : Rooted) (next : Option ℕ) → IsDerived r → IsNextLabel r.root r.derivation h.first next → next ≡ None → right_of h r ≡ None
no_room h r next i j k =
    let d = root_found i.0 r.root r.derivation i.1 in
    let same : root_labels d.0 ≡ root_labels_by r.root r.derivation = root_labels_same d.0 ∙ ap (λ x. root_labels_by r.root x) d.1 in
    let full : nat_le (h.first + root_labels d.0) 65536 ≡ false = labels_none (h.first + root_labels d.0) _ (nat_le (h.first + root_labels d.0) 65536) next k (j.exact i.0 d.0 d.1) refl in
    ap (λ t. cond t (Some (root_code_by r.root r.derivation h.target h.first)) None) (sym (ap (λ n. nat_le (h.first + n) 65536) same) ∙ full)

pub right_found : (h : Head) (r : Rooted) (next : Option ℕ) (m : ℕ) (pieces : List Piece) → IsDerived r → IsNextLabel r.root r.derivation h.first next → next ≡ Some m → IsCodeOf r.root r.derivation h.target h.first pieces → right_of h r ≡ Some pieces
right_found h r next m pieces i j k c =
    let d = root_found i.0 r.root r.derivation i.1 in
    let same : root_labels d.0 ≡ root_labels_by r.root r.derivation = root_labels_same d.0 ∙ ap (λ x. root_labels_by r.root x) d.1 in
    let free : nat_le (h.first + root_labels d.0) 65536 ≡ true = labels_some (h.first + root_labels d.0) _ m (nat_le (h.first + root_labels d.0) 65536) next k (j.exact i.0 d.0 d.1) refl in
    let code : root_code_by r.root r.derivation h.target h.first ≡ pieces = sym (c.exact i.0 d.0 d.1 ∙ root_code_same d.0 h.target h.first ∙ ap (λ x. root_code_by r.root x h.target h.first) d.1) in
    ap (λ t. cond t (Some (root_code_by r.root r.derivation h.target h.first)) None) (sym (ap (λ n. nat_le (h.first + n) 65536) same) ∙ free) ∙ ap Some code
