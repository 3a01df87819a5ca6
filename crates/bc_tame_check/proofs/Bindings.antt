-- What declarations add to what is known.
use Rattle.std.proofs.Common.{◌≡◌, ℕ, ◌+◌, ◌<◌, ◌≤◌, Bool, false, List, [], ◌∷◌, ◌++◌, sym, ap, ◌∙◌, arith}
use Rattle.std.specs.Prelude.{nat_lt, cond}
use Rattle.std.proofs.lemmas.Bool.{cond-true, cond-false}
use Rattle.std.proofs.lemmas.Bool.Decides.{nat_tests}
use Rattle.bc_core.specs.Tree.{Exp}
use Rattle.bc_core.specs.Level.{cells_of}
use Rattle.bc_core.specs.Commands.{Variable, Initial, Vector}
use Rattle.bc_tame.specs.Tame.{AnyWord, TableAt, Env, Knows, and_also, and_cells, held_by, and_one, and_all}
use Rattle.bc_tame_check.specs.declared.held.Held.{Held}
use Rattle.bc_tame_check.specs.declared.held.Entry.{Entry}
use Rattle.bc_tame_check.specs.declared.held.Entry.TheVariants as entries
use Rattle.bc_tame_check.specs.Views.{held_of, set_over}
use Rattle.bc_tame_check.proofs.Tests.{less_true}
use Rattle.bc_tame_check.proofs.Knowledge.{set_more}

none_less : (n : ℕ) → n ≤ 0 → nat_lt 0 n ≡ false
none_less n h = grind (arith, nat_tests)

pub table_kept : (words : ℕ → ℕ) (m n : ℕ) → n ≡ words m → 0 < n → TableAt m ≡ cond (nat_lt 0 (words m)) (TableAt m) AnyWord
table_kept words m n e h = sym (cond-true _ (TableAt m) AnyWord (ap (nat_lt 0) (sym e) ∙ less_true 0 n h))

pub word_kept : (words : ℕ → ℕ) (m n : ℕ) → n ≡ words m → n ≤ 0 → AnyWord ≡ cond (nat_lt 0 (words m)) (TableAt m) AnyWord
word_kept words m n e h = sym (cond-false _ (TableAt m) AnyWord (ap (nat_lt 0) (sym e) ∙ none_less n h))

pub value_added : (E : Env) (kept : Bool) (R : Knows) (old new : List Entry) (k : ℕ) (h : Held) (e : Exp) → new ≡ old ++ entries.One k h ∷ [] → held_of h ≡ held_by E kept (Initial e)
    → set_over R new ≡ and_one E kept (Initial e) k (set_over R old)
value_added E kept R old new k h e is holds = ap (set_over R) is ∙ (set_more R old (entries.One k h) ∙ ap (λ x. and_also k x (set_over R old)) holds)

pub vector_added : (E : Env) (kept : Bool) (R : Knows) (old mid new : List Entry) (k first n m g : ℕ) (h : Held) → mid ≡ old ++ entries.Cells first m ∷ [] → new ≡ mid ++ entries.One k h ∷ []
    → first ≡ k + 1 → m ≡ n + 1 → n ≡ g → held_of h ≡ held_by E kept (Vector n) → set_over R new ≡ and_one E kept (Vector g) k (set_over R old)
vector_added E kept R old mid new k first n m g h cells one at many same holds =
    ap (set_over R) one
    ∙ (set_more R mid (entries.One k h)
    ∙ (ap (λ S. and_also k (held_of h) S) (ap (set_over R) cells ∙ (set_more R old (entries.Cells first m) ∙ (λ i. and_cells ((many ∙ ap (λ x. x + 1) same) i) (at i) (set_over R old))))
    ∙ ap (λ x. and_also k x (and_cells (g + 1) (k + 1) (set_over R old))) (holds ∙ ap (λ x. held_by E kept (Vector x)) same)))

-- one more variable of a declaration
pub one_more : (E : Env) (kept : Bool) (R : Knows) (old new : List Entry) (v : Variable) (vs : List Variable) (k n c : ℕ) → ((S : Knows) → set_over S new ≡ and_one E kept v k (set_over S old)) → n ≡ k + c → c ≡ cells_of v
    → and_all E kept vs n (set_over R new) ≡ and_all E kept (v ∷ vs) k (set_over R old)
one_more E kept R old new v vs k n c added next cells =
    ap (and_all E kept vs n) (added R) ∙ ap (λ m. and_all E kept vs m (and_one E kept v k (set_over R old))) (next ∙ ap (λ m. k + m) cells)
