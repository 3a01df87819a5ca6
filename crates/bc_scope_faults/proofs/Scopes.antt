-- Scopes in which nothing is declared, and scopes after `leave`.
use Rattle.std.proofs.Common.{◌≡◌, ℕ, List, [], length, take, ap, ◌∙◌, refl}
use Rattle.bc_scope_names.specs.declared.scope.Entry.{Entry}
use Rattle.bc_scope_names.specs.View.{Extends, scope_view}
use Rattle.bc_scope_defs.specs.Scope as scope
use Rattle.bc_scope_names.proofs.Extends.{extends_on, left}

nothing : scope_view [] ≡ scope.nothing_known
unfolding scope_view
nothing = refl

pub nothing_known : (s : List Entry) → s ≡ [] → scope_view s ≡ scope.nothing_known
nothing_known s e = ap scope_view e ∙ nothing

-- leaving after two parts that added names
pub left_both : (a b c d : List Entry) (n : ℕ) → Extends a b → Extends b c → d ≡ c → n ≡ length a → take n d ≡ a
left_both a b c d n p q e l = ap (λ x. take n x) e ∙ left a c n (extends_on a b c p q) l

-- leaving everything leaves nothing
pub nothing_left : (a b : List Entry) (n : ℕ) → a ≡ [] → Extends a b → n ≡ length a → take n b ≡ []
nothing_left a b n e p l = left a b n p l ∙ e
