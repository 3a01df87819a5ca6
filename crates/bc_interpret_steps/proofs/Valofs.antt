-- The VALOF with a number.
use Rattle.std.proofs.Common.{◌≡◌, ℕ, zero, suc, ◌+◌, ◌-◌, ◌<◌, ◌≤◌, ◌==◌, Bool, true, false, inl, inr, List, [], ◌∷◌, length, drop, get_or, map, refl, sym, ap, ◌∙◌, arith}
use Rattle.std.proofs.lemmas.Bool.{eq-eqb}
use Rattle.std.proofs.lemmas.List.{length-drop, get_or-drop, drop-drop}
use Rattle.std.proofs.lemmas.Bool.Decides.{eqb_tells}
use Rattle.bc_core.specs.View.{valof_of, block_of}
use Rattle.bc_core.specs.Commands as commands
use Rattle.bc_core.specs.declared.command.Valof.{Valof}
use Rattle.bc_core.specs.Outcome.{State, wild}
use Rattle.bc_interpret_defs.specs.Machine.{Step, Rest, go, Enter, Results, to_valof}

within : (ℕ → ℕ) → (p first n : ℕ) → List commands.Valof → commands.Valof → (s : ℕ) → List Rest → Step
within address p first n vs v s rs = go (Enter (record { address = address; first = first; valofs = vs; frame = p }) v.body s) (Results n ∷ rs)

branch : (ℕ → ℕ) → (p first : ℕ) → commands.Valof → List commands.Valof → (n s : ℕ) → List Rest → Bool → Step
branch address p first v vs n s rs true = within address p (first + 1) n vs v s rs
branch address p first v vs n s rs false = to_valof address p (first + 1) vs n s rs

branched : (address : ℕ → ℕ) (p first : ℕ) (v : commands.Valof) (vs : List commands.Valof) (n s : ℕ) (rs : List Rest) → to_valof address p first (v ∷ vs) n s rs ≡ branch address p first v vs n s rs (n == first)
unfolding branch within
branched address p first v vs n s rs = elim (n == first) as (λ t. elim t as (λ u. Step) [ true ↦ within address p (first + 1) n vs v s rs | false ↦ to_valof address p (first + 1) vs n s rs ] ≡ branch address p first v vs n s rs t) [ true ↦ refl | false ↦ refl ]

apart : (a b : ℕ) → ((a ≡ b) → ⊥) → (a == b) ≡ false
apart a b h = elim (eqb_tells a b) [ inl e ↦ absurd (h e.1) | inr e ↦ e.0 ]

pub valof_before : (address : ℕ → ℕ) (p first : ℕ) (ws : List Valof) (n s : ℕ) (rs : List Rest) → n < first → to_valof address p first (map valof_of ws) n s rs ≡ wild
unfolding branch
valof_before address p first [] n s rs h = refl
valof_before address p first (w ∷ ws) n s rs h =
    branched address p first (valof_of w) (map valof_of ws) n s rs
    ∙ (ap (branch address p first (valof_of w) (map valof_of ws) n s rs) (apart n first (λ e. omega (arith, e)))
    ∙ onwards (valof_before address p (first + 1) ws n s rs (omega arith))) where
      onwards : to_valof address p (first + 1) (map valof_of ws) n s rs ≡ wild → branch address p first (valof_of w) (map valof_of ws) n s rs false ≡ wild
      onwards e = e

pub valof_after : (address : ℕ → ℕ) (p first : ℕ) (ws : List Valof) (n i s : ℕ) (rs : List Rest) → n ≡ first + i → length ws ≤ i → to_valof address p first (map valof_of ws) n s rs ≡ wild
unfolding branch
valof_after address p first [] n i s rs e h = refl
valof_after address p first (w ∷ ws) n zero s rs e h = absurd (omega arith)
valof_after address p first (w ∷ ws) n (suc i) s rs e h =
    branched address p first (valof_of w) (map valof_of ws) n s rs
    ∙ (ap (branch address p first (valof_of w) (map valof_of ws) n s rs) (apart n first (λ q. omega (arith, e, q)))
    ∙ onwards (valof_after address p (first + 1) ws n i s rs (omega arith) (omega arith))) where
      onwards : to_valof address p (first + 1) (map valof_of ws) n s rs ≡ wild → branch address p first (valof_of w) (map valof_of ws) n s rs false ≡ wild
      onwards q = q

pub valof_at : (address : ℕ → ℕ) (p first : ℕ) (ws : List Valof) (n i s : ℕ) (rs : List Rest) (d : Valof) → n ≡ first + i → i < length ws
    → to_valof address p first (map valof_of ws) n s rs ≡ go (Enter (record { address = address; first = n + 1; valofs = map valof_of (drop (i + 1) ws); frame = p }) (valof_of (get_or ws i d)).body s) (Results n ∷ rs)
unfolding branch within
valof_at address p first [] n i s rs d e h = absurd (omega arith)
valof_at address p first (w ∷ ws) n zero s rs d e h =
    let same : n ≡ first = omega arith in
    branched address p first (valof_of w) (map valof_of ws) n s rs
    ∙ (ap (branch address p first (valof_of w) (map valof_of ws) n s rs) (eq-eqb n first same)
    ∙ ap (λ k. within address p (k + 1) n (map valof_of ws) (valof_of w) s rs) (sym same))
valof_at address p first (w ∷ ws) n (suc i) s rs d e h =
    let more : suc i + 1 ≡ suc (i + 1) = omega arith in
    branched address p first (valof_of w) (map valof_of ws) n s rs
    ∙ (ap (branch address p first (valof_of w) (map valof_of ws) n s rs) (apart n first (λ q. omega (arith, e, q)))
    ∙ (valof_at address p (first + 1) ws n i s rs d (omega arith) (omega arith)
    ∙ ap (λ k. within address p (n + 1) n (map valof_of (drop k (w ∷ ws))) (valof_of (get_or ws i d)) s rs) (sym more)))

-- the same among all VALOFs of a section, where those from the first one on are inside this part
pub none_before : (address : ℕ → ℕ) (p first : ℕ) (ws : List Valof) (n s : ℕ) (rs : List Rest) → n < first → to_valof address p first (map valof_of (drop first ws)) n s rs ≡ wild
none_before address p first ws n s rs h = valof_before address p first (drop first ws) n s rs h

pub none_after : (address : ℕ → ℕ) (p first : ℕ) (ws : List Valof) (n s : ℕ) (rs : List Rest) → first ≤ n → length ws ≤ n → to_valof address p first (map valof_of (drop first ws)) n s rs ≡ wild
none_after address p first ws n s rs h k =
    valof_after address p first (drop first ws) n (n - first) s rs (omega (arith, h)) (omega (arith, h, k, length-drop first ws))

-- into its body
pub valof_entered : (address : ℕ → ℕ) (p first : ℕ) (ws : List Valof) (n s next : ℕ) (v : Valof) (rs after : List Rest) (st : State) → first ≤ n → n < length ws → next ≡ n + 1 → after ≡ Results n ∷ rs
    → to_valof address p first (map valof_of (drop first ws)) n s rs st ≡ go (Enter (record { address = address; first = next; valofs = map valof_of (drop next ws); frame = p }) (block_of (get_or ws n v).body) s) after st
valof_entered address p first ws n s next v rs after st h k q a =
    let i = n - first in
    let body : ℕ → commands.Valof = λ j. valof_of (get_or ws j v) in
    let there : first + i ≡ n = omega (arith, h) in
    let onward : first + (i + 1) ≡ next = omega (arith, h, q) in
    let within = λ (f : ℕ) (vs : List Valof) (b : commands.Valof) (xs : List Rest). go (Enter (record { address = address; first = f; valofs = map valof_of vs; frame = p }) b.body s) xs st in
    ap (λ r. r st) (valof_at address p first (drop first ws) n i s rs v (omega (arith, h)) (omega (arith, h, k, length-drop first ws)))
    ∙ (ap (λ b. within (n + 1) (drop (i + 1) (drop first ws)) (valof_of b) (Results n ∷ rs)) (get_or-drop first ws i v)
    ∙ (ap (λ j. within (n + 1) (drop (i + 1) (drop first ws)) (body j) (Results n ∷ rs)) there
    ∙ (ap (λ vs. within (n + 1) vs (body n) (Results n ∷ rs)) (drop-drop (i + 1) first ws)
    ∙ (ap (λ j. within (n + 1) (drop j ws) (body n) (Results n ∷ rs)) onward
    ∙ (ap (λ f. within f (drop next ws) (body n) (Results n ∷ rs)) (sym q)
    ∙ ap (λ xs. within next (drop next ws) (body n) xs) (sym a))))))
