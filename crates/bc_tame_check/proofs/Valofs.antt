-- The VALOF with a number passes if its body does.
use Rattle.std.proofs.Common.{◌≡◌, ℕ, zero, suc, ◌+◌, ◌-◌, take, ◌<◌, ◌==◌, Bool, true, false, inl, inr, List, [], ◌∷◌, length, drop, get_or, map, sym, ap, ◌∙◌, arith}
use Rattle.std.proofs.lemmas.Bool.{eq-eqb}
use Rattle.std.proofs.lemmas.List.{take_rest}
use Rattle.std.proofs.lemmas.Bool.Decides.{eqb_tells}
use Rattle.bc_core.specs.Commands.{Block}
use Rattle.bc_core.specs.View.{valof_of, block_of}
use Rattle.bc_core.specs.declared.command.Valof.{Valof}
use Rattle.bc_tame.specs.Tame.{Env, Knows, in_valof, with_valofs, tame_valofs, tame_block}
use Rattle.bc_tame_check.specs.Passes.{ValofPasses}

apart : (a b : ℕ) → ((a ≡ b) → ⊥) → (a == b) ≡ false
apart a b h = elim (eqb_tells a b) [ inl e ↦ absurd (h e.1) | inr e ↦ e.0 ]

at_number : (E : Env) (R : Knows) (first : ℕ) (ws : List Valof) (n i s : ℕ) (d : Valof) → n ≡ first + i → i < length ws
    → tame_valofs E first (map valof_of ws) n s R ≡ tame_block (with_valofs E (tame_valofs E (n + 1) (map valof_of (drop (i + 1) ws)))) R in_valof (block_of (get_or ws i d).body) s
at_number E R first [] n i s d e h = absurd (omega arith)
at_number E R first (w ∷ ws) n zero s d e h =
    let same : n ≡ first = omega arith in
    ap (λ t. elim t as (λ z. Bool) [ true ↦ tame_block (with_valofs E (tame_valofs E (first + 1) (map valof_of ws))) R in_valof (block_of w.body) s | false ↦ tame_valofs E (first + 1) (map valof_of ws) n s R ]) (eq-eqb n first same)
    ∙ ap (λ k. tame_block (with_valofs E (tame_valofs E (k + 1) (map valof_of ws))) R in_valof (block_of w.body) s) (sym same)
at_number E R first (w ∷ ws) n (suc i) s d e h =
    let more : suc i + 1 ≡ suc (i + 1) = omega arith in
    ap (λ t. elim t as (λ z. Bool) [ true ↦ tame_block (with_valofs E (tame_valofs E (first + 1) (map valof_of ws))) R in_valof (block_of w.body) s | false ↦ tame_valofs E (first + 1) (map valof_of ws) n s R ]) (apart n first (λ q. omega (arith, e, q)))
    ∙ (at_number E R (first + 1) ws n i s d (omega arith) (omega arith)
    ∙ ap (λ k. tame_block (with_valofs E (tame_valofs E (n + 1) (map valof_of (drop k (w ∷ ws))))) R in_valof (block_of (get_or ws i d).body) s) (sym more))

pub valof_passing : (E : Env) (R : Knows) (b : Block) (s : ℕ) → tame_block E R in_valof b s ≡ true → ValofPasses E R b s
unfolding ValofPasses
valof_passing E R b s h = h

pub valof_true : (E : Env) (R : Knows) (first : ℕ) (ws : List Valof) (n i s next : ℕ) (v : Valof) → n ≡ first + i → i < length ws → next ≡ n + 1
    → ValofPasses (with_valofs E (tame_valofs E next (map valof_of (take (length ws - (i + 1)) (drop (i + 1) ws))))) R (block_of (get_or ws i v).body) s
    → tame_valofs E first (map valof_of ws) n s R ≡ true
unfolding ValofPasses
valof_true E R first ws n i s next v e h q passes =
    let body = block_of (get_or ws i v).body in
    at_number E R first ws n i s v e h
    ∙ (ap (λ xs. tame_block (with_valofs E (tame_valofs E (n + 1) (map valof_of xs))) R in_valof body s) (sym (take_rest ws (i + 1)))
    ∙ (ap (λ k. tame_block (with_valofs E (tame_valofs E k (map valof_of (take (length ws - (i + 1)) (drop (i + 1) ws))))) R in_valof body s) (sym q) ∙ passes))
