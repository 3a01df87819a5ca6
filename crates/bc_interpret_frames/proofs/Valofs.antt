-- The VALOF with a number: the cells that its body takes, and its weight.
use Rattle.std.proofs.Common.{◌≡◌, ℕ, zero, suc, ◌+◌, ◌-◌, take, ◌<◌, ◌≤◌, ◌==◌, max, Bool, true, false, inl, inr, List, [], ◌∷◌, length, drop, get_or, map, refl, sym, ap, ◌∙◌, arith}
use Rattle.std.proofs.lemmas.Bool.{eq-eqb}
use Rattle.std.proofs.lemmas.List.{take_rest}
use Rattle.std.proofs.lemmas.Bool.Decides.{eqb_tells}
use Rattle.bc_core.specs.View.{valof_of, block_of}
use Rattle.bc_core.specs.Commands as commands
use Rattle.bc_core.specs.Layout.{cells_of_block, cells_of_valofs}
use Rattle.bc_core.specs.declared.command.Valof.{Valof}
use Rattle.bc_interpret_defs.specs.Weight.{weight_of_block, weight_of_valof}
use Rattle.bc_interpret_frames.specs.declared.part.Construct.{Construct}
use Rattle.bc_interpret_frames.specs.Parts.{greatest, weight_of_all, Expanded}
use Rattle.bc_interpret_frames.proofs.Waits.{one_waits}

apart : (a b : ℕ) → ((a ≡ b) → ⊥) → (a == b) ≡ false
apart a b h = elim (eqb_tells a b) [ inl e ↦ absurd (h e.1) | inr e ↦ e.0 ]

-- the cells
cells_branch : (first : ℕ) → commands.Valof → List commands.Valof → (n s : ℕ) → Bool → ℕ
cells_branch first v vs n s true = cells_of_block (cells_of_valofs (first + 1) vs) v.body s
cells_branch first v vs n s false = cells_of_valofs (first + 1) vs n s

cells_branched : (first : ℕ) (v : commands.Valof) (vs : List commands.Valof) (n s : ℕ) → cells_of_valofs first (v ∷ vs) n s ≡ cells_branch first v vs n s (n == first)
unfolding cells_branch
cells_branched first v vs n s =
    elim (n == first) as (λ t. elim t as (λ u. ℕ) [ true ↦ cells_of_block (cells_of_valofs (first + 1) vs) v.body s | false ↦ cells_of_valofs (first + 1) vs n s ] ≡ cells_branch first v vs n s t) [ true ↦ refl | false ↦ refl ]

pub cells_before : (first : ℕ) (ws : List Valof) (n s : ℕ) → n < first → cells_of_valofs first (map valof_of ws) n s ≡ 0
unfolding cells_branch
cells_before first [] n s h = refl
cells_before first (w ∷ ws) n s h =
    cells_branched first (valof_of w) (map valof_of ws) n s
    ∙ (ap (cells_branch first (valof_of w) (map valof_of ws) n s) (apart n first (λ e. omega (arith, e)))
    ∙ onwards (cells_before (first + 1) ws n s (omega arith))) where
      onwards : cells_of_valofs (first + 1) (map valof_of ws) n s ≡ 0 → cells_branch first (valof_of w) (map valof_of ws) n s false ≡ 0
      onwards e = e

pub cells_after : (first : ℕ) (ws : List Valof) (n i s : ℕ) → n ≡ first + i → length ws ≤ i → cells_of_valofs first (map valof_of ws) n s ≡ 0
unfolding cells_branch
cells_after first [] n i s e h = refl
cells_after first (w ∷ ws) n zero s e h = absurd (omega arith)
cells_after first (w ∷ ws) n (suc i) s e h =
    cells_branched first (valof_of w) (map valof_of ws) n s
    ∙ (ap (cells_branch first (valof_of w) (map valof_of ws) n s) (apart n first (λ q. omega (arith, e, q)))
    ∙ onwards (cells_after (first + 1) ws n i s (omega arith) (omega arith))) where
      onwards : cells_of_valofs (first + 1) (map valof_of ws) n s ≡ 0 → cells_branch first (valof_of w) (map valof_of ws) n s false ≡ 0
      onwards q = q

pub cells_at : (first : ℕ) (ws : List Valof) (n i s : ℕ) (d : Valof) → n ≡ first + i → i < length ws
    → cells_of_valofs first (map valof_of ws) n s ≡ cells_of_block (cells_of_valofs (n + 1) (map valof_of (drop (i + 1) ws))) (valof_of (get_or ws i d)).body s
unfolding cells_branch
cells_at first [] n i s d e h = absurd (omega arith)
cells_at first (w ∷ ws) n zero s d e h =
    let same : n ≡ first = omega arith in
    cells_branched first (valof_of w) (map valof_of ws) n s
    ∙ (ap (cells_branch first (valof_of w) (map valof_of ws) n s) (eq-eqb n first same)
    ∙ ap (λ k. cells_of_block (cells_of_valofs (k + 1) (map valof_of ws)) (valof_of w).body s) (sym same))
cells_at first (w ∷ ws) n (suc i) s d e h =
    let more : suc i + 1 ≡ suc (i + 1) = omega arith in
    cells_branched first (valof_of w) (map valof_of ws) n s
    ∙ (ap (cells_branch first (valof_of w) (map valof_of ws) n s) (apart n first (λ q. omega (arith, e, q)))
    ∙ (cells_at (first + 1) ws n i s d (omega arith) (omega arith)
    ∙ ap (λ k. cells_of_block (cells_of_valofs (n + 1) (map valof_of (drop k (w ∷ ws)))) (valof_of (get_or ws i d)).body s) (sym more)))

-- the weight
weight_branch : (first : ℕ) → commands.Valof → List commands.Valof → (n : ℕ) → Bool → ℕ
weight_branch first v vs n true = weight_of_block (weight_of_valof (first + 1) vs) v.body + 2
weight_branch first v vs n false = weight_of_valof (first + 1) vs n

weight_branched : (first : ℕ) (v : commands.Valof) (vs : List commands.Valof) (n : ℕ) → weight_of_valof first (v ∷ vs) n ≡ weight_branch first v vs n (n == first)
unfolding weight_branch
weight_branched first v vs n =
    elim (n == first) as (λ t. elim t as (λ u. ℕ) [ true ↦ weight_of_block (weight_of_valof (first + 1) vs) v.body + 2 | false ↦ weight_of_valof (first + 1) vs n ] ≡ weight_branch first v vs n t) [ true ↦ refl | false ↦ refl ]

pub weight_at : (first : ℕ) (ws : List Valof) (n i : ℕ) (d : Valof) → n ≡ first + i → i < length ws
    → weight_of_valof first (map valof_of ws) n ≡ weight_of_block (weight_of_valof (n + 1) (map valof_of (drop (i + 1) ws))) (valof_of (get_or ws i d)).body + 2
unfolding weight_branch
weight_at first [] n i d e h = absurd (omega arith)
weight_at first (w ∷ ws) n zero d e h =
    let same : n ≡ first = omega arith in
    weight_branched first (valof_of w) (map valof_of ws) n
    ∙ (ap (weight_branch first (valof_of w) (map valof_of ws) n) (eq-eqb n first same)
    ∙ ap (λ k. weight_of_block (weight_of_valof (k + 1) (map valof_of ws)) (valof_of w).body + 2) (sym same))
weight_at first (w ∷ ws) n (suc i) d e h =
    let more : suc i + 1 ≡ suc (i + 1) = omega arith in
    weight_branched first (valof_of w) (map valof_of ws) n
    ∙ (ap (weight_branch first (valof_of w) (map valof_of ws) n) (apart n first (λ q. omega (arith, e, q)))
    ∙ (weight_at (first + 1) ws n i d (omega arith) (omega arith)
    ∙ ap (λ k. weight_of_block (weight_of_valof (n + 1) (map valof_of (drop k (w ∷ ws)))) (valof_of (get_or ws i d)).body + 2) (sym more)))

-- expanding it to its body
pub valof_waits : (first : ℕ) (ws : List Valof) (n i s next : ℕ) (v : Valof) (old new : List Construct) → n ≡ first + i → i < length ws → next ≡ n + 1
    → greatest new ≡ max (cells_of_block (cells_of_valofs next (map valof_of (take (length ws - (i + 1)) (drop (i + 1) ws)))) (block_of (get_or ws i v).body) s) (greatest old)
    → weight_of_all new ≡ weight_of_block (weight_of_valof next (map valof_of (take (length ws - (i + 1)) (drop (i + 1) ws)))) (block_of (get_or ws i v).body) + 1 + weight_of_all old
    → Expanded 0 (cells_of_valofs first (map valof_of ws) n s) (weight_of_valof first (map valof_of ws) n) old new
valof_waits first ws n i s next v old new e h q g w =
    let left = take (length ws - (i + 1)) (drop (i + 1) ws) in
    let body = block_of (get_or ws i v).body in
    let cells : cells_of_valofs first (map valof_of ws) n s ≡ cells_of_block (cells_of_valofs next (map valof_of left)) body s =
    cells_at first ws n i s v e h
    ∙ (ap (λ xs. cells_of_block (cells_of_valofs (n + 1) (map valof_of xs)) body s) (sym (take_rest ws (i + 1))) ∙ ap (λ k. cells_of_block (cells_of_valofs k (map valof_of left)) body s) (sym q)) in
    let weight : weight_of_valof first (map valof_of ws) n ≡ weight_of_block (weight_of_valof next (map valof_of left)) body + 2 =
    weight_at first ws n i v e h
    ∙ (ap (λ xs. weight_of_block (weight_of_valof (n + 1) (map valof_of xs)) body + 2) (sym (take_rest ws (i + 1))) ∙ ap (λ k. weight_of_block (weight_of_valof k (map valof_of left)) body + 2) (sym q)) in
    one_waits 0 (cells_of_valofs first (map valof_of ws) n s) (weight_of_valof first (map valof_of ws) n) (cells_of_block (cells_of_valofs next (map valof_of left)) body s) (weight_of_block (weight_of_valof next (map valof_of left)) body) old new g w
    (omega arith) (omega arith)
