-- FOR, lists and blocks.
use Rattle.std.proofs.Common.{◌≡◌, ℕ, ◌+◌, ◌≤◌, Bool, true, false, List, [], ◌∷◌, ◌++◌, length, Option, Some, refl, sym, ap, ◌∙◌, subst, arith}
use Rattle.std.specs.Prelude.{nat_lt, nat_le, ◌==◌, ◌&&◌}
use Rattle.std.proofs.lemmas.Bool.{eq-eqb, cond-true}
use Rattle.bc_core.specs.Tree.{Exp}
use Rattle.bc_core.specs.Level.{cells_declared}
use Rattle.bc_core.specs.Commands.{Variable, Command, Block, block, Items, For, command}
use Rattle.bc_core.specs.View.{declarations}
use Rattle.bc_core.specs.WellFormed.{has, labels_of}
use Rattle.bc_core.specs.declared.command.Declaration.{Declaration}
use Rattle.bc_tame.specs.Tame as tame
use Rattle.bc_tame.specs.Tame.{Held, AnyWord, Env, Knows, Exits, held_between, if_bounds, bounds_of, counted, fills, filled_between, filled, has_no_entry, learned, and_also, and_where, and_declared, in_list, in_a_loop, no_exits}
use Rattle.bc_tame.specs.Tame.{tame_exp, tame_declarations, tame_items, tame_block, tame_command, tame_filling}
use Rattle.bc_tame_check.specs.declared.at.At.{At}
use Rattle.bc_tame_check.specs.declared.held.Bounds.{Bounds}
use Rattle.bc_tame_check.specs.declared.held.Entry.{Entry}
use Rattle.bc_tame_check.specs.Views.{bounds_in, set_over, env_at, reads_at, exits_at, IsLearned, FillsCells, IsFilling}
use Rattle.bc_tame_check.specs.Passes.{round_passes, plain_passes, rounds_pass, closed_passes, block_passes, block_passes_as, CommandPasses, ItemPasses}
use Rattle.bc_tame_check.proofs.Tests.{and_true, most_true}
use Rattle.bc_tame_check.proofs.Labels.{all_added}

either_first : (a b : Bool) → a ≡ true → elim a as (λ z. Bool) [ true ↦ true | false ↦ b ] ≡ true
either_first a b e = ap (λ t. elim t as (λ z. Bool) [ true ↦ true | false ↦ b ]) e

either_second : (a b : Bool) → b ≡ true → elim a as (λ z. Bool) [ true ↦ true | false ↦ b ] ≡ true
either_second true b e = refl
either_second false b e = e

-- a FOR whose variable holds this
pub round_true : (E : Env) (R S : Knows) (J : Exits) (h : Held) (b : Block) (s above : ℕ) → above ≡ s + 2 → S ≡ and_also s h R → tame_block E S J b above ≡ true → tame_block E (and_also s h R) J b (s + 2) ≡ true
round_true E R S J h b s above e set body = subst (λ n. tame_block E (and_also s h R) J b n ≡ true) e (subst (λ U. tame_block E U J b above ≡ true) set body)

pub limit_true : (E : Env) (R S : Knows) (h : Held) (x : Exp) (s above : ℕ) → above ≡ s + 2 → S ≡ and_also s h R → tame_exp E S x above ≡ true → tame_exp E (and_also s h R) x (s + 2) ≡ true
limit_true E R S h x s above e set pass = subst (λ n. tame_exp E (and_also s h R) x n ≡ true) e (subst (λ U. tame_exp E U x above ≡ true) set pass)

pub plain_true : (at : At) (start limit : Exp) (b : Block) (above : ℕ) → above ≡ at.level + 2 → tame_exp (env_at at) (reads_at at) start above ≡ true
    → tame_exp (env_at at) (and_also at.level AnyWord (reads_at at)) limit (at.level + 2) ≡ true → round_passes at AnyWord b ≡ true → plain_passes at start limit b ≡ true
plain_true at start limit b above e first last body =
    and_true _ _ (subst (λ n. tame_exp (env_at at) (reads_at at) start n ≡ true) e first) (and_true _ _ last body)

pub counted_true : (at : At) (i : Bounds) (start limit : Exp) (b : Block) → round_passes at (held_between (bounds_in i)) b ≡ true → rounds_pass at (Some (bounds_in i)) start limit b ≡ true
counted_true at i start limit b h = either_first (round_passes at (held_between (bounds_in i)) b) (plain_passes at start limit b) h

pub uncounted_true : (at : At) (o : Option tame.Bounds) (start limit : Exp) (b : Block) → plain_passes at start limit b ≡ true → rounds_pass at o start limit b ≡ true
uncounted_true at o start limit b h = either_second (if_bounds o (λ i. round_passes at (held_between i) b)) (plain_passes at start limit b) h

pub counts_found : (R : Knows) (start limit : Exp) (by : ℕ) (a b r : Option tame.Bounds) → a ≡ bounds_of R start → b ≡ bounds_of R limit → r ≡ counted a b by → r ≡ counted (bounds_of R start) (bounds_of R limit) by
counts_found R start limit by a b r e f g = g ∙ (λ i. counted (e i) (f i) by)

pub for_true : (E : Env) (R : Knows) (J : Exits) (start limit : Exp) (by : ℕ) (b : Block) (s above : ℕ) (o : Option tame.Bounds)
    → above ≡ s + 2 → above ≤ E.size → nat_lt by 65536 ≡ true → o ≡ counted (bounds_of R start) (bounds_of R limit) by
    → elim (if_bounds o (λ i. tame_block E (and_also s (held_between i) R) (in_a_loop J) b (s + 2))) as (λ z. Bool) [
      | true ↦ true
      | false ↦ tame_exp E R start (s + 2) && (tame_exp E (and_also s AnyWord R) limit (s + 2) && tame_block E (and_also s AnyWord R) (in_a_loop J) b (s + 2))
    ] ≡ true
    → tame_command E R J (For start limit by b) s ≡ true
for_true E R J start limit by b s above o e fits word counts pass =
    and_true _ _ (most_true (s + 2) E.size (subst (λ n. n ≤ E.size) e fits))
    (and_true _ _ word
    (ap (λ c. elim (if_bounds c (λ i. tame_block E (and_also s (held_between i) R) (in_a_loop J) b (s + 2))) as (λ z. Bool) [
      | true ↦ true
      | false ↦ tame_exp E R start (s + 2) && (tame_exp E (and_also s AnyWord R) limit (s + 2) && tame_block E (and_also s AnyWord R) (in_a_loop J) b (s + 2))
    ]) (sym counts) ∙ pass))

-- a FOR that fills cells
pub closed_true : (E : Env) (S : Knows) (b : Block) (s above : ℕ) → above ≡ s + 2 → above ≤ E.size → tame_block E S no_exits b (s + 2) ≡ true
    → (nat_le (s + 2) E.size && tame_block E S no_exits b (s + 2)) ≡ true
closed_true E S b s above e fits pass = and_true _ _ (most_true (s + 2) E.size (subst (λ n. n ≤ E.size) e fits)) pass

cells_known : (at : At) (c : Command) (more : List Entry) → set_over (reads_at at) more ≡ filled (reads_at at) c at.level → FillsCells at c more
cells_known at c [] h = tt
cells_known at c (e ∷ more) h = h

pub filled_found : (at : At) (start limit : Exp) (by : ℕ) (ds : List Declaration) (is : Items) (a b : Bounds) (t : Bool) (more : List Entry)
    → length ds ≡ 0 → t ≡ has_no_entry is → t ≡ true → Some (bounds_in a) ≡ bounds_of (reads_at at) start → Some (bounds_in b) ≡ bounds_of (reads_at at) limit
    → set_over (reads_at at) more ≡ and_where (fills (reads_at at) at.level a.greatest b.least is) AnyWord (reads_at at)
    → FillsCells at (For start limit by (block (declarations ds) is)) more
filled_found at start limit by [] is a b t more none unentered sure first last set =
    cells_known at (For start limit by (block [] is)) more
    (set
    ∙ ((λ i. filled_between (reads_at at) at.level is (first i) (last i))
    ∙ sym (cond-true (has_no_entry is) (filled_between (reads_at at) at.level is (bounds_of (reads_at at) start) (bounds_of (reads_at at) limit)) (reads_at at) (sym unentered ∙ sure))))
filled_found at start limit by (d ∷ ds) is a b t more none unentered sure first last set = absurd (omega arith)

some_known : (at : At) (c : Command) (more : List Entry) → ((length more ≡ 0) → ⊥) → FillsCells at c more → set_over (reads_at at) more ≡ filled (reads_at at) c at.level
some_known at c [] some h = absurd (some refl)
some_known at c (e ∷ more) some h = h

pub filling_true : (at : At) (start limit : Exp) (by : ℕ) (b : Block) (all : Bounds) (more : List Entry) → by ≡ 1 → FillsCells at (For start limit by b) more → ((length more ≡ 0) → ⊥)
    → Some (bounds_in all) ≡ counted (bounds_of (reads_at at) start) (bounds_of (reads_at at) limit) by → closed_passes at (bounds_in all) b ≡ true → IsFilling at (For start limit by b) more
filling_true at start limit by b all more one fills some counts pass =
    let E : Env = env_at at in
    let R : Knows = reads_at at in
    let s : ℕ = at.level in (
      and_true (by == 1) _ (eq-eqb by 1 one) (ap (λ c. nat_le (s + 2) E.size && if_bounds c (λ i. tame_block E (and_also s (held_between i) R) no_exits b (s + 2))) (sym counts) ∙ pass),
      some_known at (For start limit by b) more some fills,
    )

-- a command of a list
pub plain_next : (at : At) (c : Command) (rest : Items) (more : List Entry) → CommandPasses at c → IsLearned at c rest more → ItemPasses at (command c rest) rest more
plain_next at c rest more pass learns h =
    either_second _ _ (and_true (tame_command (env_at at) (reads_at at) (exits_at at) c at.level) _ pass (subst (λ S. tame_items (env_at at) S (exits_at at) rest at.level ≡ true) learns h))

pub filling_next : (at : At) (c : Command) (rest : Items) (more : List Entry) (t : Bool) → t ≡ has_no_entry rest → t ≡ true → IsFilling at c more → ItemPasses at (command c rest) rest more
filling_next at c rest more t unentered sure fills h =
    either_first _ _
    (ap (λ z. elim z as (λ w. Bool) [ true ↦ tame_items (env_at at) (filled (reads_at at) c at.level) (exits_at at) rest at.level | false ↦ false ])
    (and_true (has_no_entry rest) (tame_filling (env_at at) (reads_at at) c at.level) (sym unentered ∙ sure) fills.0)
    ∙ subst (λ S. tame_items (env_at at) S (exits_at at) rest at.level ≡ true) fills.1 h)

pub list_true : (E : Env) (R : Knows) (in_loop in_cases in_valof may_return : Bool) (is js : Items) (ls outer : List ℕ) (s : ℕ) → ls ≡ labels_of is ++ outer
    → tame_items E R (record { in_loop = in_loop; in_cases = in_cases; in_valof = in_valof; may_return = may_return; labels = has ls }) js s ≡ true
    → tame_items E R (in_list is (record { in_loop = in_loop; in_cases = in_cases; in_valof = in_valof; may_return = may_return; labels = has outer })) js s ≡ true
list_true E R in_loop in_cases in_valof may_return is js ls outer s e h =
    subst (λ f. tame_items E R (record { in_loop = in_loop; in_cases = in_cases; in_valof = in_valof; may_return = may_return; labels = f }) js s ≡ true) (all_added is outer)
    (subst (λ xs. tame_items E R (record { in_loop = in_loop; in_cases = in_cases; in_valof = in_valof; may_return = may_return; labels = has xs }) js s ≡ true) e h)

-- a block
pub block_true : (at : At) (kept : Bool) (S : Knows) (ds : List (List Variable)) (is : Items) (above : ℕ)
    → tame_declarations (env_at at) kept (reads_at at) ds at.level ≡ true → S ≡ and_declared (env_at at) kept ds at.level (reads_at at) → above ≡ at.level + cells_declared ds
    → tame_items (env_at at) S (in_list is (exits_at at)) is above ≡ true → block_passes_as at kept (block ds is) ≡ true
block_true at kept S ds is above declared set e listed =
    and_true _ _ declared
    (subst (λ n. tame_items (env_at at) (and_declared (env_at at) kept ds at.level (reads_at at)) (in_list is (exits_at at)) is n ≡ true) e
    (subst (λ U. tame_items (env_at at) U (in_list is (exits_at at)) is above ≡ true) set listed))

pub kept_true : (at : At) (b : Block) → block_passes_as at true b ≡ true → block_passes at b ≡ true
kept_true at (block ds is) h = either_first (block_passes_as at true (block ds is)) (block_passes_as at false (block ds is)) h

pub assigned_true : (at : At) (b : Block) → block_passes_as at false b ≡ true → block_passes at b ≡ true
assigned_true at (block ds is) h = either_second (block_passes_as at true (block ds is)) (block_passes_as at false (block ds is)) h
