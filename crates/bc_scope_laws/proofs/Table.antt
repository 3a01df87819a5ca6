-- The table of the VALOFs that are found does what each of them does.
use Rattle.std.proofs.Common.{◌≡◌, ◌∙◌, ℕ, ◌+◌, ◌<◌, ◌==◌, Bool, true, false, List, [], ◌∷◌, sym, ap, subst, arith, append-nil}
use Rattle.bc_core.specs.Outcome.{Run, then_do}
use Rattle.bc_core.specs.Command.{perform_block}
use Rattle.bc_core.specs.Meaning.{valof_value, valofs_from}
use Rattle.bc_scope_defs.specs.Meaning.{Around}
use Rattle.bc_scope_defs.specs.Found.{Found, Thing, AValof, ARoutine, Data}
use Rattle.bc_scope_defs.specs.Translation.{valof_of, valofs_of}
use Rattle.bc_scope_laws.specs.Laws.{ExpressionsKeepTheirMeaning, CommandsKeepTheirMeaning}
use Rattle.bc_scope_defs.specs.Found.{found, found_in_command}
use Rattle.bc_scope_laws.proofs.Forms.{in_context}
use Rattle.bc_scope_laws.proofs.Numbered.{Nested, body_of, nested, nested_command}
use Rattle.bc_scope_laws.proofs.Main.{Bodies, AllRight, first, block_means, exp_means, command_means}

abbrev pub table : Around → ℕ → List Thing → Bodies
table A n fs = valofs_from A.place A.call n (valofs_of fs)

pub same_number : (n m : ℕ) → m ≡ n → (m == n) ≡ true
same_number n m e = grind arith

pub other_number : (n m : ℕ) → n < m → (m == n) ≡ false
other_number n m l = grind arith

-- the same is right further up in a table
lifted : (A : Around) (p n m q : ℕ) (f : Found) (fs gs : List Thing) → n < m → Nested m q gs → AllRight A (table A (n + 1) fs) p gs → AllRight A (table A n (AValof f ∷ fs)) p gs
lifted A p n m q f fs [] l h r = tt
lifted A p n m q f fs (ARoutine g ∷ gs) l h r = lifted A p n m (q + 1) f fs gs l h.1 r
lifted A p n m q f fs (Data x g ∷ gs) l h r = lifted A p n m (q + 1) f fs gs l h.0 r
lifted A p n m q f fs (AValof g ∷ gs) l h r = (
  ap (λ (b : Bool). elim b [ true ↦ then_do (perform_block (in_context A (table A (n + 1) fs)) (valof_of f).body p g.level) valof_value | false ↦ table A (n + 1) fs g.number p g.level ]) (other_number n g.number (subst (λ k. n < k) (sym h.0) l)) ∙ r.0,
  lifted A p n (m + 1) q f fs gs (omega arith) h.2 r.1,
)

pub table_right : (A : Around) (p n q : ℕ) (fs : List Thing) → Nested n q fs → AllRight A (table A n fs) p fs
table_right A p n q [] h = tt
table_right A p n q (ARoutine f ∷ fs) h = table_right A p n (q + 1) fs h.1
table_right A p n q (Data x d ∷ fs) h = table_right A p n (q + 1) fs h.0
table_right A p n q (AValof f ∷ fs) h =
    let inner = table A (n + 1) fs in
    let rest = table_right A p (n + 1) q fs h.2 in
    let of_body = first A inner p (body_of f) h.1.0 (subst (λ gs. AllRight A inner p gs) h.1.1 rest) in (
      ap (λ (b : Bool). elim b [ true ↦ then_do (perform_block (in_context A inner) (valof_of f).body p f.level) valof_value | false ↦ inner f.number p f.level ]) (same_number n f.number h.0)
          ∙ ap (λ (r : Run _). then_do r valof_value) (sym (block_means A inner p f.names f.numbers f.body f.level of_body)),
      lifted A p n (n + 1) q f fs fs (omega arith) h.2 rest,
    )

pub expressions_keep : ExpressionsKeepTheirMeaning
expressions_keep A E at e p s =
    let h = subst (λ fs. Nested at.valof at.place fs) (append-nil (found E at e s)) ((nested E at e s).before [] tt) in
    λ i. (exp_means A (table A at.valof (found E at e s)) p E at e s (table_right A p at.valof at.place (found E at e s) h) i).content

pub commands_keep : CommandsKeepTheirMeaning
commands_keep A E at c p s =
    let h = subst (λ fs. Nested at.valof at.place fs) (append-nil (found_in_command E at c s)) ((nested_command E at c s).before [] tt) in
    command_means A (table A at.valof (found_in_command E at c s)) p E at c s (table_right A p at.valof at.place (found_in_command E at c s) h)
