-- The law's premises can be met, whatever is chosen: if all calls and VALOFs are wild; and, by the law itself, if a VALOF is the code
-- of 7 before its label.
use Rattle.std.proofs.Common.{◌≡◌, ℕ, ◌+◌, [], ◌∷◌, refl, subst, arith}
use Rattle.bc_text_items.specs.declared.item.Item.{Item}
use Rattle.bc_text_items.specs.declared.item.Item.TheVariants.{Label}
use Rattle.bc_core.specs.Tree.{Num, Value}
use Rattle.bc_core.specs.Layout.{Bodies}
use Rattle.bc_core.specs.Outcome.{wild}
use Rattle.bc_core.specs.Value.{Context, value}
use Rattle.bc_rules_defs.specs.declared.rule.Table.{Table}
use Rattle.bc_gen_defs.specs.Bodies.{Choice, BodiesCode, coding_of, over}
use Rattle.bc_right.specs.steps.Landing.{Moment, Does}
use Rattle.bc_right.specs.steps.Goals.{value_goal}
use Rattle.bc_right.specs.steps.Premises.{CallLands, ValofsLand, RootsLand}
use Rattle.bc_right.proofs.step_lemmas.Steps.{parts, after_label, at_end}
use Rattle.bc_right.specs.rules.Examples.{alone, no_body}
use Rattle.bc_right.proofs.rule_lemmas.Derivations.{derivations_are_right}

abbrev no_cell : Bodies
no_cell n s = s

abbrev seven : Context
seven = record alone { valof = λ n p s. value alone (Num 7) p s }

module _ (T : Table) (choice : Choice T) (levels : ℕ → ℕ) (S : Moment) (most : ℕ) where
  wild_calls : (v : ℕ) → CallLands S most v (λ vs f. wild)
  wild_calls v = record { from = λ K later address O x t p s b c end limit vs store st stands has room few reached. tt }

  wild_valofs : ValofsLand (λ l. l) levels S most no_cell no_body alone.valof
  wild_valofs = record { from = λ K later n p l first a c end limit stands room. record { from = λ O x t b store st few reached. tt } }

  pub alone_lands : RootsLand alone (λ l. l) levels no_cell S most (over (coding_of choice) levels no_body)
  alone_lands = (derivations_are_right T choice (λ l. l) levels S).from most alone no_cell no_body (λ l. refl) wild_calls wild_valofs

  abbrev sevens : BodiesCode Item
  sevens n s l f = over (coding_of choice) levels no_body (Value s (Num 7)) 0 f

  valofs_land : ValofsLand (λ l. l) levels S most no_cell sevens seven.valof
  valofs_land = record {
    from = λ K later n p l first a c end limit stands room.
        let q = parts (sevens n (levels n) l first).0 (Label l ∷ []) stands in
        let ends : q.middle ≡ end = at_end (after_label q.back) in
        subst (λ z. Does K most (p + levels n) p limit a c (value_goal z) (value alone (Num 7) p (levels n))) ends
        (alone_lands.gives K later (Num 7) p (levels n) first a c q.middle limit q.front (omega (arith, room)) tt);
  }

  pub sevens_land : RootsLand seven (λ l. l) levels no_cell S most (over (coding_of choice) levels sevens)
  sevens_land = (derivations_are_right T choice (λ l. l) levels S).from most seven no_cell sevens (λ l. refl) wild_calls valofs_land
