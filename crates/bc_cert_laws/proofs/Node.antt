-- A node line with true trees as its parts: its own tree is true, or no derivation of least words has its rules.
use Rattle.std.proofs.Common.{◌≡◌, ℕ, Bool, true, false, cond, Option, Some, Result, Ok, Err, List, [], ◌∷◌, ◌++◌, map, inl, inr, refl, ap, sym, subst, ◌∙◌}
use Rattle.std.specs.Prelude.{◌&&◌, ◌||◌}
use Rattle.std.proofs.lemmas.Bool.{and_from, or_cases, or_left, or_right}
use Rattle.bc_core.specs.Tree.{Exp}
use Rattle.bc_cert_defs.specs.declared.check_fault.CheckFault.{CheckFault}
use Rattle.bc_cert_defs.specs.declared.check_fault.CheckFault.TheVariants.{WrongRule}
use Rattle.bc_rules_defs.specs.declared.rule.Table.{Table}
use Rattle.bc_rules_defs.specs.declared.rule.Mode.TheVariants.{Any, Push}
use Rattle.bc_rules_defs.specs.declared.rule.Aim.{Aim}
use Rattle.bc_rules_defs.specs.declared.rule.Aim.TheVariants.{Gets, Jumps}
use Rattle.bc_rules_defs.specs.declared.rule.Rule.{Rule}
use Rattle.bc_rules_defs.specs.declared.rule.Rule.TheVariants.{V0, J6}
use Rattle.bc_rules_defs.specs.Rules.{Derives, Tree, shape}
use Rattle.bc_cert_defs.specs.declared.costs.Costs.{Costs}
use Rattle.bc_cert_read.specs.declared.facts.Facts.{Facts}
use Rattle.bc_cert_read.specs.declared.form.Form.{Form}
use Rattle.bc_cert_read.specs.Recipe.{facts_of}
use Rattle.bc_cert_read.specs.Parts.{AreLeast}
use Rattle.bc_cert_read.specs.declared.chain.Chain.{Chain}
use Rattle.bc_cert_read.specs.declared.chain.Rules.{Rules}
use Rattle.bc_cert_read.specs.declared.chain.Rules.TheVariants.{Taken, Named}
use Rattle.bc_cert_read.specs.declared.lines.NodeLine.{NodeLine}
use Rattle.bc_rules_defs.specs.Names.{rule_named}
use Rattle.bc_cert_read.specs.declared.mark.TreeFacts.{TreeFacts}
use Rattle.bc_cert_read.specs.declared.mark.Shown as marks
use Rattle.bc_cert_read.specs.declared.position.Position.{Position}
use Rattle.bc_cert_read.specs.Marks.{has_aim, is_some, levels_fit, depth_over, all_bare}
use Rattle.bc_cert_read.specs.Derived.{derived}
use Rattle.bc_cert_read.specs.Showing.{shown_by, nothing_shown, where_some, shown_with, shown_for}
use Rattle.bc_cert_read.specs.Stacks.{second_zero, is_taken, line_node, new_mark, new_facts}
use Rattle.bc_cert_read.specs.Wholes.{whole}
use Rattle.bc_cert_write.specs.Shown.{Shown, bare, rules_at, below, shown}
use Rattle.bc_cert_write.proofs.Bare.{bare_parts, bare_is}
use Rattle.bc_cert_laws.specs.Entries.{nested}
use Rattle.bc_cert_laws.specs.Faults.{Grown, all_shown, node, grown, Name, name, StandsBy, RulesStand}
use Rattle.bc_cert_laws.specs.Standing.{over_if, chain_rules, IsChain, AreNamed, no_name, named, wrong, IsFewest, Shows, Stands, AllStand, IsOver, ShowsRules, no_rule, by_chain}
use Rattle.bc_cert_laws.proofs.Over.{Over, over_levelled, over_is}
use Rattle.bc_cert_laws.proofs.Kept.{order_is, last_is, bare_to, bare_from, depth_of, calls_of}
use Rattle.bc_cert_laws.proofs.TwoParts.{never}
use Rattle.bc_cert_laws.proofs.Others.{node_at}
use Rattle.bc_cert_laws.proofs.Chained.{tree_at, chain_of, chain_is, rules_of_chain, shows_to, shows_from}

-- names tell the rules
named_rule : Name → Option Rule
named_rule x = rule_named x.letter x.number

rule_of_name : (r : Rule) → named_rule (name r) ≡ Some r
unfolding named_rule
rule_of_name V0 = refl
rule_of_name r = refl

same_rule : (r q : Rule) → name r ≡ name q → r ≡ q
same_rule r q h = let both : ◌≡◌ {A = Option Rule} (Some r) (Some q) = sym (rule_of_name r) ∙ ap named_rule h ∙ rule_of_name q in cc

same_rules : (rs qs : List Rule) → map name rs ≡ map name qs → rs ≡ qs
same_rules [] [] h = refl
same_rules [] (q ∷ qs) h = cc
same_rules (r ∷ rs) [] h = cc
same_rules (r ∷ rs) (q ∷ qs) h =
    let first : name r ≡ name q = cc in
    let rest : map name rs ≡ map name qs = cc in
    ap (λ x. x ∷ rs) (same_rule r q first) ∙ ap (λ xs. q ∷ xs) (same_rules rs qs rest)

-- a chain has a rule
some_rule : (ch : Chain) → chain_rules ch ≡ [] → ⊥
some_rule ch h = over_none ch.is_tested ch.is_freed ch.rule h where
  over_none : (t f : Bool) (r : Rule) → over_if t J6 (over_if f V0 (r ∷ [])) ≡ [] → ⊥
  over_none true f r h = cc
  over_none false true r h = cc
  over_none false false r h = cc

-- some aim
some_aim : (sh : marks.Shown) → is_some sh ≡ true → (aim : Aim) × (has_aim sh aim ≡ true)
some_aim sh h =
    elim (or_cases (sh.any || sh.push || sh.on_false) sh.on_true h) [
      | inl i ↦ (elim (or_cases (sh.any || sh.push) sh.on_false i) [
        | inl j ↦ (elim (or_cases sh.any sh.push j) [
          | inl k ↦ (Gets Any, k)
          | inr k ↦ (Gets Push, k)
        ])
        | inr j ↦ (Jumps false, j)
      ])
      | inr i ↦ (Jumps true, i)
    ]

aim_some : (sh : marks.Shown) (aim : Aim) → has_aim sh aim ≡ true → is_some sh ≡ true
aim_some sh (Gets Any) h = or_left _ _ (or_left _ _ (or_left _ _ h))
aim_some sh (Gets Push) h = or_left _ _ (or_left _ _ (or_right sh.any _ h))
aim_some sh (Jumps false) h = or_left _ _ (or_right (sh.any || sh.push) _ h)
aim_some sh (Jumps true) h = or_right (sh.any || sh.push || sh.on_false) _ h

nothing_has : (aim : Aim) → has_aim nothing_shown aim ≡ true → ⊥
nothing_has (Gets Any) h = never h
nothing_has (Gets Push) h = never h
nothing_has (Jumps false) h = never h
nothing_has (Jumps true) h = never h

-- what is shown is some
some_shown : (s sh : marks.Shown) (p : Position) → where_some s p ≡ Ok sh → (s ≡ sh) × (is_some s ≡ true)
some_shown s sh p h = by_cases (is_some s) refl h where
  by_cases : (b : Bool) → is_some s ≡ b → ◌≡◌ {A = Result marks.Shown CheckFault} (cond b (Ok s) (Err (WrongRule p.entry p.node))) (Ok sh) → (s ≡ sh) × (is_some s ≡ true)
  by_cases true i h = (cc, i)
  by_cases false i h = cc

none_shown : (s : marks.Shown) (f : CheckFault) (p : Position) → where_some s p ≡ Err f → (f ≡ WrongRule p.entry p.node) × (is_some s ≡ false)
none_shown s f p h = by_cases (is_some s) refl h where
  by_cases : (b : Bool) → is_some s ≡ b → ◌≡◌ {A = Result marks.Shown CheckFault} (cond b (Ok s) (Err (WrongRule p.entry p.node))) (Err f) → (f ≡ WrongRule p.entry p.node) × (is_some s ≡ false)
  by_cases true i h = cc
  by_cases false i h = (cc, i)

-- rules that are those of a derivation of least words
stands_where : {T : Table} {e : Exp} {s : ℕ} {nodes : List Shown} (rules : List Rule) → RulesStand T e s nodes → StandsBy T e s rules nodes
stands_where [] h = tt
stands_where (r ∷ rs) h = h

where_stands : {T : Table} {e : Exp} {s : ℕ} {nodes : List Shown} (rules : List Rule) → ¬ (rules ≡ []) → StandsBy T e s rules nodes → RulesStand T e s nodes
where_stands [] n h = absurd (n refl)
where_stands (r ∷ rs) n h = h

module _ {T : Table} {s : ℕ} {form : Form} {ns : List Shown} {ms : List TreeFacts} {ps : List Facts} {xs : List Tree} {e : Exp} (o : Over T s form ns ms ps xs e) (c : Costs) (h : AreLeast T e s c) where
  -- the rules of a derivation that shows these
  shown_rules : (rules : List Rule) (aim : Aim) (d : Derives T e aim) → ns ++ node e s rules ∷ [] ≡ shown d s → rules ≡ chain_rules (chain_of d)
  shown_rules rules aim d k =
      let l = last_is ns (below d s) (node e s rules) (node e s (rules_at d)) k in
      ap (λ (x : Shown). x.rules) l.1 ∙ sym (rules_of_chain d)

  shows : (rs : Rules) (rules : List Rule) → ShowsRules rs rules → (p : Position) (sh : marks.Shown) → shown_with (node_at T s form e ps) ms c rs p ≡ Ok sh → (aim : Aim) → has_aim sh aim ≡ true → Shows T (tree_at e s ns rules) aim
  shows rs rules no_rule p sh g aim k = let same : nothing_shown ≡ sh = cc in absurd (nothing_has aim (ap (λ x. has_aim x aim) same ∙ k))
  shows rs rules (by_chain {c = ch} i) p sh g aim k =
      let f = some_shown (shown_by (node_at T s form e ps) ms c ch) sh p g in
      shows_to o c h ch i aim (ap (λ x. has_aim x aim) f.0 ∙ k)

  found : (rs : Rules) (rules : List Rule) → ShowsRules rs rules → (p : Position) (sh : marks.Shown) → shown_with (node_at T s form e ps) ms c rs p ≡ Ok sh → (aim : Aim) (d : Derives T e aim) → ns ++ node e s rules ∷ [] ≡ shown d s → IsFewest d s
      → (has_aim sh aim ≡ true) × (shape d ≡ derived rs (second_zero ps) xs)
  found rs rules no_rule p sh g aim d k f = absurd (some_rule (chain_of d) (sym (shown_rules [] aim d k)))
  found rs rules (by_chain {c = ch} i) p sh g aim d k f =
      let same = (some_shown (shown_by (node_at T s form e ps) ms c ch) sh p g).0 in
      let r = shows_from o c h ch aim d k f in
      (ap (λ x. has_aim x aim) (sym same) ∙ r.0, r.1)

  -- nodes without rules
  bare_tree : (rs : Rules) (rules : List Rule) → ShowsRules rs rules → is_taken rs && all_bare ms ≡ true → ns ++ node e s rules ∷ [] ≡ bare e s
  bare_tree rs rules no_rule g = ap (λ us. us ++ node e s [] ∷ []) (bare_to o g) ∙ sym (bare_is e s)
  bare_tree rs rules (by_chain i) g = never g

  tree_bare : (rs : Rules) (rules : List Rule) → ShowsRules rs rules → ns ++ node e s rules ∷ [] ≡ bare e s → is_taken rs && all_bare ms ≡ true
  tree_bare rs rules no_rule g = and_from _ _ refl (bare_from o (last_is ns (bare_parts e s) (node e s []) (node e s []) (g ∙ bare_is e s)).0)
  tree_bare rs rules (by_chain {c = ch} i) g = absurd (some_rule ch (ap (λ (x : Shown). x.rules) (last_is ns (bare_parts e s) (node e s (chain_rules ch)) (node e s []) (g ∙ bare_is e s)).1))

  stands_by : (rs : Rules) (rules : List Rule) → ShowsRules rs rules → (p : Position) (sh : marks.Shown) → shown_with (node_at T s form e ps) ms c rs p ≡ Ok sh → StandsBy T e s rules (ns ++ node e s rules ∷ [])
  stands_by rs rules no_rule p sh g = tt
  stands_by rs rules (by_chain {c = ch} i) p sh g =
      let a = some_aim (shown_by (node_at T s form e ps) ms c ch) (some_shown (shown_by (node_at T s form e ps) ms c ch) sh p g).1 in
      let d = shows_to o c h ch i a.0 a.1 in
      stands_where (chain_rules ch) (record { aim = a.0; derivation = d.derivation; shown = d.shown; fewest = d.fewest })

  -- a derivation that shows the rules of a chain is found
  chain_found : (ch : Chain) → RulesStand T e s (ns ++ node e s (chain_rules ch) ∷ []) → is_some (shown_by (node_at T s form e ps) ms c ch) ≡ true
  chain_found ch r = aim_some (shown_by (node_at T s form e ps) ms c ch) r.aim (shows_from o c h ch r.aim r.derivation r.shown r.fewest).0

  no_wrong : (names : List Name) → ¬ (names ≡ []) → ((ch : Chain) → IsChain ch → ¬ (names ≡ map name (chain_rules ch))) → (rules : List Rule) → names ≡ map name rules → ¬ StandsBy T e s rules (ns ++ node e s rules ∷ [])
  no_wrong names n none rules k w =
      let r = where_stands rules (λ z. n (k ∙ ap (map name) z)) w in
      none (chain_of r.derivation) (chain_is r.aim r.derivation) (k ∙ ap (map name) (shown_rules rules r.aim r.derivation r.shown))

  named_stand : (ch : Chain) (rules : List Rule) → map name (chain_rules ch) ≡ map name rules → StandsBy T e s rules (ns ++ node e s rules ∷ []) → is_some (shown_by (node_at T s form e ps) ms c ch) ≡ true
  named_stand ch rules k w =
      let same = sym (same_rules (chain_rules ch) rules k) in
      chain_found ch (where_stands (chain_rules ch) (some_rule ch) (subst (λ rs. StandsBy T e s rs (ns ++ node e s rs ∷ [])) same w))

  refused : (rs : Rules) (names : List Name) → AreNamed names rs → (p : Position) (f : CheckFault) → shown_with (node_at T s form e ps) ms c rs p ≡ Err f
      → (f ≡ WrongRule p.entry p.node) × ((rules : List Rule) → names ≡ map name rules → ¬ StandsBy T e s rules (ns ++ node e s rules ∷ []))
  refused rs names no_name p f g = cc
  refused rs names (named {c = ch} i) p f g =
      let n = none_shown (shown_by (node_at T s form e ps) ms c ch) f p g in
      (n.0, λ rules k w. never (sym n.1 ∙ named_stand ch rules k w))
  refused rs names (wrong n none) p f g = (cc, no_wrong names n none)

  accepted : (rs : Rules) (names : List Name) (rules : List Rule) → names ≡ map name rules → AreNamed names rs → StandsBy T e s rules (ns ++ node e s rules ∷ []) → (p : Position)
      → ShowsRules rs rules × ((sh : marks.Shown) × (shown_with (node_at T s form e ps) ms c rs p ≡ Ok sh))
  accepted rs names rules k no_name w p =
      let none : [] ≡ rules = same_rules [] rules k in
      (subst (ShowsRules Taken) none no_rule, (nothing_shown, refl))
  accepted rs names rules k (named {c = ch} i) w p =
      let sh = shown_by (node_at T s form e ps) ms c ch in (
        subst (ShowsRules (Named ch)) (same_rules (chain_rules ch) rules k) (by_chain i),
        (sh, ap (λ b. cond b (Ok sh) (Err (WrongRule p.entry p.node))) (named_stand ch rules k w)),
      )
  accepted rs names rules k (wrong n none) w p = absurd (no_wrong names n none rules k w)

-- the depth that the checker computes is that of the expression
pub depth_is : (T : Table) (n : NodeLine) (ts : List Grown) (ms : List TreeFacts) (fs : List Facts) (es : List Exp) (xs : List Tree) (e : Exp) → AllStand T ts ms fs es xs → levels_fit n.level n.form ms ≡ true → whole n.form es ≡ Some e → depth_over ms ≡ nested e
depth_is T n ts ms fs es xs e h l k = depth_of (over_levelled T n.level n.form ts ms fs es xs e h l k)

-- if the checker found no fault, what it keeps of the node's tree is true, and its rules are those of a derivation of least words
pub new_stands : (T : Table) (n : NodeLine) (ts : List Grown) (ms : List TreeFacts) (fs : List Facts) (es : List Exp) (xs : List Tree) (e : Exp) → IsOver T n ts ms fs es xs e → (rules : List Rule) → ShowsRules n.rules rules → (p : Position) (sh : marks.Shown)
    → shown_for (line_node T n e fs) ms n p ≡ Ok sh
    → Stands T (grown e n.level rules ts) (new_mark n (depth_over ms) sh ms) (new_facts n e fs) e (derived n.rules (second_zero fs) xs) × StandsBy T e n.level rules (all_shown ts ++ node e n.level rules ∷ [])
new_stands T n ts ms fs es xs e i rules r p sh g =
    let o = over_is i in (
      record {
        expression = refl;
        level = refl;
        depth = depth_of o;
        part = record { facts = ap (λ b. facts_of e b n.costs) (calls_of o); costs = i.costs };
        order = order_is o rules;
        bare_to = λ k. bare_tree o n.costs i.costs n.rules rules r k;
        bare_from = λ k. tree_bare o n.costs i.costs n.rules rules r k;
        shows = λ aim k. shows o n.costs i.costs n.rules rules r p sh g aim k;
        has = λ aim d k f. found o n.costs i.costs n.rules rules r p sh g aim d k f;
      },
      stands_by o n.costs i.costs n.rules rules r p sh g,
    )

-- a fault is that no derivation of least words shows the rules
pub no_rules : (T : Table) (n : NodeLine) (ts : List Grown) (ms : List TreeFacts) (fs : List Facts) (es : List Exp) (xs : List Tree) (e : Exp) → IsOver T n ts ms fs es xs e → (names : List Name) → AreNamed names n.rules → (p : Position) (f : CheckFault)
    → shown_for (line_node T n e fs) ms n p ≡ Err f → (f ≡ WrongRule p.entry p.node) × ((rules : List Rule) → names ≡ map name rules → ¬ StandsBy T e n.level rules (all_shown ts ++ node e n.level rules ∷ []))
no_rules T n ts ms fs es xs e i names a p f g = refused (over_is i) n.costs i.costs n.rules names a p f g

-- where one shows them there is none
pub right_rules : (T : Table) (n : NodeLine) (ts : List Grown) (ms : List TreeFacts) (fs : List Facts) (es : List Exp) (xs : List Tree) (e : Exp) → IsOver T n ts ms fs es xs e → (names : List Name) (rules : List Rule) → names ≡ map name rules → AreNamed names n.rules
    → StandsBy T e n.level rules (all_shown ts ++ node e n.level rules ∷ []) → (p : Position) → ShowsRules n.rules rules × ((sh : marks.Shown) × (shown_for (line_node T n e fs) ms n p ≡ Ok sh))
right_rules T n ts ms fs es xs e i names rules k a w p = accepted (over_is i) n.costs i.costs n.rules names rules k a w p
