-- The checker's step at a node line agrees with the relations.
use Rattle.std.proofs.Common.{◌≡◌, ℕ, ◌+◌, ◌-◌, ◌≤◌, ◌<◌, Bool, true, false, cond, map, List, [], ◌∷◌, ◌++◌, length, take, drop, Some, Result, Ok, Err, refl, ap, sym, subst, ◌∙◌, arith}
use Rattle.std.specs.Prelude.{nat_lt, nat_le}
use Rattle.std.proofs.lemmas.List.{length-map, length-append, length-drop, take-append-drop}
use Rattle.std.proofs.Math.Seq.{take-append_seam, drop-append_seam}
use Rattle.bc_cert_defs.specs.declared.check_fault.CheckFault.{CheckFault}
use Rattle.bc_cert_defs.specs.declared.check_fault.CheckFault.TheVariants as faults
use Rattle.bc_core.specs.Tree.{Exp}
use Rattle.bc_rules_defs.specs.declared.rule.Table.{Table}
use Rattle.bc_rules_defs.specs.declared.rule.Rule.{Rule}
use Rattle.bc_cert_read.specs.declared.facts.Facts.{Facts}
use Rattle.bc_cert_read.specs.Costs.{are_costs}
use Rattle.bc_cert_read.specs.Form.{parts_of}
use Rattle.bc_cert_read.specs.Node.{least_words_of}
use Rattle.bc_cert_read.specs.Parts.{AreLeast}
use Rattle.bc_cert_read.specs.declared.lines.NodeLine.{NodeLine}
use Rattle.bc_cert_read.specs.declared.chain.Rules.{Rules}
use Rattle.bc_cert_read.specs.declared.mark.TreeFacts.{TreeFacts}
use Rattle.bc_cert_read.specs.declared.mark.Shown.{Shown}
use Rattle.bc_cert_read.specs.declared.position.Position.{Position}
use Rattle.bc_cert_read.specs.Marks.{levels_fit, depth_over}
use Rattle.bc_cert_read.specs.Showing.{shown_for, shown_with}
use Rattle.bc_cert_read.specs.Stacks.{◌>>=◌, Stack, line_node, with_whole, without_expressions, put_over, node_judged_over, node_whole, node_from, node_step}
use Rattle.bc_cert_read.specs.Wholes.{whole}
use Rattle.bc_cert_laws.specs.Entries.{nested}
use Rattle.bc_cert_laws.specs.Faults.{Grown, all_shown, parts, Ends, Name, name, StandsBy, node, grown}
use Rattle.bc_cert_laws.specs.Standing.{AreNamed, no_name, named, wrong, chain_rules, IsOver, ShowsRules, no_rule, by_chain}
use Rattle.bc_cert_laws.proofs.Node.{depth_is, new_stands, no_rules, right_rules}
use Rattle.bc_cert_laws.proofs.Results.{ok_same, err_same, at_most_true, at_most, not_at_most}
use Rattle.bc_cert_laws.proofs.Keeping.{StackStands, Kept, all_stand, kept_front, kept_after, kept_more, kept_lengths}
use Rattle.bc_cert_laws.proofs.NodeParts.{placed, expressions, levels_right, expressions_are, levels_are, own_form, right_levels, right_whole, right_length, parts_right, whole_form, whole_made}
use Rattle.bc_cert_laws.proofs.NodeCosts.{own_parts, costs_are_least, least_are_costs}

-- where the trees of a node's parts begin
abbrev pub place_of : NodeLine → Stack → ℕ
place_of n x = length x.facts - parts_of n.form

-- the form of a node line, over the last trees
pub record NodeFits (T : Table) (n : NodeLine) (ts : List Grown) (x : Stack) (e : Exp) (ends : Ends e n.level ts) : Type 0 where
  pub form : n.form ≡ own_form e
  pub enough : nat_lt (length x.facts) (parts_of n.form) ≡ false
  pub before : Kept T ends.before (take (place_of n x) x.marks) (take (place_of n x) x.facts) (take (place_of n x) x.expressions) (take (place_of n x) x.derivations)
  pub own : Kept T ends.own (drop (place_of n x) x.marks) (drop (place_of n x) x.facts) (drop (place_of n x) x.expressions) (drop (place_of n x) x.derivations)
  pub levels : levels_fit n.level n.form (drop (place_of n x) x.marks) ≡ true
  pub is_whole : whole n.form (drop (place_of n x) x.expressions) ≡ Some e

enough_trees : (m n : ℕ) → n ≤ m → nat_lt m n ≡ false
enough_trees m n h = grind (arith, h)

not_enough : (m n : ℕ) → nat_lt m n ≡ false → n ≤ m
not_enough m n h = grind (arith, h)

pub fits_of_ends : {T : Table} {e : Exp} (n : NodeLine) (ts : List Grown) (x : Stack) (ends : Ends e n.level ts) → Kept T ts x.marks x.facts x.expressions x.derivations → n.form ≡ own_form e → NodeFits T n ts x e ends
fits_of_ends {T = T} {e = e} n ts x ends h form =
    let lengths = kept_lengths h in
    let all : length ts ≡ length x.facts = lengths.1 in
    let cut : length ts ≡ length ends.before + length ends.own = ap length ends.cut ∙ length-append ends.before ends.own in
    let own : length ends.own ≡ parts_of n.form = sym (length-map ends.own (λ t. (t.expression, t.level))) ∙ ap length ends.parts ∙ right_length e n.level ∙ ap parts_of (sym form) in
    let at : place_of n x ≡ length ends.before = omega (arith, all, cut, own) in
    let front : take (place_of n x) ts ≡ ends.before = ap (λ k. take k ts) at ∙ ap (take (length ends.before)) ends.cut ∙ take-append_seam ends.before ends.own in
    let following : drop (place_of n x) ts ≡ ends.own = ap (λ k. drop k ts) at ∙ ap (drop (length ends.before)) ends.cut ∙ drop-append_seam ends.before ends.own in
    let before = subst (λ us. Kept T us (take (place_of n x) x.marks) (take (place_of n x) x.facts) (take (place_of n x) x.expressions) (take (place_of n x) x.derivations)) front (kept_front (place_of n x) h) in
    let own_kept = subst (λ us. Kept T us (drop (place_of n x) x.marks) (drop (place_of n x) x.facts) (drop (place_of n x) x.expressions) (drop (place_of n x) x.derivations)) following (kept_after (place_of n x) h) in
    record {
      form = form;
      enough = enough_trees _ _ (omega (arith, all, cut, own));
      before = before;
      own = own_kept;
      levels = levels_are _ _ own_kept ∙ ap (levels_right n.level n.form) ends.parts ∙ ap (λ f. levels_right n.level f (parts e n.level)) form ∙ right_levels e n.level;
      is_whole = ap (whole n.form) (expressions_are own_kept ∙ ap expressions ends.parts) ∙ ap (λ f. whole f (expressions (parts e n.level))) form ∙ right_whole e n.level;
    }

-- the tests find the parts of an expression
record FoundEnds (n : NodeLine) (ts : List Grown) : Type 0 where
  expression : Exp
  form : n.form ≡ own_form expression
  ends : Ends expression n.level ts

found_ends : {T : Table} (n : NodeLine) (ts : List Grown) (x : Stack) → Kept T ts x.marks x.facts x.expressions x.derivations → nat_lt (length x.facts) (parts_of n.form) ≡ false → levels_fit n.level n.form (drop (place_of n x) x.marks) ≡ true → FoundEnds n ts
found_ends {T = T} n ts x h enough levels = let made = whole_made n.form (drop (place_of n x) x.expressions) many in at made.0 made.1 where
  many : length (drop (place_of n x) x.expressions) ≡ parts_of n.form
  many = let same = (kept_lengths h).0 in let some = not_enough _ _ enough in length-drop (place_of n x) x.expressions ∙ omega (arith, same, some)

  at : (e : Exp) → whole n.form (drop (place_of n x) x.expressions) ≡ Some e → FoundEnds n ts
  at e k =
      let own = kept_after (place_of n x) h in
      record {
        expression = e;
        form = whole_form n.form (drop (place_of n x) x.expressions) e many k;
        ends = record {
          before = take (place_of n x) ts;
          own = drop (place_of n x) ts;
          cut = sym (take-append-drop (place_of n x) ts);
          parts = parts_right n.form e n.level (placed (drop (place_of n x) ts)) (sym (levels_are _ _ own) ∙ levels) (ap (whole n.form) (sym (expressions_are own)) ∙ k);
        };
      }

-- a node line fits the last trees, or no expression has its form over them
pub data NodeDecision (T : Table) (n : NodeLine) (ts : List Grown) (x : Stack) (p : Position) : Type 0 where
  fits : {e : Exp} (ends : Ends e n.level ts) → n.form ≡ own_form e → NodeDecision T n ts x p
  misfit : node_step T n p x ≡ Err (faults.Line p.line) → ((e : Exp) → n.form ≡ own_form e → ¬ Ends e n.level ts) → NodeDecision T n ts x p

pub node_decided : {T : Table} (n : NodeLine) (ts : List Grown) (x : Stack) (p : Position) → Kept T ts x.marks x.facts x.expressions x.derivations → NodeDecision T n ts x p
node_decided {T = T} n ts x p h = at (nat_lt (length x.facts) (parts_of n.form)) refl (levels_fit n.level n.form (drop (place_of n x) x.marks)) refl where
  at : (b : Bool) → nat_lt (length x.facts) (parts_of n.form) ≡ b → (c : Bool) → levels_fit n.level n.form (drop (place_of n x) x.marks) ≡ c → NodeDecision T n ts x p
  at true i c j =
      misfit (ap (λ b. cond b (Err (faults.Line p.line)) (node_from T n p x (place_of n x))) i) (λ e form ends. let f = (fits_of_ends n ts x ends h form).enough in let bad : true ≡ false = sym i ∙ f in cc)
  at false i true j = let found = found_ends n ts x h i j in fits found.ends found.form
  at false i false j =
      misfit
      (ap (λ b. cond b (Err (faults.Line p.line)) (node_from T n p x (place_of n x))) i
      ∙ ap (λ b. cond b (cond (nat_le (depth_over (drop (place_of n x) x.marks)) 400) (Ok (depth_over (drop (place_of n x) x.marks))) (Err (faults.TooDeep p.line))) (Err (faults.Line p.line)) >>= (λ depth. node_whole T n p x (place_of n x) depth)) j)
      (λ e form ends. let f = (fits_of_ends n ts x ends h form).levels in let bad : true ≡ false = sym f ∙ j in cc)

-- the step if the line fits
abbrev new_stack : NodeLine → Stack → Exp → Shown → Stack
new_stack n x e shown = put_over n (without_expressions (place_of n x) x) (place_of n x) (depth_over (drop (place_of n x) x.marks)) e shown

abbrev shown_over : Table → NodeLine → Position → Stack → Exp → Result Shown CheckFault
shown_over T n p x e = shown_for (line_node T n e (drop (place_of n x) x.facts)) (drop (place_of n x) x.marks) n p

abbrev are_least : Table → NodeLine → Stack → Exp → Bool
are_least T n x e = are_costs (least_words_of (line_node T n e (drop (place_of n x) x.facts))) n.costs

abbrev decided : Table → NodeLine → Position → Stack → Exp → (deep least : Bool) → Result Stack CheckFault
decided T n p x e deep least =
    cond deep (cond least (shown_over T n p x e) (Err (faults.WrongCost p.entry p.node)) >>= (λ shown. Ok (new_stack n x e shown))) (Err (faults.TooDeep p.line))

node_result : {T : Table} {e : Exp} {n : NodeLine} {ts : List Grown} {x : Stack} {ends : Ends e n.level ts} (p : Position) → NodeFits T n ts x e ends → node_step T n p x ≡ decided T n p x e (nat_le (depth_over (drop (place_of n x) x.marks)) 400) (are_least T n x e)
node_result {T = T} {e = e} {n = n} {x = x} p fit =
    let at = place_of n x in
    let depth = depth_over (drop at x.marks) in
    ap (λ b. cond b (Err (faults.Line p.line)) (node_from T n p x at)) fit.enough
    ∙ ap (λ b. cond b (cond (nat_le depth 400) (Ok depth) (Err (faults.TooDeep p.line))) (Err (faults.Line p.line)) >>= (λ d. node_whole T n p x at d)) fit.levels
    ∙ deeper (nat_le depth 400)
    ∙ ap (λ o. cond (nat_le depth 400) (with_whole p o >>= (λ e. node_judged_over T n p (without_expressions at x) at depth e)) (Err (faults.TooDeep p.line))) fit.is_whole where
      deeper : (b : Bool) → (cond b (Ok (depth_over (drop (place_of n x) x.marks))) (Err (faults.TooDeep p.line)) >>= (λ d. node_whole T n p x (place_of n x) d))
          ≡ cond b (node_whole T n p x (place_of n x) (depth_over (drop (place_of n x) x.marks))) (Err (faults.TooDeep p.line))
      deeper true = refl
      deeper false = refl

is_over : {T : Table} {e : Exp} {n : NodeLine} {ts : List Grown} {x : Stack} {ends : Ends e n.level ts} → NodeFits T n ts x e ends → AreLeast T e n.level n.costs
    → IsOver T n ends.own (drop (place_of n x) x.marks) (drop (place_of n x) x.facts) (drop (place_of n x) x.expressions) (drop (place_of n x) x.derivations) e
is_over fit least = record { parts = all_stand fit.own; levels = fit.levels; whole = fit.is_whole; costs = least }

depth_over_is : {T : Table} {e : Exp} {n : NodeLine} {ts : List Grown} {x : Stack} {ends : Ends e n.level ts} → NodeFits T n ts x e ends → depth_over (drop (place_of n x) x.marks) ≡ nested e
depth_over_is {T = T} {e = e} {n = n} {x = x} {ends = ends} fit =
    depth_is T n ends.own (drop (place_of n x) x.marks) (drop (place_of n x) x.facts) (drop (place_of n x) x.expressions) (drop (place_of n x) x.derivations) e (all_stand fit.own) fit.levels fit.is_whole

-- which rules the names mean if a step succeeds
record NamesShow (names : List Name) (rs : Rules) : Type 0 where
  rules : List Rule
  names_are : names ≡ map name rules
  shows : ShowsRules rs rules

names_show : (T : Table) {names : List Name} {rs : Rules} (n : NodeLine) (e : Exp) (fs : List Facts) (ms : List TreeFacts) (p : Position) (shown : Shown) → n.rules ≡ rs → AreNamed names rs → shown_for (line_node T n e fs) ms n p ≡ Ok shown → NamesShow names rs
names_show T n e fs ms p shown h no_name k = record { rules = []; names_are = refl; shows = no_rule }
names_show T n e fs ms p shown h (named {c = c} is) k = record { rules = chain_rules c; names_are = refl; shows = by_chain is }
names_show T n e fs ms p shown h (wrong some none) k =
    let bad : ◌≡◌ {A = Result Shown CheckFault} (Err (faults.WrongRule p.entry p.node)) (Ok shown) = sym (ap (λ r. shown_with (line_node T n e fs) ms n.costs r p) h) ∙ k in cc

-- A node line that was accepted: what is kept of its tree is true.
pub record NodeRight (T : Table) (n : NodeLine) (ts : List Grown) (names : List Name) (e : Exp) (ends : Ends e n.level ts) (y : Stack) : Type 0 where
  pub rules : List Rule
  pub names_are : names ≡ map name rules
  pub shows : ShowsRules n.rules rules
  pub depth : nested e ≤ 400
  pub least : AreLeast T e n.level n.costs
  pub stands : StandsBy T e n.level rules (all_shown ends.own ++ node e n.level rules ∷ [])
  pub trees : StackStands T (ends.before ++ grown e n.level rules ends.own ∷ []) y

-- the fault of a node line that fits
pub data NodeWrong (T : Table) (n : NodeLine) (ts : List Grown) (names : List Name) (e : Exp) (ends : Ends e n.level ts) (p : Position) : CheckFault → Type 0 where
  is_deep : 400 < nested e → NodeWrong T n ts names e ends p (faults.TooDeep p.line)
  is_cost : nested e ≤ 400 → ¬ AreLeast T e n.level n.costs → NodeWrong T n ts names e ends p (faults.WrongCost p.entry p.node)
  is_rule : nested e ≤ 400 → AreLeast T e n.level n.costs → ((rules : List Rule) → names ≡ map name rules → ¬ StandsBy T e n.level rules (all_shown ends.own ++ node e n.level rules ∷ [])) → NodeWrong T n ts names e ends p (faults.WrongRule p.entry p.node)

stack_more : {T : Table} {e : Exp} {n : NodeLine} {ts : List Grown} {x : Stack} {ends : Ends e n.level ts} (p : Position) (rules : List Rule) (shown : Shown) → NodeFits T n ts x e ends → AreLeast T e n.level n.costs → ShowsRules n.rules rules → shown_over T n p x e ≡ Ok shown
    → StackStands T (ends.before ++ grown e n.level rules ends.own ∷ []) (new_stack n x e shown) × StandsBy T e n.level rules (all_shown ends.own ++ node e n.level rules ∷ [])
stack_more {T = T} {e = e} {n = n} {x = x} {ends = ends} p rules shown fit least shows k =
    let new = new_stands T n ends.own (drop (place_of n x) x.marks) (drop (place_of n x) x.facts) (drop (place_of n x) x.expressions) (drop (place_of n x) x.derivations) e (is_over fit least) rules shows p shown k in
    (all_stand (kept_more fit.before new.0), new.1)

pub node_right : {T : Table} {e : Exp} {n : NodeLine} {ts : List Grown} {x : Stack} {ends : Ends e n.level ts} (p : Position) (names : List Name) (y : Stack) → NodeFits T n ts x e ends → AreNamed names n.rules → node_step T n p x ≡ Ok y → NodeRight T n ts names e ends y
node_right {T = T} {e = e} {n = n} {ts = ts} {x = x} {ends = ends} p names y fit are k = at (nat_le (depth_over (drop (place_of n x) x.marks)) 400) refl (are_least T n x e) refl (shown_over T n p x e) refl (sym (node_result p fit) ∙ k) where
  at : (deep : Bool) → nat_le (depth_over (drop (place_of n x) x.marks)) 400 ≡ deep → (least : Bool) → are_least T n x e ≡ least → (r : Result Shown CheckFault) → shown_over T n p x e ≡ r
      → cond deep (cond least r (Err (faults.WrongCost p.entry p.node)) >>= (λ shown. Ok (new_stack n x e shown))) (Err (faults.TooDeep p.line)) ≡ Ok y → NodeRight T n ts names e ends y
  at true i true j (Ok shown) m k =
      let least = costs_are_least T n e (drop (place_of n x) x.facts) n.costs fit.form (own_parts e n.level fit.own ends.parts) j in
      let names_said = names_show T n e (drop (place_of n x) x.facts) (drop (place_of n x) x.marks) p shown refl are m in
      let more = stack_more p names_said.rules shown fit least names_said.shows m in
      let depth = at_most _ _ i in let same = depth_over_is fit in
      record {
        rules = names_said.rules;
        names_are = names_said.names_are;
        shows = names_said.shows;
        depth = omega (arith, depth, same);
        least = least;
        stands = more.1;
        trees = subst (StackStands T (ends.before ++ grown e n.level names_said.rules ends.own ∷ [])) (ok_same k) more.0;
      }
  at true i true j (Err f) m k = cc
  at true i false j r m k = cc
  at false i least j r m k = cc

pub node_wrong : {T : Table} {e : Exp} {n : NodeLine} {ts : List Grown} {x : Stack} {ends : Ends e n.level ts} (p : Position) (names : List Name) (f : CheckFault) → NodeFits T n ts x e ends → AreNamed names n.rules → node_step T n p x ≡ Err f → NodeWrong T n ts names e ends p f
node_wrong {T = T} {e = e} {n = n} {ts = ts} {x = x} {ends = ends} p names f fit are k = at (nat_le (depth_over (drop (place_of n x) x.marks)) 400) refl (are_least T n x e) refl (shown_over T n p x e) refl (sym (node_result p fit) ∙ k) where
  not_deep : nat_le (depth_over (drop (place_of n x) x.marks)) 400 ≡ true → nested e ≤ 400
  not_deep i = let depth = at_most _ _ i in let same = depth_over_is fit in omega (arith, depth, same)

  at : (deep : Bool) → nat_le (depth_over (drop (place_of n x) x.marks)) 400 ≡ deep → (least : Bool) → are_least T n x e ≡ least → (r : Result Shown CheckFault) → shown_over T n p x e ≡ r
      → cond deep (cond least r (Err (faults.WrongCost p.entry p.node)) >>= (λ shown. Ok (new_stack n x e shown))) (Err (faults.TooDeep p.line)) ≡ Err f → NodeWrong T n ts names e ends p f
  at true i true j (Ok shown) m k = cc
  at true i true j (Err g) m k =
      let least = costs_are_least T n e (drop (place_of n x) x.facts) n.costs fit.form (own_parts e n.level fit.own ends.parts) j in
      let wrong = no_rules T n ends.own (drop (place_of n x) x.marks) (drop (place_of n x) x.facts) (drop (place_of n x) x.expressions) (drop (place_of n x) x.derivations) e (is_over fit least) names are p g m in
      subst (NodeWrong T n ts names e ends p) (sym wrong.0 ∙ err_same k) (is_rule (not_deep i) least wrong.1)
  at true i false j r m k =
      subst (NodeWrong T n ts names e ends p) (err_same k)
      (is_cost (not_deep i) (λ least. let is = least_are_costs T n e (drop (place_of n x) x.facts) n.costs fit.form (own_parts e n.level fit.own ends.parts) least in let bad : true ≡ false = sym is ∙ j in cc))
  at false i least j r m k = let depth = not_at_most _ _ i in let same = depth_over_is fit in subst (NodeWrong T n ts names e ends p) (err_same k) (is_deep (deep_so same depth)) where
    deep_so : depth_over (drop (place_of n x) x.marks) ≡ nested e → ¬ (depth_over (drop (place_of n x) x.marks) ≤ 400) → 400 < nested e
    deep_so same h = grind (arith, same, h)

-- a line whose rules are those of a derivation of least words is accepted, with exactly these rules
pub record NodeMade (T : Table) (n : NodeLine) (p : Position) (x : Stack) (trees : List Grown) : Type 0 where
  pub stack : Stack
  pub is : node_step T n p x ≡ Ok stack
  pub stands : StackStands T trees stack

pub node_made : {T : Table} {e : Exp} {n : NodeLine} {ts : List Grown} {x : Stack} {ends : Ends e n.level ts} (p : Position) (names : List Name) (rules : List Rule) → NodeFits T n ts x e ends → AreNamed names n.rules → names ≡ map name rules → nested e ≤ 400 → AreLeast T e n.level n.costs
    → StandsBy T e n.level rules (all_shown ends.own ++ node e n.level rules ∷ []) → NodeMade T n p x (ends.before ++ grown e n.level rules ends.own ∷ [])
node_made {T = T} {e = e} {n = n} {ts = ts} {x = x} {ends = ends} p names rules fit are names_are depth least stands =
    let right = right_rules T n ends.own (drop (place_of n x) x.marks) (drop (place_of n x) x.facts) (drop (place_of n x) x.expressions) (drop (place_of n x) x.derivations) e (is_over fit least) names rules names_are are stands p in
    let same = depth_over_is fit in
    let deep : nat_le (depth_over (drop (place_of n x) x.marks)) 400 ≡ true = at_most_true _ _ (omega (arith, same, depth)) in
    let costs : are_least T n x e ≡ true = least_are_costs T n e (drop (place_of n x) x.facts) n.costs fit.form (own_parts e n.level fit.own ends.parts) least in
    record {
      stack = new_stack n x e right.1.0;
      is = node_result p fit ∙ ap (λ b. decided T n p x e b (are_least T n x e)) deep ∙ ap (λ b. decided T n p x e true b) costs ∙ ap (λ r. r >>= (λ shown. Ok (new_stack n x e shown))) right.1.1;
      stands = (stack_more p rules right.1.0 fit least right.0 right.1.1).0;
    }
