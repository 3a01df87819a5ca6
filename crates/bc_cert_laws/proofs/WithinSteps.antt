-- The checker's step at a node line or root line agrees with the relations.
use Rattle.std.proofs.Common.{◌≡◌, ℕ, ◌+◌, ◌≤◌, ◌<◌, true, false, map, List, [], ◌∷◌, ◌++◌, length, Option, Some, None, IfSome, Result, Ok, Err, refl, ap, sym, subst, ◌∙◌, arith}
use Rattle.std.specs.Fmt.{decimal}
use Rattle.bc_cert_defs.specs.declared.check_fault.CheckFault.{CheckFault}
use Rattle.bc_cert_defs.specs.declared.check_fault.CheckFault.TheVariants as faults
use Rattle.bc_cert_defs.specs.Verdict.{Judged}
use Rattle.bc_core.specs.Tree.{Exp, Root}
use Rattle.bc_rules_defs.specs.declared.rule.Table.{Table}
use Rattle.bc_rules_defs.specs.declared.rule.Mode.TheVariants.{Any, Push}
use Rattle.bc_rules_defs.specs.declared.rule.Aim.{Aim}
use Rattle.bc_rules_defs.specs.declared.rule.Aim.TheVariants.{Gets, Jumps}
use Rattle.bc_rules_defs.specs.declared.rule.Rule.{Rule}
use Rattle.bc_rules_defs.specs.Rules.{RootDerives}
use Rattle.bc_cert_defs.specs.declared.costs.Costs.{Costs}
use Rattle.bc_cert_read.specs.Costs.{cost_of}
use Rattle.bc_cert_read.specs.Parts.{AreLeast}
use Rattle.bc_cert_write.specs.Lines.{line, words_field, form_field, node_line as line_of_node}
use Rattle.bc_cert_defs.specs.declared.head.Head.{Head}
use Rattle.bc_cert_read.specs.declared.lines.NodeLine.{NodeLine}
use Rattle.bc_cert_read.specs.declared.lines.RootLine.{RootLine}
use Rattle.bc_cert_read.specs.declared.lines.RootLine.TheVariants as lines
use Rattle.bc_cert_read.specs.Lines.{node_line, root_line}
use Rattle.bc_cert_read.specs.declared.position.Position.{Position}
use Rattle.bc_cert_read.specs.Stacks.{◌>>=◌, Stack, no_trees, Rooted, node_step, root_step}
use Rattle.bc_cert_laws.specs.Entries.{IsNumber, nested, NodeHasRoom}
use Rattle.bc_cert_laws.specs.Faults.{Grown, all_shown, Ends, Name, name, names_field, CostsHaveRoom, IsNodeLine, AreLeastCosts, StandsBy, RootOver, value, test, assign, RootStands, node, grown, nodes, LineFault, no_form, too_deep, wrong_cost, wrong_rule, wrong_root}
use Rattle.bc_cert_laws.specs.Judging.{State, nodes as at_nodes, code as at_code, rooted, noded, within_step}
use Rattle.bc_cert_laws.specs.Standing.{AreNamed, form_text, root_text, RootLineIsSmall, FormIsSmall}
use Rattle.bc_cert_laws.proofs.Read.{NodeRead, node_read, node_back, root_read, root_back, node_no_root, rules_are_names, rules_field_is}
use Rattle.bc_cert_laws.proofs.Over.{some_same}
use Rattle.bc_cert_laws.proofs.Results.{StandsAfter, bound, ok_same, err_same}
use Rattle.bc_cert_laws.proofs.CodeSteps.{rooted_by}
use Rattle.bc_cert_laws.proofs.Keeping.{StackStands, kept}
use Rattle.bc_cert_laws.proofs.RootSteps.{IsRootOf, of_value, of_test, of_assignment, RootRight, RootWrong, no_derivation, no_root, root_made, root_right, root_wrong}
use Rattle.bc_cert_laws.proofs.NodeParts.{own_form, form_text_is, small_form, small_number}
use Rattle.bc_cert_laws.proofs.NodeCosts.{by_derivations, by_choices, least_costs}
use Rattle.bc_cert_laws.proofs.NodeSteps.{fits_of_ends, NodeDecision, fits, misfit, node_decided, NodeRight, NodeWrong, is_deep, is_cost, is_rule, node_right, node_wrong, node_made}

-- what a line within an entry was, and the stage after it
pub data WithinTaken (T : Table) (ts : List Grown) (h : Head) (l : List ℕ) (st after : State) : Type 0 where
  a_node : (e : Exp) (s : ℕ) (rules : List Rule) (ends : Ends e s ts) → NodeHasRoom T (node e s rules) → StandsBy T e s rules (all_shown ends.own ++ node e s rules ∷ []) → l ++ 10 ∷ [] ≡ line_of_node T (node e s rules)
      → (x : Stack) → StackStands T (ends.before ++ grown e s rules ends.own ∷ []) x → after ≡ record st { stage = at_nodes h; trees = x; nodes = st.nodes + 1 } → WithinTaken T ts h l st after
  a_root : (r : Root) (d : RootDerives T r) → RootOver ts r (l ++ 10 ∷ []) → RootStands T r (all_shown ts) (l ++ 10 ∷ []) d → after ≡ record st { stage = at_code h (rooted_by d); trees = no_trees } → WithinTaken T ts h l st after

-- the root line of a root over trees
record LineOver (ts : List Grown) (r : Root) (text : List ℕ) : Type 0 where
  said : RootLine
  small : RootLineIsSmall said
  is : text ≡ root_text said
  over : IsRootOf said ts r

line_over : {ts : List Grown} {r : Root} {text : List ℕ} → RootOver ts r text → LineOver ts r text
line_over value = record { said = lines.Value; small = tt; is = refl; over = of_value }
line_over (test {sense = sense}) = record { said = lines.Test sense; small = tt; is = refl; over = of_test }
line_over (assign {s = s} {r = r} is room h k) = record { said = lines.Assign r s; small = (is, room); is = refl; over = of_assignment is room h k }

root_over : {ts : List Grown} {r : Root} {said : RootLine} → IsRootOf said ts r → RootOver ts r (root_text said)
root_over of_value = value
root_over of_test = test
root_over (of_assignment is room h k) = assign is room h k

one_root : {ts : List Grown} {q r : Root} {said : RootLine} → IsRootOf said ts q → IsRootOf said ts r → q ≡ r
one_root of_value of_value = refl
one_root of_test of_test = refl
one_root (of_assignment is room h k) (of_assignment j more m n) = refl

-- the step over a table
abbrev noded_in : Table → Head → List ℕ → Position → State → Option NodeLine → Result State CheckFault
noded_in T h l p st (Some n) = node_step T n p st.trees >>= (λ ts. Ok (record st { stage = at_nodes h; trees = ts; nodes = st.nodes + 1 }))
noded_in T h l p st None = rooted h p st (root_line l)

abbrev at_node : Table → Head → Position → State → NodeLine → Result State CheckFault
at_node T h p st n = node_step T n p st.trees >>= (λ ts. Ok (record st { stage = at_nodes h; trees = ts; nodes = st.nodes + 1 }))

abbrev at_root : Head → Position → State → RootLine → Result State CheckFault
at_root h p st r = root_step r p st.trees >>= (λ x. Ok (record st { stage = at_code h x; trees = no_trees }))

table_so : {T : Table} (h : Head) (l : List ℕ) (p : Position) (st : State) (o : Option NodeLine) → st.table ≡ T → noded h l p st o ≡ noded_in T h l p st o
table_so h l p st None k = refl
table_so h l p st (Some n) k = ap (λ T. at_node T h p st n) k

node_so : {T : Table} (h : Head) (l : List ℕ) (p : Position) (st : State) (n : NodeLine) → st.table ≡ T → node_line l ≡ Some n → within_step h l p st ≡ at_node T h p st n
node_so {T = T} h l p st n k i = table_so h l p st (node_line l) k ∙ ap (noded_in T h l p st) i

root_so : (h : Head) (l : List ℕ) (p : Position) (st : State) (r : RootLine) → node_line l ≡ None → root_line l ≡ Some r → within_step h l p st ≡ at_root h p st r
root_so h l p st r i j = ap (noded h l p st) i ∙ ap (rooted h p st) j

no_line_so : (h : Head) (l : List ℕ) (p : Position) (st : State) → node_line l ≡ None → root_line l ≡ None → within_step h l p st ≡ Err (faults.Line p.line)
no_line_so h l p st i j = ap (noded h l p st) i ∙ ap (rooted h p st) j

-- a step that failed
failed : {A B : Type 0} (r : Result A CheckFault) (f : A → B) (g : CheckFault) → (r >>= (λ x. Ok (f x))) ≡ Err g → r ≡ Err g
failed (Ok x) f g h = cc
failed (Err e) f g h = let i : e ≡ g = err_same h in ap (λ z. Err z) i

-- the text of a node line
same_fields : (s : ℕ) {a b c d e f m n o p q r : List ℕ} → a ≡ m → b ≡ n → c ≡ o → d ≡ p → e ≡ q → f ≡ r → line (decimal s) (a ∷ b ∷ c ∷ d ∷ e ∷ f ∷ []) ≡ line (decimal s) (m ∷ n ∷ o ∷ p ∷ q ∷ r ∷ [])
same_fields s h i j k u v = cc

node_text : {T : Table} {e : Exp} {s : ℕ} {c : Costs} {names : List Name} (rules : List Rule) → AreLeast T e s c → names ≡ map name rules
    → line (decimal s) (form_field e ∷ decimal c.any ∷ words_field c.push ∷ decimal c.on_false ∷ decimal c.on_true ∷ names_field names ∷ []) ≡ line_of_node T (node e s rules)
node_text {s = s} rules least names =
    same_fields s refl (sym (ap words_field (least.words (Gets Any)))) (sym (ap words_field (least.words (Gets Push)))) (sym (ap words_field (least.words (Jumps false)))) (sym (ap words_field (least.words (Jumps true))))
    (ap names_field names ∙ sym (rules_field_is rules))

is_node_line : {e : Exp} {n : NodeLine} {l : List ℕ} → n.form ≡ own_form e → (read : NodeRead n l) → IsNodeLine e n.level n.costs read.names (l ++ 10 ∷ [])
is_node_line {e = e} {n = n} {l = l} form read =
    record {
      level = read.level;
      number = small_number e (subst FormIsSmall form read.form);
      costs = read.costs;
      all_names = read.room;
      is = read.is ∙ ap (λ t. line (decimal n.level) (t ∷ decimal n.costs.any ∷ words_field n.costs.push ∷ decimal n.costs.on_false ∷ decimal n.costs.on_true ∷ names_field read.names ∷ [])) (ap form_text form ∙ form_text_is e);
    }

-- a line of this form is read so
record ReadSo (l : List ℕ) (e : Exp) (s : ℕ) (c : Costs) (names : List Name) : Type 0 where
  said : NodeLine
  is : node_line l ≡ Some said
  level : said.level ≡ s
  form : said.form ≡ own_form e
  costs : said.costs ≡ c
  rules : AreNamed names said.rules

read_so : {l : List ℕ} {e : Exp} {s : ℕ} {c : Costs} {names : List Name} → IsNodeLine e s c names (l ++ 10 ∷ []) → ReadSo l e s c names
read_so {l = l} {e = e} {s = s} {c = c} {names = names} h =
    let back = node_back l s (own_form e) c names h.level (small_form e h.number) h.costs h.all_names
    (h.is ∙ ap (λ t. line (decimal s) (t ∷ decimal c.any ∷ words_field c.push ∷ decimal c.on_false ∷ decimal c.on_true ∷ names_field names ∷ [])) (sym (form_text_is e))) in
    record { said = back.node; is = back.is; level = back.level; form = back.form; costs = back.costs; rules = back.rules }

ends_at : {e : Exp} {s k : ℕ} {ts : List Grown} → k ≡ s → Ends e s ts → Ends e k ts
ends_at {e = e} {ts = ts} h ends = subst (λ n. Ends e n ts) (sym h) ends

-- a line that was accepted
node_room : {T : Table} {e : Exp} {n : NodeLine} {l : List ℕ} (rules : List Rule) → n.form ≡ own_form e → NodeRead n l → AreLeast T e n.level n.costs → nested e ≤ 400 → NodeHasRoom T (node e n.level rules)
node_room {e = e} {n = n} rules form read least depth =
    record { level = read.level; number = small_number e (subst FormIsSmall form read.form); words = λ aim. subst (λ o. IfSome o IsNumber) (sym (least.words aim)) (cost_room aim); depth = depth } where
      cost_room : (aim : Aim) → IfSome (cost_of aim n.costs) IsNumber
      cost_room (Gets Any) = read.costs.any
      cost_room (Gets Push) = read.costs.push
      cost_room (Jumps false) = read.costs.on_false
      cost_room (Jumps true) = read.costs.on_true

node_taken : {T : Table} (ts : List Grown) (st after : State) (h : Head) (l : List ℕ) (p : Position) (n : NodeLine) → StackStands T ts st.trees → node_line l ≡ Some n → at_node T h p st n ≡ Ok after → WithinTaken T ts h l st after
node_taken {T = T} ts st after h l p n stands i k =
    let b = bound (node_step T n p st.trees) (λ ts. Ok (record st { stage = at_nodes h; trees = ts; nodes = st.nodes + 1 })) after k in
    at b.value b.was (sym (ok_same b.is)) (node_decided n ts st.trees p (kept T ts st.trees.marks st.trees.facts st.trees.expressions st.trees.derivations stands)) where
      at : (y : Stack) → node_step T n p st.trees ≡ Ok y → after ≡ record st { stage = at_nodes h; trees = y; nodes = st.nodes + 1 } → NodeDecision T n ts st.trees p → WithinTaken T ts h l st after
      at y was is (misfit wrong none) = let bad : ◌≡◌ {A = Result Stack CheckFault} (Err (faults.Line p.line)) (Ok y) = sym wrong ∙ was in cc
      at y was is (fits {e = e} ends form) =
          let read = node_read l n i in
          let fit = fits_of_ends n ts st.trees ends (kept T ts st.trees.marks st.trees.facts st.trees.expressions st.trees.derivations stands) form in
          let right = node_right p read.names y fit read.rules was in
          a_node e n.level right.rules ends (node_room right.rules form read right.least right.depth) right.stands ((is_node_line form read).is ∙ node_text right.rules right.least right.names_are) y right.trees is

root_taken : {T : Table} (ts : List Grown) (st after : State) (h : Head) (l : List ℕ) (p : Position) (r : RootLine) → StackStands T ts st.trees → root_line l ≡ Some r → at_root h p st r ≡ Ok after → WithinTaken T ts h l st after
root_taken {T = T} ts st after h l p r stands i k =
    let b = bound (root_step r p st.trees) (λ x. Ok (record st { stage = at_code h x; trees = no_trees })) after k in
    let read = root_read l r i in
    let right = root_right ts r st.trees p b.value stands read.1 b.was in
    let made = root_made ts right.root r st.trees p stands right.over right.derivation right.stands in
    let same : rooted_by right.derivation ≡ b.value = ok_same (sym made ∙ b.was) in
    a_root right.root right.derivation (subst (RootOver ts right.root) (sym read.0) (root_over right.over)) (subst (λ t. RootStands T right.root (all_shown ts) t right.derivation) (sym read.0) right.stands)
    (sym (ok_same b.is) ∙ ap (λ x. record st { stage = at_code h x; trees = no_trees }) (sym same))

pub within_taken : (T : Table) (ts : List Grown) (st after : State) (h : Head) (l : List ℕ) (p : Position) → st.table ≡ T → StackStands T ts st.trees → within_step h l p st ≡ Ok after → WithinTaken T ts h l st after
within_taken T ts st after h l p t stands k = at (node_line l) refl (root_line l) refl where
  at : (o : Option NodeLine) → node_line l ≡ o → (r : Option RootLine) → root_line l ≡ r → WithinTaken T ts h l st after
  at (Some n) i r j = node_taken ts st after h l p n stands i (sym (node_so h l p st n t i) ∙ k)
  at None i (Some r) j = root_taken ts st after h l p r stands j (sym (root_so h l p st r i j) ∙ k)
  at None i None j = let bad : ◌≡◌ {A = Result State CheckFault} (Err (faults.Line p.line)) (Ok after) = sym (no_line_so h l p st i j) ∙ k in cc

-- no line of either form
some_none : {A : Type 0} {x : A} {o : Option A} → o ≡ Some x → o ≡ None → ⊥
some_none h k = cc

unread_node : (l : List ℕ) {e : Exp} {s : ℕ} {c : Costs} {names : List Name} → node_line l ≡ None → ¬ IsNodeLine e s c names (l ++ 10 ∷ [])
unread_node l h k = some_none (read_so {l = l} k).is h

unread_root : (l : List ℕ) {ts : List Grown} {r : Root} → root_line l ≡ None → ¬ RootOver ts r (l ++ 10 ∷ [])
unread_root l h k = let over = line_over k in some_none (root_back l over.said over.small over.is) h

read_node_no_root : (l : List ℕ) {n : NodeLine} {ts : List Grown} {r : Root} → node_line l ≡ Some n → ¬ RootOver ts r (l ++ 10 ∷ [])
read_node_no_root l h k = let over = line_over k in some_none h (node_no_root l over.said over.is)

no_node : (l : List ℕ) {n : NodeLine} {ts : List Grown} → node_line l ≡ Some n → ((e : Exp) → n.form ≡ own_form e → ¬ Ends e n.level ts) → (e : Exp) (s : ℕ) (c : Costs) (names : List Name) → Ends e s ts → ¬ IsNodeLine e s c names (l ++ 10 ∷ [])
no_node l {n = n} {ts = ts} h none e s c names ends is =
    let so = read_so {l = l} is in
    let same : so.said ≡ n = some_same (sym so.is ∙ h) in
    none e (sym (ap (λ m. m.form) same) ∙ so.form) (ends_at (sym (ap (λ m. m.level) same) ∙ so.level) ends)

other_root : (l : List ℕ) {ts : List Grown} {said : RootLine} {r : Root} → root_line l ≡ Some said → RootOver ts r (l ++ 10 ∷ []) → IsRootOf said ts r
other_root l {ts = ts} {said = said} {r = r} h k =
    let over = line_over k in subst (λ q. IsRootOf q ts r) (some_same (sym (root_back l over.said over.small over.is) ∙ h)) over.over

-- the fault of a line
node_fault : (text : List ℕ) {T : Table} (js : List Judged) (ts : List Grown) (st : State) (h : Head) (l : List ℕ) (p : Position) (f : CheckFault) (n : NodeLine) → StandsAfter text js (length (all_shown ts)) p → StackStands T ts st.trees → node_line l ≡ Some n
    → node_step T n p st.trees ≡ Err f → LineFault text (nodes T js h ts) (l ++ 10 ∷ []) f
node_fault text {T = T} js ts st h l p f n place stands i k = at (node_decided n ts st.trees p (kept T ts st.trees.marks st.trees.facts st.trees.expressions st.trees.derivations stands)) where
  found : {e : Exp} (ends : Ends e n.level ts) (form : n.form ≡ own_form e) (read : NodeRead n l) (g : CheckFault) → NodeWrong T n ts read.names e ends p g → LineFault text (nodes T js h ts) (l ++ 10 ∷ []) g
  found ends form read _ (is_deep deep) = subst (LineFault text (nodes T js h ts) (l ++ 10 ∷ [])) (ap faults.TooDeep (sym place.line)) (too_deep ends (is_node_line form read) deep)
  found {e = e} ends form read _ (is_cost depth not_least) =
      subst (LineFault text (nodes T js h ts) (l ++ 10 ∷ [])) (ap (λ x. faults.WrongCost x (length (all_shown ts))) (sym place.entry) ∙ ap (faults.WrongCost p.entry) (sym place.node))
      (wrong_cost ends (is_node_line form read) depth (λ c. not_least (by_choices T e n.level n.costs c)))
  found {e = e} ends form read _ (is_rule depth least none) =
      subst (LineFault text (nodes T js h ts) (l ++ 10 ∷ [])) (ap (λ x. faults.WrongRule x (length (all_shown ts))) (sym place.entry) ∙ ap (faults.WrongRule p.entry) (sym place.node))
      (wrong_rule ends (is_node_line form read) depth (by_derivations T e n.level n.costs least) none)

  at : NodeDecision T n ts st.trees p → LineFault text (nodes T js h ts) (l ++ 10 ∷ []) f
  at (misfit wrong none) =
      subst (LineFault text (nodes T js h ts) (l ++ 10 ∷ [])) (ap faults.Line (sym place.line) ∙ err_same (sym wrong ∙ k)) (no_form (no_node l i none) (λ r. read_node_no_root l i))
  at (fits ends form) =
      let read = node_read l n i in
      let fit = fits_of_ends n ts st.trees ends (kept T ts st.trees.marks st.trees.facts st.trees.expressions st.trees.derivations stands) form in
      found ends form read f (node_wrong p read.names f fit read.rules k)

root_fault : (text : List ℕ) {T : Table} (js : List Judged) (ts : List Grown) (st : State) (h : Head) (l : List ℕ) (p : Position) (f : CheckFault) (said : RootLine) → StandsAfter text js (length (all_shown ts)) p → StackStands T ts st.trees → node_line l ≡ None
    → root_line l ≡ Some said → root_step said p st.trees ≡ Err f → LineFault text (nodes T js h ts) (l ++ 10 ∷ []) f
root_fault text {T = T} js ts st h l p f said place stands i j k = let read = root_read l said j in at read f k (root_wrong T ts said st.trees p f stands read.1 k) where
  at : (l ++ 10 ∷ [] ≡ root_text said) × RootLineIsSmall said → (g : CheckFault) → root_step said p st.trees ≡ Err g → RootWrong said ts p g → LineFault text (nodes T js h ts) (l ++ 10 ∷ []) g
  at read _ k (no_derivation {r = r} over) =
      subst (LineFault text (nodes T js h ts) (l ++ 10 ∷ [])) (ap (λ x. faults.WrongRule x (length (all_shown ts))) (sym place.entry) ∙ ap (faults.WrongRule p.entry) (sym place.node))
      (wrong_root (subst (RootOver ts r) (sym read.0) (root_over over)) (λ d is. made (root_made ts r said st.trees p stands over d (subst (λ t. RootStands T r (all_shown ts) t d) read.0 is)))) where
        made : {x : Rooted} → root_step said p st.trees ≡ Ok x → ⊥
        made m = cc
  at read _ k (no_root none) = subst (LineFault text (nodes T js h ts) (l ++ 10 ∷ [])) (ap faults.Line (sym place.line)) (no_form (λ e s c names ends. unread_node l i) (λ r over. none r (other_root l j over)))

pub within_fault : (text : List ℕ) (T : Table) (js : List Judged) (ts : List Grown) (st : State) (h : Head) (l : List ℕ) (p : Position) (f : CheckFault) → StandsAfter text js (length (all_shown ts)) p → st.table ≡ T → StackStands T ts st.trees
    → within_step h l p st ≡ Err f → LineFault text (nodes T js h ts) (l ++ 10 ∷ []) f
within_fault text T js ts st h l p f place t stands k = at (node_line l) refl (root_line l) refl where
  at : (o : Option NodeLine) → node_line l ≡ o → (r : Option RootLine) → root_line l ≡ r → LineFault text (nodes T js h ts) (l ++ 10 ∷ []) f
  at (Some n) i r j = node_fault text js ts st h l p f n place stands i (failed _ _ f (sym (node_so h l p st n t i) ∙ k))
  at None i (Some r) j = root_fault text js ts st h l p f r place stands i j (failed _ _ f (sym (root_so h l p st r i j) ∙ k))
  at None i None j =
      subst (LineFault text (nodes T js h ts) (l ++ 10 ∷ [])) (ap faults.Line (sym place.line) ∙ err_same (sym (no_line_so h l p st i j) ∙ k)) (no_form (λ e s c names ends. unread_node l i) (λ r. unread_root l j))

-- a node line is accepted if it is right
record NodeTaken (T : Table) (ts : List Grown) (st : State) (h : Head) (l : List ℕ) (p : Position) (trees : List Grown) : Type 0 where
  stack : Stack
  stands : StackStands T trees stack
  is : within_step h l p st ≡ Ok (record st { stage = at_nodes h; trees = stack; nodes = st.nodes + 1 })

node_so_made : {T : Table} {e : Exp} (ts : List Grown) (st : State) (h : Head) (l : List ℕ) (p : Position) (n : NodeLine) (rules : List Rule) → st.table ≡ T → StackStands T ts st.trees → node_line l ≡ Some n → n.form ≡ own_form e → AreNamed (map name rules) n.rules → nested e ≤ 400
    → (ends : Ends e n.level ts) → AreLeast T e n.level n.costs → StandsBy T e n.level rules (all_shown ends.own ++ node e n.level rules ∷ []) → NodeTaken T ts st h l p (ends.before ++ grown e n.level rules ends.own ∷ [])
node_so_made {T = T} ts st h l p n rules t stands i form are depth ends least by_rules =
    let fit = fits_of_ends n ts st.trees ends (kept T ts st.trees.marks st.trees.facts st.trees.expressions st.trees.derivations stands) form in
    let made = node_made p (map name rules) rules fit are refl depth least by_rules in
    record { stack = made.stack; stands = made.stands; is = node_so h l p st n t i ∙ ap (λ r. r >>= (λ ts. Ok (record st { stage = at_nodes h; trees = ts; nodes = st.nodes + 1 }))) made.is }

costs_room : {T : Table} {e : Exp} {s : ℕ} {c : Costs} {rules : List Rule} → AreLeast T e s c → NodeHasRoom T (node e s rules) → CostsHaveRoom c
costs_room least room =
    record {
      any = subst (λ o. IfSome o IsNumber) (least.words (Gets Any)) (room.words (Gets Any));
      push = subst (λ o. IfSome o IsNumber) (least.words (Gets Push)) (room.words (Gets Push));
      on_false = subst (λ o. IfSome o IsNumber) (least.words (Jumps false)) (room.words (Jumps false));
      on_true = subst (λ o. IfSome o IsNumber) (least.words (Jumps true)) (room.words (Jumps true));
    }

node_line_of : {T : Table} {e : Exp} {s : ℕ} {c : Costs} (l : List ℕ) (rules : List Rule) → AreLeast T e s c → NodeHasRoom T (node e s rules) → l ++ 10 ∷ [] ≡ line_of_node T (node e s rules) → IsNodeLine e s c (map name rules) (l ++ 10 ∷ [])
node_line_of l rules least room text = record { level = room.level; number = room.number; costs = costs_room least room; all_names = rules_are_names rules; is = text ∙ sym (node_text rules least refl) }

pub within_node : (T : Table) (ts : List Grown) (st : State) (h : Head) (l : List ℕ) (p : Position) (e : Exp) (s : ℕ) (rules : List Rule) → st.table ≡ T → StackStands T ts st.trees → (ends : Ends e s ts) → NodeHasRoom T (node e s rules)
    → StandsBy T e s rules (all_shown ends.own ++ node e s rules ∷ []) → l ++ 10 ∷ [] ≡ line_of_node T (node e s rules)
    → (x : Stack) × (StackStands T (ends.before ++ grown e s rules ends.own ∷ []) x × (within_step h l p st ≡ Ok (record st { stage = at_nodes h; trees = x; nodes = st.nodes + 1 })))
within_node T ts st h l p e s rules t stands ends room by_rules text =
    let c = least_costs T e s in
    let so = read_so {l = l} (node_line_of l rules c.1 room text) in
    let taken = at so in
    let made = taken ends c.1 by_rules in
    (made.stack, (made.stands, made.is)) where
      Goal : ℕ → Costs → Type 0
      Goal k d = (ends : Ends e k ts) → AreLeast T e k d → StandsBy T e k rules (all_shown ends.own ++ node e k rules ∷ []) → NodeTaken T ts st h l p (ends.before ++ grown e k rules ends.own ∷ [])

      at : {d : Costs} → ReadSo l e s d (map name rules) → (ends : Ends e s ts) → AreLeast T e s d → StandsBy T e s rules (all_shown ends.own ++ node e s rules ∷ []) → NodeTaken T ts st h l p (ends.before ++ grown e s rules ends.own ∷ [])
      at so = subst (Goal s) so.costs (subst (λ k. Goal k so.said.costs) so.level (node_so_made ts st h l p so.said rules t stands so.is so.form so.rules room.depth))

pub within_root : (T : Table) (ts : List Grown) (st : State) (h : Head) (l : List ℕ) (p : Position) (r : Root) (d : RootDerives T r) → StackStands T ts st.trees → RootOver ts r (l ++ 10 ∷ []) → RootStands T r (all_shown ts) (l ++ 10 ∷ []) d
    → within_step h l p st ≡ Ok (record st { stage = at_code h (rooted_by d); trees = no_trees })
within_root T ts st h l p r d stands over is =
    let said = line_over over in
    root_so h l p st said.said (node_no_root l said.said said.is) (root_back l said.said said.small said.is)
    ∙ ap (λ x. x >>= (λ y. Ok (record st { stage = at_code h y; trees = no_trees }))) (root_made ts r said.said st.trees p stands said.over d (subst (λ t. RootStands T r (all_shown ts) t d) said.is is))

-- and a fault of the relations is the step's
either : {A : Type 0} (r : Result A CheckFault) (f : CheckFault) → ((x : A) → r ≡ Ok x → ⊥) → ((g : CheckFault) → r ≡ Err g → g ≡ f) → r ≡ Err f
either (Ok x) f h k = absurd (h x refl)
either (Err g) f h k = ap (λ z. Err z) (k g refl)

node_fails : {T : Table} {e : Exp} (ts : List Grown) (st : State) (h : Head) (l : List ℕ) (p : Position) (f : CheckFault) (n : NodeLine) (names : List Name) → st.table ≡ T → StackStands T ts st.trees → node_line l ≡ Some n → n.form ≡ own_form e → AreNamed names n.rules
    → (ends : Ends e n.level ts) → ((y : Stack) → NodeRight T n ts names e ends y → ⊥) → ((g : CheckFault) → NodeWrong T n ts names e ends p g → g ≡ f) → within_step h l p st ≡ Err f
node_fails {T = T} ts st h l p f n names t stands i form are ends not_right wrong =
    let fit = fits_of_ends n ts st.trees ends (kept T ts st.trees.marks st.trees.facts st.trees.expressions st.trees.derivations stands) form in
    node_so h l p st n t i
    ∙ ap (λ r. r >>= (λ ts. Ok (record st { stage = at_nodes h; trees = ts; nodes = st.nodes + 1 })))
    (either (node_step T n p st.trees) f (λ y k. not_right y (node_right p names y fit are k)) (λ g k. wrong g (node_wrong p names g fit are k)))

deep_fault : {T : Table} {e : Exp} {n : NodeLine} {ts : List Grown} {names : List Name} {ends : Ends e n.level ts} {p : Position} {g : CheckFault} → 400 < nested e → NodeWrong T n ts names e ends p g → g ≡ faults.TooDeep p.line
deep_fault h (is_deep k) = refl
deep_fault h (is_cost k not_least) = absurd (omega (arith, h, k))
deep_fault h (is_rule k least none) = absurd (omega (arith, h, k))

cost_fault : {T : Table} {e : Exp} {n : NodeLine} {ts : List Grown} {names : List Name} {ends : Ends e n.level ts} {p : Position} {g : CheckFault} → nested e ≤ 400 → ¬ AreLeast T e n.level n.costs → NodeWrong T n ts names e ends p g → g ≡ faults.WrongCost p.entry p.node
cost_fault h not_least (is_deep k) = absurd (omega (arith, h, k))
cost_fault h not_least (is_cost k no_cost) = refl
cost_fault h not_least (is_rule k least none) = absurd (not_least least)

rule_fault : {T : Table} {e : Exp} {n : NodeLine} {ts : List Grown} {names : List Name} {ends : Ends e n.level ts} {p : Position} {g : CheckFault} → nested e ≤ 400 → AreLeast T e n.level n.costs → NodeWrong T n ts names e ends p g → g ≡ faults.WrongRule p.entry p.node
rule_fault h least (is_deep k) = absurd (omega (arith, h, k))
rule_fault h least (is_cost k not_least) = absurd (not_least least)
rule_fault h least (is_rule k other none) = refl

too_deep_fails : {T : Table} {e : Exp} {s : ℕ} {c : Costs} {names : List Name} (ts : List Grown) (st : State) (h : Head) (l : List ℕ) (p : Position) → st.table ≡ T → StackStands T ts st.trees → Ends e s ts → IsNodeLine e s c names (l ++ 10 ∷ []) → 400 < nested e
    → within_step h l p st ≡ Err (faults.TooDeep p.line)
too_deep_fails {names = names} ts st h l p t stands ends is deep =
    let so = read_so {l = l} is in
    node_fails ts st h l p (faults.TooDeep p.line) so.said names t stands so.is so.form so.rules (ends_at so.level ends) (λ y right. let k = right.depth in omega (arith, deep, k)) (λ g wrong. deep_fault deep wrong)

wrong_cost_fails : {T : Table} {e : Exp} {s : ℕ} {c : Costs} {names : List Name} (ts : List Grown) (st : State) (h : Head) (l : List ℕ) (p : Position) → st.table ≡ T → StackStands T ts st.trees → Ends e s ts → IsNodeLine e s c names (l ++ 10 ∷ []) → nested e ≤ 400 → ¬ AreLeastCosts T e s c
    → within_step h l p st ≡ Err (faults.WrongCost p.entry p.node)
wrong_cost_fails {T = T} {e = e} {s = s} {c = c} {names = names} ts st h l p t stands ends is depth not_least =
    let so = read_so {l = l} is in
    let none : ¬ AreLeast T e so.said.level so.said.costs = λ least. not_least (by_derivations T e s c (subst (AreLeast T e s) so.costs (subst (λ k. AreLeast T e k so.said.costs) so.level least))) in
    node_fails ts st h l p (faults.WrongCost p.entry p.node) so.said names t stands so.is so.form so.rules (ends_at so.level ends) (λ y right. none right.least) (λ g wrong. cost_fault depth none wrong)

wrong_rule_fails : {T : Table} {e : Exp} {s : ℕ} {c : Costs} {names : List Name} (ts : List Grown) (st : State) (h : Head) (l : List ℕ) (p : Position) → st.table ≡ T → StackStands T ts st.trees → (ends : Ends e s ts) → IsNodeLine e s c names (l ++ 10 ∷ []) → nested e ≤ 400 → AreLeastCosts T e s c
    → ((rules : List Rule) → names ≡ map name rules → ¬ StandsBy T e s rules (all_shown ends.own ++ node e s rules ∷ [])) → within_step h l p st ≡ Err (faults.WrongRule p.entry p.node)
wrong_rule_fails {T = T} {e = e} {s = s} {c = c} {names = names} ts st h l p t stands ends is depth least none = at (read_so {l = l} is) ends (by_choices T e s c least) none where
  Goal : ℕ → Costs → Type 0
  Goal k d = (ends : Ends e k ts) → AreLeast T e k d → ((rules : List Rule) → names ≡ map name rules → ¬ StandsBy T e k rules (all_shown ends.own ++ node e k rules ∷ [])) → within_step h l p st ≡ Err (faults.WrongRule p.entry p.node)

  at : ReadSo l e s c names → (ends : Ends e s ts) → AreLeast T e s c → ((rules : List Rule) → names ≡ map name rules → ¬ StandsBy T e s rules (all_shown ends.own ++ node e s rules ∷ [])) → within_step h l p st ≡ Err (faults.WrongRule p.entry p.node)
  at so =
      subst (Goal s) so.costs (subst (λ k. Goal k so.said.costs) so.level (λ ends least none.
      node_fails ts st h l p (faults.WrongRule p.entry p.node) so.said names t stands so.is so.form so.rules ends (λ y right. none right.rules right.names_are right.stands) (λ g wrong. rule_fault depth least wrong)))

wrong_root_fails : {T : Table} {r : Root} (ts : List Grown) (st : State) (h : Head) (l : List ℕ) (p : Position) → StackStands T ts st.trees → RootOver ts r (l ++ 10 ∷ []) → ((d : RootDerives T r) → ¬ RootStands T r (all_shown ts) (l ++ 10 ∷ []) d)
    → within_step h l p st ≡ Err (faults.WrongRule p.entry p.node)
wrong_root_fails {T = T} {r = r} ts st h l p stands over none =
    let said = line_over over in
    root_so h l p st said.said (node_no_root l said.said said.is) (root_back l said.said said.small said.is)
    ∙ ap (λ x. x >>= (λ y. Ok (record st { stage = at_code h y; trees = no_trees })))
    (either (root_step said.said p st.trees) (faults.WrongRule p.entry p.node) (λ y k. at said (root_right ts said.said st.trees p y stands said.small k)) (λ g k. wrong said.over (root_wrong T ts said.said st.trees p g stands said.small k))) where
      Goal : Root → Type 0
      Goal q = (d : RootDerives T q) → ¬ RootStands T q (all_shown ts) (l ++ 10 ∷ []) d

      at : (said : LineOver ts r (l ++ 10 ∷ [])) → RootRight T said.said ts → ⊥
      at said right = subst Goal (one_root said.over right.over) none right.derivation (subst (λ t. RootStands T right.root (all_shown ts) t right.derivation) (sym said.is) right.stands)

      wrong : {said : RootLine} {g : CheckFault} → IsRootOf said ts r → RootWrong said ts p g → g ≡ faults.WrongRule p.entry p.node
      wrong over (no_derivation other) = refl
      wrong over (no_root none) = absurd (none r over)

no_form_fails : {T : Table} (ts : List Grown) (st : State) (h : Head) (l : List ℕ) (p : Position) → st.table ≡ T → StackStands T ts st.trees → ((e : Exp) (s : ℕ) (c : Costs) (names : List Name) → Ends e s ts → ¬ IsNodeLine e s c names (l ++ 10 ∷ [])) → ((r : Root) → ¬ RootOver ts r (l ++ 10 ∷ []))
    → within_step h l p st ≡ Err (faults.Line p.line)
no_form_fails {T = T} ts st h l p t stands no_nodes no_roots = at (node_line l) refl (root_line l) refl where
  decision : (n : NodeLine) → node_line l ≡ Some n → NodeDecision T n ts st.trees p → node_step T n p st.trees ≡ Err (faults.Line p.line)
  decision n i (misfit wrong none) = wrong
  decision n i (fits {e = e} ends form) = let read = node_read l n i in absurd (no_nodes e n.level n.costs read.names ends (is_node_line form read))

  fault : (said : RootLine) → (g : CheckFault) → l ++ 10 ∷ [] ≡ root_text said → RootWrong said ts p g → g ≡ faults.Line p.line
  fault said _ text (no_derivation {r = r} over) = absurd (no_roots r (subst (RootOver ts r) (sym text) (root_over over)))
  fault said _ text (no_root none) = refl

  at : (o : Option NodeLine) → node_line l ≡ o → (r : Option RootLine) → root_line l ≡ r → within_step h l p st ≡ Err (faults.Line p.line)
  at (Some n) i r j =
      node_so h l p st n t i
      ∙ ap (λ r. r >>= (λ ts. Ok (record st { stage = at_nodes h; trees = ts; nodes = st.nodes + 1 })))
      (decision n i (node_decided n ts st.trees p (kept T ts st.trees.marks st.trees.facts st.trees.expressions st.trees.derivations stands)))
  at None i (Some said) j =
      let read = root_read l said j in
      root_so h l p st said i j
      ∙ ap (λ x. x >>= (λ y. Ok (record st { stage = at_code h y; trees = no_trees })))
      (either (root_step said p st.trees) (faults.Line p.line) (λ y k. let right = root_right ts said st.trees p y stands read.1 k in no_roots right.root (subst (RootOver ts right.root) (sym read.0) (root_over right.over)))
      (λ g k. fault said g read.0 (root_wrong T ts said st.trees p g stands read.1 k)))
  at None i None j = no_line_so h l p st i j

wrong_at : {js : List Judged} {text : List ℕ} {p : Position} (ts : List Grown) → StandsAfter text js (length (all_shown ts)) p → faults.WrongRule p.entry p.node ≡ faults.WrongRule (length js) (length (all_shown ts))
wrong_at {p = p} ts place = ap (faults.WrongRule p.entry) place.node ∙ ap (λ x. faults.WrongRule x (length (all_shown ts))) place.entry

pub within_fails : (text : List ℕ) (T : Table) (js : List Judged) (ts : List Grown) (st : State) (h : Head) (l m : List ℕ) (p : Position) (f : CheckFault) → StandsAfter text js (length (all_shown ts)) p → st.table ≡ T → StackStands T ts st.trees
    → m ≡ l ++ 10 ∷ [] → LineFault text (nodes T js h ts) m f → within_step h l p st ≡ Err f
within_fails text T js ts st h l m p f place t stands i (no_form no_nodes no_roots) =
    no_form_fails ts st h l p t stands (λ e s c names ends is. no_nodes e s c names ends (subst (IsNodeLine e s c names) (sym i) is)) (λ r over. no_roots r (subst (RootOver ts r) (sym i) over))
    ∙ ap (λ x. Err (faults.Line x)) place.line
within_fails text T js ts st h l m p f place t stands i (too_deep {e = e} {s = s} {c = c} {names = names} ends is deep) =
    too_deep_fails ts st h l p t stands ends (subst (IsNodeLine e s c names) i is) deep ∙ ap (λ x. Err (faults.TooDeep x)) place.line
within_fails text T js ts st h l m p f place t stands i (wrong_cost {e = e} {s = s} {c = c} {names = names} ends is depth not_least) =
    wrong_cost_fails ts st h l p t stands ends (subst (IsNodeLine e s c names) i is) depth not_least
    ∙ ap (λ x. Err (faults.WrongCost p.entry x)) place.node ∙ ap (λ x. Err (faults.WrongCost x (length (all_shown ts)))) place.entry
within_fails text T js ts st h l m p f place t stands i (wrong_rule {e = e} {s = s} {c = c} {names = names} ends is depth least none) =
    wrong_rule_fails ts st h l p t stands ends (subst (IsNodeLine e s c names) i is) depth least none ∙ ap (λ x. Err x) (wrong_at ts place)
within_fails text T js ts st h l m p f place t stands i (wrong_root {r = r} over none) =
    wrong_root_fails ts st h l p stands (subst (RootOver ts r) i over) (λ d is. none d (subst (λ x. RootStands T r (all_shown ts) x d) (sym i) is)) ∙ ap (λ x. Err x) (wrong_at ts place)
