-- For proofs: what node lines and a root line do to the stack of trees, computed as the program does it.
use Rattle.std.specs.Prelude.{◌≡◌, ℕ, ◌+◌, ◌-◌, ◌==◌, Bool, true, false, ◌&&◌, ◌||◌, cond, nat_lt, nat_le, length, take, drop, List, [], ◌∷◌, ◌++◌, Option, Some, None, Result, Ok, Err}
use Rattle.bc_cert_defs.specs.declared.check_fault.CheckFault.{CheckFault}
use Rattle.bc_cert_defs.specs.declared.check_fault.CheckFault.TheVariants.{Line, TooDeep, WrongRule}
use Rattle.bc_core.specs.Tree.{Exp, Root, Value, Test, Assign}
use Rattle.bc_rules_defs.specs.declared.rule.Mode.TheVariants.{Any}
use Rattle.bc_rules_defs.specs.declared.rule.Aim.TheVariants.{Gets, Jumps}
use Rattle.bc_rules_defs.specs.declared.rule.Rule.{Rule}
use Rattle.bc_rules_defs.specs.declared.rule.Rule.TheVariants.{A1, A2}
use Rattle.bc_rules_defs.specs.declared.rule.Table.{Table}
use Rattle.bc_rules_defs.specs.Rules.{Tree, by, one, two}
use Rattle.bc_select_defs.specs.Choices.{zero_number}
use Rattle.bc_cert_read.specs.declared.facts.Facts.{Facts}
use Rattle.bc_cert_read.specs.Form.{parts_of, calls_itself}
use Rattle.bc_cert_read.specs.Node.{Node}
use Rattle.bc_cert_read.specs.Recipe.{facts_of, words_of_operand_of}
use Rattle.bc_cert_read.specs.declared.chain.Rules.{Rules}
use Rattle.bc_cert_read.specs.declared.chain.Rules.TheVariants.{Taken}
use Rattle.bc_cert_read.specs.declared.lines.NodeLine.{NodeLine}
use Rattle.bc_cert_read.specs.declared.lines.RootLine.TheVariants as lines
use Rattle.bc_cert_read.specs.declared.lines.RootLine.{RootLine}
use Rattle.bc_cert_read.specs.declared.mark.TreeFacts.{TreeFacts}
use Rattle.bc_cert_read.specs.declared.mark.Shown.{Shown}
use Rattle.bc_cert_read.specs.declared.position.Position.{Position}
use Rattle.bc_cert_read.specs.Marks.{has_aim, levels_fit, depth_over, all_bare}
use Rattle.bc_cert_read.specs.Showing.{judged}
use Rattle.bc_cert_read.specs.Wholes.{whole}
use Rattle.bc_cert_read.specs.Derived.{derived}
use Rattle.bc_cert_read.specs.Sides.{words_by, least_of, same}

infixl 10 ◌>>=◌
abbrev pub ◌>>=◌ : {A B : Type 0} → Result A CheckFault → (A → Result B CheckFault) → Result B CheckFault
(Ok x) >>= f = f x
(Err e) >>= f = Err e

-- the trees of an entry that aren't parts of another one yet, in the order of their lines
pub record Stack : Type 0 where
  pub marks : List TreeFacts
  pub facts : List Facts
  pub expressions : List Exp
  pub derivations : List Tree

abbrev pub no_trees : Stack
no_trees = record { marks = []; facts = []; expressions = []; derivations = [] }

-- the four lists have the same length
pub record AreParallel (st : Stack) : Type 0 where
  pub marks : length st.marks ≡ length st.facts
  pub expressions : length st.expressions ≡ length st.facts
  pub derivations : length st.derivations ≡ length st.facts

abbrev pub fitting : NodeLine → List TreeFacts → Position → Result ℕ CheckFault
fitting line ms p = cond (levels_fit line.level line.form ms) (cond (nat_le (depth_over ms) 400) (Ok (depth_over ms)) (Err (TooDeep p.line)))
    (Err (Line p.line))

abbrev pub any_calls : List Facts → Bool
any_calls [] = false
any_calls (f ∷ fs) = cond f.calls true (any_calls fs)

abbrev pub second_zero : List Facts → Bool
second_zero (f ∷ g ∷ fs) = zero_number g.constant
second_zero _ = false

abbrev pub is_taken : Rules → Bool
is_taken Taken = true
is_taken _ = false

abbrev pub line_node : Table → NodeLine → Exp → List Facts → Node
line_node T line e ps = record { table = T; level = line.level; form = line.form; operand = words_of_operand_of e; parts = ps }

abbrev pub new_mark : NodeLine → ℕ → Shown → List TreeFacts → TreeFacts
new_mark line depth shown ms = record { level = line.level; depth = depth; shown = shown; is_bare = is_taken line.rules && all_bare ms }

abbrev pub new_facts : NodeLine → Exp → List Facts → Facts
new_facts line e ps = facts_of e (calls_itself line.form || any_calls ps) line.costs

abbrev pub with_whole : {A : Type 0} → Position → Option A → Result A CheckFault
with_whole p None = Err (Line p.line)
with_whole p (Some e) = Ok e

-- A node whose parts are the trees from an index on: their expressions are removed first, then its own tree replaces them.
abbrev pub without_expressions : ℕ → Stack → Stack
without_expressions at st = record st { expressions = take at st.expressions }

abbrev pub derived_over : NodeLine → Stack → ℕ → Stack
derived_over line st at = record st {
  derivations = take at st.derivations ++ derived line.rules (second_zero (drop at st.facts)) (drop at st.derivations)
      ∷ [];
}

abbrev pub seen_over : NodeLine → Exp → ℕ → ℕ → Shown → Stack → Stack
seen_over line e at depth shown st = record {
  marks = take at st.marks ++ new_mark line depth shown (drop at st.marks) ∷ [];
  facts = take at st.facts ++ new_facts line e (drop at st.facts) ∷ [];
  expressions = st.expressions;
  derivations = st.derivations;
}

abbrev pub put_over : NodeLine → Stack → ℕ → ℕ → Exp → Shown → Stack
put_over line st at depth e shown = record {
  marks = take at st.marks ++ new_mark line depth shown (drop at st.marks) ∷ [];
  facts = take at st.facts ++ new_facts line e (drop at st.facts) ∷ [];
  expressions = st.expressions ++ e ∷ [];
  derivations = take at st.derivations ++ derived line.rules (second_zero (drop at st.facts)) (drop at st.derivations) ∷ [];
}

abbrev pub node_judged_over : Table → NodeLine → Position → Stack → ℕ → ℕ → Exp → Result Stack CheckFault
node_judged_over T line p st at depth e = judged (line_node T line e (drop at st.facts)) (drop at st.marks) line p >>=
    (λ shown. Ok (put_over line st at depth e shown))

abbrev pub node_whole : Table → NodeLine → Position → Stack → ℕ → ℕ → Result Stack CheckFault
node_whole T line p st at depth =
    with_whole p (whole line.form (drop at st.expressions)) >>= (λ e. node_judged_over T line p (without_expressions at st) at depth e)

abbrev pub node_from : Table → NodeLine → Position → Stack → ℕ → Result Stack CheckFault
node_from T line p st at = fitting line (drop at st.marks) p >>= (λ depth. node_whole T line p st at depth)

abbrev pub node_step : Table → NodeLine → Position → Stack → Result Stack CheckFault
node_step T line p st = cond (nat_lt (length st.facts) (parts_of line.form)) (Err (Line p.line)) (node_from T line p st (length st.facts - parts_of line.form))

-- one tree of the stack
pub record One : Type 0 where
  pub mark : TreeFacts
  pub facts : Facts
  pub expression : Exp
  pub derivation : Tree

abbrev pub one_among : List TreeFacts → List Facts → List Exp → List Tree → Option One
one_among (m ∷ []) (f ∷ []) (e ∷ []) (x ∷ []) = Some (record { mark = m; facts = f; expression = e; derivation = x })
one_among _ _ _ _ = None

abbrev pub one_tree : Stack → Option One
one_tree st = one_among st.marks st.facts st.expressions st.derivations

abbrev pub two_among : List TreeFacts → List Facts → List Exp → List Tree → Option (One × One)
two_among (m ∷ n ∷ []) (f ∷ g ∷ []) (e ∷ h ∷ []) (x ∷ y ∷ []) =
    Some (record { mark = m; facts = f; expression = e; derivation = x }, record { mark = n; facts = g; expression = h; derivation = y })
two_among _ _ _ _ = None

abbrev pub two_trees : Stack → Option (One × One)
two_trees st = two_among st.marks st.facts st.expressions st.derivations

-- a root with its derivation and its least words
pub record Rooted : Type 0 where
  pub root : Root
  pub derivation : Tree
  pub words : ℕ

abbrev pub wrong_rule : {A : Type 0} → Position → Result A CheckFault
wrong_rule p = Err (WrongRule p.entry p.node)

abbrev pub value_root : Position → One → Result Rooted CheckFault
value_root p o = cond (has_aim o.mark.shown (Gets Any))
    (Ok (record { root = Value o.mark.level o.expression; derivation = o.derivation; words = o.facts.costs.any })) (wrong_rule p)

abbrev pub words_on : Bool → Facts → ℕ
words_on false f = f.costs.on_false
words_on true f = f.costs.on_true

abbrev pub test_root : Bool → Position → One → Result Rooted CheckFault
test_root sense p o = cond (has_aim o.mark.shown (Jumps sense))
    (Ok (record { root = Test o.mark.level sense o.expression; derivation = o.derivation; words = words_on sense o.facts })) (wrong_rule p)

-- the level of the sides of an assignment
abbrev pub side : Option ℕ → ℕ → ℕ
side None s = s + 1
side (Some o) s = s

abbrev pub is_operand_rule : Rule → Bool
is_operand_rule A1 = true
is_operand_rule _ = false

abbrev pub sides_show : Rule → TreeFacts → TreeFacts → Bool
sides_show r v a = has_aim v.shown (Gets Any) && cond (is_operand_rule r) a.is_bare (has_aim a.shown (Gets Any))

abbrev pub assigned : Rule → Tree → Tree → Tree
assigned A1 v a = by A1 (one v)
assigned A2 v a = by A2 (two a v)
assigned r v a = by r (two v a)

abbrev pub with_least : Rule → ℕ → Position → One → One → Option ℕ → Result Rooted CheckFault
with_least r s p v a None = wrong_rule p
with_least r s p v a (Some n) =
    cond (sides_show r v.mark a.mark)
    (Ok (record { root = Assign s v.expression a.expression; derivation = assigned r v.derivation a.derivation; words = n })) (wrong_rule p)

abbrev pub assign_root : Rule → ℕ → Position → One × One → Result Rooted CheckFault
assign_root r s p q =
    cond (q.0.mark.level == side q.1.facts.operand s && q.1.mark.level == side q.1.facts.operand s)
    (with_least r s p q.0 q.1 (same (words_by s q.0.facts q.1.facts r) (least_of s q.0.facts q.1.facts)))
    (Err (Line p.line))

-- the root that the trees make
abbrev pub root_step : RootLine → Position → Stack → Result Rooted CheckFault
root_step lines.Value p st = with_whole p (one_tree st) >>= (λ o. value_root p o)
root_step (lines.Test sense) p st = with_whole p (one_tree st) >>= (λ o. test_root sense p o)
root_step (lines.Assign r s) p st = with_whole p (two_trees st) >>= (λ q. assign_root r s p q)
