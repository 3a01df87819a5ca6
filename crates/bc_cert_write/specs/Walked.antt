-- For proofs: the nodes of an expression in order, each with its tree of rule names, computed as the program does it.
use Rattle.std.specs.Prelude.{ℕ, ◌+◌, Bool, true, false, cond, Option, Some, None, List, [], ◌∷◌, ◌++◌}
use Rattle.std.specs.Borrow.{Bor}
use Rattle.bc_core.specs.Tree.{Exp, Num, Frame, Glob, Place, Load, Neg, Not, Bin, Cond, Call, Valof, Args, no_argument, argument, count, Root, Value, Test, Assign}
use Rattle.bc_core.specs.Level.{side_level}
use Rattle.bc_word.specs.Words.{number_of}
use Rattle.bc_rules_defs.specs.declared.derivation.Derivation.{Derivation}
use Rattle.bc_rules_defs.specs.declared.rule.Mode.TheVariants.{Any}
use Rattle.bc_rules_defs.specs.declared.rule.Aim.TheVariants.{Gets}
use Rattle.bc_rules_defs.specs.declared.rule.Rule.{Rule}
use Rattle.bc_rules_defs.specs.declared.rule.Rule.TheVariants.{V0, J6}
use Rattle.bc_rules_defs.specs.declared.takes.Takes.{Takes}
use Rattle.bc_rules_defs.specs.declared.takes.Takes.TheVariants as taken
use Rattle.bc_rules_defs.specs.Free.{is_zero}
use Rattle.bc_rules_defs.specs.Takes.{takes}
use Rattle.bc_rules_defs.specs.Rules.{Tree, Trees, by, no_part, part}
use Rattle.bc_rules_defs.specs.View.{derivation}
use Rattle.bc_cert_write.specs.declared.chain.Chain.{Chain}
use Rattle.bc_cert_write.specs.declared.chain.Chain.TheVariants as chains
use Rattle.bc_cert_write.specs.declared.form.Form.{Form}
use Rattle.bc_cert_write.specs.declared.form.Form.TheVariants as forms
use Rattle.bc_cert_write.specs.declared.mark.NodeMark.{NodeMark}
use Rattle.bc_cert_write.specs.declared.slot.Slot.{Slot}
use Rattle.bc_cert_write.specs.declared.slot.Slot.TheVariants as slots

-- the program's trees as those of the definitions
abbrev pub tree_of : Option (Bor Derivation) → Option Tree
tree_of None = None
tree_of (Some d) = Some (derivation d.now)

abbrev pub first : Trees → Option Tree
first no_part = None
first (part x xs) = Some x

abbrev pub rest : Trees → Trees
rest no_part = no_part
rest (part x xs) = xs

abbrev pub parts : Option Tree → Trees
parts None = no_part
parts (Some (by r xs)) = xs

abbrev pub top_of : Option Tree → Option Rule
top_of None = None
top_of (Some (by r xs)) = Some r

-- a tree without its outer rules J6 and V0, which apply at the same node as the rule below them
abbrev pub is_v0 : Rule → Bool
is_v0 V0 = true
is_v0 _ = false

abbrev pub is_j6 : Rule → Bool
is_j6 J6 = true
is_j6 _ = false

abbrev pub following : (Rule → Bool) → Option Tree → Option Tree
following skips None = None
following skips (Some (by r xs)) = cond (skips r) (first xs) (Some (by r xs))

abbrev pub own : Option Tree → Option Tree
own x = following is_v0 (following is_j6 x)

-- the tree of this part of a rule
abbrev pub at_slot : Slot → Trees → Option Tree
at_slot slots.Nowhere xs = None
at_slot slots.First xs = first xs
at_slot slots.Second xs = first (rest xs)
at_slot slots.Third xs = first (rest (rest xs))

abbrev pub placed : (Rule → Slot) → Option Tree → Option Tree
placed slot None = None
placed slot (Some (by r xs)) = at_slot (slot r) xs

-- which part of a rule derives the first, second or third part of a node
abbrev pub first_slot : Takes → Slot
first_slot taken.Nothing = slots.Nowhere
first_slot (taken.First aim) = slots.First
first_slot (taken.Second aim) = slots.Nowhere
first_slot (taken.InOrder f g) = slots.First
first_slot (taken.Turned f g) = slots.Second
first_slot (taken.Choice sense) = slots.First
first_slot taken.Call = slots.First

abbrev pub second_slot : Takes → Slot
second_slot taken.Nothing = slots.Nowhere
second_slot (taken.First aim) = slots.Nowhere
second_slot (taken.Second aim) = slots.First
second_slot (taken.InOrder f g) = slots.Second
second_slot (taken.Turned f g) = slots.First
second_slot (taken.Choice false) = slots.Second
second_slot (taken.Choice true) = slots.Third
second_slot taken.Call = slots.Second

abbrev pub third_slot : Takes → Slot
third_slot (taken.Choice false) = slots.Third
third_slot (taken.Choice true) = slots.Second
third_slot taken.Call = slots.Third
third_slot _ = slots.Nowhere

-- the same for a rule; zero says whether the second part of the node is the number 0
abbrev pub first_place : (zero : Bool) → Rule → Slot
first_place zero r = first_slot (takes r (Gets Any) zero)

abbrev pub second_place : (zero : Bool) → Rule → Slot
second_place zero r = second_slot (takes r (Gets Any) zero)

abbrev pub third_place : Rule → Slot
third_place r = third_slot (takes r (Gets Any) false)

-- the trees after those of the arguments
abbrev pub after_arguments : Args → Trees → Trees
after_arguments no_argument xs = xs
after_arguments (argument e es) xs = after_arguments es (rest xs)

-- the nodes, each passed to f; x is the tree of the whole, y is x without outer rules J6 and V0
abbrev pub ended_with : {X : Type 0} → (Exp → ℕ → Option Tree → X) → List X → Exp → ℕ → Option Tree → List X
ended_with f ns e s x = ns ++ f e s x ∷ []

abbrev mutual
  pub below_with : {X : Type 0} → (Exp → ℕ → Option Tree → X) → Exp → ℕ → Option Tree → List X
  below_with f (Load e) s y = ended_with f (below_with f e s (own (placed (first_place false) y))) e s (placed (first_place false) y)
  below_with f (Neg e) s y = ended_with f (below_with f e s (own (placed (first_place false) y))) e s (placed (first_place false) y)
  below_with f (Not e) s y = ended_with f (below_with f e s (own (placed (first_place false) y))) e s (placed (first_place false) y)
  below_with f (Bin op a b) s y = ended_with f (below_with f a (s + 1) (own (placed (first_place (is_zero b)) y))) a (s + 1)
      (placed (first_place (is_zero b)) y) ++ ended_with f (below_with f b (s + 1) (own (placed (second_place (is_zero b)) y))) b (s + 1)
      (placed (second_place (is_zero b)) y)
  below_with f (Cond c x z) s y =
      (ended_with f (below_with f c s (own (placed (first_place false) y))) c s (placed (first_place false) y)
      ++ ended_with f (below_with f x s (own (placed (second_place false) y))) x s (placed (second_place false) y))
      ++ ended_with f (below_with f z s (own (placed third_place y))) z s (placed third_place y)
  below_with f (Call es e) s y = all_with f es (s + 2) (parts y)
      ++ ended_with f (below_with f e (s + 2 + count es) (own (first (after_arguments es (parts y))))) e (s + 2 + count es)
      (first (after_arguments es (parts y)))
  below_with f _ s y = []

  pub all_with : {X : Type 0} → (Exp → ℕ → Option Tree → X) → Args → ℕ → Trees → List X
  all_with f no_argument s xs = []
  all_with f (argument e es) s xs = ended_with f (below_with f e s (own (first xs))) e s (first xs) ++ all_with f es (s + 1) (rest xs)

abbrev pub whole_with : {X : Type 0} → (Exp → ℕ → Option Tree → X) → Exp → ℕ → Option Tree → List X
whole_with f e s x = ended_with f (below_with f e s (own x)) e s x

-- the same for a root; of an assignment the nodes of the value come first
abbrev pub root_with : {X : Type 0} → (Exp → ℕ → Option Tree → X) → Root → Tree → List X
root_with f (Value s e) x = whole_with f e s (Some x)
root_with f (Test s sense e) x = whole_with f e s (Some x)
root_with f (Assign s v a) x =
    whole_with f v (side_level a s) (placed (first_place false) (Some x)) ++ whole_with f a (side_level a s) (placed (second_place false) (Some x))

-- the rules at one node, the outermost first
abbrev pub after_value : Option Rule → Chain
after_value None = chains.One V0
after_value (Some r) = chains.Two V0 r

abbrev pub chain_of_value : Option Tree → Chain
chain_of_value None = chains.Nothing
chain_of_value (Some (by r xs)) = cond (is_v0 r) (after_value (top_of (first xs))) (chains.One r)

abbrev pub after_test : Chain → Chain
after_test chains.Nothing = chains.One J6
after_test (chains.One r) = chains.Two J6 r
after_test (chains.Two r q) = chains.Three J6 r q
after_test (chains.Three r q p) = chains.Three r q p

abbrev pub chain_of : Option Tree → Chain
chain_of None = chains.Nothing
chain_of (Some (by r xs)) = cond (is_j6 r) (after_test (chain_of_value (first xs))) (chain_of_value (Some (by r xs)))

abbrev pub rules_of : Chain → List Rule
rules_of chains.Nothing = []
rules_of (chains.One r) = r ∷ []
rules_of (chains.Two r q) = r ∷ q ∷ []
rules_of (chains.Three r q p) = r ∷ q ∷ p ∷ []

-- the form of an expression, without its parts
abbrev pub form_of : Exp → Form
form_of (Num n) = forms.Num n
form_of (Frame k) = forms.Frame k
form_of (Glob n) = forms.Glob n
form_of (Place m) = forms.Place m
form_of (Load e) = forms.Load
form_of (Neg e) = forms.Neg
form_of (Not e) = forms.Not
form_of (Bin op a b) = forms.Operator (number_of op)
form_of (Cond c x y) = forms.Cond
form_of (Call es f) = forms.Call (count es)
form_of (Valof n) = forms.Valof n

abbrev pub mark : Exp → ℕ → Option Tree → NodeMark
mark e s x = record { level = s; form = form_of e; rules = chain_of x }
