-- What a rule of a dyadic operator takes of its operands, and which derivation their lines show.
use Rattle.std.proofs.Common.{◌≡◌, ℕ, ◌+◌, ◌==◌, ◌&&◌, Bool, true, false, cond, Option, Some, None, List, [], ◌∷◌, ◌++◌, refl, ap, sym, subst, ◌∙◌, arith}
use Rattle.std.proofs.lemmas.Bool.{eqb-true, and_parts, eq-eqb}
use Rattle.bc_word.specs.declared.operator.Op.{Op}
use Rattle.bc_word.specs.declared.operator.Op.TheVariants as operators
use Rattle.bc_word.specs.Words.{number_of}
use Rattle.bc_core.specs.declared.operands.Operand.{Operand}
use Rattle.bc_core.specs.Tree.{Exp, Bin}
use Rattle.bc_core.specs.Value.{has_call}
use Rattle.bc_rules_defs.specs.declared.rule.Table.{Table}
use Rattle.bc_rules_defs.specs.declared.rule.Mode.TheVariants.{Any}
use Rattle.bc_rules_defs.specs.declared.rule.Aim.{Aim}
use Rattle.bc_rules_defs.specs.declared.rule.Aim.TheVariants.{Gets}
use Rattle.bc_rules_defs.specs.Piece.{operand_words}
use Rattle.bc_rules_defs.specs.Rules.{Derives, Tree, Trees, one, shape}
use Rattle.bc_rules_defs.specs.Code.{cost}
use Rattle.bc_select_defs.specs.Options.{sum}
use Rattle.bc_cert_defs.specs.declared.costs.Costs.{Costs}
use Rattle.bc_cert_read.specs.declared.facts.Facts.{Facts}
use Rattle.bc_cert_read.specs.declared.form.Form.TheVariants as forms
use Rattle.bc_rules_defs.specs.declared.takes.Takes.{Takes}
use Rattle.bc_rules_defs.specs.Takes.{beside as beside_of}
use Rattle.bc_rules_defs.specs.declared.takes.Takes.TheVariants.{First, Second, InOrder, Turned}
use Rattle.bc_cert_read.specs.declared.recipe.Recipe.{Recipe}
use Rattle.bc_cert_read.specs.Recipe.{facts_of, recipe, adding, where_so, only_at, words_of_operand, words_of_operand_of}
use Rattle.bc_cert_read.specs.Node.{Node, more_words}
use Rattle.bc_cert_read.specs.Lines.{op_numbered}
use Rattle.bc_cert_read.specs.declared.mark.TreeFacts.{TreeFacts}
use Rattle.bc_cert_read.specs.Derived.{taken, trees}
use Rattle.bc_cert_read.specs.Showing.{has_words, makes_by}
use Rattle.bc_cert_write.specs.Shown.{Shown, shown, bare}
use Rattle.bc_cert_laws.specs.Standing.{IsFewest}
use Rattle.bc_cert_laws.proofs.Over.{StandsAt}
use Rattle.bc_cert_laws.proofs.Kept.{bare_order, cut}
use Rattle.bc_cert_laws.proofs.Parts.{shown_order, part_to, part_from}

-- operators have numbers of their own
numbered : (op : Op) → op_numbered (number_of op) ≡ Some op
numbered operators.Multiply = refl
numbered operators.Divide = refl
numbered operators.Remainder = refl
numbered operators.Add = refl
numbered operators.Subtract = refl
numbered operators.Equal = refl
numbered operators.NotEqual = refl
numbered operators.Less = refl
numbered operators.GreaterEqual = refl
numbered operators.Greater = refl
numbered operators.LessEqual = refl
numbered operators.ShiftLeft = refl
numbered operators.ShiftRight = refl
numbered operators.And = refl
numbered operators.Or = refl
numbered operators.NotEquivalent = refl
numbered operators.Equivalent = refl

same_operator : (op wanted : Op) → number_of op == number_of wanted ≡ true → op ≡ wanted
same_operator op wanted h =
    let i : op_numbered (number_of op) ≡ op_numbered (number_of wanted) = ap op_numbered (eqb-true (number_of op) (number_of wanted) h) in
    let j : Some op ≡ Some wanted = sym (numbered op) ∙ i ∙ numbered wanted in
    cc

pub never : {A : Type 0} → false ≡ true → A
never h = cc

-- the words of a recipe and of two parts
both_summed : (o p : Option ℕ) (u v j : ℕ) → o ≡ Some u → p ≡ Some v → sum (sum (Some j) (more_words o 0)) (more_words p 0) ≡ Some (u + v + j)
unfolding sum
both_summed o p u v j h i = ap (λ q. sum (sum (Some j) (more_words q 0)) (more_words p 0)) h ∙ ap (λ q. sum (sum (Some j) (more_words (Some u) 0)) (more_words q 0)) i ∙ ap Some (omega arith)

first_summed : (o : Option ℕ) (u j : ℕ) → o ≡ Some u → sum (sum (Some j) (more_words o 0)) (Some 0) ≡ Some (u + j)
unfolding sum
first_summed o u j h = ap (λ q. sum (sum (Some j) (more_words q 0)) (Some 0)) h ∙ ap Some (omega arith)

second_summed : (o : Option ℕ) (u j : ℕ) → o ≡ Some u → sum (sum (Some j) (Some 0)) (more_words o 0) ≡ Some (u + j)
unfolding sum
second_summed o u j h = ap (λ q. sum (sum (Some j) (Some 0)) (more_words q 0)) h ∙ ap Some (omega arith)

stated : (o : Option ℕ) (n words : ℕ) → o ≡ Some n → has_words o (Some words) ≡ true → n ≡ words
stated o n words h k = eqb-true n words (sym (ap (λ q. has_words q (Some words)) h) ∙ k)

stating : (o : Option ℕ) (n words : ℕ) → o ≡ Some n → n ≡ words → has_words o (Some words) ≡ true
stating o n words h k = ap (λ q. has_words q (Some words)) h ∙ eq-eqb n words k

-- two tests
both_fit : (p q : Bool) → cond p (cond q true false) false ≡ true → (p ≡ true) × (q ≡ true)
both_fit true true h = (refl, refl)
both_fit true false h = never h
both_fit false q h = never h

fit_both : (o p q : Bool) → o ≡ true → p ≡ true → q ≡ true → o && cond p (cond q true false) false ≡ true
fit_both o p q h i j = ap (λ b. b && cond p (cond q true false) false) h ∙ ap (λ b. cond b (cond q true false) false) i ∙ ap (λ b. cond b true false) j

joined : (xs ys us vs : List Shown) → xs ≡ us → ys ≡ vs → xs ++ ys ≡ us ++ vs
joined xs ys us vs h i = ap (λ l. l ++ ys) h ∙ ap (λ l. us ++ l) i

-- the trees of the two parts
pub record TwoTrees (T : Table) (a b : Exp) (s : ℕ) (l k : List Shown) : Type 0 where
  pub left_mark : TreeFacts
  pub right_mark : TreeFacts
  pub left_costs : Costs
  pub right_costs : Costs
  pub left_tree : Tree
  pub right_tree : Tree
  pub left : StandsAt T a (s + 1) l left_mark (facts_of a (has_call a) left_costs) left_tree
  pub right : StandsAt T b (s + 1) k right_mark (facts_of b (has_call b) right_costs) right_tree

-- a rule derives both parts, or one of them and takes the other as it is
pub record Both (T : Table) (a b : Exp) (s : ℕ) (l : List Shown) (p q : Aim) (j words : ℕ) : Type 0 where
  pub left : Derives T a p
  pub right : Derives T b q
  pub parts : shown left (s + 1) ++ shown right (s + 1) ≡ l
  pub counted : cost left (s + 1) + cost right (s + 1) + j ≡ words

pub record OnLeft (T : Table) (a b : Exp) (s : ℕ) (l : List Shown) (p : Aim) (j words : ℕ) : Type 0 where
  pub left : Derives T a p
  pub parts : shown left (s + 1) ++ bare b (s + 1) ≡ l
  pub counted : cost left (s + 1) + j ≡ words

pub record OnRight (T : Table) (a b : Exp) (s : ℕ) (l : List Shown) (p : Aim) (j words : ℕ) : Type 0 where
  pub right : Derives T b p
  pub parts : bare a (s + 1) ++ shown right (s + 1) ≡ l
  pub counted : cost right (s + 1) + j ≡ words

-- of two parts the one beside a 0, where z says that the second one is 0, and u that the first one is
pub record Beside (T : Table) (a b : Exp) (s : ℕ) (l : List Shown) (z u : Bool) (p : Aim) (j words : ℕ) : Type 0 where
  pub expression : Exp
  pub is : cond z (Some a) (cond u (Some b) None) ≡ Some expression
  pub derivation : Derives T expression p
  pub parts : cond z (shown derivation (s + 1) ++ bare b (s + 1)) (bare a (s + 1) ++ shown derivation (s + 1)) ≡ l
  pub counted : cost derivation (s + 1) + j ≡ words

-- an operand
pub record WithOperand (p : Option Operand) (P : ℕ → Type 0) : Type 0 where
  pub operand : Operand
  pub is : p ≡ Some operand
  pub made : P (operand_words operand)

module _ (T : Table) (a b : Exp) (s : ℕ) (l k : List Shown) (two : TwoTrees T a b s l k) where
  -- the facts of the parts
  abbrev pub parts_known : List Facts
  parts_known = facts_of a (has_call a) two.left_costs ∷ facts_of b (has_call b) two.right_costs ∷ []

  abbrev pub over : Op → Node
  over op = record { table = T; level = s; form = forms.Bin op; operand = words_of_operand_of (Bin op a b); parts = parts_known }

  -- the recipe has these words over what the parts show
  abbrev pub Makes : Op → ℕ → Option Recipe → Type 0
  Makes op words r = makes_by (over op) (two.left_mark ∷ two.right_mark ∷ []) (Some words) r ≡ true

  module _ (op : Op) (words : ℕ) where
    -- only where something holds
    pub made_so : (t : Bool) (r : Option Recipe) → Makes op words (where_so t r) → (t ≡ true) × Makes op words r
    made_so true r h = (refl, h)
    made_so false r h = never h

    pub so_made : (t : Bool) (r : Option Recipe) → t ≡ true → Makes op words r → Makes op words (where_so t r)
    so_made t r e h = ap (λ q. makes_by (over op) (two.left_mark ∷ two.right_mark ∷ []) (Some words) (where_so q r)) e ∙ h

    pub made_at : (wanted : Op) (r : Option Recipe) → Makes op words (only_at wanted op r) → (op ≡ wanted) × Makes op words r
    made_at wanted r h = let o = made_so (number_of op == number_of wanted) r h in (same_operator op wanted o.0, o.1)

    pub made_with : (p : Option Operand) (takes : Takes) (j : ℕ) → Makes op words (adding takes (words_of_operand p) j) → WithOperand p (λ n. Makes op words (recipe takes (n + j)))
    made_with None takes j h = never h
    made_with (Some o) takes j h = record { operand = o; is = refl; made = h }

    pub with_made : (p : Option Operand) (o : Operand) (takes : Takes) (j : ℕ) → p ≡ Some o → Makes op words (recipe takes (operand_words o + j)) → Makes op words (adding takes (words_of_operand p) j)
    with_made p o takes j e h = ap (λ q. makes_by (over op) (two.left_mark ∷ two.right_mark ∷ []) (Some words) (adding takes (words_of_operand q) j)) e ∙ h

    -- both parts
    pub both_taken : (p q : Aim) (j : ℕ) → Makes op words (recipe (InOrder p q) j) → Both T a b s (l ++ k) p q j words
    both_taken p q j h =
        let w = and_parts _ _ h in
        let fit = both_fit _ _ w.1 in
        let x = part_to two.left p fit.0 in
        let y = part_to two.right q fit.1 in
        record { left = x.derivation; right = y.derivation; parts = joined _ _ _ _ x.shown y.shown; counted = stated _ _ words (both_summed _ _ _ _ j x.counted y.counted) w.0 }

    pub both_turned : (p q : Aim) (j : ℕ) → Makes op words (recipe (Turned p q) j) → Both T a b s (l ++ k) p q j words
    both_turned p q j h = both_taken p q j h

    pub left_taken : (p : Aim) (j : ℕ) → Makes op words (recipe (First p) j) → OnLeft T a b s (l ++ k) p j words
    left_taken p j h =
        let w = and_parts _ _ h in
        let fit = both_fit _ _ w.1 in
        let x = part_to two.left p fit.0 in
        record { left = x.derivation; parts = joined _ _ _ _ x.shown (sym (two.right.bare_to fit.1)); counted = stated _ _ words (first_summed _ _ j x.counted) w.0 }

    pub right_taken : (p : Aim) (j : ℕ) → Makes op words (recipe (Second p) j) → OnRight T a b s (l ++ k) p j words
    right_taken p j h =
        let w = and_parts _ _ h in
        let fit = both_fit _ _ w.1 in
        let y = part_to two.right p fit.1 in
        record { right = y.derivation; parts = joined _ _ _ _ (sym (two.left.bare_to fit.0)) y.shown; counted = stated _ _ words (second_summed _ _ j y.counted) w.0 }

    -- and what is kept of the parts of a derivation that shows their lines
    pub both_found : (p q : Aim) (j : ℕ) (d : Derives T a p) (e : Derives T b q) → shown d (s + 1) ++ shown e (s + 1) ≡ l ++ k → IsFewest d (s + 1) → IsFewest e (s + 1) → cost d (s + 1) + cost e (s + 1) + j ≡ words
        → Makes op words (recipe (InOrder p q) j) × (shape d ≡ two.left_tree) × (shape e ≡ two.right_tree)
    both_found p q j d e h f g w =
        let at = cut _ _ _ _ (shown_order p d (s + 1) ∙ sym two.left.order) h in
        let x = part_from two.left d at.0 f in
        let y = part_from two.right e at.1 g in
        (fit_both _ _ _ (stating _ _ words (both_summed _ _ _ _ j x.counted y.counted) w) x.agrees y.agrees, x.shape, y.shape)

    pub left_found : (p : Aim) (j : ℕ) (d : Derives T a p) → shown d (s + 1) ++ bare b (s + 1) ≡ l ++ k → IsFewest d (s + 1) → cost d (s + 1) + j ≡ words → Makes op words (recipe (First p) j) × (shape d ≡ two.left_tree)
    left_found p j d h f w =
        let at = cut _ _ _ _ (shown_order p d (s + 1) ∙ sym two.left.order) h in
        let x = part_from two.left d at.0 f in
        (fit_both _ _ _ (stating _ _ words (first_summed _ _ j x.counted) w) x.agrees (two.right.bare_from (sym at.1)), x.shape)

    pub right_found : (p : Aim) (j : ℕ) (d : Derives T b p) → bare a (s + 1) ++ shown d (s + 1) ≡ l ++ k → IsFewest d (s + 1) → cost d (s + 1) + j ≡ words → Makes op words (recipe (Second p) j) × (shape d ≡ two.right_tree)
    right_found p j d h f w =
        let at = cut _ _ _ _ (bare_order a (s + 1) ∙ sym two.left.order) h in
        let y = part_from two.right d at.1 f in
        (fit_both _ _ _ (stating _ _ words (second_summed _ _ j y.counted) w) (two.left.bare_from (sym at.0)) y.agrees, y.shape)

    -- of the part beside a 0
    abbrev pub beside : (z u : Bool) → Aim → ℕ → Option Recipe
    beside z u p j = cond z (recipe (First p) j) (cond u (recipe (Second p) j) None)

    abbrev pub tree_beside : Bool → Trees
    tree_beside z = trees (taken (beside_of (Gets Any) z) (two.left_tree ∷ two.right_tree ∷ []))

    pub beside_taken : (z u : Bool) (p : Aim) (j : ℕ) → Makes op words (beside z u p j) → Beside T a b s (l ++ k) z u p j words
    beside_taken true u p j h = let o = left_taken p j h in record { expression = a; is = refl; derivation = o.left; parts = o.parts; counted = o.counted }
    beside_taken false true p j h = let o = right_taken p j h in record { expression = b; is = refl; derivation = o.right; parts = o.parts; counted = o.counted }
    beside_taken false false p j h = never h

    pub beside_found : (z u : Bool) (p : Aim) (j : ℕ) (e : Exp) → cond z (Some a) (cond u (Some b) None) ≡ Some e → (d : Derives T e p) → cond z (shown d (s + 1) ++ bare b (s + 1)) (bare a (s + 1) ++ shown d (s + 1)) ≡ l ++ k
        → IsFewest d (s + 1) → cost d (s + 1) + j ≡ words → Makes op words (beside z u p j) × (one (shape d) ≡ tree_beside z)
    beside_found true u p j e i =
        let same : a ≡ e = cc in
        let P : Exp → Type 0 = λ e. (d : Derives T e p) → shown d (s + 1) ++ bare b (s + 1) ≡ l ++ k → IsFewest d (s + 1) → cost d (s + 1) + j ≡ words → Makes op words (recipe (First p) j) × (one (shape d) ≡ one two.left_tree) in
        subst P same (λ d h f w. let o = left_found p j d h f w in (o.0, ap one o.1))
    beside_found false true p j e i =
        let same : b ≡ e = cc in
        let P : Exp → Type 0 = λ e. (d : Derives T e p) → bare a (s + 1) ++ shown d (s + 1) ≡ l ++ k → IsFewest d (s + 1) → cost d (s + 1) + j ≡ words → Makes op words (recipe (Second p) j) × (one (shape d) ≡ one two.right_tree) in
        subst P same (λ d h f w. let o = right_found p j d h f w in (o.0, ap one o.1))
    beside_found false false p j e i = absurd cc
