-- The levels of an assignment's sides: an address is an operand in the section exactly if its translation is one.
use Rattle.std.proofs.Common.{◌≡◌, ◌∙◌, ℕ, ◌+◌, ◌%◌, Bool, true, false, cond, ◌∷◌, Option, Some, None, is_some, refl, sym, ap, subst}
use Rattle.bc_word.specs.declared.operator.Op.{Op}
use Rattle.bc_word.specs.declared.operator.Op.TheVariants as operators
use Rattle.bc_parse_tree.specs.declared.tree.BinaryOp.{BinaryOp}
use Rattle.bc_parse_tree.specs.declared.tree.BinaryOp.TheVariants as binary
use Rattle.bc_parse_tree.specs.declared.tree.UnaryOp.{UnaryOp}
use Rattle.bc_parse_tree.specs.declared.tree.UnaryOp.TheVariants as unary
use Rattle.bc_text_items.specs.declared.item.Base.TheVariants as bases
use Rattle.bc_parse_tree.specs.Tree as tree
use Rattle.bc_core.specs.declared.operands.Operand.{Operand}
use Rattle.bc_core.specs.Tree.{Exp, Num, Frame, Glob, Place, Load, Neg, Not, Bin, Cond, Call, Valof}
use Rattle.bc_core.specs.Operand.{constant_of, direct, moved, first_some, sum_operand, operand_of_operator, content_of, operand_of, is_operand}
use Rattle.bc_core.specs.Level.{side_level}
use Rattle.bc_scope_defs.specs.Scope.{Meant, Constant, Pending, Static, Global, Routine, Variable, OuterVariable, OuterLabel, StrayVariable, StrayLabel, LabelOutside, Undeclared, Env, meant_by, Numbers}
use Rattle.bc_scope_defs.specs.Scope as scope
use Rattle.bc_scope_defs.specs.Numbering.{following}
use Rattle.bc_scope_defs.specs.Scoping.{operator}
use Rattle.bc_scope_defs.specs.Sides.{Kind, ANumber, ACell, APlace, ASum, AContent, NoOperand, Kinds, kind_of_content, kind_of_sum, kinds_of_name, kinds_of_unary, kinds_of_binary, kinds, is_operand_kind, side_levels, side_level_of}
use Rattle.bc_scope_defs.specs.Translation.{Forms, form_of_name, form_of_unary, form_of_binary, negation, opposite, or_not, forms, forms_of_all}
use Rattle.bc_scope_laws.proofs.Items.{levels}

-- the kind of a translated expression

abbrev kind_of_operator : Op → Kind → Kind → Kind
kind_of_operator operators.Add j k = kind_of_sum j k
kind_of_operator _ j k = NoOperand

abbrev kind_of : Exp → Kind
kind_of (Num n) = ANumber
kind_of (Frame k) = ACell
kind_of (Glob n) = ACell
kind_of (Place m) = APlace
kind_of (Load e) = kind_of_content (kind_of e)
kind_of (Bin op a b) = kind_of_operator op (kind_of a) (kind_of b)
kind_of _ = NoOperand

-- an operand of this kind
abbrev IsOfKind : Option Operand → Kind → Type 0
IsOfKind None NoOperand = Unit {0}
IsOfKind None _ = ⊥
IsOfKind (Some o) NoOperand = ⊥
IsOfKind (Some o) AContent = o.direct ≡ false
IsOfKind (Some o) _ = o.direct ≡ true

content_kind : (o : Option Operand) (k : Kind) → IsOfKind o k → IsOfKind (content_of o) (kind_of_content k)
content_kind None NoOperand h = tt
content_kind None ANumber h = absurd h
content_kind None ACell h = absurd h
content_kind None APlace h = absurd h
content_kind None ASum h = absurd h
content_kind None AContent h = absurd h
content_kind (Some o) NoOperand h = absurd h
content_kind (Some o) AContent h = subst (λ (b : Bool). IsOfKind (cond b (Some (record o { direct = false })) None) NoOperand) (sym h) tt
content_kind (Some o) ANumber h = subst (λ (b : Bool). IsOfKind (cond b (Some (record o { direct = false })) None) AContent) (sym h) refl
content_kind (Some o) ACell h = subst (λ (b : Bool). IsOfKind (cond b (Some (record o { direct = false })) None) AContent) (sym h) refl
content_kind (Some o) APlace h = subst (λ (b : Bool). IsOfKind (cond b (Some (record o { direct = false })) None) AContent) (sym h) refl
content_kind (Some o) ASum h = subst (λ (b : Bool). IsOfKind (cond b (Some (record o { direct = false })) None) AContent) (sym h) refl

-- what a sum inspects in its operands
data Part : Type 0 where
  AFrame : ℕ → Part
  AGlobal : ℕ → Part
  AConstant : ℕ → Part
  Another : Part

abbrev part : Exp → Part
part (Frame k) = AFrame k
part (Glob n) = AGlobal n
part (Num n) = AConstant n
part _ = Another

abbrev moved_part : Part → Option ℕ → Option Operand
moved_part (AFrame k) (Some c) = Some (direct bases.P ((k + c) % 65536))
moved_part (AGlobal k) (Some c) = Some (direct bases.G ((k + c) % 65536))
moved_part _ _ = None

abbrev constant_part : Part → Option ℕ
constant_part (AConstant n) = Some n
constant_part _ = None

moved_by_part : (a : Exp) (c : Option ℕ) → moved a c ≡ moved_part (part a) c
moved_by_part (Frame k) None = refl
moved_by_part (Frame k) (Some c) = refl
moved_by_part (Glob k) None = refl
moved_by_part (Glob k) (Some c) = refl
moved_by_part (Num n) c = refl
moved_by_part (Place m) c = refl
moved_by_part (Load e) c = refl
moved_by_part (Neg e) c = refl
moved_by_part (Not e) c = refl
moved_by_part (Bin op a b) c = refl
moved_by_part (Cond d x y) c = refl
moved_by_part (Call es f) c = refl
moved_by_part (Valof n) c = refl

constant_by_part : (a : Exp) → constant_of a ≡ constant_part (part a)
constant_by_part (Frame k) = refl
constant_by_part (Glob k) = refl
constant_by_part (Num n) = refl
constant_by_part (Place m) = refl
constant_by_part (Load e) = refl
constant_by_part (Neg e) = refl
constant_by_part (Not e) = refl
constant_by_part (Bin op a b) = refl
constant_by_part (Cond d x y) = refl
constant_by_part (Call es f) = refl
constant_by_part (Valof n) = refl

abbrev kind_of_part : Part → Kind
kind_of_part (AFrame k) = ACell
kind_of_part (AGlobal n) = ACell
kind_of_part (AConstant n) = ANumber
kind_of_part Another = NoOperand

sum_of_parts : (a b : Part) → IsOfKind (first_some (moved_part a (constant_part b)) (moved_part b (constant_part a))) (kind_of_sum (kind_of_part a) (kind_of_part b))
sum_of_parts (AFrame k) (AFrame n) = tt
sum_of_parts (AFrame k) (AGlobal n) = tt
sum_of_parts (AFrame k) (AConstant n) = refl
sum_of_parts (AFrame k) Another = tt
sum_of_parts (AGlobal k) (AFrame n) = tt
sum_of_parts (AGlobal k) (AGlobal n) = tt
sum_of_parts (AGlobal k) (AConstant n) = refl
sum_of_parts (AGlobal k) Another = tt
sum_of_parts (AConstant k) (AFrame n) = refl
sum_of_parts (AConstant k) (AGlobal n) = refl
sum_of_parts (AConstant k) (AConstant n) = tt
sum_of_parts (AConstant k) Another = tt
sum_of_parts Another (AFrame n) = tt
sum_of_parts Another (AGlobal n) = tt
sum_of_parts Another (AConstant n) = tt
sum_of_parts Another Another = tt

-- a sum inspects nothing else of a kind
abbrev seen : Kind → Kind
seen ACell = ACell
seen ANumber = ANumber
seen _ = NoOperand

seen_in_sum : (j k : Kind) → kind_of_sum j k ≡ kind_of_sum (seen j) (seen k)
seen_in_sum ACell ACell = refl
seen_in_sum ACell ANumber = refl
seen_in_sum ACell APlace = refl
seen_in_sum ACell ASum = refl
seen_in_sum ACell AContent = refl
seen_in_sum ACell NoOperand = refl
seen_in_sum ANumber ACell = refl
seen_in_sum ANumber ANumber = refl
seen_in_sum ANumber APlace = refl
seen_in_sum ANumber ASum = refl
seen_in_sum ANumber AContent = refl
seen_in_sum ANumber NoOperand = refl
seen_in_sum APlace k = refl
seen_in_sum ASum k = refl
seen_in_sum AContent k = refl
seen_in_sum NoOperand k = refl

content_unseen : (k : Kind) → seen (kind_of_content k) ≡ NoOperand
content_unseen ANumber = refl
content_unseen ACell = refl
content_unseen APlace = refl
content_unseen ASum = refl
content_unseen AContent = refl
content_unseen NoOperand = refl

sum_unseen : (j k : Kind) → seen (kind_of_sum j k) ≡ NoOperand
sum_unseen ACell ACell = refl
sum_unseen ACell ANumber = refl
sum_unseen ACell APlace = refl
sum_unseen ACell ASum = refl
sum_unseen ACell AContent = refl
sum_unseen ACell NoOperand = refl
sum_unseen ANumber ACell = refl
sum_unseen ANumber ANumber = refl
sum_unseen ANumber APlace = refl
sum_unseen ANumber ASum = refl
sum_unseen ANumber AContent = refl
sum_unseen ANumber NoOperand = refl
sum_unseen APlace k = refl
sum_unseen ASum k = refl
sum_unseen AContent k = refl
sum_unseen NoOperand k = refl

operator_unseen : (op : Op) (j k : Kind) → seen (kind_of_operator op j k) ≡ NoOperand
operator_unseen operators.Add j k = sum_unseen j k
operator_unseen _ j k = refl

seen_part : (a : Exp) → seen (kind_of a) ≡ kind_of_part (part a)
seen_part (Frame k) = refl
seen_part (Glob k) = refl
seen_part (Num n) = refl
seen_part (Place m) = refl
seen_part (Load e) = content_unseen (kind_of e)
seen_part (Neg e) = refl
seen_part (Not e) = refl
seen_part (Bin op a b) = operator_unseen op (kind_of a) (kind_of b)
seen_part (Cond d x y) = refl
seen_part (Call es f) = refl
seen_part (Valof n) = refl

sum_kind : (a b : Exp) → IsOfKind (sum_operand a b) (kind_of_sum (kind_of a) (kind_of b))
sum_kind a b =
    let operand : sum_operand a b ≡ first_some (moved_part (part a) (constant_part (part b))) (moved_part (part b) (constant_part (part a))) =
    (λ i. first_some (moved a (constant_by_part b i)) (moved b (constant_by_part a i)))
    ∙ (λ i. first_some (moved_by_part a (constant_part (part b)) i) (moved_by_part b (constant_part (part a)) i)) in
    let kind : kind_of_sum (kind_of a) (kind_of b) ≡ kind_of_sum (kind_of_part (part a)) (kind_of_part (part b)) =
    seen_in_sum (kind_of a) (kind_of b) ∙ (λ i. kind_of_sum (seen_part a i) (seen_part b i)) in
    subst (λ (o : Option Operand). IsOfKind o (kind_of_sum (kind_of a) (kind_of b))) (sym operand)
    (subst (λ (k : Kind). IsOfKind (first_some (moved_part (part a) (constant_part (part b))) (moved_part (part b) (constant_part (part a)))) k) (sym kind)
    (sum_of_parts (part a) (part b)))

operator_kind : (op : Op) (a b : Exp) → IsOfKind (operand_of_operator op a b) (kind_of_operator op (kind_of a) (kind_of b))
operator_kind operators.Add a b = sum_kind a b
operator_kind _ a b = tt

operand_kind : (e : Exp) → IsOfKind (operand_of e) (kind_of e)
operand_kind (Num n) = refl
operand_kind (Frame k) = refl
operand_kind (Glob n) = refl
operand_kind (Place m) = refl
operand_kind (Load e) = content_kind (operand_of e) (kind_of e) (operand_kind e)
operand_kind (Bin op a b) = operator_kind op a b
operand_kind (Neg e) = tt
operand_kind (Not e) = tt
operand_kind (Cond d x y) = tt
operand_kind (Call es f) = tt
operand_kind (Valof n) = tt

same_test : (o : Option Operand) (k : Kind) → IsOfKind o k → is_operand_kind k ≡ is_some o
same_test None NoOperand h = refl
same_test None ANumber h = absurd h
same_test None ACell h = absurd h
same_test None APlace h = absurd h
same_test None ASum h = absurd h
same_test None AContent h = absurd h
same_test (Some o) NoOperand h = absurd h
same_test (Some o) ANumber h = refl
same_test (Some o) ACell h = refl
same_test (Some o) APlace h = refl
same_test (Some o) ASum h = refl
same_test (Some o) AContent h = refl

-- the kinds of a section's expression are those of its translation

abbrev kinds_of : Forms → Kinds
kinds_of f = record { address = kind_of f.address; content = kind_of f.content }

name_kinds : (m : Meant) → kinds_of_name m ≡ kinds_of (form_of_name m)
name_kinds (Constant w) = refl
name_kinds Pending = refl
name_kinds (Static m) = refl
name_kinds (Global n) = refl
name_kinds (Routine m) = refl
name_kinds (Variable k) = refl
name_kinds (scope.Label l) = refl
name_kinds OuterVariable = refl
name_kinds OuterLabel = refl
name_kinds StrayVariable = refl
name_kinds StrayLabel = refl
name_kinds LabelOutside = refl
name_kinds Undeclared = refl

negation_kind : (e : Exp) → kind_of (negation e) ≡ NoOperand
negation_kind (Bin op a b) = of_operator op where
  of_operator : (o : Op) → kind_of (or_not (opposite o) o a b) ≡ NoOperand
  of_operator operators.Equal = refl
  of_operator _ = refl
negation_kind (Num n) = refl
negation_kind (Frame k) = refl
negation_kind (Glob n) = refl
negation_kind (Place m) = refl
negation_kind (Load e) = refl
negation_kind (Neg e) = refl
negation_kind (Not e) = refl
negation_kind (Cond d x y) = refl
negation_kind (Call es f) = refl
negation_kind (Valof n) = refl

unary_kinds : (m : UnaryOp) (f : Forms) → kinds_of_unary m (kinds_of f) ≡ kinds_of (form_of_unary m f)
unary_kinds unary.Load f = refl
unary_kinds unary.Address f = refl
unary_kinds unary.Neg f = refl
unary_kinds unary.Not f = λ i. let k = sym (negation_kind f.content) i in record { address = k; content = k }

binary_kinds : (o : BinaryOp) (l r : Exp) → kinds_of_binary o (kind_of l) (kind_of r) ≡ kinds_of (form_of_binary (operator o) l r)
binary_kinds binary.Index l r = refl
binary_kinds _ l r = refl

kinds_kept : (E : Env) (at : Numbers) (e : tree.Exp) → kinds E e ≡ kinds_of (forms E at e)
kinds_kept E at (tree.Name n) = name_kinds (meant_by E n)
kinds_kept E at (tree.Num w) = refl
kinds_kept E at (tree.Character w) = refl
kinds_kept E at tree.True = refl
kinds_kept E at tree.False = refl
kinds_kept E at (tree.Text s) = refl
kinds_kept E at (tree.Table ks) = refl
kinds_kept E at (tree.Valof b) = refl
kinds_kept E at (tree.Unary m e) = ap (kinds_of_unary m) (kinds_kept E at e) ∙ unary_kinds m (forms E at e)
kinds_kept E at (tree.Bin o l r) =
    (λ i. kinds_of_binary o (kinds_kept E at l i).content (kinds_kept E (following at l) r i).content)
    ∙ binary_kinds o (forms E at l).content (forms E (following at l) r).content
kinds_kept E at (tree.Cond c x y) = refl
kinds_kept E at (tree.Call f es) = refl

pub operand_test : (E : Env) (at : Numbers) (x : tree.Exp) → is_operand_kind (kinds E x).address ≡ is_operand (forms E at x).address
operand_test E at x =
    let a = (forms E at x).address in
    (λ i. is_operand_kind (kinds_kept E at x i).address) ∙ same_test (operand_of a) (kind_of a) (operand_kind a)

pub level_kept : (E : Env) (at : Numbers) (x : tree.Exp) (s : ℕ) → side_level_of E x s ≡ side_level (forms E at x).address s
level_kept E at x s = ap (λ b. cond b s (s + 1)) (operand_test E at x)

pub levels_kept : (E : Env) (at : Numbers) (xs : tree.Exps) (s : ℕ) → side_levels E xs s ≡ levels (forms_of_all E at xs) s
levels_kept E at tree.none s = refl
levels_kept E at (tree.more x xs) s = λ i. level_kept E at x s i ∷ levels_kept E (following at x) xs s i
