-- Reading an operand takes no step and changes nothing; it gives the value of its expression.
use Rattle.std.proofs.Common.{◌≡◌, ℕ, ◌+◌, ◌%◌, List, Bool, true, false, not, Option, Some, None, refl, sym, ap, ◌∙◌, subst, arith}
use Rattle.std.specs.Prelude.{slice_index, cond}
use Rattle.bc_word.specs.declared.operator.Op.TheVariants as operators
use Rattle.bc_text_items.specs.declared.item.Base.{Base}
use Rattle.bc_text_items.specs.declared.item.Base.TheVariants as bases
use Rattle.bc_core.specs.declared.operands.Operand.{Operand}
use Rattle.bc_core.specs.Tree.{Exp, Num, Frame, Glob, Place, Load, Bin}
use Rattle.bc_core.specs.Operand.{operand_of, content_of, sum_operand, moved, direct}
use Rattle.bc_core.specs.Store.{Cell, Dead, Unset, Set, cell_at}
use Rattle.bc_core.specs.Outcome as outcomes
use Rattle.bc_core.specs.Outcome.{Outcome, Done, Ended, Going, Wild, followed, content_of_cell, read}
use Rattle.bc_core.specs.Value.{Context, value}
use Rattle.bc_right.specs.steps.Agreement.{Holds}
use Rattle.bc_right.proofs.step_lemmas.Decoding.{value_at, operand_at}

abbrev pub Reads : (ℕ → ℕ) → Operand → ℕ → List ℕ → outcomes.State → Outcome ℕ → Type 0
Reads address o p m st (Done v st1) = (st ≡ st1) × (operand_at address (not o.direct) o.base o.n p m ≡ v)
Reads address o p m st (Ended e streams) = ⊥
Reads address o p m st (Going streams) = ⊥
Reads address o p m st Wild = Unit {0}

never : (o : Operand) → None ≡ Some o → ⊥
never o h = cc

direct_reads : (address : ℕ → ℕ) (base : Base) (n v : ℕ) (o : Operand) (p : ℕ) (m : List ℕ) (st : outcomes.State) → Some (direct base n) ≡ Some o → value_at address base n p ≡ v → Reads address o p m st (Done v st)
direct_reads address base n v o p m st h e =
    let is : direct base n ≡ o = cc in subst (λ z. Reads address z p m st (Done v st)) is (refl, e)

-- the content of the cell at a direct operand
cell_reads : (address : ℕ → ℕ) (q : Operand) (p top a : ℕ) (m : List ℕ) (st : outcomes.State) (cell : Cell) → Holds top st.cells m → value_at address q.base q.n p ≡ a → cell_at st.cells a ≡ cell → Reads address (record q { direct = false }) p m st (content_of_cell cell st)
cell_reads address q p top a m st Dead hold e is = tt
cell_reads address q p top a m st Unset hold e is = tt
cell_reads address q p top a m st (Set w) hold e is = (refl, ap (λ z. slice_index m z) e ∙ hold.agrees a w is)

content_reads : (address : ℕ → ℕ) (q o : Operand) (d : Bool) (p top : ℕ) (m : List ℕ) (st : outcomes.State) (ro : Outcome ℕ) → Holds top st.cells m → q.direct ≡ d → cond d (Some (record q { direct = false })) None ≡ Some o → Reads address q p m st ro → Reads address o p m st (followed ro read)
content_reads address q o false p top m st ro hold hd h r = absurd (never o h)
content_reads address q o true p top m st (Done a st1) hold hd h r =
    let is : record q { direct = false } ≡ o = cc in
    let at : value_at address q.base q.n p ≡ a = sym (ap (λ z. operand_at address (not z) q.base q.n p m) hd) ∙ r.1 in
    subst (λ z. Reads address z p m st (read a st1)) is
    (subst (λ z. Reads address (record q { direct = false }) p m st (read a z)) r.0 (cell_reads address q p top a m st (cell_at st.cells a) hold at refl))
content_reads address q o true p top m st (Ended e streams) hold hd h r = r
content_reads address q o true p top m st (Going streams) hold hd h r = r
content_reads address q o true p top m st Wild hold hd h r = tt

load_reads : (address : ℕ → ℕ) (c : Option Operand) (o : Operand) (p top : ℕ) (m : List ℕ) (st : outcomes.State) (ro : Outcome ℕ) → Holds top st.cells m → ((q : Operand) → c ≡ Some q → Reads address q p m st ro) → content_of c ≡ Some o → Reads address o p m st (followed ro read)
load_reads address None o p top m st ro hold r h = absurd (never o h)
load_reads address (Some q) o p top m st ro hold r h = content_reads address q o q.direct p top m st ro hold refl h (r q refl)

moved_none : (e : Exp) → moved e None ≡ None
moved_none (Frame k) = refl
moved_none (Glob n) = refl
moved_none _ = refl

-- a variable's address and a number, in either order
sum_reads : (C : Context) (address : ℕ → ℕ) (a b : Exp) (o : Operand) (p s : ℕ) (m : List ℕ) (st : outcomes.State) → sum_operand a b ≡ Some o → Reads address o p m st (value C (Bin operators.Add a b) p s st)
sum_reads C address (Frame k) (Num c) o p s m st h =
    let e : ((k + c) % 65536 + p) % 65536 ≡ ((p + k) % 65536 + c) % 65536 = omega arith in direct_reads address bases.P ((k + c) % 65536) _ o p m st h e
sum_reads C address (Glob k) (Num c) o p s m st h =
    let e : ((k + c) % 65536 + 8) % 65536 ≡ ((8 + k) % 65536 + c) % 65536 = omega arith in direct_reads address bases.G ((k + c) % 65536) _ o p m st h e
sum_reads C address (Num c) (Frame k) o p s m st h =
    let e : ((k + c) % 65536 + p) % 65536 ≡ (c + (p + k) % 65536) % 65536 = omega arith in direct_reads address bases.P ((k + c) % 65536) _ o p m st h e
sum_reads C address (Num c) (Glob k) o p s m st h =
    let e : ((k + c) % 65536 + 8) % 65536 ≡ (c + (8 + k) % 65536) % 65536 = omega arith in direct_reads address bases.G ((k + c) % 65536) _ o p m st h e
sum_reads C address a b o p s m st h = absurd (never o (sym (moved_none b) ∙ h))

pub operand_reads : (C : Context) (address : ℕ → ℕ) → ((l : ℕ) → address l ≡ C.place l) → (e : Exp) (o : Operand) → operand_of e ≡ Some o → (p s top : ℕ) (m : List ℕ) (st : outcomes.State) → Holds top st.cells m → Reads address o p m st (value C e p s st)
operand_reads C address same (Num n) o h p s top m st hold = direct_reads address bases.Number n n o p m st h refl
operand_reads C address same (Frame k) o h p s top m st hold =
    let e : (k + p) % 65536 ≡ (p + k) % 65536 = omega arith in direct_reads address bases.P k _ o p m st h e
operand_reads C address same (Glob n) o h p s top m st hold =
    let e : (n + 8) % 65536 ≡ (8 + n) % 65536 = omega arith in direct_reads address bases.G n _ o p m st h e
operand_reads C address same (Place l) o h p s top m st hold = direct_reads address bases.Label l (C.place l) o p m st h (same l)
operand_reads C address same (Load e) o h p s top m st hold =
    load_reads address (operand_of e) o p top m st (value C e p s st) hold (λ q i. operand_reads C address same e q i p s top m st hold) h
operand_reads C address same (Bin operators.Add a b) o h p s top m st hold = sum_reads C address a b o p s m st h
operand_reads C address same _ o h p s top m st hold = absurd (never o h)
