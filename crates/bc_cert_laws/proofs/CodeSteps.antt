-- The checker's step at a code line agrees with the relations.
use Rattle.std.proofs.Common.{◌≡◌, ℕ, ◌+◌, ◌==◌, Bool, true, false, cond, List, [], ◌∷◌, ◌++◌, length, Option, Some, None, Result, Ok, Err, refl, ap, sym, subst, ◌∙◌}
use Rattle.std.specs.Prelude.{◌&&◌, nat_eq, nat_le}
use Rattle.std.specs.List.{AllZip, AllByRecursion}
use Rattle.std.proofs.lemmas.Bool.{eqb-true}
use Rattle.bc_cert_against.proofs.Items.{same as same_items}
use Rattle.bc_cert_defs.specs.declared.check_fault.CheckFault.{CheckFault}
use Rattle.bc_cert_defs.specs.declared.check_fault.CheckFault.TheVariants as faults
use Rattle.bc_cert_defs.specs.Verdict.{Judged}
use Rattle.bc_core.specs.Tree.{Root}
use Rattle.bc_text_items.specs.declared.item.Item.{Item}
use Rattle.bc_text_items.specs.declared.item.Item.TheVariants as items
use Rattle.bc_text_items.specs.declared.item.Function.{Function}
use Rattle.bc_text_items.specs.declared.item.Function.TheVariants as functions
use Rattle.bc_text_items.specs.declared.item.Base.{Base}
use Rattle.bc_text_items.specs.declared.item.Base.TheVariants as bases
use Rattle.bc_text_items.specs.contracts.item.FunctionPartialEq.TheImpl.{ghosts as function_equality}
use Rattle.bc_text_items.specs.contracts.item.BasePartialEq.TheImpl.{ghosts as base_equality}
use Rattle.bc_rules_defs.specs.declared.piece.Piece.{Piece}
use Rattle.bc_rules_defs.specs.declared.piece.Piece.TheVariants as pieces
use Rattle.bc_rules_defs.specs.declared.rule.Table.{Table}
use Rattle.bc_rules_defs.specs.Rules.{RootDerives, root_shape}
use Rattle.bc_rules_defs.specs.ByShape.{root_code_by}
use Rattle.bc_rules_defs.specs.Code.{root_code, root_labels, root_cost}
use Rattle.bc_rules_defs.specs.Piece.{words}
use Rattle.bc_rules_defs.proofs.ByShape.{root_labels_same, root_code_same}
use Rattle.bc_rules_defs.proofs.Words.{root_words}
use Rattle.bc_rules.specs.Fits.{root_fits}
use Rattle.bc_rules.proofs.Bridge.{root_shape_fits}
use Rattle.bc_cert_defs.specs.declared.head.Head.{Head}
use Rattle.bc_cert_read.specs.Lines.{code_of_line}
use Rattle.bc_cert_read.specs.declared.position.Position.{Position}
use Rattle.bc_cert_read.specs.Stacks.{◌>>=◌, with_whole, Rooted}
use Rattle.bc_cert_laws.specs.Entries.{PieceHasRoom, pieces_line, SamePiece}
use Rattle.bc_cert_laws.specs.Faults.{code, judged, IsCode, LineFault, no_pieces, wrong_code, wrong_words}
use Rattle.bc_cert_laws.specs.Judging.{State, between, same_item, same_piece, same_code, judged_with, against_right, right_of, code_fits, code_step}
use Rattle.bc_cert_laws.proofs.Read.{code_read, code_back}
use Rattle.bc_cert_laws.proofs.Results.{StandsAfter, ok_same, err_same, both_true, equal_true, equal_false, not_equal, at_most_true, at_most, not_at_most}

-- what the checker keeps of a root, by its derivation
abbrev pub rooted_by : {T : Table} {r : Root} → RootDerives T r → Rooted
rooted_by {r = r} d = record { root = r; derivation = root_shape d; words = root_cost d }

-- pieces that are the same
number_itself : (n : ℕ) → nat_eq n n ≡ true
number_itself n = equal_true n n refl

function_itself : (f : Function) → function_equality.eq f f ≡ true
function_itself functions.Load = refl
function_itself functions.Store = refl
function_itself functions.Add = refl
function_itself functions.Jump = refl
function_itself functions.JumpIfTrue = refl
function_itself functions.JumpIfFalse = refl
function_itself functions.Call = refl
function_itself functions.Execute = refl

base_itself : (b : Base) → base_equality.eq b b ≡ true
base_itself bases.Number = refl
base_itself bases.P = refl
base_itself bases.G = refl
base_itself bases.Label = refl

item_itself : (i : Item) → same_item i i ≡ true
item_itself (items.Label n) = number_itself n
item_itself (items.Data n) = number_itself n
item_itself (items.DataLabel n) = number_itself n
item_itself (items.Byte n) = number_itself n
item_itself (items.Operation f true b n) = both_true _ _ (function_itself f) (both_true _ _ (base_itself b) (number_itself n))
item_itself (items.Operation f false b n) = both_true _ _ (function_itself f) (both_true _ _ (base_itself b) (number_itself n))
item_itself (items.Global n k) = both_true _ _ (number_itself n) (number_itself k)

true_if : (a b : Bool) → a ≡ true → b ≡ true → cond a b false ≡ true
true_if true b h i = i
true_if false b h i = h

parted : (b c : Bool) → cond b c false ≡ true → (b ≡ true) × (c ≡ true)
parted true c h = (refl, h)
parted false c h = cc

piece_same : (p q : Piece) → same_piece p q ≡ true → SamePiece p q
piece_same (pieces.Item i) (pieces.Item j) h = same_items i j h
piece_same (pieces.Item i) (pieces.Body n) h = cc
piece_same (pieces.Body m) (pieces.Item j) h = cc
piece_same (pieces.Body m) (pieces.Body n) h = tt

piece_true : (p q : Piece) → SamePiece p q → same_piece p q ≡ true
piece_true (pieces.Item i) (pieces.Item j) h = ap (λ k. same_item i k) (sym h) ∙ item_itself i
piece_true (pieces.Item i) (pieces.Body n) h = absurd h
piece_true (pieces.Body m) (pieces.Item j) h = absurd h
piece_true (pieces.Body m) (pieces.Body n) h = refl

pieces_same : (ps qs : List Piece) → same_code ps qs ≡ true → AllZip SamePiece ps qs
pieces_same [] [] h = tt
pieces_same [] (q ∷ qs) h = cc
pieces_same (p ∷ ps) [] h = cc
pieces_same (p ∷ ps) (q ∷ qs) h = let i = parted (same_piece p q) (same_code ps qs) h in (piece_same p q i.0, pieces_same ps qs i.1)

pieces_true : (ps qs : List Piece) → AllZip SamePiece ps qs → same_code ps qs ≡ true
pieces_true [] [] h = refl
pieces_true [] (q ∷ qs) h = absurd h
pieces_true (p ∷ ps) [] h = absurd h
pieces_true (p ∷ ps) (q ∷ qs) h = true_if (same_piece p q) (same_code ps qs) (piece_true p q h.0) (pieces_true ps qs h.1)

-- the result of the step at a code line, once it was read
abbrev next_of : Head → {T : Table} {r : Root} → RootDerives T r → State → List Piece → State
next_of h {r = r} d st ps = record st { entries = st.entries ++ judged h r ps ∷ []; stage = between }

abbrev decided : (labels same sums : Bool) → Position → State → Result State CheckFault
decided true true true p next = Ok next
decided true true false p next = Err (faults.WrongWords p.entry)
decided true false sums p next = Err (faults.WrongCode p.entry)
decided false same sums p next = Err (faults.WrongCode p.entry)

abbrev has_labels : Head → {T : Table} {r : Root} → RootDerives T r → Bool
has_labels h d = nat_le (h.first + root_labels d) 65536

abbrev has_code : Head → {T : Table} {r : Root} → RootDerives T r → List Piece → Bool
has_code h d ps = same_code ps (root_code d h.target h.first)

abbrev has_words : Head → {T : Table} {r : Root} → RootDerives T r → Bool
has_words h d = root_cost d == h.words

abbrev kept : Head → Rooted → Position → State → List Piece → Result (Unit {0}) CheckFault → Result State CheckFault
kept h r p st ps x = ((x >>= (λ y. Ok ps)) >>= (λ qs. Ok (judged_with h r qs))) >>= (λ j. Ok (record st { entries = st.entries ++ j ∷ []; stage = between }))

fits_so : (T : Table) (h : Head) (r : Rooted) (p : Position) (ps : List Piece) → root_fits T r.root r.derivation ≡ true → code_fits T h r p ps ≡ against_right h r p ps (right_of h r)
fits_so T h r p ps k = ap (λ b. cond b (against_right h r p ps (right_of h r)) (Err (faults.WrongRule p.entry p.node))) k

against_so : {T : Table} {r : Root} (d : RootDerives T r) (h : Head) (p : Position) (ps : List Piece)
    → against_right h (rooted_by d) p ps (right_of h (rooted_by d)) ≡ against_right h (rooted_by d) p ps (cond (has_labels h d) (Some (root_code d h.target h.first)) None)
against_so {r = r} d h p ps =
    ap (λ n. against_right h (rooted_by d) p ps (cond (nat_le (h.first + n) 65536) (Some (root_code_by r (root_shape d) h.target h.first)) None)) (sym (root_labels_same d))
    ∙ ap (λ c. against_right h (rooted_by d) p ps (cond (has_labels h d) (Some c) None)) (sym (root_code_same d h.target h.first))

decided_so : {T : Table} {r : Root} (d : RootDerives T r) (h : Head) (p : Position) (st : State) (ps : List Piece) (labels same sums : Bool) → same_code ps (root_code d h.target h.first) ≡ same → (root_cost d == h.words) ≡ sums
    → kept h (rooted_by d) p st ps (against_right h (rooted_by d) p ps (cond labels (Some (root_code d h.target h.first)) None)) ≡ decided labels same sums p (next_of h d st ps)
decided_so d h p st ps false same sums i k = refl
decided_so d h p st ps true same sums i k =
    ap (λ b. kept h (rooted_by d) p st ps (cond b (cond (words (root_code d h.target h.first) == h.words && root_cost d == h.words) (Ok tt) (Err (faults.WrongWords p.entry))) (Err (faults.WrongCode p.entry)))) i
    ∙ ap (λ n. kept h (rooted_by d) p st ps (cond same (cond (n == h.words && root_cost d == h.words) (Ok tt) (Err (faults.WrongWords p.entry))) (Err (faults.WrongCode p.entry)))) (root_words d h.target h.first)
    ∙ ap (λ b. kept h (rooted_by d) p st ps (cond same (cond (b && b) (Ok tt) (Err (faults.WrongWords p.entry))) (Err (faults.WrongCode p.entry)))) k
    ∙ at same sums where
      at : (same sums : Bool) → kept h (rooted_by d) p st ps (cond same (cond (sums && sums) (Ok tt) (Err (faults.WrongWords p.entry))) (Err (faults.WrongCode p.entry))) ≡ decided true same sums p (next_of h d st ps)
      at true true = refl
      at true false = refl
      at false sums = refl

abbrev from_read : Table → Head → Rooted → Position → State → Option (List Piece) → Result State CheckFault
from_read T h r p st o = ((with_whole p o >>= (λ ps. code_fits T h r p ps >>= (λ x. Ok ps))) >>= (λ ps. Ok (judged_with h r ps))) >>= (λ j. Ok (record st { entries = st.entries ++ j ∷ []; stage = between }))

step_so : {r : Root} (st : State) (d : RootDerives st.table r) (h : Head) (l : List ℕ) (p : Position) (ps : List Piece) → code_of_line l ≡ Some ps
    → code_step h (rooted_by d) l p st ≡ decided (has_labels h d) (has_code h d ps) (has_words h d) p (next_of h d st ps)
step_so {r = r} st d h l p ps k =
    ap (λ o. from_read st.table h (rooted_by d) p st o) k
    ∙ ap (kept h (rooted_by d) p st ps) (fits_so st.table h (rooted_by d) p ps (root_shape_fits d) ∙ against_so d h p ps)
    ∙ decided_so d h p st ps (has_labels h d) (has_code h d ps) (has_words h d) refl refl

-- over the table of the state
in_table : {T : Table} {r : Root} (st : State) (d : RootDerives T r) (P : (T : Table) → RootDerives T r → Type 0) → st.table ≡ T → ((e : RootDerives st.table r) → P st.table e) → P T d
in_table {r = r} st d P h k = subst (λ T. (e : RootDerives T r) → P T e) h k d

-- the same for a state
pub code_step_is : {T : Table} {r : Root} (st : State) (d : RootDerives T r) (h : Head) (l : List ℕ) (p : Position) (ps : List Piece) → st.table ≡ T → code_of_line l ≡ Some ps
    → code_step h (rooted_by d) l p st ≡ decided (has_labels h d) (has_code h d ps) (has_words h d) p (next_of h d st ps)
code_step_is st d h l p ps t k = in_table st d (λ T d. code_step h (rooted_by d) l p st ≡ decided (has_labels h d) (has_code h d ps) (has_words h d) p (next_of h d st ps)) t (λ d. step_so st d h l p ps k)

unread : {T : Table} {r : Root} (st : State) (d : RootDerives T r) (h : Head) (l : List ℕ) (p : Position) → code_of_line l ≡ None → code_step h (rooted_by d) l p st ≡ Err (faults.Line p.line)
unread st d h l p k = ap (λ o. from_read st.table h (rooted_by d) p st o) k

-- a code line that was accepted
pub record CodeTaken {T : Table} {r : Root} (d : RootDerives T r) (h : Head) (l : List ℕ) (st after : State) : Type 0 where
  pub pieces : List Piece
  pub room : AllByRecursion PieceHasRoom pieces
  pub code : IsCode d h pieces
  pub words : root_cost d ≡ h.words
  pub text : l ++ 10 ∷ [] ≡ pieces_line pieces
  pub next : after ≡ next_of h d st pieces

taken_so : {T : Table} {r : Root} (st next : State) (d : RootDerives T r) (h : Head) (l : List ℕ) (p : Position) (ps : List Piece) (labels same sums : Bool) → AllByRecursion PieceHasRoom ps → l ++ 10 ∷ [] ≡ pieces_line ps
    → has_labels h d ≡ labels → has_code h d ps ≡ same → has_words h d ≡ sums → decided labels same sums p (next_of h d st ps) ≡ Ok next → CodeTaken d h l st next
taken_so st next d h l p ps true true true room text i j k g =
    record {
      pieces = ps;
      room = room;
      code = record { same = pieces_same ps (root_code d h.target h.first) j; labels = at_most _ _ i };
      words = eqb-true (root_cost d) h.words k;
      text = text;
      next = sym (ok_same g);
    }
taken_so st next d h l p ps true true false room text i j k g = cc
taken_so st next d h l p ps true false sums room text i j k g = cc
taken_so st next d h l p ps false same sums room text i j k g = cc

pub code_taken : {T : Table} {r : Root} (st next : State) (d : RootDerives T r) (h : Head) (l : List ℕ) (p : Position) → st.table ≡ T → code_step h (rooted_by d) l p st ≡ Ok next → CodeTaken d h l st next
code_taken st next d h l p t g = at (code_of_line l) refl where
  at : (o : Option (List Piece)) → code_of_line l ≡ o → CodeTaken d h l st next
  at None k = let bad : ◌≡◌ {A = Result State CheckFault} (Err (faults.Line p.line)) (Ok next) = sym (unread st d h l p k) ∙ g in cc
  at (Some ps) k = let read = code_read l ps k in taken_so st next d h l p ps _ _ _ read.1 read.0 refl refl refl (sym (code_step_is st d h l p ps t k) ∙ g)

-- a code line that was refused
fault_so : {T : Table} {r : Root} (text : List ℕ) (js : List Judged) (st : State) (d : RootDerives T r) (h : Head) (l : List ℕ) (p : Position) (f : CheckFault) (ps : List Piece) (labels same sums : Bool) → p.entry ≡ length js → AllByRecursion PieceHasRoom ps
    → has_labels h d ≡ labels → has_code h d ps ≡ same → has_words h d ≡ sums → decided labels same sums p (next_of h d st ps) ≡ Err f → LineFault text (code T js h r d) (pieces_line ps) f
fault_so text js st d h l p f ps true true true e room i j k g = cc
fault_so {T = T} {r = r} text js st d h l p f ps true true false e room i j k g =
    subst (LineFault text (code T js h r d) (pieces_line ps)) (ap faults.WrongWords (sym e) ∙ err_same g)
    (wrong_words room (record { same = pieces_same ps (root_code d h.target h.first) j; labels = at_most _ _ i }) (not_equal _ _ k))
fault_so {T = T} {r = r} text js st d h l p f ps true false sums e room i j k g =
    subst (LineFault text (code T js h r d) (pieces_line ps)) (ap faults.WrongCode (sym e) ∙ err_same g)
    (wrong_code room (λ c. let same : true ≡ false = sym (pieces_true ps (root_code d h.target h.first) c.same) ∙ j in cc))
fault_so {T = T} {r = r} text js st d h l p f ps false same sums e room i j k g =
    subst (LineFault text (code T js h r d) (pieces_line ps)) (ap faults.WrongCode (sym e) ∙ err_same g)
    (wrong_code room (λ c. not_at_most _ _ i c.labels))

pub code_fault : {T : Table} {r : Root} (text : List ℕ) (js : List Judged) (n : ℕ) (st : State) (d : RootDerives T r) (h : Head) (l : List ℕ) (p : Position) (f : CheckFault) → StandsAfter text js n p → st.table ≡ T
    → code_step h (rooted_by d) l p st ≡ Err f → LineFault text (code T js h r d) (l ++ 10 ∷ []) f
code_fault {T = T} {r = r} text js n st d h l p f stands t g = at (code_of_line l) refl where
  at : (o : Option (List Piece)) → code_of_line l ≡ o → LineFault text (code T js h r d) (l ++ 10 ∷ []) f
  at None k =
      subst (LineFault text (code T js h r d) (l ++ 10 ∷ [])) (ap faults.Line (sym stands.line) ∙ err_same (sym (unread st d h l p k) ∙ g))
      (no_pieces (λ ps room i. let bad : ◌≡◌ {A = Option (List Piece)} None (Some ps) = sym k ∙ code_back l ps room i in cc))
  at (Some ps) k =
      let read = code_read l ps k in
      subst (λ m. LineFault text (code T js h r d) m f) (sym read.0) (fault_so text js st d h l p f ps _ _ _ stands.entry read.1 refl refl refl (sym (code_step_is st d h l p ps t k) ∙ g))

-- a code line is accepted if it is right
pub code_made : {T : Table} {r : Root} (st : State) (d : RootDerives T r) (h : Head) (l : List ℕ) (p : Position) (ps : List Piece) → st.table ≡ T → AllByRecursion PieceHasRoom ps → IsCode d h ps → root_cost d ≡ h.words
    → l ++ 10 ∷ [] ≡ pieces_line ps → code_step h (rooted_by d) l p st ≡ Ok (next_of h d st ps)
code_made st d h l p ps t room c w text =
    code_step_is st d h l p ps t (code_back l ps room text)
    ∙ all_true _ _ _ (at_most_true _ _ c.labels) (pieces_true ps (root_code d h.target h.first) c.same) (equal_true _ _ w) where
      all_true : (x y z : Bool) → x ≡ true → y ≡ true → z ≡ true → decided x y z p (next_of h d st ps) ≡ Ok (next_of h d st ps)
      all_true true true true i j k = refl
      all_true x y false i j k = cc
      all_true x false z i j k = cc
      all_true false y z i j k = cc

-- and a fault of it is the step's
no_code_so : {T : Table} {r : Root} (d : RootDerives T r) (h : Head) (p : Position) (st : State) (ps : List Piece) (labels same sums : Bool) → has_labels h d ≡ labels → has_code h d ps ≡ same → ¬ IsCode d h ps
    → decided labels same sums p (next_of h d st ps) ≡ Err (faults.WrongCode p.entry)
no_code_so d h p st ps true true sums i j not_code = absurd (not_code (record { same = pieces_same ps (root_code d h.target h.first) j; labels = at_most _ _ i }))
no_code_so d h p st ps true false sums i j not_code = refl
no_code_so d h p st ps false same sums i j not_code = refl

no_words_so : (labels same sums : Bool) (p : Position) (st : State) → labels ≡ true → same ≡ true → sums ≡ false → decided labels same sums p st ≡ Err (faults.WrongWords p.entry)
no_words_so true true false p st i j k = refl
no_words_so true true true p st i j k = cc
no_words_so true false sums p st i j k = cc
no_words_so false same sums p st i j k = cc

pub code_fails : {T : Table} {r : Root} (text : List ℕ) (js : List Judged) (n : ℕ) (st : State) (d : RootDerives T r) (h : Head) (l m : List ℕ) (p : Position) (f : CheckFault) → StandsAfter text js n p → st.table ≡ T
    → m ≡ l ++ 10 ∷ [] → LineFault text (code T js h r d) m f → code_step h (rooted_by d) l p st ≡ Err f
code_fails text js n st d h l m p f stands t e (no_pieces none) =
    unread st d h l p (at (code_of_line l) refl) ∙ ap (λ k. Err (faults.Line k)) stands.line where
      at : (o : Option (List Piece)) → code_of_line l ≡ o → code_of_line l ≡ None
      at None k = k
      at (Some ps) k = let read = code_read l ps k in absurd (none ps read.1 (e ∙ read.0))
code_fails text js n st d h l m p f stands t e (wrong_code {ps = ps} room not_code) =
    code_step_is st d h l p ps t (code_back l ps room (sym e)) ∙ no_code_so d h p st ps _ _ _ refl refl not_code ∙ ap (λ k. Err (faults.WrongCode k)) stands.entry
code_fails text js n st d h l m p f stands t e (wrong_words {ps = ps} room is not_words) =
    code_step_is st d h l p ps t (code_back l ps room (sym e))
    ∙ no_words_so _ _ _ p _ (at_most_true _ _ is.labels) (pieces_true ps (root_code d h.target h.first) is.same) (equal_false _ _ not_words)
    ∙ ap (λ k. Err (faults.WrongWords k)) stands.entry
