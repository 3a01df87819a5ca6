-- The checker's step at any line agrees with the relations: it succeeds exactly if the line leads on, else it returns the line's fault.
use Rattle.std.proofs.Common.{◌≡◌, ℕ, ◌+◌, ◌==◌, Bool, true, false, cond, List, [], ◌∷◌, ◌++◌, length, Option, Some, None, Result, Ok, Err, refl, ap, sym, subst, ◌∙◌, arith}
use Rattle.std.specs.List.{AllByRecursion}
use Rattle.std.proofs.lemmas.Bool.{eqb-true}
use Rattle.std.proofs.lemmas.List.{length-append}
use Rattle.bc_core.specs.Tree.{Exp, Root}
use Rattle.bc_rules_defs.specs.declared.piece.Piece.{Piece}
use Rattle.bc_rules_defs.specs.declared.rule.Table.{Table}
use Rattle.bc_rules_defs.specs.declared.rule.Rule.{Rule}
use Rattle.bc_rules_defs.specs.Rules.{RootDerives}
use Rattle.bc_rules_defs.specs.Code.{root_cost}
use Rattle.bc_cert_defs.specs.declared.check_fault.CheckFault.{CheckFault}
use Rattle.bc_cert_defs.specs.declared.check_fault.CheckFault.TheVariants.{Header, Line}
use Rattle.bc_cert_defs.specs.Text.{header_line, end_line}
use Rattle.bc_cert_defs.specs.Verdict.{Judged}
use Rattle.bc_cert_write.specs.Lines.{node_line as line_of_node}
use Rattle.bc_cert_defs.specs.declared.head.Head.{Head}
use Rattle.bc_cert_read.specs.Lines.{header as read_header, entry_line as read_entry, end_line as read_end}
use Rattle.bc_cert_read.specs.declared.position.Position.{Position}
use Rattle.bc_cert_read.specs.Stacks.{no_trees}
use Rattle.bc_cert_laws.specs.Entries.{IsNumber, NodeHasRoom, PieceHasRoom, pieces_line}
use Rattle.bc_cert_laws.specs.Faults.{HeadHasRoom, head_line, Grown, all_shown, Ends, StandsBy, node, grown, IsCode, judged, RootOver, RootStands, Stage, the_header, between, nodes, code, the_end, Reaches, header, entry, node_line, root_line, code_line, last_line, lines, LineFault, no_header, no_entry, following}
use Rattle.bc_cert_laws.specs.Judging.{State, counted, place_of, step_at, line_step, begun, ended, entered, within_step, code_step}
use Rattle.bc_cert_laws.specs.Judging.{Stage as Kind, the_header as at_header, between as at_entries, nodes as at_nodes, code as at_code, the_end as at_end}
use Rattle.bc_cert_laws.proofs.Read.{header_read, header_back, entry_read, entry_back, end_read, end_back, end_no_entry}
use Rattle.bc_cert_laws.proofs.Results.{StandsAfter, ok_same, err_same}
use Rattle.bc_cert_laws.proofs.Keeping.{StackStands}
use Rattle.bc_cert_laws.proofs.WithinSteps.{WithinTaken, a_node, a_root, within_taken, within_fault, within_node, within_root, within_fails}
use Rattle.bc_cert_laws.proofs.CodeSteps.{rooted_by, code_taken, code_fault, code_made as code_goes, code_fails}
use Rattle.bc_cert_laws.proofs.Said.{shown_with, no_text}

-- what the checker keeps at each stage
pub record AtHeader (st : State) : Type 0 where
  pub stage : st.stage ≡ at_header
  pub entries : st.entries ≡ []

pub record AtEntries (T : Table) (js : List Judged) (kind : Kind) (st : State) : Type 0 where
  pub stage : st.stage ≡ kind
  pub table : st.table ≡ T
  pub entries : st.entries ≡ js

pub record AtNodes (T : Table) (js : List Judged) (h : Head) (ts : List Grown) (st : State) : Type 0 where
  pub own : AtEntries T js (at_nodes h) st
  pub trees : StackStands T ts st.trees
  pub nodes : st.nodes ≡ length (all_shown ts)

abbrev pub IsAt : Stage → State → Type 0
IsAt the_header st = AtHeader st
IsAt (between T js) st = AtEntries T js at_entries st
IsAt (nodes T js h ts) st = AtNodes T js h ts st
IsAt (code T js h r d) st = AtEntries T js (at_code h (rooted_by d)) st
IsAt (the_end T js) st = AtEntries T js at_end st

pub record Related (text : List ℕ) (stage : Stage) (st : State) : Type 0 where
  pub lines : st.lines ≡ lines text
  pub at : IsAt stage st

-- lines that lead to a stage like this state
pub record Leads (text : List ℕ) (st : State) : Type 0 where
  pub stage : Stage
  pub reaches : Reaches text stage
  pub related : Related text stage st

-- a step that answers with a state like this stage
pub record Made (text : List ℕ) (stage : Stage) (r : Result State CheckFault) : Type 0 where
  pub next : State
  pub is : r ≡ Ok next
  pub related : Related text stage next

never : {X : Type 0} {e : CheckFault} {x : State} → ◌≡◌ {A = Result State CheckFault} (Err e) (Ok x) → X
never h = cc

never_wrong : {X : Type 0} {e : CheckFault} {x : State} → ◌≡◌ {A = Result State CheckFault} (Ok x) (Err e) → X
never_wrong h = cc

-- how many lines
pub lines_of_two : (xs ys : List ℕ) → lines (xs ++ ys) ≡ lines xs + lines ys
lines_of_two [] ys = omega arith
lines_of_two (b ∷ xs) ys = at (b == 10) (lines_of_two xs ys) where
  at : (c : Bool) → lines (xs ++ ys) ≡ lines xs + lines ys → cond c (lines (xs ++ ys) + 1) (lines (xs ++ ys)) ≡ cond c (lines xs + 1) (lines xs) + lines ys
  at true h = omega arith
  at false h = h

pub one_more : (text l : List ℕ) → lines l ≡ 0 → lines (text ++ (l ++ 10 ∷ [])) ≡ lines text + 1
one_more text l h =
    let i = lines_of_two text (l ++ 10 ∷ []) in let k : lines (l ++ 10 ∷ []) ≡ lines l + 1 = lines_of_two l (10 ∷ []) in
    omega arith

step_from : (s : Kind) (l : List ℕ) (st : State) → st.stage ≡ s → line_step l st ≡ step_at s l (place_of (counted st)) (counted st)
step_from s l st h = ap (λ k. step_at k l (place_of (counted st)) (counted st)) h

-- the place of the line
stands : (text : List ℕ) (js : List Judged) (n : ℕ) (st : State) → st.lines ≡ lines text → st.entries ≡ js → st.nodes ≡ n → StandsAfter text js n (place_of (counted st))
stands text js n st h i k = record { line = ap (λ m. m + 1) h; entry = ap length i; node = k }

to_text : {a b : List ℕ} (text : List ℕ) (stage : Stage) → b ≡ a → Reaches (text ++ a) stage → Reaches (text ++ b) stage
to_text text stage e r = subst (λ x. Reaches (text ++ x) stage) (sym e) r

-- If the checker's step at a line succeeds, the line leads on.
header_right : (text : List ℕ) (st next : State) (l : List ℕ) → lines l ≡ 0 → Reaches text the_header → Related text the_header st → begun (counted st) (read_header l) ≡ Ok next → Leads (text ++ (l ++ 10 ∷ [])) next
header_right text st next l u r h k = at (read_header l) refl where
  at : (o : Option Table) → read_header l ≡ o → Leads (text ++ (l ++ 10 ∷ [])) next
  at None e = never (sym (ap (begun (counted st)) e) ∙ k)
  at (Some T) e =
      let is : l ++ 10 ∷ [] ≡ header_line T = header_read l T e in
      let whole : text ++ (l ++ 10 ∷ []) ≡ header_line T = ap (λ x. x ++ (l ++ 10 ∷ [])) (no_text text r) ∙ is in
      subst (Leads (text ++ (l ++ 10 ∷ []))) (ok_same (sym (ap (begun (counted st)) e) ∙ k)) (record {
        stage = between T [];
        reaches = subst (λ x. Reaches x (between T [])) (sym whole) header;
        related = record { lines = ap (λ m. m + 1) h.lines ∙ sym (one_more text l u); at = record { stage = refl; table = refl; entries = h.at.entries } };
      })

module _ (text : List ℕ) (T : Table) (js : List Judged) (st next : State) (l : List ℕ) (u : lines l ≡ 0) where
  entry_right : Reaches text (between T js) → Related text (between T js) st → entered l (place_of (counted st)) (counted st) (read_entry l) ≡ Ok next → Leads (text ++ (l ++ 10 ∷ [])) next
  entry_right r h k = at (read_entry l) refl where
    last : (n : ℕ) → read_end l ≡ Some n → (b : Bool) → (n == length st.entries) ≡ b → cond b (Ok (record (counted st) { stage = at_end })) (Err (Line (place_of (counted st)).line)) ≡ Ok next → Leads (text ++ (l ++ 10 ∷ [])) next
    last n e false t i = never i
    last n e true t i =
        let same : n ≡ length js = eqb-true n (length st.entries) t ∙ ap length h.at.entries in
        let read = end_read l (length js) (e ∙ ap (λ m. Some m) same) in
        subst (Leads (text ++ (l ++ 10 ∷ []))) (ok_same i) (record {
          stage = the_end T js;
          reaches = to_text text (the_end T js) read.0 (last_line r read.1);
          related = record { lines = ap (λ m. m + 1) h.lines ∙ sym (one_more text l u); at = record { stage = refl; table = h.at.table; entries = h.at.entries } };
        })

    at_last : (o : Option ℕ) → read_end l ≡ o → ended (place_of (counted st)) (counted st) o ≡ Ok next → Leads (text ++ (l ++ 10 ∷ [])) next
    at_last None e i = never i
    at_last (Some n) e i = last n e (n == length st.entries) refl i

    at : (o : Option Head) → read_entry l ≡ o → Leads (text ++ (l ++ 10 ∷ [])) next
    at None e = at_last (read_end l) refl (sym (ap (entered l (place_of (counted st)) (counted st)) e) ∙ k)
    at (Some x) e =
        let read = entry_read l x e in
        subst (Leads (text ++ (l ++ 10 ∷ []))) (ok_same (sym (ap (entered l (place_of (counted st)) (counted st)) e) ∙ k)) (record {
          stage = nodes T js x [];
          reaches = to_text text (nodes T js x []) read.0 (entry r read.1);
          related = record {
            lines = ap (λ m. m + 1) h.lines ∙ sym (one_more text l u);
            at = record { own = record { stage = refl; table = h.at.table; entries = h.at.entries }; trees = tt; nodes = refl };
          };
        })

  within_right : (h : Head) (ts : List Grown) → Reaches text (nodes T js h ts) → Related text (nodes T js h ts) st → within_step h l (place_of (counted st)) (counted st) ≡ Ok next → Leads (text ++ (l ++ 10 ∷ [])) next
  within_right h ts r k i = at (within_taken T ts (counted st) next h l (place_of (counted st)) k.at.own.table k.at.trees i) where
    counts : st.lines + 1 ≡ lines (text ++ (l ++ 10 ∷ []))
    counts = ap (λ m. m + 1) k.lines ∙ sym (one_more text l u)

    at : WithinTaken T ts h l (counted st) next → Leads (text ++ (l ++ 10 ∷ [])) next
    at (a_node e s rules ends room stand is x good after) =
        let all : all_shown ts ++ node e s rules ∷ [] ≡ all_shown (ends.before ++ grown e s rules ends.own ∷ []) = sym (shown_with e s rules ts ends) in
        subst (Leads (text ++ (l ++ 10 ∷ []))) (sym after) (record {
          stage = nodes T js h (ends.before ++ grown e s rules ends.own ∷ []);
          reaches = to_text text (nodes T js h (ends.before ++ grown e s rules ends.own ∷ [])) is (node_line r ends room stand);
          related = record {
            lines = counts;
            at = record {
              own = record { stage = refl; table = k.at.own.table; entries = k.at.own.entries };
              trees = good;
              nodes = ap (λ m. m + 1) k.at.nodes ∙ sym (length-append (all_shown ts) (node e s rules ∷ [])) ∙ ap length all;
            };
          };
        })
    at (a_root x d over stand after) =
        subst (Leads (text ++ (l ++ 10 ∷ []))) (sym after) (record {
          stage = code T js h x d;
          reaches = root_line r over stand;
          related = record { lines = counts; at = record { stage = refl; table = k.at.own.table; entries = k.at.own.entries } };
        })

  code_right : (h : Head) (x : Root) (d : RootDerives T x) → Reaches text (code T js h x d) → Related text (code T js h x d) st → code_step h (rooted_by d) l (place_of (counted st)) (counted st) ≡ Ok next → Leads (text ++ (l ++ 10 ∷ [])) next
  code_right h x d r k i =
      let t = code_taken (counted st) next d h l (place_of (counted st)) k.at.table i in
      subst (Leads (text ++ (l ++ 10 ∷ []))) (sym t.next) (record {
        stage = between T (js ++ judged h x t.pieces ∷ []);
        reaches = to_text text (between T (js ++ judged h x t.pieces ∷ [])) t.text (code_line r t.room t.code t.words);
        related = record { lines = ap (λ m. m + 1) k.lines ∙ sym (one_more text l u); at = record { stage = refl; table = k.at.table; entries = ap (λ es. es ++ judged h x t.pieces ∷ []) k.at.entries } };
      })

pub line_right : (text : List ℕ) (stage : Stage) (st next : State) (l : List ℕ) → lines l ≡ 0 → Reaches text stage → Related text stage st → line_step l st ≡ Ok next → Leads (text ++ (l ++ 10 ∷ [])) next
line_right text the_header st next l u r h k = header_right text st next l u r h (sym (step_from at_header l st h.at.stage) ∙ k)
line_right text (between T js) st next l u r h k = entry_right text T js st next l u r h (sym (step_from at_entries l st h.at.stage) ∙ k)
line_right text (nodes T js e ts) st next l u r h k = within_right text T js st next l u e ts r h (sym (step_from (at_nodes e) l st h.at.own.stage) ∙ k)
line_right text (code T js e x d) st next l u r h k = code_right text T js st next l u e x d r h (sym (step_from (at_code e (rooted_by d)) l st h.at.stage) ∙ k)
line_right text (the_end T js) st next l u r h k = never (sym (step_from at_end l st h.at.stage) ∙ k)

-- If the checker's step at a line fails, the line has that fault.
header_wrong : (text : List ℕ) (st : State) (l : List ℕ) (f : CheckFault) → begun (counted st) (read_header l) ≡ Err f → LineFault text the_header (l ++ 10 ∷ []) f
header_wrong text st l f k = at (read_header l) refl where
  at : (o : Option Table) → read_header l ≡ o → LineFault text the_header (l ++ 10 ∷ []) f
  at None e = subst (LineFault text the_header (l ++ 10 ∷ [])) (err_same (sym (ap (begun (counted st)) e) ∙ k)) (no_header (λ T is. unread T (sym e ∙ header_back l T is))) where
    unread : (T : Table) → ◌≡◌ {A = Option Table} None (Some T) → ⊥
    unread T h = cc
  at (Some T) e = never_wrong (sym (ap (begun (counted st)) e) ∙ k)

entry_wrong : (text : List ℕ) (T : Table) (js : List Judged) (st : State) (l : List ℕ) (f : CheckFault) → Related text (between T js) st → entered l (place_of (counted st)) (counted st) (read_entry l) ≡ Err f → LineFault text (between T js) (l ++ 10 ∷ []) f
entry_wrong text T js st l f h k = at (read_entry l) refl where
  place : Line (place_of (counted st)).line ≡ Line (lines text + 1)
  place = ap (λ n. Line (n + 1)) h.lines

  unread_head : {x : Head} → ◌≡◌ {A = Option Head} None (Some x) → ⊥
  unread_head i = cc

  unread_end : {n : ℕ} → ◌≡◌ {A = Option ℕ} None (Some n) → ⊥
  unread_end i = cc

  fault : Line (place_of (counted st)).line ≡ f → read_entry l ≡ None → (IsNumber (length js) → ¬ (l ++ 10 ∷ [] ≡ end_line (length js))) → LineFault text (between T js) (l ++ 10 ∷ []) f
  fault i e g = subst (LineFault text (between T js) (l ++ 10 ∷ [])) (sym place ∙ i) (no_entry (λ x room is. unread_head (sym e ∙ entry_back l x room is)) g)

  some_same : {m n : ℕ} → ◌≡◌ {A = Option ℕ} (Some m) (Some n) → m ≡ n
  some_same i = cc

  itself : (m n : ℕ) → m ≡ n → (m == n) ≡ false → ⊥
  itself m n i t = grind (arith, i, t)

  last : read_entry l ≡ None → (n : ℕ) → read_end l ≡ Some n → (b : Bool) → (n == length st.entries) ≡ b → cond b (Ok (record (counted st) { stage = at_end })) (Err (Line (place_of (counted st)).line)) ≡ Err f → LineFault text (between T js) (l ++ 10 ∷ []) f
  last e n i true t j = never_wrong j
  last e n i false t j = fault (err_same j) e (λ room is. itself n (length st.entries) (some_same (sym i ∙ end_back l (length js) room is) ∙ sym (ap length h.at.entries)) t)

  at_last : read_entry l ≡ None → (o : Option ℕ) → read_end l ≡ o → ended (place_of (counted st)) (counted st) o ≡ Err f → LineFault text (between T js) (l ++ 10 ∷ []) f
  at_last e None i j = fault (err_same j) e (λ room is. unread_end (sym i ∙ end_back l (length js) room is))
  at_last e (Some n) i j = last e n i (n == length st.entries) refl j

  at : (o : Option Head) → read_entry l ≡ o → LineFault text (between T js) (l ++ 10 ∷ []) f
  at None e = at_last e (read_end l) refl (sym (ap (entered l (place_of (counted st)) (counted st)) e) ∙ k)
  at (Some x) e = never_wrong (sym (ap (entered l (place_of (counted st)) (counted st)) e) ∙ k)

pub line_wrong : (text : List ℕ) (stage : Stage) (st : State) (l : List ℕ) (f : CheckFault) → Related text stage st → line_step l st ≡ Err f → LineFault text stage (l ++ 10 ∷ []) f
line_wrong text the_header st l f h k = header_wrong text st l f (sym (step_from at_header l st h.at.stage) ∙ k)
line_wrong text (between T js) st l f h k = entry_wrong text T js st l f h (sym (step_from at_entries l st h.at.stage) ∙ k)
line_wrong text (nodes T js e ts) st l f h k =
    within_fault text T js ts (counted st) e l (place_of (counted st)) f (stands text js (length (all_shown ts)) st h.lines h.at.own.entries h.at.nodes) h.at.own.table h.at.trees (sym (step_from (at_nodes e) l st h.at.own.stage) ∙ k)
line_wrong text (code T js e x d) st l f h k =
    code_fault text js st.nodes (counted st) d e l (place_of (counted st)) f (stands text js st.nodes st h.lines h.at.entries refl) h.at.table (sym (step_from (at_code e (rooted_by d)) l st h.at.stage) ∙ k)
line_wrong text (the_end T js) st l f h k =
    subst (LineFault text (the_end T js) (l ++ 10 ∷ [])) (sym (ap (λ n. Line (n + 1)) h.lines) ∙ err_same (sym (step_from at_end l st h.at.stage) ∙ k)) following

-- If a line has a fault, the checker's step at it returns that fault.
header_fails : (text : List ℕ) (st : State) (l m : List ℕ) (f : CheckFault) → m ≡ l ++ 10 ∷ [] → LineFault text the_header m f → begun (counted st) (read_header l) ≡ Err f
header_fails text st l m f is (no_header none) = at (read_header l) refl where
  at : (o : Option Table) → read_header l ≡ o → begun (counted st) (read_header l) ≡ Err Header
  at None e = ap (begun (counted st)) e
  at (Some T) e = absurd (none T (is ∙ header_read l T e))

entry_fails : (text : List ℕ) (T : Table) (js : List Judged) (st : State) (l m : List ℕ) (f : CheckFault) → Related text (between T js) st → m ≡ l ++ 10 ∷ [] → LineFault text (between T js) m f
    → entered l (place_of (counted st)) (counted st) (read_entry l) ≡ Err f
entry_fails text T js st l m f h is (no_entry no_head no_end) = at (read_entry l) refl where
  p : Position
  p = place_of (counted st)

  place : ◌≡◌ {A = Result State CheckFault} (Err (Line (st.lines + 1))) (Err (Line (lines text + 1)))
  place = ap (λ n. Err (Line (n + 1))) h.lines

  last : (n : ℕ) → read_end l ≡ Some n → (b : Bool) → (n == length st.entries) ≡ b → cond b (Ok (record (counted st) { stage = at_end })) (Err (Line (st.lines + 1))) ≡ Err (Line (lines text + 1))
  last n e false t = place
  last n e true t =
      let same : n ≡ length js = eqb-true n (length st.entries) t ∙ ap length h.at.entries in
      let read = end_read l (length js) (e ∙ ap (λ k. Some k) same) in
      absurd (no_end read.1 (is ∙ read.0))

  at_last : (o : Option ℕ) → read_end l ≡ o → ended (place_of (counted st)) (counted st) o ≡ Err (Line (lines text + 1))
  at_last None e = place
  at_last (Some n) e = last n e (n == length st.entries) refl

  at : (o : Option Head) → read_entry l ≡ o → entered l (place_of (counted st)) (counted st) o ≡ Err (Line (lines text + 1))
  at None e = at_last (read_end l) refl
  at (Some x) e = let read = entry_read l x e in absurd (no_head x read.1 (is ∙ read.0))

end_fails : (text : List ℕ) (T : Table) (js : List Judged) (st : State) (l m : List ℕ) (f : CheckFault) → Related text (the_end T js) st → LineFault text (the_end T js) m f → step_at at_end l (place_of (counted st)) (counted st) ≡ Err f
end_fails text T js st l m f h following = ap (λ n. Err (Line (n + 1))) h.lines

pub line_fails : (text : List ℕ) (stage : Stage) (st : State) (l m : List ℕ) (f : CheckFault) → Related text stage st → m ≡ l ++ 10 ∷ [] → LineFault text stage m f → line_step l st ≡ Err f
line_fails text the_header st l m f h is k = step_from at_header l st h.at.stage ∙ header_fails text st l m f is k
line_fails text (between T js) st l m f h is k = step_from at_entries l st h.at.stage ∙ entry_fails text T js st l m f h is k
line_fails text (nodes T js e ts) st l m f h is k =
    step_from (at_nodes e) l st h.at.own.stage
    ∙ within_fails text T js ts (counted st) e l m (place_of (counted st)) f (stands text js (length (all_shown ts)) st h.lines h.at.own.entries h.at.nodes) h.at.own.table h.at.trees is k
line_fails text (code T js e x d) st l m f h is k =
    step_from (at_code e (rooted_by d)) l st h.at.stage
    ∙ code_fails text js st.nodes (counted st) d e l m (place_of (counted st)) f (stands text js st.nodes st h.lines h.at.entries refl) h.at.table is k
line_fails text (the_end T js) st l m f h is k = step_from at_end l st h.at.stage ∙ end_fails text T js st l m f h k

-- If a line leads on, the checker's step at it succeeds.
pub header_made : (T : Table) (st : State) (l : List ℕ) → lines l ≡ 0 → header_line T ≡ l ++ 10 ∷ [] → Related [] the_header st → Made (header_line T) (between T []) (line_step l st)
header_made T st l u is h = record {
  next = record (counted st) { table = T; stage = at_entries };
  is = step_from at_header l st h.at.stage ∙ ap (begun (counted st)) (header_back l T (sym is));
  related = record {
    lines = ap (λ m. m + 1) h.lines ∙ sym (one_more [] l u) ∙ ap lines (sym is);
    at = record { stage = refl; table = refl; entries = h.at.entries };
  };
}

module _ (text : List ℕ) (T : Table) (js : List Judged) (st : State) (l m : List ℕ) (u : lines l ≡ 0) (is : m ≡ l ++ 10 ∷ []) where
  counts : st.lines ≡ lines text → st.lines + 1 ≡ lines (text ++ m)
  counts h = ap (λ n. n + 1) h ∙ sym (one_more text l u) ∙ ap (λ x. lines (text ++ x)) (sym is)

  pub entry_made : (h : Head) → HeadHasRoom h → m ≡ head_line h → Related text (between T js) st → Made (text ++ m) (nodes T js h []) (line_step l st)
  entry_made h room e k = record {
    next = record (counted st) { stage = at_nodes h; trees = no_trees; nodes = 0 };
    is = step_from at_entries l st k.at.stage ∙ ap (entered l (place_of (counted st)) (counted st)) (entry_back l h room (sym is ∙ e));
    related = record { lines = counts k.lines; at = record { own = record { stage = refl; table = k.at.table; entries = k.at.entries }; trees = tt; nodes = refl } };
  }

  pub node_made : (h : Head) (ts : List Grown) (e : Exp) (s : ℕ) (rules : List Rule) (ends : Ends e s ts) → NodeHasRoom T (node e s rules) → StandsBy T e s rules (all_shown ends.own ++ node e s rules ∷ []) → m ≡ line_of_node T (node e s rules)
      → Related text (nodes T js h ts) st → Made (text ++ m) (nodes T js h (ends.before ++ grown e s rules ends.own ∷ [])) (line_step l st)
  node_made h ts e s rules ends room stand i k =
      let all : all_shown ts ++ node e s rules ∷ [] ≡ all_shown (ends.before ++ grown e s rules ends.own ∷ []) = sym (shown_with e s rules ts ends) in
      let x = within_node T ts (counted st) h l (place_of (counted st)) e s rules k.at.own.table k.at.trees ends room stand (sym is ∙ i) in
      record {
        next = record (counted st) { stage = at_nodes h; trees = x.0; nodes = st.nodes + 1 };
        is = step_from (at_nodes h) l st k.at.own.stage ∙ x.1.1;
        related = record {
          lines = counts k.lines;
          at = record {
            own = record { stage = refl; table = k.at.own.table; entries = k.at.own.entries };
            trees = x.1.0;
            nodes = ap (λ n. n + 1) k.at.nodes ∙ sym (length-append (all_shown ts) (node e s rules ∷ [])) ∙ ap length all;
          };
        };
      }

  pub root_made : (h : Head) (ts : List Grown) (x : Root) (d : RootDerives T x) → RootOver ts x m → RootStands T x (all_shown ts) m d → Related text (nodes T js h ts) st → Made (text ++ m) (code T js h x d) (line_step l st)
  root_made h ts x d over stand k = record {
    next = record (counted st) { stage = at_code h (rooted_by d); trees = no_trees };
    is =
        step_from (at_nodes h) l st k.at.own.stage
        ∙ within_root T ts (counted st) h l (place_of (counted st)) x d k.at.trees (subst (RootOver ts x) is over) (subst (λ y. RootStands T x (all_shown ts) y d) is stand);
    related = record { lines = counts k.lines; at = record { stage = refl; table = k.at.own.table; entries = k.at.own.entries } };
  }

  pub code_made : (h : Head) (x : Root) (d : RootDerives T x) (ps : List Piece) → AllByRecursion PieceHasRoom ps → IsCode d h ps → root_cost d ≡ h.words → m ≡ pieces_line ps → Related text (code T js h x d) st
      → Made (text ++ m) (between T (js ++ judged h x ps ∷ [])) (line_step l st)
  code_made h x d ps room c w e k = record {
    next = record (counted st) { entries = st.entries ++ judged h x ps ∷ []; stage = at_entries };
    is = step_from (at_code h (rooted_by d)) l st k.at.stage ∙ code_goes (counted st) d h l (place_of (counted st)) ps k.at.table room c w (sym is ∙ e);
    related = record { lines = counts k.lines; at = record { stage = refl; table = k.at.table; entries = ap (λ es. es ++ judged h x ps ∷ []) k.at.entries } };
  }

  pub last_made : IsNumber (length js) → m ≡ end_line (length js) → Related text (between T js) st → Made (text ++ m) (the_end T js) (line_step l st)
  last_made room e k = record {
    next = record (counted st) { stage = at_end };
    is =
        step_from at_entries l st k.at.stage ∙ ap (entered l (place_of (counted st)) (counted st)) (end_no_entry l (length js) (sym is ∙ e))
        ∙ ap (ended (place_of (counted st)) (counted st)) (end_back l (length js) room (sym is ∙ e)) ∙ ap (λ b. cond b (Ok (record (counted st) { stage = at_end })) (Err (Line (st.lines + 1)))) (itself (length js) (length st.entries) (ap length (sym k.at.entries)));
    related = record { lines = counts k.lines; at = record { stage = refl; table = k.at.table; entries = k.at.entries } };
  } where
    itself : (i n : ℕ) → i ≡ n → (i == n) ≡ true
    itself i n h = grind (arith, h)
