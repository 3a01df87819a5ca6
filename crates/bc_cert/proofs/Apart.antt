-- A step depends only on the number of entries before the current one, so dropped entries can be replaced by placeholders.
use Rattle.std.proofs.Common.{◌≡◌, ℕ, ◌+◌, ◌≤◌, ◌==◌, Bool, true, false, cond, List, [], ◌∷◌, ◌++◌, length, Option, Some, None, Result, Ok, Err, refl, ap, sym, ◌∙◌, subst, arith, append_assoc, length-append}
use Rattle.std.proofs.lemmas.List.{append_cancel_left, length-replicate}
use Rattle.bc_rules_defs.specs.declared.rule.Table.{Table}
use Rattle.bc_cert_defs.specs.declared.check_fault.CheckFault.{CheckFault}
use Rattle.bc_cert_defs.specs.declared.check_fault.CheckFault.TheVariants as faults
use Rattle.bc_cert_defs.specs.Verdict.{Judged}
use Rattle.bc_cert_defs.specs.declared.head.Head.{Head}
use Rattle.bc_cert_read.specs.declared.lines.NodeLine.{NodeLine}
use Rattle.bc_cert_read.specs.declared.lines.RootLine.{RootLine}
use Rattle.bc_cert_read.specs.Lines.{header, entry_line, end_line, node_line, root_line}
use Rattle.bc_cert_read.specs.declared.position.Position.{Position}
use Rattle.bc_cert_read.specs.Stacks.{◌>>=◌, Stack, no_trees, Rooted, node_step, root_step}
use Rattle.bc_cert_read.specs.TreeView.{Fails}
use Rattle.bc_cert_laws.specs.Judging.{Stage, the_header, between, nodes, code, the_end, State, code_judged, begun, ended, entered, noded, rooted, step_at, place_of, counted, line_step, byte_step, feed_from}
use Rattle.bc_cert.specs.Answer.{sum_of}
use Rattle.bc_cert.specs.View.{following, fed_after, gone, no_entry}

one_more : (n : ℕ) → n ≤ n + 1
one_more n = omega arith

no_fewer : (n m : ℕ) → n ≤ n + m
no_fewer n m = omega arith

-- both lead to this state, each after its own entries, or both have this fault
abbrev Both : (p q : List Judged) → ℕ → Result State CheckFault → Result State CheckFault → Type 0
Both p q n (Ok t) (Ok u) = (s : State) × (t ≡ following p s) × (u ≡ following q s) × (length s.entries ≤ n)
Both p q n (Err f) (Err g) = f ≡ g
Both p q n _ _ = ⊥

begun_both : (p q : List Judged) (st : State) (o : Option Table) → Both p q (length st.entries + 1) (begun (following p st) o) (begun (following q st) o)
begun_both p q st None = refl
begun_both p q st (Some T) = (record st { table = T; stage = between }, refl, refl, one_more (length st.entries))

last_both : (p q : List Judged) (at : Position) (st : State) (t : Bool) → Both p q (length st.entries + 1) (cond t (Ok (record (following p st) { stage = the_end })) (Err (faults.Line at.line))) (cond t (Ok (record (following q st) { stage = the_end })) (Err (faults.Line at.line)))
last_both p q at st true = (record st { stage = the_end }, refl, refl, one_more (length st.entries))
last_both p q at st false = refl

ended_both : (p q : List Judged) (at : Position) (st : State) (o : Option ℕ) → Both p q (length st.entries + 1) (ended at (following p st) o) (ended at (following q st) o)
ended_both p q at st None = refl
ended_both p q at st (Some n) = last_both p q at st (n == at.entry)

entered_both : (p q : List Judged) (line : List ℕ) (at : Position) (st : State) (o : Option Head) → Both p q (length st.entries + 1) (entered line at (following p st) o) (entered line at (following q st) o)
entered_both p q line at st (Some h) = (record st { stage = nodes h; trees = no_trees; nodes = 0 }, refl, refl, one_more (length st.entries))
entered_both p q line at st None = ended_both p q at st (end_line line)

root_both : (p q : List Judged) (h : Head) (st : State) (r : Result Rooted CheckFault) → Both p q (length st.entries + 1) (r >>= (λ x. Ok (record (following p st) { stage = code h x; trees = no_trees }))) (r >>= (λ x. Ok (record (following q st) { stage = code h x; trees = no_trees })))
root_both p q h st (Ok x) = (record st { stage = code h x; trees = no_trees }, refl, refl, one_more (length st.entries))
root_both p q h st (Err f) = refl

rooted_both : (p q : List Judged) (h : Head) (at : Position) (st : State) (o : Option RootLine) → Both p q (length st.entries + 1) (rooted h at (following p st) o) (rooted h at (following q st) o)
rooted_both p q h at st None = refl
rooted_both p q h at st (Some r) = root_both p q h st (root_step r at st.trees)

node_both : (p q : List Judged) (h : Head) (st : State) (r : Result Stack CheckFault) → Both p q (length st.entries + 1) (r >>= (λ ts. Ok (record (following p st) { stage = nodes h; trees = ts; nodes = st.nodes + 1 }))) (r >>= (λ ts. Ok (record (following q st) { stage = nodes h; trees = ts; nodes = st.nodes + 1 })))
node_both p q h st (Ok ts) = (record st { stage = nodes h; trees = ts; nodes = st.nodes + 1 }, refl, refl, one_more (length st.entries))
node_both p q h st (Err f) = refl

noded_both : (p q : List Judged) (h : Head) (line : List ℕ) (at : Position) (st : State) (o : Option NodeLine) → Both p q (length st.entries + 1) (noded h line at (following p st) o) (noded h line at (following q st) o)
noded_both p q h line at st (Some n) = node_both p q h st (node_step st.table n at st.trees)
noded_both p q h line at st None = rooted_both p q h at st (root_line line)

code_both : (p q : List Judged) (st : State) (r : Result Judged CheckFault) → Both p q (length st.entries + 1) (r >>= (λ j. Ok (record (following p st) { entries = (p ++ st.entries) ++ j ∷ []; stage = between }))) (r >>= (λ j. Ok (record (following q st) { entries = (q ++ st.entries) ++ j ∷ []; stage = between })))
code_both p q st (Ok j) =
    let long = length-append st.entries (j ∷ []) in (
      record st { entries = st.entries ++ j ∷ []; stage = between },
      ap (λ es. record st { entries = es; stage = between }) (append_assoc p st.entries (j ∷ [])),
      ap (λ es. record st { entries = es; stage = between }) (append_assoc q st.entries (j ∷ [])),
      omega (arith, long),
    )
code_both p q st (Err f) = refl

step_both : (p q : List Judged) (g : Stage) (line : List ℕ) (at : Position) (st : State) → Both p q (length st.entries + 1) (step_at g line at (following p st)) (step_at g line at (following q st))
step_both p q the_header line at st = begun_both p q st (header line)
step_both p q between line at st = entered_both p q line at st (entry_line line)
step_both p q (nodes h) line at st = noded_both p q h line at st (node_line line)
step_both p q (code h r) line at st = code_both p q st (code_judged st.table h r line at)
step_both p q the_end line at st = refl

line_both : (p q : List Judged) → length p ≡ length q → (line : List ℕ) (st : State) → Both p q (length st.entries + 1) (line_step line (following p st)) (line_step line (following q st))
line_both p q h line st =
    let same : place_of (counted (following p st)) ≡ place_of (counted (following q st)) =
    ap (λ n. record { line = st.lines + 1; entry = n; node = st.nodes }) (length-append p st.entries ∙ ap (λ n. n + length st.entries) h ∙ sym (length-append q st.entries)) in
    subst (λ at. Both p q (length st.entries + 1) (step_at st.stage line (place_of (counted (following p st))) (following p (counted st))) (step_at st.stage line at (following q (counted st)))) same
    (step_both p q st.stage line (place_of (counted (following p st))) (counted st))

-- the same for bytes
abbrev BothFed : (p q : List Judged) → ℕ → Result (State × List ℕ) CheckFault → Result (State × List ℕ) CheckFault → Type 0
BothFed p q n (Ok t) (Ok u) = (s : State × List ℕ) × (t ≡ fed_after p s) × (u ≡ fed_after q s) × (length s.0.entries ≤ n)
BothFed p q n (Err f) (Err g) = f ≡ g
BothFed p q n _ _ = ⊥

weaker : (p q : List Judged) (m n : ℕ) (r x : Result (State × List ℕ) CheckFault) → m ≤ n → BothFed p q m r x → BothFed p q n r x
weaker p q m n (Ok t) (Ok u) h k = let few = k.3 in (k.0, k.1, k.2, omega (arith, h, few))
weaker p q m n (Ok t) (Err g) h k = absurd k
weaker p q m n (Err f) (Ok u) h k = absurd k
weaker p q m n (Err f) (Err g) h k = k

whole_both : (p q : List Judged) (n : ℕ) (r x : Result State CheckFault) → Both p q n r x → BothFed p q n (r >>= (λ s. Ok (s, []))) (x >>= (λ s. Ok (s, [])))
whole_both p q n (Ok t) (Ok u) h = ((h.0, []), ap (λ s. (s, [])) h.1, ap (λ s. (s, [])) h.2, h.3)
whole_both p q n (Ok t) (Err g) h = absurd h
whole_both p q n (Err f) (Ok u) h = absurd h
whole_both p q n (Err f) (Err g) h = h

byte_both : (p q : List Judged) → length p ≡ length q → (b : ℕ) (s : State × List ℕ) (t : Bool)
    → BothFed p q (length s.0.entries + 1) (cond t (line_step s.1 (following p s.0) >>= (λ st. Ok (st, []))) (Ok (following p s.0, s.1 ++ b ∷ []))) (cond t (line_step s.1 (following q s.0) >>= (λ st. Ok (st, []))) (Ok (following q s.0, s.1 ++ b ∷ [])))
byte_both p q h b s true = whole_both p q (length s.0.entries + 1) (line_step s.1 (following p s.0)) (line_step s.1 (following q s.0)) (line_both p q h s.1 s.0)
byte_both p q h b s false = ((s.0, s.1 ++ b ∷ []), refl, refl, one_more (length s.0.entries))

abbrev AllBoth : (p q : List Judged) (bs : List ℕ) → Type 0
AllBoth p q bs = (s : State × List ℕ) → BothFed p q (length s.0.entries + length bs) (feed_from bs (fed_after p s)) (feed_from bs (fed_after q s))

on_both : (p q : List Judged) (n : ℕ) (bs : List ℕ) → AllBoth p q bs → (r x : Result (State × List ℕ) CheckFault) → BothFed p q n r x → BothFed p q (n + length bs) (r >>= (λ t. feed_from bs t)) (x >>= (λ t. feed_from bs t))
on_both p q n bs all (Ok t) (Ok u) k =
    let few = k.3 in
    subst (λ y. BothFed p q (n + length bs) (feed_from bs t) (feed_from bs y)) (sym k.2)
    (subst (λ y. BothFed p q (n + length bs) (feed_from bs y) (feed_from bs (fed_after q k.0))) (sym k.1)
    (weaker p q (length k.0.0.entries + length bs) (n + length bs) (feed_from bs (fed_after p k.0)) (feed_from bs (fed_after q k.0)) (omega (arith, few)) (all k.0)))
on_both p q n bs all (Ok t) (Err g) k = absurd k
on_both p q n bs all (Err f) (Ok u) k = absurd k
on_both p q n bs all (Err f) (Err g) k = k

feed_both : (p q : List Judged) → length p ≡ length q → (bs : List ℕ) → AllBoth p q bs
feed_both p q h [] = λ s. (s, refl, refl, no_fewer (length s.0.entries) 0)
feed_both p q h (b ∷ bs) = λ s.
    weaker p q (length s.0.entries + 1 + length bs) (length s.0.entries + length (b ∷ bs)) _ _ (omega arith)
    (on_both p q (length s.0.entries + 1) bs (feed_both p q h bs) (byte_step b (fed_after p s)) (byte_step b (fed_after q s)) (byte_both p q h b s (b == 10)))

abbrev with_entries : List Judged → State × List ℕ → State × List ℕ
with_entries es s = (record s.0 { entries = es }, s.1)

same_after : (p : List Judged) (s t : State × List ℕ) → fed_after p s ≡ fed_after p t → s ≡ t
same_after p s t h =
    let entries : s.0.entries ≡ t.0.entries = append_cancel_left p s.0.entries t.0.entries (ap (λ x. x.0.entries) h) in
    ap (λ es. with_entries es s) entries ∙ ap (λ x. with_entries t.0.entries x) h

-- bytes have the same effect after any entries of the same number
pub fed_apart : (n : ℕ) (js : List Judged) (bs : List ℕ) (s t : State × List ℕ) → length js ≡ n → feed_from bs (fed_after (gone n) s) ≡ Ok (fed_after (gone n) t) → (feed_from bs (fed_after js s) ≡ Ok (fed_after js t)) × (length t.0.entries ≤ length s.0.entries + length bs)
fed_apart n js bs s t h e = by_result (feed_from bs (fed_after js s)) refl (subst (λ r. BothFed (gone n) js (length s.0.entries + length bs) r (feed_from bs (fed_after js s))) e (feed_both (gone n) js (length-replicate n no_entry ∙ sym h) bs s)) where
  by_result : (x : Result (State × List ℕ) CheckFault) → feed_from bs (fed_after js s) ≡ x → BothFed (gone n) js (length s.0.entries + length bs) (Ok (fed_after (gone n) t)) x → (feed_from bs (fed_after js s) ≡ Ok (fed_after js t)) × (length t.0.entries ≤ length s.0.entries + length bs)
  by_result (Ok u) i k =
      let same : t ≡ k.0 = same_after (gone n) t k.0 k.1 in (
        i ∙ ap Ok (k.2 ∙ ap (λ x. fed_after js x) (sym same)),
        subst (λ x. length x.0.entries ≤ length s.0.entries + length bs) (sym same) k.3,
      )
  by_result (Err g) i k = absurd k

-- and they have the same fault
pub fails_apart : (n : ℕ) (js : List Judged) (bs : List ℕ) (s : State × List ℕ) (f : CheckFault) → length js ≡ n → Fails f (feed_from bs (fed_after (gone n) s)) → Fails f (feed_from bs (fed_after js s))
fails_apart n js bs s f h bad = by_fault f bad where
  found : (g : CheckFault) (r x : Result (State × List ℕ) CheckFault) → BothFed (gone n) js (length s.0.entries + length bs) r x → r ≡ Err g → x ≡ Err g
  found g (Ok t) x k e = cc
  found g (Err i) (Ok u) k e = absurd k
  found g (Err i) (Err j) k e = ap Err (sym k) ∙ e

  is_fault : (g : CheckFault) → feed_from bs (fed_after (gone n) s) ≡ Err g → feed_from bs (fed_after js s) ≡ Err g
  is_fault g e = found g (feed_from bs (fed_after (gone n) s)) (feed_from bs (fed_after js s)) (feed_both (gone n) js (length-replicate n no_entry ∙ sym h) bs s) e

  by_fault : (g : CheckFault) → Fails g (feed_from bs (fed_after (gone n) s)) → Fails g (feed_from bs (fed_after js s))
  by_fault faults.Header k = is_fault faults.Header k
  by_fault (faults.Line l) k = is_fault (faults.Line l) k
  by_fault faults.Truncated k = is_fault faults.Truncated k
  by_fault (faults.WrongCost i n) k = is_fault (faults.WrongCost i n) k
  by_fault (faults.WrongRule i n) k = is_fault (faults.WrongRule i n) k
  by_fault (faults.WrongCode i) k = is_fault (faults.WrongCode i) k
  by_fault (faults.WrongWords i) k = is_fault (faults.WrongWords i) k
  by_fault (faults.TooDeep l) k = is_fault (faults.TooDeep l) k
  by_fault faults.Read k = is_fault faults.Read k
  by_fault faults.Memory k = tt

-- the words of two lists of entries
regrouped : (a b c d : ℕ) → b ≡ c + d → a + b ≡ (a + c) + d
regrouped a b c d h = omega (arith, h)

zero_more : (n : ℕ) → n ≡ 0 + n
zero_more n = omega arith

pub sum_append : (js ks : List Judged) → sum_of (js ++ ks) ≡ sum_of js + sum_of ks
sum_append [] ks = zero_more (sum_of ks)
sum_append (j ∷ js) ks = regrouped j.words (sum_of (js ++ ks)) (sum_of js) (sum_of ks) (sum_append js ks)
