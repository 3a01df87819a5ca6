-- The checker's function returns what the bytes say, or their first fault.
use Rattle.std.proofs.Common.{◌≡◌, ℕ, ◌+◌, ◌==◌, Bool, true, false, cond, List, [], ◌∷◌, ◌++◌, Result, Ok, Err, refl, ap, sym, subst, ◌∙◌, append-nil, append_assoc, arith}
use Rattle.std.proofs.lemmas.Bool.{eqb-true}
use Rattle.bc_rules_defs.specs.declared.rule.Table.{Table}
use Rattle.bc_cert_defs.specs.declared.check_fault.CheckFault.{CheckFault}
use Rattle.bc_cert_defs.specs.declared.check_fault.CheckFault.TheVariants.{Truncated}
use Rattle.bc_cert_defs.specs.Verdict.{Judged, Verdict}
use Rattle.bc_cert_write.specs.Lines.{node_line as line_of_node}
use Rattle.bc_cert_read.specs.Stacks.{◌>>=◌}
use Rattle.bc_cert_laws.specs.Entries.{Says, pieces_line}
use Rattle.bc_cert_laws.specs.Faults.{head_line, node, Stage, the_header, between, nodes, code, the_end, Reaches, nothing, header, entry, node_line, root_line, code_line, last_line, lines, Lacks, at_line, in_header, in_lines}
use Rattle.bc_cert_defs.specs.Text.{header_line}
use Rattle.bc_cert_laws.specs.Judging.{Stage as Kind, the_header as at_header, between as at_entries, nodes as at_nodes, code as at_code, the_end as at_end}
use Rattle.bc_cert_laws.specs.Judging.{State, start, line_step, byte_step, feed_from, no_rest, finished_at, finished, judged}
use Rattle.bc_cert_laws.proofs.CodeSteps.{rooted_by}
use Rattle.bc_cert_laws.proofs.Fields.{IsOneLine}
use Rattle.bc_cert_laws.proofs.Read.{header_ends, entry_ends, end_ends, node_ends, root_ends, code_ends}
use Rattle.bc_cert_laws.proofs.Listing.{says_reaches}
use Rattle.bc_cert_laws.proofs.Said.{no_text, reaches_says}
use Rattle.bc_cert_laws.proofs.Frame.{Related, Made, lines_of_two, line_right, line_wrong, line_fails, header_made, entry_made, node_made, root_made, code_made, last_made}

abbrev Fed : Type 0
Fed = State × List ℕ

-- after a line
abbrev anew : State → Result Fed CheckFault
anew st = Ok (st, [])

-- steps one after another
grouped : {A B C : Type 0} (r : Result A CheckFault) (f : A → Result B CheckFault) (g : B → Result C CheckFault) → ((r >>= f) >>= g) ≡ (r >>= (λ x. f x >>= g))
grouped (Ok x) f g = refl
grouped (Err e) f g = refl

alike : {A B : Type 0} (r : Result A CheckFault) (f g : A → Result B CheckFault) → ((x : A) → f x ≡ g x) → (r >>= f) ≡ (r >>= g)
alike (Ok x) f g h = h x
alike (Err e) f g h = refl

fed_more : (bytes more : List ℕ) (s : Fed) → feed_from (bytes ++ more) s ≡ (feed_from bytes s >>= (λ t. feed_from more t))
fed_more [] more s = refl
fed_more (b ∷ bytes) more s =
    alike (byte_step b s) (λ t. feed_from (bytes ++ more) t) (λ t. feed_from bytes t >>= (λ u. feed_from more u)) (λ t. fed_more bytes more t)
    ∙ sym (grouped (byte_step b s) (λ t. feed_from bytes t) (λ u. feed_from more u))

-- bytes that end no line wait
no_end : (b : ℕ) (bs : List ℕ) → lines (b ∷ bs) ≡ 0 → ((b == 10) ≡ false) × (lines bs ≡ 0)
no_end b bs h = at (b == 10) refl h where
  at : (c : Bool) → (b == 10) ≡ c → cond c (lines bs + 1) (lines bs) ≡ 0 → ((b == 10) ≡ false) × (lines bs ≡ 0)
  at true e h = absurd (omega arith)
  at false e h = (e, h)

fed_waits : (l acc : List ℕ) (st : State) → lines l ≡ 0 → feed_from l (st, acc) ≡ Ok (st, acc ++ l)
fed_waits [] acc st h = ap (λ x. Ok (st, x)) (sym (append-nil acc))
fed_waits (b ∷ l) acc st h =
    let k = no_end b l h in
    ap (λ c. cond c (line_step acc st >>= anew) (Ok (st, acc ++ b ∷ [])) >>= (λ t. feed_from l t)) k.0
    ∙ fed_waits l (acc ++ b ∷ []) st k.1 ∙ ap (λ x. Ok (st, x)) (append_assoc acc (b ∷ []) l)

same_again : (r : Result State CheckFault) (rest : List ℕ) → ((r >>= anew) >>= (λ t. feed_from rest t)) ≡ (r >>= (λ st. feed_from rest (st, [])))
same_again (Ok x) rest = refl
same_again (Err e) rest = refl

-- a line with its end is a step
fed_line : (l rest : List ℕ) (st : State) → lines l ≡ 0 → feed_from (l ++ 10 ∷ rest) (st, []) ≡ (line_step l st >>= (λ next. feed_from rest (next, [])))
fed_line l rest st h =
    fed_more l (10 ∷ rest) (st, []) ∙ ap (λ r. r >>= (λ t. feed_from (10 ∷ rest) t)) (fed_waits l [] st h)
    ∙ same_again (line_step l st) rest

-- Lines that lead to a stage bring the checker to its state.
record Comes (text : List ℕ) (stage : Stage) : Type 0 where
  state : State
  is : feed_from text (start, []) ≡ Ok (state, [])
  related : Related text stage state

by_line : (text : List ℕ) (stage next : Stage) (m : List ℕ) → Comes text stage → IsOneLine m → ((st : State) (l : List ℕ) → lines l ≡ 0 → m ≡ l ++ 10 ∷ [] → Related text stage st → Made (text ++ m) next (line_step l st)) → Comes (text ++ m) next
by_line text stage next m c e f =
    let made = f c.state e.0 e.2 e.1 c.related in
    record {
      state = made.next;
      is =
          fed_more text m (start, []) ∙ ap (λ r. r >>= (λ t. feed_from m t)) c.is
          ∙ ap (λ x. feed_from x (c.state, [])) e.1 ∙ fed_line e.0 [] c.state e.2 ∙ ap (λ r. r >>= (λ st. feed_from [] (st, []))) made.is;
      related = made.related;
    }

started : Related [] the_header start
started = record { lines = refl; at = record { stage = refl; entries = refl } }

comes : (text : List ℕ) (stage : Stage) → Reaches text stage → Comes text stage
comes _ _ nothing = record { state = start; is = refl; related = started }
comes _ _ (header {T = T}) = by_line [] the_header (between T []) (header_line T) (record { state = start; is = refl; related = started }) (header_ends T) (λ st l u e k. header_made T st l u e k)
comes _ _ (entry {text = text} {T = T} {js = js} {h = h} r room) =
    by_line text (between T js) (nodes T js h []) (head_line h) (comes text (between T js) r) (entry_ends h room) (λ st l u e k. entry_made text T js st l (head_line h) u e h room refl k)
comes _ _ (node_line {text = text} {T = T} {js = js} {h = h} {trees = ts} {e = x} {s = s} {rules = rules} r ends room stand) =
    by_line text (nodes T js h ts) (nodes T js h _) (line_of_node T (node x s rules)) (comes text (nodes T js h ts) r) (node_ends T (node x s rules) room)
    (λ st l u e k. node_made text T js st l (line_of_node T (node x s rules)) u e h ts x s rules ends room stand refl k)
comes _ _ (root_line {text = text} {T = T} {js = js} {h = h} {trees = ts} {r = x} {l = m} {d = d} r over stand) =
    by_line text (nodes T js h ts) (code T js h x d) m (comes text (nodes T js h ts) r) (root_ends ts x m over) (λ st l u e k. root_made text T js st l m u e h ts x d over stand k)
comes _ _ (code_line {text = text} {T = T} {js = js} {h = h} {r = x} {d = d} {ps = ps} r room c w) =
    by_line text (code T js h x d) (between T _) (pieces_line ps) (comes text (code T js h x d) r) (code_ends ps room) (λ st l u e k. code_made text T js st l (pieces_line ps) u e h x d ps room c w refl k)
comes _ _ (last_line {text = text} {T = T} {js = js} r room) =
    by_line text (between T js) (the_end T js) _ (comes text (between T js) r) (end_ends _ room) (λ st l u e k. last_made text T js st l _ u e room refl k)

-- Where the checker is after bytes: lines that lead there, and bytes that end no line; or the bytes have the fault.
record Stopped (whole : List ℕ) (s : Fed) : Type 0 where
  text : List ℕ
  stage : Stage
  is : whole ≡ text ++ s.1
  unended : lines s.1 ≡ 0
  reaches : Reaches text stage
  related : Related text stage s.0

abbrev Fared : List ℕ → Result Fed CheckFault → Type 0
Fared whole (Ok s) = Stopped whole s
Fared whole (Err f) = Lacks whole f

abbrev FaresOn : List ℕ → Type 0
FaresOn bytes = (acc text : List ℕ) (stage : Stage) (st : State) → lines acc ≡ 0 → Reaches text stage → Related text stage st → Fared (text ++ (acc ++ bytes)) (feed_from bytes (st, acc))

one_byte : (b : ℕ) (bs : List ℕ) → FaresOn bs → FaresOn (b ∷ bs)
one_byte b bs on acc text stage st u r k = at (b == 10) refl where
  whole : List ℕ
  whole = text ++ (acc ++ b ∷ bs)

  at_end : b ≡ 10 → (x : Result State CheckFault) → line_step acc st ≡ x → Fared (text ++ (acc ++ b ∷ bs)) ((x >>= anew) >>= (λ t. feed_from bs t))
  at_end e (Err f) i = subst (λ c. Lacks (text ++ (acc ++ c ∷ bs)) f) (sym e) (at_line acc bs r u (line_wrong text stage st acc f k i))
  at_end e (Ok next) i =
      let leads = line_right text stage st next acc u r k i in
      let same : (text ++ (acc ++ 10 ∷ [])) ++ bs ≡ text ++ (acc ++ b ∷ bs) = append_assoc text (acc ++ 10 ∷ []) bs ∙ ap (λ x. text ++ x) (append_assoc acc (10 ∷ []) bs) ∙ ap (λ c. text ++ (acc ++ c ∷ bs)) (sym e) in
      subst (λ x. Fared x (feed_from bs (next, []))) same (on [] (text ++ (acc ++ 10 ∷ [])) leads.stage next refl leads.reaches leads.related)

  at : (c : Bool) → (b == 10) ≡ c → Fared (text ++ (acc ++ b ∷ bs)) (cond c (line_step acc st >>= anew) (Ok (st, acc ++ b ∷ [])) >>= (λ t. feed_from bs t))
  at true e = at_end (eqb-true b 10 e) (line_step acc st) refl
  at false e =
      let none : lines (acc ++ b ∷ []) ≡ 0 = lines_of_two acc (b ∷ []) ∙ ap (λ c. lines acc + cond c (0 + 1) 0) e ∙ omega (arith, u) in
      subst (λ x. Fared (text ++ x) (feed_from bs (st, acc ++ b ∷ []))) (append_assoc acc (b ∷ []) bs) (on (acc ++ b ∷ []) text stage st none r k)

fares : (bytes : List ℕ) → FaresOn bytes
fares [] acc text stage st u r k = record { text = text; stage = stage; is = ap (λ x. text ++ x) (append-nil acc); unended = u; reaches = r; related = k }
fares (b ∷ bs) acc text stage st u r k = one_byte b bs (fares bs) acc text stage st u r k

-- the end
never : {X : Type 0} {f : CheckFault} {v : Verdict} → ◌≡◌ {A = Result Verdict CheckFault} (Err f) (Ok v) → X
never h = cc

never_wrong : {X : Type 0} {f : CheckFault} {v : Verdict} → ◌≡◌ {A = Result Verdict CheckFault} (Ok v) (Err f) → X
never_wrong h = cc

ok_same : {v w : Verdict} → ◌≡◌ {A = Result Verdict CheckFault} (Ok v) (Ok w) → v ≡ w
ok_same h = cc

err_same : {f g : CheckFault} → ◌≡◌ {A = Result Verdict CheckFault} (Err f) (Err g) → f ≡ g
err_same h = cc

finished_from : (k : Kind) (s : Fed) → s.0.stage ≡ k → finished s ≡ finished_at k s
finished_from k s h = ap (λ x. finished_at x s) h

at_the_end : (bytes text rest : List ℕ) (T : Table) (js : List Judged) (st : State) (v : Verdict) → bytes ≡ text ++ rest → Reaches text (the_end T js) → st.table ≡ T → st.entries ≡ js → no_rest rest st ≡ Ok v → Says bytes v
at_the_end bytes text [] T js st v e r t i h =
    let same : record { table = T; entries = js } ≡ v = ap (λ U. record { table = U; entries = js }) (sym t) ∙ ap (λ es. record { table = st.table; entries = es }) (sym i) ∙ ok_same h in
    subst (Says bytes) same (subst (λ x. Says x (record { table = T; entries = js })) (sym (e ∙ append-nil text)) (reaches_says text T js r))
at_the_end bytes text (b ∷ rest) T js st v e r t i h = never h

says_at : (bytes : List ℕ) (s : Fed) (v : Verdict) (text : List ℕ) (stage : Stage) → bytes ≡ text ++ s.1 → Reaches text stage → Related text stage s.0 → finished s ≡ Ok v → Says bytes v
says_at bytes s v text the_header e r k h = never (sym (finished_from at_header s k.at.stage) ∙ h)
says_at bytes s v text (between T js) e r k h = never (sym (finished_from at_entries s k.at.stage) ∙ h)
says_at bytes s v text (nodes T js x ts) e r k h = never (sym (finished_from (at_nodes x) s k.at.own.stage) ∙ h)
says_at bytes s v text (code T js x q d) e r k h = never (sym (finished_from (at_code x (rooted_by d)) s k.at.stage) ∙ h)
says_at bytes s v text (the_end T js) e r k h = at_the_end bytes text s.1 T js s.0 v e r k.at.table k.at.entries (sym (finished_from at_end s k.at.stage) ∙ h)

pub judged_says : (bytes : List ℕ) (v : Verdict) → judged bytes ≡ Ok v → Says bytes v
judged_says bytes v h = at (feed_from bytes (start, [])) h (fares bytes [] [] the_header start refl nothing started) where
  at : (r : Result Fed CheckFault) → (r >>= (λ t. finished t)) ≡ Ok v → Fared bytes r → Says bytes v
  at (Err f) h k = never h
  at (Ok s) h k = says_at bytes s v k.text k.stage k.is k.reaches k.related h

-- a missing end line
lacks_end : (bytes text rest : List ℕ) (T : Table) (js : List Judged) (st : State) (f : CheckFault) → bytes ≡ text ++ rest → Reaches text (the_end T js) → lines rest ≡ 0 → no_rest rest st ≡ Err f → Lacks bytes f
lacks_end bytes text [] T js st f e r u h = never_wrong h
lacks_end bytes text (b ∷ rest) T js st f e r u h =
    subst (Lacks bytes) (err_same h) (subst (λ x. Lacks x Truncated) (sym e) (in_lines r (λ i. other i) u (λ U es i k. more k))) where
      other : the_end T js ≡ the_header → ⊥
      other i = cc

      more : b ∷ rest ≡ [] → ⊥
      more k = cc

lacks_lines : (bytes text rest : List ℕ) (stage : Stage) (f : CheckFault) → bytes ≡ text ++ rest → Reaches text stage → ¬ (stage ≡ the_header) → ((T : Table) (js : List Judged) → ¬ (stage ≡ the_end T js)) → lines rest ≡ 0 → ◌≡◌ {A = Result Verdict CheckFault} (Err Truncated) (Err f) → Lacks bytes f
lacks_lines bytes text rest stage f e r a b u h = subst (Lacks bytes) (err_same h) (subst (λ x. Lacks x Truncated) (sym e) (in_lines r a u (λ T js i. absurd (b T js i))))

lacks_at : (bytes : List ℕ) (s : Fed) (f : CheckFault) (text : List ℕ) (stage : Stage) → bytes ≡ text ++ s.1 → lines s.1 ≡ 0 → Reaches text stage → Related text stage s.0 → finished s ≡ Err f → Lacks bytes f
lacks_at bytes s f text the_header e u r k h =
    let same : bytes ≡ s.1 = e ∙ ap (λ x. x ++ s.1) (no_text text r) in
    subst (Lacks bytes) (err_same (sym (finished_from at_header s k.at.stage) ∙ h)) (in_header (ap lines same ∙ u))
lacks_at bytes s f text (between T js) e u r k h = lacks_lines bytes text s.1 (between T js) f e r (λ i. cc) (λ U es i. cc) u (sym (finished_from at_entries s k.at.stage) ∙ h)
lacks_at bytes s f text (nodes T js x ts) e u r k h = lacks_lines bytes text s.1 (nodes T js x ts) f e r (λ i. cc) (λ U es i. cc) u (sym (finished_from (at_nodes x) s k.at.own.stage) ∙ h)
lacks_at bytes s f text (code T js x q d) e u r k h = lacks_lines bytes text s.1 (code T js x q d) f e r (λ i. cc) (λ U es i. cc) u (sym (finished_from (at_code x (rooted_by d)) s k.at.stage) ∙ h)
lacks_at bytes s f text (the_end T js) e u r k h = lacks_end bytes text s.1 T js s.0 f e r u (sym (finished_from at_end s k.at.stage) ∙ h)

pub judged_lacks : (bytes : List ℕ) (f : CheckFault) → judged bytes ≡ Err f → Lacks bytes f
judged_lacks bytes f h = at (feed_from bytes (start, [])) h (fares bytes [] [] the_header start refl nothing started) where
  at : (r : Result Fed CheckFault) → (r >>= (λ t. finished t)) ≡ Err f → Fared bytes r → Lacks bytes f
  at (Err g) h k = subst (Lacks bytes) (err_same h) k
  at (Ok s) h k = lacks_at bytes s f k.text k.stage k.is k.unended k.reaches k.related h

-- and back
pub says_judged : (bytes : List ℕ) (v : Verdict) → Says bytes v → judged bytes ≡ Ok v
says_judged bytes v h =
    let c = comes bytes (the_end v.table v.entries) (says_reaches bytes v h) in
    ap (λ r. r >>= (λ t. finished t)) c.is ∙ finished_from at_end (c.state, []) c.related.at.stage
    ∙ ap (λ T. Ok (record { table = T; entries = c.state.entries })) c.related.at.table ∙ ap (λ es. Ok (record { table = v.table; entries = es })) c.related.at.entries

unended_at : (text rest : List ℕ) (stage : Stage) (st : State) → Related text stage st → ¬ (stage ≡ the_header) → ((T : Table) (js : List Judged) → stage ≡ the_end T js → ¬ (rest ≡ [])) → finished (st, rest) ≡ Err Truncated
unended_at text rest the_header st k a b = absurd (a refl)
unended_at text rest (between T js) st k a b = finished_from at_entries (st, rest) k.at.stage
unended_at text rest (nodes T js x ts) st k a b = finished_from (at_nodes x) (st, rest) k.at.own.stage
unended_at text rest (code T js x q d) st k a b = finished_from (at_code x (rooted_by d)) (st, rest) k.at.stage
unended_at text rest (the_end T js) st k a b = finished_from at_end (st, rest) k.at.stage ∙ some_rest rest (b T js refl) where
  some_rest : (rest : List ℕ) → ¬ (rest ≡ []) → no_rest rest st ≡ Err Truncated
  some_rest [] i = absurd (i refl)
  some_rest (x ∷ rest) i = refl

lacks_so : (bytes : List ℕ) (f : CheckFault) → Lacks bytes f → judged bytes ≡ Err f
lacks_so _ _ (at_line {text = text} {stage = stage} {f = f} l rest r u fault) =
    let c = comes text stage r in
    ap (λ x. x >>= (λ t. finished t))
    (fed_more text (l ++ 10 ∷ rest) (start, []) ∙ ap (λ x. x >>= (λ t. feed_from (l ++ 10 ∷ rest) t)) c.is ∙ fed_line l rest c.state u
    ∙ ap (λ x. x >>= (λ next. feed_from rest (next, []))) (line_fails text stage c.state l (l ++ 10 ∷ []) f c.related refl fault))
lacks_so _ _ (in_header {bytes = bytes} u) = ap (λ x. x >>= (λ t. finished t)) (fed_waits bytes [] start u)
lacks_so _ _ (in_lines {text = text} {rest = rest} {stage = stage} r a u b) =
    let c = comes text stage r in
    ap (λ x. x >>= (λ t. finished t)) (fed_more text rest (start, []) ∙ ap (λ x. x >>= (λ t. feed_from rest t)) c.is ∙ fed_waits rest [] c.state u)
    ∙ unended_at text rest stage c.state c.related a b

pub lacks_judged : (bytes : List ℕ) (f : CheckFault) → Lacks bytes f → judged bytes ≡ Err f
lacks_judged bytes f h = lacks_so bytes f h
