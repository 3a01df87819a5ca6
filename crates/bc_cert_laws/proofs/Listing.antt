-- The lines of an accepted certificate lead from the beginning to the end, and lines that lead to the end are those of one.
use Rattle.std.proofs.Common.{◌≡◌, ℕ, ◌+◌, ◌*◌, ◌≤◌, Bool, cond, None, List, [], ◌∷◌, ◌++◌, map, length, flat_map, refl, ap, sym, subst, ◌∙◌, append-nil, append_assoc, arith}
use Rattle.std.specs.Prelude.{is_some}
use Rattle.std.specs.Fmt.{decimal}
use Rattle.std.proofs.lemmas.Grind.{flat_map-append}
use Rattle.bc_core.specs.Tree.{Exp, Root, Value, Test, Assign}
use Rattle.bc_core.specs.Level.{side_level}
use Rattle.bc_core.specs.Operand.{operand_of}
use Rattle.bc_rules_defs.specs.declared.rule.Table.{Table}
use Rattle.bc_rules_defs.specs.declared.rule.Mode.TheVariants.{Any}
use Rattle.bc_rules_defs.specs.declared.rule.Aim.TheVariants.{Gets, Jumps}
use Rattle.bc_rules_defs.specs.declared.rule.Rule.{Rule}
use Rattle.bc_rules_defs.specs.declared.rule.Rule.TheVariants.{A1, A2, A3}
use Rattle.bc_rules_defs.specs.Piece.{w, operand_words}
use Rattle.bc_rules_defs.specs.Rules.{Derives, RootDerives, value, test, a1, a2, a3}
use Rattle.bc_rules_defs.specs.Code.{cost, root_cost}
use Rattle.bc_cert_defs.specs.Text.{header_line, end_line}
use Rattle.bc_cert_defs.specs.Verdict.{Judged, Verdict}
use Rattle.bc_cert_write.specs.Shown.{Shown, bare, shown, root_shown}
use Rattle.bc_cert_write.specs.Lines.{line, rule_name, sense_field, node_line as line_of_node, root_line as line_of_root}
use Rattle.bc_cert_defs.specs.declared.head.Head.{Head}
use Rattle.bc_cert_laws.specs.Entries.{IsLevel, NodeHasRoom, pieces_line, RootHasRoom, Listed, AllListed, none, more, Says}
use Rattle.bc_cert_laws.specs.Faults.{head_line, Grown, all_shown, IsAssignment, first, second, third, RootOver, assign, between, nodes, the_end, Reaches, header, entry, root_line, code_line, last_line}
use Rattle.bc_cert_laws.proofs.Fewest.{by_one, by_first, by_second}
use Rattle.bc_cert_laws.proofs.Growth.{HaveRoom, Grows, all_front, all_after, bare_node_grows, derivation_grows}

-- the trees of a root
record RootGrows {T : Table} {r : Root} (d : RootDerives T r) : Type 0 where
  trees : List Grown
  over : RootOver trees r (line_of_root d)
  shown : all_shown trees ≡ root_shown d
  reaches : (text : List ℕ) (js : List Judged) (h : Head) → Reaches text (nodes T js h []) → Reaches (text ++ flat_map (line_of_node T) (root_shown d)) (nodes T js h trees)

-- a tree of one expression at one level
record IsOne (own : List Grown) (e : Exp) (s : ℕ) : Type 0 where
  tree : Grown
  is : own ≡ tree ∷ []
  expression : tree.expression ≡ e
  level : tree.level ≡ s

abbrev seen : List Grown → List (Exp × ℕ)
seen ts = map (λ t. (t.expression, t.level)) ts

one_of : (own : List Grown) (e : Exp) (s : ℕ) → seen own ≡ (e, s) ∷ [] → IsOne own e s
one_of [] e s h = cc
one_of (t ∷ []) e s h =
    let p : Exp × ℕ = (t.expression, t.level) in let q : Exp × ℕ = (e, s) in
    let i : p ≡ q = cc in
    record { tree = t; is = refl; expression = ap (λ p. p.0) i; level = ap (λ p. p.1) i }
one_of (t ∷ u ∷ ts) e s h = cc

value_over : (ts : List Grown) (e : Exp) (s : ℕ) → IsOne ts e s → RootOver ts (Value s e) (line (82 ∷ []) ((86 ∷ []) ∷ []))
value_over ts e s o =
    let l = line (82 ∷ []) ((86 ∷ []) ∷ []) in let t = o.tree in
    subst (λ us. RootOver us (Value s e) l) (sym o.is)
    (subst (λ n. RootOver (t ∷ []) (Value n e) l) o.level (subst (λ x. RootOver (t ∷ []) (Value t.level x) l) o.expression (RootOver.value {t = t})))

test_over : (ts : List Grown) (sense : Bool) (e : Exp) (s : ℕ) → IsOne ts e s → RootOver ts (Test s sense e) (line (82 ∷ []) (sense_field sense ∷ []))
test_over ts sense e s o =
    let l = line (82 ∷ []) (sense_field sense ∷ []) in let t = o.tree in
    subst (λ us. RootOver us (Test s sense e) l) (sym o.is)
    (subst (λ n. RootOver (t ∷ []) (Test n sense e) l) o.level (subst (λ x. RootOver (t ∷ []) (Test t.level sense x) l) o.expression (RootOver.test {t = t} {sense = sense})))

assign_over : (ts us : List Grown) (v a : Exp) (s n : ℕ) (r : Rule) → IsAssignment r → IsLevel s → side_level a s ≡ n → IsOne ts v n → IsOne us a n → RootOver (ts ++ us) (Assign s v a) (line (82 ∷ []) (rule_name r ∷ decimal s ∷ []))
assign_over ts us v a s n r i room at o p =
    let l = line (82 ∷ []) (rule_name r ∷ decimal s ∷ []) in let t = o.tree in let u = p.tree in
    let level : side_level a s ≡ side_level u.expression s = ap (λ x. side_level x s) (sym p.expression) in
    let both : RootOver (t ∷ u ∷ []) (Assign s t.expression u.expression) l = assign {v = t} {a = u} i room (o.level ∙ sym at ∙ level) (p.level ∙ sym at ∙ level) in
    subst (λ xs. RootOver (xs ++ us) (Assign s v a) l) (sym o.is) (subst (λ xs. RootOver (t ∷ xs) (Assign s v a) l) (sym p.is)
    (subst (λ x. RootOver (t ∷ u ∷ []) (Assign s v x) l) p.expression (subst (λ x. RootOver (t ∷ u ∷ []) (Assign s x u.expression) l) o.expression both)))

value_grows : {T : Table} {e : Exp} (s : ℕ) (d : Derives T e (Gets Any)) → Grows T ((e, s) ∷ []) (shown d s) → RootGrows (value {s = s} d)
value_grows {e = e} s d g = record { trees = g.own; over = value_over g.own e s (one_of g.own e s g.parts); shown = g.shown; reaches = λ text js h r. g.reaches text js h [] r }

test_grows : {T : Table} {e : Exp} (s : ℕ) (sense : Bool) (d : Derives T e (Jumps sense)) → Grows T ((e, s) ∷ []) (shown d s) → RootGrows (test {s = s} d)
test_grows {e = e} s sense d g = record { trees = g.own; over = test_over g.own sense e s (one_of g.own e s g.parts); shown = g.shown; reaches = λ text js h r. g.reaches text js h [] r }

-- of an assignment the value's tree and the address's
assign_grows : {T : Table} {v a : Exp} {s : ℕ} (d : RootDerives T (Assign s v a)) (n : ℕ) (r : Rule) (ns ms : List Shown) → IsAssignment r → IsLevel s → side_level a s ≡ n → line (82 ∷ []) (rule_name r ∷ decimal s ∷ []) ≡ line_of_root d → ns ++ ms ≡ root_shown d
    → Grows T ((v, n) ∷ []) ns → Grows T ((a, n) ∷ []) ms → RootGrows d
assign_grows {T = T} {v = v} {a = a} {s = s} d n r ns ms i room at l e g k =
    record {
      trees = g.own ++ k.own;
      over = subst (RootOver (g.own ++ k.own) (Assign s v a)) l (assign_over g.own k.own v a s n r i room at (one_of g.own v n g.parts) (one_of k.own a n k.parts));
      shown = flat_map-append (λ t. t.shown) g.own k.own ∙ ap (λ x. x ++ all_shown k.own) g.shown ∙ ap (λ x. ns ++ x) k.shown ∙ e;
      reaches = λ text js h q. subst (λ x. Reaches (text ++ flat_map (line_of_node T) x) (nodes T js h (g.own ++ k.own))) e (all_of text js h q);
    } where
      all_of : (text : List ℕ) (js : List Judged) (h : Head) → Reaches text (nodes T js h []) → Reaches (text ++ flat_map (line_of_node T) (ns ++ ms)) (nodes T js h (g.own ++ k.own))
      all_of text js h q = subst (λ x. Reaches x (nodes T js h (g.own ++ k.own))) (append_assoc text _ _ ∙ ap (λ x. text ++ x) (sym (flat_map-append (line_of_node T) ns ms))) (k.reaches _ js h g.own (g.reaches text js h [] q))

no_operand : (a : Exp) (s : ℕ) → operand_of a ≡ None → side_level a s ≡ s + 1
no_operand a s h = ap (λ o. cond (is_some o) s (s + 1)) h

root_grows : {T : Table} {r : Root} (d : RootDerives T r) → HaveRoom T (root_shown d) → RootHasRoom r → ((other : RootDerives T r) → root_cost d ≤ root_cost other) → RootGrows d
root_grows (value {s = s} d) room level least = value_grows s d (derivation_grows d s room (λ o. least (value o)))
root_grows (test {s = s} {sense = sense} d) room level least = test_grows s sense d (derivation_grows d s room (λ o. least (test o)))
root_grows (a1 {T = T} {s = s} {v = v} {a = a} {o = p} h d) room level least =
    assign_grows (a1 h d) s A1 (shown d s) (bare a s) first level (ap (λ o. cond (is_some o) s (s + 1)) h) refl refl
    (derivation_grows d s (all_front (NodeHasRoom T) (shown d s) (bare a s) room) (by_one d s (operand_words p) (λ o. least (a1 h o))))
    (bare_node_grows T a s (all_after (NodeHasRoom T) (shown d s) (bare a s) room))
root_grows (a2 {T = T} {s = s} {v = v} {a = a} h free b d) room level least =
    let n = s + 1 in
    assign_grows (a2 h free b d) n A2 (shown d n) (shown b n) second level (no_operand a s h) refl refl
    (derivation_grows d n (all_front (NodeHasRoom T) (shown d n) (shown b n) room) (by_second d n (cost b n) (2 * w s) (λ o. least (a2 h free b o))))
    (derivation_grows b n (all_after (NodeHasRoom T) (shown d n) (shown b n) room) (by_first b n (cost d n) (2 * w s) (λ o. least (a2 h free o d))))
root_grows (a3 {T = T} {s = s} {v = v} {a = a} h d b) room level least =
    let n = s + 1 in
    assign_grows (a3 h d b) n A3 (shown d n) (shown b n) third level (no_operand a s h) refl refl
    (derivation_grows d n (all_front (NodeHasRoom T) (shown d n) (shown b n) room) (by_first d n (cost b n) (2 * w s + 2 * w (s + 1)) (λ o. least (a3 h o b))))
    (derivation_grows b n (all_after (NodeHasRoom T) (shown d n) (shown b n) room) (by_second b n (cost d n) (2 * w s + 2 * w (s + 1)) (λ o. least (a3 h d o))))

-- an entry
abbrev head_of : Judged → Head
head_of j = record { segment = j.segment; item = j.item; target = j.target; first = j.first; words = j.words }

pub listed_reaches : (T : Table) (js : List Judged) (j : Judged) (before text : List ℕ) → Listed T j text → Reaches before (between T js) → Reaches (before ++ text) (between T (js ++ j ∷ []))
listed_reaches T js j before text l r =
    let d = l.derivation in let h = head_of j in
    let least : (other : RootDerives T j.root) → root_cost d ≤ root_cost other = λ other. let f = l.fewest other in let g = l.words in omega arith in
    let g = root_grows d l.nodes l.root least in
    let a = head_line h in let b = flat_map (line_of_node T) (root_shown d) in let c = line_of_root d in let e = pieces_line j.code in
    let first = entry {h = h} r (record { segment = l.segment; item = l.item; target = l.target; first = l.first; words = l.count }) in
    let second = g.reaches (before ++ a) js h first in
    let third = root_line {d = d} second g.over (record { shown = g.shown; is = refl; fewest = least }) in
    let fourth = code_line {ps = j.code} third l.pieces (record { same = l.code; labels = l.labels }) l.words in
    subst (λ x. Reaches x (between T (js ++ j ∷ []))) (joined before a b c e ∙ ap (λ x. before ++ x) (sym l.lines)) fourth where
      joined : (t a b c e : List ℕ) → (((t ++ a) ++ b) ++ c) ++ e ≡ t ++ (a ++ (b ++ (c ++ e)))
      joined t a b c e = simp append_assoc

all_reach : (T : Table) (js : List Judged) (texts : List ℕ) → AllListed T js texts → Reaches (header_line T ++ texts) (between T js)
all_reach T _ _ none = subst (λ x. Reaches x (between T [])) (sym (append-nil (header_line T))) header
all_reach T _ _ (more {j = j} {js = js} {text = text} {texts = texts} all l) =
    subst (λ x. Reaches x (between T (js ++ j ∷ []))) (append_assoc (header_line T) texts text) (listed_reaches T js j (header_line T ++ texts) text l (all_reach T js texts all))

pub says_reaches : (bytes : List ℕ) (v : Verdict) → Says bytes v → Reaches bytes (the_end v.table v.entries)
says_reaches bytes v h =
    subst (λ x. Reaches x (the_end v.table v.entries)) (append_assoc (header_line v.table) h.texts (end_line (length v.entries)) ∙ sym h.text)
    (last_line (all_reach v.table v.entries h.texts h.entries) h.count)
