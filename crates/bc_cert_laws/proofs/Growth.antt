-- The node lines of a derivation of least words, and those of expressions that show no rules, are right one after another.
use Rattle.std.proofs.Common.{◌≡◌, ℕ, ◌+◌, ◌*◌, Bool, true, false, cond, Some, List, [], ◌∷◌, ◌++◌, map, flat_map, refl, ap, sym, subst, ◌∙◌, append-nil, append_assoc}
use Rattle.std.specs.List.{AllByRecursion}
use Rattle.std.proofs.lemmas.List.{map-append}
use Rattle.std.proofs.lemmas.Grind.{flat_map-append}
use Rattle.bc_word.specs.declared.operator.Op.TheVariants as operators
use Rattle.bc_word.specs.Words.{negated}
use Rattle.bc_core.specs.Tree.{Exp, Num, Frame, Glob, Place, Load, Neg, Not, Bin, Cond, Call, Valof, Args, no_argument, argument, count}
use Rattle.bc_rules_defs.specs.declared.rule.Table.{Table}
use Rattle.bc_rules_defs.specs.declared.rule.Aim.{Aim}
use Rattle.bc_rules_defs.specs.declared.rule.Rule.{Rule}
use Rattle.bc_rules_defs.specs.Free.{is_zero}
use Rattle.bc_rules_defs.specs.Piece.{w, operand_words}
use Rattle.bc_rules_defs.specs.Rules.{Derives, v0, v1, v2, v3, v4, v6, v7, v8, v9, v10, v11, v12, v13, v14, v15, v16, v17, v18, v19, v20, v21, v22, v22_valof, j1, j2, j3, j4, j5, j6, j7, j8, j9, DerivesAll, no_more, one_more}
use Rattle.bc_rules_defs.specs.Code.{cost, all_cost}
use Rattle.bc_cert_defs.specs.Verdict.{Judged}
use Rattle.bc_cert_write.specs.Shown.{Shown, ended, bare, rules_at, below, all_shown as all_of_call, shown}
use Rattle.bc_cert_write.specs.Lines.{node_line as line_of_node}
use Rattle.bc_cert_write.proofs.Shapes.{kept}
use Rattle.bc_cert_write.proofs.Bare.{all_bare, bare_parts, bare_is, below_is}
use Rattle.bc_cert_defs.specs.declared.head.Head.{Head}
use Rattle.bc_cert_laws.specs.Entries.{NodeHasRoom}
use Rattle.bc_cert_laws.specs.Faults.{Grown, all_shown, all_parts, parts, Ends, RulesStand, StandsBy, node, grown, nodes, Reaches, node_line}
use Rattle.bc_cert_laws.specs.Standing.{IsFewest}
use Rattle.bc_cert_laws.proofs.Fewest.{AreFewest, by_one, by_first, by_second, by_last, by_first_of_three, by_second_of_three, all_by_first, all_by_last}

-- all of two lists
pub all_front : {X : Type 0} (P : X → Type 0) (xs ys : List X) → AllByRecursion P (xs ++ ys) → AllByRecursion P xs
all_front P [] ys h = tt
all_front P (x ∷ xs) ys h = (h.0, all_front P xs ys h.1)

pub all_after : {X : Type 0} (P : X → Type 0) (xs ys : List X) → AllByRecursion P (xs ++ ys) → AllByRecursion P ys
all_after P [] ys h = h
all_after P (x ∷ xs) ys h = all_after P xs ys h.1

abbrev pub HaveRoom : Table → List Shown → Type 0
HaveRoom T ns = AllByRecursion (NodeHasRoom T) ns

-- The lines of these nodes put trees of these expressions after those that are there.
pub record Grows (T : Table) (ps : List (Exp × ℕ)) (ns : List Shown) : Type 0 where
  pub own : List Grown
  pub shown : all_shown own ≡ ns
  pub parts : map (λ t. (t.expression, t.level)) own ≡ ps
  pub reaches : (text : List ℕ) (js : List Judged) (h : Head) (trees : List Grown) → Reaches text (nodes T js h trees) → Reaches (text ++ flat_map (line_of_node T) ns) (nodes T js h (trees ++ own))

at_text : (T : Table) (js : List Judged) (h : Head) (a b : List ℕ) (xs ys : List Grown) → a ≡ b → xs ≡ ys → Reaches a (nodes T js h xs) → Reaches b (nodes T js h ys)
at_text T js h a b xs ys e f r = subst (λ l. Reaches l (nodes T js h ys)) e (subst (λ ts. Reaches a (nodes T js h ts)) f r)

no_part_grows : (T : Table) → Grows T [] []
no_part_grows T = record {
  own = [];
  shown = refl;
  parts = refl;
  reaches = λ text js h trees r. at_text T js h _ _ _ _ (sym (append-nil text)) (sym (append-nil trees)) r;
}

both_grow : (T : Table) (ps qs : List (Exp × ℕ)) (ns ms : List Shown) → Grows T ps ns → Grows T qs ms → Grows T (ps ++ qs) (ns ++ ms)
both_grow T ps qs ns ms g k = record {
  own = g.own ++ k.own;
  shown = flat_map-append (λ t. t.shown) g.own k.own ∙ ap (λ l. l ++ all_shown k.own) g.shown ∙ ap (λ l. ns ++ l) k.shown;
  parts = map-append (λ t. (t.expression, t.level)) g.own k.own ∙ ap (λ l. l ++ map (λ t. (t.expression, t.level)) k.own) g.parts ∙ ap (λ l. ps ++ l) k.parts;
  reaches = λ text js h trees r.
      at_text T js h _ _ _ _
      (append_assoc text (flat_map (line_of_node T) ns) (flat_map (line_of_node T) ms) ∙ ap (λ l. text ++ l) (sym (flat_map-append (line_of_node T) ns ms)))
      (append_assoc trees g.own k.own)
      (k.reaches (text ++ flat_map (line_of_node T) ns) js h (trees ++ g.own) (g.reaches text js h trees r));
}

-- a node over its parts
node_grows : (T : Table) (e : Exp) (s : ℕ) (rules : List Rule) (ns : List Shown) → Grows T (parts e s) ns → NodeHasRoom T (node e s rules) → StandsBy T e s rules (ns ++ node e s rules ∷ []) → Grows T ((e, s) ∷ []) (ended ns e s rules)
node_grows T e s rules ns g room stands = record {
  own = grown e s rules g.own ∷ [];
  shown = append-nil (all_shown g.own ++ node e s rules ∷ []) ∙ ap (λ l. l ++ node e s rules ∷ []) g.shown;
  parts = refl;
  reaches = λ text js h trees r.
      let at : Ends e s (trees ++ g.own) = record { before = trees; own = g.own; cut = refl; parts = g.parts } in
      at_text T js h _ _ _ _
      (append_assoc text (flat_map (line_of_node T) ns) (line_of_node T (node e s rules))
      ∙ ap (λ l. text ++ (flat_map (line_of_node T) ns ++ l)) (sym (append-nil (line_of_node T (node e s rules))))
      ∙ ap (λ l. text ++ l) (sym (flat_map-append (line_of_node T) ns (node e s rules ∷ []))))
      refl
      (node_line (g.reaches text js h trees r) at room (subst (λ l. StandsBy T e s rules (l ++ node e s rules ∷ [])) (sym g.shown) stands));
}

-- expressions without rules
bare_grows : (T : Table) (e : Exp) (s : ℕ) → HaveRoom T (bare e s) → Grows T (parts e s) (bare_parts e s) → Grows T ((e, s) ∷ []) (bare e s)
bare_grows T e s room g =
    subst (Grows T ((e, s) ∷ [])) (sym (bare_is e s)) (node_grows T e s [] (bare_parts e s) g (all_after (NodeHasRoom T) (bare_parts e s) _ (subst (HaveRoom T) (bare_is e s) room)).0 tt)

bare_front : (T : Table) (e : Exp) (s : ℕ) → HaveRoom T (bare e s) → HaveRoom T (bare_parts e s)
bare_front T e s room = all_front (NodeHasRoom T) (bare_parts e s) _ (subst (HaveRoom T) (bare_is e s) room)

mutual
  bare_parts_grow : (T : Table) (e : Exp) (s : ℕ) → HaveRoom T (bare_parts e s) → Grows T (parts e s) (bare_parts e s)
  bare_parts_grow T (Num n) s room = no_part_grows T
  bare_parts_grow T (Frame k) s room = no_part_grows T
  bare_parts_grow T (Glob n) s room = no_part_grows T
  bare_parts_grow T (Place m) s room = no_part_grows T
  bare_parts_grow T (Load e) s room = bare_grows T e s room (bare_parts_grow T e s (bare_front T e s room))
  bare_parts_grow T (Neg e) s room = bare_grows T e s room (bare_parts_grow T e s (bare_front T e s room))
  bare_parts_grow T (Not e) s room = bare_grows T e s room (bare_parts_grow T e s (bare_front T e s room))
  bare_parts_grow T (Bin op a b) s room =
      let front = all_front (NodeHasRoom T) (bare a (s + 1)) (bare b (s + 1)) room in let following = all_after (NodeHasRoom T) (bare a (s + 1)) (bare b (s + 1)) room in
      both_grow T _ _ _ _ (bare_grows T a (s + 1) front (bare_parts_grow T a (s + 1) (bare_front T a (s + 1) front))) (bare_grows T b (s + 1) following (bare_parts_grow T b (s + 1) (bare_front T b (s + 1) following)))
  bare_parts_grow T (Cond c x y) s room =
      let front = all_front (NodeHasRoom T) (bare c s ++ bare x s) (bare y s) room in let third = all_after (NodeHasRoom T) (bare c s ++ bare x s) (bare y s) room in
      let first = all_front (NodeHasRoom T) (bare c s) (bare x s) front in let second = all_after (NodeHasRoom T) (bare c s) (bare x s) front in
      both_grow T _ _ _ _ (both_grow T _ _ _ _ (bare_grows T c s first (bare_parts_grow T c s (bare_front T c s first))) (bare_grows T x s second (bare_parts_grow T x s (bare_front T x s second)))) (bare_grows T y s third (bare_parts_grow T y s (bare_front T y s third)))
  bare_parts_grow T (Call es f) s room =
      let at = s + 2 + count es in
      let front = all_front (NodeHasRoom T) (all_bare es (s + 2)) (bare f at) room in let following = all_after (NodeHasRoom T) (all_bare es (s + 2)) (bare f at) room in
      both_grow T _ _ _ _ (all_bare_grow T es (s + 2) front) (bare_grows T f at following (bare_parts_grow T f at (bare_front T f at following)))
  bare_parts_grow T (Valof n) s room = no_part_grows T

  all_bare_grow : (T : Table) (es : Args) (s : ℕ) → HaveRoom T (all_bare es s) → Grows T (all_parts es s) (all_bare es s)
  all_bare_grow T no_argument s room = no_part_grows T
  all_bare_grow T (argument e es) s room =
      let front = all_front (NodeHasRoom T) (bare e s) (all_bare es (s + 1)) room in let following = all_after (NodeHasRoom T) (bare e s) (all_bare es (s + 1)) room in
      both_grow T _ _ _ _ (bare_grows T e s front (bare_parts_grow T e s (bare_front T e s front))) (all_bare_grow T es (s + 1) following)

-- an expression without rules, with its node
pub bare_node_grows : (T : Table) (e : Exp) (s : ℕ) → HaveRoom T (bare e s) → Grows T ((e, s) ∷ []) (bare e s)
bare_node_grows T e s room = bare_grows T e s room (bare_parts_grow T e s (bare_front T e s room))

-- derivations of least words
stand : (T : Table) (e : Exp) (s : ℕ) (rules : List Rule) (ns : List Shown) → RulesStand T e s ns → StandsBy T e s rules ns
stand T e s [] ns h = tt
stand T e s (r ∷ rs) ns h = h

whole_grows : {T : Table} {e : Exp} {aim : Aim} (d : Derives T e aim) (s : ℕ) → HaveRoom T (shown d s) → IsFewest d s → Grows T (parts e s) (below d s) → Grows T ((e, s) ∷ []) (shown d s)
whole_grows {T = T} {e = e} {aim = aim} d s room least g =
    node_grows T e s (rules_at d) (below d s) g (all_after (NodeHasRoom T) (below d s) _ room).0
    (stand T e s (rules_at d) (shown d s) (record { aim = aim; derivation = d; shown = refl; fewest = least }))

abbrev front : {T : Table} {e : Exp} {aim : Aim} (d : Derives T e aim) (s : ℕ) → HaveRoom T (shown d s) → HaveRoom T (below d s)
front {T = T} d s room = all_front (NodeHasRoom T) (below d s) _ room

-- of two operands the one beside a 0
beside_grows : {T : Table} {c : Exp} {aim : Aim} (d : Derives T c aim) (z : Bool) (a b : Exp) (s : ℕ) → cond z (Some a) (Some b) ≡ Some c → HaveRoom T (cond z (shown d s ++ bare b s) (bare a s ++ shown d s))
    → (HaveRoom T (shown d s) → Grows T ((c, s) ∷ []) (shown d s)) → Grows T ((a, s) ∷ (b, s) ∷ []) (cond z (shown d s ++ bare b s) (bare a s ++ shown d s))
beside_grows {T = T} {c = c} d true a b s h room grow =
    let i : c ≡ a = cc in
    both_grow T ((a, s) ∷ []) ((b, s) ∷ []) _ _ (subst (λ e. Grows T ((e, s) ∷ []) (shown d s)) i (grow (all_front (NodeHasRoom T) (shown d s) (bare b s) room))) (bare_node_grows T b s (all_after (NodeHasRoom T) (shown d s) (bare b s) room))
beside_grows {T = T} {c = c} d false a b s h room grow =
    let i : c ≡ b = cc in
    both_grow T ((a, s) ∷ []) ((b, s) ∷ []) _ _ (bare_node_grows T a s (all_front (NodeHasRoom T) (bare a s) (shown d s) room)) (subst (λ e. Grows T ((e, s) ∷ []) (shown d s)) i (grow (all_after (NodeHasRoom T) (bare a s) (shown d s) room)))

-- one, two and three parts
one_grows : {T : Table} (p : Exp × ℕ) (ns : List Shown) → HaveRoom T ns → (HaveRoom T ns → Grows T (p ∷ []) ns) → Grows T (p ∷ []) ns
one_grows p ns room f = f room

two_grow : {T : Table} (p q : Exp × ℕ) (ns ms : List Shown) → HaveRoom T (ns ++ ms) → (HaveRoom T ns → Grows T (p ∷ []) ns) → (HaveRoom T ms → Grows T (q ∷ []) ms) → Grows T (p ∷ q ∷ []) (ns ++ ms)
two_grow {T = T} p q ns ms room f g = both_grow T (p ∷ []) (q ∷ []) ns ms (f (all_front (NodeHasRoom T) ns ms room)) (g (all_after (NodeHasRoom T) ns ms room))

three_grow : {T : Table} (p q r : Exp × ℕ) (ns ms ls : List Shown) → HaveRoom T ((ns ++ ms) ++ ls) → (HaveRoom T ns → Grows T (p ∷ []) ns) → (HaveRoom T ms → Grows T (q ∷ []) ms) → (HaveRoom T ls → Grows T (r ∷ []) ls) → Grows T (p ∷ q ∷ r ∷ []) ((ns ++ ms) ++ ls)
three_grow {T = T} p q r ns ms ls room f g h =
    both_grow T (p ∷ q ∷ []) (r ∷ []) (ns ++ ms) ls (two_grow p q ns ms (all_front (NodeHasRoom T) (ns ++ ms) ls room) f g) (h (all_after (NodeHasRoom T) (ns ++ ms) ls room))

mutual
  pub below_grows : {T : Table} {e : Exp} {aim : Aim} (d : Derives T e aim) (s : ℕ) → HaveRoom T (below d s) → IsFewest d s → Grows T (parts e s) (below d s)
  below_grows (v0 d) s room least = below_grows d s room (λ o. least (v0 o))
  below_grows (v1 {T = T} {e = e} h) s room least = subst (Grows T (parts e s)) (sym (below_is e s)) (bare_parts_grow T e s (subst (HaveRoom T) (below_is e s) room))
  below_grows (v2 {e = e} d) s room least = one_grows (e, s) _ room (λ room. whole_grows d s room (by_one d s 1 (λ o. least (v2 o))) (below_grows d s (front d s room) (by_one d s 1 (λ o. least (v2 o)))))
  below_grows (v3 {e = e} d) s room least = one_grows (e, s) _ room (λ room. whole_grows d s room (by_one d s 1 (λ o. least (v3 o))) (below_grows d s (front d s room) (by_one d s 1 (λ o. least (v3 o)))))
  below_grows (v4 {e = e} d) s room least = one_grows (e, s) _ room (λ room. whole_grows d s room (by_one d s 1 (λ o. least (v4 o))) (below_grows d s (front d s room) (by_one d s 1 (λ o. least (v4 o)))))
  below_grows (v6 {a = a} {b = b} {o = p} h d) s room least = two_grow (a, s + 1) (b, s + 1) _ _ room (λ room. whole_grows d (s + 1) room (by_one d (s + 1) (operand_words p) (λ o. least (v6 h o))) (below_grows d (s + 1) (front d (s + 1) room) (by_one d (s + 1) (operand_words p) (λ o. least (v6 h o))))) (bare_node_grows _ b (s + 1))
  below_grows (v7 {a = a} {b = b} {o = p} h free d) s room least = two_grow (a, s + 1) (b, s + 1) _ _ room (bare_node_grows _ a (s + 1)) (λ room. whole_grows d (s + 1) room (by_one d (s + 1) (operand_words p) (λ o. least (v7 h free o))) (below_grows d (s + 1) (front d (s + 1) room) (by_one d (s + 1) (operand_words p) (λ o. least (v7 h free o)))))
  below_grows (v8 {op = op} {a = a} {b = b} {c = c} h d) s room least = beside_grows d (is_zero b) a b (s + 1) (kept op a b c h) room (λ room. whole_grows d (s + 1) room (λ o. least (v8 h o)) (below_grows d (s + 1) (front d (s + 1) room) (λ o. least (v8 h o))))
  below_grows (v9 {a = a} {n = n} d) s room least = two_grow (a, s + 1) (Num n, s + 1) _ _ room (λ room. whole_grows d (s + 1) room (by_one d (s + 1) (w (negated n)) (λ o. least (v9 o))) (below_grows d (s + 1) (front d (s + 1) room) (by_one d (s + 1) (w (negated n)) (λ o. least (v9 o))))) (bare_node_grows _ (Num n) (s + 1))
  below_grows (v10 {a = a} {b = b} {o = p} h d) s room least = two_grow (a, s + 1) (b, s + 1) _ _ room (λ room. whole_grows d (s + 1) room (by_one d (s + 1) (2 + operand_words p) (λ o. least (v10 h o))) (below_grows d (s + 1) (front d (s + 1) room) (by_one d (s + 1) (2 + operand_words p) (λ o. least (v10 h o))))) (bare_node_grows _ b (s + 1))
  below_grows (v11 {a = a} {b = b} {o = p} h free d) s room least = two_grow (a, s + 1) (b, s + 1) _ _ room (bare_node_grows _ a (s + 1)) (λ room. whole_grows d (s + 1) room (by_one d (s + 1) (1 + operand_words p) (λ o. least (v11 h free o))) (below_grows d (s + 1) (front d (s + 1) room) (by_one d (s + 1) (1 + operand_words p) (λ o. least (v11 h free o)))))
  below_grows (v12 {a = e} {b = f} a b) s room least = two_grow (e, s + 1) (f, s + 1) _ _ room (λ room. whole_grows a (s + 1) room (by_first a (s + 1) (cost b (s + 1)) (1) (λ o. least (v12 o b))) (below_grows a (s + 1) (front a (s + 1) room) (by_first a (s + 1) (cost b (s + 1)) (1) (λ o. least (v12 o b))))) (λ room. whole_grows b (s + 1) room (by_second b (s + 1) (cost a (s + 1)) (1) (λ o. least (v12 a o))) (below_grows b (s + 1) (front b (s + 1) room) (by_second b (s + 1) (cost a (s + 1)) (1) (λ o. least (v12 a o)))))
  below_grows (v13 {a = e} {b = f} h free b a) s room least = two_grow (e, s + 1) (f, s + 1) _ _ room (λ room. whole_grows a (s + 1) room (by_second a (s + 1) (cost b (s + 1)) (1) (λ o. least (v13 h free b o))) (below_grows a (s + 1) (front a (s + 1) room) (by_second a (s + 1) (cost b (s + 1)) (1) (λ o. least (v13 h free b o))))) (λ room. whole_grows b (s + 1) room (by_first b (s + 1) (cost a (s + 1)) (1) (λ o. least (v13 h free o a))) (below_grows b (s + 1) (front b (s + 1) room) (by_first b (s + 1) (cost a (s + 1)) (1) (λ o. least (v13 h free o a)))))
  below_grows (v14 {a = e} {b = f} free b a) s room least = two_grow (e, s + 1) (f, s + 1) _ _ room (λ room. whole_grows a (s + 1) room (by_second a (s + 1) (cost b (s + 1)) (2) (λ o. least (v14 free b o))) (below_grows a (s + 1) (front a (s + 1) room) (by_second a (s + 1) (cost b (s + 1)) (2) (λ o. least (v14 free b o))))) (λ room. whole_grows b (s + 1) room (by_first b (s + 1) (cost a (s + 1)) (2) (λ o. least (v14 free o a))) (below_grows b (s + 1) (front b (s + 1) room) (by_first b (s + 1) (cost a (s + 1)) (2) (λ o. least (v14 free o a)))))
  below_grows (v15 {a = e} {b = f} h a b) s room least = two_grow (e, s + 1) (f, s + 1) _ _ room (λ room. whole_grows a (s + 1) room (by_first a (s + 1) (cost b (s + 1)) (1 + 2 * w s) (λ o. least (v15 h o b))) (below_grows a (s + 1) (front a (s + 1) room) (by_first a (s + 1) (cost b (s + 1)) (1 + 2 * w s) (λ o. least (v15 h o b))))) (λ room. whole_grows b (s + 1) room (by_second b (s + 1) (cost a (s + 1)) (1 + 2 * w s) (λ o. least (v15 h a o))) (below_grows b (s + 1) (front b (s + 1) room) (by_second b (s + 1) (cost a (s + 1)) (1 + 2 * w s) (λ o. least (v15 h a o)))))
  below_grows (v16 {a = e} {b = f} free b a) s room least = two_grow (e, s + 1) (f, s + 1) _ _ room (λ room. whole_grows a (s + 1) room (by_second a (s + 1) (cost b (s + 1)) (1 + 2 * w s) (λ o. least (v16 free b o))) (below_grows a (s + 1) (front a (s + 1) room) (by_second a (s + 1) (cost b (s + 1)) (1 + 2 * w s) (λ o. least (v16 free b o))))) (λ room. whole_grows b (s + 1) room (by_first b (s + 1) (cost a (s + 1)) (1 + 2 * w s) (λ o. least (v16 free o a))) (below_grows b (s + 1) (front b (s + 1) room) (by_first b (s + 1) (cost a (s + 1)) (1 + 2 * w s) (λ o. least (v16 free o a)))))
  below_grows (v17 {a = e} {b = f} a b) s room least = two_grow (e, s + 1) (f, s + 1) _ _ room (λ room. whole_grows a (s + 1) room (by_first a (s + 1) (cost b (s + 1)) (1 + 2 * w s + 2 * w (s + 1)) (λ o. least (v17 o b))) (below_grows a (s + 1) (front a (s + 1) room) (by_first a (s + 1) (cost b (s + 1)) (1 + 2 * w s + 2 * w (s + 1)) (λ o. least (v17 o b))))) (λ room. whole_grows b (s + 1) room (by_second b (s + 1) (cost a (s + 1)) (1 + 2 * w s + 2 * w (s + 1)) (λ o. least (v17 a o))) (below_grows b (s + 1) (front b (s + 1) room) (by_second b (s + 1) (cost a (s + 1)) (1 + 2 * w s + 2 * w (s + 1)) (λ o. least (v17 a o)))))
  below_grows (v18 {a = e} {b = f} a b) s room least = two_grow (e, s + 1) (f, s + 1) _ _ room (λ room. whole_grows a (s + 1) room (by_first a (s + 1) (cost b (s + 1)) (2 * w s) (λ o. least (v18 o b))) (below_grows a (s + 1) (front a (s + 1) room) (by_first a (s + 1) (cost b (s + 1)) (2 * w s) (λ o. least (v18 o b))))) (λ room. whole_grows b (s + 1) room (by_second b (s + 1) (cost a (s + 1)) (2 * w s) (λ o. least (v18 a o))) (below_grows b (s + 1) (front b (s + 1) room) (by_second b (s + 1) (cost a (s + 1)) (2 * w s) (λ o. least (v18 a o)))))
  below_grows (v19 {a = e} {b = f} a b) s room least = two_grow (e, s + 1) (f, s + 1) _ _ room (λ room. whole_grows a (s + 1) room (by_first a (s + 1) (cost b (s + 1)) (1 + 2 * w s) (λ o. least (v19 o b))) (below_grows a (s + 1) (front a (s + 1) room) (by_first a (s + 1) (cost b (s + 1)) (1 + 2 * w s) (λ o. least (v19 o b))))) (λ room. whole_grows b (s + 1) room (by_second b (s + 1) (cost a (s + 1)) (1 + 2 * w s) (λ o. least (v19 a o))) (below_grows b (s + 1) (front b (s + 1) room) (by_second b (s + 1) (cost a (s + 1)) (1 + 2 * w s) (λ o. least (v19 a o)))))
  below_grows (v20 {c = e} {x = f} {y = g} c x y) s room least = three_grow (e, s) (f, s) (g, s) _ _ _ room (λ room. whole_grows c s room (by_first_of_three c s (cost x s) (cost y s) 2 (λ o. least (v20 o x y))) (below_grows c s (front c s room) (by_first_of_three c s (cost x s) (cost y s) 2 (λ o. least (v20 o x y))))) (λ room. whole_grows x s room (by_second_of_three x s (cost c s) (cost y s) 2 (λ o. least (v20 c o y))) (below_grows x s (front x s room) (by_second_of_three x s (cost c s) (cost y s) 2 (λ o. least (v20 c o y))))) (λ room. whole_grows y s room (by_second y s (cost c s + cost x s) 2 (λ o. least (v20 c x o))) (below_grows y s (front y s room) (by_second y s (cost c s + cost x s) 2 (λ o. least (v20 c x o)))))
  below_grows (v21 {c = e} {x = f} {y = g} c y x) s room least = three_grow (e, s) (f, s) (g, s) _ _ _ room (λ room. whole_grows c s room (by_first_of_three c s (cost y s) (cost x s) 2 (λ o. least (v21 o y x))) (below_grows c s (front c s room) (by_first_of_three c s (cost y s) (cost x s) 2 (λ o. least (v21 o y x))))) (λ room. whole_grows x s room (by_second x s (cost c s + cost y s) 2 (λ o. least (v21 c y o))) (below_grows x s (front x s room) (by_second x s (cost c s + cost y s) 2 (λ o. least (v21 c y o))))) (λ room. whole_grows y s room (by_second_of_three y s (cost c s) (cost x s) 2 (λ o. least (v21 c o x))) (below_grows y s (front y s room) (by_second_of_three y s (cost c s) (cost x s) 2 (λ o. least (v21 c o x)))))
  below_grows (v22 {T = T} {es = es} {f = e} ds f) s room least =
      let at = s + 2 + count es in
      let first = all_front (NodeHasRoom T) (all_of_call ds (s + 2)) (shown f at) room in
      let last = all_after (NodeHasRoom T) (all_of_call ds (s + 2)) (shown f at) room in
      let fewest : IsFewest f at = by_second f at (all_cost ds (s + 2)) (w s) (λ o. least (v22 ds o)) in
      both_grow T (all_parts es (s + 2)) ((e, at) ∷ []) (all_of_call ds (s + 2)) (shown f at)
      (all_grow ds (s + 2) first (all_by_first ds (s + 2) (cost f at) (w s) (λ o. least (v22 o f))))
      (whole_grows f at last fewest (below_grows f at (front f at last) fewest))
  below_grows (v22_valof {T = T}) s room least = no_part_grows T
  below_grows (j1 {e = e} d) s room least = one_grows (e, s) _ room (λ room. whole_grows d s room (λ o. least (j1 o)) (below_grows d s (front d s room) (λ o. least (j1 o))))
  below_grows (j2 {a = e} {b = f} a b) s room least = two_grow (e, s + 1) (f, s + 1) _ _ room (λ room. whole_grows a (s + 1) room (by_one a (s + 1) (cost b (s + 1)) (λ o. least (j2 o b))) (below_grows a (s + 1) (front a (s + 1) room) (by_one a (s + 1) (cost b (s + 1)) (λ o. least (j2 o b))))) (λ room. whole_grows b (s + 1) room (by_last b (s + 1) (cost a (s + 1)) (λ o. least (j2 a o))) (below_grows b (s + 1) (front b (s + 1) room) (by_last b (s + 1) (cost a (s + 1)) (λ o. least (j2 a o)))))
  below_grows (j3 {a = e} {b = f} a b) s room least = two_grow (e, s + 1) (f, s + 1) _ _ room (λ room. whole_grows a (s + 1) room (by_one a (s + 1) (cost b (s + 1)) (λ o. least (j3 o b))) (below_grows a (s + 1) (front a (s + 1) room) (by_one a (s + 1) (cost b (s + 1)) (λ o. least (j3 o b))))) (λ room. whole_grows b (s + 1) room (by_last b (s + 1) (cost a (s + 1)) (λ o. least (j3 a o))) (below_grows b (s + 1) (front b (s + 1) room) (by_last b (s + 1) (cost a (s + 1)) (λ o. least (j3 a o)))))
  below_grows (j4 {a = e} {b = f} a b) s room least = two_grow (e, s + 1) (f, s + 1) _ _ room (λ room. whole_grows a (s + 1) room (by_one a (s + 1) (cost b (s + 1)) (λ o. least (j4 o b))) (below_grows a (s + 1) (front a (s + 1) room) (by_one a (s + 1) (cost b (s + 1)) (λ o. least (j4 o b))))) (λ room. whole_grows b (s + 1) room (by_last b (s + 1) (cost a (s + 1)) (λ o. least (j4 a o))) (below_grows b (s + 1) (front b (s + 1) room) (by_last b (s + 1) (cost a (s + 1)) (λ o. least (j4 a o)))))
  below_grows (j5 {a = e} {b = f} a b) s room least = two_grow (e, s + 1) (f, s + 1) _ _ room (λ room. whole_grows a (s + 1) room (by_one a (s + 1) (cost b (s + 1)) (λ o. least (j5 o b))) (below_grows a (s + 1) (front a (s + 1) room) (by_one a (s + 1) (cost b (s + 1)) (λ o. least (j5 o b))))) (λ room. whole_grows b (s + 1) room (by_last b (s + 1) (cost a (s + 1)) (λ o. least (j5 a o))) (below_grows b (s + 1) (front b (s + 1) room) (by_last b (s + 1) (cost a (s + 1)) (λ o. least (j5 a o)))))
  below_grows (j6 h d) s room least = below_grows d s room (by_one d s 2 (λ o. least (j6 h o)))
  below_grows (j7 {T = T}) s room least = no_part_grows T
  below_grows (j8 {a = a} {b = b} {c = c} h k d) s room least = beside_grows d (is_zero b) a b (s + 1) (kept operators.Add a b c k) room (λ room. whole_grows d (s + 1) room (by_one d (s + 1) 2 (λ o. least (j8 h k o))) (below_grows d (s + 1) (front d (s + 1) room) (by_one d (s + 1) 2 (λ o. least (j8 h k o)))))
  below_grows (j9 {a = a} {b = b} {c = c} h k d) s room least = beside_grows d (is_zero b) a b (s + 1) (kept operators.Add a b c k) room (λ room. whole_grows d (s + 1) room (by_one d (s + 1) 2 (λ o. least (j9 h k o))) (below_grows d (s + 1) (front d (s + 1) room) (by_one d (s + 1) 2 (λ o. least (j9 h k o)))))

  all_grow : {T : Table} {es : Args} (ds : DerivesAll T es) (s : ℕ) → HaveRoom T (all_of_call ds s) → AreFewest ds s → Grows T (all_parts es s) (all_of_call ds s)
  all_grow (no_more {T = T}) s room least = no_part_grows T
  all_grow (one_more {T = T} {e = e} {es = es} d ds) s room least =
      let first = all_front (NodeHasRoom T) (shown d s) (all_of_call ds (s + 1)) room in
      let last = all_after (NodeHasRoom T) (shown d s) (all_of_call ds (s + 1)) room in
      let fewest : IsFewest d s = by_first d s (w s) (all_cost ds (s + 1)) (λ o. least (one_more o ds)) in
      both_grow T ((e, s) ∷ []) (all_parts es (s + 1)) (shown d s) (all_of_call ds (s + 1))
      (whole_grows d s first fewest (below_grows d s (front d s first) fewest))
      (all_grow ds (s + 1) last (all_by_last ds (s + 1) (cost d s + w s) (λ o. least (one_more d o))))

-- a derivation of least words, with its node
pub derivation_grows : {T : Table} {e : Exp} {aim : Aim} (d : Derives T e aim) (s : ℕ) → HaveRoom T (shown d s) → IsFewest d s → Grows T ((e, s) ∷ []) (shown d s)
derivation_grows d s room least = whole_grows d s room least (below_grows d s (front d s room) least)
