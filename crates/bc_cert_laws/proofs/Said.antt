-- Lines that lead to the end are those of an accepted certificate.
use Rattle.std.proofs.Common.{◌≡◌, ℕ, ◌^◌, ◌≤◌, ◌<◌, List, [], ◌∷◌, ◌++◌, length, flat_map, refl, ap, sym, subst, ◌∙◌, append-nil, append_assoc, arith}
use Rattle.std.specs.List.{AllByRecursion}
use Rattle.std.proofs.lemmas.Grind.{flat_map-append}
use Rattle.bc_core.specs.Tree.{Exp, Root}
use Rattle.bc_rules_defs.specs.declared.piece.Piece.{Piece}
use Rattle.bc_rules_defs.specs.declared.rule.Table.{Table}
use Rattle.bc_rules_defs.specs.declared.rule.Rule.{Rule}
use Rattle.bc_rules_defs.specs.Rules.{RootDerives}
use Rattle.bc_rules_defs.specs.Code.{root_cost}
use Rattle.bc_cert_defs.specs.Text.{header_line, end_line}
use Rattle.bc_cert_defs.specs.Verdict.{Judged}
use Rattle.bc_cert_write.specs.Shown.{root_shown}
use Rattle.bc_cert_write.specs.Lines.{node_line as line_of_node, root_line as line_of_root}
use Rattle.bc_cert_defs.specs.declared.head.Head.{Head}
use Rattle.bc_cert_laws.specs.Entries.{NodeHasRoom, PieceHasRoom, pieces_line, RootHasRoom, AllListed, none, more, Says}
use Rattle.bc_cert_laws.specs.Faults.{HeadHasRoom, head_line, Grown, all_shown, Ends, node, grown, IsCode, judged, RootOver, value, test, assign, RootStands, Stage, the_header, between, nodes, code, the_end, Reaches, nothing, header, entry, node_line, root_line, code_line, last_line}
use Rattle.bc_cert_laws.proofs.Fields.{each_of_two}
use Rattle.bc_cert_laws.proofs.Growth.{HaveRoom}

-- whole entries after the header, and then these lines
record After (T : Table) (js : List Judged) (text own : List ℕ) : Type 0 where
  texts : List ℕ
  entries : AllListed T js texts
  is : text ≡ header_line T ++ (texts ++ own)

-- what the lines of each stage are
record AtNodes (text : List ℕ) (T : Table) (js : List Judged) (h : Head) (trees : List Grown) : Type 0 where
  following : After T js text (head_line h ++ flat_map (line_of_node T) (all_shown trees))
  head : HeadHasRoom h
  room : HaveRoom T (all_shown trees)

record AtCode (text : List ℕ) (T : Table) (js : List Judged) (h : Head) (r : Root) (d : RootDerives T r) : Type 0 where
  following : After T js text (head_line h ++ (flat_map (line_of_node T) (root_shown d) ++ line_of_root d))
  head : HeadHasRoom h
  room : HaveRoom T (root_shown d)
  level : RootHasRoom r
  fewest : (other : RootDerives T r) → root_cost d ≤ root_cost other

abbrev Holds : List ℕ → Stage → Type 0
Holds text the_header = text ≡ []
Holds text (between T js) = After T js text []
Holds text (nodes T js h trees) = AtNodes text T js h trees
Holds text (code T js h r d) = AtCode text T js h r d
Holds text (the_end T js) = Says text (record { table = T; entries = js })

longer : (T : Table) (js : List Judged) (text own l all : List ℕ) → own ++ l ≡ all → After T js text own → After T js (text ++ l) all
longer T js text own l all e b = record {
  texts = b.texts;
  entries = b.entries;
  is = ap (λ x. x ++ l) b.is ∙ joined (header_line T) b.texts own l ∙ ap (λ x. header_line T ++ (b.texts ++ x)) e;
} where
  joined : (h t o l : List ℕ) → (h ++ (t ++ o)) ++ l ≡ h ++ (t ++ (o ++ l))
  joined h t o l = simp append_assoc

-- a node's tree shows the trees of its parts and the node
pub shown_with : (e : Exp) (s : ℕ) (rules : List Rule) (trees : List Grown) (ends : Ends e s trees) → all_shown (ends.before ++ grown e s rules ends.own ∷ []) ≡ all_shown trees ++ node e s rules ∷ []
shown_with e s rules trees ends =
    let shows = λ (t : Grown). t.shown in
    flat_map-append shows ends.before (grown e s rules ends.own ∷ [])
    ∙ ap (λ l. all_shown ends.before ++ l) (append-nil (all_shown ends.own ++ node e s rules ∷ []))
    ∙ sym (append_assoc (all_shown ends.before) (all_shown ends.own) (node e s rules ∷ []))
    ∙ ap (λ l. l ++ node e s rules ∷ []) (sym (ap all_shown ends.cut ∙ flat_map-append shows ends.before ends.own))

after_node : (text : List ℕ) (T : Table) (js : List Judged) (h : Head) (trees : List Grown) (e : Exp) (s : ℕ) (rules : List Rule) (ends : Ends e s trees) → NodeHasRoom T (node e s rules) → AtNodes text T js h trees
    → AtNodes (text ++ line_of_node T (node e s rules)) T js h (ends.before ++ grown e s rules ends.own ∷ [])
after_node text T js h trees e s rules ends room a =
    let all = shown_with e s rules trees ends in
    record {
      following =
          longer T js text _ (line_of_node T (node e s rules)) _
          (append_assoc (head_line h) _ _ ∙ ap (λ l. head_line h ++ l)
          (ap (λ l. flat_map (line_of_node T) (all_shown trees) ++ l) (sym (append-nil (line_of_node T (node e s rules))))
          ∙ sym (flat_map-append (line_of_node T) (all_shown trees) (node e s rules ∷ [])) ∙ ap (flat_map (line_of_node T)) (sym all)))
          a.following;
      head = a.head;
      room = subst (HaveRoom T) (sym all) (each_of_two (NodeHasRoom T) (all_shown trees) (node e s rules ∷ []) a.room (room, tt));
    }

root_room : (trees : List Grown) (r : Root) (l : List ℕ) → RootOver trees r l → RootHasRoom r
root_room _ _ _ value = tt
root_room _ _ _ test = tt
root_room _ _ _ (assign i room v a) = room

after_root : (text : List ℕ) (T : Table) (js : List Judged) (h : Head) (trees : List Grown) (r : Root) (l : List ℕ) (d : RootDerives T r) → RootOver trees r l → RootStands T r (all_shown trees) l d → AtNodes text T js h trees → AtCode (text ++ l) T js h r d
after_root text T js h trees r l d over stands a = record {
  following =
      longer T js text _ l _
      (append_assoc (head_line h) _ _ ∙ ap (λ x. head_line h ++ x) (ap (λ x. flat_map (line_of_node T) x ++ l) stands.shown ∙ ap (λ x. flat_map (line_of_node T) (root_shown d) ++ x) stands.is))
      a.following;
  head = a.head;
  room = subst (HaveRoom T) stands.shown a.room;
  level = root_room trees r l over;
  fewest = stands.fewest;
}

after_code : (text : List ℕ) (T : Table) (js : List Judged) (h : Head) (r : Root) (d : RootDerives T r) (ps : List Piece) → AllByRecursion PieceHasRoom ps → IsCode d h ps → root_cost d ≡ h.words → AtCode text T js h r d → After T (js ++ judged h r ps ∷ []) (text ++ pieces_line ps) []
after_code text T js h r d ps room is words a =
    let own = head_line h ++ (flat_map (line_of_node T) (root_shown d) ++ (line_of_root d ++ pieces_line ps)) in
    record {
      texts = a.following.texts ++ own;
      entries = more a.following.entries (record {
        derivation = d;
        code = is.same;
        words = words;
        fewest = λ other. let f = a.fewest other in omega arith;
        segment = a.head.segment;
        item = a.head.item;
        target = a.head.target;
        first = a.head.first;
        count = a.head.words;
        labels = is.labels;
        nodes = a.room;
        root = a.level;
        pieces = room;
        lines = refl;
      });
      is = ap (λ x. x ++ pieces_line ps) a.following.is ∙ joined (header_line T) a.following.texts (head_line h) (flat_map (line_of_node T) (root_shown d)) (line_of_root d) (pieces_line ps);
    } where
      joined : (h t a b c e : List ℕ) → (h ++ (t ++ (a ++ (b ++ c)))) ++ e ≡ h ++ ((t ++ (a ++ (b ++ (c ++ e)))) ++ [])
      joined h t a b c e = simp (append_assoc, append-nil)

after_last : (text : List ℕ) (T : Table) (js : List Judged) → length js < 2 ^ 64 → After T js text [] → Says (text ++ end_line (length js)) (record { table = T; entries = js })
after_last text T js room b = record {
  texts = b.texts;
  entries = b.entries;
  count = room;
  text = ap (λ x. x ++ end_line (length js)) b.is ∙ joined (header_line T) b.texts (end_line (length js));
} where
  joined : (h t e : List ℕ) → (h ++ (t ++ [])) ++ e ≡ h ++ (t ++ e)
  joined h t e = simp (append_assoc, append-nil)

holds : (text : List ℕ) (stage : Stage) → Reaches text stage → Holds text stage
holds _ _ nothing = refl
holds _ _ (header {T = T}) = record { texts = []; entries = none; is = sym (append-nil (header_line T)) }
holds _ _ (entry {text = text} {T = T} {js = js} {h = h} r room) =
    let b = holds text (between T js) r in
    record { following = longer T js text [] (head_line h) _ (sym (append-nil (head_line h))) b; head = room; room = tt }
holds _ _ (node_line {text = text} {T = T} {js = js} {h = h} {trees = trees} {e = e} {s = s} {rules = rules} r ends room stands) = after_node text T js h trees e s rules ends room (holds text (nodes T js h trees) r)
holds _ _ (root_line {text = text} {T = T} {js = js} {h = h} {trees = trees} {r = x} {l = l} {d = d} r over stands) = after_root text T js h trees x l d over stands (holds text (nodes T js h trees) r)
holds _ _ (code_line {text = text} {T = T} {js = js} {h = h} {r = x} {d = d} {ps = ps} r room is words) = after_code text T js h x d ps room is words (holds text (code T js h x d) r)
holds _ _ (last_line {text = text} {T = T} {js = js} r room) = after_last text T js room (holds text (between T js) r)

pub no_text : (text : List ℕ) → Reaches text the_header → text ≡ []
no_text text r = holds text the_header r

pub reaches_says : (bytes : List ℕ) (T : Table) (js : List Judged) → Reaches bytes (the_end T js) → Says bytes (record { table = T; entries = js })
reaches_says bytes T js r = holds bytes (the_end T js) r
