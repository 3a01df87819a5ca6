-- The certificate of the entries of sections is accepted.
use Rattle.std.proofs.Common.{◌≡◌, ℕ, ◌+◌, ◌^◌, ◌≤◌, ◌<◌, List, [], ◌∷◌, ◌++◌, map, length, refl, sym, ap, subst, ◌∙◌, arith}
use Rattle.std.specs.Prelude.{All, None}
use Rattle.std.specs.List.{AllByRecursion}
use Rattle.std.proofs.lemmas.List.{length-map}
use Rattle.std.proofs.lemmas.List.Elements.{recursion_from_All}
use Rattle.bc_text_items.specs.declared.item.Item.{Item}
use Rattle.bc_core.specs.Tree.{Exp, Num, Frame, Glob, Place, Load, Neg, Not, Bin, Cond, Call, Valof, Args, no_argument, argument, count, Root, Value, Test, Assign}
use Rattle.bc_core.specs.Level.{side_level}
use Rattle.bc_parse_tree.specs.Tree.{Declarations}
use Rattle.bc_parse_tree.specs.Size.{declarations_size}
use Rattle.bc_parse_tree.specs.Height.{declarations_height}
use Rattle.bc_lex.specs.Files.{File}
use Rattle.bc_scope_defs.specs.Faults.{section_fault}
use Rattle.bc_scope_defs.specs.Translation.{core_of}
use Rattle.bc_rules_defs.specs.declared.rule.Table.TheVariants.{Two}
use Rattle.bc_rules_defs.specs.declared.entry.Entry as code
use Rattle.bc_rules_defs.specs.View.{entry as entry_view}
use Rattle.bc_rules_defs.specs.Entry.{Entry}
use Rattle.bc_rules_defs.specs.Rules.{root_shape}
use Rattle.bc_rules_defs.specs.Code.{root_labels}
use Rattle.bc_select_defs.specs.Nodes.{in_order, all_in_order, root_nodes}
use Rattle.bc_select_defs.specs.Chosen.{chosen, chosen_is_least}
use Rattle.bc_gen_defs.specs.Section.{labels_suffice, section_items}
use Rattle.bc_gen_defs.specs.Entries.{section_entries}
use Rattle.bc_gen_defs.specs.Laws.{AllStandAt}
use Rattle.bc_gen_defs.proofs.Standing.{entries_stand}
use Rattle.bc_cert_write.specs.Certificate.{Derived, entry_of, certificate}
use Rattle.bc_cert_laws.specs.Entries.{Says}
use Rattle.bc_cert_laws.specs.Written.{judged_of, HasRoom, HasFewest}
use Rattle.bc_cert_laws.proofs.Accepted.{certificate_is_said}
use Rattle.bc_build.specs.RoomLaws.{IsShallow, HasLevels, HasSmallForm, HasSmallForms}
use Rattle.bc_build.proofs.Shallow.{roots_are_shallow}
use Rattle.bc_build.proofs.Sections.{roots_have_levels}
use Rattle.bc_build.proofs.Few.{roots_have_few_nodes}
use Rattle.bc_build.proofs.Labels.{labels_have_room}
use Rattle.bc_build.proofs.Numbers.{nodes_have_room}
use Rattle.bc_build.proofs.Words.{root_words_have_room}
use Rattle.bc_gen.specs.Chosen.{coding}
use Rattle.bc_build.specs.Ranges.{AreSmall, AllAreSmall, RootIsSmall, EntryIsSmall, IsSmallEntry}
use Rattle.bc_build.specs.Compiled.{AreAccepted}
use Rattle.bc_build.specs.Code.{in_segment, entries_of, entries_from}
use Rattle.bc_build.specs.Least.{judged}
use Rattle.bc_build.specs.Certified.{IsCertified}
use Rattle.bc_build.specs.Steps.{IsLinked, IsWhole}
use Rattle.bc_build.specs.declared.building.Built.{Built}

-- ---- Numbers of nodes

both : {A : Type 0} (P : A → Type 0) (xs ys : List A) → AllByRecursion P xs → AllByRecursion P ys → AllByRecursion P (xs ++ ys)
both P [] ys h i = i
both P (x ∷ xs) ys h i = (h.0, both P xs ys h.1 i)

abbrev HasForm : Exp × ℕ → Type 0
HasForm n = HasSmallForm n.0

mutual
  small_forms : (e : Exp) (s : ℕ) → AreSmall e → AllByRecursion HasForm (in_order e s)
  small_forms (Num n) s h = (h, tt)
  small_forms (Frame k) s h = (h, tt)
  small_forms (Glob n) s h = (h, tt)
  small_forms (Place m) s h = (h, tt)
  small_forms (Valof n) s h = (h, tt)
  small_forms (Load e) s h = both HasForm (in_order e s) _ (small_forms e s h) (tt, tt)
  small_forms (Neg e) s h = both HasForm (in_order e s) _ (small_forms e s h) (tt, tt)
  small_forms (Not e) s h = both HasForm (in_order e s) _ (small_forms e s h) (tt, tt)
  small_forms (Bin op a b) s h = both HasForm (in_order a (s + 1) ++ in_order b (s + 1)) _ (both HasForm (in_order a (s + 1)) _ (small_forms a (s + 1) h.0) (small_forms b (s + 1) h.1)) (tt, tt)
  small_forms (Cond c x y) s h =
      both HasForm ((in_order c s ++ in_order x s) ++ in_order y s) _
      (both HasForm (in_order c s ++ in_order x s) _ (both HasForm (in_order c s) _ (small_forms c s h.0) (small_forms x s h.1.0)) (small_forms y s h.1.1)) (tt, tt)
  small_forms (Call es f) s h =
      both HasForm (all_in_order es (s + 2) ++ in_order f (s + 2 + count es)) _
      (both HasForm (all_in_order es (s + 2)) _ (all_small_forms es (s + 2) h.0) (small_forms f (s + 2 + count es) h.1)) (tt, tt)

  all_small_forms : (es : Args) (s : ℕ) → AllAreSmall es → AllByRecursion HasForm (all_in_order es s)
  all_small_forms no_argument s h = tt
  all_small_forms (argument e es) s h = both HasForm (in_order e s) _ (small_forms e s h.0) (all_small_forms es (s + 1) h.1)

root_forms : (r : Root) → RootIsSmall r → HasSmallForms r
root_forms (Value s e) h = small_forms e s h
root_forms (Test s sense e) h = small_forms e s h
root_forms (Assign s v a) h = both HasForm (in_order v (side_level a s)) _ (small_forms v (side_level a s) h.0) (small_forms a (side_level a s) h.1)

-- ---- What is known of the entries of sections

record IsKnown (e : Entry) : Type 0 where
  named : e.derivation ≡ root_shape (chosen Two e.root)
  shallow : IsShallow e.root
  levels : HasLevels e.root
  few : root_nodes e.root ≤ 2 ^ 32
  labels : e.first + root_labels (chosen Two e.root) ≤ 20001

in_segment_known : (k : ℕ) (e : Entry) → IsKnown e → IsKnown (in_segment k e)
in_segment_known k e h = record { named = h.named; shallow = h.shallow; levels = h.levels; few = h.few; labels = h.labels }

abbrev RootOf : Entry → Root
RootOf e = e.root

known_each : (items : List Item) (k : ℕ) (es : List Entry) → AllStandAt coding items es → AllByRecursion IsShallow (map RootOf es) → AllByRecursion HasLevels (map RootOf es)
    → AllByRecursion (λ r. root_nodes r ≤ 2 ^ 32) (map RootOf es) → AllByRecursion (λ (e : Entry). e.first + coding.labels e.root ≤ 20001) es → AllByRecursion IsKnown (map (in_segment k) es)
unfolding coding
known_each items k [] stand shallow levels few labels = tt
known_each items k (e ∷ es) stand shallow levels few labels = (
  in_segment_known k e (record { named = stand.0.0; shallow = shallow.0; levels = levels.0; few = few.0; labels = labels.0 }),
  known_each items k es stand.1 shallow.1 levels.1 few.1 labels.1,
)

section_known : (k : ℕ) (ds : Declarations) → section_fault ds ≡ None → declarations_size ds ≤ 60000 → declarations_height ds ≤ 200 → labels_suffice coding (core_of ds) → AllByRecursion IsKnown (entries_of k ds)
unfolding coding
section_known k ds faultless small nests labelled =
    let core = core_of ds in
    known_each (section_items coding core) k (section_entries coding core) (entries_stand coding core) (roots_are_shallow coding ds nests)
    (roots_have_levels Two (chosen Two) ds faultless) (roots_have_few_nodes Two (chosen Two) ds faultless (omega (arith, small))) (labels_have_room coding core labelled)

sections_known : (files : List File) (mains : List ℕ) (k : ℕ) (sections : List Declarations) → AreAccepted files mains sections → AllByRecursion IsKnown (entries_from k sections)
sections_known files [] k [] h = tt
sections_known files [] k (ds ∷ sections) h = absurd h
sections_known files (main ∷ mains) k [] h = absurd h
sections_known files (main ∷ mains) k (ds ∷ sections) h =
    let a = h.0 in
    both IsKnown (entries_of k ds) (entries_from (k + 1) sections) (section_known k ds a.faultless a.is_section.small a.is_section.nests a.labelled) (sections_known files mains (k + 1) sections h.1)

-- ---- The certificate

derived_of : Entry → Derived
derived_of e = record { segment = e.segment; item = e.item; target = e.target; first = e.first; root = e.root; derivation = chosen Two e.root; bodies = e.bodies }

has_room : (e : Entry) → IsKnown e → EntryIsSmall e → HasRoom (derived_of e)
unfolding derived_of
has_room e k s =
    let nodes = nodes_have_room Two e.root (chosen Two e.root) k.levels (root_forms e.root s.root) k.shallow k.few in
    let l = k.labels in
    record {
      segment = s.segment;
      item = s.item;
      target = s.target;
      first = s.first;
      words = root_words_have_room e.root k.few;
      labels = omega (arith, l);
      nodes = nodes.0;
      root = nodes.1;
      bodies = recursion_from_All (λ n. n < 2 ^ 64) e.bodies s.bodies;
    }

rooms : (es : List Entry) → AllByRecursion IsKnown es → AllByRecursion EntryIsSmall es → AllByRecursion HasRoom (map derived_of es)
rooms [] k s = tt
rooms (e ∷ es) k s = (has_room e k.0 s.0, rooms es k.1 s.1)

fewest : (es : List Entry) → AllByRecursion HasFewest (map derived_of es)
unfolding derived_of
fewest [] = tt
fewest (e ∷ es) = ((chosen_is_least Two e.root).fewest, fewest es)

named_all : (es : List Entry) → AllByRecursion IsKnown es → es ≡ map entry_of (map derived_of es)
unfolding derived_of
named_all [] h = refl
named_all (e ∷ es) h = ap (λ x. record e { derivation = x } ∷ es) h.0.named ∙ ap (λ l. entry_of (derived_of e) ∷ l) (named_all es h.1)

judged_all : (es : List Entry) → map judged_of (map derived_of es) ≡ map judged es
unfolding derived_of
judged_all [] = refl
judged_all (e ∷ es) = ap (λ l. judged e ∷ l) (judged_all es)

small_each : (es : List code.Entry) → AllByRecursion IsSmallEntry es → AllByRecursion EntryIsSmall (map entry_view es)
small_each [] h = tt
small_each (e ∷ es) h = (h.0, small_each es h.1)

certified : (es : List Entry) → AllByRecursion IsKnown es → AllByRecursion EntryIsSmall es → length es < 2 ^ 64 → IsCertified es
certified es k s n =
    let long : length (map derived_of es) < 2 ^ 64 = subst (λ m. m < 2 ^ 64) (sym (length-map es derived_of)) n in
    let said = certificate_is_said (map derived_of es) (fewest es) (rooms es k s) long in
    record { derived = map derived_of es; named = named_all es k; said = subst (λ js. Says (certificate (map derived_of es)) (record { table = Two; entries = js })) (judged_all es) said }

-- the certificate of what was linked
pub built_certified : (files : List File) (mains : List ℕ) (built : Built) → IsWhole files mains built → (segments : List (List Item)) (entries : List code.Entry) → IsLinked segments entries built → IsCertified (map entry_view built.entries.items)
built_certified files mains built w segments entries l =
    let known = subst (AllByRecursion IsKnown) (sym w.coded.entries) (sections_known files mains 0 w.sections w.accepted) in
    let small : All IsSmallEntry built.entries.items = subst (All IsSmallEntry) (sym l.entries_are) l.small in
    let long : length (map entry_view built.entries.items) < 2 ^ 64 = subst (λ m. m < 2 ^ 64) (sym (length-map built.entries.items entry_view ∙ ap length l.entries_are)) l.number in
    certified (map entry_view built.entries.items) known (small_each built.entries.items (recursion_from_All IsSmallEntry built.entries.items small)) long
