-- The loop over the mains: one iteration, the end, and a refusal on the way.
use Rattle.std.proofs.Common.{◌≡◌, ◌∙◌, ℕ, ◌+◌, List, [], ◌∷◌, ◌++◌, map, length, drop, get_or, ◌<◌, ◌≤◌, inl, inr, add-one, drop-cons, refl, sym, ap, subst, arith, append_assoc, append-nil, length-append}
use Rattle.std.specs.Prelude.{None, Result, Ok, Err, IfErr}
use Rattle.std.specs.Result.{IsErrAnd}
use Rattle.std.proofs.lemmas.List.{map-append, drop_all}
use Rattle.bc_text_items.specs.declared.item.Item.{Item}
use Rattle.bc_rules_defs.specs.View.{entry as entry_view}
use Rattle.bc_rules_defs.specs.declared.entry.Entry as code
use Rattle.bc_parse_tree.specs.Tree.{Declarations}
use Rattle.bc_lex.specs.Files.{File}
use Rattle.bc_link.specs.Refusals.{refusal_of}
use Rattle.bc_link.specs.Linked.{image_of, IsRefusal}
use Rattle.bc_run.specs.Runs.{with_primitives}
use Rattle.bc_gen_laws.specs.labels.Laws.{LabelsStandOnce}
use Rattle.bc_scope_laws.specs.Laws.{SectionsFit}
use Rattle.bc_build.specs.Parsed.{IsParsed, AreParsed}
use Rattle.bc_build.specs.Compiled.{AreAccepted}
use Rattle.bc_build.specs.Code.{items_of, in_segment, entries_of, entries_from, IsCompiled}
use Rattle.bc_build.specs.Refused.{IsMainRefusal, IsRefused}
use Rattle.bc_build.specs.Steps.{IsLinked, IsLinkRefusal, AreCoded, IsWhole}
use Rattle.bc_build.proofs.Linking.{link_fault}
use Rattle.bc_build.specs.declared.building.Built.{Built}
use Rattle.bc_build.specs.declared.build_error.BuildError.{BuildError}
use Rattle.bc_build.specs.declared.build_error.BuildError.TheVariants.{Lex, Parse, Scope, Gen, Link, Memory}

-- the remaining mains begin with the next one
pub next_main : (mains : List ℕ) (n : ℕ) → n < length mains → drop n mains ≡ get_or mains n 0 ∷ drop (n + 1) mains
next_main mains n h = drop-cons mains n 0 h ∙ ap (λ j. get_or mains n 0 ∷ drop j mains) (sym (add-one n))

pub no_main : (mains : List ℕ) (n : ℕ) → length mains ≤ n → drop n mains ≡ []
no_main mains n h = drop_all n mains h

pub coded_none : (files : List File) (mains : List ℕ) → AreCoded files mains 0 mains [] []
coded_none files mains = record {
  sections = [];
  count = refl;
  accepted = λ rest h. h;
  only = λ others h. (others, h, refl);
  refused = λ e h. h;
  segments_are = refl;
  entries_are = refl;
}

-- the entries of sections with one more section
entries_push : (k : ℕ) (sections : List Declarations) (s : Declarations) → entries_from k (sections ++ s ∷ []) ≡ entries_from k sections ++ entries_of (k + length sections) s
entries_push k [] s = append-nil (entries_of k s) ∙ ap (λ n. entries_of n s) (let e : k ≡ k + 0 = omega arith in e)
entries_push k (x ∷ sections) s =
    let n : (k + 1) + length sections ≡ k + length (x ∷ sections) = omega arith in
    ap (λ es. entries_of k x ++ es) (entries_push (k + 1) sections s ∙ ap (λ m. entries_from (k + 1) sections ++ entries_of m s) n)
    ∙ sym (append_assoc (entries_of k x) (entries_from (k + 1) sections) (entries_of (k + length (x ∷ sections)) s))

only_more : (files : List File) (main : ℕ) (left : List ℕ) (sections others rest : List Declarations) (section : Declarations)
    → ((other : Declarations) → IsParsed files main other → other ≡ section) → AreParsed files (main ∷ left) rest → others ≡ sections ++ rest
    → (more : List Declarations) × AreParsed files left more × (others ≡ (sections ++ section ∷ []) ++ more)
only_more files main left sections others [] section only r e = absurd r
only_more files main left sections others (s ∷ ss) section only r e =
    (ss, r.1, e ∙ ap (λ x. sections ++ x ∷ ss) (only s r.0) ∙ sym (append_assoc sections (section ∷ []) ss))

-- one more main has items and entries
pub coded_more : (files : List File) (mains : List ℕ) (n main : ℕ) (left : List ℕ) (segments : List (List Item)) (entries : List code.Entry) (items : List Item) (new all : List code.Entry)
    → AreCoded files mains n (main ∷ left) segments entries → IsCompiled files main items new
    → map entry_view all ≡ map entry_view entries ++ map (in_segment n) (map entry_view new)
    → AreCoded files mains (n + 1) left (segments ++ items ∷ []) all
coded_more files mains n main left segments entries items new all a c h =
    let long = length-append a.sections (c.section ∷ []) in
    record {
      sections = a.sections ++ c.section ∷ [];
      count = let g = a.count in omega (arith, g, long);
      accepted = λ rest r. subst (AreAccepted files mains) (sym (append_assoc a.sections (c.section ∷ []) rest)) (a.accepted (c.section ∷ rest) (c.accepted, r));
      only = λ others r. let x = a.only others r in only_more files main left a.sections others x.0 c.section c.only x.1 x.2;
      refused = λ e r. a.refused e (inr (c.section, c.accepted, r));
      segments_are = ap (λ ss. ss ++ items ∷ []) a.segments_are ∙ ap (λ x. map items_of a.sections ++ x ∷ []) c.items_are ∙ sym (map-append items_of a.sections (c.section ∷ []));
      entries_are = h ∙ ap (λ es. es ++ map (in_segment n) (map entry_view new)) a.entries_are
          ∙ ap (λ es. entries_from 0 a.sections ++ map (in_segment n) es) c.entries_are
          ∙ ap (λ m. entries_from 0 a.sections ++ entries_of m c.section) (let g = a.count in let e : n ≡ 0 + length a.sections = omega (arith, g) in e)
          ∙ sym (entries_push 0 a.sections c.section);
    }

nothing_left : (files : List File) (sections others rest : List Declarations) → AreParsed files [] rest → others ≡ sections ++ rest → others ≡ sections
nothing_left files sections others [] r e = e ∙ append-nil sections
nothing_left files sections others (s ∷ ss) r e = absurd r

-- no main remains
pub whole_from : (files : List File) (mains : List ℕ) (n : ℕ) (segments : List (List Item)) (entries : List code.Entry) (built : Built)
    → AreCoded files mains n [] segments entries → IsLinked segments entries built → IsWhole files mains built
whole_from files mains n segments entries built a l = record {
  sections = a.sections;
  accepted = subst (AreAccepted files mains) (append-nil a.sections) (a.accepted [] tt);
  only = λ others h. let x = a.only others h in nothing_left files a.sections others x.0 x.1 x.2;
  coded = record {
    segments = l.segments_are ∙ a.segments_are;
    entries = ap (map entry_view) l.entries_are ∙ a.entries_are;
    linked = subst (λ s. refusal_of (with_primitives s) ≡ None) a.segments_are l.accepted;
  };
  image = l.image_is ∙ ap (λ s. image_of (with_primitives s)) a.segments_are;
}

-- a main is refused
pub main_refused : (files : List File) (mains : List ℕ) (n main : ℕ) (left : List ℕ) (segments : List (List Item)) (entries : List code.Entry) (e : BuildError)
    → AreCoded files mains n (main ∷ left) segments entries → IsMainRefusal files main e → IsRefused files mains e
main_refused files mains n main left segments entries (Lex at e) a h = a.refused (Lex at e) (inl h)
main_refused files mains n main left segments entries (Parse at e) a h = a.refused (Parse at e) (inl h)
main_refused files mains n main left segments entries (Scope at e) a h = a.refused (Scope at e) (inl h)
main_refused files mains n main left segments entries (Gen at e) a h = a.refused (Gen at e) (inl h)
main_refused files mains n main left segments entries (Link e) a h = absurd h
main_refused files mains n main left segments entries Memory a h = inl (a.refused Memory (inl h))

-- the segments are not linked
pub link_refused : LabelsStandOnce → SectionsFit → (files : List File) (mains : List ℕ) (n : ℕ) (segments : List (List Item)) (entries : List code.Entry) (e : BuildError)
    → AreCoded files mains n [] segments entries → IsLinkRefusal segments e → IsRefused files mains e
link_refused once keep files mains n segments entries (Lex at e) a h = absurd h
link_refused once keep files mains n segments entries (Parse at e) a h = absurd h
link_refused once keep files mains n segments entries (Scope at e) a h = absurd h
link_refused once keep files mains n segments entries (Gen at e) a h = absurd h
link_refused once keep files mains n segments entries (Link e) a h =
    let accepted = subst (AreAccepted files mains) (append-nil a.sections) (a.accepted [] tt) in
    (a.sections, accepted, link_fault once keep files mains a.sections e accepted (subst (λ s. IsRefusal (refusal_of (with_primitives s)) e) a.segments_are h))
link_refused once keep files mains n segments entries Memory a h =
    inr (a.sections, subst (AreAccepted files mains) (append-nil a.sections) (a.accepted [] tt))

-- an error that is this one
pub err_is : {X : Type 0} (r : Result X BuildError) (e : BuildError) (P : BuildError → Type 0) → IsErrAnd r (λ x. x ≡ e) → P e → IfErr r P
err_is (Ok x) e P h p = tt
err_is (Err x) e P h p = subst P (sym h) p

-- memory ran out after one more main was compiled
pub memory_refused : (files : List File) (mains : List ℕ) (n main : ℕ) (left : List ℕ) (segments : List (List Item)) (entries : List code.Entry) (items : List Item) (new : List code.Entry)
    → AreCoded files mains n (main ∷ left) segments entries → IsCompiled files main items new → IsRefused files mains Memory
memory_refused files mains n main left segments entries items new a c =
    inl (a.refused Memory (inl (c.accepted.tokens, c.section, c.accepted.is_section)))
