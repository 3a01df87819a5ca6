-- What the writer has taken of a certificate after the i-th entry, and that it is always a beginning of the whole text.
use Rattle.std.proofs.Common.{◌≡◌, ℕ, zero, suc, ◌+◌, ◌<◌, ◌≤◌, Option, List, [], ◌∷◌, ◌++◌, length, get_or, map, flat_map, take, drop, refl, ap, sym, subst, ◌∙◌, arith, add-one, append_assoc, append-nil, take-append-drop}
use Rattle.std.specs.Io.KnownBytes.{Appends}
use Rattle.std.proofs.KnownBytes.{Appends-nil, Appends-trans}
use Rattle.std.proofs.lemmas.List.{take_all}
use Rattle.std.proofs.lemmas.Grind.{flat_map-append}
use Rattle.bc_rules_defs.specs.declared.entry.Entry as code
use Rattle.bc_rules_defs.specs.declared.rule.Table.TheVariants.{Two}
use Rattle.bc_rules_defs.specs.Entry.{Entry}
use Rattle.bc_rules_defs.specs.View.{entry}
use Rattle.bc_cert_defs.specs.Text.{header_line, end_line}
use Rattle.bc_text.specs.Printed.{AppendsFront}
use Rattle.bc_text.proofs.Fronts.{front_joined}
use Rattle.bc_cert_write.specs.Certificate.{Derived, entry_of, entry_text, certificate}
use Rattle.bc_cert_write.specs.Exact.{IsEntryText}

lines : List Derived → List ℕ
lines ds = flat_map entry_text ds

-- the derived entry at a place
record Next (ds : List Derived) (i : ℕ) (e : Entry) : Type 0 where
  derived : Derived
  is : e ≡ entry_of derived
  taken : take (suc i) ds ≡ take i ds ++ derived ∷ []
  left : drop i ds ≡ derived ∷ drop (suc i) ds

next : (es : List code.Entry) (ds : List Derived) (i : ℕ) (e : code.Entry) → map entry es ≡ map entry_of ds → i < length es → e ≡ get_or es i e → Next ds i (entry e)
next [] ds i e h k is = absurd (omega arith)
next (x ∷ xs) [] i e h k is = cc
next (x ∷ xs) (d ∷ ds) zero e h k is =
    let head : entry x ≡ entry_of d = cc in
    record { derived = d; is = ap entry is ∙ head; taken = refl; left = refl }
next (x ∷ xs) (d ∷ ds) (suc i) e h k is =
    let tail : map entry xs ≡ map entry_of ds = cc in
    let n = next xs ds i e tail (omega arith) is in
    record { derived = n.derived; is = n.is; taken = ap (λ l. d ∷ l) n.taken; left = n.left }

same_length : (es : List code.Entry) (ds : List Derived) → map entry es ≡ map entry_of ds → length es ≡ length ds
same_length [] [] h = refl
same_length [] (d ∷ ds) h = cc
same_length (x ∷ xs) [] h = cc
same_length (x ∷ xs) (d ∷ ds) h = let tail : map entry xs ≡ map entry_of ds = cc in ap suc (same_length xs ds tail)

-- the text up to here, the next entry's lines, and the rest of the text
parted : (ds : List Derived) (i : ℕ) (e : Entry) (n : Next ds i e) → certificate ds ≡ (header_line Two ++ lines (take i ds)) ++ (entry_text n.derived ++ (lines (drop (suc i) ds) ++ end_line (length ds)))
unfolding lines
parted ds i e n =
    let end = end_line (length ds) in
    ap (λ l. header_line Two ++ (flat_map entry_text l ++ end)) (sym (take-append-drop i ds))
    ∙ ap (λ l. header_line Two ++ (l ++ end)) (flat_map-append entry_text (take i ds) (drop i ds))
    ∙ ap (λ l. header_line Two ++ ((flat_map entry_text (take i ds) ++ flat_map entry_text l) ++ end)) n.left
    ∙ simp append_assoc

module _ (a b c : Option (List ℕ)) (es : List code.Entry) (ds : List Derived) (all : map entry es ≡ map entry_of ds) where
  -- after one more entry
  pub written_more : (i : ℕ) (e : code.Entry) (text bytes : List ℕ) → i < length es → e ≡ get_or es i e → IsEntryText (entry e) text → bytes ≡ text
      → Appends a b (header_line Two ++ flat_map entry_text (take i ds)) → Appends b c bytes → Appends a c (header_line Two ++ flat_map entry_text (take (i + 1) ds))
  written_more i e text bytes k is exact same so_far more =
      let n = next es ds i e all k is in
      let t : bytes ≡ entry_text n.derived = same ∙ exact.exact n.derived n.is in
      let grown : (header_line Two ++ flat_map entry_text (take i ds)) ++ bytes ≡ header_line Two ++ flat_map entry_text (take (i + 1) ds) =
      append_assoc (header_line Two) (flat_map entry_text (take i ds)) bytes
      ∙ ap (λ l. header_line Two ++ l)
      (ap (λ l. flat_map entry_text (take i ds) ++ l) (t ∙ sym (append-nil (entry_text n.derived)))
      ∙ sym (flat_map-append entry_text (take i ds) (n.derived ∷ []))
      ∙ ap (flat_map entry_text) (sym n.taken ∙ ap (λ m. take m ds) (sym (add-one i)))) in
      subst (Appends a c) grown (Appends-trans a b c _ bytes so_far more)

  -- what it has taken when it fails
  pub front_of_header : AppendsFront a b (header_line Two) → AppendsFront a b (certificate ds)
  front_of_header h = front_joined a a b [] (header_line Two) _ _ (Appends-nil a) h refl

  pub front_so_far : (i : ℕ) → Appends a b (header_line Two ++ flat_map entry_text (take i ds)) → AppendsFront a b (certificate ds)
  front_so_far i h =
      front_joined a b b _ [] (flat_map entry_text (drop i ds) ++ end_line (length ds)) _ h (0, Appends-nil b)
      (ap (λ l. header_line Two ++ (flat_map entry_text l ++ end_line (length ds))) (sym (take-append-drop i ds))
      ∙ ap (λ l. header_line Two ++ (l ++ end_line (length ds))) (flat_map-append entry_text (take i ds) (drop i ds))
      ∙ simp append_assoc)

  pub front_of_entry : (i : ℕ) (e : code.Entry) (text bytes : List ℕ) → i < length es → e ≡ get_or es i e → IsEntryText (entry e) text → bytes ≡ text
      → Appends a b (header_line Two ++ flat_map entry_text (take i ds)) → AppendsFront b c bytes → AppendsFront a c (certificate ds)
  unfolding lines
  front_of_entry i e text bytes k is exact same so_far more =
      let n = next es ds i e all k is in
      let t : bytes ≡ entry_text n.derived = same ∙ exact.exact n.derived n.is in
      front_joined a b c _ bytes (flat_map entry_text (drop (suc i) ds) ++ end_line (length ds)) _ so_far more
      (parted ds i (entry e) n ∙ ap (λ l. (header_line Two ++ flat_map entry_text (take i ds)) ++ (l ++ (flat_map entry_text (drop (suc i) ds) ++ end_line (length ds)))) (sym t))

  -- the last line
  all_taken : (i : ℕ) → length es ≤ i → (bytes text : List ℕ) → bytes ≡ text → text ≡ end_line (length es) → certificate ds ≡ (header_line Two ++ flat_map entry_text (take i ds)) ++ bytes
  all_taken i k bytes text same is =
      let n = same_length es ds all in
      let whole : take i ds ≡ ds = take_all i ds (omega arith) in
      sym (append_assoc (header_line Two) (flat_map entry_text ds) (end_line (length ds)))
      ∙ ap (λ l. (header_line Two ++ flat_map entry_text l) ++ end_line (length ds)) (sym whole)
      ∙ ap (λ l. (header_line Two ++ flat_map entry_text (take i ds)) ++ l) (ap end_line (sym n) ∙ sym is ∙ sym same)

  pub written_all : (i : ℕ) (bytes text : List ℕ) → length es ≤ i → bytes ≡ text → text ≡ end_line (length es)
      → Appends a b (header_line Two ++ flat_map entry_text (take i ds)) → Appends b c bytes → Appends a c (certificate ds)
  written_all i bytes text k same is so_far more = subst (Appends a c) (sym (all_taken i k bytes text same is)) (Appends-trans a b c _ bytes so_far more)

  pub front_of_all : (i : ℕ) (bytes text : List ℕ) → length es ≤ i → bytes ≡ text → text ≡ end_line (length es)
      → Appends a b (header_line Two ++ flat_map entry_text (take i ds)) → AppendsFront b c bytes → AppendsFront a c (certificate ds)
  front_of_all i bytes text k same is so_far more =
      front_joined a b c _ bytes [] _ so_far more (all_taken i k bytes text same is ∙ ap (λ l. (header_line Two ++ flat_map entry_text (take i ds)) ++ l) (sym (append-nil bytes)))
