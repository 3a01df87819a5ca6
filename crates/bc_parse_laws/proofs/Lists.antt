-- Canonical spellings of names, labels and constants are read back.
use Rattle.std.proofs.Common.{◌≡◌, ℕ, zero, suc, ◌+◌, ◌<◌, ◌≤◌, true, false, List, [], ◌∷◌, ◌++◌, length, max, None, Ok, refl, ap, ◌∙◌, append_assoc, arith}
use Rattle.std.proofs.Math.Numerals.{add-one}
use Rattle.std.proofs.lemmas.List.{length-append}
use Rattle.bc_lex_tokens.specs.declared.symbol.Symbol.{Symbol}
use Rattle.bc_lex_tokens.specs.declared.symbol.Symbol.TheVariants as sign
use Rattle.bc_parse_tree.specs.declared.tree.Storage.{Storage}
use Rattle.bc_parse_tree.specs.declared.tree.Storage.TheVariants as storage
use Rattle.bc_parse_tree.specs.Parts.{Part, A, Name}
use Rattle.bc_parse_tree.specs.Tree.{Exp, Exps, none, more, Entries, no_entries, entry, Label, Labels, no_labels, label}
use Rattle.bc_parse_tree.specs.Tree as tree
use Rattle.bc_parse_tree.specs.Spelling.{named, add_label, add_entry}
use Rattle.bc_parse_tree.specs.Canonical.{whole, part_of, labels_spelling, label_spelling, entries_spelling, entry_sign, after_first}
use Rattle.bc_parse_tree.specs.Height.{exp_height, label_height, labels_height, entries_height}
use Rattle.bc_parse_defs.specs.Reading.{Piece, piece, turns, after_of, name_turn, names_read, parameters_read, label_read, labels_read, NoLabel, label_start, constant_sign_of, entry_read, entry_turn, entries_read, exp_of}
use Rattle.bc_parse_laws.proofs.Rounds.{part_rounds, exp_rounds, label_rounds, labels_rounds, entries_rounds}
use Rattle.bc_parse_laws.proofs.Ends.{turn_last, turn_next}
use Rattle.bc_parse_laws.proofs.Expressions.{PartAgain}

-- ---- names

last_name : (s : Piece (List (List ℕ))) (n : List ℕ) (rest : List Part) → s.rest ≡ Name n ∷ rest → after_of sign.Comma rest ≡ None → name_turn s ≡ Ok (piece (s.tree ++ n ∷ []) s.height rest, true)
unfolding name_turn
last_name s n rest is no_comma = rw (is, no_comma) refl

one_name : (s : Piece (List (List ℕ))) (n : List ℕ) (rest : List Part) → s.rest ≡ Name n ∷ A sign.Comma ∷ rest → name_turn s ≡ Ok (piece (s.tree ++ n ∷ []) s.height rest, false)
unfolding name_turn
one_name s n rest is = rw is refl

names_turned : (ns : List (List ℕ)) (n : List ℕ) (k : ℕ) (found : List (List ℕ)) (rest : List Part) → length ns < k → after_of sign.Comma rest ≡ None
    → turns name_turn k (piece found 0 (named (n ∷ ns) ++ rest)) ≡ Ok (piece (found ++ n ∷ ns) 0 rest)
names_turned ns n zero found rest long no_comma = absurd (omega arith)
names_turned [] n (suc k) found rest long no_comma = turn_last name_turn k _ _ (last_name (piece found 0 (Name n ∷ rest)) n rest refl no_comma)
names_turned (m ∷ ns) n (suc k) found rest long no_comma =
    turn_next name_turn k _ _ (one_name (piece found 0 (Name n ∷ A sign.Comma ∷ (named (m ∷ ns) ++ rest))) n (named (m ∷ ns) ++ rest) refl)
    ∙ names_turned ns m k (found ++ n ∷ []) rest (omega arith) no_comma
    ∙ ap (λ (ms : List (List ℕ)). Ok (piece ms 0 rest)) (append_assoc found (n ∷ []) (m ∷ ns))

names_long : (ns : List (List ℕ)) (n : List ℕ) → length ns < length (named (n ∷ ns))
names_long [] n = omega arith
names_long (m ∷ ns) n = omega (arith, names_long ns m)

pub names_again : (n : List ℕ) (ns : List (List ℕ)) (rest : List Part) → after_of sign.Comma rest ≡ None → names_read (named (n ∷ ns) ++ rest) ≡ Ok (piece (n ∷ ns) 0 rest)
unfolding names_read
names_again n ns rest no_comma = names_turned ns n (length (named (n ∷ ns) ++ rest) + 1) [] rest (omega (arith, names_long ns n, length-append (named (n ∷ ns)) rest)) no_comma

named_head : (n : List ℕ) (ns : List (List ℕ)) (rest : List Part) → after_of sign.CloseBracket (named (n ∷ ns) ++ rest) ≡ None
named_head n [] rest = refl
named_head n (m ∷ ns) rest = refl

pub parameters_again : (ps : List (List ℕ)) (rest : List Part) → parameters_read (named ps ++ A sign.CloseBracket ∷ rest) ≡ Ok (piece ps 0 rest)
unfolding parameters_read
parameters_again [] rest = refl
parameters_again (n ∷ ns) rest = rw (named_head n ns (A sign.CloseBracket ∷ rest), names_again n ns (A sign.CloseBracket ∷ rest) refl) refl

-- ---- labels

abbrev pub LabelAgain : Label → Type 0
LabelAgain (tree.Case k) = PartAgain k
LabelAgain tree.Default = Unit {0}
LabelAgain (tree.Named n) = Unit {0}

abbrev pub LabelsAgain : Labels → Type 0
LabelsAgain no_labels = Unit {0}
LabelsAgain (label l ls) = LabelAgain l × LabelsAgain ls

abbrev pub append_labels : Labels → Labels → Labels
append_labels no_labels ls = ls
append_labels (label k ks) ls = label k (append_labels ks ls)

pub append_no_labels : (ls : Labels) → append_labels ls no_labels ≡ ls
append_no_labels no_labels = refl
append_no_labels (label l ls) = ap (λ (r : Labels). label l r) (append_no_labels ls)

pub append_more_labels : (ks : Labels) (l : Label) (ls : Labels) → append_labels (add_label ks l) ls ≡ append_labels ks (label l ls)
append_more_labels no_labels l ls = refl
append_more_labels (label k ks) l ls = ap (λ (r : Labels). label k r) (append_more_labels ks l ls)

abbrev count_labels : Labels → ℕ
count_labels no_labels = 0
count_labels (label l ls) = count_labels ls + 1

labels_long : (ls : Labels) → count_labels ls ≤ length (labels_spelling ls)
labels_long no_labels = omega arith
labels_long (label (tree.Case k) ls) = omega (arith, labels_long ls, length-append (part_of k (whole k) ++ A sign.Colon ∷ []) (labels_spelling ls))
labels_long (label tree.Default ls) = omega (arith, labels_long ls)
labels_long (label (tree.Named n) ls) = omega (arith, labels_long ls)

one_label : (l : Label) → LabelAgain l → (n nest round : ℕ) (found : Labels) (h : ℕ) (rest : List Part) → label_height l ≤ nest → label_rounds l ≤ round → nest + round ≤ n
    → label_read (exp_of n) nest round (piece found h (label_spelling l ++ rest)) (label_start (label_spelling l ++ rest)) ≡ Ok (piece (add_label found l) (max h (label_height l)) rest, false)
unfolding label_read
one_label (tree.Case k) again n nest round found h rest high deep enough =
    rw (append_assoc (part_of k (whole k)) (A sign.Colon ∷ []) rest, again n nest round 2 (A sign.Colon ∷ rest) high deep enough refl) refl
one_label tree.Default again n nest round found h rest high deep enough = let m : h ≡ max h 0 = omega arith in ap (λ (g : ℕ). Ok (piece (add_label found tree.Default) g rest, false)) m
one_label (tree.Named s) again n nest round found h rest high deep enough = let m : h ≡ max h 0 = omega arith in ap (λ (g : ℕ). Ok (piece (add_label found (tree.Named s)) g rest, false)) m

no_label : (n nest round : ℕ) (s : Piece Labels) → label_start s.rest ≡ NoLabel → label_read (exp_of n) nest round s (label_start s.rest) ≡ Ok (s, true)
unfolding label_read
no_label n nest round s is = rw is refl

labels_turned : (ls : Labels) → LabelsAgain ls → (n k nest round : ℕ) (found : Labels) (h : ℕ) (rest : List Part) → count_labels ls < k → labels_height ls ≤ nest → labels_rounds ls ≤ round → nest + round ≤ n → label_start rest ≡ NoLabel
    → turns (λ (s : Piece Labels). label_read (exp_of n) nest round s (label_start s.rest)) k (piece found h (labels_spelling ls ++ rest)) ≡ Ok (piece (append_labels found ls) (max h (labels_height ls)) rest)
labels_turned ls again n zero nest round found h rest long high deep enough end = absurd (omega arith)
labels_turned no_labels again n (suc k) nest round found h rest long high deep enough end =
    let m : h ≡ max h 0 = omega arith in
    turn_last (λ (s : Piece Labels). label_read (exp_of n) nest round s (label_start s.rest)) k (piece found h rest) (piece found h rest) (no_label n nest round (piece found h rest) end)
    ∙ rw (append_no_labels found, ← m) refl
labels_turned (label l ls) again n (suc k) nest round found h rest long high deep enough end =
    let step = λ (s : Piece Labels). label_read (exp_of n) nest round s (label_start s.rest) in
    let m : max (max h (label_height l)) (labels_height ls) ≡ max h (max (label_height l) (labels_height ls)) = omega arith in
    ap (λ (r : List Part). turns step (suc k) (piece found h r)) (append_assoc (label_spelling l) (labels_spelling ls) rest)
    ∙ turn_next step k (piece found h (label_spelling l ++ (labels_spelling ls ++ rest))) (piece (add_label found l) (max h (label_height l)) (labels_spelling ls ++ rest))
    (one_label l again.0 n nest round found h (labels_spelling ls ++ rest) (omega arith) (omega arith) enough)
    ∙ labels_turned ls again.1 n k nest round (add_label found l) (max h (label_height l)) rest (omega arith) (omega arith) (omega arith) enough end
    ∙ rw (append_more_labels found l ls, m) refl

pub labels_again : (ls : Labels) → LabelsAgain ls → (n nest round : ℕ) (rest : List Part) → labels_height ls ≤ nest → labels_rounds ls ≤ round → nest + round ≤ n → label_start rest ≡ NoLabel
    → labels_read (exp_of n) nest round (labels_spelling ls ++ rest) ≡ Ok (piece ls (labels_height ls) rest)
unfolding labels_read
labels_again ls again n nest round rest high deep enough end =
    let m : max 0 (labels_height ls) ≡ labels_height ls = omega arith in
    labels_turned ls again n (length (labels_spelling ls ++ rest) + 1) nest round no_labels 0 rest (omega (arith, labels_long ls, length-append (labels_spelling ls) rest)) high deep enough end
    ∙ ap (λ (g : ℕ). Ok (piece ls g rest)) m

-- ---- names with their constants

abbrev pub EntriesAgain : Entries → Type 0
EntriesAgain no_entries = Unit {0}
EntriesAgain (entry n k es) = PartAgain k × EntriesAgain es

abbrev pub append_entries : Entries → Entries → Entries
append_entries no_entries es = es
append_entries (entry n k ds) es = entry n k (append_entries ds es)

pub append_one_entry : (es : Entries) (n : List ℕ) (k : Exp) → append_entries es (entry n k no_entries) ≡ add_entry es n k
append_one_entry no_entries n k = refl
append_one_entry (entry m j es) n k = ap (λ (r : Entries). entry m j r) (append_one_entry es n k)

pub append_more_entries : (ds : Entries) (n : List ℕ) (k : Exp) (es : Entries) → append_entries (add_entry ds n k) es ≡ append_entries ds (entry n k es)
append_more_entries no_entries n k es = refl
append_more_entries (entry m j ds) n k es = ap (λ (r : Entries). entry m j r) (append_more_entries ds n k es)

abbrev count_entries : Entries → ℕ
count_entries no_entries = 0
count_entries (entry n k es) = count_entries es + 1

entries_long : (s : Symbol) (es : Entries) → count_entries es ≤ length (entries_spelling s es)
entries_long s no_entries = omega arith
entries_long s (entry n k es) = omega (arith, entries_long s es, length-append (part_of k (whole k)) (entries_spelling s es))

sign_read : (s : Storage) (ts : List Part) → constant_sign_of (A (entry_sign s) ∷ ts) ≡ Ok ts
sign_read storage.Manifest ts = refl
sign_read storage.Static ts = refl
sign_read storage.Global ts = refl

last_entry_turn : (s : Storage) (n nest round : ℕ) (p : Piece Entries) (m : List ℕ) (k : Exp) (height : ℕ) (after rest : List Part) → p.rest ≡ Name m ∷ A (entry_sign s) ∷ after → exp_of n nest round 2 after ≡ Ok (piece k height (A sign.CloseSection ∷ rest))
    → entry_turn (exp_of n) nest round p ≡ Ok (piece (add_entry p.tree m k) (max p.height height) rest, true)
unfolding entry_turn entry_read
last_entry_turn s n nest round p m k height after rest is read = rw (is, sign_read s after, read) refl

one_entry_turn : (s : Storage) (n nest round : ℕ) (p : Piece Entries) (m : List ℕ) (k : Exp) (height : ℕ) (after rest : List Part) → p.rest ≡ Name m ∷ A (entry_sign s) ∷ after → exp_of n nest round 2 after ≡ Ok (piece k height (A sign.Semicolon ∷ rest))
    → entry_turn (exp_of n) nest round p ≡ Ok (piece (add_entry p.tree m k) (max p.height height) rest, false)
unfolding entry_turn entry_read
one_entry_turn s n nest round p m k height after rest is read = rw (is, sign_read s after, read) refl

entries_turned : (s : Storage) (es : Entries) → EntriesAgain es → (m : List ℕ) (j : Exp) → PartAgain j → (n k nest round : ℕ) (found : Entries) (h : ℕ) (rest : List Part) → count_entries es < k
    → exp_height j ≤ nest → entries_height es ≤ nest → part_rounds j (exp_rounds j) ≤ round → entries_rounds es ≤ round → nest + round ≤ n
    → turns (entry_turn (exp_of n) nest round) k (piece found h (Name m ∷ A (entry_sign s) ∷ (part_of j (whole j) ++ (entries_spelling (entry_sign s) es ++ A sign.CloseSection ∷ rest))))
    ≡ Ok (piece (append_entries found (entry m j es)) (max h (max (exp_height j) (entries_height es))) rest)
entries_turned s es again m j first n zero nest round found h rest long high high_more deep deep_more enough = absurd (omega arith)
entries_turned s no_entries again m j first n (suc k) nest round found h rest long high high_more deep deep_more enough =
    let g : max h (exp_height j) ≡ max h (max (exp_height j) 0) = omega arith in
    turn_last (entry_turn (exp_of n) nest round) k _ _ (last_entry_turn s n nest round (piece found h _) m j (exp_height j) _ rest refl (first n nest round 2 (A sign.CloseSection ∷ rest) high deep enough refl))
    ∙ rw (append_one_entry found m j, g) refl
entries_turned s (entry i l es) again m j first n (suc k) nest round found h rest long high high_more deep deep_more enough =
    let step = entry_turn (exp_of n) nest round in
    let g : max (max h (exp_height j)) (max (exp_height l) (entries_height es)) ≡ max h (max (exp_height j) (max (exp_height l) (entries_height es))) = omega arith in
    let after : List Part = Name i ∷ A (entry_sign s) ∷ ((part_of l (whole l) ++ entries_spelling (entry_sign s) es) ++ A sign.CloseSection ∷ rest) in
    turn_next step k (piece found h _) (piece (add_entry found m j) (max h (exp_height j)) after)
    (one_entry_turn s n nest round (piece found h _) m j (exp_height j) _ after refl (first n nest round 2 (A sign.Semicolon ∷ after) high deep enough refl))
    ∙ ap (λ (r : List Part). turns step k (piece (add_entry found m j) (max h (exp_height j)) (Name i ∷ A (entry_sign s) ∷ r))) (append_assoc (part_of l (whole l)) (entries_spelling (entry_sign s) es) (A sign.CloseSection ∷ rest))
    ∙ entries_turned s es again.1 i l again.0 n k nest round (add_entry found m j) (max h (exp_height j)) rest (omega arith) (omega arith) (omega arith) (omega arith) (omega arith) enough
    ∙ rw (append_more_entries found m j (entry i l es), g) refl

no_entry_turn : (n nest round : ℕ) (p : Piece Entries) (rest : List Part) → p.rest ≡ A sign.CloseSection ∷ rest → entry_turn (exp_of n) nest round p ≡ Ok (piece p.tree p.height rest, true)
unfolding entry_turn
no_entry_turn n nest round p rest is = rw is refl

pub entries_again : (s : Storage) (es : Entries) → EntriesAgain es → (n nest round : ℕ) (rest : List Part) → entries_height es ≤ nest → entries_rounds es ≤ round → nest + round ≤ n
    → entries_read (exp_of n) nest round (after_first (entries_spelling (entry_sign s) es) ++ A sign.CloseSection ∷ rest) ≡ Ok (piece es (entries_height es) rest)
unfolding entries_read
entries_again s no_entries again n nest round rest high deep enough =
    rw (add-one (suc (length rest)), turn_last (entry_turn (exp_of n) nest round) (suc (length rest)) (piece no_entries 0 (A sign.CloseSection ∷ rest)) (piece no_entries 0 rest) (no_entry_turn n nest round (piece no_entries 0 (A sign.CloseSection ∷ rest)) rest refl)) refl
entries_again s (entry m j es) again n nest round rest high deep enough =
    let ts : List Part = Name m ∷ A (entry_sign s) ∷ (part_of j (whole j) ++ (entries_spelling (entry_sign s) es ++ A sign.CloseSection ∷ rest)) in
    let long : count_entries es < length ts + 1 = omega (arith, entries_long (entry_sign s) es, length-append (part_of j (whole j)) (entries_spelling (entry_sign s) es ++ A sign.CloseSection ∷ rest), length-append (entries_spelling (entry_sign s) es) (A sign.CloseSection ∷ rest)) in
    let g : max 0 (max (exp_height j) (entries_height es)) ≡ max (exp_height j) (entries_height es) = omega arith in
    rw (
      append_assoc (part_of j (whole j)) (entries_spelling (entry_sign s) es) (A sign.CloseSection ∷ rest),
      entries_turned s es again.1 m j again.0 n (length ts + 1) nest round no_entries 0 rest long (omega arith) (omega arith) (omega arith) (omega arith) enough,
      g,
    ) refl
