-- A fact about all marks in code holds of its entries.
use Rattle.std.proofs.Common.{ℕ, ◌+◌, List, [], ◌∷◌, ◌++◌, map}
use Rattle.std.specs.List.{AllByRecursion}
use Rattle.bc_core.specs.Commands.{Items, no_item, command, case, default, label}
use Rattle.bc_core.specs.Tree.{Root}
use Rattle.bc_rules_defs.specs.Entry.{Entry}
use Rattle.bc_gen_defs.specs.Emit.{table_of}
use Rattle.bc_gen_defs.specs.Entries.{Mark, Marked, Plain, Begins, entry_at, entries_from}

abbrev pub AllMarks : (Mark → Type 0) → List Marked → Type 0
AllMarks P [] = Unit {0}
AllMarks P (Plain i ∷ ps) = AllMarks P ps
AllMarks P (Begins m ∷ ps) = P m × AllMarks P ps

pub marks_both : (P : Mark → Type 0) (xs ys : List Marked) → AllMarks P xs → AllMarks P ys → AllMarks P (xs ++ ys)
marks_both P [] ys h k = k
marks_both P (Plain i ∷ xs) ys h k = marks_both P xs ys h k
marks_both P (Begins m ∷ xs) ys h k = (h.0, marks_both P xs ys h.1 k)

-- a table has no marks
pub table_marks : (P : Mark → Type 0) (is : Items) (first : ℕ) → AllMarks P (table_of Plain is first)
table_marks P no_item first = tt
table_marks P (command c is) first = table_marks P is first
table_marks P (case v is) first = table_marks P is (first + 1)
table_marks P (default is) first = table_marks P is (first + 1)
table_marks P (label l is) first = table_marks P is first

pub entries_of_marks : (P : Mark → Type 0) (Q : Entry → Type 0) → ((k : ℕ) (m : Mark) → P m → Q (entry_at k m)) → (k : ℕ) (ps : List Marked) → AllMarks P ps → AllByRecursion Q (entries_from k ps)
entries_of_marks P Q f k [] h = tt
entries_of_marks P Q f k (Plain i ∷ ps) h = entries_of_marks P Q f (k + 1) ps h
entries_of_marks P Q f k (Begins m ∷ ps) h = (f k m h.0, entries_of_marks P Q f k ps h.1)

pub roots_of_entries : (P : Root → Type 0) (es : List Entry) → AllByRecursion (λ (e : Entry). P e.root) es → AllByRecursion P (map (λ (e : Entry). e.root) es)
roots_of_entries P [] h = tt
roots_of_entries P (e ∷ es) h = (h.0, roots_of_entries P es h.1)
