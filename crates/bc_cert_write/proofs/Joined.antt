-- Concatenations of many pieces of text, grouped as the program and as the definitions group them.
use Rattle.std.proofs.Common.{◌≡◌, ℕ, ◌+◌, ◌<◌, ◌≤◌, List, [], ◌∷◌, ◌++◌, length, get_or, drop, refl, ap, sym, ◌∙◌, add-one, append_assoc, append-nil, drop-cons}
use Rattle.std.proofs.lemmas.List.{drop_all}
use Rattle.bc_select.specs.declared.row.Row.{Row}
use Rattle.bc_cert_write.specs.declared.mark.NodeMark.{NodeMark}
use Rattle.bc_cert_write.specs.Printed.{mark_line, mark_lines}

-- six pieces
pub of_five : (t0 t1 t2 t3 t4 t5 t6 a b c d e z : List ℕ) → t1 ≡ t0 ++ a → t2 ≡ t1 ++ b → t3 ≡ t2 ++ c → t4 ≡ t3 ++ d → t5 ≡ t4 ++ e → t6 ≡ t5 ++ z → t6 ≡ t0 ++ (a ++ (b ++ (c ++ (d ++ (e ++ z)))))
of_five t0 t1 t2 t3 t4 t5 t6 a b c d e z h1 h2 h3 h4 h5 h6 =
    h6 ∙ ap (λ l. l ++ z) (h5 ∙ ap (λ l. l ++ e) (h4 ∙ ap (λ l. l ++ d) (h3 ∙ ap (λ l. l ++ c) (h2 ∙ ap (λ l. l ++ b) h1)))) ∙ simp append_assoc

-- two more pieces before them
pub of_seven : (t0 t1 t2 t3 t4 t5 t6 t7 t8 a b c d e f g z : List ℕ) → t1 ≡ t0 ++ a → t2 ≡ t1 ++ b → t3 ≡ t2 ++ c → t4 ≡ t3 ++ d → t5 ≡ t4 ++ e → t6 ≡ t5 ++ f → t7 ≡ t6 ++ g → t8 ≡ t7 ++ z
    → t8 ≡ t0 ++ (a ++ (b ++ (c ++ (d ++ (e ++ (f ++ (g ++ z)))))))
of_seven t0 t1 t2 t3 t4 t5 t6 t7 t8 a b c d e f g z h1 h2 h3 h4 h5 h6 h7 h8 =
    of_five t2 t3 t4 t5 t6 t7 t8 c d e f g z h3 h4 h5 h6 h7 h8
    ∙ ap (λ l. l ++ (c ++ (d ++ (e ++ (f ++ (g ++ z)))))) (h2 ∙ ap (λ l. l ++ b) h1) ∙ simp append_assoc

pub of_two : (t0 t1 t2 t3 a b z : List ℕ) → t1 ≡ t0 ++ a → t2 ≡ t1 ++ b → t3 ≡ t2 ++ z → t3 ≡ t0 ++ (a ++ (b ++ z))
of_two t0 t1 t2 t3 a b z h1 h2 h3 = h3 ∙ ap (λ l. l ++ z) (h2 ∙ ap (λ l. l ++ b) h1) ∙ simp append_assoc

-- the line of the i-th node follows those of the nodes before it
next_lines : (ms : List NodeMark) (rows : List Row) (i : ℕ) (d : NodeMark) (q : Row) → i < length ms → i < length rows
    → mark_lines (drop i ms) (drop i rows) ≡ mark_line (get_or ms i d) (get_or rows i q) ++ mark_lines (drop (i + 1) ms) (drop (i + 1) rows)
next_lines ms rows i d q h k =
    let m = get_or ms i d in let r = get_or rows i q in
    let a : drop i ms ≡ m ∷ drop (i + 1) ms = drop-cons ms i d h ∙ ap (λ n. m ∷ drop n ms) (sym (add-one i)) in
    let b : drop i rows ≡ r ∷ drop (i + 1) rows = drop-cons rows i q k ∙ ap (λ n. r ∷ drop n rows) (sym (add-one i)) in
    ap (λ l. mark_lines l (drop i rows)) a ∙ ap (λ l. mark_lines (m ∷ drop (i + 1) ms) l) b

pub lines_more : (now new whole : List ℕ) (ms : List NodeMark) (rows : List Row) (i : ℕ) (d : NodeMark) (q : Row) → i < length ms → i < length rows
    → new ≡ now ++ mark_line (get_or ms i d) (get_or rows i q) → now ++ mark_lines (drop i ms) (drop i rows) ≡ whole → new ++ mark_lines (drop (i + 1) ms) (drop (i + 1) rows) ≡ whole
lines_more now new whole ms rows i d q h k news so_far =
    ap (λ l. l ++ mark_lines (drop (i + 1) ms) (drop (i + 1) rows)) news ∙ append_assoc now _ _ ∙ ap (λ l. now ++ l) (sym (next_lines ms rows i d q h k)) ∙ so_far

no_rows : (ms : List NodeMark) → mark_lines ms [] ≡ []
no_rows [] = refl
no_rows (m ∷ ms) = refl

pub lines_over : (now whole : List ℕ) (ms : List NodeMark) (rows : List Row) (i : ℕ) → length rows ≤ i → now ++ mark_lines (drop i ms) (drop i rows) ≡ whole → now ≡ whole
lines_over now whole ms rows i h so_far =
    sym (append-nil now) ∙ ap (λ l. now ++ l) (sym (ap (mark_lines (drop i ms)) (drop_all i rows h) ∙ no_rows (drop i ms))) ∙ so_far
