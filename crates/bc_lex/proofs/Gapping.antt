-- Blanks and comments are read as their definitions say.
use Rattle.std.proofs.Common.{◌≡◌, ◌∙◌, refl, sym, ap, arith, ℕ, zero, suc, ◌+◌, ◌≤◌, ◌⊎◌, inl, inr, Bool, true, false, not, ◌&&◌, List, [], ◌∷◌, ◌++◌, length, take, drop, Option, Some, None, option_map, Result, Ok, Err, cond, nat_eq, append_assoc, take-append-drop}
use Rattle.std.specs.Prelude.{codes}
use Rattle.std.specs.List.{list_all, prefix_len}
use Rattle.std.proofs.lemmas.Bool.{ne_eqb, eqb-true, and_parts, or_parts, or_cases, not-true, not-false, both_ways, false_from_ne_true}
use Rattle.bc_lex.specs.declared.fault.Fault.{Fault}
use Rattle.bc_lex.specs.declared.fault.FaultKind.TheVariants as faults
use Rattle.bc_lex.specs.Bytes.{is_space}
use Rattle.bc_lex.specs.Gaps.{Holds, breaks, AtLineEnd, begins, opens_line, opens_block, IsBlank, Space, Line, Block, IsGap, Nothing, More}
use Rattle.bc_lex.specs.Lexemes.{Ends}
use Rattle.bc_lex.specs.Reading.{fault_at}
use Rattle.bc_lex.specs.Blank.{ends_comment, closing_from, line_of, blank_of, gap_from, gap_on, gap_of}
use Rattle.bc_lex.proofs.Runs.{run_sound, run_length, run_complete, drop-front, length-append_ℕ}

-- the end of a block comment
abbrev sign : List ℕ
sign = codes "*/"

no_empty : (front back : List ℕ) → [] ≡ front ++ (sign ++ back) → ⊥
no_empty [] back e = cc
no_empty (x ∷ front) back e = cc

-- a part occurs at the start or after it
holds_cases : (b : ℕ) (bs : List ℕ) → Holds sign (b ∷ bs) → ((b ≡ 42) × (begins 47 bs ≡ true)) ⊎ Holds sign bs
holds_cases b bs ([], back, e) =
    let b_is : b ≡ 42 = cc in
    let bs_is : bs ≡ 47 ∷ back = cc in
    inl (b_is, rw bs_is refl)
holds_cases b bs (x ∷ front, back, e) = let tail : bs ≡ front ++ (sign ++ back) = cc in inr (front, back, tail)

holds_here : (b : ℕ) (bs : List ℕ) → (b ≡ 42) → (begins 47 bs ≡ true) → Holds sign (b ∷ bs)
holds_here b [] e h = let n : false ≡ true = h in cc
holds_here b (c ∷ bs) e h = let f : c ≡ 47 = eqb-true c 47 h in rw (e, f) ([], bs, refl)

holds_more : (b : ℕ) (bs : List ℕ) → Holds sign bs → Holds sign (b ∷ bs)
holds_more b bs (front, back, e) = (b ∷ front, back, ap (λ ys. b ∷ ys) e)

no_sign_in_star : Holds sign (42 ∷ []) → ⊥
no_sign_in_star h = elim (holds_cases 42 [] h) [ inl p ↦ (let n : false ≡ true = p.1 in cc) | inr (front, back, e) ↦ no_empty front back e ]

begins_same : (text rest : List ℕ) → begins 47 (text ++ (sign ++ rest)) ≡ begins 47 (text ++ codes "*")
begins_same [] rest = refl
begins_same (c ∷ text) rest = refl

begins_is : (x : ℕ) (bs : List ℕ) → begins x bs ≡ true → (rest : List ℕ) × (bs ≡ x ∷ rest)
begins_is x [] h = let n : false ≡ true = h in cc
begins_is x (c ∷ bs) h = (bs, ap (λ n. n ∷ bs) (eqb-true c x h))

ends_parts : (b : ℕ) (bs : List ℕ) → ends_comment (b ∷ bs) ≡ true → (b ≡ 42) × (begins 47 bs ≡ true)
ends_parts b bs h = let p = and_parts (nat_eq b 42) (begins 47 bs) h in (eqb-true b 42 p.0, p.1)

clash : (b : ℕ) (bs : List ℕ) → ends_comment (b ∷ bs) ≡ false → b ≡ 42 → begins 47 bs ≡ true → ⊥
clash b bs f e h = let t : ends_comment (b ∷ bs) ≡ true = rw (e, h) refl in both_ways (ends_comment (b ∷ bs)) f t

-- the possible results of the search for the end of a block comment
pub data ClosingRead (at : ℕ) (bs : List ℕ) : Option ℕ → Type 0 where
  Found : (text rest : List ℕ) (n : ℕ) → bs ≡ text ++ (sign ++ rest) → (Holds sign (text ++ codes "*") → ⊥) → n ≡ at + length text + 2 → ClosingRead at bs (Some n)
  Open : (Holds sign bs → ⊥) → ClosingRead at bs None

closing_prepend : (at b : ℕ) (bs : List ℕ) (read : Option ℕ) → ends_comment (b ∷ bs) ≡ false → ClosingRead (at + 1) bs read → ClosingRead at (b ∷ bs) read
closing_prepend at b bs read apart (Found text rest n e h n_is) =
    Found (b ∷ text) rest n (ap (λ ys. b ∷ ys) e)
    (λ held. elim (holds_cases b (text ++ codes "*") held) [ inl p ↦ clash b bs apart p.0 (rw (e, begins_same text rest) p.1) | inr q ↦ h q ])
    (omega arith)
closing_prepend at b bs read apart (Open h) =
    Open (λ held. elim (holds_cases b bs held) [ inl p ↦ clash b bs apart p.0 p.1 | inr q ↦ h q ])

closing_step : (at b : ℕ) (bs : List ℕ) (t : Bool) → ends_comment (b ∷ bs) ≡ t → ClosingRead (at + 1) bs (closing_from (at + 1) bs) → ClosingRead at (b ∷ bs) (cond t (Some (at + 2)) (closing_from (at + 1) bs))
closing_step at b bs true e ih =
    let p = ends_parts b bs e in
    let q = begins_is 47 bs p.1 in
    Found [] q.0 (at + 2) (ap (λ x. x ∷ bs) p.0 ∙ ap (λ ys. 42 ∷ ys) q.1) no_sign_in_star (omega arith)
closing_step at b bs false e ih = closing_prepend at b bs (closing_from (at + 1) bs) e ih

pub closing_reads : (at : ℕ) (bs : List ℕ) → ClosingRead at bs (closing_from at bs)
closing_reads at [] = Open (λ held. no_empty held.0 held.1 held.2)
closing_reads at (b ∷ bs) = closing_step at b bs (ends_comment (b ∷ bs)) refl (closing_reads (at + 1) bs)

closing_found : (at : ℕ) (text rest : List ℕ) → (Holds sign (text ++ codes "*") → ⊥) → closing_from at (text ++ (sign ++ rest)) ≡ Some (at + length text + 2)
closing_found at [] rest h = ap Some (omega arith)
closing_found at (b ∷ text) rest h =
    let apart : ends_comment (b ∷ (text ++ (sign ++ rest))) ≡ false =
    false_from_ne_true (ends_comment (b ∷ (text ++ (sign ++ rest)))) (λ t. let p = ends_parts b (text ++ (sign ++ rest)) t in h (holds_here b (text ++ codes "*") p.0 (rw (← begins_same text rest) p.1))) in
    let ih = closing_found (at + 1) text rest (λ q. h (holds_more b (text ++ codes "*") q)) in
    let s : at + 1 + length text + 2 ≡ at + length (b ∷ text) + 2 = omega arith in
    rw apart (ih ∙ ap Some s)

closing_open : (at : ℕ) (bs : List ℕ) → (Holds sign bs → ⊥) → closing_from at bs ≡ None
closing_open at [] h = refl
closing_open at (b ∷ bs) h =
    let apart : ends_comment (b ∷ bs) ≡ false =
    false_from_ne_true (ends_comment (b ∷ bs)) (λ t. let p = ends_parts b bs t in h (holds_here b bs p.0 p.1)) in
    rw apart (closing_open (at + 1) bs (λ q. h (holds_more b bs q)))

-- a list begins with no blank and no comment
abbrev pub NoBlank : List ℕ → Type 0
NoBlank [] = Unit {0}
NoBlank (b ∷ bs) = (is_space b ≡ false) × (opens_line (b ∷ bs) ≡ false) × (opens_block (b ∷ bs) ≡ false)

-- what is at the start
pub data BlankRead (bs : List ℕ) : Option ℕ → Type 0 where
  Stands : (text rest : List ℕ) (n : ℕ) → bs ≡ text ++ rest → IsBlank text rest → n ≡ length text → 1 ≤ n → BlankRead bs (Some n)
  Absent : NoBlank bs → BlankRead bs (Some 0)
  Unclosed : (text : List ℕ) → bs ≡ codes "/*" ++ text → (Holds sign text → ⊥) → BlankRead bs None

no_breaks : (text : List ℕ) → list_all (λ b. not (nat_eq b 10)) text ≡ true → breaks text ≡ false
no_breaks [] h = refl
no_breaks (b ∷ bs) h =
    let p = and_parts (not (nat_eq b 10)) (list_all (λ c. not (nat_eq c 10)) bs) h in
    rw (not-true (nat_eq b 10) p.0) (no_breaks bs p.1)

all_lines : (text : List ℕ) → breaks text ≡ false → list_all (λ b. not (nat_eq b 10)) text ≡ true
all_lines [] h = refl
all_lines (b ∷ bs) h =
    let p = or_parts (nat_eq b 10) (breaks bs) h in
    rw p.0 (all_lines bs p.1)

line_end : (after : List ℕ) → Ends (λ b. not (nat_eq b 10)) after → AtLineEnd after
line_end [] h = tt
line_end (b ∷ bs) h = eqb-true b 10 (not-false (nat_eq b 10) h)

end_line : (after : List ℕ) → AtLineEnd after → Ends (λ b. not (nat_eq b 10)) after
end_line [] h = tt
end_line (b ∷ bs) h = rw h refl

no_opening : (b : ℕ) → opens_line (b ∷ []) ≡ true → ⊥
no_opening b h = elim (or_cases (nat_eq b 47 && false) (nat_eq b 124 && false) h) [
  | inl p ↦ (let n : false ≡ true = (and_parts (nat_eq b 47) false p).1 in cc)
  | inr p ↦ (let n : false ≡ true = (and_parts (nat_eq b 124) false p).1 in cc)
]

blank_line : (b : ℕ) (bs : List ℕ) → opens_line (b ∷ bs) ≡ true → BlankRead (b ∷ bs) (Some (2 + line_of (drop 1 bs)))
blank_line b [] h = absurd (no_opening b h)
blank_line b (c ∷ bs) h =
    let p = run_sound (λ x. not (nat_eq x 10)) bs in
    let n = line_of bs in
    Stands (b ∷ c ∷ take n bs) (drop n bs) (2 + n) (ap (λ ys. b ∷ c ∷ ys) (sym (take-append-drop n bs)))
    (Line b c (take n bs) (drop n bs) h (no_breaks (take n bs) p.0) (line_end (drop n bs) p.1))
    (let e : length (take n bs) ≡ n = run_length (λ x. not (nat_eq x 10)) bs in omega arith)
    (omega arith)

closed_read : (b : ℕ) (bs rest : List ℕ) (read : Option ℕ) → b ≡ 47 → bs ≡ 42 ∷ rest → ClosingRead 0 rest read → BlankRead (b ∷ bs) (option_map (λ n. 2 + n) read)
closed_read b bs rest read b_is bs_is (Found text after n e h n_is) =
    Stands (codes "/*" ++ (text ++ sign)) after (2 + n)
    (rw (b_is, bs_is, e) (ap (λ ys. 47 ∷ 42 ∷ ys) (sym (append_assoc text sign after))))
    (Block text after h)
    (let l : length (text ++ sign) ≡ length text + 2 = length-append_ℕ text sign in omega arith)
    (omega arith)
closed_read b bs rest read b_is bs_is (Open h) = Unclosed rest (rw (b_is, bs_is) refl) h

blank_block : (b : ℕ) (bs : List ℕ) → opens_block (b ∷ bs) ≡ true → BlankRead (b ∷ bs) (option_map (λ n. 2 + n) (closing_from 0 (drop 1 bs)))
blank_block b bs h =
    let p = and_parts (nat_eq b 47) (begins 42 bs) h in
    let q = begins_is 42 bs p.1 in
    let cut : drop 1 bs ≡ q.0 = ap (λ ys. drop 1 ys) q.1 in
    rw cut (closed_read b bs q.0 (closing_from 0 q.0) (eqb-true b 47 p.0) q.1 (closing_reads 0 q.0))

blank_space : (b : ℕ) (bs : List ℕ) (t : Bool) → is_space b ≡ t → opens_line (b ∷ bs) ≡ false → opens_block (b ∷ bs) ≡ false → BlankRead (b ∷ bs) (cond t (Some 1) (Some 0))
blank_space b bs true e l k = Stands (b ∷ []) bs 1 refl (Space b bs e) refl (omega arith)
blank_space b bs false e l k = Absent (e, l, k)

blank_no_line : (b : ℕ) (bs : List ℕ) (t : Bool) → opens_block (b ∷ bs) ≡ t → opens_line (b ∷ bs) ≡ false → BlankRead (b ∷ bs) (cond t (option_map (λ n. 2 + n) (closing_from 0 (drop 1 bs))) (cond (is_space b) (Some 1) (Some 0)))
blank_no_line b bs true e l = blank_block b bs e
blank_no_line b bs false e l = blank_space b bs (is_space b) refl l e

blank_any : (b : ℕ) (bs : List ℕ) (t : Bool) → opens_line (b ∷ bs) ≡ t → BlankRead (b ∷ bs) (cond t (Some (2 + line_of (drop 1 bs))) (cond (opens_block (b ∷ bs)) (option_map (λ n. 2 + n) (closing_from 0 (drop 1 bs))) (cond (is_space b) (Some 1) (Some 0))))
blank_any b bs true e = blank_line b bs e
blank_any b bs false e = blank_no_line b bs (opens_block (b ∷ bs)) refl e

pub blank_reads : (bs : List ℕ) → BlankRead bs (blank_of bs)
blank_reads [] = Absent tt
blank_reads (b ∷ bs) = blank_any b bs (opens_line (b ∷ bs)) refl

space_apart : (b c : ℕ) → is_space b ≡ true → is_space c ≡ false → nat_eq b c ≡ false
space_apart b c h n = false_from_ne_true (nat_eq b c) (λ t. both_ways (is_space c) n (rw (eqb-true b c t) at h))

blank_complete : (text after : List ℕ) → IsBlank text after → blank_of (text ++ after) ≡ Some (length text)
blank_complete text after (Space b rest h) = rw (space_apart b 47 h refl, space_apart b 124 h refl, h) refl
blank_complete text after (Line b c line rest h e l) =
    let n : prefix_len (λ x. not (nat_eq x 10)) (line ++ rest) ≡ length line = run_complete (λ x. not (nat_eq x 10)) line rest (all_lines line e) (end_line rest l) in
    rw (h, n) (ap Some (omega arith))
blank_complete text after (Block body rest h) =
    let l : length (body ++ sign) ≡ length body + 2 = length-append_ℕ body sign in
    rw (append_assoc body sign rest, closing_found 0 body rest h) (ap Some (omega arith))

pub blank_none : (bs : List ℕ) → NoBlank bs → blank_of bs ≡ Some 0
blank_none [] h = refl
blank_none (b ∷ bs) h = rw (h.1, h.2, h.0) refl

blank_positive : (text after : List ℕ) → IsBlank text after → 1 ≤ length text
blank_positive text after (Space b rest h) = omega arith
blank_positive text after (Line b c line rest h e l) = omega arith
blank_positive text after (Block body rest h) = omega arith

-- the possible results of reading blanks
pub data GapRead (at : ℕ) (bs : List ℕ) : Result ℕ Fault → Type 0 where
  Whole : (gap rest : List ℕ) (n : ℕ) → bs ≡ gap ++ rest → IsGap gap rest → NoBlank rest → n ≡ at + length gap → GapRead at bs (Ok n)
  Cut : (gap text : List ℕ) (n : ℕ) → bs ≡ gap ++ (codes "/*" ++ text) → IsGap gap (codes "/*" ++ text) → (Holds sign text → ⊥) → n ≡ at + length gap → GapRead at bs (Err (fault_at faults.Unterminated n))

gap_prepend : (at n : ℕ) (bs text rest : List ℕ) (read : Result ℕ Fault) → bs ≡ text ++ rest → IsBlank text rest → n ≡ length text → GapRead (at + n) rest read → GapRead at bs read
gap_prepend at n bs text rest read e b n_is (Whole gap after m e' g no_blank m_is) =
    let b' : IsBlank text (gap ++ after) = rw e' at b in
    Whole (text ++ gap) after m (e ∙ ap (λ ys. text ++ ys) e' ∙ sym (append_assoc text gap after)) (More text gap after b' g) no_blank (omega (arith, length-append_ℕ text gap))
gap_prepend at n bs text rest read e b n_is (Cut gap after m e' g unclosed m_is) =
    let b' : IsBlank text (gap ++ (codes "/*" ++ after)) = rw e' at b in
    Cut (text ++ gap) after m (e ∙ ap (λ ys. text ++ ys) e' ∙ sym (append_assoc text gap (codes "/*" ++ after))) (More text gap (codes "/*" ++ after) b' g) unclosed (omega (arith, length-append_ℕ text gap))

gap_turn_reads : (k at : ℕ) (bs : List ℕ) (read : Option ℕ) → length bs ≤ suc k → ((place : ℕ) (rest : List ℕ) → length rest ≤ k → GapRead place rest (gap_from k place rest)) → BlankRead bs read → GapRead at bs (gap_on (gap_from k) at bs read)
gap_turn_reads k at bs read h again (Stands text rest n e b n_is some) =
    let ne : nat_eq n 0 ≡ false = ne_eqb n 0 (λ z. omega arith) in
    let cut : drop n bs ≡ rest = rw (e, n_is) (drop-front text rest) in
    let l : length bs ≡ length text + length rest = ap length e ∙ length-append_ℕ text rest in
    rw (ne, cut) (gap_prepend at n bs text rest (gap_from k (at + n) rest) e b n_is (again (at + n) rest (omega arith)))
gap_turn_reads k at bs read h again (Absent no_blank) = Whole [] bs at refl (Nothing bs) no_blank (omega arith)
gap_turn_reads k at bs read h again (Unclosed text e unclosed) = Cut [] text at e (Nothing (codes "/*" ++ text)) unclosed (omega arith)

pub gap_from_reads : (k at : ℕ) (bs : List ℕ) → length bs ≤ k → GapRead at bs (gap_from k at bs)
gap_from_reads zero at [] h = Whole [] [] at refl (Nothing []) tt (omega arith)
gap_from_reads zero at (b ∷ bs) h = absurd (omega arith)
gap_from_reads (suc k) at bs h = gap_turn_reads k at bs (blank_of bs) h (gap_from_reads k) (blank_reads bs)

pub gap_reads : (bs : List ℕ) → GapRead 0 bs (gap_of bs)
unfolding gap_of
gap_reads bs = gap_from_reads (length bs) 0 bs (omega arith)

gap_skips : (gap rest : List ℕ) → IsGap gap rest → (k at : ℕ) → length (gap ++ rest) ≤ k → (j : ℕ) × (length rest ≤ j) × (gap_from k at (gap ++ rest) ≡ gap_from j (at + length gap) rest)
gap_skips gap rest (Nothing after) k at h = (k, h, let z : at + 0 ≡ at = omega arith in rw z refl)
gap_skips gap rest (More blank others after b g) zero at h =
    let p = blank_positive blank (others ++ after) b in
    let l : length ((blank ++ others) ++ after) ≡ length (blank ++ others) + length after = length-append_ℕ (blank ++ others) after in
    let l' : length (blank ++ others) ≡ length blank + length others = length-append_ℕ blank others in
    absurd (omega arith)
gap_skips gap rest (More blank others after b g) (suc k) at h =
    let p = blank_positive blank (others ++ after) b in
    let same : (blank ++ others) ++ after ≡ blank ++ (others ++ after) = append_assoc blank others after in
    let l : length (blank ++ (others ++ after)) ≡ length blank + length (others ++ after) = length-append_ℕ blank (others ++ after) in
    let l' : length (blank ++ others) ≡ length blank + length others = length-append_ℕ blank others in
    let same_length : length ((blank ++ others) ++ after) ≡ length (blank ++ (others ++ after)) = ap length same in
    let ih = gap_skips others after g k (at + length blank) (omega arith) in
    let ne : nat_eq (length blank) 0 ≡ false = ne_eqb (length blank) 0 (λ z. omega arith) in
    let turn : gap_from (suc k) at (blank ++ (others ++ after)) ≡ gap_from k (at + length blank) (others ++ after) =
    ap (λ q. gap_on (gap_from k) at (blank ++ (others ++ after)) q) (blank_complete blank (others ++ after) b) ∙ rw (ne, drop-front blank (others ++ after)) refl in
    let sums : at + length blank + length others ≡ at + length (blank ++ others) = omega arith in
    (ih.0, ih.1, ap (λ ys. gap_from (suc k) at ys) same ∙ turn ∙ ih.2 ∙ ap (λ n. gap_from ih.0 n after) sums)

gap_stops : (j at : ℕ) (rest : List ℕ) → NoBlank rest → gap_from j at rest ≡ Ok at
gap_stops zero at rest h = refl
gap_stops (suc j) at rest h = rw (blank_none rest h) refl

gap_open : (j at : ℕ) (text : List ℕ) → length (codes "/*" ++ text) ≤ j → (Holds sign text → ⊥) → gap_from j at (codes "/*" ++ text) ≡ Err (fault_at faults.Unterminated at)
gap_open zero at text h unclosed = absurd (omega arith)
gap_open (suc j) at text h unclosed = rw (closing_open 0 text unclosed) refl

pub gap_whole : (gap rest : List ℕ) → IsGap gap rest → NoBlank rest → gap_of (gap ++ rest) ≡ Ok (length gap)
unfolding gap_of
gap_whole gap rest g h =
    let s = gap_skips gap rest g (length (gap ++ rest)) 0 (omega arith) in
    let z : 0 + length gap ≡ length gap = omega arith in
    s.2 ∙ gap_stops s.0 (0 + length gap) rest h ∙ ap Ok z

pub gap_cut : (gap text : List ℕ) → IsGap gap (codes "/*" ++ text) → (Holds sign text → ⊥) → gap_of (gap ++ (codes "/*" ++ text)) ≡ Err (fault_at faults.Unterminated (length gap))
unfolding gap_of
gap_cut gap text g unclosed =
    let s = gap_skips gap (codes "/*" ++ text) g (length (gap ++ (codes "/*" ++ text))) 0 (omega arith) in
    let z : 0 + length gap ≡ length gap = omega arith in
    s.2 ∙ gap_open s.0 (0 + length gap) text s.1 unclosed ∙ ap (λ n. Err (fault_at faults.Unterminated n)) z
