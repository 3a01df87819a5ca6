-- Gaps follow one another, and the code reads them as their definitions say.
use Rattle.std.proofs.Common.{◌≡◌, ◌∙◌, refl, sym, subst, ap, arith, ℕ, suc, ◌+◌, ◌-◌, ◌<◌, ◌≤◌, inl, inr, Bool, true, false, ◌&&◌, ◌||◌, List, [], ◌∷◌, ◌++◌, length, get_or, drop, Option, Some, None, cond, nat_eq, drop-drop, drop-cons, add-one, length-drop, append_assoc, append-nil}
use Rattle.std.proofs.lemmas.Bool.{and_parts, or_cases, eqb-true}
use Rattle.std.proofs.lemmas.List.{drop_all}
use Rattle.bc_convert.specs.declared.source.Token.{Token}
use Rattle.bc_convert.specs.Gaps.{is_space, opens_line, line_of, after_line, begins, begins_line, begins_space, ends_comment, after_comment, GapThen, Nothing, Space, Line, Block}
use Rattle.bc_convert.specs.Spans.{IsTokenAt, TokensFrom}
use Rattle.bc_convert.specs.Tokens.{HasNoGap, IsToken}

-- a gap that is followed by a gap is one
pub gap_then : (a b c : List ℕ) → GapThen a b → GapThen b c → GapThen a c
gap_then a b c (Nothing rest) h = h
gap_then a b c (Space x xs rest e g) h = Space x xs c e (gap_then xs b c g h)
gap_then a b c (Line x xs rest e g) h = Line x xs c e (gap_then (after_line xs) b c g h)
gap_then a b c (Block xs after rest e g) h = Block xs after c e (gap_then after b c g h)

-- one more gap after `at` bytes
pub gap_more : (at n : ℕ) (bytes : List ℕ) → GapThen bytes (drop at bytes) → GapThen (drop at bytes) (drop n (drop at bytes)) → GapThen bytes (drop (at + n) bytes)
gap_more at n bytes g h = gap_then bytes (drop at bytes) (drop (at + n) bytes) g (rw (← drop-drop n at bytes) h)

-- no bytes are a gap
pub gap_end : (at : ℕ) (text : List ℕ) → length text ≤ at → GapThen (drop at text) []
gap_end at text h = rw (drop_all at text h) (Nothing [])

-- a text that ends with a gap is a gap
pub gap_stop : (at n : ℕ) (text : List ℕ) → length text ≤ at + n → GapThen (drop at text) (drop n (drop at text)) → GapThen (drop at text) []
gap_stop at n text h gap =
    let none : drop n (drop at text) ≡ [] = drop-drop n at text ∙ drop_all (at + n) text h in
    subst (λ (zs : List ℕ). GapThen (drop at text) zs) none gap

-- the bytes after the two at the start
begins_two : (x y : ℕ) (bs : List ℕ) → begins x y bs ≡ true → (rest : List ℕ) × (bs ≡ x ∷ y ∷ rest)
begins_two x y [] h = let n : false ≡ true = h in cc
begins_two x y (b ∷ []) h = let n : false ≡ true = h in cc
begins_two x y (b ∷ c ∷ bs) h =
    let p = and_parts (nat_eq b x) (nat_eq c y) h in
    (bs, rw (eqb-true b x p.0, eqb-true c y p.1) refl)

line_at : (x : ℕ) (bs rest : List ℕ) (n : ℕ) → opens_line x ≡ true → bs ≡ x ∷ x ∷ rest → n ≡ line_of (drop 2 bs) → GapThen bs (drop (2 + n) bs)
line_at x bs rest n o e count =
    let tail : drop 2 bs ≡ rest = ap (λ zs. drop 2 zs) e in
    let same : n ≡ line_of rest = count ∙ ap (λ zs. line_of zs) tail in
    let cut : drop (2 + n) bs ≡ after_line rest = sym (drop-drop n 2 bs) ∙ (ap (λ zs. drop n zs) tail ∙ ap (λ m. drop m rest) same) in
    let whole : GapThen (x ∷ x ∷ rest) (after_line rest) = Line x rest (after_line rest) o (Nothing (after_line rest)) in
    subst (λ (zs : List ℕ). GapThen bs zs) (sym cut) (subst (λ (zs : List ℕ). GapThen zs (after_line rest)) (sym e) whole)

line_with : (x : ℕ) (bs : List ℕ) (n : ℕ) → opens_line x ≡ true → begins x x bs ≡ true → n ≡ line_of (drop 2 bs) → GapThen bs (drop (2 + n) bs)
line_with x bs n o h count = let p = begins_two x x bs h in line_at x bs p.0 n o p.1 count

-- a comment to the end of its line is a gap
pub line_gap : (bs : List ℕ) (n : ℕ) → begins_line bs ≡ true → n ≡ line_of (drop 2 bs) → GapThen bs (drop (2 + n) bs)
line_gap bs n h count = elim (or_cases (begins 47 47 bs || begins 124 124 bs) (begins 92 92 bs) h) [
  | inl p ↦ elim (or_cases (begins 47 47 bs) (begins 124 124 bs) p) [
    | inl q ↦ line_with 47 bs n refl q count
    | inr q ↦ line_with 124 bs n refl q count
  ]
  | inr p ↦ line_with 92 bs n refl p count
]

block_at : (bs rest : List ℕ) (n : ℕ) → bs ≡ 47 ∷ 42 ∷ rest → after_comment (drop 2 bs) ≡ Some (drop n (drop 2 bs)) → GapThen bs (drop (2 + n) bs)
block_at bs rest n e found =
    let tail : drop 2 bs ≡ rest = ap (λ zs. drop 2 zs) e in
    let there : after_comment rest ≡ Some (drop n rest) = subst (λ (zs : List ℕ). after_comment zs ≡ Some (drop n zs)) tail found in
    let cut : drop (2 + n) bs ≡ drop n rest = sym (drop-drop n 2 bs) ∙ ap (λ zs. drop n zs) tail in
    let whole : GapThen (47 ∷ 42 ∷ rest) (drop n rest) = Block rest (drop n rest) (drop n rest) there (Nothing (drop n rest)) in
    subst (λ (zs : List ℕ). GapThen bs zs) (sym cut) (subst (λ (zs : List ℕ). GapThen zs (drop n rest)) (sym e) whole)

-- a closed block comment is a gap
pub block_gap : (bs : List ℕ) (n : ℕ) → begins 47 42 bs ≡ true → after_comment (drop 2 bs) ≡ Some (drop n (drop 2 bs)) → GapThen bs (drop (2 + n) bs)
block_gap bs n h found = let p = begins_two 47 42 bs h in block_at bs p.0 n p.1 found

-- a blank is a gap
pub space_gap : (bs : List ℕ) → begins_space bs ≡ true → GapThen bs (drop 1 bs)
space_gap [] h = let n : false ≡ true = h in cc
space_gap (b ∷ bs) h = Space b bs bs h (Nothing bs)

-- where the search finds the end of a comment
pub closes_here : (at : ℕ) (bytes xs : List ℕ) → drop at bytes ≡ xs → ends_comment xs ≡ true → (at + 2 ≤ length bytes) × (after_comment xs ≡ Some (drop (at + 2) bytes))
closes_here at bytes [] e h = let n : false ≡ true = h in cc
closes_here at bytes (x ∷ []) e h = let n : false ≡ true = h in cc
closes_here at bytes (x ∷ y ∷ ys) e h =
    let two : length (drop at bytes) ≡ 2 + length ys = ap length e ∙ omega arith in
    let whole = length-drop at bytes in
    let cut : drop (at + 2) bytes ≡ ys = sym (drop-drop 2 at bytes) ∙ ap (λ zs. drop 2 zs) e in
    (omega (arith, two, whole), rw (h, cut) refl)

-- where it goes on
pub closes_later : (at : ℕ) (bytes : List ℕ) (read : Option (List ℕ)) → at < length bytes → ends_comment (drop at bytes) ≡ false → after_comment (drop at bytes) ≡ read → after_comment (drop (at + 1) bytes) ≡ read
closes_later at bytes read h e r =
    let cut = drop-cons bytes at 0 h in
    let e' : ends_comment (get_or bytes at 0 ∷ drop (suc at) bytes) ≡ false = rw cut at e in
    rw add-one (rw e' at (rw cut at r))

-- no gap begins at the end of the text
pub no_gap_end : (at : ℕ) (text : List ℕ) → length text ≤ at → HasNoGap (drop at text)
no_gap_end at text h = rw (drop_all at text h) (refl, refl, λ e. let n : false ≡ true = e in cc)

-- the token of m bytes after n bytes of a gap
token_at : (text : List ℕ) (at n m : ℕ) (t : Token) → t.start ≡ at + n → t.end ≡ at + n + m → 0 < m → at + n + m ≤ length text → HasNoGap (drop n (drop at text)) → IsToken (drop (at + n) text) m → IsTokenAt text t
token_at text at n m t s e some within begins token =
    let same : m ≡ at + n + m - (at + n) = omega arith in
    let here : HasNoGap (drop (at + n) text) = subst (λ (zs : List ℕ). HasNoGap zs) (drop-drop n at text) begins in
    let long : IsToken (drop (at + n) text) (at + n + m - (at + n)) = subst (λ (k : ℕ). IsToken (drop (at + n) text) k) same token in
    rw (s, e) (omega arith, within, here, long)

-- the tokens up to here and one more
pub token_more : (text : List ℕ) (at n m : ℕ) (tokens new : List Token) (t : Token) → new ≡ tokens ++ (t ∷ []) → t.start ≡ at + n → t.end ≡ at + n + m → ((ts : List Token) → TokensFrom text at ts → TokensFrom text 0 (tokens ++ ts)) → GapThen (drop at text) (drop n (drop at text)) → 0 < m → at + n + m ≤ length text → HasNoGap (drop n (drop at text)) → IsToken (drop (at + n) text) m → (ts : List Token) → TokensFrom text (at + n + m) ts → TokensFrom text 0 (new ++ ts)
token_more text at n m tokens new t added s e before gap some within begins token ts h =
    let here : GapThen (drop at text) (drop t.start text) = subst (λ (zs : List ℕ). GapThen (drop at text) zs) (drop-drop n at text ∙ ap (λ k. drop k text) (sym s)) gap in
    let after : TokensFrom text t.end ts = subst (λ (k : ℕ). TokensFrom text k ts) (sym e) h in
    rw (added, append_assoc) (before (t ∷ ts) (omega arith, here, token_at text at n m t s e some within begins token, after))

-- the tokens up to here are all
pub token_last : (text : List ℕ) (at : ℕ) (tokens : List Token) → ((ts : List Token) → TokensFrom text at ts → TokensFrom text 0 (tokens ++ ts)) → GapThen (drop at text) [] → TokensFrom text 0 tokens
token_last text at tokens before gap = rw append-nil at (before [] gap)
