-- Where the line breaks are: they are inserted into the parts that have none, which makes "due" and "present" an
-- induction.
use Rattle.std.proofs.Common.{◌≡◌, ◌∙◌, ℕ, Bool, true, false, ◌&&◌, cond, List, [], ◌∷◌, ◌++◌, refl, ap, sym, slice_get}
use Rattle.bc_lex_tokens.specs.Token.{Lexeme}
use Rattle.bc_parse_tree.specs.Parts.{NewLine}
use Rattle.bc_parse_defs.specs.Closing.{Placed, begins_command, ends_command, broken}
use Rattle.bc_parse_defs.specs.Lawful.{is_break, without_breaks, line_before, IsOwed, IsBetween}

-- the parts with their line breaks, where `ends` says whether the part before them can end a command
abbrev pub with_breaks : (ℕ → Bool) → Bool → List Placed → List Placed
with_breaks line ends [] = []
with_breaks line ends (q ∷ qs) = broken ends (line q.1) q.0 q.1 ++ with_breaks line (ends_command q.0) qs

-- no part is a line break
abbrev pub Plain : List Placed → Type 0
Plain [] = Unit {0}
Plain (q ∷ qs) = (is_break q.0 ≡ false) × Plain qs

-- whether a line break precedes the token with this index
abbrev pub lines_of : List Lexeme → ℕ → Bool
lines_of ts at = line_before (slice_get ts at)

-- a part, or a line break and the part
abbrev pub put : Bool → Placed → List Placed → List Placed
put b q rest = cond b ((NewLine, q.1) ∷ q ∷ []) (q ∷ []) ++ rest

abbrev pub here : List Lexeme → Placed → Placed → Bool
here ts x q = ends_command x.0 && lines_of ts q.1 && begins_command q.0

all_true : (a b c : Bool) → a ≡ true → b ≡ true → c ≡ true → (a && b && c) ≡ true
all_true a b c p q r = rw (p, q, r) refl

none_owed : (ts : List Lexeme) (b : Bool) (x q left right : Placed) (rest after : List Placed) → here ts x q ≡ b → left ∷ right ∷ after ≡ x ∷ put b q rest → IsOwed ts left right → ⊥
none_owed ts true x q left right rest after is e o =
    let same : right ≡ (NewLine, q.1) = cc in
    let no : false ≡ true = sym (ap (λ (z : Placed). begins_command z.0) same) ∙ o.begins in cc
none_owed ts false x q left right rest after is e o =
    let first : left ≡ x = cc in
    let second : right ≡ q = cc in
    let yes : here ts x q ≡ true =
    all_true (ends_command x.0) (lines_of ts q.1) (begins_command q.0)
    (sym (ap (λ (z : Placed). ends_command z.0) first) ∙ o.ends)
    (sym (ap (λ (z : Placed). lines_of ts z.1) second) ∙ o.line)
    (sym (ap (λ (z : Placed). begins_command z.0) second) ∙ o.begins) in
    let no : false ≡ true = sym is ∙ yes in cc

-- after a first part, no line break is missing between two neighbours
pub stands_where : (ts : List Lexeme) (before : List Placed) (x : Placed) (qs after : List Placed) (left right : Placed)
    → before ++ left ∷ right ∷ after ≡ x ∷ with_breaks (lines_of ts) (ends_command x.0) qs → IsOwed ts left right → ⊥
stands_where ts [] x [] after left right e o = absurd cc
stands_where ts [] x (q ∷ qs) after left right e o =
    none_owed ts (here ts x q) x q left right (with_breaks (lines_of ts) (ends_command q.0) qs) after refl e o
stands_where ts (y ∷ []) x [] after left right e o = absurd cc
stands_where ts (y ∷ z ∷ before) x [] after left right e o = absurd cc
stands_where ts (y ∷ before) x (q ∷ qs) after left right e o =
    go (here ts x q) e (λ h. stands_where ts before (NewLine, q.1) (q ∷ qs) after left right h o) (λ h. stands_where ts before q qs after left right h o)
  where
    go : (b : Bool) → y ∷ (before ++ left ∷ right ∷ after) ≡ x ∷ put b q (with_breaks (lines_of ts) (ends_command q.0) qs)
        → (before ++ left ∷ right ∷ after ≡ (NewLine, q.1) ∷ with_breaks (lines_of ts) false (q ∷ qs) → ⊥)
        → (before ++ left ∷ right ∷ after ≡ q ∷ with_breaks (lines_of ts) (ends_command q.0) qs → ⊥) → ⊥
    go true h broken_here whole = broken_here cc
    go false h broken_here whole = whole cc

both_true : (a b c : Bool) → (a && b && c) ≡ true → (a ≡ true) × (b ≡ true) × (c ≡ true)
both_true true true true e = (refl, refl, refl)
both_true true true false e = absurd cc
both_true true false c e = absurd cc
both_true false b c e = absurd cc

first_break : (ts : List Lexeme) (b : Bool) (x q : Placed) (rest after : List Placed) (at : ℕ) → here ts x q ≡ b → is_break q.0 ≡ false
    → (NewLine, at) ∷ after ≡ put b q rest → IsBetween ts (x ∷ []) at after
first_break ts true x q rest after at is plain e =
    let parts = both_true (ends_command x.0) (lines_of ts q.1) (begins_command q.0) is in
    let same : (NewLine, at) ≡ (NewLine, q.1) = cc in
    record { left = x; right = q; front = []; back = rest; left_is = refl; right_is = cc; index = ap (λ (z : Placed). z.1) (sym same); owed = record { ends = parts.0; begins = parts.2; line = parts.1 } }
first_break ts false x q rest after at is plain e =
    let same : (NewLine, at) ≡ q = cc in
    let no : true ≡ false = ap (λ (z : Placed). is_break z.0) same ∙ plain in absurd cc

more_front : (ts : List Lexeme) (x : Placed) (before : List Placed) (at : ℕ) (after : List Placed) → IsBetween ts before at after → IsBetween ts (x ∷ before) at after
more_front ts x before at after b = record { left = b.left; right = b.right; front = x ∷ b.front; back = b.back; left_is = ap (λ r. x ∷ r) b.left_is; right_is = b.right_is; index = b.index; owed = b.owed }

-- each line break after a first part is between two parts where it is due
pub stands_only : (ts : List Lexeme) (before : List Placed) (x : Placed) (qs after : List Placed) (at : ℕ) → Plain qs
    → before ++ (NewLine, at) ∷ after ≡ with_breaks (lines_of ts) (ends_command x.0) qs → IsBetween ts (x ∷ before) at after
stands_only ts [] x [] after at plain e = absurd cc
stands_only ts (y ∷ before) x [] after at plain e = absurd cc
stands_only ts [] x (q ∷ qs) after at plain e =
    first_break ts (here ts x q) x q (with_breaks (lines_of ts) (ends_command q.0) qs) after at refl plain.0 e
stands_only ts (y ∷ before) x (q ∷ qs) after at plain e =
    go (here ts x q) e (stands_only ts before (NewLine, q.1) (q ∷ qs) after at plain) (stands_only ts before q qs after at plain.1)
  where
    go : (b : Bool) → y ∷ (before ++ (NewLine, at) ∷ after) ≡ put b q (with_breaks (lines_of ts) (ends_command q.0) qs)
        → (before ++ (NewLine, at) ∷ after ≡ with_breaks (lines_of ts) false (q ∷ qs) → IsBetween ts ((NewLine, q.1) ∷ before) at after)
        → (before ++ (NewLine, at) ∷ after ≡ with_breaks (lines_of ts) (ends_command q.0) qs → IsBetween ts (q ∷ before) at after)
        → IsBetween ts (x ∷ y ∷ before) at after
    go true h broken_here whole =
        let same : y ≡ (NewLine, q.1) = cc in
        more_front ts x (y ∷ before) at after (rw same (broken_here cc))
    go false h broken_here whole =
        let same : y ≡ q = cc in
        more_front ts x (y ∷ before) at after (rw same (whole cc))

-- the parts without their line breaks
pub without_them : (line : ℕ → Bool) (ends : Bool) (qs : List Placed) → Plain qs → without_breaks (with_breaks line ends qs) ≡ qs
without_them line ends [] plain = refl
without_them line ends (q ∷ qs) plain = go (ends && line q.1 && begins_command q.0) (without_them line (ends_command q.0) qs plain.1)
  where
    go : (b : Bool) → without_breaks (with_breaks line (ends_command q.0) qs) ≡ qs → without_breaks (put b q (with_breaks line (ends_command q.0) qs)) ≡ q ∷ qs
    go true rest = rw plain.0 (ap (λ r. q ∷ r) rest)
    go false rest = rw plain.0 (ap (λ r. q ∷ r) rest)

-- a first line break would follow no command, so there is none
pub without_first : (ts : List Lexeme) (before : List Placed) (at : ℕ) (after : List Placed) → IsBetween ts ((NewLine, 0) ∷ before) at after → IsBetween ts before at after
without_first ts before at after b = go b.front b.left_is
  where
    go : (front : List Placed) → (NewLine, 0) ∷ before ≡ front ++ b.left ∷ [] → IsBetween ts before at after
    go [] e =
        let same : b.left ≡ (NewLine, 0) = cc in
        let no : false ≡ true = sym (ap (λ (z : Placed). ends_command z.0) same) ∙ b.owed.ends in absurd cc
    go (f ∷ front) e =
        let rest : before ≡ front ++ b.left ∷ [] = cc in
        record { left = b.left; right = b.right; front = front; back = b.back; left_is = rest; right_is = b.right_is; index = b.index; owed = b.owed }
