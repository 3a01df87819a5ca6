-- Spans that meet at most one token: the code skips tokens, and counts none that it skips.
use Rattle.std.proofs.Common.{◌≡◌, ◌∙◌, refl, sym, ap, subst, arith, ℕ, zero, suc, ◌+◌, ◌<◌, ◌≤◌, Bool, true, false, ◌&&◌, cond, List, [], ◌∷◌, length, drop}
use Rattle.std.specs.Prelude.{nat_le, nat_lt, All, IfOk, Result, Ok, Err}
use Rattle.std.specs.List.{prefix_len, filter}
use Rattle.std.proofs.lemmas.Bool.{leb-true, le-leb, le-ltb}
use Rattle.std.proofs.Math.Bool.{and-false}
use Rattle.std.proofs.lemmas.List.Elements.{All-cons, All-nil, All-head, All-tail, filter_passes}
use Rattle.bc_convert.specs.declared.replacement.Replacement.{Replacement}
use Rattle.bc_convert.specs.declared.source.Token.{Token}
use Rattle.bc_convert.specs.Confined.{meets, MeetsAtMostOne, AreConfined, tokens_after, second_begins_after, is_confined}
use Rattle.bc_convert.specs.Settled.{IsSublist, none, kept, left_out}
use Rattle.bc_convert.specs.Spans.{TokensFrom}

prefix_step : (b : Bool) (k : ℕ) (t : Token) (ts skipped : List Token) → skipped ≡ drop k ts → cond b skipped (t ∷ ts) ≡ drop (cond b (1 + k) 0) (t ∷ ts)
prefix_step true k t ts skipped e = let one : suc k ≡ 1 + k = omega arith in e ∙ ap (λ n. drop n (t ∷ ts)) one
prefix_step false k t ts skipped e = refl

-- how many tokens are skipped
pub skips_prefix : (at : ℕ) (ts : List Token) → tokens_after at ts ≡ drop (prefix_len (λ t. nat_le t.end at) ts) ts
skips_prefix at [] = refl
skips_prefix at (t ∷ ts) = prefix_step (nat_le t.end at) (prefix_len (λ u. nat_le u.end at) ts) t ts (tokens_after at ts) (skips_prefix at ts)

again_step : (b : Bool) (at to : ℕ) (t : Token) (ts : List Token) → nat_le t.end at ≡ b → at ≤ to
    → tokens_after to (tokens_after at ts) ≡ tokens_after to ts
    → tokens_after to (cond b (tokens_after at ts) (t ∷ ts)) ≡ tokens_after to (t ∷ ts)
again_step true at to t ts is le e =
    let ends : t.end ≤ at = leb-true t.end at is in
    let later : nat_le t.end to ≡ true = le-leb t.end to (omega arith) in
    e ∙ sym (ap (λ b. cond b (tokens_after to ts) (t ∷ ts)) later)
again_step false at to t ts is le e = refl

-- what is skipped first may be skipped later
pub skips_again : (at to : ℕ) (ts : List Token) → at ≤ to → tokens_after to (tokens_after at ts) ≡ tokens_after to ts
skips_again at to [] le = refl
skips_again at to (t ∷ ts) le = again_step (nat_le t.end at) at to t ts refl le (skips_again at to ts le)

misses_after : (r : Replacement) (t : Token) → r.end ≤ t.start → meets r t ≡ false
misses_after r t h = rw (le-ltb t.start r.end h) refl

misses_before : (r : Replacement) (t : Token) → t.end ≤ r.start → meets r t ≡ false
misses_before r t h = rw (le-ltb r.start t.end h, and-false (nat_lt t.start r.end)) refl

-- a span meets no token after its end
none_met : (text : List ℕ) (at : ℕ) (ts : List Token) (r : Replacement) → TokensFrom text at ts → r.end ≤ at → length (filter (meets r) ts) ≤ 0
none_met text at [] r tokens le = omega arith
none_met text at (t ∷ ts) r tokens le =
    let misses : meets r t ≡ false = misses_after r t (omega (arith, tokens.0)) in
    rw misses (none_met text t.end ts r tokens.3 (omega (arith, tokens.0, tokens.2.0)))

none_later : (text : List ℕ) (at : ℕ) (t : Token) (ts : List Token) (r : Replacement) → TokensFrom text at ts → second_begins_after r.end (t ∷ ts) ≡ true
    → length (filter (meets r) ts) ≤ 0
none_later text at t [] r tokens h = omega arith
none_later text at t (u ∷ us) r tokens h =
    let begins : r.end ≤ u.start = leb-true r.end u.start h in
    let misses : meets r u ≡ false = misses_after r u begins in
    rw misses (none_met text u.end us r tokens.3 (omega (arith, tokens.2.0)))

one_more : (b : Bool) (t : Token) (ts : List Token) → length ts ≤ 0 → length (cond b (t ∷ ts) ts) ≤ 1
one_more true t ts h = omega arith
one_more false t ts h = omega arith

one_step : (b : Bool) (text : List ℕ) (at : ℕ) (t : Token) (ts : List Token) (r : Replacement) → nat_le t.end r.start ≡ b → TokensFrom text at (t ∷ ts)
    → (second_begins_after r.end (tokens_after r.start ts) ≡ true → length (filter (meets r) ts) ≤ 1)
    → second_begins_after r.end (cond b (tokens_after r.start ts) (t ∷ ts)) ≡ true → length (filter (meets r) (t ∷ ts)) ≤ 1
one_step true text at t ts r is tokens rest h = rw (misses_before r t (leb-true t.end r.start is)) (rest h)
one_step false text at t ts r is tokens rest h = one_more (meets r t) t (filter (meets r) ts) (none_later text t.end t ts r tokens.3 h)

-- what the code keeps meets at most one token
pub meets_one : (text : List ℕ) (at : ℕ) (ts : List Token) (r : Replacement) → TokensFrom text at ts → is_confined ts r ≡ true → MeetsAtMostOne ts r
meets_one text at [] r tokens h = omega arith
meets_one text at (t ∷ ts) r tokens h =
    one_step (nat_le t.end r.start) text at t ts r refl tokens (λ k. meets_one text t.end ts r tokens.3 k) h

all_meet_one : (text : List ℕ) (ts : List Token) → TokensFrom text 0 ts → (rs : List Replacement) → All (λ r. is_confined ts r ≡ true) rs → All (MeetsAtMostOne ts) rs
all_meet_one text ts tokens [] h = All-nil (MeetsAtMostOne ts)
all_meet_one text ts tokens (r ∷ rs) h = All-cons (MeetsAtMostOne ts) r rs (meets_one text 0 ts r tokens (All-head (λ q. is_confined ts q ≡ true) r rs h))
    (all_meet_one text ts tokens rs (All-tail (λ q. is_confined ts q ≡ true) r rs h))

-- the candidates that are kept are confined
pub kept_confined : (text : List ℕ) (ts : List Token) (candidates rs : List Replacement) → TokensFrom text 0 ts → rs ≡ filter (is_confined ts) candidates → AreConfined text rs
kept_confined text ts candidates rs tokens e =
    rw e (ts, tokens, all_meet_one text ts tokens (filter (is_confined ts) candidates) (filter_passes (is_confined ts) candidates))

sublist_all : (P : Replacement → Type 0) (rs all : List Replacement) → IsSublist rs all → All P all → All P rs
sublist_all P rs all none h = All-nil P
sublist_all P rs all (kept r qs others s) h = All-cons P r qs (All-head P r others h) (sublist_all P qs others s (All-tail P r others h))
sublist_all P rs all (left_out r qs others s) h = sublist_all P qs others s (All-tail P r others h)

-- some of them are so too
pub some_confined : (text : List ℕ) (rs all : List Replacement) → IsSublist rs all → AreConfined text all → AreConfined text rs
some_confined text rs all s confined = (confined.0, confined.1, sublist_all (MeetsAtMostOne confined.0) rs all s confined.2)

-- what holds of an answer, if something else does
pub if_ok : {T E : Type 0} (r : Result T E) (P Q : T → Type 0) → ((x : T) → P x → Q x) → IfOk r P → IfOk r Q
if_ok (Ok x) P Q f h = f x h
if_ok (Err e) P Q f h = h
