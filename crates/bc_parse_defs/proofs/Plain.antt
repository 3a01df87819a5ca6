-- A closed list is what `Lawful` says. One token is taken after another; each step keeps the parts without line
-- breaks, the repetition of closing brackets, and the balance.
use Rattle.std.proofs.Common.{◌≡◌, ◌∙◌, ℕ, zero, suc, ◌+◌, Bool, true, false, ◌&&◌, cond, List, [], ◌∷◌, ◌++◌, length, Option, Some, None, Ok, refl, ap, sym, subst, arith, slice_get, append_assoc, length-append}
use Rattle.std.specs.Prelude.{replicate}
use Rattle.bc_lex_tokens.specs.declared.symbol.Symbol.TheVariants as sign
use Rattle.bc_lex_tokens.specs.Token.{Kind, Lexeme}
use Rattle.bc_lex_tokens.specs.Token as token
use Rattle.bc_parse_tree.specs.Parts.{Part, A, NewLine}
use Rattle.bc_parse_defs.specs.Closing.{Step, Placed, Stays, role_of, step_by, token_step, closing, one_more, is_matched, closes, tag_of, kind_part, begins_command, ends_command, broken, closed, closed_list, parts_in}
use Rattle.bc_parse_defs.specs.Lawful.{placed_from, is_break, is_bracket, RepeatsClosings, nothing, kept, again, Balanced, nothing_open, opens, passes, line_before, IsClosedList}
use Rattle.bc_parse_defs.specs.Lawful as lawful
use Rattle.bc_parse_defs.proofs.Weights.{Yields, then, from_yields}
use Rattle.bc_parse_defs.proofs.Breaks.{with_breaks, Plain, lines_of, stands_where, stands_only, without_them, without_first}

-- the list has a line break before the tokens for which these say so
abbrev Lines : (ℕ → Bool) → ℕ → List Lexeme → Type 0
Lines line at [] = Unit {0}
Lines line at (t ∷ ts) = (line at ≡ t.line_before) × Lines line (at + 1) ts

-- the list, with the parts that it consists of
record IsMade (line : ℕ → Bool) (at n : ℕ) (ends : Bool) (ts : List Lexeme) (ps : List Placed) : Type 0 where
  qs : List Placed
  breaks : ps ≡ with_breaks line ends qs
  plain : Plain qs
  tokens : RepeatsClosings (placed_from at ts) qs
  brackets : Balanced n (parts_in ps)

-- a kind of token that is no section bracket, and each of the two that are
data Case : Kind → Type 0 where
  opening : Case (token.Sign sign.OpenSection)
  closer : Case (token.Sign sign.CloseSection)
  other : {k : Kind} → role_of k ≡ Stays → is_bracket (kind_part k) ≡ false → is_break (kind_part k) ≡ false → Case k

case_of : (k : Kind) → Case k
case_of (token.Sign sign.OpenSection) = opening
case_of (token.Sign sign.CloseSection) = closer
case_of (token.Sign _) = other refl refl refl
case_of (token.Name n) = other refl refl refl
case_of (token.Number n) = other refl refl refl
case_of (token.Character n) = other refl refl refl
case_of (token.String n) = other refl refl refl

-- what one part contributes before a balanced list
balanced_after : (b : Bool) (n : ℕ) (p : Part) (at : ℕ) (rest : List Placed) → Balanced n (parts_in ((p, at) ∷ rest))
    → Balanced n (parts_in (cond b ((NewLine, at) ∷ (p, at) ∷ []) ((p, at) ∷ []) ++ rest))
balanced_after true n p at rest h = passes n NewLine (p ∷ parts_in rest) refl h
balanced_after false n p at rest h = h

-- one more part
part_put : (line : ℕ → Bool) (at n m : ℕ) (ends : Bool) (p : Part) (t : Lexeme) (ts : List Lexeme) (rest : List Placed) → line at ≡ t.line_before → kind_part t.kind ≡ p → is_break p ≡ false
    → ((r : List Part) → Balanced m r → Balanced n (p ∷ r)) → IsMade line (at + 1) m (ends_command p) ts rest
    → IsMade line at n ends (t ∷ ts) (broken ends t.line_before p at ++ rest)
part_put line at n m ends p t ts rest same is plain balance made = record {
  qs = (p, at) ∷ made.qs;
  breaks = rw (made.breaks, sym same) refl;
  plain = (plain, made.plain);
  tokens = rw is (kept (p, at) (placed_from (at + 1) ts) made.qs made.tokens);
  brackets = balanced_after (ends && t.line_before && begins_command p) n p at rest (balance (parts_in rest) made.brackets);
}

-- more closing brackets
abbrev closers : ℕ → ℕ → List Placed
closers n at = replicate n (A sign.CloseSection, at)

no_break : (a b : Bool) (q : Placed) → cond (a && b && false) ((NewLine, q.1) ∷ q ∷ []) (q ∷ []) ≡ q ∷ []
no_break true true q = refl
no_break true false q = refl
no_break false b q = refl

closers_break : (line : ℕ → Bool) (ends : Bool) (n at : ℕ) (qs : List Placed) → with_breaks line ends (closers (suc n) at ++ qs) ≡ closers (suc n) at ++ with_breaks line true qs
closers_break line ends zero at qs = ap (λ front. front ++ with_breaks line true qs) (no_break ends (line at) (A sign.CloseSection, at))
closers_break line ends (suc n) at qs =
    ap (λ front. front ++ with_breaks line true (closers (suc n) at ++ qs)) (no_break ends (line at) (A sign.CloseSection, at))
    ∙ ap (λ r. (A sign.CloseSection, at) ∷ r) (closers_break line true n at qs)

closers_plain : (n at : ℕ) (qs : List Placed) → Plain qs → Plain (closers n at ++ qs)
closers_plain zero at qs h = h
closers_plain (suc n) at qs h = (refl, closers_plain n at qs h)

closers_repeat : (n at : ℕ) (ts qs : List Placed) → RepeatsClosings ts qs → RepeatsClosings ((A sign.CloseSection, at) ∷ ts) (closers (suc n) at ++ qs)
closers_repeat zero at ts qs h = kept (A sign.CloseSection, at) ts qs h
closers_repeat (suc n) at ts qs h = again at ts (closers (suc n) at ++ qs) (closers_repeat n at ts qs h)

closers_balance : (n m at : ℕ) (ps : List Placed) → Balanced m (parts_in ps) → Balanced (n + m) (parts_in (closers n at ++ ps))
closers_balance zero m at ps h = let e : 0 + m ≡ m = omega arith in rw e h
closers_balance (suc n) m at ps h = let e : suc n + m ≡ n + m + 1 = omega arith in rw e (lawful.closes (n + m) (parts_in (closers n at ++ ps)) (closers_balance n m at ps h))

-- how many sections are closed: one or more; the others stay open
record Closed (opened left : List (List ℕ)) (n : ℕ) : Type 0 where
  before : ℕ
  count : n ≡ suc before
  others : length opened ≡ n + length left

closes_some : (tag : List ℕ) (opened : List (List ℕ)) (c : ℕ × List (List ℕ)) → closes tag opened ≡ Some c → Closed opened c.1 c.0
closes_some tag [] c e = absurd cc
closes_some tag (t ∷ opened) c e = go (is_matched tag t) (closes tag opened) (closes_some tag opened) e
  where
    more : (o : Option (ℕ × List (List ℕ))) → ((d : ℕ × List (List ℕ)) → o ≡ Some d → Closed opened d.1 d.0) → one_more o ≡ Some c → Closed (t ∷ opened) c.1 c.0
    more None inner h = absurd cc
    more (Some d) inner h =
        let less = inner d refl in
        let same : (d.0 + 1, d.1) ≡ c = cc in
        subst (λ (x : ℕ × List (List ℕ)). Closed (t ∷ opened) x.1 x.0) same (record { before = d.0; count = omega arith; others = omega (arith, less.others) })

    go : (b : Bool) (o : Option (ℕ × List (List ℕ))) → ((d : ℕ × List (List ℕ)) → o ≡ Some d → Closed opened d.1 d.0) → cond b (Some (1, opened)) (one_more o) ≡ Some c → Closed (t ∷ opened) c.1 c.0
    go true o inner h =
        let same : (1, opened) ≡ c = cc in
        subst (λ (x : ℕ × List (List ℕ)). Closed (t ∷ opened) x.1 x.0) same (record { before = 0; count = refl; others = omega arith })
    go false o inner h = more o inner h

-- what a step adds before any remaining list
abbrev Made : (ℕ → Bool) → ℕ → List (List ℕ) → Bool → Lexeme → Step → Type 0
Made line at opened ends t s = (ts : List Lexeme) (rest : List Placed) → line at ≡ t.line_before → IsMade line (at + 1) (length s.opened) s.ends ts rest → IsMade line at (length opened) ends (t ∷ ts) (s.out ++ rest)

closing_made : (line : ℕ → Bool) (at : ℕ) (opened : List (List ℕ)) (ends : Bool) (t : Lexeme) (o : Option (ℕ × List (List ℕ))) → closes (tag_of t) opened ≡ o → kind_part t.kind ≡ A sign.CloseSection
    → Yields (closing at o) (Made line at opened ends t)
closing_made line at opened ends t None is kind = tt
closing_made line at opened ends t (Some c) is kind = λ ts rest same made.
    let some = closes_some (tag_of t) opened c is in
    let out : List Placed = closers (suc some.before) at in
    let count : closers c.0 at ≡ out = ap (λ n. closers n at) some.count in
    let total : length opened ≡ suc some.before + length c.1 = omega (arith, some.count, some.others) in
    rw count (record {
      qs = out ++ made.qs;
      breaks = ap (λ r. out ++ r) made.breaks ∙ sym (closers_break line ends some.before at made.qs);
      plain = closers_plain (suc some.before) at made.qs made.plain;
      tokens = rw kind (closers_repeat some.before at (placed_from (at + 1) ts) made.qs made.tokens);
      brackets = rw total (closers_balance (suc some.before) (length c.1) at rest made.brackets);
    })

step_made : (line : ℕ → Bool) (at : ℕ) (opened : List (List ℕ)) (ends : Bool) (t : Lexeme) (k : Kind) → t.kind ≡ k → Case k → Yields (step_by (role_of k) at opened ends t) (Made line at opened ends t)
step_made line at opened ends t (token.Sign sign.OpenSection) is opening = λ ts rest same made.
    part_put line at (length opened) (suc (length opened)) ends (A sign.OpenSection) t ts rest same (ap kind_part is) refl
    (λ r h. let e : suc (length opened) ≡ length opened + 1 = omega arith in opens (length opened) r (rw (← e) h)) made
step_made line at opened ends t (token.Sign sign.CloseSection) is closer = closing_made line at opened ends t (closes (tag_of t) opened) refl (ap kind_part is)
step_made line at opened ends t k is (other stays plain whole) = rw stays (λ ts rest same made.
    part_put line at (length opened) (length opened) ends (kind_part t.kind) t ts rest same refl (rw is whole)
    (λ r h. passes (length opened) (kind_part t.kind) r (rw is plain) h) made)

closed_made : (line : ℕ → Bool) (ts : List Lexeme) (at : ℕ) (opened : List (List ℕ)) (ends : Bool) → Lines line at ts → Yields (closed at opened ends ts) (IsMade line at (length opened) ends ts)
closed_made line [] at [] ends lines = record { qs = []; breaks = refl; plain = tt; tokens = nothing; brackets = nothing_open }
closed_made line [] at (o ∷ opened) ends lines = tt
closed_made line (t ∷ ts) at opened ends lines =
    then (token_step at opened ends t) _ _ _ (step_made line at opened ends t t.kind refl (case_of t.kind)) (λ (s : Step) front.
    then (closed (at + 1) s.opened s.ends ts) _ _ _ (closed_made line ts (at + 1) s.opened s.ends lines.1) (λ (rest : List Placed) remaining. front ts rest lines.0 remaining))

found : (front : List Lexeme) (t : Lexeme) (ts : List Lexeme) → slice_get (front ++ t ∷ ts) (length front) ≡ Some t
found [] t ts = refl
found (f ∷ front) t ts = found front t ts

lines_from : (front ts : List Lexeme) → Lines (lines_of (front ++ ts)) (length front) ts
lines_from front [] = tt
lines_from front (t ∷ ts) =
    let there : slice_get (front ++ t ∷ ts) (length front) ≡ Some t = found front t ts in
    let moved : (front ++ t ∷ []) ++ ts ≡ front ++ t ∷ ts = append_assoc front (t ∷ []) ts in
    let long : length (front ++ t ∷ []) ≡ length front + 1 = omega (arith, length-append front (t ∷ [])) in
    let rest : Lines (lines_of (front ++ t ∷ ts)) (length front + 1) ts = rw (← moved, ← long) (lines_from (front ++ t ∷ []) ts) in
    (ap line_before there, rest)

pub closed_lawful : (ts : List Lexeme) (ps : List Placed) → closed_list ts ≡ Ok ps → IsClosedList ts ps
closed_lawful ts ps e =
    let made = from_yields (closed_list ts) ps (IsMade (lines_of ts) 0 0 false ts) (closed_made (lines_of ts) ts 0 [] false (lines_from [] ts)) e in
    record {
      owed = λ before after left right is. stands_where ts ((NewLine, 0) ∷ before) (NewLine, 0) made.qs after left right (ap (λ r. (NewLine, 0) ∷ r) (sym is ∙ made.breaks));
      only = λ before after at is. without_first ts before at after (stands_only ts before (NewLine, 0) made.qs after at made.plain (sym is ∙ made.breaks));
      tokens = rw made.breaks (rw (without_them (lines_of ts) false made.qs made.plain) made.tokens);
      brackets = made.brackets;
    }
