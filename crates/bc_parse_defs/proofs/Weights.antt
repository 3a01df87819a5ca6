-- Closing adds only closing section brackets and line breaks, so the weight of the list is at most the number of
-- tokens.
use Rattle.std.proofs.Common.{◌≡◌, ℕ, zero, suc, ◌+◌, ◌≤◌, Bool, true, false, ◌&&◌, cond, List, [], ◌∷◌, ◌++◌, length, Option, Some, None, Result, Ok, Err, refl, subst, arith}
use Rattle.std.specs.Prelude.{replicate}
use Rattle.bc_lex_tokens.specs.declared.symbol.Symbol.TheVariants as sign
use Rattle.bc_lex_tokens.specs.Token.{Lexeme}
use Rattle.bc_parse_tree.specs.Parts.{Part, A, Name, Number, Character, String, NewLine}
use Rattle.bc_parse_tree.specs.Size.{weight_of, weight}
use Rattle.bc_parse_defs.specs.Closing.{Fault, Unclosed, ◌>>=◌, Step, Placed, Role, Opens, Closes, Stays, role_of, step_by, token_step, closing, closes, tag_of, kind_part, begins_command, broken, is_empty, closed, closed_list, parts_in}

abbrev pub Yields : {X : Type 0} → Result X Fault → (X → Type 0) → Type 0
Yields (Ok x) P = P x
Yields (Err e) P = Unit {0}

pub then : {X Y : Type 0} (r : Result X Fault) (f : X → Result Y Fault) (P : X → Type 0) (Q : Y → Type 0) → Yields r P → ((x : X) → P x → Yields (f x) Q) → Yields (r >>= f) Q
then (Ok x) f P Q p next = next x p
then (Err e) f P Q p next = tt

pub from_yields : {X : Type 0} (r : Result X Fault) (x : X) (Q : X → Type 0) → Yields r Q → r ≡ Ok x → Q x
from_yields (Ok y) x Q p e = let same : y ≡ x = cc in subst Q same p
from_yields (Err d) x Q p e = absurd cc

light : (p : Part) → weight_of p ≤ 1
light (A sign.CloseSection) = omega arith
light (A _) = omega arith
light (Name n) = omega arith
light (Number n) = omega arith
light (Character n) = omega arith
light (String n) = omega arith
light NewLine = omega arith

weight_both : (ps qs : List Placed) → weight (parts_in (ps ++ qs)) ≡ weight (parts_in ps) + weight (parts_in qs)
weight_both [] qs = omega arith
weight_both (p ∷ ps) qs = omega (arith, weight_both ps qs)

weight_broken : (ends line : Bool) (p : Part) (at : ℕ) → weight (parts_in (broken ends line p at)) ≤ 1
weight_broken ends line p at = go (ends && line && begins_command p)
  where
    go : (b : Bool) → weight (parts_in (cond b ((NewLine, at) ∷ (p, at) ∷ []) ((p, at) ∷ []))) ≤ 1
    go true = omega (arith, light p)
    go false = omega (arith, light p)

weight_closes : (n at : ℕ) → weight (parts_in (replicate n (A sign.CloseSection, at))) ≡ 0
weight_closes zero at = refl
weight_closes (suc n) at = omega (arith, weight_closes n at)

closing_light : (at : ℕ) (o : Option (ℕ × List (List ℕ))) → Yields (closing at o) (λ s. weight (parts_in s.out) ≤ 1)
closing_light at None = tt
closing_light at (Some c) = omega (arith, weight_closes c.0 at)

step_light : (r : Role) (at : ℕ) (opened : List (List ℕ)) (ends : Bool) (t : Lexeme) → Yields (step_by r at opened ends t) (λ s. weight (parts_in s.out) ≤ 1)
step_light Opens at opened ends t = weight_broken ends t.line_before (A sign.OpenSection) at
step_light Closes at opened ends t = closing_light at (closes (tag_of t) opened)
step_light Stays at opened ends t = weight_broken ends t.line_before (kind_part t.kind) at

closed_light : (ts : List Lexeme) (at : ℕ) (opened : List (List ℕ)) (ends : Bool) → Yields (closed at opened ends ts) (λ ps. weight (parts_in ps) ≤ length ts)
closed_light [] at opened ends = go (is_empty opened)
  where
    go : (b : Bool) → Yields (cond {A = Result (List Placed) Fault} b (Ok []) (Err Unclosed)) (λ ps. weight (parts_in ps) ≤ 0)
    go true = omega arith
    go false = tt
closed_light (t ∷ ts) at opened ends =
    then (token_step at opened ends t) _ _ _ (step_light (role_of t.kind) at opened ends t) (λ (s : Step) front.
    then (closed (at + 1) s.opened s.ends ts) _ _ _ (closed_light ts (at + 1) s.opened s.ends) (λ (rest : List Placed) remaining. omega (arith, weight_both s.out rest)))

pub closed_short : (ts : List Lexeme) (ps : List Placed) → closed_list ts ≡ Ok ps → weight (parts_in ps) ≤ length ts
closed_short ts ps e = from_yields (closed_list ts) ps (λ ps. weight (parts_in ps) ≤ length ts) (closed_light ts 0 [] false) e
