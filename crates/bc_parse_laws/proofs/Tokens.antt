-- The closed list of tokens without line breaks and tags is these tokens, if each section is closed.
use Rattle.std.proofs.Common.{◌≡◌, ℕ, ◌+◌, Bool, true, false, List, [], ◌∷◌, length, map, Some, Ok, refl, sym, ap, ◌∙◌, All}
use Rattle.std.proofs.lemmas.List.Elements.{All-head, All-tail}
use Rattle.bc_lex_tokens.specs.declared.symbol.Symbol.TheVariants as sign
use Rattle.bc_lex_tokens.specs.Token.{Kind, Lexeme}
use Rattle.bc_lex_tokens.specs.Token as token
use Rattle.bc_parse_tree.specs.Parts.{Part, A}
use Rattle.bc_parse_tree.specs.Tree.{Declarations}
use Rattle.bc_parse_tree.specs.Canonical.{section_spelling}
use Rattle.bc_parse_defs.specs.Closing.{Placed, Role, Stays, role_of, kind_part, tag_of, closes, closing, Step, step_by, token_step, broken, ends_command, closed, closed_list, parts_in}
use Rattle.bc_parse_laws.specs.Tokens.{IsBare, IsSpelling}
use Rattle.bc_parse_laws.proofs.Balance.{left_open, sections_are_closed}

abbrev parts_of : List Lexeme → List Part
parts_of ts = map (λ t. kind_part t.kind) ts

-- each token as its part
abbrev placed : ℕ → List Lexeme → List Placed
placed at [] = []
placed at (t ∷ ts) = (kind_part t.kind, at) ∷ placed (at + 1) ts

placed_parts : (at : ℕ) (ts : List Lexeme) → parts_in (placed at ts) ≡ parts_of ts
placed_parts at [] = refl
placed_parts at (t ∷ ts) = ap (λ (r : List Part). kind_part t.kind ∷ r) (placed_parts (at + 1) ts)

no_break : (ends line : Bool) (p : Part) (at : ℕ) → line ≡ false → broken ends line p at ≡ (p, at) ∷ []
no_break true line p at is = rw is refl
no_break false line p at is = refl

-- what a kind of token does to open sections
data Effect : Kind → Type 0 where
  opens : Effect (token.Sign sign.OpenSection)
  ends : Effect (token.Sign sign.CloseSection)
  stays : {k : Kind} → role_of k ≡ Stays → ((n : ℕ) (ts : List Part) → left_open (kind_part k ∷ ts) n ≡ left_open ts n) → Effect k

effect : (k : Kind) → Effect k
effect (token.Sign sign.OpenSection) = opens
effect (token.Sign sign.CloseSection) = ends
effect (token.Sign _) = stays refl (λ n ts. refl)
effect (token.Name n) = stays refl (λ m ts. refl)
effect (token.Number n) = stays refl (λ m ts. refl)
effect (token.Character n) = stays refl (λ m ts. refl)
effect (token.String n) = stays refl (λ m ts. refl)

-- one token, and what is left to close after it
record OneClosed (at : ℕ) (opened : List (List ℕ)) (ends : Bool) (t : Lexeme) (ts : List Part) : Type 0 where
  remaining : Step
  step : token_step at opened ends t ≡ Ok remaining
  out : remaining.out ≡ (kind_part t.kind, at) ∷ []
  left : left_open ts (length remaining.opened) ≡ Some 0

one_closed : (at : ℕ) (opened : List (List ℕ)) (last : Bool) (t : Lexeme) (ts : List Part) → IsBare t → left_open (kind_part t.kind ∷ ts) (length opened) ≡ Some 0 → OneClosed at opened last t ts
one_closed at opened last t ts bare left = by t.kind refl (effect t.kind)
  where
    by : (k : Kind) → t.kind ≡ k → Effect k → OneClosed at opened last t ts
    by (token.Sign sign.OpenSection) is opens = record {
      remaining = record { out = broken last t.line_before (A sign.OpenSection) at; opened = tag_of t ∷ opened; ends = false };
      step = ap (λ (k : Kind). step_by (role_of k) at opened last t) is;
      out = no_break last t.line_before (A sign.OpenSection) at bare.no_line ∙ ap (λ (k : Kind). (kind_part k, at) ∷ []) (sym is);
      left = sym (ap (λ (k : Kind). left_open (kind_part k ∷ ts) (length opened)) is) ∙ left;
    }
    by (token.Sign sign.CloseSection) is ends = close opened (sym (ap (λ (k : Kind). left_open (kind_part k ∷ ts) (length opened)) is) ∙ left)
      where
        close : (os : List (List ℕ)) → left_open (A sign.CloseSection ∷ ts) (length os) ≡ Some 0 → OneClosed at os last t ts
        close [] none = absurd cc
        close (o ∷ os) some = record {
          remaining = record { out = (A sign.CloseSection, at) ∷ []; opened = os; ends = true };
          step = ap (λ (k : Kind). step_by (role_of k) at (o ∷ os) last t) is ∙ ap (λ (tag : List ℕ). closing at (closes tag (o ∷ os))) (bare.no_tag is);
          out = ap (λ (k : Kind). (kind_part k, at) ∷ []) (sym is);
          left = some;
        }
    by k is (stays role depth) = record {
      remaining = record { out = broken last t.line_before (kind_part t.kind) at; opened = opened; ends = ends_command (kind_part t.kind) };
      step = ap (λ (r : Role). step_by r at opened last t) (ap role_of is ∙ role);
      out = no_break last t.line_before (kind_part t.kind) at bare.no_line;
      left = sym (ap (λ (j : Kind). left_open (kind_part j ∷ ts) (length opened)) is ∙ depth (length opened) ts) ∙ left;
    }

bare_closed : (ts : List Lexeme) (at : ℕ) (opened : List (List ℕ)) (last : Bool) → All IsBare ts → left_open (parts_of ts) (length opened) ≡ Some 0 → closed at opened last ts ≡ Ok (placed at ts)
bare_closed [] at [] last bare left = refl
bare_closed [] at (o ∷ os) last bare left = absurd cc
bare_closed (t ∷ ts) at opened last bare left =
    let one = one_closed at opened last t (parts_of ts) (All-head IsBare t ts bare) left in
    rw (one.step, bare_closed ts (at + 1) one.remaining.opened one.remaining.ends (All-tail IsBare t ts bare) one.left, one.out) refl

-- the closed list of a canonical spelling is that spelling
pub spelling_closed : (ds : Declarations) (ts : List Lexeme) → IsSpelling ds ts → (ps : List Placed) × (closed_list ts ≡ Ok ps) × (parts_in ps ≡ section_spelling ds)
spelling_closed ds ts is =
    let left : left_open (parts_of ts) 0 ≡ Some 0 = ap (λ (r : List Part). left_open r 0) is.parts ∙ sections_are_closed ds in
    (placed 0 ts, bare_closed ts 0 [] false is.bare left, placed_parts 0 ts ∙ is.parts)
