-- The closed list of tokens, from their marks.
use Rattle.std.proofs.Common.{◌≡◌, ℕ, ◌+◌, Bool, true, false, List, [], ◌∷◌, ◌++◌, drop, Option, Some, None, Result, Ok, Err, if◌then◌else◌, refl, sym, ap, ◌∙◌}
use Rattle.bc_lex_tokens.specs.declared.symbol.Symbol.TheVariants as sign
use Rattle.bc_lex_tokens.specs.Token.{Kind, Lexeme}
use Rattle.bc_lex_tokens.specs.Token as token
use Rattle.bc_parse_tree.specs.Parts.{Part, A, NewLine}
use Rattle.bc_parse_defs.specs.Closing.{Fault, Unclosed, ◌>>=◌, Placed, Step, Role, Opens, Closes, Stays, role_of, kind_part, ends_command, is_empty, closes, closing, closed}
use Rattle.bcpl_format.specs.Kept.{Mark, marks, marks_after}
use Rattle.bcpl_format.specs.Laws.{SameMarksAreClosedAlike}

-- the part of a token, with a line break before it if that counts
abbrev put : Bool → Part → ℕ → List Placed
put breaks p at = if breaks then (NewLine, at) ∷ (p, at) ∷ [] else (p, at) ∷ []

-- what a token becomes, from its mark
abbrev mark_step : Role → ℕ → List (List ℕ) → Mark → Result Step Fault
mark_step Opens at opened m = Ok (record { out = put m.breaks (A sign.OpenSection) at; opened = drop 2 m.text ∷ opened; ends = false })
mark_step Closes at opened m = closing at (closes (drop 2 m.text) opened)
mark_step Stays at opened m = Ok (record { out = put m.breaks (kind_part m.kind) at; opened = opened; ends = ends_command (kind_part m.kind) })

-- the closed list, from marks
abbrev closed_marks : ℕ → List (List ℕ) → List Mark → Result (List Placed) Fault
closed_marks at opened [] = if is_empty opened then Ok [] else Err Unclosed
closed_marks at opened (m ∷ ms) = mark_step (role_of m.kind) at opened m >>= λ s. closed_marks (at + 1) s.opened ms >>= λ rest. Ok (s.out ++ rest)

-- the kinds by their roles
data View : Kind → Type 0 where
  opens : View (token.Sign sign.OpenSection)
  ends : View (token.Sign sign.CloseSection)
  stays : {k : Kind} → role_of k ≡ Stays → View k

view : (k : Kind) → View k
view (token.Sign sign.OpenSection) = opens
view (token.Sign sign.CloseSection) = ends
view (token.Sign _) = stays refl
view (token.Name n) = stays refl
view (token.Number n) = stays refl
view (token.Character n) = stays refl
view (token.String n) = stays refl

-- what is to be shown of the tokens after the first one
abbrev AllSame : List Lexeme → ℕ → Type 0
AllSame ts at = (opened : List (List ℕ)) (e : Bool) → closed at opened e ts ≡ closed_marks at opened (marks_after e ts)

after_close : (ts : List Lexeme) (at : ℕ) → AllSame ts (at + 1) → (c : Option (ℕ × List (List ℕ))) → (closing at c >>= λ s. closed (at + 1) s.opened s.ends ts >>= λ rest. Ok (s.out ++ rest)) ≡ (closing at c >>= λ s. closed_marks (at + 1) s.opened (marks_after true ts) >>= λ rest. Ok (s.out ++ rest))
after_close ts at same None = refl
after_close ts at same (Some c) = rw (same c.1 true) refl

after_token : (t : Lexeme) (ts : List Lexeme) (at : ℕ) (opened : List (List ℕ)) (e : Bool) → AllSame ts (at + 1) → (k : Kind) → View k → t.kind ≡ k → closed at opened e (t ∷ ts) ≡ closed_marks at opened (marks_after e (t ∷ ts))
after_token t ts at opened e same (token.Sign sign.OpenSection) opens is = rw (is, same (drop 2 t.text ∷ opened) false) refl
after_token t ts at opened e same (token.Sign sign.CloseSection) ends is = rw is (after_close ts at same (closes (drop 2 t.text) opened))
after_token t ts at opened e same k (stays role) is = rw (is, role, same opened (ends_command (kind_part k))) refl

closed_same : (ts : List Lexeme) (at : ℕ) → AllSame ts at
closed_same [] at opened e = refl
closed_same (t ∷ ts) at opened e = after_token t ts at opened e (closed_same ts (at + 1)) t.kind (view t.kind) refl

pub same_marks_are_closed_alike : SameMarksAreClosedAlike
same_marks_are_closed_alike before after same = closed_same after 0 [] false ∙ (ap (closed_marks 0 []) same ∙ sym (closed_same before 0 [] false))
