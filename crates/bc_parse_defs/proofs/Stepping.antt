-- What one token adds to the closed list: the code's step is the definition's.
use Rattle.std.proofs.Common.{◌≡◌, ◌∙◌, ℕ, ◌+◌, Bool, List, [], ◌∷◌, ◌++◌, length, Result, Ok, Err, refl, sym, ap, append_assoc}
use Rattle.std.proofs.Common.{◌<◌, get_or, drop, add-one, drop-cons}
use Rattle.bc_lex_tokens.specs.Token.{Lexeme, lexeme_of, lexemes_of}
use Rattle.bc_lex_tokens.specs.declared.token.Token.{Token}
use Rattle.bc_parse_tree.specs.Parts.{Part}
use Rattle.bc_parse_defs.specs.Closing.{Fault, ◌>>=◌, Step, Placed, closed, token_step, parts_in, places_in}
use Rattle.bc_parse_defs.specs.Seen.{Fails, Lists, with_placed, State, after_token}
use Rattle.bc_parse_defs.specs.declared.fault.CloseFault.{CloseFault}
use Rattle.bc_parse_defs.specs.declared.fault.CloseFault.TheVariants as faults

-- the list up to here, and what closing gives after it
abbrev pub remaining : Lists → Result (List Placed) Fault → Result Lists Fault
remaining c r = r >>= λ ps. Ok (with_placed c ps)

parts_both : (ps qs : List Placed) → parts_in (ps ++ qs) ≡ parts_in ps ++ parts_in qs
parts_both [] qs = refl
parts_both (p ∷ ps) qs = ap (λ (r : List Part). p.0 ∷ r) (parts_both ps qs)

places_both : (ps qs : List Placed) → places_in (ps ++ qs) ≡ places_in ps ++ places_in qs
places_both [] qs = refl
places_both (p ∷ ps) qs = ap (λ (r : List ℕ). p.1 ∷ r) (places_both ps qs)

placed_both : (c : Lists) (ps qs : List Placed) → with_placed c (ps ++ qs) ≡ with_placed (with_placed c ps) qs
placed_both c ps qs =
    let a : c.0 ++ parts_in (ps ++ qs) ≡ (c.0 ++ parts_in ps) ++ parts_in qs = ap (λ (r : List Part). c.0 ++ r) (parts_both ps qs) ∙ sym (append_assoc c.0 (parts_in ps) (parts_in qs)) in
    let b : c.1 ++ places_in (ps ++ qs) ≡ (c.1 ++ places_in ps) ++ places_in qs = ap (λ (r : List ℕ). c.1 ++ r) (places_both ps qs) ∙ sym (append_assoc c.1 (places_in ps) (places_in qs)) in
    rw (a, b) refl

after_more : (c : Lists) (out : List Placed) (r : Result (List Placed) Fault) → remaining c (r >>= λ rest. Ok (out ++ rest)) ≡ remaining (with_placed c out) r
after_more c out (Ok ps) = ap (λ (x : Lists). Ok x) (placed_both c out ps)
after_more c out (Err e) = refl

module _ (c : Lists) (at : ℕ) (opened : List (List ℕ)) (ends : Bool) (t : Lexeme) (ts : List Lexeme) (total : Result Lists Fault) (so_far : remaining c (closed at opened ends (t ∷ ts)) ≡ total) where
  by_step : (r : Result Step Fault) → remaining c (r >>= λ s. closed (at + 1) s.opened s.ends ts >>= λ rest. Ok (s.out ++ rest)) ≡ (after_token c r >>= λ s. remaining s.0 (closed (at + 1) s.1 s.2 ts))
  by_step (Ok s) = after_more c s.out (closed (at + 1) s.opened s.ends ts)
  by_step (Err e) = refl

  pub token_put : (s : State) → after_token c (token_step at opened ends t) ≡ Ok s → remaining s.0 (closed (at + 1) s.1 s.2 ts) ≡ total
  token_put s is = sym (by_step (token_step at opened ends t) ∙ rw is refl) ∙ so_far

  pub token_fails : (error : CloseFault) → Fails error (after_token c (token_step at opened ends t)) → Fails error total
  token_fails faults.Memory is = tt
  token_fails (faults.NotOpen n) is = sym so_far ∙ by_step (token_step at opened ends t) ∙ rw is refl
  token_fails faults.Unclosed is = sym so_far ∙ by_step (token_step at opened ends t) ∙ rw is refl

-- the next token of a list
pub put_next : (c : Lists) (at : ℕ) (opened : List (List ℕ)) (ends : Bool) (tokens : List Token) (d : Token) (s : State) (total : Result Lists Fault) → at < length tokens
    → remaining c (closed at opened ends (lexemes_of (drop at tokens))) ≡ total → after_token c (token_step at opened ends (lexeme_of (get_or tokens at d))) ≡ Ok s
    → remaining s.0 (closed (at + 1) s.1 s.2 (lexemes_of (drop (at + 1) tokens))) ≡ total
put_next c at opened ends tokens d s total lt so_far is =
    let next : drop at tokens ≡ get_or tokens at d ∷ drop (at + 1) tokens = rw (add-one, drop-cons tokens at d) refl in
    token_put c at opened ends (lexeme_of (get_or tokens at d)) (lexemes_of (drop (at + 1) tokens)) total (sym (ap (λ (ts : List Token). remaining c (closed at opened ends (lexemes_of ts))) next) ∙ so_far) s is
