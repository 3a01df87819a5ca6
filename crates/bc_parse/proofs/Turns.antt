-- The loops of the parser: a turn that goes on, one that is the last, one that fails, and no turn left.
use Rattle.std.proofs.Common.{◌≡◌, ℕ, suc, ◌-◌, ◌+◌, ◌<◌, ◌≤◌, Bool, true, false, List, length, max, Some, Result, Ok, Err, refl, sym, ap, subst, ◌∙◌, arith}
use Rattle.std.proofs.lemmas.Bool.{lt-ltb}
use Rattle.bc_lex_tokens.specs.declared.symbol.Symbol.TheVariants as sign
use Rattle.bc_parse_tree.specs.Parts.{Part}
use Rattle.bc_parse_tree.specs.Tree.{Command, Exp}
use Rattle.bc_parse_tree.specs.Tree as tree
use Rattle.bc_parse_defs.specs.declared.words.RepeatWord.{RepeatWord}
use Rattle.bc_parse_defs.specs.declared.words.RepeatWord.TheVariants as repeat_word
use Rattle.bc_parse_defs.specs.Reading.{Fault, Expected, ◌>>=◌, Piece, piece, Reader, Choice, expect_of, suffix_read, with_choice, turns, word_in, repeat_word_of, repeat_turn, repeated}
use Rattle.bc_parse.specs.Seen.{Fails, Takes, read_view, turn_view, turn_height}
use Rattle.bc_parse.specs.declared.read.Read.{Read}
use Rattle.bc_parse.specs.declared.read.Step.{Step}
use Rattle.bc_parse.specs.declared.read.Step.TheVariants as turn
use Rattle.bc_parse.specs.declared.fault.ReadFault.{ReadFault}
use Rattle.bc_parse.specs.declared.fault.ReadFault.TheVariants as faults

module _ {X : Type 0} (step : Piece X → Result (Piece X × Bool) Fault) (n i : ℕ) (s : Piece X) (total : Result (Piece X) Fault) (so_far : turns step (n - i) s ≡ total) where
  pub turns_next : (t : Piece X) (last : Bool) → i < n → step s ≡ Ok (t, last) → last ≡ false → turns step (n - (i + 1)) t ≡ total
  unfolding turns
  turns_next t last lt is not_last = let k : n - i ≡ suc (n - (i + 1)) = omega arith in sym (rw (k, is, not_last) refl) ∙ so_far

  pub turns_done : (t : Piece X) (last : Bool) → i < n → step s ≡ Ok (t, last) → last ≡ true → total ≡ Ok t
  unfolding turns
  turns_done t last lt is is_last = let k : n - i ≡ suc (n - (i + 1)) = omega arith in sym so_far ∙ rw (k, is, is_last) refl

  -- the same for a turn as the code returns it
  pub turns_more : {T : Type 0} (view : T → X) (v : Step T) (r : Read T) → i < n → Takes view (Ok v) (step s) → v ≡ turn.More r → turns step (n - (i + 1)) (read_view view r) ≡ total
  turns_more view v r lt took is = turns_next (read_view view r) false lt (took ∙ ap (λ (w : Step _). Ok (turn_view view w)) is) refl

  pub turns_last : {T : Type 0} (view : T → X) (v : Step T) (r : Read T) → i < n → Takes view (Ok v) (step s) → v ≡ turn.Last r → total ≡ Ok (read_view view r)
  turns_last view v r lt took is = turns_done (read_view view r) true lt (took ∙ ap (λ (w : Step _). Ok (turn_view view w)) is) refl

  pub turns_fails : (error : ReadFault) → i < n → Fails error (step s) → Fails error total
  unfolding turns
  turns_fails faults.Memory lt is = tt
  turns_fails (faults.Expected m) lt is = let k : n - i ≡ suc (n - (i + 1)) = omega arith in sym so_far ∙ rw (k, is) refl
  turns_fails (faults.TooDeep m) lt is = let k : n - i ≡ suc (n - (i + 1)) = omega arith in sym so_far ∙ rw (k, is) refl

  pub turns_spent : n ≤ i → total ≡ Err (Expected (length s.rest))
  unfolding turns
  turns_spent le = let k : n - i ≡ 0 = omega arith in sym so_far ∙ rw k refl

pub fails_then : {X Y : Type 0} (error : ReadFault) (r : Result X Fault) (f : X → Result Y Fault) → Fails error r → Fails error (r >>= f)
fails_then faults.Memory r f is = tt
fails_then (faults.Expected m) r f is = rw is refl
fails_then (faults.TooDeep m) r f is = rw is refl

pub more_low : {T : Type 0} (v : Step T) (r : Read T) (m : ℕ) → v ≡ turn.More r → turn_height v ≤ m → r.height ≤ m
more_low v r m is low = subst (λ (w : Step _). turn_height w ≤ m) is low

pub ok_is : {X : Type 0} (x y : X) (r : Result X Fault) → r ≡ Ok x → r ≡ Ok y → x ≡ y
ok_is x y r is_x is_y = cc

-- a choice whose test and first value are read
pub choice_is : (E : Reader) (nest round begin height high place most : ℕ) (left test this : Exp) (ts rest : List Part) → height < nest → E (nest - 1) round 1 ts ≡ Ok (piece this high rest) → left ≡ test → most ≡ max height high
    → suffix_read E nest round begin (Choice ts) left height place ≡ ((expect_of sign.Comma rest >>= λ remaining. E (nest - 1) round 1 remaining >>= λ that. Ok (piece (tree.Cond test this that.tree) (max most that.height + 1) that.rest)) >>= λ p. Ok (piece (p.tree, 1) p.height p.rest))
unfolding suffix_read with_choice
choice_is E nest round begin height high place most left test this ts rest lt is same top = rw (lt-ltb height nest lt, is, same, top) refl

-- a repetition whose word follows the command
repeated_by : (E : Reader) (nest round : ℕ) (whole : Piece Command) (w : RepeatWord) (ts : List Part) → Some (w, ts) ≡ word_in repeat_word_of whole.rest → whole.height < nest → repeat_turn E nest round whole ≡ repeated E nest round w whole ts
unfolding repeat_turn
repeated_by E nest round whole w ts is lt = rw (← is, lt-ltb whole.height nest lt) refl

-- a repetition with REPEATWHILE, whose command is in a box
pub while_is : (E : Reader) (nest round : ℕ) (whole : Piece Command) (body : Command) (w : RepeatWord) (ts : List Part) → Some (w, ts) ≡ word_in repeat_word_of whole.rest → whole.height < nest → whole.tree ≡ body → w ≡ repeat_word.While
    → repeat_turn E nest round whole ≡ (E (nest - 1) round 1 ts >>= λ e. Ok (piece (tree.RepeatWhile body e.tree) (max whole.height e.height + 1) e.rest, false))
unfolding repeated
while_is E nest round whole body w ts is lt same by =
    repeated_by E nest round whole w ts is lt ∙ (ap (λ (v : RepeatWord). repeated E nest round v whole ts) by
    ∙ ap (λ (k : Command). E (nest - 1) round 1 ts >>= λ e. Ok (piece (tree.RepeatWhile k e.tree) (max whole.height e.height + 1) e.rest, false)) same)

-- the same with REPEATUNTIL
pub until_is : (E : Reader) (nest round : ℕ) (whole : Piece Command) (body : Command) (w : RepeatWord) (ts : List Part) → Some (w, ts) ≡ word_in repeat_word_of whole.rest → whole.height < nest → whole.tree ≡ body → w ≡ repeat_word.Until
    → repeat_turn E nest round whole ≡ (E (nest - 1) round 1 ts >>= λ e. Ok (piece (tree.RepeatUntil body e.tree) (max whole.height e.height + 1) e.rest, false))
unfolding repeated
until_is E nest round whole body w ts is lt same by =
    repeated_by E nest round whole w ts is lt ∙ (ap (λ (v : RepeatWord). repeated E nest round v whole ts) by
    ∙ ap (λ (k : Command). E (nest - 1) round 1 ts >>= λ e. Ok (piece (tree.RepeatUntil k e.tree) (max whole.height e.height + 1) e.rest, false)) same)
