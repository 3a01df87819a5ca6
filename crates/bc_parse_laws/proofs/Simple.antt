-- Canonical spellings of commands that REPEAT can follow are read back, with their REPEAT words. What is read first
-- is a command without them; then each turn of a loop reads one.
use Rattle.std.proofs.Common.{◌≡◌, ℕ, suc, ◌-◌, ◌+◌, ◌<◌, ◌≤◌, true, false, List, [], ◌∷◌, ◌++◌, length, max, None, Result, Ok, refl, sym, ap, subst, ◌∙◌, append_assoc, arith}
use Rattle.std.proofs.Math.Numerals.{add-one}
use Rattle.std.proofs.lemmas.Bool.{lt-ltb, eq-eqb}
use Rattle.std.proofs.lemmas.List.{length-append}
use Rattle.bc_lex_tokens.specs.declared.symbol.Symbol.TheVariants as sign
use Rattle.bc_parse_tree.specs.Parts.{Part, A}
use Rattle.bc_parse_tree.specs.Tree.{Exp, Exps, none, more, Block, block, Command}
use Rattle.bc_parse_tree.specs.Tree as tree
use Rattle.bc_parse_tree.specs.Spelling.{count}
use Rattle.bc_parse_tree.specs.Canonical.{whole, part_of, routine_of, after_commas, after_first, command_spelling}
use Rattle.bc_parse_tree.specs.Height.{exp_height, exps_height, block_height, command_height}
use Rattle.bc_parse_defs.specs.Reading.{Fault, Piece, piece, turns, on, after_of, word_in, command_word_of, simple_word_of, exps_turn, exps_read, repeated, repeat_turn, repeats_read, assigned_read, simple_read, repeatable_read, command_read, exp_of, command_of, definition_of}
use Rattle.bc_parse_laws.proofs.Rounds.{exp_rounds, exps_rounds, block_rounds, command_rounds}
use Rattle.bc_parse_laws.proofs.Formed.{SomeExps, IsNoValof, EndsInNoValof}
use Rattle.bc_parse_laws.proofs.Ends.{turn_last, turn_next, NoRepeat, After, Unrepeated, unrepeated, ExpHead, exp_head, routine_head}
use Rattle.bc_parse_laws.proofs.Expressions.{WholeAgain, PartsAgain, counted, exps_again, last_exp}
use Rattle.bc_parse_laws.proofs.Commands.{BlockAgain, CommandAgain, command_runs}

-- a VALOF's body at the end isn't repeated
abbrev pub UnrepeatedEnd : Command → List Part → Type 0
UnrepeatedEnd (tree.ResultIs e) ts = Unrepeated e ts
UnrepeatedEnd (tree.RepeatWhile c e) ts = Unrepeated e ts
UnrepeatedEnd (tree.RepeatUntil c e) ts = Unrepeated e ts
UnrepeatedEnd _ ts = Unit {0}

no_valof : (e : Exp) (ts : List Part) → IsNoValof e → Unrepeated e ts
no_valof (tree.Valof b) ts h = absurd h
no_valof (tree.Name s) ts h = tt
no_valof (tree.Num n) ts h = tt
no_valof (tree.Character n) ts h = tt
no_valof (tree.Text s) ts h = tt
no_valof tree.True ts h = tt
no_valof tree.False ts h = tt
no_valof (tree.Table ks) ts h = tt
no_valof (tree.Unary m e) ts h = tt
no_valof (tree.Bin o l r) ts h = tt
no_valof (tree.Cond c x y) ts h = tt
no_valof (tree.Call f es) ts h = tt

-- if it doesn't end with one
pub no_valof_end : (c : Command) (ts : List Part) → EndsInNoValof c → UnrepeatedEnd c ts
no_valof_end (tree.ResultIs e) ts h = no_valof e ts h
no_valof_end (tree.RepeatWhile c e) ts h = no_valof e ts h
no_valof_end (tree.RepeatUntil c e) ts h = no_valof e ts h
no_valof_end _ ts h = tt

-- if no REPEAT follows
pub quiet_end : (c : Command) (ts : List Part) → NoRepeat ts → UnrepeatedEnd c ts
quiet_end (tree.ResultIs e) ts h = unrepeated e ts h
quiet_end (tree.RepeatWhile c e) ts h = unrepeated e ts h
quiet_end (tree.RepeatUntil c e) ts h = unrepeated e ts h
quiet_end _ ts h = tt

-- the command before the REPEAT words
abbrev pub First : ℕ → ℕ → ℕ → List Part → Result (Piece Command) Fault
First n nest round ts = on (word_in simple_word_of ts) (assigned_read (exp_of n) (command_of n) (definition_of n) nest round ts) (λ w. simple_read (exp_of n) (command_of n) (definition_of n) nest round w.0 w.1)

-- how many REPEAT words there are
abbrev pub repeats : Command → ℕ
repeats (tree.Repeat c) = repeats c + 1
repeats (tree.RepeatWhile c e) = repeats c + 1
repeats (tree.RepeatUntil c e) = repeats c + 1
repeats _ = 0

-- the first command is read, and as many turns as there are REPEAT words lead to the whole
pub record Unwound (c : Command) (n nest round : ℕ) (rest : List Part) : Type 0 where
  pub base : Piece Command
  pub read : First n nest round (command_spelling c ++ rest) ≡ Ok base
  pub no_command : word_in command_word_of (command_spelling c ++ rest) ≡ None
  pub turned : (j k : ℕ) → j ≡ repeats c + k → turns (repeat_turn (exp_of n) nest round) j base ≡ turns (repeat_turn (exp_of n) nest round) k (piece c (command_height c) rest)
  pub long : repeats c + length rest ≤ length base.rest

abbrev pub SimpleAgain : Command → Type 0
SimpleAgain c = (n nest round : ℕ) (rest : List Part) → command_height c ≤ nest → command_rounds c ≤ round → nest + round ≤ n + 1 → After rest → UnrepeatedEnd c rest → Unwound c n nest round rest

-- a command with no REPEAT word
unwound : (c : Command) (n nest round : ℕ) (rest : List Part) → repeats c ≡ 0 → First n nest round (command_spelling c ++ rest) ≡ Ok (piece c (command_height c) rest) → word_in command_word_of (command_spelling c ++ rest) ≡ None → Unwound c n nest round rest
unwound c n nest round rest zero_repeats read no_command = record {
  base = piece c (command_height c) rest;
  read = read;
  no_command = no_command;
  turned = λ j k is. let same : j ≡ k = omega arith in ap (λ (i : ℕ). turns (repeat_turn (exp_of n) nest round) i (piece c (command_height c) rest)) same;
  long = omega arith;
}

pub exps_head : (es : Exps) → SomeExps es → (ts : List Part) → ExpHead (after_first (after_commas es) ++ ts)
exps_head none some ts = absurd some
exps_head (more e es) some ts = subst ExpHead (sym (append_assoc (part_of e (whole e)) (after_commas es) ts)) (exp_head e (after_commas es ++ ts))

exps_long : (es : Exps) (ts : List Part) → count es ≤ length (after_first (after_commas es) ++ ts) + 1
exps_long es ts = omega (arith, counted es, length-append (after_first (after_commas es)) ts, shorter (after_commas es))
  where
    shorter : (ts : List Part) → length ts ≤ length (after_first ts) + 1
    shorter [] = omega arith
    shorter (p ∷ ts) = omega arith

assign_read : (xs es : Exps) → SomeExps xs → SomeExps es → count xs ≡ count es → PartsAgain xs → PartsAgain es → (n nest round : ℕ) (rest : List Part) → max (exps_height xs) (exps_height es) + 1 ≤ nest → max (exps_rounds xs) (exps_rounds es) ≤ round → nest + round ≤ n + 1 → After rest
    → First n nest round (after_first (after_commas xs) ++ A sign.Assign ∷ (after_first (after_commas es) ++ rest)) ≡ Ok (piece (tree.Assign xs es) (max (exps_height xs) (exps_height es) + 1) rest)
unfolding assigned_read
assign_read xs es some others same first second n nest round rest high deep enough end =
    let ts : List Part = after_first (after_commas xs) ++ A sign.Assign ∷ (after_first (after_commas es) ++ rest) in
    rw (
      (exps_head xs some (A sign.Assign ∷ (after_first (after_commas es) ++ rest))).no_simple,
      exps_again xs some first n (nest - 1) round 1 (length ts + 1) (A sign.Assign ∷ (after_first (after_commas es) ++ rest)) (exps_long xs _) (omega arith) (omega arith) (omega arith) refl refl,
      exps_again es others second n (nest - 1) round 1 (count xs) rest (omega arith) (omega arith) (omega arith) (omega arith) end.stops end.no_comma,
      eq-eqb (count es) (count xs) (sym same),
    ) refl

as_many : (xs es : Exps) → SomeExps xs → count xs ≡ count es → SomeExps es
as_many none es some same = absurd some
as_many (more x xs) none some same = absurd (omega arith)
as_many (more x xs) (more e es) some same = tt

pub assign_again : (xs es : Exps) → SomeExps xs → count xs ≡ count es → PartsAgain xs → PartsAgain es → SimpleAgain (tree.Assign xs es)
assign_again xs es some same first second n nest round rest high deep enough end quiet =
    let regroup : command_spelling (tree.Assign xs es) ++ rest ≡ after_first (after_commas xs) ++ A sign.Assign ∷ (after_first (after_commas es) ++ rest) = append_assoc (after_first (after_commas xs)) (A sign.Assign ∷ after_first (after_commas es)) rest in
    unwound (tree.Assign xs es) n nest round rest refl
    (ap (First n nest round) regroup ∙ assign_read xs es some (as_many xs es some same) same first second n nest round rest high deep enough end)
    (ap (word_in command_word_of) regroup ∙ (exps_head xs some _).no_command)

one_exp_read : (n nest round limit : ℕ) (ts rest : List Part) (e : Exp) (height : ℕ) → exp_of n nest round 1 ts ≡ Ok (piece e height rest) → after_of sign.Comma rest ≡ None
    → exps_read (exp_of n) nest round 1 limit ts ≡ Ok (piece (more e none) (max 0 height) rest)
unfolding exps_read
one_exp_read n nest round limit ts rest e height read no_comma =
    rw (add-one (length ts)) (turn_last (exps_turn (exp_of n) nest round 1 limit) (length ts) (piece none 0 ts) (piece (more e none) (max 0 height) rest) (last_exp (exp_of n) nest round 1 limit (piece none 0 ts) e height rest read no_comma))

do_read_again : (f : Exp) (es : Exps) → WholeAgain (tree.Call f es) → (n nest round : ℕ) (rest : List Part) → exp_height (tree.Call f es) + 1 ≤ nest → exp_rounds (tree.Call f es) ≤ round → nest + round ≤ n + 1 → After rest
    → word_in simple_word_of (whole (tree.Call f es) ++ rest) ≡ None
    → First n nest round (whole (tree.Call f es) ++ rest) ≡ Ok (piece (tree.Do f es) (exp_height (tree.Call f es) + 1) rest)
unfolding assigned_read
do_read_again f es again n nest round rest high deep enough end head =
    let g : max 0 (exp_height (tree.Call f es)) + 1 ≡ exp_height (tree.Call f es) + 1 = omega arith in
    let ts : List Part = whole (tree.Call f es) ++ rest in
    rw (head, one_exp_read n (nest - 1) round (length ts + 1) ts rest (tree.Call f es) (exp_height (tree.Call f es)) (again n (nest - 1) round rest (omega arith) deep (omega arith) end tt) end.no_comma, end.no_assign, g) refl

pub do_again : (f : Exp) (es : Exps) → WholeAgain (tree.Call f es) → SimpleAgain (tree.Do f es)
do_again f es again n nest round rest high deep enough end quiet =
    let regroup : whole (tree.Call f es) ++ rest ≡ routine_of f (whole f) ++ A sign.OpenBracket ∷ ((after_first (after_commas es) ++ A sign.CloseBracket ∷ []) ++ rest) = append_assoc (routine_of f (whole f)) _ rest in
    let head = subst ExpHead (sym regroup) (routine_head f _) in
    unwound (tree.Do f es) n nest round rest refl (do_read_again f es again n nest round rest high deep enough end head.no_simple) head.no_command

compound_read : (b : Block) → BlockAgain b → (n nest round : ℕ) (rest : List Part) → block_height b + 1 ≤ nest → block_rounds b ≤ round → nest + round ≤ n + 1
    → First n nest round (command_spelling (tree.Compound b) ++ rest) ≡ Ok (piece (tree.Compound b) (block_height b + 1) rest)
unfolding simple_read
compound_read (block ds is) again n nest round rest high deep enough = rw (again n (nest - 1) round rest (omega arith) deep (omega arith)) refl

compound_head : (b : Block) (rest : List Part) → word_in command_word_of (command_spelling (tree.Compound b) ++ rest) ≡ None
compound_head (block ds is) rest = refl

pub compound_again : (b : Block) → BlockAgain b → SimpleAgain (tree.Compound b)
compound_again b again n nest round rest high deep enough end quiet =
    unwound (tree.Compound b) n nest round rest refl (compound_read b again n nest round rest high deep enough) (compound_head b rest)

pub break_again : SimpleAgain tree.Break
unfolding simple_read
break_again n nest round rest high deep enough end quiet = unwound tree.Break n nest round rest refl refl refl

pub loop_again : SimpleAgain tree.Loop
unfolding simple_read
loop_again n nest round rest high deep enough end quiet = unwound tree.Loop n nest round rest refl refl refl

pub end_case_again : SimpleAgain tree.EndCase
unfolding simple_read
end_case_again n nest round rest high deep enough end quiet = unwound tree.EndCase n nest round rest refl refl refl

pub return_again : SimpleAgain tree.Return
unfolding simple_read
return_again n nest round rest high deep enough end quiet = unwound tree.Return n nest round rest refl refl refl

pub finish_again : SimpleAgain tree.Finish
unfolding simple_read
finish_again n nest round rest high deep enough end quiet = unwound tree.Finish n nest round rest refl refl refl

pub goto_again : (s : List ℕ) → SimpleAgain (tree.Goto s)
unfolding simple_read
goto_again s n nest round rest high deep enough end quiet = unwound (tree.Goto s) n nest round rest refl refl refl

pub result_again : (e : Exp) → WholeAgain e → SimpleAgain (tree.ResultIs e)
unfolding simple_read
result_again e again n nest round rest high deep enough end quiet =
    unwound (tree.ResultIs e) n nest round rest refl (rw (again n (nest - 1) round rest (omega arith) deep (omega arith) end quiet) refl) refl

-- ---- REPEAT words

repeat_turned : (n nest round : ℕ) (s : Piece Command) (rest : List Part) → s.rest ≡ A sign.Repeat ∷ rest → s.height < nest → repeat_turn (exp_of n) nest round s ≡ Ok (piece (tree.Repeat s.tree) (s.height + 1) rest, false)
unfolding repeat_turn repeated
repeat_turned n nest round s rest is room = rw (is, lt-ltb s.height nest room) refl

while_turned : (n nest round : ℕ) (s : Piece Command) (after rest : List Part) (e : Exp) (height : ℕ) → s.rest ≡ A sign.RepeatWhile ∷ after → s.height < nest → exp_of n (nest - 1) round 1 after ≡ Ok (piece e height rest)
    → repeat_turn (exp_of n) nest round s ≡ Ok (piece (tree.RepeatWhile s.tree e) (max s.height height + 1) rest, false)
unfolding repeat_turn repeated
while_turned n nest round s after rest e height is room read = rw (is, lt-ltb s.height nest room, read) refl

until_turned : (n nest round : ℕ) (s : Piece Command) (after rest : List Part) (e : Exp) (height : ℕ) → s.rest ≡ A sign.RepeatUntil ∷ after → s.height < nest → exp_of n (nest - 1) round 1 after ≡ Ok (piece e height rest)
    → repeat_turn (exp_of n) nest round s ≡ Ok (piece (tree.RepeatUntil s.tree e) (max s.height height + 1) rest, false)
unfolding repeat_turn repeated
until_turned n nest round s after rest e height is room read = rw (is, lt-ltb s.height nest room, read) refl

pub repeat_again : (c : Command) → SimpleAgain c → EndsInNoValof c → SimpleAgain (tree.Repeat c)
repeat_again c again no_end n nest round rest high deep enough end quiet =
    let step = repeat_turn (exp_of n) nest round in
    let remaining : List Part = A sign.Repeat ∷ rest in
    let regroup : command_spelling (tree.Repeat c) ++ rest ≡ command_spelling c ++ remaining = append_assoc (command_spelling c) (A sign.Repeat ∷ []) rest in
    let inner : Unwound c n nest round remaining = again n nest round remaining (omega arith) deep enough (record { stops = refl; no_comma = refl; no_assign = refl }) (no_valof_end c remaining no_end) in
    record {
      base = inner.base;
      read = ap (First n nest round) regroup ∙ inner.read;
      no_command = ap (word_in command_word_of) regroup ∙ inner.no_command;
      turned = λ j k is. inner.turned j (suc k) (omega arith) ∙ turn_next step k (piece c (command_height c) remaining) (piece (tree.Repeat c) (command_height c + 1) rest) (repeat_turned n nest round (piece c (command_height c) remaining) rest refl (omega arith));
      long = omega (arith, inner.long);
    }

pub repeat_while_again : (c : Command) (e : Exp) → SimpleAgain c → WholeAgain e → EndsInNoValof c → SimpleAgain (tree.RepeatWhile c e)
repeat_while_again c e again test no_end n nest round rest high deep enough end quiet =
    let step = repeat_turn (exp_of n) nest round in
    let remaining : List Part = A sign.RepeatWhile ∷ (whole e ++ rest) in
    let regroup : command_spelling (tree.RepeatWhile c e) ++ rest ≡ command_spelling c ++ remaining = append_assoc (command_spelling c) (A sign.RepeatWhile ∷ whole e) rest in
    let inner : Unwound c n nest round remaining = again n nest round remaining (omega arith) (omega arith) enough (record { stops = refl; no_comma = refl; no_assign = refl }) (no_valof_end c remaining no_end) in
    let read : exp_of n (nest - 1) round 1 (whole e ++ rest) ≡ Ok (piece e (exp_height e) rest) = test n (nest - 1) round rest (omega arith) (omega arith) (omega arith) end quiet in
    record {
      base = inner.base;
      read = ap (First n nest round) regroup ∙ inner.read;
      no_command = ap (word_in command_word_of) regroup ∙ inner.no_command;
      turned = λ j k is. inner.turned j (suc k) (omega arith) ∙ turn_next step k (piece c (command_height c) remaining) (piece (tree.RepeatWhile c e) (max (command_height c) (exp_height e) + 1) rest) (while_turned n nest round (piece c (command_height c) remaining) (whole e ++ rest) rest e (exp_height e) refl (omega arith) read);
      long = omega (arith, inner.long, length-append (whole e) rest);
    }

pub repeat_until_again : (c : Command) (e : Exp) → SimpleAgain c → WholeAgain e → EndsInNoValof c → SimpleAgain (tree.RepeatUntil c e)
repeat_until_again c e again test no_end n nest round rest high deep enough end quiet =
    let step = repeat_turn (exp_of n) nest round in
    let remaining : List Part = A sign.RepeatUntil ∷ (whole e ++ rest) in
    let regroup : command_spelling (tree.RepeatUntil c e) ++ rest ≡ command_spelling c ++ remaining = append_assoc (command_spelling c) (A sign.RepeatUntil ∷ whole e) rest in
    let inner : Unwound c n nest round remaining = again n nest round remaining (omega arith) (omega arith) enough (record { stops = refl; no_comma = refl; no_assign = refl }) (no_valof_end c remaining no_end) in
    let read : exp_of n (nest - 1) round 1 (whole e ++ rest) ≡ Ok (piece e (exp_height e) rest) = test n (nest - 1) round rest (omega arith) (omega arith) (omega arith) end quiet in
    record {
      base = inner.base;
      read = ap (First n nest round) regroup ∙ inner.read;
      no_command = ap (word_in command_word_of) regroup ∙ inner.no_command;
      turned = λ j k is. inner.turned j (suc k) (omega arith) ∙ turn_next step k (piece c (command_height c) remaining) (piece (tree.RepeatUntil c e) (max (command_height c) (exp_height e) + 1) rest) (until_turned n nest round (piece c (command_height c) remaining) (whole e ++ rest) rest e (exp_height e) refl (omega arith) read);
      long = omega (arith, inner.long, length-append (whole e) rest);
    }

-- ---- the whole command

no_repeat_turn : (n nest round : ℕ) (s : Piece Command) → NoRepeat s.rest → repeat_turn (exp_of n) nest round s ≡ Ok (s, true)
unfolding repeat_turn
no_repeat_turn n nest round s quiet = rw quiet refl

all_turned : (c : Command) (n nest round : ℕ) (rest : List Part) (u : Unwound c n nest round rest) → NoRepeat rest → repeats_read (exp_of n) nest round u.base ≡ Ok (piece c (command_height c) rest)
unfolding repeats_read
all_turned c n nest round rest u quiet =
    let k = length u.base.rest - repeats c in
    u.turned (length u.base.rest + 1) (suc k) (omega (arith, u.long)) ∙ turn_last (repeat_turn (exp_of n) nest round) k (piece c (command_height c) rest) (piece c (command_height c) rest) (no_repeat_turn n nest round (piece c (command_height c) rest) quiet)

command_height_positive : (c : Command) → 0 < command_height c
command_height_positive (tree.Assign xs es) = omega arith
command_height_positive (tree.Do f es) = omega arith
command_height_positive (tree.Compound b) = omega arith
command_height_positive (tree.Repeat c) = omega arith
command_height_positive (tree.RepeatWhile c e) = omega arith
command_height_positive (tree.RepeatUntil c e) = omega arith
command_height_positive (tree.ResultIs e) = omega arith
command_height_positive (tree.If e b) = omega arith
command_height_positive (tree.Unless e b) = omega arith
command_height_positive (tree.While e b) = omega arith
command_height_positive (tree.Until e b) = omega arith
command_height_positive (tree.Test e b d) = omega arith
command_height_positive (tree.For n a z b) = omega arith
command_height_positive (tree.ForBy n a z k b) = omega arith
command_height_positive (tree.SwitchOn e is) = omega arith
command_height_positive _ = omega arith

simple_runs : (c : Command) (n nest round : ℕ) (rest : List Part) → Unwound c n nest round rest → NoRepeat rest → command_read (exp_of n) (command_of n) (definition_of n) nest round (command_spelling c ++ rest) ≡ Ok (piece c (command_height c) rest)
unfolding command_read repeatable_read
simple_runs c n nest round rest u quiet = rw (u.no_command, u.read) (all_turned c n nest round rest u quiet)

pub simple_command : (c : Command) → SimpleAgain c → CommandAgain c
simple_command c again n nest round rest high deep enough end =
    command_runs n nest round _ _ (omega (arith, command_height_positive c)) enough (λ m le. simple_runs c m nest round rest (again m nest round rest high deep le end.remaining (quiet_end c rest end.no_repeat)) end.no_repeat)
