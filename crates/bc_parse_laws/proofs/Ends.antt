-- What ends an expression or a command, what an item or an expression begins with, and how a loop goes on.
use Rattle.std.proofs.Common.{◌≡◌, ℕ, suc, Bool, true, false, List, [], ◌∷◌, ◌++◌, None, Result, Ok, refl, sym, subst, append_assoc}
use Rattle.bc_lex_tokens.specs.declared.symbol.Symbol.TheVariants as sign
use Rattle.bc_parse_tree.specs.Parts.{Part, A, Name, Number, Character, String, NewLine}
use Rattle.bc_parse_tree.specs.Tree.{Exp, Exps, none, more, block, Command}
use Rattle.bc_parse_tree.specs.Tree as tree
use Rattle.bc_parse_tree.specs.Canonical.{whole, part_of, routine_of, after_commas, after_first, command_spelling}
use Rattle.bc_parse_defs.specs.Reading.{Fault, Piece, turns, Ends, ends, following, after_of, separator_of, word_in, repeat_word_of, command_word_of, simple_word_of, declaration_word_of, NoLabel, label_start}
use Rattle.bc_parse_laws.proofs.Formed.{EndsInNoValof, FormedCommand}

-- ---- a loop's turns

module _ {X : Type 0} (step : Piece X → Result (Piece X × Bool) Fault) where
  pub turn_last : (k : ℕ) (s t : Piece X) → step s ≡ Ok (t, true) → turns step (suc k) s ≡ Ok t
  unfolding turns
  turn_last k s t e = rw e refl

  pub turn_next : (k : ℕ) (s t : Piece X) → step s ≡ Ok (t, false) → turns step (suc k) s ≡ turns step k t
  unfolding turns
  turn_next k s t e = rw e refl

-- ---- what follows

-- here nothing continues an expression
abbrev pub Stops : List Part → Type 0
Stops ts = ends (following 0 12 ts) ≡ true

abbrev pub NoRepeat : List Part → Type 0
NoRepeat ts = word_in repeat_word_of ts ≡ None

-- here nothing continues an expression or a list of them
pub record After (ts : List Part) : Type 0 where
  pub stops : Stops ts
  pub no_comma : after_of sign.Comma ts ≡ None
  pub no_assign : after_of sign.Assign ts ≡ None

-- a VALOF's body isn't repeated
abbrev pub Unrepeated : Exp → List Part → Type 0
Unrepeated (tree.Valof b) ts = NoRepeat ts
Unrepeated _ ts = Unit {0}

pub unrepeated : (e : Exp) (ts : List Part) → NoRepeat ts → Unrepeated e ts
unrepeated (tree.Valof b) ts h = h
unrepeated (tree.Name s) ts h = tt
unrepeated (tree.Num n) ts h = tt
unrepeated (tree.Character n) ts h = tt
unrepeated (tree.Text s) ts h = tt
unrepeated tree.True ts h = tt
unrepeated tree.False ts h = tt
unrepeated (tree.Table ks) ts h = tt
unrepeated (tree.Unary m e) ts h = tt
unrepeated (tree.Bin o l r) ts h = tt
unrepeated (tree.Cond c x y) ts h = tt
unrepeated (tree.Call f es) ts h = tt

pub stops_here : (level top : ℕ) (ts : List Part) → Stops ts → following level top ts ≡ Ends
stops_here level top [] e = refl
stops_here level top (Name n ∷ ts) e = refl
stops_here level top (Number n ∷ ts) e = refl
stops_here level top (Character n ∷ ts) e = refl
stops_here level top (String n ∷ ts) e = refl
stops_here level top (NewLine ∷ ts) e = refl
stops_here level top (A sign.OpenBracket ∷ ts) e = absurd cc
stops_here level top (A sign.Arrow ∷ ts) e = absurd cc
stops_here level top (A sign.Equivalent ∷ ts) e = absurd cc
stops_here level top (A sign.NotEquivalent ∷ ts) e = absurd cc
stops_here level top (A sign.LogicalOr ∷ ts) e = absurd cc
stops_here level top (A sign.LogicalAnd ∷ ts) e = absurd cc
stops_here level top (A sign.ShiftLeft ∷ ts) e = absurd cc
stops_here level top (A sign.ShiftRight ∷ ts) e = absurd cc
stops_here level top (A sign.Equal ∷ ts) e = absurd cc
stops_here level top (A sign.NotEqual ∷ ts) e = absurd cc
stops_here level top (A sign.Less ∷ ts) e = absurd cc
stops_here level top (A sign.GreaterEqual ∷ ts) e = absurd cc
stops_here level top (A sign.Greater ∷ ts) e = absurd cc
stops_here level top (A sign.LessEqual ∷ ts) e = absurd cc
stops_here level top (A sign.Plus ∷ ts) e = absurd cc
stops_here level top (A sign.Minus ∷ ts) e = absurd cc
stops_here level top (A sign.Multiply ∷ ts) e = absurd cc
stops_here level top (A sign.Divide ∷ ts) e = absurd cc
stops_here level top (A sign.Remainder ∷ ts) e = absurd cc
stops_here level top (A sign.Indirection ∷ ts) e = absurd cc
stops_here level top (A _ ∷ ts) e = refl

-- ---- what comes first

-- at an expression that is part of another one or of a list
pub record ExpHead (ts : List Part) : Type 0 where
  pub no_close : after_of sign.CloseBracket ts ≡ None
  pub no_vector : after_of sign.Vector ts ≡ None
  pub no_command : word_in command_word_of ts ≡ None
  pub no_simple : word_in simple_word_of ts ≡ None

abbrev name_head : (n : List ℕ) (ts : List Part) → ExpHead (Name n ∷ ts)
name_head n ts = record { no_close = refl; no_vector = refl; no_command = refl; no_simple = refl }

abbrev bracket_head : (ts : List Part) → ExpHead (A sign.OpenBracket ∷ ts)
bracket_head ts = record { no_close = refl; no_vector = refl; no_command = refl; no_simple = refl }

pub exp_head : (e : Exp) (ts : List Part) → ExpHead (part_of e (whole e) ++ ts)
exp_head (tree.Name n) ts = name_head n ts
exp_head (tree.Num n) ts = record { no_close = refl; no_vector = refl; no_command = refl; no_simple = refl }
exp_head (tree.Character n) ts = record { no_close = refl; no_vector = refl; no_command = refl; no_simple = refl }
exp_head (tree.Text n) ts = record { no_close = refl; no_vector = refl; no_command = refl; no_simple = refl }
exp_head tree.True ts = record { no_close = refl; no_vector = refl; no_command = refl; no_simple = refl }
exp_head tree.False ts = record { no_close = refl; no_vector = refl; no_command = refl; no_simple = refl }
exp_head (tree.Table ks) ts = bracket_head _
exp_head (tree.Valof b) ts = bracket_head _
exp_head (tree.Unary m e) ts = bracket_head _
exp_head (tree.Bin o l r) ts = bracket_head _
exp_head (tree.Cond c x y) ts = bracket_head _
exp_head (tree.Call f es) ts = bracket_head _

pub routine_head : (e : Exp) (ts : List Part) → ExpHead (routine_of e (whole e) ++ ts)
routine_head (tree.Name n) ts = name_head n ts
routine_head (tree.Num n) ts = bracket_head _
routine_head (tree.Character n) ts = bracket_head _
routine_head (tree.Text n) ts = bracket_head _
routine_head tree.True ts = bracket_head _
routine_head tree.False ts = bracket_head _
routine_head (tree.Table ks) ts = bracket_head _
routine_head (tree.Valof b) ts = bracket_head _
routine_head (tree.Unary m e) ts = bracket_head _
routine_head (tree.Bin o l r) ts = bracket_head _
routine_head (tree.Cond c x y) ts = bracket_head _
routine_head (tree.Call f es) ts = bracket_head _

-- at an item
pub record ItemHead (ts : List Part) : Type 0 where
  pub no_separator : separator_of ts ≡ None
  pub no_close : after_of sign.CloseSection ts ≡ None
  pub no_declaration : word_in declaration_word_of ts ≡ None

-- at a command
pub record CommandHead (ts : List Part) : Type 0 where
  pub no_separator : separator_of ts ≡ None
  pub no_close : after_of sign.CloseSection ts ≡ None
  pub no_declaration : word_in declaration_word_of ts ≡ None
  pub no_label : label_start ts ≡ NoLabel

assign_head : (e : Exp) (es : Exps) (ts : List Part) → CommandHead (part_of e (whole e) ++ (after_commas es ++ A sign.Assign ∷ ts))
assign_head (tree.Name n) none ts = record { no_separator = refl; no_close = refl; no_declaration = refl; no_label = refl }
assign_head (tree.Name n) (more e es) ts = record { no_separator = refl; no_close = refl; no_declaration = refl; no_label = refl }
assign_head (tree.Num n) es ts = record { no_separator = refl; no_close = refl; no_declaration = refl; no_label = refl }
assign_head (tree.Character n) es ts = record { no_separator = refl; no_close = refl; no_declaration = refl; no_label = refl }
assign_head (tree.Text n) es ts = record { no_separator = refl; no_close = refl; no_declaration = refl; no_label = refl }
assign_head tree.True es ts = record { no_separator = refl; no_close = refl; no_declaration = refl; no_label = refl }
assign_head tree.False es ts = record { no_separator = refl; no_close = refl; no_declaration = refl; no_label = refl }
assign_head (tree.Table ks) es ts = record { no_separator = refl; no_close = refl; no_declaration = refl; no_label = refl }
assign_head (tree.Valof b) es ts = record { no_separator = refl; no_close = refl; no_declaration = refl; no_label = refl }
assign_head (tree.Unary m e) es ts = record { no_separator = refl; no_close = refl; no_declaration = refl; no_label = refl }
assign_head (tree.Bin o l r) es ts = record { no_separator = refl; no_close = refl; no_declaration = refl; no_label = refl }
assign_head (tree.Cond c x y) es ts = record { no_separator = refl; no_close = refl; no_declaration = refl; no_label = refl }
assign_head (tree.Call f gs) es ts = record { no_separator = refl; no_close = refl; no_declaration = refl; no_label = refl }

call_head : (f : Exp) (ts : List Part) → CommandHead (routine_of f (whole f) ++ A sign.OpenBracket ∷ ts)
call_head (tree.Name n) ts = record { no_separator = refl; no_close = refl; no_declaration = refl; no_label = refl }
call_head (tree.Num n) ts = record { no_separator = refl; no_close = refl; no_declaration = refl; no_label = refl }
call_head (tree.Character n) ts = record { no_separator = refl; no_close = refl; no_declaration = refl; no_label = refl }
call_head (tree.Text n) ts = record { no_separator = refl; no_close = refl; no_declaration = refl; no_label = refl }
call_head tree.True ts = record { no_separator = refl; no_close = refl; no_declaration = refl; no_label = refl }
call_head tree.False ts = record { no_separator = refl; no_close = refl; no_declaration = refl; no_label = refl }
call_head (tree.Table ks) ts = record { no_separator = refl; no_close = refl; no_declaration = refl; no_label = refl }
call_head (tree.Valof b) ts = record { no_separator = refl; no_close = refl; no_declaration = refl; no_label = refl }
call_head (tree.Unary m e) ts = record { no_separator = refl; no_close = refl; no_declaration = refl; no_label = refl }
call_head (tree.Bin o l r) ts = record { no_separator = refl; no_close = refl; no_declaration = refl; no_label = refl }
call_head (tree.Cond c x y) ts = record { no_separator = refl; no_close = refl; no_declaration = refl; no_label = refl }
call_head (tree.Call f es) ts = record { no_separator = refl; no_close = refl; no_declaration = refl; no_label = refl }

pub command_head : (c : Command) → FormedCommand EndsInNoValof c → (ts : List Part) → CommandHead (command_spelling c ++ ts)
command_head (tree.Assign none es) formed ts = absurd formed.0
command_head (tree.Assign (more x xs) es) formed ts =
    subst CommandHead (sym (simp append_assoc)) (assign_head x xs (after_first (after_commas es) ++ ts))
command_head (tree.Do f es) formed ts = subst CommandHead (sym (simp append_assoc)) (call_head f (after_first (after_commas es) ++ A sign.CloseBracket ∷ ts))
command_head (tree.Compound (block ds is)) formed ts = record { no_separator = refl; no_close = refl; no_declaration = refl; no_label = refl }
command_head tree.Break formed ts = record { no_separator = refl; no_close = refl; no_declaration = refl; no_label = refl }
command_head tree.Loop formed ts = record { no_separator = refl; no_close = refl; no_declaration = refl; no_label = refl }
command_head tree.EndCase formed ts = record { no_separator = refl; no_close = refl; no_declaration = refl; no_label = refl }
command_head tree.Return formed ts = record { no_separator = refl; no_close = refl; no_declaration = refl; no_label = refl }
command_head tree.Finish formed ts = record { no_separator = refl; no_close = refl; no_declaration = refl; no_label = refl }
command_head (tree.ResultIs e) formed ts = record { no_separator = refl; no_close = refl; no_declaration = refl; no_label = refl }
command_head (tree.Goto n) formed ts = record { no_separator = refl; no_close = refl; no_declaration = refl; no_label = refl }
command_head (tree.Repeat c) formed ts = subst CommandHead (sym (append_assoc (command_spelling c) _ ts)) (command_head c formed.2 _)
command_head (tree.RepeatWhile c e) formed ts = subst CommandHead (sym (append_assoc (command_spelling c) _ ts)) (command_head c formed.2 _)
command_head (tree.RepeatUntil c e) formed ts = subst CommandHead (sym (append_assoc (command_spelling c) _ ts)) (command_head c formed.2 _)
command_head (tree.If e b) formed ts = record { no_separator = refl; no_close = refl; no_declaration = refl; no_label = refl }
command_head (tree.Unless e b) formed ts = record { no_separator = refl; no_close = refl; no_declaration = refl; no_label = refl }
command_head (tree.While e b) formed ts = record { no_separator = refl; no_close = refl; no_declaration = refl; no_label = refl }
command_head (tree.Until e b) formed ts = record { no_separator = refl; no_close = refl; no_declaration = refl; no_label = refl }
command_head (tree.Test e b d) formed ts = record { no_separator = refl; no_close = refl; no_declaration = refl; no_label = refl }
command_head (tree.For n a z b) formed ts = record { no_separator = refl; no_close = refl; no_declaration = refl; no_label = refl }
command_head (tree.ForBy n a z k b) formed ts = record { no_separator = refl; no_close = refl; no_declaration = refl; no_label = refl }
command_head (tree.SwitchOn e is) formed ts = record { no_separator = refl; no_close = refl; no_declaration = refl; no_label = refl }
