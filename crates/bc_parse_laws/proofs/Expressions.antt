-- Canonical spellings of expressions are read back.
use Rattle.std.proofs.Common.{◌≡◌, ℕ, zero, suc, ◌-◌, ◌+◌, ◌<◌, ◌≤◌, Bool, true, false, cond, eqb, List, [], ◌∷◌, ◌++◌, length, max, None, Result, Ok, refl, ap, ◌∙◌, append_assoc, arith}
use Rattle.std.proofs.Math.Numerals.{add-one}
use Rattle.std.proofs.lemmas.Bool.{lt-ltb, eqb-true}
use Rattle.std.proofs.lemmas.List.{length-append}
use Rattle.bc_lex_tokens.specs.declared.symbol.Symbol.TheVariants as sign
use Rattle.bc_parse_tree.specs.declared.tree.BinaryOp as code_binary
use Rattle.bc_parse_tree.specs.declared.tree.BinaryOp.TheVariants as binary
use Rattle.bc_parse_tree.specs.declared.tree.UnaryOp as code_unary
use Rattle.bc_parse_tree.specs.declared.tree.UnaryOp.TheVariants as unary
use Rattle.bc_parse_tree.specs.Parts.{Part, A}
use Rattle.bc_parse_tree.specs.Tree.{Exp, Exps, none, more}
use Rattle.bc_parse_tree.specs.Tree as tree
use Rattle.bc_parse_tree.specs.Operators.{level_of, own_level, binary_sign}
use Rattle.bc_parse_tree.specs.Spelling.{in_round, add_exp, count}
use Rattle.bc_parse_tree.specs.Canonical.{whole, part_of, routine_of, after_commas, after_first}
use Rattle.bc_parse_tree.specs.Height.{exp_height, exps_height}
use Rattle.bc_parse_defs.specs.Reading.{Fault, ◌>>=◌, Piece, piece, turns, Reader, Following, Operator, Arguments, Choice, ends, following, after_of, exps_turn, exps_read, next_exp, arguments_read, with_operator, with_arguments, with_choice, suffix_read, grow_turn, grow_read, bracket_read, table_read, unary_read, started_read, operand_read, exp_of, command_of, definition_of}
use Rattle.bc_parse_laws.proofs.Rounds.{part_rounds, routine_rounds, exp_rounds, exps_rounds}
use Rattle.bc_parse_laws.proofs.Formed.{SomeExps}
use Rattle.bc_parse_laws.proofs.Ends.{turn_last, turn_next, Stops, After, Unrepeated, unrepeated, stops_here, exp_head}

pub height_positive : (e : Exp) → 0 < exp_height e
height_positive (tree.Name s) = omega arith
height_positive (tree.Num n) = omega arith
height_positive (tree.Character n) = omega arith
height_positive (tree.Text s) = omega arith
height_positive tree.True = omega arith
height_positive tree.False = omega arith
height_positive (tree.Table ks) = omega arith
height_positive (tree.Valof b) = omega arith
height_positive (tree.Unary m e) = omega arith
height_positive (tree.Bin o l r) = omega arith
height_positive (tree.Cond c x y) = omega arith
height_positive (tree.Call f es) = omega arith

-- ---- after an operand

module _ (E : Reader) (nest round begin : ℕ) where
  last_turn : (level : ℕ) (s : Piece (Exp × ℕ)) → Stops s.rest → grow_turn E nest round begin level s ≡ Ok (s, true)
  unfolding grow_turn
  last_turn level s stop = rw (stops_here level s.tree.1 s.rest stop) refl

  -- nothing follows
  pub grow_ends : (level : ℕ) (s : Piece (Exp × ℕ)) → Stops s.rest → grow_read E nest round begin level s ≡ Ok (piece s.tree.0 s.height s.rest)
  unfolding grow_read
  grow_ends level s stop = rw (add-one (length s.rest), turn_last (grow_turn E nest round begin level) (length s.rest) s s (last_turn level s stop)) refl

  one_turn : (s : Piece (Exp × ℕ)) (f : Following) (t : Piece (Exp × ℕ)) → following 1 s.tree.1 s.rest ≡ f → ends f ≡ false
      → suffix_read E nest round begin f s.tree.0 s.height (length s.rest) ≡ Ok t → grow_turn E nest round begin 1 s ≡ Ok (t, false)
  unfolding grow_turn
  one_turn s f t is goes_on read = rw (is, goes_on, read) refl

  -- one thing follows
  pub grow_once : (s : Piece (Exp × ℕ)) (p : Part) (ts : List Part) (f : Following) (t : Piece (Exp × ℕ)) → s.rest ≡ p ∷ ts → following 1 s.tree.1 s.rest ≡ f → ends f ≡ false
      → suffix_read E nest round begin f s.tree.0 s.height (length s.rest) ≡ Ok t → Stops t.rest → grow_read E nest round begin 1 s ≡ Ok (piece t.tree.0 t.height t.rest)
  unfolding grow_read
  grow_once s p ts f t front is goes_on read stop =
      let long : length s.rest + 1 ≡ suc (suc (length ts)) = ap (λ (r : List Part). length r + 1) front ∙ add-one (suc (length ts)) in
      let first = turn_next (grow_turn E nest round begin 1) (suc (length ts)) s t (one_turn s f t is goes_on read) in
      let last = turn_last (grow_turn E nest round begin 1) (length ts) t t (last_turn 1 t stop) in
      rw (long, first, last) refl

-- ---- expressions

-- the whole expression is read back, if nothing after it continues it
abbrev pub WholeAgain : Exp → Type 0
WholeAgain e = (n nest round : ℕ) (rest : List Part) → exp_height e ≤ nest → exp_rounds e ≤ round → nest + round ≤ n → After rest → Unrepeated e rest → exp_of n nest round 1 (whole e ++ rest) ≡ Ok (piece e (exp_height e) rest)

-- the same for an expression that is part of another one or of a list
abbrev pub PartAgain : Exp → Type 0
PartAgain e = (n nest round level : ℕ) (rest : List Part) → exp_height e ≤ nest → part_rounds e (exp_rounds e) ≤ round → nest + round ≤ n → Stops rest → exp_of n nest round level (part_of e (whole e) ++ rest) ≡ Ok (piece e (exp_height e) rest)

abbrev pub PartsAgain : Exps → Type 0
PartsAgain none = Unit {0}
PartsAgain (more e es) = PartAgain e × PartsAgain es

abbrev pub Operand : ℕ → ℕ → ℕ → List Part → Result (Piece (Exp × ℕ)) Fault
Operand m nest round ts = operand_read (exp_of m) (command_of m) (definition_of m) nest round ts

-- an expression is an operand, and what continues it
pub exp_runs : (n nest round level : ℕ) (ts : List Part) (r : Result (Piece Exp) Fault) → 0 < nest → nest + round ≤ n
    → ((m : ℕ) → nest + round ≤ m + 1 → (Operand m nest round ts >>= λ p. grow_read (exp_of m) nest round (length ts) level p) ≡ r) → exp_of n nest round level ts ≡ r
unfolding exp_of
exp_runs zero nest round level ts r some enough read = absurd (omega arith)
exp_runs (suc n) nest round level ts r some enough read = rw (lt-ltb 0 nest some) (read n (omega arith))

-- an operand with nothing after it
pub operand_alone : (n nest round level : ℕ) (ts rest : List Part) (e : Exp) (top height : ℕ) → 0 < nest → nest + round ≤ n → Stops rest
    → ((m : ℕ) → nest + round ≤ m + 1 → Operand m nest round ts ≡ Ok (piece (e, top) height rest)) → exp_of n nest round level ts ≡ Ok (piece e height rest)
operand_alone n nest round level ts rest e top height some enough stop read =
    exp_runs n nest round level ts (Ok (piece e height rest)) some enough (λ m le. rw (read m le) (grow_ends (exp_of m) nest round (length ts) level (piece (e, top) height rest) stop))

bracket_after : (ts : List Part) → After (A sign.CloseBracket ∷ ts)
bracket_after ts = record { stops = refl; no_comma = refl; no_assign = refl }

bracket_again : (e : Exp) → WholeAgain e → (m nest round : ℕ) (rest : List Part) → exp_height e ≤ nest → exp_rounds e + 1 ≤ round → nest + round ≤ m + 1
    → Operand m nest round (in_round (whole e) ++ rest) ≡ Ok (piece (e, 12) (exp_height e) rest)
unfolding operand_read started_read bracket_read
bracket_again e again m nest round rest high deep enough =
    let inner : exp_of m nest (round - 1) 1 ((whole e ++ A sign.CloseBracket ∷ []) ++ rest) ≡ Ok (piece e (exp_height e) (A sign.CloseBracket ∷ rest)) =
    ap (exp_of m nest (round - 1) 1) (append_assoc (whole e) (A sign.CloseBracket ∷ []) rest)
    ∙ again m nest (round - 1) (A sign.CloseBracket ∷ rest) high (omega arith) (omega arith) (bracket_after rest) (unrepeated e (A sign.CloseBracket ∷ rest) refl) in
    rw (lt-ltb 0 round (omega arith), inner) refl

operand_again : (e : Exp) → WholeAgain e → (m nest round : ℕ) (rest : List Part) → exp_height e ≤ nest → part_rounds e (exp_rounds e) ≤ round → nest + round ≤ m + 1
    → Operand m nest round (part_of e (whole e) ++ rest) ≡ Ok (piece (e, 12) (exp_height e) rest)
unfolding operand_read
operand_again (tree.Name s) again m nest round rest high deep enough = refl
operand_again (tree.Num n) again m nest round rest high deep enough = refl
operand_again (tree.Character n) again m nest round rest high deep enough = refl
operand_again (tree.Text s) again m nest round rest high deep enough = refl
operand_again tree.True again m nest round rest high deep enough = refl
operand_again tree.False again m nest round rest high deep enough = refl
operand_again (tree.Table ks) again m nest round rest high deep enough = bracket_again (tree.Table ks) again m nest round rest high deep enough
operand_again (tree.Valof b) again m nest round rest high deep enough = bracket_again (tree.Valof b) again m nest round rest high deep enough
operand_again (tree.Unary o e) again m nest round rest high deep enough = bracket_again (tree.Unary o e) again m nest round rest high deep enough
operand_again (tree.Bin o l r) again m nest round rest high deep enough = bracket_again (tree.Bin o l r) again m nest round rest high deep enough
operand_again (tree.Cond c x y) again m nest round rest high deep enough = bracket_again (tree.Cond c x y) again m nest round rest high deep enough
operand_again (tree.Call f es) again m nest round rest high deep enough = bracket_again (tree.Call f es) again m nest round rest high deep enough

routine_again : (e : Exp) → WholeAgain e → (m nest round : ℕ) (rest : List Part) → exp_height e ≤ nest → routine_rounds e (exp_rounds e) ≤ round → nest + round ≤ m + 1
    → Operand m nest round (routine_of e (whole e) ++ rest) ≡ Ok (piece (e, 12) (exp_height e) rest)
unfolding operand_read
routine_again (tree.Name s) again m nest round rest high deep enough = refl
routine_again (tree.Num n) again m nest round rest high deep enough = bracket_again (tree.Num n) again m nest round rest high deep enough
routine_again (tree.Character n) again m nest round rest high deep enough = bracket_again (tree.Character n) again m nest round rest high deep enough
routine_again (tree.Text s) again m nest round rest high deep enough = bracket_again (tree.Text s) again m nest round rest high deep enough
routine_again tree.True again m nest round rest high deep enough = bracket_again tree.True again m nest round rest high deep enough
routine_again tree.False again m nest round rest high deep enough = bracket_again tree.False again m nest round rest high deep enough
routine_again (tree.Table ks) again m nest round rest high deep enough = bracket_again (tree.Table ks) again m nest round rest high deep enough
routine_again (tree.Valof b) again m nest round rest high deep enough = bracket_again (tree.Valof b) again m nest round rest high deep enough
routine_again (tree.Unary o e) again m nest round rest high deep enough = bracket_again (tree.Unary o e) again m nest round rest high deep enough
routine_again (tree.Bin o l r) again m nest round rest high deep enough = bracket_again (tree.Bin o l r) again m nest round rest high deep enough
routine_again (tree.Cond c x y) again m nest round rest high deep enough = bracket_again (tree.Cond c x y) again m nest round rest high deep enough
routine_again (tree.Call f es) again m nest round rest high deep enough = bracket_again (tree.Call f es) again m nest round rest high deep enough

pub part_again : (e : Exp) → WholeAgain e → PartAgain e
part_again e again n nest round level rest high deep enough stop =
    operand_alone n nest round level _ rest e 12 (exp_height e) (omega (arith, height_positive e)) enough stop (λ m le. operand_again e again m nest round rest high deep le)

-- ---- lists of expressions

abbrev pub append_exps : Exps → Exps → Exps
append_exps none es = es
append_exps (more d ds) es = more d (append_exps ds es)

append_one : (es : Exps) (e : Exp) → append_exps es (more e none) ≡ add_exp es e
append_one none e = refl
append_one (more d ds) e = ap (λ (r : Exps). more d r) (append_one ds e)

pub append_more : (es : Exps) (e : Exp) (ds : Exps) → append_exps (add_exp es e) ds ≡ append_exps es (more e ds)
append_more none e ds = refl
append_more (more d es) e ds = ap (λ (r : Exps). more d r) (append_more es e ds)

count_add : (es : Exps) (e : Exp) → count (add_exp es e) ≡ count es + 1
count_add none e = refl
count_add (more d ds) e = omega (arith, count_add ds e)

pub counted : (es : Exps) → count es ≤ length (after_commas es)
counted none = omega arith
counted (more e es) = omega (arith, counted es, length-append (part_of e (whole e)) (after_commas es))

list_stops : (es : Exps) (rest : List Part) → Stops rest → Stops (after_commas es ++ rest)
list_stops none rest stop = stop
list_stops (more e es) rest stop = refl

cond_same : {X : Type 0} (b : Bool) (x : X) → cond b x x ≡ x
cond_same true x = refl
cond_same false x = refl

less_is_other : (a b : ℕ) → a < b → eqb a b ≡ false
less_is_other a b less = go (eqb a b) refl
  where
    go : (t : Bool) → eqb a b ≡ t → t ≡ false
    go true e = let same = eqb-true a b e in absurd (omega arith)
    go false e = refl

next_is_last : (limit : ℕ) (p : Piece Exps) → after_of sign.Comma p.rest ≡ None → next_exp limit p ≡ Ok (p, true)
next_is_last limit p no_comma = rw no_comma (cond_same _ _)

module _ (E : Reader) (nest round level limit : ℕ) where
  pub last_exp : (s : Piece Exps) (e : Exp) (height : ℕ) (rest : List Part) → E nest round level s.rest ≡ Ok (piece e height rest) → after_of sign.Comma rest ≡ None
      → exps_turn E nest round level limit s ≡ Ok (piece (add_exp s.tree e) (max s.height height) rest, true)
  unfolding exps_turn
  last_exp s e height rest read no_comma = rw read (next_is_last limit (piece (add_exp s.tree e) (max s.height height) rest) no_comma)

  one_exp : (s : Piece Exps) (e : Exp) (height : ℕ) (rest : List Part) → E nest round level s.rest ≡ Ok (piece e height (A sign.Comma ∷ rest)) → count s.tree + 1 < limit
      → exps_turn E nest round level limit s ≡ Ok (piece (add_exp s.tree e) (max s.height height) rest, false)
  unfolding exps_turn
  one_exp s e height rest read room = rw (read, less_is_other (count (add_exp s.tree e)) limit (omega (arith, count_add s.tree e))) refl

elements_again : (es : Exps) → PartsAgain es → (e : Exp) → PartAgain e → (n k nest round level limit : ℕ) (found : Exps) (h : ℕ) (rest : List Part) → count es < k → count found + count es < limit
    → exp_height e ≤ nest → exps_height es ≤ nest → part_rounds e (exp_rounds e) ≤ round → exps_rounds es ≤ round → nest + round ≤ n → Stops rest → after_of sign.Comma rest ≡ None
    → turns (exps_turn (exp_of n) nest round level limit) k (piece found h (part_of e (whole e) ++ (after_commas es ++ rest)))
    ≡ Ok (piece (append_exps found (more e es)) (max h (max (exp_height e) (exps_height es))) rest)
elements_again es again e first n zero nest round level limit found h rest long room high high_more deep deep_more enough stop no_comma = absurd (omega arith)
elements_again none again e first n (suc k) nest round level limit found h rest long room high high_more deep deep_more enough stop no_comma =
    let m : max h (exp_height e) ≡ max h (max (exp_height e) 0) = omega arith in
    turn_last (exps_turn (exp_of n) nest round level limit) k (piece found h _) (piece (add_exp found e) (max h (exp_height e)) rest)
    (last_exp (exp_of n) nest round level limit (piece found h _) e (exp_height e) rest (first n nest round level rest high deep enough stop) no_comma)
    ∙ rw (append_one found e, m) refl
elements_again (more d es) again e first n (suc k) nest round level limit found h rest long room high high_more deep deep_more enough stop no_comma =
    let step = exps_turn (exp_of n) nest round level limit in
    let regroup : (part_of d (whole d) ++ after_commas es) ++ rest ≡ part_of d (whole d) ++ (after_commas es ++ rest) = append_assoc (part_of d (whole d)) (after_commas es) rest in
    let m : max (max h (exp_height e)) (max (exp_height d) (exps_height es)) ≡ max h (max (exp_height e) (max (exp_height d) (exps_height es))) = omega arith in
    turn_next step k (piece found h _) (piece (add_exp found e) (max h (exp_height e)) ((part_of d (whole d) ++ after_commas es) ++ rest))
    (one_exp (exp_of n) nest round level limit (piece found h _) e (exp_height e) ((part_of d (whole d) ++ after_commas es) ++ rest) (first n nest round level _ high deep enough refl) (omega arith))
    ∙ ap (λ (r : List Part). turns step k (piece (add_exp found e) (max h (exp_height e)) r)) regroup
    ∙ elements_again es again.1 d again.0 n k nest round level limit (add_exp found e) (max h (exp_height e)) rest (omega arith) (omega (arith, count_add found e)) (omega arith) (omega arith) (omega arith) (omega arith) enough stop no_comma
    ∙ rw (append_more found e (more d es), m) refl

-- a list of expressions is read back
pub exps_again : (es : Exps) → SomeExps es → PartsAgain es → (n nest round level limit : ℕ) (rest : List Part) → count es ≤ limit
    → exps_height es ≤ nest → exps_rounds es ≤ round → nest + round ≤ n → Stops rest → after_of sign.Comma rest ≡ None
    → exps_read (exp_of n) nest round level limit (after_first (after_commas es) ++ rest) ≡ Ok (piece es (exps_height es) rest)
unfolding exps_read
exps_again none some again n nest round level limit rest room high deep enough stop no_comma = absurd some
exps_again (more e es) some again n nest round level limit rest room high deep enough stop no_comma =
    let ts : List Part = part_of e (whole e) ++ (after_commas es ++ rest) in
    let long : count es < length ts + 1 = omega (arith, counted es, length-append (part_of e (whole e)) (after_commas es ++ rest), length-append (after_commas es) rest) in
    let m : max 0 (max (exp_height e) (exps_height es)) ≡ max (exp_height e) (exps_height es) = omega arith in
    rw (
      append_assoc (part_of e (whole e)) (after_commas es) rest,
      elements_again es again.1 e again.0 n (length ts + 1) nest round level limit none 0 rest long (omega arith) (omega arith) (omega arith) (omega arith) (omega arith) enough stop no_comma,
      m,
    ) refl

-- the arguments of a call
arguments_again : (es : Exps) → PartsAgain es → (n nest round : ℕ) (rest : List Part) → exps_height es ≤ nest → exps_rounds es ≤ round → nest + round ≤ n
    → arguments_read (exp_of n) nest round (after_first (after_commas es) ++ A sign.CloseBracket ∷ rest) ≡ Ok (piece es (exps_height es) rest)
unfolding arguments_read
arguments_again none again n nest round rest high deep enough = refl
arguments_again (more e es) again n nest round rest high deep enough =
    let ts : List Part = after_first (after_commas (more e es)) ++ A sign.CloseBracket ∷ rest in
    let head : after_of sign.CloseBracket ts ≡ None = ap (after_of sign.CloseBracket) (append_assoc (part_of e (whole e)) (after_commas es) (A sign.CloseBracket ∷ rest)) ∙ (exp_head e (after_commas es ++ A sign.CloseBracket ∷ rest)).no_close in
    let long : count (more e es) ≤ length ts + 1 = omega (arith, counted es, length-append (part_of e (whole e) ++ after_commas es) (A sign.CloseBracket ∷ rest), length-append (part_of e (whole e)) (after_commas es)) in
    rw (head, exps_again (more e es) tt again n nest round 1 (length ts + 1) (A sign.CloseBracket ∷ rest) long high deep enough refl refl) refl

-- ---- each form of expression

leaf_again : (e : Exp) → ((m nest round : ℕ) (rest : List Part) → Operand m nest round (whole e ++ rest) ≡ Ok (piece (e, 12) (exp_height e) rest)) → WholeAgain e
leaf_again e read n nest round rest high deep enough end quiet =
    operand_alone n nest round 1 _ rest e 12 (exp_height e) (omega (arith, height_positive e)) enough end.stops (λ m le. read m nest round rest)

pub name_again : (s : List ℕ) → WholeAgain (tree.Name s)
unfolding operand_read
name_again s = leaf_again (tree.Name s) (λ m nest round rest. refl)

pub number_again : (k : ℕ) → WholeAgain (tree.Num k)
unfolding operand_read
number_again k = leaf_again (tree.Num k) (λ m nest round rest. refl)

pub character_again : (k : ℕ) → WholeAgain (tree.Character k)
unfolding operand_read
character_again k = leaf_again (tree.Character k) (λ m nest round rest. refl)

pub text_again : (s : List ℕ) → WholeAgain (tree.Text s)
unfolding operand_read
text_again s = leaf_again (tree.Text s) (λ m nest round rest. refl)

pub true_again : WholeAgain tree.True
unfolding operand_read
true_again = leaf_again tree.True (λ m nest round rest. refl)

pub false_again : WholeAgain tree.False
unfolding operand_read
false_again = leaf_again tree.False (λ m nest round rest. refl)

table_operand : (ks : Exps) → SomeExps ks → PartsAgain ks → (m nest round : ℕ) (rest : List Part) → exps_height ks + 1 ≤ nest → exps_rounds ks ≤ round → nest + round ≤ m + 1 → After rest
    → Operand m nest round (whole (tree.Table ks) ++ rest) ≡ Ok (piece (tree.Table ks, 12) (exps_height ks + 1) rest)
unfolding operand_read started_read table_read
table_operand none some again m nest round rest high deep enough end = absurd some
table_operand (more k ks) some again m nest round rest high deep enough end =
    let ts : List Part = after_first (after_commas (more k ks)) ++ rest in
    let long : count (more k ks) ≤ length ts + 1 = omega (arith, counted ks, length-append (part_of k (whole k) ++ after_commas ks) rest, length-append (part_of k (whole k)) (after_commas ks)) in
    rw (exps_again (more k ks) tt again m (nest - 1) round 2 (length ts + 1) rest long (omega arith) deep (omega arith) end.stops end.no_comma) refl

pub table_again : (ks : Exps) → SomeExps ks → PartsAgain ks → WholeAgain (tree.Table ks)
table_again ks some again n nest round rest high deep enough end quiet =
    operand_alone n nest round 1 _ rest (tree.Table ks) 12 (exps_height ks + 1) (omega arith) enough end.stops (λ m le. table_operand ks some again m nest round rest high deep le end)

unary_operand : (o : code_unary.UnaryOp) (e : Exp) → PartAgain e → (m nest round : ℕ) (rest : List Part) → exp_height e + 1 ≤ nest → part_rounds e (exp_rounds e) ≤ round → nest + round ≤ m + 1 → After rest
    → Operand m nest round (whole (tree.Unary o e) ++ rest) ≡ Ok (piece (tree.Unary o e, own_level o) (exp_height e + 1) rest)
unfolding operand_read started_read unary_read
unary_operand unary.Not e again m nest round rest high deep enough end = rw (again m (nest - 1) round 6 rest (omega arith) deep (omega arith) end.stops) refl
unary_operand unary.Neg e again m nest round rest high deep enough end = rw (again m (nest - 1) round 9 rest (omega arith) deep (omega arith) end.stops) refl
unary_operand unary.Load e again m nest round rest high deep enough end = rw (again m (nest - 1) round 10 rest (omega arith) deep (omega arith) end.stops) refl
unary_operand unary.Address e again m nest round rest high deep enough end = rw (again m (nest - 1) round 10 rest (omega arith) deep (omega arith) end.stops) refl

pub unary_again : (o : code_unary.UnaryOp) (e : Exp) → PartAgain e → WholeAgain (tree.Unary o e)
unary_again o e again n nest round rest high deep enough end quiet =
    operand_alone n nest round 1 _ rest (tree.Unary o e) (own_level o) (exp_height e + 1) (omega arith) enough end.stops (λ m le. unary_operand o e again m nest round rest high deep le end)

-- an operand, and one thing that continues it
two_parts : (n nest round : ℕ) (ts more_ts rest : List Part) (p : Part) (f : Following) (l e : Exp) (h height top : ℕ) → 0 < nest → nest + round ≤ n → Stops rest
    → following 1 12 (p ∷ more_ts) ≡ f → ends f ≡ false
    → ((m : ℕ) → nest + round ≤ m + 1 → Operand m nest round ts ≡ Ok (piece (l, 12) h (p ∷ more_ts)))
    → ((m : ℕ) → nest + round ≤ m + 1 → suffix_read (exp_of m) nest round (length ts) f l h (length (p ∷ more_ts)) ≡ Ok (piece (e, top) height rest))
    → exp_of n nest round 1 ts ≡ Ok (piece e height rest)
two_parts n nest round ts more_ts rest p f l e h height top some enough stop is goes_on first second =
    exp_runs n nest round 1 ts (Ok (piece e height rest)) some enough (λ m le.
    rw (first m le) (grow_once (exp_of m) nest round (length ts) (piece (l, 12) h (p ∷ more_ts)) p more_ts f (piece (e, top) height rest) refl is goes_on (second m le) stop))

operator_follows : (o : code_binary.BinaryOp) (ts : List Part) → following 1 12 (A (binary_sign o) ∷ ts) ≡ Operator o ts
operator_follows binary.Equivalent ts = refl
operator_follows binary.NotEquivalent ts = refl
operator_follows binary.Or ts = refl
operator_follows binary.And ts = refl
operator_follows binary.ShiftLeft ts = refl
operator_follows binary.ShiftRight ts = refl
operator_follows binary.Equal ts = refl
operator_follows binary.NotEqual ts = refl
operator_follows binary.Less ts = refl
operator_follows binary.GreaterEqual ts = refl
operator_follows binary.Greater ts = refl
operator_follows binary.LessEqual ts = refl
operator_follows binary.Add ts = refl
operator_follows binary.Subtract ts = refl
operator_follows binary.Multiply ts = refl
operator_follows binary.Divide ts = refl
operator_follows binary.Remainder ts = refl
operator_follows binary.Index ts = refl

operator_suffix : (o : code_binary.BinaryOp) (l r : Exp) → PartAgain r → (m nest round begin place : ℕ) (rest : List Part) → max (exp_height l) (exp_height r) + 1 ≤ nest → part_rounds r (exp_rounds r) ≤ round → nest + round ≤ m + 1 → Stops rest
    → suffix_read (exp_of m) nest round begin (Operator o (part_of r (whole r) ++ rest)) l (exp_height l) place ≡ Ok (piece (tree.Bin o l r, level_of o) (max (exp_height l) (exp_height r) + 1) rest)
unfolding suffix_read with_operator
operator_suffix o l r again m nest round begin place rest high deep enough stop =
    rw (lt-ltb (exp_height l) nest (omega arith), again m (nest - 1) round (level_of o + 1) rest (omega arith) deep (omega arith) stop) refl

pub binary_again : (o : code_binary.BinaryOp) (l r : Exp) → WholeAgain l → PartAgain r → WholeAgain (tree.Bin o l r)
binary_again o l r first second n nest round rest high deep enough end quiet =
    let more_ts : List Part = part_of r (whole r) ++ rest in
    let shape : whole (tree.Bin o l r) ++ rest ≡ part_of l (whole l) ++ A (binary_sign o) ∷ more_ts = append_assoc (part_of l (whole l)) _ rest in
    ap (exp_of n nest round 1) shape
    ∙ two_parts n nest round _ more_ts rest (A (binary_sign o)) (Operator o more_ts) l (tree.Bin o l r) (exp_height l) _ (level_of o) (omega arith) enough end.stops (operator_follows o more_ts) refl
    (λ m le. operand_again l first m nest round _ (omega arith) (omega arith) le)
    (λ m le. operator_suffix o l r second m nest round _ _ rest high (omega arith) le end.stops)

choice_suffix : (c x y : Exp) → PartAgain x → PartAgain y → (m nest round begin place : ℕ) (rest : List Part) → max (max (exp_height c) (exp_height x)) (exp_height y) + 1 ≤ nest → part_rounds x (exp_rounds x) ≤ round → part_rounds y (exp_rounds y) ≤ round → nest + round ≤ m + 1 → Stops rest
    → suffix_read (exp_of m) nest round begin (Choice (part_of x (whole x) ++ A sign.Comma ∷ (part_of y (whole y) ++ rest))) c (exp_height c) place ≡ Ok (piece (tree.Cond c x y, 1) (max (max (exp_height c) (exp_height x)) (exp_height y) + 1) rest)
unfolding suffix_read with_choice
choice_suffix c x y first second m nest round begin place rest high deep deep_more enough stop =
    rw (lt-ltb (exp_height c) nest (omega arith), first m (nest - 1) round 1 (A sign.Comma ∷ (part_of y (whole y) ++ rest)) (omega arith) deep (omega arith) refl, second m (nest - 1) round 1 rest (omega arith) deep_more (omega arith) stop) refl

pub condition_again : (c x y : Exp) → WholeAgain c → PartAgain x → PartAgain y → WholeAgain (tree.Cond c x y)
condition_again c x y first second third n nest round rest high deep enough end quiet =
    let more_ts : List Part = part_of x (whole x) ++ A sign.Comma ∷ (part_of y (whole y) ++ rest) in
    let shape : whole (tree.Cond c x y) ++ rest ≡ part_of c (whole c) ++ A sign.Arrow ∷ more_ts = simp append_assoc in
    ap (exp_of n nest round 1) shape
    ∙ two_parts n nest round _ more_ts rest (A sign.Arrow) (Choice more_ts) c (tree.Cond c x y) (exp_height c) _ 1 (omega arith) enough end.stops refl refl
    (λ m le. operand_again c first m nest round _ (omega arith) (omega arith) le)
    (λ m le. choice_suffix c x y second third m nest round _ _ rest high (omega arith) (omega arith) le end.stops)

call_suffix : (f : Exp) (es : Exps) → PartsAgain es → (m nest round begin place : ℕ) (rest : List Part) → max (exp_height f) (exps_height es) + 1 ≤ nest → exps_rounds es + 1 ≤ round → nest + round ≤ m + 1
    → suffix_read (exp_of m) nest round begin (Arguments (after_first (after_commas es) ++ A sign.CloseBracket ∷ rest)) f (exp_height f) place ≡ Ok (piece (tree.Call f es, 12) (max (exp_height f) (exps_height es) + 1) rest)
unfolding suffix_read with_arguments
call_suffix f es again m nest round begin place rest high deep enough =
    rw (lt-ltb (exp_height f) nest (omega arith), lt-ltb 0 round (omega arith), arguments_again es again m (nest - 1) (round - 1) rest (omega arith) (omega arith) (omega arith)) refl

pub call_again : (f : Exp) (es : Exps) → WholeAgain f → PartsAgain es → WholeAgain (tree.Call f es)
call_again f es first again n nest round rest high deep enough end quiet =
    let more_ts : List Part = after_first (after_commas es) ++ A sign.CloseBracket ∷ rest in
    let shape : whole (tree.Call f es) ++ rest ≡ routine_of f (whole f) ++ A sign.OpenBracket ∷ more_ts = simp append_assoc in
    ap (exp_of n nest round 1) shape
    ∙ two_parts n nest round _ more_ts rest (A sign.OpenBracket) (Arguments more_ts) f (tree.Call f es) (exp_height f) _ 12 (omega arith) enough end.stops refl refl
    (λ m le. routine_again f first m nest round _ (omega arith) (omega arith) le)
    (λ m le. call_suffix f es again m nest round _ _ rest high (omega arith) le)
