-- Constants are words, if the numbers of their trees and the constants among the names in scope are.
use Rattle.std.proofs.Common.{◌≡◌, ℕ, zero, suc, ◌+◌, ◌-◌, ◌*◌, ◌/◌, ◌%◌, ◌<◌, ◌==◌, ◌&&◌, List, [], ◌∷◌, Bool, true, false, Option, Some, None, refl, arith}
use Rattle.std.specs.Prelude.{cond, nat_lt, nat_le, if◌then◌else◌, take, drop, ◌^◌, ℤ, pos, negsuc}
use Rattle.std.specs.Int.Bits.{and_lt}
use Rattle.std.proofs.lemmas.Nat.{or_lt, xor_lt}
use Rattle.bc_word.specs.declared.operator.Op.{Op}
use Rattle.bc_word.specs.declared.operator.Op.TheVariants as operators
use Rattle.bc_word.specs.Words.{value_of, wrapped, truth, negated, complemented}
use Rattle.bc_parse_tree.specs.declared.tree.Storage.{Storage}
use Rattle.bc_parse_tree.specs.declared.tree.Storage.TheVariants as storage
use Rattle.bc_parse_tree.specs.declared.tree.UnaryOp.{UnaryOp}
use Rattle.bc_parse_tree.specs.declared.tree.UnaryOp.TheVariants as unary
use Rattle.bc_parse_tree.specs.Tree as tree
use Rattle.bc_core.specs.Numbers.{is_word, are_words, are_bytes}
use Rattle.bc_scope_defs.specs.Scope.{Meant, Constant, Pending, Static, Global, Routine, Variable, OuterVariable, OuterLabel, StrayVariable, StrayLabel, LabelOutside, Undeclared, Env, Names, Name, Numbers, meant_among, meant_by, is_name}
use Rattle.bc_scope_defs.specs.Scope as scope
use Rattle.bc_scope_defs.specs.Numbering.{after_entry, after_declaration, after_definition, labels_of}
use Rattle.bc_scope_defs.specs.Scoping.{operator, constant, constant_in, constant_name, constant_unary, constant_binary, or_zero, any_numbers, pending, own_names, meant_as, in_entry, in_entries, variables, routine_name, in_definition, in_definitions, before_let, in_let, in_declaration, in_declarations, cells_in, in_labels, in_list, around_routine, around_valof, seen_through, in_routine, in_valof}
use Rattle.bc_scope_defs.specs.Scoping as scoping
use Rattle.bc_scope_defs.specs.Characters.{escaped, characters, decoded}
use Rattle.bc_scope_defs.specs.Found.{words_of_table, in_parameters}
use Rattle.bc_scope_defs.specs.Words.{AreBytes, ExpHasWords, ExpsHaveWords, EntriesHaveWords, DeclarationHasWords, DeclarationsHaveWords}

-- operators give words

wrapped_small : (z : ℤ) → wrapped z < 65536
wrapped_small (pos a) = omega arith
wrapped_small (negsuc a) = omega arith

truth_small : (t : Bool) → truth t < 65536
truth_small true = omega arith
truth_small false = omega arith

shifted : (t : Bool) (v : ℕ) → v < 65536 → cond t 0 v < 65536
shifted true v lt = omega arith
shifted false v lt = lt

quotient_small : (b n : ℕ) → b < 65536 → b / n < 65536
quotient_small b zero lt = omega arith
quotient_small b (suc n) lt = omega arith

abbrev pub IsWord : ℕ → Type 0
IsWord n = is_word n ≡ true

pub word_is : (n : ℕ) → n < 65536 → IsWord n
word_is n h = grind arith

below_is : (n : ℕ) → IsWord n → n < 65536
below_is n h = grind arith

-- the value, if there is one, is a word
abbrev IsWordIfAny : Option ℕ → Type 0
IsWordIfAny None = Unit {0}
IsWordIfAny (Some w) = IsWord w

divided : (t : Bool) (v : ℕ) → v < 65536 → IsWordIfAny (cond t None (Some v))
divided true v h = tt
divided false v h = word_is v h

value_is_word : (op : Op) (b a : ℕ) → b < 65536 → a < 65536 → IsWordIfAny (value_of op b a)
value_is_word operators.Multiply b a hb ha = word_is _ (wrapped_small _)
value_is_word operators.Divide b a hb ha = divided (a == 0) _ (wrapped_small _)
value_is_word operators.Remainder b a hb ha = divided (a == 0) _ (wrapped_small _)
value_is_word operators.Add b a hb ha = word_is ((b + a) % 65536) (omega arith)
value_is_word operators.Subtract b a hb ha = word_is ((b + (65536 - a)) % 65536) (omega arith)
value_is_word operators.Equal b a hb ha = word_is _ (truth_small _)
value_is_word operators.NotEqual b a hb ha = word_is _ (truth_small _)
value_is_word operators.Less b a hb ha = word_is _ (truth_small _)
value_is_word operators.GreaterEqual b a hb ha = word_is _ (truth_small _)
value_is_word operators.Greater b a hb ha = word_is _ (truth_small _)
value_is_word operators.LessEqual b a hb ha = word_is _ (truth_small _)
value_is_word operators.ShiftLeft b a hb ha = word_is _ (shifted (nat_le 16 a) ((b * 2 ^ a) % 65536) (omega arith))
value_is_word operators.ShiftRight b a hb ha = word_is _ (shifted (nat_le 16 a) (b / 2 ^ a) (quotient_small b (2 ^ a) hb))
value_is_word operators.And b a hb ha = word_is _ (and_lt 16 b a hb ha)
value_is_word operators.Or b a hb ha = word_is _ (or_lt 16 b a hb ha)
value_is_word operators.NotEquivalent b a hb ha = word_is _ (xor_lt 16 b a hb ha)
value_is_word operators.Equivalent b a hb ha = word_is _ (omega arith)

-- names that mean a constant mean a word

abbrev pub MeansWord : Meant → Type 0
MeansWord (Constant w) = IsWord w
MeansWord _ = Unit {0}

abbrev pub WordyNames : Names → Type 0
WordyNames [] = Unit {0}
WordyNames (e ∷ es) = MeansWord e.1 × WordyNames es

abbrev pub Wordy : Env → Type 0
Wordy E = WordyNames E.names

picked : (b : Bool) (m x : Meant) → MeansWord m → MeansWord x → MeansWord (elim b [ true ↦ m | false ↦ x ])
picked true m x h k = h
picked false m x h k = k

among_word : (es : Names) (n : Name) → WordyNames es → MeansWord (meant_among es n)
among_word [] n h = tt
among_word (e ∷ es) n h = picked (is_name e.0 n) e.1 (meant_among es n) h.0 (among_word es n h.1)

pub meant_word : (E : Env) (n : Name) → Wordy E → MeansWord (meant_by E n)
meant_word E n h = among_word E.names n h

name_word : (m : Meant) → MeansWord m → IsWordIfAny (constant_name m)
name_word (Constant w) h = h
name_word Pending h = tt
name_word (Static m) h = tt
name_word (Global n) h = tt
name_word (Routine m) h = tt
name_word (Variable k) h = tt
name_word (scope.Label l) h = tt
name_word OuterVariable h = tt
name_word OuterLabel h = tt
name_word StrayVariable h = tt
name_word StrayLabel h = tt
name_word LabelOutside h = tt
name_word Undeclared h = tt

unary_word : (m : UnaryOp) (o : Option ℕ) → IsWordIfAny o → IsWordIfAny (constant_unary m o)
unary_word unary.Neg (Some w) h = word_is (negated w) (omega arith)
unary_word unary.Neg None h = tt
unary_word unary.Not (Some w) h = word_is (complemented w) (omega arith)
unary_word unary.Not None h = tt
unary_word unary.Load o h = tt
unary_word unary.Address o h = tt

binary_word : (op : Option Op) (a b : Option ℕ) → IsWordIfAny a → IsWordIfAny b → IsWordIfAny (constant_binary op a b)
binary_word None a b h k = tt
binary_word (Some op) None b h k = tt
binary_word (Some op) (Some a) None h k = tt
binary_word (Some op) (Some a) (Some b) h k = value_is_word op a b (below_is a h) (below_is b k)

constant_word : (E : Env) (k : tree.Exp) → Wordy E → ExpHasWords k → IsWordIfAny (constant_in E k)
constant_word E (tree.Name n) e h = name_word (meant_by E n) (meant_word E n e)
constant_word E (tree.Num w) e h = word_is w h
constant_word E (tree.Character w) e h = word_is w h
constant_word E (tree.Text bytes) e h = tt
constant_word E tree.True e h = refl
constant_word E tree.False e h = refl
constant_word E (tree.Table ks) e h = tt
constant_word E (tree.Valof b) e h = tt
constant_word E (tree.Unary m d) e h = unary_word m (constant_in E d) (constant_word E d e h)
constant_word E (tree.Bin o l r) e h = binary_word (operator o) (constant_in E l) (constant_in E r) (constant_word E l e h.0) (constant_word E r e h.1)
constant_word E (tree.Cond c x y) e h = tt
constant_word E (tree.Call f es) e h = tt

zero_word : (o : Option ℕ) → IsWordIfAny o → IsWord (or_zero o)
zero_word None h = refl
zero_word (Some w) h = h

pub word_of_constant : (E : Env) (k : tree.Exp) → Wordy E → ExpHasWords k → IsWord (constant E k)
word_of_constant E k e h = zero_word (constant_in E k) (constant_word E k e h)

pub table_words : (E : Env) (ks : tree.Exps) → Wordy E → ExpsHaveWords ks → are_words (words_of_table E ks) ≡ true
table_words E tree.none e h = refl
table_words E (tree.more k ks) e h = λ i. word_of_constant E k e h.0 i && table_words E ks e h.1 i

-- declarations preserve this

meant_as_word : (s : Storage) (at : Numbers) (o : Option ℕ) → IsWordIfAny o → MeansWord (meant_as s at o)
meant_as_word storage.Manifest at None h = tt
meant_as_word storage.Manifest at (Some w) h = h
meant_as_word storage.Static at o h = tt
meant_as_word storage.Global at o h = tt

pub wordy_pending : (s : Storage) (es : tree.Entries) (E : Env) → Wordy E → Wordy (pending s es E)
wordy_pending s tree.no_entries E e = e
wordy_pending s (tree.entry n k es) E e = wordy_pending s es _ (meant_as_word s any_numbers None tt, e)

pub wordy_entry : (s : Storage) (at : Numbers) (n : Name) (k : tree.Exp) (E : Env) → Wordy E → ExpHasWords k → Wordy (in_entry s at n k E)
wordy_entry s at n k E e h = (meant_as_word s at (constant_in E k) (constant_word E k e h), e)

wordy_entries : (s : Storage) (at : Numbers) (es : tree.Entries) (E : Env) → Wordy E → EntriesHaveWords es → Wordy (in_entries s at es E)
wordy_entries s at tree.no_entries E e h = e
wordy_entries s at (tree.entry n k es) E e h = wordy_entries s (after_entry s at) es _ (wordy_entry s at n k E e h.0) h.1

pub wordy_variables : (ns : List Name) (k : ℕ) (E : Env) → Wordy E → Wordy (variables ns k E)
wordy_variables [] k E e = e
wordy_variables (n ∷ ns) k E e = wordy_variables ns (k + 1) _ (tt, e)

wordy_routine : (m : Meant) (n : Name) (q : ℕ) (E : Env) → Wordy E → Wordy (routine_name m n q E)
wordy_routine (Global g) n q E e = e
wordy_routine (Constant w) n q E e = (tt, e)
wordy_routine Pending n q E e = (tt, e)
wordy_routine (Static m) n q E e = (tt, e)
wordy_routine (Routine m) n q E e = (tt, e)
wordy_routine (Variable m) n q E e = (tt, e)
wordy_routine (scope.Label m) n q E e = (tt, e)
wordy_routine OuterVariable n q E e = (tt, e)
wordy_routine OuterLabel n q E e = (tt, e)
wordy_routine StrayVariable n q E e = (tt, e)
wordy_routine StrayLabel n q E e = (tt, e)
wordy_routine LabelOutside n q E e = (tt, e)
wordy_routine Undeclared n q E e = (tt, e)

wordy_definition : (B : Env) (at : Numbers) (k : ℕ) (d : tree.Definition) (E : Env) → Wordy E → Wordy (in_definition B at k d E)
wordy_definition B at k (tree.Variables ns es) E e = wordy_variables ns k E e
wordy_definition B at k (tree.Vector n c) E e = (tt, e)
wordy_definition B at k (tree.Function n ps d) E e = wordy_routine (meant_by B n) n at.place E e
wordy_definition B at k (tree.Routine n ps b) E e = wordy_routine (meant_by B n) n at.place E e

wordy_definitions : (B K : Env) (at : Numbers) (k : ℕ) (ds : tree.Definitions) (E : Env) → Wordy E → Wordy (in_definitions B K at k ds E)
wordy_definitions B K at k tree.no_definitions E e = e
wordy_definitions B K at k (tree.definition d ds) E e =
    wordy_definitions B K (after_definition at d) (k + scoping.cells_of K d) ds _ (wordy_definition B at k d E e)

wordy_own : (B : Env) (ds : tree.Definitions) (E : Env) → Wordy E → Wordy (own_names B ds E)
wordy_own B tree.no_definitions E e = e
wordy_own B (tree.definition d ds) E e = wordy_own B ds _ (wordy_definition B any_numbers 0 d E e)

pub wordy_before : (ds : tree.Definitions) (E : Env) → Wordy E → Wordy (before_let ds E)
wordy_before ds E e = wordy_own E ds E e

pub wordy_let : (at : Numbers) (s : ℕ) (ds : tree.Definitions) (E : Env) → Wordy E → Wordy (in_let E at s ds)
wordy_let at s ds E e = wordy_definitions E (before_let ds E) at s ds E e

pub wordy_declaration : (at : Numbers) (s : ℕ) (d : tree.Declaration) (E : Env) → Wordy E → DeclarationHasWords d → Wordy (in_declaration E at s d)
wordy_declaration at s (tree.Constants k es) E e h = wordy_entries k at es (pending k es E) (wordy_pending k es E e) h
wordy_declaration at s (tree.Let ds) E e h = wordy_let at s ds E e

pub wordy_declarations : (at : Numbers) (s : ℕ) (ds : tree.Declarations) (E : Env) → Wordy E → DeclarationsHaveWords ds → Wordy (in_declarations E at s ds)
wordy_declarations at s tree.no_declarations E e h = e
wordy_declarations at s (tree.declaration d ds) E e h =
    wordy_declarations (after_declaration at d) (s + cells_in E d) ds _ (wordy_declaration at s d E e h.0) h.1

wordy_labels : (k : ℕ) (ls : tree.Labels) (E : Env) → Wordy E → Wordy (in_labels k ls E)
wordy_labels k tree.no_labels E e = e
wordy_labels k (tree.label (tree.Case c) ls) E e = wordy_labels (k + 0) ls E e
wordy_labels k (tree.label tree.Default ls) E e = wordy_labels (k + 0) ls E e
wordy_labels k (tree.label (tree.Named n) ls) E e = wordy_labels (k + 1) ls _ (tt, e)

pub wordy_list : (k : ℕ) (is : tree.Items) (E : Env) → Wordy E → Wordy (in_list k is E)
wordy_list k tree.no_items E e = e
wordy_list k (tree.item (tree.Labelled ls c) is) E e = wordy_list (k + labels_of ls) is _ (wordy_labels k ls E e)
wordy_list k (tree.item (tree.Labels_alone ls) is) E e = wordy_list (k + labels_of ls) is _ (wordy_labels k ls E e)

through_word : (f : Meant → Meant) → ((m : Meant) → MeansWord m → MeansWord (f m)) → (es : Names) → WordyNames es → WordyNames (seen_through f es)
through_word f h [] e = tt
through_word f h (x ∷ es) e = (h x.1 e.0, through_word f h es e.1)

around_valof_word : (m : Meant) → MeansWord m → MeansWord (around_valof m)
around_valof_word (Constant w) h = h
around_valof_word Pending h = tt
around_valof_word (Static m) h = tt
around_valof_word (Global n) h = tt
around_valof_word (Routine m) h = tt
around_valof_word (Variable k) h = tt
around_valof_word (scope.Label l) h = tt
around_valof_word OuterVariable h = tt
around_valof_word OuterLabel h = tt
around_valof_word StrayVariable h = tt
around_valof_word StrayLabel h = tt
around_valof_word LabelOutside h = tt
around_valof_word Undeclared h = tt

around_routine_word : (i : Bool) (m : Meant) → MeansWord m → MeansWord (around_routine i m)
around_routine_word true (Constant w) h = h
around_routine_word true Pending h = tt
around_routine_word true (Static m) h = tt
around_routine_word true (Global n) h = tt
around_routine_word true (Routine m) h = tt
around_routine_word true (Variable k) h = tt
around_routine_word true (scope.Label l) h = tt
around_routine_word true OuterVariable h = tt
around_routine_word true OuterLabel h = tt
around_routine_word true StrayVariable h = tt
around_routine_word true StrayLabel h = tt
around_routine_word true LabelOutside h = tt
around_routine_word true Undeclared h = tt
around_routine_word false (Constant w) h = h
around_routine_word false Pending h = tt
around_routine_word false (Static m) h = tt
around_routine_word false (Global n) h = tt
around_routine_word false (Routine m) h = tt
around_routine_word false (Variable k) h = tt
around_routine_word false (scope.Label l) h = tt
around_routine_word false OuterVariable h = tt
around_routine_word false OuterLabel h = tt
around_routine_word false StrayVariable h = tt
around_routine_word false StrayLabel h = tt
around_routine_word false LabelOutside h = tt
around_routine_word false Undeclared h = tt

pub wordy_valof : (E : Env) → Wordy E → Wordy (in_valof E)
wordy_valof E e = through_word around_valof around_valof_word E.names e

outer : (E : Env) → Wordy E → Wordy (in_routine E)
outer E e = through_word (around_routine E.inside) (around_routine_word E.inside) E.names e

pub wordy_parameters : (ps : List Name) (E : Env) → Wordy E → Wordy (in_parameters ps E)
wordy_parameters ps E e = wordy_variables ps 2 (in_routine E) (outer E e)

-- strings have bytes

either : (t : Bool) (m n : ℕ) → m < 256 → n < 256 → (if t then m else n) < 256
either true m n h k = h
either false m n h k = k

escape_is_byte : (e : ℕ) → e < 256 → escaped e < 256
escape_is_byte e h =
    either _ 10 _ (omega arith) (either _ 9 _ (omega arith) (either _ 32 _ (omega arith)
    (either _ 8 _ (omega arith) (either _ 12 _ (omega arith) (either _ 13 e (omega arith) h)))))

either_bytes : (t : Bool) (ms ns : List ℕ) → AreBytes ms → AreBytes ns → AreBytes (if t then ms else ns)
either_bytes true ms ns h k = h
either_bytes false ms ns h k = k

characters_are_bytes : (escape : Bool) (bs : List ℕ) → AreBytes bs → AreBytes (characters escape bs)
characters_are_bytes escape [] h = tt
characters_are_bytes true (e ∷ bs) h = (escape_is_byte e h.0, characters_are_bytes false bs h.1)
characters_are_bytes false (b ∷ bs) h =
    either_bytes (b == 34) [] _ tt (either_bytes (b == 42) _ (b ∷ characters false bs) (characters_are_bytes true bs h.1) (h.0, characters_are_bytes false bs h.1))

taken : (n : ℕ) (bs : List ℕ) → AreBytes bs → AreBytes (take n bs)
taken zero bs h = tt
taken (suc n) [] h = tt
taken (suc n) (b ∷ bs) h = (h.0, taken n bs h.1)

dropped : (n : ℕ) (bs : List ℕ) → AreBytes bs → AreBytes (drop n bs)
dropped zero bs h = h
dropped (suc n) [] h = tt
dropped (suc n) (b ∷ bs) h = dropped n bs h.1

byte_is : (b : ℕ) → b < 256 → nat_lt b 256 ≡ true
byte_is b h = grind arith

are_bytes_if : (bs : List ℕ) → AreBytes bs → are_bytes bs ≡ true
are_bytes_if [] h = refl
are_bytes_if (b ∷ bs) h = λ i. byte_is b h.0 i && are_bytes_if bs h.1 i

pub text_is_bytes : (text : List ℕ) → AreBytes text → are_bytes (decoded text) ≡ true
text_is_bytes text h = are_bytes_if (decoded text) (taken 255 (characters false (drop 1 text)) (characters_are_bytes false (drop 1 text) (dropped 1 text h)))
