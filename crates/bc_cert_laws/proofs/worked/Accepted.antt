-- Worked examples: accepted certificates, and what they say.
use Rattle.std.specs.Prelude.{ℕ, true, false, List, [], ◌∷◌, codes, refl}
use Rattle.bc_word.specs.declared.operator.Op.TheVariants.{Add, Equal}
use Rattle.bc_text_items.specs.declared.item.Item.TheVariants.{Operation}
use Rattle.bc_text_items.specs.declared.item.Base.TheVariants.{Number, G}
use Rattle.bc_text_items.specs.declared.item.Function.TheVariants as functions
use Rattle.bc_rules_defs.specs.declared.rule.Table.TheVariants.{One, Two}
use Rattle.bc_rules_defs.specs.declared.piece.Piece.{Piece}
use Rattle.bc_rules_defs.specs.declared.piece.Piece.TheVariants.{Item, Body}
use Rattle.bc_rules_defs.specs.Piece.{SP, LIP, AIP, J, K, jump_if, label}
use Rattle.bc_core.specs.Tree.{Exp, Num, Frame, Glob, Load, Bin, Cond, Call, Valof, no_argument, argument, Value, Test, Assign}
use Rattle.bc_select_defs.specs.Options.{plus, more, sum, given, operand_cost, better, least_from}
use Rattle.bc_select_defs.specs.Choices.{number_cost}
use Rattle.bc_cert_laws.proofs.Whole.{judged_says}
use Rattle.bc_cert_laws.proofs.worked.Written.{text, say, entry, header_1, header_2, call_nodes, call_entry, call_code, sum_nodes, zero_nodes}

-- ---- Worked examples

abbrev at : ℕ → Exp
at k = Load (Frame k)

-- no entries, by either table
nothing : say (header_1 ∷ codes "Z 0" ∷ []) One [] × say (header_2 ∷ codes "Z 0" ∷ []) Two []
unfolding plus more sum given operand_cost better least_from number_cost
nothing = (
  judged_says (text (header_1 ∷ codes "Z 0" ∷ [])) (record { table = One; entries = [] }) refl,
  judged_says (text (header_2 ∷ codes "Z 0" ∷ []))
      (record { table = Two; entries = [] }) refl,
)

-- WRCH('A'): `L65 SP4 LIG14 K2`, four words, by either table
abbrev call_pieces : List Piece
call_pieces = Item (Operation functions.Load false Number 65) ∷ SP 4 ∷ Item (Operation functions.Load true G 14) ∷ K 2 ∷ []

abbrev call_lines : List ℕ → List (List ℕ)
call_lines header = header ∷ call_entry ∷ call_nodes (codes "R V" ∷ call_code ∷ codes "Z 1" ∷ [])

call_said : say (call_lines header_2) Two (entry (Value 2 (Call (argument (Num 65) no_argument) (Load (Glob 14)))) 0 2 call_pieces 4 ∷ [])
unfolding plus more sum given operand_cost better least_from number_cost
call_said = judged_says (text (call_lines header_2)) (record {
  table = Two;
  entries = (entry (Value 2 (Call (argument (Num 65) no_argument) (Load
      (Glob 14)))) 0 2 call_pieces 4 ∷ []);
}) refl

call_by_table_1 : say (call_lines header_1) One (entry (Value 2 (Call (argument (Num 65) no_argument) (Load (Glob 14)))) 0 2 call_pieces 4 ∷ [])
unfolding plus more sum given operand_cost better least_from number_cost
call_by_table_1 = judged_says (text (call_lines header_1)) (record {
  table = One;
  entries = (entry (Value 2 (Call (argument (Num 65) no_argument) (Load
      (Glob 14)))) 0 2 call_pieces 4 ∷ []);
}) refl

-- v + w, by three derivations of two words: `LIP2 AIP3` by V6 and by V0 and V6, and `LIP3 AIP2` by V7
abbrev sum_lines : (v w s code : List ℕ) → List (List ℕ)
sum_lines v w s code = header_2 ∷ codes "E 0 0 0 1 2" ∷ sum_nodes v w s (codes "R V" ∷ code ∷ codes "Z 1" ∷ [])

abbrev says_sum : List (List ℕ) → List Piece → Type 0
says_sum ls code = say ls Two (entry (Value 4 (Bin Add (at 2) (at 3))) 0 1 code 2 ∷ [])

by_v6 : says_sum (sum_lines (codes "V0.V1") (codes "-") (codes "V6") (codes "C LIP2 AIP3")) (LIP 2 ∷ AIP 3 ∷ [])
unfolding plus more sum given operand_cost better least_from number_cost
by_v6 = judged_says (text (sum_lines (codes "V0.V1") (codes "-") (codes "V6") (codes "C LIP2 AIP3"))) (record {
  table = Two;
  entries = entry (Value 4
      (Bin Add (at 2) (at 3))) 0 1 (LIP 2 ∷ AIP 3 ∷ []) 2 ∷ [];
}) refl

by_v0_and_v6 : says_sum (sum_lines (codes "V1") (codes "-") (codes "V0.V6") (codes "C LIP2 AIP3")) (LIP 2 ∷ AIP 3 ∷ [])
unfolding plus more sum given operand_cost better least_from number_cost
by_v0_and_v6 = judged_says (text (sum_lines (codes "V1") (codes "-") (codes "V0.V6") (codes "C LIP2 AIP3"))) (record {
  table = Two;
  entries = entry
      (Value 4 (Bin Add (at 2) (at 3))) 0 1 (LIP 2 ∷ AIP 3 ∷ []) 2 ∷ [];
}) refl

by_v7 : says_sum (sum_lines (codes "-") (codes "V0.V1") (codes "V7") (codes "C LIP3 AIP2")) (LIP 3 ∷ AIP 2 ∷ [])
unfolding plus more sum given operand_cost better least_from number_cost
by_v7 = judged_says (text (sum_lines (codes "-") (codes "V0.V1") (codes "V7") (codes "C LIP3 AIP2"))) (record {
  table = Two;
  entries = entry (Value 4
      (Bin Add (at 2) (at 3))) 0 1 (LIP 3 ∷ AIP 2 ∷ []) 2 ∷ [];
}) refl

-- IF v = 0 DO .., which jumps to 9 on false: by J8 `LIP2 TL9`, three words
abbrev zero_pieces : List Piece
zero_pieces = LIP 2 ∷ jump_if true 9 ∷ []

zero_said : say (header_2 ∷ codes "E 0 0 9 10 3" ∷ zero_nodes (codes "3 X10 3 - 3 3 J8") (codes "R F" ∷ codes "C LIP2 TL9" ∷ codes "Z 1" ∷ [])) Two
    (entry (Test 3 false (Bin Equal (at 2) (Num 0))) 9 10 zero_pieces 3 ∷ [])
unfolding plus more sum given operand_cost better least_from number_cost
zero_said = judged_says (text (header_2 ∷ codes "E 0 0 9 10 3" ∷ zero_nodes (codes "3 X10 3 - 3 3 J8") (codes "R F" ∷ codes "C LIP2 TL9" ∷ codes "Z 1"
    ∷ []))) (record { table = Two; entries = (entry (Test 3 false (Bin Equal (at 2) (Num 0))) 9 10 zero_pieces 3 ∷ []) }) refl

-- UNLESS v = 0 DO .., which jumps on true: `LIP2 FL9`
not_zero_said : say (header_2 ∷ codes "E 0 0 9 10 3" ∷ zero_nodes (codes "3 X10 3 - 3 3 J8") (codes "R T" ∷ codes "C LIP2 FL9" ∷ codes "Z 1" ∷ [])) Two
    (entry (Test 3 true (Bin Equal (at 2) (Num 0))) 9 10 (LIP 2 ∷ jump_if false 9 ∷ []) 3 ∷ [])
unfolding plus more sum given operand_cost better least_from number_cost
not_zero_said = judged_says (text (header_2 ∷ codes "E 0 0 9 10 3" ∷ zero_nodes (codes "3 X10 3 - 3 3 J8") (codes "R T" ∷ codes "C LIP2 FL9"
    ∷ codes "Z 1" ∷ []))) (record { table = Two; entries = (entry (Test 3 true (Bin Equal (at 2) (Num 0))) 9 10 (LIP 2 ∷ jump_if false 9 ∷ []) 3 ∷ []) }) refl

-- v := w: the value, then the address, which shows no rule
abbrev assigned_lines : List ℕ → List ℕ → List (List ℕ)
assigned_lines root code =
    header_2 ∷ codes "E 0 0 0 1 2" ∷ codes "4 P3 1 1 3 3 -" ∷ codes "4 ! 1 1 3 3 V0.V1" ∷ codes "4 P2 1 1 3 3 -" ∷ root ∷ code ∷ codes "Z 1" ∷ []

assignment_said : say (assigned_lines (codes "R A1 4") (codes "C LIP3 SP2")) Two (entry (Assign 4 (at 3) (Frame 2)) 0 1 (LIP 3 ∷ SP 2 ∷ []) 2 ∷ [])
unfolding plus more sum given operand_cost better least_from number_cost
assignment_said = judged_says (text (assigned_lines (codes "R A1 4") (codes "C LIP3 SP2"))) (record {
  table = Two;
  entries = (entry (Assign 4 (at 3)
      (Frame 2)) 0 1 (LIP 3 ∷ SP 2 ∷ []) 2 ∷ []);
}) refl

-- a VALOF whose body has three items, and the label 65,535, which is the greatest: `?3 65535`, no words
valof_said : say (header_2 ∷ codes "E 0 0 0 65535 0" ∷ codes "2 V0 0 - 2 2 V22" ∷ codes "R V" ∷ codes "C ?3 65535" ∷ codes "Z 1" ∷ []) Two
    (entry (Value 2 (Valof 0)) 0 65535 (Body 3 ∷ label 65535 ∷ []) 0 ∷ [])
unfolding plus more sum given operand_cost better least_from number_cost
valof_said = judged_says (text (header_2 ∷ codes "E 0 0 0 65535 0" ∷ codes "2 V0 0 - 2 2 V22" ∷ codes "R V" ∷ codes "C ?3 65535" ∷ codes "Z 1" ∷ []))
    (record { table = Two; entries = (entry (Value 2 (Valof 0)) 0 65535 (Body 3 ∷ label 65535 ∷ []) 0 ∷ []) }) refl

-- v -> w, x with the two greatest labels: `LIP2 FL65534 LIP3 JL65535 65534 LIP4 65535`, seven words
choice_said : say (header_2 ∷ codes "E 0 0 0 65534 7" ∷ codes "5 P2 1 1 3 3 -" ∷ codes "5 ! 1 1 3 3 J6.V0.V1" ∷ codes "5 P3 1 1 3 3 -"
    ∷ codes "5 ! 1 1 3 3 V0.V1"
    ∷ codes "5 P4 1 1 3 3 -" ∷ codes "5 ! 1 1 3 3 V0.V1" ∷ codes "5 ? 7 - 9 9 V20" ∷ codes "R V" ∷ codes "C LIP2 FL65534 LIP3 JL65535 65534 LIP4 65535"
    ∷ codes "Z 1" ∷ []) Two
    (entry (Value 5 (Cond (at 2) (at 3) (at 4))) 0 65534 (LIP 2 ∷ jump_if false 65534 ∷ LIP 3 ∷ J 65535 ∷ label 65534 ∷ LIP 4 ∷ label 65535 ∷ []) 7 ∷ [])
unfolding plus more sum given operand_cost better least_from number_cost
choice_said = judged_says (text (header_2 ∷ codes "E 0 0 0 65534 7" ∷ codes "5 P2 1 1 3 3 -" ∷ codes "5 ! 1 1 3 3 J6.V0.V1" ∷ codes "5 P3 1 1 3 3 -"
    ∷ codes "5 ! 1 1 3 3 V0.V1" ∷ codes "5 P4 1 1 3 3 -" ∷ codes "5 ! 1 1 3 3 V0.V1" ∷ codes "5 ? 7 - 9 9 V20" ∷ codes "R V"
    ∷ codes "C LIP2 FL65534 LIP3 JL65535 65534 LIP4 65535" ∷ codes "Z 1" ∷ [])) (record {
      table = Two;
      entries = (entry (Value 5 (Cond (at 2) (at 3)
          (at 4))) 0 65534 (LIP 2 ∷ jump_if false 65534 ∷ LIP 3 ∷ J 65535 ∷ label 65534 ∷ LIP 4 ∷ label 65535 ∷ []) 7 ∷ []);
    }) refl

-- a number as a test that is always true: no code
always_said : say (header_2 ∷ codes "E 0 0 9 10 0" ∷ codes "3 N1 1 1 0 2 J7" ∷ codes "R F" ∷ codes "C" ∷ codes "Z 1" ∷ []) Two (entry (Test 3 false
    (Num 1)) 9 10 [] 0 ∷ [])
unfolding plus more sum given operand_cost better least_from number_cost
always_said = judged_says (text (header_2 ∷ codes "E 0 0 9 10 0" ∷ codes "3 N1 1 1 0 2 J7" ∷ codes "R F" ∷ codes "C" ∷ codes "Z 1" ∷ []))
    (record { table = Two; entries = (entry (Test 3 false (Num 1)) 9 10 [] 0 ∷ []) }) refl

-- the greatest level, number, target: 32768, N65535, 65535
greatest_said : say (header_2 ∷ codes "E 0 0 65535 1 2" ∷ codes "32768 N65535 2 2 0 2 V0.V1" ∷ codes "R V" ∷ codes "C L65535" ∷ codes "Z 1" ∷ []) Two
    (entry (Value 32768 (Num 65535)) 65535 1 (Item (Operation functions.Load false Number 65535) ∷ []) 2 ∷ [])
unfolding plus more sum given operand_cost better least_from number_cost
greatest_said = judged_says (text (header_2 ∷ codes "E 0 0 65535 1 2" ∷ codes "32768 N65535 2 2 0 2 V0.V1" ∷ codes "R V" ∷ codes "C L65535" ∷ codes "Z 1"
    ∷ [])) (record { table = Two; entries = (entry (Value 32768 (Num 65535)) 65535 1 (Item (Operation functions.Load false Number 65535) ∷ []) 2 ∷ []) }) refl

-- two entries
two_said : say (header_2 ∷ codes "E 0 0 9 10 0" ∷ codes "3 N1 1 1 0 2 J7" ∷ codes "R F" ∷ codes "C" ∷ codes "E 0 0 9 10 0" ∷ codes "3 N1 1 1 0 2 J7"
    ∷ codes "R F" ∷ codes "C"
    ∷ codes "Z 2" ∷ []) Two (entry (Test 3 false (Num 1)) 9 10 [] 0 ∷ entry (Test 3 false (Num 1)) 9 10 [] 0 ∷ [])
unfolding plus more sum given operand_cost better least_from number_cost
two_said = judged_says (text (header_2 ∷ codes "E 0 0 9 10 0" ∷ codes "3 N1 1 1 0 2 J7" ∷ codes "R F" ∷ codes "C" ∷ codes "E 0 0 9 10 0"
    ∷ codes "3 N1 1 1 0 2 J7" ∷ codes "R F" ∷ codes "C" ∷ codes "Z 2" ∷ [])) (record {
      table = Two;
      entries = (entry (Test 3 false (Num 1)) 9 10 [] 0
          ∷ entry (Test 3 false (Num 1)) 9 10 [] 0 ∷ []);
    }) refl
