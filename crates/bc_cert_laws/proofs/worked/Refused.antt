-- Worked examples: the first faults of texts, each near an accepted certificate.
use Rattle.std.specs.Prelude.{ℕ, List, [], ◌∷◌, ◌++◌, codes, refl}
use Rattle.bc_cert_defs.specs.declared.check_fault.CheckFault.{CheckFault}
use Rattle.bc_cert_defs.specs.declared.check_fault.CheckFault.TheVariants.{Header, Line, Truncated, WrongCost, WrongRule, WrongCode, WrongWords}
use Rattle.bc_select_defs.specs.Options.{plus, more, sum, given, operand_cost, better, least_from}
use Rattle.bc_select_defs.specs.Choices.{number_cost}
use Rattle.bc_cert_laws.specs.Faults.{Lacks}
use Rattle.bc_cert_laws.proofs.Whole.{judged_lacks}
use Rattle.bc_cert_laws.proofs.worked.Written.{text, lack, header_1, header_2, call_with, call_entry, call_code, sum_nodes, zero_nodes}

-- ---- Worked examples

-- Header: no bytes, an incomplete header, another number, an extra blank
no_header : Lacks [] Header × Lacks (codes "BCPLCERT 2") Header × lack (codes "BCPLCERT 3" ∷ codes "Z 0" ∷ []) Header × lack (codes "BCPLCERT 2 "
    ∷ codes "Z 0" ∷ []) Header
unfolding plus more sum given operand_cost better least_from number_cost
no_header = (
  judged_lacks [] Header refl,
  judged_lacks (codes "BCPLCERT 2") Header refl,
  judged_lacks (text (codes "BCPLCERT 3" ∷ codes "Z 0" ∷ [])) Header refl,
  judged_lacks (text (codes "BCPLCERT 2 " ∷ codes "Z 0" ∷ [])) Header refl,
)

-- Line, at an `E` line: a leading zero, a missing field, a blank at the end, a target over 65535, a first label over 65535
abbrev begins_text : List ℕ → List ℕ
begins_text l = text (header_2 ∷ l ∷ [])

abbrev begins : List ℕ → CheckFault → Type 0
begins l f = Lacks (begins_text l) f

no_entry_line : begins (codes "E 00 0 0 2 4") (Line 2) × begins (codes "E 0 0 0 2") (Line 2) × begins (codes "E 0 0 0 2 4 ") (Line 2) × begins
    (codes "E 0 0 65536 2 4") (Line 2)
    × begins (codes "E 0 0 0 65536 4") (Line 2)
unfolding plus more sum given operand_cost better least_from number_cost
no_entry_line = (
  judged_lacks (begins_text (codes "E 00 0 0 2 4")) (Line 2) refl,
  judged_lacks (begins_text (codes "E 0 0 0 2")) (Line 2) refl,
  judged_lacks (begins_text (codes "E 0 0 0 2 4 ")) (Line 2) refl,
  judged_lacks (begins_text (codes "E 0 0 65536 2 4")) (Line 2) refl,
  judged_lacks (begins_text (codes "E 0 0 0 65536 4")) (Line 2) refl,
)

-- near these, an `E` line that is right, after which all lines are missing
entry_line : begins (codes "E 0 0 65535 65535 4") Truncated
unfolding plus more sum given operand_cost better least_from number_cost
entry_line = judged_lacks (begins_text (codes "E 0 0 65535 65535 4")) Truncated refl

-- a segment up to 2^64 - 1
segments : begins (codes "E 18446744073709551615 0 0 2 4") Truncated × begins (codes "E 18446744073709551616 0 0 2 4") (Line 2)
unfolding plus more sum given operand_cost better least_from number_cost
segments = (
  judged_lacks (begins_text (codes "E 18446744073709551615 0 0 2 4")) Truncated refl,
  judged_lacks (begins_text (codes "E 18446744073709551616 0 0 2 4")) (Line 2) refl,
)

-- Line, at the end line: another number of entries, and a line after it
other_count : lack (header_2 ∷ codes "Z 1" ∷ []) (Line 2) × lack (header_2 ∷ codes "Z 0" ∷ codes "Z 0" ∷ []) (Line 3)
unfolding plus more sum given operand_cost better least_from number_cost
other_count = (
  judged_lacks (text (header_2 ∷ codes "Z 1" ∷ [])) (Line 2) refl,
  judged_lacks (text (header_2 ∷ codes "Z 0" ∷ codes "Z 0" ∷ [])) (Line 3) refl,
)

-- Line, at a node line: a level over 32768, a number over 65535, an operator that doesn't exist, rules that aren't names
abbrev node_text : List ℕ → List ℕ
node_text l = text (header_2 ∷ call_entry ∷ l ∷ [])

abbrev node : List ℕ → CheckFault → Type 0
node l f = Lacks (node_text l) f

no_node_line : node (codes "32769 N65 1 1 0 2 -") (Line 3) × node (codes "4 N65536 1 1 0 2 -") (Line 3) × node (codes "4 N65 1 1 0 2 V01") (Line 3)
    × node (codes "4 N65 1 1 0 2 V") (Line 3) × node (codes "4 N65 1 1 0 2 V0.") (Line 3) × node (codes "4 N65 1 1 0 2 X1") (Line 3) × node
    (codes "4 N65 1 1 0 2") (Line 3)
unfolding plus more sum given operand_cost better least_from number_cost
no_node_line = (
  judged_lacks (node_text (codes "32769 N65 1 1 0 2 -")) (Line 3) refl,
  judged_lacks (node_text (codes "4 N65536 1 1 0 2 -")) (Line 3) refl,
  judged_lacks (node_text (codes "4 N65 1 1 0 2 V01")) (Line 3) refl,
  judged_lacks (node_text (codes "4 N65 1 1 0 2 V")) (Line 3) refl,
  judged_lacks (node_text (codes "4 N65 1 1 0 2 V0.")) (Line 3) refl,
  judged_lacks (node_text (codes "4 N65 1 1 0 2 X1")) (Line 3) refl,
  judged_lacks (node_text (codes "4 N65 1 1 0 2")) (Line 3) refl,
)

node_line : node (codes "32768 N65 1 1 0 2 -") Truncated × node (codes "32768 N65 1 1 0 2") (Line 3)
unfolding plus more sum given operand_cost better least_from number_cost
node_line = (
  judged_lacks (node_text (codes "32768 N65 1 1 0 2 -")) Truncated refl,
  judged_lacks (node_text (codes "32768 N65 1 1 0 2")) (Line 3) refl,
)

-- too few parts, and a part at another level: `!` with no line before it, K1 at level 2 with an argument at level 3
too_few : node (codes "4 ! 1 1 3 3 -") (Line 3)
unfolding plus more sum given operand_cost better least_from number_cost
too_few = judged_lacks (node_text (codes "4 ! 1 1 3 3 -")) (Line 3) refl

other_level : lack (header_2 ∷ call_entry ∷ codes "3 N65 1 1 0 2 V0.V1" ∷ codes "5 G14 1 1 3 3 -" ∷ codes "5 ! 1 1 3 3 V0.V1" ∷ codes "2 K1 4 - 6 6 V22"
    ∷ []) (Line 6)
unfolding plus more sum given operand_cost better least_from number_cost
other_level = judged_lacks (text (header_2 ∷ call_entry ∷ codes "3 N65 1 1 0 2 V0.V1" ∷ codes "5 G14 1 1 3 3 -" ∷ codes "5 ! 1 1 3 3 V0.V1"
    ∷ codes "2 K1 4 - 6 6 V22" ∷ [])) (Line 6) refl

-- Line, at a root line: with two trees instead of one, with none, of an assignment whose level isn't that of its sides
two_trees : lack (header_2 ∷ call_entry ∷ codes "4 N65 1 1 0 2 V0.V1" ∷ codes "4 N66 1 1 0 2 V0.V1" ∷ codes "R V" ∷ []) (Line 5)
unfolding plus more sum given operand_cost better least_from number_cost
two_trees = judged_lacks (text (header_2 ∷ call_entry ∷ codes "4 N65 1 1 0 2 V0.V1" ∷ codes "4 N66 1 1 0 2 V0.V1" ∷ codes "R V" ∷ [])) (Line 5) refl

no_tree : node (codes "R V") (Line 3)
unfolding plus more sum given operand_cost better least_from number_cost
no_tree = judged_lacks (node_text (codes "R V")) (Line 3) refl

abbrev assigned_text : List ℕ → List ℕ
assigned_text root = text (header_2 ∷ codes "E 0 0 0 1 2" ∷ codes "4 P3 1 1 3 3 -" ∷ codes "4 ! 1 1 3 3 V0.V1" ∷ codes "4 P2 1 1 3 3 -" ∷ root ∷ [])

abbrev assigned : List ℕ → CheckFault → Type 0
assigned root f = Lacks (assigned_text root) f

level_of_sides : assigned (codes "R A1 5") (Line 6) × assigned (codes "R A4 4") (Line 6) × assigned (codes "R A1 4") Truncated
unfolding plus more sum given operand_cost better least_from number_cost
level_of_sides = (
  judged_lacks (assigned_text (codes "R A1 5")) (Line 6) refl,
  judged_lacks (assigned_text (codes "R A4 4")) (Line 6) refl,
  judged_lacks (assigned_text (codes "R A1 4")) Truncated refl,
)

-- Line, at a code line: a field that isn't an item, a label over 65535
abbrev with_code_text : List ℕ → List ℕ
with_code_text l = text (call_with call_entry (codes "R V" ∷ l ∷ []))

abbrev with_code : List ℕ → CheckFault → Type 0
with_code l f = Lacks (with_code_text l) f

no_code_line : with_code (codes "C L65 SP4 LIG14 Q2") (Line 8) × with_code (codes "C L065 SP4 LIG14 K2") (Line 8) × with_code
    (codes "C L65536 SP4 LIG14 K2") (Line 8)
    × with_code (codes "D L65 SP4 LIG14 K2") (Line 8)
unfolding plus more sum given operand_cost better least_from number_cost
no_code_line = (
  judged_lacks (with_code_text (codes "C L65 SP4 LIG14 Q2")) (Line 8) refl,
  judged_lacks (with_code_text (codes "C L065 SP4 LIG14 K2")) (Line 8) refl,
  judged_lacks (with_code_text (codes "C L65536 SP4 LIG14 K2")) (Line 8) refl,
  judged_lacks (with_code_text (codes "D L65 SP4 LIG14 K2")) (Line 8) refl,
)

code_line : with_code call_code Truncated
unfolding plus more sum given operand_cost better least_from number_cost
code_line = judged_lacks (with_code_text call_code) Truncated refl

-- WrongCost: each of the four numbers of the first node, one more or one less; `-` instead of a number, a number instead of `-`
wrong_costs : node (codes "4 N65 2 1 0 2 V0.V1") (WrongCost 0 0) × node (codes "4 N65 1 2 0 2 V0.V1") (WrongCost 0 0) × node (codes "4 N65 1 1 1 2 V0.V1")
    (WrongCost 0 0)
    × node (codes "4 N65 1 1 0 1 V0.V1") (WrongCost 0 0) × node (codes "4 N65 1 - 0 2 V0.V1") (WrongCost 0 0)
unfolding plus more sum given operand_cost better least_from number_cost
wrong_costs = (
  judged_lacks (node_text (codes "4 N65 2 1 0 2 V0.V1")) (WrongCost 0 0) refl,
  judged_lacks (node_text (codes "4 N65 1 2 0 2 V0.V1")) (WrongCost 0 0) refl,
  judged_lacks (node_text (codes "4 N65 1 1 1 2 V0.V1")) (WrongCost 0 0) refl,
  judged_lacks (node_text (codes "4 N65 1 1 0 1 V0.V1")) (WrongCost 0 0) refl,
  judged_lacks (node_text (codes "4 N65 1 - 0 2 V0.V1")) (WrongCost 0 0) refl,
)

no_push : lack (header_2 ∷ call_entry ∷ codes "4 N65 1 1 0 2 V0.V1" ∷ codes "5 G14 1 1 3 3 -" ∷ codes "5 ! 1 1 3 3 V0.V1" ∷ codes "2 K1 4 5 6 6 V22" ∷ [])
    (WrongCost 0 3)
unfolding plus more sum given operand_cost better least_from number_cost
no_push = judged_lacks (text (header_2 ∷ call_entry ∷ codes "4 N65 1 1 0 2 V0.V1" ∷ codes "5 G14 1 1 3 3 -" ∷ codes "5 ! 1 1 3 3 V0.V1"
    ∷ codes "2 K1 4 5 6 6 V22" ∷ [])) (WrongCost 0 3) refl

-- WrongRule at a node: a rule of another form, one that isn't in the table, names that can't be at one node
wrong_rules : node (codes "4 N65 1 1 0 2 V0.V2") (WrongRule 0 0) × node (codes "4 N65 1 1 0 2 V5") (WrongRule 0 0) × node (codes "4 N65 1 1 0 2 V6.V1")
    (WrongRule 0 0)
    × node (codes "4 N65 1 1 0 2 A1") (WrongRule 0 0)
unfolding plus more sum given operand_cost better least_from number_cost
wrong_rules = (
  judged_lacks (node_text (codes "4 N65 1 1 0 2 V0.V2")) (WrongRule 0 0) refl,
  judged_lacks (node_text (codes "4 N65 1 1 0 2 V5")) (WrongRule 0 0) refl,
  judged_lacks (node_text (codes "4 N65 1 1 0 2 V6.V1")) (WrongRule 0 0) refl,
  judged_lacks (node_text (codes "4 N65 1 1 0 2 A1")) (WrongRule 0 0) refl,
)

-- a test of 65 on false takes three words by J6.V0.V1, and none by J7
dear_test : node (codes "4 N65 1 1 0 2 J6.V0.V1") (WrongRule 0 0) × node (codes "4 N65 1 1 0 2 J7") Truncated
unfolding plus more sum given operand_cost better least_from number_cost
dear_test = (
  judged_lacks (node_text (codes "4 N65 1 1 0 2 J6.V0.V1")) (WrongRule 0 0) refl,
  judged_lacks (node_text (codes "4 N65 1 1 0 2 J7")) Truncated refl,
)

-- a part that shows rules for another aim than the rule requires: the argument by V1 only, or without rules
other_aim : lack (header_2 ∷ call_entry ∷ codes "4 N65 1 1 0 2 V1" ∷ codes "5 G14 1 1 3 3 -" ∷ codes "5 ! 1 1 3 3 V0.V1" ∷ codes "2 K1 4 - 6 6 V22" ∷ [])
    (WrongRule 0 3)
unfolding plus more sum given operand_cost better least_from number_cost
other_aim = judged_lacks (text (header_2 ∷ call_entry ∷ codes "4 N65 1 1 0 2 V1" ∷ codes "5 G14 1 1 3 3 -" ∷ codes "5 ! 1 1 3 3 V0.V1"
    ∷ codes "2 K1 4 - 6 6 V22" ∷ [])) (WrongRule 0 3) refl

no_rules : lack (header_2 ∷ call_entry ∷ codes "4 N65 1 1 0 2 -" ∷ codes "5 G14 1 1 3 3 -" ∷ codes "5 ! 1 1 3 3 V0.V1" ∷ codes "2 K1 4 - 6 6 V22" ∷ [])
    (WrongRule 0 3)
unfolding plus more sum given operand_cost better least_from number_cost
no_rules = judged_lacks (text (header_2 ∷ call_entry ∷ codes "4 N65 1 1 0 2 -" ∷ codes "5 G14 1 1 3 3 -" ∷ codes "5 ! 1 1 3 3 V0.V1"
    ∷ codes "2 K1 4 - 6 6 V22" ∷ [])) (WrongRule 0 3) refl

-- rules below an operand, where none may be shown: G14 by V0.V1
below_operand : lack (header_2 ∷ call_entry ∷ codes "4 N65 1 1 0 2 V0.V1" ∷ codes "5 G14 1 1 3 3 V0.V1" ∷ codes "5 ! 1 1 3 3 V0.V1" ∷ []) (WrongRule 0 2)
unfolding plus more sum given operand_cost better least_from number_cost
below_operand = judged_lacks (text (header_2 ∷ call_entry ∷ codes "4 N65 1 1 0 2 V0.V1" ∷ codes "5 G14 1 1 3 3 V0.V1" ∷ codes "5 ! 1 1 3 3 V0.V1" ∷ []))
    (WrongRule 0 2) refl

-- v + w by V12 has three words, by V6 two
abbrev sum_with_text : (v w s : List ℕ) → List ℕ
sum_with_text v w s = text (header_2 ∷ codes "E 0 0 0 1 2" ∷ sum_nodes v w s [])

abbrev sum_with : (v w s : List ℕ) → CheckFault → Type 0
sum_with v w s f = Lacks (sum_with_text v w s) f

dear_sum : sum_with (codes "V0.V1") (codes "V1") (codes "V12") (WrongRule 0 4) × sum_with (codes "V0.V1") (codes "-") (codes "V6") Truncated
unfolding plus more sum given operand_cost better least_from number_cost
dear_sum = (
  judged_lacks (sum_with_text (codes "V0.V1") (codes "V1") (codes "V12")) (WrongRule 0 4) refl,
  judged_lacks (sum_with_text (codes "V0.V1") (codes "-") (codes "V6")) Truncated refl,
)

-- V6 takes w as its operand, so w must show no rules
operand_with_rules : sum_with (codes "V0.V1") (codes "V0.V1") (codes "V6") (WrongRule 0 4)
unfolding plus more sum given operand_cost better least_from number_cost
operand_with_rules = judged_lacks (sum_with_text (codes "V0.V1") (codes "V0.V1") (codes "V6")) (WrongRule 0 4) refl

-- v = 0 by J8 and table 1: the least words are others, and with these there is no such rule
abbrev zero_by_table_1_text : List ℕ → List ℕ
zero_by_table_1_text last = text (header_1 ∷ codes "E 0 0 9 10 3" ∷ zero_nodes last [])

abbrev zero_by_table_1 : List ℕ → CheckFault → Type 0
zero_by_table_1 last f = Lacks (zero_by_table_1_text last) f

table_1 : zero_by_table_1 (codes "3 X10 3 - 3 3 J8") (WrongCost 0 3) × zero_by_table_1 (codes "3 X10 3 - 5 5 J8") (WrongRule 0 3)
unfolding plus more sum given operand_cost better least_from number_cost
table_1 = (
  judged_lacks (zero_by_table_1_text (codes "3 X10 3 - 3 3 J8")) (WrongCost 0 3) refl,
  judged_lacks (zero_by_table_1_text (codes "3 X10 3 - 5 5 J8")) (WrongRule 0 3) refl,
)

-- WrongRule at a root line: a test of a tree that shows a value, a value of one that shows a test, A2 where the address is an operand
wrong_roots : lack (call_with call_entry (codes "R F" ∷ [])) (WrongRule 0 4) × lack (header_2 ∷ call_entry ∷ codes "4 N65 1 1 0 2 J7" ∷ codes "R V" ∷ [])
    (WrongRule 0 1)
    × assigned (codes "R A2 4") (WrongRule 0 3)
unfolding plus more sum given operand_cost better least_from number_cost
wrong_roots = (
  judged_lacks (text (call_with call_entry (codes "R F" ∷ []))) (WrongRule 0 4) refl,
  judged_lacks (text (header_2 ∷ call_entry ∷ codes "4 N65 1 1 0 2 J7" ∷ codes "R V" ∷ [])) (WrongRule 0 1) refl,
  judged_lacks (assigned_text (codes "R A2 4")) (WrongRule 0 3) refl,
)

-- WrongCode: another number, a missing piece, an extra one, another order
wrong_code : with_code (codes "C L66 SP4 LIG14 K2") (WrongCode 0) × with_code (codes "C L65 SP4 LIG14") (WrongCode 0) × with_code
    (codes "C L65 SP4 LIG14 K2 K2") (WrongCode 0)
    × with_code (codes "C SP4 L65 LIG14 K2") (WrongCode 0) × with_code (codes "C") (WrongCode 0)
unfolding plus more sum given operand_cost better least_from number_cost
wrong_code = (
  judged_lacks (with_code_text (codes "C L66 SP4 LIG14 K2")) (WrongCode 0) refl,
  judged_lacks (with_code_text (codes "C L65 SP4 LIG14")) (WrongCode 0) refl,
  judged_lacks (with_code_text (codes "C L65 SP4 LIG14 K2 K2")) (WrongCode 0) refl,
  judged_lacks (with_code_text (codes "C SP4 L65 LIG14 K2")) (WrongCode 0) refl,
  judged_lacks (with_code_text (codes "C")) (WrongCode 0) refl,
)

-- the code of v = 0 on false for a root on true; another target
zero_code : lack (header_2 ∷ codes "E 0 0 9 10 3" ∷ zero_nodes (codes "3 X10 3 - 3 3 J8") (codes "R T" ∷ codes "C LIP2 TL9" ∷ [])) (WrongCode 0)
    × lack (header_2 ∷ codes "E 0 0 9 10 3" ∷ zero_nodes (codes "3 X10 3 - 3 3 J8") (codes "R F" ∷ codes "C LIP2 TL8" ∷ [])) (WrongCode 0)
unfolding plus more sum given operand_cost better least_from number_cost
zero_code = (
  judged_lacks (text (header_2 ∷ codes "E 0 0 9 10 3" ∷ zero_nodes (codes "3 X10 3 - 3 3 J8") (codes "R T" ∷ codes "C LIP2 TL9" ∷ []))) (WrongCode 0) refl,
  judged_lacks (text (header_2 ∷ codes "E 0 0 9 10 3" ∷ zero_nodes (codes "3 X10 3 - 3 3 J8") (codes "R F" ∷ codes "C LIP2 TL8" ∷ []))) (WrongCode 0) refl,
)

-- a label of the derivation over 65535: v -> w, x needs two labels, and the first is 65535
label_too_large : lack (header_2 ∷ codes "E 0 0 0 65535 7" ∷ codes "5 P2 1 1 3 3 -" ∷ codes "5 ! 1 1 3 3 J6.V0.V1" ∷ codes "5 P3 1 1 3 3 -"
    ∷ codes "5 ! 1 1 3 3 V0.V1"
    ∷ codes "5 P4 1 1 3 3 -" ∷ codes "5 ! 1 1 3 3 V0.V1" ∷ codes "5 ? 7 - 9 9 V20" ∷ codes "R V" ∷ codes "C LIP2 FL65535 LIP3 JL0 65535 LIP4 0" ∷ [])
    (WrongCode 0)
unfolding plus more sum given operand_cost better least_from number_cost
label_too_large = judged_lacks (text (header_2 ∷ codes "E 0 0 0 65535 7" ∷ codes "5 P2 1 1 3 3 -" ∷ codes "5 ! 1 1 3 3 J6.V0.V1" ∷ codes "5 P3 1 1 3 3 -"
    ∷ codes "5 ! 1 1 3 3 V0.V1" ∷ codes "5 P4 1 1 3 3 -" ∷ codes "5 ! 1 1 3 3 V0.V1" ∷ codes "5 ? 7 - 9 9 V20" ∷ codes "R V"
    ∷ codes "C LIP2 FL65535 LIP3 JL0 65535 LIP4 0" ∷ [])) (WrongCode 0) refl

-- WrongWords: one too many, one too few
wrong_words : lack (call_with (codes "E 0 0 0 2 5") (codes "R V" ∷ call_code ∷ [])) (WrongWords 0) × lack (call_with (codes "E 0 0 0 2 3") (codes "R V"
    ∷ call_code ∷ [])) (WrongWords 0)
unfolding plus more sum given operand_cost better least_from number_cost
wrong_words = (
  judged_lacks (text (call_with (codes "E 0 0 0 2 5") (codes "R V" ∷ call_code ∷ []))) (WrongWords 0) refl,
  judged_lacks (text (call_with (codes "E 0 0 0 2 3") (codes "R V" ∷ call_code ∷ []))) (WrongWords 0) refl,
)

-- a fault of the second entry: nodes are counted from 0 again
second_entry : lack (call_with call_entry (codes "R V" ∷ call_code ∷ codes "E 0 0 0 2 4" ∷ codes "4 N65 1 1 0 2 V2" ∷ [])) (WrongRule 1 0)
unfolding plus more sum given operand_cost better least_from number_cost
second_entry = judged_lacks (text (call_with call_entry (codes "R V" ∷ call_code ∷ codes "E 0 0 0 2 4" ∷ codes "4 N65 1 1 0 2 V2" ∷ []))) (WrongRule 1 0) refl

-- Truncated: after each line but the last, and if the last one has no LF
abbrev cut_text : List (List ℕ) → List ℕ → List ℕ
cut_text ls rest = (text ls ++ rest)

abbrev cut : List (List ℕ) → List ℕ → CheckFault → Type 0
cut ls rest f = Lacks (cut_text ls rest) f

truncated : lack (header_2 ∷ []) Truncated × cut (header_2 ∷ []) (codes "Z 0") Truncated × cut (header_2 ∷ codes "Z 0" ∷ []) (codes "Z") Truncated
    × cut (header_2 ∷ call_entry ∷ []) (codes "4 N65 1 1 0 2 V2") Truncated
unfolding plus more sum given operand_cost better least_from number_cost
truncated = (
  judged_lacks (text (header_2 ∷ [])) Truncated refl,
  judged_lacks (cut_text (header_2 ∷ []) (codes "Z 0")) Truncated refl,
  judged_lacks (cut_text (header_2 ∷ codes "Z 0" ∷ []) (codes "Z")) Truncated refl,
  judged_lacks (cut_text (header_2 ∷ call_entry ∷ []) (codes "4 N65 1 1 0 2 V2")) Truncated refl,
)
