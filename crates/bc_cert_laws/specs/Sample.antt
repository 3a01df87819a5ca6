-- Worked examples: the certificate of WRCH('A') in a routine without variables, what it says, and the first faults of texts near it.
use Rattle.std.specs.Prelude.{ℕ, ◌≡◌, true, false, List, [], ◌∷◌, ◌++◌, Ok, Err, refl}
use Rattle.bc_text_items.specs.declared.item.Item.TheVariants.{Operation}
use Rattle.bc_text_items.specs.declared.item.Base.TheVariants.{Number, G}
use Rattle.bc_text_items.specs.declared.item.Function.TheVariants.{Load as Load_address}
use Rattle.bc_rules_defs.specs.declared.piece.Piece.TheVariants.{Item}
use Rattle.bc_core.specs.Tree.{Num, Glob, Load, Call, no_argument, argument, Value}
use Rattle.bc_rules_defs.specs.Piece.{SP, K}
use Rattle.bc_rules_defs.specs.declared.rule.Table.TheVariants.{Two}
use Rattle.bc_select_defs.specs.Options.{sum}
use Rattle.bc_cert_defs.specs.declared.check_fault.CheckFault.TheVariants.{Header, Line, Truncated, WrongCost, WrongRule, WrongCode, WrongWords}
use Rattle.bc_cert_defs.specs.Verdict.{Judged}
use Rattle.bc_cert_laws.specs.Judging.{judged}

-- `BCPLCERT 2`
abbrev header_line : List ℕ
header_line = 66 ∷ 67 ∷ 80 ∷ 76 ∷ 67 ∷ 69 ∷ 82 ∷ 84 ∷ 32 ∷ 50 ∷ 10 ∷ []

-- `E 0 1 0 2 4`
abbrev entry_line : List ℕ
entry_line = 69 ∷ 32 ∷ 48 ∷ 32 ∷ 49 ∷ 32 ∷ 48 ∷ 32 ∷ 50 ∷ 32 ∷ 52 ∷ 10 ∷ []

-- `4 N65 1 1 0 2 V0.V1`
abbrev number_line : List ℕ
number_line = 52 ∷ 32 ∷ 78 ∷ 54 ∷ 53 ∷ 32 ∷ 49 ∷ 32 ∷ 49 ∷ 32 ∷ 48 ∷ 32 ∷ 50 ∷ 32 ∷ 86 ∷ 48 ∷ 46 ∷ 86 ∷ 49 ∷ 10 ∷ []

-- `5 G14 1 1 3 3 -`
abbrev global_line : List ℕ
global_line = 53 ∷ 32 ∷ 71 ∷ 49 ∷ 52 ∷ 32 ∷ 49 ∷ 32 ∷ 49 ∷ 32 ∷ 51 ∷ 32 ∷ 51 ∷ 32 ∷ 45 ∷ 10 ∷ []

-- `5 ! 1 1 3 3 V0.V1`
abbrev load_line : List ℕ
load_line = 53 ∷ 32 ∷ 33 ∷ 32 ∷ 49 ∷ 32 ∷ 49 ∷ 32 ∷ 51 ∷ 32 ∷ 51 ∷ 32 ∷ 86 ∷ 48 ∷ 46 ∷ 86 ∷ 49 ∷ 10 ∷ []

-- `2 K1 4 - 6 6 V22`
abbrev call_line : List ℕ
call_line = 50 ∷ 32 ∷ 75 ∷ 49 ∷ 32 ∷ 52 ∷ 32 ∷ 45 ∷ 32 ∷ 54 ∷ 32 ∷ 54 ∷ 32 ∷ 86 ∷ 50 ∷ 50 ∷ 10 ∷ []

-- `R V`
abbrev root_line : List ℕ
root_line = 82 ∷ 32 ∷ 86 ∷ 10 ∷ []

-- `C L65 SP4 LIG14 K2`
abbrev code_line : List ℕ
code_line = 67 ∷ 32 ∷ 76 ∷ 54 ∷ 53 ∷ 32 ∷ 83 ∷ 80 ∷ 52 ∷ 32 ∷ 76 ∷ 73 ∷ 71 ∷ 49 ∷ 52 ∷ 32 ∷ 75 ∷ 50 ∷ 10 ∷ []

-- `Z 1`
abbrev end_line : List ℕ
end_line = 90 ∷ 32 ∷ 49 ∷ 10 ∷ []

abbrev sample : List ℕ
sample = header_line ++ (entry_line ++ (number_line ++ (global_line ++ (load_line ++ (call_line ++ (root_line ++ (code_line ++ end_line)))))))

-- the entry that it says: a call of the routine in global 14 with the argument 65, at level 2
abbrev said : Judged
said = record {
  segment = 0;
  item = 1;
  root = Value 2 (Call (argument (Num 65) no_argument) (Load (Glob 14)));
  target = 0;
  first = 2;
  code = Item (Operation Load_address false Number 65) ∷ SP 4 ∷ Item (Operation Load_address true G 14) ∷ K 2 ∷ [];
  words = 4;
}

pub sample_says : judged sample ≡ Ok (record { table = Two; entries = said ∷ [] })
unfolding sum
sample_says = refl

-- without its end line, and an incomplete first line
pub sample_truncated : judged (header_line ++ (entry_line ++ (number_line ++ (global_line ++ (load_line ++ (call_line ++ (root_line ++ code_line)))))))
    ≡ Err Truncated
unfolding sum
sample_truncated = refl

pub no_line : judged (66 ∷ 67 ∷ []) ≡ Err Header
no_line = refl

-- a root line where a node line is missing
pub sample_unfinished : judged (header_line ++ (entry_line ++ (number_line ++ (global_line ++ (load_line ++ root_line))))) ≡ Err (Line 6)
unfolding sum
sample_unfinished = refl

-- `4 N65 2 1 0 2 V0.V1`: one word is enough
pub dear_number : judged (header_line
    ++ (entry_line ++ (52 ∷ 32 ∷ 78 ∷ 54 ∷ 53 ∷ 32 ∷ 50 ∷ 32 ∷ 49 ∷ 32 ∷ 48 ∷ 32 ∷ 50 ∷ 32 ∷ 86 ∷ 48 ∷ 46 ∷ 86 ∷ 49 ∷ 10 ∷ []))) ≡ Err (WrongCost 0 0)
dear_number = refl

-- `4 N65 1 1 0 2 V0.V2`: V2 is the rule of a cell's content, and this is a number
pub other_rule : judged (header_line
    ++ (entry_line ++ (52 ∷ 32 ∷ 78 ∷ 54 ∷ 53 ∷ 32 ∷ 49 ∷ 32 ∷ 49 ∷ 32 ∷ 48 ∷ 32 ∷ 50 ∷ 32 ∷ 86 ∷ 48 ∷ 46 ∷ 86 ∷ 50 ∷ 10 ∷ []))) ≡ Err (WrongRule 0 0)
other_rule = refl

-- `C L66 SP4 LIG14 K2`: another number is loaded
pub other_code : judged (header_line
    ++ (entry_line ++ (number_line
    ++ (global_line ++ (load_line ++
    (call_line ++ (root_line ++ (67 ∷ 32 ∷ 76 ∷ 54 ∷ 54 ∷ 32 ∷ 83 ∷ 80 ∷ 52 ∷ 32 ∷ 76 ∷ 73 ∷ 71 ∷ 49 ∷ 52 ∷ 32 ∷ 75 ∷ 50 ∷ 10 ∷ []))))))))
    ≡ Err (WrongCode 0)
unfolding sum
other_code = refl

-- `E 0 1 0 2 5`: the code has four words
pub other_words : judged (header_line
    ++ ((69 ∷ 32 ∷ 48 ∷ 32 ∷ 49 ∷ 32 ∷ 48 ∷ 32 ∷ 50 ∷ 32 ∷ 53 ∷ 10 ∷ [])
    ++ (number_line ++ (global_line ++ (load_line ++ (call_line ++ (root_line ++ code_line))))))) ≡ Err (WrongWords 0)
unfolding sum
other_words = refl

-- a line after the end line
pub further_line : judged (sample ++ header_line) ≡ Err (Line 10)
unfolding sum
further_line = refl
