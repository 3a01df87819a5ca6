-- The certificates of the worked examples, by their lines.
use Rattle.std.specs.Prelude.{ℕ, List, [], ◌∷◌, ◌++◌, codes}
use Rattle.bc_rules_defs.specs.declared.rule.Table.{Table}
use Rattle.bc_rules_defs.specs.declared.piece.Piece.{Piece}
use Rattle.bc_core.specs.Tree.{Root}
use Rattle.bc_cert_defs.specs.declared.check_fault.CheckFault.{CheckFault}
use Rattle.bc_cert_defs.specs.Verdict.{Judged}
use Rattle.bc_cert_laws.specs.Entries.{Says}
use Rattle.bc_cert_laws.specs.Faults.{Lacks}

-- ---- Worked examples

-- each line with its LF
abbrev pub text : List (List ℕ) → List ℕ
text [] = []
text (l ∷ ls) = l ++ 10 ∷ text ls

abbrev pub say : List (List ℕ) → Table → List Judged → Type 0
say ls T js = Says (text ls) (record { table = T; entries = js })

abbrev pub lack : List (List ℕ) → CheckFault → Type 0
lack ls f = Lacks (text ls) f

-- an entry at item 0 of segment 0
abbrev pub entry : Root → (target first : ℕ) → List Piece → (words : ℕ) → Judged
entry r target first code words = record { segment = 0; item = 0; root = r; target = target; first = first; code = code; words = words }

abbrev pub header_1 : List ℕ
header_1 = codes "BCPLCERT 1"

abbrev pub header_2 : List ℕ
header_2 = codes "BCPLCERT 2"

-- WRCH('A') at level 2
abbrev pub call_nodes : List (List ℕ) → List (List ℕ)
call_nodes ls = codes "4 N65 1 1 0 2 V0.V1" ∷ codes "5 G14 1 1 3 3 -" ∷ codes "5 ! 1 1 3 3 V0.V1" ∷ codes "2 K1 4 - 6 6 V22" ∷ ls

-- the same certificate with this `E` line and these lines after the nodes
abbrev pub call_with : List ℕ → List (List ℕ) → List (List ℕ)
call_with first ls = header_2 ∷ first ∷ call_nodes ls

abbrev pub call_entry : List ℕ
call_entry = codes "E 0 0 0 2 4"

abbrev pub call_code : List ℕ
call_code = codes "C L65 SP4 LIG14 K2"

-- v + w at level 4, with v and w at 2 and 3: the rules of v, of w and of the sum
abbrev pub sum_nodes : (v w s : List ℕ) → List (List ℕ) → List (List ℕ)
sum_nodes v w s ls =
    codes "5 P2 1 1 3 3 -" ∷ (codes "5 ! 1 1 3 3 " ++ v) ∷ codes "5 P3 1 1 3 3 -" ∷ (codes "5 ! 1 1 3 3 " ++ w) ∷ (codes "4 X8 2 2 4 4 " ++ s) ∷ ls

-- v = 0 at level 3, with v at 2
abbrev pub zero_nodes : List ℕ → List (List ℕ) → List (List ℕ)
zero_nodes last ls = codes "4 P2 1 1 3 3 -" ∷ codes "4 ! 1 1 3 3 V0.V1" ∷ codes "4 N0 1 1 2 0 -" ∷ last ∷ ls
