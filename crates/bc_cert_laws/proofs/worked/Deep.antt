-- Worked examples: how deep a tree may be.
use Rattle.std.specs.Prelude.{ℕ, zero, suc, ◌+◌, ◌/◌, ◌%◌, cond, nat_lt, List, [], ◌∷◌, ◌++◌, codes, refl}
use Rattle.bc_cert_defs.specs.declared.check_fault.CheckFault.TheVariants.{Truncated, TooDeep}
use Rattle.bc_select_defs.specs.Options.{plus, more, sum, given, operand_cost, better, least_from}
use Rattle.bc_select_defs.specs.Choices.{number_cost}
use Rattle.bc_cert_laws.proofs.Whole.{judged_lacks}
use Rattle.bc_cert_laws.proofs.worked.Written.{text, lack, header_2, call_entry}

-- ---- Worked examples

-- a number up to 999 in decimal digits
abbrev digits : ℕ → List ℕ
digits k =
    cond (nat_lt k 10) ((48 + k) ∷ [])
    (cond (nat_lt k 100) ((48 + (k / 10)) ∷ (48 + (k % 10)) ∷ []) ((48 + (k / 100)) ∷ (48 + ((k % 100) / 10)) ∷ (48 + (k % 10)) ∷ []))

-- the content of a content, this number of times, of the address of v, with no rules shown: lines `5 ! k k k+2 k+2 -`
abbrev load_line : ℕ → List ℕ
load_line k = codes "5 ! " ++ (digits k ++ 32 ∷ (digits k ++ 32 ∷ (digits (k + 2) ++ 32 ∷ (digits (k + 2) ++ codes " -"))))

abbrev load_lines : (n k : ℕ) → List (List ℕ)
load_lines zero k = []
load_lines (suc n) k = load_line k ∷ load_lines n (k + 1)

abbrev loads : ℕ → List (List ℕ)
loads n = header_2 ∷ call_entry ∷ codes "5 P2 1 1 3 3 -" ∷ load_lines n 1

-- 399 of them and the address are 400 nodes; one more is too deep
deepest : lack (loads 399) Truncated
unfolding plus more sum given operand_cost better least_from number_cost
deepest = judged_lacks (text (loads 399)) Truncated refl

too_deep : lack (loads 400) (TooDeep 403)
unfolding plus more sum given operand_cost better least_from number_cost
too_deep = judged_lacks (text (loads 400)) (TooDeep 403) refl
