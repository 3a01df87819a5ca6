-- Worked examples: the lines of WRCH('A') in a routine without variables, that its numbers have room, and nodes that show no rule.
use Rattle.std.specs.Prelude.{ℕ, ◌≡◌, List, [], ◌∷◌, ◌++◌, Option, Some, None, refl}
use Rattle.std.proofs.Common.{arith, inl, inr}
use Rattle.std.specs.Fmt.{decimal}
use Rattle.bc_core.specs.Tree.{Exp, Num, Glob, Load, Not, Call, no_argument, argument, Root, Value}
use Rattle.bc_rules_defs.specs.declared.rule.Table.TheVariants.{Two}
use Rattle.bc_rules_defs.specs.declared.rule.Rule.{Rule}
use Rattle.bc_rules_defs.specs.declared.rule.Rule.TheVariants.{V0, V1, V22}
use Rattle.bc_rules_defs.specs.Rules.{RootDerives, value, v0, v1, v22, no_more, one_more}
use Rattle.bc_select_defs.specs.Options.{plus, more, sum, given, operand_cost, better, least_from}
use Rattle.bc_select_defs.specs.Choices.{number_cost}
use Rattle.bc_cert_write.specs.Certificate.{Derived, entry_of, entry_text}
use Rattle.bc_cert_write.specs.Lines.{line, words_field, rules_field}
use Rattle.bc_cert_write.specs.Shown.{Shown, below_bare}
use Rattle.bc_cert_write.specs.Workings.{HasNoRoom}

abbrev written : Root
written = Value 2 (Call (argument (Num 65) no_argument) (Load (Glob 14)))

abbrev by_call : RootDerives Two written
by_call = value (v22 (one_more (v0 (v1 refl)) no_more) (v0 (v1 refl)))

abbrev sample : Derived
sample = record { segment = 0; item = 1; target = 0; first = 2; root = written; derivation = by_call; bodies = [] }

-- `E 0 1 0 2 4`
abbrev first_line : List ℕ
first_line = line (69 ∷ []) (decimal 0 ∷ decimal 1 ∷ decimal 0 ∷ decimal 2 ∷ decimal 4 ∷ [])

-- a node line with these fields
abbrev node : ℕ → List ℕ → ℕ → Option ℕ → ℕ → ℕ → List Rule → List ℕ
node level form any push on_false on_true rules =
    line (decimal level) (form ∷ decimal any ∷ words_field push ∷ decimal on_false ∷ decimal on_true ∷ rules_field rules ∷ [])

-- `4 N65 1 1 0 2 V0.V1`, `5 G14 1 1 3 3 -`, `5 ! 1 1 3 3 V0.V1` and `2 K1 4 - 6 6 V22`
abbrev node_lines : List ℕ
node_lines =
    node 4 (78 ∷ decimal 65) 1 (Some 1) 0 2 (V0 ∷ V1 ∷ [])
    ++ (node 5 (71 ∷ decimal 14) 1 (Some 1) 3 3 []
    ++ (node 5 (33 ∷ []) 1 (Some 1) 3 3 (V0 ∷ V1 ∷ [])
    ++ (node 2 (75 ∷ decimal 1) 4 None 6 6 (V22 ∷ []) ++ [])))

-- `R V`, and `C L65 SP4 LIG14 K2`
abbrev last_lines : List ℕ
last_lines =
    line (82 ∷ []) ((86 ∷ []) ∷ [])
    ++ line (67 ∷ []) ((76 ∷ decimal 65) ∷ (83 ∷ 80 ∷ decimal 4) ∷ (76 ∷ 73 ∷ 71 ∷ decimal 14) ∷ (75 ∷ decimal 2) ∷ [])

pub sample_text : entry_text sample ≡ first_line ++ (node_lines ++ last_lines)
unfolding plus more sum given operand_cost better least_from number_cost
sample_text = refl

pub sample_has_room : ¬ HasNoRoom (entry_of sample)
sample_has_room h = elim h [ inl many ↦ omega (arith, many) | inr lacks ↦ lacks.exact Two by_call refl (omega arith) (omega arith) ]

-- the nodes below NOT WRCH('A') at level 5, none of which shows a rule
abbrev no_rule : Exp → ℕ → Shown
no_rule e s = record { expression = e; level = s; rules = [] }

pub bare_sample : below_bare (Not (Call (argument (Num 65) no_argument) (Load (Glob 14)))) 5
    ≡ no_rule (Num 65) 7 ∷ no_rule (Glob 14) 8 ∷ no_rule (Load (Glob 14)) 8 ∷ no_rule (Call (argument (Num 65) no_argument) (Load (Glob 14))) 5 ∷ []
bare_sample = refl
