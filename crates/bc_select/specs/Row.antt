-- For proofs: the row of a node, and the node that a row and a span represent.
use Rattle.std.specs.Prelude.{ℕ, List, [], ◌∷◌, ◌≡◌, map, Option, Some, None}
use Rattle.bc_rules_defs.specs.declared.rule.Rule.{Rule}
use Rattle.bc_select_defs.specs.declared.choice.Choice.{Choice}
use Rattle.bc_select_defs.specs.declared.choice.Choices.{Choices}
use Rattle.bc_select_defs.specs.Options.{words_of, rule_of}
use Rattle.bc_select.specs.Reads.{rule_or_v1}
use Rattle.bc_select.specs.declared.node.PartNode.{PartNode}
use Rattle.bc_select.specs.declared.row.Row.{Row}
use Rattle.bc_select.specs.declared.table.Span.{Span}

-- the row of a node with these choices
abbrev pub row_of : Choices → Row
row_of c = record {
  costs = words_of c.any ∷ words_of c.push ∷ words_of c.on_false ∷ words_of c.on_true ∷ [];
  rules = rule_of c.any ∷ rule_of c.push ∷ rule_of c.on_false ∷ rule_of c.on_true ∷ [];
}

-- the chosen rules, with V1 where there is no choice
abbrev pub rules_of : Choices → List Rule
rules_of c = rule_or_v1 c.any ∷ rule_or_v1 c.push ∷ rule_or_v1 c.on_false ∷ rule_or_v1 c.on_true ∷ []

-- the row of a node
abbrev pub row_of_part : PartNode → Row
row_of_part p = row_of p.choices

-- the span of a node
abbrev pub span_of : PartNode → Span
span_of p = record { nodes = p.nodes; rules = rules_of p.choices; calls = p.calls }

-- the choice that words and a rule represent
abbrev pub choice_in : Option ℕ → Option Rule → Option Choice
choice_in (Some w) (Some r) = Some (record { words = w; rule = r })
choice_in _ _ = None

-- the choices that a row's lists represent
abbrev pub choices_in : List (Option ℕ) → List (Option Rule) → Choices
choices_in (a ∷ b ∷ c ∷ d ∷ []) (p ∷ q ∷ r ∷ t ∷ []) = record { any = choice_in a p; push = choice_in b q; on_false = choice_in c r; on_true = choice_in d t }
choices_in _ _ = record { any = None; push = None; on_false = None; on_true = None }

-- the node that a row and a span represent
abbrev pub part_in : Row → Span → PartNode
part_in row span = record { choices = choices_in row.costs row.rules; calls = span.calls; nodes = span.nodes }

-- the nodes that rows and spans represent
abbrev pub parts_in : List Row → List Span → List PartNode
parts_in (row ∷ rows) (span ∷ spans) = part_in row span ∷ parts_in rows spans
parts_in _ _ = []

-- there are as many rows as spans, and each row has a rule exactly where it has words
pub record AreParts (rows : List Row) (spans : List Span) : Type 0 where
  pub rows_are : rows ≡ map row_of_part (parts_in rows spans)
  pub spans_are : spans ≡ map span_of (parts_in rows spans)
