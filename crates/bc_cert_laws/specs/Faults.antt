-- The first fault of bytes that aren't an accepted certificate.
use Rattle.std.specs.Prelude.{◌≡◌, ℕ, ◌+◌, ◌==◌, ◌≤◌, ◌<◌, Bool, true, false, cond, List, [], ◌∷◌, ◌++◌, map, length, flat_map, Some, IfSome}
use Rattle.std.specs.List.{AllByRecursion, AllZip}
use Rattle.std.specs.Fmt.{decimal}
use Rattle.bc_core.specs.Tree.{Exp, Load, Neg, Not, Bin, Cond, Call, Args, no_argument, argument, count, Root, Value, Test, Assign}
use Rattle.bc_core.specs.Level.{side_level}
use Rattle.bc_rules_defs.specs.declared.piece.Piece.{Piece}
use Rattle.bc_rules_defs.specs.declared.rule.Table.{Table}
use Rattle.bc_rules_defs.specs.declared.rule.Mode.TheVariants.{Any, Push}
use Rattle.bc_rules_defs.specs.declared.rule.Aim.{Aim}
use Rattle.bc_rules_defs.specs.declared.rule.Aim.TheVariants.{Gets, Jumps}
use Rattle.bc_rules_defs.specs.declared.rule.Rule.{Rule}
use Rattle.bc_rules_defs.specs.declared.rule.Rule.TheVariants.{A1, A2, A3}
use Rattle.bc_rules_defs.specs.Rules.{Derives, RootDerives}
use Rattle.bc_rules_defs.specs.Code.{cost, root_code, root_labels, root_cost}
use Rattle.bc_select_defs.specs.Least.{AreLeastWords}
use Rattle.bc_rules_defs.specs.Names.{rule_number, rule_letter}
use Rattle.bc_cert_defs.specs.declared.check_fault.CheckFault.{CheckFault}
use Rattle.bc_cert_defs.specs.declared.check_fault.CheckFault.TheVariants.{Header, Line, Truncated, WrongCost, WrongRule, WrongCode, WrongWords, TooDeep}
use Rattle.bc_cert_defs.specs.Text.{header_line, end_line}
use Rattle.bc_cert_defs.specs.Verdict.{Judged}
use Rattle.bc_cert_write.specs.Shown.{Shown, shown, root_shown}
use Rattle.bc_cert_write.specs.Lines.{line, rule_name, form_field, words_field, sense_field, entry_line, node_line as line_of_node, root_line as line_of_root}
use Rattle.bc_cert_defs.specs.declared.costs.Costs.{Costs}
use Rattle.bc_cert_defs.specs.declared.head.Head.{Head}
use Rattle.bc_cert_laws.specs.Entries.{IsNumber, IsSmall, IsLevel, HasSmallNumber, nested, NodeHasRoom, PieceHasRoom, pieces_line, SamePiece}

-- the numbers of an `E` line are within their bounds
pub record HeadHasRoom (h : Head) : Type 0 where
  pub segment : IsNumber h.segment
  pub item : IsNumber h.item
  pub target : IsSmall h.target
  pub first : IsSmall h.first
  pub words : IsNumber h.words

abbrev pub head_line : Head → List ℕ
head_line h = entry_line h.segment h.item h.target h.first h.words

-- A tree that node lines have built: an expression at a level, and the nodes that its lines show.
pub record Grown : Type 0 where
  pub expression : Exp
  pub level : ℕ
  pub shown : List Shown

-- the nodes that trees show
abbrev pub all_shown : List Grown → List Shown
all_shown ts = flat_map (λ t. t.shown) ts

-- the parts of an expression, each with its level, in the order of their lines
abbrev pub all_parts : Args → ℕ → List (Exp × ℕ)
all_parts no_argument s = []
all_parts (argument e es) s = (e, s) ∷ all_parts es (s + 1)

abbrev pub parts : Exp → ℕ → List (Exp × ℕ)
parts (Load e) s = (e, s) ∷ []
parts (Neg e) s = (e, s) ∷ []
parts (Not e) s = (e, s) ∷ []
parts (Bin op a b) s = (a, s + 1) ∷ (b, s + 1) ∷ []
parts (Cond c x y) s = (c, s) ∷ (x, s) ∷ (y, s) ∷ []
parts (Call es f) s = all_parts es (s + 2) ++ (f, s + 2 + count es) ∷ []
parts _ s = []

-- the last of these trees are the parts of the expression at this level
pub record Ends (e : Exp) (s : ℕ) (trees : List Grown) : Type 0 where
  pub before : List Grown
  pub own : List Grown
  pub cut : trees ≡ before ++ own
  pub parts : map (λ t. (t.expression, t.level)) own ≡ parts e s

-- the name of a rule: a letter and a number; the rule needn't be in the table
pub record Name : Type 0 where
  pub letter : ℕ
  pub number : ℕ

abbrev pub name : Rule → Name
name r = record { letter = rule_letter r; number = rule_number r }

pub data IsName : Name → Type 0 where
  v : {n : ℕ} → IsSmall n → IsName (record { letter = 86; number = n })
  j : {n : ℕ} → IsSmall n → IsName (record { letter = 74; number = n })
  a : {n : ℕ} → IsSmall n → IsName (record { letter = 65; number = n })

abbrev pub name_text : Name → List ℕ
name_text x = x.letter ∷ decimal x.number

abbrev pub further_names : List Name → List ℕ
further_names [] = []
further_names (x ∷ xs) = 46 ∷ (name_text x ++ further_names xs)

abbrev pub names_field : List Name → List ℕ
names_field [] = 45 ∷ []
names_field (x ∷ xs) = name_text x ++ further_names xs

-- the four numbers of a node line are within their bounds
pub record CostsHaveRoom (c : Costs) : Type 0 where
  pub any : IsNumber c.any
  pub push : IfSome c.push IsNumber
  pub on_false : IsNumber c.on_false
  pub on_true : IsNumber c.on_true

-- the text has the form of a node line for this expression at this level, with these numbers and names
pub record IsNodeLine (e : Exp) (s : ℕ) (c : Costs) (names : List Name) (text : List ℕ) : Type 0 where
  pub level : IsLevel s
  pub number : HasSmallNumber e
  pub costs : CostsHaveRoom c
  pub all_names : AllByRecursion IsName names
  pub is : text ≡ line (decimal s) (form_field e ∷ decimal c.any ∷ words_field c.push ∷ decimal c.on_false ∷ decimal c.on_true ∷ names_field names ∷ [])

-- the four numbers are the fewest words of the expression's derivations
pub record AreLeastCosts (T : Table) (e : Exp) (s : ℕ) (c : Costs) : Type 0 where
  pub any : AreLeastWords T e (Gets Any) s (Some c.any)
  pub push : AreLeastWords T e (Gets Push) s c.push
  pub on_false : AreLeastWords T e (Jumps false) s (Some c.on_false)
  pub on_true : AreLeastWords T e (Jumps true) s (Some c.on_true)

-- the rules at these nodes are those of a derivation that has the fewest words for some aim
pub record RulesStand (T : Table) (e : Exp) (s : ℕ) (nodes : List Shown) : Type 0 where
  pub aim : Aim
  pub derivation : Derives T e aim
  pub shown : nodes ≡ shown derivation s
  pub fewest : (other : Derives T e aim) → cost derivation s ≤ cost other s

-- the same for a node that names rules; a node without rules is always right
abbrev pub StandsBy : Table → Exp → ℕ → List Rule → List Shown → Type 0
StandsBy T e s [] nodes = Unit {0}
StandsBy T e s rules nodes = RulesStand T e s nodes

-- the rule is one of assignments
pub data IsAssignment : Rule → Type 0 where
  first : IsAssignment A1
  second : IsAssignment A2
  third : IsAssignment A3

-- the pieces are the code of the derivation, and its labels are at most 65,535
pub record IsCode {T : Table} {r : Root} (d : RootDerives T r) (h : Head) (ps : List Piece) : Type 0 where
  pub same : AllZip SamePiece ps (root_code d h.target h.first)
  pub labels : h.first + root_labels d ≤ 65536

abbrev pub judged : Head → Root → List Piece → Judged
judged h r ps = record { segment = h.segment; item = h.item; root = r; target = h.target; first = h.first; code = ps; words = h.words }

-- The trees of an entry make this root, and the text has the form of its root line.
pub data RootOver : List Grown → Root → List ℕ → Type 0 where
  value : {t : Grown} → RootOver (t ∷ []) (Value t.level t.expression) (line (82 ∷ []) ((86 ∷ []) ∷ []))
  test : {t : Grown} {sense : Bool} → RootOver (t ∷ []) (Test t.level sense t.expression) (line (82 ∷ []) (sense_field sense ∷ []))
  assign : {v a : Grown} {s : ℕ} {r : Rule} → IsAssignment r → IsLevel s → v.level ≡ side_level a.expression s → a.level ≡ side_level a.expression s
      → RootOver (v ∷ a ∷ []) (Assign s v.expression a.expression) (line (82 ∷ []) (rule_name r ∷ decimal s ∷ []))

-- the lines of an entry, up to its root line, are those of a derivation of the root that has the fewest words
pub record RootStands (T : Table) (r : Root) (nodes : List Shown) (text : List ℕ) (d : RootDerives T r) : Type 0 where
  pub shown : nodes ≡ root_shown d
  pub is : text ≡ line_of_root d
  pub fewest : (other : RootDerives T r) → root_cost d ≤ root_cost other

-- Where right lines have led: to the beginning, after the header and whole entries, after node lines of an entry, after its root line,
-- or after the end line.
pub data Stage : Type 0 where
  the_header : Stage
  between : Table → List Judged → Stage
  nodes : Table → List Judged → Head → List Grown → Stage
  code : (T : Table) → List Judged → Head → (r : Root) → RootDerives T r → Stage
  the_end : Table → List Judged → Stage

abbrev pub node : Exp → ℕ → List Rule → Shown
node e s rules = record { expression = e; level = s; rules = rules }

-- the tree of a node with these trees as its parts
abbrev pub grown : Exp → ℕ → List Rule → List Grown → Grown
grown e s rules own = record { expression = e; level = s; shown = all_shown own ++ node e s rules ∷ [] }

-- The text consists of whole lines that are all right, and they lead from the beginning to this stage.
pub data Reaches : List ℕ → Stage → Type 0 where
  nothing : Reaches [] the_header
  header : {T : Table} → Reaches (header_line T) (between T [])
  entry : {text : List ℕ} {T : Table} {js : List Judged} {h : Head} → Reaches text (between T js) → HeadHasRoom h
      → Reaches (text ++ head_line h) (nodes T js h [])
  node_line : {text : List ℕ} {T : Table} {js : List Judged} {h : Head} {trees : List Grown} {e : Exp} {s : ℕ} {rules : List Rule}
      → Reaches text (nodes T js h trees) → (ends : Ends e s trees)
      → NodeHasRoom T (node e s rules) → StandsBy T e s rules (all_shown ends.own ++ node e s rules ∷ [])
      → Reaches (text ++ line_of_node T (node e s rules)) (nodes T js h (ends.before ++ grown e s rules ends.own ∷ []))
  root_line : {text : List ℕ} {T : Table} {js : List Judged} {h : Head} {trees : List Grown} {r : Root} {l : List ℕ} {d : RootDerives T r}
      → Reaches text (nodes T js h trees) → RootOver trees r l → RootStands T r (all_shown trees) l d
      → Reaches (text ++ l) (code T js h r d)
  code_line : {text : List ℕ} {T : Table} {js : List Judged} {h : Head} {r : Root} {d : RootDerives T r} {ps : List Piece} → Reaches text (code T js h r d)
      → AllByRecursion PieceHasRoom ps → IsCode d h ps → root_cost d ≡ h.words
      → Reaches (text ++ pieces_line ps) (between T (js ++ judged h r ps ∷ []))
  last_line : {text : List ℕ} {T : Table} {js : List Judged} → Reaches text (between T js) → IsNumber (length js)
      → Reaches (text ++ end_line (length js)) (the_end T js)

-- the number of lines that end in these bytes
abbrev pub lines : List ℕ → ℕ
lines [] = 0
lines (b ∷ bs) = cond (b == 10) (lines bs + 1) (lines bs)

-- This line, with its LF, comes after right lines that have led to this stage, and there it has this fault.
pub data LineFault (text : List ℕ) : Stage → List ℕ → CheckFault → Type 0 where
  no_header : {l : List ℕ} → ((T : Table) → ¬ (l ≡ header_line T)) → LineFault text the_header l Header
  no_entry : {T : Table} {js : List Judged} {l : List ℕ} → ((h : Head) → HeadHasRoom h → ¬ (l ≡ head_line h))
      → (IsNumber (length js) → ¬ (l ≡ end_line (length js))) → LineFault text (between T js) l (Line (lines text + 1))
  no_form : {T : Table} {js : List Judged} {h : Head} {trees : List Grown} {l : List ℕ}
      → ((e : Exp) (s : ℕ) (c : Costs) (names : List Name) → Ends e s trees → ¬ IsNodeLine e s c names l) → ((r : Root) → ¬ RootOver trees r l)
      → LineFault text (nodes T js h trees) l (Line (lines text + 1))
  too_deep : {T : Table} {js : List Judged} {h : Head} {trees : List Grown} {e : Exp} {s : ℕ} {c : Costs} {names : List Name} {l : List ℕ} → Ends e s trees
      → IsNodeLine e s c names l → 400 < nested e
      → LineFault text (nodes T js h trees) l (TooDeep (lines text + 1))
  wrong_cost : {T : Table} {js : List Judged} {h : Head} {trees : List Grown} {e : Exp} {s : ℕ} {c : Costs} {names : List Name} {l : List ℕ}
      → Ends e s trees → IsNodeLine e s c names l → nested e ≤ 400 → ¬ AreLeastCosts T e s c
      → LineFault text (nodes T js h trees) l (WrongCost (length js) (length (all_shown trees)))
  wrong_rule : {T : Table} {js : List Judged} {h : Head} {trees : List Grown} {e : Exp} {s : ℕ} {c : Costs} {names : List Name} {l : List ℕ}
      → (ends : Ends e s trees) → IsNodeLine e s c names l → nested e ≤ 400 → AreLeastCosts T e s c
      → ((rules : List Rule) → names ≡ map name rules → ¬ StandsBy T e s rules (all_shown ends.own ++ node e s rules ∷ []))
      → LineFault text (nodes T js h trees) l (WrongRule (length js) (length (all_shown trees)))
  wrong_root : {T : Table} {js : List Judged} {h : Head} {trees : List Grown} {r : Root} {l : List ℕ} → RootOver trees r l
      → ((d : RootDerives T r) → ¬ RootStands T r (all_shown trees) l d)
      → LineFault text (nodes T js h trees) l (WrongRule (length js) (length (all_shown trees)))
  no_pieces : {T : Table} {js : List Judged} {h : Head} {r : Root} {d : RootDerives T r} {l : List ℕ}
      → ((ps : List Piece) → AllByRecursion PieceHasRoom ps → ¬ (l ≡ pieces_line ps)) → LineFault text (code T js h r d) l (Line (lines text + 1))
  wrong_code : {T : Table} {js : List Judged} {h : Head} {r : Root} {d : RootDerives T r} {ps : List Piece} → AllByRecursion PieceHasRoom ps
      → ¬ IsCode d h ps → LineFault text (code T js h r d) (pieces_line ps) (WrongCode (length js))
  wrong_words : {T : Table} {js : List Judged} {h : Head} {r : Root} {d : RootDerives T r} {ps : List Piece} → AllByRecursion PieceHasRoom ps
      → IsCode d h ps → ¬ (root_cost d ≡ h.words) → LineFault text (code T js h r d) (pieces_line ps) (WrongWords (length js))
  following : {T : Table} {js : List Judged} {l : List ℕ} → LineFault text (the_end T js) l (Line (lines text + 1))

-- the bytes don't end a line
abbrev pub IsUnended : List ℕ → Type 0
IsUnended bytes = lines bytes ≡ 0

-- the bytes have this first fault: that of a line after right lines, or an end that is missing
pub data Lacks : List ℕ → CheckFault → Type 0 where
  at_line : {text : List ℕ} {stage : Stage} {f : CheckFault} (l rest : List ℕ) → Reaches text stage → IsUnended l → LineFault text stage (l ++ 10 ∷ []) f
      → Lacks (text ++ (l ++ 10 ∷ rest)) f
  in_header : {bytes : List ℕ} → IsUnended bytes → Lacks bytes Header
  in_lines : {text rest : List ℕ} {stage : Stage} → Reaches text stage → ¬ (stage ≡ the_header) → IsUnended rest
      → ((T : Table) (js : List Judged) → stage ≡ the_end T js → ¬ (rest ≡ [])) → Lacks (text ++ rest) Truncated
