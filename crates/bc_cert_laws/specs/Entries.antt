-- Which bytes are an accepted certificate, and what it says.
use Rattle.std.specs.Prelude.{◌≡◌, ℕ, ◌+◌, ◌^◌, ◌≤◌, ◌<◌, List, [], ◌∷◌, ◌++◌, map, length, flat_map, IfSome, max}
use Rattle.std.specs.List.{AllZip, AllByRecursion}
use Rattle.std.specs.Fmt.{decimal}
use Rattle.bc_core.specs.Tree.{Exp, Num, Frame, Glob, Place, Load, Neg, Not, Bin, Cond, Call, Valof, Args, no_argument, argument, count, Root, Value, Test, Assign}
use Rattle.bc_rules_defs.specs.declared.piece.Piece.{Piece}
use Rattle.bc_rules_defs.specs.declared.piece.Piece.TheVariants.{Item, Body}
use Rattle.bc_rules_defs.specs.declared.rule.Table.{Table}
use Rattle.bc_rules_defs.specs.declared.rule.Aim.{Aim}
use Rattle.bc_rules_defs.specs.Rules.{RootDerives}
use Rattle.bc_rules_defs.specs.Code.{root_code, root_labels, root_cost}
use Rattle.bc_text.specs.Printed.{printed, IsItem}
use Rattle.bc_cert_defs.specs.Text.{header_line, end_line}
use Rattle.bc_cert_defs.specs.Verdict.{Judged, Verdict}
use Rattle.bc_cert_write.specs.Shown.{Shown, root_shown}
use Rattle.bc_cert_write.specs.Lines.{line, entry_line, node_line, root_line, least_words}

-- the bounds of the numbers in a certificate: of any number; of labels, targets and the numbers of forms; of levels
abbrev pub IsNumber : ℕ → Type 0
IsNumber n = n < 2 ^ 64

abbrev pub IsSmall : ℕ → Type 0
IsSmall n = n ≤ 65535

abbrev pub IsLevel : ℕ → Type 0
IsLevel s = s ≤ 32768

-- the number in the form of an expression, if it has one, is small
abbrev pub HasSmallNumber : Exp → Type 0
HasSmallNumber (Num n) = IsSmall n
HasSmallNumber (Frame k) = IsSmall k
HasSmallNumber (Glob n) = IsSmall n
HasSmallNumber (Place m) = IsSmall m
HasSmallNumber (Valof n) = IsSmall n
HasSmallNumber (Call es f) = IsSmall (count es)
HasSmallNumber _ = Unit {0}

-- the depth of an expression: 1 for one without parts
abbrev mutual
  pub nested : Exp → ℕ
  nested (Load e) = nested e + 1
  nested (Neg e) = nested e + 1
  nested (Not e) = nested e + 1
  nested (Bin op a b) = max (nested a) (nested b) + 1
  nested (Cond c x y) = max (nested c) (max (nested x) (nested y)) + 1
  nested (Call es f) = max (all_nested es) (nested f) + 1
  nested _ = 1

  pub all_nested : Args → ℕ
  all_nested no_argument = 0
  all_nested (argument e es) = max (nested e) (all_nested es)

-- the node can be written as a node line: its numbers are within their bounds, and it is at most 400 nodes deep
pub record NodeHasRoom (T : Table) (n : Shown) : Type 0 where
  pub level : IsLevel n.level
  pub number : HasSmallNumber n.expression
  pub words : (aim : Aim) → IfSome (least_words T aim n) IsNumber
  pub depth : nested n.expression ≤ 400

-- a field of a code line: an item as it is printed, or `?n` for a body of n items
abbrev pub piece_field : Piece → List ℕ
piece_field (Item i) = printed i
piece_field (Body n) = 63 ∷ decimal n

abbrev pub PieceHasRoom : Piece → Type 0
PieceHasRoom (Item i) = IsItem i
PieceHasRoom (Body n) = IsNumber n

abbrev pub pieces_line : List Piece → List ℕ
pieces_line ps = line (67 ∷ []) (map piece_field ps)

-- a piece in a certificate is this piece of a derivation's code: the same item, or a body for a body. The number of a body differs:
-- in a certificate it is the number of its items, in a derivation the number of the VALOF.
abbrev pub SamePiece : Piece → Piece → Type 0
SamePiece (Item i) (Item j) = i ≡ j
SamePiece (Body m) (Body n) = Unit {0}
SamePiece _ _ = ⊥

-- the level of an assignment, which its root line states, is within its bound
abbrev pub RootHasRoom : Root → Type 0
RootHasRoom (Value s e) = Unit {0}
RootHasRoom (Test s sense e) = Unit {0}
RootHasRoom (Assign s v a) = IsLevel s

-- The text is the lines of this accepted entry: there is a derivation of its root that no other beats in words, the lines are those of
-- the root's nodes with their least words and the derivation's rules, and the code is the derivation's.
pub record Listed (T : Table) (j : Judged) (text : List ℕ) : Type 0 where
  pub derivation : RootDerives T j.root
  pub code : AllZip SamePiece j.code (root_code derivation j.target j.first)
  pub words : root_cost derivation ≡ j.words
  pub fewest : (other : RootDerives T j.root) → j.words ≤ root_cost other
  -- the numbers are within their bounds
  pub segment : IsNumber j.segment
  pub item : IsNumber j.item
  pub target : IsSmall j.target
  pub first : IsSmall j.first
  pub count : IsNumber j.words
  pub labels : j.first + root_labels derivation ≤ 65536
  pub nodes : AllByRecursion (NodeHasRoom T) (root_shown derivation)
  pub root : RootHasRoom j.root
  pub pieces : AllByRecursion PieceHasRoom j.code
  pub lines : text ≡ entry_line j.segment j.item j.target j.first j.words
      ++ (flat_map (node_line T) (root_shown derivation) ++ (root_line derivation ++ pieces_line j.code))

-- the text is the lines of all these entries
pub data AllListed (T : Table) : List Judged → List ℕ → Type 0 where
  none : AllListed T [] []
  more : {j : Judged} {js : List Judged} {text texts : List ℕ} → AllListed T js texts → Listed T j text → AllListed T (js ++ j ∷ []) (texts ++ text)

-- the bytes are an accepted certificate that says this verdict
pub record Says (bytes : List ℕ) (v : Verdict) : Type 0 where
  pub texts : List ℕ
  pub entries : AllListed v.table v.entries texts
  pub count : IsNumber (length v.entries)
  pub text : bytes ≡ header_line v.table ++ (texts ++ end_line (length v.entries))
