-- For proofs: what holds of the layers of every derivation: which expressions their parts are, at which levels, and with which
-- targets and labels. A law about the code of all derivations can go by this and needn't name any rule.
use Rattle.std.specs.Prelude.{◌≡◌, ℕ, ◌+◌, ◌≤◌, Bool, false, Some, List, [], ◌∷◌}
use Rattle.bc_word.specs.declared.operator.Op.{Op}
use Rattle.bc_text_items.specs.declared.item.Item.TheVariants.{Operation}
use Rattle.bc_text_items.specs.declared.item.Base.TheVariants.{Number, P, Label}
use Rattle.bc_text_items.specs.declared.item.Function.{Function}
use Rattle.bc_core.specs.declared.operands.Operand.{Operand}
use Rattle.bc_core.specs.Tree.{Exp, Load, Neg, Not, Bin, Cond, Call, Valof, Args, argument, count, Root, Value, Test, Assign}
use Rattle.bc_core.specs.Level.{side_level}
use Rattle.bc_core.specs.Operand.{operand_of}
use Rattle.bc_rules_defs.specs.declared.rule.Table.{Table}
use Rattle.bc_rules_defs.specs.declared.rule.Aim.{Aim}
use Rattle.bc_rules_defs.specs.declared.rule.Aim.TheVariants.{Gets, Jumps}
use Rattle.bc_rules_defs.specs.declared.rule.Mode.{Mode}
use Rattle.bc_rules_defs.specs.declared.rule.Mode.TheVariants.{Any}
use Rattle.bc_rules_defs.specs.declared.piece.Piece.{Piece}
use Rattle.bc_rules_defs.specs.declared.piece.Piece.TheVariants.{Item}
use Rattle.bc_rules_defs.specs.Piece.{on, K, J, label}
use Rattle.bc_rules_defs.specs.Rules.{Derives}
use Rattle.bc_rules_defs.specs.Code.{labels}
use Rattle.bc_rules_defs.specs.Layers.{Layer, own, body, part, layers}

-- an argument of a list, with its level
pub data Among : Args → ℕ → Exp → ℕ → Type 0 where
  first : {e : Exp} {es : Args} {s : ℕ} → Among (argument e es) s e s
  later : {a e : Exp} {es : Args} {s k : ℕ} → Among es (s + 1) e k → Among (argument a es) s e k

-- an expression itself or a direct part of it, with its level
pub data Within : Exp → ℕ → Exp → ℕ → Type 0 where
  itself : {e : Exp} {s : ℕ} → Within e s e s
  loaded : {e : Exp} {s : ℕ} → Within (Load e) s e s
  negated : {e : Exp} {s : ℕ} → Within (Neg e) s e s
  inverted : {e : Exp} {s : ℕ} → Within (Not e) s e s
  left : {op : Op} {a b : Exp} {s : ℕ} → Within (Bin op a b) s a (s + 1)
  right : {op : Op} {a b : Exp} {s : ℕ} → Within (Bin op a b) s b (s + 1)
  condition : {c x y : Exp} {s : ℕ} → Within (Cond c x y) s c s
  this : {c x y : Exp} {s : ℕ} → Within (Cond c x y) s x s
  that : {c x y : Exp} {s : ℕ} → Within (Cond c x y) s y s
  an_argument : {es : Args} {f e : Exp} {s k : ℕ} → Among es (s + 2) e k → Within (Call es f) s e k
  routine : {es : Args} {f : Exp} {s : ℕ} → Within (Call es f) s f (s + 2 + count es)

-- an expression of a root, with its level
pub data Side : Root → Exp → ℕ → Type 0 where
  the_value : {e : Exp} {s : ℕ} → Side (Value s e) e s
  the_test : {e : Exp} {sense : Bool} {s : ℕ} → Side (Test s sense e) e s
  assigned : {v a : Exp} {s k : ℕ} → side_level a s ≡ k → Side (Assign s v a) v k
  address : {v a : Exp} {s k : ℕ} → side_level a s ≡ k → Side (Assign s v a) a k

-- The context of layers: which expressions they may use, and their aim, level and target. Their own labels are those from `first`
-- to `parts` - 1, and the labels of their parts those from `parts` to `end` - 1.
pub record Here : Type 1 where
  pub sees : Exp → ℕ → Type 0
  pub aim : Aim
  pub level : ℕ
  pub target : ℕ
  pub first : ℕ
  pub parts : ℕ
  pub end : ℕ

-- a rule's own piece that is no label
pub data Own (H : Here) : Piece → Type 0 where
  number : {i : Function} {n : ℕ} → n ≤ 65535 → Own H (Item (Operation i false Number n))
  frame : Own H (K H.level)
  cell : {i : Function} {b : Bool} → Own H (Item (Operation i b P H.level))
  next_cell : {i : Function} {b : Bool} → Own H (Item (Operation i b P (H.level + 1)))
  -- the cell of an argument in the new frame
  cell_of_part : {i : Function} {b : Bool} {a : Exp} {u : ℕ} → H.sees a u → Own H (Item (Operation i b P u))
  operand : {i : Function} {a : Exp} {u : ℕ} {o : Operand} → H.sees a u → operand_of a ≡ Some o → Own H (on i o)
  to_target : {i : Function} {sense : Bool} → H.aim ≡ Jumps sense → Own H (Item (Operation i false Label H.target))
  to_own : {n : ℕ} → H.first ≤ n → n + 1 ≤ H.parts → Own H (J n)

-- The target of a part: any for a value; for a test either the derivation's own target, if it is a test too, or a label of its own.
pub data Aimed (H : Here) : Aim → ℕ → Type 0 where
  a_value : {m : Mode} {u : ℕ} → Aimed H (Gets m) u
  same_target : {a b : Bool} → H.aim ≡ Jumps a → Aimed H (Jumps b) H.target
  own_target : {b : Bool} {u : ℕ} → H.first ≤ u → u + 1 ≤ H.parts → Aimed H (Jumps b) u

-- a claim about the code of a derivation
abbrev pub Claim : Table → Type 1
Claim T = (e : Exp) (aim : Aim) → Derives T e aim → (s t f : ℕ) → Type 0

-- Layers that fit their context H, where k is their next own label, m the next label of a part, and the claim C holds of each part.
pub data Stand {T : Table} (C : Claim T) (H : Here) : (k m : ℕ) → List (Layer T) → Type 0 where
  done : {k m : ℕ} → k ≡ H.parts → m ≡ H.end → Stand C H k m []
  piece : {p : Piece} {k m : ℕ} {ls : List (Layer T)} → Own H p → Stand C H k m ls → Stand C H k m (own p ∷ ls)
  own_label : {k m : ℕ} {ls : List (Layer T)} → Stand C H (k + 1) m ls → Stand C H k m (own (label k) ∷ ls)
  a_body : {n k m : ℕ} {ls : List (Layer T)} → H.sees (Valof n) H.level → Stand C H (k + 1) m ls → Stand C H k m (body n k ∷ ls)
  a_part : {e : Exp} {aim : Aim} {d : Derives T e aim} {u v k m : ℕ} {ls : List (Layer T)} → H.sees e u → Aimed H aim v → C e aim d u v m
      → Stand C H k (m + labels d) ls → Stand C H k m (part d u v m ∷ ls)

-- the context of a derivation's layers
abbrev pub here : (e : Exp) (aim : Aim) → (s t f parts end : ℕ) → Here
here e aim s t f parts end = record { sees = Within e s; aim = aim; level = s; target = t; first = f; parts = parts; end = end }

pub record Made {T : Table} (C : Claim T) (e : Exp) (aim : Aim) (d : Derives T e aim) (s t f : ℕ) : Type 0 where
  pub parts : ℕ
  pub stand : Stand C (here e aim s t f parts (f + labels d)) f parts (layers d s t f)

-- the aim, the level and the context of a root
abbrev pub aim_of_root : Root → Aim
aim_of_root (Test s sense e) = Jumps sense
aim_of_root r = Gets Any

abbrev pub level_of_root : Root → ℕ
level_of_root (Value s e) = s
level_of_root (Test s sense e) = s
level_of_root (Assign s v a) = s

abbrev pub at_root : Root → (t f end : ℕ) → Here
at_root r t f end = record { sees = Side r; aim = aim_of_root r; level = level_of_root r; target = t; first = f; parts = f; end = end }
