-- For proofs: what the functions of the parser take and return, as the definitions see it.
use Rattle.std.specs.Prelude.{◌≡◌, ◌≤◌, ℕ, Bool, true, false, List, Vec, Option, Some, None, Result, Ok, Err, IfOk}
use Rattle.std.specs.declared.alloc.Global.{Global}
use Rattle.std.specs.declared.boxed.Box.{Box}
use Rattle.bc_parse_tree.specs.declared.tree.Exp as code
use Rattle.bc_parse_tree.specs.Tree.{Exp, Declarations, Items}
use Rattle.bc_parse_tree.specs.Parts.{Part, parts}
use Rattle.bc_parse_tree.specs.View.{exp_view, declarations_view, items_view}
use Rattle.bc_parse_defs.specs.Reading.{Fault, Expected, TooDeep, ◌>>=◌, Piece, piece}
use Rattle.bc_parse.specs.declared.fault.ReadFault.{ReadFault}
use Rattle.bc_parse.specs.declared.fault.ReadFault.TheVariants as faults
use Rattle.bc_parse.specs.declared.cursor.Rest.{Rest}
use Rattle.bc_parse.specs.declared.read.Read.{Read}
use Rattle.bc_parse.specs.declared.read.Step as code_turn
use Rattle.bc_parse.specs.declared.read.Step.TheVariants as turn
use Rattle.bc_parse.specs.declared.expressions.Levelled.{Levelled}
use Rattle.bc_parse.specs.declared.blocks.Parts.{Parts}

-- a fault of the code is the definition's fault, or memory ran out
abbrev pub Fails : {Y : Type 0} → ReadFault → Result Y Fault → Type 0
Fails faults.Memory read = Unit {0}
Fails (faults.Expected n) read = read ≡ Err (Expected n)
Fails (faults.TooDeep n) read = read ≡ Err (TooDeep n)

-- a reading, and what is read after it
infixl 10 ◌~>◌
abbrev pub ◌~>◌ : {A B : Type 0} → Result A Fault → (A → Result B Fault) → Result B Fault
r ~> next = r >>= next

-- the code returned what the definition gives, unless memory ran out
abbrev pub Gives : {X Y : Type 0} → (X → Y) → Result X ReadFault → Result Y Fault → Type 0
Gives view (Ok x) read = read ≡ Ok (view x)
Gives view (Err e) read = Fails e read

-- the remaining parts
abbrev pub seen : Rest → List Part
seen rest = parts rest.parts.now

-- views of a box and of a list
abbrev pub box_view : {X Y : Type 0} → (X → Y) → Box X Global → Y
box_view view b = view b.value

abbrev pub list_view : {X Y : Type 0} → (List X → Y) → Vec X Global → Y
list_view view list = view list.items

-- the view of what was read
abbrev pub read_view : {X Y : Type 0} → (X → Y) → Read X → Piece Y
read_view view r = piece (view r.tree) r.height (seen r.rest)

-- the code read what the definition gives, unless memory ran out
abbrev pub Reads : {X Y : Type 0} → (X → Y) → Result (Read X) ReadFault → Result (Piece Y) Fault → Type 0
Reads view = Gives (read_view view)

-- the view of a turn, and whether it was the last
abbrev pub turn_view : {X Y : Type 0} → (X → Y) → code_turn.Step X → Piece Y × Bool
turn_view view (turn.More r) = (read_view view r, false)
turn_view view (turn.Last r) = (read_view view r, true)

-- the code took the turn that the definition gives, unless memory ran out
abbrev pub Takes : {X Y : Type 0} → (X → Y) → Result (code_turn.Step X) ReadFault → Result (Piece Y × Bool) Fault → Type 0
Takes view = Gives (turn_view view)

-- how deep nests what was read in a turn
abbrev pub turn_height : {X : Type 0} → code_turn.Step X → ℕ
turn_height (turn.More r) = r.height
turn_height (turn.Last r) = r.height

-- the view of an expression as far as it was read, with its level
abbrev pub levelled_view : Levelled → Exp × ℕ
levelled_view o = (exp_view o.exp, o.level)

-- the view of declarations and items
abbrev pub parts_view : Parts → Declarations × Items
parts_view p = (declarations_view p.declarations.items, items_view p.items.items)

-- the view of a step that may be missing
abbrev pub exp_option : Option (Box code.Exp Global) → Option Exp
exp_option None = None
exp_option (Some e) = Some (exp_view e.value)

-- what a constructor makes: whatever reading gives the last part, continuing by `next` gives the whole
abbrev pub Made : {X Y A B : Type 0} → (X → Y) → Result (Read X) ReadFault → (A → B) → Result (Read A) ReadFault → (Piece Y → Result (Piece B) Fault) → Type 0
Made view part whole_view whole next = (r : Result (Piece _) Fault) → Reads view part r → Reads whole_view whole (r ~> next)

-- the same for an operand, with its level
abbrev pub MadeOperand : {X Y : Type 0} → (X → Y) → Result (Read X) ReadFault → Result (Read Levelled) ReadFault
    → (Piece Y → Result (Piece Exp) Fault) → ℕ → Type 0
MadeOperand view part whole next level = (r : Result (Piece _) Fault) → Reads view part r
    → Reads levelled_view whole ((r ~> next) ~> λ p. Ok (piece (p.tree, level) p.height p.rest))

-- the same for a turn
abbrev pub MadeTurn : {X Y A B : Type 0} → (X → Y) → Result (Read X) ReadFault → (A → B) → Result (code_turn.Step A) ReadFault
    → (Piece Y → Result (Piece B × Bool) Fault) → Type 0
MadeTurn view part whole_view whole next = (r : Result (Piece _) Fault) → Reads view part r → Takes whole_view whole (r ~> next)

-- what was read nests at most so deep
abbrev pub Nests : {X : Type 0} → Result (Read X) ReadFault → ℕ → Type 0
Nests read most = IfOk read (λ x. x.height ≤ most)

-- the same for a turn
abbrev pub NestsTurn : {X : Type 0} → Result (code_turn.Step X) ReadFault → ℕ → Type 0
NestsTurn read most = IfOk read (λ x. turn_height x ≤ most)
