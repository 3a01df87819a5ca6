-- Parts and trees, written briefly for the examples.
use Rattle.std.specs.Prelude.{ℕ, zero, suc, List, [], ◌∷◌, codes}
use Rattle.bc_lex_tokens.specs.declared.symbol.Symbol.TheVariants as sign
use Rattle.bc_parse_tree.specs.declared.tree.BinaryOp.{BinaryOp}
use Rattle.bc_parse_tree.specs.declared.tree.UnaryOp.TheVariants as unary
use Rattle.bc_parse_tree.specs.Parts.{Part, A, Name}
use Rattle.bc_parse_tree.specs.Tree.{Exp, Exps, none, more, Block, block, Declarations, no_declarations, declaration, no_definitions, definition, Labelled, no_items, item, no_labels, Command}
use Rattle.bc_parse_tree.specs.Tree as tree

-- ---- Worked examples

-- the names A, B, C, X and F, as parts and as expressions
abbrev pub a : Part
a = Name (codes "A")

abbrev pub b : Part
b = Name (codes "B")

abbrev pub c : Part
c = Name (codes "C")

abbrev pub x : Part
x = Name (codes "X")

abbrev pub f : Part
f = Name (codes "F")

abbrev pub the_a : Exp
the_a = tree.Name (codes "A")

abbrev pub the_b : Exp
the_b = tree.Name (codes "B")

abbrev pub the_c : Exp
the_c = tree.Name (codes "C")

abbrev pub the_x : Exp
the_x = tree.Name (codes "X")

abbrev pub the_f : Exp
the_f = tree.Name (codes "F")

abbrev pub two : BinaryOp → Exp → Exp → Exp
two o l r = tree.Bin o l r

abbrev pub minus : Exp → Exp
minus e = tree.Unary unary.Neg e

abbrev pub list : List Exp → Exps
list [] = none
list (e ∷ es) = more e (list es)

abbrev pub set : Exp → Exp → Command
set l r = tree.Assign (list (l ∷ [])) (list (r ∷ []))

abbrev pub only : Command → Block
only d = block no_declarations (item (Labelled no_labels d) no_items)

-- a part, repeated before other parts
abbrev pub many : ℕ → Part → List Part → List Part
many zero p ts = ts
many (suc n) p ts = p ∷ many n p ts

abbrev pub minuses : ℕ → Exp → Exp
minuses zero e = e
minuses (suc n) e = minus (minuses n e)

-- LET F() BE ..
abbrev pub in_routine : List Part → List Part
in_routine ts = A sign.Let ∷ f ∷ A sign.OpenBracket ∷ A sign.CloseBracket ∷ A sign.Be ∷ ts

abbrev pub the_routine : Block → Declarations
the_routine d = declaration (tree.Let (definition (tree.Routine (codes "F") [] d) no_definitions)) no_declarations
