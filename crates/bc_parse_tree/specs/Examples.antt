-- Worked examples of the grammar and of canonical spellings, from docs/language.md.
use Rattle.std.specs.Prelude.{◌≡◌, [], ◌∷◌, codes, false}
use Rattle.std.proofs.Common.{refl, lit≤}
use Rattle.bc_lex_tokens.specs.declared.symbol.Symbol.TheVariants as sign
use Rattle.bc_parse_tree.specs.declared.tree.BinaryOp.TheVariants as binaries
use Rattle.bc_parse_tree.specs.declared.tree.UnaryOp.TheVariants as unaries
use Rattle.bc_parse_tree.specs.Parts.{A, Name, Number}
use Rattle.bc_parse_tree.specs.Tree.{Exp, none, more, Block, block, no_declarations, Labelled, Labels_alone, no_items, item, no_labels, label, Command}
use Rattle.bc_parse_tree.specs.Tree as tree
use Rattle.bc_parse_tree.specs.Spelling.{Spells, of_level, prefixed, name, binary, call, one, no_arguments, SpellsCommand, simple, assign, run, if_do, do_body, body_command}
use Rattle.bc_parse_tree.specs.Canonical.{command_spelling}

abbrev a : Exp
a = tree.Name (codes "A")

abbrev b : Exp
b = tree.Name (codes "B")

abbrev c : Exp
c = tree.Name (codes "C")

-- `X := E`
abbrev assigned : Exp → Command
assigned e = tree.Assign (more (tree.Name (codes "X")) none) (more e none)

-- ---- `X := A - B - C`: operators group to the left

abbrev difference : Exp
difference = tree.Bin binaries.Subtract (tree.Bin binaries.Subtract a b) c

difference_spelled : SpellsCommand (assigned difference) (Name (codes "X") ∷ A sign.Assign ∷ Name (codes "A") ∷ A sign.Minus ∷ Name (codes "B")
    ∷ A sign.Minus ∷ Name (codes "C") ∷ [])
difference_spelled = simple (assign refl (one (of_level name)) (one (of_level (binary (lit≤ tt) (binary (lit≤ tt) name (of_level name)) (of_level name)))))

difference_canonical : command_spelling (assigned difference)
    ≡ Name (codes "X") ∷ A sign.Assign ∷ A sign.OpenBracket ∷ A sign.OpenBracket ∷ Name (codes "A") ∷ A sign.Minus ∷ Name (codes "B") ∷ A sign.CloseBracket
    ∷ A sign.Minus ∷ Name (codes "C") ∷ A sign.CloseBracket ∷ []
difference_canonical = refl

-- ---- `X := A * - B * C`: a unary operator may begin an operand, and its own operand extends as far as its level
-- allows

abbrev product : Exp
product = tree.Bin binaries.Multiply a (tree.Unary unaries.Neg (tree.Bin binaries.Multiply b c))

product_spelled : Spells 1 product (Name (codes "A") ∷ A sign.Multiply ∷ A sign.Minus ∷ Name (codes "B") ∷ A sign.Multiply ∷ Name (codes "C") ∷ [])
product_spelled = of_level (binary (lit≤ tt) name (prefixed (of_level (binary (lit≤ tt) name (of_level name)))))

product_canonical : command_spelling (assigned product)
    ≡ Name (codes "X") ∷ A sign.Assign ∷ A sign.OpenBracket ∷ Name (codes "A") ∷ A sign.Multiply ∷ A sign.OpenBracket ∷ A sign.Minus ∷ A sign.OpenBracket
    ∷ Name (codes "B") ∷ A sign.Multiply ∷ Name (codes "C") ∷ A sign.CloseBracket ∷ A sign.CloseBracket ∷ A sign.CloseBracket ∷ []
product_canonical = refl

-- ---- `IF A = B C()`: a body of one command is the block of that command, and the condition needs no parentheses

abbrev choice : Command
choice = tree.If (tree.Bin binaries.Equal a b) (block no_declarations (item (Labelled no_labels (tree.Do c none)) no_items))

choice_spelled : SpellsCommand choice (A sign.If ∷ Name (codes "A") ∷ A sign.Equal ∷ Name (codes "B") ∷ Name (codes "C") ∷ A sign.OpenBracket
    ∷ A sign.CloseBracket ∷ [])
choice_spelled = if_do (of_level (binary (lit≤ tt) name (of_level name)))
    (do_body false false (body_command (simple (run (of_level (call name no_arguments))))))

choice_canonical : command_spelling choice
    ≡ A sign.If ∷ Name (codes "A") ∷ A sign.Equal ∷ Name (codes "B") ∷ A sign.Do ∷ A sign.OpenSection ∷ Name (codes "C") ∷ A sign.OpenBracket
    ∷ A sign.CloseBracket ∷ A sign.CloseSection ∷ []
choice_canonical = refl

-- ---- labels without a command are kept, and a constant that isn't one token is in parentheses

cases_canonical : command_spelling
    (tree.SwitchOn a (item (Labels_alone (label (tree.Case (tree.Unary unaries.Neg (tree.Num 1))) (label tree.Default no_labels))) no_items))
    ≡ A sign.SwitchOn ∷ Name (codes "A") ∷ A sign.Into ∷ A sign.OpenSection ∷ A sign.Case ∷ A sign.OpenBracket ∷ A sign.Minus ∷ Number 1
    ∷ A sign.CloseBracket ∷ A sign.Colon ∷ A sign.Default ∷ A sign.Colon ∷ A sign.CloseSection ∷ []
cases_canonical = refl
