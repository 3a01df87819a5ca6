-- Lists whose elements each have a separator before them, as the loops of `spelling.rt` build them.
use Rattle.std.proofs.Common.{◌≡◌, ℕ, Result, Ok, Err, IfOk, append_assoc, Bool, true, false, List, [], ◌∷◌, ◌++◌, length, eqb, suc, refl, ap, arith}
use Rattle.std.proofs.lemmas.Bool.{eqb-true}
use Rattle.bc_lex_tokens.specs.declared.symbol.Symbol.TheVariants as sign
use Rattle.bc_parse_tree.specs.declared.tree.Declaration as code_declaration
use Rattle.bc_parse_tree.specs.declared.tree.Block as code_block
use Rattle.bc_parse_tree.specs.declared.tree.Block.{fold_out-Block}
use Rattle.bc_parse_tree.specs.Canonical.{after_first, declarations_spelling, items_spelling, block_spelling}
use Rattle.bc_parse_tree.specs.Tree as tree
use Rattle.bc_parse_tree.specs.Tree.{block}
use Rattle.bc_parse_tree.specs.Parts.{Part, A, Name}
use Rattle.bc_parse_tree.specs.Spelling.{named}
use Rattle.bc_parse_tree.specs.View.{declarations_view, items_view, block_view, command_step, declaration_step, definition_step, exp_step, label_step, block_step, constant_step, item_step}
use Rattle.bc_parse_tree.specs.Adds.{joined}

-- names, each preceded by a comma
abbrev pub after_commas_named : List (List ℕ) → List Part
after_commas_named [] = []
after_commas_named (n ∷ ns) = A sign.Comma ∷ Name n ∷ after_commas_named ns

pub named_is : (ns : List (List ℕ)) → named ns ≡ after_first (after_commas_named ns)
named_is [] = refl
named_is (n ∷ []) = refl
named_is (n ∷ m ∷ ns) = ap (λ (ts : List Part). Name n ∷ A sign.Comma ∷ ts) (named_is (m ∷ ns))

not_zero : (n : ℕ) (b : Bool) → eqb (suc n) 0 ≡ b → b ≡ false
not_zero n true e = absurd (omega (arith, eqb-true (suc n) 0 e))
not_zero n false e = refl

-- a block's items are preceded by a semicolon, unless the block has no declarations
pub declared_then_placed : (ds : List code_declaration.Declaration) (is : List Part)
    → after_first (declarations_spelling (declarations_view ds) ++ is) ≡ after_first (declarations_spelling (declarations_view ds)) ++ joined (eqb (length ds) 0) is
declared_then_placed [] is = refl
declared_then_placed (d ∷ ds) is = rw (not_zero (length ds) (eqb (suc (length ds)) 0) refl) refl

pub block_seen : (b : code_block.Block) → block_view b ≡ block (declarations_view (code_block.out-Block b).declarations.items) (items_view (code_block.out-Block b).items.items)
block_seen b = fold_out-Block tree.Command tree.Declaration tree.Definition tree.Exp tree.Label tree.Block (List ℕ × tree.Exp) tree.Item command_step declaration_step definition_step exp_step label_step block_step constant_step item_step b

-- the tokens of a block are those of its pieces, one after another
pub block_spelled : {X E : Type 0} (r : Result X E) (b : code_block.Block) (first : Bool) (k0 k1 k2 k3 k4 : List Part)
    → first ≡ eqb (length (code_block.out-Block b).declarations.items) 0
    → k1 ≡ k0 ++ A sign.OpenSection ∷ []
    → k2 ≡ k1 ++ after_first (declarations_spelling (declarations_view (code_block.out-Block b).declarations.items))
    → k3 ≡ k2 ++ joined first (items_spelling (items_view (code_block.out-Block b).items.items))
    → IfOk r (λ _. k4 ≡ k3 ++ A sign.CloseSection ∷ [])
    → IfOk r (λ _. k4 ≡ k0 ++ block_spelling (block_view b))
block_spelled (Err e) b first k0 k1 k2 k3 k4 z p q r s = s
block_spelled (Ok x) b first k0 k1 k2 k3 k4 z p q r s =
    let d = declared_then_placed (code_block.out-Block b).declarations.items (items_spelling (items_view (code_block.out-Block b).items.items)) in
    rw (block_seen b, d, s, r, q, p, z) (simp append_assoc)
