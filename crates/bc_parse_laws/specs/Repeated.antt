-- VALOF's bodies before REPEAT words. Such a body takes the word as its own, so the spelling isn't read as the tree
-- it came from.
use Rattle.std.specs.Prelude.{◌≢◌, List, ◌∷◌, ◌++◌}
use Rattle.bc_lex_tokens.specs.declared.symbol.Symbol.{Symbol}
use Rattle.bc_lex_tokens.specs.declared.symbol.Symbol.TheVariants as sign
use Rattle.bc_parse_tree.specs.Parts.{Part, A}
use Rattle.bc_parse_tree.specs.Tree.{Block}
use Rattle.bc_parse_tree.specs.Canonical.{block_spelling}

-- REPEAT, REPEATWHILE or REPEATUNTIL
pub data IsRepeatWord : Symbol → Type 0 where
  repeat : IsRepeatWord sign.Repeat
  repeat_while : IsRepeatWord sign.RepeatWhile
  repeat_until : IsRepeatWord sign.RepeatUntil

-- nowhere is VALOF followed by a body in section brackets and then by a REPEAT word
abbrev pub RepeatsNoValof : List Part → Type 0
RepeatsNoValof ts = (before after : List Part) (b : Block) (s : Symbol) → IsRepeatWord s → ts ≢ before ++ A sign.ValueOf ∷ (block_spelling b ++ A s ∷ after)
