use Rattle.std.proofs.Common.{◌≡◌, ◌++◌, map, drop}
use Rattle.bc_text_items.specs.declared.item.Item.TheVariants.{Data}
use Rattle.bc_gen.proofs.generation.put_words.Given as goal

abbrev pub invariant-loop-word : goal.invariant-loop-word
invariant-loop-word l = l.items.items ++ map Data (drop l.word-index l.words) ≡ l.fn.items.items ++ map Data l.words
