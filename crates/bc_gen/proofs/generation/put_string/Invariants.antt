use Rattle.std.proofs.Common.{◌≡◌, ◌++◌, ◌∷◌, map, drop, length}
use Rattle.bc_text_items.specs.declared.item.Item.TheVariants.{Byte}
use Rattle.bc_gen.proofs.generation.put_string.Given as goal

abbrev pub invariant-loop-byte : goal.invariant-loop-byte
invariant-loop-byte l = l.items.items ++ map Byte (drop l.byte-index l.bytes) ≡ l.fn.items.items ++ Byte (length l.bytes) ∷ map Byte l.bytes
