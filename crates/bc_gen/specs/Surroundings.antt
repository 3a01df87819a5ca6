-- For proofs: the view of the context of a command.
use Rattle.std.specs.Prelude.{ℕ, ◌+◌, ◌==◌, cond, List, [], ◌∷◌, map, drop}
use Rattle.bc_core.specs.declared.command.Valof.{Valof}
use Rattle.bc_core.specs.declared.command.ListItem.{ListItem}
use Rattle.bc_core.specs.declared.command.ListItem.TheVariants as entries
use Rattle.bc_core.specs.View.{valof_of}
use Rattle.bc_core.specs.Tree.{Exp, Frame}
use Rattle.bc_rules_defs.specs.declared.piece.Piece.{Piece}
use Rattle.bc_rules_defs.specs.declared.piece.Piece.TheVariants as pieces
use Rattle.bc_core.specs.Commands as commands
use Rattle.bc_core.specs.Commands.{Items, no_item, command, case, default, label}
use Rattle.bc_gen_defs.specs.Emit.{Roots, Exits}
use Rattle.bc_gen_defs.specs.Bodies.{BodiesCode, bodies_from, level_of}
use Rattle.bc_gen_defs.specs.Entries.{Marked, Plain, marked_over}
use Rattle.bc_gen.specs.Chosen.{coding}
use Rattle.bc_gen.specs.declared.context.Numbered.{Numbered}
use Rattle.bc_gen.specs.declared.context.Around.{Around}

-- the label of the first entry with the number n, or `without` if there is none
abbrev pub label_in : List Numbered → ℕ → ℕ → ℕ
label_in [] n without = without
label_in (e ∷ es) n without = cond (e.number == n) e.label (label_in es n without)

-- the labels in a list by their numbers, with the labels that they take
abbrev pub label_pairs : Items → ℕ → List Numbered
label_pairs no_item f = []
label_pairs (command c is) f = label_pairs is f
label_pairs (case k is) f = label_pairs is f
label_pairs (default is) f = label_pairs is f
label_pairs (label k is) f = record { number = k; label = f } ∷ label_pairs is (f + 1)

-- the label of the next CASE or DEFAULT after an item, where f is that of the next one at or after the item
abbrev pub next_entry : ListItem → (f : ℕ) → ℕ
next_entry (entries.Command c) f = f
next_entry (entries.Case k) f = f + 1
next_entry entries.Default f = f + 1
next_entry (entries.Label k) f = f

-- the exits that a context has
abbrev pub exits_of : Around → Exits
exits_of a = record {
  broken = a.broken;
  looped = a.looped;
  cases = a.cases;
  result = a.resulted;
  labels = λ l. label_in a.labels.now l 0;
}

-- the bodies of the VALOFs whose numbers are `least` or greater
abbrev pub bodies_of : List commands.Valof → ℕ → BodiesCode Marked
bodies_of valofs least = bodies_from Plain (marked_over coding (level_of valofs)) least (drop least valofs)

-- the code of roots in which the VALOFs are numbered from `least` on
abbrev pub roots_of : List commands.Valof → ℕ → Roots Marked
roots_of valofs least = marked_over coding (level_of valofs) (bodies_of valofs least)

-- the initial value of a variable at offset k
abbrev pub initial_of : commands.Variable → ℕ → Exp
initial_of (commands.Initial e) k = e
initial_of (commands.Vector n) k = Frame (k + 1)

-- a piece with the label after it: its code, the next free label, and the body if it is one
abbrev pub one_piece : (ℕ → ℕ) → BodiesCode Marked → Piece → (label f : ℕ) → List Marked × ℕ × List (List Marked)
one_piece levels bodies (pieces.Item i) l f = (Plain i ∷ [], f, [])
one_piece levels bodies (pieces.Body n) l f = let b = bodies n (levels n) l f in (b.0, b.1, b.0 ∷ [])

-- the views of the VALOFs
abbrev pub valofs_in : List Valof → List commands.Valof
valofs_in vs = map valof_of vs

-- the code of roots in a context
abbrev pub roots_in : Around → Roots Marked
roots_in a = roots_of (valofs_in a.valofs.now) a.least
