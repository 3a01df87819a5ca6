use Rattle.std.proofs.Common.{◌≡◌, ◌++◌, map, length}
use Rattle.std.specs.Iterator.Adapters.{zip_first, zip_second}
use Rattle.std.specs.Vec.Iter.{into_iter_items, into_iter_len}
use Rattle.bc_scope_defs.specs.Translation.{assignments}
use Rattle.bc_scope_translate.specs.Seen.{entry_view, entry_list, formed_list}
use Rattle.bc_scope_translate.proofs.assignments.pairs.Given as goal

abbrev pub invariant-loop-place : goal.invariant-loop-place
invariant-loop-place l =
    (map entry_view l.list.items ++ entry_list (assignments (formed_list (into_iter_items (zip_first l.place-iterator))) (formed_list (into_iter_items (zip_second l.place-iterator))))
    ≡ entry_list (assignments (formed_list l.fn.places.items) (formed_list l.fn.values.items)))
    × (into_iter_len (zip_first l.place-iterator) ≡ length (into_iter_items (zip_first l.place-iterator)))
    × (into_iter_len (zip_second l.place-iterator) ≡ length (into_iter_items (zip_second l.place-iterator)))
