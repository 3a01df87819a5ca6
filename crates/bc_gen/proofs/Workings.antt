-- Appending an entry with its workings.
use Rattle.std.proofs.Common.{List, [], ◌∷◌, ◌++◌, map, sym, subst}
use Rattle.std.specs.List.{AllZip}
use Rattle.std.proofs.lemmas.List.{map-append}
use Rattle.std.proofs.lemmas.Slice.Zip.{all_zipped_more}
use Rattle.bc_rules_defs.specs.View.{entry as entry_view}
use Rattle.bc_rules_defs.specs.declared.entry.Entry.{Entry}
use Rattle.bc_cert_write.specs.Workings.{WorkedOut}
use Rattle.bc_cert_write.specs.declared.workings.Workings.{Workings}

pub worked_more : (es : List Entry) (ws : List Workings) (e : Entry) (w : Workings) → AllZip WorkedOut (map entry_view es) ws → WorkedOut (entry_view e) w
    → AllZip WorkedOut (map entry_view (es ++ e ∷ [])) (ws ++ w ∷ [])
worked_more es ws e w h k =
    subst (λ xs. AllZip WorkedOut xs (ws ++ w ∷ [])) (sym (map-append entry_view es (e ∷ []))) (all_zipped_more WorkedOut (map entry_view es) ws (entry_view e) w h k)
