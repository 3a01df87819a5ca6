-- The workings belong to the entries, main by main.
use Rattle.std.proofs.Common.{◌≡◌, ℕ, List, [], ◌∷◌, ◌++◌, map, sym, subst}
use Rattle.std.specs.Prelude.{Result, Ok, Err, IfOk}
use Rattle.std.specs.List.{AllZip}
use Rattle.bc_text_items.specs.declared.item.Item.{Item}
use Rattle.bc_rules_defs.specs.Entry.{Entry}
use Rattle.bc_rules_defs.specs.View.{entry as entry_view}
use Rattle.bc_rules_defs.specs.declared.entry.Entry as code
use Rattle.bc_cert_write.specs.Workings.{WorkedOut}
use Rattle.bc_cert_write.specs.declared.workings.Workings.{Workings}
use Rattle.bc_build.specs.Code.{in_segment}
use Rattle.bc_build.specs.Steps.{IsLinked}
use Rattle.bc_build.specs.declared.building.Built.{Built}
use Rattle.bc_build.specs.declared.build_error.BuildError.{BuildError}

joined : (es ds : List Entry) (ws vs : List Workings) → AllZip WorkedOut es ws → AllZip WorkedOut ds vs → AllZip WorkedOut (es ++ ds) (ws ++ vs)
joined [] ds [] vs h k = k
joined [] ds (w ∷ ws) vs h k = absurd h
joined (e ∷ es) ds [] vs h k = absurd h
joined (e ∷ es) ds (w ∷ ws) vs h k = (h.0, joined es ds ws vs h.1 k)

-- the workings of an entry don't depend on its segment
in_any : (n : ℕ) (es : List Entry) (ws : List Workings) → AllZip WorkedOut es ws → AllZip WorkedOut (map (in_segment n) es) ws
in_any n [] [] h = h
in_any n [] (w ∷ ws) h = absurd h
in_any n (e ∷ es) [] h = absurd h
in_any n (e ∷ es) (w ∷ ws) h = (h.0, in_any n es ws h.1)

pub worked_more : (n : ℕ) (old new all : List code.Entry) (ws vs us : List Workings) → map entry_view all ≡ map entry_view old ++ map (in_segment n) (map entry_view new)
    → us ≡ ws ++ vs → AllZip WorkedOut (map entry_view old) ws → AllZip WorkedOut (map entry_view new) vs → AllZip WorkedOut (map entry_view all) us
worked_more n old new all ws vs us h e k l =
    subst (λ es. AllZip WorkedOut es us) (sym h)
    (subst (λ us. AllZip WorkedOut (map entry_view old ++ map (in_segment n) (map entry_view new)) us) (sym e)
    (joined (map entry_view old) (map (in_segment n) (map entry_view new)) ws vs k (in_any n (map entry_view new) vs l)))

pub linked_worked : (segments : List (List Item)) (entries : List code.Entry) (ws : List Workings) (r : Result Built BuildError) → IfOk r (IsLinked segments entries)
    → IfOk r (λ b. b.workings.items ≡ ws) → AllZip WorkedOut (map entry_view entries) ws → IfOk r (λ b. AllZip WorkedOut (map entry_view b.entries.items) b.workings.items)
linked_worked segments entries ws (Ok b) l e h =
    subst (λ es. AllZip WorkedOut (map entry_view es) b.workings.items) (sym l.entries_are) (subst (λ us. AllZip WorkedOut (map entry_view entries) us) (sym e) h)
linked_worked segments entries ws (Err f) l e h = l
