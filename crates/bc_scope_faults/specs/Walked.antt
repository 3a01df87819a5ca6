-- For proofs: what the walking functions promise. An error is the part's first fault, or Memory. Without an error there is no fault,
-- the progress has moved past the part, and the result is right.
use Rattle.std.specs.Prelude.{◌≡◌, ℕ, List, None, Vec, Result, Ok, Err}
use Rattle.std.specs.declared.alloc.Global.{Global}
use Rattle.bc_scope_names.specs.View.{scope_view, numbers_view}
use Rattle.bc_scope_names.specs.declared.error.ScopeError.{ScopeError}
use Rattle.bc_scope_names.specs.declared.scope.Entry.{Entry}
use Rattle.bc_scope_faults.specs.declared.progress.Extent.{Extent}
use Rattle.bc_scope_faults.specs.declared.progress.Progress.{Progress}
use Rattle.bc_scope_faults.specs.Judged.{IsFault}
use Rattle.bc_scope_faults.specs.Seen.{frames_fit}
use Rattle.bc_scope_faults.specs.Walk.{Walk, Declaring, Siding}
use Rattle.bc_scope_defs.specs.Faults.{Met}

-- the result is the frame size that the part needs
abbrev pub Walks : Result ℕ ScopeError → (before after : Progress) → Walk → Type 0
Walks (Ok w) before after x = (x.fault ≡ None) × (w ≡ x.width) × (numbers_view after.at ≡ x.following) × (after.fits ≡ frames_fit before.fits x.found)
Walks (Err e) before after x = IsFault e x.fault

-- nothing is said of the result
abbrev pub WalksOn : {X : Type 0} → Result X ScopeError → (before after : Progress) → Walk → Type 0
WalksOn (Ok w) before after x = (x.fault ≡ None) × (numbers_view after.at ≡ x.following) × (after.fits ≡ frames_fit before.fits x.found)
WalksOn (Err e) before after x = IsFault e x.fault

-- the result is the frame size that each expression of a side needs
abbrev pub Sided : Result (Vec ℕ Global) ScopeError → (before after : Progress) → Siding → Type 0
Sided (Ok ws) before after x =
    (x.walk.fault ≡ None) × (ws.items ≡ x.widths) × (numbers_view after.at ≡ x.walk.following) × (after.fits ≡ frames_fit before.fits x.walk.found)
Sided (Err e) before after x = IsFault e x.walk.fault

-- the scope has the names after the entries
abbrev pub Entered : {X : Type 0} → Result X ScopeError → (before after : Progress) → List Entry → Declaring → Type 0
Entered (Ok w) before after scope x =
    (x.walk.fault ≡ None) × (scope_view scope ≡ x.names) × (numbers_view after.at ≡ x.walk.following)
    × (after.fits ≡ frames_fit before.fits x.walk.found)
Entered (Err e) before after scope x = IsFault e x.walk.fault

-- the result is the frame size, and `names` are all names of the LET up to here
abbrev pub Defined : Result ℕ ScopeError → (before after : Progress) → Walk → (names all : List (List ℕ)) → Type 0
Defined (Ok w) before after x names all =
    (x.fault ≡ None) × (w ≡ x.width) × (numbers_view after.at ≡ x.following) × (after.fits ≡ frames_fit before.fits x.found) × (names ≡ all)
Defined (Err e) before after x names all = IsFault e x.fault

-- the scope has the names after the declarations; the result is the next free offset and the frame size
abbrev pub DeclaredBy : Result Extent ScopeError → (before after : Progress) → List Entry → Declaring → Type 0
DeclaredBy (Ok d) before after scope x =
    (x.walk.fault ≡ None) × (scope_view scope ≡ x.names) × (d.level ≡ x.level) × (d.width ≡ x.walk.width)
    × (numbers_view after.at ≡ x.walk.following) × (after.fits ≡ frames_fit before.fits x.walk.found)
DeclaredBy (Err e) before after scope x = IsFault e x.walk.fault

-- the result is the frame size, and `met` are the labels of the list up to here
abbrev pub ItemWalks : Result ℕ ScopeError → (before after : Progress) → Walk → (met all : Met) → Type 0
ItemWalks (Ok w) before after x met all =
    (x.fault ≡ None) × (w ≡ x.width) × (numbers_view after.at ≡ x.following) × (after.fits ≡ frames_fit before.fits x.found) × (met ≡ all)
ItemWalks (Err e) before after x met all = IsFault e x.fault
