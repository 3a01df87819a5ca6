-- For proofs: the invariant of a scope: what it keeps beside its entries, and what each entry keeps so that it can be undone.
use Rattle.std.specs.Prelude.{◌≡◌, ◌<◌, ◌+◌, ◌==◌, ℕ, Bool, cond, List, [], ◌∷◌, length, take, Option, Some, None, map, slice_get}
use Rattle.std.proofs.Common.{get_or}
use Rattle.std.specs.Borrow.{Bor}
use Rattle.std.specs.Map.{keys_of}
use Rattle.std.specs.Option.{option_flatten}
use Rattle.std.specs.Str.{bytes_eq}
use Rattle.indexmap.specs.IndexMap.{IndexMap, get}
use Rattle.bc_scope_names.specs.declared.scope.Borders.{Borders}
use Rattle.bc_scope_names.specs.declared.scope.Bound.{Bound}
use Rattle.bc_scope_names.specs.declared.scope.Entry.{Entry}
use Rattle.bc_scope_names.specs.declared.scope.Entry.TheVariants as entry
use Rattle.bc_scope_defs.specs.Scope.{Name, is_name}

abbrev pub is_key : Bor (List ℕ) → Bor (List ℕ) → Bool
is_key k n = bytes_eq k.now n.now

-- the newest entry of the name q, after the entry with number i is added
abbrev pub newest_one : (i : ℕ) → Entry → Name → Option Bound → Option Bound
newest_one i (entry.Name n position hidden) q k = cond (is_name n.name.now q) (Some (record { meant = n.meant; place = i })) k
newest_one i (entry.Routine b) q k = k
newest_one i (entry.Valof b) q k = k

-- the newest entry of the name q among these entries, which are numbered from i; k if no entry has it
abbrev pub newest : (i : ℕ) → List Entry → Name → Option Bound → Option Bound
newest i [] q k = k
newest i (e ∷ es) q k = newest (i + 1) es q (newest_one i e q k)

-- the borders of a scope without routine and VALOF
abbrev pub no_borders : Borders
no_borders = record { outermost = 0; routine = 0; valof = 0 }

-- the borders after entering a routine, whose entry is the last of n
abbrev pub after_routine : (entries : ℕ) → Borders → Borders
after_routine n b = record { outermost = cond (b.outermost == 0) n b.outermost; routine = n; valof = b.valof }

-- the borders after the entry with number i
abbrev pub after_border : (i : ℕ) → Entry → Borders → Borders
after_border i (entry.Name n position hidden) b = b
after_border i (entry.Routine o) b = after_routine (i + 1) b
after_border i (entry.Valof o) b = record b { valof = i + 1 }

-- the borders after these entries, which are numbered from i
abbrev pub borders_of : (i : ℕ) → List Entry → Borders → Borders
borders_of i [] b = b
borders_of i (e ∷ es) b = borders_of (i + 1) es (after_border i e b)

-- the index finds the newest entry of each name
abbrev pub Finds : {S : Type 0} → IndexMap (Bor (List ℕ)) (Option Bound) S → List Entry → Type 0
Finds m es = (q : Bor (List ℕ)) → option_flatten (get is_key m q) ≡ newest 0 es q.now None

-- an entry keeps what it replaced: what its name meant before, or the borders
abbrev pub Keeps : List Entry → Entry → Type 0
Keeps before (entry.Name n position hidden) = hidden ≡ newest 0 before n.name.now None
Keeps before (entry.Routine b) = b ≡ borders_of 0 before no_borders
Keeps before (entry.Valof b) = b ≡ borders_of 0 before no_borders

-- each entry keeps what it replaced
abbrev pub CanUndo : List Entry → Type 0
CanUndo es = (i : ℕ) (e : Entry) → i < length es → Keeps (take i es) (get_or es i e)

-- the names of these entries of an index
abbrev pub spelled : List (Bor Name × Option Bound) → List Name
spelled es = map (λ k. k.now) (keys_of es)

-- the names in an index, by their positions
abbrev pub names : {S : Type 0} → IndexMap (Bor Name) (Option Bound) S → List Name
names m = spelled m.entries

-- an entry keeps the position of its name in the index
abbrev pub HasPosition : List Name → Entry → Type 0
HasPosition ns (entry.Name n position hidden) = slice_get ns position ≡ Some n.name.now
HasPosition ns (entry.Routine b) = Unit
HasPosition ns (entry.Valof b) = Unit
