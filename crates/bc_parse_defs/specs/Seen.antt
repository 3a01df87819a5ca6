-- What the code of closing returns and has in its variables, as the definitions see it.
use Rattle.std.specs.Prelude.{◌≡◌, ℕ, Bool, List, ◌++◌, map, reverse, Result, Ok, Err}
use Rattle.std.specs.Borrow.{Bor}
use Rattle.bc_parse_tree.specs.Parts.{Part, parts}
use Rattle.bc_parse_defs.specs.Closing.{Fault, NotOpen, Unclosed, ◌>>=◌, Step, Placed, parts_in, places_in}
use Rattle.bc_parse_defs.specs.declared.fault.CloseFault.{CloseFault}
use Rattle.bc_parse_defs.specs.declared.fault.CloseFault.TheVariants as faults
use Rattle.bc_parse_defs.specs.declared.closing.ClosedList.{ClosedList}

-- an error of the code is the definition's fault, or memory ran out
abbrev pub Fails : {Y : Type 0} → CloseFault → Result Y Fault → Type 0
Fails faults.Memory read = Unit {0}
Fails (faults.NotOpen n) read = read ≡ Err (NotOpen n)
Fails faults.Unclosed read = read ≡ Err Unclosed

-- the code returned what the definition gives, unless memory ran out
abbrev pub Gives : {X Y : Type 0} → (X → Y) → Result X CloseFault → Result Y Fault → Type 0
Gives view (Ok x) read = read ≡ Ok (view x)
Gives view (Err e) read = Fails e read

-- the parts of a closed list, and the index of the token of each
abbrev pub Lists : Type 0
Lists = List Part × List ℕ

-- the program's closed list as such a pair
abbrev pub lists : ClosedList → Lists
lists c = (parts c.parts.items, c.places.items)

-- a list of parts with indexes as such a pair
abbrev pub unzipped : List Placed → Lists
unzipped ps = (parts_in ps, places_in ps)

-- a pair of lists with more parts appended
abbrev pub with_placed : Lists → List Placed → Lists
with_placed c ps = (c.0 ++ parts_in ps, c.1 ++ places_in ps)

-- the tags of the open sections, innermost first
abbrev pub tags : List (Bor (List ℕ)) → List (List ℕ)
tags opened = reverse (map (λ t. t.now) opened)

-- the list up to here and the open sections
abbrev pub Unwound : Type 0
Unwound = Lists × List (List ℕ)

-- the same of the program's variables
abbrev pub unwound : ClosedList → List (Bor (List ℕ)) → Unwound
unwound c opened = (lists c, tags opened)

-- what closing gives, appended to the list up to here
abbrev pub after_closing : Lists → Result Step Fault → Result Unwound Fault
after_closing c r = r >>= λ s. Ok (with_placed c s.out, s.opened)

-- the list up to here, the open sections, and whether the last part can end a command
abbrev pub State : Type 0
State = Lists × List (List ℕ) × Bool

-- the same of the program's variables
abbrev pub state : ClosedList → List (Bor (List ℕ)) → Bool → State
state c opened ends = (lists c, tags opened, ends)

-- what a token becomes, appended to the list up to here
abbrev pub after_token : Lists → Result Step Fault → Result State Fault
after_token c r = r >>= λ s. Ok (with_placed c s.out, s.opened, s.ends)

-- the result of closing as a pair of lists
abbrev pub all_unzipped : Result (List Placed) Fault → Result Lists Fault
all_unzipped r = r >>= λ ps. Ok (unzipped ps)
