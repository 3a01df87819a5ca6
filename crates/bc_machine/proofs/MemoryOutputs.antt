-- Writing and ending the outputs of streams in memory.
use Rattle.std.proofs.Common.{◌≡◌, ◌≢◌, ℕ, ◌-◌, ◌+◌, ◌<◌, ◌≤◌, ◌==◌, zero, suc, List, [], ◌∷◌, ◌++◌, map, filter, length, get_or, set, Bool, false, cond, Some, refl, sym, ap, ◌∙◌, arith, slice_get, slice_set, eq-eqb, subst}
use Rattle.std.proofs.lemmas.Bool.Decides.{nat_tests}
use Rattle.std.proofs.lemmas.List.{map-append, append-nil}
use Rattle.std.proofs.lemmas.List.Elements.{filter-append}
use Rattle.std.proofs.lemmas.Option.{slice_get_read}
use Rattle.bc_machine_defs.specs.Streams.{Input, Output, numbered}
use Rattle.bc_machine_defs.specs.StreamStart.{fresh_output, first_number, opened}
use Rattle.bc_machine.specs.MemoryContent.{bytes_to, memory_outputs}
use Rattle.bc_machine.specs.declared.names.NamedOutput.{NamedOutput}
use Rattle.bc_machine.proofs.Tables.{numbered-get, content}

abbrev pub Log : Type 0
Log = List (ℕ × ℕ)

abbrev pub output_at : ℕ → Log → NamedOutput → Output
output_at number log o = record { name = o.name.items; written = bytes_to number log; ended = o.ended }

bytes_to-append : (number : ℕ) (log : Log) (w : ℕ × ℕ) → bytes_to number (log ++ w ∷ []) ≡ bytes_to number log ++ bytes_to number (w ∷ [])
bytes_to-append number log w =
    ap (map (λ (v : ℕ × ℕ). v.1)) (filter-append (λ (v : ℕ × ℕ). v.0 == number) log (w ∷ []))
    ∙ map-append (λ (v : ℕ × ℕ). v.1) (filter (λ (v : ℕ × ℕ). v.0 == number) log) (filter (λ (v : ℕ × ℕ). v.0 == number) (w ∷ []))

only : (test : Bool) → ℕ → List ℕ
only test byte = map (λ (v : ℕ × ℕ). v.1) (cond test ((0, byte) ∷ []) [])

pub bytes_to-same : (number : ℕ) (log : Log) (byte : ℕ) → bytes_to number (log ++ (number, byte) ∷ []) ≡ bytes_to number log ++ byte ∷ []
bytes_to-same number log byte = bytes_to-append number log (number, byte) ∙ rw (eq-eqb number number refl) refl

pub bytes_to-other : (number other : ℕ) (log : Log) (byte : ℕ) → other ≢ number → bytes_to number (log ++ (other, byte) ∷ []) ≡ bytes_to number log
bytes_to-other number other log byte h =
    let unequal : (other == number) ≡ false = grind (arith, nat_tests) in
    bytes_to-append number log (other, byte) ∙ rw unequal (append-nil (bytes_to number log))

-- a write to an output before these
memory_outputs-before : (number other : ℕ) (log : Log) (byte : ℕ) (os : List NamedOutput) → other < number
    → memory_outputs number (log ++ (other, byte) ∷ []) os ≡ memory_outputs number log os
memory_outputs-before number other log byte [] h = refl
memory_outputs-before number other log byte (o ∷ os) h =
    let unequal : other ≢ number = omega arith in
    let less : other < number + 1 = omega arith in
    rw (bytes_to-other number other log byte unequal, memory_outputs-before (number + 1) other log byte os less) refl

pub memory_outputs-written : (number k : ℕ) (log : Log) (byte : ℕ) (os : List NamedOutput) (o : NamedOutput) → slice_get os k ≡ Some o
    → memory_outputs number (log ++ (number + k, byte) ∷ []) os
    ≡ slice_set (memory_outputs number log os) k (record (output_at (number + k) log o) { written = bytes_to (number + k) log ++ byte ∷ [] })
memory_outputs-written number k log byte [] o h = absurd cc
memory_outputs-written number zero log byte (x ∷ os) o h =
    let e : number + 0 ≡ number = omega arith in
    let same : x ≡ o = cc in
    let less : number < number + 1 = omega arith in
    rw (e, bytes_to-same number log byte, memory_outputs-before (number + 1) number log byte os less, same) refl
memory_outputs-written number (suc k) log byte (x ∷ os) o h =
    let e : number + suc k ≡ number + 1 + k = omega arith in
    let unequal : number + 1 + k ≢ number = omega arith in
    rw (e, bytes_to-other number (number + 1 + k) log byte unequal, memory_outputs-written (number + 1) k log byte os o h) refl

pub memory_outputs-ended : (number k : ℕ) (log : Log) (os : List NamedOutput) (o : NamedOutput)
    → memory_outputs number log (set os k o) ≡ slice_set (memory_outputs number log os) k (output_at (number + k) log o)
memory_outputs-ended number k log [] o = refl
memory_outputs-ended number zero log (x ∷ os) o = let e : number + 0 ≡ number = omega arith in rw e refl
memory_outputs-ended number (suc k) log (x ∷ os) o =
    let e : number + suc k ≡ number + 1 + k = omega arith in
    rw (e, memory_outputs-ended (number + 1) k log os o) refl

pub memory_outputs-get : (number k : ℕ) (log : Log) (os : List NamedOutput) (o : NamedOutput) → slice_get os k ≡ Some o
    → slice_get (memory_outputs number log os) k ≡ Some (output_at (number + k) log o)
memory_outputs-get number k log [] o h = absurd cc
memory_outputs-get number zero log (x ∷ os) o h =
    let e : number + 0 ≡ number = omega arith in let same : x ≡ o = cc in rw (e, same) refl
memory_outputs-get number (suc k) log (x ∷ os) o h =
    let e : number + suc k ≡ number + 1 + k = omega arith in rw e (memory_outputs-get (number + 1) k log os o h)

-- the output of a number
pub numbered_output : (n : ℕ) (log : Log) (os : List NamedOutput) (o : NamedOutput) → 0 < n → n ≤ length os → o ≡ get_or os (n - 1) o
    → numbered (memory_outputs 1 log os) n ≡ Some (output_at n log o)
numbered_output n log os o some within is =
    let less : n - 1 < length os = omega arith in
    let e : 1 + (n - 1) ≡ n = omega arith in
    numbered-get (memory_outputs 1 log os) n some
    ∙ memory_outputs-get 1 (n - 1) log os o (slice_get_read os (length os) (n - 1) o refl less is)
    ∙ rw e refl

pub names_of_outputs : (number : ℕ) (log : Log) (os : List NamedOutput)
    → map (λ (o : Output). o.name) (memory_outputs number log os) ≡ map (λ (o : NamedOutput). o.name.items) os
names_of_outputs number log [] = refl
names_of_outputs number log (o ∷ os) = ap (λ names. o.name.items ∷ names) (names_of_outputs (number + 1) log os)

pub length_outputs : (number : ℕ) (log : Log) (os : List NamedOutput) → length (memory_outputs number log os) ≡ length os
length_outputs number log [] = refl
length_outputs number log (o ∷ os) = ap suc (length_outputs (number + 1) log os)

-- a table of outputs to which nothing was written
pub memory_outputs-fresh : (number : ℕ) (os : List NamedOutput) (o : NamedOutput) → o.ended ≡ false
    → memory_outputs number [] (os ++ o ∷ []) ≡ memory_outputs number [] os ++ fresh_output o.name.items ∷ []
memory_outputs-fresh number [] o h = rw h refl
memory_outputs-fresh number (p ∷ os) o h = rw (memory_outputs-fresh (number + 1) os o h) refl

-- one more byte for the output of this number
pub memory_outputs-more : (n : ℕ) (log : Log) (byte : ℕ) (os : List NamedOutput) (o : NamedOutput) → 0 < n → n ≤ length os → o ≡ get_or os (n - 1) o
    → memory_outputs 1 (log ++ (n, byte) ∷ []) os
    ≡ slice_set (memory_outputs 1 log os) (n - 1) (record (output_at n log o) { written = bytes_to n log ++ byte ∷ [] })
memory_outputs-more n log byte os o some within is =
    let less : n - 1 < length os = omega arith in
    let e : 1 + (n - 1) ≡ n = omega arith in
    let P : ℕ → Type 0 = λ k. memory_outputs 1 (log ++ (k, byte) ∷ []) os ≡ slice_set (memory_outputs 1 log os) (n - 1) (record (output_at k log o) { written = bytes_to k log ++ byte ∷ [] }) in
    subst P e (memory_outputs-written 1 (n - 1) log byte os o (slice_get_read os (length os) (n - 1) o refl less is))

first_number-map : {X Y : Type 0} (f : X → Y) (xs : List X) → first_number (map f xs) ≡ first_number xs
first_number-map f [] = refl
first_number-map f (x ∷ xs) = refl

first_number-outputs : (number : ℕ) (log : Log) (os : List NamedOutput) → first_number (memory_outputs number log os) ≡ first_number os
first_number-outputs number log [] = refl
first_number-outputs number log (o ∷ os) = refl

-- the first streams of the tables are selected
pub opens : {X : Type 0} (f : X → Input) (table : List X) (log : Log) (os : List NamedOutput) (inputs : List Input) (outputs : List Output)
    → log ≡ [] → map f table ≡ inputs → memory_outputs 1 [] os ≡ outputs
    → content (map f table) (memory_outputs 1 log os) (first_number table) (first_number os) ≡ opened inputs outputs
opens f table log os inputs outputs none h k =
    rw (none, sym (first_number-map f table), sym (first_number-outputs 1 [] os), h, k) refl
