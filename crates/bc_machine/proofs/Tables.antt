-- A stream of a table, by its number.
use Rattle.std.proofs.Common.{◌≡◌, ℕ, ◌-◌, ◌<◌, ◌≤◌, zero, suc, List, [], ◌∷◌, ◌++◌, map, length, get_or, set, true, false, Option, Some, refl, sym, ap, ◌∙◌, arith, slice_get, slice_set}
use Rattle.std.specs.Option.{option_map}
use Rattle.std.proofs.lemmas.Option.{slice_get_read, slice_get-map}
use Rattle.std.proofs.lemmas.List.{map-set}
use Rattle.bc_machine_defs.specs.Streams.{Input, Output, Content, numbered}
use Rattle.bc_machine_defs.specs.StreamCalls.{next_byte, after_byte, read_byte, after_read, after_write, end_stream, more_written, byte_of_input, with_input_read, with_output_written, with_input_ended, with_output_ended}
use Rattle.bc_machine_defs.specs.declared.streams.Side.TheVariants as sides

abbrev pub content : List Input → List Output → ℕ → ℕ → Content
content inputs outputs input output = record { inputs = inputs; outputs = outputs; input = input; output = output }

-- a number above 0 is that of the element before it
pub numbered-get : {X : Type 0} (table : List X) (n : ℕ) → 0 < n → numbered table n ≡ slice_get table (n - 1)
numbered-get table zero h = absurd (omega arith)
numbered-get table (suc k) h = let e : suc k - 1 ≡ k = omega arith in rw e refl

pub numbered-map : {X Y : Type 0} (f : X → Y) (table : List X) (n : ℕ) (x : X) → 0 < n → n ≤ length table → x ≡ get_or table (n - 1) x → numbered (map f table) n ≡ Some (f x)
numbered-map f table n x some within is =
    let less : n - 1 < length table = omega arith in
    numbered-get (map f table) n some
    ∙ slice_get-map f table (n - 1)
    ∙ ap (option_map f) (slice_get_read table (length table) (n - 1) x refl less is)

-- what the operations do, where the selected stream is known
pub read_byte-at : (inputs : List Input) (outputs : List Output) (n output : ℕ) (i : Input) → numbered inputs n ≡ Some i
    → read_byte (content inputs outputs n output) ≡ next_byte i.ended i.rest
read_byte-at inputs outputs n output i h = ap byte_of_input h

pub after_read-at : (inputs : List Input) (outputs : List Output) (n output : ℕ) (i : Input) → numbered inputs n ≡ Some i
    → after_read (content inputs outputs n output)
    ≡ content (slice_set inputs (n - 1) (record i { rest = after_byte i.ended i.rest })) outputs n output
after_read-at inputs outputs n output i h = ap (λ o. with_input_read o (content inputs outputs n output)) h

pub after_write-at : (inputs : List Input) (outputs : List Output) (input n byte : ℕ) (o : Output) → numbered outputs n ≡ Some o
    → after_write byte (content inputs outputs input n)
    ≡ content inputs (slice_set outputs (n - 1) (record o { written = more_written o.ended o.written byte })) input n
after_write-at inputs outputs input n byte o h = ap (λ x. with_output_written x byte (content inputs outputs input n)) h

pub end_input-at : (inputs : List Input) (outputs : List Output) (n output : ℕ) (i : Input) → numbered inputs n ≡ Some i
    → end_stream sides.Input (content inputs outputs n output)
    ≡ content (slice_set inputs (n - 1) (record i { ended = true })) outputs 0 output
end_input-at inputs outputs n output i h = ap (λ o. with_input_ended o (content inputs outputs n output)) h

pub end_output-at : (inputs : List Input) (outputs : List Output) (input n : ℕ) (o : Output) → numbered outputs n ≡ Some o
    → end_stream sides.Output (content inputs outputs input n)
    ≡ content inputs (slice_set outputs (n - 1) (record o { ended = true })) input 0
end_output-at inputs outputs input n o h = ap (λ x. with_output_ended x (content inputs outputs input n)) h

-- over a table of inputs that are views of the code's inputs
module _ {X : Type 0} (f : X → Input) (table : List X) (outputs : List Output) (n output : ℕ) (x : X) (some : 0 < n) (within : n ≤ length table) (is : x ≡ get_or table (n - 1) x) where
  pub reads : (byte : Option ℕ) → byte ≡ next_byte (f x).ended (f x).rest → byte ≡ read_byte (content (map f table) outputs n output)
  reads byte h = h ∙ sym (read_byte-at (map f table) outputs n output (f x) (numbered-map f table n x some within is))

  pub reads_on : (y : X) → f y ≡ record (f x) { rest = after_byte (f x).ended (f x).rest }
      → content (map f (set table (n - 1) y)) outputs n output ≡ after_read (content (map f table) outputs n output)
  reads_on y h =
      ap (λ inputs. content inputs outputs n output) (map-set f table (n - 1) y ∙ ap (set (map f table) (n - 1)) h)
      ∙ sym (after_read-at (map f table) outputs n output (f x) (numbered-map f table n x some within is))

  pub ends_input : (y : X) → f y ≡ record (f x) { ended = true }
      → content (map f (set table (n - 1) y)) outputs 0 output ≡ end_stream sides.Input (content (map f table) outputs n output)
  ends_input y h =
      ap (λ inputs. content inputs outputs 0 output) (map-set f table (n - 1) y ∙ ap (set (map f table) (n - 1)) h)
      ∙ sym (end_input-at (map f table) outputs n output (f x) (numbered-map f table n x some within is))

-- the names of a table that is a view of the code's table
pub names_of_inputs : {X : Type 0} (f : X → Input) (name_of : X → List ℕ) → ((x : X) → (f x).name ≡ name_of x) → (table : List X)
    → map (λ (i : Input). i.name) (map f table) ≡ map name_of table
names_of_inputs f name_of h [] = refl
names_of_inputs f name_of h (x ∷ xs) = rw (h x, names_of_inputs f name_of h xs) refl

set_same : {X : Type 0} (xs : List X) (k : ℕ) (x : X) → slice_get xs k ≡ Some x → slice_set xs k x ≡ xs
set_same [] k x h = refl
set_same (y ∷ xs) zero x h = let same : y ≡ x = cc in rw same refl
set_same (y ∷ xs) (suc k) x h = rw (set_same xs k x h) refl

positive : {X : Type 0} (table : List X) (n : ℕ) (x : X) → numbered table n ≡ Some x → 0 < n
positive table zero x h = absurd cc
positive table (suc k) x h = omega arith

-- what is written to an ended output is dropped
pub after_write-ended : (inputs : List Input) (outputs : List Output) (input n byte : ℕ) (o : Output) → numbered outputs n ≡ Some o → o.ended ≡ true
    → content inputs outputs input n ≡ after_write byte (content inputs outputs input n)
after_write-ended inputs outputs input n byte o h ended =
    let at = sym (numbered-get outputs n (positive outputs n o h)) ∙ h in
    let same = set_same outputs (n - 1) o at in
    let unchanged : record o { written = more_written o.ended o.written byte } ≡ o = rw ended refl in
    sym (after_write-at inputs outputs input n byte o h ∙ rw (unchanged, same) refl)

pub after_write-open : (inputs : List Input) (outputs : List Output) (input n byte : ℕ) (o : Output) → numbered outputs n ≡ Some o → o.ended ≡ false
    → after_write byte (content inputs outputs input n)
    ≡ content inputs (slice_set outputs (n - 1) (record o { written = o.written ++ byte ∷ [] })) input n
after_write-open inputs outputs input n byte o h open_still =
    let more : record o { written = more_written o.ended o.written byte } ≡ record o { written = o.written ++ byte ∷ [] } = rw open_still refl in
    after_write-at inputs outputs input n byte o h ∙ rw more refl
