-- The results of primitives.
use Rattle.std.proofs.Common.{◌≡◌, ℕ, suc, ◌+◌, ◌-◌, ◌<◌, List, [], ◌∷◌, ◌++◌, Some, None, refl, sym, ap, subst, ◌∙◌, arith}
use Rattle.std.specs.Prelude.{◌/◌, ◌%◌, ◌==◌, cond, Ok, Err, Option}
use Rattle.std.proofs.lemmas.List.{append-nil, append_assoc}
use Rattle.std.proofs.Math.Nat.{sub_self}
use Rattle.bc_machine_defs.specs.Streams.{Content}
use Rattle.bc_machine_defs.specs.declared.streams.Side.{Side}
use Rattle.bc_machine_defs.specs.StreamCalls.{find_stream, select_stream, read_byte, after_read, after_write}
use Rattle.bc_machine_defs.specs.Execute.{byte_or_end}
use Rattle.bc_core.specs.Store.{Cell, Dead, Unset, Set, cell_at, closed}
use Rattle.bc_core.specs.Outcome as outcomes
use Rattle.bc_core.specs.Outcome.{Outcome, Done, Ended, Going, Wild, Run, followed, then_do, content_of_cell, read, left}
use Rattle.bc_core.specs.Primitive.{byte_of_string, bytes_of_string, string_of, on_streams, primitive_work}
use Rattle.bc_core.specs.Primitive as primitives
use Rattle.bc_interpret_defs.specs.Causes as met
use Rattle.bc_interpret_defs.specs.Meeting.{KeepsWords, HasNoWord, IsWildBy}
use Rattle.bc_interpret_defs.proofs.Naming.{wild_then, wild_same, wild_read_dead, wild_read_unset}
use Rattle.bc_interpret_pure.specs.declared.context.Cause.{Cause}
use Rattle.bc_interpret_pure.specs.declared.context.Cause.TheVariants as causes
use Rattle.bc_interpret_pure.specs.Causes.{cause_of}
use Rattle.bc_interpret_steps.specs.declared.state.State.{State}
use Rattle.bc_interpret_steps.specs.Came.{state_of}
use Rattle.bc_interpret.specs.declared.serve.Served.{Served}
use Rattle.bc_interpret.specs.declared.serve.Served.TheVariants as forms
use Rattle.bc_interpret.specs.Serving.{Gets, GetsName, Naming, Serves, Numbers}

-- a state over this store has its words
keeps_own : (cells : List Cell) (streams : Content) (turns : ℕ) → KeepsWords cells (record { cells = cells; streams = streams; turns = turns })
keeps_own cells streams turns b w e = e

-- a run that is wild because of a cell is wild over that store
wild_over : {A : Type 0} (r : Run A) (cells : List Cell) (c : met.Cause) → IsWildBy r cells c → (streams : Content) (turns : ℕ) → r (record { cells = cells; streams = streams; turns = turns }) ≡ Wild
wild_over r cells (met.Unset a) h streams turns = h.1 (record { cells = cells; streams = streams; turns = turns }) (keeps_own cells streams turns) (subst HasNoWord (sym h.0) tt)
wild_over r cells (met.Dead a) h streams turns = h.1 (record { cells = cells; streams = streams; turns = turns }) (keeps_own cells streams turns) (subst HasNoWord (sym h.0) tt)
wild_over r cells (met.NoCell a) h streams turns = h.1.0 (record { cells = cells; streams = streams; turns = turns }) (keeps_own cells streams turns) h.0
wild_over r cells (met.NotRoutine v) h streams turns = absurd h
wild_over r cells (met.FrameTooLarge v) h streams turns = absurd h
wild_over r cells met.Malformed h streams turns = absurd h

pub wild_now : {A : Type 0} (r : Run A) (st : State) (c : Cause) → IsWildBy r st.store (cause_of c) → (streams : Content) → r (state_of st streams) ≡ Wild
wild_now r st c h streams = wild_over r st.store (cause_of c) h streams st.turns

-- reading

pub read_dead : (st : State) (a : ℕ) → Dead ≡ cell_at st.store a → Gets (read a) st (Err (causes.Dead a))
read_dead st a e = wild_read_dead a st.store (sym e)

pub read_unset : (st : State) (a : ℕ) → Unset ≡ cell_at st.store a → Gets (read a) st (Err (causes.Unset a))
read_unset st a e = wild_read_unset a st.store (sym e)

pub read_set : (st : State) (a w : ℕ) → Set w ≡ cell_at st.store a → Gets (read a) st (Ok w)
read_set st a w e seen keeps = ap (λ x. content_of_cell x seen) (keeps a w (sym e))

-- the bytes of a word

pub high_byte : (st : State) (address k at word b : ℕ) → at ≡ (address + k / 2) % 65536 → Gets (read at) st (Ok word) → k % 2 ≡ 0 → b ≡ word / 256 → Gets (byte_of_string address k) st (Ok b)
high_byte st address k at word b e h even is seen keeps =
    ap (λ a. followed (read a seen) (λ w. Done (cond (k % 2 == 0) (w / 256) (w % 256)))) (sym e)
    ∙ (ap (λ o. followed o (λ w. Done (cond (k % 2 == 0) (w / 256) (w % 256)))) (h seen keeps)
    ∙ (ap (λ x. Done (cond (x == 0) (word / 256) (word % 256)) seen) even
    ∙ ap (λ x. Done x seen) (sym is)))

pub low_byte : (st : State) (address k at word b : ℕ) → at ≡ (address + k / 2) % 65536 → Gets (read at) st (Ok word) → k % 2 ≡ 1 → b ≡ word % 256 → Gets (byte_of_string address k) st (Ok b)
low_byte st address k at word b e h odd is seen keeps =
    ap (λ a. followed (read a seen) (λ w. Done (cond (k % 2 == 0) (w / 256) (w % 256)))) (sym e)
    ∙ (ap (λ o. followed o (λ w. Done (cond (k % 2 == 0) (w / 256) (w % 256)))) (h seen keeps)
    ∙ (ap (λ x. Done (cond (x == 0) (word / 256) (word % 256)) seen) odd
    ∙ ap (λ x. Done x seen) (sym is)))

pub no_byte : (st : State) (address k at : ℕ) (c : Cause) → at ≡ (address + k / 2) % 65536 → Gets (read at) st (Err c) → Gets (byte_of_string address k) st (Err c)
no_byte st address k at c e h =
    let byte : ℕ → Run ℕ = λ w. Done (cond (k % 2 == 0) (w / 256) (w % 256)) in
    subst (λ a. IsWildBy (then_do (read a) byte) st.store (cause_of c)) e (wild_then (read at) byte st.store (cause_of c) h)

-- the bytes of a name, one by one

whole : (o : Outcome (List ℕ)) → o ≡ followed o (λ rest. Done ([] ++ rest))
whole (Done x st) = refl
whole (Ended e streams) = refl
whole (Going streams) = refl
whole Wild = refl

pub naming_begun : (st : State) (address length : ℕ) (name : List ℕ) → name ≡ [] → Naming st address length 0 name
naming_begun st address length name e seen keeps =
    let none : length ≡ length - 0 = omega arith in
    whole (bytes_of_string length 1 address seen)
    ∙ (ap (λ n. followed (bytes_of_string n 1 address seen) (λ rest. Done ([] ++ rest))) none
    ∙ ap (λ xs. followed (bytes_of_string (length - 0) 1 address seen) (λ rest. Done (xs ++ rest))) (sym e))

fused : (name : List ℕ) (b : ℕ) (o : Outcome (List ℕ)) → followed (followed o (λ bytes. Done (b ∷ bytes))) (λ rest. Done (name ++ rest)) ≡ followed o (λ rest. Done ((name ++ b ∷ []) ++ rest))
fused name b (Done bytes st) = ap (λ xs. Done xs st) (sym (append_assoc name (b ∷ []) bytes))
fused name b (Ended e streams) = refl
fused name b (Going streams) = refl
fused name b Wild = refl

pub naming_more : (st : State) (address length k : ℕ) (name : List ℕ) (b : ℕ) → k < length → Naming st address length k name → Gets (byte_of_string address (k + 1)) st (Ok b) → Naming st address length (k + 1) (name ++ b ∷ [])
naming_more st address length k name b l h g seen keeps =
    let e : length - k ≡ suc (length - (k + 1)) = omega arith in
    h seen keeps
    ∙ (ap (λ n. followed (bytes_of_string n (k + 1) address seen) (λ rest. Done (name ++ rest))) e
    ∙ (ap (λ o. followed (followed o (λ byte. then_do (bytes_of_string (length - (k + 1)) (k + 1 + 1) address) (λ bytes. Done (byte ∷ bytes)))) (λ rest. Done (name ++ rest))) (g seen keeps)
    ∙ fused name b (bytes_of_string (length - (k + 1)) (k + 1 + 1) address seen)))

naming_whole : (st : State) (address length : ℕ) (name : List ℕ) → Naming st address length length name → (seen : outcomes.State) → KeepsWords st.store seen → bytes_of_string length 1 address seen ≡ Done name seen
naming_whole st address length name h seen keeps =
    h seen keeps
    ∙ (ap (λ n. followed (bytes_of_string n (length + 1) address seen) (λ rest. Done (name ++ rest))) (sub_self length)
    ∙ ap (λ xs. Done xs seen) (append-nil name))

pub named : (st : State) (address length : ℕ) (name : List ℕ) → Gets (byte_of_string address 0) st (Ok length) → Naming st address length length name → GetsName (string_of address) st None name
named st address length name g h seen keeps =
    ap (λ o. followed o (λ n. bytes_of_string n 1 address)) (g seen keeps) ∙ naming_whole st address length name h seen keeps

pub no_length : (st : State) (address : ℕ) (name : List ℕ) (c : Cause) → Gets (byte_of_string address 0) st (Err c) → GetsName (string_of address) st (Some c) name
no_length st address name c g = wild_then (byte_of_string address 0) (λ n. bytes_of_string n 1 address) st.store (cause_of c) g

-- once the first bytes have been read, the run over the string is the run over the others
pub no_name : (st : State) (address length k : ℕ) (name name1 : List ℕ) (c : Cause) → Gets (byte_of_string address 0) st (Ok length) → k < length → Naming st address length k name → Gets (byte_of_string address (k + 1)) st (Err c) → GetsName (string_of address) st (Some c) name1
no_name st address length k name name1 c g l h fails =
    let more : ℕ → Run (List ℕ) = λ byte. then_do (bytes_of_string (length - (k + 1)) (k + 1 + 1) address) (λ bytes. Done (byte ∷ bytes)) in
    let behind : List ℕ → Run (List ℕ) = λ rest. Done (name ++ rest) in
    let from : Run (List ℕ) = then_do (byte_of_string address (k + 1)) more in
    let e : length - k ≡ suc (length - (k + 1)) = omega arith in
    wild_same (string_of address) (then_do from behind) st.store (cause_of c)
    (λ seen keeps. ap (λ o. followed o (λ n. bytes_of_string n 1 address)) (g seen keeps)
    ∙ (h seen keeps ∙ ap (λ n. followed (bytes_of_string n (k + 1) address seen) behind) e))
    (wild_then from behind st.store (cause_of c) (wild_then (byte_of_string address (k + 1)) more st.store (cause_of c) fails))

-- the primitives, over any streams

pub not_read : (st : State) (a f : ℕ) (c : Cause) (then : ℕ → Run ℕ) → a ≡ f + 2 → Gets (read a) st (Err c) → IsWildBy (then_do (read (f + 2)) then) st.store (cause_of c)
not_read st a f c then e h =
    subst (λ x. IsWildBy (then_do (read x) then) st.store (cause_of c)) e (wild_then (read a) then st.store (cause_of c) h)

argued : (st : State) (a f n : ℕ) (then : ℕ → Run ℕ) → a ≡ f + 2 → Gets (read a) st (Ok n) → (seen : outcomes.State) → KeepsWords st.store seen → then_do (read (f + 2)) then seen ≡ then n seen
argued st a f n then e h seen keeps =
    ap (λ x. followed (read x seen) then) (sym e) ∙ ap (λ o. followed o then) (h seen keeps)

pub selected : (st : State) (side : Side) (a f n : ℕ) → a ≡ f + 2 → Gets (read a) st (Ok n) → (streams : Content) → primitive_work (primitives.Select side) f (state_of st streams) ≡ Done 0 (state_of st (select_stream side n streams))
selected st side a f n e h streams = argued st a f n (λ m. on_streams (select_stream side m) 0) e h (state_of st streams) (keeps_own st.store streams st.turns)

pub written : (st : State) (a f w : ℕ) → a ≡ f + 2 → Gets (read a) st (Ok w) → (streams : Content) → primitive_work primitives.WriteByte f (state_of st streams) ≡ Done 0 (state_of st (after_write (w % 256) streams))
written st a f w e h streams = argued st a f w (λ x. on_streams (after_write (x % 256)) 0) e h (state_of st streams) (keeps_own st.store streams st.turns)

pub found : (st : State) (side : Side) (a f address : ℕ) (name : List ℕ) → a ≡ f + 2 → Gets (read a) st (Ok address) → GetsName (string_of address) st None name → (streams : Content) → primitive_work (primitives.Find side) f (state_of st streams) ≡ Done (find_stream side name streams) (state_of st streams)
found st side a f address name e h g streams =
    argued st a f address (λ x. then_do (string_of x) (λ bytes s. Done (find_stream side bytes s.streams) s)) e h (state_of st streams) (keeps_own st.store streams st.turns)
    ∙ ap (λ o. followed o (λ bytes s. Done (find_stream side bytes s.streams) s)) (g (state_of st streams) (keeps_own st.store streams st.turns))

pub not_found : (st : State) (side : Side) (a f address : ℕ) (name : List ℕ) (c : Cause) → a ≡ f + 2 → Gets (read a) st (Ok address) → GetsName (string_of address) st (Some c) name → IsWildBy (primitive_work (primitives.Find side) f) st.store (cause_of c)
not_found st side a f address name c e h g =
    let answer : List ℕ → Run ℕ = λ bytes s. Done (find_stream side bytes s.streams) s in
    wild_same (primitive_work (primitives.Find side) f) (then_do (string_of address) answer) st.store (cause_of c)
    (λ seen keeps. argued st a f address (λ x. then_do (string_of x) answer) e h seen keeps)
    (wild_then (string_of address) answer st.store (cause_of c) g)

pub was_read : (st : State) (f v : ℕ) (byte : Option ℕ) (before after : Content) → v ≡ byte_or_end byte → byte ≡ read_byte before → after ≡ after_read before → primitive_work primitives.ReadByte f (state_of st before) ≡ Done v (state_of st after)
was_read st f v byte before after e b a =
    ap (λ x. Done (byte_or_end x) (state_of st (after_read before))) (sym b)
    ∙ (ap (λ x. Done x (state_of st (after_read before))) (sym e) ∙ ap (λ s. Done v (state_of st s)) (sym a))

-- the cell of the argument is freed

pub closed_serves : (r : Run ℕ) (a : ℕ) (old new : State) (before after : Content) (s : Served) → new.store ≡ closed 1 a old.store → new.turns ≡ old.turns → Serves r old before s old after → Serves (λ st. left 1 a (r st)) old before s new after
closed_serves r a old new before after (forms.Number v) e t h =
    ap (λ o. left 1 a o) h ∙ (λ i. Done v (record { cells = sym e i; streams = after; turns = sym t i }))
closed_serves r a old new before after (forms.Wild c) e t h = ap (λ o. left 1 a o) h
closed_serves r a old new before after forms.Device e t h = tt

pub closed_numbers : (r : Run ℕ) (a : ℕ) (old new : State) (s : Served) → new.store ≡ closed 1 a old.store → new.turns ≡ old.turns → Numbers r old s old → Numbers (λ st. left 1 a (r st)) old s new
closed_numbers r a old new (forms.Number v) e t h = λ streams.
    let k = h streams in
    (k.0, k.1, ap (λ o. left 1 a o) k.2 ∙ (λ i. Done k.0 (record { cells = sym e i; streams = k.1; turns = sym t i })))
closed_numbers r a old new (forms.Wild c) e t h = tt
closed_numbers r a old new forms.Device e t h = tt
