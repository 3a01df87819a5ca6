-- The code of the primitives does what they mean.
use Rattle.std.proofs.Common.{◌≡◌, ℕ, zero, suc, ◌+◌, ◌%◌, ◌/◌, ◌==◌, ◌<◌, ◌≤◌, List, [], ◌∷◌, true, false, refl, sym, ap, ◌∙◌, subst, arith}
use Rattle.std.specs.Prelude.{slice_index, cond}
use Rattle.bc_text_items.specs.declared.item.Item.{Item}
use Rattle.bc_text_items.specs.declared.item.Base.TheVariants as bases
use Rattle.bc_text_items.specs.declared.item.Function.TheVariants as functions
use Rattle.bc_machine_defs.specs.declared.streams.Side.{Side}
use Rattle.bc_machine_defs.specs.declared.streams.Side.TheVariants as sides
use Rattle.bc_machine_defs.specs.Streams.{Content}
use Rattle.bc_machine_defs.specs.StreamCalls.{find_stream, select_stream, read_byte, after_read, after_write, end_stream}
use Rattle.bc_machine_defs.specs.Text.{byte_at, bytes_from, string_at}
use Rattle.bc_machine_defs.specs.Execute.{byte_or_end}
use Rattle.bc_machine_defs.specs.State.{State}
use Rattle.bc_machine_defs.specs.Effect.{running}
use Rattle.bc_machine_defs.specs.Step.{step}
use Rattle.bc_core.specs.Store.{Cell, Dead, Unset, Set, cell_at}
use Rattle.bc_core.specs.Outcome as outcomes
use Rattle.bc_core.specs.Outcome.{Outcome, Done, Ended, Going, Wild, Run, followed, then_do, content_of_cell, read}
use Rattle.bc_core.specs.Primitive.{Primitive, Select, ReadByte, WriteByte, Find, EndStream, primitive_work, primitive_frame, byte_of_string, bytes_of_string, string_of, on_streams}
use Rattle.bc_right.specs.steps.Leads.{machine}
use Rattle.bc_right.specs.steps.Agreement.{Holds}
use Rattle.bc_gen_defs.specs.Emit.{execute}
use Rattle.bc_right.specs.commands.Exits.{return_items}
use Rattle.bc_right.specs.steps.Landing.{Moment, Later, Stands, Reached, Goal, Lands, Does}
use Rattle.bc_right.specs.commands.Library.{argument_item, primitive_items, PrimitivesLand}
use Rattle.bc_right.proofs.step_lemmas.Steps.{after_item, acts, went, plain, lands_done, leads_more}
use Rattle.bc_right.proofs.command_lemmas.Calls.{zeroed, return_goal, framed_lands}

-- an instruction that changes only A and the streams
streamed : {K : Moment} {most : ℕ} {O : Moment} {x : State} {t top p a b c g c1 : ℕ} {m : List ℕ} {st : outcomes.State} (a1 : ℕ) (streams : Content) → Reached K most O x t top p a b c g m st → step (machine a b c p m st.streams) ≡ running (machine a1 b c1 p m streams)
    → Reached K most O x t top p a1 b c1 (g + 1) m (record st { streams = streams })
streamed {t = t} {g = g} a1 streams r e = record { few = r.few; are_words = r.are_words; leads = leads_more t g r.leads e; holds = r.holds; since = r.since; later = r.later }

-- a run that changes nothing and gives this value, or is wild
abbrev SameOrWild : {A : Type 0} → Outcome A → A → outcomes.State → Type 0
SameOrWild (Done z st1) x st = (z ≡ x) × (st1 ≡ st)
SameOrWild (Ended e streams) x st = ⊥
SameOrWild (Going streams) x st = ⊥
SameOrWild Wild x st = Unit {0}

module _ (S K : Moment) (old : Later S K) (n : ℕ) where
  -- the content of a cell is the store's word there, or the source is wild
  cell_lands : {top p limit a c : ℕ} (at : ℕ) (goal : Goal ℕ) (f : ℕ → Run ℕ) → ((O : Moment) (x : State) (t b : ℕ) (m : List ℕ) (st : outcomes.State) (w : ℕ) → slice_index m at ≡ w → st.turns ≤ limit → Reached K n O x t top p a b c 0 m st → Lands K n O x t top p limit goal (f w st)) → Does K n top p limit a c goal (then_do (read at) f)
  cell_lands {top = top} {p = p} {limit = limit} {a = a} {c = c} at goal f k = record { from = λ O x t b m st le here. by_cell O x t b m st le here (cell_at st.cells at) refl } where
    by_cell : (O : Moment) (x : State) (t b : ℕ) (m : List ℕ) (st : outcomes.State) → st.turns ≤ limit → Reached K n O x t top p a b c 0 m st → (cell : Cell) → cell_at st.cells at ≡ cell → Lands K n O x t top p limit goal (followed (content_of_cell cell st) f)
    by_cell O x t b m st le here Dead e = tt
    by_cell O x t b m st le here Unset e = tt
    by_cell O x t b m st le here (Set w) e = k O x t b m st w (here.holds.agrees at w e) le here

  -- `LIP2`
  argument_lands : {top p limit a c end : ℕ} (goal : Goal ℕ) (f : ℕ → Run ℕ) (rest : List Item) → p + 3 ≤ 65536 → Stands (λ l. 0) S c (argument_item ∷ rest) end → ((w : ℕ) → Does K n top p limit w (c + 1) goal (f w)) → Does K n top p limit a c goal (then_do (read (p + 2)) f)
  argument_lands {p = p} {a = a} {c = c} goal f rest room s k = cell_lands (p + 2) goal f (λ O x t b m st w e le here.
      let at : (2 + p) % 65536 ≡ p + 2 = omega arith in
      let loaded = acts old functions.Load true bases.P 2 rest s here ∙ ap (λ z. running (machine (slice_index m z) a (c + 1) p m st.streams)) at ∙ ap (λ z. running (machine z a (c + 1) p m st.streams)) e in
      (k w).from O x t a m st le (plain (went here loaded)))

  -- the streams change, and the value is 0
  changes : {top p limit a c end : ℕ} (change : Content → Content) (d : ℕ) → Stands (λ l. 0) S c (execute d ∷ return_items) end
      → ((O : Moment) (x : State) (t b : ℕ) (m : List ℕ) (st : outcomes.State) → Reached K n O x t top p a b c 0 m st → step (machine a b c p m st.streams) ≡ running (machine a b (c + 1) p m (change st.streams)))
      → Stands (λ l. 0) S (c + 1) return_items end → Does K n top p limit a c (return_goal (λ l. 0) S) (on_streams change 0)
  changes {limit = limit} {a = a} {end = end} change d s e tail = record {
    from = λ O x t b m st le here.
        lands_done limit (return_goal (λ l. 0) S) 0 (zeroed old (execute 4 ∷ []) tail (streamed a (change st.streams) here (e O x t b m st here))) le (refl, end, after_item tail);
  }

  -- the machine reads a byte of a string, and n bytes, as the source does
  byte_lands : {top : ℕ} (address k : ℕ) (m : List ℕ) (st : outcomes.State) → Holds top st.cells m → SameOrWild (byte_of_string address k st) (byte_at address k m) st
  byte_lands address k m st h = by_cell (cell_at st.cells ((address + k / 2) % 65536)) refl where
    by_cell : (cell : Cell) → cell_at st.cells ((address + k / 2) % 65536) ≡ cell → SameOrWild (followed (content_of_cell cell st) (λ word. Done (cond (k % 2 == 0) (word / 256) (word % 256)))) (byte_at address k m) st
    by_cell Dead e = tt
    by_cell Unset e = tt
    by_cell (Set w) e = (sym (ap (λ z. cond (k % 2 == 0) (z / 256) (z % 256)) (h.agrees ((address + k / 2) % 65536) w e)), refl)

  same_then : {A B : Type 0} (o : Outcome A) (x : A) (y : B) (st : outcomes.State) (f : A → Run B) → SameOrWild o x st → SameOrWild (f x st) y st → SameOrWild (followed o f) y st
  same_then (Done z st1) x y st f h k = subst (λ w. SameOrWild (f w st1) y st) (sym h.0) (subst (λ w. SameOrWild (f x w) y st) (sym h.1) k)
  same_then (Ended e streams) x y st f h k = h
  same_then (Going streams) x y st f h k = h
  same_then Wild x y st f h k = tt

  bytes_land : {top : ℕ} (n k address : ℕ) (m : List ℕ) (st : outcomes.State) → Holds top st.cells m → SameOrWild (bytes_of_string n k address st) (bytes_from n k address m) st
  unfolding bytes_from
  bytes_land zero k address m st h = (refl, refl)
  bytes_land (suc n) k address m st h =
      let byte = byte_at address k m in
      let rest = bytes_from n (k + 1) address m in
      same_then (byte_of_string address k st) byte (byte ∷ rest) st (λ z. then_do (bytes_of_string n (k + 1) address) (λ bytes. Done (z ∷ bytes))) (byte_lands address k m st h)
      (same_then (bytes_of_string n (k + 1) address st) rest (byte ∷ rest) st (λ bytes. Done (byte ∷ bytes)) (bytes_land n (k + 1) address m st h) (refl, refl))

  finds : {top p limit a v end : ℕ} (side : Side) (d : ℕ) → p + 3 ≤ 65536 → Stands (λ l. 0) S v (argument_item ∷ execute d ∷ execute 4 ∷ []) end
      → ((O : Moment) (x : State) (t b w : ℕ) (m : List ℕ) (st : outcomes.State) → Reached K n O x t top p w b (v + 1) 0 m st → step (machine w b (v + 1) p m st.streams) ≡ running (machine (find_stream side (string_at w m) st.streams) b (v + 2) p m st.streams))
      → Stands (λ l. 0) S (v + 2) (execute 4 ∷ []) end → Does K n top p limit a v (return_goal (λ l. 0) S) (primitive_work (Find side) p)
  finds {top = top} {p = p} {limit = limit} {v = v} {end = end} side d room s e tail = argument_lands (return_goal (λ l. 0) S) (λ address. then_do (string_of address) (λ name st. Done (find_stream side name st.streams) st)) (execute d ∷ execute 4 ∷ []) room s
      (λ w. record {
        from = λ O x t b m st le here.
            let name = string_at w m in
            let goal = return_goal (λ l. 0) S in
            let named = same_then (byte_of_string w 0 st) (byte_at w 0 m) name st (λ k. bytes_of_string k 1 w) (byte_lands w 0 m st here.holds) (bytes_land (byte_at w 0 m) 1 w m st here.holds) in
            on O x t m (string_of w st) name st le named (went here (e O x t b w m st here));
      }) where
        on : {b g : ℕ} (O : Moment) (x : State) (t : ℕ) (m : List ℕ) (o : Outcome (List ℕ)) (name : List ℕ) (st : outcomes.State) → st.turns ≤ limit → SameOrWild o name st → Reached K n O x t top p (find_stream side name st.streams) b (v + 2) g m st
            → Lands K n O x t top p limit (return_goal (λ l. 0) S) (followed o (λ z st1. Done (find_stream side z st1.streams) st1))
        on O x t m (Done z st1) name st le h r =
            subst (λ y. Lands K n O x t top p limit (return_goal (λ l. 0) S) (Done (find_stream side z y.streams) y)) (sym h.1)
            (subst (λ y. Lands K n O x t top p limit (return_goal (λ l. 0) S) (Done (find_stream side y st.streams) st)) (sym h.0)
            (lands_done limit (return_goal (λ l. 0) S) (find_stream side name st.streams) r le (refl, end, tail)))
        on O x t m (Ended k streams) name st le h r = absurd h
        on O x t m (Going streams) name st le h r = absurd h
        on O x t m Wild name st le h r = tt

  add_two : (c : ℕ) → c + 1 + 1 ≡ c + 2
  add_two c = omega arith

  primitive_lands : (q : Primitive) (p limit a v end : ℕ) → p + 3 ≤ 65536 → Stands (λ l. 0) S v (primitive_items q) end → Does K n (p + 3) p limit a v (return_goal (λ l. 0) S) (primitive_work q p)
  primitive_lands (Select sides.Input) p limit a v end room s = argument_lands (return_goal (λ l. 0) S) (λ w. on_streams (select_stream sides.Input w) 0) (execute 24 ∷ return_items) room s
      (λ w. changes (select_stream sides.Input w) 24 (after_item s) (λ O x t b m st here. acts old functions.Execute false bases.Number 24 return_items (after_item s) here) (after_item (after_item s)))
  primitive_lands (Select sides.Output) p limit a v end room s = argument_lands (return_goal (λ l. 0) S) (λ w. on_streams (select_stream sides.Output w) 0) (execute 25 ∷ return_items) room s
      (λ w. changes (select_stream sides.Output w) 25 (after_item s) (λ O x t b m st here. acts old functions.Execute false bases.Number 25 return_items (after_item s) here) (after_item (after_item s)))
  primitive_lands ReadByte p limit a v end room s = record {
    from = λ O x t b m st le here.
        let w = byte_or_end (read_byte st.streams) in
        lands_done limit (return_goal (λ l. 0) S) w (streamed w (after_read st.streams) here (acts old functions.Execute false bases.Number 26 (execute 4 ∷ []) s here)) le (refl, end, after_item s);
  }
  primitive_lands WriteByte p limit a v end room s = argument_lands (return_goal (λ l. 0) S) (λ w. on_streams (after_write (w % 256)) 0) (execute 27 ∷ return_items) room s
      (λ w. changes (after_write (w % 256)) 27 (after_item s) (λ O x t b m st here. acts old functions.Execute false bases.Number 27 return_items (after_item s) here) (after_item (after_item s)))
  primitive_lands (Find sides.Input) p limit a v end room s =
      let tail = subst (λ z. Stands (λ l. 0) S z (execute 4 ∷ []) end) (add_two v) (after_item (after_item s)) in
      finds sides.Input 28 room s (λ O x t b w m st here. acts old functions.Execute false bases.Number 28 (execute 4 ∷ []) (after_item s) here ∙ ap (λ z. running (machine (find_stream sides.Input (string_at w m) st.streams) b z p m st.streams)) (add_two v)) tail
  primitive_lands (Find sides.Output) p limit a v end room s =
      let tail = subst (λ z. Stands (λ l. 0) S z (execute 4 ∷ []) end) (add_two v) (after_item (after_item s)) in
      finds sides.Output 29 room s (λ O x t b w m st here. acts old functions.Execute false bases.Number 29 (execute 4 ∷ []) (after_item s) here ∙ ap (λ z. running (machine (find_stream sides.Output (string_at w m) st.streams) b z p m st.streams)) (add_two v)) tail
  primitive_lands (EndStream sides.Input) p limit a v end room s = changes (end_stream sides.Input) 33 s (λ O x t b m st here. acts old functions.Execute false bases.Number 33 return_items s here) (after_item s)
  primitive_lands (EndStream sides.Output) p limit a v end room s = changes (end_stream sides.Output) 34 s (λ O x t b m st here. acts old functions.Execute false bases.Number 34 return_items s here) (after_item s)

pub primitives_land : PrimitivesLand
primitives_land S program stands zero v q e = record { from = λ K old address O x t p s b c end limit vs m st at args room le here. let none : st.turns < 0 = here.few in absurd (omega arith) }
primitives_land S program stands (suc n) v q e =
    let own = stands v q e in
    record { from = (framed_lands S n v 1 primitive_frame (primitive_work q) (λ l. 0) (λ K old p limit a room. primitive_lands S K old n q p limit a v own.0 room own.1)).from }
