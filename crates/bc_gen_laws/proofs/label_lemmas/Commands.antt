-- The code of commands takes consecutive labels, and uses only these and its exits.
use Rattle.std.proofs.Common.{◌≡◌, ℕ, ◌+◌, ◌≤◌, ◌<◌, ◌&&◌, true, false, not, List, [], ◌∷◌, ◌++◌, refl, arith}
use Rattle.bc_text_items.specs.declared.item.Item.{Item}
use Rattle.bc_text_items.specs.declared.item.Item.TheVariants.{Label, Data, DataLabel}
use Rattle.bc_core.specs.Tree.{Frame, Value, Test, Assign}
use Rattle.bc_core.specs.Commands.{Variable, Initial, Vector, Command, Block, block, Items, no_item, command, case, default, label}
use Rattle.bc_core.specs.Commands as commands
use Rattle.bc_core.specs.Level.{cells_of, cells_of_all, cells_declared, level_in_for}
use Rattle.bc_core.specs.Command.{step_of_for}
use Rattle.bc_core.specs.WellFormed.{Around, Jumps, root_fits, assignment_fits, variables_fit, declarations_fit, are_distinct, labels_of, has_entries, in_a_loop, in_list, command_fits, block_fits, items_fit, entries_differ}
use Rattle.bc_gen_defs.specs.Emit.{Code, Roots, Exits, jump, execute, zero_item, labelled, labels_in, defaulted, cases_in, entries_in, table_of, emit_variable, emit_variables, emit_declarations, end_of_for, emit, emit_block, emit_items}
use Rattle.bc_gen_laws.proofs.label_lemmas.Counts.{at, stands, stands_both}
use Rattle.bc_gen_laws.proofs.label_lemmas.Fresh.{left_true, right_true, not_true, owed_labels, owed_cases, labels_fresh, cases_fresh, no_cases, defaulted_within}
use Rattle.bc_gen_laws.proofs.label_lemmas.Speaking.{In, Speaks, both, nothing, item}
use Rattle.bc_gen_laws.proofs.label_lemmas.Runs.{Run, none, following, mark, empty, alike, close_one, close_two, close_three, close_list, same_owed, Sound, SoundRoots, Allowed, in_loop, in_a_list, in_a_switch, root_names, sides_name}

pub upto : (a b c : ℕ) → a ≤ b → b ≤ c → a ≤ c
upto a b c h k = omega arith

pub less : (f k n : ℕ) → f + k ≤ n → f ≤ n
less f k n h = omega arith

-- concatenated code
pub joined : {Q : ℕ → Type 0} {c : ℕ → ℕ} {f : ℕ} (x y : Code Item) → Sound Q none f x → Sound Q c x.1 y → Sound Q c f (x.0 ++ y.0, y.1)
joined {c = c} {f = f} x y h k =
    record {
      up = upto f x.1 y.1 h.up k.up;
      run = same_owed c (x.0 ++ y.0) (following x.0 y.0 h.run k.run) (λ i. omega arith);
      speaks = λ n q l u. both x.0 y.0 (h.speaks n q l (upto x.1 y.1 n k.up u)) (k.speaks n q (upto 1 f x.1 l h.up) u);
    }

pub weaker : {Q R : ℕ → Type 0} {f : ℕ} (x : Code Item) → ((n : ℕ) → R n → Q n) → Sound Q none f x → Sound R none f x
weaker x e h = record { up = h.up; run = h.run; speaks = λ n q l u. h.speaks n (e n q) l u }

pub nothing_there : {Q : ℕ → Type 0} (f : ℕ) → Sound Q none f ([], f)
nothing_there f = record { up = omega arith; run = empty f; speaks = λ n q l u. nothing }

-- items that set no label
pub only : {Q : ℕ → Type 0} (f : ℕ) (xs : List Item) → ((k : ℕ) → stands k xs ≡ 0) → ((n : ℕ) → Q n → Speaks n xs) → Sound Q none f (xs, f)
only f xs e h = record { up = omega arith; run = alike xs [] e (empty f); speaks = λ n q l u. h n q }

table_plain : (is : Items) (first : ℕ) (k : ℕ) → stands k (table_of (λ i. i) is first) ≡ 0
table_plain no_item first k = refl
table_plain (command c is) first k = table_plain is first k
table_plain (case v is) first k = table_plain is (first + 1) k
table_plain (default is) first k = table_plain is (first + 1) k
table_plain (label l is) first k = table_plain is first k

after_table : (is : Items) (first : ℕ) (xs : List Item) (k : ℕ) → stands k (table_of (λ i. i) is first ++ xs) ≡ stands k xs
after_table is first xs k = by (stands k (table_of (λ i. i) is first)) (stands k xs) _ (stands_both k (table_of (λ i. i) is first) xs) (table_plain is first k) where
  by : (a b c : ℕ) → c ≡ a + b → a ≡ 0 → c ≡ b
  by a b c h i = omega arith

table_speaks : {n : ℕ} (is : Items) (first : ℕ) → 1 ≤ first → first + entries_in is ≤ n → Speaks n (table_of (λ i. i) is first)
table_speaks no_item first l h = nothing
table_speaks (command c is) first l h = table_speaks is first l h
table_speaks (case v is) first l h = item (Data v) _ tt (item (DataLabel first) _ (l, omega arith) (table_speaks is (first + 1) (omega arith) (omega arith)))
table_speaks (default is) first l h = table_speaks is (first + 1) (omega arith) (omega arith)
table_speaks (label k is) first l h = table_speaks is first l h

between : (f g x n : ℕ) → 1 ≤ f → g ≤ n → (f ≤ x) × (x < g) → In n x
between f g x n l u h = let h0 = h.0 in let h1 = h.1 in (omega arith, omega arith)

module _ (A : Around) (roots : Roots Item) (r : SoundRoots A.places roots) where
  abbrev Places : ℕ → Type 0
  Places n = A.places < n

  variables_sound : (vs : List Variable) (k u : ℕ) → variables_fit A vs k u ≡ true → (i s f : ℕ) → Sound Places none f (emit_variables roots vs i s f)
  variables_sound [] k u h i s f = nothing_there f
  variables_sound (Initial e ∷ vs) k u h i s f =
      let x = emit_variable roots (Initial e) i s f in
      let y = emit_variables roots vs (i + cells_of (Initial e)) s x.1 in
      let fits = left_true (assignment_fits A e (Frame k) u) (variables_fit A vs (k + 1) u) h in
      joined x y (weaker x (λ n p. (p, ((sides_name A n p e (Frame k) u fits).0, tt), tt)) (r (Assign s e (Frame i)) 0 f))
      (variables_sound vs (k + 1) u (right_true (assignment_fits A e (Frame k) u) (variables_fit A vs (k + 1) u) h) (i + cells_of (Initial e)) s x.1)
  variables_sound (Vector m ∷ vs) k u h i s f =
      let x = emit_variable roots (Vector m) i s f in
      let y = emit_variables roots vs (i + cells_of (Vector m)) s x.1 in
      joined x y (weaker x (λ n p. (p, (tt, tt), tt)) (r (Assign s (Frame (i + 1)) (Frame i)) 0 f))
      (variables_sound vs (k + (m + 2)) u h (i + cells_of (Vector m)) s x.1)

  declarations_sound : (ds : List (List Variable)) (u : ℕ) → declarations_fit A ds u ≡ true → (s f : ℕ) → Sound Places none f (emit_declarations roots ds s f)
  declarations_sound [] u h s f = nothing_there f
  declarations_sound (vs ∷ ds) u h s f =
      let m = cells_of_all vs in
      let x = emit_variables roots vs s (s + m) f in
      let y = emit_declarations roots ds (s + m) x.1 in
      let a = variables_fit A vs u (u + m) in
      let b = declarations_fit A ds (u + m) in
      joined x y (variables_sound vs u (u + m) (left_true a b h) s (s + m) f) (declarations_sound ds (u + m) (right_true a b h) (s + m) x.1)

  mutual
    command_sound : (c : Command) (J : Jumps) (u : ℕ) → command_fits A J c u ≡ true → (s : ℕ) (E : Exits) (f : ℕ) → Sound (Allowed A J E) none f (emit (λ i. i) roots c s E f)
    command_sound (commands.Call e) J u h s E f = weaker (roots (Value s e) 0 f) (λ n a. (a.places, root_names A n a.places e u h, tt)) (r (Value s e) 0 f)
    command_sound (commands.Assign v e) J u h s E f = weaker (roots (Assign s v e) 0 f) (λ n a. (a.places, sides_name A n a.places v e u h, tt)) (r (Assign s v e) 0 f)
    command_sound (commands.If sense e b) J u h s E f =
        let t = roots (Test s (not sense) e) f (f + 1) in
        let x = emit_block (λ i. i) roots b s E t.1 in
        let he = left_true (root_fits A e u) (block_fits A J b u) h in
        let ht = r (Test s (not sense) e) f (f + 1) in
        let hx = block_sound b J u (right_true (root_fits A e u) (block_fits A J b u) h) s E t.1 in
        let t_up : f + 1 ≤ t.1 = ht.up in
        let x_up : t.1 ≤ x.1 = hx.up in
        record {
          up = omega arith;
          run = close_one f _ (following t.0 _ ht.run (following x.0 _ hx.run (mark f [] (empty x.1)))) (λ k. omega arith);
          speaks = λ n a l m. both t.0 _ (ht.speaks n (a.places, root_names A n a.places e u he, (l, omega arith)) (omega arith) (omega arith))
              (both x.0 _ (hx.speaks n a (omega arith) m) (item (Label f) [] tt nothing));
        }
    command_sound (commands.While sense e b) J u h s E f =
        let t = roots (Test s (not sense) e) (f + 1) (f + 2) in
        let E1 = record E { broken = f + 1; looped = f } in
        let x = emit_block (λ i. i) roots b s E1 t.1 in
        let he = left_true (root_fits A e u) (block_fits A (in_a_loop J) b u) h in
        let ht = r (Test s (not sense) e) (f + 1) (f + 2) in
        let hx = block_sound b (in_a_loop J) u (right_true (root_fits A e u) (block_fits A (in_a_loop J) b u) h) s E1 t.1 in
        let t_up : f + 2 ≤ t.1 = ht.up in
        let x_up : t.1 ≤ x.1 = hx.up in
        record {
          up = omega arith;
          run = close_two f _ (mark f _ (following t.0 _ ht.run (following x.0 _ hx.run (alike (jump f ∷ Label (f + 1) ∷ []) _ (λ k. refl) (mark (f + 1) [] (empty x.1)))))) (λ k. omega arith);
          speaks = λ n a l m.
              let begin : In n f = (l, omega arith) in
              let end : In n (f + 1) = (omega arith, omega arith) in
              item (Label f) _ tt (both t.0 _ (ht.speaks n (a.places, root_names A n a.places e u he, end) (omega arith) (omega arith))
              (both x.0 _ (hx.speaks n (in_loop (f + 1) f end begin a) (omega arith) m) (item (jump f) _ begin (item (Label (f + 1)) [] tt nothing))));
        }
    command_sound (commands.Test e b c) J u h s E f =
        let t = roots (Test s false e) f (f + 2) in
        let x = emit_block (λ i. i) roots b s E t.1 in
        let y = emit_block (λ i. i) roots c s E x.1 in
        let fe = root_fits A e u in
        let fb = block_fits A J b u in
        let fc = block_fits A J c u in
        let front = left_true (fe && fb) fc h in
        let ht = r (Test s false e) f (f + 2) in
        let hx = block_sound b J u (right_true fe fb front) s E t.1 in
        let hy = block_sound c J u (right_true (fe && fb) fc h) s E x.1 in
        let t_up : f + 2 ≤ t.1 = ht.up in
        let x_up : t.1 ≤ x.1 = hx.up in
        let y_up : x.1 ≤ y.1 = hy.up in
        let last = y.0 ++ Label (f + 1) ∷ [] in
        record {
          up = omega arith;
          run = close_two f _ (following t.0 _ ht.run (following x.0 _ hx.run (alike (jump (f + 1) ∷ Label f ∷ last) (Label f ∷ last) (λ k. refl)
              (mark f last (following y.0 _ hy.run (mark (f + 1) [] (empty y.1))))))) (λ k. omega arith);
          speaks = λ n a l m.
              let begin : In n f = (l, omega arith) in
              let end : In n (f + 1) = (omega arith, omega arith) in
              both t.0 _ (ht.speaks n (a.places, root_names A n a.places e u (left_true fe fb front), begin) (omega arith) (omega arith))
              (both x.0 _ (hx.speaks n a (omega arith) (omega arith)) (item (jump (f + 1)) _ end (item (Label f) _ tt
              (both y.0 _ (hy.speaks n a (omega arith) m) (item (Label (f + 1)) [] tt nothing)))));
        }
    command_sound (commands.Repeat b) J u h s E f =
        let E1 = record E { broken = f + 1; looped = f } in
        let x = emit_block (λ i. i) roots b s E1 (f + 2) in
        let hx = block_sound b (in_a_loop J) u h s E1 (f + 2) in
        let x_up : f + 2 ≤ x.1 = hx.up in
        record {
          up = omega arith;
          run = close_two f _ (mark f _ (following x.0 _ hx.run (alike (jump f ∷ Label (f + 1) ∷ []) (Label (f + 1) ∷ []) (λ k. refl) (mark (f + 1) [] (empty x.1))))) (λ k. omega arith);
          speaks = λ n a l m.
              let begin : In n f = (l, omega arith) in
              let end : In n (f + 1) = (omega arith, omega arith) in
              item (Label f) _ tt (both x.0 _ (hx.speaks n (in_loop (f + 1) f end begin a) (omega arith) m) (item (jump f) _ begin (item (Label (f + 1)) [] tt nothing)));
        }
    command_sound (commands.RepeatWhile b sense e) J u h s E f =
        let E1 = record E { broken = f + 1; looped = f + 2 } in
        let x = emit_block (λ i. i) roots b s E1 (f + 3) in
        let t = roots (Test s sense e) f x.1 in
        let he = left_true (root_fits A e u) (block_fits A (in_a_loop J) b u) h in
        let hx = block_sound b (in_a_loop J) u (right_true (root_fits A e u) (block_fits A (in_a_loop J) b u) h) s E1 (f + 3) in
        let ht = r (Test s sense e) f x.1 in
        let x_up : f + 3 ≤ x.1 = hx.up in
        let t_up : x.1 ≤ t.1 = ht.up in
        record {
          up = omega arith;
          run = close_three f _ (mark f _ (following x.0 _ hx.run (mark (f + 2) _ (following t.0 _ ht.run (mark (f + 1) [] (empty t.1)))))) (λ k. omega arith);
          speaks = λ n a l m.
              let begin : In n f = (l, omega arith) in
              let end : In n (f + 1) = (omega arith, omega arith) in
              let next : In n (f + 2) = (omega arith, omega arith) in
              item (Label f) _ tt (both x.0 _ (hx.speaks n (in_loop (f + 1) (f + 2) end next a) (omega arith) (omega arith)) (item (Label (f + 2)) _ tt
              (both t.0 _ (ht.speaks n (a.places, root_names A n a.places e u he, begin) (omega arith) m) (item (Label (f + 1)) [] tt nothing))));
        }
    command_sound (commands.For start limit by b) J u h s E f =
        let s1 = level_in_for s in
        let u1 = level_in_for u in
        let E1 = record E { broken = f + 1; looped = f + 2 } in
        let i = roots (Assign s1 start (Frame s)) 0 (f + 3) in
        let j = roots (Assign s1 limit (Frame (s + 1))) 0 i.1 in
        let t = roots (Test s1 true (end_of_for by s)) (f + 1) j.1 in
        let x = emit_block (λ i. i) roots b s1 E1 t.1 in
        let w = roots (Assign s1 (step_of_for by s) (Frame s)) 0 x.1 in
        let fs = assignment_fits A start (Frame u) u1 in
        let fl = assignment_fits A limit (Frame (u + 1)) u1 in
        let fb = block_fits A (in_a_loop J) b u1 in
        let front = left_true (fs && fl) fb h in
        let hi = r (Assign s1 start (Frame s)) 0 (f + 3) in
        let hj = r (Assign s1 limit (Frame (s + 1))) 0 i.1 in
        let ht = r (Test s1 true (end_of_for by s)) (f + 1) j.1 in
        let hx = block_sound b (in_a_loop J) u1 (right_true (fs && fl) fb h) s1 E1 t.1 in
        let hw = r (Assign s1 (step_of_for by s) (Frame s)) 0 x.1 in
        let i_up : f + 3 ≤ i.1 = hi.up in
        let j_up : i.1 ≤ j.1 = hj.up in
        let t_up : j.1 ≤ t.1 = ht.up in
        let x_up : t.1 ≤ x.1 = hx.up in
        let w_up : x.1 ≤ w.1 = hw.up in
        record {
          up = omega arith;
          run = close_three f _ (following i.0 _ hi.run (following j.0 _ hj.run (mark f _ (following t.0 _ ht.run (following x.0 _ hx.run (mark (f + 2) _ (following w.0 _ hw.run
              (alike (jump f ∷ Label (f + 1) ∷ []) (Label (f + 1) ∷ []) (λ k. refl) (mark (f + 1) [] (empty w.1)))))))))) (λ k. omega arith);
          speaks = λ n a l m.
              let begin : In n f = (l, omega arith) in
              let end : In n (f + 1) = (omega arith, omega arith) in
              let next : In n (f + 2) = (omega arith, omega arith) in
              both i.0 _ (hi.speaks n (a.places, ((sides_name A n a.places start (Frame u) u1 (left_true fs fl front)).0, tt), tt) (omega arith) (omega arith))
              (both j.0 _ (hj.speaks n (a.places, ((sides_name A n a.places limit (Frame (u + 1)) u1 (right_true fs fl front)).0, tt), tt) (omega arith) (omega arith))
              (item (Label f) _ tt (both t.0 _ (ht.speaks n (a.places, (tt, tt), end) (omega arith) (omega arith))
              (both x.0 _ (hx.speaks n (in_loop (f + 1) (f + 2) end next a) (omega arith) (omega arith)) (item (Label (f + 2)) _ tt
              (both w.0 _ (hw.speaks n (a.places, ((tt, tt), tt), tt) (omega arith) m) (item (jump f) _ begin (item (Label (f + 1)) [] tt nothing))))))));
        }
    command_sound (commands.SwitchOn e is) J u h s E f =
        let g = f + 1 + entries_in is in
        let v = roots (Value s e) 0 g in
        let D = defaulted is (f + 1) f in
        let E1 = record E { cases = f; labels = labelled is v.1 E.labels } in
        let J1 = record J { in_cases = true } in
        let v1 = v.1 + labels_in is in
        let x = emit_items (λ i. i) roots is s E1 (f + 1) v1 in
        let fe = root_fits A e u in
        let fl = are_distinct (labels_of is) in
        let fi = items_fit A (in_list is J1) is u in
        let fd = entries_differ is in
        let before = left_true (fe && fl && fd) fi h in
        let front = left_true (fe && fl) fd before in
        let hv = r (Value s e) 0 g in
        let hx = items_sound is (in_list is J1) u (right_true (fe && fl && fd) fi h) s E1 (f + 1) v1 in
        let v_up : g ≤ v.1 = hv.up in
        let x_up : v1 ≤ x.1 = hx.up in
        let ol : ℕ → ℕ = λ k. owed_labels (labelled is v.1 E.labels) is k in
        let oc : ℕ → ℕ = λ k. owed_cases (f + 1) is k in
        let last = x.0 ++ Label f ∷ [] in
        let table = table_of (λ i. i) is (f + 1) in
        let tail = execute 23 ∷ Data (cases_in is) ∷ DataLabel D ∷ (table ++ last) in
        let all : Run (λ k. (ol k + oc k) + (at f k + 0)) v1 x.1 last = following x.0 _ hx.run (mark f [] (empty x.1)) in
        let cases : Run (λ k. oc k + at f k) v.1 x.1 last =
        close_list v.1 (labels_in is) ol (λ k. oc k + at f k) last all (labels_fresh is v.1 E.labels (labelled is v.1 E.labels) (right_true fe fl front) (λ l i. refl)) (λ k. omega arith) in
        let whole = following v.0 tail hv.run (alike tail last (λ k. after_table is (f + 1) last k) cases) in
        record {
          up = omega arith;
          run = close_one f _ (close_list (f + 1) (entries_in is) oc (λ k. at f k) _ whole
              (λ k. cases_fresh is (f + 1) k) (λ k. omega arith)) (λ k. refl);
          speaks = λ n a l m.
              let begin : In n f = (l, omega arith) in
              let within = defaulted_within is (f + 1) f (omega arith) in
              let room : g ≤ n = omega arith in
              both v.0 _ (hv.speaks n (a.places, root_names A n a.places e u (left_true fe fl front), tt) (omega arith) (omega arith))
              (item (execute 23) _ tt (item (Data (cases_in is)) _ tt (item (DataLabel D) _ (between f g D n l room within)
              (both table _ (table_speaks is (f + 1) (omega arith) room)
              (both x.0 _ (hx.speaks n (in_a_switch is f v.1 begin (omega arith) (omega arith) a) (omega arith) m) (item (Label f) [] tt nothing))))));
        }
    command_sound commands.Break J u h s E f = only f (jump E.broken ∷ []) (λ k. refl) (λ n a. item (jump E.broken) [] (a.broken h) nothing)
    command_sound commands.Loop J u h s E f = only f (jump E.looped ∷ []) (λ k. refl) (λ n a. item (jump E.looped) [] (a.looped h) nothing)
    command_sound commands.EndCase J u h s E f = only f (jump E.cases ∷ []) (λ k. refl) (λ n a. item (jump E.cases) [] (a.cases h) nothing)
    command_sound commands.Return J u h s E f = only f (zero_item ∷ execute 4 ∷ []) (λ k. refl) (λ n a. item zero_item _ tt (item (execute 4) [] tt nothing))
    command_sound (commands.ResultIs e) J u h s E f =
        let v = roots (Value s e) 0 f in
        let he = right_true J.in_valof (root_fits A e u) h in
        joined v (jump E.result ∷ [], v.1) (weaker v (λ n a. (a.places, root_names A n a.places e u he, tt)) (r (Value s e) 0 f))
        (only v.1 (jump E.result ∷ []) (λ k. refl) (λ n a. item (jump E.result) [] (a.result (left_true J.in_valof (root_fits A e u) h)) nothing))
    command_sound commands.Finish J u h s E f = only f (execute 22 ∷ []) (λ k. refl) (λ n a. item (execute 22) [] tt nothing)
    command_sound (commands.Goto l) J u h s E f = only f (jump (E.labels l) ∷ []) (λ k. refl) (λ n a. item (jump (E.labels l)) [] (a.labels l h) nothing)
    command_sound (commands.Nested b) J u h s E f = block_sound b J u h s E f

    pub block_sound : (b : Block) (J : Jumps) (u : ℕ) → block_fits A J b u ≡ true → (s : ℕ) (E : Exits) (f : ℕ) → Sound (Allowed A J E) none f (emit_block (λ i. i) roots b s E f)
    block_sound (block ds is) J u h s E f =
        let m = f + labels_in is in
        let D = emit_declarations roots ds s m in
        let E1 = record E { labels = labelled is f E.labels } in
        let x = emit_items (λ i. i) roots is (s + cells_declared ds) E1 0 D.1 in
        let u1 = u + cells_declared ds in
        let fd = declarations_fit A ds u in
        let fe = not (has_entries is) in
        let fl = are_distinct (labels_of is) in
        let fi = items_fit A (in_list is J) is u1 in
        let front = left_true (fd && fe && fl) fi h in
        let begin = left_true (fd && fe) fl front in
        let hd = declarations_sound ds u (left_true fd fe begin) s m in
        let hx = items_sound is (in_list is J) u1 (right_true (fd && fe && fl) fi h) (s + cells_declared ds) E1 0 D.1 in
        let d_up : m ≤ D.1 = hd.up in
        let x_up : D.1 ≤ x.1 = hx.up in
        let none_here = no_cases is 0 (not_true (has_entries is) (right_true fd fe begin)) in
        record {
          up = omega arith;
          run = close_list f (labels_in is) (λ k. owed_labels (labelled is f E.labels) is k) none _ (following D.0 x.0 hd.run hx.run)
              (labels_fresh is f E.labels (labelled is f E.labels) (right_true (fd && fe) fl front) (λ l i. refl)) (λ k. let c = none_here k in omega arith);
          speaks = λ n a l q. both D.0 x.0 (hd.speaks n a.places (omega arith) (omega arith)) (hx.speaks n (in_a_list is f l (omega arith) a) (omega arith) q);
        }

    items_sound : (is : Items) (J : Jumps) (u : ℕ) → items_fit A J is u ≡ true → (s : ℕ) (E : Exits) (first f : ℕ)
        → Sound (Allowed A J E) (λ k. owed_labels E.labels is k + owed_cases first is k) f (emit_items (λ i. i) roots is s E first f)
    items_sound no_item J u h s E first f = record { up = omega arith; run = same_owed _ [] (empty f) (λ k. refl); speaks = λ n a l m. nothing }
    items_sound (command c is) J u h s E first f =
        let x = emit (λ i. i) roots c s E f in
        let y = emit_items (λ i. i) roots is s E first x.1 in
        let fc = command_fits A J c u in
        let fi = items_fit A J is u in
        joined x y (command_sound c J u (left_true fc fi h) s E f) (items_sound is J u (right_true fc fi h) s E first x.1)
    items_sound (case v is) J u h s E first f =
        let x = emit_items (λ i. i) roots is s E (first + 1) f in
        let hx = items_sound is J u h s E (first + 1) f in
        record { up = hx.up; run = same_owed _ _ (mark first x.0 hx.run) (λ k. omega arith); speaks = λ n a l m. item (Label first) x.0 tt (hx.speaks n a l m) }
    items_sound (default is) J u h s E first f =
        let x = emit_items (λ i. i) roots is s E (first + 1) f in
        let hx = items_sound is J u h s E (first + 1) f in
        record { up = hx.up; run = same_owed _ _ (mark first x.0 hx.run) (λ k. omega arith); speaks = λ n a l m. item (Label first) x.0 tt (hx.speaks n a l m) }
    items_sound (label v is) J u h s E first f =
        let x = emit_items (λ i. i) roots is s E first f in
        let hx = items_sound is J u h s E first f in
        record { up = hx.up; run = same_owed _ _ (mark (E.labels v) x.0 hx.run) (λ k. omega arith); speaks = λ n a l m. item (Label (E.labels v)) x.0 tt (hx.speaks n a l m) }
