-- The items of a section set the labels from 1 to the last one, each once.
use Rattle.std.proofs.Common.{◌≡◌, ◌∙◌, ℕ, ◌+◌, ◌≤◌, ◌<◌, ◌&&◌, ◌==◌, Bool, true, false, Option, Some, None, List, [], ◌∷◌, ◌++◌, length, refl, ap, arith}
use Rattle.std.specs.Prelude.{nat_le, map}
use Rattle.bc_text_items.specs.declared.item.Item.{Item}
use Rattle.bc_text_items.specs.declared.item.Item.TheVariants.{Label, Data, Byte, Global}
use Rattle.bc_core.specs.Tree.{Root, Value}
use Rattle.bc_core.specs.Commands.{Block, Body, Gives, Does, Place, Valof, Core}
use Rattle.bc_core.specs.Commands as commands
use Rattle.bc_core.specs.Level.{level_after_parameters}
use Rattle.bc_core.specs.Layout.{frame_size}
use Rattle.bc_core.specs.WellFormed.{Around, block_fits, jumps_in_routine, jumps_in_valof, body_fits, global_fits, place_fits, places_fit, valofs_fit, is_core}
use Rattle.bc_rules_defs.specs.declared.rule.Table.{Table}
use Rattle.bc_rules_defs.specs.declared.piece.Piece.{Piece}
use Rattle.bc_rules_defs.specs.declared.piece.Piece.TheVariants as pieces
use Rattle.bc_rules_defs.specs.Rules.{RootDerives}
use Rattle.bc_rules_defs.specs.Code.{root_code, root_labels}
use Rattle.bc_gen_defs.specs.Emit.{Code, Roots, execute, zero_item, emit_block}
use Rattle.bc_gen_defs.specs.Bodies.{BodiesCode, coding_of, fill, label_ahead, over, body_exits, emit_valof, bodies_from, emit_body, level_of}
use Rattle.bc_gen_defs.specs.Section.{emit_routines, data_items, setting, setting_items, routines_code, section_items}
use Rattle.bc_gen_laws.proofs.label_lemmas.Counts.{at, below, next_below, stands, stands_both, standing}
use Rattle.bc_gen_laws.proofs.label_lemmas.Derivations.{root_standing}
use Rattle.bc_gen_laws.proofs.label_lemmas.Fresh.{left_true, right_true}
use Rattle.bc_gen_laws.proofs.label_lemmas.Speaking.{In, Speaks, PiecesKnown, both, nothing, item}
use Rattle.bc_gen_laws.proofs.label_lemmas.Names.{root_speaks}
use Rattle.bc_gen_laws.proofs.label_lemmas.Runs.{none, following, mark, empty, close_list, same_owed, Sound, SoundRoots, Allowed, root_names}
use Rattle.bc_gen_laws.proofs.label_lemmas.Commands.{upto, less, joined, weaker, nothing_there, only, block_sound}

-- bodies that jump only to their end
abbrev SoundBodies : ℕ → BodiesCode Item → Type 0
SoundBodies places bodies = (m s l f : ℕ) → Sound (λ n. (places < n) × In n l) none f (bodies m s l f)

put_in_front : (n a y b0 b1 d : ℕ) → n ≡ a + y → y + b0 ≡ b1 + d → n + b0 ≡ b1 + (a + d)
put_in_front n a y b0 b1 d e h = omega arith

no_jump : {X : Type 0} → false ≡ true → X
no_jump h = absurd (cc)

module _ (places : ℕ) (levels : ℕ → ℕ) (bodies : BodiesCode Item) (b : SoundBodies places bodies) where
  abbrev filled : List Piece → ℕ → Code Item
  filled ps f = let x = fill (λ i. i) levels bodies ps f in (x.0, x.1)

  fill_sound : (ps : List Piece) (f : ℕ) → Sound (λ n. (places < n) × PiecesKnown n ps) (λ k. standing k ps) f (filled ps f)
  fill_sound [] f = record { up = omega arith; run = same_owed _ [] (empty f) (λ k. refl); speaks = λ n q l u. nothing }
  fill_sound (pieces.Item i ∷ ps) f =
      let x = filled ps f in
      let h = fill_sound ps f in
      record {
        up = h.up;
        run = record { each = λ k. put_in_front _ (stands k (i ∷ [])) (stands k x.0) (below k f) (below k x.1) (standing k ps) (stands_both k (i ∷ []) x.0) (h.run.each k) };
        speaks = λ n q l u. item i x.0 q.1.0 (h.speaks n (q.0, q.1.1) l u);
      }
  fill_sound (pieces.Body m ∷ ps) f =
      let c = bodies m (levels m) (label_ahead ps) f in
      let x = filled ps c.1 in
      let hc = b m (levels m) (label_ahead ps) f in
      let h = fill_sound ps c.1 in
      record {
        up = upto f c.1 x.1 hc.up h.up;
        run = same_owed _ (c.0 ++ x.0) (following c.0 x.0 hc.run h.run) (λ k. omega arith);
        speaks = λ n q l u. both c.0 x.0 (hc.speaks n (q.0, q.1.0) l (upto c.1 x.1 n h.up u)) (h.speaks n (q.0, q.1.1) (upto 1 f c.1 l hc.up) u);
      }

  roots_sound : {T : Table} (choice : (r : Root) → RootDerives T r) → SoundRoots places (over (coding_of choice) levels bodies)
  roots_sound choice r t f =
      let m = root_labels (choice r) in
      let ps = root_code (choice r) t f in
      let x = filled ps (f + m) in
      let h = fill_sound ps (f + m) in
      record {
        up = less f m x.1 h.up;
        run = close_list f m (λ k. standing k ps) none x.0 h.run (root_standing (choice r) t f) (λ k. omega arith);
        speaks = λ n q l u. h.speaks n (q.0, (root_speaks n (choice r) t f q.1 q.2 l (upto (f + m) x.1 n h.up u)).all) (less 1 m (f + m) (omega arith)) u;
      }

either_sound : {Q : ℕ → Type 0} {f : ℕ} (t : Bool) (x y : Code Item) → Sound Q none f x → Sound Q none f y → Sound Q none f (elim t as (λ v. Code Item) [ true ↦ x | false ↦ y ])
either_sound true x y h k = h
either_sound false x y h k = k

module _ {T : Table} (choice : (r : Root) → RootDerives T r) (levels : ℕ → ℕ) where
  abbrev bodies : ℕ → List Valof → BodiesCode Item
  bodies first vs = bodies_from (λ i. i) (over (coding_of choice) levels) first vs

  bodies_sound : (A : Around) (first : ℕ) (vs : List Valof) → valofs_fit A vs ≡ true → SoundBodies A.places (bodies first vs)
  bodies_sound A first [] h m s l f = nothing_there f
  bodies_sound A first (v ∷ vs) h m s l f =
      let A1 = record A { first = A.first + 1 } in
      let inner = bodies (first + 1) vs in
      let fb = block_fits A1 jumps_in_valof v.body v.level in
      let fv = valofs_fit A1 vs in
      let rest = bodies_sound A1 (first + 1) vs (right_true fb fv h) in
      let roots = over (coding_of choice) levels inner in
      let x = emit_block (λ i. i) roots v.body s (body_exits l) f in
      let hx = block_sound A1 roots (roots_sound A.places levels inner rest choice) v.body jumps_in_valof v.level (left_true fb fv h) s (body_exits l) f in
      let allowed : (n : ℕ) → (A.places < n) × In n l → Allowed A1 jumps_in_valof (body_exits l) n =
      λ n q. record { places = q.0; broken = λ i. no_jump i; looped = λ i. no_jump i; cases = λ i. no_jump i; result = λ i. q.1; labels = λ k i. no_jump i } in
      either_sound (m == first) (emit_valof (λ i. i) roots v.body m s l f) (inner m s l f)
      (joined x (zero_item ∷ [], x.1) (weaker x allowed hx) (only x.1 (zero_item ∷ []) (λ k. refl) (λ n q. item zero_item [] tt nothing))) (rest m s l f)

-- the labels of the routines' places, where j places come before these
abbrev routine_labels : (j : ℕ) → List Place → ℕ → ℕ
routine_labels j [] k = 0
routine_labels j (commands.Code r ∷ ps) k = at (j + 1) k + routine_labels (j + 1) ps k
routine_labels j (commands.Static w ∷ ps) k = routine_labels (j + 1) ps k
routine_labels j (commands.Table ws ∷ ps) k = routine_labels (j + 1) ps k
routine_labels j (commands.Text bytes ∷ ps) k = routine_labels (j + 1) ps k

module _ (A : Around) (roots : Roots Item) (r : SoundRoots A.places roots) where
  body_sound : (b : Body) (u : ℕ) → body_fits A b u ≡ true → (s f : ℕ) → Sound (λ n. A.places < n) none f (emit_body (λ i. i) roots b s f)
  body_sound (Gives e) u h s f =
      let v = roots (Value s e) 0 f in
      joined v (execute 4 ∷ [], v.1) (weaker v (λ n p. (p, root_names A n p e u h, tt)) (r (Value s e) 0 f))
      (only v.1 (execute 4 ∷ []) (λ k. refl) (λ n p. item (execute 4) [] tt nothing))
  body_sound (Does b) u h s f =
      let x = emit_block (λ i. i) roots b s (body_exits 0) f in
      let allowed : (n : ℕ) → A.places < n → Allowed A jumps_in_routine (body_exits 0) n =
      λ n p. record { places = p; broken = λ i. no_jump i; looped = λ i. no_jump i; cases = λ i. no_jump i; result = λ i. no_jump i; labels = λ k i. no_jump i } in
      joined x (zero_item ∷ execute 4 ∷ [], x.1) (weaker x allowed (block_sound A roots r b jumps_in_routine u h s (body_exits 0) f))
      (only x.1 (zero_item ∷ execute 4 ∷ []) (λ k. refl) (λ n p. item zero_item _ tt (item (execute 4) [] tt nothing)))

  routines_sound : (valofs : List Valof) (ps : List Place) → places_fit A valofs ps ≡ true → (j f : ℕ) → Sound (λ n. A.places < n) (λ k. routine_labels j ps k) f (emit_routines (λ i. i) roots j ps f)
  routines_sound valofs [] h j f = record { up = omega arith; run = same_owed _ [] (empty f) (λ k. refl); speaks = λ n q l u. nothing }
  routines_sound valofs (commands.Code p ∷ ps) h j f =
      let s = level_after_parameters p.parameters in
      let fp = place_fits A valofs (commands.Code p) in
      let fs = places_fit A valofs ps in
      let front = global_fits p.global && nat_le (frame_size valofs p) 32768 in
      let x = emit_body (λ i. i) roots p.body s f in
      let y = emit_routines (λ i. i) roots (j + 1) ps x.1 in
      let hx = body_sound p.body s (right_true front (body_fits A p.body s) (left_true fp fs h)) s f in
      let all = joined x y hx (routines_sound valofs ps (right_true fp fs h) (j + 1) x.1) in
      record { up = all.up; run = mark (j + 1) (x.0 ++ y.0) all.run; speaks = λ n q l u. item (Label (j + 1)) _ tt (all.speaks n q l u) }
  routines_sound valofs (commands.Static w ∷ ps) h j f = routines_sound valofs ps h (j + 1) f
  routines_sound valofs (commands.Table ws ∷ ps) h j f = routines_sound valofs ps h (j + 1) f
  routines_sound valofs (commands.Text bytes ∷ ps) h j f =
      routines_sound valofs ps (right_true (nat_le (length bytes) 255) (places_fit A valofs ps) h) (j + 1) f

words_plain : (k : ℕ) (ws : List ℕ) (xs : List Item) → stands k (map Data ws ++ xs) ≡ stands k xs
words_plain k [] xs = refl
words_plain k (w ∷ ws) xs = words_plain k ws xs

bytes_plain : (k : ℕ) (ws : List ℕ) (xs : List Item) → stands k (map Byte ws ++ xs) ≡ stands k xs
bytes_plain k [] xs = refl
bytes_plain k (w ∷ ws) xs = bytes_plain k ws xs

words_silent : {n : ℕ} (ws : List ℕ) (xs : List Item) → Speaks n xs → Speaks n (map Data ws ++ xs)
words_silent [] xs h = h
words_silent (w ∷ ws) xs h = item (Data w) _ tt (words_silent ws xs h)

bytes_silent : {n : ℕ} (ws : List ℕ) (xs : List Item) → Speaks n xs → Speaks n (map Byte ws ++ xs)
bytes_silent [] xs h = h
bytes_silent (w ∷ ws) xs h = item (Byte w) _ tt (bytes_silent ws xs h)

data_silent : {n : ℕ} (j : ℕ) (ps : List Place) → Speaks n (data_items j ps)
data_silent j [] = nothing
data_silent j (commands.Code r ∷ ps) = data_silent (j + 1) ps
data_silent j (commands.Static w ∷ ps) = item (Label (j + 1)) _ tt (item (Data w) _ tt (data_silent (j + 1) ps))
data_silent j (commands.Table ws ∷ ps) = item (Label (j + 1)) _ tt (words_silent ws _ (data_silent (j + 1) ps))
data_silent j (commands.Text bytes ∷ ps) = item (Label (j + 1)) _ tt (item (Byte (length bytes)) _ tt (bytes_silent bytes _ (data_silent (j + 1) ps)))

routine_next : (a c d b0 b1 b2 b3 : ℕ) → c + d + b1 ≡ b2 → b1 ≡ b0 + a → b2 ≡ b3 → a + c + d + b0 ≡ b3
routine_next a c d b0 b1 b2 b3 h i j = omega arith

data_next : (a c d e b0 b1 b2 b3 : ℕ) → c + d + b1 ≡ b2 → e ≡ a + d → b1 ≡ b0 + a → b2 ≡ b3 → c + e + b0 ≡ b3
data_next a c d e b0 b1 b2 b3 h i j l = omega arith

no_place : (b c : ℕ) → b ≡ c → 0 + 0 + b ≡ c
no_place b c h = omega arith

-- the label of each place is set, before its routine or before its data
places_stand : (ps : List Place) (j k : ℕ) → routine_labels j ps k + stands k (data_items j ps) + below k (j + 1) ≡ below k (j + 1 + length ps)
places_stand [] j k = no_place (below k (j + 1)) _ (ap (below k) (omega arith))
places_stand (commands.Code r ∷ ps) j k =
    routine_next (at (j + 1) k) (routine_labels (j + 1) ps k) (stands k (data_items (j + 1) ps)) (below k (j + 1)) (below k (j + 1 + 1)) (below k (j + 1 + 1 + length ps)) _
    (places_stand ps (j + 1) k) (next_below k (j + 1)) (ap (below k) (omega arith))
places_stand (commands.Static w ∷ ps) j k =
    data_next (at (j + 1) k) (routine_labels (j + 1) ps k) (stands k (data_items (j + 1) ps)) _ (below k (j + 1)) (below k (j + 1 + 1)) (below k (j + 1 + 1 + length ps)) _
    (places_stand ps (j + 1) k) refl (next_below k (j + 1)) (ap (below k) (omega arith))
places_stand (commands.Table ws ∷ ps) j k =
    data_next (at (j + 1) k) (routine_labels (j + 1) ps k) (stands k (data_items (j + 1) ps)) _ (below k (j + 1)) (below k (j + 1 + 1)) (below k (j + 1 + 1 + length ps)) _
    (places_stand ps (j + 1) k) (ap (λ m. at (j + 1) k + m) (words_plain k ws (data_items (j + 1) ps))) (next_below k (j + 1)) (ap (below k) (omega arith))
places_stand (commands.Text bytes ∷ ps) j k =
    data_next (at (j + 1) k) (routine_labels (j + 1) ps k) (stands k (data_items (j + 1) ps)) _ (below k (j + 1)) (below k (j + 1 + 1)) (below k (j + 1 + 1 + length ps)) _
    (places_stand ps (j + 1) k) (ap (λ m. at (j + 1) k + m) (bytes_plain k bytes (data_items (j + 1) ps))) (next_below k (j + 1)) (ap (below k) (omega arith))

setting_plain : (k : ℕ) (g : Option ℕ) (l : ℕ) (xs : List Item) → stands k (setting g l ++ xs) ≡ stands k xs
setting_plain k None l xs = refl
setting_plain k (Some m) l xs = refl

settings_plain : (k j : ℕ) (ps : List Place) → stands k (setting_items j ps) ≡ 0
settings_plain k j [] = refl
settings_plain k j (commands.Code r ∷ ps) = setting_plain k r.global (j + 1) (setting_items (j + 1) ps) ∙ settings_plain k (j + 1) ps
settings_plain k j (commands.Static w ∷ ps) = settings_plain k (j + 1) ps
settings_plain k j (commands.Table ws ∷ ps) = settings_plain k (j + 1) ps
settings_plain k j (commands.Text bytes ∷ ps) = settings_plain k (j + 1) ps

setting_speaks : {n : ℕ} (g : Option ℕ) (l : ℕ) (xs : List Item) → In n l → Speaks n xs → Speaks n (setting g l ++ xs)
setting_speaks None l xs h i = i
setting_speaks (Some m) l xs h i = item (Global m l) xs h i

settings_speak : {n : ℕ} (j : ℕ) (ps : List Place) → j + length ps < n → Speaks n (setting_items j ps)
settings_speak j [] h = nothing
settings_speak j (commands.Code r ∷ ps) h = setting_speaks r.global (j + 1) _ (omega arith, omega arith) (settings_speak (j + 1) ps (omega arith))
settings_speak j (commands.Static w ∷ ps) h = settings_speak (j + 1) ps (omega arith)
settings_speak j (commands.Table ws ∷ ps) h = settings_speak (j + 1) ps (omega arith)
settings_speak j (commands.Text bytes ∷ ps) h = settings_speak (j + 1) ps (omega arith)

-- the items set the labels from 1 to g - 1, each once, and use no others
pub record Labelled (g : ℕ) (is : List Item) : Type 0 where
  pub once : (k : ℕ) → stands k is + below k 1 ≡ below k g
  pub speaks : Speaks g is

altogether : (n x y z w c b0 b1 b2 : ℕ) → n ≡ x + w → w ≡ y + z → z ≡ 0 → x + b1 ≡ b2 + c → c + y + b0 ≡ b1 → n + b0 ≡ b2
altogether n x y z w c b0 b1 b2 h i e j k = omega arith

pub section_labelled : {T : Table} (choice : (r : Root) → RootDerives T r) (core : Core) → is_core core ≡ true
    → Labelled (routines_code (coding_of choice) core).1 (section_items (coding_of choice) core)
section_labelled choice core h =
    let m = length core.places in
    let A : Around = record { places = m; first = 0; levels = map (λ (v : Valof). v.level) core.valofs } in
    let levels = level_of core.valofs in
    let fp = places_fit A core.valofs core.places in
    let fv = valofs_fit A core.valofs in
    let inner = bodies_from (λ i. i) (over (coding_of choice) levels) 0 core.valofs in
    let roots = over (coding_of choice) levels inner in
    let r = roots_sound m levels inner (bodies_sound choice levels A 0 core.valofs (right_true fp fv h)) choice in
    let x = emit_routines (λ i. i) roots 0 core.places (m + 1) in
    let hx = routines_sound A roots r core.valofs core.places (left_true fp fv h) 0 (m + 1) in
    let up : m + 1 ≤ x.1 = hx.up in
    let ds = data_items 0 core.places in
    let ss = setting_items 0 core.places in
    record {
      once = λ k. altogether _ (stands k x.0) (stands k ds) (stands k ss) (stands k (ds ++ ss)) (routine_labels 0 core.places k) (below k 1) (below k (m + 1)) (below k x.1)
          (stands_both k x.0 (ds ++ ss)) (stands_both k ds ss) (settings_plain k 0 core.places) (hx.run.each k) (places_stand core.places 0 k ∙ ap (below k) (omega arith));
      speaks = both x.0 _ (hx.speaks x.1 (omega arith) (omega arith) (omega arith)) (both ds ss (data_silent 0 core.places) (settings_speak 0 core.places (omega arith)));
    }
