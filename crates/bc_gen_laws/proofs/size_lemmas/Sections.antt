-- The words of bodies, of data and of sections.
use Rattle.std.proofs.Common.{◌≡◌, ℕ, ◌+◌, ◌/◌, ◌==◌, Bool, true, false, List, [], ◌∷◌, ◌++◌, map, length, Option, Some, None, refl, ap, arith, append_assoc, append-nil}
use Rattle.bc_text_items.specs.declared.item.Item.{Item}
use Rattle.bc_text_items.specs.declared.item.Item.TheVariants.{Label, Data, DataLabel, Byte, Operation, Global}
use Rattle.bc_text_items.specs.declared.item.Base.TheVariants as bases
use Rattle.bc_text_items.specs.declared.item.Function.TheVariants as functions
use Rattle.bc_text_items.specs.Sizes.{size_of_all}
use Rattle.bc_text_items.specs.Laws.{BeginsWithNoByte}
use Rattle.bc_core.specs.Tree.{Value}
use Rattle.bc_core.specs.Commands.{Body, Gives, Does, Place, Valof}
use Rattle.bc_core.specs.Commands as commands
use Rattle.bc_core.specs.Level.{level_after_parameters}
use Rattle.bc_rules_defs.specs.declared.rule.Table.{Table}
use Rattle.bc_rules_defs.specs.Code.{root_cost, root_labels}
use Rattle.bc_gen_defs.specs.Emit.{Code, Roots}
use Rattle.bc_gen_defs.specs.Bodies.{Choice, BodiesCode, coding_of, over, body_exits, emit_valof, bodies_from, emit_body, level_of}
use Rattle.bc_gen_defs.specs.Section.{emit_routines, data_items, setting, setting_items}
use Rattle.bc_gen_defs.specs.Size.{Words, words_of_block, with_bodies, words_of_bodies, words_of_body, words_of_places}
use Rattle.bc_gen_laws.specs.sizes.Sizes.{SectionsHaveTheirSize}
use Rattle.bc_gen_laws.proofs.size_lemmas.Takes.{Takes, takes_none, takes_both, takes_as, takes_operation, takes_label, takes_data, takes_setting}
use Rattle.bc_gen_laws.proofs.size_lemmas.Fills.{root_takes}
use Rattle.bc_gen_laws.proofs.size_lemmas.Commands.{RootsTake, block_takes}

abbrev own : {T : Table} → Choice T → Words
own choice r = root_cost (choice r)

-- bodies that take these words
record BodiesTake (levels : ℕ → ℕ) (bodies : BodiesCode Item) (words : ℕ → ℕ) : Type 0 where
  each : (n l f : ℕ) → Takes (bodies n (levels n) l f).0 (words n)

roots_take : {T : Table} (choice : Choice T) (levels : ℕ → ℕ) (bodies : BodiesCode Item) (words : ℕ → ℕ) → BodiesTake levels bodies words → RootsTake (with_bodies (own choice) words) (over (coding_of choice) levels bodies)
roots_take choice levels bodies words h = record {
  each = λ r t f. root_takes (record { levels = levels; bodies = bodies; words = words; take = λ n l g. h.each n l g }) (choice r) t f (f + root_labels (choice r));
}

either : (b : Bool) (x y : Code Item) (m n : ℕ) → Takes x.0 m → Takes y.0 n
    → Takes (let z : Code Item = elim b [ true ↦ x | false ↦ y ] in z.0) (let k : ℕ = elim b [ true ↦ m | false ↦ n ] in k)
either true x y m n h i = h
either false x y m n h i = i

bodies_take : {T : Table} (choice : Choice T) (levels : ℕ → ℕ) (first : ℕ) (vs : List Valof)
    → BodiesTake levels (bodies_from (λ i. i) (over (coding_of choice) levels) first vs) (words_of_bodies (own choice) levels first vs)
bodies_take choice levels first [] = record { each = λ n l f. takes_none }
bodies_take choice levels first (v ∷ vs) =
    let inner = bodies_from (λ i. i) (over (coding_of choice) levels) (first + 1) vs in
    let words = words_of_bodies (own choice) levels (first + 1) vs in
    let h = bodies_take choice levels (first + 1) vs in
    record {
      each = λ n l f.
          either (n == first) (emit_valof (λ i. i) (over (coding_of choice) levels inner) v.body n (levels n) l f) (inner n (levels n) l f)
          (words_of_block (with_bodies (own choice) words) v.body (levels n) + 1) (words n)
          (takes_both (block_takes (with_bodies (own choice) words) (over (coding_of choice) levels inner) (roots_take choice levels inner words h) v.body (levels n) (body_exits l) f) (takes_operation functions.Load false bases.Number 0 takes_none))
          (h.each n l f);
    }

body_takes : (words : Words) (roots : Roots Item) → RootsTake words roots → (b : Body) (s f : ℕ) → Takes (emit_body (λ i. i) roots b s f).0 (words_of_body words b s)
body_takes words roots r (Gives e) s f = takes_both (r.each (Value s e) 0 f) (takes_operation functions.Execute false bases.Number 4 takes_none)
body_takes words roots r (Does b) s f = takes_both (block_takes words roots r b s (body_exits 0) f) (takes_operation functions.Load false bases.Number 0 (takes_operation functions.Execute false bases.Number 4 takes_none))

-- the words of routines, and those of data
abbrev words_of_code : Words → List Place → ℕ
words_of_code words [] = 0
words_of_code words (commands.Code r ∷ ps) = words_of_body words r.body (level_after_parameters r.parameters) + words_of_code words ps
words_of_code words (commands.Static w ∷ ps) = words_of_code words ps
words_of_code words (commands.Table ws ∷ ps) = words_of_code words ps
words_of_code words (commands.Text bytes ∷ ps) = words_of_code words ps

abbrev words_of_data : List Place → ℕ
words_of_data [] = 0
words_of_data (commands.Code r ∷ ps) = words_of_data ps
words_of_data (commands.Static w ∷ ps) = 1 + words_of_data ps
words_of_data (commands.Table ws ∷ ps) = length ws + words_of_data ps
words_of_data (commands.Text bytes ∷ ps) = (length bytes + 2) / 2 + words_of_data ps

all_words : (words : Words) (ps : List Place) → words_of_code words ps + words_of_data ps ≡ words_of_places words ps
all_words words [] = refl
all_words words (commands.Code r ∷ ps) = let h = all_words words ps in omega (arith, h)
all_words words (commands.Static w ∷ ps) = let h = all_words words ps in omega (arith, h)
all_words words (commands.Table ws ∷ ps) = let h = all_words words ps in omega (arith, h)
all_words words (commands.Text bytes ∷ ps) = let h = all_words words ps in let d = (length bytes + 2) / 2 in omega (arith, h)

routines_take : (words : Words) (roots : Roots Item) → RootsTake words roots → (j : ℕ) (ps : List Place) (f : ℕ) → Takes (emit_routines (λ i. i) roots j ps f).0 (words_of_code words ps)
routines_take words roots r j [] f = takes_none
routines_take words roots r j (commands.Code p ∷ ps) f =
    let x = emit_body (λ i. i) roots p.body (level_after_parameters p.parameters) f in
    takes_label (j + 1) (takes_both (body_takes words roots r p.body (level_after_parameters p.parameters) f) (routines_take words roots r (j + 1) ps x.1))
routines_take words roots r j (commands.Static w ∷ ps) f = routines_take words roots r (j + 1) ps f
routines_take words roots r j (commands.Table ws ∷ ps) f = routines_take words roots r (j + 1) ps f
routines_take words roots r j (commands.Text bytes ∷ ps) f = routines_take words roots r (j + 1) ps f

-- ---- Data

words_take : (ws : List ℕ) → Takes (map Data ws) (length ws)
words_take [] = takes_none
words_take (w ∷ ws) = takes_as (takes_data w (words_take ws)) (omega arith)

-- a single byte at the end
last_byte : (b : ℕ) (rest : List Item) → BeginsWithNoByte rest → size_of_all (Byte b ∷ rest) ≡ 1 + size_of_all rest
last_byte b [] h = refl
last_byte b (Byte c ∷ rest) h = absurd h
last_byte b (Label m ∷ rest) h = refl
last_byte b (Data n ∷ rest) h = refl
last_byte b (DataLabel m ∷ rest) h = refl
last_byte b (Operation f i k n ∷ rest) h = refl
last_byte b (Global n m ∷ rest) h = refl

bytes_size : (b : ℕ) (bytes : List ℕ) (rest : List Item) → BeginsWithNoByte rest → size_of_all (Byte b ∷ (map Byte bytes ++ rest)) ≡ (length bytes + 2) / 2 + size_of_all rest
bytes_size b [] rest h = last_byte b rest h
bytes_size b (c ∷ []) rest h = refl
bytes_size b (c ∷ d ∷ bytes) rest h =
    let i = bytes_size d bytes rest h in
    let e : (length (c ∷ d ∷ bytes) + 2) / 2 ≡ 1 + (length bytes + 2) / 2 = omega arith in
    omega (arith, i, e)

data_no_byte : (j : ℕ) (ps : List Place) (rest : List Item) → BeginsWithNoByte rest → BeginsWithNoByte (data_items j ps ++ rest)
data_no_byte j [] rest h = h
data_no_byte j (commands.Code r ∷ ps) rest h = data_no_byte (j + 1) ps rest h
data_no_byte j (commands.Static w ∷ ps) rest h = tt
data_no_byte j (commands.Table ws ∷ ps) rest h = tt
data_no_byte j (commands.Text bytes ∷ ps) rest h = tt

data_size : (j : ℕ) (ps : List Place) (rest : List Item) → BeginsWithNoByte rest → size_of_all (data_items j ps ++ rest) ≡ words_of_data ps + size_of_all rest
data_size j [] rest h = omega arith
data_size j (commands.Code r ∷ ps) rest h = data_size (j + 1) ps rest h
data_size j (commands.Static w ∷ ps) rest h = let i = data_size (j + 1) ps rest h in omega (arith, i)
data_size j (commands.Table ws ∷ ps) rest h =
    let i = data_size (j + 1) ps rest h in
    let k = (words_take ws).all (data_items (j + 1) ps ++ rest) in
    let e = ap size_of_all (append_assoc (map Data ws) (data_items (j + 1) ps) rest) in
    omega (arith, i, k, e)
data_size j (commands.Text bytes ∷ ps) rest h =
    let i = data_size (j + 1) ps rest h in
    let k = bytes_size (length bytes) bytes (data_items (j + 1) ps ++ rest) (data_no_byte (j + 1) ps rest h) in
    let e = ap (λ is. size_of_all (Byte (length bytes) ∷ is)) (append_assoc (map Byte bytes) (data_items (j + 1) ps) rest) in
    omega (arith, i, k, e)

setting_takes : (g : Option ℕ) (l : ℕ) → Takes (setting g l) 0
setting_takes None l = takes_none
setting_takes (Some n) l = takes_setting n l takes_none

settings_take : (j : ℕ) (ps : List Place) → Takes (setting_items j ps) 0
settings_take j [] = takes_none
settings_take j (commands.Code r ∷ ps) = takes_both (setting_takes r.global (j + 1)) (settings_take (j + 1) ps)
settings_take j (commands.Static w ∷ ps) = settings_take (j + 1) ps
settings_take j (commands.Table ws ∷ ps) = settings_take (j + 1) ps
settings_take j (commands.Text bytes ∷ ps) = settings_take (j + 1) ps

setting_no_byte : (g : Option ℕ) (l : ℕ) (rest : List Item) → BeginsWithNoByte rest → BeginsWithNoByte (setting g l ++ rest)
setting_no_byte None l rest h = h
setting_no_byte (Some n) l rest h = tt

settings_no_byte : (j : ℕ) (ps : List Place) → BeginsWithNoByte (setting_items j ps)
settings_no_byte j [] = tt
settings_no_byte j (commands.Code r ∷ ps) = setting_no_byte r.global (j + 1) (setting_items (j + 1) ps) (settings_no_byte (j + 1) ps)
settings_no_byte j (commands.Static w ∷ ps) = settings_no_byte (j + 1) ps
settings_no_byte j (commands.Table ws ∷ ps) = settings_no_byte (j + 1) ps
settings_no_byte j (commands.Text bytes ∷ ps) = settings_no_byte (j + 1) ps

-- ---- Sections

pub sections_have_their_size : SectionsHaveTheirSize
sections_have_their_size T choice core =
    let levels = level_of core.valofs in
    let inner = bodies_from (λ i. i) (over (coding_of choice) levels) 0 core.valofs in
    let words = with_bodies (own choice) (words_of_bodies (own choice) levels 0 core.valofs) in
    let roots = over (coding_of choice) levels inner in
    let r = roots_take choice levels inner (words_of_bodies (own choice) levels 0 core.valofs) (bodies_take choice levels 0 core.valofs) in
    let datums = data_items 0 core.places in
    let settings = setting_items 0 core.places in
    let x = (routines_take words roots r 0 core.places (length core.places + 1)).all (datums ++ settings) in
    let y = data_size 0 core.places settings (settings_no_byte 0 core.places) in
    let z = (settings_take 0 core.places).all [] in
    let n = ap size_of_all (append-nil settings) in
    let k = all_words words core.places in
    omega (arith, x, y, z, n, k)
