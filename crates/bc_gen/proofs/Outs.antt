-- The next label after each part of a form is at most the one after the whole form.
use Rattle.std.proofs.Common.{ℕ, ◌+◌, ◌<◌, ◌≤◌, ◌≡◌, Bool, true, false, not, List, ◌∷◌, ◌++◌, map, drop, length, get_or, ap, sym, ◌∙◌, subst, refl, arith, Result, Ok, Err}
use Rattle.std.proofs.lemmas.List.{drop_more}
use Rattle.bc_core.specs.declared.command.ListItem.{ListItem}
use Rattle.bc_core.specs.declared.command.Declaration.{Declaration}
use Rattle.bc_core.specs.declared.command.Variable.{Variable}
use Rattle.bc_core.specs.declared.command.Valof as code
use Rattle.bc_core.specs.declared.command.Place.{Place}
use Rattle.bc_core.specs.declared.command.Place.TheVariants as places
use Rattle.bc_core.specs.declared.command.Routine.{Routine}
use Rattle.bc_core.specs.View.{items, items_before, variable, declarations, block_of, body_of, place_of}
use Rattle.bc_core.specs.Tree.{Exp, Frame, Root, Value, Test, Assign}
use Rattle.bc_core.specs.Commands as commands
use Rattle.bc_core.specs.Commands.{Block, block, Items, no_item}
use Rattle.bc_core.specs.Level.{cells_of, cells_of_all, cells_declared, level_after_parameters}
use Rattle.bc_core.specs.Command.{step_of_for}
use Rattle.bc_rules_defs.specs.declared.piece.Piece.{Piece}
use Rattle.bc_gen_defs.specs.Emit.{Code, Roots, Exits, labelled, labels_in, entries_in, emit_variable, emit_variables, emit_declarations, end_of_for, emit, emit_block, emit_items}
use Rattle.bc_gen_defs.specs.Bodies.{BodiesCode, body_exits, emit_body, fill, label_ahead, level_of}
use Rattle.bc_gen_defs.specs.Section.{emit_routines}
use Rattle.bc_gen_defs.specs.Entries.{Marked, Plain}
use Rattle.bc_gen.specs.declared.gen_error.GenError.{GenError}
use Rattle.bc_gen.specs.declared.gen_error.GenError.TheVariants as errors
use Rattle.std.specs.Prelude.{IsErrAnd, IfErr}
use Rattle.bc_gen.specs.declared.writer.Writer.{Writer}
use Rattle.bc_gen.specs.declared.context.Numbered.{Numbered}
use Rattle.bc_gen.specs.declared.context.Around.{Around}
use Rattle.bc_gen.specs.Chosen.{coding}
use Rattle.bc_gen.specs.Surroundings.{label_in, label_pairs, next_entry, exits_of, roots_in, roots_of, bodies_of, initial_of, one_piece, valofs_in}
use Rattle.bc_gen.specs.Writing.{RunsOut, Writes}
use Rattle.bc_gen.proofs.Labels.{labelled_is}
use Rattle.bc_gen.proofs.Bodies.{body_is}
use Rattle.bc_gen.proofs.Turns.{Filled, item_first, variable_emitted, piece_first}
use Rattle.bc_gen.proofs.Rises.{Rising, Growing, upto, less, out, variables_up, declarations_up, block_up, items_up, fill_up, marked_up, bodies_up, routines_up}

same : (n : ℕ) → n ≤ n
same n = omega arith

pub bodies_grow : (vs : List commands.Valof) (least : ℕ) → Growing (bodies_of vs least)
bodies_grow vs least = bodies_up coding (level_of vs) least (drop least vs)

pub rising : (a : Around) → Rising (roots_in a)
rising a = let vs = valofs_in a.valofs.now in marked_up coding (level_of vs) (bodies_of vs a.least) (bodies_grow vs a.least)

-- IF
pub if_taken : (roots : Roots Marked) → Rising roots → (sense : Bool) (e : Exp) (b : Block) (s : ℕ) (E : Exits) (f : ℕ) → f + 1 ≤ (emit Plain roots (commands.If sense e b) s E f).1
if_taken roots r sense e b s E f =
    let t = roots (Test s (not sense) e) f (f + 1) in
    upto (f + 1) t.1 _ (r.up (Test s (not sense) e) f (f + 1)) (block_up roots r b s E t.1)

pub if_tested : (roots : Roots Marked) → Rising roots → (sense : Bool) (e : Exp) (b : Block) (s : ℕ) (E : Exits) (f p n : ℕ) → p ≡ f → n ≡ f + 1
    → (roots (Test s (not sense) e) p n).1 ≤ (emit Plain roots (commands.If sense e b) s E f).1
if_tested roots r sense e b s E f p n h g = rw (h, g) (block_up roots r b s E (roots (Test s (not sense) e) f (f + 1)).1)

pub if_done : (roots : Roots Marked) (sense : Bool) (e : Exp) (b : Block) (s : ℕ) (E : Exits) (f p n m : ℕ) → p ≡ f → n ≡ f + 1 → m ≡ (roots (Test s (not sense) e) p n).1
    → (emit_block Plain roots b s E m).1 ≤ (emit Plain roots (commands.If sense e b) s E f).1
if_done roots sense e b s E f p n m h g k = rw (k, h, g) (same _)

-- TEST
pub test_taken : (roots : Roots Marked) → Rising roots → (e : Exp) (b c : Block) (s : ℕ) (E : Exits) (f : ℕ) → f + 2 ≤ (emit Plain roots (commands.Test e b c) s E f).1
test_taken roots r e b c s E f =
    let t = roots (Test s false e) f (f + 2) in
    let x = emit_block Plain roots b s E t.1 in
    upto (f + 2) t.1 _ (r.up (Test s false e) f (f + 2)) (upto t.1 x.1 _ (block_up roots r b s E t.1) (block_up roots r c s E x.1))

pub test_tested : (roots : Roots Marked) → Rising roots → (e : Exp) (b c : Block) (s : ℕ) (E : Exits) (f p n : ℕ) → p ≡ f → n ≡ f + 2
    → (roots (Test s false e) p n).1 ≤ (emit Plain roots (commands.Test e b c) s E f).1
test_tested roots r e b c s E f p n h g =
    let t = roots (Test s false e) f (f + 2) in
    let x = emit_block Plain roots b s E t.1 in
    rw (h, g) (upto t.1 x.1 _ (block_up roots r b s E t.1) (block_up roots r c s E x.1))

pub test_half : (roots : Roots Marked) → Rising roots → (e : Exp) (b c : Block) (s : ℕ) (E : Exits) (f p n m : ℕ) → p ≡ f → n ≡ f + 2 → m ≡ (roots (Test s false e) p n).1
    → (emit_block Plain roots b s E m).1 ≤ (emit Plain roots (commands.Test e b c) s E f).1
test_half roots r e b c s E f p n m h g k =
    rw (k, h, g) (block_up roots r c s E (emit_block Plain roots b s E (roots (Test s false e) f (f + 2)).1).1)

pub test_done : (roots : Roots Marked) (e : Exp) (b c : Block) (s : ℕ) (E : Exits) (f p n m o : ℕ) → p ≡ f → n ≡ f + 2 → m ≡ (roots (Test s false e) p n).1 → o ≡ (emit_block Plain roots b s E m).1
    → (emit_block Plain roots c s E o).1 ≤ (emit Plain roots (commands.Test e b c) s E f).1
test_done roots e b c s E f p n m o h g k j = rw (j, k, h, g) (same _)

-- WHILE
pub while_taken : (a : Around) (sense : Bool) (e : Exp) (b : Block) (s f : ℕ) → f + 2 ≤ (emit Plain (roots_in a) (commands.While sense e b) s (exits_of a) f).1
while_taken a sense e b s f =
    let r = rising a in
    let t = roots_in a (Test s (not sense) e) (f + 1) (f + 2) in
    upto (f + 2) t.1 _ (r.up (Test s (not sense) e) (f + 1) (f + 2)) (block_up (roots_in a) r b s (record (exits_of a) { broken = f + 1; looped = f }) t.1)

pub while_tested : (a : Around) (sense : Bool) (e : Exp) (b : Block) (s f p n : ℕ) → p ≡ f + 1 → n ≡ f + 2
    → (roots_in a (Test s (not sense) e) p n).1 ≤ (emit Plain (roots_in a) (commands.While sense e b) s (exits_of a) f).1
while_tested a sense e b s f p n h g =
    rw (h, g) (block_up (roots_in a) (rising a) b s (record (exits_of a) { broken = f + 1; looped = f }) (roots_in a (Test s (not sense) e) (f + 1) (f + 2)).1)

pub while_done : (a a1 : Around) (sense : Bool) (e : Exp) (b : Block) (s f p q n m : ℕ) → a1 ≡ record a { broken = p; looped = q } → q ≡ f → p ≡ f + 1 → n ≡ f + 2 → m ≡ (roots_in a (Test s (not sense) e) p n).1
    → (emit_block Plain (roots_in a1) b s (exits_of a1) m).1 ≤ (emit Plain (roots_in a) (commands.While sense e b) s (exits_of a) f).1
while_done a a1 sense e b s f p q n m l hq h g k = rw (l, k, hq, h, g) (same _)

-- REPEAT
pub repeat_taken : (a : Around) (b : Block) (s f : ℕ) → f + 2 ≤ (emit Plain (roots_in a) (commands.Repeat b) s (exits_of a) f).1
repeat_taken a b s f = block_up (roots_in a) (rising a) b s (record (exits_of a) { broken = f + 1; looped = f }) (f + 2)

pub repeat_done : (a a1 : Around) (b : Block) (s f p q n : ℕ) → a1 ≡ record a { broken = p; looped = q } → q ≡ f → p ≡ f + 1 → n ≡ f + 2
    → (emit_block Plain (roots_in a1) b s (exits_of a1) n).1 ≤ (emit Plain (roots_in a) (commands.Repeat b) s (exits_of a) f).1
repeat_done a a1 b s f p q n l hq h g = rw (l, hq, h, g) (same _)

-- REPEATWHILE
pub repeat_while_taken : (a : Around) (b : Block) (sense : Bool) (e : Exp) (s f : ℕ) → f + 3 ≤ (emit Plain (roots_in a) (commands.RepeatWhile b sense e) s (exits_of a) f).1
repeat_while_taken a b sense e s f =
    let E1 = record (exits_of a) { broken = f + 1; looped = f + 2 } in
    let x = emit_block Plain (roots_in a) b s E1 (f + 3) in
    upto (f + 3) x.1 _ (block_up (roots_in a) (rising a) b s E1 (f + 3)) ((rising a).up (Test s sense e) f x.1)

pub repeat_while_half : (a a1 : Around) (b : Block) (sense : Bool) (e : Exp) (s f p o n : ℕ) → a1 ≡ record a { broken = p; looped = o } → p ≡ f + 1 → o ≡ f + 2 → n ≡ f + 3
    → (emit_block Plain (roots_in a1) b s (exits_of a1) n).1 ≤ (emit Plain (roots_in a) (commands.RepeatWhile b sense e) s (exits_of a) f).1
repeat_while_half a a1 b sense e s f p o n l h g k =
    rw (l, h, g, k) ((rising a).up (Test s sense e) f (emit_block Plain (roots_in a) b s (record (exits_of a) { broken = f + 1; looped = f + 2 }) (f + 3)).1)

pub repeat_while_done : (a a1 : Around) (b : Block) (sense : Bool) (e : Exp) (s f q p o n m : ℕ) → a1 ≡ record a { broken = p; looped = o } → q ≡ f → p ≡ f + 1 → o ≡ f + 2 → n ≡ f + 3
    → m ≡ (emit_block Plain (roots_in a1) b s (exits_of a1) n).1 → (roots_in a (Test s sense e) q m).1 ≤ (emit Plain (roots_in a) (commands.RepeatWhile b sense e) s (exits_of a) f).1
repeat_while_done a a1 b sense e s f q p o n m l hq h g k j = rw (j, l, hq, h, g, k) (same _)

-- FOR

pub for_ended : (roots : Roots Marked) → Rising roots → (E : Exits) (start limit : Exp) (by : ℕ) (b : Block) (s f m : ℕ)
    → (let x = roots (Assign (s + 2) limit (Frame (s + 1))) 0 (roots (Assign (s + 2) start (Frame s)) 0 (f + 3)).1 in
    let t = roots (Test (s + 2) true (end_of_for by s)) (f + 1) x.1 in
    m ≡ (emit_block Plain roots b (s + 2) (record E { broken = f + 1; looped = f + 2 }) t.1).1)
    → m ≤ (emit Plain roots (commands.For start limit by b) s E f).1
for_ended roots r E start limit by b s f m h = rw h (r.up (Assign (s + 2) (step_of_for by s) (Frame s)) 0 _)

pub for_tested : (roots : Roots Marked) → Rising roots → (E : Exits) (start limit : Exp) (by : ℕ) (b : Block) (s f m : ℕ)
    → (let x = roots (Assign (s + 2) limit (Frame (s + 1))) 0 (roots (Assign (s + 2) start (Frame s)) 0 (f + 3)).1 in m ≡ (roots (Test (s + 2) true (end_of_for by s)) (f + 1) x.1).1)
    → m ≤ (emit Plain roots (commands.For start limit by b) s E f).1
for_tested roots r E start limit by b s f m h =
    let E1 = record E { broken = f + 1; looped = f + 2 } in
    upto m _ _ (block_up roots r b (s + 2) E1 m) (for_ended roots r E start limit by b s f (emit_block Plain roots b (s + 2) E1 m).1 (ap (λ (k : ℕ). (emit_block Plain roots b (s + 2) E1 k).1) h))

pub for_limited : (roots : Roots Marked) → Rising roots → (E : Exits) (start limit : Exp) (by : ℕ) (b : Block) (s f m : ℕ)
    → m ≡ (roots (Assign (s + 2) limit (Frame (s + 1))) 0 (roots (Assign (s + 2) start (Frame s)) 0 (f + 3)).1).1
    → m ≤ (emit Plain roots (commands.For start limit by b) s E f).1
for_limited roots r E start limit by b s f m h =
    let test = Test (s + 2) true (end_of_for by s) in
    upto m _ _ (r.up test (f + 1) m) (for_tested roots r E start limit by b s f (roots test (f + 1) m).1 (ap (λ (k : ℕ). (roots test (f + 1) k).1) h))

pub for_started : (roots : Roots Marked) → Rising roots → (E : Exits) (start limit : Exp) (by : ℕ) (b : Block) (s f m : ℕ)
    → m ≡ (roots (Assign (s + 2) start (Frame s)) 0 (f + 3)).1 → m ≤ (emit Plain roots (commands.For start limit by b) s E f).1
for_started roots r E start limit by b s f m h =
    let to = Assign (s + 2) limit (Frame (s + 1)) in
    upto m _ _ (r.up to 0 m) (for_limited roots r E start limit by b s f (roots to 0 m).1 (ap (λ (k : ℕ). (roots to 0 k).1) h))

pub for_taken : (roots : Roots Marked) → Rising roots → (E : Exits) (start limit : Exp) (by : ℕ) (b : Block) (s f : ℕ) → f + 3 ≤ (emit Plain roots (commands.For start limit by b) s E f).1
for_taken roots r E start limit by b s f =
    let from = Assign (s + 2) start (Frame s) in
    upto (f + 3) _ _ (r.up from 0 (f + 3)) (for_started roots r E start limit by b s f (roots from 0 (f + 3)).1 refl)

-- SWITCHON
pub switchon_valued : (roots : Roots Marked) → Rising roots → (E : Exits) (e : Exp) (is : Items) (s f m : ℕ) → m ≡ (roots (Value s e) 0 (f + 1 + entries_in is)).1 → m + labels_in is ≤ (emit Plain roots (commands.SwitchOn e is) s E f).1
switchon_valued roots r E e is s f m h =
    rw h (items_up roots r is s
    (record E { cases = f; labels = labelled is (roots (Value s e) 0 (f + 1 + entries_in is)).1 E.labels }) (f + 1)
    ((roots (Value s e) 0 (f + 1 + entries_in is)).1 + labels_in is))

pub switchon_taken : (roots : Roots Marked) → Rising roots → (E : Exits) (e : Exp) (is : Items) (s f : ℕ) → f + 1 + entries_in is ≤ (emit Plain roots (commands.SwitchOn e is) s E f).1
switchon_taken roots r E e is s f =
    let g = f + 1 + entries_in is in
    let v = roots (Value s e) 0 g in
    upto g v.1 _ (r.up (Value s e) 0 g) (less v.1 (labels_in is) _ (switchon_valued roots r E e is s f v.1 refl))

pub switchon_done : (roots : Roots Marked) (E : Exits) (outer : List Numbered) (e : Exp) (is : Items) (s past first : ℕ) (ls : List Numbered) (f n1 n2 n3 n4 : ℕ)
    → E.labels ≡ (λ n. label_in outer n 0) → past ≡ f → n1 ≡ f + 1 → first ≡ n1 → n2 ≡ n1 + entries_in is
    → n3 ≡ (roots (Value s e) 0 n2).1 → ls ≡ label_pairs is n3 ++ outer → n4 ≡ n3 + labels_in is
    → (emit_items Plain roots is s (record E { cases = past; labels = λ n. label_in ls n 0 }) first n4).1 ≤ (emit Plain roots (commands.SwitchOn e is) s E f).1
switchon_done roots E outer e is s past first ls f n1 n2 n3 n4 eo ep e1 ef e2 e3 el e4 =
    let hl = ap (λ (xs : List Numbered). λ (n : ℕ). label_in xs n 0) el ∙ labelled_is is n3 outer ∙ ap (λ (g : ℕ → ℕ). labelled is n3 g) (sym eo) in
    rw (hl, e4, e3, e2, ef, e1, ep) (same _)

-- a block
pub block_labelled : (roots : Roots Marked) → Rising roots → (ds : List (List commands.Variable)) (is : Items) (s : ℕ) (E : Exits) (f : ℕ) → f + labels_in is ≤ (emit_block Plain roots (block ds is) s E f).1
block_labelled roots r ds is s E f =
    let d = emit_declarations roots ds s (f + labels_in is) in
    upto (f + labels_in is) d.1 _ (declarations_up roots r ds s (f + labels_in is)) (items_up roots r is (s + cells_declared ds) (record E { labels = labelled is f E.labels }) 0 d.1)

pub block_declared : (roots : Roots Marked) → Rising roots → (ds : List (List commands.Variable)) (is : Items) (s : ℕ) (E : Exits) (f n : ℕ) → n ≡ f + labels_in is
    → (emit_declarations roots ds s n).1 ≤ (emit_block Plain roots (block ds is) s E f).1
block_declared roots r ds is s E f n h = rw h (items_up roots r is (s + cells_declared ds) (record E { labels = labelled is f E.labels }) 0 (emit_declarations roots ds s (f + labels_in is)).1)

-- loops
pub list_out : (roots : Roots Marked) → Rising roots → (s : ℕ) (E : Exits) (xs : List ListItem) (i : ℕ) (x : ListItem) (first n whole : ℕ)
    → i < length xs → x ≡ get_or xs i x → (emit_items Plain roots (items (drop i xs)) s E first n).1 ≡ whole → (emit_items Plain roots (items_before x no_item) s E first n).1 ≤ whole
list_out roots r s E xs i x first n whole h g inv =
    let y = emit_items Plain roots (items_before x no_item) s E first n in
    let z = emit_items Plain roots (items (drop (i + 1) xs)) s E (next_entry x first) y.1 in
    let d : drop i xs ≡ x ∷ drop (i + 1) xs = drop_more xs i x h ∙ ap (λ (v : ListItem). v ∷ drop (i + 1) xs) (sym g) in
    let e = ap (λ (ys : List ListItem). emit_items Plain roots (items ys) s E first n) d ∙ item_first roots x (items (drop (i + 1) xs)) s E first n in
    let k : whole ≡ z.1 = sym inv ∙ ap (λ (c : Code Marked). c.1) e in
    rw k (items_up roots r (items (drop (i + 1) xs)) s E (next_entry x first) y.1)

pub declarations_out : (roots : Roots Marked) → Rising roots → (xs : List Declaration) (i : ℕ) (x : Declaration) (l l1 cells n whole : ℕ)
    → i < length xs → x ≡ get_or xs i x → cells ≡ cells_of_all (map variable x.variables.items) → l1 ≡ l + cells
    → (emit_declarations roots (declarations (drop i xs)) l n).1 ≡ whole → (emit_variables roots (map variable x.variables.items) l l1 n).1 ≤ whole
declarations_out roots r xs i x l l1 cells n whole h g ec el inv =
    let k = cells_of_all (map variable x.variables.items) in
    let y = emit_variables roots (map variable x.variables.items) l (l + k) n in
    let z = emit_declarations roots (declarations (drop (i + 1) xs)) (l + k) y.1 in
    let d : drop i xs ≡ x ∷ drop (i + 1) xs = drop_more xs i x h ∙ ap (λ (v : Declaration). v ∷ drop (i + 1) xs) (sym g) in
    let e : whole ≡ z.1 = sym inv ∙ ap (λ (ys : List Declaration). (emit_declarations roots (declarations ys) l n).1) d in
    rw (el, ec, e) (declarations_up roots r (declarations (drop (i + 1) xs)) (l + k) y.1)

pub variables_out : (roots : Roots Marked) → Rising roots → (s : ℕ) (xs : List Variable) (i : ℕ) (x : Variable) (e : Exp) (k n whole : ℕ)
    → i < length xs → x ≡ get_or xs i x → e ≡ initial_of (variable x) k
    → (emit_variables roots (map variable (drop i xs)) k s n).1 ≡ whole → (roots (Assign s e (Frame k)) 0 n).1 ≤ whole
variables_out roots r s xs i x e k n whole h g ee inv =
    let y = emit_variable roots (variable x) k s n in
    let z = emit_variables roots (map variable (drop (i + 1) xs)) (k + cells_of (variable x)) s y.1 in
    let d : drop i xs ≡ x ∷ drop (i + 1) xs = drop_more xs i x h ∙ ap (λ (v : Variable). v ∷ drop (i + 1) xs) (sym g) in
    let q : whole ≡ z.1 = sym inv ∙ ap (λ (ys : List Variable). (emit_variables roots (map variable ys) k s n).1) d in
    let set = sym (variable_emitted roots (variable x) k s n) in
    rw (ee, set, q) (variables_up roots r (map variable (drop (i + 1) xs)) (k + cells_of (variable x)) s y.1)

pub fill_out : (levels : ℕ → ℕ) (bodies : BodiesCode Marked) → Growing bodies → (ps : List Piece) (i : ℕ) (p : Piece) (l n whole : ℕ)
    → i < length ps → p ≡ get_or ps i p → l ≡ label_ahead (drop (i + 1) ps)
    → (fill Plain levels bodies (drop i ps) n).1 ≡ whole → (one_piece levels bodies p l n).1 ≤ whole
fill_out levels bodies b ps i p l n whole h g el inv =
    let y = one_piece levels bodies p (label_ahead (drop (i + 1) ps)) n in
    let z = fill Plain levels bodies (drop (i + 1) ps) y.1 in
    let d : drop i ps ≡ p ∷ drop (i + 1) ps = drop_more ps i p h ∙ ap (λ (v : Piece). v ∷ drop (i + 1) ps) (sym g) in
    let e = ap (λ (qs : List Piece). fill Plain levels bodies qs n) d ∙ piece_first levels bodies p (drop (i + 1) ps) n in
    let k : whole ≡ z.1 = sym inv ∙ ap (λ (c : Filled). c.1) e in
    rw (el, k) (fill_up levels bodies b (drop (i + 1) ps) y.1)

-- a root
pub root_taken : (a : Around) (r : Root) (t f : ℕ) → f + coding.labels r ≤ (roots_in a r t f).1
root_taken a r t f =
    let vs = valofs_in a.valofs.now in
    fill_up (level_of vs) (bodies_of vs a.least) (bodies_grow vs a.least) (coding.pieces r t f) (f + coding.labels r)

pub root_filled : (a : Around) (r : Root) (t f n : ℕ) (ps : List Piece) → ps ≡ coding.pieces r t f → n ≡ f + coding.labels r
    → (fill Plain (level_of (valofs_in a.valofs.now)) (bodies_of (valofs_in a.valofs.now) a.least) ps n).1 ≤ (roots_in a r t f).1
root_filled a r t f n ps h k = rw (h, k) (same _)

-- if labels run out in a part, they run out in the whole
pub fails : {X : Type 0} (r : Result X GenError) (e : GenError) (w0 w1 : Writer) (n : ℕ) (c : Code Marked) → IsErrAnd r (λ y. y ≡ e) → RunsOut e n → n ≤ c.1 → Writes r w0 w1 c
fails (Ok x) e w0 w1 n c h k l = absurd h
fails (Err y) e w0 w1 n c h k l = out y n c.1 (subst (λ (z : GenError). RunsOut z n) (sym h) k) l

-- labels that are taken one by one
pub less_one : (f n : ℕ) → f + 2 ≤ n → f + 1 ≤ n
less_one f n h = omega arith

pub less_two : (f n : ℕ) → f + 3 ≤ n → f + 1 ≤ n
less_two f n h = omega arith

pub second : (f n1 n : ℕ) → n1 ≡ f + 1 → f + 2 ≤ n → n1 + 1 ≤ n
second f n1 n h k = omega arith

pub second_of_three : (f n1 n : ℕ) → n1 ≡ f + 1 → f + 3 ≤ n → n1 + 1 ≤ n
second_of_three f n1 n h k = omega arith

pub third : (f n2 n : ℕ) → n2 ≡ f + 2 → f + 3 ≤ n → n2 + 1 ≤ n
third f n2 n h k = omega arith

pub grown_on : (f n1 k n : ℕ) → n1 ≡ f + 1 → f + 1 + k ≤ n → n1 + k ≤ n
grown_on f n1 k n h l = omega arith

-- the parts of a FOR, as they are called
pub started : (roots : Roots Marked) (s f s1 : ℕ) (start start1 : Exp) (n : ℕ) → s1 ≡ s + 2 → start1 ≡ start → n ≡ f + 3
    → (roots (Assign s1 start1 (Frame s)) 0 n).1 ≡ (roots (Assign (s + 2) start (Frame s)) 0 (f + 3)).1
started roots s f s1 start start1 n h g k = rw (h, g, k) refl

pub limited : (roots : Roots Marked) (s f s1 : ℕ) (start limit limit1 : Exp) (o n : ℕ) → s1 ≡ s + 2 → o ≡ s + 1 → limit1 ≡ limit → n ≡ (roots (Assign (s + 2) start (Frame s)) 0 (f + 3)).1
    → (roots (Assign s1 limit1 (Frame o)) 0 n).1 ≡ (roots (Assign (s + 2) limit (Frame (s + 1))) 0 (roots (Assign (s + 2) start (Frame s)) 0 (f + 3)).1).1
limited roots s f s1 start limit limit1 o n h g k l = rw (l, h, g, k) refl

pub tested : (roots : Roots Marked) (s f s1 by : ℕ) (start limit end : Exp) (p n : ℕ) → s1 ≡ s + 2 → end ≡ end_of_for by s → p ≡ f + 1
    → n ≡ (roots (Assign (s + 2) limit (Frame (s + 1))) 0 (roots (Assign (s + 2) start (Frame s)) 0 (f + 3)).1).1
    → (roots (Test s1 true end) p n).1
    ≡ (let x = roots (Assign (s + 2) limit (Frame (s + 1))) 0 (roots (Assign (s + 2) start (Frame s)) 0 (f + 3)).1 in (roots (Test (s + 2) true (end_of_for by s)) (f + 1) x.1).1)
tested roots s f s1 by start limit end p n h g k l = rw (l, h, g, k) refl

pub ended : (a a1 : Around) (b : Block) (s f s1 by : ℕ) (start limit : Exp) (p o n : ℕ) → s1 ≡ s + 2 → a1 ≡ record a { broken = p; looped = o } → p ≡ f + 1 → o ≡ f + 2
    → (let x = roots_in a (Assign (s + 2) limit (Frame (s + 1))) 0 (roots_in a (Assign (s + 2) start (Frame s)) 0 (f + 3)).1 in n ≡ (roots_in a (Test (s + 2) true (end_of_for by s)) (f + 1) x.1).1)
    → (let x = roots_in a (Assign (s + 2) limit (Frame (s + 1))) 0 (roots_in a (Assign (s + 2) start (Frame s)) 0 (f + 3)).1 in
    let t = roots_in a (Test (s + 2) true (end_of_for by s)) (f + 1) x.1 in
    (emit_block Plain (roots_in a1) b s1 (exits_of a1) n).1 ≡ (emit_block Plain (roots_in a) b (s + 2) (record (exits_of a) { broken = f + 1; looped = f + 2 }) t.1).1)
ended a a1 b s f s1 by start limit p o n h l g k e = rw (e, l, h, g, k) refl

pub for_stepped : (roots : Roots Marked) (E : Exits) (start limit : Exp) (by : ℕ) (b : Block) (s f s1 : ℕ) (step : Exp) (n : ℕ) → s1 ≡ s + 2 → step ≡ step_of_for by s
    → (let x = roots (Assign (s + 2) limit (Frame (s + 1))) 0 (roots (Assign (s + 2) start (Frame s)) 0 (f + 3)).1 in
    let t = roots (Test (s + 2) true (end_of_for by s)) (f + 1) x.1 in
    n ≡ (emit_block Plain roots b (s + 2) (record E { broken = f + 1; looped = f + 2 }) t.1).1)
    → (roots (Assign s1 step (Frame s)) 0 n).1 ≤ (emit Plain roots (commands.For start limit by b) s E f).1
for_stepped roots E start limit by b s f s1 step n h g e = rw (e, h, g) (same _)

-- a VALOF's body
pub valof_out : (cvs : List code.Valof) (least n : ℕ) (v : code.Valof) (roots1 : Roots Marked) (E1 : Exits) (l f : ℕ)
    → least ≤ n → n < length cvs → v ≡ get_or cvs n v → roots1 ≡ roots_of (valofs_in cvs) (n + 1) → E1 ≡ body_exits l
    → (emit_block Plain roots1 (block_of v.body) v.level E1 f).1 ≤ (bodies_of (valofs_in cvs) least n (level_of (valofs_in cvs) n) l f).1
valof_out cvs least n v roots1 E1 l f h g e er ee = rw (body_is cvs least n v l f h g e, er, ee) (same _)

-- a routine's body
pub does_out : (roots : Roots Marked) (E : Exits) (body : commands.Body) (b : Block) (s s1 f : ℕ) → body ≡ commands.Does b → E ≡ body_exits 0 → s1 ≡ s
    → (emit_block Plain roots b s1 E f).1 ≤ (emit_body Plain roots body s f).1
does_out roots E body b s s1 f eb ee es = rw (eb, ee, es) (same _)

-- routines
pub routines_out : (roots : Roots Marked) → Rising roots → (ps : List Place) (i : ℕ) (x : Place) (r : Routine) (l n m whole : ℕ)
    → i < length ps → x ≡ get_or ps i x → x ≡ places.Routine r → m ≡ n → (emit_routines Plain roots l (map place_of (drop i ps)) n).1 ≡ whole
    → (emit_body Plain roots (body_of r.body) (level_after_parameters r.parameters) m).1 ≤ whole
routines_out roots r ps i x p l n m whole h g ex em inv =
    let y = emit_body Plain roots (body_of p.body) (level_after_parameters p.parameters) n in
    let z = emit_routines Plain roots (l + 1) (map place_of (drop (i + 1) ps)) y.1 in
    let d : drop i ps ≡ places.Routine p ∷ drop (i + 1) ps = drop_more ps i x h ∙ ap (λ (v : Place). v ∷ drop (i + 1) ps) (sym g ∙ ex) in
    let e : whole ≡ z.1 = sym inv ∙ ap (λ (qs : List Place). (emit_routines Plain roots l (map place_of qs) n).1) d in
    rw (em, e) (routines_up roots r (l + 1) (map place_of (drop (i + 1) ps)) y.1)

-- the error of a whole section
pub refused : {X : Type 0} (r : Result X GenError) (e : GenError) (n m : ℕ) → IsErrAnd r (λ y. y ≡ e) → RunsOut e n → n ≤ m → IfErr r (λ fault. fault ≡ errors.TooManyLabels → ¬ (m ≤ 20001))
refused (Ok x) e n m h k l = absurd h
refused (Err y) e n m h k l = λ t. λ few. let over : 20001 < n = subst (λ (z : GenError). RunsOut z n) (sym h ∙ t) k in omega arith
