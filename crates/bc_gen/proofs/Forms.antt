-- The code of each form of command, from what its calls append one after another.
use Rattle.std.proofs.lemmas.List.{length-map, map-append, take-map}
use Rattle.std.proofs.Math.Seq.{drop-append_seam, take-append_seam}
use Rattle.std.proofs.Common.{ℕ, zero, suc, ◌+◌, ◌≤◌, ◌≡◌, map, drop, take, insert, length, length-append, Bool, true, false, not, List, [], ◌∷◌, ◌++◌, Result, Ok, Err, refl, ap, sym, ◌∙◌, subst, append_assoc, arith}
use Rattle.bc_text_items.specs.declared.item.Item.TheVariants.{Label, Data, DataLabel}
use Rattle.bc_core.specs.Tree.{Exp, Frame, Root, Value, Test, Assign}
use Rattle.bc_core.specs.Commands as commands
use Rattle.bc_core.specs.Commands.{Variable, Block, block, Items}
use Rattle.bc_core.specs.Level.{cells_declared}
use Rattle.bc_core.specs.Command.{step_of_for}
use Rattle.bc_rules_defs.specs.declared.piece.Piece.{Piece}
use Rattle.bc_rules_defs.specs.Rules.{Tree}
use Rattle.bc_gen_defs.specs.Emit.{Code, Roots, Exits, jump, execute, labelled, labels_in, defaulted, cases_in, entries_in, table_of, zero_item, emit_declarations, end_of_for, emit, emit_block, emit_items}
use Rattle.bc_gen_defs.specs.Bodies.{body_exits, emit_body, fill, level_of}
use Rattle.bc_gen_defs.specs.Entries.{Marked, Plain, Begins, count_items}
use Rattle.bc_gen.specs.declared.context.Numbered.{Numbered}
use Rattle.bc_gen.specs.declared.context.Around.{Around}
use Rattle.bc_gen.specs.declared.gen_error.GenError.{GenError}
use Rattle.bc_gen.specs.declared.writer.Writer.{Writer}
use Rattle.bc_gen.specs.declared.marked_items.MarkedItem.{MarkedItem}
use Rattle.bc_gen.specs.Parts.{part, parts}
use Rattle.bc_gen.specs.Chosen.{coding}
use Rattle.bc_gen.specs.Room.{Bodies, CommandHasRoom}
use Rattle.bc_gen.specs.Surroundings.{label_in, label_pairs, exits_of, roots_in, valofs_in, bodies_of}
use Rattle.bc_gen.specs.Writing.{Writes, Puts}
use Rattle.bc_gen.proofs.Rises.{out_of_memory}
use Rattle.bc_gen.proofs.Labels.{labelled_is}

-- the parts that a writer has
abbrev pub there : Writer → List Marked
there w = parts w.parts.items

-- this code was appended
abbrev pub Wrote : Writer → Writer → Code Marked → Type 0
Wrote before after code = (there after ≡ there before ++ code.0) × (after.next ≡ code.1)

-- labels were taken, from this one to that
abbrev pub Took : Writer → Writer → ℕ → ℕ → Type 0
Took before after label n = (label ≡ before.next) × (after.next ≡ before.next + n)

abbrev pub Same : Writer → Writer → Type 0
Same before after = after.parts ≡ before.parts

-- items were appended, and no label was taken
abbrev pub Set : Writer → Writer → List Marked → Type 0
Set before after ps = (there after ≡ there before ++ ps) × (after.next ≡ before.next)

pub if_writes : {X : Type 0} (r : Result X GenError) (roots : Roots Marked) (sense : Bool) (e : Exp) (b : Block) (s : ℕ) (E : Exits) (past : ℕ) (w0 w1 w2 w3 w4 : Writer)
    → Took w0 w1 past 1 → Same w0 w1 → Wrote w1 w2 (roots (Test s (not sense) e) past w1.next) → Wrote w2 w3 (emit_block Plain roots b s E w2.next)
    → Puts r w3 w4 (Plain (Label past) ∷ []) → Writes r w0 w4 (emit Plain roots (commands.If sense e b) s E w0.next)
if_writes (Err x) roots sense e b s E past w0 w1 w2 w3 w4 t p h2 h3 h4 = out_of_memory x _ h4
if_writes (Ok x) roots sense e b s E past w0 w1 w2 w3 w4 t p h2 h3 h4 =
    rw (h4.0, h4.1, h3.0, h3.1, h2.0, h2.1, p, t.1, t.0) (simp append_assoc, refl)

-- two and three labels taken one by one
pub two_taken : (f n1 n2 : ℕ) → n1 ≡ f + 1 → n2 ≡ n1 + 1 → n2 ≡ f + 2
two_taken f n1 n2 h g = omega (arith, h, g)

pub three_taken : (f n1 n2 n3 : ℕ) → n1 ≡ f + 1 → n2 ≡ n1 + 1 → n3 ≡ n2 + 1 → n3 ≡ f + 3
three_taken f n1 n2 n3 h g k = omega (arith, h, g, k)

pub test_writes : {X : Type 0} (r : Result X GenError) (roots : Roots Marked) (e : Exp) (b c : Block) (s : ℕ) (E : Exits) (other past : ℕ) (w0 w1 w2 w3 w4 w5 w6 w7 w8 : Writer)
    → Took w0 w1 other 1 → Same w0 w1 → Took w1 w2 past 1 → Same w1 w2
    → Wrote w2 w3 (roots (Test s false e) other w2.next) → Wrote w3 w4 (emit_block Plain roots b s E w3.next)
    → Set w4 w5 (Plain (jump past) ∷ []) → Set w5 w6 (Plain (Label other) ∷ []) → Wrote w6 w7 (emit_block Plain roots c s E w6.next)
    → Puts r w7 w8 (Plain (Label past) ∷ []) → Writes r w0 w8 (emit Plain roots (commands.Test e b c) s E w0.next)
test_writes (Err x) roots e b c s E other past w0 w1 w2 w3 w4 w5 w6 w7 w8 t1 p1 t2 p2 h3 h4 h5 h6 h7 h8 = out_of_memory x _ h8
test_writes (Ok x) roots e b c s E other past w0 w1 w2 w3 w4 w5 w6 w7 w8 t1 p1 t2 p2 h3 h4 h5 h6 h7 h8 =
    let n2 = two_taken w0.next w1.next w2.next t1.1 t2.1 in
    rw (h8.0, h8.1, h7.0, h7.1, h6.0, h6.1, h5.0, h5.1, h4.0, h4.1, h3.0, h3.1, p2, p1, n2, t2.0, t1.1, t1.0) (simp append_assoc, refl)

pub while_writes : {X : Type 0} (r : Result X GenError) (a a1 : Around) (sense : Bool) (e : Exp) (b : Block) (s again past : ℕ) (w0 w1 w2 w3 w4 w5 w6 w7 : Writer)
    → Took w0 w1 again 1 → Same w0 w1 → Took w1 w2 past 1 → Same w1 w2 → a1 ≡ record a { broken = past; looped = again }
    → Set w2 w3 (Plain (Label again) ∷ []) → Wrote w3 w4 (roots_in a (Test s (not sense) e) past w3.next)
    → Wrote w4 w5 (emit_block Plain (roots_in a1) b s (exits_of a1) w4.next) → Set w5 w6 (Plain (jump again) ∷ [])
    → Puts r w6 w7 (Plain (Label past) ∷ []) → Writes r w0 w7 (emit Plain (roots_in a) (commands.While sense e b) s (exits_of a) w0.next)
while_writes (Err x) a a1 sense e b s again past w0 w1 w2 w3 w4 w5 w6 w7 t1 p1 t2 p2 l h3 h4 h5 h6 h7 = out_of_memory x _ h7
while_writes (Ok x) a a1 sense e b s again past w0 w1 w2 w3 w4 w5 w6 w7 t1 p1 t2 p2 l h3 h4 h5 h6 h7 =
    let n2 = two_taken w0.next w1.next w2.next t1.1 t2.1 in
    rw (h7.0, h7.1, h6.0, h6.1, h5.0, h5.1, l, h4.0, h4.1, h3.0, h3.1, p2, p1, n2, t2.0, t1.1, t1.0) (simp append_assoc, refl)

pub repeat_writes : {X : Type 0} (r : Result X GenError) (a a1 : Around) (b : Block) (s again past : ℕ) (w0 w1 w2 w3 w4 w5 w6 : Writer)
    → Took w0 w1 again 1 → Same w0 w1 → Took w1 w2 past 1 → Same w1 w2 → a1 ≡ record a { broken = past; looped = again }
    → Set w2 w3 (Plain (Label again) ∷ []) → Wrote w3 w4 (emit_block Plain (roots_in a1) b s (exits_of a1) w3.next) → Set w4 w5 (Plain (jump again) ∷ [])
    → Puts r w5 w6 (Plain (Label past) ∷ []) → Writes r w0 w6 (emit Plain (roots_in a) (commands.Repeat b) s (exits_of a) w0.next)
repeat_writes (Err x) a a1 b s again past w0 w1 w2 w3 w4 w5 w6 t1 p1 t2 p2 l h3 h4 h5 h6 = out_of_memory x _ h6
repeat_writes (Ok x) a a1 b s again past w0 w1 w2 w3 w4 w5 w6 t1 p1 t2 p2 l h3 h4 h5 h6 =
    let n2 = two_taken w0.next w1.next w2.next t1.1 t2.1 in
    rw (h6.0, h6.1, h5.0, h5.1, h4.0, h4.1, l, h3.0, h3.1, p2, p1, n2, t2.0, t1.1, t1.0) (simp append_assoc, refl)

pub repeat_while_writes : {X : Type 0} (r : Result X GenError) (a a1 : Around) (sense : Bool) (e : Exp) (b : Block) (s again past onward : ℕ) (w0 w1 w2 w3 w4 w5 w6 w7 w8 : Writer)
    → Took w0 w1 again 1 → Same w0 w1 → Took w1 w2 past 1 → Same w1 w2 → Took w2 w3 onward 1 → Same w2 w3 → a1 ≡ record a { broken = past; looped = onward }
    → Set w3 w4 (Plain (Label again) ∷ []) → Wrote w4 w5 (emit_block Plain (roots_in a1) b s (exits_of a1) w4.next) → Set w5 w6 (Plain (Label onward) ∷ [])
    → Wrote w6 w7 (roots_in a (Test s sense e) again w6.next)
    → Puts r w7 w8 (Plain (Label past) ∷ []) → Writes r w0 w8 (emit Plain (roots_in a) (commands.RepeatWhile b sense e) s (exits_of a) w0.next)
repeat_while_writes (Err x) a a1 sense e b s again past onward w0 w1 w2 w3 w4 w5 w6 w7 w8 t1 p1 t2 p2 t3 p3 l h4 h5 h6 h7 h8 = out_of_memory x _ h8
repeat_while_writes (Ok x) a a1 sense e b s again past onward w0 w1 w2 w3 w4 w5 w6 w7 w8 t1 p1 t2 p2 t3 p3 l h4 h5 h6 h7 h8 =
    let n2 = two_taken w0.next w1.next w2.next t1.1 t2.1 in
    let n3 = three_taken w0.next w1.next w2.next w3.next t1.1 t2.1 t3.1 in
    rw (h8.0, h8.1, h7.0, h7.1, h6.0, h6.1, h5.0, h5.1, l, h4.0, h4.1, p3, p2, p1, n3, t3.0, n2, t2.0, t1.1, t1.0) (simp append_assoc, refl)

pub for_writes : {X : Type 0} (r : Result X GenError) (roots roots1 : Roots Marked) (E E1 : Exits) (start limit start1 limit1 end step : Exp) (by : ℕ) (b : Block) (s s1 o again past onward : ℕ) (w0 w1 w2 w3 w4 w5 w6 w7 w8 w9 w10 w11 w12 : Writer)
    → Took w0 w1 again 1 → Same w0 w1 → Took w1 w2 past 1 → Same w1 w2 → Took w2 w3 onward 1 → Same w2 w3 → roots1 ≡ roots → E1 ≡ record E { broken = past; looped = onward }
    → s1 ≡ s + 2 → o ≡ s + 1 → start1 ≡ start → limit1 ≡ limit → end ≡ end_of_for by s → step ≡ step_of_for by s
    → Wrote w3 w4 (roots (Assign s1 start1 (Frame s)) 0 w3.next) → Wrote w4 w5 (roots (Assign s1 limit1 (Frame o)) 0 w4.next)
    → Set w5 w6 (Plain (Label again) ∷ []) → Wrote w6 w7 (roots (Test s1 true end) past w6.next)
    → Wrote w7 w8 (emit_block Plain roots1 b s1 E1 w7.next) → Set w8 w9 (Plain (Label onward) ∷ [])
    → Wrote w9 w10 (roots (Assign s1 step (Frame s)) 0 w9.next) → Set w10 w11 (Plain (jump again) ∷ [])
    → Puts r w11 w12 (Plain (Label past) ∷ []) → Writes r w0 w12 (emit Plain roots (commands.For start limit by b) s E w0.next)
for_writes (Err x) roots roots1 E E1 start limit start1 limit1 end step by b s s1 o again past onward w0 w1 w2 w3 w4 w5 w6 w7 w8 w9 w10 w11 w12 t1 p1 t2 p2 t3 p3 lr le es eo e1 e2 e3 e4 h4 h5 h6 h7 h8 h9 h10 h11 h12 = out_of_memory x _ h12
for_writes (Ok x) roots roots1 E E1 start limit start1 limit1 end step by b s s1 o again past onward w0 w1 w2 w3 w4 w5 w6 w7 w8 w9 w10 w11 w12 t1 p1 t2 p2 t3 p3 lr le es eo e1 e2 e3 e4 h4 h5 h6 h7 h8 h9 h10 h11 h12 =
    let n2 = two_taken w0.next w1.next w2.next t1.1 t2.1 in
    let n3 = three_taken w0.next w1.next w2.next w3.next t1.1 t2.1 t3.1 in
    rw (h12.0, h12.1, h11.0, h11.1, h10.0, h10.1, h9.0, h9.1, h8.0, h8.1, lr, le, h7.0, h7.1, h6.0, h6.1, h5.0, h5.1, h4.0, h4.1, p3, p2, p1, n3, t3.0, n2, t2.0, t1.1, t1.0, es, eo, e1, e2, e3, e4) (simp append_assoc, refl)

pub switchon_writes : {X : Type 0} (r : Result X GenError) (roots : Roots Marked) (E : Exits) (outer : List Numbered) (e : Exp) (is : Items) (s past first d count : ℕ) (ls : List Numbered) (w0 w1 w2 w3 w4 w5 w6 w7 w8 w9 w10 : Writer)
    → E.labels ≡ (λ n. label_in outer n 0) → Took w0 w1 past 1 → Same w0 w1
    → first ≡ w1.next → d ≡ defaulted is w1.next past → count ≡ cases_in is → w2.next ≡ w1.next + entries_in is → Same w1 w2
    → Wrote w2 w3 (roots (Value s e) 0 w2.next) → ls ≡ label_pairs is w3.next ++ outer → w4.next ≡ w3.next + labels_in is → Same w3 w4
    → Set w4 w5 (Plain (execute 23) ∷ []) → Set w5 w6 (Plain (Data count) ∷ []) → Set w6 w7 (Plain (DataLabel d) ∷ [])
    → Set w7 w8 (table_of Plain is first)
    → Wrote w8 w9 (emit_items Plain roots is s (record E { cases = past; labels = λ n. label_in ls n 0 }) first w8.next)
    → Puts r w9 w10 (Plain (Label past) ∷ []) → Writes r w0 w10 (emit Plain roots (commands.SwitchOn e is) s E w0.next)
switchon_writes (Err x) roots E outer e is s past first d count ls w0 w1 w2 w3 w4 w5 w6 w7 w8 w9 w10 eo t1 p1 ef ed en n2 p2 h3 el n4 p4 h5 h6 h7 h8 h9 h10 = out_of_memory x _ h10
switchon_writes (Ok x) roots E outer e is s past first d count ls w0 w1 w2 w3 w4 w5 w6 w7 w8 w9 w10 eo t1 p1 ef ed en n2 p2 h3 el n4 p4 h5 h6 h7 h8 h9 h10 =
    let hl = ap (λ (xs : List Numbered). λ (n : ℕ). label_in xs n 0) el ∙ labelled_is is w3.next outer ∙ ap (λ (g : ℕ → ℕ). labelled is w3.next g) (sym eo) in
    rw (h10.0, h10.1, h9.0, h9.1, h8.0, h8.1, h7.0, h7.1, h6.0, h6.1, h5.0, h5.1, hl, p4, n4, h3.0, h3.1, p2, p1, ed, ef, en, n2, t1.1, t1.0) (simp append_assoc, refl)

pub block_writes : {X : Type 0} (r : Result X GenError) (roots : Roots Marked) (E : Exits) (outer : List Numbered) (ds : List (List Variable)) (is : Items) (s inner : ℕ) (ls : List Numbered) (w0 w1 w2 w3 : Writer)
    → E.labels ≡ (λ n. label_in outer n 0) → ls ≡ label_pairs is w0.next ++ outer → w1.next ≡ w0.next + labels_in is → Same w0 w1
    → Wrote w1 w2 (emit_declarations roots ds s w1.next) → inner ≡ s + cells_declared ds
    → Writes r w2 w3 (emit_items Plain roots is inner (record E { labels = λ n. label_in ls n 0 }) 0 w2.next)
    → Writes r w0 w3 (emit_block Plain roots (block ds is) s E w0.next)
block_writes (Err x) roots E outer ds is s inner ls w0 w1 w2 w3 eo el n1 p1 h2 ei h3 =
    let hl = ap (λ (xs : List Numbered). λ (n : ℕ). label_in xs n 0) el ∙ labelled_is is w0.next outer ∙ ap (λ (g : ℕ → ℕ). labelled is w0.next g) (sym eo) in
    rw (hl, ei, h2.1, n1) at h3
block_writes (Ok x) roots E outer ds is s inner ls w0 w1 w2 w3 eo el n1 p1 h2 ei h3 =
    let hl = ap (λ (xs : List Numbered). λ (n : ℕ). label_in xs n 0) el ∙ labelled_is is w0.next outer ∙ ap (λ (g : ℕ → ℕ). labelled is w0.next g) (sym eo) in
    rw (h3.0, h3.1, hl, ei, h2.0, h2.1, p1, n1) (simp append_assoc, refl)

pub command_writes : {X : Type 0} (r : Result X GenError) (w0 w1 : Writer) (roots : Roots Marked) (s : ℕ) (E : Exits) (f : ℕ) (k k1 : commands.Command)
    → k ≡ k1 → Writes r w0 w1 (emit Plain roots k1 s E f) → Writes r w0 w1 (emit Plain roots k s E f)
command_writes r w0 w1 roots s E f k k1 e h = subst (λ (x : commands.Command). Writes r w0 w1 (emit Plain roots x s E f)) (sym e) h

-- what a command needs, by its form
pub command_room : (B : Bodies) (k k1 : commands.Command) (s : ℕ) → k ≡ k1 → CommandHasRoom B k s → CommandHasRoom B k1 s
command_room B k k1 s e r = subst (λ (x : commands.Command). CommandHasRoom B x s) e r

append_nothing : (xs : List Marked) → xs ++ [] ≡ xs
append_nothing [] = refl
append_nothing (x ∷ xs) = ap (λ (ys : List Marked). x ∷ ys) (append_nothing xs)

pub writes_nothing : (w : Writer) (code : Code Marked) → code ≡ ([], w.next) → Wrote w w code
writes_nothing w code e = (sym (append_nothing (there w)) ∙ ap (λ (c : Code Marked). there w ++ c.0) (sym e), ap (λ (c : Code Marked). c.1) (sym e))

-- the parts that were appended come after those that were there
pub grown : (w w1 : Writer) (ps : List Marked) → there w1 ≡ there w ++ ps → length w.parts.items ≤ length w1.parts.items
grown w w1 ps h = let e = ap (λ (xs : List Marked). length xs) h in omega (arith, simp (length-map, length-append) at e)

drop_parts : (xs : List MarkedItem) (n : ℕ) → parts (drop n xs) ≡ drop n (parts xs)
drop_parts xs zero = refl
drop_parts [] (suc n) = refl
drop_parts (x ∷ xs) (suc n) = drop_parts xs n

pub written_is : (w w1 : Writer) (ps : List Marked) → there w1 ≡ there w ++ ps → parts (drop (length w.parts.items) w1.parts.items) ≡ ps
written_is w w1 ps h =
    drop_parts w1.parts.items (length w.parts.items) ∙ ap (λ (xs : List Marked). drop (length w.parts.items) xs) h
    ∙ ap (λ (n : ℕ). drop n (there w ++ ps)) (sym (length-map w.parts.items part)) ∙ drop-append_seam (there w) ps

-- a part inserted before what was appended
pub marked_in : (w w1 : Writer) (p : MarkedItem) (at : ℕ) (ps : List Marked) → there w1 ≡ there w ++ ps → at ≡ length w.parts.items → parts (insert w1.parts.items at p) ≡ there w ++ part p ∷ ps
marked_in w w1 p at ps h e =
    let is = w1.parts.items in
    let n = length w.parts.items in
    let front : parts (take n is) ≡ there w = sym (take-map part n is) ∙ ap (λ (xs : List Marked). take n xs) h ∙ ap (λ (k : ℕ). take k (there w ++ ps)) (sym (length-map w.parts.items part)) ∙ take-append_seam (there w) ps in
    ap (λ (k : ℕ). parts (insert is k p)) e ∙ map-append part (take n is) (p ∷ drop n is)
    ∙ ap (λ (xs : List Marked). xs ++ part p ∷ parts (drop n is)) front ∙ ap (λ (ys : List Marked). there w ++ part p ∷ ys) (written_is w w1 ps h)

-- a root's code with the mark before it
pub root_marked : (a : Around) (r : Root) (t : ℕ) (d : Tree) (ps : List Piece) (bs : List ℕ) (w0 w1 w2 : Writer) (ws : List MarkedItem) (p : MarkedItem) (at : ℕ)
    → d ≡ coding.derivation r → ps ≡ coding.pieces r t w0.next → w1.next ≡ w0.next + coding.labels r → w1.parts ≡ w0.parts
    → (let x = fill Plain (level_of (valofs_in a.valofs.now)) (bodies_of (valofs_in a.valofs.now) a.least) ps w1.next in Wrote w1 w2 (x.0, x.1) × (bs ≡ map count_items x.2))
    → part p ≡ Begins (record { target = t; first = w0.next; root = r; derivation = d; bodies = bs }) → at ≡ length w1.parts.items → ws ≡ insert w2.parts.items at p
    → (parts ws ≡ there w0 ++ (roots_in a r t w0.next).0) × (w2.next ≡ (roots_in a r t w0.next).1)
root_marked a r t d ps bs w0 w1 w2 ws p at ed ep en es filled eb ea ei =
    let x = fill Plain (level_of (valofs_in a.valofs.now)) (bodies_of (valofs_in a.valofs.now) a.least) ps w1.next in
    let put : parts ws ≡ there w1 ++ part p ∷ x.0 = ap parts ei ∙ marked_in w1 w2 p at x.0 filled.0.0 ea in
    rw (put, filled.0.1, eb, filled.1, ed, ep, en, es) (refl, refl)

pub does_writes : {X : Type 0} (r : Result X GenError) (roots : Roots Marked) (E : Exits) (body : commands.Body) (b : Block) (s s1 : ℕ) (w0 w1 w2 : Writer)
    → body ≡ commands.Does b → E ≡ body_exits 0 → s1 ≡ s → Wrote w0 w1 (emit_block Plain roots b s1 E w0.next)
    → Puts r w1 w2 (Plain zero_item ∷ Plain (execute 4) ∷ []) → Writes r w0 w2 (emit_body Plain roots body s w0.next)
does_writes (Err x) roots E body b s s1 w0 w1 w2 eb ee es h1 h2 = out_of_memory x _ h2
does_writes (Ok x) roots E body b s s1 w0 w1 w2 eb ee es h1 h2 =
    rw (eb, h2.0, h2.1, h1.0, h1.1, ee, es) (append_assoc (there w0) (emit_block Plain roots b s (body_exits 0) w0.next).0 (Plain zero_item ∷ Plain (execute 4) ∷ []), refl)
