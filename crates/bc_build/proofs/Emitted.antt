-- A fact about each expression of a core gives a fact about each root that its code marks.
use Rattle.std.proofs.Common.{ℕ, ◌+◌, ◌==◌, Bool, true, false, not, List, [], ◌∷◌, ◌++◌, length}
use Rattle.std.specs.List.{AllByRecursion}
use Rattle.bc_text_items.specs.declared.item.Item.{Item}
use Rattle.bc_rules_defs.specs.declared.piece.Piece.{Piece}
use Rattle.bc_rules_defs.specs.declared.piece.Piece.TheVariants as pieces
use Rattle.bc_core.specs.Tree.{Exp, Frame, Root, Value, Test, Assign}
use Rattle.bc_core.specs.Commands.{Variable, Initial, Vector, Command, Block, block, Items, no_item, command, case, default, label, Body, Gives, Does, Place, Valof, Core}
use Rattle.bc_core.specs.Commands as commands
use Rattle.bc_core.specs.Level.{cells_of, cells_of_all, cells_declared, level_in_for, level_after_parameters}
use Rattle.bc_core.specs.Command.{step_of_for}
use Rattle.bc_gen_defs.specs.Emit.{Code, Roots, Exits, labelled, labels_in, entries_in, table_of, emit_variable, emit_variables, emit_declarations, end_of_for, emit, emit_block, emit_items, zero_item}
use Rattle.bc_gen_defs.specs.Bodies.{BodiesCode, Coding, fill, label_ahead, body_exits, emit_valof, emit_body, bodies_from, level_of}
use Rattle.bc_gen_defs.specs.Section.{emit_routines}
use Rattle.bc_gen_defs.specs.Entries.{Marked, Plain, marked_over, marked_code, section_entries, section_roots}
use Rattle.bc_build.proofs.Marks.{AllMarks, marks_both, table_marks, entries_of_marks, roots_of_entries}
use Rattle.bc_build.proofs.Throughout.{OfVariables, OfDeclarations, OfCommand, OfBlock, OfItems, OfBody, OfPlaces, OfValofs}

-- a fact L about expressions gives the fact P about roots, and L holds of the expressions that the code adds
pub record Suits (P : Root → Type 0) (L : Exp → Type 0) : Type 0 where
  pub value : (s : ℕ) (e : Exp) → L e → P (Value s e)
  pub test : (s : ℕ) (sense : Bool) (e : Exp) → L e → P (Test s sense e)
  pub assign : (s : ℕ) (v a : Exp) → L v → L a → P (Assign s v a)
  pub frame : (k : ℕ) → L (Frame k)
  pub end : (by s : ℕ) → L (end_of_for by s)
  pub step : (by s : ℕ) → L (step_of_for by s)

-- P holds of each root that is marked
record Marks (P : Root → Type 0) (ps : List Marked) : Type 0 where
  each : AllMarks (λ m. P m.root) ps

nothing : {P : Root → Type 0} → Marks P []
nothing = record { each = tt }

plain : {P : Root → Type 0} (i : Item) (xs : List Marked) → Marks P xs → Marks P (Plain i ∷ xs)
plain i xs h = record { each = h.each }

item : {P : Root → Type 0} (i : Item) → Marks P (Plain i ∷ [])
item i = record { each = tt }

joined : {P : Root → Type 0} (xs ys : List Marked) → Marks P xs → Marks P ys → Marks P (xs ++ ys)
joined {P = P} xs ys h k = record { each = marks_both (λ m. P m.root) xs ys h.each k.each }

-- the code of such roots marks only such roots
abbrev AreMarked : (Root → Type 0) → Roots Marked → Type 0
AreMarked P roots = (r : Root) → P r → (t f : ℕ) → Marks P (roots r t f).0

module _ {P : Root → Type 0} {L : Exp → Type 0} (suits : Suits P L) (roots : Roots Marked) (r : AreMarked P roots) where
  value_marks : (e : Exp) → L e → (s t f : ℕ) → Marks P (roots (Value s e) t f).0
  value_marks e h s t f = r (Value s e) (suits.value s e h) t f

  test_marks : (sense : Bool) (e : Exp) → L e → (s t f : ℕ) → Marks P (roots (Test s sense e) t f).0
  test_marks sense e h s t f = r (Test s sense e) (suits.test s sense e h) t f

  sides_marks : (v a : Exp) → L v → L a → (s t f : ℕ) → Marks P (roots (Assign s v a) t f).0
  sides_marks v a h k s t f = r (Assign s v a) (suits.assign s v a h k) t f

  variables_marks : (vs : List Variable) → OfVariables L vs → (k s f : ℕ) → Marks P (emit_variables roots vs k s f).0
  variables_marks [] h k s f = nothing
  variables_marks (Initial e ∷ vs) h k s f =
      let x = emit_variable roots (Initial e) k s f in
      joined _ _ (sides_marks e (Frame k) h.0 (suits.frame k) s 0 f) (variables_marks vs h.1 (k + 1) s x.1)
  variables_marks (Vector n ∷ vs) h k s f =
      let x = emit_variable roots (Vector n) k s f in
      joined _ _ (sides_marks (Frame (k + 1)) (Frame k) (suits.frame (k + 1)) (suits.frame k) s 0 f) (variables_marks vs h (k + cells_of (Vector n)) s x.1)

  declarations_marks : (ds : List (List Variable)) → OfDeclarations L ds → (s f : ℕ) → Marks P (emit_declarations roots ds s f).0
  declarations_marks [] h s f = nothing
  declarations_marks (vs ∷ ds) h s f =
      let n = cells_of_all vs in
      let x = emit_variables roots vs s (s + n) f in
      joined _ _ (variables_marks vs h.0 s (s + n) f) (declarations_marks ds h.1 (s + n) x.1)

  mutual
    command_marks : (c : Command) → OfCommand L c → (s : ℕ) (E : Exits) (f : ℕ) → Marks P (emit Plain roots c s E f).0
    command_marks (commands.Call e) h s E f = value_marks e h s 0 f
    command_marks (commands.Assign v a) h s E f = sides_marks v a h.0 h.1 s 0 f
    command_marks (commands.If sense e b) h s E f =
        let t = roots (Test s (not sense) e) f (f + 1) in
        joined _ _ (test_marks (not sense) e h.0 s f (f + 1)) (joined _ _ (block_marks b h.1 s E t.1) (item _))
    command_marks (commands.Test e b c) h s E f =
        let t = roots (Test s false e) f (f + 2) in
        let x = emit_block Plain roots b s E t.1 in
        joined _ _ (test_marks false e h.0 s f (f + 2)) (joined _ _ (block_marks b h.1 s E t.1)
        (plain _ _ (plain _ _ (joined _ _ (block_marks c h.2 s E x.1) (item _)))))
    command_marks (commands.While sense e b) h s E f =
        let t = roots (Test s (not sense) e) (f + 1) (f + 2) in
        plain _ _ (joined _ _ (test_marks (not sense) e h.0 s (f + 1) (f + 2))
        (joined _ _ (block_marks b h.1 s (record E { broken = f + 1; looped = f }) t.1) (plain _ _ (item _))))
    command_marks (commands.Repeat b) h s E f =
        plain _ _ (joined _ _ (block_marks b h s (record E { broken = f + 1; looped = f }) (f + 2)) (plain _ _ (item _)))
    command_marks (commands.RepeatWhile b sense e) h s E f =
        let x = emit_block Plain roots b s (record E { broken = f + 1; looped = f + 2 }) (f + 3) in
        plain _ _ (joined _ _ (block_marks b h.0 s (record E { broken = f + 1; looped = f + 2 }) (f + 3))
        (plain _ _ (joined _ _ (test_marks sense e h.1 s f x.1) (item _))))
    command_marks (commands.For start limit by b) h s E f =
        let s1 = level_in_for s in
        let i = roots (Assign s1 start (Frame s)) 0 (f + 3) in
        let n = roots (Assign s1 limit (Frame (s + 1))) 0 i.1 in
        let t = roots (Test s1 true (end_of_for by s)) (f + 1) n.1 in
        let x = emit_block Plain roots b s1 (record E { broken = f + 1; looped = f + 2 }) t.1 in
        joined _ _ (sides_marks start (Frame s) h.0 (suits.frame s) s1 0 (f + 3))
        (joined _ _ (sides_marks limit (Frame (s + 1)) h.1 (suits.frame (s + 1)) s1 0 i.1)
        (plain _ _ (joined _ _ (test_marks true (end_of_for by s) (suits.end by s) s1 (f + 1) n.1)
        (joined _ _ (block_marks b h.2 s1 (record E { broken = f + 1; looped = f + 2 }) t.1)
        (plain _ _ (joined _ _ (sides_marks (step_of_for by s) (Frame s) (suits.step by s) (suits.frame s) s1 0 x.1) (plain _ _ (item _))))))))
    command_marks (commands.SwitchOn e is) h s E f =
        let v = roots (Value s e) 0 (f + 1 + entries_in is) in
        let E1 = record E { cases = f; labels = labelled is v.1 E.labels } in
        joined _ _ (value_marks e h.0 s 0 (f + 1 + entries_in is)) (plain _ _ (plain _ _ (plain _ _ (joined (table_of Plain is (f + 1)) _ (record { each = table_marks (λ m. P m.root) is (f + 1) })
        (joined _ _ (items_marks is h.1 s E1 (f + 1) (v.1 + labels_in is)) (item _))))))
    command_marks commands.Break h s E f = item _
    command_marks commands.Loop h s E f = item _
    command_marks commands.EndCase h s E f = item _
    command_marks commands.Return h s E f = plain _ _ (item _)
    command_marks (commands.ResultIs e) h s E f = joined _ _ (value_marks e h s 0 f) (item _)
    command_marks commands.Finish h s E f = item _
    command_marks (commands.Goto l) h s E f = item _
    command_marks (commands.Nested b) h s E f = block_marks b h s E f

    block_marks : (b : Block) → OfBlock L b → (s : ℕ) (E : Exits) (f : ℕ) → Marks P (emit_block Plain roots b s E f).0
    block_marks (block ds is) h s E f =
        let d = emit_declarations roots ds s (f + labels_in is) in
        joined _ _ (declarations_marks ds h.0 s (f + labels_in is)) (items_marks is h.1 (s + cells_declared ds) (record E { labels = labelled is f E.labels }) 0 d.1)

    items_marks : (is : Items) → OfItems L is → (s : ℕ) (E : Exits) (first f : ℕ) → Marks P (emit_items Plain roots is s E first f).0
    items_marks no_item h s E first f = nothing
    items_marks (command c is) h s E first f =
        let x = emit Plain roots c s E f in
        joined _ _ (command_marks c h.0 s E f) (items_marks is h.1 s E first x.1)
    items_marks (case v is) h s E first f = plain _ _ (items_marks is h s E (first + 1) f)
    items_marks (default is) h s E first f = plain _ _ (items_marks is h s E (first + 1) f)
    items_marks (label l is) h s E first f = plain _ _ (items_marks is h s E first f)

  body_marks : (b : Body) → OfBody L b → (s f : ℕ) → Marks P (emit_body Plain roots b s f).0
  body_marks (Gives e) h s f = joined _ _ (value_marks e h s 0 f) (item _)
  body_marks (Does b) h s f = joined _ _ (block_marks b h s (body_exits 0) f) (plain _ _ (item _))

  routines_marks : (j : ℕ) (ps : List Place) → OfPlaces L ps → (f : ℕ) → Marks P (emit_routines Plain roots j ps f).0
  routines_marks j [] h f = nothing
  routines_marks j (commands.Code p ∷ ps) h f =
      let x = emit_body Plain roots p.body (level_after_parameters p.parameters) f in
      plain _ _ (joined _ _ (body_marks p.body h.0 (level_after_parameters p.parameters) f) (routines_marks (j + 1) ps h.1 x.1))
  routines_marks j (commands.Static w ∷ ps) h f = routines_marks (j + 1) ps h f
  routines_marks j (commands.Table ws ∷ ps) h f = routines_marks (j + 1) ps h f
  routines_marks j (commands.Text bytes ∷ ps) h f = routines_marks (j + 1) ps h f

-- VALOFs

abbrev AllMark : (Root → Type 0) → BodiesCode Marked → Type 0
AllMark P bodies = (n s l f : ℕ) → Marks P (bodies n s l f).0

either_marks : {P : Root → Type 0} (t : Bool) (x y : Code Marked) → Marks P x.0 → Marks P y.0 → Marks P (let z : Code Marked = elim t [ true ↦ x | false ↦ y ] in z.0)
either_marks true x y p q = p
either_marks false x y p q = q

module _ {P : Root → Type 0} {L : Exp → Type 0} (suits : Suits P L) (coding : Coding) (levels : ℕ → ℕ) where
  fill_marks : (bodies : BodiesCode Marked) → AllMark P bodies → (ps : List Piece) (f : ℕ) → Marks P (fill Plain levels bodies ps f).0
  fill_marks bodies h [] f = nothing
  fill_marks bodies h (pieces.Item i ∷ ps) f = plain _ _ (fill_marks bodies h ps f)
  fill_marks bodies h (pieces.Body n ∷ ps) f =
      let b = bodies n (levels n) (label_ahead ps) f in
      joined _ _ (h n (levels n) (label_ahead ps) f) (fill_marks bodies h ps b.1)

  roots_marks : (bodies : BodiesCode Marked) → AllMark P bodies → AreMarked P (marked_over coding levels bodies)
  roots_marks bodies h r p t f =
      let k = fill_marks bodies h (coding.pieces r t f) (f + coding.labels r) in
      record { each = (p, k.each) }

  bodies_marks : (first : ℕ) (vs : List Valof) → OfValofs L vs → AllMark P (bodies_from Plain (marked_over coding levels) first vs)
  bodies_marks first [] h n s l f = nothing
  bodies_marks first (v ∷ vs) h n s l f =
      let inner = bodies_from Plain (marked_over coding levels) (first + 1) vs in
      let k = bodies_marks (first + 1) vs h.1 in
      let roots = marked_over coding levels inner in
      either_marks (n == first) (emit_valof Plain roots v.body n s l f) (inner n s l f)
      (joined (emit_block Plain roots v.body s (body_exits l) f).0 (Plain zero_item ∷ []) (block_marks suits roots (roots_marks inner k) v.body h.0 s (body_exits l) f) (item _))
      (k n s l f)

-- Sections

pub all_roots : (P : Root → Type 0) (L : Exp → Type 0) → Suits P L → (coding : Coding) (core : Core) → OfPlaces L core.places → OfValofs L core.valofs → AllByRecursion P (section_roots coding core)
all_roots P L suits coding core places valofs =
    let levels = level_of core.valofs in
    let inner = bodies_from Plain (marked_over coding levels) 0 core.valofs in
    let all = roots_marks suits coding levels inner (bodies_marks suits coding levels 0 core.valofs valofs) in
    let marks = routines_marks suits (marked_over coding levels inner) all 0 core.places places (length core.places + 1) in
    roots_of_entries P (section_entries coding core) (entries_of_marks (λ m. P m.root) (λ e. P e.root) (λ k m h. h) 0 (marked_code coding core) marks.each)
