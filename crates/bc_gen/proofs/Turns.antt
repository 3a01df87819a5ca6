-- One iteration of each loop.
use Rattle.std.proofs.Common.{ℕ, zero, suc, subst, arith, ◌+◌, ◌<◌, ◌≡◌, List, [], ◌∷◌, ◌++◌, map, drop, length, get_or, refl, ap, sym, ◌∙◌, ◌≤◌, append_assoc, add_assoc, add-zero, drop_of_length-le}
use Rattle.std.proofs.lemmas.List.{drop_more}
use Rattle.bc_core.specs.declared.command.ListItem.{ListItem}
use Rattle.bc_core.specs.declared.command.ListItem.TheVariants as entries
use Rattle.bc_core.specs.declared.command.Declaration.{Declaration}
use Rattle.bc_core.specs.declared.command.Variable.{Variable}
use Rattle.bc_core.specs.Tree.{Exp, Frame, Assign}
use Rattle.bc_core.specs.Commands as commands
use Rattle.bc_core.specs.Commands.{Items, no_item}
use Rattle.bc_core.specs.Level.{cells_of, cells_of_all, cells_declared}
use Rattle.bc_core.specs.View.{items, items_before, command, variable, declarations}
use Rattle.bc_rules_defs.specs.declared.piece.Piece.{Piece}
use Rattle.bc_rules_defs.specs.declared.piece.Piece.TheVariants as pieces
use Rattle.bc_gen_defs.specs.Emit.{Code, Roots, Exits, emit, emit_items, emit_variable, emit_variables, emit_declarations, entries_in}
use Rattle.bc_gen_defs.specs.Bodies.{BodiesCode, fill, label_ahead}
use Rattle.bc_gen_defs.specs.Entries.{Marked, Plain, count_items}
use Rattle.bc_gen.specs.Room.{Bodies, VariablesHaveRoom, DeclarationsHaveRoom, ItemsHaveRoom}
use Rattle.bc_gen.specs.Surroundings.{initial_of, next_entry, one_piece}
use Rattle.bc_gen.specs.declared.writer.Writer.{Writer}
use Rattle.bc_gen.proofs.Forms.{there, Wrote}

append_nothing : (xs : List Marked) → xs ++ [] ≡ xs
append_nothing [] = refl
append_nothing (x ∷ xs) = ap (λ (ys : List Marked). x ∷ ys) (append_nothing xs)

-- the first item, and then the others
pub item_first : (roots : Roots Marked) (x : ListItem) (is : Items) (s : ℕ) (E : Exits) (first f : ℕ)
    → emit_items Plain roots (items_before x is) s E first f
    ≡ (let y = emit_items Plain roots (items_before x no_item) s E first f in let z = emit_items Plain roots is s E (next_entry x first) y.1 in let whole : Code Marked = (y.0 ++ z.0, z.1) in whole)
item_first roots (entries.Command c) is s E first f =
    let y = emit Plain roots (command c) s E f in
    ap (λ (ys : List Marked). let whole : Code Marked = (ys ++ (emit_items Plain roots is s E first y.1).0, (emit_items Plain roots is s E first y.1).1) in whole) (sym (append_nothing y.0))
item_first roots (entries.Case k) is s E first f = refl
item_first roots entries.Default is s E first f = refl
item_first roots (entries.Label l) is s E first f = refl

pub list_turn : (roots : Roots Marked) (s : ℕ) (E : Exits) (xs : List ListItem) (i : ℕ) (x : ListItem) (first first1 : ℕ) (w0 w w1 : Writer) (whole : Code Marked)
    → i < length xs → x ≡ get_or xs i x → first1 ≡ next_entry x first → Wrote w w1 (emit_items Plain roots (items_before x no_item) s E first w.next)
    → (there w ++ (emit_items Plain roots (items (drop i xs)) s E first w.next).0 ≡ there w0 ++ whole.0) × ((emit_items Plain roots (items (drop i xs)) s E first w.next).1 ≡ whole.1)
    → (there w1 ++ (emit_items Plain roots (items (drop (i + 1) xs)) s E first1 w1.next).0 ≡ there w0 ++ whole.0) × ((emit_items Plain roots (items (drop (i + 1) xs)) s E first1 w1.next).1 ≡ whole.1)
list_turn roots s E xs i x first first1 w0 w w1 whole h g en wrote inv =
    let y = emit_items Plain roots (items_before x no_item) s E first w.next in
    let z = emit_items Plain roots (items (drop (i + 1) xs)) s E (next_entry x first) y.1 in
    let d : drop i xs ≡ x ∷ drop (i + 1) xs = drop_more xs i x h ∙ ap (λ (v : ListItem). v ∷ drop (i + 1) xs) (sym g) in
    let e = ap (λ (ys : List ListItem). emit_items Plain roots (items ys) s E first w.next) d ∙ item_first roots x (items (drop (i + 1) xs)) s E first w.next in
    rw (wrote.0, wrote.1, en) (
      append_assoc (there w) y.0 z.0 ∙ sym (ap (λ (c : Code Marked). there w ++ c.0) e) ∙ inv.0,
      sym (ap (λ (c : Code Marked). c.1) e) ∙ inv.1,
    )

pub declarations_turn : (roots : Roots Marked) (xs : List Declaration) (i : ℕ) (x : Declaration) (l l1 cells l0 : ℕ) (w0 w w1 : Writer) (whole : Code Marked)
    → i < length xs → x ≡ get_or xs i x → cells ≡ cells_of_all (map variable x.variables.items) → l1 ≡ l + cells
    → Wrote w w1 (emit_variables roots (map variable x.variables.items) l l1 w.next)
    → (there w ++ (emit_declarations roots (declarations (drop i xs)) l w.next).0 ≡ there w0 ++ whole.0) × ((emit_declarations roots (declarations (drop i xs)) l w.next).1 ≡ whole.1) × (l + cells_declared (declarations (drop i xs)) ≡ l0)
    → (there w1 ++ (emit_declarations roots (declarations (drop (i + 1) xs)) l1 w1.next).0 ≡ there w0 ++ whole.0) × ((emit_declarations roots (declarations (drop (i + 1) xs)) l1 w1.next).1 ≡ whole.1) × (l1 + cells_declared (declarations (drop (i + 1) xs)) ≡ l0)
declarations_turn roots xs i x l l1 cells l0 w0 w w1 whole h g ec el wrote inv =
    let k = cells_of_all (map variable x.variables.items) in
    let y = emit_variables roots (map variable x.variables.items) l (l + k) w.next in
    let z = emit_declarations roots (declarations (drop (i + 1) xs)) (l + k) y.1 in
    let d : drop i xs ≡ x ∷ drop (i + 1) xs = drop_more xs i x h ∙ ap (λ (v : Declaration). v ∷ drop (i + 1) xs) (sym g) in
    let e = ap (λ (ys : List Declaration). emit_declarations roots (declarations ys) l w.next) d in
    let n = cells_declared (declarations (drop (i + 1) xs)) in
    let c = ap (λ (ys : List Declaration). l + cells_declared (declarations ys)) d in
    rw (wrote.0, wrote.1, el, ec) (
      append_assoc (there w) y.0 z.0 ∙ sym (ap (λ (p : Code Marked). there w ++ p.0) e) ∙ inv.0,
      sym (ap (λ (p : Code Marked). p.1) e) ∙ inv.1,
      add_assoc l k n ∙ sym c ∙ inv.2,
    )

-- the initial value of a variable
pub variable_emitted : (roots : Roots Marked) (v : commands.Variable) (k s f : ℕ) → emit_variable roots v k s f ≡ roots (Assign s (initial_of v k) (Frame k)) 0 f
variable_emitted roots (commands.Initial e) k s f = refl
variable_emitted roots (commands.Vector n) k s f = refl

pub variables_turn : (roots : Roots Marked) (s : ℕ) (xs : List Variable) (i : ℕ) (x : Variable) (e : Exp) (k k1 cells : ℕ) (w0 w w1 : Writer) (whole : Code Marked)
    → i < length xs → x ≡ get_or xs i x → e ≡ initial_of (variable x) k → cells ≡ cells_of (variable x) → k1 ≡ k + cells
    → Wrote w w1 (roots (Assign s e (Frame k)) 0 w.next)
    → (there w ++ (emit_variables roots (map variable (drop i xs)) k s w.next).0 ≡ there w0 ++ whole.0) × ((emit_variables roots (map variable (drop i xs)) k s w.next).1 ≡ whole.1)
    → (there w1 ++ (emit_variables roots (map variable (drop (i + 1) xs)) k1 s w1.next).0 ≡ there w0 ++ whole.0) × ((emit_variables roots (map variable (drop (i + 1) xs)) k1 s w1.next).1 ≡ whole.1)
variables_turn roots s xs i x e k k1 cells w0 w w1 whole h g ee ec ek wrote inv =
    let y = emit_variable roots (variable x) k s w.next in
    let z = emit_variables roots (map variable (drop (i + 1) xs)) (k + cells_of (variable x)) s y.1 in
    let d : drop i xs ≡ x ∷ drop (i + 1) xs = drop_more xs i x h ∙ ap (λ (v : Variable). v ∷ drop (i + 1) xs) (sym g) in
    let q = ap (λ (ys : List Variable). emit_variables roots (map variable ys) k s w.next) d in
    let set = sym (variable_emitted roots (variable x) k s w.next) in
    rw (wrote.0, wrote.1, ek, ec, ee, set) (
      append_assoc (there w) y.0 z.0 ∙ sym (ap (λ (p : Code Marked). there w ++ p.0) q) ∙ inv.0,
      sym (ap (λ (p : Code Marked). p.1) q) ∙ inv.1,
    )

abbrev pub Filled : Type 0
Filled = List Marked × ℕ × List (List Marked)

-- the first piece, and then the others
pub piece_first : (levels : ℕ → ℕ) (bodies : BodiesCode Marked) (p : Piece) (ps : List Piece) (f : ℕ)
    → fill Plain levels bodies (p ∷ ps) f
    ≡ (let y = one_piece levels bodies p (label_ahead ps) f in let z = fill Plain levels bodies ps y.1 in let whole : Filled = (y.0 ++ z.0, z.1, y.2 ++ z.2) in whole)
piece_first levels bodies (pieces.Item i) ps f = refl
piece_first levels bodies (pieces.Body n) ps f = refl

map_append : (xs ys : List (List Marked)) → map count_items (xs ++ ys) ≡ map count_items xs ++ map count_items ys
map_append [] ys = refl
map_append (x ∷ xs) ys = ap (λ (ns : List ℕ). count_items x ∷ ns) (map_append xs ys)

pub fill_turn : (levels : ℕ → ℕ) (bodies : BodiesCode Marked) (ps : List Piece) (i : ℕ) (p : Piece) (l : ℕ) (bs bs1 : List ℕ) (w0 w w1 : Writer) (whole : Filled)
    → i < length ps → p ≡ get_or ps i p → l ≡ label_ahead (drop (i + 1) ps)
    → (let y = one_piece levels bodies p l w.next in Wrote w w1 (y.0, y.1) × (bs1 ≡ bs ++ map count_items y.2))
    → (let x = fill Plain levels bodies (drop i ps) w.next in (there w ++ x.0 ≡ there w0 ++ whole.0) × (x.1 ≡ whole.1) × (bs ++ map count_items x.2 ≡ map count_items whole.2))
    → (let x = fill Plain levels bodies (drop (i + 1) ps) w1.next in (there w1 ++ x.0 ≡ there w0 ++ whole.0) × (x.1 ≡ whole.1) × (bs1 ++ map count_items x.2 ≡ map count_items whole.2))
fill_turn levels bodies ps i p l bs bs1 w0 w w1 whole h g el made inv =
    let y = one_piece levels bodies p (label_ahead (drop (i + 1) ps)) w.next in
    let z = fill Plain levels bodies (drop (i + 1) ps) y.1 in
    let d : drop i ps ≡ p ∷ drop (i + 1) ps = drop_more ps i p h ∙ ap (λ (v : Piece). v ∷ drop (i + 1) ps) (sym g) in
    let e = ap (λ (qs : List Piece). fill Plain levels bodies qs w.next) d ∙ piece_first levels bodies p (drop (i + 1) ps) w.next in
    rw (made.0.0, made.0.1, made.1, el) (
      append_assoc (there w) y.0 z.0 ∙ sym (ap (λ (c : Filled). there w ++ c.0) e) ∙ inv.0,
      sym (ap (λ (c : Filled). c.1) e) ∙ inv.1,
      append_assoc bs (map count_items y.2) (map count_items z.2) ∙ ap (λ (ns : List ℕ). bs ++ ns) (sym (map_append y.2 z.2)) ∙ sym (ap (λ (c : Filled). bs ++ map count_items c.2) e) ∙ inv.2,
    )

pub declarations_end : (xs : List Declaration) (i l l0 : ℕ) → length xs ≤ i → l + cells_declared (declarations (drop i xs)) ≡ l0 → l ≡ l0
declarations_end xs i l l0 h e = sym (add-zero l) ∙ sym (ap (λ (ys : List Declaration). l + cells_declared (declarations ys)) (drop_of_length-le xs h)) ∙ e

-- what the parts of a loop's list need
first_room : (B : Bodies) (x : ListItem) (is : Items) (s : ℕ) → ItemsHaveRoom B (items_before x is) s → ItemsHaveRoom B (items_before x no_item) s × ItemsHaveRoom B is s
first_room B (entries.Command c) is s r = ((r.0, tt), r.1)
first_room B (entries.Case k) is s r = (tt, r)
first_room B entries.Default is s r = (tt, r)
first_room B (entries.Label l) is s r = (tt, r)

pub item_room : (B : Bodies) (xs : List ListItem) (i : ℕ) (x : ListItem) (s : ℕ) → i < length xs → x ≡ get_or xs i x → ItemsHaveRoom B (items xs) s
    → ItemsHaveRoom B (items_before x no_item) s
item_room B xs i x s h e r = subst (λ (y : ListItem). ItemsHaveRoom B (items_before y no_item) s) (sym e) (at xs i h r)
  where
    at : (xs : List ListItem) (i : ℕ) → i < length xs → ItemsHaveRoom B (items xs) s → ItemsHaveRoom B (items_before (get_or xs i x) no_item) s
    at [] i h r = absurd (omega (arith, h))
    at (y ∷ xs) zero h r = (first_room B y (items xs) s r).0
    at (y ∷ xs) (suc i) h r = let g : i < length xs = omega (arith, h) in at xs i g (first_room B y (items xs) s r).1

first_entry : (x : ListItem) (is : Items) (f : ℕ) → f + entries_in (items_before x is) ≡ next_entry x f + entries_in is
first_entry (entries.Command c) is f = refl
first_entry (entries.Case k) is f = omega arith
first_entry entries.Default is f = omega arith
first_entry (entries.Label l) is f = refl

pub entries_turn : (xs : List ListItem) (i : ℕ) (x : ListItem) (f : ℕ) → i < length xs → x ≡ get_or xs i x
    → f + entries_in (items (drop i xs)) ≡ next_entry x f + entries_in (items (drop (i + 1) xs))
entries_turn xs i x f h e =
    let d : drop i xs ≡ x ∷ drop (i + 1) xs = drop_more xs i x h ∙ ap (λ (v : ListItem). v ∷ drop (i + 1) xs) (sym e) in
    ap (λ (ys : List ListItem). f + entries_in (items ys)) d ∙ first_entry x (items (drop (i + 1) xs)) f

pub declaration_room : (B : Bodies) (xs : List Declaration) (i : ℕ) (x : Declaration) (l : ℕ) → i < length xs → x ≡ get_or xs i x
    → DeclarationsHaveRoom B (declarations (drop i xs)) l → DeclarationsHaveRoom B (map variable x.variables.items ∷ declarations (drop (i + 1) xs)) l
declaration_room B xs i x l h e r =
    let d : drop i xs ≡ x ∷ drop (i + 1) xs = drop_more xs i x h ∙ ap (λ (v : Declaration). v ∷ drop (i + 1) xs) (sym e) in
    subst (λ (ys : List Declaration). DeclarationsHaveRoom B (declarations ys) l) d r

pub variable_room : (B : Bodies) (xs : List Variable) (i : ℕ) (x : Variable) (k s : ℕ) → i < length xs → x ≡ get_or xs i x
    → VariablesHaveRoom B (map variable (drop i xs)) k s → VariablesHaveRoom B (variable x ∷ map variable (drop (i + 1) xs)) k s
variable_room B xs i x k s h e r =
    let d : drop i xs ≡ x ∷ drop (i + 1) xs = drop_more xs i x h ∙ ap (λ (v : Variable). v ∷ drop (i + 1) xs) (sym e) in
    subst (λ (ys : List Variable). VariablesHaveRoom B (map variable ys) k s) d r

pub cells_turn : (xs : List Variable) (i : ℕ) (x : Variable) → i < length xs → x ≡ get_or xs i x
    → cells_of_all (map variable (drop i xs)) ≡ cells_of (variable x) + cells_of_all (map variable (drop (i + 1) xs))
cells_turn xs i x h e =
    let d : drop i xs ≡ x ∷ drop (i + 1) xs = drop_more xs i x h ∙ ap (λ (v : Variable). v ∷ drop (i + 1) xs) (sym e) in
    ap (λ (ys : List Variable). cells_of_all (map variable ys)) d
