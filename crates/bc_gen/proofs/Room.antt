-- The code of a core has room: its frames have at most 32,768 cells, its roots at most 2^20 nodes.
use Rattle.std.proofs.Common.{◌≡◌, ◌∙◌, ℕ, zero, suc, ◌+◌, ◌^◌, ◌≤◌, ◌<◌, ◌==◌, ◌&&◌, not, max, cond, Bool, true, false, List, [], ◌∷◌, Option, Some, None, refl, ap, sym, subst, arith, length, get_or, map}
use Rattle.std.specs.Prelude.{slice_get, nat_le, IfSome}
use Rattle.std.specs.List.{All}
use Rattle.std.proofs.lemmas.Bool.{eqb-true, leb-true, le-leb, ltb-true}
use Rattle.std.proofs.Math.ListN.{get_or-map}
use Rattle.std.proofs.lemmas.List.{length-map}
use Rattle.std.proofs.lemmas.List.Elements.{All-nil, All-cons, All-get_or}
use Rattle.bc_core.specs.declared.command.Place as code
use Rattle.bc_core.specs.View.{place_of}
use Rattle.bc_core.specs.Tree.{Exp, Num, Frame, Glob, Place, Load, Neg, Not, Bin, Cond, Call, Args, no_argument, argument, count, Root, Value, Test, Assign}
use Rattle.bc_core.specs.Tree as tree
use Rattle.bc_core.specs.Commands.{Variable, Initial, Vector, Command, Block, block, Items, no_item, command, case, default, label, Body, Gives, Does, Valof, Core}
use Rattle.bc_core.specs.Commands as commands
use Rattle.bc_core.specs.Command.{step_of_for}
use Rattle.bc_core.specs.Level.{side_level, cells_of_all, cells_declared, level_in_for, level_after_parameters}
use Rattle.bc_core.specs.Operand.{is_operand}
use Rattle.bc_core.specs.Layout.{Bodies as Cells, cells_of_exp, cells_of_args, cells_of_assignment, cells_of_initials, cells_of_declarations, cells_of_command, cells_of_block, cells_of_items, cells_of_valofs, cells_of_body, frame_size}
use Rattle.bc_core.specs.WellFormed.{nodes, entries_differ, most_nodes, Around, stands_at, exp_fits, args_fit, root_fits, assignment_fits, variables_fit, declarations_fit, Jumps, in_a_loop, in_list, jumps_in_routine, jumps_in_valof, has_entries, are_distinct, labels_of, command_fits, block_fits, items_fit, body_fits, place_fits, places_fit, valofs_fit, is_core, global_fits}
use Rattle.bc_rules_defs.specs.declared.rule.Table.TheVariants.{Two}
use Rattle.bc_rules_defs.specs.declared.piece.Piece.{Piece}
use Rattle.bc_rules_defs.specs.declared.piece.Piece.TheVariants as pieces
use Rattle.bc_rules_defs.proofs.Bodies.{of_bodies, root_weighs}
use Rattle.bc_select_defs.specs.LeastDerivation.{least_derivation}
use Rattle.bc_gen_defs.specs.Bodies.{level_of}
use Rattle.bc_gen_defs.specs.Emit.{entries_in, end_of_for}
use Rattle.bc_gen_defs.specs.Size.{words_within, words_within_args, words_within_root}
use Rattle.bc_gen_laws.proofs.size_lemmas.Within.{within, root_within}
use Rattle.bc_gen.specs.Chosen.{coding}
use Rattle.bc_gen.specs.Room.{Bodies, PieceHasRoom, RootHasRoom, VariablesHaveRoom, DeclarationsHaveRoom, CommandHasRoom, BlockHasRoom, ItemsHaveRoom, ValofHasRoom, BodyHasRoom, RoutineHasRoom, SettingHasRoom, StringHasRoom}

both_true : (a b : Bool) → (a && b) ≡ true → (a ≡ true) × (b ≡ true)
both_true true b e = (refl, e)
both_true false b e = absurd (let f : false ≡ true = e in cc)

-- the greatest number of cells of a frame
abbrev most : ℕ
most = 32768

of_two : (a b n : ℕ) → max a b ≤ n → (a ≤ n) × (b ≤ n)
of_two a b n h = (omega (arith, h), omega (arith, h))

-- the context of a body has the levels of the section's VALOFs
abbrev Agrees : (ℕ → ℕ) → Around → Type 0
Agrees levels A = (n s : ℕ) → stands_at (slice_get A.levels n) s ≡ true → levels n ≡ s

-- without the bodies of its VALOFs, a root uses no more cells than with them
mutual
  own_cells : (V : Cells) (e : Exp) (s : ℕ) → cells_of_exp (λ n s. 0) e s ≤ cells_of_exp V e s
  own_cells V (Load e) s = own_cells V e s
  own_cells V (Neg e) s = own_cells V e s
  own_cells V (Not e) s = own_cells V e s
  own_cells V (Bin op a b) s = let h = own_cells V a (s + 1) in let k = own_cells V b (s + 1) in omega (arith, h, k)
  own_cells V (Cond c x y) s = let h = own_cells V c s in let k = own_cells V x s in let l = own_cells V y s in omega (arith, h, k, l)
  own_cells V (Call es f) s = let h = own_cells_of_all V es (s + 2) in let k = own_cells V f (s + 2 + count es) in omega (arith, h, k)
  own_cells V (tree.Valof n) s = omega arith
  own_cells V (Num n) s = omega arith
  own_cells V (Frame n) s = omega arith
  own_cells V (Glob n) s = omega arith
  own_cells V (Place n) s = omega arith

  own_cells_of_all : (V : Cells) (es : Args) (s : ℕ) → cells_of_args (λ n s. 0) es s ≤ cells_of_args V es s
  own_cells_of_all V no_argument s = omega arith
  own_cells_of_all V (argument e es) s = let h = own_cells V e s in let k = own_cells_of_all V es (s + 1) in omega (arith, h, k)

-- a VALOF counts 1 if its body, at its level, takes more cells than a frame may have
abbrev broken : Bool → ℕ
broken t = cond t 0 1

abbrev over : Cells → (ℕ → ℕ) → ℕ → ℕ
over V levels n = broken (nat_le (V n (levels n)) most)

kept : (t : Bool) → t ≡ true → broken t ≡ 0
kept true h = refl
kept false h = absurd (let f : false ≡ true = h in cc)

is_kept : (t : Bool) → broken t ≡ 0 → t ≡ true
is_kept true h = refl
is_kept false h = absurd (omega (arith, h))

-- a block's list has neither CASE nor DEFAULT
no_entries : (is : Items) → not (has_entries is) ≡ true → entries_in is ≡ 0
no_entries no_item h = refl
no_entries (command c is) h = no_entries is h
no_entries (case k is) h = absurd (let f : false ≡ true = h in cc)
no_entries (default is) h = absurd (let f : false ≡ true = h in cc)
no_entries (label l is) h = no_entries is h

module _ (V : Cells) (levels : ℕ → ℕ) (A : Around) (agrees : Agrees levels A) (B : Bodies) (good : (n : ℕ) → V n (levels n) ≤ most → B n) where
  pieces_have : (ps : List Piece) → of_bodies (within (over V levels)) ps ≡ 0 → All (PieceHasRoom B) ps
  pieces_have [] h = All-nil (PieceHasRoom B)
  pieces_have (pieces.Item i ∷ ps) h = All-cons (PieceHasRoom B) (pieces.Item i) ps tt (pieces_have ps h)
  pieces_have (pieces.Body n ∷ ps) h =
      let own : over V levels n ≡ 0 = omega (arith, h) in
      let rest : of_bodies (within (over V levels)) ps ≡ 0 = omega (arith, h) in
      All-cons (PieceHasRoom B) (pieces.Body n) ps (good n (leb-true _ _ (is_kept (nat_le (V n (levels n)) most) own))) (pieces_have ps rest)

  bodies_have : (r : Root) → words_within_root (over V levels) r ≡ 0 → (t f : ℕ) → All (PieceHasRoom B) (coding.pieces r t f)
  unfolding coding
  bodies_have r h t f =
      let d = least_derivation Two r in
      pieces_have _ (sym (root_weighs (within (over V levels)) d t f) ∙ root_within (over V levels) r ∙ h)

  mutual
    within_bound : (e : Exp) (s : ℕ) → exp_fits A e s ≡ true → cells_of_exp V e s ≤ most → words_within (over V levels) e ≡ 0
    within_bound (Load e) s h c = within_bound e s h c
    within_bound (Neg e) s h c = within_bound e s h c
    within_bound (Not e) s h c = within_bound e s h c
    within_bound (Bin op a b) s h c =
        let k = both_true (exp_fits A a (s + 1)) (exp_fits A b (s + 1)) h in
        let l = of_two _ _ most (of_two (s + 2) _ most c).1 in
        let x = within_bound a (s + 1) k.0 l.0 in let y = within_bound b (s + 1) k.1 l.1 in omega (arith, x, y)
    within_bound (Cond c x y) s h m =
        let k = both_true (exp_fits A c s && exp_fits A x s) (exp_fits A y s) h in
        let l = both_true (exp_fits A c s) (exp_fits A x s) k.0 in
        let n = of_two _ _ most m in
        let o = of_two _ _ most n.1 in
        let p = within_bound c s l.0 n.0 in let q = within_bound x s l.1 o.0 in let r = within_bound y s k.1 o.1 in omega (arith, p, q, r)
    within_bound (Call es f) s h c =
        let k = both_true (args_fit A es (s + 2)) (exp_fits A f (s + 2 + count es)) h in
        let l = of_two _ _ most (of_two (s + 2 + count es) _ most c).1 in
        let x = all_within_bound es (s + 2) k.0 l.0 in let y = within_bound f (s + 2 + count es) k.1 l.1 in omega (arith, x, y)
    within_bound (tree.Valof n) s h c =
        let k = both_true (nat_le A.first n) (stands_at (slice_get A.levels n) s) h in
        let e : V n (levels n) ≤ most = subst (λ (l : ℕ). V n l ≤ most) (sym (agrees n s k.1)) c in
        kept _ (le-leb _ _ e)
    within_bound (Num n) s h c = refl
    within_bound (Frame n) s h c = refl
    within_bound (Glob n) s h c = refl
    within_bound (Place n) s h c = refl

    all_within_bound : (es : Args) (s : ℕ) → args_fit A es s ≡ true → cells_of_args V es s ≤ most → words_within_args (over V levels) es ≡ 0
    all_within_bound no_argument s h c = refl
    all_within_bound (argument e es) s h c =
        let k = both_true (exp_fits A e s) (args_fit A es (s + 1)) h in
        let l = of_two _ _ most c in
        let x = within_bound e s k.0 l.0 in let y = all_within_bound es (s + 1) k.1 l.1 in omega (arith, x, y)

  few : (n : ℕ) → nat_le n most_nodes ≡ true → n ≤ 2 ^ 32
  few n h = let k = leb-true n most_nodes h in omega (arith, k)

  within_word : (n m : ℕ) → n ≤ m → m ≤ most → n ≤ 65536
  within_word n m h k = omega arith

  value_has : (e : Exp) (s : ℕ) → root_fits A e s ≡ true → cells_of_exp V e s ≤ most → RootHasRoom B (Value s e)
  value_has e s h c =
      let k = both_true (nat_le (nodes e) most_nodes) (exp_fits A e s) h in
      record { nodes = few _ k.0; cells = within_word _ _ (own_cells V e s) c; bodies = bodies_have (Value s e) (within_bound e s k.1 c) }

  test_has : (sense : Bool) (e : Exp) (s : ℕ) → root_fits A e s ≡ true → cells_of_exp V e s ≤ most → RootHasRoom B (Test s sense e)
  test_has sense e s h c =
      let k = both_true (nat_le (nodes e) most_nodes) (exp_fits A e s) h in
      record { nodes = few _ k.0; cells = within_word _ _ (own_cells V e s) c; bodies = bodies_have (Test s sense e) (within_bound e s k.1 c) }

  assignment_has : (v a : Exp) (s : ℕ) → assignment_fits A v a s ≡ true → cells_of_assignment V v a s ≤ most → RootHasRoom B (Assign s v a)
  assignment_has v a s h c =
      let s1 = side_level a s in
      let k = both_true (nat_le (nodes v + nodes a) most_nodes && exp_fits A v s1) (exp_fits A a s1) h in
      let l = both_true (nat_le (nodes v + nodes a) most_nodes) (exp_fits A v s1) k.0 in
      let m = of_two (cond (is_operand a) 0 (s + 2)) _ most c in
      let n = of_two _ _ most m.1 in
      let x = within_bound v s1 l.1 n.0 in let y = within_bound a s1 k.1 n.1 in
      let p = own_cells V v s1 in let q = own_cells V a s1 in
      let o = m.0 in let i = n.0 in let j = n.1 in
      record { nodes = few _ l.0; cells = omega (arith, o, i, j, p, q); bodies = bodies_have (Assign s v a) (omega (arith, x, y)) }

  -- the sides of an assignment to a cell are at its own level
  set_has : (v : Exp) (k s : ℕ) → assignment_fits A v (Frame k) s ≡ true → cells_of_exp V v s ≤ most → RootHasRoom B (Assign s v (Frame k))
  set_has v k s h c = assignment_has v (Frame k) s h (omega (arith, c))

  -- the roots that contain no expression of the source
  vector_has : (k s : ℕ) → RootHasRoom B (Assign s (Frame (k + 1)) (Frame k))
  vector_has k s = record { nodes = omega arith; cells = omega arith; bodies = bodies_have (Assign s (Frame (k + 1)) (Frame k)) refl }

  end_has : (by s : ℕ) → s + 4 ≤ most → RootHasRoom B (Test (s + 2) true (end_of_for by s))
  end_has by s h = record { nodes = omega arith; cells = omega (arith, h); bodies = bodies_have (Test (s + 2) true (end_of_for by s)) refl }

  step_has : (by s : ℕ) → s + 4 ≤ most → RootHasRoom B (Assign (s + 2) (step_of_for by s) (Frame s))
  step_has by s h = record { nodes = omega arith; cells = omega (arith, h); bodies = bodies_have (Assign (s + 2) (step_of_for by s) (Frame s)) refl }

  variables_have : (vs : List Variable) (k s : ℕ) → variables_fit A vs k s ≡ true → cells_of_initials V vs s ≤ most → VariablesHaveRoom B vs k s
  variables_have [] k s h c = tt
  variables_have (Initial e ∷ vs) k s h c =
      let l = both_true (assignment_fits A e (Frame k) s) (variables_fit A vs (k + 1) s) h in
      let m = of_two _ _ most c in
      (set_has e k s l.0 m.0, variables_have vs (k + 1) s l.1 m.1)
  variables_have (Vector n ∷ vs) k s h c = (vector_has k s, variables_have vs (k + (n + 2)) s h (of_two 0 _ most c).1)

  declarations_have : (ds : List (List Variable)) (s : ℕ) → declarations_fit A ds s ≡ true → cells_of_declarations V ds s ≤ most → DeclarationsHaveRoom B ds s
  declarations_have [] s h c = tt
  declarations_have (vs ∷ ds) s h c =
      let s1 = s + cells_of_all vs in
      let l = both_true (variables_fit A vs s s1) (declarations_fit A ds s1) h in
      let m = of_two s1 _ most c in
      let n = of_two _ _ most m.1 in
      let o = m.0 in
      (omega (arith, o), variables_have vs s s1 l.0 n.0, declarations_have ds s1 l.1 n.1)

  mutual
    command_has : (J : Jumps) (c : Command) (s : ℕ) → command_fits A J c s ≡ true → cells_of_command V c s ≤ most → CommandHasRoom B c s
    command_has J (commands.Call e) s h m = value_has e s h m
    command_has J (commands.Assign v a) s h m = assignment_has v a s h m
    command_has J (commands.If sense e b) s h m =
        let k = both_true (root_fits A e s) (block_fits A J b s) h in
        let n = of_two _ _ most m in
        (test_has (not sense) e s k.0 n.0, block_has J b s k.1 n.1)
    command_has J (commands.Test e b c) s h m =
        let k = both_true (root_fits A e s && block_fits A J b s) (block_fits A J c s) h in
        let l = both_true (root_fits A e s) (block_fits A J b s) k.0 in
        let n = of_two _ _ most m in
        let o = of_two _ _ most n.1 in
        (test_has false e s l.0 n.0, block_has J b s l.1 o.0, block_has J c s k.1 o.1)
    command_has J (commands.While sense e b) s h m =
        let k = both_true (root_fits A e s) (block_fits A (in_a_loop J) b s) h in
        let n = of_two _ _ most m in
        (test_has (not sense) e s k.0 n.0, block_has (in_a_loop J) b s k.1 n.1)
    command_has J (commands.Repeat b) s h m = block_has (in_a_loop J) b s h m
    command_has J (commands.RepeatWhile b sense e) s h m =
        let k = both_true (root_fits A e s) (block_fits A (in_a_loop J) b s) h in
        let n = of_two _ _ most m in
        (block_has (in_a_loop J) b s k.1 n.0, test_has sense e s k.0 n.1)
    command_has J (commands.For start limit by b) s h m =
        let s1 = level_in_for s in
        let k = both_true (assignment_fits A start (Frame s) s1 && assignment_fits A limit (Frame (s + 1)) s1) (block_fits A (in_a_loop J) b s1) h in
        let l = both_true (assignment_fits A start (Frame s) s1) (assignment_fits A limit (Frame (s + 1)) s1) k.0 in
        let n = of_two (s1 + 2) _ most m in
        let o = of_two _ _ most n.1 in
        let p = of_two _ _ most o.1 in
        let u = n.0 in
        let room : s + 4 ≤ most = omega (arith, u) in
        (omega (arith, u), set_has start s s1 l.0 o.0, set_has limit (s + 1) s1 l.1 p.0, end_has by s room, block_has (in_a_loop J) b s1 k.1 p.1, step_has by s room)
    command_has J (commands.SwitchOn e is) s h m =
        let J1 = in_list is (record J { in_cases = true }) in
        let k = both_true (root_fits A e s && are_distinct (labels_of is) && entries_differ is) (items_fit A J1 is s) h in
        let j = both_true (root_fits A e s && are_distinct (labels_of is)) (entries_differ is) k.0 in
        let l = both_true (root_fits A e s) (are_distinct (labels_of is)) j.0 in
        let n = of_two _ _ most m in
        (value_has e s l.0 n.0, items_have J1 is s k.1 n.1)
    command_has J (commands.ResultIs e) s h m = let k = both_true J.in_valof (root_fits A e s) h in value_has e s k.1 m
    command_has J (commands.Nested b) s h m = block_has J b s h m
    command_has J commands.Break s h m = tt
    command_has J commands.Loop s h m = tt
    command_has J commands.EndCase s h m = tt
    command_has J commands.Return s h m = tt
    command_has J commands.Finish s h m = tt
    command_has J (commands.Goto l) s h m = tt

    block_has : (J : Jumps) (b : Block) (s : ℕ) → block_fits A J b s ≡ true → cells_of_block V b s ≤ most → BlockHasRoom B b s
    block_has J (block ds is) s h m =
        let d = declarations_fit A ds s in
        let e = not (has_entries is) in
        let f = are_distinct (labels_of is) in
        let k = both_true (d && e && f) (items_fit A (in_list is J) is (s + cells_declared ds)) h in
        let l = both_true (d && e) f k.0 in
        let n = both_true d e l.0 in
        let o = of_two _ _ most m in
        (declarations_have ds s n.0 o.0, no_entries is n.1, items_have (in_list is J) is (s + cells_declared ds) k.1 o.1)

    items_have : (J : Jumps) (is : Items) (s : ℕ) → items_fit A J is s ≡ true → cells_of_items V is s ≤ most → ItemsHaveRoom B is s
    items_have J no_item s h m = tt
    items_have J (command c is) s h m =
        let k = both_true (command_fits A J c s) (items_fit A J is s) h in
        let n = of_two _ _ most m in
        (command_has J c s k.0 n.0, items_have J is s k.1 n.1)
    items_have J (case n is) s h m = items_have J is s h m
    items_have J (default is) s h m = items_have J is s h m
    items_have J (label n is) s h m = items_have J is s h m

  body_has : (b : Body) (s : ℕ) → body_fits A b s ≡ true → cells_of_body V b s ≤ most → BodyHasRoom B b s
  body_has (Gives e) s h m = value_has e s h m
  body_has (Does b) s h m = block_has jumps_in_routine b s h m

global_has : (g : Option ℕ) → global_fits g ≡ true → IfSome g (λ n. n < 512)
global_has None h = tt
global_has (Some n) h = ltb-true n 512 h

-- a choice between two bounds, each with its own conclusion
chosen : (t : Bool) (x y : ℕ) (X Y : Type 0) → (t ≡ true → x ≤ most → X) → (t ≡ false → y ≤ most → Y)
    → (elim t as (λ z. ℕ) [ true ↦ x | false ↦ y ]) ≤ most → elim t as (λ z. Type 0) [ true ↦ X | false ↦ Y ]
chosen true x y X Y f g h = f refl h
chosen false x y X Y f g h = g refl h

valof_has : (levels : ℕ → ℕ) (A : Around) → Agrees levels A → (vs : List Valof) → valofs_fit A vs ≡ true → ((i : ℕ) → levels (A.first + i) ≡ level_of vs i)
    → (n : ℕ) → cells_of_valofs A.first vs n (levels n) ≤ most → ValofHasRoom A.first vs n
valof_has levels A agrees [] h at n c = tt
valof_has levels A agrees (v ∷ vs) h at n c =
    let inner : Around = record A { first = A.first + 1 } in
    let V = cells_of_valofs (A.first + 1) vs in
    let B = ValofHasRoom (A.first + 1) vs in
    let k = both_true (block_fits inner jumps_in_valof v.body v.level) (valofs_fit inner vs) h in
    let good : (m : ℕ) → V m (levels m) ≤ most → B m = valof_has levels inner agrees vs k.1 (λ i. ap levels (next A.first i) ∙ at (suc i)) in
    chosen (n == A.first) _ _ _ _
    (λ t m. let here : levels n ≡ v.level = ap levels (here_is A.first n (eqb-true n A.first t)) ∙ at 0 in
    block_has V levels inner agrees B good jumps_in_valof v.body v.level k.0 (subst (λ (s : ℕ). cells_of_block V v.body s ≤ most) here m))
    (λ t m. good n m) c
  where
    next : (a i : ℕ) → a + 1 + i ≡ a + suc i
    next a i = omega arith

    here_is : (a n : ℕ) → n ≡ a → n ≡ a + 0
    here_is a n e = omega (arith, e)

levels_agree : (vs : List Valof) (n s : ℕ) → stands_at (slice_get (map (λ (v : Valof). v.level) vs) n) s ≡ true → level_of vs n ≡ s
levels_agree [] n s h = absurd (let f : false ≡ true = h in cc)
levels_agree (v ∷ vs) zero s h = eqb-true v.level s h
levels_agree (v ∷ vs) (suc n) s h = levels_agree vs n s h

abbrev PlaceHasRoom : Bodies → commands.Place → Type 0
PlaceHasRoom B p = RoutineHasRoom B p × SettingHasRoom p × StringHasRoom p

place_has : (valofs : List Valof) (A : Around) (levels : ℕ → ℕ) → Agrees levels A → (B : Bodies) → ((n : ℕ) → cells_of_valofs 0 valofs n (levels n) ≤ most → B n)
    → (p : commands.Place) → place_fits A valofs p ≡ true → PlaceHasRoom B p
place_has valofs A levels agrees B good (commands.Code r) h =
    let g = global_fits r.global in
    let f = nat_le (frame_size valofs r) most in
    let s = level_after_parameters r.parameters in
    let V = cells_of_valofs 0 valofs in
    let l = both_true (g && f) (body_fits A r.body s) h in
    let k = both_true g f l.0 in
    let m = of_two s (cells_of_body V r.body s) most (leb-true _ _ k.1) in
    let o = m.0 in
    ((omega (arith, o), body_has V levels A agrees B good r.body s l.1 m.1), global_has r.global k.0, tt)
place_has valofs A levels agrees B good (commands.Static w) h = (tt, tt, tt)
place_has valofs A levels agrees B good (commands.Table ws) h = (tt, tt, tt)
place_has valofs A levels agrees B good (commands.Text bytes) h = (tt, tt, leb-true _ _ h)

places_have : (valofs : List Valof) (A : Around) (levels : ℕ → ℕ) → Agrees levels A → (B : Bodies) → ((n : ℕ) → cells_of_valofs 0 valofs n (levels n) ≤ most → B n)
    → (ps : List commands.Place) → places_fit A valofs ps ≡ true → All (PlaceHasRoom B) ps
places_have valofs A levels agrees B good [] h = All-nil (PlaceHasRoom B)
places_have valofs A levels agrees B good (p ∷ ps) h =
    let k = both_true (place_fits A valofs p) (places_fit A valofs ps) h in
    All-cons (PlaceHasRoom B) p ps (place_has valofs A levels agrees B good p k.0) (places_have valofs A levels agrees B good ps k.1)

core_has_room : (core : Core) → is_core core ≡ true → All (PlaceHasRoom (ValofHasRoom 0 core.valofs)) core.places
core_has_room core h =
    let A : Around = record { places = length core.places; first = 0; levels = map (λ (v : Valof). v.level) core.valofs } in
    let k = both_true (places_fit A core.valofs core.places) (valofs_fit A core.valofs) h in
    let levels = level_of core.valofs in
    places_have core.valofs A levels (levels_agree core.valofs) (ValofHasRoom 0 core.valofs)
    (valof_has levels A (levels_agree core.valofs) core.valofs k.1 (λ i. ap levels (zero_on i))) core.places k.0
  where
    zero_on : (i : ℕ) → 0 + i ≡ i
    zero_on i = omega arith

pub routines_have_room : (core : Core) → is_core core ≡ true → All (RoutineHasRoom (ValofHasRoom 0 core.valofs)) core.places
routines_have_room core h k d l = (core_has_room core h k d l).0

pub settings_have_room : (core : Core) → is_core core ≡ true → All SettingHasRoom core.places
settings_have_room core h k d l = (core_has_room core h k d l).1

pub strings_have_room : (core : Core) → is_core core ≡ true → All StringHasRoom core.places
strings_have_room core h k d l = (core_has_room core h k d l).2

-- a place of the section
pub place_at : (P : commands.Place → Type 0) (ps : List code.Place) (i : ℕ) (p q : code.Place) → All P (map place_of ps) → i < length ps → p ≡ get_or ps i p → p ≡ q → P (place_of q)
place_at P ps i p q all h e is =
    let found = get_or-map place_of ps i p ∙ ap place_of (sym e ∙ is) in
    subst P found (All-get_or P (map place_of ps) i (place_of p) (rw (length-map ps place_of) h) all)
