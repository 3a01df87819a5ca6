-- The cells that a FOR fills.
use Rattle.std.proofs.Common.{◌≡◌, ℕ, ◌+◌, ◌<◌, Bool, true, false, List, [], ◌∷◌, ◌++◌, length, Option, Some, None, refl, sym, ap, ◌∙◌, arith}
use Rattle.std.specs.Prelude.{◌==◌, ◌&&◌, ◌||◌, cond}
use Rattle.std.proofs.lemmas.Bool.{eq-eqb, cond-true, cond-false}
use Rattle.bc_word.specs.declared.operator.Op.{Op}
use Rattle.bc_word.specs.declared.operator.Op.TheVariants.{Add}
use Rattle.bc_core.specs.Tree.{Exp, Frame, Load, Bin}
use Rattle.bc_core.specs.Commands.{Command, Assign, Items, no_item, command}
use Rattle.bc_core.specs.View.{items}
use Rattle.bc_core.specs.declared.command.ListItem.{ListItem}
use Rattle.bc_tame.specs.Tame.{Held, ACell, AnyWord, Knows, is_cell, is_vector, indexed_by, covers, fills, and_where}
use Rattle.bc_tame_check.specs.declared.held.Entry.{Entry}
use Rattle.bc_tame_check.specs.Views.{within, content_in, indexed_at, set_over, listed, is_assign}
use Rattle.bc_tame_check.proofs.Places.{apart}
use Rattle.bc_tame_check.proofs.Knowledge.{set_all_more}

-- the vector that is indexed
pub indexed_here : (i j k : ℕ) → i ≡ j → Some k ≡ indexed_at i (Some k) (Some j)
indexed_here i j k e = sym (cond-true (i == j) (Some k) None (eq-eqb i j e))

pub indexed_else : (i j k : ℕ) → ((i ≡ j) → ⊥) → None ≡ indexed_at i (Some k) (Some j)
indexed_else i j k ne = sym (cond-false (i == j) (Some k) None (apart i j ne))

indexed_is : (i : ℕ) (x y : Exp) → indexed_at i (content_in x) (content_in y) ≡ indexed_by i (Bin Add x y)
indexed_is i (Load (Frame k)) (Load (Frame j)) = refl
indexed_is i (Load (Frame k)) (Load _) = refl
indexed_is i (Load (Frame k)) _ = refl
indexed_is i (Load _) y = refl
indexed_is i _ y = refl

pub indexed_sum : (i : ℕ) (op : Op) (x y : Exp) (j k r : Option ℕ) → op ≡ Add → j ≡ content_in x → k ≡ content_in y → r ≡ indexed_at i j k → r ≡ indexed_by i (Bin op x y)
indexed_sum i op x y j k r e f g h = h ∙ ((λ n. indexed_at i (f n) (g n)) ∙ (indexed_is i x y ∙ ap (λ o. indexed_by i (Bin o x y)) (sym e)))

-- the cells that an assignment covers
where_same : (s t : ℕ → Bool) (h : Held) (S : Knows) → ((j : ℕ) → s j ≡ t j) → and_where s h S ≡ and_where t h S
where_same s t h S e = λ i. λ j. cond (is_cell (S j) && e j i) h (S j)

none_where : (test : ℕ → Bool) (h : Held) (S : Knows) → ((j : ℕ) → test j ≡ false) → S ≡ and_where test h S
none_where test h S none = λ i. λ j. each j i where
  right_false : (a b : Bool) → b ≡ false → (a && b) ≡ false
  right_false true b e = e
  right_false false b e = refl

  each : (j : ℕ) → S j ≡ cond (is_cell (S j) && test j) h (S j)
  each j = sym (cond-false (is_cell (S j) && test j) h (S j) (right_false (is_cell (S j)) (test j) (none j)))

pub covers_vector : (R S : Knows) (k f l c first last : ℕ) (t : Bool) (h : Held) → t ≡ is_vector h → t ≡ true → h ≡ R k → c ≡ k + 1 → first ≡ c + f → last ≡ c + l
    → and_where (within first last) AnyWord S ≡ and_where (covers R (Some k) f l) AnyWord S
covers_vector R S k f l c first last t h is sure at e p q =
    let a : first ≡ k + 1 + f = p ∙ ap (λ n. n + f) e in
    let b : last ≡ k + 1 + l = q ∙ ap (λ n. n + l) e in
    let v : true ≡ is_vector (R k) = sym sure ∙ (is ∙ ap is_vector at) in
    where_same (within first last) (covers R (Some k) f l) AnyWord S (λ j. (λ i. within (a i) (b i) j) ∙ ap (λ z. z && within (k + 1 + f) (k + 1 + l) j) v)

pub covers_other : (R S : Knows) (k f l : ℕ) (t : Bool) (h : Held) → t ≡ is_vector h → t ≡ false → h ≡ R k → S ≡ and_where (covers R (Some k) f l) AnyWord S
covers_other R S k f l t h is never at =
    let v : is_vector (R k) ≡ false = ap is_vector (sym at) ∙ (sym is ∙ never) in
    none_where (covers R (Some k) f l) AnyWord S (λ j. ap (λ z. z && within (k + 1 + f) (k + 1 + l) j) v)

pub covers_found : (R S T : Knows) (o : Option ℕ) (k f l : ℕ) → Some k ≡ o → T ≡ and_where (covers R (Some k) f l) AnyWord S → T ≡ and_where (covers R o f l) AnyWord S
covers_found R S T o k f l e h = h ∙ ap (λ x. and_where (covers R x f l) AnyWord S) e

pub covers_none : (R S : Knows) (o : Option ℕ) (f l : ℕ) → None ≡ o → S ≡ and_where (covers R o f l) AnyWord S
covers_none R S o f l e = none_where (covers R None f l) AnyWord S (λ j. refl) ∙ ap (λ x. and_where (covers R x f l) AnyWord S) e

-- one test after the other
both_where : (s t : ℕ → Bool) (S : Knows) → and_where t AnyWord (and_where s AnyWord S) ≡ and_where (λ j. s j || t j) AnyWord S
both_where s t S = λ i. λ j. each (s j) (t j) (S j) i where
  each : (a b : Bool) (h : Held) → cond (is_cell (cond (is_cell h && a) AnyWord h) && b) AnyWord (cond (is_cell h && a) AnyWord h) ≡ cond (is_cell h && (a || b)) AnyWord h
  each true b ACell = refl
  each false b ACell = refl
  each a b _ = refl

pub assignment_fills : (R S : Knows) (i f l : ℕ) (o : Option Entry) (c : Command) (v a : Exp) (is : Items) → c ≡ Assign v a → ((T : Knows) → set_over T (listed o) ≡ and_where (covers R (indexed_by i a) f l) AnyWord T)
    → and_where (fills R i f l is) AnyWord (set_over S (listed o)) ≡ and_where (fills R i f l (command c is)) AnyWord S
assignment_fills R S i f l o c v a is e h =
    ap (and_where (fills R i f l is) AnyWord) (h S)
    ∙ (both_where (covers R (indexed_by i a) f l) (fills R i f l is) S ∙ ap (λ x. and_where (fills R i f l (command x is)) AnyWord S) (sym e))

pub other_fills : (R S : Knows) (i f l : ℕ) (c : Command) (is : Items) → is_assign c ≡ false → and_where (fills R i f l is) AnyWord S ≡ and_where (fills R i f l (command c is)) AnyWord S
other_fills R S i f l (Assign v a) is e = absurd (cc)
other_fills R S i f l _ is e = refl

-- one more item
pub one_more : (R S : Knows) (i f l : ℕ) (o : Option Entry) (more new : List Entry) (is js : Items) (whole : Knows) → new ≡ more ++ listed o
    → ((T : Knows) → and_where (fills R i f l is) AnyWord (set_over T (listed o)) ≡ and_where (fills R i f l js) AnyWord T)
    → and_where (fills R i f l js) AnyWord (set_over S more) ≡ whole → and_where (fills R i f l is) AnyWord (set_over S new) ≡ whole
one_more R S i f l o more new is js whole added step before =
    ap (λ xs. and_where (fills R i f l is) AnyWord (set_over S xs)) added ∙ (ap (and_where (fills R i f l is) AnyWord) (set_all_more S more (listed o)) ∙ (step (set_over S more) ∙ before))

pub nothing_fills : (R S : Knows) (i f l : ℕ) (left : List ListItem) (whole : Knows) → length left < 1 → and_where (fills R i f l (items left)) AnyWord S ≡ whole → S ≡ whole
nothing_fills R S i f l [] whole few e = none_where (fills R i f l no_item) AnyWord S (λ j. refl) ∙ e
nothing_fills R S i f l (d ∷ left) whole few e = absurd (omega arith)
