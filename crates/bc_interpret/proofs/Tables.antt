-- Building the table of routines.
use Rattle.std.proofs.Common.{◌≡◌, ℕ, ◌+◌, Bool, true, false, List, [], ◌∷◌, ◌++◌, Some, None, length, map, refl, sym, ap, arith, ◌∙◌}
use Rattle.std.specs.Prelude.{◌==◌, cond, Option, All}
use Rattle.std.proofs.lemmas.List.Elements.{All-append, All-cons, All-nil}
use Rattle.bc_core.specs.Commands.{Place, Code, Static, Table, Text, Routine}
use Rattle.bc_core.specs.Map.{Placed}
use Rattle.bc_core.specs.Meaning.{Callee, OfSection, callee, callee_among, or_else, of_library}
use Rattle.bc_core.specs.Primitive.{primitives, primitive_among}
use Rattle.bc_interpret_steps.specs.declared.sections.Callable.{Callable}
use Rattle.bc_interpret_steps.specs.Sections.{callee_of, entry_among, called, IsSized, IsTable}
use Rattle.bc_interpret.specs.Tables.{found_in, Adds, Adding, AddsPlace, Covers}

pub by_cond : {A : Type 0} (b : Bool) (x y : A) → (elim b as (λ z. A) [ true ↦ x | false ↦ y ]) ≡ cond b x y
by_cond true x y = refl
by_cond false x y = refl

pub or_none : (x : Option Callee) → or_else x None ≡ x
or_none (Some c) = refl
or_none None = refl

or_assoc : (x y z : Option Callee) → or_else (or_else x y) z ≡ or_else x (or_else y z)
or_assoc (Some c) y z = refl
or_assoc None y z = refl

or_cond : (b : Bool) (c : Callee) (z : Option Callee) → or_else (cond b (Some c) None) z ≡ cond b (Some c) z
or_cond true c z = refl
or_cond false c z = refl

cond_or : (b : Bool) (c : Callee) (x y : Option Callee) → cond b (Some c) (or_else x y) ≡ or_else (cond b (Some c) x) y
cond_or true c x y = refl
cond_or false c x y = refl

found_more : (table : List Callable) (e : Callable) (a : ℕ) → found_in (table ++ e ∷ []) a ≡ or_else (found_in table a) (found_in (e ∷ []) a)
found_more [] e a = refl
found_more (x ∷ xs) e a =
    ap (cond (x.address == a) (Some (callee_of x))) (found_more xs e a) ∙ cond_or (x.address == a) (callee_of x) (found_in xs a) (found_in (e ∷ []) a)

coded : (s : Placed) (label : ℕ) (r : Routine) (places : List Place) (a : ℕ) → callee_among s label (Code r ∷ places) a ≡ cond (s.address label == a) (Some (OfSection s r)) (callee_among s (label + 1) places a)
coded s label r places a = by_cond (s.address label == a) (Some (OfSection s r)) (callee_among s (label + 1) places a)

-- one more routine, with this label
pub routine_added : (s : Placed) (label : ℕ) (r : Routine) (places : List Place) (table : List Callable) (e : Callable) → e.address ≡ s.address label → callee_of e ≡ OfSection s r
    → (a : ℕ) → or_else (found_in table a) (callee_among s label (Code r ∷ places) a) ≡ or_else (found_in (table ++ e ∷ []) a) (callee_among s (label + 1) places a)
routine_added s label r places table e at is a =
    let rest = callee_among s (label + 1) places a in
    ap (or_else (found_in table a)) (coded s label r places a
    ∙ (ap (λ x. cond (x == a) (Some (OfSection s r)) rest) (sym at)
    ∙ (ap (λ c. cond (e.address == a) (Some c) rest) (sym is) ∙ sym (or_cond (e.address == a) (callee_of e) rest))))
    ∙ (sym (or_assoc (found_in table a) (found_in (e ∷ []) a) rest)
    ∙ ap (λ x. or_else x rest) (sym (found_more table e a)))

pub sized_more : (table : List Callable) (e : Callable) → All IsSized table → IsSized e → All IsSized (table ++ e ∷ [])
sized_more table e h x = All-append IsSized table (e ∷ []) h (All-cons IsSized e [] x (All-nil IsSized))

pub place_is_routine : (s : Placed) (label : ℕ) (r : Routine) (table : List Callable) (e : Callable) → e.address ≡ s.address label → callee_of e ≡ OfSection s r → IsSized e → AddsPlace s label (Code r) table (table ++ e ∷ [])
place_is_routine s label r table e at is size = record {
  finds = λ left a. routine_added s label r left table e at is a;
  sized = λ h. sized_more table e h size;
}

pub place_is_static : (s : Placed) (label w : ℕ) (table : List Callable) → AddsPlace s label (Static w) table table
place_is_static s label w table = record { finds = λ left a. refl; sized = λ h. h }

pub place_is_table : (s : Placed) (label : ℕ) (ws : List ℕ) (table : List Callable) → AddsPlace s label (Table ws) table table
place_is_table s label ws table = record { finds = λ left a. refl; sized = λ h. h }

pub place_is_text : (s : Placed) (label : ℕ) (bytes : List ℕ) (table : List Callable) → AddsPlace s label (Text bytes) table table
place_is_text s label bytes table = record { finds = λ left a. refl; sized = λ h. h }

pub adding_begun : (s : Placed) (table : List Callable) → Adding s 1 s.core.places table table
adding_begun s table = record { finds = λ a. refl; sized = λ h. h }

pub adding_more : (s : Placed) (label label1 : ℕ) (p : Place) (all left : List Place) (old middle new : List Callable) → all ≡ p ∷ left → label1 ≡ label + 1 → Adding s label all old middle → AddsPlace s label p middle new → Adding s label1 left old new
adding_more s label label1 p all left old middle new e el h k = record {
  finds = λ a. h.finds a ∙ (ap (λ places. or_else (found_in middle a) (callee_among s label places a)) e ∙ (k.finds left a ∙ ap (λ l. or_else (found_in new a) (callee_among s l left a)) (sym el)));
  sized = λ x. k.sized (h.sized x);
}

pub adding_done : (s : Placed) (label : ℕ) (left : List Place) (old new : List Callable) → left ≡ [] → Adding s label left old new → Adds s old new
adding_done s label left old new e h = record {
  finds = λ a. sym (h.finds a ∙ (ap (λ places. or_else (found_in new a) (callee_among s label places a)) e ∙ or_none (found_in new a)));
  sized = h.sized;
}

-- the routines of one more section
pub section_added : (s : Placed) (sections : List Placed) (old new : List Callable) → Adds s old new → (a : ℕ) → or_else (found_in old a) (callee (s ∷ sections) a) ≡ or_else (found_in new a) (callee sections a)
section_added s sections old new h a =
    sym (or_assoc (found_in old a) (callee_among s 1 s.core.places a) (callee sections a)) ∙ ap (λ x. or_else x (callee sections a)) (sym (h.finds a))

called_is : (table : List Callable) (a : ℕ) → or_else (found_in table a) (of_library (primitive_among primitives a)) ≡ called (entry_among table a) a
called_is [] a = refl
called_is (e ∷ es) a =
    sym (cond_or (e.address == a) (callee_of e) (found_in es a) (of_library (primitive_among primitives a)))
    ∙ (ap (cond (e.address == a) (Some (callee_of e))) (called_is es a) ∙ either (e.address == a)) where
      either : (b : Bool) → cond b (Some (callee_of e)) (called (entry_among es a) a) ≡ called (elim b as (λ z. Option Callable) [ true ↦ Some e | false ↦ entry_among es a ]) a
      either true = refl
      either false = refl

pub table_is : (program left : List Placed) (table : List Callable) → left ≡ [] → Covers program left table → IsTable program table
table_is program left table e h = record {
  finds = λ a. h.finds a ∙ (ap (λ sections. or_else (found_in table a) (callee sections a)) e ∙ called_is table a);
  sized = h.sized;
}

-- what is left of a list of no element
pub none_left : {A B : Type 0} (f : A → B) (xs : List A) → length xs ≡ 0 → map f xs ≡ []
none_left f [] e = refl
none_left f (x ∷ xs) e = absurd (omega arith)

-- one more place, and one more section
pub ruleset of_a_place = (place_is_routine, place_is_static, place_is_table, place_is_text)

pub ruleset of_a_section = (adding_begun, adding_more, adding_done, none_left)
