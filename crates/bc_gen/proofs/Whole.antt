-- The code of a whole section, from its parts.
use Rattle.std.proofs.Common.{ℕ, ◌+◌, ◌≤◌, ◌≡◌, List, [], ◌++◌, map, length, Vec, Global, refl, ap, ◌∙◌, append_assoc, arith}
use Rattle.std.proofs.lemmas.List.{length-map}
use Rattle.bc_text_items.specs.declared.item.Item.{Item}
use Rattle.bc_core.specs.declared.command.Place.{Place}
use Rattle.bc_core.specs.declared.command.Valof.{Valof}
use Rattle.bc_core.specs.View.{place_of, section}
use Rattle.bc_gen_defs.specs.Emit.{Code}
use Rattle.bc_gen_defs.specs.Bodies.{level_of, bodies_from}
use Rattle.bc_gen_defs.specs.Section.{emit_routines, routines_over, routines_code, data_items, setting_items, section_items}
use Rattle.bc_gen_defs.specs.Entries.{Marked, Plain, plain_items, marked_over, marked_code}
use Rattle.bc_gen_defs.proofs.Standing.{marks_add_nothing}
use Rattle.bc_gen_defs.proofs.Plainly.{section_plain}
use Rattle.bc_gen.specs.declared.context.Around.{Around}
use Rattle.bc_gen.specs.declared.marked_items.MarkedItem.{MarkedItem}
use Rattle.bc_gen.specs.declared.writer.Writer.{Writer}
use Rattle.bc_gen.specs.Chosen.{coding}
use Rattle.bc_gen.specs.Parts.{parts}
use Rattle.bc_gen.specs.Surroundings.{roots_in, roots_of, valofs_in}
use Rattle.bc_gen.proofs.Rises.{marked_up, bodies_up, routines_up}
use Rattle.bc_gen.proofs.Forms.{there, Wrote}

abbrev Section : Type 0
Section = List Place × List Valof

-- the labels after those of the places
first_label : (ps : List Place) (f n : ℕ) → f ≡ 1 → n ≡ f + length ps → n ≡ length (map place_of ps) + 1
first_label ps f n h g = let e = length-map ps place_of in omega (arith, h, g, e)

pub routines_are : (core : Section) (ps : List Place) (vs : List Valof) (a : Around) (v0 : Vec MarkedItem Global) (f0 : ℕ) (w1 w2 : Writer) → ps ≡ core.0 → vs ≡ core.1
    → parts v0.items ≡ [] → f0 ≡ 1 → w1.next ≡ f0 + length ps → w1.parts ≡ v0 → roots_in a ≡ roots_of (valofs_in vs) 0
    → Wrote w1 w2 (emit_routines Plain (roots_in a) 0 (map place_of ps) w1.next)
    → (there w2 ≡ marked_code coding (section core)) × (w2.next ≡ (routines_code coding (section core)).1)
routines_are core ps vs a v0 f0 w1 w2 ep ev nothing one taken same er h =
    let n = first_label ps f0 w1.next one taken in
    let e : emit_routines Plain (roots_in a) 0 (map place_of ps) w1.next ≡ routines_over Plain (marked_over coding (level_of (section core).valofs)) (section core) =
    rw (er, n, ep, ev) refl in (
      h.0 ∙ ap (λ (v : List Marked). v ++ (emit_routines Plain (roots_in a) 0 (map place_of ps) w1.next).0) (ap (λ (v : Vec MarkedItem Global). parts v.items) same ∙ nothing) ∙ ap (λ (c : Code Marked). c.0) e,
      h.1 ∙ ap (λ (c : Code Marked). c.1) e ∙ ap (λ (c : Code Item). c.1) (section_plain coding (section core)),
    )

pub items_are : (core : Section) (ps : List Place) (w : Writer) (is0 is1 is2 is3 : List Item) → ps ≡ core.0 → there w ≡ marked_code coding (section core)
    → is0 ≡ plain_items (there w) → is1 ≡ is0 ++ data_items 0 (map place_of ps) → is2 ≡ is1 ++ setting_items 0 (map place_of ps) → is3 ≡ is2
    → is3 ≡ section_items coding (section core)
items_are core ps w is0 is1 is2 is3 ep ew h0 h1 h2 h3 =
    let m = ap plain_items ew ∙ marks_add_nothing coding (section core) in
    h3 ∙ h2 ∙ ap (λ (is : List Item). is ++ setting_items 0 (map place_of ps)) (h1 ∙ ap (λ (is : List Item). is ++ data_items 0 (map place_of ps)) (h0 ∙ m))
    ∙ append_assoc (routines_code coding (section core)).0 (data_items 0 (map place_of ps)) (setting_items 0 (map place_of ps))
    ∙ ap (λ (qs : List Place). (routines_code coding (section core)).0 ++ (data_items 0 (map place_of qs) ++ setting_items 0 (map place_of qs))) ep

same_up : (n m : ℕ) → n ≡ m → n ≤ m
same_up n m h = omega arith

-- a section takes at least the labels of its places, and exactly those of its routines
pub places_up : (core : Section) (ps : List Place) (n : ℕ) → ps ≡ core.0 → n ≡ 1 + length ps → n ≤ (routines_code coding (section core)).1
places_up core ps n ep h =
    let c = section core in
    let levels = level_of c.valofs in
    let bodies = bodies_from Plain (marked_over coding levels) 0 c.valofs in
    let up = routines_up (marked_over coding levels bodies) (marked_up coding levels bodies (bodies_up coding levels 0 c.valofs)) 0 c.places (length c.places + 1) in
    let e = ap (λ (x : Code Item). x.1) (section_plain coding c) in
    let k : n ≡ length c.places + 1 = first_label ps 1 n refl h ∙ ap (λ (qs : List Place). length (map place_of qs) + 1) ep in
    rw (k, ← e) up

pub routines_end : (core : Section) (ps : List Place) (vs : List Valof) (a : Around) (f0 n : ℕ) → ps ≡ core.0 → vs ≡ core.1 → f0 ≡ 1 → n ≡ f0 + length ps → roots_in a ≡ roots_of (valofs_in vs) 0
    → (emit_routines Plain (roots_in a) 0 (map place_of ps) n).1 ≤ (routines_code coding (section core)).1
routines_end core ps vs a f0 n ep ev one taken er =
    let k = first_label ps f0 n one taken in
    let e : emit_routines Plain (roots_in a) 0 (map place_of ps) n ≡ routines_over Plain (marked_over coding (level_of (section core).valofs)) (section core) = rw (er, k, ep, ev) refl in
    same_up _ _ (ap (λ (c : Code Marked). c.1) e ∙ ap (λ (c : Code Item). c.1) (section_plain coding (section core)))
