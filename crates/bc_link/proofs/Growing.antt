-- A draft with one more segment.
use Rattle.std.proofs.Common.{◌≡◌, ◌∙◌, ℕ, ◌+◌, List, [], ◌∷◌, ◌++◌, append_assoc, ap, sym, arith}
use Rattle.std.specs.Option.{option_map}
use Rattle.bc_text_items.specs.Sizes.{size_of_all}
use Rattle.bc_text_items.specs.Assembled.{assembled, label_places}
use Rattle.bc_text_items.specs.declared.item.Item.{Item}
use Rattle.bc_link.specs.declared.draft.Draft.{Draft}
use Rattle.bc_link.specs.declared.link_error.LinkError.TheVariants.{LabelUnset}
use Rattle.bc_link.specs.Drafts.{next_start, Added, Becomes}
use Rattle.bc_link.specs.Labels.{label_address}
use Rattle.bc_link.specs.Layout.{places_from, place_at}
use Rattle.bc_link.specs.Refusals.{first_of, label_unset_from}
use Rattle.bc_link.specs.Store.{with_globals_from, words_from}

pub Becomes-Added : (d e : Draft) (k : ℕ) (segment : List Item) (rest segments : List (List Item)) → Becomes d k (segment ∷ rest) segments → Added d e segment → Becomes e (k + 1) rest segments
Becomes-Added d e k segment rest segments b a =
    let start : next_start e ≡ next_start d + size_of_all segment = let h = a.size in omega arith in
    record {
      globals = ap (λ s. with_globals_from s rest e.globals.items) start ∙ ap (with_globals_from (next_start d + size_of_all segment) rest) a.globals ∙ b.globals;
      cells = a.cells;
      code = ap (λ s. e.code.items ++ words_from s rest) start ∙ ap (λ c. c ++ words_from (next_start d + size_of_all segment) rest) a.code
          ∙ append_assoc d.code.items (assembled (label_address (label_places (next_start d) segment)) segment) (words_from (next_start d + size_of_all segment) rest) ∙ b.code;
      size = let h = a.size in let g = b.size in omega arith;
      places = ap (λ s. e.places.items ++ places_from s rest) start ∙ ap (λ p. p ++ places_from (next_start d + size_of_all segment) rest) a.places
          ∙ append_assoc d.places.items (place_at (next_start d) segment ∷ []) (places_from (next_start d + size_of_all segment) rest) ∙ b.places;
      unset = ap (λ u. first_of (option_map (LabelUnset k) u) (label_unset_from (k + 1) rest)) (sym a.unset) ∙ b.unset;
    }
