-- The number of a list's first label doesn't change what is found in the list, its width or its faults.
use Rattle.std.proofs.Common.{◌≡◌, ℕ, ◌+◌, max, refl, ap, ◌∙◌, sym, ◌++◌}
use Rattle.bc_parse_tree.specs.Tree.{Items, no_items, item, Labelled, Labels_alone}
use Rattle.bc_scope_defs.specs.Scope.{Env, Numbers}
use Rattle.bc_scope_defs.specs.Numbering.{labels_of, after_command}
use Rattle.bc_scope_defs.specs.Found.{found_in_items, found_in_command}
use Rattle.bc_scope_defs.specs.FramesAlong.{width_of_items, width_of_command}
use Rattle.bc_scope_faults.proofs.Frames.{frames_along}

pub items_found : (E : Env) (k : ℕ) (at : Numbers) (is : Items) (s : ℕ) → found_in_items E k at is s ≡ found_in_items E 0 at is s
items_found E k at no_items s = refl
items_found E k at (item (Labelled ls c) is) s =
    ap (λ t. found_in_command E at c s ++ t) (items_found E (k + labels_of ls) (after_command at c) is s ∙ sym (items_found E (0 + labels_of ls) (after_command at c) is s))
items_found E k at (item (Labels_alone ls) is) s = items_found E (k + labels_of ls) at is s ∙ sym (items_found E (0 + labels_of ls) at is s)

pub items_width : (E : Env) (k : ℕ) (at : Numbers) (is : Items) (s : ℕ) → width_of_items E k at is s ≡ width_of_items E 0 at is s
items_width E k at no_items s = refl
items_width E k at (item (Labelled ls c) is) s =
    ap (λ t. max (width_of_command E at c s) t) (items_width E (k + labels_of ls) (after_command at c) is s ∙ sym (items_width E (0 + labels_of ls) (after_command at c) is s))
items_width E k at (item (Labels_alone ls) is) s = items_width E (k + labels_of ls) at is s ∙ sym (items_width E (0 + labels_of ls) at is s)

pub ruleset numberless = (frames_along, items_found, items_width)
