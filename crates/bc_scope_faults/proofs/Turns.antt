-- Lists whose definition has several cases: the first item or pair, and the rest.
use Rattle.std.proofs.Common.{◌≡◌, ℕ, ◌+◌, max, Bool, false, refl, ap, ◌∙◌, sym, List, [], ◌∷◌, ◌++◌, drop, Option, Some, None, subst, arith}
use Rattle.bc_scope_names.specs.declared.error.ScopeError.{ScopeError}
use Rattle.bc_scope_names.specs.declared.error.ScopeError.TheVariants as code
use Rattle.bc_scope_faults.specs.Judged.{IsFault}
use Rattle.bc_parse_tree.specs.declared.tree.Storage.{Storage}
use Rattle.bc_parse_tree.specs.declared.tree.Storage.TheVariants as storage
use Rattle.bc_parse_tree.specs.Tree.{Exp, Exps, none, more, Item, Items, item, Labelled, Labels_alone}
use Rattle.bc_scope_defs.specs.Scope.{Env, Numbers}
use Rattle.bc_scope_defs.specs.Numbering.{labels_of, following, after_item, after_command}
use Rattle.bc_scope_defs.specs.Meaning.{labels_of_that}
use Rattle.bc_scope_defs.specs.Found.{Thing, found_entry, found, found_in_sides, found_in_items, found_in_command}
use Rattle.bc_scope_defs.specs.FramesAlong.{width, widths, width_of_items, width_of_command}
use Rattle.bc_scope_defs.specs.Faults.{Fault, Allowed, Met, or_else, met_labels}
use Rattle.bc_scope_defs.specs.FaultsAlong.{fault, sides_fault, items_fault, labels_fault, command_fault}
use Rattle.bc_scope_faults.specs.Seen.{frames_fit}
use Rattle.bc_scope_faults.specs.Parts.{item_fault, item_found, item_width, head_level, side_width}
use Rattle.bc_scope_faults.proofs.Numberless.{items_found, items_width}

along : (a b c : Option Fault) → or_else a (or_else b c) ≡ or_else (or_else a b) c
along None b c = refl
along (Some f) b c = refl

pub item_fault_on : (cases : Bool) (M : Met) (W : Allowed) (E : Env) (at : Numbers) (i : Item) (is : Items) (s : ℕ)
    → items_fault cases M W E at (item i is) s ≡ or_else (item_fault cases M W E at i s) (items_fault cases (met_labels E M (labels_of_that i)) W E (after_item at i) is s)
item_fault_on cases M W E at (Labelled ls c) is s = along (labels_fault cases M E at ls) (command_fault W E at c s) (items_fault cases (met_labels E M ls) W E (after_command at c) is s)
item_fault_on cases M W E at (Labels_alone ls) is s = refl

pub item_found_on : (E : Env) (at : Numbers) (i : Item) (is : Items) (s : ℕ) → found_in_items E 0 at (item i is) s ≡ item_found E at i s ++ found_in_items E 0 (after_item at i) is s
item_found_on E at (Labelled ls c) is s = ap (λ t. found_in_command E at c s ++ t) (items_found E (0 + labels_of ls) (after_command at c) is s)
item_found_on E at (Labels_alone ls) is s = items_found E (0 + labels_of ls) at is s

zero_max : (n : ℕ) → n ≡ max 0 n
zero_max n = omega arith

pub item_width_on : (E : Env) (at : Numbers) (i : Item) (is : Items) (s : ℕ) → width_of_items E 0 at (item i is) s ≡ max (item_width E at i s) (width_of_items E 0 (after_item at i) is s)
item_width_on E at (Labelled ls c) is s = ap (λ t. max (width_of_command E at c s) t) (items_width E (0 + labels_of ls) (after_command at c) is s)
item_width_on E at (Labels_alone ls) is s = items_width E (0 + labels_of ls) at is s ∙ zero_max (width_of_items E 0 at is s)

pub side_fault_on : (E : Env) (at : Numbers) (e : Exp) (es : Exps) (ss : List ℕ)
    → sides_fault E at (more e es) ss ≡ or_else (fault false E at e (head_level ss)) (sides_fault E (following at e) es (drop 1 ss))
side_fault_on E at e es [] = refl
side_fault_on E at e es (s ∷ ss) = refl

pub side_found_on : (E : Env) (at : Numbers) (e : Exp) (es : Exps) (ss : List ℕ)
    → found_in_sides E at (more e es) ss ≡ found E at e (head_level ss) ++ found_in_sides E (following at e) es (drop 1 ss)
side_found_on E at e es [] = refl
side_found_on E at e es (s ∷ ss) = refl

no_widths : (E : Env) (at : Numbers) (es : Exps) → widths E at es [] ≡ []
no_widths E at none = refl
no_widths E at (more e es) = refl

pub side_widths_on : (E : Env) (at : Numbers) (e : Exp) (es : Exps) (ss : List ℕ)
    → widths E at (more e es) ss ≡ side_width ss (width E at e (head_level ss)) ++ widths E (following at e) es (drop 1 ss)
side_widths_on E at e es [] = sym (no_widths E (following at e) es)
side_widths_on E at e es (s ∷ ss) = refl

-- a declaration of constants has no frames
pub entry_fits : (b : Bool) (s : Storage) (at : Numbers) (w : ℕ) (ts : List Thing) → frames_fit b (found_entry s at w ++ ts) ≡ frames_fit b ts
entry_fits b storage.Manifest at w ts = refl
entry_fits b storage.Static at w ts = refl
entry_fits b storage.Global at w ts = refl

first : (a b : Option Fault) (f : Fault) → a ≡ Some f → or_else a b ≡ Some f
first a b f h = ap (λ x. or_else x b) h

-- the fault of two parts, if the first has one
pub stays : (e : ScopeError) (a b : Option Fault) → IsFault e a → IsFault e (or_else a b)
stays (code.Undeclared n) a b h = first a b _ h
stays (code.DeclaredTwice n) a b h = first a b _ h
stays (code.DynamicFree n) a b h = first a b _ h
stays code.NotConstant a b h = first a b _ h
stays (code.GlobalNumber n) a b h = first a b _ h
stays code.NotAssignable a b h = first a b _ h
stays code.Misplaced a b h = first a b _ h
stays code.FrameTooLarge a b h = first a b _ h
stays code.CaseTwice a b h = first a b _ h
stays code.TooManyPlaces a b h = first a b _ h
stays code.Memory a b h = h

-- a fault of the first part is the fault of the whole
pub fault_whole : (e : ScopeError) (a b some whole : Option Fault) → some ≡ or_else a b → some ≡ whole → IsFault e a → IsFault e whole
fault_whole e a b some whole p q h = subst (λ x. IsFault e x) (sym p ∙ q) (stays e a b h)
