-- The result of linking.
use Rattle.std.specs.Prelude.{◌≡◌, List, Option, Some}
use Rattle.bc_text_items.specs.declared.item.Item.{Item}
use Rattle.bc_machine_defs.specs.declared.image.Image.{Image}
use Rattle.bc_link.specs.declared.link_error.LinkError.{LinkError}
use Rattle.bc_link.specs.declared.link_error.LinkError.TheVariants.{LabelUnset, LabelTwice, GlobalTwice, TooLarge, Memory}
use Rattle.bc_link.specs.Layout.{stack_base_of, places_from}
use Rattle.bc_link.specs.Store.{store_of}

-- the image of segments: the store, where the stack begins, and where the segments and their labels are
abbrev pub image_of : List (List Item) → Image
image_of segments = record { words = store_of segments; stack_base = stack_base_of segments; places = places_from 520 segments }

-- the error is the one that is due, or Memory
abbrev pub IsRefusal : Option LinkError → LinkError → Type 0
IsRefusal due Memory = Unit {0}
IsRefusal due (LabelUnset k label) = due ≡ Some (LabelUnset k label)
IsRefusal due (LabelTwice k label) = due ≡ Some (LabelTwice k label)
IsRefusal due (GlobalTwice number) = due ≡ Some (GlobalTwice number)
IsRefusal due TooLarge = due ≡ Some TooLarge
