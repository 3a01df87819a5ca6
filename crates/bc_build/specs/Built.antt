-- What `build` returns: the program that the mains are built into.
use Rattle.std.specs.Prelude.{ℕ, ◌≡◌, List, map, flat_map}
use Rattle.bc_rules_defs.specs.Entry.{Entry}
use Rattle.bc_rules_defs.specs.View.{entry as entry_view}
use Rattle.bc_parse_tree.specs.Tree.{Declarations}
use Rattle.bc_lex.specs.Files.{File}
use Rattle.bc_link.specs.Linked.{image_of}
use Rattle.bc_run.specs.Runs.{with_primitives}
use Rattle.bc_build.specs.Parsed.{AreParsed}
use Rattle.bc_build.specs.Size.{section_roots}
use Rattle.bc_build.specs.declared.building.Built.{Built}

-- The mains are exactly these sections. The entries belong to their roots, in the order of a walk over the commands. The image is the one
-- that the linker gives for the primitives followed by the segments.
pub record IsBuilt (files : List File) (mains : List ℕ) (built : Built) : Type 0 where
  pub sections : List Declarations
  pub parsed : AreParsed files mains sections
  pub only : (others : List Declarations) → AreParsed files mains others → others ≡ sections
  pub roots : map (λ (e : Entry). e.root) (map entry_view built.entries.items) ≡ flat_map section_roots sections
  pub image : built.image ≡ image_of (with_primitives built.segments.items)
