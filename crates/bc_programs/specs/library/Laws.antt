-- What the routines of the library do in a program that was built.
use Rattle.std.specs.Prelude.{ℕ, ◌≡◌, ◌+◌, ◌*◌, ◌/◌, ◌%◌, ◌<◌, ◌≤◌, ◌++◌, List, [], ◌∷◌, length, map, slice_set}
use Rattle.std.specs.Fmt.{signed_decimal}
use Rattle.bc_word.specs.Words.{signed}
use Rattle.bc_lex.specs.Files.{File}
use Rattle.bc_parse_tree.specs.Tree.{Declarations}
use Rattle.bc_scope_defs.specs.Translation.{core_of}
use Rattle.bc_core.specs.Commands.{Core}
use Rattle.bc_core.specs.Store.{Set}
use Rattle.bc_machine_defs.specs.declared.image.Image.{Image}
use Rattle.bc_library_laws.specs.Library.{library}
use Rattle.bc_library_laws.specs.Laws.{CallIn, IsWordOf, byte_in, with_byte, HoldsString, Piece, ArePieces, format_of, taken_by, written_by, turns_of, turns_by, anything, unchanged}
use Rattle.bc_library_laws.specs.Texts.{header_file, source_file}
use Rattle.bc_build.specs.Parsed.{AreParsed}
use Rattle.bc_build.specs.Runs.{RunsAsMeant, addresses}

-- Each routine of the library does in this program what its law says of every program.
pub record RoutinesDo (cores : List Core) (address : ℕ → ℕ) (places : List (ℕ → ℕ)) : Type 0 where
  pub getbyte : (s i word : ℕ) → CallIn cores address places 1 (s ∷ i ∷ []) 8 1 (IsWordOf s i word) (byte_in i word) unchanged []
  pub putbyte :
      (s i c word : ℕ) → word < 65536
      → CallIn cores address places 2 (s ∷ i ∷ c ∷ []) 11 1 (IsWordOf s i word) 0
      (λ cells. slice_set cells ((s + i / 2) % 65536) (Set (with_byte i (c % 256) word))) []
  pub writes :
      (s : ℕ) (bytes : List ℕ)
      → CallIn cores address places 3 (s ∷ []) 15 (2 + 3 * length bytes) (λ cells. HoldsString cells s bytes) 0 unchanged bytes
  pub newline : CallIn cores address places 4 [] 8 2 anything 0 unchanged (10 ∷ [])
  pub writen :
      (w : ℕ) → w < 65536
      → CallIn cores address places 5 (w ∷ []) 20 (turns_of (signed w)) anything 0 unchanged (signed_decimal (signed w))
  pub writef :
      (s : ℕ) (pieces : List Piece) (more : List ℕ) → length (taken_by pieces) ≤ 4
      → CallIn cores address places 6 (s ∷ (taken_by pieces ++ more)) 37 (2 + turns_by pieces)
      (λ cells. HoldsString cells s (format_of pieces) × ArePieces cells pieces) 0 unchanged (written_by pieces)

-- The program's first section is the library, the image has addresses for it, and its routines do what their laws say.
pub record HasLibrary (sections : List Declarations) (image : Image) : Type 0 where
  pub others : List Core
  pub cores : map core_of sections ≡ library ∷ others
  pub address : ℕ → ℕ
  pub places : List (ℕ → ℕ)
  pub addresses_are : (addresses image).places ≡ address ∷ places
  pub routines : RoutinesDo (library ∷ others) address places

-- So does every program that is accepted from LIBHDR, BLIB and further files, with BLIB as its first main, and whose image runs as meant:
-- by the contract of `build`, that is every program that it returns for these files and mains.
abbrev pub BuiltProgramsHaveTheLibrary : Type 0
BuiltProgramsHaveTheLibrary =
    (rest : List File) (more : List ℕ) (sections : List Declarations) (image : Image)
    → AreParsed (header_file ∷ source_file ∷ rest) (1 ∷ more) sections → RunsAsMeant sections image → HasLibrary sections image
