-- Every run of a tame program's image has the output and the ending that the sources mean.
use Rattle.std.specs.Prelude.{ℕ, ◌≡◌, ◌+◌, ◌≤◌, true, List, ◌∷◌, ◌++◌, map}
use Rattle.bc_lex.specs.Files.{File}
use Rattle.bc_parse_tree.specs.Tree.{Declarations}
use Rattle.bc_scope_defs.specs.Translation.{core_of}
use Rattle.bc_core.specs.Commands.{Core}
use Rattle.bc_core.specs.Meaning.{Result, Ended, Going, Wild}
use Rattle.bc_core.specs.Same.{IsAt, end_of}
use Rattle.bc_machine_defs.specs.State.{State}
use Rattle.bc_machine_defs.specs.Streams.{Content, HoldBytes}
use Rattle.bc_machine_defs.specs.declared.image.Image.{Image}
use Rattle.bc_machine_defs.specs.declared.state.End.TheVariants as ends
use Rattle.bc_library_laws.specs.Texts.{header_file, source_file}
use Rattle.bc_tame.specs.Programs.{Rooms, is_tame}
use Rattle.bc_build.specs.Parsed.{IsParsed, AreParsed}
use Rattle.bc_build.specs.Runs.{RunsAsMeant, meant, started}

-- The machine that starts from `s` does what the meaning in n turns is. If that ended, so does the machine at some point, with the same
-- output and ending. If it is going, the machine is still running after at least n instructions, with the same output. It isn't wild.
abbrev pub Does : Result → ℕ → State → Type 0
Does (Ended output ending) n s = (m : ℕ) × IsAt s m (end_of ending) output
Does (Going output) n s = (m : ℕ) × (n ≤ m) × IsAt s m ends.BudgetSpent output
Does Wild n s = ⊥

-- For all inputs of bytes and every number of turns, the machine that starts from the image does what the sections mean.
abbrev pub EveryRunIsMeant : List Declarations → Image → Type 0
EveryRunIsMeant sections image = (streams : Content) → HoldBytes streams.inputs → (n : ℕ) → Does (meant sections image streams n) n (started image streams)

-- LIBHDR and BLIB are the first two files; BLIB is the first main. By the contract of `build`, these premises hold of every program that it
-- returns for these files and mains, besides the two that its own sections are tame and that there is room for the stack.
abbrev pub TamePrograms : Type 0
TamePrograms =
    (rest : List File) (mains : List ℕ) (blib : Declarations) (owns : List Declarations) (image : Image) (rooms : Rooms)
    → AreParsed (header_file ∷ source_file ∷ rest) (1 ∷ mains) (blib ∷ owns) → RunsAsMeant (blib ∷ owns) image
    → is_tame (map core_of owns) rooms ≡ true → image.stack_base + 2 + rooms.room ≤ 65536
    → EveryRunIsMeant (blib ∷ owns) image

-- the resolved section of a main
abbrev pub IsResolved : List File → ℕ → Core → Type 0
IsResolved files main core = (section : Declarations) → IsParsed files main section → core ≡ core_of section

-- those of mains
abbrev pub AreTranslated : List File → List ℕ → List Core → Type 0
AreTranslated files mains cores = (sections : List Declarations) → AreParsed files mains sections → map core_of sections ≡ cores

-- those of the first mains, where these others are left
abbrev pub AreResolved : List File → (mains left : List ℕ) → List Core → Type 0
AreResolved files mains left cores =
    (sections : List Declarations) → AreParsed files mains sections
    → (rest : List Declarations) × AreParsed files left rest × (map core_of sections ≡ cores ++ map core_of rest)

-- if the first two of these files are LIBHDR and BLIB, every run is meant of an image of these mains that runs as meant
abbrev pub RunsAsMeantWithLibrary : List File → List ℕ → Image → Type 0
RunsAsMeantWithLibrary files mains image =
    (rest : List File) (sections : List Declarations) → files ≡ header_file ∷ source_file ∷ rest → AreParsed files mains sections
    → RunsAsMeant sections image → EveryRunIsMeant sections image
