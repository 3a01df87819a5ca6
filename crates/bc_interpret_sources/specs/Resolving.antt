-- For proofs: the mains as resolved sections.
use Rattle.std.specs.Prelude.{ℕ, ◌≡◌, List, ◌++◌, map}
use Rattle.bc_lex.specs.Files.{File}
use Rattle.bc_parse_tree.specs.Tree.{Declarations}
use Rattle.bc_core.specs.Commands.{Core}
use Rattle.bc_scope_defs.specs.Translation.{core_of}
use Rattle.bc_build.specs.Parsed.{IsParsed, AreParsed}

-- these are the translations of the mains
abbrev pub AreTranslated : List File → List ℕ → List Core → Type 0
AreTranslated files mains cores = (sections : List Declarations) → AreParsed files mains sections → map core_of sections ≡ cores

-- this is the translation of a main
abbrev pub IsResolved : List File → ℕ → Core → Type 0
IsResolved files main core = (section : Declarations) → IsParsed files main section → core ≡ core_of section

-- these are the translations of the first mains, and the other mains remain
abbrev pub AreResolved : List File → (mains left : List ℕ) → List Core → Type 0
AreResolved files mains left cores =
    (sections : List Declarations) → AreParsed files mains sections
    → (rest : List Declarations) × AreParsed files left rest × (map core_of sections ≡ cores ++ map core_of rest)
