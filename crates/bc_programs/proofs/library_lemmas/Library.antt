-- A built program's first section is the library; the laws of all programs then hold of it.
use Rattle.std.proofs.Common.{ℕ, suc, ◌≡◌, List, [], ◌∷◌, map, length, refl, ap, subst, arith}
use Rattle.bc_lex.specs.Files.{File}
use Rattle.bc_parse_tree.specs.Tree.{Declarations}
use Rattle.bc_scope_defs.specs.Translation.{core_of}
use Rattle.bc_core.specs.Commands.{Core}
use Rattle.bc_core.specs.Map.{Map, IsMap}
use Rattle.bc_machine_defs.specs.declared.image.Image.{Image}
use Rattle.bc_library_laws.specs.Library.{library}
use Rattle.bc_library_laws.proofs.Joined.{newline_law, writen_law, getbyte_law, writes_law, putbyte_law, writef_law}
use Rattle.bc_library_laws.specs.Texts.{header_file, source_file}
use Rattle.bc_library_laws.proofs.Built.{library_of}
use Rattle.bc_build.specs.Parsed.{AreParsed}
use Rattle.bc_build.specs.Runs.{RunsAsMeant, addresses}
use Rattle.bc_programs.specs.library.Laws.{RoutinesDo, HasLibrary, BuiltProgramsHaveTheLibrary}

routines : (others : List Core) (address : ℕ → ℕ) (places : List (ℕ → ℕ)) (base : ℕ)
    → IsMap (library ∷ others) (record { places = address ∷ places; stack_base = base }) → RoutinesDo (library ∷ others) address places
routines others address places base m = record {
  getbyte = λ s i word. getbyte_law s i word others address places base m;
  putbyte = λ s i c word small. putbyte_law s i c word small others address places base m;
  writes = λ s bytes. writes_law s bytes others address places base m;
  newline = newline_law others address places base m;
  writen = λ w small. writen_law w small others address places base m;
  writef = λ s pieces more few. writef_law s pieces more few others address places base m;
}

-- the addresses of a program with a first section are a first one and the others
has_library : (section : Declarations) (sections : List Declarations) (image : Image) (ps : List (ℕ → ℕ)) → (addresses image).places ≡ ps
    → core_of section ≡ library → IsMap (library ∷ map core_of sections) (record { places = ps; stack_base = image.stack_base })
    → HasLibrary (section ∷ sections) image
has_library section sections image [] e is m = let n : suc (length (map core_of sections)) ≡ 0 = m.named in absurd (omega (arith, n))
has_library section sections image (address ∷ places) e is m = record {
  others = map core_of sections;
  cores = ap (λ (core : Core). core ∷ map core_of sections) is;
  address = address;
  places = places;
  addresses_are = e;
  routines = routines (map core_of sections) address places image.stack_base m;
}

pub built_programs_have_the_library : BuiltProgramsHaveTheLibrary
built_programs_have_the_library rest more [] image are_parsed runs = absurd are_parsed
built_programs_have_the_library rest more (section ∷ sections) image are_parsed runs =
    let is : core_of section ≡ library = library_of rest are_parsed.0.tokens section are_parsed.0.lexed are_parsed.0.read in
    has_library section sections image (addresses image).places refl is
    (subst (λ (core : Core). IsMap (core ∷ map core_of sections) (addresses image)) is runs.is_map)
