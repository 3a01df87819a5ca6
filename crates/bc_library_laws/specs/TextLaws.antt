-- The statement which section the text of BLIB is.
use Rattle.std.specs.Prelude.{◌≡◌, List, ◌∷◌, Ok}
use Rattle.bc_lex_tokens.specs.Token.{Lexeme}
use Rattle.bc_lex.specs.Files.{File}
use Rattle.bc_lex.specs.Tokens.{HasTokens}
use Rattle.bc_parse_tree.specs.Tree.{Declarations}
use Rattle.bc_parse.specs.Parsing.{parsed}
use Rattle.bc_scope_defs.specs.Translation.{core_of}
use Rattle.bc_library_laws.specs.Library.{library}
use Rattle.bc_library_laws.specs.Texts.{header_file, source_file}

-- if LIBHDR and BLIB are the first two files, then whatever files follow: if BLIB lexes to these tokens and they parse to this section,
-- the section resolves to the library of `Library`
abbrev pub LibraryIsTheSection : Type 0
LibraryIsTheSection =
    (rest : List File) (tokens : List Lexeme) (section : Declarations)
    → HasTokens (header_file ∷ source_file ∷ rest) 1 tokens → parsed tokens ≡ Ok section → core_of section ≡ library
