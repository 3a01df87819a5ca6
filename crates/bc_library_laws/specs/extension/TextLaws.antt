-- The statement which section the text of EXTLIB is.
use Rattle.std.specs.Prelude.{◌≡◌, List, ◌∷◌, Ok}
use Rattle.bc_lex_tokens.specs.Token.{Lexeme}
use Rattle.bc_lex.specs.Files.{File}
use Rattle.bc_lex.specs.Tokens.{HasTokens}
use Rattle.bc_parse_tree.specs.Tree.{Declarations}
use Rattle.bc_parse.specs.Parsing.{parsed}
use Rattle.bc_scope_defs.specs.Translation.{core_of}
use Rattle.bc_library_laws.specs.Texts as library_texts
use Rattle.bc_library_laws.specs.extension.Extension.{extension}
use Rattle.bc_library_laws.specs.extension.Texts.{header_file, source_file}

-- if LIBHDR, BLIB, EXTHDR and EXTLIB are the first four files, then whatever files follow: if EXTLIB lexes to these tokens and they parse to
-- this section, the section resolves to the one of `Extension`
abbrev pub ExtensionIsTheSection : Type 0
ExtensionIsTheSection =
    (rest : List File) (tokens : List Lexeme) (section : Declarations)
    → HasTokens (library_texts.header_file ∷ library_texts.source_file ∷ header_file ∷ source_file ∷ rest) 3 tokens → parsed tokens ≡ Ok section
    → core_of section ≡ extension
