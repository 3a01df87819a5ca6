-- Whatever section a source parses to, it resolves to the one that its text computes to; and BLIB's is the library.
use Rattle.std.specs.Prelude.{ℕ, ◌≡◌, List, ◌∷◌, Some, Result, Ok, Err, length}
use Rattle.std.proofs.Common.{sym, ap, ◌∙◌}
use Rattle.bc_lex_tokens.specs.Token.{Lexeme}
use Rattle.bc_lex.specs.Files.{File}
use Rattle.bc_lex.specs.Tokens.{HasTokens}
use Rattle.bc_lex.specs.Lexing.{read_of}
use Rattle.bc_lex.proofs.Complete.{tokens_read}
use Rattle.bc_parse_tree.specs.Tree.{Declarations}
use Rattle.bc_parse_defs.specs.Reading.{section_of}
use Rattle.bc_parse_defs.specs.Reading as reading
use Rattle.bc_parse_defs.specs.Closing.{Placed, closed_list, parts_in, places_in}
use Rattle.bc_parse_defs.specs.Closing as closing
use Rattle.bc_parse.specs.Parsing.{parsed, read_list, placed}
use Rattle.bc_scope_defs.specs.Translation.{core_of}
use Rattle.bc_core.specs.Commands.{Core}
use Rattle.bc_library_laws.specs.Library.{library}
use Rattle.bc_library_laws.specs.Texts.{header_file, source_file}
use Rattle.bc_library_laws.specs.Tree.{core_in, core_closed, core_read, library_is}

same_core : (x y : Core) → Some x ≡ Some y → x ≡ y
same_core x y e = cc

by_section : (places : List ℕ) (end : ℕ) (r : Result Declarations reading.Fault) (section : Declarations) → placed places end r ≡ Ok section → core_in r ≡ Some (core_of section)
by_section places end (Ok ds) section e = let g : ds ≡ section = cc in ap (λ d. Some (core_of d)) g
by_section places end (Err f) section e = absurd (let z : ⊥ = cc in z)

by_closed : (end : ℕ) (r : Result (List Placed) closing.Fault) (section : Declarations) → read_list end r ≡ Ok section → core_closed r ≡ Some (core_of section)
by_closed end (Ok ps) section e = by_section (places_in ps) end (section_of (parts_in ps)) section e
by_closed end (Err (closing.NotOpen at)) section e = absurd (let z : ⊥ = cc in z)
by_closed end (Err closing.Unclosed) section e = absurd (let z : ⊥ = cc in z)

-- if a text computes to this section, so does every section that its tokens parse to
pub section_of_text : (files : List File) (main : ℕ) (core : Core) → core_read (read_of files main) ≡ Some core
    → (tokens : List Lexeme) (section : Declarations) → HasTokens files main tokens → parsed tokens ≡ Ok section → core_of section ≡ core
section_of_text files main core computed tokens section lexed read =
    let e : read_of files main ≡ Ok tokens = tokens_read files main tokens lexed in
    let found : core_read (read_of files main) ≡ Some (core_of section) = ap core_read e ∙ by_closed (length tokens) (closed_list tokens) section read in
    same_core (core_of section) core (sym found ∙ computed)

-- the section of BLIB's text resolves to the library
pub library_of : (rest : List File) (tokens : List Lexeme) (section : Declarations)
    → HasTokens (header_file ∷ source_file ∷ rest) 1 tokens → parsed tokens ≡ Ok section → core_of section ≡ library
library_of rest = section_of_text (header_file ∷ source_file ∷ rest) 1 library (library_is rest)
