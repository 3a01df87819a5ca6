-- Sources as plain values: names and texts are lists of bytes, without addresses.
use Rattle.std.specs.Prelude.{ℕ, List, [], map, slice_index_or}
use Rattle.bc_lex.specs.declared.source.Source.{Source}

pub record File : Type 0 where
  pub name : List ℕ
  pub text : List ℕ

-- a source of the code
abbrev pub file_of : Source → File
file_of s = record { name = s.name.now; text = s.text.now }

-- sources of the code
abbrev pub files_of : List Source → List File
files_of = map file_of

-- an empty file, for an index that is out of range
abbrev pub no_file : File
no_file = record { name = []; text = [] }

-- the text of the file with this index
abbrev pub text_of : List File → ℕ → List ℕ
text_of files i = (slice_index_or files i no_file).text
