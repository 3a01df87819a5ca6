use Rattle.std.proofs.Common.{◌≡◌, ◌≤◌, ◌-◌, ◌+◌, ◌*◌, length}
use Rattle.bc_lex_tokens.specs.Token.{lexemes_of}
use Rattle.bc_lex.specs.Files.{files_of, text_of}
use Rattle.bc_lex.specs.Lexing.{rest_of, file_to_end, deeper_of}
use Rattle.bc_lex.specs.Repeated.{AreRight}
use Rattle.bc_lex.proofs.reading.+reading.Given as goal

abbrev pub decreases-read_to_end : goal.decreases-read_to_end
decreases-read_to_end l = 2 * l.this.levels

abbrev pub decreases-read_named : goal.decreases-read_named
decreases-read_named l = 2 * l.levels + 1

abbrev pub invariant-read_to_end-loop : goal.invariant-read_to_end-loop
invariant-read_to_end-loop l = record {
  within : l.place.at ≤ length (text_of (files_of l.sources) l.this.file);
  right : AreRight (files_of l.sources) (lexemes_of l.tokens.items) l.files.items;
  read : rest_of (deeper_of (files_of l.sources) l.this.levels) (files_of l.sources) l.this.file (length (text_of (files_of l.sources) l.this.file) - l.counter) l.place (lexemes_of l.tokens.items)
      ≡ file_to_end (deeper_of (files_of l.sources) l.this.levels) (files_of l.sources) l.this.file l.this.line (lexemes_of l.initial.tokens.items);
}
