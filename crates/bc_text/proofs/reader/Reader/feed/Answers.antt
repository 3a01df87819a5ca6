-- What `advance` does, in terms of the bytes.
use Rattle.bc_text.proofs.Feeding.{feeds_answer, feeds_read}
use Rattle.bc_text.proofs.reader.Reader.feed.Goals as goal

pub returns-clause-answer : goal.returns-clause-answer
returns-clause-answer c = λ bytes read. feeds_answer _ _ _ bytes _ c.advance.ensures read

pub returns-clause-read : goal.returns-clause-read
returns-clause-read c = λ bytes read. feeds_read _ _ _ bytes _ c.advance.ensures read
