-- What `close` does, in terms of the bytes.
use Rattle.bc_text.proofs.Feeding.{finishes_answer}
use Rattle.bc_text.proofs.reader.Reader.finish.Goals as goal

pub returns-clause-answer : goal.returns-clause-answer
returns-clause-answer c = λ bytes read. finishes_answer _ bytes _ c.close.ensures read
