use Rattle.bcpl_format.proofs.Marks.{same_marks_are_closed_alike}
use Rattle.bcpl_format.proofs.laws.same_marks_are_closed_alike.Goals as goal

pub returns : goal.returns
returns c = same_marks_are_closed_alike
