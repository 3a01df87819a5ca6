use Rattle.bc_parse.proofs.Canonical.{canonical_parsed}
use Rattle.bc_parse_roundtrip.proofs.laws.sections_come_back.Goals as goal

pub returns : goal.returns
returns c = λ name ds r.
    let again = c.renderings_are_reread.ensures name _ r.tokens r.few in (
      again.tokens,
      again.read,
      canonical_parsed ds again.tokens c.spelling_is_read.ensures c.spelling_is_closed.ensures (record {
        some_spelling = r.some_spelling;
        is_spelled = r.is_spelled;
        tokens = record { parts = again.same; bare = again.bare };
        nests = r.nests;
        brackets = r.brackets;
        repeats = r.repeats;
      }),
    )
