use Rattle.std.proofs.Common.{◌≡◌, vec_len, rules, refl}
use Rattle.bc_link.proofs.draft.Draft.into_image.Goals as goal

pub returns : goal.returns
returns c =
    let first : vec_len c.in_ok-words.words ≡ 3 = c.in_ok-words.ensures.length in
    let following : vec_len c.extend_from_slice-2.new.self ≡ c.args.stack_base = search rules in
    record {
      words = rw (c.new.ensures, c.in_ok-fill_up-2.ensures.words, following, c.in_ok-extend_from_slice-2.ensures.items, c.as_slice-2.ensures.value, c.in_ok-extend_from_slice.ensures.items, c.as_slice.ensures.value, c.in_ok-fill_up.ensures.words, first, c.in_ok-words.ensures.words) refl;
      base = search rules;
      places = search rules;
    }
