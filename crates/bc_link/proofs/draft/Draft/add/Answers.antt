use Rattle.std.proofs.Common.{rules, arith, ◌≡◌, ◌∙◌, ap, sym, ◌++◌, length, take, drop, length-append, Some, None, refl, find, is_none}
use Rattle.bc_machine_defs.specs.Places.{address_in}
use Rattle.std.specs.Option.{option_map}
use Rattle.std.proofs.Math.Seq.{take-append_seam}
use Rattle.bc_text_items.specs.Assembled.{label_places, assembled, global_settings}
use Rattle.bc_link.specs.Drafts.{next_start}
use Rattle.bc_link.specs.Labels.{label_address, uses_of}
use Rattle.bc_link.specs.Store.{with_settings}
use Rattle.bc_link.specs.declared.link_error.LinkError.TheVariants.{LabelUnset}
use Rattle.bc_link.proofs.Unset.{first_unset-places}
use Rattle.bc_link.proofs.Lengths.{length-assembled}
use Rattle.bc_link.proofs.draft.Draft.add.Goals as goal

pub returns-in-Some-clause-err : goal.returns-in-Some-clause-err
returns-in-Some-clause-err c =
    let segment = c.args.segment.now in
    let at = next_start c.args.self.now in
    let labels : c.in_ok-labels.labels ≡ label_places at segment = search rules in
    let unset : find (λ m. is_none (address_in m c.in_ok-labels.labels)) (uses_of segment) ≡ Some c.in-Some.label = search rules in
    ap (option_map (λ x. LabelUnset c.args.number x)) (first_unset-places at segment (uses_of segment)) ∙ ap (λ l. option_map (λ x. LabelUnset c.args.number x) (find (λ m. is_none (address_in m l)) (uses_of segment))) (sym labels) ∙ ap (option_map (λ x. LabelUnset c.args.number x)) unset

pub returns-clause-ok : goal.returns-clause-ok
returns-clause-ok c =
    let segment = c.args.segment.now in
    let at = next_start c.args.self.now in
    let labels : c.in_ok-labels.labels ≡ label_places at segment = search rules in
    let globals : c.set_globals.new.cells ≡ with_settings (label_address (label_places at segment)) (global_settings segment) c.args.self.now.globals.items = search rules in
    let code : c.push_items.new.words.items ≡ c.args.self.now.code.items ++ assembled (label_address (label_places at segment)) segment = search rules in
    let unset : find (λ m. is_none (address_in m c.in_ok-labels.labels)) (uses_of segment) ≡ None = search rules in
    let cells : c.args.self.now.globals.len ≡ length c.set_globals.new.cells = search rules in
    let f = label_address (label_places at segment) in
    let added = length-assembled f segment in
    let joined = ap length code ∙ length-append c.args.self.now.code.items (assembled f segment) in
    record {
      globals = ap (λ n. take n (c.set_globals.new.cells ++ drop (length c.set_globals.new.cells) c.args.self.now.globals.items)) cells ∙ take-append_seam c.set_globals.new.cells _ ∙ globals;
      cells = search rules;
      code = code;
      size = omega (arith, joined, added, c.push_items.new.words.ok.0, c.args.self.now.code.ok.0);
      places = rw (c.in_ok-push.ensures.items, c.into_labels.ensures, labels, c.new-2.ensures, c.len.ensures) refl;
      unset = first_unset-places at segment (uses_of segment) ∙ ap (λ l. find (λ m. is_none (address_in m l)) (uses_of segment)) (sym labels) ∙ unset;
    }
