use Rattle.std.proofs.Common.{◌++◌, ◌∷◌, [], refl}
use Rattle.bc_core.specs.View.{exp}
use Rattle.bc_select.specs.Vector.{node, before}
use Rattle.bc_select.proofs.Ends.{at_end, at_end_count}
use Rattle.bc_select.proofs.pending.wait.Goals as goal

pub returns : goal.returns
returns c =
    let e = exp c.args.e.now in let s = c.args.place.level in let h = c.requires.nodes in
    record {
      added = record { e = c.args.e; step = record { place = c.args.place; aim = c.args.aim; rule = c.rule_at-rule.result } } ∷ [];
      is = c.in_ok-push.ensures.items;
      ready = (
        record {
          fits = c.requires.fits;
          nodes_are = h;
          rule_is = c.rule_at-rule.ensures (h.front ++ before e s) h.following (node e s) (at_end c.args.nodes.now _ [] e s h) (at_end_count c.args.nodes.now _ [] e s h);
        },
        tt,
      );
      trees_are = refl;
    }
