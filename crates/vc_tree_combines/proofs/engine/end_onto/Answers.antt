use Rattle.std.proofs.Common.{refl, ap, take}
use Rattle.vc_tree_model.specs.Child.{solid_child}
use Rattle.vc_tree_nodes.specs.Children.{seen}
use Rattle.vc_tree_facing.proofs.Opening.{slice-from}
use Rattle.vc_tree_combines.proofs.Runs.{on-ok}
use Rattle.vc_tree_combines.proofs.engine.end_onto.Goals as goal

pub returns : goal.returns
returns g c =
    on-ok c.finish_onto.result c.finish_onto.ensures
    (λ e. (
      _,
      record {
        value = c.in_ok-value.value;
        said = c.in_ok-value.ensures;
        child = ap (λ p. solid_child (take c.args.front p) c.in_ok-value.value (seen g.O.Made.RadixNode.tree c.args.kids.items))
            (slice-from _ _ _ c.args.i refl c.prefix.ensures.value);
      },
      e,
    ))
