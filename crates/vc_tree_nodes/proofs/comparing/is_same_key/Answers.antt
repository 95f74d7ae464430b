-- Keys compare equal exactly where they are equal component by component.
use Rattle.std.proofs.Common.{sym, ap, ◌∙◌}
use Rattle.std.specs.Ordering.{is_eq}
use Rattle.vc_tree_model.proofs.KeyLemmas.{same-slice_cmp}
use Rattle.vc_tree_nodes.proofs.comparing.is_same_key.Goals as goal

pub returns : goal.returns
returns g c =
    c.is_eq.ensures ∙ ap is_eq c.cmp.ensures ∙ sym (same-slice_cmp g.K.Ord.cmp c.args.left.now c.args.right.now)
