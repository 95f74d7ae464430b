-- The pairs below the node that the prefix leads to are those under the prefix.
use Rattle.std.proofs.Common.{sym, ◌≡◌, ◌∙◌}
use Rattle.vc_tree_model.specs.Map.{lookup}
use Rattle.vc_tree_walks.proofs.Filtered.{bound-below, nothing-below, nothing-listed}
use Rattle.vc_tree_removal.proofs.Reaching.{found-under}
use Rattle.vc_tree_removal.proofs.removal_below.found_under.Goals as goal

pub returns-in_default : goal.returns-in_default
returns-in_default g c =
    nothing-listed g.K.Ord.cmp g.met.K.Ord.total _ (rw c.in_default.is at c.find_under.ensures)

pub returns-then-is_empty : goal.returns-then-is_empty
returns-then-is_empty g c =
    nothing-below g.K.Ord.cmp g.met.K.Ord.total (λ v w. v ≡ w) (lookup g.K.Ord.cmp (g.T.RadixNode.tree c.args.tree.now))
    c.args.prefix.now _ _ c.canonical.ensures
    (rw c.in-Some.is at c.find_under.ensures) (sym c.is_empty.ensures ∙ c.if-is_empty.true)

pub returns : goal.returns
returns g c =
    found-under g.K.Ord.cmp g.met.K.Ord.total _ _ _ _ c.canonical.ensures (sym c.is_empty.ensures ∙ c.if-is_empty.false)
    (bound-below g.K.Ord.cmp g.met.K.Ord.total (λ v w. v ≡ w) (lookup g.K.Ord.cmp (g.T.RadixNode.tree c.args.tree.now))
    c.args.prefix.now _ _ c.canonical.ensures (rw c.in-Some.is at c.find_under.ensures))
