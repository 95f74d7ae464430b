-- All keys that start with the prefix stand below the node, and the rest of the prefix is known to agree with it so far.
use Rattle.std.proofs.Common.{◌≤◌, length, take, drop}
use Rattle.vc_tree_model.specs.Tree.{nodes}
use Rattle.vc_tree_nodes.specs.Parting.{Agree}
use Rattle.vc_tree_walks.proofs.Scanning.{IsPart}
use Rattle.vc_tree_walks.proofs.scan.find_under.Given as goal

abbrev pub invariant-loop-here : goal.invariant-loop-here
invariant-loop-here g l =
    let tree = g.T.RadixNode.tree in
    let cmp = g.K.Ord.cmp in
    record {
      part : IsPart cmp g.met.K.Ord.total (tree l.tree) l.prefix (tree l.node) (take l.used l.prefix) (drop l.used l.prefix);
      within : l.used ≤ length l.prefix;
      agree : Agree cmp (tree l.node).prefix (drop l.used l.prefix) l.known;
    }

abbrev pub decreases-loop-here : goal.decreases-loop-here
decreases-loop-here g l = nodes (g.T.RadixNode.tree l.node)
