-- The prefix of the node is one of what is left of the path, or none of its keys is.
use Rattle.std.proofs.Common.{arith}
use Rattle.vc_tree_walks.proofs.PathKeys.{along-entered, along-passed}
use Rattle.vc_tree_walks.proofs.prefixes.Prefixes.enter.Goals as goal

pub returns-in-Behind-clause-left : goal.returns-in-Behind-clause-left
returns-in-Behind-clause-left g c =
    let own = c.prefix-prefix in
    along-entered g.K.Ord.cmp (g.T.RadixNode.tree c.args.node.now) own.ensures.canonical.1 c.args.self.now.path.now
    c.args.self.now.used own.result.now c.split_at.result.1.now own.ensures.value c.split_at.ensures.back c.in-Behind.ensures.is

pub returns-in_default : goal.returns-in_default
returns-in_default g c =
    let own = c.prefix-prefix in
    record {
      left =
          along-passed g.K.Ord.cmp (g.T.RadixNode.tree c.args.node.now) own.ensures.canonical.1 c.args.self.now.path.now
          c.args.self.now.used own.result.now c.split_at.result.1.now own.ensures.value c.split_at.ensures.back
          c.find_parting.result c.find_parting.ensures.is c.in_default.not-Behind;
      work = omega arith;
    }
