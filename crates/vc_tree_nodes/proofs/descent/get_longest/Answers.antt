-- What covers the path beside a length is the longest key that is a prefix of it.
use Rattle.std.proofs.lemmas.Option.{IfSome_then}
use Rattle.vc_tree_nodes.proofs.Longest.{found-value, found-longest}
use Rattle.vc_tree_nodes.proofs.descent.get_longest.Goals as goal

pub returns-clause-value : goal.returns-clause-value
returns-clause-value g c =
    found-value g.K.Ord.cmp g.met.K.Ord.total (g.T.RadixNode.tree c.args.tree.now) c.args.path.now c.longest_on.result
    c.longest_on.ensures

pub returns-clause-key : goal.returns-clause-key
returns-clause-key g c =
    IfSome_then c.longest_on.result
    (found-longest g.K.Ord.cmp g.met.K.Ord.total (g.T.RadixNode.tree c.args.tree.now) c.args.path.now c.longest_on.result
    c.longest_on.ensures) (λ b h. h.1)

pub returns-clause-within : goal.returns-clause-within
returns-clause-within g c =
    IfSome_then c.longest_on.result
    (found-longest g.K.Ord.cmp g.met.K.Ord.total (g.T.RadixNode.tree c.args.tree.now) c.args.path.now c.longest_on.result
    c.longest_on.ensures) (λ b h. h.0)
