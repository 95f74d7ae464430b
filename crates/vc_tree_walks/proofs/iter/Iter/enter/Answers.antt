-- The own pair is next, and those of the children and beside the tree are left.
use Rattle.vc_tree_walks.proofs.Rows.{entered-rows}
use Rattle.vc_tree_walks.proofs.iter.Iter.enter.Goals as goal

pub returns-clause-left : goal.returns-clause-left
returns-clause-left g c =
    entered-rows g.T.RadixNode.tree c.args.tree.now c.args.self.now.key c.turn_to.new.self c.as_ref-whole.result.now
    c.prefix-prefix.result.now c.args.self.now.row c.replace-beside.result c.replace-beside.new.dest
    c.children-children.result c.args.self.now.above.items c.push.new.self.items
    c.prefix-prefix.ensures.value c.in_ok-turn_to.ensures c.as_ref-whole.ensures c.children-children.ensures
    c.replace-beside.ensures.value c.replace-beside.ensures.after c.in_ok-push.ensures.items
