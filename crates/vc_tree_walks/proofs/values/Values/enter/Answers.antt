-- The own value is next, and those of the children and beside the tree are left.
use Rattle.std.proofs.Common.{rules, ◌≡◌, length}
use Rattle.std.proofs.lemmas.List.{nil_from_length}
use Rattle.vc_tree_walks.specs.ValuesLeft.{own_value, start_values}
use Rattle.vc_tree_walks.proofs.ValueRows.{before-start, entered-last, entered-values}
use Rattle.vc_tree_walks.proofs.values.Values.enter.Goals as goal

pub returns-then-is_empty-2-clause-left : goal.returns-then-is_empty-2-clause-left
returns-then-is_empty-2-clause-left g c =
    let tree = g.T.RadixNode.tree in
    let none : length c.args.self.now.row.now ≡ 0 = search rules in
    let rows = entered-last tree c.args.tree.now c.args.self.now.row c.children-children.result c.replace-beside.new.dest
    c.args.self.now.above.items c.children-children.ensures (nil_from_length c.args.self.now.row.now none)
    c.replace-beside.ensures.after in
    before-start _ (own_value (tree c.args.tree.now).value) _ (start_values tree c.args.self.now.start) rows

pub returns-clause-left : goal.returns-clause-left
returns-clause-left g c =
    let tree = g.T.RadixNode.tree in
    let rows = entered-values tree c.args.tree.now c.args.self.now.row c.children-children.result c.replace-beside.result
    c.replace-beside.new.dest c.args.self.now.above.items c.push.new.self.items c.children-children.ensures
    c.replace-beside.ensures.value c.replace-beside.ensures.after c.in_ok-push.ensures.items in
    before-start _ (own_value (tree c.args.tree.now).value) _ (start_values tree c.args.self.now.start) rows
