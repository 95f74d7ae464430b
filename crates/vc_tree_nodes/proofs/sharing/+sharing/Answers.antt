-- Each tree that comes is one of the list, and in the end all came.
use Rattle.std.proofs.Common.{◌≤◌, length, sym, ◌∙◌, rules}
use Rattle.std.proofs.lemmas.List.{map-id}
use Rattle.std.proofs.lemmas.Iterator.Adapters.{YieldsList-from_vec}
use Rattle.std.proofs.lemmas.Iterator.Consumers.{YieldsList-turn, YieldsList-end}
use Rattle.vc_tree_model.specs.Tree.{forest, nodes, forest_nodes}
use Rattle.vc_tree_nodes.proofs.Finding.{list-nodes}
use Rattle.vc_tree_nodes.proofs.sharing.+sharing.Goals as goal

pub share_list-share_tree-requires : goal.share_list-share_tree-requires
share_list-share_tree-requires g t c κs within =
    let gives = c.into_iter-tree-iterator.ensures.into_iter_gives in
    let turn =
    YieldsList-turn (YieldsList-from_vec c.args.list.items gives.0 (gives.1 ∙ c.args.list.ok.0)) c.loop-tree.yielded
    c.loop-tree.tree-iterator c.loop-tree.yielded_by c.next.result c.next.new.self c.in-Some.tree c.in-Some.is
    c.next.ensures.steps in
    let fewer : nodes c.in-Some.tree ≤ forest_nodes (forest c.args.list.items) =
    rw turn.1 (list-nodes c.args.list.items (length c.loop-tree.yielded) c.in-Some.tree turn.0) in
    search rules

pub share_list-returns : goal.share_list-returns
share_list-returns g t c =
    let gives = c.into_iter-tree-iterator.ensures.into_iter_gives in
    let end =
    YieldsList-end (YieldsList-from_vec c.args.list.items gives.0 (gives.1 ∙ c.args.list.ok.0)) c.loop-tree.yielded
    c.loop-tree.tree-iterator c.loop-tree.yielded_by c.next.result c.next.new.self c.in-None.is c.next.ensures.steps in
    c.in_ok-of.ensures.ok ∙ c.loop-tree.invariant ∙ sym (map-id c.loop-tree.yielded) ∙ end.0
