-- A node's own pair, those of its children, and the pairs from the place of the loop on.
use Rattle.std.proofs.Common.{rules, ◌≡◌, ◌⊎◌, ◌+◌, ◌≤◌, ◌∙◌, ◌++◌, alloc_error, ap, inr, sym, subst, drop, map}
use Rattle.std.specs.List.{FoldsTo}
use Rattle.vc_tree_model.specs.Tree.{forest_nodes, nodes}
use Rattle.vc_tree_model.specs.Walk.{prepended, walk, walk_in}
use Rattle.vc_tree_nodes.specs.Children.{seen}
use Rattle.vc_tree_nodes.proofs.Finding.{child-nodes}
use Rattle.vc_tree_walks.specs.Folding.{CanFold, IsStopped, Turns, pairs_in}
use Rattle.vc_tree_walks.specs.Left.{pair_at}
use Rattle.vc_tree_walks.proofs.Folds.{asked-front, asked-back, folds-append, handed-on, node-pairs, node-parts, rest-pairs}
use Rattle.vc_tree_walks.proofs.Folds.{stopped-back, stopped-front}
use Rattle.vc_tree_walks.proofs.folding.+folding.Goals as goal

pub fold_node-fold_list-requires : goal.fold_node-fold_list-requires
fold_node-fold_list-requires g t c κs within =
    let tree = g.T.RadixNode.tree in
    let now = c.in_ok-extend_from_slice.ensures.items ∙ ap (λ p. c.args.key.now.items ++ p) c.prefix.ensures.value in
    let parts = node-parts tree c.args.key.now.items c.extend_from_slice.new.self.items c.as_slice.result.now c.args.node.now
    c.children.result.now now c.as_slice.ensures.value c.children.ensures in
    let may : CanFold g.F.Fn c.args.turn.now c.in_ok-own.own
    (pairs_in tree c.extend_from_slice.new.self.items c.children.result.now) =
    asked-back g.F.Fn c.args.turn.now (pair_at c.as_slice.result.now (tree c.args.node.now).value) _ c.args.held _
    (subst (CanFold g.F.Fn c.args.turn.now c.args.held) parts c.requires.callable) c.in_ok-own.ensures.folded in
    let fewer = ap forest_nodes c.children.ensures in
    search rules

pub fold_node-returns-clause-folded : goal.fold_node-returns-clause-folded
fold_node-returns-clause-folded g t c =
    let tree = g.T.RadixNode.tree in
    let now = c.in_ok-extend_from_slice.ensures.items ∙ ap (λ p. c.args.key.now.items ++ p) c.prefix.ensures.value in
    let parts = node-parts tree c.args.key.now.items c.extend_from_slice.new.self.items c.as_slice.result.now c.args.node.now
    c.children.result.now now c.as_slice.ensures.value c.children.ensures in
    subst (λ l. FoldsTo (Turns g.F.Fn c.args.turn.now) c.args.held l c.in_ok-last.last) (sym parts)
    (folds-append (Turns g.F.Fn c.args.turn.now) (pair_at c.as_slice.result.now (tree c.args.node.now).value) _ c.args.held
    c.in_ok-own.own _ c.in_ok-own.ensures.folded c.in_ok-last.ensures.folded)

pub fold_node-returns-in_err-own-clause-err : goal.fold_node-returns-in_err-own-clause-err
fold_node-returns-in_err-own-clause-err g t c =
    let tree = g.T.RadixNode.tree in
    let now = c.in_ok-extend_from_slice.ensures.items ∙ ap (λ p. c.args.key.now.items ++ p) c.prefix.ensures.value in
    let pair = pair_at c.as_slice.result.now (tree c.args.node.now).value in
    let whole = c.args.key.now.items ++ (tree c.args.node.now).prefix in
    let below = map (prepended whole) (walk_in (tree c.args.node.now).children) in
    let all = map (prepended c.args.key.now.items) (walk (tree c.args.node.now)) in
    let parts = subst (λ k. all ≡ pair_at k (tree c.args.node.now).value ++ below) (sym (c.as_slice.ensures.value ∙ now))
    (node-pairs c.args.key.now.items (tree c.args.node.now)) in
    handed-on g.F.Fn c.args.turn.now (g.E.From.from_gives alloc_error) pair all c.args.held c.args.held
    c.in_err-own.field-0.0 c.from_residual-in_err-own.result c.from_residual-in_err-own.ensures.1
    (λ e h. subst (λ l. IsStopped g.F.Fn c.args.turn.now c.args.held l e) (sym parts)
    (stopped-front g.F.Fn c.args.turn.now pair below c.args.held e h)) (inr c.in_err-own.ensures.err)

pub fold_node-returns-in_err-last-clause-err : goal.fold_node-returns-in_err-last-clause-err
fold_node-returns-in_err-last-clause-err g t c =
    let tree = g.T.RadixNode.tree in
    let now = c.in_ok-extend_from_slice.ensures.items ∙ ap (λ p. c.args.key.now.items ++ p) c.prefix.ensures.value in
    let parts = node-parts tree c.args.key.now.items c.extend_from_slice.new.self.items c.as_slice.result.now c.args.node.now
    c.children.result.now now c.as_slice.ensures.value c.children.ensures in
    let pair = pair_at c.as_slice.result.now (tree c.args.node.now).value in
    let below = pairs_in tree c.extend_from_slice.new.self.items c.children.result.now in
    handed-on g.F.Fn c.args.turn.now (g.E.From.from_gives alloc_error) below
    (map (prepended c.args.key.now.items) (walk (tree c.args.node.now))) c.args.held c.in_ok-own.own
    c.in_err-last.field-0.0 c.from_residual-in_err-last.result c.from_residual-in_err-last.ensures.1
    (λ e h. subst (λ l. IsStopped g.F.Fn c.args.turn.now c.args.held l e) (sym parts)
    (stopped-back g.F.Fn c.args.turn.now pair below c.args.held c.in_ok-own.own e c.in_ok-own.ensures.folded h))
    c.in_err-last.ensures.err

pub fold_list-fold_node-requires : goal.fold_list-fold_node-requires
fold_list-fold_node-requires g t c κs within =
    let tree = g.T.RadixNode.tree in
    let fewer : nodes (tree c.tree-item.result) ≤ forest_nodes (seen tree c.args.list.now) =
    rw c.tree-item.is (child-nodes g.K.Ord.cmp tree c.args.list.now c.loop-tree.tree-index c.tree-item.result
    c.loop-tree-test.true) in
    let rest = rest-pairs tree c.args.key.now.items c.args.list.now c.loop-tree.tree-index c.tree-item.result
    c.loop-tree-test.true c.tree-item.is in
    let may : CanFold g.F.Fn c.args.turn.now c.loop-tree.last
    (map (prepended c.args.key.now.items) (walk (tree c.tree-item.result))) =
    asked-front g.F.Fn c.args.turn.now _ (pairs_in tree c.args.key.now.items (drop (c.loop-tree.tree-index + 1) c.args.list.now)) _
    (subst (CanFold g.F.Fn c.args.turn.now c.loop-tree.last) rest c.loop-tree.invariant.callable) in
    let same = c.loop-tree.invariant.key in
    search rules

pub fold_list-loop-tree-preserved : goal.fold_list-loop-tree-preserved
fold_list-loop-tree-preserved g t c =
    let tree = g.T.RadixNode.tree in
    let turns = Turns g.F.Fn c.args.turn.now in
    let own = map (prepended c.args.key.now.items) (walk (tree c.tree-item.result)) in
    let rest = rest-pairs tree c.args.key.now.items c.args.list.now c.loop-tree.tree-index c.tree-item.result
    c.loop-tree-test.true c.tree-item.is in
    let done : FoldsTo turns c.loop-tree.last own c.in_ok-last.last =
    subst (λ k. FoldsTo turns c.loop-tree.last (map (prepended k) (walk (tree c.tree-item.result))) c.in_ok-last.last)
    c.loop-tree.invariant.key c.in_ok-last.ensures.folded in
    record {
      key = c.in_ok-last.ensures.key ∙ c.loop-tree.invariant.key;
      callable = asked-back g.F.Fn c.args.turn.now own _ c.loop-tree.last _
          (subst (CanFold g.F.Fn c.args.turn.now c.loop-tree.last) rest c.loop-tree.invariant.callable) done;
      folded = λ last h. c.loop-tree.invariant.folded last
          (subst (λ l. FoldsTo turns c.loop-tree.last l last) (sym rest)
          (folds-append turns own _ c.loop-tree.last c.in_ok-last.last last done h));
      stopped = λ e h. c.loop-tree.invariant.stopped e
          (subst (λ l. IsStopped g.F.Fn c.args.turn.now c.loop-tree.last l e) (sym rest)
          (stopped-back g.F.Fn c.args.turn.now own _ c.loop-tree.last c.in_ok-last.last e done h));
    }

pub fold_list-returns-in_err-last-clause-err : goal.fold_list-returns-in_err-last-clause-err
fold_list-returns-in_err-last-clause-err g t c =
    let tree = g.T.RadixNode.tree in
    let own = map (prepended c.args.key.now.items) (walk (tree c.tree-item.result)) in
    let rest = rest-pairs tree c.args.key.now.items c.args.list.now c.loop-tree.tree-index c.tree-item.result
    c.loop-tree-test.true c.tree-item.is in
    let behind = pairs_in tree c.args.key.now.items (drop (c.loop-tree.tree-index + 1) c.args.list.now) in
    let more : (e : _) → IsStopped g.F.Fn c.args.turn.now c.loop-tree.last own e
    → IsStopped g.F.Fn c.args.turn.now c.args.held (pairs_in tree c.args.key.now.items c.args.list.now) e =
    λ e h. c.loop-tree.invariant.stopped e
    (subst (λ l. IsStopped g.F.Fn c.args.turn.now c.loop-tree.last l e) (sym rest)
    (stopped-front g.F.Fn c.args.turn.now own behind c.loop-tree.last e h)) in
    handed-on g.F.Fn c.args.turn.now (g.E.From.from_gives alloc_error) own
    (pairs_in tree c.args.key.now.items c.args.list.now) c.args.held c.loop-tree.last
    c.in_err-last.field-0.0 c.from_residual.result c.from_residual.ensures.1 more
    (subst (λ k. g.E.From.from_gives alloc_error c.in_err-last.field-0.0 ⊎ IsStopped g.F.Fn c.args.turn.now c.loop-tree.last
    (map (prepended k) (walk (tree c.tree-item.result))) c.in_err-last.field-0.0) c.loop-tree.invariant.key
    c.in_err-last.ensures.err)
