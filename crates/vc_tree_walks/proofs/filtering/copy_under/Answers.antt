-- The walk of the pairs that start with the prefix is the walk of the node that was found, with what stands before it.
use Rattle.std.proofs.Common.{◌∙◌, sym, subst}
use Rattle.vc_tree_model.specs.Map.{lookup}
use Rattle.vc_tree_model.specs.Under.{under}
use Rattle.vc_tree_model.specs.Value.{Copies}
use Rattle.vc_tree_model.specs.Walk.{IsWalk}
use Rattle.vc_tree_walks.specs.IterLeft.{pairs_from}
use Rattle.vc_tree_walks.proofs.Filtered.{filtered-none, filtered-bare, filtered, copy-solid, something-below}
use Rattle.vc_tree_walks.proofs.filtering.copy_under.Goals as goal

pub returns-in_default-clause-made : goal.returns-in_default-clause-made
returns-in_default-clause-made g c =
    filtered-none g.K.Ord.cmp g.met.K.Ord.total (Copies g.V.Clone.is_clone)
    (lookup g.K.Ord.cmp (g.T.RadixNode.tree c.args.tree.now)) c.args.prefix.now (g.T.RadixNode.tree c.blank.result)
    c.blank.ensures
    (subst (λ r. IsWalk g.K.Ord.cmp
    (under g.K.Ord.cmp (lookup g.K.Ord.cmp (g.T.RadixNode.tree c.args.tree.now)) c.args.prefix.now)
    (pairs_from g.T.RadixNode.tree r))
    c.in_default.is c.find_under.ensures)

pub returns-then-is_empty-clause-made : goal.returns-then-is_empty-clause-made
returns-then-is_empty-clause-made g c =
    filtered-bare g.K.Ord.cmp g.met.K.Ord.total (Copies g.V.Clone.is_clone)
    (lookup g.K.Ord.cmp (g.T.RadixNode.tree c.args.tree.now)) c.args.prefix.now c.in-Some.front.now
    (g.T.RadixNode.tree c.in-Some.node.now) c.canonical.ensures
    (subst (λ r. IsWalk g.K.Ord.cmp
    (under g.K.Ord.cmp (lookup g.K.Ord.cmp (g.T.RadixNode.tree c.args.tree.now)) c.args.prefix.now)
    (pairs_from g.T.RadixNode.tree r))
    c.in-Some.is c.find_under.ensures)
    (g.T.RadixNode.tree c.blank-then-is_empty.result) c.blank-then-is_empty.ensures (sym c.is_empty.ensures ∙ c.if-is_empty.true)

pub returns-clause-made : goal.returns-clause-made
returns-clause-made g c =
    filtered g.K.Ord.cmp g.met.K.Ord.total (Copies g.V.Clone.is_clone)
    (lookup g.K.Ord.cmp (g.T.RadixNode.tree c.args.tree.now)) c.args.prefix.now c.in-Some.front.now
    (g.T.RadixNode.tree c.in-Some.node.now) c.canonical.ensures
    (subst (λ r. IsWalk g.K.Ord.cmp
    (under g.K.Ord.cmp (lookup g.K.Ord.cmp (g.T.RadixNode.tree c.args.tree.now)) c.args.prefix.now)
    (pairs_from g.T.RadixNode.tree r))
    c.in-Some.is c.find_under.ensures)
    g.T.RadixNode.tree (g.T.RadixNode.tree c.in_ok-copy_tree.field-0) c.new_joined.result c.in_ok-copy_tree.ensures
    c.new_joined.ensures

pub new_joined-requires : goal.new_joined-requires
new_joined-requires g c =
    copy-solid g.K.Ord.cmp g.met.K.Ord.total (Copies g.V.Clone.is_clone) (g.T.RadixNode.tree c.in-Some.node.now)
    (g.T.RadixNode.tree c.in_ok-copy_tree.field-0) c.canonical.ensures (sym c.is_empty.ensures ∙ c.if-is_empty.false)
    c.in_ok-copy_tree.ensures

pub returns-clause-absent : goal.returns-clause-absent
returns-clause-absent g c =
    something-below g.K.Ord.cmp g.met.K.Ord.total (Copies g.V.Clone.is_clone)
    (lookup g.K.Ord.cmp (g.T.RadixNode.tree c.args.tree.now)) c.args.prefix.now c.in-Some.front.now
    (g.T.RadixNode.tree c.in-Some.node.now) c.canonical.ensures
    (subst (λ r. IsWalk g.K.Ord.cmp
    (under g.K.Ord.cmp (lookup g.K.Ord.cmp (g.T.RadixNode.tree c.args.tree.now)) c.args.prefix.now)
    (pairs_from g.T.RadixNode.tree r))
    c.in-Some.is c.find_under.ensures)
    (sym c.is_empty.ensures ∙ c.if-is_empty.false)

pub returns-in_err-copy_tree-clause-absent : goal.returns-in_err-copy_tree-clause-absent
returns-in_err-copy_tree-clause-absent g c =
    something-below g.K.Ord.cmp g.met.K.Ord.total (Copies g.V.Clone.is_clone)
    (lookup g.K.Ord.cmp (g.T.RadixNode.tree c.args.tree.now)) c.args.prefix.now c.in-Some.front.now
    (g.T.RadixNode.tree c.in-Some.node.now) c.canonical.ensures
    (subst (λ r. IsWalk g.K.Ord.cmp
    (under g.K.Ord.cmp (lookup g.K.Ord.cmp (g.T.RadixNode.tree c.args.tree.now)) c.args.prefix.now)
    (pairs_from g.T.RadixNode.tree r))
    c.in-Some.is c.find_under.ensures)
    (sym c.is_empty.ensures ∙ c.if-is_empty.false)
