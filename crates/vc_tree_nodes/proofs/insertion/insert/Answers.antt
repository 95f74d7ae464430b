-- The empty tree becomes a leaf; any other grows.
use Rattle.std.proofs.Common.{sym, ◌∙◌}
use Rattle.std.proofs.lemmas.Result.{on_ok_weaker}
use Rattle.vc_tree_model.proofs.AlikeLemmas.{tree-alike_canonical, tree-alike_lookup}
use Rattle.vc_tree_model.proofs.KeyLemmas.{same-itself}
use Rattle.vc_tree_nodes.proofs.Events.{on-err, on-both, leaf-made}
use Rattle.vc_tree_nodes.proofs.Growing.{not-bare_solid, solid-canonical}
use Rattle.vc_tree_nodes.proofs.insertion.insert.Goals as goal

pub returns-then-is_empty-clause-ok : goal.returns-then-is_empty-clause-ok
returns-then-is_empty-clause-ok g c =
    let tree = g.T.RadixNode.tree in
    leaf-made g.K.Ord.cmp g.T.Build.keeps (tree c.args.tree.now) (tree c.in_ok-tree.field-0) c.args.key.now
    c.args.value (sym c.is_empty.ensures ∙ c.if-is_empty.true) c.in_ok-tree.ensures.is

pub returns-then-is_empty-clause-binds : goal.returns-then-is_empty-clause-binds
returns-then-is_empty-clause-binds g c =
    let tree = g.T.RadixNode.tree in
    (leaf-made g.K.Ord.cmp g.T.Build.keeps (tree c.args.tree.now) (tree c.in_ok-tree.field-0) c.args.key.now
    c.args.value (sym c.is_empty.ensures ∙ c.if-is_empty.true) c.in_ok-tree.ensures.is).at c.args.key.now
    (same-itself g.K.Ord.cmp g.met.K.Ord.total c.args.key.now)

pub insert_from-requires-clause-solid : goal.insert_from-requires-clause-solid
insert_from-requires-clause-solid g c =
    not-bare_solid (g.T.RadixNode.tree c.args.tree.now) c.canonical.ensures.0
    (sym c.is_empty.ensures ∙ c.if-is_empty.false)

pub returns-clause-binds : goal.returns-clause-binds
returns-clause-binds g c =
    on_ok_weaker c.insert_from.result
    (λ updated. updated.at c.args.key.now (same-itself g.K.Ord.cmp g.met.K.Ord.total c.args.key.now))
    c.insert_from.ensures.ok

pub returns-clause-err : goal.returns-clause-err
returns-clause-err g c =
    on-err c.insert_from.result (tree-alike_lookup g.T.Build.keeps g.K.Ord.cmp
    (g.T.RadixNode.tree c.args.tree.now) (g.T.RadixNode.tree c.insert_from.new.tree))
    c.insert_from.ensures.err

pub returns-clause-canonical : goal.returns-clause-canonical
returns-clause-canonical g c =
    let tree = g.T.RadixNode.tree in
    on-both c.insert_from.result c.insert_from.ensures.grown c.insert_from.ensures.err
    (λ grown. solid-canonical g.K.Ord.cmp (tree c.insert_from.new.tree).prefix (tree c.insert_from.new.tree).value
    (tree c.insert_from.new.tree).children grown.solid grown.children)
    (λ alike. tree-alike_canonical g.T.Build.keeps g.K.Ord.cmp (tree c.args.tree.now) (tree c.insert_from.new.tree)
    alike c.canonical.ensures)
