-- A new node with the value, above the rest of the old one.
use Rattle.std.proofs.Common.{refl, ap, ◌∙◌, arith, is_ok}
use Rattle.vc_tree_nodes.proofs.Events.{whole-solid, top-made, inserted-canonical}
use Rattle.vc_tree_nodes.proofs.Growing.{solid-canonical}
use Rattle.vc_tree_nodes.proofs.insertion.split_above.Goals as goal

pub cut-low-requires : goal.cut-low-requires
cut-low-requires g c =
    let t = g.T.RadixNode.tree c.args.tree.now in
    let canonical = c.prefix-whole.ensures.canonical in
    solid-canonical g.K.Ord.cmp _ t.value t.children
    (whole-solid t.prefix t.value t.children (omega (arith, c.requires)) canonical.0) canonical.1

pub assemble-requires : goal.assemble-requires
assemble-requires g c =
    inserted-canonical (top-made g.met.T.Build.keeps_refl g.met.T.Build.keeps_trans g.met.K.Ord.total g.T.RadixNode.tree
    c.requires c.prefix-whole.ensures.canonical c.prefix-whole.ensures.value c.in_ok-top.ensures.items
    c.in_ok-low_prefix.ensures.items c.cut-low.ensures (c.in_ok-children.ensures.ok ∙ c.new.ensures.items)
    (g.met.T.Build.kept_alike _ _ c.in_ok-list.ensures.value) c.reserve_exact.ensures.items c.put.ensures.items
    (c.make_mut.follows.holds _ (ap is_ok c.in_ok-list.was)) refl)

pub returns-clause-ok : goal.returns-clause-ok
returns-clause-ok g c =
    top-made g.met.T.Build.keeps_refl g.met.T.Build.keeps_trans g.met.K.Ord.total g.T.RadixNode.tree
    c.requires c.prefix-whole.ensures.canonical c.prefix-whole.ensures.value c.in_ok-top.ensures.items
    c.in_ok-low_prefix.ensures.items c.cut-low.ensures (c.in_ok-children.ensures.ok ∙ c.new.ensures.items)
    (g.met.T.Build.kept_alike _ _ c.in_ok-list.ensures.value) c.reserve_exact.ensures.items c.put.ensures.items
    (c.make_mut.follows.holds _ (ap is_ok c.in_ok-list.was)) c.assemble.ensures
