-- A new node above the rest of the old one and a leaf beside it.
use Rattle.std.proofs.Common.{refl, ap, ◌∙◌, is_ok}
use Rattle.vc_tree_nodes.proofs.Events.{pair-made, inserted-canonical}
use Rattle.vc_tree_nodes.proofs.insertion.split_beside.Goals as goal

pub assemble-requires : goal.assemble-requires
assemble-requires g c =
    inserted-canonical (pair-made g.met.T.Build.keeps_refl g.met.T.Build.keeps_trans g.met.K.Ord.total g.T.RadixNode.tree
    c.requires c.prefix-whole.ensures.canonical c.prefix-whole.ensures.value c.in_ok-top.ensures.items
    c.in_ok-low_prefix.ensures.items c.cut-low.ensures c.in_ok-leaf.ensures.is (c.in_ok-children.ensures.ok ∙ c.new.ensures.items)
    (g.met.T.Build.kept_alike _ _ c.in_ok-list.ensures.value) c.reserve_exact.ensures.items c.put.ensures.items
    c.put-2.ensures.items (c.make_mut.follows.holds _ (ap is_ok c.in_ok-list.was)) refl)

pub returns-clause-ok : goal.returns-clause-ok
returns-clause-ok g c =
    pair-made g.met.T.Build.keeps_refl g.met.T.Build.keeps_trans g.met.K.Ord.total g.T.RadixNode.tree
    c.requires c.prefix-whole.ensures.canonical c.prefix-whole.ensures.value c.in_ok-top.ensures.items
    c.in_ok-low_prefix.ensures.items c.cut-low.ensures c.in_ok-leaf.ensures.is (c.in_ok-children.ensures.ok ∙ c.new.ensures.items)
    (g.met.T.Build.kept_alike _ _ c.in_ok-list.ensures.value) c.reserve_exact.ensures.items c.put.ensures.items
    c.put-2.ensures.items (c.make_mut.follows.holds _ (ap is_ok c.in_ok-list.was)) c.assemble.ensures
