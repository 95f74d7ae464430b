-- The recursion of an insertion: each return is one event's, and each call goes to a child that the key leads to.
use Rattle.std.proofs.Common.{refl, sym, ap, subst, ◌∙◌, arith, is_ok, length, rules}
use Rattle.std.proofs.Math.ListN.{length-set}
use Rattle.std.proofs.lemmas.Result.{on_ok_weaker}
use Rattle.vc_tree_model.specs.Canonical.{AreChildren}
use Rattle.vc_tree_model.specs.Snapshot.{tree_alike_refl}
use Rattle.vc_tree_model.proofs.AlikeLemmas.{alike-children}
use Rattle.vc_tree_nodes.proofs.Events.{on-err, on-both, child-grown, parts-canonical, inserted-canonical}
use Rattle.vc_tree_nodes.proofs.Events.{leads-within, leads-child, leads-nodes, list-updated, list-grown}
use Rattle.vc_tree_nodes.proofs.Events.{list-alike, length-kept}
use Rattle.vc_tree_nodes.proofs.Parted.{same-joined, same-behind_whole, same-ended, known-within, splits-lower}
use Rattle.vc_tree_nodes.proofs.Parted.{splits-higher, grown-from}
use Rattle.vc_tree_nodes.proofs.Updating.{updated-respelled}
use Rattle.vc_tree_nodes.proofs.insertion.+insertion.Goals as goal

pub insert_behind-child_place-requires : goal.insert_behind-child_place-requires
insert_behind-child_place-requires g t c = subst (AreChildren g.K.Ord.cmp) (sym c.children.ensures) c.requires.canonical

pub insert_below-assemble-requires : goal.insert_below-assemble-requires
insert_below-assemble-requires g t c =
    let tree = g.T.RadixNode.tree in
    let parts = rw (c.in-Some.is, c.replace-node.ensures.value) at c.take_apart-prefix.ensures in
    on-both c.insert_into-done.result c.insert_into-done.ensures.ok c.insert_into-done.ensures.err
    (λ updated. inserted-canonical (child-grown g.met.T.Build.keeps_refl g.met.T.Build.keeps_trans g.met.K.Ord.total tree
    (tree c.args.tree.now) _ _ parts.prefix parts.value parts.children refl c.requires.solid c.requires.leads.key_is
    c.insert_into-done.ensures.as_many c.insert_into-done.ensures.canonical updated))
    (λ alike. parts-canonical g.met.T.Build.keeps_refl g.met.T.Build.keeps_trans g.met.K.Ord.total tree
    (tree c.args.tree.now) _ _ parts.prefix parts.value parts.children parts.canonical alike)

pub insert_below-returns-clause-ok : goal.insert_below-returns-clause-ok
insert_below-returns-clause-ok g t c =
    let tree = g.T.RadixNode.tree in
    let parts = rw (c.in-Some.is, c.replace-node.ensures.value) at c.take_apart-prefix.ensures in
    on_ok_weaker c.insert_into-done.result
    (λ updated. child-grown g.met.T.Build.keeps_refl g.met.T.Build.keeps_trans g.met.K.Ord.total tree (tree c.args.tree.now) _ _
    parts.prefix parts.value parts.children c.assemble.ensures c.requires.solid c.requires.leads.key_is
    c.insert_into-done.ensures.as_many c.insert_into-done.ensures.canonical updated) c.insert_into-done.ensures.ok

pub insert_from-split_beside-requires : goal.insert_from-split_beside-requires
insert_from-split_beside-requires g t c =
    splits-lower g.K.Ord.cmp (g.T.RadixNode.tree c.args.tree.now) c.prefix-prefix.result.now c.args.key.now
    c.in-Lower.n c.prefix-prefix.ensures.value c.in-Lower.ensures.is c.requires.solid

pub insert_from-split_beside-requires-in-Higher : goal.insert_from-split_beside-requires-in-Higher
insert_from-split_beside-requires-in-Higher g t c =
    splits-higher g.K.Ord.cmp g.met.K.Ord.total (g.T.RadixNode.tree c.args.tree.now)
    c.prefix-prefix.result.now c.args.key.now c.in-Higher.n c.prefix-prefix.ensures.value c.in-Higher.ensures.is c.requires.solid

pub insert_from-returns-in-Behind-clause-ok : goal.insert_from-returns-in-Behind-clause-ok
insert_from-returns-in-Behind-clause-ok g t c =
    on_ok_weaker c.insert_behind.result
    (λ inserted. updated-respelled g.K.Ord.cmp g.T.Build.keeps g.met.K.Ord.total _ c.args.key.now c.args.value _ _
    (same-behind_whole g.K.Ord.cmp g.met.K.Ord.total c.prefix-prefix.result.now _ c.args.key.now
    c.prefix-prefix.ensures.value c.in-Behind.ensures.is) inserted.updated) c.insert_behind.ensures.ok

pub insert_from-returns-in-Inside-clause-ok : goal.insert_from-returns-in-Inside-clause-ok
insert_from-returns-in-Inside-clause-ok g t c =
    on_ok_weaker c.split_above.result
    (λ inserted. updated-respelled g.K.Ord.cmp g.T.Build.keeps g.met.K.Ord.total _ c.args.key.now c.args.value _ _
    (same-ended g.K.Ord.cmp c.prefix-prefix.result.now _ c.args.key.now c.in-Inside.n
    c.prefix-prefix.ensures.value c.in-Inside.ensures.is.0 c.in-Inside.ensures.is.1) inserted.updated) c.split_above.ensures.ok

pub insert_from-returns-in-Inside-clause-err : goal.insert_from-returns-in-Inside-clause-err
insert_from-returns-in-Inside-clause-err g t c =
    on-err c.split_above.result (λ e. rw e (tree_alike_refl g.T.Build.keeps g.met.T.Build.keeps_refl _)) c.split_above.ensures.err

pub insert_from-returns-in-Lower : goal.insert_from-returns-in-Lower
insert_from-returns-in-Lower g t c =
    let tree = g.T.RadixNode.tree c.args.tree.now in
    let is = c.prefix-prefix.ensures.value in
    let parts = c.in-Lower.ensures.is in
    record {
      ok = on_ok_weaker c.split_beside.result
          (λ inserted. updated-respelled g.K.Ord.cmp g.T.Build.keeps g.met.K.Ord.total _ c.args.key.now c.args.value _ _
          (same-joined g.K.Ord.cmp g.met.K.Ord.total _ tree.prefix c.args.key.now c.in-Lower.n is parts.agree) inserted.updated)
          c.split_beside.ensures.ok;
      grown = on_ok_weaker c.split_beside.result
          (λ inserted. grown-from g.K.Ord.cmp c.args.known c.in-Lower.n tree _
          (known-within g.K.Ord.cmp _ _ tree.prefix c.args.key.now c.args.known c.in-Lower.n is refl c.requires.known parts)
          inserted.branch)
          c.split_beside.ensures.ok;
      err = on-err c.split_beside.result (λ e. rw e (tree_alike_refl g.T.Build.keeps g.met.T.Build.keeps_refl tree))
          c.split_beside.ensures.err;
    }

pub insert_from-returns-in-Higher : goal.insert_from-returns-in-Higher
insert_from-returns-in-Higher g t c =
    let tree = g.T.RadixNode.tree c.args.tree.now in
    let is = c.prefix-prefix.ensures.value in
    let parts = c.in-Higher.ensures.is in
    record {
      ok = on_ok_weaker c.split_beside-in-Higher.result
          (λ inserted. updated-respelled g.K.Ord.cmp g.T.Build.keeps g.met.K.Ord.total _ c.args.key.now c.args.value _ _
          (same-joined g.K.Ord.cmp g.met.K.Ord.total _ tree.prefix c.args.key.now c.in-Higher.n is parts.agree) inserted.updated)
          c.split_beside-in-Higher.ensures.ok;
      grown = on_ok_weaker c.split_beside-in-Higher.result
          (λ inserted. grown-from g.K.Ord.cmp c.args.known c.in-Higher.n tree _
          (known-within g.K.Ord.cmp _ _ tree.prefix c.args.key.now c.args.known c.in-Higher.n is refl c.requires.known parts)
          inserted.branch)
          c.split_beside-in-Higher.ensures.ok;
      err = on-err c.split_beside-in-Higher.result (λ e. rw e (tree_alike_refl g.T.Build.keeps g.met.T.Build.keeps_refl tree))
          c.split_beside-in-Higher.ensures.err;
    }

pub insert_into-returns-in_err-list : goal.insert_into-returns-in_err-list
insert_into-returns-in_err-list g t c =
    let kept = g.met.T.Build.kept_alike _ _ (rw c.in_err-list.was at c.make_mut.follows.holds-at-none) in
    record {
      ok = search rules;
      canonical = alike-children g.T.Build.keeps g.K.Ord.cmp _ _ kept c.requires.canonical;
      as_many = sym (length-kept g.T.Build.keeps g.T.RadixNode.tree _ _ kept);
      err = search rules;
    }

pub insert_into-index_mut-requires : goal.insert_into-index_mut-requires
insert_into-index_mut-requires g t c =
    let h =
    leads-within g.met.T.Build.keeps_refl g.met.T.Build.keeps_trans g.met.K.Ord.total
    g.T.RadixNode.tree _ _ c.requires.leads (g.met.T.Build.kept_alike _ _ c.in_ok-list.ensures.value) c.requires.canonical in
    omega (arith, h, c.in_ok-list.list.now.ok.0)

pub insert_into-insert_from-requires : goal.insert_into-insert_from-requires
insert_into-insert_from-requires g t c =
    let kept = g.met.T.Build.kept_alike _ _ c.in_ok-list.ensures.value in
    let child =
    leads-child g.met.T.Build.keeps_refl g.met.T.Build.keeps_trans g.met.K.Ord.total
    g.T.RadixNode.tree _ _ c.requires.leads kept c.requires.canonical c.index_mut.ensures.value in
    let fewer =
    leads-nodes g.met.T.Build.keeps_refl g.met.T.Build.keeps_trans g.met.K.Ord.total
    g.T.RadixNode.tree _ _ c.requires.leads kept c.requires.canonical c.index_mut.ensures.value in
    let agree = child.0 in
    let solid = child.1 in
    search rules

pub insert_into-returns : goal.insert_into-returns
insert_into-returns g t c =
    let kept = g.met.T.Build.kept_alike _ _ c.in_ok-list.ensures.value in
    let set = c.make_mut.follows.holds _ (ap is_ok c.in_ok-list.was) in
    let alike =
    list-alike g.met.T.Build.keeps_refl g.met.T.Build.keeps_trans g.met.K.Ord.total
    g.T.RadixNode.tree _ _ c.requires.leads kept c.requires.canonical _ c.index_mut.ensures.value set in
    record {
      ok = on_ok_weaker c.insert_from.result
          (list-updated g.met.T.Build.keeps_refl g.met.T.Build.keeps_trans g.met.K.Ord.total
          g.T.RadixNode.tree _ _ c.requires.leads kept c.requires.canonical _ c.index_mut.ensures.value set)
          c.insert_from.ensures.ok;
      canonical = on-both c.insert_from.result c.insert_from.ensures.grown c.insert_from.ensures.err
          (list-grown g.met.T.Build.keeps_refl g.met.T.Build.keeps_trans g.met.K.Ord.total
          g.T.RadixNode.tree _ _ c.requires.leads kept c.requires.canonical _ c.index_mut.ensures.value set)
          (λ h. alike-children g.T.Build.keeps g.K.Ord.cmp _ _ (alike h) c.requires.canonical);
      as_many =
          ap length set ∙ length-set c.in_ok-list.list.now.items c.args.i c.insert_from.new.tree
          ∙ sym (length-kept g.T.Build.keeps g.T.RadixNode.tree _ _ kept);
      err = on-err c.insert_from.result alike c.insert_from.ensures.err;
    }
