-- The recursion of a change of a value: each call goes to the child that the key leads to.
use Rattle.std.proofs.Common.{refl, sym, ap, ◌∙◌, is_ok, arith, length, rules, Some}
use Rattle.std.proofs.Math.ListN.{length-set}
use Rattle.std.proofs.lemmas.Result.{IfOk-weaker}
use Rattle.vc_tree_model.specs.Snapshot.{kept_itself}
use Rattle.vc_tree_model.specs.Tree.{forest_nodes}
use Rattle.vc_tree_model.proofs.AlikeLemmas.{alike-canonical}
use Rattle.vc_tree_nodes.proofs.Events.{inserted-canonical, leads-nodes, leads-within, length-kept, list-alike}
use Rattle.vc_tree_nodes.proofs.Events.{list-grown, list-updated, on-err}
use Rattle.vc_tree_walks.proofs.Scanning.{first-cons, no-first}
use Rattle.vc_tree_removal.proofs.Writing.{below-kept, bound-begins, bound-below, branch-grown, gap-unbound}
use Rattle.vc_tree_removal.proofs.Writing.{kept-asked, kept-comes, kept-some, node-written, some-child, some-solid, written-both}
use Rattle.vc_tree_removal.proofs.changing.+writing.Goals as goal

pub write_from-rest_of-rest-requires : goal.write_from-rest_of-rest-requires
write_from-rest_of-rest-requires g t c =
    bound-begins g.K.Ord.cmp (g.T.RadixNode.tree c.args.tree.now) c.args.key.now c.requires.bound

pub write_from-write_value-requires-clause-ends : goal.write_from-write_value-requires-clause-ends
write_from-write_value-requires-clause-ends g t c =
    c.rest_of-rest.ensures ∙ ap Some (no-first c.rest_of-rest.result.now (sym c.in_default.ensures.value))

pub write_from-unreachable-requires : goal.write_from-unreachable-requires
write_from-unreachable-requires g t c =
    let tree = g.T.RadixNode.tree c.args.tree.now in
    gap-unbound g.K.Ord.cmp g.met.K.Ord.total tree.children _ _ c.rest_of-rest.result.now
    (rw c.children.ensures at c.in_default-child_place.ensures.place) (sym c.in-Some.ensures.value)
    (rw (bound-below g.K.Ord.cmp tree c.args.key.now c.rest_of-rest.result.now _ c.rest_of-rest.ensures
    (sym c.in-Some.ensures.value)) at c.requires.bound)

pub write_from-opened-prefix-requires : goal.write_from-opened-prefix-requires
write_from-opened-prefix-requires g t c =
    some-child g.K.Ord.cmp (g.T.RadixNode.tree c.args.tree.now).children _ _ (rw c.children.ensures at c.in-Ok.ensures.place)

pub write_from-write_in-done-requires : goal.write_from-write_in-done-requires
write_from-write_in-done-requires g t c κs inside =
    let tree = g.T.RadixNode.tree c.args.tree.now in
    let o = c.opened-prefix.ensures in
    let rest = c.rest_of-rest.result.now in
    let fewer = ap (λ t. forest_nodes t.children) o.is in
    let below = bound-below g.K.Ord.cmp tree c.args.key.now rest _ c.rest_of-rest.ensures (sym c.in-Some.ensures.value) in
    let first = first-cons rest _ (sym c.in-Some.ensures.value) in
    let bound = rw (below, o.is) at c.requires.bound in
    let takes = rw (below, o.is) at c.requires.takes in
    let begins = rw (c.children.ensures, o.is) at c.in-Ok.ensures.place in
    let canonical = rw o.is at o.canonical in
    search rules

pub write_from-assemble-requires : goal.write_from-assemble-requires
write_from-assemble-requires g t c =
    let tree = g.T.RadixNode.tree in
    let o = c.opened-prefix.ensures in
    let some = some-child g.K.Ord.cmp (tree c.args.tree.now).children _ _ (rw c.children.ensures at c.in-Ok.ensures.place) in
    let solid = some-solid g.K.Ord.cmp (tree c.args.tree.now) o.canonical some in
    written-both c.write_in-done.result _ c.write_in-done.ensures.ok c.write_in-done.ensures.err
    (λ answer w. inserted-canonical (node-written g.met.T.Build.keeps_refl g.met.T.Build.keeps_trans g.met.K.Ord.total tree
    (tree c.args.tree.now) _ _ c.args.key.now c.rest_of-rest.result.now c.rest_of-rest.ensures (sym c.in-Some.ensures.value)
    o.is refl solid c.write_in-done.ensures.as_many w).inserted)
    (λ alike. alike-canonical g.T.Build.keeps g.K.Ord.cmp _ _ _ _ _ (kept_itself g.T.Build.keeps g.met.T.Build.keeps_refl _)
    alike (rw o.is at o.canonical))

pub write_from-returns-clause-ok : goal.write_from-returns-clause-ok
write_from-returns-clause-ok g t c =
    let tree = g.T.RadixNode.tree in
    let o = c.opened-prefix.ensures in
    let some = some-child g.K.Ord.cmp (tree c.args.tree.now).children _ _ (rw c.children.ensures at c.in-Ok.ensures.place) in
    let solid = some-solid g.K.Ord.cmp (tree c.args.tree.now) o.canonical some in
    IfOk-weaker c.write_in-done.result _ _
    (λ answer w. node-written g.met.T.Build.keeps_refl g.met.T.Build.keeps_trans g.met.K.Ord.total tree
    (tree c.args.tree.now) _ _ c.args.key.now c.rest_of-rest.result.now c.rest_of-rest.ensures (sym c.in-Some.ensures.value)
    o.is c.assemble.ensures solid c.write_in-done.ensures.as_many w) c.write_in-done.ensures.ok

pub write_from-returns-clause-err : goal.write_from-returns-clause-err
write_from-returns-clause-err g t c =
    let o = c.opened-prefix.ensures in
    on-err c.write_in-done.result
    (λ h. rw (c.assemble.ensures, o.is) (refl, kept_itself g.T.Build.keeps g.met.T.Build.keeps_refl _, h)) c.write_in-done.ensures.err

pub write_in-index_mut-requires : goal.write_in-index_mut-requires
write_in-index_mut-requires g t c =
    let h =
    leads-within g.met.T.Build.keeps_refl g.met.T.Build.keeps_trans g.met.K.Ord.total
    g.T.RadixNode.tree _ _ c.requires.leads (g.met.T.Build.kept_alike _ _ c.in_ok-list.ensures.value) c.requires.canonical in
    omega (arith, h, c.in_ok-list.list.now.ok.0)

pub write_in-write_from-requires : goal.write_in-write_from-requires
write_in-write_from-requires g t c κs inside =
    let alike = g.met.T.Build.kept_alike _ _ c.in_ok-list.ensures.value in
    let kept =
    below-kept g.met.T.Build.keeps_refl g.met.T.Build.keeps_trans g.met.K.Ord.total g.T.RadixNode.tree _ _ c.requires.leads
    alike c.requires.canonical c.index_mut.ensures.value in
    let bound = kept-some g.T.Build.keeps g.met.T.Build.keeps_trans _ _ kept c.requires.bound in
    let takes = kept-asked g.T.Build.keeps g.met.T.Build.keeps_trans _ _ _ kept c.requires.takes in
    let fewer =
    leads-nodes g.met.T.Build.keeps_refl g.met.T.Build.keeps_trans g.met.K.Ord.total
    g.T.RadixNode.tree _ _ c.requires.leads alike c.requires.canonical c.index_mut.ensures.value in
    search rules

pub write_in-returns-clause-ok : goal.write_in-returns-clause-ok
write_in-returns-clause-ok g t c =
    let tree = g.T.RadixNode.tree in
    let alike = g.met.T.Build.kept_alike _ _ c.in_ok-list.ensures.value in
    let kept =
    below-kept g.met.T.Build.keeps_refl g.met.T.Build.keeps_trans g.met.K.Ord.total tree _ _ c.requires.leads
    alike c.requires.canonical c.index_mut.ensures.value in
    let new = c.make_mut.follows.holds _ (ap is_ok c.in_ok-list.was) in
    IfOk-weaker c.write_from.result _ _
    (λ r w. record {
      new = w.new;
      comes = kept-comes g.T.Build.keeps g.met.T.Build.keeps_trans _ _ _ w.new r kept w.comes;
      updated =
          list-updated g.met.T.Build.keeps_refl g.met.T.Build.keeps_trans g.met.K.Ord.total tree _ _ c.requires.leads alike
          c.requires.canonical _ c.index_mut.ensures.value new w.inserted.updated;
      canonical =
          list-grown g.met.T.Build.keeps_refl g.met.T.Build.keeps_trans g.met.K.Ord.total tree _ _ c.requires.leads alike
          c.requires.canonical _ c.index_mut.ensures.value new (branch-grown g.K.Ord.cmp _ _ w.inserted.branch);
    }) c.write_from.ensures.ok

pub write_in-returns-clause-err : goal.write_in-returns-clause-err
write_in-returns-clause-err g t c =
    on-err c.write_from.result (list-alike g.met.T.Build.keeps_refl g.met.T.Build.keeps_trans g.met.K.Ord.total
    g.T.RadixNode.tree _ _ c.requires.leads (g.met.T.Build.kept_alike _ _ c.in_ok-list.ensures.value) c.requires.canonical
    _ c.index_mut.ensures.value (c.make_mut.follows.holds _ (ap is_ok c.in_ok-list.was))) c.write_from.ensures.err

pub write_in-returns-clause-as_many : goal.write_in-returns-clause-as_many
write_in-returns-clause-as_many g t c =
    let kept =
    length-kept g.T.Build.keeps g.T.RadixNode.tree _ _ (g.met.T.Build.kept_alike _ _ c.in_ok-list.ensures.value) in
    ap length (c.make_mut.follows.holds _ (ap is_ok c.in_ok-list.was)) ∙ length-set c.in_ok-list.list.now.items
    c.args.i c.write_from.new.tree ∙ sym kept

pub write_in-returns-in_err-list-clause-as_many : goal.write_in-returns-in_err-list-clause-as_many
write_in-returns-in_err-list-clause-as_many g t c =
    let kept = g.met.T.Build.kept_alike _ _ (rw c.in_err-list.was at c.make_mut.follows.holds-at-none) in
    sym (length-kept g.T.Build.keeps g.T.RadixNode.tree _ _ kept)
