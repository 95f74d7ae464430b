-- The recursion of a removal: what is left of the key is bound below, and each call goes to a child that it leads to.
use Rattle.std.proofs.Common.{◌≡◌, refl, sym, ap, ◌∙◌, arith, is_ok, length-set, rules, set, Some}
use Rattle.std.proofs.lemmas.List.{get_or_read_under}
use Rattle.vc_tree_model.specs.Snapshot.{alike_refl, kept_itself}
use Rattle.vc_tree_model.specs.Tree.{forest_nodes, node}
use Rattle.vc_tree_model.proofs.AlikeLemmas.{alike-canonical, alike-nodes, alike-trans, tree-alike_lookup}
use Rattle.vc_tree_model.proofs.KeyLemmas.{behind-joins, same-itself}
use Rattle.vc_tree_model.proofs.ValueLemmas.{kept-refl}
use Rattle.vc_tree_nodes.proofs.Events.{always-err, on-err}
use Rattle.vc_tree_nodes.proofs.Finding.{begins-below, child-nodes}
use Rattle.vc_tree_nodes.proofs.Growing.{alike-set, solid-length}
use Rattle.vc_tree_walks.proofs.Scanning.{no-first}
use Rattle.vc_tree_removal.proofs.Parting.{alike-asked, if-ok, met-child, removed-as, removed-child, removed-out}
use Rattle.vc_tree_removal.proofs.Putting.{put-set, solid-stays}
use Rattle.vc_tree_removal.proofs.Reaching.{met-value, met-leads, met-reaches}
use Rattle.vc_tree_removal.proofs.removal.+removal.Goals as goal

pub remove_from-take_value-requires-clause-bound : goal.remove_from-take_value-requires-clause-bound
remove_from-take_value-requires-clause-bound g t c =
    let ended = c.rest_of-rest.ensures ∙ ap Some (no-first c.rest_of-rest.result.now (sym c.in_default.ensures.value)) in
    met-value g.met.K.Ord.total (g.T.RadixNode.tree c.args.tree.now) (rw (c.requires.deep.ends ended) at c.requires.met) ended

pub remove_from-returns-in_default-clause-ok : goal.remove_from-returns-in_default-clause-ok
remove_from-returns-in_default-clause-ok g t c =
    let ended = c.rest_of-rest.ensures ∙ ap Some (no-first c.rest_of-rest.result.now (sym c.in_default.ensures.value)) in
    rw (c.requires.deep.ends ended) (if-ok c.take_value.result (λ taken. removed-as g.met.K.Ord.total
    g.met.T.Build.keeps_trans (λ k. kept-refl g.T.Build.keeps g.met.T.Build.keeps_refl _)
    (behind-joins g.K.Ord.cmp g.met.K.Ord.total _ _ _ ended)) c.take_value.ensures.ok)

pub remove_from-unreachable-requires : goal.remove_from-unreachable-requires
remove_from-unreachable-requires g t c =
    met-reaches g.met.K.Ord.total (g.T.RadixNode.tree c.args.tree.now) c.requires.met c.rest_of-rest.result.now _ _
    c.rest_of-rest.ensures (sym c.in-Some.ensures.value) (rw c.children.ensures at c.in_default-child_place.ensures.place)

pub remove_from-remove_in-requires : goal.remove_from-remove_in-requires
remove_from-remove_in-requires g t c κs inside =
    let o = c.opened-prefix.ensures in
    let fewer = ap (λ t. forest_nodes t.children) o.is in
    let met =
    met-leads g.met.K.Ord.total (g.T.RadixNode.tree c.args.tree.now) c.requires.met o.canonical o.is
    c.rest_of-rest.ensures (sym c.in-Some.ensures.value) (rw c.children.ensures at c.in-Ok.ensures.place) in
    search rules

pub remove_from-assemble-requires : goal.remove_from-assemble-requires
remove_from-assemble-requires g t c =
    let o = c.opened-prefix.ensures in
    alike-canonical g.T.Build.keeps g.K.Ord.cmp _ _ _ _ _ (kept_itself g.T.Build.keeps g.met.T.Build.keeps_refl _)
    c.in-Err.ensures.err (rw o.is at o.canonical)

pub remove_from-returns-in-Ok-remove_in-clause-ok : goal.remove_from-returns-in-Ok-remove_in-clause-ok
remove_from-returns-in-Ok-remove_in-clause-ok g t c =
    let o = c.opened-prefix.ensures in
    rw (c.closed.ensures, o.is) (removed-as g.met.K.Ord.total g.met.T.Build.keeps_trans
    (λ k. kept-refl g.T.Build.keeps g.met.T.Build.keeps_refl _)
    (behind-joins g.K.Ord.cmp g.met.K.Ord.total _ _ _ (rw o.is at c.rest_of-rest.ensures)) c.in-Ok-remove_in.ensures.ok)

pub remove_in-remove_at-requires : goal.remove_in-remove_at-requires
remove_in-remove_at-requires g t c κs inside =
    let alike = g.met.T.Build.kept_alike _ _ c.in_ok-list.ensures.value in
    let fewer = alike-nodes g.T.Build.keeps _ _ alike in
    let met = alike-asked g.T.Build.keeps g.met.T.Build.keeps_refl alike c.requires in
    let within = begins-below g.K.Ord.cmp g.T.RadixNode.tree c.in_ok-list.list.now.items _ c.args.i met.leads.begins in
    search rules

pub remove_in-returns-clause-ok : goal.remove_in-returns-clause-ok
remove_in-returns-clause-ok g t c =
    let front = g.T.Prefix.Fragment.items c.args.front.now in
    let alike = g.met.T.Build.kept_alike _ _ c.in_ok-list.ensures.value in
    if-ok c.remove_at.result
    (λ done removed. rw (c.make_mut.follows.holds _ (ap is_ok c.in_ok-list.was)) (removed-as g.met.K.Ord.total
    g.met.T.Build.keeps_trans (tree-alike_lookup g.T.Build.keeps g.K.Ord.cmp (node front c.args.own.now _)
    (node front c.args.own.now _) (refl, kept_itself g.T.Build.keeps g.met.T.Build.keeps_refl c.args.own.now, alike))
    (same-itself g.K.Ord.cmp g.met.K.Ord.total _) removed)) c.remove_at.ensures.ok

pub remove_in-returns-clause-err : goal.remove_in-returns-clause-err
remove_in-returns-clause-err g t c =
    on-err c.remove_at.result
    (λ h. rw (c.make_mut.follows.holds _ (ap is_ok c.in_ok-list.was)) (alike-trans g.T.Build.keeps g.met.T.Build.keeps_trans
    _ _ _ (g.met.T.Build.kept_alike _ _ c.in_ok-list.ensures.value) h)) c.remove_at.ensures.err

pub remove_at-goes_wholly-requires : goal.remove_at-goes_wholly-requires
remove_at-goes_wholly-requires g t c =
    met-child g.met.K.Ord.total _ _ c.requires.met c.index.ensures

pub remove_at-returns-then-goes_wholly-clause-ok : goal.remove_at-returns-then-goes_wholly-clause-ok
remove_at-returns-then-goes_wholly-clause-ok g t c =
    if-ok c.part_out.result
    (λ done. removed-out g.met.K.Ord.total _ _ c.requires.met c.index.ensures
    g.met.T.Build.keeps_refl c.if-goes_wholly.ensures) c.part_out.ensures.ok

pub remove_at-returns-then-goes_wholly-clause-err : goal.remove_at-returns-then-goes_wholly-clause-err
remove_at-returns-then-goes_wholly-clause-err g t c =
    on-err c.part_out.result (λ e. rw e (alike_refl g.T.Build.keeps g.met.T.Build.keeps_refl _)) c.part_out.ensures.err

pub remove_at-remove_from-requires : goal.remove_at-remove_from-requires
remove_at-remove_from-requires g t c κs inside =
    let same : c.index.result.now ≡ c.index_mut.result.now =
    get_or_read_under _ _ _ _ c.index_mut.result.now c.index.ensures c.requires.within c.args.list.now.ok.0
    ∙ sym c.index_mut.ensures.value in
    let deep = rw same at c.if-goes_wholly.ensures in
    let met =
    met-child g.met.K.Ord.total _ _ c.requires.met c.index_mut.ensures.value in
    let fewer = child-nodes g.K.Ord.cmp g.T.RadixNode.tree c.args.list.now.items c.args.i c.index_mut.result.now
    (omega arith) in
    search rules

pub remove_at-returns-in_err-taken-clause-err : goal.remove_at-returns-in_err-taken-clause-err
remove_at-returns-in_err-taken-clause-err g t c =
    always-err c.from_residual.result
    (alike-set g.T.Build.keeps g.met.T.Build.keeps_refl g.T.RadixNode.tree c.args.list.now.items c.args.i c.remove_from.new.tree
    c.index_mut.result.now (rw (← c.index_mut.ensures.value) c.in_err-taken.ensures.err))

pub remove_at-returns-clause-ok : goal.remove_at-returns-clause-ok
remove_at-returns-clause-ok g t c =
    let tree = g.T.RadixNode.tree in
    let new = set c.args.list.now.items c.args.i c.remove_from.new.tree in
    let removed = c.in_ok-taken.ensures.ok in
    let solid = solid-length tree c.args.own.now c.args.list.now.items new (sym (length-set _ _ _)) c.requires.met.solid in
    removed-child g.met.K.Ord.total _ _ c.requires.met c.index_mut.ensures.value
    g.met.T.Build.keeps_refl (Some (tree c.remove_from.new.tree)) removed.begins removed.child removed.divided
    (rw (← put-set tree c.args.list.now.items c.args.i c.remove_from.new.tree) (solid-stays _ c.args.own.now _ solid))
