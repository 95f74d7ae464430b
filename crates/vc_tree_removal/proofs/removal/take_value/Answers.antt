-- A lone child stands in the place of the node; any other node loses its value alone.
use Rattle.std.proofs.Common.{ap, length, ◌∙◌}
use Rattle.vc_tree_model.specs.Snapshot.{kept_itself}
use Rattle.vc_tree_model.specs.Tree.{trees}
use Rattle.vc_tree_model.proofs.AlikeLemmas.{alike-canonical}
use Rattle.vc_tree_nodes.proofs.Finding.{trees-length}
use Rattle.vc_tree_removal.proofs.Parting.{removed-value}
use Rattle.vc_tree_removal.proofs.removal.take_value.Goals as goal

pub bare_of-requires-clause-many : goal.bare_of-requires-clause-many
bare_of-requires-clause-many g c =
    let same = c.children-many.ensures ∙ ap (λ t. t.children) c.opened-prefix.ensures.is in
    rw (trees-length, trees-length) at (ap (λ f. length (trees f)) same)

pub closed-requires : goal.closed-requires
closed-requires g c =
    let o = c.opened-prefix.ensures in
    (removed-value g.met.K.Ord.total g.met.T.Build.keeps_refl (rw o.is at c.requires.bound) (rw o.is at o.canonical).1
    c.in-Ok.ensures.ok).child

pub assemble-requires : goal.assemble-requires
assemble-requires g c =
    let o = c.opened-prefix.ensures in
    alike-canonical g.T.Build.keeps g.K.Ord.cmp _ _ _ _ _ (kept_itself g.T.Build.keeps g.met.T.Build.keeps_refl _)
    c.in-Err.ensures.err (rw o.is at o.canonical)

pub returns-in-Ok-clause-ok : goal.returns-in-Ok-clause-ok
returns-in-Ok-clause-ok g c =
    let o = c.opened-prefix.ensures in
    rw (c.closed.ensures, c.alone.ensures, o.is) (removed-value g.met.K.Ord.total g.met.T.Build.keeps_refl
    (rw o.is at c.requires.bound) (rw o.is at o.canonical).1 c.in-Ok.ensures.ok)
