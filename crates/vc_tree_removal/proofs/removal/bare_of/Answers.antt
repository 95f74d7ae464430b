-- One child is taken out, and others stay.
use Rattle.std.proofs.Common.{None, map, ◌∙◌, arith}
use Rattle.vc_tree_model.specs.Snapshot.{alike_refl}
use Rattle.vc_tree_model.specs.Tree.{forest}
use Rattle.vc_tree_model.proofs.AlikeLemmas.{alike-children}
use Rattle.vc_tree_nodes.proofs.Events.{length-kept}
use Rattle.vc_tree_nodes.proofs.Finding.{trees-length}
use Rattle.vc_tree_removal.proofs.Putting.{one-stands, solid-stays, some-solid}
use Rattle.vc_tree_removal.proofs.removal.bare_of.Goals as goal

pub returns-clause-ok : goal.returns-clause-ok
returns-clause-ok g c =
    let f = forest (map g.T.RadixNode.tree (g.T.Children.ChildList.items c.args.children.now)) in
    record {
      kept = f;
      alike = alike_refl g.T.Build.keeps g.met.T.Build.keeps_refl f;
      is = solid-stays _ None f (some-solid f c.requires.some
          (rw trees-length (λ one. c.if-many-eq1.false (c.requires.many ∙ one))));
    }

pub lone-requires-clause-canonical : goal.lone-requires-clause-canonical
lone-requires-clause-canonical g c =
    alike-children g.T.Build.keeps g.K.Ord.cmp _ _ (g.met.T.Build.kept_alike _ _ c.in_ok-list.ensures.value)
    c.requires.canonical

pub returns-then-many-eq1-clause-ok : goal.returns-then-many-eq1-clause-ok
returns-then-many-eq1-clause-ok g c =
    let alike = g.met.T.Build.kept_alike _ _ c.in_ok-list.ensures.value in
    let long = length-kept g.T.Build.keeps g.T.RadixNode.tree _ _ alike in
    let one = one-stands (g.T.Prefix.Fragment.items c.args.front.now) _
    (rw trees-length (omega (arith, long, c.requires.many, c.if-many-eq1.true))) in
    record { kept = _; alike = alike; is = rw c.in_ok-whole.ensures.ok.is one }
