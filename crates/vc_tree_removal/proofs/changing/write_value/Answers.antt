-- The value of the prefix is written, and all else is as it was.
use Rattle.std.proofs.Common.{rules, ap, subst, sym, ◌∙◌}
use Rattle.vc_tree_model.specs.Canonical.{IsCanonical}
use Rattle.vc_tree_removal.proofs.Writing.{bound-ends, none-bound, value-written}
use Rattle.vc_tree_removal.proofs.changing.write_value.Goals as goal

pub write-value-requires : goal.write-value-requires
write-value-requires g c =
    let tree = g.T.RadixNode.tree in
    let value = c.take_apart-prefix.ensures.value ∙ ap (λ t. (tree t).value) c.replace-node.ensures.value in
    let is = bound-ends g.K.Ord.cmp (tree c.args.tree.now) c.args.key.now c.requires.ends ∙ sym value ∙ c.in-Some.is in
    (rw is at c.requires.takes) c.in-Some.value (g.met.T.Build.keeps_refl c.in-Some.value)

pub unreachable-requires : goal.unreachable-requires
unreachable-requires g c =
    let tree = g.T.RadixNode.tree in
    let value = c.take_apart-prefix.ensures.value ∙ ap (λ t. (tree t).value) c.replace-node.ensures.value in
    let is = bound-ends g.K.Ord.cmp (tree c.args.tree.now) c.args.key.now c.requires.ends ∙ sym value ∙ c.in_default.is in
    none-bound _ is c.requires.bound

pub assemble-requires : goal.assemble-requires
assemble-requires g c =
    let tree = g.T.RadixNode.tree in
    let children = c.take_apart-prefix.ensures.children ∙ ap (λ t. (tree t).children) c.replace-node.ensures.value in
    let canonical =
    subst (λ t. IsCanonical g.K.Ord.cmp (tree t)) c.replace-node.ensures.value c.take_apart-prefix.ensures.canonical in
    search (rules, children, canonical)

pub returns : goal.returns
returns g c =
    let tree = g.T.RadixNode.tree in
    let value = c.take_apart-prefix.ensures.value ∙ ap (λ t. (tree t).value) c.replace-node.ensures.value in
    let is = bound-ends g.K.Ord.cmp (tree c.args.tree.now) c.args.key.now c.requires.ends ∙ sym value ∙ c.in-Some.is in
    record {
      new = c.write-value.result.0;
      comes = rw is (c.in-Some.value, g.met.T.Build.keeps_refl c.in-Some.value, c.write-value.ensures);
      inserted =
          value-written g.met.T.Build.keeps_refl g.met.T.Build.keeps_trans g.met.K.Ord.total (tree c.args.tree.now)
          c.args.key.now c.write-value.result.0 c.requires.ends
          (c.take_apart-prefix.ensures.prefix ∙ ap (λ t. (tree t).prefix) c.replace-node.ensures.value)
          (c.take_apart-prefix.ensures.children ∙ ap (λ t. (tree t).children) c.replace-node.ensures.value) c.assemble.ensures
          (subst (λ t. IsCanonical g.K.Ord.cmp (tree t)) c.replace-node.ensures.value c.take_apart-prefix.ensures.canonical);
    }
