-- The walk of the keys that start with the prefix has as many pairs as the node that was found has values.
use Rattle.std.proofs.Common.{[], ◌-◌, ◌^◌, ◌∙◌, ap, map, min, refl, subst, sym}
use Rattle.std.proofs.lemmas.List.{length-map}
use Rattle.vc_tree_model.specs.Map.{lookup}
use Rattle.vc_tree_model.specs.Under.{under}
use Rattle.vc_tree_model.specs.Walk.{IsWalk, prepended, walk}
use Rattle.vc_tree_model.proofs.Walking.{length-walk}
use Rattle.vc_tree_walks.specs.IterLeft.{pairs_from}
use Rattle.vc_tree_walks.proofs.counting.len_below.Goals as goal

pub returns-in-Some : goal.returns-in-Some
returns-in-Some g c =
    let cmp = g.K.Ord.cmp in
    let binds = under cmp (lookup cmp (g.T.RadixNode.tree c.args.tree.now)) c.args.prefix.now in
    let t = g.T.RadixNode.tree c.in-Some.node.now in
    let pairs = map (prepended c.in-Some.field-0-0.now) (walk t) in (
      pairs,
      subst (IsWalk cmp binds) (ap (pairs_from g.T.RadixNode.tree) c.in-Some.is) c.find_under.ensures,
      c.len.ensures ∙ ap (λ n. min n (2 ^ 64 - 1))
          (sym (length-map (walk t) (prepended c.in-Some.field-0-0.now) ∙ length-walk t)),
    )

pub returns-in-None : goal.returns-in-None
returns-in-None g c =
    let cmp = g.K.Ord.cmp in
    let binds = under cmp (lookup cmp (g.T.RadixNode.tree c.args.tree.now)) c.args.prefix.now in (
      [],
      subst (IsWalk cmp binds) (ap (pairs_from g.T.RadixNode.tree) c.in-None.is) c.find_under.ensures,
      refl,
    )
