-- The pair of the nearest child.
use Rattle.std.proofs.Common.{◌≡◌, ◌∙◌, ap, subst, sym, take}
use Rattle.std.specs.Option.{option_copied, option_map}
use Rattle.vc_tree_walks.specs.declared.ends.End.TheVariants.{First, Last}
use Rattle.vc_tree_model.specs.Map.{or_else}
use Rattle.vc_tree_model.specs.Walk.{prepended, walk}
use Rattle.vc_tree_walks.specs.Beside.{near_pairs, spelled_pair}
use Rattle.vc_tree_walks.specs.Towards.{end_of}
use Rattle.vc_tree_walks.proofs.Besides.{nearest-first, nearest-last}
use Rattle.vc_tree_walks.proofs.beside.nearest.Goals as goal

pub returns-in-Some-clause-pair : goal.returns-in-Some-clause-pair
returns-in-Some-clause-pair g c key =
    let tree = g.T.RadixNode.tree in
    let front = take c.args.used key in
    subst (λ e. option_map (prepended front) (end_of e (walk (tree c.in-Some.tree.now)))
    ≡ or_else (option_map (prepended front)
    (end_of e (near_pairs tree e (tree c.args.node.now) c.args.lower.now c.args.upper.now)))
    (spelled_pair tree e key c.args.found))
    (sym c.in-First.is)
    (nearest-first g.K.Ord.cmp g.met.K.Ord.total tree c.args.upper.now c.in-Some.tree.now c.requires.upper
    (sym c.first.ensures.value ∙ ap option_copied c.in-Some.is) front (spelled_pair tree First key c.args.found))

pub returns-in-Some-last-clause-pair : goal.returns-in-Some-last-clause-pair
returns-in-Some-last-clause-pair g c key =
    let tree = g.T.RadixNode.tree in
    let front = take c.args.used key in
    subst (λ e. option_map (prepended front) (end_of e (walk (tree c.in-Some-last.tree.now)))
    ≡ or_else (option_map (prepended front)
    (end_of e (near_pairs tree e (tree c.args.node.now) c.args.lower.now c.args.upper.now)))
    (spelled_pair tree e key c.args.found))
    (sym c.in-Last.is)
    (nearest-last g.K.Ord.cmp g.met.K.Ord.total tree c.args.lower.now c.in-Some-last.tree.now
    (tree c.args.node.now).value c.requires.lower (sym c.last.ensures.value ∙ ap option_copied c.in-Some-last.is) front
    (spelled_pair tree Last key c.args.found))
