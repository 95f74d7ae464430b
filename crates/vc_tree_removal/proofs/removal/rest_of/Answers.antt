-- The key starts with the prefix, since something is left of it.
use Rattle.vc_tree_removal.proofs.Going.{rest-taken, rest-within}
use Rattle.vc_tree_removal.proofs.removal.rest_of.Goals as goal

pub split_at-requires : goal.split_at-requires
split_at-requires g c = rw c.prefix.ensures.value (rest-within g.K.Ord.cmp _ c.args.key.now c.requires)

pub returns : goal.returns
returns g c =
    rw (c.split_at.ensures.back, c.prefix.ensures.value) (rest-taken g.K.Ord.cmp _ c.args.key.now c.requires)
