-- What follows the last key follows the run.
use Rattle.vc_tree_nodes.proofs.Runs.{last-front}
use Rattle.vc_tree_nodes.proofs.gathering.Gathering.follows.Goals as goal

pub returns-in-Some : goal.returns-in-Some
returns-in-Some g c =
    last-front g.K.Ord.cmp (λ s. g.S.Spelled.components s.key) (λ s. s.common) c.args.key.now c.common_front.result
    c.deref.ensures.value c.in-Some.ensures.value c.as_key.ensures c.common_front.ensures
