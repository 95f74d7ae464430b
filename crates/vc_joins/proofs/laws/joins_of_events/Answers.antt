use Rattle.vc_joins.proofs.Events.{join-built}
use Rattle.vc_joins.proofs.laws.joins_of_events.Goals as goal

pub returns : goal.returns
returns g c = λ q kept kind spelled alike xs ys zs b.
    join-built g.met.K.Ord.total kind spelled alike _ _ (λ a k i h. kept a k h) xs ys zs b
