use Rattle.std.proofs.Common.{Some, refl}
use Rattle.vc_merge.specs.PartsViews.{built_items, list_name}
use Rattle.vc_maps.proofs.Combined.{adds-moved}
use Rattle.vc_maps.proofs.combine.PartsStateTuple2JoinStateAskShared.ask_b.Goals as goal

pub returns-clause-gives : goal.returns-clause-gives
returns-clause-gives g c =
    let done = c.take_b.ensures.gives in (
      done.0,
      adds-moved built_items list_name _ (λ p. (Some p, (refl, refl), refl)) _ c.args.self.now c.take_b.new.self _ done.1,
    )
