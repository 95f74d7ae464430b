use Rattle.std.proofs.Common.{not, sym, ap, ◌∙◌}
use Rattle.vc_intervals.proofs.Toggled.{toggled-alike}
use Rattle.vc_intervals.proofs.interval_set.RefIntervalSetNot.not.Goals as goal

pub returns : goal.returns
returns g c =
    let set = c.args.self.now in
    let copy = c.in_ok-clone.field-0 in
    let cloned = c.in_ok-clone.ensures in
    let is = c.not.ensures in (
      record { boundaries = rw is.0 cloned.boundaries; below = rw is.0 (ap not cloned.below) },
      λ x. is.1 x ∙ ap not (sym (rw cloned.below
          (toggled-alike g.T.Ord.cmp g.T.Clone.is_clone c.requires copy.below set.boundaries copy.boundaries x cloned.boundaries))),
    )
