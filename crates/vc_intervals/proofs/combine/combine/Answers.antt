use Rattle.std.proofs.Common.{arith}
use Rattle.vc_sets.specs.Select.{keeps}
use Rattle.vc_intervals.specs.WalkViews.{built_boundaries, is_in_a, is_in_b, left_boundaries, list_name, right_boundaries}
use Rattle.vc_intervals.proofs.Walked.{walked-intervals}
use Rattle.vc_intervals.proofs.combine.combine.Goals as goal

pub returns-clause-combined : goal.returns-clause-combined
returns-clause-combined g c =
    walked-intervals g.T.Ord.cmp g.met.T.Ord.total g.T.Clone.is_clone c.requires.clones (keeps _ _ _) left_boundaries right_boundaries
    is_in_a is_in_b built_boundaries list_name _ _ _ c.in_ok-merge.ensures.merged c.new-built.ensures.items (λ e. grind arith)
