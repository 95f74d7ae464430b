use Rattle.std.proofs.lemmas.Bool.{leb-true, le-leb}
use Rattle.vc_merge.proofs.searching.is_walk_shorter.Goals as goal

pub returns : goal.returns
returns c = (
  λ t. rw c.comparisons_by_halves.ensures at (leb-true _ _ t),
  λ h. le-leb _ _ (rw c.comparisons_by_halves.ensures h),
)
