use Rattle.vc_merge.proofs.PlaceLemmas.{place-searched}
use Rattle.vc_merge.proofs.search.search_part.Goals as goal

pub returns-then-part-clause-place : goal.returns-then-part-clause-place
returns-then-part-clause-place g c =
    place-searched _ _ _ _ c.halve_four_times-part.result.found c.requires.ordered c.halve_four_times-part.ensures.searched
    c.if-part.true
