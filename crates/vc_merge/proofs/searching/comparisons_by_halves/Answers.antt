use Rattle.std.proofs.Common.{◌∙◌}
use Rattle.vc_merge.proofs.Digits.{digits-from_zeros}
use Rattle.vc_merge.proofs.searching.comparisons_by_halves.Goals as goal

pub returns : goal.returns
returns c =
    rw (c.min-searches.ensures, c.from-comparisons.ensures ∙ digits-from_zeros 64 c.max.result c.max.type_inv, c.max.ensures)
