use Rattle.std.proofs.Common.{◌/◌, length, refl, arith}
use Rattle.vc_merge.proofs.PlaceLemmas.{quarter-rest}
use Rattle.vc_merge.proofs.search.nearest_quarter.Goals as goal

pub returns-clause-rest : goal.returns-clause-rest
returns-clause-rest g c =
    quarter-rest _ _ c.requires.ordered (length c.args.list.now / 4) _ c.reaches.result c.reaches-2.result c.reaches-3.result
    c.requires.long refl (omega arith) c.reaches.ensures c.reaches-2.ensures c.reaches-3.ensures
