use Rattle.std.proofs.Common.{◌/◌, length, refl, arith}
use Rattle.vc_merge.proofs.PlaceLemmas.{half-rest}
use Rattle.vc_merge.proofs.search.nearest_half.Goals as goal

pub returns-clause-rest : goal.returns-clause-rest
returns-clause-rest g c =
    half-rest _ _ c.requires.ordered (length c.args.list.now / 2) c.reaches.result _ (omega arith) refl (omega arith)
    c.reaches.ensures
