use Rattle.std.proofs.Common.{refl, arith}
use Rattle.vc_merge.proofs.PlaceLemmas.{narrowed-whole, place-searched}
use Rattle.vc_merge.proofs.search.search.Goals as goal

pub halves-init : goal.halves-init
halves-init g c = record {
  searched = narrowed-whole (g.S.Sought.side c.args.sought.now) c.args.list.now;
  unfound = refl;
  counted = omega arith;
}

pub returns-then-part-clause-place : goal.returns-then-part-clause-place
returns-then-part-clause-place g c =
    place-searched _ _ _ _ c.halve-part.result.found c.requires c.halve-part.ensures.searched c.if-part.true
