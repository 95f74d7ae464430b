use Rattle.std.proofs.Common.{◌<◌, length}
use Rattle.vc_merge.specs.Place.{IsRest}
use Rattle.vc_merge.proofs.search.nearest.Given as goal

abbrev pub invariant-quarters : goal.invariant-quarters
invariant-quarters g l =
    record {
      rest : IsRest (g.S.Sought.side l.sought) l.list l.start l.rest;
      some : 0 < length l.rest;
    }

abbrev pub decreases-quarters : goal.decreases-quarters
decreases-quarters g l = length l.rest
