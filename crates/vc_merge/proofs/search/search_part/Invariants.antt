use Rattle.std.proofs.Common.{◌+◌, ◌≤◌}
use Rattle.vc_merge.specs.Count.{digits}
use Rattle.vc_merge.specs.Place.{IsSearched}
use Rattle.vc_merge.proofs.search.search_part.Given as goal

abbrev pub invariant-long : goal.invariant-long
invariant-long g l =
    record {
      searched : IsSearched (g.S.Sought.side l.sought) l.list l.part.start l.part.len l.part.found;
      counted : g.C.Count.counted l.steps + digits l.part.len ≤ g.C.Count.counted l.initial.steps + digits l.initial.part.len;
    }

abbrev pub decreases-long : goal.decreases-long
decreases-long g l = l.part.len
