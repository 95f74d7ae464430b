use Rattle.std.proofs.Common.{◌≡◌, ◌+◌, ◌≤◌, false, length}
use Rattle.vc_merge.specs.Count.{digits}
use Rattle.vc_merge.specs.Place.{IsSearched}
use Rattle.vc_merge.proofs.search.search.Given as goal

abbrev pub invariant-halves : goal.invariant-halves
invariant-halves g l =
    record {
      searched : IsSearched (g.S.Sought.side l.sought) l.list l.part.start l.part.len l.part.found;
      unfound : l.part.found ≡ false;
      counted : g.C.Count.counted l.steps + digits l.part.len ≤ g.C.Count.counted l.fn.steps + digits (length l.list);
    }

abbrev pub decreases-halves : goal.decreases-halves
decreases-halves g l = l.part.len
