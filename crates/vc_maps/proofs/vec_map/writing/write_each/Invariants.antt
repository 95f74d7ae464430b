-- The pairs before the place were written, and those from there on are as they were.
use Rattle.std.proofs.Common.{◌≡◌, take, drop}
use Rattle.vc_maps.specs.Writing.{CanWriteEach, WritesAt, WritesInTurn}
use Rattle.vc_maps.proofs.vec_map.writing.write_each.Given as goal

abbrev pub invariant-pairs : goal.invariant-pairs
invariant-pairs g l = record {
  callable : CanWriteEach g.F.FnMut l.f (drop l.at l.fn.pairs);
  rest : drop l.at l.pairs ≡ drop l.at l.fn.pairs;
  written : WritesInTurn (WritesAt g.F.FnMut) l.initial.f (take l.at l.fn.pairs) (take l.at l.pairs) l.f;
}
