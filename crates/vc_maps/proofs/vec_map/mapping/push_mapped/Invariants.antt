use Rattle.std.proofs.Common.{◌≡◌, ◌-◌, length, take, drop}
use Rattle.smallvec.specs.SmallVec.{HasRoomFor}
use Rattle.std.specs.Iterator.{CallableOnAll, YieldsFirst}
use Rattle.std.specs.Map.{keys_of, values_of}
use Rattle.vc_maps.specs.Mapping.{AnswersInTurn}
use Rattle.vc_maps.proofs.vec_map.mapping.push_mapped.Given as goal

abbrev pub invariant-pairs : goal.invariant-pairs
invariant-pairs g l = record {
  callable : CallableOnAll (YieldsFirst (λ rest. rest)) g.F.FnMut (values_of (drop l.at l.fn.pairs)) l.f;
  room : HasRoomFor l.mapped (length l.fn.pairs - l.at);
  rest : drop l.at l.pairs ≡ drop l.at l.fn.pairs;
  keys : keys_of l.mapped.items ≡ keys_of (take l.at l.fn.pairs);
  values : AnswersInTurn (λ p v x q. goal.F-step g p v x q) l.initial.f (values_of (take l.at l.fn.pairs))
      (values_of l.mapped.items) l.f;
}
