use Rattle.std.proofs.Common.{drop}
use Rattle.std.specs.Fn.{CalledAt}
use Rattle.std.specs.Iterator.{CallableOnAllAt, YieldsFirst}
use Rattle.vc_merge.proofs.Keeping.{KeepsInFront}
use Rattle.vc_merge.proofs.lists.keep_in_front.Given as goal

abbrev pub invariant-elements : goal.invariant-elements
invariant-elements g l = record {
  callable : CallableOnAllAt (YieldsFirst (λ rest. rest)) g.F.FnMut (drop l.at l.fn.list) l.f;
  keeps : KeepsInFront (CalledAt g.F.FnMut) l.fn.f l.fn.list l.f l.list l.kept l.at;
}
