use Rattle.std.proofs.Common.{refl, ap, take}
use Rattle.vc_tree_facing.proofs.Opening.{slice-from}
use Rattle.vc_tree_combines.proofs.engine.end.Goals as goal

pub returns : goal.returns
returns g c = record {
  value = c.in_ok-value.value;
  said = c.in_ok-value.ensures;
  child = rw (← ap (take c.args.front) (slice-from _ _ _ c.args.i refl c.prefix.ensures.value)) c.in_ok-made.ensures;
}
