-- What may be asked of each value may be asked of each cover.
use Rattle.vc_tree_model.specs.Map.{lookup}
use Rattle.vc_tree_edits.proofs.Sifting.{asked-cover}
use Rattle.vc_tree_edits.proofs.combining.sift_prefixes.Goals as goal

pub lessen-requires : goal.lessen-requires
lessen-requires g c = record {
  asks = asked-cover g.F.Fn c.args.f.now (lookup g.K.Ord.cmp (g.B.RadixNode.tree c.args.that.now)) c.requires.asks;
}
