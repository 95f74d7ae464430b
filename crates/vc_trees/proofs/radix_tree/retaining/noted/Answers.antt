-- What the closure answered is told, and noted.
use Rattle.vc_trees.specs.RetainedPairs.{MayTell, binds}
use Rattle.vc_trees.proofs.Noting.{noted-key, noted-none, told-of_call}
use Rattle.vc_trees.proofs.radix_tree.retaining.noted.Goals as goal

pub returns-then-keep : goal.returns-then-keep
returns-then-keep g c =
    noted-none g.K.Ord.cmp (MayTell g.F.Fn c.args.keep.now) c.args.key.now c.args.value.now
    (binds g.K.Ord.cmp (g.G.RadixNode.tree c.args.going)) c.keep.result c.if-keep.true
    (told-of_call g.F.Fn c.args.keep.now c.args.key c.args.value c.keep.result c.keep.ensures)

pub returns : goal.returns
returns g c =
    noted-key g.K.Ord.cmp g.G.Build.keeps (MayTell g.F.Fn c.args.keep.now) c.args.key.now c.args.value.now
    (g.G.RadixNode.tree c.args.going) (g.G.RadixNode.tree c.insert.new.tree) c.keep.result c.if-keep.false
    (told-of_call g.F.Fn c.args.keep.now c.args.key c.args.value c.keep.result c.keep.ensures) c.in_ok-insert.ensures.ok
