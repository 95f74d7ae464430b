use Rattle.std.proofs.Common.{◌++◌, take, drop}
use Rattle.vc_builder.specs.Block.{Becomes}
use Rattle.vc_builder.specs.Builder.{builder}
use Rattle.vc_builder.proofs.inplace.block.Block.move_down.Given as goal

abbrev pub invariant-loop-moved : goal.invariant-loop-moved
invariant-loop-moved g l = let s = l.fn.self.places.parts in
    Becomes l.fn.self l.self (builder (s.built ++ take l.moved s.rest) (drop l.moved s.rest) s.room)
