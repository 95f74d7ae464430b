use Rattle.std.proofs.Common.{◌+◌, drop}
use Rattle.vc_builder.specs.Block.{Becomes}
use Rattle.vc_builder.specs.Builder.{builder}
use Rattle.vc_builder.proofs.inplace.block.Block.drop_rest.Given as goal

abbrev pub invariant-loop-dropped : goal.invariant-loop-dropped
invariant-loop-dropped g l = let s = l.fn.self.places.parts in
    Becomes l.fn.self l.self (builder s.built (drop l.dropped s.rest) (s.room + l.dropped))
