use Rattle.std.proofs.Common.{◌-◌, ◌++◌, [], ◌∷◌}
use Rattle.vc_builder.specs.Builder.{builder}
use Rattle.vc_builder.proofs.inplace.block.Block.put_built.Given as goal

abbrev pub ghost-write : goal.ghost-write
ghost-write g a = let s = a.self.now.parts in builder (s.built ++ a.value ∷ []) s.rest (s.room - 1)
