use Rattle.std.proofs.Common.{◌++◌, take, drop}
use Rattle.vc_builder.specs.Builder.{builder}
use Rattle.vc_builder.proofs.inplace.block.Block.pass.Given as goal

abbrev pub ghost-recount : goal.ghost-recount
ghost-recount g a = let p = a.self.now in
    (builder (p.parts.built ++ take a._count p.parts.rest) (drop a._count p.parts.rest) 0, p.tail)
