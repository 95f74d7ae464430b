use Rattle.std.proofs.Common.{◌≡◌, ◌+◌, ◌++◌, [], length, vec_len, vec_capacity}
use Rattle.vc_builder.specs.Builder.{builder}
use Rattle.vc_builder.specs.Block.{IsBlock}
use Rattle.vc_builder.proofs.inplace.block.Block.pour.Given as goal

abbrev pub ghost-recount : goal.ghost-recount
ghost-recount g a = let p = a.self.now in (builder [] p.parts.built 0, p.parts.room + p.tail)

abbrev pub invariant-loop-poured : goal.invariant-loop-poured
invariant-loop-poured g l = let s = l.self.places.parts in let xs = l.fn.self.places.parts.built in record {
  block : IsBlock l.self;
  left : (s.built ≡ []) × (length s.rest + l.poured ≡ length xs);
  items : l.list.items ++ s.rest ≡ l.fn.list.items ++ xs;
  room : (vec_capacity l.list ≡ vec_capacity l.fn.list) × (vec_len l.list ≡ vec_len l.fn.list + l.poured);
}
