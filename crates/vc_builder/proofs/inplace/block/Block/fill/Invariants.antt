use Rattle.std.proofs.Common.{◌≡◌, ◌+◌, ◌++◌, [], length}
use Rattle.vc_builder.specs.Block.{IsBlock}
use Rattle.vc_builder.proofs.inplace.block.Block.fill.Given as goal

abbrev pub invariant-loop-moved : goal.invariant-loop-moved
invariant-loop-moved g l = let s = l.self.places.parts in record {
  block : IsBlock l.self;
  same : (l.self.capacity ≡ l.fn.self.capacity) × (l.self.places.tail ≡ l.fn.self.places.tail) × (s.built ≡ []);
  count : (length l.list.items + l.moved ≡ length l.fn.list.items) × (s.room + l.moved ≡ l.fn.self.places.parts.room);
  items : l.list.items ++ s.rest ≡ l.fn.list.items;
}
