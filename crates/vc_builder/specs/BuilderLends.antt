-- What an `InPlace` is, once a `&mut` into its rest has ended.
use Rattle.std.specs.Prelude.{List}
use Rattle.std.specs.Borrow.{Lends, Fml, RattleType, MutBor, Array}
use Rattle.std.specs.declared.alloc.Allocator.{Ghosts}
use Rattle.vc_builder.specs.Builder.{Builder, with_rest}
use Rattle.vc_builder.specs.contracts.inplace.InPlace.{the_row}

module _ (T A : RattleType) (alloc : Ghosts A.Denot) (s : MutBor (Builder T.Denot)) where
  -- the rest is what was last written through the borrow, and nothing else changes
  abbrev pub lends_rest : MutBor (List T.Denot) → Fml
  lends_rest r = Lends (the_row T A alloc) (Array T 0) s r (with_rest s.now)
