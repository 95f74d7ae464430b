-- How the fields of a block belong together. No public clause cites these words.
use Rattle.std.specs.Prelude.{◌≡◌, ◌+◌, ◌^◌, ◌<◌, length}
use Rattle.vc_builder.specs.Builder.{Builder}
use Rattle.vc_builder.specs.declared.inplace.block.Block.{Block}

module _ {X A : Type 0} where
  -- the fields belong to one block
  pub record IsBlock (b : Block X A) : Type 0 where
    pub owns : (b.places.at ≡ b.base.ptr) × (b.deed.at ≡ b.base.ptr) × (b.deed.count ≡ b.capacity) × (b.deed.alloc ≡ b.alloc)
    pub counts : (b.built ≡ length b.places.parts.built) × (b.start ≡ b.built + b.places.parts.room) ×
        (b.capacity ≡ b.start + length b.places.parts.rest + b.places.tail) × (b.capacity < 2 ^ 63)

  -- c is the same block, with these parts
  abbrev pub Becomes : Block X A → Block X A → Builder X → Type 0
  Becomes b c s = (c.capacity ≡ b.capacity) × (c.places.tail ≡ b.places.tail) × (c.places.parts ≡ s) × IsBlock c
