-- What an iterator over the pairs of a map has left.
use Rattle.std.specs.Prelude.{List, Option}
use Rattle.std.specs.Map.Iter.{TakesFirst, deref_pair}
use Rattle.vc_btree_maps.specs.declared.btree_map.AbstractBTreeMapIter.{AbstractBTreeMapIter}
use Rattle.vc_btree_maps.specs.declared.btree_map.AbstractBTreeMapIter.TheVariants.{BTreeMap}
use denote.Ref.{Bor}

module _ {K V : Type 0} where
  -- the pairs that are left
  abbrev pub pairs_left : AbstractBTreeMapIter K V → List (K × V)
  pairs_left (BTreeMap iter) = iter

  -- a step shows the first of them, and leaves the others
  abbrev pub GivesFirst : AbstractBTreeMapIter K V → Option (Bor K × Bor V) → AbstractBTreeMapIter K V → Type 0
  GivesFirst s r t = TakesFirst deref_pair (pairs_left s) r (pairs_left t)
