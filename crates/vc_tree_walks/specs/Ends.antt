-- The pairs with the least and with the greatest key of a map.
use Rattle.std.specs.Prelude.{◌≡◌, ◌≢◌, List, Option, Some, IsSome}
use Rattle.std.specs.declared.cmp.Ordering.{Ordering}
use Rattle.std.specs.declared.cmp.Ordering.TheVariants.{Less, Greater}
use Rattle.std.specs.Cmp.Lexicographic.{slice_cmp}

module _ {K V : Type 0} (cmp : K → K → Ordering) (f : List K → Option V) where
  -- f binds the key of the pair to its value, and binds no key that is less
  pub record IsLeastPair (b : List K × V) : Type 0 where
    pub bound : f b.0 ≡ Some b.1
    pub least : (k : List K) → IsSome (f k) → slice_cmp cmp k b.0 ≢ Less

  -- f binds the key of the pair to its value, and binds no key that is greater
  pub record IsGreatestPair (b : List K × V) : Type 0 where
    pub bound : f b.0 ≡ Some b.1
    pub greatest : (k : List K) → IsSome (f k) → slice_cmp cmp k b.0 ≢ Greater
