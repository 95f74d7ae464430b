-- The laws of the definitions of this crate, as the functions of `laws` carry them.
use Rattle.std.specs.Prelude.{◌≡◌, ◌↔◌, Bool, false, ◌||◌, ◌&&◌, []}
use Rattle.std.specs.declared.cmp.Ordering.{Ordering}
use Rattle.vc_sets.specs.SetOf.{and_not, exactly_one}
use Rattle.vc_total_sets.specs.TotalSet.{TotalSet, total, complement, IsEqualTotal}
use Rattle.vc_total_sets.specs.TotalOf.{IsTotalOf, IsTotalOfEither, IsPointwise}
use Rattle.vc_total_sets.specs.TotalTests.{IsTotalSubset, IsTotalDisjoint}

-- what an operation of two total sets makes
abbrev pub Operation : Type 0 → Type 1
Operation X = TotalSet X → TotalSet X → TotalSet X → Type 0

-- what each of the four operations makes
pub record Operations (X : Type 0) : Type 1 where
  pub and : Operation X
  pub or : Operation X
  pub xor : Operation X
  pub minus : Operation X

module _ {X : Type 0} (cmp : X → X → Ordering) where
  -- the operators on references make sets of clones
  abbrev pub fresh_of : (X → X → Type 0) → Operations X
  fresh_of is_clone = record {
    and = IsTotalOfEither cmp is_clone ◌&&◌;
    or = IsTotalOfEither cmp is_clone ◌||◌;
    xor = IsTotalOf cmp is_clone exactly_one;
    minus = IsTotalOf cmp is_clone and_not;
  }

  -- the assigning methods make sets of the elements themselves
  abbrev pub moved_of : Operations X
  moved_of = record {
    and = IsTotalOf cmp (λ x y. x ≡ y) ◌&&◌;
    or = IsTotalOf cmp (λ x y. x ≡ y) ◌||◌;
    xor = IsTotalOf cmp (λ x y. x ≡ y) exactly_one;
    minus = IsTotalOf cmp (λ x y. x ≡ y) and_not;
  }

  -- what is made is what the formula says
  abbrev pub MakesPointwise : (Bool → Bool → Bool) → Operation X → Type 0
  MakesPointwise f Makes = (a b c : TotalSet X) → Makes a b c → IsPointwise cmp f a b c

  -- the result of two sets is unique up to equality
  abbrev pub MakesOne : Operation X → Type 0
  MakesOne Makes = (a b c d : TotalSet X) → Makes a b c → Makes a b d → IsEqualTotal cmp c d

  -- the result of the one is the complement of the result of the other on the complements
  abbrev pub IsTurned : Operation X → Operation X → Type 0
  IsTurned Makes MakesTurned =
      (a b not_a not_b c d : TotalSet X) → IsEqualTotal cmp not_a (complement a) → IsEqualTotal cmp not_b (complement b)
      → Makes a b c → MakesTurned not_a not_b d → IsEqualTotal cmp (complement c) d

  module _ (made : Operations X) where
    -- each operation has at each value what its formula says
    pub record OperationsArePointwise : Type 0 where
      pub and : MakesPointwise ◌&&◌ made.and
      pub or : MakesPointwise ◌||◌ made.or
      pub xor : MakesPointwise exactly_one made.xor
      pub minus : MakesPointwise and_not made.minus

    -- the result of each operation is unique up to equality
    pub record OperationsMakeOne : Type 0 where
      pub and : MakesOne made.and
      pub or : MakesOne made.or
      pub xor : MakesOne made.xor
      pub minus : MakesOne made.minus

    -- the complement of what both have is what either of the complements has, and the other way round
    pub record ComplementsTurnOperations : Type 0 where
      pub and : IsTurned made.and made.or
      pub or : IsTurned made.or made.and

    -- a set is a subset where nothing is left of it without the other, and two are disjoint where nothing is in both
    pub record TotalTestsAreOfOperations : Type 0 where
      pub subset : (a b c : TotalSet X) → made.minus a b c → IsTotalSubset cmp a b ↔ (c ≡ total [] false)
      pub disjoint : (a b c : TotalSet X) → made.and a b c → IsTotalDisjoint cmp a b ↔ (c ≡ total [] false)

-- a set is the complement of its complement
abbrev pub ComplementIsTwofold : Type 0 → Type 0
ComplementIsTwofold X = (s : TotalSet X) → complement (complement s) ≡ s
