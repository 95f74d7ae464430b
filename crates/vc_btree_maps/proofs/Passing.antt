-- A map that is changed at one key after another, along a list of pairs that ascends by key.
use Rattle.std.proofs.Common.{arith, ◌≡◌, true, false, List, [], ◌∷◌, Option, Some, None, refl, ap}
use Rattle.std.specs.Cmp.{IsTotalOrder, tied_itself}
use Rattle.std.specs.List.Sorted.{IsStrictlySortedBy}
use Rattle.std.specs.Option.{MatchOption}
use Rattle.std.specs.Ordering.{is_eq}
use Rattle.std.specs.BTreeMap.{is_at}
use Rattle.std.specs.declared.cmp.Ordering.{Ordering}
use Rattle.vc_joins.specs.Entries.{AscendsByKey, entry_at}
use Rattle.vc_btree_maps.proofs.Entries.{equal-at, none-above}

-- the pairs of `all` are passed but for those that are left: at the keys of those the map still has what was there `Before`,
-- and at all others what is there `After`
pub record IsPassed {K U X : Type 0} (cmp : K → K → Ordering) (Before After : K → Option (K × X) → Type 0)
    (all left : List (K × U)) (now : List (K × X)) : Type 0 where
  pub rest_ascends : AscendsByKey cmp left
  pub within : (k : K) (p : K × U) → entry_at cmp left k ≡ Some p → entry_at cmp all k ≡ Some p
  pub ascends : AscendsByKey cmp now
  pub at : (k : K) → MatchOption (entry_at cmp left k) (After k (entry_at cmp now k)) (λ p. Before k (entry_at cmp now k))

module _ {K U X : Type 0} {cmp : K → K → Ordering} {Before After : K → Option (K × X) → Type 0} where
  -- nothing is passed yet, and where no pair is to come what is there is right already
  pub start : {all : List (K × U)} {now : List (K × X)} → AscendsByKey cmp all → AscendsByKey cmp now
      → ((k : K) → Before k (entry_at cmp now k))
      → ((k : K) → entry_at cmp all k ≡ None → Before k (entry_at cmp now k) → After k (entry_at cmp now k))
      → IsPassed cmp Before After all all now
  start {all} {now} s t before after = record {
    rest_ascends = s;
    within = λ k p e. e;
    ascends = t;
    at = λ k. grind (arith, before k, after k);
  }

  -- all are passed
  pub passed-all : {all left : List (K × U)} {now : List (K × X)} → IsPassed cmp Before After all left now → left ≡ []
      → (k : K) → After k (entry_at cmp now k)
  passed-all i e = (rw e at i).at

  -- a key is passed or is not
  pub either : {P : Type 0} {all left : List (K × U)} {now : List (K × X)} → IsPassed cmp Before After all left now → (k : K)
      → (After k (entry_at cmp now k) → P) → (Before k (entry_at cmp now k) → P) → P
  either i k after before = grind (arith, i.at k)

  module _ (total : IsTotalOrder cmp) {all rest : List (K × U)} {p : K × U} {now : List (K × X)}
      (i : IsPassed cmp Before After all (p ∷ rest) now) where
    own : is_at (cmp p.0) p.0 ≡ true
    own = ap is_eq (tied_itself total p.0)

    -- the next pair is one of the list
    pub next-there : entry_at cmp all p.0 ≡ Some p
    next-there = i.within p.0 p (rw own refl)

    -- and nothing was changed at its key
    pub next-before : Before p.0 (entry_at cmp now p.0)
    next-before = rw own at (i.at p.0)

    -- it is passed by a change at its key alone
    pub next : {new : List (K × X)} → AscendsByKey cmp new
        → ((k : K) → is_at (cmp k) p.0 ≡ false → entry_at cmp new k ≡ entry_at cmp now k)
        → ((k : K) → is_at (cmp k) p.0 ≡ true → entry_at cmp all k ≡ Some p → Before k (entry_at cmp now k)
        → After k (entry_at cmp new k))
        → IsPassed cmp Before After all rest new
    unfolding IsStrictlySortedBy
    next {new} s elsewhere here = record {
      rest_ascends = i.rest_ascends.1;
      within = λ k q e. grind (arith, gone k, i.within k q);
      ascends = s;
      at = λ k. grind (arith, gone k, here k, i.within k p, i.at k, elsewhere k);
    }
      where
        gone : (k : K) → is_at (cmp k) p.0 ≡ true → entry_at cmp rest k ≡ None
        gone k t = none-above total k p.0 rest (equal-at total k p.0 t) i.rest_ascends.0

    -- or by none
    pub next-same : ((k : K) → is_at (cmp k) p.0 ≡ true → entry_at cmp all k ≡ Some p → Before k (entry_at cmp now k)
        → After k (entry_at cmp now k)) → IsPassed cmp Before After all rest now
    next-same here = next i.ascends (λ k f. refl) here
