-- What an iterator over a list shows.
use Rattle.std.specs.Prelude.{◌≡◌, ◌^◌, ◌<◌, List, length}
use Rattle.std.specs.Iterator.Runs.{EveryRun, ItemsMapTo, ItemsMapToReversed}
use Rattle.std.specs.Map.Iter.{ShowsInOrder, ShowsInReverse, deref}
use Rattle.std.specs.Slice.Iter.{iter_rest, iter_steps, iter_steps_back}
use Rattle.std.specs.declared.cmp.Ordering.{Ordering}
use Rattle.std.specs.declared.slice.Iter.{Iter}
use Rattle.vc_merge.specs.Yielded.{by_first, gives_ascending}

-- from the back it shows what is left, by reference and in reverse
abbrev pub ShowsBackwards : Type 0 → Type 0
ShowsBackwards X = EveryRun (iter_steps_back {A = X}) (λ p. ItemsMapToReversed p (λ x. x.now) (iter_rest p.from))

-- it shows the elements of xs, by reference and in order, and from the back in reverse
abbrev pub ShowsItems : {X : Type 0} → List X → Iter X → Type 0
ShowsItems {X} xs it =
    (iter_rest it ≡ xs) × (length (iter_rest it) < 2 ^ 64)
    × EveryRun (iter_steps {A = X}) (λ p. ItemsMapTo p (λ x. x.now) (iter_rest p.from)) × ShowsBackwards X

-- it shows what is left of pairs whose keys ascend, by reference and in order
abbrev pub ShowsByKey : {K V : Type 0} → (K → K → Ordering) → Iter (K × V) → Type 0
ShowsByKey {K} {V} cmp it =
    EveryRun (gives_ascending (iter_steps {A = K × V}) (λ p q. by_first cmp p.now q.now))
    (λ p. ItemsMapTo p (λ x. x.now) (iter_rest p.from))

-- the same of an iterator that contracts see as the list of what it has left
abbrev pub ShowsBothWays : {X : Type 0} → List X → List X → Type 0
ShowsBothWays {X} xs it = (it ≡ xs) × (length it < 2 ^ 64) × ShowsInOrder (deref {X = X}) × ShowsInReverse (deref {X = X})
