-- What the iterators of a map give.
use Rattle.std.specs.Prelude.{◌≡◌, ◌^◌, ◌<◌, List, length}
use Rattle.std.specs.Iterator.{YieldsFirst}
use Rattle.std.specs.Iterator.Runs.{EveryRun, ItemsAre, ItemsMapTo}
use Rattle.std.specs.Slice.Iter.{iter_rest, iter_steps}
use Rattle.std.specs.declared.cmp.Ordering.{Ordering}
use Rattle.std.specs.declared.slice.Iter.{Iter}
use Rattle.vc_joins.specs.Entries.{AscendsByKey}
use Rattle.vc_merge.specs.Showing.{ShowsBackwards, ShowsByKey}
use Rattle.vc_merge.specs.Yielded.{AscendsAlong, by_first, gives_ascending}

-- it shows the pairs of xs, by reference and in order, and from the back in reverse, and their keys
-- ascend
abbrev pub ShowsPairs : {K V : Type 0} → (K → K → Ordering) → List (K × V) → Iter (K × V) → Type 0
ShowsPairs {K} {V} cmp xs it =
    (iter_rest it ≡ xs) × (length (iter_rest it) < 2 ^ 64)
    × EveryRun (iter_steps {A = K × V}) (λ p. ItemsMapTo p (λ x. x.now) (iter_rest p.from)) × ShowsBackwards (K × V)
    × AscendsByKey cmp xs × ShowsByKey cmp it

-- it gives the pairs of xs, in order, and their keys ascend
abbrev pub HandsPairs : {K V : Type 0} → (K → K → Ordering) → List (K × V) → List (K × V) → Type 0
HandsPairs {K} {V} cmp xs it =
    (it ≡ xs) × AscendsAlong (YieldsFirst {A = K × V} (λ rest. rest)) (by_first cmp) it
    × EveryRun (YieldsFirst {A = K × V} (λ rest. rest)) (λ p. ItemsAre p p.from)
    × EveryRun (gives_ascending (YieldsFirst {A = K × V} (λ rest. rest)) (by_first cmp)) (λ p. ItemsAre p p.from)
