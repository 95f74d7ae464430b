-- What the iterators of a set give.
use Rattle.std.specs.Prelude.{◌≡◌, ◌^◌, ◌<◌, List, length}
use Rattle.std.specs.Iterator.{YieldsFirst}
use Rattle.std.specs.Iterator.Runs.{EveryRun, ItemsMapTo, ItemsAre}
use Rattle.std.specs.Slice.Iter.{iter_rest, iter_steps}
use Rattle.std.specs.declared.cmp.Ordering.{Ordering}
use Rattle.std.specs.declared.slice.Iter.{Iter}
use Rattle.vc_merge.specs.Showing.{ShowsBackwards}
use Rattle.vc_merge.specs.Yielded.{gives_ascending}

module _ {X : Type 0} (cmp : X → X → Ordering) where
  -- it shows the elements of xs, by reference and in order, and from the back in reverse
  abbrev pub Shows : List X → Iter X → Type 0
  Shows xs it =
      (iter_rest it ≡ xs) × (length (iter_rest it) < 2 ^ 64)
      × EveryRun (gives_ascending (iter_steps {A = X}) (λ x y. cmp x.now y.now)) (λ p. ItemsMapTo p (λ x. x.now) (iter_rest p.from))
      × ShowsBackwards X

  -- it gives the elements of xs, in order
  abbrev pub Hands : List X → List X → Type 0
  Hands xs it = (it ≡ xs) × EveryRun (gives_ascending (YieldsFirst {A = X} (λ rest. rest)) cmp) (λ p. ItemsAre p p.from)
