-- The last version is the one before without what is at the folder and below it.
use Rattle.std.proofs.Common.{◌≡◌, ℕ, Bool, true, false, cond, List, Option, None, Some, Result, Ok, Err, OnOk, refl, ap, sym, ◌∙◌}
use Rattle.std.specs.Ordering.{nat_cmp}
use Rattle.vec_collections.specs.Exact.{copies-exact}
use Rattle.vec_collections.specs.Map.{lookup}
use Rattle.vec_collections.specs.Value.{IsKept, Copies}
use Rattle.vec_collections.specs.Without.{IsWithoutBelow}
use Rattle.users.specs.Settings.{is_below}
use Rattle.users.proofs.configuration.History.unset.Goals as goal

-- what follows from a fact on an outcome that is no refusal
on-ok : {E P Q : Type 0} (r : Result (Unit {0}) E) → (P → Q) → OnOk r P → OnOk r Q
on-ok (Ok u) f h = f h
on-ok (Err e) f h = tt

module _ {V : Type 0} (is_clone : V → V → Type 0) (exact : (v w : V) → is_clone v w → w ≡ v) where
  -- a value that stays is the value itself
  kept-is : (v w : Option V) → IsKept (Copies is_clone) v w → w ≡ v
  kept-is None None h = refl
  kept-is None (Some w) h = absurd h
  kept-is (Some v) None h = absurd h
  kept-is (Some v) (Some w) h = ap (λ x. Some x) (sym (copies-exact is_clone exact h))

  -- at each path: what is below the folder goes, and all else stays
  gone-below : (folder : List ℕ) (f g : List ℕ → Option V) → IsWithoutBelow nat_cmp (Copies is_clone) folder f g
      → (path : List ℕ) → g path ≡ cond (is_below folder path) None (f path)
  gone-below folder f g w path = by (is_below folder path) refl
    where
      by : (b : Bool) → is_below folder path ≡ b → g path ≡ cond b None (f path)
      by true e = w.at path e
      by false e = kept-is (f path) (g path) (w.others path e)

pub same-next : goal.same-next
same-next c = refl

pub returns-clause-unset : goal.returns-clause-unset
returns-clause-unset c =
    on-ok c.publish.result
    (λ last path.
    last path
    ∙ gone-below _ (λ v w e. e) c.args.folder.now (lookup nat_cmp c.in_ok-next.next)
    (lookup nat_cmp c.remove_below.new.self) c.in_ok-remove_below.ensures.ok path
    ∙ ap (λ o. cond (is_below c.args.folder.now path) None o) (c.in_ok-next.ensures path))
    c.publish.ensures.last
