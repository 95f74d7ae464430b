-- What is collected from pairs in any order: one pair more. And a `Vec` whose items are collected.
use Rattle.std.proofs.Common.{◌≡◌, ℕ, ◌<◌, cond, List, [], ◌∷◌, ◌++◌, Some, length, ap, ◌∙◌, arith, length-append}
use Rattle.std.specs.Iterator.{Yields}
use Rattle.std.specs.Ordering.{eq_by_cmp}
use Rattle.std.specs.Vec.Iter.{into_iter_items, into_iter_steps}
use Rattle.std.specs.declared.cmp.Ordering.{Ordering}
use Rattle.std.specs.declared.vec.IntoIter.{IntoIter}
use Rattle.vc_joins.specs.Entries.{entry_at, value_at}
use Rattle.vc_maps.specs.Collecting.{IsExtended}
use Rattle.vc_sets.specs.Collecting.{GivesMoreThan}
use mathlib.Core.List.{reverse-append}

module _ {K V : Type 0} (cmp : K → K → Ordering) where
  pub extended-next : (old xs now new : List (K × V)) (key : K) (value : V) → IsExtended cmp old xs now
      → ((k : K) → value_at cmp new k ≡ cond (eq_by_cmp cmp k key) (Some value) (value_at cmp now k))
      → ((k : K) → entry_at cmp new k ≡ cond (eq_by_cmp cmp k key) (Some (key, value)) (entry_at cmp now k))
      → IsExtended cmp old (xs ++ (key, value) ∷ []) new
  extended-next old xs now new key value h v e =
      let turned = reverse-append xs ((key, value) ∷ []) in
      record {
        values = λ k. grind (arith, v k, h.values k, turned);
        entries = λ k. grind (arith, e k, h.entries k, turned);
      }

-- ---- a `Vec` that is handed over

-- what came of it is a front of its items
taken-of_vec : {X A : Type 0} (s : IntoIter X A) (xs : List X) (t : IntoIter X A) → Yields into_iter_steps s xs t
    → into_iter_items s ≡ xs ++ into_iter_items t
taken-of_vec s [] t y = ap into_iter_items y
taken-of_vec s (x ∷ xs) t y = y.1.0 ∙ ap (λ l. x ∷ l) (taken-of_vec y.0 xs t y.2)

-- one of which more than n items came is longer
pub vec-gives_more : {X A : Type 0} (n : ℕ) (s : IntoIter X A) → GivesMoreThan into_iter_steps n s
    → n < length (into_iter_items s)
vec-gives_more n s h =
    let rest = h.3 in let more = length-append h.0 (into_iter_items rest.0) in
    omega (arith, ap length (taken-of_vec s h.0 rest.0 rest.1), ap length rest.2.0, more, h.4)
