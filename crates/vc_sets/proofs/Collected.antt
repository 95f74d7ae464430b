-- What is collected from items in any order.
--     members-kept        the members follow from what is kept
--     extended-next        one item more
--     fits-given        a list of at most n items does not give more than n
use Rattle.std.proofs.Common.{◌≡◌, ℕ, ◌≤◌, ◌||◌, cond, List, [], ◌∷◌, ◌++◌, Some, Result, Ok, Err, IsOk, OnErr, length, reverse}
use Rattle.std.proofs.Common.{refl, ap, arith, length-append}
use Rattle.std.proofs.lemmas.List.Folds.{list_any-append}
use Rattle.std.proofs.lemmas.List.Sorted.{IsPermutation-reverse, list_any-IsPermutation}
use Rattle.std.specs.Map.Iter.{TakesFirst}
use Rattle.std.specs.Ordering.{eq_by_cmp}
use Rattle.std.specs.declared.cmp.Ordering.{Ordering}
use Rattle.vc_merge.specs.Ascending.{element_at, member}
use Rattle.vc_merge.specs.Yielded.{taken}
use Rattle.vc_merge.proofs.Members.{member-is_some}
use Rattle.vc_sets.specs.Collecting.{GivesMoreThan, IsExtended}
use mathlib.Core.List.{reverse-append}

module _ {X : Type 0} (cmp : X → X → Ordering) where
  -- the members of a list are those of any order of it
  pub members-kept : (xs s : List X) (x : X) → element_at cmp s x ≡ element_at cmp (reverse xs) x → member cmp s x ≡ member cmp xs x
  members-kept xs s x e =
      let p = list_any-IsPermutation (λ y. eq_by_cmp cmp y x) xs (reverse xs) (IsPermutation-reverse xs) in
      grind (arith, member-is_some cmp s x, member-is_some cmp (reverse xs) x, p)

  pub extended-next : (old xs now new : List X) (x : X) → IsExtended cmp old xs now
      → ((z : X) → member cmp new z ≡ (eq_by_cmp cmp x z || member cmp now z))
      → ((z : X) → element_at cmp new z ≡ cond (eq_by_cmp cmp x z) (Some x) (element_at cmp now z))
      → IsExtended cmp old (xs ++ x ∷ []) new
  extended-next old xs now new x h m k = record {
    members = λ z. grind (arith, m z, h.members z, list_any-append (λ y. eq_by_cmp cmp y z) xs (x ∷ []));
    kept = λ z. grind (arith, k z, h.kept z, reverse-append xs (x ∷ []));
  }

-- a list of which more than n items came is longer than n
pub fits-given : {X E : Type 0} (n : ℕ) (s keys : List X) (r : Result (List X) E) → s ≡ keys
    → OnErr r (GivesMoreThan (TakesFirst (λ x. x)) n s) → length keys ≤ n → IsOk r
fits-given n s keys (Ok v) e h k = refl
fits-given n s keys (Err x) e h k =
    absurd (omega (arith, ap length (taken s h.3.0 h.0 h.3.1), ap length h.3.2, length-append h.0 h.3.0, h.4, ap length e, k))
