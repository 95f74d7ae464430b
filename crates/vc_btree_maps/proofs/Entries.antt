-- What is at each key of a list of pairs that ascends by key, and what a change at one key leaves there.
use Rattle.std.proofs.Common.{arith, ◌≡◌, Bool, true, false, cond, List, [], ◌∷◌, ◌++◌, Option, Some, None, is_some, MatchBool}
use Rattle.std.proofs.Common.{refl, sym, ap, ◌∙◌}
use Rattle.std.specs.Cmp.{IsTotalOrder, alike_right, tied_back, tied_itself, Equal-is}
use Rattle.std.specs.List.{AllByRecursion}
use Rattle.std.specs.List.Sorted.{IsStrictlySortedBy}
use Rattle.std.specs.Map.{keys_of, set_value, remove_entry}
use Rattle.std.specs.Option.{option_map}
use Rattle.std.specs.Ordering.{is_eq, ordering_reverse}
use Rattle.std.specs.BTreeMap.{is_at, insert_entry}
use Rattle.std.specs.declared.cmp.Ordering.{Ordering}
use Rattle.std.specs.declared.cmp.Ordering.TheVariants.{Less, Equal}
use Rattle.vc_joins.specs.Entries.{AscendsByKey, entry_at, value_at}
use Rattle.vc_joins.proofs.Functions.{value-entry}
use Rattle.vc_btree_maps.specs.Putting.{IsPut}

-- both ways of a test
pub chosen : {P Q : Type 0} (b : Bool) → (b ≡ true → P) → (b ≡ false → Q) → MatchBool b P Q
chosen true t f = t refl
chosen false t f = f refl

-- an option that has nothing is none
pub none-by : {A : Type 0} (z : Option A) → is_some z ≡ false → z ≡ None
none-by z e = grind arith

module _ {K : Type 0} {cmp : K → K → Ordering} (total : IsTotalOrder cmp) where
  pub equal-at : (k key : K) → is_at (cmp k) key ≡ true → cmp k key ≡ Equal
  equal-at k key = (Equal-is (cmp k key)).0

  -- equal keys are equal to the same ones
  at-same : (k key x : K) → is_at (cmp k) key ≡ true → is_at (cmp k) x ≡ is_at (cmp key) x
  at-same k key x t = ap is_eq (total.congr k key x (equal-at k key t))

  -- a key that is equal to one that is not equal to k is not equal to k
  at-other : (k key x : K) → is_at (cmp k) key ≡ false → is_at (cmp key) x ≡ true → is_at (cmp k) x ≡ false
  at-other k key x f t =
      ap is_eq (alike_right total x key k (tied_back total key x (equal-at key x t))) ∙ f

module _ {K V : Type 0} {cmp : K → K → Ordering} (total : IsTotalOrder cmp) where
  -- at equal keys stands the same pair
  pub same-entry : (j k : K) (es : List (K × V)) → cmp j k ≡ Equal → entry_at cmp es j ≡ entry_at cmp es k
  same-entry j k [] e = refl
  same-entry j k (p ∷ es) e = λ i. cond (is_eq (total.congr j k p.0 e i)) (Some p) (same-entry j k es e i)

  -- a pair that is found stands at a key that is equal to its own
  pub own-key : (k : K) (es : List (K × V)) (p : K × V) → entry_at cmp es k ≡ Some p → cmp k p.0 ≡ Equal
  own-key k [] p e = cc
  own-key k (q ∷ es) p e = grind (arith, equal-at total k q.0, own-key k es p)

  -- and it stands at each key that is equal to one where it stands
  pub at-own : (k : K) (es : List (K × V)) (p : K × V) → entry_at cmp es k ≡ Some p → entry_at cmp es p.0 ≡ Some p
  at-own k es p e = sym (same-entry k p.0 es (own-key k es p e)) ∙ e

  -- nothing stands at a key that is below all
  pub none-above : (k x : K) (es : List (K × V)) → cmp k x ≡ Equal → AllByRecursion (λ y. cmp x y ≡ Less) (keys_of es)
      → entry_at cmp es k ≡ None
  none-above k x [] e all = refl
  none-above k x (p ∷ es) e all = rw (ap is_eq (total.congr k x p.0 e ∙ all.0)) (none-above k x es e all.1)

  -- a pair of the list stands at its own key
  pub standing : (front : List (K × V)) (p : K × V) (rest : List (K × V)) → AscendsByKey cmp (front ++ p ∷ rest)
      → entry_at cmp (front ++ p ∷ rest) p.0 ≡ Some p
  unfolding IsStrictlySortedBy
  standing [] p rest s = rw (ap is_eq (tied_itself total p.0)) refl
  standing (q ∷ front) p rest s =
      rw (ap is_eq (total.antisymm p.0 q.0 ∙ ap ordering_reverse (below q.0 front s.0))) (standing front p rest s.1)
    where
      below : (x : K) (front : List (K × V)) → AllByRecursion (λ y. cmp x y ≡ Less) (keys_of (front ++ p ∷ rest))
          → cmp x p.0 ≡ Less
      below x [] all = all.0
      below x (q ∷ front) all = below x front all.1

  -- a value at a key is that of the pair there
  pub found : (k : K) (es : List (K × V)) (v : V) → value_at cmp es k ≡ Some v
      → (p : K × V) × (entry_at cmp es k ≡ Some p) × (p.1 ≡ v)
  found k es v e = by-entry (entry_at cmp es k) (sym (value-entry cmp es k) ∙ e)
    where
      by-entry : (z : Option (K × V)) → option_map (λ p. p.1) z ≡ Some v → (p : K × V) × (z ≡ Some p) × (p.1 ≡ v)
      by-entry None e = cc
      by-entry (Some p) e = (p, refl, cc)

  -- there is a value at the keys of the pairs alone
  pub value-is_some : (k : K) (es : List (K × V)) → is_some (entry_at cmp es k) ≡ is_some (value_at cmp es k)
  value-is_some k es = grind (arith, value-entry cmp es k)

  -- ---- a change at one key: what stands at each key k once a value was written, a pair taken out or a new one put in

  pub written : (k key : K) (es : List (K × V)) (p : K × V) (v : V) → entry_at cmp es key ≡ Some p
      → entry_at cmp (set_value (is_at (cmp key)) es v) k ≡ cond (is_at (cmp k) key) (Some (p.0, v)) (entry_at cmp es k)
  written k key [] p v e = cc
  written k key (q ∷ es) p v e =
      grind (arith, at-same total k key q.0, at-other total k key q.0, written k key es p v)

  pub removed : (k key : K) (es : List (K × V)) → AscendsByKey cmp es
      → entry_at cmp (remove_entry (is_at (cmp key)) es) k ≡ cond (is_at (cmp k) key) None (entry_at cmp es k)
  unfolding IsStrictlySortedBy
  removed k key [] s = grind arith
  removed k key (q ∷ es) s =
      grind (
        arith,
        equal-at total k q.0,
        at-same total k key q.0,
        at-other total k key q.0,
        none-above k q.0 es,
        removed k key es,
      )

  pub inserted : (k key : K) (es : List (K × V)) (v : V) → entry_at cmp es key ≡ None
      → entry_at cmp (insert_entry cmp es key v) k ≡ cond (is_at (cmp k) key) (Some (key, v)) (entry_at cmp es k)
  inserted k key [] v n = refl
  inserted k key (q ∷ es) v n = grind (arith, at-same total k key q.0, inserted k key es v)

  -- ---- an answer that is put at a key where nothing stands

  pub put-some : (is_clone : K → K → Type 0) (key other : K) (x : V) (old new : List (K × V)) → AscendsByKey cmp new
      → is_clone key other → cmp key other ≡ Equal
      → entry_at cmp old key ≡ None → new ≡ insert_entry cmp old other x → IsPut cmp is_clone key (Some x) old new
  put-some is_clone key other x old new s c e n is = record {
    ascends = s;
    at = λ k. grind (arith, inserted k other old x, same-entry key other old e, alike_right total key other k e);
  }

  pub put-none : (is_clone : K → K → Type 0) (key : K) (old : List (K × V)) → AscendsByKey cmp old → entry_at cmp old key ≡ None
      → IsPut cmp is_clone key None old old
  put-none is_clone key old s n = record {
    ascends = s;
    at = λ k. grind (arith, equal-at total k key, same-entry k key old);
  }
