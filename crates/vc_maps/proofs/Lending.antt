-- What a list of pairs is once a value was written over that of the pair that a search found.
use Rattle.std.proofs.Common.{◌≡◌, ℕ, zero, suc, ◌<◌, Bool, cond, List, [], ◌∷◌, length, take, get_or, set}
use Rattle.std.proofs.Common.{arith, Some, None, refl, ap, ◌∙◌}
use Rattle.std.proofs.lemmas.Map.{keys-set_value, lookup-set_value}
use Rattle.std.specs.BTreeMap.{is_at}
use Rattle.std.specs.Cmp.{IsTotalOrder, eq_by_cmp_equiv}
use Rattle.std.specs.List.{AllByRecursion, HoldsAt}
use Rattle.std.specs.Map.{lookup, set_value}
use Rattle.std.specs.declared.cmp.Ordering.{Ordering}
use Rattle.std.specs.declared.cmp.Ordering.TheVariants.{Less, Equal}
use Rattle.vc_merge.specs.Place.{IsFound, IsGap}
use Rattle.vc_joins.specs.Entries.{value_at}
use Rattle.vc_maps.specs.Lending.{IsWritten}
use Rattle.vc_maps.proofs.Editing.{found-value, gap-value}

module _ {K V : Type 0} where
  -- where no key passes, nothing is written
  set_value-none : (test : K → Bool) (es : List (K × V)) (w : V) → lookup test es ≡ None → set_value test es w ≡ es
  set_value-none test [] w h = refl
  set_value-none test (e ∷ es) w h = grind (arith, set_value-none test es w)

module _ {K V : Type 0} {cmp : K → K → Ordering} (total : IsTotalOrder cmp) where
  written-list : (es : List (K × V)) (key : K) (w : V) → IsWritten cmp es key w (set_value (is_at (cmp key)) es w)
  written-list es key w =
      let laws = eq_by_cmp_equiv total in
      record {
        pairs = refl;
        keys = keys-set_value (is_at (cmp key)) es w;
        values = λ some k. lookup-set_value laws (is_at (cmp key)) (λ x y e. laws.congr key x y e) k w es some
            ∙ ap (λ b. cond b (Some w) (value_at cmp es k)) (laws.symm key k);
      }

  -- nothing stands at the key, and nothing is written
  pub unwritten : {es : List (K × V)} {key : K} {i : ℕ} → IsGap (λ p. cmp p.0 key) es i → (w : V) → IsWritten cmp es key w es
  unwritten {es} {key} gap w = rw (set_value-none (is_at (cmp key)) es w (gap-value total gap)) at (written-list es key w)

  -- the first value whose key is equal is the one at the place
  set_value-at : (key : K) (w : V) (x : K × V) (es : List (K × V)) (i : ℕ) → i < length es
      → HoldsAt (λ p. cmp p.0 key ≡ Equal) es i → AllByRecursion (λ p. cmp p.0 key ≡ Less) (take i es) → x ≡ get_or es i x
      → set_value (is_at (cmp key)) es w ≡ set es i (x.0, w)
  set_value-at key w x [] i h e p is = absurd (omega arith)
  set_value-at key w x (y ∷ es) zero h e p is = grind (arith, e x, total.antisymm key y.0)
  set_value-at key w x (y ∷ es) (suc i) h e p is =
      let k : i < length es = omega arith in grind (arith, total.antisymm key y.0, set_value-at key w x es i k e p.1 is)

  -- the value of the pair at the place that a search found
  pub written : {es : List (K × V)} {key : K} {i : ℕ} {x : K × V} → IsFound (λ p. cmp p.0 key) es i → x ≡ get_or es i x
      → (w : V) → IsWritten cmp es key w (set es i (x.0, w))
  written {es} {key} {i} {x} f is w =
      rw (set_value-at key w x es i f.within f.equal f.less is) at (written-list es key w)

  -- that value is the one at the key
  pub found-at : {es : List (K × V)} {key : K} {i : ℕ} {x : K × V} → IsFound (λ p. cmp p.0 key) es i → x ≡ get_or es i x
      → Some x.1 ≡ value_at cmp es key
  found-at {x = x} found is = cc (found-value total found x)
