-- What a list of pairs is once a value was written over that of the pair that a look-up by a borrowed form found.
use Rattle.std.proofs.Common.{◌≡◌, ℕ, List, Some, get_or, set, refl, arith}
use Rattle.std.specs.Cmp.{IsTotalOrder}
use Rattle.std.specs.declared.cmp.Ordering.{Ordering}
use Rattle.std.specs.declared.cmp.Ordering.TheVariants.{Equal}
use Rattle.vc_merge.specs.Place.{IsFound, IsGap}
use Rattle.vc_sets.proofs.ByForm.{side-equal}
use Rattle.vc_maps.specs.Borrowed.{value_by}
use Rattle.vc_maps.specs.Lending.{IsWritten}
use Rattle.vc_maps.specs.Updating.{IsWrittenBy}
use Rattle.vc_maps.proofs.ByForm.{found-value_by, gap-value_by, value-equal}
use Rattle.vc_maps.proofs.Lending.{written}

-- the value at the place
pub found-at_form : {K V : Type 0} (side : K → Ordering) {es : List (K × V)} {i : ℕ} {x : K × V} → IsFound (λ p. side p.0) es i
    → x ≡ get_or es i x → Some x.1 ≡ value_by side es
found-at_form side {x = x} found is = cc (found-value_by side found x)

module _ {K V : Type 0} {cmp : K → K → Ordering} {side : K → Ordering}
    (equal : (x y : K) → side x ≡ Equal → side y ≡ cmp y x) (total : IsTotalOrder cmp) where
  module _ {es : List (K × V)} {i : ℕ} {x : K × V} (found : IsFound (λ p. side p.0) es i) (is : x ≡ get_or es i x) (w : V) where
    at-form : side x.0 ≡ Equal
    at-form = rw (← is) at (found.equal x)

    at-key : IsWritten cmp es x.0 w (set es i (x.0, w))
    at-key = written total (rw (side-equal cmp side equal x.0 at-form) at found) is w

    pub written-by : IsWrittenBy cmp side es w (set es i (x.0, w))
    written-by = record {
      keys = at-key.keys;
      values = λ some k. grind (arith, at-key.values, value-equal equal total es x.0 at-form, equal x.0 k at-form);
    }

  -- no key is equal to the form, and nothing is written
  pub unwritten-by : {es : List (K × V)} {i : ℕ} → IsGap (λ p. side p.0) es i → (w : V) → IsWrittenBy cmp side es w es
  unwritten-by gap w = record { keys = refl; values = λ some. grind (arith, gap-value_by side gap) }
