-- Where `==` holds only of identical values, a combination has at every key the result of a
-- function on the two values there.
use Rattle.std.specs.Prelude.{◌≡◌, Bool, Option, Some, None, Result, Ok, Err, IfOk, IsTrue}
use Rattle.std.proofs.Common.{sym, ◌∙◌}
use Rattle.std.specs.Option.{unwrap_or}
use Rattle.std.specs.declared.cmp.Ordering.{Ordering}
use Rattle.vc_joins.specs.Entries.{value_at}
use Rattle.vc_total_maps.specs.CombinedTotals.{IsCombined, CombinesValues, Stands}
use Rattle.vc_total_maps.specs.TotalMap.{TotalMap, at}

-- what is at a key is the value there
stands-there : {X : Type 0} (eq : X → X → Bool) → ((x y : X) → IsTrue (eq x y) → x ≡ y) → (d v : X) (o : Option X)
    → Stands eq d v o → unwrap_or o d ≡ v
stands-there eq exact d v (Some x) h = h.0
stands-there eq exact d v None h = sym (exact v d h)

module _ {K V W X E : Type 0} (cmp : K → K → Ordering) (eq : X → X → Bool) (May : V → W → X → Type 0)
    (is_clone : K → K → Type 0) (a : TotalMap K V) (b : TotalMap K W) (h : V → W → X) where
  -- where each answer is that of h, a combination that succeeded is h at every key
  pub combined-values : (r : Result (TotalMap K X) E) → IfOk r (IsCombined cmp eq May is_clone a b)
      → ((x y : X) → IsTrue (eq x y) → x ≡ y) → ((x : V) (y : W) (v : X) → May x y v → v ≡ h x y)
      → IfOk r (CombinesValues cmp h a b)
  combined-values (Ok c) made exact says = λ k. let at_key = made.values k in
      stands-there eq exact c.default at_key.0 (value_at cmp c.mappings k) at_key.2
      ∙ says (at cmp a k) (at cmp b k) at_key.0 at_key.1
  combined-values (Err e) made exact says = tt

-- what calls cite whose clauses say `CombinesValues`
pub ruleset pointwise = (combined-values)
