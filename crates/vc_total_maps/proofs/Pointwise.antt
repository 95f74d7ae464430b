-- What is at a key of a total map is the value there, up to `==`.
use Rattle.std.proofs.Common.{◌≡◌, Bool, true, false, Option, Some, None, IfSome, refl, ◌∙◌}
use Rattle.std.specs.Cmp.{IsEquivalence}
use Rattle.std.specs.Option.{unwrap_or}
use Rattle.std.specs.declared.cmp.Ordering.{Ordering}
use Rattle.vc_joins.specs.Entries.{value_at}
use Rattle.vc_total_maps.specs.CombinedTotals.{Stands}
use Rattle.vc_total_maps.specs.Laws.{StandingIsAt, CombinedIsPointwise, MappedIsPointwise}
use Rattle.vc_total_maps.specs.TotalMap.{at}

module _ {X : Type 0} {eq : X → X → Bool} (laws : IsEquivalence eq) where
  placed-equal : (default v : X) (placed : Option X) → Stands eq default v placed → eq (unwrap_or placed default) v ≡ true
  placed-equal default v (Some x) h = rw h.0 (laws.refl v)
  placed-equal default v None h = laws.symm default v ∙ h

  listed-stands : (default : X) (placed : Option X) → IfSome placed (λ v. eq v default ≡ false)
      → Stands eq default (unwrap_or placed default) placed
  listed-stands default (Some x) h = (refl, h)
  listed-stands default None h = laws.refl default

  module _ {K : Type 0} (cmp : K → K → Ordering) where
    pub standing-is-at : StandingIsAt K X cmp eq
    standing-is-at = record {
      equal = λ m k v stands. placed-equal m.default v (value_at cmp m.mappings k) stands;
      stands = λ m none k. listed-stands m.default (value_at cmp m.mappings k) (none k);
    }

    pub combined-is-pointwise : {V W : Type 0} (is_clone : K → K → Type 0) (May : V → W → X → Type 0)
        → CombinedIsPointwise {V = V} cmp eq is_clone May
    combined-is-pointwise is_clone May f answers a b c h k =
        let made = h.values k in
        rw (← answers (at cmp a k) (at cmp b k) made.0 made.1) (placed-equal c.default made.0 (value_at cmp c.mappings k) made.2)

    pub mapped-is-pointwise : {V : Type 0} (is_clone : K → K → Type 0) (May : V → X → Type 0)
        → MappedIsPointwise {V = V} cmp eq is_clone May
    mapped-is-pointwise is_clone May f answers m c h k =
        let made = h.values k in
        rw (← answers (at cmp m k) made.0 made.1) (placed-equal c.default made.0 (value_at cmp c.mappings k) made.2)
