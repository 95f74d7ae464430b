-- Worked rows of the definitions on total maps.
use Rattle.std.specs.Prelude.{◌≡◌, ℕ, suc, ◌+◌, ◌==◌, nat_le, Bool, true, false, if◌then◌else◌, List, [], ◌∷◌, Option}
use Rattle.std.specs.Prelude.{Some, None, IsTrue, refl}
use Rattle.std.proofs.Common.{inl, inr, sym}
use Rattle.vc_total_maps.specs.TotalMap.{TotalMap, total_map, at, NoneIsDefault, IsClonedMap}
use Rattle.vc_total_maps.specs.Putting.{IsPut}
use Rattle.vc_total_maps.specs.CombinedTotals.{IsListed, HoldsEverywhere, Stands, ClonesFirst, IsCombined, CombinesValues}
use Rattle.vc_total_maps.specs.CombinedTotals.{CanOnClones, GivesOnClones}
use Rattle.vc_total_maps.specs.MappedTotals.{HoldsOfEach, IsMapped, CanOnClone, GivesOnClone}
use Rattle.definition_tests.proofs.Digits.{Digit, one, two, three, four, five, order, each, same, not_true}

-- 5 to 1, and else 0
abbrev marks : TotalMap Digit ℕ
marks = total_map ((five, 1) ∷ []) 0

-- 1 at 5 and 0 at 4
values_of_marks : (at order marks five ≡ 1) × (at order marks four ≡ 0)
values_of_marks = (refl, refl)

-- no key is mapped to 0, and in 5 to 1 and else 1 one is mapped to the default
none_is_default : NoneIsDefault order ◌==◌ marks
none_is_default = each _ tt tt tt tt refl

one_is_default : NoneIsDefault order ◌==◌ (total_map ((five, 1) ∷ []) 1) → ⊥
one_is_default h = not_true (sym (h five))

-- 0 put at 5 is the default, and nothing is listed
is_put : IsPut order ◌==◌ marks five 0 (total_map [] 0)
is_put = record { values = each _ refl refl refl refl refl; entries = each _ refl refl refl refl refl }

-- where a clone of a value has the next number, 5 to 2 and else 1 is a clone
is_cloned : IsClonedMap same (λ v w. w ≡ suc v) marks (total_map ((five, 2) ∷ []) 1)
is_cloned = record { mappings = ((refl, refl), tt); default = refl }

-- of 5 to 1 and 3 to 2, the key 3 is listed, and 4 is not
is_listed : IsListed {V = ℕ} {W = ℕ} order ((five, 1) ∷ []) ((three, 2) ∷ []) three
is_listed = inr refl

not_listed : IsListed {V = ℕ} {W = ℕ} order ((five, 1) ∷ []) ((three, 2) ∷ []) four → ⊥
not_listed (inl e) = not_true e
not_listed (inr e) = not_true e

-- sums of marks and of 3 to 2, else 1 are at most 2, at each listed key and of the defaults
holds_everywhere : HoldsEverywhere order (λ v w. IsTrue (nat_le (v + w) 2)) marks (total_map ((three, 2) ∷ []) 1)
holds_everywhere = record { defaults = refl; listed = each _ (λ l. refl) (λ l. refl) (λ l. refl) (λ l. refl) (λ l. refl) }

-- with default 2, the answer 2 leaves nothing, and 3 is listed
stands_nowhere : Stands ◌==◌ 2 2 None
stands_nowhere = refl

stands_listed : Stands ◌==◌ 2 3 (Some 3)
stands_listed = (refl, refl)

default_is_not_listed : Stands ◌==◌ 2 2 (Some 2) → ⊥
default_is_not_listed h = not_true (sym h.1)

-- the key comes of the left map where it has one, spelled 7, and else of the right one, spelled 8
clones_first : ClonesFirst {K = ℕ} {V = ℕ} {W = ℕ} same (Some (7, 1)) (Some (8, 2)) 7
clones_first = refl

clones_second : ClonesFirst {K = ℕ} {V = ℕ} {W = ℕ} same None (Some (8, 2)) 8
clones_second = refl

-- a closure that adds
abbrev Sums : ℕ → ℕ → ℕ → Type 0
Sums v w x = x ≡ v + w

-- 5 to 1 and else 0, plus 5 to 1 and else 2, is 2 everywhere
is_combined : IsCombined order ◌==◌ Sums same marks (total_map ((five, 1) ∷ []) 2) (total_map [] 2)
is_combined = record {
  default = refl;
  values =
      each _ (2, refl, refl) (2, refl, refl) (2, refl, refl) (2, refl, refl) (2, refl, refl);
  keys = each _ tt tt tt tt tt;
}

-- plus itself it is 5 to 2, and else 0
is_doubled : IsCombined order ◌==◌ Sums same marks marks (total_map ((five, 2) ∷ []) 0)
is_doubled = record {
  default = refl;
  values =
      each _ (0, refl, refl) (0, refl, refl) (0, refl, refl) (0, refl, refl) (2, refl, (refl, refl));
  keys =
      each _ tt tt tt tt refl;
}

-- so it has at every key the sum of the two values there
combines_values : CombinesValues order (λ v w. v + w) marks marks (total_map ((five, 2) ∷ []) 0)
combines_values = each _ refl refl refl refl refl

-- where a clone has the next number, an adding operator gives 9 of 2 and 5
gives_on_clones : GivesOnClones (λ v w. w ≡ suc v) Sums 2 5 9
gives_on_clones = (3, 6, refl, refl, refl)

can_on_clones : CanOnClones same (λ v w. IsTrue (nat_le (v + w) 255)) 2 5
can_on_clones p q e h = rw (sym e, sym h) refl

-- each value of marks is at most 1
holds_of_each : HoldsOfEach order (λ v. IsTrue (nat_le v 1)) marks
holds_of_each = record { default = refl; listed = each _ tt tt tt tt refl }

-- the sign of a number: 0 of 0, and else 1
abbrev Signs : ℕ → ℕ → Type 0
Signs v x = x ≡ (if v == 0 then 0 else 1)

-- the signs of 1 to 6 and else 1: 1 everywhere
is_mapped : IsMapped order ◌==◌ Signs same (total_map ((one, 6) ∷ []) 1) (total_map [] 1)
is_mapped = record {
  default = refl;
  values =
      each _ (1, refl, refl) (1, refl, refl) (1, refl, refl) (1, refl, refl) (1, refl, refl);
  keys = each _ tt tt tt tt tt;
}

-- of a clone of 2, which is 3, the sign is 1
gives_on_clone : GivesOnClone (λ v w. w ≡ suc v) Signs 2 1
gives_on_clone = (3, refl, refl)

can_on_clone : CanOnClone same (λ v. IsTrue (nat_le v 255)) 2
can_on_clone p e = rw (sym e) refl
