-- What a contract sees of a `TotalVecSet`: an ascending list, and whether the set is what is in the
-- list, or what is not.
use Rattle.std.specs.Prelude.{◌≡◌, Bool, not, List, refl}
use Rattle.std.specs.Coded.{Coded, code_by, coded×, coded_bool, coded_list}
use Rattle.std.specs.List.{AllZip}
use Rattle.std.specs.declared.cmp.Ordering.{Ordering}
use Rattle.std.specs.declared.cmp.Ordering.TheVariants.{Equal}
use Rattle.vc_merge.specs.Ascending.{member}
use Rattle.vc_sets.specs.SetOf.{exactly_one}

-- the list, and whether the set is its complement
pub record TotalSet (X : Type 0) : Type 0 where
  pub elements : List X
  pub negated : Bool

module _ {X : Type 0} where
  -- the total set of a list and a flag
  abbrev pub total : List X → Bool → TotalSet X
  total elements negated = record { elements = elements; negated = negated }

  -- how a total set is stored in the logic: as its two parts
  abbrev pub total_code : Coded X → Coded (TotalSet X)
  total_code c = code_by (List X × Bool) (coded× (coded_list c) coded_bool) (λ s. (s.elements, s.negated)) (λ p. total p.0 p.1) (λ _. refl)

  -- the set of what is not in this one: the same list, the other flag
  abbrev pub complement : TotalSet X → TotalSet X
  complement s = total s.elements (not s.negated)

  -- whether x is in the set
  abbrev pub has : (X → X → Ordering) → TotalSet X → X → Bool
  has cmp s x = exactly_one s.negated (member cmp s.elements x)

  -- the two are equal: their lists element by element, and their flags
  pub record IsEqualTotal (cmp : X → X → Ordering) (s t : TotalSet X) : Type 0 where
    pub elements : AllZip (λ x y. cmp x y ≡ Equal) s.elements t.elements
    pub negated : s.negated ≡ t.negated

  -- the second has clones of the elements of the first, and its flag
  pub record IsClonedTotal (is_clone : X → X → Type 0) (s t : TotalSet X) : Type 0 where
    pub elements : AllZip is_clone s.elements t.elements
    pub negated : s.negated ≡ t.negated
