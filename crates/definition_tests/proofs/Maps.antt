-- Worked rows of the definitions on maps.
use Rattle.std.specs.Prelude.{◌≡◌, ℕ, ◌+◌, nat_le, List, [], ◌∷◌, Some, None, refl, IsTrue}
use Rattle.std.specs.List.Sorted.{IsStrictlySortedBy}
use Rattle.vc_joins.specs.declared.question.OuterJoinArg.TheVariants.{Left, Both}
use Rattle.vc_maps.specs.Collecting.{IsCollected, IsExtended}
use Rattle.vc_maps.specs.Combining.{CanCombine, Combines, combined, IsCombinedBy}
use Rattle.vc_maps.specs.Lending.{IsWritten}
use Rattle.vc_maps.specs.Mapping.{AnswersInTurn, MapsEntry}
use Rattle.vc_maps.specs.Updating.{UpsertsEntry, UpsertsValue, IsBound, IsWrittenBy}
use Rattle.vc_maps.specs.Writing.{WritesEntry, WritesInTurn}
use Rattle.definition_tests.proofs.Digits.{Digit, one, two, three, four, order, each, not_true}

-- ---- a value that is written

abbrev tens : List (Digit × ℕ)
tens = (one, 10) ∷ (two, 20) ∷ []

-- 30 written at 2
is_written : IsWritten order tens two 30 ((one, 10) ∷ (two, 30) ∷ [])
is_written = record { pairs = refl; keys = refl; values = λ stands. each _ refl refl refl refl refl }

-- written at 3, where nothing stands, the map is as it was
nowhere_written : IsWritten order tens three 30 tens
nowhere_written = record { pairs = refl; keys = refl; values = λ stands. not_true stands }

-- 30 written at the form 2
is_written_by : IsWrittenBy order (λ k. order k two) tens 30 ((one, 10) ∷ (two, 30) ∷ [])
is_written_by = record { keys = refl; values = λ stands. each _ refl refl refl refl refl }

-- 30 bound to 2, where 20 stood, and to 3, where nothing stood
is_bound : IsBound order tens two 30 ((one, 10) ∷ (two, 30) ∷ [])
is_bound = record { values = each _ refl refl refl refl refl; entries = each _ refl refl refl refl refl }

newly_bound : IsBound order tens three 30 ((one, 10) ∷ (two, 20) ∷ (three, 30) ∷ [])
newly_bound = record { values = each _ refl refl refl refl refl; entries = each _ refl refl refl refl refl }

-- one more is written to 20, and 5 is put where nothing stood
abbrev OneMore : ℕ → ℕ → Type 0
OneMore v w = w ≡ v + 1

upserts_value : UpsertsValue OneMore 5 (Some 20) (Some 21)
upserts_value = refl

puts_value : UpsertsValue OneMore 5 None (Some 5)
puts_value = refl

upserts_entry : UpsertsEntry {K = ℕ} OneMore (2, 5) (Some (2, 20)) (Some (2, 21))
upserts_entry = (refl, refl)

puts_entry : UpsertsEntry {K = ℕ} OneMore (2, 5) None (Some (2, 5))
puts_entry = refl

-- ---- pairs that come in any order

-- 2 to 20, 1 to 10, 2 to 30
is_collected : IsCollected {V = ℕ} order ((two, 20) ∷ (one, 10) ∷ (two, 30) ∷ []) ((one, 10) ∷ (two, 30) ∷ [])
unfolding IsStrictlySortedBy
is_collected = record {
  ascends = ((refl, tt), (tt, tt));
  values = each _ refl refl refl refl refl;
  entries = each _ refl refl refl refl refl;
}

-- 1 to 10, 2 to 20 takes in 2 to 30, 3 to 5
is_extended : IsExtended order tens ((two, 30) ∷ (three, 5) ∷ []) ((one, 10) ∷ (two, 30) ∷ (three, 5) ∷ [])
is_extended = record { values = each _ refl refl refl refl refl; entries = each _ refl refl refl refl refl }

-- ---- maps that take in another one whole

-- a closure that sums, and may be called where the sum is at most 255
abbrev Sums : ℕ → ℕ → ℕ → Type 0
Sums v w x = x ≡ v + w

abbrev Fits : ℕ → ℕ → Type 0
Fits v w = IsTrue (nat_le (v + w) 255)

-- 2 and 5 come to 7, and 1 alone stays
combines_both : Combines {K = ℕ} Sums (Both 2 2 5) (Some 7)
combines_both = refl

combines_left : Combines {K = ℕ} Sums (Left 1 1) (Some 1)
combines_left = refl

-- the closure may be called at 2 and 5, and not at 200 and 100; a value alone asks for nothing
can_combine : CanCombine {K = ℕ} Fits (Both 2 2 5)
can_combine = refl

can_keep : CanCombine {K = ℕ} Fits (Left 2 300)
can_keep = tt

cannot_combine : CanCombine {K = ℕ} Fits (Both 2 200 100) → ⊥
cannot_combine h = not_true h

combined_values : (combined ◌+◌ (Some 2) (Some 5) ≡ Some 7) × (combined ◌+◌ (Some 2) None ≡ Some 2)
    × (combined ◌+◌ None (Some 5) ≡ Some 5)
combined_values = (refl, refl, refl)

-- 1 to 1, 2 to 2 takes in 2 to 5, 4 to 4
is_combined_by : IsCombinedBy order ((one, 1) ∷ (two, 2) ∷ []) ((two, 5) ∷ (four, 4) ∷ []) Sums ◌+◌
    ((one, 1) ∷ (two, 7) ∷ (four, 4) ∷ [])
is_combined_by answers = each _ refl refl refl refl refl

-- ---- values that are turned into others

-- a counter that adds up what it is handed
abbrev AddsUp : ℕ → ℕ → ℕ → ℕ → Type 0
AddsUp before v x after = (x ≡ before + v) × (after ≡ before + v)

-- it makes 1 3 6 of 1 2 3
answers_in_turn : AnswersInTurn AddsUp 0 (1 ∷ 2 ∷ 3 ∷ []) (1 ∷ 3 ∷ 6 ∷ []) 6
answers_in_turn = (1, (refl, refl), (3, (refl, refl), (6, (refl, refl), refl)))

-- and not 1 alone
one_answer : AnswersInTurn AddsUp 0 (1 ∷ 2 ∷ 3 ∷ []) (1 ∷ []) 1 → ⊥
one_answer h = h.2

-- at a state of 1 it turns 2 into 3, under the same key; where nothing stood, nothing stands
maps_entry : MapsEntry {K = ℕ} AddsUp (Some (9, 2)) (Some (9, 3))
maps_entry = (1, 3, 3, (refl, refl), refl)

maps_nothing : MapsEntry {K = ℕ} AddsUp None None
maps_nothing = refl

-- ---- values that are written to

-- a counter that adds up the values that it is lent, and leaves the sum so far
abbrev Leaves : ℕ → ℕ → ℕ → ℕ → ℕ → Type 0
Leaves before k v w after = (w ≡ before + v) × (after ≡ before + v)

-- it makes 7:1 9:3 of 7:1 9:2
writes_in_turn : WritesInTurn Leaves 0 ((7, 1) ∷ (9, 2) ∷ []) ((7, 1) ∷ (9, 3) ∷ []) 3
writes_in_turn = (1, (refl, refl), refl, (3, (refl, refl), refl, refl))

-- and not 7:1 alone
one_written : WritesInTurn Leaves 0 ((7, 1) ∷ (9, 2) ∷ []) ((7, 1) ∷ []) 1 → ⊥
one_written h = h.3

-- at a state of 1 it leaves 3 where 2 was, under the same key; where nothing stood, nothing stands
writes_entry : WritesEntry Leaves (Some (9, 2)) (Some (9, 3))
writes_entry = (1, 3, 3, (refl, refl), refl)

writes_nothing : WritesEntry Leaves None None
writes_nothing = refl
