-- Worked rows of the definitions on finite maps and joins.
use Rattle.std.specs.Prelude.{◌≡◌, ℕ, ◌+◌, true, false, List, [], ◌∷◌, Option, Some, None, refl}
use Rattle.std.proofs.Common.{sym}
use Rattle.std.specs.List.Sorted.{IsStrictlySortedBy}
use Rattle.std.specs.Ordering.{nat_cmp}
use Rattle.std.specs.declared.cmp.Ordering.{Ordering}
use denote.Ref.{Bor}
use denote.Param.Members.{Shared}
use Rattle.vc_joins.specs.Entries.{AscendsByKey, entry_at, value_at}
use Rattle.vc_maps.specs.Borrowed.{value_by}
use Rattle.vc_joins.specs.Question.{asks, asked, left_spelling, right_spelling}
use Rattle.vc_joins.specs.Join.{IsAnswered, IsAsked, IsJoin, IsJoinBy, ClonedKey, OldKey, MovedKey}
use Rattle.vc_joins.specs.Answers.{seen, seen_left, seen_right, seen_inner, MayAnswer, MayAnswerLeft, MayAnswerRight}
use Rattle.vc_joins.specs.Answers.{MayAnswerInner}
use Rattle.vc_joins.specs.InPlace.{handed, handed_left, handed_right, handed_inner, MayTurn, MayTurnLeft}
use Rattle.vc_joins.specs.InPlace.{MayTurnRight, MayTurnInner}
use Rattle.vc_joins.specs.declared.question.OuterJoinArg.{OuterJoinArg}
use Rattle.vc_joins.specs.declared.question.OuterJoinArg.TheVariants.{Left, Right, Both}
use Rattle.vc_joins.specs.declared.question.JoinKind.TheVariants as kind
use Rattle.definition_tests.proofs.Digits.{Digit, one, two, three, order, each, not_equal}
use Rattle.definition_tests.proofs.Closures.{ref, closure}

-- a question about numbers at a key that is a number
abbrev Asked : Type 0
Asked = OuterJoinArg ℕ ℕ ℕ

-- the keys 1 and 2 ascend, and 1 and 1 do not
ascends_by_key : AscendsByKey {V = ℕ} nat_cmp ((1, 10) ∷ (2, 20) ∷ [])
unfolding IsStrictlySortedBy
ascends_by_key = ((refl, tt), (tt, tt))

equal_keys : AscendsByKey {V = ℕ} order ((one, 10) ∷ (one, 20) ∷ []) → ⊥
unfolding IsStrictlySortedBy
equal_keys h = not_equal (sym h.0.0)

-- the map of 1 to 10 and 2 to 20
abbrev tens : List (ℕ × ℕ)
tens = (1, 10) ∷ (2, 20) ∷ []

-- in it 20 stands at 2, and nothing at 3
entry_of_two : entry_at nat_cmp tens 2 ≡ Some (2, 20)
entry_of_two = refl

value_of_two : value_at nat_cmp tens 2 ≡ Some 20
value_of_two = refl

nothing_at_three : value_at nat_cmp tens 3 ≡ None
nothing_at_three = refl

-- the same by the forms of 2 and 3
value_by_two : value_by (λ j. nat_cmp j 2) tens ≡ Some 20
value_by_two = refl

nothing_by_three : value_by (λ j. nat_cmp j 3) tens ≡ None
nothing_by_three = refl

-- a key as its own form
value_by_key : {K V : Type 0} (cmp : K → K → Ordering) (es : List (K × V)) (k : K) → value_by (cmp k) es ≡ value_at cmp es k
value_by_key cmp es k = refl

-- ---- questions

-- a left join asks at the keys of the left map and of both, and not at those of the right one alone
left_join_asks : (asks {K = ℕ} {V = ℕ} {W = ℕ} kind.Left (Left 1 10) ≡ true)
    × (asks {K = ℕ} {V = ℕ} {W = ℕ} kind.Left (Right 1 20) ≡ false)
    × (asks {K = ℕ} {V = ℕ} {W = ℕ} kind.Left (Both 1 10 20) ≡ true)
left_join_asks = (refl, refl, refl)

-- of 1 to 10 and 1 to 20 a left join asks of both
asked_of_both : asked {K = ℕ} {V = ℕ} {W = ℕ} kind.Left left_spelling (Some (1, 10)) (Some (1, 20)) ≡ Some (Both 1 10 20)
asked_of_both = refl

-- where the right map alone has the key, it asks nothing, and an outer join asks of the right value
asked_nothing : asked {K = ℕ} {V = ℕ} {W = ℕ} kind.Left left_spelling None (Some (1, 20)) ≡ None
asked_nothing = refl

asked_of_right : asked {K = ℕ} {V = ℕ} {W = ℕ} kind.Outer left_spelling None (Some (1, 20)) ≡ Some (Right 1 20)
asked_of_right = refl

-- of keys that are spelled 1 and 2, and are equal, the right spelling is 2
spelled_as_right : asked {K = ℕ} {V = ℕ} {W = ℕ} kind.Inner right_spelling (Some (1, 10)) (Some (2, 20)) ≡ Some (Both 2 10 20)
spelled_as_right = refl

-- ---- joins, of 1 to 10 and 2 to 20 with 2 to 5 and 3 to 7

abbrev left_map : List (Digit × ℕ)
left_map = (one, 10) ∷ (two, 20) ∷ []

abbrev right_map : List (Digit × ℕ)
right_map = (two, 5) ∷ (three, 7) ∷ []

-- values that both have are summed
abbrev summed : OuterJoinArg Digit ℕ ℕ → Option ℕ
summed (Left k v) = Some v
summed (Right k w) = Some w
summed (Both k v w) = Some (v + w)

-- a closure that sums
abbrev Sums : OuterJoinArg Digit ℕ ℕ → Option ℕ → Type 0
Sums a r = r ≡ summed a

-- the question of both is asked at 2
is_asked : IsAsked order kind.Outer left_spelling left_map right_map (Both two 20 5)
is_asked = record { key = two; asks = refl }

-- at 2 stands 25, under the key that was shown; where nothing is asked nothing stands
is_answered : IsAnswered Sums MovedKey (Some (Both two 20 5)) (Some (two, 25))
is_answered = (refl, refl)

unasked : IsAnswered Sums MovedKey None None
unasked = refl

-- the outer join is 1 to 10, 2 to 25, 3 to 7
is_join : IsJoin order kind.Outer left_spelling left_map right_map Sums MovedKey ((one, 10) ∷ (two, 25) ∷ (three, 7) ∷ [])
unfolding IsStrictlySortedBy
is_join = record {
  ascends = ((refl, (refl, tt)), ((refl, tt), (tt, tt)));
  at =
      each _ (refl, refl) (refl, refl) (refl, refl) refl refl;
}

-- the inner join is 2 to 25
is_inner_join : IsJoin order kind.Inner left_spelling left_map right_map Sums MovedKey ((two, 25) ∷ [])
unfolding IsStrictlySortedBy
is_inner_join = record { ascends = (tt, tt); at = each _ refl (refl, refl) refl refl refl }

-- and not what an outer join makes at 1
abbrev pair_at_one : Option (Digit × ℕ)
pair_at_one = Some (one, 10)

no_inner_join : IsJoin order kind.Inner left_spelling left_map right_map Sums MovedKey ((one, 10) ∷ (two, 25) ∷ []) → ⊥
no_inner_join h = absurd (something (h.at one))
  where
    something : pair_at_one ≡ None → ⊥
    something e = cc

-- where each question has its one answer, each key is bound to it
is_join_by : IsJoinBy order kind.Outer left_spelling left_map right_map Sums summed ((one, 10) ∷ (two, 25) ∷ (three, 7) ∷ [])
is_join_by answers = each _ refl refl refl refl refl

-- ---- keys, where nothing is a clone but 9, of each key

abbrev NineIsClone : ℕ → ℕ → Type 0
NineIsClone j k = k ≡ 9

cloned_key : ClonedKey {V = ℕ} {W = ℕ} NineIsClone (Both 1 10 20) 9
cloned_key = refl

old_key : OldKey {V = ℕ} {W = ℕ} NineIsClone (Both 1 10 20) 1
old_key = refl

new_key : OldKey {V = ℕ} {W = ℕ} NineIsClone (Right 1 20) 9
new_key = refl

moved_key : MovedKey {K = ℕ} {V = ℕ} {W = ℕ} (Right 1 20) 1
moved_key = refl

-- ---- what closures are shown and handed, and may answer

abbrev both : OuterJoinArg (Bor ℕ) (Bor ℕ) (Bor ℕ)
both = Both (ref 1) (ref 10) (ref 20)

-- references to 1, 10 and 20 show the question of both
seen_both : seen {K = ℕ} {V = ℕ} {W = ℕ} both ≡ Both 1 10 20
seen_both = refl

seen_at_left : seen_left {K = ℕ} {V = ℕ} {W = ℕ} (ref 1) (ref 10) None ≡ Left 1 10
seen_at_left = refl

seen_at_right : seen_right {K = ℕ} {V = ℕ} {W = ℕ} (ref 1) None (ref 20) ≡ Right 1 20
seen_at_right = refl

seen_at_inner : seen_inner {K = ℕ} {V = ℕ} {W = ℕ} (ref 1) (ref 10) (ref 20) ≡ Both 1 10 20
seen_at_inner = refl

-- in place the left value itself is handed
handed_both : handed {K = ℕ} {V = ℕ} {W = ℕ} (Both (ref 1) 10 (ref 20)) ≡ Both 1 10 20
handed_both = refl

handed_at_left : handed_left {K = ℕ} {V = ℕ} {W = ℕ} (ref 1) 10 None ≡ Left 1 10
handed_at_left = refl

handed_at_right : handed_right {K = ℕ} {V = ℕ} {W = ℕ} (ref 1) None (ref 20) ≡ Right 1 20
handed_at_right = refl

handed_at_inner : handed_inner {K = ℕ} {V = ℕ} {W = ℕ} (ref 1) 10 (ref 20) ≡ Both 1 10 20
handed_at_inner = refl

-- the sum of a question of numbers
abbrev sum : Asked → ℕ
sum (Left k v) = v
sum (Right k w) = w
sum (Both k v w) = v + w

-- closures that answer the sum of what they are shown
abbrev adds : Shared (Unit {0}) (OuterJoinArg (Bor ℕ) (Bor ℕ) (Bor ℕ) × Unit {0}) ℕ
adds = closure (λ a. Unit {0}) (λ a r. r ≡ sum (seen a.0))

abbrev adds_left : Shared (Unit {0}) (Bor ℕ × (Bor ℕ × (Option (Bor ℕ) × Unit {0}))) ℕ
adds_left = closure (λ a. Unit {0}) (λ a r. r ≡ sum (seen_left a.0 a.1.0 a.1.1.0))

abbrev adds_right : Shared (Unit {0}) (Bor ℕ × (Option (Bor ℕ) × (Bor ℕ × Unit {0}))) ℕ
adds_right = closure (λ a. Unit {0}) (λ a r. r ≡ sum (seen_right a.0 a.1.0 a.1.1.0))

abbrev adds_inner : Shared (Unit {0}) (Bor ℕ × (Bor ℕ × (Bor ℕ × Unit {0}))) ℕ
adds_inner = closure (λ a. Unit {0}) (λ a r. r ≡ sum (seen_inner a.0 a.1.0 a.1.1.0))

-- such a closure may answer 30 at 10 and 20, and 10 where the other value is missing
may_answer : MayAnswer {K = ℕ} {V = ℕ} {W = ℕ} adds tt (Both 1 10 20) 30
may_answer = record { shown = both; shows = refl; says = refl }

may_answer_left : MayAnswerLeft {K = ℕ} {V = ℕ} {W = ℕ} adds_left tt (Left 1 10) 10
may_answer_left = record { key = ref 1; value = ref 10; other = None; shows = refl; says = refl }

may_answer_right : MayAnswerRight {K = ℕ} {V = ℕ} {W = ℕ} adds_right tt (Both 1 10 20) 30
may_answer_right = record { key = ref 1; value = Some (ref 10); other = ref 20; shows = refl; says = refl }

may_answer_inner : MayAnswerInner {K = ℕ} {V = ℕ} {W = ℕ} adds_inner tt (Both 1 10 20) 30
may_answer_inner = record { key = ref 1; value = ref 10; other = ref 20; shows = refl; says = refl }

-- the same in place
abbrev turns : Shared (Unit {0}) (OuterJoinArg (Bor ℕ) ℕ (Bor ℕ) × Unit {0}) ℕ
turns = closure (λ a. Unit {0}) (λ a r. r ≡ sum (handed a.0))

abbrev turns_left : Shared (Unit {0}) (Bor ℕ × (ℕ × (Option (Bor ℕ) × Unit {0}))) ℕ
turns_left = closure (λ a. Unit {0}) (λ a r. r ≡ sum (handed_left a.0 a.1.0 a.1.1.0))

abbrev turns_right : Shared (Unit {0}) (Bor ℕ × (Option ℕ × (Bor ℕ × Unit {0}))) ℕ
turns_right = closure (λ a. Unit {0}) (λ a r. r ≡ sum (handed_right a.0 a.1.0 a.1.1.0))

abbrev turns_inner : Shared (Unit {0}) (Bor ℕ × (ℕ × (Bor ℕ × Unit {0}))) ℕ
turns_inner = closure (λ a. Unit {0}) (λ a r. r ≡ sum (handed_inner a.0 a.1.0 a.1.1.0))

may_turn : MayTurn {K = ℕ} {V = ℕ} {W = ℕ} turns tt (Both 1 10 20) 30
may_turn = record { given = Both (ref 1) 10 (ref 20); shows = refl; says = refl }

may_turn_left : MayTurnLeft {K = ℕ} {V = ℕ} {W = ℕ} turns_left tt (Left 1 10) 10
may_turn_left = record { key = ref 1; value = 10; other = None; shows = refl; says = refl }

may_turn_right : MayTurnRight {K = ℕ} {V = ℕ} {W = ℕ} turns_right tt (Both 1 10 20) 30
may_turn_right = record { key = ref 1; value = Some 10; other = ref 20; shows = refl; says = refl }

may_turn_inner : MayTurnInner {K = ℕ} {V = ℕ} {W = ℕ} turns_inner tt (Both 1 10 20) 30
may_turn_inner = record { key = ref 1; value = 10; other = ref 20; shows = refl; says = refl }
