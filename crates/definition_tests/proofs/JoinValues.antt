-- Worked rows of the definitions on joins in words of values.
use Rattle.std.specs.Prelude.{◌≡◌, ℕ, ◌+◌, Bool, List, [], ◌∷◌, Option, Some, None, Result, Ok, IfOk, refl}
use Rattle.std.proofs.Common.{sym, subst}
use Rattle.std.specs.Option.{option_copied}
use denote.Ref.{Bor, MutBor}
use denote.Param.Members.{Shared}
use Rattle.vc_joins.specs.Answers.{seen}
use Rattle.vc_joins.specs.InPlace.{handed}
use Rattle.vc_joins.specs.Values.{in_both, in_left, in_right, in_either, in_kind, of_values, JoinsValues, AnswersBy}
use Rattle.vc_joins.specs.Values.{AnswersLeftBy, AnswersRightBy, AnswersInnerBy, TurnsBy, TurnsLeftBy, TurnsRightBy}
use Rattle.vc_joins.specs.Values.{TurnsInnerBy}
use Rattle.vc_joins.specs.declared.question.OuterJoinArg.{OuterJoinArg}
use Rattle.vc_joins.specs.declared.question.OuterJoinArg.TheVariants.{Left, Right, Both}
use Rattle.vc_joins.specs.declared.question.JoinKind.TheVariants as kind
use Rattle.vc_btree_maps.specs.Keeping.{if_kept}
use Rattle.vc_btree_maps.specs.KeepingValues.{or_stays, or_given, LeavesBy, LeavesSharedBy, GivesBy}
use Rattle.definition_tests.proofs.Digits.{one, two, three, order, each}
use Rattle.definition_tests.proofs.Closures.{closure}

-- the sum of two values, of which one may be missing
abbrev added : Option ℕ → Option ℕ → Option ℕ
added (Some v) (Some w) = Some (v + w)
added (Some v) None = Some v
added None w = w

abbrev added_both : ℕ → ℕ → Option ℕ
added_both v w = Some (v + w)

abbrev added_left : ℕ → Option ℕ → Option ℕ
added_left v w = added (Some v) w

abbrev added_right : Option ℕ → ℕ → Option ℕ
added_right v w = added v (Some w)

-- ---- what stands at a key

-- at a key of both maps stands the sum, and nothing elsewhere
sums_in_both : (in_both added_both (Some 10) (Some 20) ≡ Some 30) × (in_both added_both (Some 10) None ≡ None)
    × (in_both added_both None (Some 20) ≡ None)
sums_in_both = (refl, refl, refl)

-- at a key of the left map alone its value, and nothing at one of the right map alone
sums_in_left : (in_left added_left (Some 10) (Some 20) ≡ Some 30) × (in_left added_left (Some 10) None ≡ Some 10)
    × (in_left added_left None (Some 20) ≡ None)
sums_in_left = (refl, refl, refl)

-- and the other way round
sums_in_right : (in_right added_right (Some 10) (Some 20) ≡ Some 30) × (in_right added_right (Some 10) None ≡ None)
    × (in_right added_right None (Some 20) ≡ Some 20)
sums_in_right = (refl, refl, refl)

-- at the keys of either map
sums_in_either : (in_either added (Some 10) (Some 20) ≡ Some 30) × (in_either added (Some 10) None ≡ Some 10)
    × (in_either added None (Some 20) ≡ Some 20) × (in_either added None None ≡ None)
sums_in_either = (refl, refl, refl, refl)

-- a left join makes what stands at the keys of the left map
sums_in_kind : (in_kind kind.Left added (Some 10) None ≡ Some 10) × (in_kind kind.Left added None (Some 20) ≡ None)
sums_in_kind = (refl, refl)

-- of a question that shows 10 and 20 the sum is 30
sum_of_values : of_values {K = ℕ} added (Both 1 10 20) ≡ Some 30
sum_of_values = refl

-- the inner join by sums of 1 to 10 and 2 to 20 with 2 to 5 and 3 to 7 binds 2 to 25 alone
joins_values : JoinsValues order (in_both added_both) ((one, 10) ∷ (two, 20) ∷ []) ((two, 5) ∷ (three, 7) ∷ []) ((two, 25) ∷ [])
joins_values = each _ refl refl refl refl refl

-- ---- closures that add

abbrev Answer : Type 0
Answer = Result (Option ℕ) Bool

abbrev adds : Shared (Unit {0}) (OuterJoinArg (Bor ℕ) (Bor ℕ) (Bor ℕ) × Unit {0}) Answer
adds = closure (λ a. Unit {0}) (λ a r. r ≡ Ok (of_values added (seen a.0)))

abbrev adds_left : Shared (Unit {0}) (Bor ℕ × (Bor ℕ × (Option (Bor ℕ) × Unit {0}))) Answer
adds_left = closure (λ a. Unit {0}) (λ a r. r ≡ Ok (added_left a.1.0.now (option_copied a.1.1.0)))

abbrev adds_right : Shared (Unit {0}) (Bor ℕ × (Option (Bor ℕ) × (Bor ℕ × Unit {0}))) Answer
adds_right = closure (λ a. Unit {0}) (λ a r. r ≡ Ok (added_right (option_copied a.1.0) a.1.1.0.now))

abbrev adds_inner : Shared (Unit {0}) (Bor ℕ × (Bor ℕ × (Bor ℕ × Unit {0}))) Answer
adds_inner = closure (λ a. Unit {0}) (λ a r. r ≡ Ok (added_both a.1.0.now a.1.1.0.now))

-- an answer that is there is what it is
answered : (r : Answer) (v : Option ℕ) → r ≡ Ok v → IfOk r (λ x. x ≡ v)
answered r v e = subst (λ q. IfOk q (λ x. x ≡ v)) (sym e) refl

-- they answer the sum of the values
answers_by : AnswersBy adds tt added
answers_by a r e = answered r _ e

answers_left_by : AnswersLeftBy adds_left tt added_left
answers_left_by k v w r e = answered r _ e

answers_right_by : AnswersRightBy adds_right tt added_right
answers_right_by k v w r e = answered r _ e

answers_inner_by : AnswersInnerBy adds_inner tt added_both
answers_inner_by k v w r e = answered r _ e

-- ---- in place

abbrev turns : Shared (Unit {0}) (OuterJoinArg (Bor ℕ) ℕ (Bor ℕ) × Unit {0}) (Option ℕ)
turns = closure (λ a. Unit {0}) (λ a r. r ≡ of_values added (handed a.0))

abbrev turns_left : Shared (Unit {0}) (Bor ℕ × (ℕ × (Option (Bor ℕ) × Unit {0}))) (Option ℕ)
turns_left = closure (λ a. Unit {0}) (λ a r. r ≡ added_left a.1.0 (option_copied a.1.1.0))

abbrev turns_right : Shared (Unit {0}) (Bor ℕ × (Option ℕ × (Bor ℕ × Unit {0}))) (Option ℕ)
turns_right = closure (λ a. Unit {0}) (λ a r. r ≡ added_right a.1.0 a.1.1.0.now)

abbrev turns_inner : Shared (Unit {0}) (Bor ℕ × (ℕ × (Bor ℕ × Unit {0}))) (Option ℕ)
turns_inner = closure (λ a. Unit {0}) (λ a r. r ≡ added_both a.1.0 a.1.1.0.now)

turns_by : TurnsBy turns tt added
turns_by a r e = e

turns_left_by : TurnsLeftBy turns_left tt added_left
turns_left_by k v w r e = e

turns_right_by : TurnsRightBy turns_right tt added_right
turns_right_by k v w r e = e

turns_inner_by : TurnsInnerBy turns_inner tt added_both
turns_inner_by k v w r e = e

-- ---- of `BTreeMap`, in place

-- 10 stays where the other map lacks the key, and becomes 30 where it has 20
stays_or_sum : (or_stays added_both 10 None ≡ Some 10) × (or_stays added_both 10 (Some 20) ≡ Some 30)
stays_or_sum = (refl, refl)

-- 20 is given where the other map alone has it
given_or_sum : (or_given added_left (λ w. Some w) None (Some 20) ≡ Some 20)
    × (or_given added_left (λ w. Some w) (Some 10) (Some 20) ≡ Some 30)
given_or_sum = (refl, refl)

-- closures that leave the sum and answer true
abbrev leaves : Shared (Unit {0}) (Bor ℕ × (MutBor ℕ × (Option (Bor ℕ) × Unit {0}))) (Bool × (MutBor ℕ × Unit {0}))
leaves = closure (λ a. Unit {0}) (λ a r. if_kept r.0 r.1.0.now ≡ added_left a.1.0.now (option_copied a.1.1.0))

abbrev leaves_shared : Shared (Unit {0}) (Bor ℕ × (MutBor ℕ × (Bor ℕ × Unit {0}))) (Bool × (MutBor ℕ × Unit {0}))
leaves_shared = closure (λ a. Unit {0}) (λ a r. if_kept r.0 r.1.0.now ≡ added_both a.1.0.now a.1.1.0.now)

leaves_by : LeavesBy leaves tt added_left
leaves_by k v w kept left e = e

leaves_shared_by : LeavesSharedBy leaves_shared tt added_both
leaves_shared_by k v w kept left e = e

-- one that gives the other value
gives_by : GivesBy {K = ℕ} {V = ℕ} {W = ℕ} (closure (λ a. Unit {0}) (λ a r. r ≡ Some a.1.0.now)) tt (λ w. Some w)
gives_by k w r e = e
