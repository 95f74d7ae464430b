-- Worked rows of the definitions on combines, covers and the machine of commands.
use Rattle.std.specs.Prelude.{◌≡◌, ℕ, suc, ◌+◌, ◌≤◌, nat_le, Bool, true, false, List, [], ◌∷◌, length, Option, Some, None}
use Rattle.std.specs.Prelude.{IsTrue, refl}
use Rattle.std.proofs.Common.{arith}
use denote.Ref.{Bor}
use denote.Param.Members.{Shared}
use Rattle.vc_tree_model.specs.Tree.{Tree, made, no_tree}
use Rattle.vc_tree_model.specs.Map.{lookup}
use Rattle.vc_tree_model.specs.Snapshot.{kept_itself}
use Rattle.vc_tree_model.specs.Combine.{IsCombined, IsOuterAt, IsInnerAt, IsLeftAt, IsUnionAt, IsIntersectionAt, IsDifferenceAt}
use Rattle.vc_tree_model.specs.Asking.{MayAnswer, MayAnswerAt, CanAsk, CanAskAt}
use Rattle.vc_tree_model.specs.Cover.{IsLongestCover, IsRemoved, IsRetained}
use Rattle.vc_tree_model.specs.Machine.{insert, union, no_map, refused, KeptRun, KeptStep, Step, Run}
use Rattle.definition_tests.proofs.Digits.{same, not_true}
use Rattle.definition_tests.proofs.Closures.{ref, closure}
use Rattle.definition_tests.proofs.Letters.{Letter, a, b, by_letter, each_key, leaf, a_and_ab, not_some}

-- ---- what stands at one key

-- the sum of two values
abbrev Sums : ℕ → ℕ → Option ℕ → Type 0
Sums v w z = z ≡ Some (v + w)

-- the sum where the right one has a value, and else nothing
abbrev SumsOrDrops : ℕ → Option ℕ → Option ℕ → Type 0
SumsOrDrops v (Some w) z = z ≡ Some (v + w)
SumsOrDrops v None z = z ≡ None

outer_at : IsOuterAt same same Sums (Some 2) (Some 5) (Some 7) × IsOuterAt same same Sums (Some 1) None (Some 1)
    × IsOuterAt same same Sums None (Some 7) (Some 7)
outer_at = (refl, refl, refl)

inner_at : IsInnerAt Sums (Some 2) (Some 5) (Some 7) × IsInnerAt {U = ℕ} Sums (Some 1) None None
inner_at = (refl, refl)

left_at : IsLeftAt SumsOrDrops (Some 2) (Some 5) (Some 7) × IsLeftAt SumsOrDrops (Some 1) None None
    × IsLeftAt SumsOrDrops None (Some 5) None
left_at = (refl, refl, refl)

union_at : IsUnionAt {V = ℕ} same same (Some 1) (Some 5) (Some 1)
union_at = refl

intersection_at : IsIntersectionAt {V = ℕ} {W = ℕ} same (Some 1) None None
intersection_at = refl

difference_at : IsDifferenceAt {V = ℕ} {W = ℕ} same (Some 1) None (Some 1)
difference_at = refl

-- ---- whole trees

-- the union of a to 1 and ab to 5
union_of_trees : IsCombined {V = ℕ} {W = ℕ} {U = ℕ} by_letter (IsUnionAt same same) (leaf (a ∷ []) 1)
    (leaf (a ∷ b ∷ []) 5) (a_and_ab 1 5)
union_of_trees = each_key _ tt refl (λ k. tt) refl (λ y k. tt) tt (λ y k. tt)

-- a to 1, ab to 2, and ab to 5, b to 7
abbrev left_tree : Tree Letter ℕ
left_tree = a_and_ab 1 2

abbrev right_tree : Tree Letter ℕ
right_tree = made [] None (leaf (a ∷ b ∷ []) 5 ∷ leaf (b ∷ []) 7 ∷ [])

-- summed: a to 1, ab to 7, b to 7
outer_of_trees : IsCombined {V = ℕ} {W = ℕ} {U = ℕ} by_letter (IsOuterAt same same Sums) left_tree right_tree
    (made [] None (a_and_ab 1 7 ∷ leaf (b ∷ []) 7 ∷ []))
outer_of_trees = each_key _ tt refl (λ k. tt) refl (λ y k. tt) refl (λ y k. tt)

-- the same two, summed at shared keys alone: ab to 7
inner_of_trees : IsCombined {V = ℕ} {W = ℕ} {U = ℕ} by_letter (IsInnerAt Sums) left_tree right_tree (leaf (a ∷ b ∷ []) 7)
inner_of_trees = each_key _ refl refl (λ k. refl) refl (λ y k. refl) refl (λ y k. refl)

-- and with each key of the left, dropped where the right has no value: ab to 7
left_of_trees : IsCombined {V = ℕ} {W = ℕ} {U = ℕ} by_letter (IsLeftAt SumsOrDrops) left_tree right_tree (leaf (a ∷ b ∷ []) 7)
left_of_trees = each_key _ refl refl (λ k. refl) refl (λ y k. refl) refl (λ y k. refl)

-- the keys of both, with the values of the left: ab to 2
intersection_of_trees : IsCombined {V = ℕ} {W = ℕ} {U = ℕ} by_letter (IsIntersectionAt same) left_tree right_tree
    (leaf (a ∷ b ∷ []) 2)
intersection_of_trees = each_key _ refl refl (λ k. refl) refl (λ y k. refl) tt (λ y k. refl)

-- the keys of the left alone: a to 1
difference_of_trees : IsCombined {V = ℕ} {W = ℕ} {U = ℕ} by_letter (IsDifferenceAt same) left_tree right_tree (leaf (a ∷ []) 1)
difference_of_trees = each_key _ tt refl (λ k. tt) refl (λ y k. tt) refl (λ y k. tt)

-- and not the whole of the left, which has 2 at ab
abbrev value_at_ab : Option ℕ
value_at_ab = Some 2

no_difference : IsCombined {V = ℕ} {W = ℕ} {U = ℕ} by_letter (IsDifferenceAt same) left_tree right_tree left_tree → ⊥
no_difference h = absurd (some_two (h (a ∷ b ∷ [])))
  where
    some_two : value_at_ab ≡ None → ⊥
    some_two e = cc

-- ---- closures

-- a closure that adds, and may be called where the sum is at most 255
abbrev adds : Shared (Unit {0}) (Bor ℕ × (Bor ℕ × Unit {0})) (Option ℕ)
adds = closure (λ v. IsTrue (nat_le (v.0.now + v.1.0.now) 255)) (λ v z. z ≡ Some (v.0.now + v.1.0.now))

may_answer : MayAnswer adds tt 2 5 (Some 7)
may_answer = record { left = ref 2; right = ref 5; shows = (refl, refl); answers = refl }

can_ask : CanAsk adds tt (Some 2) (Some 5)
can_ask p q e h = rw (e, h) refl

cannot_ask : CanAsk adds tt (Some 200) (Some 100) → ⊥
cannot_ask h = not_true (h (ref 200) (ref 100) refl refl)

-- a closure that answers whether the other value is missing
abbrev is_missing : Option (Bor ℕ) → Bool
is_missing None = true
is_missing (Some w) = false

abbrev tells : Shared (Unit {0}) (Bor ℕ × (Option (Bor ℕ) × Unit {0})) Bool
tells = closure (λ v. Unit {0}) (λ v z. z ≡ is_missing v.1.0)

may_answer_at : MayAnswerAt {W = ℕ} tells tt 2 None true
may_answer_at = record { left = ref 2; right = None; shows = (refl, refl); answers = refl }

can_ask_at : CanAskAt {W = ℕ} tells tt (Some 2) None
can_ask_at p q e h = tt

-- ---- covers, by the rules a (admitted) and ab (refused)

abbrev rules : List Letter → Option Bool
rules = lookup by_letter (a_and_ab true false)

-- what rules say of a key
abbrev Says : Bool → Bool → Type 0
Says rule answer = answer ≡ rule

-- of aba the rule ab is the longest
is_longest_cover : IsLongestCover by_letter rules (a ∷ b ∷ a ∷ []) (a ∷ b ∷ []) false
is_longest_cover = record {
  prefix = (a ∷ [], refl);
  bound = refl;
  longest = λ r u s e. longest r u e;
}
  where
    longest : (r : List Letter) (u : Bool) → rules r ≡ Some u → length r ≤ 2
    longest = each_key _ (λ u e. not_some e) (λ u e. omega arith) (λ k u e. not_some e) (λ u e. omega arith)
        (λ y k u e. not_some e) (λ u e. not_some e) (λ y k u e. not_some e)

-- of a, ab and b they remove a
is_removed : IsRemoved {V = ℕ} same Says rules
    (lookup by_letter (made [] None (a_and_ab 1 2 ∷ leaf (b ∷ []) 3 ∷ [])))
    (lookup by_letter (made [] None (leaf (a ∷ b ∷ []) 2 ∷ leaf (b ∷ []) 3 ∷ [])))
is_removed = each_key _ refl (true, refl, refl) (λ k. refl) (false, refl, refl) (λ y k. refl) (false, refl, refl) (λ y k. refl)

-- and retain it alone
is_retained : IsRetained {V = ℕ} same Says rules
    (lookup by_letter (made [] None (a_and_ab 1 2 ∷ leaf (b ∷ []) 3 ∷ []))) (lookup by_letter (leaf (a ∷ []) 1))
is_retained = each_key _ refl (true, refl, refl) (λ k. refl) (false, refl, refl) (λ y k. refl) (false, refl, refl) (λ y k. refl)

-- ---- the machine

-- after a refused union no key is bound, and a refused insertion changes nothing
refused_union : refused {V = ℕ} by_letter (union no_tree) (lookup by_letter (leaf (a ∷ []) 1)) (a ∷ []) ≡ None
refused_union = refl

refused_insertion : refused {V = ℕ} by_letter (insert (b ∷ []) 2) (lookup by_letter (leaf (a ∷ []) 1)) (a ∷ []) ≡ Some 1
refused_insertion = refl

-- inserting ab into the empty map gives the map of ab
step : Step {V = ℕ} by_letter same no_map (insert (a ∷ b ∷ []) 9) true (lookup by_letter (leaf (a ∷ b ∷ []) 9))
step = each_key _ tt tt (λ k. tt) refl (λ y k. tt) tt (λ y k. tt)

-- insert a, union with b refused, insert ab: ab alone is left
run : Run {V = ℕ} by_letter same no_map (insert (a ∷ []) 1 ∷ union (leaf (b ∷ []) 2) ∷ insert (a ∷ b ∷ []) 9 ∷ [])
    (true ∷ false ∷ true ∷ []) (lookup by_letter (leaf (a ∷ b ∷ []) 9))
run = (
  lookup by_letter (leaf (a ∷ []) 1),
  inserted,
  (no_map, (λ k. tt), (lookup by_letter (leaf (a ∷ b ∷ []) 9), step, (λ k. kept_itself same (λ v. refl) _))),
)
  where
    inserted : Step {V = ℕ} by_letter same no_map (insert (a ∷ []) 1) true (lookup by_letter (leaf (a ∷ []) 1))
    inserted = each_key _ tt refl (λ k. tt) tt (λ y k. tt) tt (λ y k. tt)

-- where a clone of a number is the next one, a union with b=>7 keeps 1 at a, and adds 8
abbrev Next : ℕ → ℕ → Type 0
Next v w = w ≡ suc v

abbrev of_a : List Letter → Option ℕ
of_a = lookup by_letter (leaf (a ∷ []) 1)

abbrev a_and_b : ℕ → ℕ → List Letter → Option ℕ
a_and_b v w = lookup by_letter (made [] None (leaf (a ∷ []) v ∷ leaf (b ∷ []) w ∷ []))

kept_step : KeptStep by_letter same Next of_a (union (leaf (b ∷ []) 7)) true (a_and_b 1 8)
kept_step = each_key _ tt refl (λ k. tt) tt (λ y k. tt) refl (λ y k. tt)

-- and leaves no clone of what stays
no_fresh_step : KeptStep by_letter same Next of_a (union (leaf (b ∷ []) 7)) true (a_and_b 2 8) → ⊥
no_fresh_step h = two_one (h (a ∷ []))
  where
    two_one : same {X = ℕ} 1 2 → ⊥
    two_one e = cc

kept_run : KeptRun by_letter same Next of_a (union (leaf (b ∷ []) 7) ∷ []) (true ∷ []) (a_and_b 1 8)
kept_run = (a_and_b 1 8, kept_step, λ k. kept_itself same (λ v. refl) _)
