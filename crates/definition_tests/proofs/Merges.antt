-- Further worked rows of the definitions on merges; others are with the definitions.
use Rattle.std.specs.Prelude.{◌≡◌, ℕ, ◌==◌, ◌||◌, true, false, List, [], ◌∷◌, ◌++◌, take, drop, Option, Some, None}
use Rattle.std.specs.Prelude.{Ok, Err, ◌⊎◌, refl}
use Rattle.std.proofs.Common.{inl, inr, ap, sym, ◌∙◌, arith}
use Rattle.std.proofs.lemmas.List.{append-nil}
use Rattle.std.specs.List.Sorted.{IsStrictlySortedBy}
use Rattle.std.specs.Map.Iter.{TakesFirst}
use Rattle.std.specs.Ordering.{nat_cmp}
use Rattle.std.specs.declared.alloc.AllocError.{AllocError}
use Rattle.std.specs.declared.cmp.Ordering.{Ordering}
use Rattle.std.specs.declared.cmp.Ordering.TheVariants.{Less, Equal, Greater}
use Rattle.vc_merge.specs.Script.{Event, left_alone, right_alone, collision, lefts, rights, place, IsMatched}
use Rattle.vc_merge.specs.Script.{BothAscend, IsScript}
use Rattle.vc_merge.specs.Chain.{Answer, Allows, allows, of_left, of_right, of_both, IsAtFront, IsAllowed, Step}
use Rattle.vc_merge.specs.Chain.{Steps, Finishes, Stops, IsMerged}
use Rattle.vc_merge.specs.Fronts.{LeftBelow, RightBelow, HeadsCompare}
use Rattle.vc_merge.specs.Takes.{TakesLeft, TakesRight, TakesBoth}
use Rattle.vc_merge.specs.Both.{Both, Follows}
use Rattle.vc_merge.specs.Place.{IsOrdered, IsFound, IsGap, IsPlace}
use Rattle.vc_merge.specs.Building.{Extends, Built, Advances, Skips}
use Rattle.vc_merge.specs.Gathering.{Gathers, GivesIf, Appends, IsBuilt, IsBuilding}
use Rattle.vc_builder.specs.Builder.{builder, with_rest}
use Rattle.vc_merge.specs.Yielded.{Calls, AscendsAlong, gives_ascending, list-along}
use Rattle.definition_tests.proofs.Digits.{same, not_true}

-- the number on either side, and the order of numbers on both sides
abbrev number : ℕ ⊎ ℕ → ℕ
number (inl n) = n
number (inr n) = n

abbrev numbers : ℕ ⊎ ℕ → ℕ ⊎ ℕ → Ordering
numbers u v = nat_cmp (number u) (number v)

-- ---- the script of 1 3 5 and 2 3

abbrev script : List (Event ℕ ℕ)
script = left_alone 1 ∷ right_alone 2 ∷ collision 3 3 ∷ left_alone 5 ∷ []

left_of_script : lefts script ≡ 1 ∷ 3 ∷ 5 ∷ []
left_of_script = refl

right_of_script : rights script ≡ 2 ∷ 3 ∷ []
right_of_script = refl

place_of_right : place {A = ℕ} {B = ℕ} (right_alone 2) ≡ inr 2
place_of_right = refl

is_matched : IsMatched {A = ℕ} {B = ℕ} numbers (collision 3 3)
is_matched = refl

both_ascend : BothAscend numbers (1 ∷ 3 ∷ 5 ∷ []) (2 ∷ 3 ∷ [])
unfolding IsStrictlySortedBy
both_ascend = record { left = ((refl, (refl, tt)), ((refl, tt), (tt, tt))); right = ((refl, tt), (tt, tt)) }

is_script : IsScript numbers (1 ∷ 3 ∷ 5 ∷ []) (2 ∷ 3 ∷ []) script
unfolding IsStrictlySortedBy
is_script = record {
  left = refl;
  right = refl;
  ascends =
      ((refl, (refl, (refl, tt))), ((refl, (refl, tt)), ((refl, tt), (tt, tt))));
  matched = (tt, (tt, (refl, (tt, tt))));
}

-- ---- operations, on what is left of two lists and what was built

abbrev State : Type 0
State = List ℕ × List ℕ × List ℕ

abbrev state : List ℕ → List ℕ → List ℕ → State
state left right built = (left, right, built)

-- a union, which takes what every run hands over
abbrev union : Allows State ℕ ℕ
union = allows (λ s. s.0) (λ s. s.1) (record {
  from_a = λ s n answer t. (answer ≡ Ok true) × (t ≡ state (drop n s.0) s.1 (s.2 ++ take n s.0));
  from_b = λ s n answer t. (answer ≡ Ok true) × (t ≡ state s.0 (drop n s.1) (s.2 ++ take n s.1));
  collision = λ s answer t. (answer ≡ Ok true) × (t ≡ state (drop 1 s.0) (drop 1 s.1) (s.2 ++ take 1 s.0));
})

-- the answers to stop and to go on
abbrev stop : Answer
stop = Ok false

abbrev go_on : Answer
go_on = Ok true

-- a test for a shared element, which stops at a collision
abbrev sharing : Allows State ℕ ℕ
sharing = allows (λ s. s.0) (λ s. s.1) (record {
  from_a = λ s n answer t. (answer ≡ Ok true) × (t ≡ state (drop n s.0) s.1 s.2);
  from_b = λ s n answer t. (answer ≡ Ok true) × (t ≡ state s.0 (drop n s.1) s.2);
  collision = λ s answer t. (answer ≡ Ok false) × (t ≡ s);
})

-- 1 3 at the front of 1 3 5 leaves 5
is_at_front : IsAtFront {A = ℕ} {B = ℕ} (1 ∷ 3 ∷ 5 ∷ []) (4 ∷ []) (of_left (1 ∷ 3 ∷ [])) (5 ∷ []) (4 ∷ [])
is_at_front = (omega arith, refl, refl)

-- after the left run 1 3 a union answers true, and has 1 3
is_allowed : IsAllowed union (state (1 ∷ 3 ∷ 5 ∷ []) (4 ∷ []) []) (of_left (1 ∷ 3 ∷ [])) (Ok true)
    (state (5 ∷ []) (4 ∷ []) (1 ∷ 3 ∷ []))
is_allowed = (refl, refl)

-- the left run 1
step : Step union (state (1 ∷ 3 ∷ 5 ∷ []) (2 ∷ 3 ∷ []) []) (of_left (1 ∷ [])) (state (3 ∷ 5 ∷ []) (2 ∷ 3 ∷ []) (1 ∷ []))
step = record { front = (omega arith, refl, refl); allowed = (refl, refl) }

-- the right run 2
next_step : Step union (state (3 ∷ 5 ∷ []) (2 ∷ 3 ∷ []) (1 ∷ [])) (of_right (2 ∷ [])) (state (3 ∷ 5 ∷ []) (3 ∷ []) (1 ∷ 2 ∷ []))
next_step = record { front = (omega arith, refl, refl); allowed = (refl, refl) }

-- 3 with 3, and the left run 5
shared_step : Step union (state (3 ∷ 5 ∷ []) (3 ∷ []) (1 ∷ 2 ∷ [])) (of_both 3 3) (state (5 ∷ []) [] (1 ∷ 2 ∷ 3 ∷ []))
shared_step = record { front = (refl, refl); allowed = (refl, refl) }

last_step : Step union (state (5 ∷ []) [] (1 ∷ 2 ∷ 3 ∷ [])) (of_left (5 ∷ [])) (state [] [] (1 ∷ 2 ∷ 3 ∷ 5 ∷ []))
last_step = record { front = (omega arith, refl, refl); allowed = (refl, refl) }

-- the two runs 1 and 2 take a union from the empty list to 1 2
steps : Steps union (state (1 ∷ 3 ∷ 5 ∷ []) (2 ∷ 3 ∷ []) []) (of_left (1 ∷ []) ∷ of_right (2 ∷ []) ∷ [])
    (state (3 ∷ 5 ∷ []) (3 ∷ []) (1 ∷ 2 ∷ []))
steps = (state (3 ∷ 5 ∷ []) (2 ∷ 3 ∷ []) (1 ∷ []), step, (state (3 ∷ 5 ∷ []) (3 ∷ []) (1 ∷ 2 ∷ []), next_step, refl))

-- a union of 1 3 5 and 2 3 finishes, and has 1 2 3 5
finishes : Finishes union numbers (state (1 ∷ 3 ∷ 5 ∷ []) (2 ∷ 3 ∷ []) []) (state [] [] (1 ∷ 2 ∷ 3 ∷ 5 ∷ []))
finishes = record {
  runs = of_left (1 ∷ []) ∷ of_right (2 ∷ []) ∷ of_both 3 3 ∷ of_left (5 ∷ []) ∷ [];
  steps = (
    state (3 ∷ 5 ∷ []) (2 ∷ 3 ∷ []) (1 ∷ []),
    step,
    (
      state (3 ∷ 5 ∷ []) (3 ∷ []) (1 ∷ 2 ∷ []),
      next_step,
      (state (5 ∷ []) [] (1 ∷ 2 ∷ 3 ∷ []), shared_step, (state [] [] (1 ∷ 2 ∷ 3 ∷ 5 ∷ []), last_step, refl)),
    ),
  );
  script = is_script;
}

-- the test for a shared element stops at 3 with 3
stops : Stops sharing numbers (state (1 ∷ 3 ∷ 5 ∷ []) (2 ∷ 3 ∷ []) []) (Ok false) (state (3 ∷ 5 ∷ []) (3 ∷ []) [])
stops = record {
  runs = of_left (1 ∷ []) ∷ of_right (2 ∷ []) ∷ [];
  last = of_both 3 3;
  before = state (3 ∷ 5 ∷ []) (3 ∷ []) [];
  steps = (
    state (3 ∷ 5 ∷ []) (2 ∷ 3 ∷ []) [],
    record { front = (omega arith, refl, refl); allowed = (refl, refl) },
    (state (3 ∷ 5 ∷ []) (3 ∷ []) [], record { front = (omega arith, refl, refl); allowed = (refl, refl) }, refl),
  );
  left_after = 5 ∷ [];
  right_after = [];
  front = (refl, refl);
  allowed = (refl, refl);
  not_true = differ;
  rest = left_alone 5 ∷ [];
  script = is_script;
}
  where
    differ : stop ≡ go_on → ⊥
    differ e = cc

-- both end `Ok`
union_is_merged : IsMerged union numbers (state (1 ∷ 3 ∷ 5 ∷ []) (2 ∷ 3 ∷ []) []) (Ok tt) (state [] [] (1 ∷ 2 ∷ 3 ∷ 5 ∷ []))
union_is_merged = inl finishes

test_is_merged : IsMerged sharing numbers (state (1 ∷ 3 ∷ 5 ∷ []) (2 ∷ 3 ∷ []) []) (Ok tt) (state (3 ∷ 5 ∷ []) (3 ∷ []) [])
test_is_merged = inr stops

-- ---- fronts

-- the run 1 of 1 3 5 is below 2 3
left_below : LeftBelow numbers (1 ∷ []) (2 ∷ 3 ∷ [])
left_below = ((refl, (refl, tt)), tt)

right_below : RightBelow numbers (2 ∷ []) (3 ∷ 5 ∷ [])
right_below = ((refl, (refl, tt)), tt)

-- 3 5 and 3 meet in a collision
heads_compare : HeadsCompare numbers (3 ∷ 5 ∷ []) (3 ∷ []) Equal
heads_compare = refl

-- after 2 of the left list 1 3 5 it shows 5
takes_left : TakesLeft {M = State} {A = ℕ} {B = ℕ} (λ s. s.0) (λ s. s.1) (λ s. Unit {0}) 2
    (state (1 ∷ 3 ∷ 5 ∷ []) (4 ∷ []) []) (Ok true) (state (5 ∷ []) (4 ∷ []) [])
takes_left e = (refl, refl, tt)

takes_right : TakesRight {M = State} {A = ℕ} {B = ℕ} (λ s. s.0) (λ s. s.1) (λ s. Unit {0}) 1
    (state (5 ∷ []) (2 ∷ 3 ∷ []) []) (Ok true) (state (5 ∷ []) (3 ∷ []) [])
takes_right e = (refl, refl, tt)

takes_both : TakesBoth {M = State} {A = ℕ} {B = ℕ} (λ s. s.0) (λ s. s.1) (λ s. Unit {0})
    (state (3 ∷ 5 ∷ []) (3 ∷ []) []) (Ok true) (state (5 ∷ []) [] [])
takes_both e = (refl, refl, tt)

-- take the left 3, then skip the right 3
abbrev Takes : State → Answer → State → Type 0
Takes s answer t = (answer ≡ Ok true) × (t ≡ state (drop 1 s.0) s.1 (s.2 ++ take 1 s.0))

abbrev SkipsRight : State → Answer → State → Type 0
SkipsRight s answer t = (answer ≡ Ok true) × (t ≡ state s.0 (drop 1 s.1) s.2)

both_calls : Both Takes SkipsRight (state (3 ∷ 5 ∷ []) (3 ∷ []) []) (Ok true) (state (5 ∷ []) [] (3 ∷ []))
both_calls = record {
  between = state (5 ∷ []) (3 ∷ []) (3 ∷ []);
  answered = Ok true;
  first = (refl, refl);
  second =
      (refl, refl);
}

-- where the first call answers false, the second is not made
first_alone : Follows SkipsRight (state (3 ∷ []) (3 ∷ []) []) (Ok false) (Ok false) (state (3 ∷ []) (3 ∷ []) [])
first_alone = (refl, refl)

-- ---- places

-- how a number stands to 3, and to 4
abbrev to_three : ℕ → Ordering
to_three x = nat_cmp x 3

abbrev to_four : ℕ → Ordering
to_four x = nat_cmp x 4

is_ordered : IsOrdered to_four (1 ∷ 3 ∷ 5 ∷ [])
is_ordered = (inl refl, (inl refl, (inr tt, tt)))

-- 3 is found at place 1 of 1 3 5
is_found : IsFound to_three (1 ∷ 3 ∷ 5 ∷ []) 1
is_found = record { within = omega arith; equal = λ d. refl; less = (refl, tt); greater = (refl, tt) }

-- the gap of 4 in 1 3 5 is 2
is_gap : IsGap to_four (1 ∷ 3 ∷ 5 ∷ []) 2
is_gap = record { within = omega arith; less = (refl, (refl, tt)); greater = (refl, tt) }

found_place : IsPlace to_three (1 ∷ 3 ∷ 5 ∷ []) (Ok 1)
found_place = is_found

gap_place : IsPlace to_four (1 ∷ 3 ∷ 5 ∷ []) (Err 2)
gap_place = is_gap

-- ---- building

-- 7 extended by 1 3 is 7 1 3
extends : Extends {X = ℕ} same (1 ∷ 3 ∷ []) (7 ∷ []) (7 ∷ 1 ∷ 3 ∷ [])
extends = record { added = 1 ∷ 3 ∷ []; come = (refl, (refl, tt)); items = refl }

-- of 1 3 5 the first 2 behind 7, where they are taken, and where they are skipped
built_taken : Built {X = ℕ} same (1 ∷ 3 ∷ 5 ∷ []) 2 true (7 ∷ []) (7 ∷ 1 ∷ 3 ∷ [])
built_taken = extends

built_skipped : Built {X = ℕ} same (1 ∷ 3 ∷ 5 ∷ []) 2 false (7 ∷ []) (7 ∷ [])
built_skipped = refl

-- taking 1 behind 7 leaves 7 1, or is refused
advances : Advances {M = State} {X = ℕ} {N = Unit {0}} (λ s. s.2) (λ s. tt) same (λ s. s.0)
    (state (1 ∷ []) [] (7 ∷ [])) 1 true (Ok true) (state [] [] (7 ∷ 1 ∷ []))
advances = (refl, refl, record { added = 1 ∷ []; come = (refl, tt); items = refl })

advances_refused : (e : AllocError) → Advances {M = State} {X = ℕ} {N = Unit {0}} (λ s. s.2) (λ s. tt) same
    (λ s. s.0) (state (1 ∷ []) [] (7 ∷ [])) 1 true (Err e) (state (1 ∷ []) [] (7 ∷ []))
advances_refused e = tt

-- skipping leaves 7
skips : Skips {M = State} {X = ℕ} {N = Unit {0}} (λ s. s.2) (λ s. tt) (state (1 ∷ []) [] (7 ∷ [])) (Ok true)
    (state [] [] (7 ∷ []))
skips = (refl, refl, refl)

-- an even number below 6 gives itself
abbrev GivesEven : ℕ → List ℕ → Type 0
GivesEven x zs = GivesIf (x == 2 || x == 4) (λ z. z ≡ x) zs

-- 1 2 4 gathers 2 4
gathers : Gathers {X = ℕ} {Z = ℕ} GivesEven (1 ∷ 2 ∷ 4 ∷ []) (2 ∷ 4 ∷ [])
gathers = ([], 2 ∷ 4 ∷ [], refl, (2 ∷ [], 4 ∷ [], (2, refl, refl), (4 ∷ [], [], (4, refl, refl), refl, refl), refl), refl)

-- behind 7 this is 7 2 4
appends : Appends GivesEven (1 ∷ 2 ∷ 4 ∷ []) (7 ∷ []) (7 ∷ 2 ∷ 4 ∷ [])
appends = record { added = 2 ∷ 4 ∷ []; gathered = gathers; items = refl }

-- a union gives the left element of each event, where it has one, and else the right one
abbrev UnionGives : Event ℕ ℕ → List ℕ → Type 0
UnionGives (left_alone x) zs = zs ≡ x ∷ []
UnionGives (right_alone y) zs = zs ≡ y ∷ []
UnionGives (collision x y) zs = zs ≡ x ∷ []

-- 1 3 and 3 5 build 1 3 5
is_built : IsBuilt numbers UnionGives (1 ∷ 3 ∷ []) (3 ∷ 5 ∷ []) [] (1 ∷ 3 ∷ 5 ∷ [])
unfolding IsStrictlySortedBy
is_built = record {
  events = left_alone 1 ∷ collision 3 3 ∷ right_alone 5 ∷ [];
  script = record {
    left = refl;
    right = refl;
    ascends = ((refl, (refl, tt)), ((refl, tt), (tt, tt)));
    matched =
        (tt, (refl, (tt, tt)));
  };
  appends = record {
    added = 1 ∷ 3 ∷ 5 ∷ [];
    gathered = (1 ∷ [], 3 ∷ 5 ∷ [], refl, (3 ∷ [], 5 ∷ [], refl, (5 ∷ [], [], refl, refl, refl), refl), refl);
    items = refl;
  };
}

-- ---- the builder in place

-- with 1 7 built and 2 3 left, 9 written over 2 leaves 9 3
with_rest_written : with_rest {T = ℕ} (builder (1 ∷ 7 ∷ []) (2 ∷ 3 ∷ []) 1) (9 ∷ []) ≡ builder {T = ℕ} (1 ∷ 7 ∷ []) (9 ∷ 3 ∷ []) 1
with_rest_written = refl

-- ---- iterators

-- an iterator that moves numbers out of a list
abbrev moves : List ℕ → Option ℕ → List ℕ → Type 0
moves = TakesFirst (λ x. x)

-- before 1 it answers 1, and then nothing as often as it is asked
calls : Calls moves (1 ∷ []) (Some 1 ∷ None ∷ None ∷ []) []
calls = ([], refl, ([], (refl, refl), ([], (refl, refl), refl)))

-- whatever comes from before 1 3 ascends
ascends_along : AscendsAlong moves nat_cmp (1 ∷ 3 ∷ [])
unfolding IsStrictlySortedBy
ascends_along = list-along moves (λ x. x) (λ l. l) (λ s x t h. h) nat_cmp (λ s t h. h.0 ∙ sym h.1) (1 ∷ 3 ∷ [])
    ((refl, tt), (tt, tt))

-- such a step gives 1, and stands before 3
gives_ascending_step : gives_ascending moves nat_cmp (1 ∷ 3 ∷ []) (Some 1) (3 ∷ [])
gives_ascending_step = (refl, ascends_along)

-- and from before 3 1 not
descends : AscendsAlong moves nat_cmp (3 ∷ 1 ∷ []) → ⊥
unfolding IsStrictlySortedBy
descends h = greater (h (Some 3 ∷ Some 1 ∷ []) [] (1 ∷ [], refl, ([], refl, refl))).0.0
  where
    greater : Greater ≡ Less → ⊥
    greater e = cc

-- an intersection, which takes the left element of a collision
abbrev intersection : Allows State ℕ ℕ
intersection = allows (λ s. s.0) (λ s. s.1) (record {
  from_a = λ s n answer t. (answer ≡ Ok true) × (t ≡ state (drop n s.0) s.1 s.2);
  from_b = λ s n answer t. (answer ≡ Ok true) × (t ≡ state s.0 (drop n s.1) s.2);
  collision = λ s answer t. (answer ≡ Ok true) × (t ≡ state (drop 1 s.0) (drop 1 s.1) (s.2 ++ take 1 s.0));
})

-- it gives nothing at an element that stands alone, and at a collision the left element
abbrev IntersectionGives : Event ℕ ℕ → List ℕ → Type 0
IntersectionGives (left_alone x) zs = zs ≡ []
IntersectionGives (right_alone y) zs = zs ≡ []
IntersectionGives (collision x y) zs = zs ≡ x ∷ []

nothing_gathered : {X : Type 0} (xs : List X) → Gathers {X = X} {Z = ℕ} (λ x zs. zs ≡ []) xs []
nothing_gathered [] = refl
nothing_gathered (x ∷ xs) = ([], [], refl, nothing_gathered xs, refl)

nothing_appended : {X : Type 0} (xs : List X) (zs : List ℕ) → Appends {X = X} {Z = ℕ} (λ x zs. zs ≡ []) xs zs zs
nothing_appended xs zs = record { added = []; gathered = nothing_gathered xs; items = sym (append-nil zs) }

left_appended : (s : State) (x y : ℕ) (xs : List ℕ) → s.0 ≡ x ∷ xs
    → Appends IntersectionGives (collision x y ∷ []) s.2 (s.2 ++ take 1 s.0)
left_appended s x y xs e = record
    { added = x ∷ []; gathered = (x ∷ [], [], refl, refl, refl); items = ap (λ l. s.2 ++ take 1 l) e }

is_building : IsBuilding {M = State} {Z = ℕ} {N = Unit {0}} (λ s. s.2) (λ s. tt) intersection IntersectionGives
is_building = record {
  from_a = λ s t n answer h. rw h.0 (rw h.1 (refl, refl, nothing_appended (take n s.0) s.2));
  from_b = λ s t n answer h. rw h.0 (rw h.1 (refl, refl, nothing_appended (take n s.1) s.2));
  collision = λ s t answer h x y xs ys left right. rw h.0 (rw h.1 (refl, refl, left_appended s x y xs left));
}
