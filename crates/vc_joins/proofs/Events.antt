-- What is built by answers to the events of two maps is their join.
use Rattle.std.proofs.Common.{◌≡◌, Bool, true, false, cond, List, [], ◌∷◌, ◌++◌, Option, Some, None, refl, sym, subst, arith}
use Rattle.std.specs.BTreeMap.{is_at}
use Rattle.std.specs.Cmp.{IsTotalOrder}
use Rattle.std.specs.List.{AllByRecursion, cons_option}
use Rattle.std.specs.List.Sorted.{IsStrictlySortedBy}
use Rattle.std.specs.Map.{keys_of}
use Rattle.std.specs.Option.{MatchOption, option_to_list}
use Rattle.std.specs.declared.cmp.Ordering.{Ordering}
use Rattle.std.specs.declared.cmp.Ordering.TheVariants.{Less, Equal}
use Rattle.vc_merge.specs.Ascending.{Ascends}
use Rattle.vc_merge.specs.Script.{Event, left_alone, right_alone, collision, lefts, rights, place, IsMatched, IsScript}
use Rattle.vc_merge.proofs.ListLemmas.{each-weaker}
use Rattle.vc_merge.specs.Gathering.{Gathers, IsBuilt}
use Rattle.vc_joins.specs.declared.question.OuterJoinArg.{OuterJoinArg}
use Rattle.vc_joins.specs.declared.question.JoinKind.{JoinKind}
use Rattle.vc_joins.specs.Entries.{AscendsByKey, entry_at}
use Rattle.vc_joins.specs.Events.{by_key, event_key, question_of, AnswersEvent}
use Rattle.vc_joins.specs.Question.{asks, asked, if_asked, shown_key}
use Rattle.vc_joins.specs.Join.{IsAnswered, IsAsked, IsJoin}

-- the key of a pair, where there is one, is equal to x
abbrev pub IsAtKey : {K X : Type 0} → (K → K → Ordering) → K → Option (K × X) → Type 0
IsAtKey cmp x z = MatchOption z (Unit {0}) (λ p. cmp x p.0 ≡ Equal)

module _ {K : Type 0} {cmp : K → K → Ordering} (total : IsTotalOrder cmp) where
  -- equal keys are at the same places
  at-alike : (k x y : K) → cmp x y ≡ Equal → is_at (cmp k) y ≡ is_at (cmp k) x
  at-alike k x y e = grind arith

  -- what a key is below is above what is equal to the key
  above-alike : (x z : K) (ys : List K) → cmp x z ≡ Equal → AllByRecursion (λ y. cmp x y ≡ Less) ys
      → AllByRecursion (λ y. cmp z y ≡ Less) ys
  above-alike x z [] e p = tt
  above-alike x z (y ∷ ys) e p = grind (arith, above-alike x z ys e p.1)

  module _ {X : Type 0} where
    -- the first pair, where the key is equal and where it is not
    entry-first : (k : K) (p : K × X) (es : List (K × X)) → is_at (cmp k) p.0 ≡ true → entry_at cmp (p ∷ es) k ≡ Some p
    entry-first k p es e = grind arith

    -- nothing stands at x above x
    entry-above : (k x : K) (es : List (K × X)) → is_at (cmp k) x ≡ true
        → AllByRecursion (λ y. cmp x y ≡ Less) (keys_of es) → entry_at cmp es k ≡ None
    entry-above k x [] e p = refl
    entry-above k x (q ∷ es) e p = grind (arith, entry-above k x es e p.1)

    -- ---- a pair, or none, in front of a list that is above it

    front-above : (w x : K) (z : Option (K × X)) (rest : List (K × X)) → cmp w x ≡ Less → IsAtKey cmp x z
        → AllByRecursion (λ y. cmp w y ≡ Less) (keys_of rest)
        → AllByRecursion (λ y. cmp w y ≡ Less) (keys_of (cons_option z rest))
    front-above w x z rest less e p = grind arith

    front-ascends : (x : K) (z : Option (K × X)) (rest : List (K × X)) → IsAtKey cmp x z
        → AllByRecursion (λ y. cmp x y ≡ Less) (keys_of rest) → AscendsByKey cmp rest → AscendsByKey cmp (cons_option z rest)
    unfolding IsStrictlySortedBy
    front-ascends x z rest e p s = grind (arith, above-alike)

    front-here : (k x : K) (z : Option (K × X)) (rest : List (K × X)) → is_at (cmp k) x ≡ true → IsAtKey cmp x z
        → AllByRecursion (λ y. cmp x y ≡ Less) (keys_of rest) → entry_at cmp (cons_option z rest) k ≡ z
    front-here k x z rest i e p = grind (arith, entry-above, entry-first, at-alike)

    front-elsewhere : (k x : K) (z : Option (K × X)) (rest : List (K × X)) → is_at (cmp k) x ≡ false
        → IsAtKey cmp x z → entry_at cmp (cons_option z rest) k ≡ entry_at cmp rest k
    front-elsewhere k x z rest i e = grind arith

  module _ {V W : Type 0} where
    -- ---- the two sides of a script

    lefts-above : (x : K) (es : List (Event (K × V) (K × W))) → AllByRecursion (λ e. cmp x (event_key e) ≡ Less) es
        → AllByRecursion (λ y. cmp x y ≡ Less) (keys_of (lefts es))
    lefts-above x [] p = tt
    lefts-above x (left_alone q ∷ es) p = (p.0, lefts-above x es p.1)
    lefts-above x (right_alone q ∷ es) p = lefts-above x es p.1
    lefts-above x (collision q r ∷ es) p = (p.0, lefts-above x es p.1)

    rights-above : (x : K) (es : List (Event (K × V) (K × W))) → AllByRecursion (IsMatched (by_key cmp)) es
        → AllByRecursion (λ e. cmp x (event_key e) ≡ Less) es → AllByRecursion (λ y. cmp x y ≡ Less) (keys_of (rights es))
    rights-above x [] m p = tt
    rights-above x (left_alone q ∷ es) m p = rights-above x es m.1 p.1
    rights-above x (right_alone q ∷ es) m p = (p.0, rights-above x es m.1 p.1)
    rights-above x (collision q r ∷ es) m p = grind (arith, rights-above x es m.1 p.1)

    module _ {X : Type 0} (kind : JoinKind) (spelled : K → K → K)
        (alike : (j k : K) → cmp j k ≡ Equal → cmp j (spelled j k) ≡ Equal)
        (May : OuterJoinArg K V W → Option X → Type 0) (Keeps : OuterJoinArg K V W → K → Type 0)
        (kept : (a : OuterJoinArg K V W) (k : K) → asks kind a ≡ true → Keeps a k → cmp (shown_key a) k ≡ Equal) where
      -- ---- one event

      -- the question of an event shows a key that is equal to its own
      shown-alike : (e : Event (K × V) (K × W)) → IsMatched (by_key cmp) e → (y : K)
          → cmp (shown_key (question_of spelled e)) y ≡ cmp (event_key e) y
      shown-alike (collision p q) m y = grind arith
      shown-alike x m y = refl

      answer-key : (a : OuterJoinArg K V W) (b : Bool) (z : Option (K × X)) → asks kind a ≡ b
          → IsAnswered May Keeps (cond b (Some a) None) z → IsAtKey cmp (shown_key a) z
      answer-key a b z q h = grind arith

      moved : (x y : K) (z : Option (K × X)) → ((w : K) → cmp x w ≡ cmp y w) → IsAtKey cmp x z → IsAtKey cmp y z
      moved x y z f h = grind arith

      -- what an event adds stands at its key
      added-key : (e : Event (K × V) (K × W)) (z : Option (K × X)) → IsMatched (by_key cmp) e
          → IsAnswered May Keeps (if_asked kind (question_of spelled e)) z → IsAtKey cmp (event_key e) z
      added-key e z m h =
          let a = question_of spelled e in
          moved (shown_key a) (event_key e) z (shown-alike e m) (answer-key a (asks kind a) z refl h)

      -- what is asked at the key of the first event is its question
      asked-here : (k : K) (e : Event (K × V) (K × W)) (es : List (Event (K × V) (K × W))) → is_at (cmp k) (event_key e) ≡ true
          → AllByRecursion (λ d. cmp (event_key e) (event_key d) ≡ Less) es → AllByRecursion (IsMatched (by_key cmp)) (e ∷ es)
          → asked kind spelled (entry_at cmp (lefts (e ∷ es)) k) (entry_at cmp (rights (e ∷ es)) k)
          ≡ if_asked kind (question_of spelled e)
      asked-here k (left_alone p) es i above m = grind (arith, entry-above k p.0 (rights es) i (rights-above p.0 es m.1 above))
      asked-here k (right_alone q) es i above m = grind (arith, entry-above k q.0 (lefts es) i (lefts-above q.0 es above))
      asked-here k (collision p q) es i above m = grind arith

      -- elsewhere the later events ask
      asked-elsewhere : (k : K) (e : Event (K × V) (K × W)) (es : List (Event (K × V) (K × W)))
          → is_at (cmp k) (event_key e) ≡ false → IsMatched (by_key cmp) e
          → asked kind spelled (entry_at cmp (lefts (e ∷ es)) k) (entry_at cmp (rights (e ∷ es)) k)
          ≡ asked kind spelled (entry_at cmp (lefts es) k) (entry_at cmp (rights es) k)
      asked-elsewhere k (left_alone p) es i m = grind arith
      asked-elsewhere k (right_alone q) es i m = grind arith
      asked-elsewhere k (collision p q) es i m = grind arith

      -- ---- what is asked at the events

      AsksAt : List (Event (K × V) (K × W)) → Event (K × V) (K × W) → Type 0
      AsksAt es e = asked kind spelled (entry_at cmp (lefts es) (event_key e))
          (entry_at cmp (rights es) (event_key e)) ≡ if_asked kind (question_of spelled e)

      asked-later : (d : Event (K × V) (K × W)) (es : List (Event (K × V) (K × W))) → IsMatched (by_key cmp) d
          → (later : List (Event (K × V) (K × W))) → AllByRecursion (λ e. cmp (event_key d) (event_key e) ≡ Less) later
          → AllByRecursion (AsksAt es) later → AllByRecursion (AsksAt (d ∷ es)) later
      unfolding AsksAt
      asked-later d es m [] p h = tt
      asked-later d es m (e ∷ later) p h = grind (arith, asked-later d es m later p.1 h.1, asked-elsewhere)

      -- at the key of each event its question is asked
      all-asked : (es : List (Event (K × V) (K × W))) → Ascends (λ d e. by_key cmp (place d) (place e)) es
          → AllByRecursion (IsMatched (by_key cmp)) es → AllByRecursion (AsksAt es) es
      unfolding AsksAt IsStrictlySortedBy
      all-asked [] s m = tt
      all-asked (e ∷ es) s m = grind (arith, all-asked es s.1 m.1, asked-here, asked-later)

      -- what holds of each question that is asked of two maps holds of that of each event that the join asks at
      pub events-asked : (P : OuterJoinArg K V W → Type 0) (xs : List (K × V)) (ys : List (K × W))
          (es : List (Event (K × V) (K × W))) → IsScript (by_key cmp) xs ys es
          → ((a : OuterJoinArg K V W) → IsAsked cmp kind spelled xs ys a → P a)
          → AllByRecursion (λ e. asks kind (question_of spelled e) ≡ true → P (question_of spelled e)) es
      unfolding AsksAt
      events-asked P xs ys es s h = grind (arith, each-weaker, all-asked es s.ascends s.matched)

      -- ---- all events

      Added : List (Event (K × V) (K × W)) → List (K × X) → Type 0
      Added es zs = Gathers (AnswersEvent kind spelled May Keeps) es zs

      -- what the first event adds, in front of what the others add
      front-added : (z : Option (K × X)) (first rest zs : List (K × X)) → first ≡ option_to_list z → zs
          ≡ first ++ rest → zs ≡ cons_option z rest
      front-added z first rest zs e f = grind arith

      added-above : (x : K) (es : List (Event (K × V) (K × W))) (zs : List (K × X))
          → AllByRecursion (λ e. cmp x (event_key e) ≡ Less) es → AllByRecursion (IsMatched (by_key cmp)) es → Added es zs
          → AllByRecursion (λ y. cmp x y ≡ Less) (keys_of zs)
      unfolding Added
      added-above x [] zs p m h = grind arith
      added-above x (e ∷ es) zs p m (first, rest, (z, answers, adds), others, is) =
          subst (λ l. AllByRecursion (λ y. cmp x y ≡ Less) (keys_of l)) (sym (front-added z first rest zs adds is))
          (front-above x (event_key e) z rest p.0 (added-key e z m.0 answers) (added-above x es rest p.1 m.1 others))

      added-ascends : (es : List (Event (K × V) (K × W))) (zs : List (K × X)) → Ascends (λ d e. by_key cmp (place d) (place e)) es
          → AllByRecursion (IsMatched (by_key cmp)) es → Added es zs → AscendsByKey cmp zs
      unfolding Added IsStrictlySortedBy
      added-ascends [] zs s m h = grind arith
      added-ascends (e ∷ es) zs s m (first, rest, (z, answers, adds), others, is) =
          subst (λ l. AscendsByKey cmp l) (sym (front-added z first rest zs adds is))
          (front-ascends (event_key e) z rest (added-key e z m.0 answers)
          (added-above (event_key e) es rest s.0 m.1 others) (added-ascends es rest s.1 m.1 others))

      AnsweredAt : K → List (Event (K × V) (K × W)) → List (K × X) → Type 0
      AnsweredAt k es zs = IsAnswered May Keeps
          (asked kind spelled (entry_at cmp (lefts es) k) (entry_at cmp (rights es) k)) (entry_at cmp zs k)

      answered-by : (k : K) (e : Event (K × V) (K × W)) (es : List (Event (K × V) (K × W))) (z : Option (K × X))
          (rest : List (K × X)) (b : Bool) → is_at (cmp k) (event_key e) ≡ b
          → AllByRecursion (λ d. cmp (event_key e) (event_key d) ≡ Less) es → AllByRecursion (IsMatched (by_key cmp)) (e ∷ es)
          → IsAnswered May Keeps (if_asked kind (question_of spelled e)) z → Added es rest
          → AnsweredAt k es rest → AnsweredAt k (e ∷ es) (cons_option z rest)
      unfolding AnsweredAt
      answered-by k e es z rest true i above m answers others h =
          subst (λ a. IsAnswered May Keeps a (entry_at cmp (cons_option z rest) k)) (sym (asked-here k e es i above m))
          (subst (λ o. IsAnswered May Keeps (if_asked kind (question_of spelled e)) o)
          (sym (front-here k (event_key e) z rest i (added-key e z m.0 answers)
          (added-above (event_key e) es rest above m.1 others))) answers)
      answered-by k e es z rest false i above m answers others h = grind (arith, asked-elsewhere, front-elsewhere, added-key)

      answered : (k : K) (es : List (Event (K × V) (K × W))) (zs : List (K × X))
          → Ascends (λ d e. by_key cmp (place d) (place e)) es → AllByRecursion (IsMatched (by_key cmp)) es → Added es zs
          → AnsweredAt k es zs
      unfolding AnsweredAt Added IsStrictlySortedBy
      answered k [] zs s m h = grind arith
      answered k (e ∷ es) zs s m (first, rest, (z, answers, adds), others, is) =
          rw (front-added z first rest zs adds is) (answered-by k e es z rest (is_at (cmp k) (event_key e)) refl s.0 m answers
          others (answered k es rest s.1 m.1 others))

      -- what is built by answers to the events of two maps is their join
      pub join-built : (xs : List (K × V)) (ys : List (K × W)) (zs : List (K × X))
          → IsBuilt (by_key cmp) (AnswersEvent kind spelled May Keeps) xs ys [] zs → IsJoin cmp kind spelled xs ys May Keeps zs
      unfolding AnsweredAt Added
      join-built xs ys zs b = grind (arith, added-ascends, answered)
