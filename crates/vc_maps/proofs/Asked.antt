-- What may be asked of two maps may be asked of what is left of them.
use Rattle.std.proofs.Common.{◌≡◌, ℕ, true, List, [], ◌∷◌, ◌++◌, map, take, drop, IfOk, Ok, Err, refl, arith}
use Rattle.std.proofs.Math.ListN.{take-append-drop}
use Rattle.std.specs.Cmp.{IsTotalOrder, tied_itself}
use Rattle.std.specs.Int.{from_bool}
use Rattle.std.specs.List.{AllByRecursion}
use Rattle.std.specs.List.Sorted.{IsStrictlySortedBy}
use Rattle.std.specs.Ordering.{is_le, is_ge}
use Rattle.std.specs.declared.cmp.Ordering.{Ordering}
use Rattle.std.specs.declared.cmp.Ordering.TheVariants.{Less, Equal, Greater}
use Rattle.vc_merge.specs.Ascending.{Ascends}
use Rattle.vc_merge.specs.Chain.{Answer}
use Rattle.vc_merge.specs.Fronts.{LeftBelow, RightBelow, HeadsCompare}
use Rattle.vc_merge.specs.Script.{Event, left_alone, right_alone, collision, IsScript, BothAscend}
use Rattle.vc_merge.specs.Takes.{TakesLesser}
use Rattle.vc_merge.proofs.ListLemmas.{ascends-append, pairs-ascend}
use Rattle.vc_merge.proofs.Scripts.{below-lefts, below-rights, put-lefts, put-rights, put-both, some-script, turned}
use Rattle.vc_joins.specs.declared.question.OuterJoinArg.{OuterJoinArg}
use Rattle.vc_joins.specs.declared.question.OuterJoinArg.TheVariants.{Left, Right}
use Rattle.vc_joins.specs.declared.question.JoinKind.{JoinKind}
use Rattle.vc_joins.specs.Events.{by_key, by_key-total}
use Rattle.vc_joins.specs.Entries.{AscendsByKey}
use Rattle.vc_joins.specs.Join.{IsAsked}
use Rattle.vc_joins.specs.Question.{asks_left, asks_right, left_spelling, shown_key}
use Rattle.vc_joins.proofs.Events.{events-asked}
use Rattle.vc_maps.specs.Asking.{AtHeads, MayAsk, CanAsk, asks_at, question_at}

-- what follows of each element from what holds of each event made of one
each-mapped : {X Y : Type 0} (P : Y → Type 0) (Q : X → Type 0) (f : X → Y) → ((x : X) → P (f x) → Q x) → (xs : List X)
    → AllByRecursion P (map f xs) → AllByRecursion Q xs
each-mapped P Q f g [] p = tt
each-mapped P Q f g (x ∷ xs) p = (g x p.0, each-mapped P Q f g xs p.1)

each-parted : {X : Type 0} (P : X → Type 0) (xs ys : List X) → AllByRecursion P (xs ++ ys)
    → AllByRecursion P xs × AllByRecursion P ys
each-parted P [] ys p = (tt, p)
each-parted P (x ∷ xs) ys p = let rest = each-parted P xs ys p.1 in ((p.0, rest.0), rest.1)

-- events come first, of which `Asked` holds, and leave ls and rs
pub record IsPassed {K V W : Type 0} (cmp : K → K → Ordering) (kind : JoinKind) (Takes : OuterJoinArg K V W → Type 0)
    (Asked : Type 0) (ls : List (K × V)) (rs : List (K × W)) : Type 0 where
  pub asked : Asked
  pub ascend : BothAscend (by_key cmp) ls rs
  pub can : CanAsk cmp kind Takes ls rs

module _ {K V W : Type 0} {cmp : K → K → Ordering} (total : IsTotalOrder cmp) {kind : JoinKind}
    {Takes : OuterJoinArg K V W → Type 0} where
  -- what holds of them where each may be asked
  passed : {Asked : Type 0} {xs : List (K × V)} {ys : List (K × W)} (front : List (Event (K × V) (K × W))) (ls : List (K × V))
      (rs : List (K × W)) → BothAscend (by_key cmp) ls rs
      → ((es : List (Event (K × V) (K × W))) → IsScript (by_key cmp) ls rs es → IsScript (by_key cmp) xs ys (front ++ es))
      → CanAsk cmp kind Takes xs ys → (AllByRecursion (MayAsk cmp kind Takes) front → Asked) → IsPassed cmp kind Takes Asked ls rs
  passed front ls rs ascend scripts can f =
      let some = some-script (by_key cmp) (by_key-total cmp total) ls rs ascend in
      record {
        asked = f (each-parted (MayAsk cmp kind Takes) front some.0 (can.each (front ++ some.0) (scripts some.0 some.1))).0;
        ascend = ascend;
        can = record {
          each = λ es s. (each-parted (MayAsk cmp kind Takes) front es (can.each (front ++ es) (scripts es s))).1;
        };
      }

  -- the first n of one list stand alone
  pub lefts-passed : {xs : List (K × V)} {ys : List (K × W)} (n : ℕ) → BothAscend (by_key cmp) xs ys
      → LeftBelow (by_key cmp) (take n xs) ys → CanAsk cmp kind Takes xs ys
      → IsPassed cmp kind Takes (asks_left kind ≡ true → AllByRecursion (λ p. Takes (Left p.0 p.1)) (take n xs)) (drop n xs) ys
  lefts-passed {xs} {ys} n ascend below can =
      let all : Ascends (λ x z. cmp x.0 z.0) (take n xs ++ drop n xs) = rw (take-append-drop n xs) ascend.left in
      passed (map (λ x. left_alone x) (take n xs)) (drop n xs) ys
      (record { left = ascends-append (λ x z. cmp x.0 z.0) (take n xs) (drop n xs) all; right = ascend.right })
      (λ es s. rw (take-append-drop n xs) at
      (put-lefts (by_key cmp) (by_key-total cmp total) (take n xs) (drop n xs) ys es all below s)) can
      (λ h asks. each-mapped (MayAsk cmp kind Takes) (λ p. Takes (Left p.0 p.1)) (λ x. left_alone x) (λ p may. may asks) _ h)

  pub rights-passed : {xs : List (K × V)} {ys : List (K × W)} (n : ℕ) → BothAscend (by_key cmp) xs ys
      → RightBelow (by_key cmp) (take n ys) xs → CanAsk cmp kind Takes xs ys
      → IsPassed cmp kind Takes (asks_right kind ≡ true → AllByRecursion (λ p. Takes (Right p.0 p.1)) (take n ys)) xs (drop n ys)
  rights-passed {xs} {ys} n ascend below can =
      let all : Ascends (λ y z. cmp y.0 z.0) (take n ys ++ drop n ys) = rw (take-append-drop n ys) ascend.right in
      passed (map (λ y. right_alone y) (take n ys)) xs (drop n ys)
      (record { left = ascend.left; right = ascends-append (λ y z. cmp y.0 z.0) (take n ys) (drop n ys) all })
      (λ es s. rw (take-append-drop n ys) at
      (put-rights (by_key cmp) (by_key-total cmp total) (take n ys) xs (drop n ys) es all below s)) can
      (λ h asks. each-mapped (MayAsk cmp kind Takes) (λ p. Takes (Right p.0 p.1)) (λ y. right_alone y) (λ p may. may asks) _ h)

  -- the lesser of the first two, or both
  pub heads-passed : (o : Ordering) (xs : List (K × V)) (ys : List (K × W)) → BothAscend (by_key cmp) xs ys
      → HeadsCompare (by_key cmp) xs ys o → CanAsk cmp kind Takes xs ys
      → IsPassed cmp kind Takes (asks_at kind o ≡ true → AtHeads (λ p q. Takes (question_at o p q)) xs ys)
      (drop (from_bool (is_le o)) xs) (drop (from_bool (is_ge o)) ys)
  unfolding IsStrictlySortedBy
  heads-passed o [] ys ascend e can = absurd e
  heads-passed o (x ∷ xs) [] ascend e can = absurd e
  heads-passed Less (x ∷ xs) (y ∷ ys) ascend e can =
      let p = lefts-passed 1 ascend (below-rights (by_key cmp) (by_key-total cmp total) x y ys e ascend.right.0, tt) can in
      record { asked = λ asks. (p.asked asks).0; ascend = p.ascend; can = p.can }
  heads-passed Greater (x ∷ xs) (y ∷ ys) ascend e can =
      let below = turned (by_key cmp) (by_key-total cmp total) x y e in
      let p = rights-passed 1 ascend (below-lefts (by_key cmp) (by_key-total cmp total) x y xs below ascend.left.0, tt) can in
      record { asked = λ asks. (p.asked asks).0; ascend = p.ascend; can = p.can }
  heads-passed Equal (x ∷ xs) (y ∷ ys) ascend e can =
      passed (collision x y ∷ []) xs ys (record { left = ascend.left.1; right = ascend.right.1 })
      (λ es s. put-both (by_key cmp) (by_key-total cmp total) x y xs ys es e ascend.left.0 ascend.right.0 s) can
      (λ h asks. h.0 refl)

  -- what a call leaves that passed these events
  pub can-passed : {Asked : Type 0} {ls : List (K × V)} {rs : List (K × W)} → IsPassed cmp kind Takes Asked ls rs → (R : Type 0)
      (lefts : List (K × V)) (rights : List (K × W)) (answer : Answer)
      → IfOk answer (λ go_on. go_on ≡ true → (lefts ≡ ls) × (rights ≡ rs) × R)
      → IfOk answer (λ go_on. go_on ≡ true → (lefts ≡ ls) × (rights ≡ rs)
      × (R × BothAscend (by_key cmp) lefts rights × CanAsk cmp kind Takes lefts rights))
  can-passed p R lefts rights (Ok b) h = λ e.
      let q = h e in (q.0, q.1, (q.2, rw (q.0, q.1) p.ascend, rw (q.0, q.1) p.can))
  can-passed p R lefts rights (Err x) h = tt

  -- what a call leaves that passed the lesser of the first two, or both
  pub heads-taken : {M : Type 0} (left : M → List (K × V)) (right : M → List (K × W)) (ready : M → Type 0) (o : Ordering)
      (s t : M) (answer : Answer) → BothAscend (by_key cmp) (left s) (right s) → HeadsCompare (by_key cmp) (left s) (right s) o
      → CanAsk cmp kind Takes (left s) (right s) → TakesLesser left right ready o s answer t
      → TakesLesser left right (λ s. ready s × BothAscend (by_key cmp) (left s) (right s)
      × CanAsk cmp kind Takes (left s) (right s)) o s answer t
  heads-taken left right ready o s t answer ascend e can h =
      let rest = can-passed (heads-passed o (left s) (right s) ascend e can) (ready t) (left t) (right t) answer in
      grind (arith, rest)

-- what may be asked at each key may be asked along the script
pub can-ask : {K V W : Type 0} (cmp : K → K → Ordering) (total : IsTotalOrder cmp) (kind : JoinKind)
    (Takes : OuterJoinArg K V W → Type 0) (xs : List (K × V)) (ys : List (K × W))
    → ((a : OuterJoinArg K V W) → IsAsked cmp kind left_spelling xs ys a → Takes a) → CanAsk cmp kind Takes xs ys
can-ask cmp total kind Takes xs ys h = record {
  each = λ es s. events-asked total {X = Unit {0}} kind left_spelling (λ i j e. tied_itself total i)
      (λ a r. Unit {0}) (λ a k. cmp (shown_key a) k ≡ Equal) (λ a k i e. e) Takes xs ys es s h;
}

-- both lists ascend in the order of their keys
pub both-ascend : {K V W : Type 0} (cmp : K → K → Ordering) (xs : List (K × V)) (ys : List (K × W))
    → AscendsByKey cmp xs → AscendsByKey cmp ys → BothAscend (by_key cmp) xs ys
both-ascend cmp xs ys p q = record { left = pairs-ascend cmp xs p; right = pairs-ascend cmp ys q }
