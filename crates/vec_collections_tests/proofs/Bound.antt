-- What trees bind, where values are kept as they are.
--     told, tested        numbers are equal by the test exactly where they are one
--     inserts-alike        two keys that are bound in either order, after maps that are equal
--     runs-alike        one run of commands, from maps that are equal
--     united-at        what a union makes at one key
--     removed-clone        what is removed from a clone of a tree, by a test that gives one answer for each value
--     parts-clones        the parts of a map, made of two clones of its tree
--     on-refused        what follows of a refusal
--     of-list        what holds of all that an iterator over a list gives, holds of the list
use Rattle.std.proofs.Common.{◌≡◌, ◌==◌, ℕ, Bool, List, Option, None, Some, Result, Ok, Err, IsTrue, IsFalse, OnErr, not}
use Rattle.std.proofs.Common.{refl, sym, ap, subst, ◌∙◌, rules}
use Rattle.std.proofs.lemmas.Bool.{eqb-true}
use Rattle.std.specs.Iterator.Runs.{EveryRun, ItemsAre, WholeRun}
use Rattle.std.specs.declared.cmp.Ordering.{Ordering}
use Rattle.vec_collections.specs.Combine.{IsUnionAt}
use Rattle.vec_collections.specs.Cover.{IsRemoved, IsRetained, IsSifted}
use Rattle.vec_collections.specs.Exact.{copies-exact, kept-exact, maps-exact, maps-one_source}
use Rattle.vec_collections.specs.Key.{same_key}
use Rattle.vec_collections.specs.Machine.{Command, Run}
use Rattle.vec_collections.specs.Map.{lookup, or_else, IsEqualMap, IsUpdated}
use Rattle.vec_collections.specs.PrefixLaws.{InsertsCommute, IsInOne, RemovalAndRetentionPart, RunIsFunction}
use Rattle.vec_collections.specs.Tree.{Tree}
use Rattle.vec_collections.specs.Value.{IsKept, Copies}

-- numbers that the test finds equal are one
pub told : (v w : Option ℕ) → IsKept (λ x y. IsTrue (x == y)) v w → IsKept (λ x y. x ≡ y) v w
told None None h = h
told None (Some w) h = h
told (Some v) None h = h
told (Some v) (Some w) h = eqb-true v w h

-- the test finds a number equal to itself
itself : (v w : ℕ) → v ≡ w → IsTrue (v == w)
itself v w e = search rules

-- and numbers that are one are found equal
pub tested : (v w : Option ℕ) → IsKept (λ x y. x ≡ y) v w → IsKept (λ x y. IsTrue (x == y)) v w
tested None None h = h
tested None (Some w) h = h
tested (Some v) None h = h
tested (Some v) (Some w) h = itself v w h

module _ {V : Type 0} where
  -- what is kept twice is kept
  kept-then : (u v w : Option V) → IsKept (λ x y. x ≡ y) u v → IsKept (λ x y. x ≡ y) v w → IsKept (λ x y. x ≡ y) u w
  kept-then None None w h k = k
  kept-then None (Some v) w h k = absurd h
  kept-then (Some u) None w h k = absurd h
  kept-then (Some u) (Some v) None h k = k
  kept-then (Some u) (Some v) (Some w) h k = h ∙ k

  -- a union has the left value, or else the right one
  pub united-at : (a b z : Option V) → IsUnionAt (Copies (λ x y. y ≡ x)) (λ x y. y ≡ x) a b z → z ≡ or_else a b
  united-at (Some v) b (Some w) h = ap (λ x. Some x) (sym (copies-exact (λ x y. y ≡ x) (λ x y e. e) h))
  united-at (Some v) b None h = absurd h
  united-at None (Some v) (Some w) h = ap (λ x. Some x) h
  united-at None (Some v) None h = absurd h
  united-at None None (Some w) h = absurd h
  united-at None None None h = refl

module _ {K V : Type 0} (cmp : K → K → Ordering) (is_clone : V → V → Type 0) (exact : (v w : V) → is_clone v w → w ≡ v) where
  -- a map that is updated after an equal one
  updated-after : (key : List K) (value : V) (f g h : List K → Option V) → IsEqualMap (λ x y. x ≡ y) f g
      → IsUpdated cmp (Copies is_clone) key value g h → IsUpdated cmp (λ x y. x ≡ y) key value f h
  updated-after key value f g h e u = record {
    at = u.at;
    others = λ k d. kept-then (f k) (g k) (h k) (e k) (kept-exact is_clone exact (g k) (h k) (u.others k d));
  }

  -- what is kept as a copy is kept as it is
  updated-exact : (key : List K) (value : V) (g h : List K → Option V) → IsUpdated cmp (Copies is_clone) key value g h
      → IsUpdated cmp (λ x y. x ≡ y) key value g h
  updated-exact key value g h u = record {
    at = u.at;
    others = λ k d. kept-exact is_clone exact (g k) (h k) (u.others k d);
  }

  -- two keys that are bound in either order, after maps that are equal
  pub inserts-alike : (j k : List K) (v w : V) → InsertsCommute K V cmp → IsFalse (same_key cmp j k)
      → (m n : List K → Option V) → IsEqualMap (λ x y. x ≡ y) m n → (left both right others : List K → Option V)
      → IsUpdated cmp (λ x y. x ≡ y) j v m left → IsUpdated cmp (λ x y. x ≡ y) k w left both
      → IsUpdated cmp (Copies is_clone) k w n right → IsUpdated cmp (Copies is_clone) j v right others
      → IsEqualMap (λ x y. x ≡ y) both others
  inserts-alike j k v w law two m n e left both right others a b c d =
      law j k v w m left both right others two a b (updated-after k w m n right e c) (updated-exact j v right others d)

  -- one run of commands, accepted alike, from maps that are equal
  pub runs-alike : (m n left others : List K → Option V) {cs ds : List (Command K V)} {oks more : List Bool}
      → RunIsFunction K V cmp is_clone → IsEqualMap (λ x y. x ≡ y) m n → ds ≡ cs → more ≡ oks
      → Run cmp (Copies is_clone) m cs oks left → Run cmp (Copies is_clone) n ds more others
      → IsEqualMap (λ x y. x ≡ y) left others
  runs-alike m n left others {cs} {ds} {oks} {more} law e same accepted h k =
      maps-exact is_clone exact left others
      (law m n cs oks left others (maps-one_source is_clone m n e) h
      (subst (λ xs. Run cmp (Copies is_clone) n xs oks others) same
      (subst (λ os. Run cmp (Copies is_clone) n ds os others) accepted k)))

module _ {K V W : Type 0} (cmp : K → K → Ordering) {may : W → Bool → Type 0} (answer : W → Bool)
    (one : (w : W) (b : Bool) → may w b → b ≡ answer w) (q : List K → Option W) (t : Tree K V) where
  -- at one key a verdict of the test is its one answer
  by-answer : (stays : Bool → Bool) (c : Option W) (v z : Option V) → IsSifted (λ x y. x ≡ y) may stays c v z
      → IsSifted (λ x y. x ≡ y) (λ w b. b ≡ answer w) stays c v z
  by-answer stays c None z h = h
  by-answer stays None (Some v) z h = h
  by-answer stays (Some w) (Some v) z h = (h.0, one w h.0 h.1, h.2)

  -- what is removed from a clone of a tree, by a test that gives one answer for each value
  pub removed-clone : (c left : Tree K V) → c ≡ t → IsRemoved (λ x y. x ≡ y) may q (lookup cmp c) (lookup cmp left)
      → IsRemoved (λ x y. x ≡ y) (λ w b. b ≡ answer w) q (lookup cmp t) (lookup cmp left)
  removed-clone c left same h k =
      by-answer not _ _ _ (subst (λ s. IsRemoved (λ x y. x ≡ y) may q (lookup cmp s) (lookup cmp left)) same h k)

  -- the parts of a map, made of two clones of its tree
  pub parts-clones : (c d left kept : Tree K V) → RemovalAndRetentionPart K V W (λ x y. x ≡ y) may → c ≡ t → d ≡ t
      → IsRemoved (λ x y. x ≡ y) may q (lookup cmp c) (lookup cmp left)
      → IsRetained (λ x y. x ≡ y) may q (lookup cmp d) (lookup cmp kept)
      → (k : List K) → IsInOne (λ x y. x ≡ y) (lookup cmp t k) (lookup cmp left k) (lookup cmp kept k)
  parts-clones c d left kept law same alike removed retained =
      law answer one q (lookup cmp t) (lookup cmp left) (lookup cmp kept)
      (subst (λ s. IsRemoved (λ x y. x ≡ y) may q (lookup cmp s) (lookup cmp left)) same removed)
      (subst (λ s. IsRetained (λ x y. x ≡ y) may q (lookup cmp s) (lookup cmp kept)) alike retained)

-- what follows of a refusal
pub on-refused : {T E A B : Type 0} (r : Result T E) → (A → B) → OnErr r A → OnErr r B
on-refused (Ok x) f h = h
on-refused (Err e) f h = f h

-- what holds of all that an iterator over a list gives, holds of the list
pub of-list : {S A : Type 0} {steps : S → Option A → S → Type 0} (rest : S → List A) (s : S) (xs : List A)
    → rest s ≡ xs → EveryRun steps (λ p. ItemsAre p (rest p.from)) → (P : List A → Type 0)
    → WholeRun steps s (λ p. P p.items) → P xs
of-list rest s xs e runs P w = subst P ((runs w.0 w.0.seen).4 w.2 ∙ ap rest w.1 ∙ e) w.3
