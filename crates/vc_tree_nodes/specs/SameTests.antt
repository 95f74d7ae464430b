-- The test whether two trees are the same: what it says, and that it is an equivalence, which are the laws of `==`.
--     same_tree-is        it says that the trees are the same
--     same_tree-partial, same_tree-equivalence        it is symmetric and transitive, and reflexive where that of values is
use Rattle.std.proofs.Common.{◌≡◌, Option, None, Some, Bool, true, false, ◌&&◌, true≢false, ◌↔◌, refl, sym}
use Rattle.std.specs.Cmp.{IsTotalOrder, IsPartialEquivalence, IsEquivalence, equiv, partial_equiv_from_equiv}
use Rattle.std.specs.Option.{option_eq}
use Rattle.std.specs.Prelude.{IsTrue}
use Rattle.std.specs.declared.cmp.Ordering.{Ordering}
use Rattle.vc_tree_model.specs.Value.{IsKept}
use Rattle.vc_tree_model.specs.Tree.{Tree, Forest, bare, grow}
use Rattle.vc_tree_model.specs.Same.{IsSame, IsSameIn}
use Rattle.vc_tree_model.specs.Equal.{same_tree, same_tree_in}
use Rattle.vc_tree_model.proofs.KeyLemmas.{same-itself, same-flip, same-trans}

-- two tests that hold are both true
and-true : (a b : Bool) → a ≡ true → b ≡ true → (a && b) ≡ true
and-true a b h k = rw (h, k) refl

-- and where both are true, each holds
and-both : (a b : Bool) → (a && b) ≡ true → (a ≡ true) × (b ≡ true)
and-both true b h = (refl, h)
and-both false b h = absurd (true≢false (sym h))

module _ {V : Type 0} (eq : V → V → Bool) where
  -- ---- optional values

  kept-told : (v w : Option V) → option_eq eq v w ≡ true → IsKept (λ v w. IsTrue (eq v w)) v w
  kept-told None None h = tt
  kept-told None (Some w) h = absurd (true≢false (sym h))
  kept-told (Some v) None h = absurd (true≢false (sym h))
  kept-told (Some v) (Some w) h = h

  kept-test : (v w : Option V) → IsKept (λ v w. IsTrue (eq v w)) v w → option_eq eq v w ≡ true
  kept-test None None h = refl
  kept-test None (Some w) h = absurd h
  kept-test (Some v) None h = absurd h
  kept-test (Some v) (Some w) h = h

  value-flip : IsPartialEquivalence eq → (v w : Option V) → option_eq eq v w ≡ option_eq eq w v
  value-flip p None None = refl
  value-flip p None (Some w) = refl
  value-flip p (Some v) None = refl
  value-flip p (Some v) (Some w) = p.symm v w

  value-trans : IsPartialEquivalence eq → (u v w : Option V) → option_eq eq u v ≡ true → option_eq eq v w ≡ true
      → option_eq eq u w ≡ true
  value-trans p None None None h k = refl
  value-trans p None None (Some w) h k = k
  value-trans p None (Some v) w h k = absurd (true≢false (sym h))
  value-trans p (Some u) None w h k = absurd (true≢false (sym h))
  value-trans p (Some u) (Some v) None h k = k
  value-trans p (Some u) (Some v) (Some w) h k = p.trans u v w h k

  value-itself : ((v : V) → eq v v ≡ true) → (v : Option V) → option_eq eq v v ≡ true
  value-itself r None = refl
  value-itself r (Some v) = r v

module _ {K V : Type 0} (cmp : K → K → Ordering) (eq : V → V → Bool) where
  abbrev Same : Forest K V → Forest K V → Type 0
  Same = IsSameIn cmp (λ v w. IsTrue (eq v w))

  -- ---- what the test says

  told-in : (f g : Forest K V) → same_tree_in cmp eq f g ≡ true → Same f g
  told-in bare bare h = tt
  told-in bare (grow q w more others) h = absurd (true≢false (sym h))
  told-in (grow p v kids rest) bare h = absurd (true≢false (sym h))
  told-in (grow p v kids rest) (grow q w more others) h =
      let here = and-both _ _ h in
      let prefix = and-both _ _ here.0 in
      let value = and-both _ _ prefix.1 in
      (prefix.0, kept-told eq v w value.0, told-in kids more value.1, told-in rest others here.1)

  test-in : (f g : Forest K V) → Same f g → same_tree_in cmp eq f g ≡ true
  test-in bare bare h = refl
  test-in bare (grow q w more others) h = absurd h
  test-in (grow p v kids rest) bare h = absurd h
  test-in (grow p v kids rest) (grow q w more others) h =
      and-true _ _ (and-true _ _ h.0 (and-true _ _ (kept-test eq v w h.1) (test-in kids more h.2))) (test-in rest others h.3)

  -- the test says that the trees are the same
  pub same_tree-is : (t u : Tree K V) → IsTrue (same_tree cmp eq t u) ↔ IsSame cmp (λ v w. IsTrue (eq v w)) t u
  same_tree-is t u = (told, test)
    where
      told : same_tree cmp eq t u ≡ true → IsSame cmp (λ v w. IsTrue (eq v w)) t u
      told h =
          let prefix = and-both _ _ h in
          let value = and-both _ _ prefix.1 in
          (prefix.0, kept-told eq t.value u.value value.0, told-in t.children u.children value.1)

      test : IsSame cmp (λ v w. IsTrue (eq v w)) t u → same_tree cmp eq t u ≡ true
      test h =
          and-true _ _ h.0 (and-true _ _ (kept-test eq t.value u.value h.1) (test-in t.children u.children h.2))

  -- ---- the test is an equivalence

  module _ (o : IsTotalOrder cmp) (e : IsPartialEquivalence eq) where
    flip-in : (f g : Forest K V) → same_tree_in cmp eq f g ≡ same_tree_in cmp eq g f
    flip-in bare bare = refl
    flip-in bare (grow q w more others) = refl
    flip-in (grow p v kids rest) bare = refl
    flip-in (grow p v kids rest) (grow q w more others) =
        rw (same-flip cmp o p q, value-flip eq e v w, flip-in kids more, flip-in rest others) refl

    trans-in : (f g h : Forest K V) → Same f g → Same g h → Same f h
    trans-in bare bare bare a b = tt
    trans-in bare bare (grow q w more others) a b = absurd b
    trans-in bare (grow q w more others) h a b = absurd a
    trans-in (grow p v kids rest) bare h a b = absurd a
    trans-in (grow p v kids rest) (grow q w more others) bare a b = absurd b
    trans-in (grow p v kids rest) (grow q w more others) (grow r u most last) a b = (
      same-trans cmp o p q r a.0 b.0,
      kept-told eq v u (value-trans eq e v w u (kept-test eq v w a.1) (kept-test eq w u b.1)),
      trans-in kids more most a.2 b.2,
      trans-in rest others last a.3 b.3,
    )

    -- it is symmetric and transitive
    pub same_tree-partial : IsPartialEquivalence (same_tree {K = K} {V = V} cmp eq)
    same_tree-partial = record {
      symm = λ t u. rw (same-flip cmp o t.prefix u.prefix, value-flip eq e t.value u.value, flip-in t.children u.children) refl;
      trans = λ t u w h k. (same_tree-is t w).1 (trans (t) (u) (w) ((same_tree-is t u).0 h) ((same_tree-is u w).0 k));
    }
      where
        trans : (t u w : Tree K V) → IsSame cmp (λ v w. IsTrue (eq v w)) t u → IsSame cmp (λ v w. IsTrue (eq v w)) u w
            → IsSame cmp (λ v w. IsTrue (eq v w)) t w
        trans t u w a b = (
          same-trans cmp o t.prefix u.prefix w.prefix a.0 b.0,
          kept-told eq t.value w.value (value-trans eq e t.value u.value w.value (kept-test eq t.value u.value a.1)
              (kept-test eq u.value w.value b.1)),
          trans-in t.children u.children w.children a.2 b.2,
        )

  module _ (o : IsTotalOrder cmp) (e : IsEquivalence eq) where
    itself-in : (f : Forest K V) → same_tree_in cmp eq f f ≡ true
    itself-in bare = refl
    itself-in (grow p v kids rest) =
        rw (same-itself cmp o p, value-itself eq e.refl v, itself-in kids, itself-in rest) refl

    -- and reflexive where the test of values is
    pub same_tree-equivalence : IsEquivalence (same_tree {K = K} {V = V} cmp eq)
    same_tree-equivalence =
        equiv (same_tree-partial o (partial_equiv_from_equiv e))
        (λ t. rw (same-itself cmp o t.prefix, value-itself eq e.refl t.value, itself-in t.children) refl)
