-- What a fold that notes the keys that go makes of a walk, and what is left when they go.
--     told-of_call        what a call answers may be told
--     walked-bound        a pair of the walk is bound
--     all-noted        after a fold over a list: what was told of its pair at a key, if it has one, is noted
--     walk-noted        after one over the walk of a tree
--     noted-begun, noted-next, noted-ended, next-bound        pair by pair
--     noted-none, none-bound, noted-key        no key is noted, and one
--     left-noted, none-noted        what is left of a tree without the noted keys
use Rattle.std.proofs.Common.{◌≡◌, [], ◌∷◌, ◌++◌, List, Option, None, Some, Bool, true, false, not, ◌||◌, ◌⊎◌, inl, inr}
use Rattle.std.proofs.Common.{Result, Ok, Err, ap, append_assoc, refl, sym, subst, ◌∙◌, arith, true≢false}
use Rattle.std.specs.Option.{is_some}
use Rattle.std.specs.Prelude.{◌&&◌, Contains, OnOk}
use Rattle.std.specs.Cmp.{IsTotalOrder}
use Rattle.std.specs.Cmp.Lexicographic.{slice_cmp}
use Rattle.std.specs.List.{AllByRecursion, FoldsTo}
use Rattle.std.specs.List.Sorted.{IsStrictlySortedBy}
use Rattle.std.specs.Map.{keys_of}
use Rattle.std.specs.declared.cmp.Ordering.{Ordering}
use Rattle.std.specs.declared.cmp.Ordering.TheVariants.{Less}
use Rattle.std.proofs.lemmas.List.Elements.{Contains-append_left, Contains-append_right, Contains-push}
use denote.Ref.{Bor}
use denote.Param.Members.{Shared}
use Rattle.vc_tree_model.specs.Canonical.{IsCanonical}
use Rattle.vc_tree_model.specs.Combine.{IsCombined, IsDifferenceAt}
use Rattle.vc_tree_model.specs.Key.{same_key}
use Rattle.vc_tree_model.specs.Map.{IsInserted, lookup}
use Rattle.vc_tree_model.specs.Tree.{Tree, no_tree}
use Rattle.vc_tree_model.specs.Value.{IsKept}
use Rattle.vc_tree_model.specs.Walk.{IsWalk, Lists, walk}
use Rattle.vc_tree_model.proofs.KeyLemmas.{not-before, same-flip, same-itself, same-trans}
use Rattle.vc_tree_model.proofs.LookupLemmas.{children-ordered}
use Rattle.vc_tree_model.proofs.ValueLemmas.{kept-refl}
use Rattle.vc_tree_model.proofs.Walking.{Ascend, walk-is}
use Rattle.vc_trees.specs.RetainedPairs.{GoesAsTold, IsNoted, IsRetainedAsTold, MayTell, StaysAsTold, binds}

-- nothing is noted where the test answers true
pub noted-none : {K V : Type 0} (cmp : K → K → Ordering) (may : List K → V → Bool → Type 0) (key : List K) (v : V)
    (goes : List K → Bool) (stays : Bool) → stays ≡ true → may key v stays → IsNoted cmp may key v goes goes
noted-none cmp may key v goes stays e h = (stays, h, λ k. rw e (grind arith))

-- what a call answers may be told
pub told-of_call : {K V F : Type 0} (g : Shared F (Bor (List K) × (Bor V × Unit {0})) Bool) (f : F) (key : Bor (List K))
    (value : Bor V) (stays : Bool) → g.post f (key, (value, tt)) stays → MayTell g f key.now value.now stays
told-of_call g f key value stays h = record { shown = key; value = value; shows = (refl, refl); answers = h }

-- a list has the item
abbrev Has : {X : Type 0} → List X → X → Type 0
Has [] x = ⊥
Has (y ∷ l) x = (y ≡ x) ⊎ Has l x

has-contains : {X : Type 0} (l : List X) (x : X) → Has l x → Contains l x
has-contains [] x h = absurd h
has-contains (y ∷ l) x (inl e) = subst (Contains (y ∷ l)) e (Contains-append_left (y ∷ []) l y (Contains-push [] y))
has-contains (y ∷ l) x (inr h) = Contains-append_right (y ∷ []) l x (has-contains l x h)

-- what follows where a call was not refused
pub where-done : {A E : Type 0} (r : Result A E) (P Q : Type 0) → (P → Q) → OnOk r P → OnOk r Q
where-done (Ok a) P Q f h = f h
where-done (Err e) P Q f h = tt

module _ {K : Type 0} (cmp : K → K → Ordering) (keeps : Unit {0} → Unit {0} → Type 0) where
  kept-some : (v z : Option (Unit {0})) → IsKept keeps v z → is_some z ≡ is_some v
  kept-some v z h = grind arith

  -- a key that comes into a tree
  pub key-noted : (key : List K) (t u : Tree K (Unit {0})) → IsInserted cmp keeps key tt t u → (k : List K)
      → is_some (lookup cmp u k) ≡ (is_some (lookup cmp t k) || same_key cmp key k)
  key-noted key t u i k = by (same_key cmp key k) refl
    where
      by : (b : Bool) → same_key cmp key k ≡ b → is_some (lookup cmp u k) ≡ (is_some (lookup cmp t k) || b)
      by true e = ap is_some (i.at k e) ∙ grind arith
      by false e = kept-some (lookup cmp t k) (lookup cmp u k) (i.others k e) ∙ grind arith

  -- the empty tree binds no key
  pub none-bound : (k : List K) → binds cmp no_tree k ≡ false
  none-bound [] = refl
  none-bound (x ∷ k) = refl

  -- a key is noted where it comes into the tree
  pub noted-key : {V : Type 0} (may : List K → V → Bool → Type 0) (key : List K) (v : V) (old new : Tree K (Unit {0}))
      (stays : Bool) → stays ≡ false → may key v stays → IsInserted cmp keeps key tt old new
      → IsNoted cmp may key v (binds cmp old) (binds cmp new)
  noted-key may key v old new stays e h i = (
    stays,
    h,
    λ k.
        key-noted key old new i k ∙ sym (ap (λ b. is_some (lookup cmp old k) || (not b && same_key cmp key k)) e),
  )

module _ {K V : Type 0} (cmp : K → K → Ordering) where
  -- a pair that a list has is listed at each key that equals its own
  has-lists : (l : List (List K × V)) (b : List K × V) (k : List K) → Has l b → same_key cmp b.0 k ≡ true → Lists cmp l k b.1
  has-lists [] b k h e = absurd h
  has-lists (c ∷ l) b k (inl s) e = inl (ap (λ b. same_key cmp b.0 k) s ∙ e, ap (λ b. b.1) s)
  has-lists (c ∷ l) b k (inr h) e = inr (has-lists l b k h e)

  -- a key that comes before all of a list comes before that of each pair
  before-each : (j : List K) (l : List (List K × V)) → AllByRecursion (λ k. slice_cmp cmp j k ≡ Less) (keys_of l)
      → (b : List K × V) → Has l b → slice_cmp cmp j b.0 ≡ Less
  before-each j [] h b m = absurd m
  before-each j (c ∷ l) h b (inl e) = subst (λ b. slice_cmp cmp j b.0 ≡ Less) e h.0
  before-each j (c ∷ l) h b (inr m) = before-each j l h.1 b m

  module _ (o : IsTotalOrder cmp) where
    -- a pair between two lists is listed
    middle-lists : (before after : List (List K × V)) (k : List K) (v : V) → Lists cmp (before ++ (k, v) ∷ after) k v
    middle-lists [] after k v = inl (same-itself cmp o k, refl)
    middle-lists (b ∷ before) after k v = inr (middle-lists before after k v)

    -- a pair of the walk is bound
    pub walked-bound : (t : Tree K V) → IsCanonical cmp t → (before after : List (List K × V)) (k : List K) (v : V)
        → walk t ≡ before ++ (k, v) ∷ after → lookup cmp t k ≡ Some v
    walked-bound t c before after k v e =
        ((walk-is cmp o t (children-ordered cmp t.children c.1)).lists k v).0
        (subst (λ l. Lists cmp l k v) (sym e) (middle-lists before after k v))

    module _ (may : List K → V → Bool → Type 0) where
      -- one pair is noted
      abbrev pub Notes : (List K → Bool) → List K × V → (List K → Bool) → Type 0
      Notes held b next = IsNoted cmp may b.0 b.1 held next

      -- of a list that has a pair at the key, what was told of it is noted; of any other one nothing
      abbrev Noted : List (List K × V) → List K → (List K → Bool) → (List K → Bool) → Type 0
      Noted l k held last =
          ((b : List K × V) × Has l b × (same_key cmp b.0 k ≡ true) × (stays : Bool) × may b.0 b.1 stays
          × (last k ≡ (held k || not stays)))
          ⊎ (((v : V) → Lists cmp l k v → ⊥) × (last k ≡ held k))

      noted-here : (b : List K × V) (k : List K) (held next : List K → Bool) → same_key cmp b.0 k ≡ true → (s : Notes held b next)
          → next k ≡ (held k || not s.0)
      noted-here b k held next e s = s.2 k ∙ grind arith

      noted-beside : (b : List K × V) (k : List K) (held next : List K → Bool) → same_key cmp b.0 k ≡ false → Notes held b next
          → next k ≡ held k
      noted-beside b k held next e s = s.2 k ∙ grind arith

      -- one pair before a list
      noted-on : (b : List K × V) (l : List (List K × V)) (k : List K) (held next last : List K → Bool)
          → AllByRecursion (λ j. slice_cmp cmp b.0 j ≡ Less) (keys_of l) → Notes held b next → Noted l k next last
          → (x : Bool) → same_key cmp b.0 k ≡ x → Noted (b ∷ l) k held last
      noted-on b l k held next last a s (inl h) true e =
          absurd
          (not-before cmp b.0 h.0.0 (before-each b.0 l a h.0 h.1)
          (same-trans cmp o b.0 k h.0.0 e (same-flip cmp o k h.0.0 ∙ h.2)))
      noted-on b l k held next last a s (inr h) true e =
          let told = noted-here b k held next e s in
          inl (b, inl refl, e, s.0, s.1, h.1 ∙ told)
      noted-on b l k held next last a s (inl h) false e =
          let told = noted-beside b k held next e s in
          inl (h.0, inr h.1, h.2, h.3, h.4, h.5 ∙ ap (λ x. x || not h.3) told)
      noted-on b l k held next last a s (inr h) false e =
          let told = noted-beside b k held next e s in
          inr (unlisted, h.1 ∙ told)
        where
          unlisted : (v : V) → Lists cmp (b ∷ l) k v → ⊥
          unlisted v (inl m) = true≢false (sym m.0 ∙ e)
          unlisted v (inr m) = h.0 v m

      -- after a fold over a list
      all-noted : (l : List (List K × V)) (held last : List K → Bool) (k : List K) → Ascend cmp l → FoldsTo Notes held l last
          → Noted l k held last
      unfolding IsStrictlySortedBy
      all-noted [] held last k a s = inr (λ v h. h, ap (λ goes. goes k) (sym s))
      all-noted (b ∷ l) held last k a s =
          noted-on b l k held s.0 last a.0 s.1 (all-noted l s.0 last k a.1 s.2) (same_key cmp b.0 k) refl

      -- after one over the walk of a tree
      pub walk-noted : (t : Tree K V) (last : List K → Bool) → IsCanonical cmp t → FoldsTo Notes (λ k. false) (walk t) last
          → (k : List K) → GoesAsTold cmp may t k (lookup cmp t k) (last k)
      walk-noted t last c s k = by (lookup cmp t k) refl (all-noted (walk t) (λ k. false) last k w.ascends s)
        where
          w : IsWalk cmp (lookup cmp t) (walk t)
          w = walk-is cmp o t (children-ordered cmp t.children c.1)

          by : (v : Option V) → lookup cmp t k ≡ v → Noted (walk t) k (λ k. false) last → GoesAsTold cmp may t k v (last k)
          by None e (inl h) = absurd (cc ((w.lists k h.0.1).0 (has-lists (walk t) h.0 k h.1 h.2)))
          by None e (inr h) = h.1
          by (Some v) e (inr h) = absurd (h.0 v ((w.lists k v).1 e))
          by (Some v) e (inl h) =
              let is = (w.lists k h.0.1).0 (has-lists (walk t) h.0 k h.1 h.2) in
              let same : h.0.1 ≡ v = cc in (
                h.3,
                record {
                  spelled = h.0.0;
                  same = h.2;
                  walked = subst (λ u. Contains (walk t) (h.0.0, u)) same (has-contains (walk t) h.0 h.1);
                  told = subst (λ u. may h.0.0 u h.3) same h.4;
                },
                h.5,
              )

      -- the same of what is seen as the keys, where steps note each pair and the fold succeeds

      -- ---- pair by pair

      module _ (t : Tree K V) where
        -- what is noted of the pairs before, and then of those that are left, is noted of all
        pub record IsNotedUpTo (left : List (List K × V)) (held : List K → Bool) : Type 0 where
          pub before : List (List K × V)
          pub parts : walk t ≡ before ++ left
          pub all : (last : List K → Bool) → FoldsTo Notes held left last → FoldsTo Notes (λ k. false) (walk t) last

        pub noted-begun : (left : List (List K × V)) (held : List K → Bool) → left ≡ walk t → ((k : List K) → held k ≡ false)
            → IsNotedUpTo left held
        noted-begun left held e n = record {
          before = [];
          parts = sym e;
          all = λ last s.
              subst (λ held. FoldsTo Notes held (walk t) last) (λ i k. n k i) (subst (λ l. FoldsTo Notes held l last) e s);
        }

        pub noted-next : (left rest : List (List K × V)) (b : List K × V) (held next : List K → Bool) → IsNotedUpTo left held
            → left ≡ b ∷ rest → Notes held b next → IsNotedUpTo rest next
        noted-next left rest b held next n e h = record {
          before = n.before ++ b ∷ [];
          parts = n.parts ∙ ap (λ l. n.before ++ l) e ∙ sym (append_assoc n.before (b ∷ []) rest);
          all = λ last s. n.all last (subst (λ l. FoldsTo Notes held l last) (sym e) (next, h, s));
        }

        pub noted-ended : IsCanonical cmp t → (left : List (List K × V)) (held : List K → Bool) → IsNotedUpTo left held → left ≡ []
            → (k : List K) → GoesAsTold cmp may t k (lookup cmp t k) (held k)
        noted-ended c left held n e =
            walk-noted t held c (n.all held (subst (λ l. FoldsTo Notes held l held) (sym e) refl))

        -- a pair that is next is bound
        pub next-bound : IsCanonical cmp t → (left rest : List (List K × V)) (b : List K × V) (held : List K → Bool)
            → IsNotedUpTo left held → left ≡ b ∷ rest → lookup cmp t b.0 ≡ Some b.1
        next-bound c left rest b held n e =
            walked-bound t c n.before rest b.0 b.1 (n.parts ∙ ap (λ l. n.before ++ l) e)

  module _ (may : List K → V → Bool → Type 0) (keeps : V → V → Type 0) (t : Tree K V) where
    -- at one key
    left-noted_at : (k : List K) (v z : Option V) (w : Option (Unit {0})) → GoesAsTold cmp may t k v (is_some w)
        → IsDifferenceAt keeps v w z → StaysAsTold cmp may keeps t k v z
    left-noted_at k None z None h d = none-kept z d
      where
        none-kept : (z : Option V) → IsKept keeps None z → z ≡ None
        none-kept z h = grind arith
    left-noted_at k None z (Some w) h d = d
    left-noted_at k (Some v) z None (true, told, e) d = (true, told, d)
    left-noted_at k (Some v) z (Some w) (false, told, e) d = (false, told, d)
    left-noted_at k (Some v) z None (false, told, e) d = absurd (true≢false (sym e))
    left-noted_at k (Some v) z (Some w) (true, told, e) d = absurd (true≢false e)

    -- what is left where the keys that go are taken out
    pub left-noted : (going : Tree K (Unit {0})) (u : Tree K V)
        → ((k : List K) → GoesAsTold cmp may t k (lookup cmp t k) (binds cmp going k))
        → IsCombined cmp (IsDifferenceAt keeps) t going u → IsRetainedAsTold cmp may keeps t u
    left-noted going u h d k = left-noted_at k (lookup cmp t k) (lookup cmp u k) (lookup cmp going k) (h k) (d k)

    -- where no key goes, all stay
    pub none-noted : ((v : V) → keeps v v) → (going : Tree K (Unit {0})) → ((k : List K) → lookup cmp going k ≡ None)
        → ((k : List K) → GoesAsTold cmp may t k (lookup cmp t k) (binds cmp going k)) → IsRetainedAsTold cmp may keeps t t
    none-noted r going e h k =
        left-noted_at k (lookup cmp t k) (lookup cmp t k) None
        (subst (λ o. GoesAsTold cmp may t k (lookup cmp t k) (is_some o)) (e k) (h k)) (kept-refl keeps r (lookup cmp t k))
