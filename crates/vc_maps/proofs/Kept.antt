-- Joins in place: under which keys a state answers, which clones of keys it has, and what is at a place of its list.
use Rattle.std.proofs.Common.{append_assoc, ◌≡◌, ℕ, zero, suc, ◌<◌, ◌≤◌, ◌+◌, ◌-◌, Bool, true, false, List, [], ◌∷◌, ◌++◌}
use Rattle.std.proofs.Common.{length, length-drop, take, drop, drop-cons, slice_range, get_or, Option, sym, arith}
use Rattle.std.specs.Bool.{MatchBool}
use Rattle.std.specs.Cmp.{IsTotalOrder, tied_itself}
use Rattle.std.specs.List.{AllByRecursion, AllZip}
use Rattle.std.specs.Option.{MatchOption}
use Rattle.std.specs.declared.cmp.Ordering.{Ordering}
use Rattle.std.specs.declared.cmp.Ordering.TheVariants.{Equal}
use Rattle.vc_joins.specs.declared.question.OuterJoinArg.{OuterJoinArg}
use Rattle.vc_joins.specs.declared.question.OuterJoinArg.TheVariants.{Right}
use Rattle.vc_joins.specs.declared.question.JoinKind.{JoinKind}
use Rattle.vc_joins.specs.Join.{OldKey}
use Rattle.vc_joins.specs.Question.{asks, asks_right, shown_key}
use Rattle.vc_merge.specs.Clones.{ClonesAreEqual}
use Rattle.vc_merge.proofs.Clones.{clone-equal}
use Rattle.vc_merge.proofs.ListLemmas.{each-at}
use Rattle.std.proofs.lemmas.List.{drop-take, get_or-take, length-take, length-take-le, take_more}
use Rattle.std.proofs.lemmas.Slice.Zip.{AllZip-long}
use Rattle.vc_merge.specs.Gathering.{Appends}
use Rattle.vc_maps.specs.Keeping.{MayAskWith, HaveKeys, ClonesKeys}

module _ {K V W : Type 0} where
  -- the key of an answer is equal to the one that was shown
  pub old-equal : (cmp : K → K → Ordering) → IsTotalOrder cmp → (is_clone : K → K → Type 0) (kind : JoinKind)
      → (asks_right kind ≡ true → ClonesAreEqual cmp is_clone)
      → (a : OuterJoinArg K V W) (k : K) → asks kind a ≡ true → OldKey is_clone a k → cmp (shown_key a) k ≡ Equal
  old-equal cmp total is_clone kind clones a k i h = grind (arith, tied_itself total, clone-equal cmp total is_clone)

  module _ {X : Type 0} (Keeps : OuterJoinArg K V W → K → Type 0) where
    -- an answer under a key that may be kept
    pub under-key : (a : OuterJoinArg K V W) (key : K) (r : Option X) (mid new : List (K × X)) → Keeps a key
        → MatchOption r (new ≡ mid) (λ x. new ≡ mid ++ (key, x) ∷ [])
        → MatchOption r (new ≡ mid) (λ x. (k : K) × Keeps a k × (new ≡ mid ++ (k, x) ∷ []))
    under-key a key r mid new h e = grind arith

-- the next element of a list of which i are gone
pub next-is : {X : Type 0} (all rest : List X) (i : ℕ) (x : X) → rest ≡ drop i all → rest ≡ x ∷ drop 1 rest
    → (i < length all) × (x ≡ get_or all i x)
next-is all rest i x e f = grind (arith, drop-cons all i x, length-drop i all)

-- what holds of each of the first n holds of the next one
pub each-next : {X : Type 0} (P : X → Type 0) (all : List X) (n i : ℕ) (x : X) → AllByRecursion P (take n all)
    → i < n → i < length all → x ≡ get_or all i x → P x
each-next P all n i x p h k e =
    rw (get_or-take n all i x h, ← e) at (each-at P (take n all) i x (omega (arith, length-take n all)) p)

module _ {X Y : Type 0} (R : X → Y → Type 0) where
  zip-parted : (n : ℕ) (xs : List X) (ys : List Y) → AllZip R xs ys
      → AllZip R (take n xs) (take n ys) × AllZip R (drop n xs) (drop n ys)
  zip-parted zero xs ys p = (tt, p)
  zip-parted (suc n) [] [] p = (p, p)
  zip-parted (suc n) (x ∷ xs) (y ∷ ys) p = let rest = zip-parted n xs ys p.1 in ((p.0, rest.0), rest.1)
  zip-parted (suc n) xs ys p = absurd p

  -- what goes together with the element at a place, where the others go together with the first n of ys
  pub zip-at : (xs : List X) (n : ℕ) (ys rest : List Y) (i : ℕ) (x : X) (y : Y) → AllZip R xs (take n ys)
      → i < length xs → x ≡ get_or xs i x → drop i ys ≡ y ∷ rest → R x y
  zip-at xs n ys rest i x y p h e d =
      let long = AllZip-long R xs (take n ys) p in
      grind (arith, (zip-parted i xs (take n ys) p).1, drop-cons xs i x, drop-take i (n - i) ys, long, length-take n ys)

  -- these are enough
  pub zip-within : (xs : List X) (n : ℕ) (ys : List Y) → AllZip R xs (take n ys) → length xs ≤ length ys
  zip-within xs n ys p = omega (arith, AllZip-long R xs (take n ys) p, length-take n ys)

  -- one more pair of lists that go together
  pub zip-push : (xs : List X) (ys : List Y) (x : X) (y : Y) → AllZip R xs ys → R x y → AllZip R (xs ++ x ∷ []) (ys ++ y ∷ [])
  zip-push [] [] x y p r = (r, tt)
  zip-push (z ∷ xs) (w ∷ ys) x y p r = (p.0, zip-push xs ys x y p.1 r)
  zip-push xs ys x y p r = absurd p

-- one more key was cloned
pub keys-more : {K V W : Type 0} (is_clone : K → K → Type 0) (ps : List (K × W)) (i : ℕ) {old mid new : List (K × V)}
    (p : K × W) (q : K × V) → i < length ps → p ≡ get_or ps i p → is_clone p.0 q.0
    → new ≡ mid ++ q ∷ [] → ClonesKeys is_clone (take i ps) old mid → ClonesKeys is_clone (take (i + 1) ps) old new
keys-more is_clone ps i {old} {mid} {new} p q h e c f k = record {
  added = k.added ++ q ∷ [];
  have = rw (take_more ps i p h, ← e) (zip-push (λ p q. is_clone p.0 q.0) (take i ps) k.added p q k.have c);
  items = cc (append_assoc old k.added (q ∷ []));
}

module _ {K V W : Type 0} (is_clone : K → K → Type 0) where
  none-of : (ps : List (K × W)) (qs : List (K × V)) (P : K × W → Type 0)
      → AllByRecursion (λ p. MayAskWith {V = V} false (Right p.0 p.1) × P p) ps → HaveKeys is_clone ps (take (length ps) qs)
  none-of [] qs P h = tt
  none-of (p ∷ ps) qs P h = grind arith

  -- the first n pairs of the right have their clones, if any of them may be asked at
  pub enough-keys : (right : Bool) (ps : List (K × W)) (qs : List (K × V)) (P : K × W → Type 0) (n : ℕ) → n
      ≤ length ps → MatchBool right (HaveKeys is_clone ps qs) (Unit {0})
      → AllByRecursion (λ p. MayAskWith {V = V} right (Right p.0 p.1) × P p) (take n ps)
      → HaveKeys is_clone (take n ps) (take (length (take n ps)) qs)
  enough-keys true ps qs P n h k p =
      rw (length-take-le n ps h) (zip-parted (λ p q. is_clone p.0 q.0) n ps qs k).0
  enough-keys false ps qs P n h k p = none-of (take n ps) qs P p

  -- what a state has once n pairs of the right were passed
  pub keys-passed : (right : Bool) (ps ps' : List (K × W)) (qs qs' : List (K × V)) (n : ℕ)
      → MatchBool right (HaveKeys is_clone ps qs) (Unit {0}) → ps' ≡ drop n ps → (right ≡ true → qs' ≡ drop n qs)
      → MatchBool right (HaveKeys is_clone ps' qs') (Unit {0})
  keys-passed right ps ps' qs qs' n k e f = grind (arith, zip-parted (λ p q. is_clone p.0 q.0) n ps qs)

  -- n of the right are passed, so their clones can be
  pub keys-within : (right : Bool) (ps : List (K × W)) (qs : List (K × V)) (n : ℕ) → right ≡ true → n ≤ length ps
      → MatchBool right (HaveKeys is_clone ps qs) (Unit {0}) → n ≤ length qs
  keys-within right ps qs n e h k = grind (arith, AllZip-long (λ p q. is_clone p.0 q.0) ps qs)

-- what was added to a list, read where its parts stand
pub appends-in : {X Z : Type 0} {gives : X → List Z → Type 0} {xs xs' : List X} {old old' new new' : List Z} → xs' ≡ xs
    → old' ≡ old → new ≡ new' → Appends gives xs' old' new' → Appends gives xs old new
appends-in {gives} {xs} {xs'} {old} {old'} {new} {new'} e f h p = rw (sym e, sym f, h) p

-- what a part from the beginning has
pub front-part : {X : Type 0} (xs : List X) (e : ℕ) → slice_range xs 0 e ≡ take e xs
front-part xs e = grind arith
