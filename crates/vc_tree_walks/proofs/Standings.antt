-- Where a key is among those of a node.
--     behind-stand        after a prefix that agrees, the rest of the key decides
--     stand-append, stand-prepended, stand-whole        pairs that all are so
--     stands-before, stands-behind, stands-own, stands-between, stands-into        what the parting of the key and the prefix tells
use Rattle.std.proofs.Common.{◌≡◌, ℕ, zero, suc, ◌<◌, ◌≤◌, [], ◌∷◌, ◌++◌, take, drop, List, length, Option, None, Some}
use Rattle.std.proofs.Common.{refl, sym, ap, ◌∙◌, true, false, subst, map, arith, append_assoc, get_or}
use Rattle.std.proofs.Math.Seq.{take-length}
use Rattle.std.proofs.lemmas.List.{map-append}
use Rattle.std.specs.Cmp.{IsTotalOrder, Equal-is, alike_right}
use Rattle.std.specs.Cmp.Lexicographic.{slice_cmp}
use Rattle.std.specs.Ordering.{is_eq, ordering_then}
use Rattle.std.specs.Prelude.{slice_get}
use Rattle.std.specs.declared.cmp.Ordering.{Ordering}
use Rattle.std.specs.declared.cmp.Ordering.TheVariants.{Less, Equal, Greater}
use Rattle.vc_tree_model.specs.Canonical.{AllAbove, AreChildren}
use Rattle.vc_tree_model.specs.Key.{same_key}
use Rattle.vc_tree_model.specs.Tree.{Tree, Forest, bare, grow, forest_nodes}
use Rattle.vc_tree_model.specs.Walk.{own_pair, prepended, walk, walk_in}
use Rattle.vc_tree_model.proofs.KeyLemmas.{none-some}
use Rattle.vc_tree_model.proofs.LookupLemmas.{above-equal}
use Rattle.vc_tree_nodes.specs.Children.{seen}
use Rattle.vc_tree_nodes.specs.Parting.{Agree, PartsAt}
use Rattle.vc_tree_nodes.specs.Places.{child_first, BeginsAt, IsGapAt}
use Rattle.vc_tree_nodes.proofs.Finding.{begins-below, found-at}
use Rattle.vc_tree_nodes.proofs.Firsts.{above-at, rest-children}
use Rattle.vc_tree_walks.specs.OwnedLeft.{skip}
use Rattle.vc_tree_walks.specs.Standing.{AllStand, first_pairs, last_pairs, Parts, IsBetween, IsOwn, IsPast, LeadsInto}
use Rattle.vc_tree_walks.proofs.Scanning.{child-agrees}

module _ {K : Type 0} (cmp : K → K → Ordering) where
  -- what decides, decides
  then-decided : (side r : Ordering) → is_eq side ≡ false → ordering_then side r ≡ side
  then-decided side r n = grind arith

  -- a key comes behind one that ends inside its prefix
  inside-greater : (p k : List K) (n : ℕ) (j : List K) → same_key cmp (take n p) (take n k) ≡ true → n ≡ length k
      → n < length p → slice_cmp cmp (p ++ j) k ≡ Greater
  inside-greater (x ∷ p) (y ∷ k) (suc n) j s e h = grind (arith, inside-greater p k n j)
  inside-greater p k n j s e h = grind arith

  -- where the prefix parts from a key, all keys behind it do so
  parted-stand : (side : Ordering) (p k : List K) (n : ℕ) (x y : K) (j : List K)
      → same_key cmp (take n p) (take n k) ≡ true → slice_get p n ≡ Some x → slice_get k n ≡ Some y → cmp x y ≡ side
      → is_eq side ≡ false → slice_cmp cmp (p ++ j) k ≡ side
  parted-stand side (a ∷ p) (b ∷ k) (suc n) x y j s d e h u = grind (arith, parted-stand side p k n x y j)
  parted-stand side p k n x y j s d e h u = grind (arith, then-decided)

  -- behind a prefix that agrees, the rest of the key decides
  pub behind-stand : (p k j : List K) → same_key cmp p (take (length p) k) ≡ true
      → slice_cmp cmp (p ++ j) k ≡ slice_cmp cmp j (drop (length p) k)
  behind-stand (x ∷ p) (y ∷ k) j s = grind (arith, behind-stand p k j)
  behind-stand p k j s = grind arith

module _ {K V : Type 0} (cmp : K → K → Ordering) (side : Ordering) where
  -- of two lists joined
  pub stand-append : (l m : List (List K × V)) (key : List K) → AllStand cmp side l key → AllStand cmp side m key
      → AllStand cmp side (l ++ m) key
  stand-append [] m key h g = g
  stand-append (b ∷ l) m key h g = (h.0, stand-append l m key h.1 g)

  -- behind a prefix, where the rests of the keys stand so to the rest of the key
  pub stand-prepended : (p key left : List K) → ((j : List K) → slice_cmp cmp (p ++ j) key ≡ slice_cmp cmp j left)
      → (l : List (List K × V)) → AllStand cmp side l left → AllStand cmp side (map (prepended p) l) key
  stand-prepended p key left f [] h = tt
  stand-prepended p key left f (b ∷ l) h = (f b.0 ∙ h.0, stand-prepended p key left f l h.1)

  -- behind a prefix, where all keys do
  pub stand-whole : (p key : List K) → ((j : List K) → slice_cmp cmp (p ++ j) key ≡ side) → (l : List (List K × V))
      → AllStand cmp side (map (prepended p) l) key
  stand-whole p key f [] = tt
  stand-whole p key f (b ∷ l) = (f b.0, stand-whole p key f l)

module _ {K V : Type 0} (cmp : K → K → Ordering) where
  -- the first trees of a list
  abbrev front : ℕ → Forest K V → Forest K V
  front zero f = bare
  front (suc n) bare = bare
  front (suc n) (grow p v kids rest) = grow p v kids (front n rest)

  -- each tree begins with a component that stands so to x
  abbrev FirstsStand : Ordering → K → Forest K V → Type 0
  FirstsStand side x bare = Unit {0}
  FirstsStand side x (grow [] v kids rest) = ⊥
  FirstsStand side x (grow (y ∷ p) v kids rest) = (cmp y x ≡ side) × FirstsStand side x rest

  -- so do their keys to a key that begins with x
  firsts-stand : (side : Ordering) → is_eq side ≡ false → (f : Forest K V) (x : K) (l : List K) → FirstsStand side x f
      → AllStand cmp side (walk_in f) (x ∷ l)
  firsts-stand side n bare x l h = tt
  firsts-stand side n (grow [] v kids rest) x l h = absurd h
  firsts-stand side n (grow (y ∷ p) v kids rest) x l h =
      stand-append cmp side (map (prepended (y ∷ p)) (own_pair v ++ walk_in kids)) (walk_in rest) (x ∷ l)
      (stand-whole cmp side (y ∷ p) (x ∷ l)
      (λ j. ap (λ s. ordering_then s (slice_cmp cmp (p ++ j) l)) h.0 ∙ then-decided cmp side _ n)
      (own_pair v ++ walk_in kids))
      (firsts-stand side n rest x l h.1)

  -- no key of children is empty
  ordered-greater : (f : Forest K V) → AreChildren cmp f → AllStand cmp Greater (walk_in f) []
  ordered-greater bare a = tt
  ordered-greater (grow [] v kids rest) a = absurd a
  ordered-greater (grow (y ∷ p) v kids rest) a =
      stand-append cmp Greater (map (prepended (y ∷ p)) (own_pair v ++ walk_in kids)) (walk_in rest) []
      (stand-whole cmp Greater (y ∷ p) [] (λ j. refl) (own_pair v ++ walk_in kids))
      (ordered-greater rest (rest-children cmp (y ∷ p) v kids rest a))

  -- the first trees are still above a component
  front-above : (n : ℕ) (f : Forest K V) (x : K) → AllAbove cmp x f → AllAbove cmp x (front n f)
  front-above (suc n) (grow (y ∷ p) v kids rest) x a = grind (arith, front-above n rest x)
  front-above n f x a = grind arith

  -- and still children
  front-children : (n : ℕ) (f : Forest K V) → AreChildren cmp f → AreChildren cmp (front n f)
  front-children (suc n) (grow (y ∷ p) v kids rest) a = grind (arith, front-children n rest, front-above)
  front-children n f a = grind arith

  skip-children : (n : ℕ) (f : Forest K V) → AreChildren cmp f → AreChildren cmp (skip n f)
  skip-children (suc n) (grow (y ∷ p) v kids rest) a = grind (arith, skip-children n rest)
  skip-children n f a = grind arith

  -- ---- a gap among children, and a child that begins with a component

  gap-lower : (f : Forest K V) (x : K) (i : ℕ) → IsGapAt cmp f x i → FirstsStand Less x (front i f)
  gap-lower f x zero g = tt
  gap-lower bare x (suc i) g = absurd g
  gap-lower (grow [] v kids rest) x (suc i) g = absurd g
  gap-lower (grow (y ∷ p) v kids rest) x (suc i) g = (g.0, gap-lower rest x i g.1)

  lower-begins : IsTotalOrder cmp → (f : Forest K V) (x z : K) (i : ℕ) → AreChildren cmp f → child_first f i ≡ Some z
      → cmp z x ≡ Equal → FirstsStand Less x (front i f)
  lower-begins o f x z zero a e h = tt
  lower-begins o bare x z (suc i) a e h = none-some z e
  lower-begins o (grow [] v kids rest) x z (suc i) a e h = absurd a
  lower-begins o (grow (y ∷ p) v kids rest) x z (suc i) a e h =
      grind (arith, lower-begins o rest x z i, above-at, alike_right)

  module _ (o : IsTotalOrder cmp) where
    above-greater : (f : Forest K V) (x : K) → AllAbove cmp x f → FirstsStand Greater x f
    above-greater (grow (y ∷ p) v kids rest) x a = grind (arith, above-greater rest x)
    above-greater f x a = grind arith

    gap-upper : (f : Forest K V) (x : K) (i : ℕ) → IsGapAt cmp f x i → FirstsStand Greater x (skip i f)
    gap-upper (grow (y ∷ p) v kids rest) x (suc i) g = gap-upper rest x i g.1
    gap-upper f x zero g = above-greater f x g
    gap-upper f x i g = grind arith

    begins-upper : (f : Forest K V) (x z : K) (i : ℕ) → AreChildren cmp f → child_first f i ≡ Some z → cmp z x ≡ Equal
        → FirstsStand Greater x (skip (suc i) f)
    begins-upper (grow (y ∷ p) v kids rest) x z (suc i) a e h = grind (arith, begins-upper rest x z i)
    begins-upper (grow (y ∷ p) v kids rest) x z zero a e h = grind (arith, above-greater, above-equal)
    begins-upper f x z i a e h = grind arith

module _ {K V T : Type 0} (cmp : K → K → Ordering) (tree : T → Tree K V) where
  seen-front : (xs : List T) (n : ℕ) → seen tree (take n xs) ≡ front cmp n (seen tree xs)
  seen-front xs zero = refl
  seen-front [] (suc n) = refl
  seen-front (t ∷ ts) (suc n) = grind (arith, seen-front ts n)

  seen-skip : (xs : List T) (n : ℕ) → seen tree (drop n xs) ≡ skip n (seen tree xs)
  seen-skip xs zero = refl
  seen-skip [] (suc n) = refl
  seen-skip (t ∷ ts) (suc n) = seen-skip ts n

  -- the pairs of two lists of trees
  walk-seen : (l m : List T) → walk_in (seen tree (l ++ m)) ≡ walk_in (seen tree l) ++ walk_in (seen tree m)
  walk-seen [] m = refl
  walk-seen (t ∷ l) m =
      ap (λ w. walk (tree t) ++ w) (walk-seen l m)
      ∙ sym (append_assoc (walk (tree t)) (walk_in (seen tree l)) (walk_in (seen tree m)))

  -- the tree at a place, and those behind it
  record IsRow (xs : List T) (i : ℕ) : Type 0 where
    pub child : T
    pub row_is : drop i xs ≡ child ∷ drop (suc i) xs
    pub at : child ≡ get_or xs i child

  row-at : (xs : List T) (i : ℕ) → i < length xs → IsRow xs i
  row-at [] i h = absurd (omega arith)
  row-at (t ∷ ts) zero h = record { child = t; row_is = refl; at = refl }
  row-at (t ∷ ts) (suc i) h =
      let below = row-at ts i (omega arith) in record { child = below.child; row_is = below.row_is; at = below.at }

  -- ---- what the parting of a key and a prefix tells

  module _ (t : Tree K V) (key : List K) where
    -- the key ends inside the prefix
    pub stands-inside : (p : List K) (n : ℕ) → p ≡ t.prefix → Agree cmp p key n → n ≡ length key → n < length p
        → AllStand cmp Greater (walk t) key
    stands-inside p n e a h l =
        subst (λ q. AllStand cmp Greater (map (prepended q) (own_pair t.value ++ walk_in t.children)) key) e
        (stand-whole cmp Greater p key (λ j. inside-greater cmp p key n j a.same h l)
        (own_pair t.value ++ walk_in t.children))

    -- the prefix goes on with another component
    pub stands-parted : (side : Ordering) → is_eq side ≡ false → (p : List K) (n : ℕ) → p ≡ t.prefix
        → PartsAt cmp side p key n → AllStand cmp side (walk t) key
    stands-parted side u p n e a =
        subst (λ q. AllStand cmp side (map (prepended q) (own_pair t.value ++ walk_in t.children)) key) e
        (stand-whole cmp side p key
        (λ j. parted-stand cmp side p key n a.old a.new j a.agree.same a.old_at a.new_at a.ordered u)
        (own_pair t.value ++ walk_in t.children))

    module _ (p left : List K) (e : p ≡ t.prefix) (a : Agree cmp p key (length p)) (d : left ≡ drop (length p) key) where
      same-prefix : same_key cmp t.prefix (take (length t.prefix) key) ≡ true
      same-prefix =
          subst (λ q. same_key cmp q (take (length q) key) ≡ true) e
          (ap (λ q. same_key cmp q (take (length p) key)) (sym (take-length p)) ∙ a.same)

      past-prefix : IsPast cmp tree t key
      past-prefix = record { long = subst (λ q. length q ≤ length key) e a.within_key; same = same-prefix }

      rest-stand : (j : List K) → slice_cmp cmp (t.prefix ++ j) key ≡ slice_cmp cmp j left
      rest-stand j =
          behind-stand cmp t.prefix key j same-prefix
          ∙ ap (slice_cmp cmp j) (ap (λ q. drop (length q) key) (sym e) ∙ sym d)

      -- nothing is left of the key behind the prefix
      pub stands-own : left ≡ [] → AreChildren cmp t.children → IsOwn cmp tree t key
      stands-own n c = record {
        tied =
            stand-prepended cmp Equal t.prefix key left rest-stand (own_pair t.value ++ [])
            (subst (AllStand cmp Equal (own_pair t.value ++ [])) (sym n) (own-tied t.value));
        greater =
            stand-prepended cmp Greater t.prefix key left rest-stand (walk_in t.children)
            (subst (AllStand cmp Greater (walk_in t.children)) (sym n) (ordered-greater cmp t.children c));
        past = past-prefix;
      }
        where
          own-tied : (v : Option V) → AllStand cmp Equal (own_pair v ++ []) []
          own-tied None = tt
          own-tied (Some v) = (refl, tt)

      module _ (xs : List T) (k : seen tree xs ≡ t.children) (c : AreChildren cmp t.children) (x : K) (l : List K)
          (b : left ≡ x ∷ l) (lower row : List T) (i : ℕ) (lo : lower ≡ take i xs) (ro : row ≡ drop i xs)
          (w : xs ≡ lower ++ row) where
        own-less : (v : Option V) → AllStand cmp Less (own_pair v) (x ∷ l)
        own-less None = tt
        own-less (Some v) = (refl, tt)

        lower-is : seen tree lower ≡ front cmp i (seen tree xs)
        lower-is = ap (seen tree) lo ∙ seen-front xs i

        parts-of : (upper : List T) → FirstsStand cmp Less x (front cmp i (seen tree xs))
            → FirstsStand cmp Greater x (seen tree upper) → Parts cmp tree t key lower upper
        parts-of upper h g = record {
          less =
              stand-prepended cmp Less t.prefix key left rest-stand (own_pair t.value ++ walk_in (seen tree lower))
              (subst (AllStand cmp Less (own_pair t.value ++ walk_in (seen tree lower))) (sym b)
              (stand-append cmp Less (own_pair t.value) (walk_in (seen tree lower)) (x ∷ l) (own-less t.value)
              (firsts-stand cmp Less refl (seen tree lower) x l (subst (FirstsStand cmp Less x) (sym lower-is) h))));
          greater =
              stand-prepended cmp Greater t.prefix key left rest-stand (walk_in (seen tree upper))
              (subst (AllStand cmp Greater (walk_in (seen tree upper))) (sym b)
              (firsts-stand cmp Greater refl (seen tree upper) x l g));
          lower_children =
              subst (AreChildren cmp) (sym lower-is) (front-children cmp i (seen tree xs) (subst (AreChildren cmp) (sym k) c));
        }

        -- the pairs of the node, where its children are two lists
        pairs-of : walk t ≡ first_pairs cmp tree t lower ++ last_pairs cmp tree t row
        pairs-of =
            ap (λ f. map (prepended t.prefix) (own_pair t.value ++ walk_in f)) (sym k ∙ ap (seen tree) w)
            ∙ ap (λ m. map (prepended t.prefix) (own_pair t.value ++ m)) (walk-seen lower row)
            ∙ ap (map (prepended t.prefix))
            (sym (append_assoc (own_pair t.value) (walk_in (seen tree lower)) (walk_in (seen tree row))))
            ∙ map-append (prepended t.prefix) (own_pair t.value ++ walk_in (seen tree lower)) (walk_in (seen tree row))

        row-children : AreChildren cmp (seen tree row)
        row-children =
            subst (AreChildren cmp) (sym (ap (seen tree) ro ∙ seen-skip xs i))
            (skip-children cmp i (seen tree xs) (subst (AreChildren cmp) (sym k) c))

        module _ (o : IsTotalOrder cmp) where
          -- no child begins as what is left
          pub stands-between : IsGapAt cmp (seen tree xs) x i → IsBetween cmp tree t key lower row
          stands-between g = record {
            parts =
                parts-of row (gap-lower cmp (seen tree xs) x i g)
                (subst (FirstsStand cmp Greater x) (sym (ap (seen tree) ro ∙ seen-skip xs i))
                (gap-upper cmp o (seen tree xs) x i g));
            row_children = row-children;
            pairs = pairs-of;
            past = past-prefix;
          }

          -- a child does
          pub stands-into : BeginsAt cmp (seen tree xs) x i → LeadsInto cmp tree t key lower row
          stands-into g =
              let r = row-at xs i (begins-below cmp tree xs x i g) in
              let upper = drop (suc i) xs in
              let row_is : row ≡ r.child ∷ upper = ro ∙ r.row_is in
              let z = (Equal-is (cmp g.here x)).0 g.equal in
              let kids = subst (AreChildren cmp) (sym k) c in
              let found = found-at cmp tree o xs i x r.child kids g r.at in
              let few = found.smaller in
              let all = ap forest_nodes k in
              record {
                child = r.child;
                upper = upper;
                row_is = row_is;
                parts =
                    parts-of upper (lower-begins cmp o (seen tree xs) x g.here i kids g.at z)
                    (subst (FirstsStand cmp Greater x) (sym (seen-skip xs (suc i)))
                    (begins-upper cmp o (seen tree xs) x g.here i kids g.at z));
                row_children = row-children;
                pairs =
                    pairs-of ∙ ap (λ m. first_pairs cmp tree t lower ++ last_pairs cmp tree t m) row_is
                    ∙ ap (λ m. first_pairs cmp tree t lower ++ m)
                    (map-append (prepended t.prefix) (walk (tree r.child)) (walk_in (seen tree upper)));
                past = past-prefix;
                agree =
                    subst (λ m. Agree cmp (tree r.child).prefix m 1)
                    (d ∙ ap (λ q. drop (length q) key) e)
                    (child-agrees cmp (seen tree xs) (tree r.child) left x l b found);
                fewer = omega (arith, few, all);
              }
