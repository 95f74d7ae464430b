-- The pair next to a key, as the way down finds it.
--     kept-pair, kept-joined        pairs of equal keys, with equal fronts before them
--     first-more, last-more        the first or the last pair of two lists
--     near-node, near-parts        what is found at a node, of what was found above it
--     nearest-first, nearest-last        what is found of its children
--     side-same        equal keys on one side of a map
--     least-near, greatest-near, none-near        the pair that is found has the least, or the greatest key on its side
use Rattle.std.proofs.Common.{◌≡◌, [], ◌∷◌, ◌++◌, List, length, Option, None, Some, refl, sym, ap, ◌∙◌, true}
use Rattle.std.proofs.Common.{◌-◌, cond, map, append_assoc, arith, inl, subst}
use Rattle.std.specs.Cmp.{IsTotalOrder, alike_right}
use Rattle.std.specs.Cmp.Lexicographic.{slice_cmp, lists_total}
use Rattle.std.specs.Option.{option_map}
use Rattle.std.specs.Prelude.{Err, IfOk, MatchOption, Ok, Result, slice_get}
use Rattle.std.specs.Ordering.{is_gt, is_lt}
use Rattle.std.specs.declared.cmp.Ordering.{Ordering}
use Rattle.vc_tree_model.specs.Canonical.{AreChildren}
use Rattle.vc_tree_model.specs.Key.{same_key}
use Rattle.vc_tree_model.specs.Map.{lookup, or_else, or_else-none}
use Rattle.vc_tree_model.specs.Tree.{Tree}
use Rattle.vc_tree_model.specs.Value.{IsKept}
use Rattle.vc_tree_model.specs.Walk.{IsSamePair, IsWalk, own_pair, prepended, walk, walk_in}
use Rattle.vc_tree_model.proofs.KeyLemmas.{none-some, same-flip, same-itself}
use Rattle.vc_tree_nodes.specs.Children.{seen}
use Rattle.vc_tree_model.proofs.LookupLemmas.{lookup-same}
use Rattle.vc_tree_walks.specs.Beside.{near_pairs, pairs_beside, side_of}
use Rattle.vc_tree_walks.specs.Ends.{IsGreatestPair, IsLeastPair}
use Rattle.vc_tree_walks.specs.Standing.{first_pairs, last_pairs}
use Rattle.vc_tree_walks.specs.Towards.{end_of}
use Rattle.vc_tree_walks.specs.declared.ends.End.{End}
use Rattle.vc_tree_walks.specs.declared.ends.End.TheVariants.{First, Last}
use Rattle.vc_tree_walks.proofs.EndPairs.{IsBegun, ends-with, greatest-of, head-solid, last-get, last-map, last-some}
use Rattle.vc_tree_walks.proofs.EndPairs.{last_of, least-of, walk-begun}
use Rattle.vc_tree_walks.proofs.EndPairs.{prepended-twice, tied}
use Rattle.vc_tree_walks.proofs.Going.{same-joined}

module _ {K V : Type 0} where
  -- the first pair of two lists is that of the first of them, if it has some
  first-joined : (l m : List (List K × V)) → slice_get (l ++ m) 0 ≡ or_else (slice_get l 0) (slice_get m 0)
  first-joined [] m = refl
  first-joined (b ∷ l) m = refl

  last-first : (b : List K × V) (l : List (List K × V)) (m : Option (List K × V)) → or_else (last_of (b ∷ l)) m ≡ last_of (b ∷ l)
  last-first b [] m = refl
  last-first b (c ∷ l) m = last-first c l m

  -- the last pair is that of the second
  last-joined : (l m : List (List K × V)) → last_of (l ++ m) ≡ or_else (last_of m) (last_of l)
  last-joined [] m = sym (or_else-none (last_of m))
  last-joined (a ∷ []) [] = refl
  last-joined (a ∷ []) (b ∷ m) = sym (last-first b m (Some a))
  last-joined (a ∷ b ∷ l) m = last-joined (b ∷ l) m

  end-map : (end : End) (front : List K) (l : List (List K × V))
      → end_of end (map (prepended front) l) ≡ option_map (prepended front) (end_of end l)
  end-map First front [] = refl
  end-map First front (b ∷ l) = refl
  end-map Last front l =
      last-get (map (prepended front) l) ∙ last-map (prepended front) l ∙ ap (option_map (prepended front)) (sym (last-get l))

  -- the pair at an end, where more pairs stand before it
  end-joined : (end : End) (lower l m upper : List (List K × V))
      → end_of end (pairs_beside end (lower ++ l) (m ++ upper))
      ≡ or_else (end_of end (pairs_beside end l m)) (end_of end (pairs_beside end lower upper))
  end-joined First lower l m upper = first-joined m upper
  end-joined Last lower l m upper =
      last-get (lower ++ l) ∙ last-joined lower l ∙ ap (λ e. or_else e (last_of lower)) (sym (last-get l))
      ∙ ap (or_else (end_of Last l)) (sym (last-get lower))

  one-list : (end : End) (l : List (List K × V)) → pairs_beside end l l ≡ l
  one-list First l = refl
  one-list Last l = refl

  -- a list that has a first pair has one at each end
  end-begun : (end : End) (l : List (List K × V)) → IsBegun l → (m : Option (List K × V))
      → or_else (end_of end l) m ≡ end_of end l
  end-begun First l b m = rw b.is refl
  end-begun Last l b m = by (end_of Last l) refl
    where
      by : (e : Option (List K × V)) → end_of Last l ≡ e → or_else e m ≡ e
      by None e = last-some b.first b.others (ap last_of (sym b.is) ∙ sym (last-get l) ∙ e)
      by (Some x) e = refl

  map-id : (p : Option (List K × V)) → option_map (λ b. b) p ≡ p
  map-id None = refl
  map-id (Some b) = refl

module _ {K V : Type 0} (cmp : K → K → Ordering) (o : IsTotalOrder cmp) where
  -- a pair with equal fronts before its key
  kept-pair : (a b : List K) → same_key cmp a b ≡ true → (p : Option (List K × V))
      → IsKept (IsSamePair cmp) (option_map (prepended a) p) (option_map (prepended b) p)
  kept-pair a b h None = tt
  kept-pair a b h (Some x) = (same-joined cmp a b x.0 x.0 h (same-itself cmp o x.0), refl)

  -- what is found first, and else what was found above
  kept-or : (x y a b : Option (List K × V)) → IsKept (IsSamePair cmp) x y → IsKept (IsSamePair cmp) a b
      → IsKept (IsSamePair cmp) (or_else x a) (or_else y b)
  kept-or x y a b h g = grind arith

  module _ {T : Type 0} (tree : T → Tree K V) (end : End) (node : Tree K V) (front : List K)
      (lower upper : List (List K × V)) where
    -- all keys of the node are on that side
    pub near-node : (spelled : List K) → same_key cmp front spelled ≡ true → IsBegun (walk node)
        → IsKept (IsSamePair cmp)
        (end_of end (pairs_beside end (lower ++ map (prepended front) (walk node)) (map (prepended front) (walk node) ++ upper)))
        (option_map (prepended spelled) (end_of end (walk node)))
    near-node spelled h b =
        let here = map (prepended front) (walk node) in
        let begun : IsBegun here = record {
          first = prepended front b.first;
          others = map (prepended front) b.others;
          is = ap (map (prepended front)) b.is;
        } in
        subst (λ e. IsKept (IsSamePair cmp) e (option_map (prepended spelled) (end_of end (walk node))))
        (sym
        (end-joined end lower here here upper
        ∙ ap (λ l. or_else (end_of end l) (end_of end (pairs_beside end lower upper))) (one-list end here)
        ∙ end-begun end here begun (end_of end (pairs_beside end lower upper)) ∙ end-map end front (walk node)))
        (kept-pair front spelled h (end_of end (walk node)))

    -- those of the node and of some of its children are
    pub near-parts : (spelled : List K) → same_key cmp (front ++ node.prefix) spelled ≡ true → (first last : List T)
        → (above : Option (List K × V)) → IsKept (IsSamePair cmp) (end_of end (pairs_beside end lower upper)) above
        → IsKept (IsSamePair cmp)
        (end_of end
        (pairs_beside end (lower ++ map (prepended front) (first_pairs cmp tree node first))
        (map (prepended front) (last_pairs cmp tree node last) ++ upper)))
        (or_else (option_map (prepended spelled) (end_of end (near_pairs tree end node first last))) above)
    near-parts spelled h first last above n =
        let p = node.prefix in
        let near = near_pairs tree end node first last in
        subst (λ e. IsKept (IsSamePair cmp) e (or_else (option_map (prepended spelled) (end_of end near)) above))
        (sym
        (end-joined end lower (map (prepended front) (first_pairs cmp tree node first))
        (map (prepended front) (last_pairs cmp tree node last)) upper
        ∙ ap (λ e. or_else e (end_of end (pairs_beside end lower upper)))
        (ap (end_of end) (both end) ∙ end-map end front (map (prepended p) near)
        ∙ ap (option_map (prepended front)) (end-map end p near) ∙ prepended-twice end front p (end_of end near))))
        (kept-or (option_map (prepended (front ++ p)) (end_of end near)) (option_map (prepended spelled) (end_of end near))
        (end_of end (pairs_beside end lower upper)) above (kept-pair (front ++ p) spelled h (end_of end near)) n)
      where
        both : (end : End)
            → pairs_beside end (map (prepended front) (first_pairs cmp tree node first))
            (map (prepended front) (last_pairs cmp tree node last))
            ≡ map (prepended front) (map (prepended node.prefix) (near_pairs tree end node first last))
        both First = refl
        both Last = refl

  -- ---- the pair that was found

  -- a side of a map has one value at equal keys
  pub side-same : (end : End) (t : Tree K V) (key j k : List K) → same_key cmp j k ≡ true
      → side_of cmp end (lookup cmp t) key j ≡ side_of cmp end (lookup cmp t) key k
  side-same First t key j k h =
      ap (λ s. cond (is_gt s) (lookup cmp t j) None) ((lists_total o).congr j k key (tied cmp j k h))
      ∙ ap (λ v. cond (is_gt (slice_cmp cmp k key)) v None) (lookup-same cmp o t j k h)
  side-same Last t key j k h =
      ap (λ s. cond (is_lt s) (lookup cmp t j) None) ((lists_total o).congr j k key (tied cmp j k h))
      ∙ ap (λ v. cond (is_lt (slice_cmp cmp k key)) v None) (lookup-same cmp o t j k h)

  module _ (f : List K → Option V) (same : (j k : List K) → same_key cmp j k ≡ true → f j ≡ f k) where
    -- an equal key, with the same value
    moved-least : (b c : List K × V) → IsSamePair cmp b c → IsLeastPair cmp f b → IsLeastPair cmp f c
    moved-least b c h l = record {
      bound = same c.0 b.0 (same-flip cmp o c.0 b.0 ∙ h.0) ∙ l.bound ∙ ap Some h.1;
      least = λ k s e. l.least k s (alike_right (lists_total o) b.0 c.0 k (tied cmp b.0 c.0 h.0) ∙ e);
    }

    moved-greatest : (b c : List K × V) → IsSamePair cmp b c → IsGreatestPair cmp f b → IsGreatestPair cmp f c
    moved-greatest b c h l = record {
      bound = same c.0 b.0 (same-flip cmp o c.0 b.0 ∙ h.0) ∙ l.bound ∙ ap Some h.1;
      greatest = λ k s e. l.greatest k s (alike_right (lists_total o) b.0 c.0 k (tied cmp b.0 c.0 h.0) ∙ e);
    }

    -- what is said of the pair at the end is said of the one that was found
    moved : {X E : Type 0} (view : X → List K × V) (P : Type 0) (Q : List K × V → Type 0)
        → ((b c : List K × V) → IsSamePair cmp b c → Q b → Q c) → (p s : Option (List K × V))
        → IsKept (IsSamePair cmp) p s → MatchOption p P Q → (r : Result (Option X) E)
        → IfOk r (λ found. option_map view found ≡ s) → IfOk r (λ found. MatchOption found P (λ x. Q (view x)))
    moved view P Q q p s k m (Err e) h = tt
    moved view P Q q None None k m (Ok None) h = m
    moved view P Q q (Some b) None k m r h = absurd k
    moved view P Q q None (Some c) k m r h = absurd k
    moved view P Q q None None k m (Ok (Some x)) h = none-some (view x) (sym h)
    moved view P Q q (Some b) (Some c) k m (Ok None) h = none-some c h
    moved view P Q q (Some b) (Some c) k m (Ok (Some x)) h = let e : c ≡ view x = cc in subst Q e (q b c k m)

    module _ (l : List (List K × V)) (w : IsWalk cmp f l) where
      module _ {X E : Type 0} (view : X → List K × V) (s : Option (List K × V)) (r : Result (Option X) E)
          (h : IfOk r (λ found. option_map view found ≡ s)) where
        pub least-near : IsKept (IsSamePair cmp) (end_of First l) s
            → IfOk r (λ found. MatchOption found ((k : List K) → f k ≡ None) (λ x. IsLeastPair cmp f (view x)))
        least-near k =
            moved view ((k : List K) → f k ≡ None) (IsLeastPair cmp f) moved-least (end_of First l) s k
            (least-of cmp o f (λ b. b) l w (end_of First l) (map-id (end_of First l))) r h

        pub greatest-near : IsKept (IsSamePair cmp) (end_of Last l) s
            → IfOk r (λ found. MatchOption found ((k : List K) → f k ≡ None) (λ x. IsGreatestPair cmp f (view x)))
        greatest-near k =
            moved view ((k : List K) → f k ≡ None) (IsGreatestPair cmp f) moved-greatest (end_of Last l) s k
            (greatest-of cmp o f (λ b. b) l w (end_of Last l) (map-id (end_of Last l))) r h

      -- where there is none, none is found
      pub none-near : (end : End) (s : Option (List K × V)) → IsKept (IsSamePair cmp) (end_of end l) s
          → ((k : List K) → f k ≡ None) → s ≡ None
      none-near end s k n = by l w refl
        where
          by : (m : List (List K × V)) → IsWalk cmp f m → l ≡ m → s ≡ None
          by (b ∷ m) v e = none-some b.1 (sym (n b.0) ∙ (v.lists b.0 b.1).0 (inl (same-itself cmp o b.0, refl)))
          by [] v e = none s (subst (λ p. IsKept (IsSamePair cmp) p s) (ap (end_of end) e ∙ empty end) k)
            where
              empty : (end : End) → end_of {A = List K × V} end [] ≡ None
              empty First = refl
              empty Last = refl

              none : (s : Option (List K × V)) → IsKept (IsSamePair cmp) None s → s ≡ None
              none None k = refl
              none (Some c) k = absurd k

-- ---- the children nearest to a key

module _ {K V T : Type 0} (cmp : K → K → Ordering) (o : IsTotalOrder cmp) (tree : T → Tree K V) where
  -- of some children the first pair is that of the first
  pub nearest-first : (xs : List T) (c : T) → AreChildren cmp (seen tree xs) → slice_get xs 0 ≡ Some c → (front : List K)
      → (m : Option (List K × V))
      → option_map (prepended front) (end_of First (walk (tree c)))
      ≡ or_else (option_map (prepended front) (end_of First (walk_in (seen tree xs)))) m
  nearest-first [] c a e front m = none-some c e
  nearest-first (x ∷ xs) c a e front m =
      let is : x ≡ c = cc in
      let solid = head-solid cmp o tree (tree x).prefix (tree x).value (tree x).children (seen tree xs) a in
      let begun = walk-begun cmp o (tree x) solid.0 solid.1 in
      subst (λ c. option_map (prepended front) (end_of First (walk (tree c)))
      ≡ or_else (option_map (prepended front) (end_of First (walk_in (seen tree (x ∷ xs))))) m)
      is (first-of (walk (tree x)) (walk_in (seen tree xs)) begun)
    where
      first-of : (l more : List (List K × V)) → IsBegun l
          → option_map (prepended front) (end_of First l)
          ≡ or_else (option_map (prepended front) (end_of First (l ++ more))) m
      first-of l more b = rw b.is refl

  -- and the last pair that of the last
  pub nearest-last : (xs : List T) (c : T) (v : Option V) → AreChildren cmp (seen tree xs)
      → slice_get xs (length xs - 1) ≡ Some c → (front : List K) (m : Option (List K × V))
      → option_map (prepended front) (end_of Last (walk (tree c)))
      ≡ or_else (option_map (prepended front) (end_of Last (own_pair v ++ walk_in (seen tree xs)))) m
  nearest-last xs c v a e front m =
      let ends = ends-with cmp o tree xs c (sym (last-get xs) ∙ e) a in
      let all : own_pair v ++ walk_in (seen tree xs) ≡ (own_pair v ++ ends.front) ++ walk (tree c) =
      ap (λ l. own_pair v ++ l) ends.is ∙ sym (append_assoc (own_pair v) ends.front (walk (tree c))) in
      last-of (walk (tree c)) (own_pair v ++ ends.front) ends.begun
      ∙ ap (λ l. or_else (option_map (prepended front) (end_of Last l)) m) (sym all)
    where
      some-last : (p q : Option (List K × V)) → or_else p q ≡ p
          → (p ≡ None → ⊥) → option_map (prepended front) p ≡ or_else (option_map (prepended front) (or_else p q)) m
      some-last None q e n = absurd (n refl)
      some-last (Some b) q e n = refl

      last-of : (l before : List (List K × V)) → IsBegun l
          → option_map (prepended front) (end_of Last l)
          ≡ or_else (option_map (prepended front) (end_of Last (before ++ l))) m
      last-of l before b =
          some-last (end_of Last l) (end_of Last before) (end-begun Last l b (end_of Last before))
          (λ n. last-some b.first b.others (ap last_of (sym b.is) ∙ sym (last-get l) ∙ n))
          ∙ ap (λ p. or_else (option_map (prepended front) p) m) (sym (end-joined Last before l [] []))
