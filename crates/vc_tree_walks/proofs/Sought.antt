-- The way down to the pair next to a key.
--     IsSought        what is kept on the way
--     sought-root, sought-into        it begins at the root, and goes down to a child
--     beside-bare        the empty tree has no pair
--     before-first, skip-last, behind-first, behind-last, own-first, between        where it ends
use Rattle.std.proofs.Common.{◌≡◌, ℕ, ◌+◌, ◌≤◌, [], ◌∷◌, ◌++◌, take, drop, drop-drop, List, length, Option, None, Some, refl, sym, ap, ◌∙◌}
use Rattle.std.proofs.Common.{true, false, map, append-nil, arith, subst}
use Rattle.std.proofs.lemmas.List.{map-append}
use Rattle.std.specs.Borrow.{Bor}
use Rattle.std.specs.Cmp.{IsTotalOrder}
use Rattle.std.specs.Option.{option_map}
use Rattle.std.specs.declared.cmp.Ordering.{Ordering}
use Rattle.std.specs.declared.cmp.Ordering.TheVariants.{Less, Equal, Greater}
use Rattle.vc_tree_model.specs.Canonical.{AreChildren, IsCanonical}
use Rattle.vc_tree_model.specs.Key.{same_key}
use Rattle.vc_tree_model.specs.Map.{lookup, or_else}
use Rattle.vc_tree_model.specs.Tree.{Tree, is_bare}
use Rattle.vc_tree_model.specs.Value.{IsKept}
use Rattle.vc_tree_model.specs.Walk.{IsSamePair, IsWalk, own_pair, prepended, walk, walk_in}
use Rattle.vc_tree_nodes.specs.Children.{seen}
use Rattle.vc_tree_nodes.specs.Parting.{Agree}
use Rattle.vc_tree_nodes.proofs.Growing.{not-bare_solid}
use Rattle.vc_tree_walks.specs.Beside.{Fits, IsBeside, near_pairs, pairs_beside, side_of, spelled_pair}
use Rattle.vc_tree_walks.specs.Standing.{AllStand, IsBetween, IsOwn, IsPast, LeadsInto, first_pairs, last_pairs}
use Rattle.vc_tree_walks.specs.Towards.{end_of}
use Rattle.vc_tree_walks.specs.declared.beside.Beside.{Beside}
use Rattle.vc_tree_walks.specs.declared.beside.Beside.TheVariants.{Within}
use Rattle.vc_tree_walks.specs.declared.ends.End.{End}
use Rattle.vc_tree_walks.specs.declared.ends.End.TheVariants.{First, Last}
use Rattle.vc_tree_walks.proofs.Besides.{near-node, near-parts}
use Rattle.vc_tree_walks.proofs.Bounded.{IsCut, walk-above, walk-below}
use Rattle.vc_tree_walks.proofs.EndPairs.{IsBegun, head-solid, walk-begun}
use Rattle.vc_tree_walks.proofs.Filtered.{bare-walk}
use Rattle.vc_tree_walks.proofs.Going.{IsAt, at-child, at-root, cut-here, past-same, past-within}
use Rattle.vc_tree_walks.proofs.WholeWalks.{prepended-empty, walk-of_tree}

-- the pairs on the one side alone count
on-first : {X : Type 0} (end : End) → end ≡ First → (a b c : List X) → pairs_beside end a c ≡ pairs_beside end b c
on-first First e a b c = refl
on-first Last e a b c = cc

on-last : {X : Type 0} (end : End) → end ≡ Last → (a b c : List X) → pairs_beside end c a ≡ pairs_beside end c b
on-last First e a b c = cc
on-last Last e a b c = refl

-- the pairs of a node are its own, and those of its children
pub whole-own : {K V T : Type 0} (cmp : K → K → Ordering) (tree : T → Tree K V) (t : Tree K V)
    → walk t ≡ first_pairs cmp tree t [] ++ map (prepended t.prefix) (walk_in t.children)
whole-own cmp tree t =
    map-append (prepended t.prefix) (own_pair t.value) (walk_in t.children)
    ∙ ap (λ l. map (prepended t.prefix) l ++ map (prepended t.prefix) (walk_in t.children)) (sym (append-nil (own_pair t.value)))

module _ {K V T : Type 0} (cmp : K → K → Ordering) (tree : T → Tree K V) (root : Tree K V) (key : List K) (end : End) where
  -- on the way down: what was found above the node is nearest among the pairs on that side, but for those of the node
  pub record IsSought (node : Tree K V) (used known : ℕ) (found : Option (Beside V T)) : Type 0 where
    pub front : List K
    pub lower : List (List K × V)
    pub upper : List (List K × V)
    pub at : IsAt cmp tree root key node used front lower upper
    pub agree : Agree cmp node.prefix (drop used key) known
    pub begun : IsBegun (walk node)
    pub near : IsKept (IsSamePair cmp) (end_of end (pairs_beside end lower upper)) (spelled_pair tree end key found)
    pub fits : Fits tree key found

  module _ (o : IsTotalOrder cmp) (a : IsCanonical cmp root) where
    -- it begins at a root that is not the empty tree
    pub sought-root : is_bare root ≡ false → IsSought root 0 0 None
    sought-root b = record {
      front = [];
      lower = [];
      upper = [];
      at = at-root cmp tree root key;
      agree = record { within_prefix = omega arith; within_key = omega arith; same = refl };
      begun = walk-begun cmp o root (not-bare_solid root a.0 b) a.1;
      near = none end;
      fits = tt;
    }
      where
        none : (end : End) → IsKept (IsSamePair {V = V} cmp) (end_of end (pairs_beside end [] [])) None
        none First = tt
        none Last = tt

    -- the empty tree has no pair
    pub beside-bare : is_bare root ≡ true → IsBeside tree cmp root key end None
    beside-bare b = by end
      where
        no_pair : walk root ≡ []
        no_pair = sym (prepended-empty (walk root)) ∙ bare-walk [] root b

        cut : IsCut cmp (walk root) key [] [] []
        cut = record { parts = no_pair; less = tt; equal = tt; greater = tt }

        whole : IsWalk cmp (lookup cmp root) (walk root)
        whole = walk-of_tree cmp o root a (walk root) refl

        by : (end : End) → IsBeside tree cmp root key end None
        by First = record {
          pairs = [];
          walks = walk-above cmp o (lookup cmp root) (walk root) whole key [] [] [] cut;
          near = tt;
          fits = tt;
        }
        by Last = record {
          pairs = [];
          walks = walk-below cmp o (lookup cmp root) (walk root) whole key [] [] [] cut;
          near = tt;
          fits = tt;
        }

    -- the key cuts the pairs of the root
    beside-cut : (lower middle upper : List (List K × V)) → IsCut cmp (walk root) key lower middle upper
        → (found : Option (Beside V T))
        → IsKept (IsSamePair cmp) (end_of end (pairs_beside end lower upper)) (spelled_pair tree end key found)
        → Fits tree key found → IsBeside tree cmp root key end found
    beside-cut lower middle upper c found n f = record {
      pairs = pairs_beside end lower upper;
      walks = by end;
      near = n;
      fits = f;
    }
      where
        whole : IsWalk cmp (lookup cmp root) (walk root)
        whole = walk-of_tree cmp o root a (walk root) refl

        by : (end : End) → IsWalk cmp (side_of cmp end (lookup cmp root) key) (pairs_beside end lower upper)
        by First = walk-above cmp o (lookup cmp root) (walk root) whole key lower middle upper c
        by Last = walk-below cmp o (lookup cmp root) (walk root) whole key lower middle upper c

    module _ (n : Bor T) (used known : ℕ) (found : Option (Beside V T)) (s : IsSought (tree n.now) used known found)
        (left : List K) (d : left ≡ drop used key) where
      -- all keys of the node are above the key
      pub before-first : end ≡ First → AllStand cmp Greater (walk (tree n.now)) left
          → IsBeside tree cmp root key end (Some (Within used n))
      before-first e h =
          let w = walk (tree n.now) in
          beside-cut (s.lower ++ []) [] (map (prepended s.front) w ++ s.upper)
          (cut-here cmp tree root key (tree n.now) used s.front s.lower s.upper s.at left d [] [] w refl tt tt h)
          (Some (Within used n))
          (subst (λ l. IsKept (IsSamePair cmp) (end_of end l) (spelled_pair tree end key (Some (Within used n))))
          (on-first end e (s.lower ++ map (prepended s.front) w) (s.lower ++ []) (map (prepended s.front) w ++ s.upper))
          (near-node cmp o tree end (tree n.now) s.front s.lower s.upper (take used key) s.at.same s.begun))
          s.at.within

      -- none of them is below it
      pub skip-last : end ≡ Last → (equal greater : List (List K × V)) → walk (tree n.now) ≡ equal ++ greater
          → AllStand cmp Equal equal left → AllStand cmp Greater greater left → IsBeside tree cmp root key end found
      skip-last e equal greater p h g =
          let upper = map (prepended s.front) greater ++ s.upper in
          beside-cut (s.lower ++ []) (map (prepended s.front) equal) upper
          (cut-here cmp tree root key (tree n.now) used s.front s.lower s.upper s.at left d [] equal greater p tt h g)
          found
          (subst (λ l. IsKept (IsSamePair cmp) (end_of end l) (spelled_pair tree end key found))
          (on-last end e s.upper upper s.lower ∙ ap (λ l. pairs_beside end l upper) (sym (append-nil s.lower)))
          s.near)
          s.fits

      -- none of them is above it
      pub behind-first : end ≡ First → AllStand cmp Less (walk (tree n.now)) left → IsBeside tree cmp root key end found
      behind-first e h =
          let w = walk (tree n.now) in
          let lower = s.lower ++ map (prepended s.front) w in
          beside-cut lower [] s.upper
          (cut-here cmp tree root key (tree n.now) used s.front s.lower s.upper s.at left d w [] [] (sym (append-nil w)) h tt
          tt)
          found
          (subst (λ l. IsKept (IsSamePair cmp) (end_of end l) (spelled_pair tree end key found))
          (on-first end e s.lower lower s.upper) s.near)
          s.fits

      -- all of them are below it
      pub behind-last : end ≡ Last → AllStand cmp Less (walk (tree n.now)) left
          → IsBeside tree cmp root key end (Some (Within used n))
      behind-last e h =
          let w = walk (tree n.now) in
          let lower = s.lower ++ map (prepended s.front) w in
          beside-cut lower [] s.upper
          (cut-here cmp tree root key (tree n.now) used s.front s.lower s.upper s.at left d w [] [] (sym (append-nil w)) h tt
          tt)
          (Some (Within used n))
          (subst (λ l. IsKept (IsSamePair cmp) (end_of end l) (spelled_pair tree end key (Some (Within used n))))
          (on-last end e (map (prepended s.front) w ++ s.upper) s.upper lower)
          (near-node cmp o tree end (tree n.now) s.front s.lower s.upper (take used key) s.at.same s.begun))
          s.at.within

      module _ (p : List K) (e : p ≡ (tree n.now).prefix) (first last : List T) (r : Option (Beside V T))
          (q : (k : List K) → spelled_pair tree end k r
          ≡ or_else (option_map (prepended (take (used + length p) k)) (end_of end (near_pairs tree end (tree n.now) first last)))
          (spelled_pair tree end k found))
          (f : (k : List K) → used + length p ≤ length k → Fits tree k found → Fits tree k r) where
        -- what is nearest of those of the node, and else what was found above
        nearest-kept : IsPast cmp tree (tree n.now) left
            → IsKept (IsSamePair cmp)
            (end_of end (pairs_beside end (s.lower ++ map (prepended s.front) (first_pairs cmp tree (tree n.now) first))
            (map (prepended s.front) (last_pairs cmp tree (tree n.now) last) ++ s.upper)))
            (spelled_pair tree end key r)
        nearest-kept past =
            subst (λ x. IsKept (IsSamePair cmp)
            (end_of end (pairs_beside end (s.lower ++ map (prepended s.front) (first_pairs cmp tree (tree n.now) first))
            (map (prepended s.front) (last_pairs cmp tree (tree n.now) last) ++ s.upper))) x)
            (sym (q key))
            (near-parts cmp o tree end (tree n.now) s.front s.lower s.upper (take (used + length p) key)
            (subst (λ l. same_key cmp (s.front ++ (tree n.now).prefix) (take (used + length l) key) ≡ true) (sym e)
            (past-same cmp tree root key (tree n.now) used s.front s.lower s.upper s.at left d past))
            first last (spelled_pair tree end key found) s.near)

        nearest-fits : IsPast cmp tree (tree n.now) left → Fits tree key r
        nearest-fits past =
            f key
            (subst (λ l. used + length l ≤ length key) (sym e)
            (past-within cmp tree root key (tree n.now) used s.front s.lower s.upper s.at left d past))
            s.fits

        -- the key ends at the node, and those of its children are above it
        pub own-first : end ≡ First → first ≡ [] → seen tree last ≡ (tree n.now).children → IsOwn cmp tree (tree n.now) left
            → IsBeside tree cmp root key end r
        own-first h none kids own =
            let own_pairs = first_pairs cmp tree (tree n.now) [] in
            let upper = map (prepended s.front) (last_pairs cmp tree (tree n.now) last) ++ s.upper in
            beside-cut (s.lower ++ []) (map (prepended s.front) own_pairs) upper
            (cut-here cmp tree root key (tree n.now) used s.front s.lower s.upper s.at left d [] own_pairs
            (last_pairs cmp tree (tree n.now) last) (whole-own cmp tree (tree n.now)
            ∙ ap (λ f. own_pairs ++ map (prepended (tree n.now).prefix) (walk_in f)) (sym kids)) tt own.tied
            (subst (λ c. AllStand cmp Greater (map (prepended (tree n.now).prefix) (walk_in c)) left) (sym kids) own.greater))
            r
            (subst (λ l. IsKept (IsSamePair cmp) (end_of end l) (spelled_pair tree end key r))
            (on-first end h _ (s.lower ++ []) upper) (nearest-kept own.past))
            (nearest-fits own.past)

        -- the key stands between the children
        pub between : IsBetween cmp tree (tree n.now) left first last → IsBeside tree cmp root key end r
        between b =
            let lower_pairs = first_pairs cmp tree (tree n.now) first in
            let upper_pairs = last_pairs cmp tree (tree n.now) last in
            beside-cut (s.lower ++ map (prepended s.front) lower_pairs) [] (map (prepended s.front) upper_pairs ++ s.upper)
            (cut-here cmp tree root key (tree n.now) used s.front s.lower s.upper s.at left d lower_pairs [] upper_pairs b.pairs
            b.parts.less tt b.parts.greater)
            r (nearest-kept b.past) (nearest-fits b.past)

        -- the key leads into a child
        pub sought-into : (row : List T) (child : T) → row ≡ child ∷ last → LeadsInto cmp tree (tree n.now) left first row
            → IsSought (tree child) (used + length p) 1 r
        sought-into row child is l =
            let same_row : l.child ∷ l.upper ≡ child ∷ last = sym l.row_is ∙ is in
            let same_child : l.child ≡ child = cc in
            let same_upper : l.upper ≡ last = cc in
            let solid =
            head-solid cmp o tree (tree child).prefix (tree child).value (tree child).children (seen tree last)
            (subst (λ m. AreChildren cmp (seen tree m)) is l.row_children) in
            record {
              front = s.front ++ (tree n.now).prefix;
              lower = s.lower ++ map (prepended s.front) (first_pairs cmp tree (tree n.now) first);
              upper = map (prepended s.front) (last_pairs cmp tree (tree n.now) last) ++ s.upper;
              at =
                  subst (λ m. IsAt cmp tree root key (tree child) (used + length m) (s.front ++ (tree n.now).prefix)
                  (s.lower ++ map (prepended s.front) (first_pairs cmp tree (tree n.now) first))
                  (map (prepended s.front) (last_pairs cmp tree (tree n.now) last) ++ s.upper))
                  (sym e)
                  (at-child cmp tree root key (tree n.now) used s.front s.lower s.upper s.at left d
                  (first_pairs cmp tree (tree n.now) first) (last_pairs cmp tree (tree n.now) last) (tree child)
                  (l.pairs
                  ∙ ap (λ c. first_pairs cmp tree (tree n.now) first
                  ++ (map (prepended (tree n.now).prefix) (walk (tree c)) ++ last_pairs cmp tree (tree n.now) l.upper)) same_child
                  ∙ ap (λ u. first_pairs cmp tree (tree n.now) first
                  ++ (map (prepended (tree n.now).prefix) (walk (tree child)) ++ last_pairs cmp tree (tree n.now) u)) same_upper)
                  l.parts.less
                  (subst (λ u. AllStand cmp Greater (last_pairs cmp tree (tree n.now) u) left) same_upper l.parts.greater)
                  l.past);
              agree =
                  subst (λ c. Agree cmp (tree c).prefix (drop (used + length p) key) 1) same_child
                  (subst (λ m. Agree cmp (tree l.child).prefix m 1)
                  (ap (drop (length (tree n.now).prefix)) d ∙ drop-drop (length (tree n.now).prefix) used key
                  ∙ ap (λ m. drop (used + length m) key) (sym e))
                  l.agree);
              begun = walk-begun cmp o (tree child) solid.0 solid.1;
              near = nearest-kept l.past;
              fits = nearest-fits l.past;
            }
