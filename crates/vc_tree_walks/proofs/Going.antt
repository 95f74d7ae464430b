-- The way down to the place of a key.
--     IsAt        the walk of the root has that of a node in it, whose keys are still to be told apart
--     at-root, at-child        it begins at the root, and goes down to a child
--     past-within, past-same        the key after the prefix of the node
--     cut-here        where the keys of the node are told apart, those of the root are
use Rattle.std.proofs.Common.{◌≡◌, ℕ, ◌+◌, ◌-◌, ◌≤◌, [], ◌∷◌, ◌++◌, take, drop, take-add, drop-drop, List, length, length-append}
use Rattle.std.proofs.Common.{length-drop, refl, sym, ap, ◌∙◌, true, map, arith, append_assoc, append-nil}
use Rattle.std.proofs.lemmas.List.{map-append}
use Rattle.std.specs.Cmp.Lexicographic.{slice_cmp}
use Rattle.std.specs.declared.cmp.Ordering.{Ordering}
use Rattle.std.specs.declared.cmp.Ordering.TheVariants.{Less, Equal, Greater}
use Rattle.vc_tree_model.specs.Key.{same_key}
use Rattle.vc_tree_model.specs.Tree.{Tree}
use Rattle.vc_tree_model.specs.Walk.{prepended, walk}
use Rattle.vc_tree_walks.specs.Standing.{AllStand, IsPast}
use Rattle.vc_tree_walks.proofs.Bounded.{IsCut}
use Rattle.vc_tree_walks.proofs.Rows.{prepended-twice}
use Rattle.vc_tree_walks.proofs.Standings.{behind-stand, stand-append, stand-prepended}
use Rattle.vc_tree_walks.proofs.WholeWalks.{prepended-empty}

-- equal keys, one behind another each
pub same-joined : {K : Type 0} (cmp : K → K → Ordering) (a b c d : List K) → same_key cmp a b ≡ true → same_key cmp c d ≡ true
    → same_key cmp (a ++ c) (b ++ d) ≡ true
same-joined cmp (x ∷ a) (y ∷ b) c d h g = grind (arith, same-joined cmp a b c d)
same-joined cmp a b c d h g = grind arith

module _ {X : Type 0} where
  -- three lists between two others
  regroup : (lower a b c upper : List X) → lower ++ ((a ++ (b ++ c)) ++ upper) ≡ (lower ++ a) ++ (b ++ (c ++ upper))
  regroup lower a b c upper =
      ap (λ l. lower ++ l) (append_assoc a (b ++ c) upper ∙ ap (λ l. a ++ l) (append_assoc b c upper))
      ∙ sym (append_assoc lower a (b ++ (c ++ upper)))

module _ {K V T : Type 0} (cmp : K → K → Ordering) (tree : T → Tree K V) (root : Tree K V) (key : List K) where
  -- the pairs before those of a node come before the key, and those behind them behind it; the key begins as those of the node,
  -- with which its rest is to be compared
  pub record IsAt (node : Tree K V) (used : ℕ) (front : List K) (lower upper : List (List K × V)) : Type 0 where
    pub pairs : walk root ≡ lower ++ (map (prepended front) (walk node) ++ upper)
    pub less : AllStand cmp Less lower key
    pub greater : AllStand cmp Greater upper key
    pub within : used ≤ length key
    pub long : length front ≡ used
    pub same : same_key cmp front (take used key) ≡ true
    pub rest : (j : List K) → slice_cmp cmp (front ++ j) key ≡ slice_cmp cmp j (drop used key)

  pub at-root : IsAt root 0 [] [] []
  at-root = record {
    pairs = sym (append-nil (map (prepended []) (walk root)) ∙ prepended-empty (walk root));
    less = tt;
    greater = tt;
    within = omega arith;
    long = refl;
    same = refl;
    rest = λ j. refl;
  }

  module _ (node : Tree K V) (used : ℕ) (front : List K) (lower upper : List (List K × V))
      (a : IsAt node used front lower upper) where
    -- the pairs of the node that come before the key, that have it, and that come behind it
    pub cut-here : (left : List K) → left ≡ drop used key → (l m n : List (List K × V)) → walk node ≡ l ++ (m ++ n)
        → AllStand cmp Less l left → AllStand cmp Equal m left → AllStand cmp Greater n left
        → IsCut cmp (walk root) key (lower ++ map (prepended front) l) (map (prepended front) m)
        (map (prepended front) n ++ upper)
    cut-here left d l m n e h i g = record {
      parts =
          a.pairs
          ∙ ap (λ w. lower ++ (w ++ upper))
          (ap (map (prepended front)) e ∙ map-append (prepended front) l (m ++ n)
          ∙ ap (λ w. map (prepended front) l ++ w) (map-append (prepended front) m n))
          ∙ regroup lower (map (prepended front) l) (map (prepended front) m) (map (prepended front) n) upper;
      less =
          stand-append cmp Less lower (map (prepended front) l) key a.less
          (stand-prepended cmp Less front key left stands l h);
      equal = stand-prepended cmp Equal front key left stands m i;
      greater =
          stand-append cmp Greater (map (prepended front) n) upper key (stand-prepended cmp Greater front key left stands n g)
          a.greater;
    }
      where
        stands : (j : List K) → slice_cmp cmp (front ++ j) key ≡ slice_cmp cmp j left
        stands j = a.rest j ∙ ap (slice_cmp cmp j) (sym d)

    -- behind the prefix of the node
    pub past-within : (left : List K) → left ≡ drop used key → IsPast cmp tree node left → used + length node.prefix ≤ length key
    past-within left d p =
        let w = a.within in
        let long = p.long in
        let few : length left ≡ length key - used = ap length d ∙ length-drop used key in
        omega (arith, w, long, few)

    pub past-same : (left : List K) → left ≡ drop used key → IsPast cmp tree node left
        → same_key cmp (front ++ node.prefix) (take (used + length node.prefix) key) ≡ true
    past-same left d p =
        ap (same_key cmp (front ++ node.prefix))
        (take-add used (length node.prefix) key ∙ ap (λ m. take used key ++ take (length node.prefix) m) (sym d))
        ∙ same-joined cmp front (take used key) node.prefix (take (length node.prefix) left) a.same p.same

    -- a child into which the rest of the key leads
    pub at-child : (left : List K) → left ≡ drop used key → (l n : List (List K × V)) (child : Tree K V)
        → walk node ≡ l ++ (map (prepended node.prefix) (walk child) ++ n)
        → AllStand cmp Less l left → AllStand cmp Greater n left → IsPast cmp tree node left
        → IsAt child (used + length node.prefix) (front ++ node.prefix) (lower ++ map (prepended front) l)
        (map (prepended front) n ++ upper)
    at-child left d l n child e h g p = record {
      pairs =
          a.pairs
          ∙ ap (λ w. lower ++ (w ++ upper))
          (ap (map (prepended front)) e ∙ map-append (prepended front) l (map (prepended node.prefix) (walk child) ++ n)
          ∙ ap (λ w. map (prepended front) l ++ w) (prepended-twice front node.prefix (walk child) n))
          ∙ regroup lower (map (prepended front) l) (map (prepended (front ++ node.prefix)) (walk child))
          (map (prepended front) n) upper;
      less =
          stand-append cmp Less lower (map (prepended front) l) key a.less
          (stand-prepended cmp Less front key left stands l h);
      greater =
          stand-append cmp Greater (map (prepended front) n) upper key (stand-prepended cmp Greater front key left stands n g)
          a.greater;
      within = past-within left d p;
      long = length-append front node.prefix ∙ ap (λ n. n + length node.prefix) a.long;
      same = past-same left d p;
      rest = λ j.
          ap (λ k. slice_cmp cmp k key) (append_assoc front node.prefix j) ∙ stands (node.prefix ++ j)
          ∙ behind-stand cmp node.prefix left j p.same
          ∙ ap (λ m. slice_cmp cmp j (drop (length node.prefix) m)) d
          ∙ ap (slice_cmp cmp j) (drop-drop (length node.prefix) used key);
    }
      where
        stands : (j : List K) → slice_cmp cmp (front ++ j) key ≡ slice_cmp cmp j left
        stands j = a.rest j ∙ ap (slice_cmp cmp j) (sym d)
