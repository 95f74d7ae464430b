-- Trees of the groups of a run, one after the other, and the node above them.
use Rattle.std.proofs.Common.{◌≡◌, ℕ, suc, ◌+◌, ◌-◌, ◌<◌, ◌≤◌, [], ◌∷◌, ◌++◌, List, ◌⊎◌, Option, None}
use Rattle.std.proofs.Common.{Some, refl, arith, take, drop, length, map}
use Rattle.std.proofs.Common.{length-drop, length-append, get_or, Result}
use Rattle.std.specs.Prelude.{OnOk}
use Rattle.std.proofs.lemmas.List.{take-append-drop, take-take, take_rest}
use Rattle.std.proofs.Math.ListN.{drop_of_length-le}
use Rattle.std.specs.Cmp.{IsTotalOrder}
use Rattle.std.specs.declared.cmp.Ordering.{Ordering}
use Rattle.vc_tree_model.specs.Canonical.{IsSolid, AllAbove, AreChildren}
use Rattle.vc_tree_model.specs.Key.{behind, BeginsBelow}
use Rattle.vc_tree_model.specs.Map.{or_else, lookup, lookup_in, or_else-none}
use Rattle.vc_tree_model.specs.Pairs.{last_bound, IsCollected}
use Rattle.vc_tree_model.specs.Tree.{Tree, Forest, bare, grow, forest, node}
use Rattle.vc_tree_nodes.specs.Ascending.{IsRunBehind, GoOnBehind, IsGroupOf, HeadAbove}
use Rattle.vc_tree_nodes.specs.Ascending.{AllBelow, IsAdded, IsBuilt, FirstEnds, HasCommon, pairs_behind}
use Rattle.vc_tree_model.proofs.KeyLemmas.{same-append, behind-same, same-itself}
use Rattle.vc_tree_model.proofs.LookupLemmas.{lookup_in-empty, children-ordered}
use Rattle.vc_tree_nodes.proofs.Runs.{bound-parted}
use Rattle.vc_tree_nodes.proofs.Runs.{pairs-parted, group-within, group-further, group-rest, on-run, same-middle}
use Rattle.vc_tree_nodes.proofs.Runs.{drop-further, group-below, group-begins, AllAgree, all-agree}
use Rattle.vc_tree_nodes.proofs.Runs.{common-reaches}
use Rattle.vc_tree_nodes.proofs.Growing.{children-later}
use Rattle.vc_tree_nodes.proofs.Updating.{lookup-leaf}

module _ {K V T : Type 0} (tree : T → Tree K V) where
  -- two children make a node solid
  pub two-solid : (ts : List T) → 2 ≤ length ts → IsSolid None (forest (map tree ts))
  two-solid (t ∷ u ∷ ts) w = tt
  two-solid ts w = grind arith

module _ {K V : Type 0} (cmp : K → K → Ordering) where
  -- ---- one more tree behind the others

  -- two trees that begin with different components bind no key both
  apart : IsTotalOrder cmp → (p q : List K) (v w : Option V) (f g : Forest K V) (k : List K) → BeginsBelow cmp p q
      → (p ≡ [] → ⊥) → (lookup cmp (node p v f) k ≡ None) ⊎ (lookup cmp (node q w g) k ≡ None)
  apart o p q v w f g k h n = grind arith

  -- of two values that are not both there, either may be asked first
  asked-first : (a b c : Option V) → (a ≡ None) ⊎ (b ≡ None) → or_else a (or_else b c) ≡ or_else b (or_else a c)
  asked-first a b c h = grind arith

  module _ {T : Type 0} (tree : T → Tree K V) where
    -- what the children stand for
    abbrev kids : List T → Forest K V
    kids ts = forest (map tree ts)

    -- one more tree above a component
    above-more : (x : K) (ts : List T) (t : T) → BeginsBelow cmp (x ∷ []) (tree t).prefix
        → AllAbove cmp x (kids ts) → AllAbove cmp x (kids (ts ++ t ∷ []))
    above-more x (u ∷ ts) t h a = grind (arith, above-more x ts t)
    above-more x [] t h a = grind arith

    -- one more below a key
    pub below-more : (k : List K) (ts : List T) (t : T) → BeginsBelow cmp (tree t).prefix k → AllBelow cmp k (kids ts)
        → AllBelow cmp k (kids (ts ++ t ∷ []))
    below-more k (u ∷ ts) t h a = grind (arith, below-more k ts t)
    below-more k ts t h a = grind arith

    -- what one more binds
    pub lookup-more : IsTotalOrder cmp → (ts : List T) (t : T) (k : List K) → AreChildren cmp (kids ts)
        → AllBelow cmp (tree t).prefix (kids ts)
        → lookup_in cmp (kids (ts ++ t ∷ [])) k ≡ or_else (lookup cmp (tree t) k) (lookup_in cmp (kids ts) k)
    lookup-more o (u ∷ ts) t k a b =
        let h = asked-first (lookup cmp (tree u) k) (lookup cmp (tree t) k) (lookup_in cmp (kids ts) k) in
        grind (arith, lookup-more o ts t k, h, apart o (tree u).prefix (tree t).prefix)
    lookup-more o ts t k a b = grind arith

    -- ---- group by group

    -- one more child, of a prefix that is not empty
    pub child-more : (ts : List T) (t : T) → 0 < length (tree t).prefix
        → IsSolid (tree t).value (tree t).children → AreChildren cmp (tree t).children → AreChildren cmp (kids ts)
        → AllBelow cmp (tree t).prefix (kids ts) → AreChildren cmp (kids (ts ++ t ∷ []))
    child-more [] t w s c a b = grind arith
    child-more (u ∷ ts) t w s c a b =
        children-later cmp (tree u).prefix (tree u).value (tree u).children (kids ts) (kids (ts ++ t ∷ []))
        (λ y e f. above-more y ts t (grind arith) f) (λ d. child-more ts t w s c d b.1) a

    module _ {R : Type 0} (key : R → List K) (common : R → ℕ) where
      -- the trees ts stand for the keys before rest, behind the trees that were there
      pub record GroupsSoFar (d : ℕ) (run : List R) (values : List V) (old : List T) (rest : List R) (left : List V)
          (ts : List T) : Type 0 where
        pub within : length rest ≤ length run
        pub behind : GoOnBehind cmp key common d rest
        pub enough : length rest ≤ length left
        pub left_is : drop (length rest) left ≡ drop (length run) values
        pub children : AreChildren cmp (kids ts)
        pub above : HeadAbove cmp key d (kids ts) rest
        pub bound : (k : List K) → or_else (last_bound cmp (pairs_behind key d run values) k) (lookup_in cmp (kids old) k)
            ≡ or_else (last_bound cmp (pairs_behind key d rest left) k) (lookup_in cmp (kids ts) k)
        pub as_many : length old ≤ length ts
        pub more : length rest < length run → length old < length ts

      -- the keys of the rest begin above one more tree too
      head-more : (d : ℕ) (ts : List T) (t : T) (rest : List R) → HeadAbove cmp key d (kids ts) rest
          → HeadAbove cmp key d (grow (tree t).prefix (tree t).value (tree t).children bare) rest
          → HeadAbove cmp key d (kids (ts ++ t ∷ [])) rest
      head-more d ts t rest a b = grind (arith, below-more)

      -- the tree of one more group
      pub groups-more : IsTotalOrder cmp → {d : ℕ} {run : List R} {values : List V} {old : List T} {rest group others : List R}
          {left : List V} {ts : List T} (n : ℕ) (t : T) {after : List V} {more : List T}
          → GroupsSoFar d run values old rest left ts → IsGroupOf common d n rest → group ≡ take n rest → others ≡ drop n rest
          → after ≡ drop n left → more ≡ ts ++ t ∷ [] → IsBuilt cmp key common d group left (tree t)
          → GroupsSoFar d run values old others after more
      groups-more o {d = d} {rest = rest} {left = left} {ts = ts} n t s g i h e f b =
          let built = rw i at b in
          let w = group-within common d n rest g in
          let first = group-begins cmp key common d n rest (tree t).prefix (kids ts) s.behind g built.begins s.above in
          let dropped : length (drop n rest) ≡ length rest - n = length-drop {A = R} n rest in
          let remain : length (drop n left) ≡ length left - n = length-drop {A = V} n left in
          let one : length (ts ++ t ∷ []) ≡ length ts + 1 = length-append ts (t ∷ []) in
          rw (h, e, f) record {
            within = omega (arith, dropped, s.within);
            behind = group-rest cmp key common d n rest w.0 (on-run cmp key common d rest (omega (arith, w)) s.behind);
            enough = omega (arith, dropped, remain, s.enough);
            left_is = grind (arith, dropped, drop-further, s.left_is);
            children = child-more ts t first.1 built.solid built.children s.children first.0;
            above = grind (
              arith,
              head-more,
              group-further cmp key common o d n rest (kids ts) s.behind g s.above,
              group-below cmp key common o d n rest (tree t).prefix (tree t).value (tree t).children s.behind g built.begins,
            );
            bound = λ k. grind (
              arith,
              s.bound k,
              pairs-parted key d n rest left w.1 s.enough,
              bound-parted,
              built.pairs k,
              lookup-more o ts t k s.children first.0,
            );
            as_many = omega (arith, one, s.as_many);
            more = λ h. omega (arith, one, s.as_many);
          }

  -- ---- the node above the groups

  -- what pairs bind at what is left of a key, if anything is
  abbrev at_left : (List K → Option V) → Option (List K) → Option V
  at_left f None = None
  at_left f (Some k) = f k

  module _ {R : Type 0} (key : R → List K) (common : R → ℕ) (o : IsTotalOrder cmp) where
    -- the pairs behind d components bind what those behind m do, at what is left behind the components between
    behind-front : (d m : ℕ) (a : List K) (run : List R) (vs : List V) (k : List K) → d ≤ m → AllAgree cmp key common m a run
        → last_bound cmp (pairs_behind key d run vs) k
        ≡ at_left (last_bound cmp (pairs_behind key m run vs)) (behind cmp (take (m - d) (drop d a)) k)
    behind-front d m a (r ∷ run) (v ∷ vs) k h g =
        grind (
          arith,
          behind-front d m a run vs k h g.1,
          take-append-drop (m - d) (drop d (key r)),
          drop-further d m (key r) h,
          same-append cmp (take (m - d) (drop d (key r))) (drop m (key r)) k,
          behind-same cmp o,
          same-middle cmp o d m (key r) a g.0 h,
        )
    behind-front d m a run vs k h g = grind arith

    -- a node binds the pairs, where it has the value of its own key, and its children bind the rest
    collected-node : (d m : ℕ) (r : R) (run : List R) (vs : List V) (v : Option V) (f : Forest K V) → d ≤ m
        → IsRunBehind cmp key common m (r ∷ run) → v ≡ last_bound cmp (pairs_behind key m (r ∷ run) vs) []
        → ((x : K) (l : List K) → lookup_in cmp f (x ∷ l) ≡ last_bound cmp (pairs_behind key m (r ∷ run) vs) (x ∷ l))
        → IsCollected cmp (pairs_behind key d (r ∷ run) vs) (node (take (m - d) (drop d (key r))) v f)
    collected-node d m r run vs v f h g own below k =
        let itself = same-itself cmp o (take m (key r)) in
        let agree = all-agree cmp key common o m (key r) (key r) run itself g.1 g.2 in
        grind (arith, behind-front d m (key r) (r ∷ run) vs k h (itself, agree), below)

    -- ---- what is built

    -- the tree of one key
    pub built-one : {d : ℕ} {run : List R} {values left : List V} (x : R) {k : List K} {v : V} {t : Tree K V}
        → length run ≡ 1 → values ≡ v ∷ left → k ≡ key (get_or run 0 x)
        → t ≡ node (take (length k - d) (drop d k)) (Some v) bare → IsBuilt cmp key common d run values t
    built-one {d = d} {run = r ∷ []} x {v = v} e f g h = rw (f, h, g, take_rest (key r) d) record {
      pairs = λ l. lookup-leaf cmp (λ v w. v ≡ w) (drop d (key r)) l v;
      solid = tt;
      children = tt;
      begins = λ w c. refl;
    }
    built-one x e f g h = grind arith

    module _ {T : Type 0} (tree : T → Tree K V) where
      -- the tree of keys of which the first one ends where they part
      pub built-ended : {d : ℕ} (m : ℕ) {run rest : List R} {values left : List V} (x : R) {k : List K} {v : V} (ts : List T)
          {t : Tree K V} → d ≤ m → IsRunBehind cmp key common m run → FirstEnds cmp key common m run
          → values ≡ v ∷ left → rest ≡ drop 1 run → AreChildren cmp (forest (map tree ts))
          → IsAdded cmp (pairs_behind key m rest left) bare (forest (map tree ts)) → k ≡ key (get_or run 0 x)
          → t ≡ node (take (m - d) (drop d k)) (Some v) (forest (map tree ts)) → IsBuilt cmp key common d run values t
      built-ended m {run = []} x ts w g e f h a added i j = absurd g
      built-ended {d = d} m {run = r ∷ run} {left = left} x {v = v} ts w g e f h a added i j =
          let kids = forest (map tree ts) in
          let ended : drop m (key r) ≡ [] = drop_of_length-le (key r) (omega (arith, e)) in
          let empty = lookup_in-empty cmp kids (children-ordered cmp kids a) in
          let rest = rw h at added in
          rw (f, j, i) record {
            pairs =
                collected-node d m r run (v ∷ left) (Some v) kids w g (grind (arith, ended, empty, rest [], or_else-none))
                (λ x l. rw ended (rest (x ∷ l)));
            solid = tt;
            children = a;
            begins = λ u c. take-take 1 (m - d) (drop d (key r)) (omega (arith, u, e));
          }

      -- the keys begin above no trees
      pub above-none : (m : ℕ) (run : List R) (ts : List T) → ts ≡ [] → HeadAbove cmp key m (forest (map tree ts)) run
      above-none m run ts e = grind arith

      -- the tree of a group alone is a child, and below the keys behind the group
      pub one-group : {d : ℕ} (n : ℕ) (run : List R) {group others : List R} {values : List V} {ts : List T} {t : T}
          → GoOnBehind cmp key common d run → IsGroupOf common d n run → group ≡ take n run → others ≡ drop n run
          → IsBuilt cmp key common d group values (tree t) → ts ≡ t ∷ []
          → AreChildren cmp (forest (map tree ts)) × HeadAbove cmp key d (forest (map tree ts)) others
      one-group {d = d} n run {t = t} g q f h b e =
          let built = rw f at b in
          let first =
          group-begins cmp key common {V = V} d n run (tree t).prefix bare g q built.begins (above-none d run [] refl) in
          rw (e, h) (
            child-more tree [] t first.1 built.solid built.children tt tt,
            group-below cmp key common o d n run (tree t).prefix (tree t).value (tree t).children g q built.begins,
          )

      -- the tree of keys that all go on where they part
      pub open-from : {d : ℕ} (m n : ℕ) {run group others : List R} {values left : List V} (x : R) {k : List K} {one : T}
          {old : List T} (ts : List T) {t : Tree K V} → d ≤ m → 0 < length run → length run ≤ length values
          → GoOnBehind cmp key common m run → HasCommon common m (drop 1 run) → IsGroupOf common m n run
          → group ≡ take n run → others ≡ drop n run → left ≡ drop n values → old ≡ one ∷ []
          → IsBuilt cmp key common m group values (tree one) → AreChildren cmp (forest (map tree ts))
          → IsAdded cmp (pairs_behind key m others left) (forest (map tree old)) (forest (map tree ts))
          → 2 ≤ length ts → k ≡ key (get_or run 0 x)
          → t ≡ node (take (m - d) (drop d k)) None (forest (map tree ts)) → IsBuilt cmp key common d run values t
      open-from m n {run = []} x ts w u enough g p q f h l s b a added two i j = absurd (omega arith)
      open-from {d = d} m n {run = r ∷ run} {values = values} x {one = one} ts w u enough g p q f h l s b a added two i j =
          let kids = forest (map tree ts) in
          let within = group-within common m n (r ∷ run) q in
          let built = (rw f at b).pairs in
          let rest = rw (h, l, s) at added in
          let empty = lookup_in-empty cmp kids (children-ordered cmp kids a) in
          let all : (k : List K) → lookup_in cmp kids k ≡ last_bound cmp (pairs_behind key m (r ∷ run) values) k =
          λ k. grind (
            arith,
            rest k,
            built k,
            or_else-none,
            pairs-parted key m n (r ∷ run) values within.1 enough,
            bound-parted,
          ) in
          rw (j, i) record {
            pairs =
                collected-node d m r run values None kids w (on-run cmp key common m (r ∷ run) u g)
                (rw (← all [], empty) refl) (λ x l. all (x ∷ l));
            solid = two-solid tree ts two;
            children = a;
            begins = λ v c. take-take 1 (m - d) (drop d (key r)) (omega (arith, common-reaches common (suc d) m run c p));
          }

-- what holds in any case
pub on-any : {A E : Type 0} (r : Result A E) {P : Type 0} → P → OnOk r P
on-any r h = grind arith
