-- The way of a walk down to the place of a key.
--     IsSeeking        what is kept on the way
--     seeking-root, seeking-into        it begins at the root, and goes down to a child
--     from-before, from-own, from-behind, from-between        where it ends
use Rattle.std.proofs.Common.{◌≡◌, ℕ, ◌+◌, [], ◌∷◌, ◌++◌, take, drop, drop-drop, List, length, length-append, Option, None, Some, refl}
use Rattle.std.proofs.Common.{sym, ap, ◌∙◌, map, append-nil, append_assoc, arith, subst}
use Rattle.std.proofs.Math.Seq.{take-append_seam, take-length}
use Rattle.std.proofs.lemmas.List.{map-append, reverse-append}
use Rattle.std.specs.Borrow.{Bor}
use Rattle.std.specs.Cmp.{IsTotalOrder}
use Rattle.std.specs.Prelude.{reverse}
use Rattle.std.specs.declared.cmp.Ordering.{Ordering}
use Rattle.std.specs.declared.cmp.Ordering.TheVariants.{Less, Greater}
use Rattle.vc_tree_model.specs.Canonical.{IsCanonical}
use Rattle.vc_tree_model.specs.Map.{lookup}
use Rattle.vc_tree_model.specs.Tree.{Tree, Forest}
use Rattle.vc_tree_model.specs.Walk.{IsWalk, prepended, walk, walk_in}
use Rattle.vc_tree_nodes.specs.Children.{seen}
use Rattle.vc_tree_nodes.specs.Parting.{Agree}
use Rattle.vc_tree_walks.specs.Bounds.{not_below}
use Rattle.vc_tree_walks.specs.IterLeft.{pairs_left, pairs_with, row_of, rows_of}
use Rattle.vc_tree_walks.specs.Left.{rows_left}
use Rattle.vc_tree_walks.specs.Standing.{AllStand, IsBetween, IsOwn, LeadsInto, first_pairs, last_pairs}
use Rattle.vc_tree_walks.specs.declared.iter.Iter.{Iter}
use Rattle.vc_tree_walks.specs.declared.iter.Row.{Row}
use Rattle.vc_tree_walks.proofs.Bounded.{IsCut, walk-not_below}
use Rattle.vc_tree_walks.proofs.Going.{IsAt, at-child, at-root, cut-here}
use Rattle.vc_tree_walks.proofs.Rows.{prepended-twice}
use Rattle.vc_tree_walks.proofs.Sought.{whole-own}
use Rattle.vc_tree_walks.proofs.WholeWalks.{walk-of_tree}

module _ {K V T : Type 0} (tree : T → Tree K V) where
  -- the rows that a walk stands in
  abbrev pub rows_now : Iter K V T → List (List K × V)
  rows_now s = rows_left s.key (rows_of tree s.row s.above.items)

  -- after the first step they are what is left
  pub left-now : (s : Iter K V T) → s.start ≡ None → pairs_left tree s ≡ rows_now s
  left-now s e = rw e refl

  -- one more row inside of the others
  more-rows : (row : Row T) (above : List (Row T))
      → map (row_of tree) (reverse (above ++ row ∷ [])) ≡ row_of tree row ∷ map (row_of tree) (reverse above)
  more-rows row above = grind (arith, row_of, reverse-append)

  -- components behind the key change nothing of the rows before
  longer-rows : (key p : List K) (base : ℕ) (f : Forest K V) (rows : List (Forest K V × ℕ)) → base ≡ length key
      → rows_left (key ++ p) ((f, base) ∷ rows) ≡ rows_left key ((f, base) ∷ rows)
  longer-rows key p base f rows e =
      let front : take base (key ++ p) ≡ take base key =
      ap (λ n. take n (key ++ p)) e ∙ take-append_seam key p ∙ sym (take-length key) ∙ ap (λ n. take n key) (sym e) in
      ap (λ k. map (prepended k) (walk_in f) ++ rows_left k rows) front

  -- a walk that was opened
  pub opened-rows : (s t : Iter K V T) (p : List K) (trees : List T) → s.row.base ≡ length s.key → t.key ≡ s.key ++ p
      → t.row.trees.now ≡ trees → t.row.base ≡ length t.key → t.above.items ≡ s.above.items ++ s.row ∷ []
      → rows_now t ≡ map (prepended s.key) (map (prepended p) (walk_in (seen tree trees))) ++ rows_now s
  opened-rows s t p trees e k r b a =
      let inner : rows_now t ≡ rows_left t.key ((seen tree trees, length t.key) ∷ rows_of tree s.row s.above.items) =
      ap (λ f. rows_left t.key ((f, t.row.base) ∷ map (row_of tree) (reverse t.above.items))) (ap (seen tree) r)
      ∙ ap (λ n. rows_left t.key ((seen tree trees, n) ∷ map (row_of tree) (reverse t.above.items))) b
      ∙ ap (λ rows. rows_left t.key ((seen tree trees, length t.key) ∷ rows))
      (ap (λ l. map (row_of tree) (reverse l)) a ∙ more-rows s.row s.above.items) in
      inner
      ∙ ap (λ l. map (prepended l) (walk_in (seen tree trees)) ++ rows_left l (rows_of tree s.row s.above.items))
      (take-length t.key ∙ k)
      ∙ ap (λ m. m ++ rows_left (s.key ++ p) (rows_of tree s.row s.above.items))
      (sym (append-nil (map (prepended (s.key ++ p)) (walk_in (seen tree trees))))
      ∙ sym (prepended-twice s.key p (walk_in (seen tree trees)) [])
      ∙ ap (map (prepended s.key)) (append-nil (map (prepended p) (walk_in (seen tree trees)))))
      ∙ ap (λ m. map (prepended s.key) (map (prepended p) (walk_in (seen tree trees))) ++ m)
      (longer-rows s.key p s.row.base (seen tree s.row.trees.now) (map (row_of tree) (reverse s.above.items)) e)

module _ {K V T : Type 0} (cmp : K → K → Ordering) (tree : T → Tree K V) (root : T) (key : List K) where
  -- the row of the node, or none where the node is the root
  abbrev pub IsRowOf : T → Iter K V T → Option (Bor (List T)) → Type 0
  IsRowOf n s None = (n ≡ root) × (s.key ≡ []) × (rows_now tree s ≡ [])
  IsRowOf n s (Some row) = row.now ≡ n ∷ s.row.trees.now

  -- on the way down: what is left of the walk is what comes behind the pairs of the node
  pub record IsSeeking (n : T) (known : ℕ) (s : Iter K V T) (row : Option (Bor (List T))) : Type 0 where
    pub lower : List (List K × V)
    pub at : IsAt cmp tree (tree root) key (tree n) s.row.base s.key lower (rows_now tree s)
    pub agree : Agree cmp (tree n).prefix (drop s.row.base key) known
    pub start : s.start ≡ None
    pub row_is : IsRowOf n s row

  pub seeking-root : (s : Iter K V T) → s.start ≡ None → s.key ≡ [] → s.row.base ≡ 0 → rows_now tree s ≡ []
      → IsSeeking root 0 s None
  seeking-root s e k b r = record {
    lower = [];
    at =
        subst (λ l. IsAt cmp tree (tree root) key (tree root) s.row.base s.key [] l) (sym r)
        (subst (λ l. IsAt cmp tree (tree root) key (tree root) s.row.base l [] []) (sym k)
        (subst (λ m. IsAt cmp tree (tree root) key (tree root) m [] [] []) (sym b) (at-root cmp tree (tree root) key)));
    agree = record { within_prefix = omega arith; within_key = omega arith; same = refl };
    start = e;
    row_is = (refl, k, r);
  }

  module _ (o : IsTotalOrder cmp) (c : IsCanonical cmp (tree root)) (n : T) (known : ℕ) (s : Iter K V T)
      (row : Option (Bor (List T))) (i : IsSeeking n known s row) (left : List K) (d : left ≡ drop s.row.base key) where
    -- the pairs of the node, and then what is left
    node-first : pairs_with tree s root row ≡ map (prepended s.key) (walk (tree n)) ++ rows_now tree s
    node-first = by row i.row_is
      where
        whole : take s.row.base s.key ≡ s.key
        whole = ap (λ n. take n s.key) (sym i.at.long) ∙ take-length s.key

        by : (row : Option (Bor (List T))) → IsRowOf n s row
            → pairs_with tree s root row ≡ map (prepended s.key) (walk (tree n)) ++ rows_now tree s
        by None r =
            ap (λ m. map (prepended []) (walk (tree m))) (sym r.0)
            ∙ ap (λ k. map (prepended k) (walk (tree n))) (sym r.1)
            ∙ sym (append-nil (map (prepended s.key) (walk (tree n))))
            ∙ ap (λ l. map (prepended s.key) (walk (tree n)) ++ l) (sym r.2)
        by (Some b) r =
            let rows = map (row_of tree) (reverse s.above.items) in
            let others = walk_in (seen tree s.row.trees.now) in
            ap (λ l. rows_left s.key ((seen tree l, s.row.base) ∷ rows)) r
            ∙ ap (λ k. map (prepended k) (walk (tree n) ++ others) ++ rows_left k rows) whole
            ∙ ap (λ l. l ++ rows_left s.key rows) (map-append (prepended s.key) (walk (tree n)) others)
            ∙ append_assoc (map (prepended s.key) (walk (tree n))) (map (prepended s.key) others) (rows_left s.key rows)
            ∙ ap (λ k. map (prepended s.key) (walk (tree n)) ++ (map (prepended k) others ++ rows_left k rows)) (sym whole)

    whole-walk : IsWalk cmp (lookup cmp (tree root)) (walk (tree root))
    whole-walk = walk-of_tree cmp o (tree root) c (walk (tree root)) refl

    -- the walk of what does not come before the key, where the key cuts the pairs
    from-cut : (lower middle upper : List (List K × V)) → IsCut cmp (walk (tree root)) key lower middle upper
        → IsWalk cmp (not_below cmp (lookup cmp (tree root)) key) (middle ++ upper)
    from-cut lower middle upper cut =
        walk-not_below cmp o (lookup cmp (tree root)) (walk (tree root)) whole-walk key lower middle upper cut

    pub from-before : (l : List (List K × V)) → l ≡ pairs_with tree s root row → AllStand cmp Greater (walk (tree n)) left
        → IsWalk cmp (not_below cmp (lookup cmp (tree root)) key) l
    from-before l e h =
        subst (IsWalk cmp (not_below cmp (lookup cmp (tree root)) key)) (sym (e ∙ node-first))
        (from-cut (i.lower ++ []) [] (map (prepended s.key) (walk (tree n)) ++ rows_now tree s)
        (cut-here cmp tree (tree root) key (tree n) s.row.base s.key i.lower (rows_now tree s) i.at left d [] []
        (walk (tree n)) refl tt tt h))

    pub from-own : (l : List (List K × V)) → l ≡ pairs_with tree s root row → IsOwn cmp tree (tree n) left
        → IsWalk cmp (not_below cmp (lookup cmp (tree root)) key) l
    from-own l e own =
        let middle = first_pairs cmp tree (tree n) [] in
        let upper = map (prepended (tree n).prefix) (walk_in (tree n).children) in
        subst (IsWalk cmp (not_below cmp (lookup cmp (tree root)) key))
        (sym
        (e ∙ node-first
        ∙ ap (λ w. w ++ rows_now tree s)
        (ap (map (prepended s.key)) (whole-own cmp tree (tree n)) ∙ map-append (prepended s.key) middle upper)
        ∙ append_assoc (map (prepended s.key) middle) (map (prepended s.key) upper) (rows_now tree s)))
        (from-cut (i.lower ++ []) (map (prepended s.key) middle) (map (prepended s.key) upper ++ rows_now tree s)
        (cut-here cmp tree (tree root) key (tree n) s.row.base s.key i.lower (rows_now tree s) i.at left d [] middle upper
        (whole-own cmp tree (tree n)) tt own.tied own.greater))

    pub from-behind : AllStand cmp Less (walk (tree n)) left
        → IsWalk cmp (not_below cmp (lookup cmp (tree root)) key) (pairs_left tree s)
    from-behind h =
        subst (IsWalk cmp (not_below cmp (lookup cmp (tree root)) key)) (sym (left-now tree s i.start))
        (from-cut (i.lower ++ map (prepended s.key) (walk (tree n))) [] (rows_now tree s)
        (cut-here cmp tree (tree root) key (tree n) s.row.base s.key i.lower (rows_now tree s) i.at left d (walk (tree n)) []
        [] (sym (append-nil (walk (tree n)))) h tt tt))

    -- the walk was opened behind the prefix of the node
    module _ (t : Iter K V T) (p : List K) (e : p ≡ (tree n).prefix) (first last : List T) (k : t.key ≡ s.key ++ p)
        (r : t.row.trees.now ≡ last) (b : t.row.base ≡ length t.key) (a : t.above.items ≡ s.above.items ++ s.row ∷ [])
        (st : t.start ≡ s.start) where
      rows-opened : rows_now tree t ≡ map (prepended s.key) (last_pairs cmp tree (tree n) last) ++ rows_now tree s
      rows-opened =
          opened-rows tree s t p last (sym i.at.long) k r b a
          ∙ ap (λ q. map (prepended s.key) (map (prepended q) (walk_in (seen tree last))) ++ rows_now tree s) e

      pub from-between : IsBetween cmp tree (tree n) left first last
          → IsWalk cmp (not_below cmp (lookup cmp (tree root)) key) (pairs_left tree t)
      from-between h =
          subst (IsWalk cmp (not_below cmp (lookup cmp (tree root)) key))
          (sym (left-now tree t (st ∙ i.start) ∙ rows-opened))
          (from-cut (i.lower ++ map (prepended s.key) (first_pairs cmp tree (tree n) first)) []
          (map (prepended s.key) (last_pairs cmp tree (tree n) last) ++ rows_now tree s)
          (cut-here cmp tree (tree root) key (tree n) s.row.base s.key i.lower (rows_now tree s) i.at left d
          (first_pairs cmp tree (tree n) first) [] (last_pairs cmp tree (tree n) last) h.pairs h.parts.less tt h.parts.greater))

      pub seeking-into : (row : Bor (List T)) (child : T) → row.now ≡ child ∷ last
          → LeadsInto cmp tree (tree n) left first row.now → IsSeeking child 1 t (Some row)
      seeking-into row child is l =
          let same_row : l.child ∷ l.upper ≡ child ∷ last = sym l.row_is ∙ is in
          let same_child : l.child ≡ child = cc in
          let same_upper : l.upper ≡ last = cc in
          let base : t.row.base ≡ s.row.base + length (tree n).prefix =
          b ∙ ap length k ∙ length-append s.key p ∙ ap (λ m. m + length p) i.at.long
          ∙ ap (λ q. s.row.base + length q) e in
          record {
            lower = i.lower ++ map (prepended s.key) (first_pairs cmp tree (tree n) first);
            at =
                subst (λ m. IsAt cmp tree (tree root) key (tree child) m t.key
                (i.lower ++ map (prepended s.key) (first_pairs cmp tree (tree n) first)) (rows_now tree t))
                (sym base)
                (subst (λ m. IsAt cmp tree (tree root) key (tree child) (s.row.base + length (tree n).prefix) m
                (i.lower ++ map (prepended s.key) (first_pairs cmp tree (tree n) first)) (rows_now tree t))
                (sym (k ∙ ap (λ q. s.key ++ q) e))
                (subst (λ m. IsAt cmp tree (tree root) key (tree child) (s.row.base + length (tree n).prefix)
                (s.key ++ (tree n).prefix) (i.lower ++ map (prepended s.key) (first_pairs cmp tree (tree n) first)) m)
                (sym rows-opened)
                (at-child cmp tree (tree root) key (tree n) s.row.base s.key i.lower (rows_now tree s) i.at left d
                (first_pairs cmp tree (tree n) first) (last_pairs cmp tree (tree n) last) (tree child)
                (l.pairs
                ∙ ap (λ c. first_pairs cmp tree (tree n) first
                ++ (map (prepended (tree n).prefix) (walk (tree c)) ++ last_pairs cmp tree (tree n) l.upper)) same_child
                ∙ ap (λ u. first_pairs cmp tree (tree n) first
                ++ (map (prepended (tree n).prefix) (walk (tree child)) ++ last_pairs cmp tree (tree n) u)) same_upper)
                l.parts.less
                (subst (λ u. AllStand cmp Greater (last_pairs cmp tree (tree n) u) left) same_upper l.parts.greater)
                l.past)));
            agree =
                subst (λ c. Agree cmp (tree c).prefix (drop t.row.base key) 1) same_child
                (subst (λ m. Agree cmp (tree l.child).prefix m 1)
                (ap (drop (length (tree n).prefix)) d ∙ drop-drop (length (tree n).prefix) s.row.base key
                ∙ ap (λ m. drop m key) (sym base))
                l.agree);
            start = st ∙ i.start;
            row_is = is ∙ ap (λ u. child ∷ u) (sym r);
          }
