-- Where a path of places leads, and what a step from there does to the pairs that are left.
--     Leads        the places before a depth lead to a node
--     leads-on, stops        one node deeper, and where no child is open
--     opened-rows, opened-work        the row of a node that was opened
--     started-left, started-work        what is left behind the root
--     left-step, entered-step        a step out of the node that a path leads to, and a step to a child of it
--     last-child        the child that was entered last
use Rattle.std.proofs.Common.{◌≡◌, ℕ, zero, suc, ◌+◌, ◌-◌, ◌*◌, ◌<◌, ◌≤◌, List, [], ◌∷◌, ◌++◌, length, take, drop}
use Rattle.std.proofs.Common.{get_or, map, Option, None, Some, refl, sym, ap, ◌∙◌, append_assoc, append-nil, add-one}
use Rattle.std.proofs.Common.{subst, arith, min, ◌==◌, true≢false, false}
use Rattle.std.proofs.Math.Nat.{suc-min-suc}
use Rattle.std.proofs.Math.Seq.{take-length}
use Rattle.std.proofs.lemmas.List.{take_more, take-append-drop}
use Rattle.std.specs.Prelude.{IfSome, MatchOption}
use Rattle.std.specs.Borrow.{Bor}
use Rattle.vc_tree_model.specs.Tree.{Tree, Forest, bare, grow, node, nodes, forest_nodes}
use Rattle.vc_tree_model.specs.Walk.{own_pair, prepended, walk, walk_in}
use Rattle.vc_tree_nodes.specs.Children.{seen}
use Rattle.vc_tree_walks.specs.Left.{pair_at, rows_left, outer_work}
use Rattle.vc_tree_walks.specs.OwnedLeft.{skip, tree_at, entered, opened, rows_at, IsReached}
use Rattle.vc_tree_walks.specs.declared.owned.OpenNode.{OpenNode}
use Rattle.vc_tree_walks.proofs.Rows.{own-first, entered as entered_row}

-- what stands at a place is the same for each default
same-at : (path : List OpenNode) (d : ℕ) (x y : OpenNode) → d < length path → x ≡ get_or path d x → x ≡ get_or path d y
same-at (z ∷ path) (suc d) x y h e = grind (arith, same-at path d x y)
same-at path d x y h e = grind arith

-- and is what is read there
read-at : (path : List OpenNode) (d : ℕ) (x : OpenNode) → d < length path → get_or path d x ≡ get_or path d (get_or path d x)
read-at (z ∷ path) (suc d) x h = grind (arith, read-at path d x)
read-at path d x h = grind arith

-- the first of the first components
take-taken : {K : Type 0} (m n : ℕ) (l : List K) → take m (take n l) ≡ take (min m n) l
take-taken zero n l = grind arith
take-taken (suc m) zero l = grind arith
take-taken (suc m) (suc n) [] = sym (ap (λ k. take k []) (suc-min-suc m n))
take-taken (suc m) (suc n) (x ∷ l) =
    ap (λ k. x ∷ k) (take-taken m n l) ∙ sym (ap (λ k. take k (x ∷ l)) (suc-min-suc m n))

-- one more place
one-more : (path : List OpenNode) (d : ℕ) (place : OpenNode) (more : List OpenNode) → d < length path → place ≡ get_or path d place
    → take (d + 1) path ++ more ≡ take d path ++ place ∷ more
one-more path d place more h e =
    ap (λ xs. xs ++ more) (take_more path d place h) ∙ append_assoc (take d path) (get_or path d place ∷ []) more
    ∙ ap (λ x. take d path ++ x ∷ more) (sym e)

-- a path up to a depth, its place there, and the rest
parts : (path : List OpenNode) (d : ℕ) (place : OpenNode) → d < length path → place ≡ get_or path d place
    → take d path ++ place ∷ drop (d + 1) path ≡ path
parts path d place h e =
    sym (one-more path d place (drop (d + 1) path) h e) ∙ take-append-drop (d + 1) path

module _ {K V : Type 0} where
  -- the row of a node, as a place has it
  abbrev row_of_place : Tree K V → OpenNode → Forest K V × ℕ
  row_of_place t place = (skip place.entered t.children, place.base)

  -- the places before a depth lead from the root to a node; the rows above it are left elsewhere
  pub record Leads (root : Tree K V) (path : List OpenNode) (t : Tree K V) (depth : ℕ) : Type 0 where
    pub above : List (Forest K V × ℕ)
    pub within : depth < length path
    pub rows : (more : List OpenNode) → rows_at root (take depth path ++ more) ≡ rows_at t more ++ above

  -- the rows below a node with an open child
  rows-open : (t c : Tree K V) (place : OpenNode) (path : List OpenNode) → entered place.entered t.children ≡ Some c
      → rows_at t (place ∷ path) ≡ rows_at c path ++ row_of_place t place ∷ []
  rows-open t c place path e = rw (e, rows_at)

  -- below one without
  rows-closed : (t : Tree K V) (place : OpenNode) (path : List OpenNode) → entered place.entered t.children ≡ None
      → rows_at t (place ∷ path) ≡ row_of_place t place ∷ []
  rows-closed t place path e = rw (e, rows_at)

  -- one node deeper
  pub leads-on : (root : Tree K V) (path : List OpenNode) (t c : Tree K V) (d : ℕ) (x : OpenNode) → Leads root path t d
      → d + 1 < length path → entered (get_or path d x).entered t.children ≡ Some c → Leads root path c (d + 1)
  leads-on root path t c d x l h e = let place = get_or path d x in let en = read-at path d x l.within in record {
    above = row_of_place t place ∷ l.above;
    within = h;
    rows = λ more.
        ap (rows_at root) (one-more path d place more l.within en) ∙ l.rows (place ∷ more)
        ∙ ap (λ xs. xs ++ l.above) (rows-open t c place more e)
        ∙ append_assoc (rows_at c more) (row_of_place t place ∷ []) l.above;
  }

  -- the row of the place where a path leads, whatever reads it
  here-at : (root : Tree K V) (path : List OpenNode) (t : Tree K V) (d : ℕ) (place : OpenNode) → d < length path
      → place ≡ get_or path d place → (above : List (Forest K V × ℕ))
      → rows_at root path ≡ row_of_place t place ∷ above
      → (x : OpenNode) → x ≡ get_or path d x → rows_at root path ≡ row_of_place t x ∷ above
  here-at root path t d place h e above r x ex = grind (arith, same-at)

  -- where no child is open
  pub stops : (root : Tree K V) (path : List OpenNode) (t : Tree K V) (d : ℕ) (x : OpenNode) → Leads root path t d
      → entered (get_or path d x).entered t.children ≡ None → IsReached root path t d
  stops root path t d x l e = let place = get_or path d x in let en = read-at path d x l.within in record {
    above = l.above;
    within = l.within;
    rows = l.rows;
    here = here-at root path t d place l.within en l.above
        (ap (rows_at root) (sym (parts path d place l.within en)) ∙ l.rows (place ∷ drop (d + 1) path)
        ∙ ap (λ xs. xs ++ l.above) (rows-closed t place (drop (d + 1) path) e));
  }

  -- an opened node is left as its row would be
  pub opened-rows : (t : Tree K V) (key : List K) (rows : List (Forest K V × ℕ))
      → rows_left key (rows_at t (opened t (length key)) ++ rows) ≡ rows_left key ((t.children, length key) ∷ rows)
  opened-rows t key rows = by t.children
    where
      by : (f : Forest K V)
          → rows_left key (rows_at (node t.prefix t.value f) (opened (node t.prefix t.value f) (length key)) ++ rows)
          ≡ rows_left key ((f, length key) ∷ rows)
      by bare = ap (λ k. rows_left k rows) (sym (take-length key))
      by (grow p v kids rest) = refl

  -- and is no more work
  pub opened-work : (t : Tree K V) (base : ℕ) (rows : List (Forest K V × ℕ))
      → outer_work (rows_at t (opened t base) ++ rows) ≤ 1 + 2 * forest_nodes t.children + outer_work rows
  opened-work t base rows = grind arith

  -- the root was opened behind the empty path
  pub started-left : (t : Tree K V) (key : List K) (front : ℕ) (path : List OpenNode) → key ≡ t.prefix → front ≡ length key
      → path ≡ opened t front
      → walk t ≡ pair_at key t.value ++ rows_left (take front key) (rows_at t path)
  started-left t key front path ek ef ep =
      let whole : rows_at t path ≡ rows_at t (opened t (length key)) ++ [] =
      ap (rows_at t) (ep ∙ ap (opened t) ef) ∙ sym (append-nil (rows_at t (opened t (length key)))) in
      let all : take front key ≡ key = ap (λ n. take n key) ef ∙ take-length key in
      let below : rows_left (take front key) (rows_at t path) ≡ map (prepended key) (walk_in t.children) =
      (λ i. rows_left (all i) (whole i)) ∙ opened-rows t key []
      ∙ append-nil (map (prepended (take (length key) key)) (walk_in t.children))
      ∙ ap (λ k. map (prepended k) (walk_in t.children)) (take-length key) in
      ap (λ k. map (prepended k) (own_pair t.value ++ walk_in t.children)) (sym ek)
      ∙ own-first key t.value (walk_in t.children)
      ∙ ap (λ l. pair_at key t.value ++ l) (sym below)

  pub started-work : (t : Tree K V) (front : ℕ) (path : List OpenNode) → path ≡ opened t front
      → outer_work (rows_at t path) < 1 + 2 * nodes t
  started-work t front path ep = grind arith

  -- a step out of the node that a path leads to, of which nothing is left
  pub left-node : (root : Tree K V) (path now : List OpenNode) (t : Tree K V) (d : ℕ) (place : OpenNode) (key : List K) (front next : ℕ)
      → IsReached root path t d → place ≡ get_or path d place → skip place.entered t.children ≡ bare → now ≡ take d path
      → next ≡ min place.base front
      → (rows_left (take front key) (rows_at root path) ≡ rows_left (take next key) (rows_at root now))
      × (outer_work (rows_at root now) < outer_work (rows_at root path))
  left-node root path now t d place key front next r e es en ex =
      let back : rows_at root now ≡ r.above = ap (rows_at root) (en ∙ sym (append-nil (take d path))) ∙ r.rows [] in
      let whole : rows_at root path ≡ (bare, place.base) ∷ r.above = r.here place e ∙ ap (λ f. (f, place.base) ∷ r.above) es in
      let work = ap outer_work whole in
      let less = ap outer_work back in (
        ap (rows_left (take front key)) whole
            ∙ ap (λ k. rows_left k r.above) (take-taken place.base front key ∙ ap (λ n. take n key) (sym ex))
            ∙ ap (rows_left (take next key)) (sym back),
        omega (arith, work, less),
      )

  -- a step to a child of it
  pub entered-node : (root : Tree K V) (path now : List OpenNode) (t c : Tree K V) (d : ℕ) (place : OpenNode)
      (key spelled : List K) (front next base : ℕ)
      → IsReached root path t d → place ≡ get_or path d place → tree_at place.entered t.children ≡ Some c
      → skip place.entered t.children ≡ grow c.prefix c.value c.children (skip (suc place.entered) t.children)
      → spelled ≡ take (min place.base front) key ++ c.prefix → next ≡ length spelled → base ≡ next - length c.prefix
      → now ≡ (take d path ++ record { entered = place.entered + 1; base = base } ∷ []) ++ opened c next
      → (rows_left (take front key) (rows_at root path)
      ≡ pair_at spelled c.value ++ rows_left (take next spelled) (rows_at root now))
      × (outer_work (rows_at root now) < outer_work (rows_at root path))
  entered-node root path now t c d place key spelled front next base r e ec es ek ex eb en =
      let others = skip (suc place.entered) t.children in
      let k = take front key in
      let beside : OpenNode = record { entered = place.entered + 1; base = base } in
      let back : rows_at root now ≡ rows_at c (opened c next) ++ (others, base) ∷ r.above =
      ap (rows_at root) (en ∙ append_assoc (take d path) (beside ∷ []) (opened c next)) ∙ r.rows (beside ∷ opened c next)
      ∙ ap (λ xs. xs ++ r.above) (rows-open t c beside (opened c next)
      (ap (λ n. entered n t.children) (add-one place.entered) ∙ ec))
      ∙ append_assoc (rows_at c (opened c next)) ((skip (place.entered + 1) t.children, base) ∷ []) r.above
      ∙ ap (λ n. rows_at c (opened c next) ++ (skip n t.children, base) ∷ r.above) (add-one place.entered) in
      let whole : rows_at root path ≡ (grow c.prefix c.value c.children others, place.base) ∷ r.above =
      r.here place e ∙ ap (λ f. (f, place.base) ∷ r.above) es in
      let spelt : spelled ≡ take place.base k ++ c.prefix =
      ek ∙ ap (λ q. q ++ c.prefix) (sym (take-taken place.base front key)) in
      let all : take next spelled ≡ spelled = ap (λ n. take n spelled) ex ∙ take-length spelled in
      let work = ap outer_work whole in
      let less = ap outer_work back in
      let most = opened-work c next ((others, base) ∷ r.above) in (
        ap (rows_left k) whole
            ∙ entered_row k spelled c.prefix c.value c.children others place.base r.above spelt
            ∙ ap (λ n. pair_at spelled c.value ++ rows_left spelled ((c.children, length spelled) ∷ (others, n) ∷ r.above))
            (ap (λ n. n - length c.prefix) (sym ex) ∙ sym eb)
            ∙ ap (λ l. pair_at spelled c.value ++ l)
            (sym (opened-rows c spelled ((others, base) ∷ r.above))
            ∙ ap (λ n. rows_left spelled (rows_at c (opened c n) ++ (others, base) ∷ r.above)) (sym ex)
            ∙ ap (rows_left spelled) (sym back) ∙ ap (λ q. rows_left q (rows_at root now)) (sym all)),
        omega (arith, work, less, most),
      )

  -- behind the trees before a place stands the tree at it
  pub skip-more : (n : ℕ) (f : Forest K V) (c : Tree K V) → tree_at n f ≡ Some c
      → skip n f ≡ grow c.prefix c.value c.children (skip (suc n) f)
  skip-more (suc n) (grow p v kids rest) c e = grind (arith, skip-more n rest c)
  skip-more n f c e = grind arith

  -- and nothing where there is none
  pub skip-all : (n : ℕ) (f : Forest K V) → tree_at n f ≡ None → skip n f ≡ bare
  skip-all zero (grow p v kids rest) e = cc
  skip-all (suc n) (grow p v kids rest) e = skip-all n rest e
  skip-all n f e = grind arith

module _ {K V T : Type 0} (tree : T → Tree K V) where
  -- the tree at a place of a list
  pub tree-of_list : (xs : List T) (i : ℕ) (x : T) → i < length xs → tree_at i (seen tree xs) ≡ Some (tree (get_or xs i x))
  tree-of_list (y ∷ ys) (suc i) x h = grind (arith, tree-of_list ys i x)
  tree-of_list xs i x h = grind arith

  -- there is none behind it
  pub no_tree-of_list : (xs : List T) (i : ℕ) → length xs ≤ i → tree_at i (seen tree xs) ≡ None
  no_tree-of_list (y ∷ ys) (suc i) h = grind (arith, no_tree-of_list ys i)
  no_tree-of_list xs i h = grind arith

  -- a node with children is opened
  pub opened-some : (kids : List T) (t : Tree K V) (base : ℕ) → seen tree kids ≡ t.children → (length kids == 0) ≡ false
      → opened t base ≡ record { entered = 0; base = base } ∷ []
  opened-some [] t base ek e = absurd (true≢false e)
  opened-some (x ∷ xs) t base ek e = grind arith

  -- the child that was entered last
  pub last-child : (kids : List T) (f : Forest K V) (count i : ℕ) (r : Option (Bor T)) → count ≡ suc i
      → seen tree kids ≡ f → IfSome r (λ x. x.now ≡ get_or kids i x.now)
      → MatchOption r (length kids ≤ i) (λ _. i < length kids)
      → MatchOption r (entered count f ≡ None) (λ x. entered count f ≡ Some (tree x.now))
  last-child kids f count i r e row same cases = grind (arith, no_tree-of_list, tree-of_list)

  -- a step out of the node, in the words of the program
  pub left-step : (root : Tree K V) (path slice now : List OpenNode) (t : T) (d : ℕ) (place : OpenNode) (key : List K) (front next : ℕ)
      → (kids : List T) → IsReached root slice (tree t) d → slice ≡ path → place ≡ get_or path d place
      → seen tree kids ≡ (tree t).children → length kids ≤ place.entered → now ≡ take d path → next ≡ min place.base front
      → (rows_left (take front key) (rows_at root path) ≡ rows_left (take next key) (rows_at root now))
      × (outer_work (rows_at root now) < outer_work (rows_at root path))
  left-step root path slice now t d place key front next kids r es e ek h en ex =
      let none : tree_at place.entered (tree t).children ≡ None =
      ap (tree_at place.entered) (sym ek) ∙ no_tree-of_list kids place.entered h in
      left-node root path now (tree t) d place key front next (subst (λ xs. IsReached root xs (tree t) d) es r) e
      (skip-all place.entered (tree t).children none) en ex

  -- a step to a child, in the words of the program
  pub entered-step : (root : Tree K V) (path slice path₁ path₂ now : List OpenNode) (t child : T) (d : ℕ) (place : OpenNode)
      → (key spelled p shown : List K) (front least next base : ℕ) (kids : List T) → IsReached root slice (tree t) d
      → slice ≡ path → place ≡ get_or path d place → seen tree kids ≡ (tree t).children → place.entered < length kids
      → child ≡ get_or kids place.entered child → p ≡ (tree child).prefix → least ≡ min place.base front
      → spelled ≡ take least key ++ p → shown ≡ spelled → next ≡ length shown → base ≡ next - length p
      → path₁ ≡ take d path → path₂ ≡ path₁ ++ record { entered = place.entered + 1; base = base } ∷ []
      → now ≡ path₂ ++ opened (tree child) next
      → (rows_left (take front key) (rows_at root path)
      ≡ pair_at spelled (tree child).value ++ rows_left (take next spelled) (rows_at root now))
      × (outer_work (rows_at root now) < outer_work (rows_at root path))
  entered-step root path slice path₁ path₂ now t child d place key spelled p shown front least next base kids r es e
      ek lt eh ep el esp ew ex eb e₁ e₂ e₃ =
      let there : tree_at place.entered (tree t).children ≡ Some (tree child) =
      ap (tree_at place.entered) (sym ek) ∙ tree-of_list kids place.entered child lt ∙ ap (λ y. Some (tree y)) (sym eh) in
      entered-node root path now (tree t) (tree child) d place key spelled front next base
      (subst (λ xs. IsReached root xs (tree t) d) es r) e there
      (skip-more place.entered (tree t).children (tree child) there)
      (esp ∙ (λ i. take (el i) key ++ ep i)) (ex ∙ ap length ew) (eb ∙ ap (λ q. next - length q) ep)
      (e₃ ∙ ap (λ xs. xs ++ opened (tree child) next)
      (e₂ ∙ ap (λ xs. xs ++ record { entered = place.entered + 1; base = base } ∷ []) e₁))

-- a place that is there lies within
pub in-range : {T : Type 0} (P : Bor T → Type 0) (n i : ℕ) (r : Option (Bor T))
    → MatchOption r (n ≤ i) (λ x. (i < n) × P x) → MatchOption r (n ≤ i) (λ _. i < n)
in-range P n i r h = grind arith
