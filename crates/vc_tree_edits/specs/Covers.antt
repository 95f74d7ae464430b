-- How the trees of another map are read as covers of keys: at each key, the value of the longest
-- key that is a prefix of it.
use Rattle.std.proofs.Common.{◌≡◌, [], ◌∷◌, List, Option, None, Some, refl, sym, ap, ◌∙◌, true, false, Bool, cond}
use Rattle.std.specs.Ordering.{is_eq}
use Rattle.std.specs.declared.cmp.Ordering.{Ordering}
use Rattle.vc_tree_model.specs.Key.{behind}
use Rattle.vc_tree_model.specs.Map.{or_else, node_lookup, lookup, lookup_in, or_else-none}
use Rattle.vc_tree_model.specs.Cover.{cover}
use Rattle.vc_tree_model.proofs.CoverNodes.{cover-none}
use Rattle.vc_tree_model.specs.Look.{Look, told}

-- neither of two is there where the first of them that is there is none
none_first : {W : Type 0} (a b : Option W) → or_else a b ≡ None → a ≡ None
none_first None b e = refl
none_first (Some w) b e = cc

none_second : {W : Type 0} (a b : Option W) → or_else a b ≡ None → b ≡ None
none_second None b e = e
none_second (Some w) b e = cc

module _ {K W : Type 0} where
  -- a map that covers nothing adds nothing to the cover by another one
  cover_else : (f g : List K → Option W) (k : List K) → cover g k ≡ None
      → cover (λ r. or_else (f r) (g r)) k ≡ cover f k
  cover_else f g [] e = ap (or_else (f [])) e ∙ or_else-none (f [])
  cover_else f g (x ∷ k) e =
      let below = cover_else (λ r. f (x ∷ r)) (λ r. g (x ∷ r)) k (none_first _ _ e) in
      let here : or_else (f []) (g []) ≡ f [] = ap (or_else (f [])) (none_second _ _ e) ∙ or_else-none (f []) in
      λ i. or_else (below i) (here i)

  -- the cover of a key by a map without the empty key
  abbrev pub long_cover : (List K → Option W) → List K → Option W
  long_cover f [] = None
  long_cover f (x ∷ k) = cover (λ r. f (x ∷ r)) k

  -- what covers a key after the prefix of a node: what is below, or otherwise the node's own value
  pub cover_told : (cmp : K → K → Ordering) (v : Option W) (f : List K → Option W) (p k : List K)
      → cover (λ r. node_lookup v f (behind cmp p r)) k ≡ told None v (λ q. or_else (long_cover f q) v) (behind cmp p k)
  cover_told cmp v f [] [] = refl
  cover_told cmp v f [] (x ∷ k) = refl
  cover_told cmp v f (y ∷ p) [] = refl
  cover_told cmp v f (y ∷ p) (x ∷ k) =
      or_else-none (cover (λ r. node_lookup v f (cond (is_eq (cmp y x)) (behind cmp p r) None)) k)
      ∙ by (is_eq (cmp y x)) (cover_told cmp v f p k)
    where
      by : (b : Bool)
          → cover (λ r. node_lookup v f (behind cmp p r)) k ≡ told None v (λ q. or_else (long_cover f q) v) (behind cmp p k)
          → cover (λ r. node_lookup v f (cond b (behind cmp p r) None)) k
          ≡ told None v (λ q. or_else (long_cover f q) v) (cond b (behind cmp p k) None)
      by true h = h
      by false h = cover-none (λ r. None) (λ r. refl) k

  -- of a tree and others, the others alone cover a key that begins otherwise
  pub cover_skips : (cmp : K → K → Ordering) (v : Option W) (f g : List K → Option W) (p : List K) (y x : K) (q : List K)
      → is_eq (cmp y x) ≡ false
      → cover (λ r. or_else (node_lookup v f (behind cmp (y ∷ p) (x ∷ r))) (g (x ∷ r))) q ≡ cover (λ r. g (x ∷ r)) q
  cover_skips cmp v f g p y x q e = rw e refl

  -- and the tree alone a key that begins as it does, where the others do not
  pub cover_takes : (cmp : K → K → Ordering) (v : Option W) (f g : List K → Option W) (p : List K) (y x : K) (q : List K)
      → cover (λ r. g (x ∷ r)) q ≡ None
      → cover (λ r. or_else (node_lookup v f (behind cmp (y ∷ p) (x ∷ r))) (g (x ∷ r))) q
      ≡ cover (λ r. node_lookup v f (behind cmp (y ∷ p) r)) (x ∷ q)
  cover_takes cmp v f g p y x q n =
      cover_else (λ r. node_lookup v f (behind cmp (y ∷ p) (x ∷ r))) (λ r. g (x ∷ r)) q n
      ∙ sym (or_else-none (cover (λ r. node_lookup v f (behind cmp (y ∷ p) (x ∷ r))) q))

  -- the longest key that is a prefix
  abbrev pub covers : (cmp : K → K → Ordering) → Look cmp W (Option W)
  covers cmp = record {
    none = None;
    at = λ v. v;
    under = λ v o. or_else o v;
    at_none = refl;
    under_none = λ o. or_else-none o;
    of_tree = λ t. cover (lookup cmp t);
    of_forest = λ f. long_cover (lookup_in cmp f);
    in_bare = λ x q. cover-none (λ r. None) (λ r. refl) q;
    skips = λ p v kids rest y x q e. cover_skips cmp v (lookup_in cmp kids) (lookup_in cmp rest) p y x q e;
    takes = λ p v kids rest y x q e n. cover_takes cmp v (lookup_in cmp kids) (lookup_in cmp rest) p y x q n;
    tree_is = λ t k. cover_told cmp t.value (lookup_in cmp t.children) t.prefix k;
  }
