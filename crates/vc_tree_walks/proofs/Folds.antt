-- What a walk that hands a value on does at a node, and may do there.
--     folds-append        one list after another
--     asked-front, asked-back        what may be asked of two lists may be of the first, and then of the second
--     node-pairs        a node's own pair comes before those of its children
--     turned-once        one answer is a walk over one pair
--     stopped-once        one error is the end of a walk over one pair
--     stopped-front, stopped-back        what ends a walk over one of two lists ends it over both
--     handed-on        an error of a walk over some pairs is answered for a walk over more
--     walked, stopped-walk        a fold over a walk, or the end of one, is that of some walk
--     rest-pairs        the pairs of a tree of a list come before those of the trees after it
use Rattle.std.proofs.Common.{◌≡◌, ℕ, suc, ◌+◌, ◌<◌, List, [], ◌∷◌, ◌++◌, ◌∙◌, ◌⊎◌, Ok, Err, IfOk}
use Rattle.std.proofs.Common.{IfErr, IsErrAnd, ap, sym, subst, refl, map, length, drop}
use Rattle.std.proofs.Common.{append_assoc, append-nil, arith, get_or}
use Rattle.std.proofs.Math.Logic.{⊎_map}
use Rattle.std.proofs.Math.Seq.{drop-cons}
use Rattle.std.proofs.lemmas.List.{map-append}
use Rattle.std.specs.List.{FoldsTo}
use Rattle.std.specs.declared.result.Result.{Result}
use denote.Ref.{Bor}
use denote.Param.Members.{Shared}
use Rattle.vc_tree_model.specs.Tree.{Tree}
use Rattle.vc_tree_model.specs.Walk.{own_pair, prepended, walk, walk_in}
use Rattle.vc_tree_nodes.specs.Children.{seen}
use Rattle.vc_tree_walks.specs.Folding.{CanFold, IsStopped, Turns, pairs_in}
use Rattle.vc_tree_walks.specs.Left.{pair_at}
use Rattle.vc_tree_walks.proofs.Rows.{own-first, prepended-twice}

module _ {P A : Type 0} (R : P → A → P → Type 0) where
  -- one list after another
  pub folds-append : (xs ys : List A) (p q r : P) → FoldsTo R p xs q → FoldsTo R q ys r → FoldsTo R p (xs ++ ys) r
  folds-append [] ys p q r e h = subst (λ j. FoldsTo R j ys r) (sym e) h
  folds-append (x ∷ xs) ys p q r h k = (h.0, h.1, folds-append xs ys h.0 q r h.2 k)

module _ {F B K V E : Type 0} (g : Shared F (B × (Bor (List K) × (Bor V × Unit {0}))) (Result B E)) (f : F) where
  -- what may be asked of two lists may be of the first
  pub asked-front : (xs ys : List (List K × V)) (init : B) → CanFold g f init (xs ++ ys) → CanFold g f init xs
  asked-front xs ys init h before after held key value e s =
      h before (after ++ ys) held key value
      (ap (λ l. l ++ ys) e ∙ append_assoc before ((key.now, value.now) ∷ after) ys) s

  -- and then of the second
  pub asked-back : (xs ys : List (List K × V)) (init next : B) → CanFold g f init (xs ++ ys)
      → FoldsTo (Turns g f) init xs next → CanFold g f next ys
  asked-back xs ys init next h t before after held key value e s =
      h (xs ++ before) after held key value
      (ap (λ l. xs ++ l) e ∙ sym (append_assoc xs before ((key.now, value.now) ∷ after)))
      (folds-append (Turns g f) xs before init next held t s)

  -- one answer is a walk over one pair
  pub turned-once : (held : B) (key : Bor (List K)) (value : Bor V) (r : Result B E)
      → g.post f (held, (key, (value, tt))) r → IfOk r (FoldsTo (Turns g f) held ((key.now, value.now) ∷ []))
  turned-once held key value (Ok next) s = (next, record { key = key; value = value; shows = refl; says = s }, refl)
  turned-once held key value (Err e) s = tt

  -- one error is the end of a walk over one pair
  pub stopped-once : (held : B) (key : Bor (List K)) (value : Bor V) (r : Result B E)
      → g.post f (held, (key, (value, tt))) r → IfErr r (IsStopped g f held ((key.now, value.now) ∷ []))
  stopped-once held key value (Ok next) s = tt
  stopped-once held key value (Err e) s =
      record {
        before = [];
        pair = (key.now, value.now);
        after = [];
        held = held;
        parts = refl;
        folded = refl;
        fails = record { key = key; value = value; shows = refl; says = s };
      }

  -- what ends a walk over the first of two lists ends it over both
  pub stopped-front : (xs ys : List (List K × V)) (init : B) (e : E) → IsStopped g f init xs e → IsStopped g f init (xs ++ ys) e
  stopped-front xs ys init e s =
      record {
        before = s.before;
        pair = s.pair;
        after = s.after ++ ys;
        held = s.held;
        parts = ap (λ l. l ++ ys) s.parts ∙ append_assoc s.before (s.pair ∷ s.after) ys;
        folded = s.folded;
        fails = s.fails;
      }

  -- and so does what ends it over the second, behind a walk over the first
  pub stopped-back : (xs ys : List (List K × V)) (init next : B) (e : E) → FoldsTo (Turns g f) init xs next
      → IsStopped g f next ys e → IsStopped g f init (xs ++ ys) e
  stopped-back xs ys init next e t s =
      record {
        before = xs ++ s.before;
        pair = s.pair;
        after = s.after;
        held = s.held;
        parts = ap (λ l. xs ++ l) s.parts ∙ sym (append_assoc xs s.before (s.pair ∷ s.after));
        folded = folds-append (Turns g f) xs s.before init next s.held t s.folded;
        fails = s.fails;
      }

  -- an error of a walk over some pairs is answered for a walk over more
  pub handed-on : (M : E → Type 0) (xs ys : List (List K × V)) (init next : B) (e : E) (r : Result B E) → IsErrAnd r (λ y. y ≡ e)
      → ((x : E) → IsStopped g f next xs x → IsStopped g f init ys x) → M e ⊎ IsStopped g f next xs e
      → IfErr r (λ y. M y ⊎ IsStopped g f init ys y)
  handed-on M xs ys init next e (Ok _) s more o = elim s [ ]
  handed-on M xs ys init next e (Err y) s more o =
      subst (λ x. M x ⊎ IsStopped g f init ys x) (sym s) (⊎_map (λ m. m) (more e) o)

  -- a fold over a walk is one over some walk
  pub walked : (W : List (List K × V) → Type 0) (l : List (List K × V)) (init : B) (r : Result B E) → W l
      → IfOk r (FoldsTo (Turns g f) init l) → IfOk r (λ last. (l : List (List K × V)) × W l × FoldsTo (Turns g f) init l last)
  walked W l init (Ok last) w h = (l, w, h)
  walked W l init (Err e) w h = tt

  -- and so is what ends it
  pub stopped-walk : (M : E → Type 0) (W : List (List K × V) → Type 0) (l : List (List K × V)) (init : B) (r : Result B E) → W l
      → IfErr r (λ e. M e ⊎ IsStopped g f init l e)
      → IfErr r (λ e. M e ⊎ ((l : List (List K × V)) × W l × IsStopped g f init l e))
  stopped-walk M W l init (Ok last) w h = tt
  stopped-walk M W l init (Err e) w h = ⊎_map (λ m. m) (λ s. (l, w, s)) h

module _ {K V : Type 0} where
  -- a node's own pair comes before those of its children
  pub node-pairs : (a : List K) (t : Tree K V) → map (prepended a) (walk t)
      ≡ pair_at (a ++ t.prefix) t.value ++ map (prepended (a ++ t.prefix)) (walk_in t.children)
  node-pairs a t =
      let below = own_pair t.value ++ walk_in t.children in
      ap (map (prepended a)) (sym (append-nil (walk t))) ∙ prepended-twice a t.prefix below []
      ∙ append-nil (map (prepended (a ++ t.prefix)) below) ∙ own-first (a ++ t.prefix) t.value (walk_in t.children)

module _ {K V T : Type 0} (tree : T → Tree K V) where
  -- the pairs of a tree of a list come before those of the trees behind it
  pub rest-pairs : (a : List K) (xs : List T) (i : ℕ) (x : T) → i < length xs → x ≡ get_or xs i x
      → pairs_in tree a (drop i xs) ≡ map (prepended a) (walk (tree x)) ++ pairs_in tree a (drop (i + 1) xs)
  rest-pairs a xs i x h e =
      let next : suc i ≡ i + 1 = omega (arith) in
      let first : drop i xs ≡ x ∷ drop (i + 1) xs =
      drop-cons xs i x h ∙ ap (λ n. get_or xs i x ∷ drop n xs) next ∙ ap (λ y. y ∷ drop (i + 1) xs) (sym e) in
      ap (pairs_in tree a) first ∙ map-append (prepended a) (walk (tree x)) (walk_in (seen tree (drop (i + 1) xs)))

  -- the pairs of a node, whose children stand in a list
  pub node-parts : (a now shown : List K) (x : T) (kids : List T) → now ≡ a ++ (tree x).prefix → shown ≡ now
      → seen tree kids ≡ (tree x).children
      → map (prepended a) (walk (tree x)) ≡ pair_at shown (tree x).value ++ pairs_in tree now kids
  node-parts a now shown x kids en es ek = grind (arith, node-pairs, pairs_in)
