-- Tests of the keys of two trees, by what is below the common front of their prefixes.
--     tells-lifted        what is told of the trees without these fronts, is told of both
--     alone-apart, alone-childless        a tree whose keys the other side has not
--     tells-child, tells-in_child        one prefix ends, and the other tree continues in a child
--     bare-or_missed, childless-met        or in none
--     tells-nodes        both prefixes end
use Rattle.std.proofs.Common.{◌≡◌, [], ◌∷◌, ◌++◌, List, Option, None, Some, Bool, true, false, not, ◌⊎◌, arith}
use Rattle.std.proofs.Common.{refl, sym, ◌∙◌}
use Rattle.std.specs.Cmp.{IsTotalOrder, Equal-is, tied_itself}
use Rattle.std.specs.Ordering.{is_eq}
use Rattle.std.specs.Prelude.{MatchBool}
use Rattle.std.specs.declared.cmp.Ordering.{Ordering}
use Rattle.std.specs.declared.cmp.Ordering.TheVariants.{Equal}
use Rattle.vc_tree_model.specs.Key.{same_key}
use Rattle.vc_tree_model.specs.Tree.{Tree, Forest, grow, node, lacks_both}
use Rattle.vc_tree_model.specs.Map.{lookup, lookup_in}
use Rattle.vc_tree_model.specs.Canonical.{AreChildren, IsSolid, IsWhole}
use Rattle.vc_tree_model.specs.Under.{prefixed}
use Rattle.vc_tree_model.proofs.KeyLemmas.{behind-itself, behind-same, same-itself}
use Rattle.vc_tree_model.proofs.LookupLemmas.{lookup-other, lookup_in-skip, lookup_in-same, lookup-same, first-bound}
use Rattle.vc_tree_model.proofs.LookupLemmas.{tree-bound, whole-cases}
use Rattle.vc_tree_model.proofs.UnderLemmas.{lookup-prepended}
use Rattle.vc_tree_nodes.specs.Places.{IsNoChild, IsFoundChild}
use Rattle.vc_tree_combines.specs.Meeting.{IsMet, IsMissed, TellsKeys, TellsKeysIn}

-- a key of the left alone is met where none is to be shared
pub met-alone : {V : Type 0} (W : Type 0) (v : Option V) → IsMet {V = V} {W = W} false v None
met-alone W v = grind arith

module _ {V W : Type 0} where
  -- nothing is said of a key where nothing is missed, whatever is asked
  record IsSilent (shared : Bool) (v : Option V) (w : Option W) : Type 0 where
    met : IsMet shared v w
    not_missed : IsMissed shared v w → ⊥

  silent-left : (shared : Bool) (v : Option V) (w : Option W) → v ≡ None → IsSilent shared v w
  silent-left shared v w e = grind arith

  silent-right : (shared : Bool) (v : Option V) (w : Option W) → shared ≡ false → w ≡ None → IsSilent shared v w
  silent-right shared v w s e = grind arith

module _ {K V W : Type 0} (shared : Bool) where
  -- what an answer tells of two maps
  abbrev Tells : (List K → Option V) → (List K → Option W) → Bool → Type 0
  Tells f g answer =
      MatchBool answer ((k : List K) → IsMet shared (f k) (g k)) ((k : List K) × IsMissed shared (f k) (g k))

  -- two maps have what two others have, or nothing is said of a key in either
  abbrev SaysSame : (List K → Option V) → (List K → Option W) → (List K → Option V) → (List K → Option W) → List K → Type 0
  SaysSame f g f' g' k = ((f' k ≡ f k) × (g' k ≡ g k)) ⊎ (IsSilent shared (f' k) (g' k) × IsSilent shared (f k) (g k))

  tells-where : (f : List K → Option V) (g : List K → Option W) (f' : List K → Option V) (g' : List K → Option W)
      → ((k : List K) → SaysSame f g f' g' k) → (answer : Bool) → Tells f g answer → Tells f' g' answer
  tells-where f g f' g' e answer h = grind arith

  module _ (cmp : K → K → Ordering) (o : IsTotalOrder cmp) where
    -- with equal prefixes before the keys
    tells-prefixed : (p p' : List K) → same_key cmp p p' ≡ true → (f : List K → Option V) (g : List K → Option W) (answer : Bool)
        → Tells f g answer → Tells (prefixed cmp f p) (prefixed cmp g p') answer
    tells-prefixed p p' s f g true h = λ k. grind (arith, behind-same cmp o p p' k s)
    tells-prefixed p p' s f g false h =
        (p ++ h.0, rw (← behind-same cmp o p p' (p ++ h.0) s, behind-itself cmp o p h.0) h.1)

    -- what is told of two trees without equal fronts of their prefixes, is told of the trees
    pub tells-lifted : (t : Tree K V) (u : Tree K W) (p a p' b : List K) (answer : Bool) → t.prefix ≡ p ++ a → u.prefix ≡ p' ++ b
        → same_key cmp p p' ≡ true → TellsKeys cmp shared (node a t.value t.children) (node b u.value u.children) answer
        → TellsKeys cmp shared t u answer
    tells-lifted t u p a p' b answer et eu s h =
        tells-where (prefixed cmp (lookup cmp (node a t.value t.children)) p)
        (prefixed cmp (lookup cmp (node b u.value u.children)) p') (lookup cmp t) (lookup cmp u)
        (λ k. grind (
          arith,
          lookup-prepended cmp p (node a t.value t.children) k,
          lookup-prepended cmp p' (node b u.value u.children) k,
        )) answer
        (tells-prefixed p p' s (lookup cmp (node a t.value t.children)) (lookup cmp (node b u.value u.children)) answer h)

module _ {K : Type 0} (cmp : K → K → Ordering) (o : IsTotalOrder cmp) where
  -- a component that equals another begins an equal key
  same-first : (x y : K) (s : List K) → cmp x y ≡ Equal → same_key cmp (x ∷ s) (y ∷ s) ≡ true
  same-first x y s h = rw h (same-itself cmp o s)

  -- what children have of the keys that begin with a component, one of them has
  in-child : {U : Type 0} (f : Forest K U) (x y : K) (t : Tree K U) (k : List K) → IsFoundChild cmp f x t → cmp x y ≡ Equal
      → lookup_in cmp f (y ∷ k) ≡ lookup cmp t (y ∷ k)
  in-child f x y t k c e =
      let s = same-first x y k e in cc (lookup_in-same cmp o f (x ∷ k) (y ∷ k) s, c.same k, lookup-same cmp o t (x ∷ k) (y ∷ k) s)

  module _ {V W : Type 0} where
    -- a solid tree, of which the other side has no key
    pub alone-apart : (shared : Bool) (x : K) (p : List K) (v : Option V) (f : Forest K V) (g : List K → Option W) → IsSolid v f
        → AreChildren cmp f → ((y : K) (k : List K) → cmp x y ≡ Equal → g (y ∷ k) ≡ None)
        → Tells shared (lookup cmp (node (x ∷ p) v f)) g (not shared)
    alone-apart true x p v f g s c n =
        let b = tree-bound cmp o (x ∷ p) v f s c in
        (x ∷ (p ++ b.key), rw (b.is, n x (p ++ b.key) (tied_itself o x)) refl)
    alone-apart false x p v f g s c n = each
      where
        each : (k : List K) → IsMet false (lookup cmp (node (x ∷ p) v f) k) (g k)
        each [] = tt
        each (y ∷ k) = grind (arith, n y k, lookup-other cmp x y p k v f)

    -- the other side is a tree that begins otherwise
    pub alone-parted : (shared : Bool) (x y : K) (p q : List K) (v : Option V) (w : Option W) (f : Forest K V) (g : Forest K W)
        → IsSolid v f → AreChildren cmp f → is_eq (cmp x y) ≡ false
        → TellsKeys cmp shared (node (x ∷ p) v f) (node (y ∷ q) w g) (not shared)
    alone-parted shared x y p q v w f g s c d =
        alone-apart shared x p v f (lookup cmp (node (y ∷ q) w g)) s c
        (λ z k e. grind (arith, lookup-other cmp y z q k w g))

    -- or a node of whose children none begins so
    pub alone-childless : (shared : Bool) (x : K) (p : List K) (v : Option V) (w : Option W) (f : Forest K V) (g : Forest K W)
        → IsSolid v f → AreChildren cmp f → IsNoChild cmp g x
        → TellsKeys cmp shared (node (x ∷ p) v f) (node [] w g) (not shared)
    alone-childless shared x p v w f g s c n =
        alone-apart shared x p v f (lookup cmp (node [] w g)) s c
        (λ y k e. sym (lookup_in-same cmp o g (x ∷ k) (y ∷ k) (same-first x y k e)) ∙ n k)

    -- the right prefix ends, and the left tree goes on in a child
    pub tells-child : (shared : Bool) (x : K) (p : List K) (v : Option V) (w : Option W) (f : Forest K V) (g : Forest K W)
        (t : Tree K W) (answer : Bool) → IsFoundChild cmp g x t → TellsKeys cmp shared (node (x ∷ p) v f) t answer
        → TellsKeys cmp shared (node (x ∷ p) v f) (node [] w g) answer
    tells-child shared x p v w f g t answer c h =
        grind (arith, tells-where, silent-left, is_eq, in-child, Equal-is, lookup-other, lookup_in)

    -- the left prefix ends, and the right tree goes on in a child
    pub tells-in_child : (y : K) (q : List K) (v : Option V) (w : Option W) (f : Forest K V) (g : Forest K W) (t : Tree K V)
        (answer : Bool) → IsFoundChild cmp f y t → TellsKeys cmp false t (node (y ∷ q) w g) answer
        → TellsKeys cmp false (node [] v f) (node (y ∷ q) w g) answer
    tells-in_child y q v w f g t answer c h =
        grind (arith, tells-where, silent-right, is_eq, in-child, Equal-is, lookup-other, lookup_in)

    -- or in none
    pub childless-met : (y : K) (q : List K) (v : Option V) (w : Option W) (f : Forest K V) (g : Forest K W)
        → IsNoChild cmp f y → TellsKeys cmp false (node [] v f) (node (y ∷ q) w g) true
    childless-met y q v w f g n [] = met-alone W v
    childless-met y q v w f g n (z ∷ k) =
        grind (arith, lookup_in-same cmp o f (y ∷ k) (z ∷ k), same-first y z k, n k, lookup-other cmp y z q k w g)

    -- two children do not both begin as the right tree does
    two-missed : (y : K) (q : List K) (w : Option W) (g : Forest K W) (x z : K) (p r : List K) (v u : Option V)
        (kids more rest : Forest K V) → AreChildren cmp (grow (x ∷ p) v kids (grow (z ∷ r) u more rest))
        → TellsKeys cmp true (node [] None (grow (x ∷ p) v kids (grow (z ∷ r) u more rest))) (node (y ∷ q) w g) false
    two-missed y q w g x z p r v u kids more rest c = by (is_eq (cmp y x)) refl
      where
        by : (b : Bool) → is_eq (cmp y x) ≡ b
            → TellsKeys cmp true (node [] None (grow (x ∷ p) v kids (grow (z ∷ r) u more rest))) (node (y ∷ q) w g) false
        by false e =
            let b = first-bound cmp o (grow (x ∷ p) v kids (grow (z ∷ r) u more rest)) c in
            (x ∷ b.key, rw (b.is, lookup-other cmp y x q b.key w g e) refl)
        by true e =
            let b = first-bound cmp o (grow (z ∷ r) u more rest) c.3 in
            let skip = lookup_in-skip cmp x z p b.key v kids (grow (z ∷ r) u more rest) in
            (z ∷ b.key, grind (arith, b.is, c.2.0, skip, lookup-other cmp y z q b.key w g))

    solid-missed : (y : K) (q : List K) (w : Option W) (g : Forest K W) (v : Option V) (f : Forest K V) → IsSolid v f
        → AreChildren cmp f → (lacks_both v f ≡ false) × TellsKeys cmp true (node [] v f) (node (y ∷ q) w g) false
    solid-missed y q w g (Some v) f s c = (refl, ([], refl))
    solid-missed y q w g None (grow (x ∷ p) v kids (grow (z ∷ r) u more rest)) s c = grind (arith, two-missed)
    solid-missed y q w g v f s c = grind arith

    -- of keys that are to be shared, a tree that is not behind the whole prefix of the right one has some that it has not
    pub bare-or_missed : (y : K) (q p : List K) (w : Option W) (g : Forest K W) (v : Option V) (f : Forest K V) (answer : Bool)
        → IsWhole p v f → AreChildren cmp f → answer ≡ lacks_both v f
        → TellsKeys cmp true (node [] v f) (node (y ∷ q) w g) answer
    bare-or_missed y q p w g v f answer s c e = grind (arith, whole-cases cmp p v f s, solid-missed y q w g v f)

    -- both prefixes end: the values are met, and the children are
    pub tells-nodes : (shared : Bool) (v : Option V) (w : Option W) (f : Forest K V) (g : Forest K W) (below : Bool)
        → IsMet shared v w → TellsKeysIn cmp shared f g below → TellsKeys cmp shared (node [] v f) (node [] w g) below
    tells-nodes shared v w f g true m h = λ k. grind (arith, h)
    tells-nodes shared v w f g false m h = (h.0 ∷ h.1, h.2)
