-- What is removed from a map, and what stays.
--     if-ok        what follows from an outcome
--     parted-below, parted-alone        at one key
--     divides-without, divides-value, divides-joined        what stays, and what is removed as one canonical tree
--     divides-wholly, divides-root        all keys of a tree go
--     removed-left, removed-as, removed-value        a node of which keys go, as a child
--     alike-asked        children that are alike
--     met-child, removed-child, removed-out        the child that the rest leads to
use Rattle.std.proofs.Common.{◌≡◌, ℕ, [], ◌∷◌, ◌++◌, List, Option, None, Some, refl, sym, ap, subst, ◌∙◌}
use Rattle.std.proofs.Common.{arith, true, Bool, get_or, map}
use Rattle.std.specs.Cmp.{IsTotalOrder, Equal-is, tied_itself}
use Rattle.std.specs.Option.{option_and}
use Rattle.std.specs.Prelude.{IfOk, IsSome, Result}
use Rattle.std.specs.declared.cmp.Ordering.{Ordering}
use Rattle.std.specs.declared.cmp.Ordering.TheVariants.{Equal}
use Rattle.vc_tree_model.specs.Canonical.{AreChildren, IsCanonical}
use Rattle.vc_tree_model.specs.Child.{BeginsWith, IsChild, bound_by, solid_child}
use Rattle.vc_tree_model.specs.Key.{behind, same_key}
use Rattle.vc_tree_model.specs.Look.{values}
use Rattle.vc_tree_model.specs.Map.{IsEqualMap, lookup, node_lookup}
use Rattle.vc_tree_model.specs.Same.{IsAlikeIn, IsSame}
use Rattle.vc_tree_model.specs.Snapshot.{kept_itself}
use Rattle.vc_tree_model.specs.Tree.{Tree, Forest, bare, forest, no_tree, node}
use Rattle.vc_tree_model.specs.Under.{under}
use Rattle.vc_tree_model.specs.Value.{IsKept}
use Rattle.vc_tree_model.proofs.AlikeLemmas.{alike-children, alike-lookup, alike-solid}
use Rattle.vc_tree_model.proofs.Joining.{joined-begins, joined-child, joined-same}
use Rattle.vc_tree_model.proofs.KeyLemmas.{behind-append, behind-same}
use Rattle.vc_tree_model.proofs.LookupLemmas.{lookup-same}
use Rattle.vc_tree_model.specs.Places.{look}
use Rattle.vc_tree_model.proofs.Uniqueness.{canonical-same}
use Rattle.vc_tree_model.proofs.ValueLemmas.{kept_by, kept-refl, kept-trans}
use Rattle.vc_tree_nodes.proofs.Finding.{begins-below, lookup_in-at, trees-length}
use Rattle.vc_tree_nodes.proofs.Growing.{alike-first, solid-canonical}
use Rattle.vc_tree_removal.specs.Taking.{Divides, IsBare, IsFoundUnder, IsOut, IsPartedAt, IsWholly, Meets, MeetsAt, Removed}
use Rattle.vc_tree_removal.specs.Taking.{fronted, goes, put, tells, tree_at}
use Rattle.vc_tree_removal.specs.Without.{IsWithoutAll}
use Rattle.vc_tree_removal.specs.declared.removal.Extent.{Extent}
use Rattle.vc_tree_removal.specs.declared.removal.Extent.TheVariants.{Alone, Below}
use Rattle.vc_tree_removal.proofs.Going.{goes-begins, same-tells}
use Rattle.vc_tree_removal.proofs.Reaching.{met-solid}
use Rattle.vc_tree_removal.proofs.Putting.{at-child, at-got, node-parted, replaced}

-- what holds of the value of one outcome, where it follows
pub if-ok : {X E : Type 0} {P Q : X → Type 0} (r : Result X E) → ((x : X) → P x → Q x) → IfOk r P → IfOk r Q
if-ok r f a = grind arith

module _ {K V : Type 0} (keeps : V → V → Type 0) where
  -- what goes of a key that begins so
  parted-below : (l : Option (List K)) (x u y : Option V) → IsPartedAt keeps (tells l Below) x u y
      → IsKept keeps (option_and l x) y
  parted-below l x u y h = grind arith

  -- and of one that goes alone
  parted-alone : (l : Option (List K)) (x z u y : Option V) → (l ≡ Some [] → z ≡ x) → IsPartedAt keeps (tells l Alone) x u y
      → IsKept keeps (node_lookup z (λ k. None) l) y
  parted-alone l x z u y e h = grind arith

module _ {K V : Type 0} {cmp : K → K → Ordering} {keeps : V → V → Type 0} {e : Extent} {key : List K}
    {f g : List K → Option V} {d : Tree K V} (h : Divides cmp keeps e key f g d) where
  -- what stays
  pub divides-without : (test : List K → Bool) → ((k : List K) → test k ≡ goes cmp e key k) → IsWithoutAll keeps test f g
  divides-without test t = grind arith

  -- what goes is one tree: any other canonical one that binds it is the same
  divides-same : IsTotalOrder cmp → (m : Tree K V) → IsCanonical cmp m
      → IsEqualMap keeps (lookup cmp m) (lookup cmp (node h.whole d.value d.children))
      → IsSame cmp keeps m (node h.whole d.value d.children)
  divides-same o m c =
      canonical-same cmp o keeps m (node h.whole d.value d.children) c
      (solid-canonical cmp h.whole d.value d.children h.child.0 h.child.1)

module _ {K V : Type 0} {cmp : K → K → Ordering} {keeps : V → V → Type 0} {key : List K} (o : IsTotalOrder cmp) where
  -- the value of a key that goes alone is that of the node that goes
  pub divides-value : (t : Tree K V) {g : List K → Option V} {d : Tree K V} → Divides cmp keeps Alone key (lookup cmp t) g d
      → IsSome (lookup cmp t key) → IsKept keeps (lookup cmp t key) d.value
  divides-value t h s =
      (divides-same h o (node key (lookup cmp t key) bare) (solid-canonical cmp key (lookup cmp t key) bare (grind arith) tt)
      (λ k. parted-alone keeps (behind cmp key k) _ _ _ _
      (λ b. lookup-same cmp o t key k (same-tells cmp key k ∙ ap (λ l. tells l Alone) b)) (h.parted k))).1

  -- what begins with the key goes as one node, behind the front of another one that binds it
  pub divides-joined : {f g : List K → Option V} {front : List K} {n d : Tree K V} → IsFoundUnder cmp key f front n
      → Divides cmp keeps Below key f g d → (u : Tree K V) → u ≡ node (front ++ n.prefix) d.value d.children
      → IsEqualMap keeps (under cmp f key) (lookup cmp u)
  divides-joined {f} {g} {front} {n} {d} one h u is k =
      let kept : IsEqualMap keeps (under cmp f key) (lookup cmp (node h.whole d.value d.children)) =
      λ k. parted-below keeps (behind cmp key k) _ _ _ (h.parted k) in
      let same =
      divides-same h o (fronted front n) (solid-canonical cmp (front ++ n.prefix) n.value n.children one.child.0 one.child.1)
      (λ k. kept_by keeps _ _ _ _ (one.binds k) refl (kept k)) in
      rw (is, behind-same cmp o (front ++ n.prefix) h.whole k same.0) (kept k)

-- all keys of a tree go, which can stand among children
pub divides-wholly : {K V : Type 0} {cmp : K → K → Ordering} (keeps : V → V → Type 0) → ((v : V) → keeps v v)
    → {e : Extent} {key : List K} (t : Tree K V) (g : List K → Option V) → ((k : List K) → g k ≡ None) → IsWholly cmp e key t
    → IsChild cmp (Some t) → Divides cmp keeps e key (lookup cmp t) g t
divides-wholly {cmp = cmp} keeps r t g n w c =
    record { whole = t.prefix; parted = λ k. grind (arith, n k, w k, kept-refl keeps r (lookup cmp t k)); child = c }

-- and where it is a root, it leaves the empty tree
pub divides-root : {K V : Type 0} {cmp : K → K → Ordering} → IsTotalOrder cmp → (keeps : V → V → Type 0)
    → ((v : V) → keeps v v) → {e : Extent} {key : List K} (t u : Tree K V) → Meets cmp e key (lookup cmp t)
    → IsCanonical cmp t → u ≡ no_tree → IsWholly cmp e key t → Divides cmp keeps e key (lookup cmp t) (lookup cmp u) t
divides-root {cmp = cmp} o keeps r t u m c is w =
    divides-wholly keeps r t (lookup cmp u) (λ k. grind (arith, is)) w (met-solid o t m c, c.1)

-- ---- a node of which keys go

module _ {K V : Type 0} {cmp : K → K → Ordering} {keeps : V → V → Type 0} where
  -- what is left of a node, as a child, is the node without what goes of what stands behind its prefix
  pub removed-left : IsTotalOrder cmp → {e : Extent} {p rest : List K} (v w : Option V) (f g : Forest K V) {d u : Tree K V}
      → Divides cmp keeps e rest (lookup cmp (node [] v f)) (lookup cmp (node [] w g)) d → AreChildren cmp g
      → solid_child p w g ≡ Some u → Removed cmp keeps e p (lookup cmp (node p v f)) (p ++ rest) d u
  removed-left o {e} {p} {rest} v w f g {d} {u} h a is = record {
    divided = record {
      whole = p ++ h.whole;
      parted = λ k.
          let reads = ap (λ s. look cmp (values cmp) s k) (sym is) ∙ joined-same cmp (values cmp) p w g k a in
          grind (arith, behind-append cmp p rest k, reads, behind-append cmp p h.whole k, h.parted);
      child = h.child;
    };
    child = subst (IsChild cmp) is (joined-child cmp p w g a);
    begins = λ y q s. subst (BeginsWith cmp y) is (rw s (joined-begins cmp y y q w g (tied_itself o y)));
  }

  -- what goes of a map with a key, goes of one that it keeps, with an equal key
  pub removed-as : IsTotalOrder cmp → ((u v w : V) → keeps u v → keeps v w → keeps u w) → {e : Extent} {p j key : List K}
      {f g : List K → Option V} {d u : Tree K V} → IsEqualMap keeps f g → same_key cmp j key ≡ true
      → Removed cmp keeps e p g j d u → Removed cmp keeps e p f key d u
  removed-as o trans {j = j} {key = key} {f = f} {g = g} m s h = record {
    divided = record {
      whole = h.divided.whole;
      parted = λ k. grind (arith, behind-same cmp o j key k s, m k, h.divided.parted k, kept-trans keeps trans (f k) (g k));
      child = h.divided.child;
    };
    child = h.child;
    begins = h.begins;
  }

  -- the value of a node goes
  pub removed-value : IsTotalOrder cmp → ((v : V) → keeps v v) → {p : List K} {v : Option V} {f : Forest K V} {u : Tree K V}
      → IsSome v → AreChildren cmp f → IsBare keeps p f u
      → Removed cmp keeps Alone p (lookup cmp (node p v f)) (p ++ []) (node [] v bare) u
  removed-value o r {v = v} {f = f} s a b =
      removed-left o v None f b.kept (record {
        whole = [];
        parted = λ k. grind (arith, kept-refl keeps r v, alike-lookup keeps cmp f b.kept b.alike k);
        child = (grind arith, tt);
      }) (alike-children keeps cmp f b.kept b.alike a) b.is

-- what is asked of children holds of those that are alike
pub alike-asked : {K V : Type 0} {cmp : K → K → Ordering} (keeps : V → V → Type 0) → ((v : V) → keeps v v)
    → {f g : Forest K V} → IsAlikeIn keeps f g → {e : Extent} {rest : List K} {v : Option V} {i : ℕ}
    → MeetsAt cmp e rest v f i → MeetsAt cmp e rest v g i
alike-asked {cmp = cmp} keeps r {f} {g} a {v = v} {i = i} m =
    let solid = alike-solid keeps v v f g (kept_itself keeps r v) a m.solid in
    let canonical = alike-children keeps cmp f g a m.canonical in
    grind (arith, m.leads, alike-first keeps f g i a, m.met, alike-lookup keeps cmp f g a m.met.met)

-- ---- the child that the rest leads to

module _ {K V T : Type 0} {cmp : K → K → Ordering} (o : IsTotalOrder cmp) (tree : T → Tree K V) (xs : List T) {e : Extent}
    {rest : List K} {v : Option V} {i : ℕ} {c : T} (m : MeetsAt cmp e rest v (forest (map tree xs)) i)
    (at : c ≡ get_or xs i c) where
  -- a key that goes begins as the child does
  begins : (x : K) (k : List K) → goes cmp e rest (x ∷ k) ≡ true → cmp m.leads.begins.here x ≡ Equal
  begins x k g =
      let l = m.leads in
      o.congr l.begins.here l.first x ((Equal-is (cmp l.begins.here l.first)).0 l.begins.equal)
      ∙ goes-begins cmp e l.first x l.others k (rw l.key_is at g)

  -- which is the tree at the place
  there : tree_at (forest (map tree xs)) i ≡ tree c
  there = at-got tree xs i (begins-below cmp tree xs m.leads.first i m.leads.begins) refl at

  -- and is bound there
  pub met-child : Meets cmp e rest (lookup cmp (tree c))
  met-child = grind (arith, lookup_in-at, begins)

  module _ {keeps : V → V → Type 0} (r : (v : V) → keeps v v) {p : List K} {u : Tree K V} where
    -- where keys of it go, they go of the node
    pub removed-child : {d : Tree K V} (t : Option (Tree K V))
        → ((z : K) (q : List K) → (tree c).prefix ≡ z ∷ q → BeginsWith cmp z t) → IsChild cmp t
        → Divides cmp keeps e rest (lookup cmp (tree c)) (bound_by cmp t) d
        → solid_child p v (put (forest (map tree xs)) i t) ≡ Some u
        → Removed cmp keeps e p (lookup cmp (node p v (forest (map tree xs)))) (p ++ rest) d u
    removed-child {d} t b k h is =
        let new =
        replaced cmp keeps o r (goes cmp e rest) (lookup cmp (node h.whole d.value d.children)) m.leads.begins.here begins
        (forest (map tree xs)) i t m.leads.begins.at m.canonical k (rw there b) (rw there h.parted) in
        removed-left o v v (forest (map tree xs)) _ (record {
          whole = h.whole;
          parted = node-parted cmp keeps v new (rw m.leads.key_is (kept-refl keeps r v, (rw m.leads.key_is at (h.parted [])).1));
          child = h.child;
        }) new.children is

    -- and where all of them go, it is what goes
    pub removed-out : {d : Tree K V} → IsWholly cmp e rest (tree c) → IsOut tree p v xs i d u
        → Removed cmp keeps e p (lookup cmp (node p v (forest (map tree xs)))) (p ++ rest) d u
    removed-out w out =
        let within = begins-below cmp tree xs m.leads.first i m.leads.begins in
        let child = at-child cmp (forest (map tree xs)) i (rw trees-length within) m.canonical in
        rw (← out.at, there) (removed-child None (λ z q b. tt) tt
        (divides-wholly keeps r (tree c) (λ k. None) (λ k. refl) w (rw there at child)) out.is)
