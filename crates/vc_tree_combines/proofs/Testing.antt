-- What the steps of a test of keys say of the trees whose prefixes they compared.
--     parted-told        the prefixes part
--     inside-told, inside-none        the right one ends inside the left one
--     behind-told        the left one ends
--     within-told, within-none, within-bare        the right one continues after it
--     both-told        both end
--     some-at        a place before the end
--     found_in        a component that was read
--     found-agrees, agree-flip        the child that is found
use Rattle.std.proofs.Common.{◌≡◌, ℕ, zero, suc, ◌+◌, ◌<◌, ◌≤◌, [], ◌∷◌, List, Option, Some, Bool, true, false}
use Rattle.std.proofs.Common.{not, ◌⊎◌, refl, sym, ap, ◌∙◌, take, drop, length, slice_get, get_or}
use Rattle.std.proofs.Common.{arith}
use Rattle.std.proofs.lemmas.List.{take-append-drop, drop-drop}
use Rattle.std.proofs.lemmas.Option.{slice_get_read}
use Rattle.std.proofs.Math.ListN.{drop_of_length-le}
use Rattle.std.proofs.Math.Seq.{drop-length}
use Rattle.std.specs.Cmp.{IsTotalOrder}
use Rattle.std.specs.Ordering.{is_eq}
use Rattle.std.specs.declared.cmp.Ordering.{Ordering}
use Rattle.vc_tree_model.specs.Tree.{Tree, Forest, node, lacks_both, shortened}
use Rattle.vc_tree_model.specs.Canonical.{IsSolid, IsWhole, IsCanonical}
use Rattle.vc_tree_model.proofs.KeyLemmas.{same-flip}
use Rattle.vc_tree_model.proofs.Shortening.{shortened-canonical}
use Rattle.vc_tree_nodes.specs.Parting.{Agree, PartsAt, IsParting}
use Rattle.vc_tree_nodes.specs.Places.{IsNoChild, IsFoundChild}
use Rattle.vc_tree_nodes.specs.declared.parting.Parting.{Parting}
use Rattle.vc_tree_nodes.specs.declared.parting.Parting.TheVariants.{Lower, Higher}
use Rattle.vc_tree_combines.specs.Meeting.{IsMet, TellsKeys, TellsKeysIn}
use Rattle.vc_tree_combines.proofs.Meeting.{tells-lifted, alone-parted, alone-childless, tells-child, tells-in_child}
use Rattle.vc_tree_combines.proofs.Meeting.{childless-met, bare-or_missed, tells-nodes}
use Rattle.vc_tree_facing.proofs.Opening.{goes-on}

-- what goes on with a component is solid
solid-by : {K V : Type 0} (p : List K) (n : ℕ) (x : K) (v : Option V) (f : Forest K V) → slice_get p n ≡ Some x → IsWhole p v f
    → IsSolid v f
solid-by p n x v f e w = grind arith

-- a component that was read
pub found_in : {K : Type 0} (p q : List K) (n : ℕ) (x : K) → p ≡ q → n < length p → x ≡ get_or p n x → slice_get q n ≡ Some x
found_in p q n x e h w = rw (← e) (slice_get_read p (length p) n x refl h w)

-- a place before the end has a component
pub some-at : {K : Type 0} (p : List K) (n : ℕ) → n < length p → (y : K) × (slice_get p n ≡ Some y)
some-at (x ∷ p) zero h = (x, refl)
some-at (x ∷ p) (suc n) h = some-at p n (omega (arith, h))
some-at [] n h = absurd (omega (arith, h))

module _ {K : Type 0} {cmp : K → K → Ordering} (o : IsTotalOrder cmp) where
  -- two keys agree either way round
  pub agree-flip : (p q : List K) (n : ℕ) → Agree cmp p q n → Agree cmp q p n
  agree-flip p q n a = grind (arith, same-flip)

  -- a child that is found agrees with what is left in one component
  pub found-agrees : {V : Type 0} (f : Forest K V) (t : Tree K V) (x : K) (p : List K) → slice_get p 0 ≡ Some x
      → IsFoundChild cmp f x t → Agree cmp t.prefix p 1
  found-agrees f t x [] e c = grind arith
  found-agrees f t x (z ∷ p) e c = grind arith

  module _ {V W : Type 0} (shared : Bool) (t : Tree K V) (u : Tree K W) (i j : ℕ) {p q : List K} (ep : p ≡ drop i t.prefix)
      (eq : q ≡ drop j u.prefix) where
    -- the trees without equal fronts of their prefixes
    lifted : (n : ℕ) (answer : Bool) → Agree cmp p q n
        → TellsKeys cmp shared (node (drop n (drop i t.prefix)) t.value t.children)
        (node (drop n (drop j u.prefix)) u.value u.children) answer
        → TellsKeys cmp shared (shortened i t) (shortened j u) answer
    lifted n answer h m =
        tells-lifted shared cmp o (shortened i t) (shortened j u) (take n (drop i t.prefix)) (drop n (drop i t.prefix))
        (take n (drop j u.prefix)) (drop n (drop j u.prefix)) answer (sym (take-append-drop n (drop i t.prefix)))
        (sym (take-append-drop n (drop j u.prefix))) (rw (ep, eq) at h).same m

    -- the left prefix ends, inside the right one or with it
    pub behind-told : (answer : Bool) → Agree cmp p q (length p)
        → TellsKeys cmp shared (shortened (length t.prefix) t) (shortened (j + length p) u) answer
        → TellsKeys cmp shared (shortened i t) (shortened j u) answer
    behind-told answer h m =
        let none : drop (length p) (drop i t.prefix) ≡ drop (length t.prefix) t.prefix =
        rw (drop-length t.prefix, ← ep) (drop-length p) in
        lifted (length p) answer h (rw (none, drop-drop (length p) j u.prefix) m)

    module _ (c : IsCanonical cmp t) where
      solid : (n : ℕ) (x : K) → slice_get (drop i t.prefix) n ≡ Some x → IsSolid t.value t.children
      solid n x e = solid-by (drop i t.prefix) n x t.value t.children e (shortened-canonical cmp i t c).0

      parted-by : (order : Ordering) (n : ℕ) → is_eq order ≡ false → PartsAt cmp order p q n
          → TellsKeys cmp shared (shortened i t) (shortened j u) (not shared)
      parted-by order n d h =
          let k = rw (ep, eq) at h in
          let gx = goes-on n (drop i t.prefix) k.old k.old_at in
          let gy = goes-on n (drop j u.prefix) k.new k.new_at in
          lifted n (not shared) h.agree (rw (gx.1, gy.1)
          (alone-parted cmp o shared k.old k.new gx.0 gy.0 t.value u.value t.children u.children (solid n k.old k.old_at) c.1
          (ap is_eq k.ordered ∙ d)))

      -- the prefixes part
      pub parted-told : (parting : Parting) → IsParting cmp p q parting
          → ((n : ℕ) × (parting ≡ Lower n)) ⊎ ((n : ℕ) × (parting ≡ Higher n))
          → TellsKeys cmp shared (shortened i t) (shortened j u) (not shared)
      parted-told parting h s = grind (arith, parted-by)

      module _ (n : ℕ) (x : K) (h : Agree cmp p q n × (n ≡ length q) × (n < length p)) (ex : slice_get p n ≡ Some x) where
        goes : (rest : List K) × (drop n (drop i t.prefix) ≡ x ∷ rest)
        goes = goes-on n (drop i t.prefix) x (rw ep at ex)

        ended : drop n (drop j u.prefix) ≡ []
        ended = rw (← eq) (drop_of_length-le q (omega (arith, h.1)))

        -- the right prefix ends, and the left tree goes on in a child
        pub inside-told : (g : Forest K W) (kid : Tree K W) (answer : Bool) → g ≡ u.children → IsFoundChild cmp g x kid
            → TellsKeys cmp shared (shortened (i + n) t) kid answer
            → TellsKeys cmp shared (shortened i t) (shortened j u) answer
        inside-told g kid answer e k m =
            lifted n answer h.0 (rw (goes.1, ended)
            (tells-child cmp o shared x goes.0 t.value u.value t.children u.children kid answer (rw (← e) k)
            (rw (← (drop-drop n i t.prefix), goes.1) at m)))

        -- or in none
        pub inside-none : (g : Forest K W) → g ≡ u.children → IsNoChild cmp g x
            → TellsKeys cmp shared (shortened i t) (shortened j u) (not shared)
        inside-none g e k =
            lifted n (not shared) h.0 (rw (goes.1, ended)
            (alone-childless cmp o shared x goes.0 t.value u.value t.children u.children (solid n x (rw ep at ex)) c.1
            (rw (← e) k)))

        -- the child agrees with what is left
        pub inside-agrees : (g : Forest K W) (kid : Tree K W) → IsFoundChild cmp g x kid
            → Agree cmp (drop (i + n) t.prefix) kid.prefix 1
        inside-agrees g kid k =
            let e : slice_get (drop (i + n) t.prefix) 0 ≡ Some x = rw (← (drop-drop n i t.prefix), goes.1) refl in
            agree-flip kid.prefix (drop (i + n) t.prefix) 1 (found-agrees g kid x (drop (i + n) t.prefix) e k)

  -- ---- the left prefix has ended

  module _ {V W : Type 0} (t : Tree K V) (u : Tree K W) (n : ℕ) where
    at-ends : (shared : Bool) (b : List K) (answer : Bool) → drop n u.prefix ≡ b
        → TellsKeys cmp shared (node [] t.value t.children) (node b u.value u.children) answer
        → TellsKeys cmp shared (shortened (length t.prefix) t) (shortened n u) answer
    at-ends shared b answer e h = grind (arith, drop_of_length-le)

    module _ (y : K) (ey : slice_get u.prefix n ≡ Some y) where
      -- the right tree goes on in a child
      pub within-told : (shared : Bool) (f : Forest K V) (kid : Tree K V) (answer : Bool) → shared ≡ false → f ≡ t.children
          → IsFoundChild cmp f y kid → TellsKeys cmp shared kid (shortened n u) answer
          → TellsKeys cmp shared (shortened (length t.prefix) t) (shortened n u) answer
      within-told shared f kid answer s e k m = grind (arith, goes-on, at-ends, tells-in_child)

      -- or in none
      pub within-none : (shared : Bool) (f : Forest K V) → shared ≡ false → f ≡ t.children → IsNoChild cmp f y
          → TellsKeys cmp shared (shortened (length t.prefix) t) (shortened n u) true
      within-none shared f s e k =
          let g = goes-on n u.prefix y ey in
          at-ends shared (y ∷ g.0) true g.1
          (rw s (childless-met cmp o y g.0 t.value u.value t.children u.children (rw (← e) k)))

      -- keys that are to be shared
      pub within-bare : (shared : Bool) (answer : Bool) → IsCanonical cmp t → shared ≡ true → answer
          ≡ lacks_both t.value t.children
          → TellsKeys cmp shared (shortened (length t.prefix) t) (shortened n u) answer
      within-bare shared answer c s e = grind (arith, goes-on, at-ends, bare-or_missed)

    -- both end
    pub both-told : (shared : Bool) (f : Forest K V) (g : Forest K W) (v : Option V) (w : Option W) (below : Bool)
        → length u.prefix ≤ n → f ≡ t.children → g ≡ u.children → v ≡ t.value → w ≡ u.value → IsMet shared v w
        → TellsKeysIn cmp shared f g below
        → TellsKeys cmp shared (shortened (length t.prefix) t) (shortened n u) below
    both-told shared f g v w below l ef eg ev ew m h = grind (arith, at-ends, drop_of_length-le, tells-nodes)
