-- What a tree is after a change of the value of one key, and what the closure may do.
use Rattle.std.specs.Prelude.{◌≡◌, List, Option, Some, None, ⊤}
use denote.Ref.{MutBor}
use denote.Param.Members.{Shared}
use Rattle.std.specs.declared.cmp.Ordering.{Ordering}
use Rattle.vc_tree_model.specs.Canonical.{AreChildren}
use Rattle.vc_tree_model.specs.Map.{lookup, lookup_in, IsInserted, IsUpdated}
use Rattle.vc_tree_model.specs.Tree.{Tree, Forest}
use Rattle.vc_tree_nodes.specs.Growth.{Inserted}

module _ {V F R : Type 0} (g : Shared F (MutBor V × Unit {0}) (R × (MutBor V × Unit {0}))) (f : F) where
  -- a call at the value v itself may leave z, and answer r
  pub record MayWrite (v z : V) (r : R) : Type 0 where
    pub given : MutBor V
    pub shows : given.now ≡ v
    pub left : MutBor V
    pub answers : g.post f (given, tt) (r, (left, tt))
    pub leaves : z ≡ left.now

  -- it may be called there
  abbrev pub CanWrite : V → Type 0
  CanWrite v = (p : MutBor V) → p.now ≡ v → g.pre f (p, tt)

module _ {V : Type 0} (keeps : V → V → Type 0) where
  -- what may be asked at each value that is kept from the one that is bound, if one is
  abbrev pub CanChange : (V → Type 0) → Option V → Type 0
  CanChange takes None = ⊤
  CanChange takes (Some v) = (kept : V) → keeps v kept → takes kept

  module _ {R : Type 0} (may : V → V → R → Type 0) where
    -- of a value that is kept from the one that was bound, z may result with the answer r
    abbrev pub ComesOf : Option V → V → R → Type 0
    ComesOf None z r = ⊥
    ComesOf (Some v) z r = (kept : V) × keeps v kept × may kept z r

    module _ {K : Type 0} (cmp : K → K → Ordering) (key : List K) (r : R) where
      -- u binds the key to what may result from its value in t with the answer r, and keeps the
      -- other values
      pub record IsChanged (t u : Tree K V) : Type 0 where
        pub new : V
        pub comes : ComesOf (lookup cmp t key) new r
        pub inserted : IsInserted cmp keeps key new t u

      -- the same of nodes: the prefix stays. No public clause cites this word, nor the next one
      pub record Written (t u : Tree K V) : Type 0 where
        pub new : V
        pub comes : ComesOf (lookup cmp t key) new r
        pub inserted : Inserted cmp keeps t key new t.prefix u

      -- the same of children
      pub record WrittenIn (f g : Forest K V) : Type 0 where
        pub new : V
        pub comes : ComesOf (lookup_in cmp f key) new r
        pub updated : IsUpdated cmp keeps key new (lookup_in cmp f) (lookup_in cmp g)
        pub canonical : AreChildren cmp g
