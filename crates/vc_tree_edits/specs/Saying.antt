-- The laws of what changes in place say: it holds of each value that a value is kept from.
use Rattle.std.specs.Prelude.{Bool, true, false, Option, Some, None}
use Rattle.vc_tree_model.specs.Value.{IsKept}
use Rattle.vc_tree_model.specs.Combine.{IsOuterAt}
use Rattle.vc_tree_model.specs.Cover.{StaysOrGoes}
use Rattle.vc_tree_edits.specs.Editing.{KeptThen, CanMeet, IsMetAt, IsSiftedBy}

module _ {V : Type 0} (keeps : V → V → Type 0) (over : (u v w : V) → keeps u v → keeps v w → keeps u w) where
  stays_kept : (b : Bool) (u v : V) (z : Option V) → keeps u v → StaysOrGoes keeps b v z → StaysOrGoes keeps b u z
  stays_kept true u v (Some z) k h = over u v z k h
  stays_kept true u v None k h = absurd h
  stays_kept false u v z k h = h

  module _ {W : Type 0} where
    pub sifted_kept : (may : W → Bool → Type 0) (known : Bool) (stays : Bool → Bool) (u v : Option V) (w : Option W)
        (z : Option V) → IsKept keeps u v → IsSiftedBy keeps may known stays v w z → IsSiftedBy keeps may known stays u w z
    sifted_kept may known stays None None w z k h = h
    sifted_kept may known stays None (Some v) w z k h = absurd k
    sifted_kept may known stays (Some u) None w z k h = absurd k
    sifted_kept may known stays (Some u) (Some v) w z k h = (h.0, h.1, stays_kept (stays h.0) u v z k h.2)

    pub met_kept : (b : Bool) (may : V → W → Option V → Type 0) (u v : Option V) (w : Option W) (z : Option V)
        → IsKept keeps u v → IsMetAt keeps b (KeptThen keeps may) v w z → IsMetAt keeps b (KeptThen keeps may) u w z
    met_kept b may None None w z k h = h
    met_kept b may None (Some v) w z k h = absurd k
    met_kept b may (Some u) None w z k h = absurd k
    met_kept b may (Some u) (Some v) None z k h = stays_kept b u v z k h
    met_kept b may (Some u) (Some v) (Some w) z k h = (h.0, over u v h.0 k h.1, h.2)

    pub meet_kept : (takes : V → W → Type 0) (u v : Option V) (w : Option W) → IsKept keeps u v → CanMeet keeps takes u w
        → CanMeet keeps takes v w
    meet_kept takes None None w k h = h
    meet_kept takes None (Some v) w k h = absurd k
    meet_kept takes (Some u) None w k h = absurd k
    meet_kept takes (Some u) (Some v) None k h = h
    meet_kept takes (Some u) (Some v) (Some w) k h = λ x e. h x (over u v x k e)

  pub outer_kept : (is_clone : V → V → Type 0) (may : V → V → Option V → Type 0) (u v : Option V) (w : Option V) (z : Option V)
      → IsKept keeps u v → IsOuterAt keeps is_clone (KeptThen keeps may) v w z
      → IsOuterAt keeps is_clone (KeptThen keeps may) u w z
  outer_kept is_clone may None None w z k h = h
  outer_kept is_clone may None (Some v) w z k h = absurd k
  outer_kept is_clone may (Some u) None w z k h = absurd k
  outer_kept is_clone may (Some u) (Some v) None (Some z) k h = over u v z k h
  outer_kept is_clone may (Some u) (Some v) None None k h = absurd h
  outer_kept is_clone may (Some u) (Some v) (Some w) z k h = (h.0, over u v h.0 k h.1, h.2)

-- a value of only the left may stay
pub outer_left : {V : Type 0} (keeps is_clone : V → V → Type 0) (may : V → V → Option V → Type 0) (v z : Option V)
    → IsKept keeps v z → IsOuterAt keeps is_clone (KeptThen keeps may) v None z
outer_left keeps is_clone may None None k = tt
outer_left keeps is_clone may None (Some z) k = absurd k
outer_left keeps is_clone may (Some v) None k = absurd k
outer_left keeps is_clone may (Some v) (Some z) k = k
