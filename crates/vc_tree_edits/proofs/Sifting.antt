-- Removal and retention at one place: values and trees that are kept or removed.
--     stayed        a tree that stays is what is said of a tree whose values are kept
--     value_stays, value_goes        a value is kept or removed by the verdict on its cover
--     sifted_below, asked_below, asked-cover        the verdict is known to all that is below
use Rattle.std.proofs.Common.{◌≡◌, ℕ, ◌<◌, Bool, true, false, ◌∷◌, List, Option, None, Some, length, arith}
use Rattle.std.specs.Cmp.{IsTotalOrder}
use Rattle.std.specs.declared.cmp.Ordering.{Ordering}
use denote.Ref.{Bor}
use denote.Param.Members.{Shared}
use Rattle.vc_tree_model.specs.Asking.{CanJudge}
use Rattle.vc_tree_model.specs.Canonical.{IsCanonical}
use Rattle.vc_tree_model.specs.Cover.{cover}
use Rattle.vc_tree_model.specs.Map.{or_else}
use Rattle.vc_tree_model.specs.Snapshot.{tree_alike_refl}
use Rattle.vc_tree_model.specs.Tree.{Tree, shortened}
use Rattle.vc_tree_model.specs.Value.{IsKept}
use Rattle.vc_tree_facing.specs.Made.{IsMade}
use Rattle.vc_tree_facing.proofs.Copied.{copied-by}
use Rattle.vc_tree_edits.specs.Editing.{IsJudged, IsSiftedBy}

-- a tree that stays is what is said of a tree whose values are kept
pub stayed : {K V : Type 0} (cmp : K → K → Ordering) → IsTotalOrder cmp → (keeps : V → V → Type 0) → ((v : V) → keeps v v)
    → (t u : Tree K V) (i : ℕ) → IsCanonical cmp t → i < length t.prefix → u ≡ shortened i t
    → (S : Option V → Option V → Type 0) → ((v z : Option V) → IsKept keeps v z → S v z)
    → IsMade cmp S (shortened i t) (Some u)
stayed cmp o keeps itself t u i c h e S f =
    rw e (copied-by cmp keeps t (shortened i t) i c h (tree_alike_refl keeps itself (shortened i t)) S f)

module _ {V W : Type 0} (keeps : V → V → Type 0) (may : W → Bool → Type 0) where
  -- a value stays by the verdict on its cover
  pub value_stays : (itself : (v : V) → keeps v v) (known covered : Bool) (stays : Bool → Bool) (v : Option V) (w : Option W)
      → IsJudged may known w covered → stays covered ≡ true → IsSiftedBy keeps may known stays v w v
  value_stays itself known covered stays v w j e = grind arith

  -- or goes
  pub value_goes : (known covered : Bool) (stays : Bool → Bool) (v : Option V) (w : Option W)
      → IsJudged may known w covered → stays covered ≡ false → IsSiftedBy keeps may known stays v w None
  value_goes known covered stays v w j e = grind arith

  -- the verdict is known to all that stands below
  pub sifted_below : (known covered : Bool) (stays : Bool → Bool) (w : Option W) → IsJudged may known w covered
      → (v : Option V) (o : Option W) (z : Option V) → IsSiftedBy keeps may covered stays v o z
      → IsSiftedBy keeps may known stays v (or_else o w) z
  sifted_below known covered stays w j v o z h = grind arith

module _ {W F : Type 0} (g : Shared F (Bor W × Unit {0}) Bool) (f : F) where
  -- what may be asked of a cover may be asked of each longer one
  pub asked_below : (w o : Option W) → CanJudge g f (or_else o w) → CanJudge g f o
  asked_below w o a = grind arith

  -- what may be asked of each value may be asked of each cover
  pub asked-cover : {K : Type 0} (q : List K → Option W) → ((k : List K) → CanJudge g f (q k)) → (k : List K)
      → CanJudge g f (cover q k)
  asked-cover q a (x ∷ k) = grind (arith, asked-cover (λ r. q (x ∷ r)) (λ r. a (x ∷ r)) k)
  asked-cover q a k = grind arith

-- what becomes of the value of a node, and what is asked below it
pub ruleset sifting = (value_stays, value_goes, sifted_below, asked_below)
