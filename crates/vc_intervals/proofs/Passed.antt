-- The first boundaries of two sets are passed by how they compare.
use Rattle.std.proofs.Common.{◌≡◌, ℕ, ◌+◌, ◌<◌, Bool, true, false, not, [], ◌∷◌, ◌++◌, length, get_or, Ok, arith}
use mathlib.Core.Bool.{beq}
use Rattle.std.specs.Int.{from_bool}
use Rattle.std.specs.Ordering.{is_le, is_ge}
use Rattle.std.specs.declared.cmp.Ordering.{Ordering}
use Rattle.std.specs.declared.cmp.Ordering.TheVariants.{Less, Equal, Greater}
use Rattle.vc_merge.specs.Chain.{Answer, gives_at}
use Rattle.vc_merge.specs.Takes.{TakesLesser}
use Rattle.vc_merge.proofs.LesserTaken.{one-extends, ends-more}
use Rattle.vc_intervals.specs.declared.combine.Walk.{Walk}
use Rattle.vc_intervals.specs.Events.{passes}
use Rattle.vc_intervals.specs.WalkViews.{built_boundaries, is_in_a, is_in_b, left_boundaries, list_name, right_boundaries}

module _ {X A : Type 0} {n : ℕ} (from : X → X → Type 0) (f : Bool → Bool → Bool) where
  -- what a walk does at the first boundaries
  abbrev Gives : Ordering → Walk X n A → Answer → Walk X n A → Type 0
  Gives o s answer t = gives_at (passes from f is_in_a is_in_b built_boundaries list_name left_boundaries right_boundaries) o s answer t

  -- as the call asks whether what f says changes there
  module _ (s t : Walk X n A) (name : list_name t ≡ list_name s) (o : Ordering) {le ge here next : Bool} (is_lesser : le ≡ is_le o)
      (is_greater : ge ≡ is_ge o) (a : is_in_a t ≡ not (beq (is_in_a s) le)) (b : is_in_b t ≡ not (beq (is_in_b s) ge))
      (before : here ≡ f (is_in_a s) (is_in_b s)) (behind : next ≡ f (is_in_a t) (is_in_b t)) where
    -- the lesser boundary is kept
    pub heads-kept : (x y z c : X) → s.left < length s.a.now → s.right < length s.b.now
        → x ≡ get_or s.a.now s.left x → y ≡ get_or s.b.now s.right y
        → (o ≡ Less → z ≡ x) → (o ≡ Equal → z ≡ x) → (o ≡ Greater → z ≡ y) → from z c
        → built_boundaries t ≡ built_boundaries s ++ c ∷ [] → not (beq here next) ≡ true → Gives o s (Ok true) t
    heads-kept x y z c i j e k p q r w l m = grind (arith, one-extends)

    -- none is
    pub heads-skipped : built_boundaries t ≡ built_boundaries s → not (beq here next) ≡ false → Gives o s (Ok true) t
    heads-skipped l m = grind arith

-- what is left
pub heads-passed : {X A : Type 0} {n : ℕ} (ready : Walk X n A → Type 0) (s t : Walk X n A) (o : Ordering) → t.a.now ≡ s.a.now
    → t.b.now ≡ s.b.now → t.left ≡ s.left + from_bool (is_le o) → t.right ≡ s.right + from_bool (is_ge o) → ready t
    → TakesLesser left_boundaries right_boundaries ready o s (Ok true) t
heads-passed ready s t o a b l r k = grind (arith, ends-more s.a.now t.a.now s.left t.left _ a l, ends-more s.b.now t.b.now s.right t.right _ b r)
