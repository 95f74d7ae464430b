-- A state that takes the lesser one of two first elements without a branch.
use Rattle.std.proofs.Common.{◌≡◌, ℕ, ◌+◌, ◌<◌, Bool, true, false, List, [], ◌∷◌, ◌++◌, take, drop, length, get_or, Ok, Err}
use Rattle.std.proofs.Common.{refl, arith, drop-drop, length-drop, length-append, ◌-◌, ◌≤◌}
use Rattle.std.specs.Int.{from_bool}
use Rattle.std.specs.Ordering.{is_le, is_ge, is_eq}
use Rattle.std.specs.declared.cmp.Ordering.{Ordering}
use Rattle.std.specs.declared.cmp.Ordering.TheVariants.{Less, Equal, Greater}
use Rattle.std.specs.declared.alloc.AllocError.{AllocError}
use Rattle.vc_merge.specs.declared.choosing.ChoosingState.{ChoosingState}
use Rattle.vc_merge.specs.Building.{Extends, Advances, Skips}
use Rattle.vc_merge.specs.Both.{TakesOne, TakesLeftOne, taken_at}
use Rattle.vc_merge.specs.Chain.{Answer}
use Rattle.vc_merge.specs.ChoosingViews.{built_items, left_items, right_items, list_name}
use Rattle.vc_merge.specs.Takes.{TakesLesser}
use Rattle.vc_merge.proofs.Runs.{drop-at}

module _ {X : Type 0} (from : X → X → Type 0) where
  -- one element is taken
  pub one-extends : (xs old new : List X) (i : ℕ) (x c : X) → i < length xs → x ≡ get_or xs i x → from x c → new ≡ old ++ c ∷ []
      → Extends from (take 1 (drop i xs)) old new
  one-extends xs old new i x c h e f p = record { added = c ∷ []; come = grind (arith, drop-at xs i x); items = p }

-- what is left behind some elements more
pub ends-more : {X : Type 0} (xs ys : List X) (i j m : ℕ) → ys ≡ xs → j ≡ i + m → drop j ys ≡ drop m (drop i xs)
ends-more xs ys i j m e f = grind (arith, drop-drop)

module _ {X A : Type 0} {n : ℕ} (from : X → X → Type 0) where
  abbrev Takes : Ordering → Bool → ChoosingState X n A → Answer → ChoosingState X n A → Type 0
  Takes heads both s answer t = TakesOne (Advances built_items list_name from left_items)
      (λ s n answer t. Skips built_items list_name s answer t)
      (λ s n answer t. Advances built_items list_name from right_items s n true answer t) heads both s answer t

  -- the lesser element was taken
  pub one-taken : (s t : ChoosingState X n A) (heads : Ordering) (both : Bool) (x y z c : X) → list_name t ≡ list_name s
      → s.left < length s.a.now → s.right < length s.b.now → x ≡ get_or s.a.now s.left x → y ≡ get_or s.b.now s.right y
      → (heads ≡ Less → z ≡ get_or s.a.now s.left x) → (heads ≡ Equal → z ≡ get_or s.a.now s.left x)
      → (heads ≡ Greater → z ≡ get_or s.b.now s.right y) → from z c
      → built_items t ≡ built_items s ++ c ∷ [] → (heads ≡ Equal → both ≡ true) → Takes heads both s (Ok true) t
  one-taken s t Equal both x y z c k h i e f p q r w b o =
      record { between = t; answered = Ok true; first = grind (arith, one-extends); second = grind arith }
  one-taken s t heads both x y z c k h i e f p q r w b o = grind (arith, one-extends)

  abbrev TakesOfLeft : Ordering → Bool → Bool → ChoosingState X n A → Answer → ChoosingState X n A → Type 0
  TakesOfLeft heads left both s answer t = TakesLeftOne (Advances built_items list_name from left_items)
      (λ s n answer t. Skips built_items list_name s answer t) heads left both s answer t

  -- the left element was taken
  pub left-taken : (s t : ChoosingState X n A) (heads : Ordering) (left both : Bool) (x c : X) → list_name t ≡ list_name s
      → s.left < length s.a.now → x ≡ get_or s.a.now s.left x → from x c → built_items t ≡ built_items s ++ c ∷ []
      → taken_at heads left false both ≡ true → TakesOfLeft heads left both s (Ok true) t
  left-taken s t Equal left both x c k h e w b o =
      record { between = t; answered = Ok true; first = grind (arith, one-extends); second = grind arith }
  left-taken s t heads left both x c k h e w b o = grind (arith, one-extends)

  -- none was taken
  pub left-passed : (s t : ChoosingState X n A) (heads : Ordering) (left both : Bool) → list_name t ≡ list_name s
      → built_items t ≡ built_items s → taken_at heads left false both ≡ false → TakesOfLeft heads left both s (Ok true) t
  left-passed s t Equal left both k b o = record { between = t; answered = Ok true; first = grind arith; second = grind arith }
  left-passed s t heads left both k b o = grind arith

  -- memory or a clone was refused
  pub left-refused : (s t : ChoosingState X n A) (heads : Ordering) (left both : Bool) (x : AllocError) (answer : Answer)
      → answer ≡ Err x → TakesOfLeft heads left both s answer t
  left-refused s t Equal left both x answer e = record { between = t; answered = Err x; first = tt; second = (e, refl) }
  left-refused s t heads left both x answer e = grind arith

  pub one-refused : (s t : ChoosingState X n A) (heads : Ordering) (both : Bool) (x : AllocError) (answer : Answer)
      → answer ≡ Err x → Takes heads both s answer t
  one-refused s t Equal both x answer e = record { between = t; answered = Err x; first = tt; second = (e, refl) }
  one-refused s t heads both x answer e = grind arith

  -- both were skipped
  pub both-skipped : (s t : ChoosingState X n A) (heads : Ordering) (both : Bool) {b : Bool} → b ≡ is_eq heads → b ≡ true
      → both ≡ false → list_name t ≡ list_name s → built_items t ≡ built_items s → Takes heads both s (Ok true) t
  both-skipped s t Equal both e f h k b = record { between = t; answered = Ok true; first = grind arith; second = grind arith }
  both-skipped s t heads both e f h k b = grind arith

  -- what is left
  pub one-passed : (ready : ChoosingState X n A → Type 0) (s t : ChoosingState X n A) (heads : Ordering) {le ge : Bool}
      → le ≡ is_le heads → ge ≡ is_ge heads
      → t.a.now ≡ s.a.now → t.b.now ≡ s.b.now → t.left ≡ s.left + from_bool le → t.right ≡ s.right + from_bool ge → ready t
      → TakesLesser left_items right_items ready heads s (Ok true) t
  one-passed ready s t heads le ge a b l r k =
      let x = ends-more s.a.now t.a.now s.left t.left in let y = ends-more s.b.now t.b.now s.right t.right in
      grind (arith, x 0 a, x 1 a, y 0 b, y 1 b)

-- ---- what the tests of the call say

pub eq-not : (o : Ordering) {b both : Bool} → b ≡ is_eq o → b ≡ false → o ≡ Equal → both ≡ true
eq-not o e f k = grind arith

pub eq-both : (o : Ordering) {b : Bool} → b ≡ is_eq o → b ≡ true → (true ≡ is_le o) × (true ≡ is_ge o)
eq-both o e f = grind arith

pub within-left : {X : Type 0} (xs : List X) (i : ℕ) → 0 < length (drop i xs) → i < length xs
within-left xs i h = omega (arith, h, length-drop i xs)

-- room for one less, once one was pushed
pub room-one : {X : Type 0} (xs : List X) {ys : List X} (y : X) {cap cap' room : ℕ} → ys ≡ xs ++ y ∷ [] → cap' ≡ cap → 0 < room
    → length xs + room ≤ cap → length ys + (room - 1) ≤ cap'
room-one xs {ys} y {cap} {cap'} {room} e k h r = grind (arith, length-append)
