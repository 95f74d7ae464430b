-- A rule decides nothing outside of its path.
use Rattle.std.proofs.Common.{◌≡◌, ℕ, [], ◌∷◌, List, Option, None, Some, Bool, true, false, refl, sym, ap, take, zero, suc}
use Rattle.std.proofs.Common.{rules, if◌then◌else◌}
use Rattle.std.specs.Option.{is_some, unwrap_or}
use Rattle.std.specs.Ordering.{is_eq}
use Rattle.std.specs.Prelude.{IsFalse}
use Rattle.std.specs.declared.cmp.Ordering.{Ordering}
use Rattle.vc_tree_model.specs.Cover.{cover}
use Rattle.vc_tree_model.specs.Key.{behind, same_key}
use Rattle.vc_tree_model.specs.Value.{IsKept}

-- maps that bind alike what a path begins with cover it alike
same-cover : {K W : Type 0} (f g : List K → Option W) (path : List K) → ((n : ℕ) → f (take n path) ≡ g (take n path))
    → cover f path ≡ cover g path
same-cover f g [] same = same 0
same-cover f g (x ∷ path) same =
    let rest : cover (λ r. f (x ∷ r)) path ≡ cover (λ r. g (x ∷ r)) path =
    same-cover (λ r. f (x ∷ r)) (λ r. g (x ∷ r)) path (λ n. same (suc n)) in
    let here : f [] ≡ g [] = same 0 in
    cc

kept-same : (a b : Option Bool) → IsKept (λ v w. v ≡ w) a b → b ≡ a
kept-same None None h = refl
kept-same None (Some w) h = absurd h
kept-same (Some v) None h = absurd h
kept-same (Some v) (Some w) h = ap Some (sym h)

is-false : (b : Bool) → (b ≡ true → true ≡ false) → IsFalse b
is-false true h = absurd (cc (h refl))
is-false false h = search rules

module _ {K : Type 0} (cmp : K → K → Ordering) where
  -- what equals the beginning of a path is one
  begun : (key path : List K) (n : ℕ) → same_key cmp key (take n path) ≡ true → is_some (behind cmp key path) ≡ true
  begun [] path n h = refl
  begun (x ∷ key) [] zero h = cc
  begun (x ∷ key) [] (suc n) h = cc
  begun (x ∷ key) (y ∷ path) zero h = cc
  begun (x ∷ key) (y ∷ path) (suc n) h =
      elim (is_eq (cmp x y)) as (λ b. (if b then same_key cmp key (take n path) else false) ≡ true
      → is_some (if b then behind cmp key path else None) ≡ true) [
        | true ↦ λ e. begun key path n e
        | false ↦ λ e. cc
      ] h

  -- where all other keys are kept, a path that does not start with the key is allowed as before
  pub outside : (f g : List K → Option Bool) (key : List K)
      → ((k : List K) → IsFalse (same_key cmp key k) → IsKept (λ v w. v ≡ w) (f k) (g k)) → (path : List K)
      → is_some (behind cmp key path) ≡ false → unwrap_or (cover g path) false ≡ unwrap_or (cover f path) false
  outside f g key others path none =
      ap (λ o. unwrap_or o false) (same-cover g f path
      (λ n. kept-same (f (take n path)) (g (take n path)) (others (take n path)
      (is-false (same_key cmp key (take n path)) (λ e. let b : is_some (behind cmp key path) ≡ true = begun key path n e in cc)))))
