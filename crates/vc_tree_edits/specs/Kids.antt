-- What a change leaves of the children of a node. No public clause cites these words.
use Rattle.std.specs.Prelude.{◌≡◌, ◌+◌, ◌≤◌, Bool, true, ℕ, List, [], ◌∷◌, Option, None, take, drop, length, IfSome}

-- an only child of a node without a value is apart; otherwise as many are stored as were counted,
-- and a node without a value does not have just one
pub record AreKids {T : Type 0} (is_bare : Bool) (lone : Option T) (stored : List T) (many : ℕ) : Type 0 where
  pub apart : IfSome lone (λ _. (is_bare ≡ true) × (stored ≡ []))
  pub counted : lone ≡ None → many ≡ length stored
  pub enough : lone ≡ None → is_bare ≡ true → many ≡ 1 → ⊥

-- the list with x at a place
pub record IsSetAt {A : Type 0} (xs : List A) (at : ℕ) (x : A) (ys : List A) : Type 0 where
  pub front : (n : ℕ) → n ≤ at → take n ys ≡ take n xs
  pub here : drop at ys ≡ x ∷ drop (at + 1) xs
  pub rest : drop (at + 1) ys ≡ drop (at + 1) xs
  pub long : length ys ≡ length xs
