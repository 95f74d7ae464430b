-- A closure that is called at each element of a list, one after the other.
use Rattle.std.proofs.Common.{◌≡◌, List, [], ◌∷◌, refl}
use Rattle.std.specs.Iterator.{CallableAtEachTurn, YieldsFirst}

module _ {P X : Type 0} (R : P → X → P → Type 0) (Q : P → X → Type 0) (p : P) (x : X) (xs all : List X)
    (is : all ≡ x ∷ xs) (h : CallableAtEachTurn (YieldsFirst (λ rest. rest)) R Q all p) where
  -- it may be called at the first one
  pub callable-first : Q p x
  callable-first = h.at [] all p x xs refl refl is

  -- and then at the others
  pub callable-others : (q : P) → R p x q → CallableAtEachTurn (YieldsFirst (λ rest. rest)) R Q xs q
  callable-others q r = record { at = λ ys t s y u run calls step. h.at (x ∷ ys) t s y u (xs, is, run) (q, r, calls) step }
