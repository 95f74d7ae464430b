-- The intervals that are listed, from the back.
--     listed-append        those of more boundaries, after some after which no interval has begun
--     listed-length        how many there are
--     unbounded-told        whether one has no end
--     last-open, last-closed        the last one
use Rattle.std.proofs.Common.{◌≡◌, ℕ, zero, suc, ◌+◌, ◌/◌, ◌<◌, Bool, true, false, not, ◌||◌, List, [], ◌∷◌, ◌++◌, length}
use Rattle.std.proofs.Common.{◌↔◌, Option, Some, None, IsTrue, refl, append_assoc, length-append, arith}
use Rattle.std.specs.List.{Contains, slice_index_or}
use Rattle.std.specs.Bool.{beq}
use Rattle.std.specs.Int.{from_bool}
use Rattle.std.specs.Option.{is_some}
use Rattle.std.specs.declared.ops.Bound.{Bound}
use Rattle.std.specs.declared.ops.Bound.TheVariants.{Included, Excluded, Unbounded}
use Rattle.vc_sets.specs.SetOf.{exactly_one}
use Rattle.vc_intervals.specs.Events.{odd}
use Rattle.vc_intervals.specs.Listed.{listed_from, begun_start}

module _ {X : Type 0} where
  -- whether an interval has begun, and has not ended, behind these boundaries
  abbrev pub goes_on : Option (Bound X) → List X → Bool
  goes_on start ts = exactly_one (odd (length ts)) (is_some start)

  pub listed-append : (start : Option (Bound X)) (ts us : List X) → goes_on start ts ≡ false
      → listed_from start (ts ++ us) ≡ listed_from start ts ++ listed_from None us
  listed-append None [] us e = refl
  listed-append (Some s) [] us e = grind arith
  listed-append None (t ∷ ts) us e = grind (arith, listed-append (Some (Included t)) ts us)
  listed-append (Some s) (t ∷ ts) us e = grind (arith, listed-append None ts us)

  pub listed-length : (ts : List X)
      → (length (listed_from None ts) ≡ (length ts + 1) / 2)
      × ((s : Bound X) → length (listed_from (Some s) ts) ≡ length ts / 2 + 1)
  listed-length [] = (refl, λ s. refl)
  listed-length (t ∷ ts) =
      let rest = listed-length ts in (omega (arith, rest.1 (Included t)), λ s. omega (arith, rest.0))

  pub has-no-end : (start : Option (Bound X)) (ts : List X) → goes_on start ts ≡ true
      → (s : Bound X) × Contains (listed_from start ts) (s, Unbounded)
  has-no-end None [] e = grind arith
  has-no-end (Some s) [] e = (s, (zero, omega arith, refl))
  has-no-end None (t ∷ ts) e = has-no-end (Some (Included t)) ts (grind arith)
  has-no-end (Some s) (t ∷ ts) e =
      let rest = has-no-end None ts (grind arith) in (rest.0, (suc rest.1.0, omega arith, rest.1.2))

  pub no-end : (start : Option (Bound X)) (ts : List X) (s : Bound X) (k : ℕ) → k < length (listed_from start ts)
      → slice_index_or (listed_from start ts) k (s, Unbounded) ≡ (s, Unbounded) → goes_on start ts ≡ true
  no-end None [] s k h e = grind arith
  no-end (Some b) [] s k h e = refl
  no-end None (t ∷ ts) s k h e = grind (arith, no-end (Some (Included t)) ts s k h e)
  no-end (Some b) (t ∷ ts) s zero h e = grind arith
  no-end (Some b) (t ∷ ts) s (suc k) h e = grind (arith, no-end None ts s k)

  -- ---- of a set

  pub unbounded-told : (b : Bool) (ts : List X)
      → IsTrue (exactly_one (odd (length ts)) b) ↔ ((s : Bound X) × Contains (listed_from (begun_start b) ts) (s, Unbounded))
  unbounded-told b ts =
      (λ e. has-no-end (begun_start b) ts (grind arith), λ r. grind (arith, no-end (begun_start b) ts r.0 r.1.0 r.1.1 r.1.2))

  pub listed-count : (b : Bool) (ts : List X) (n : ℕ) → n ≡ from_bool (b || odd (length ts))
      → length ts / 2 + n ≡ length (listed_from (begun_start b) ts)
  listed-count b ts n e = grind (arith, listed-length ts)

  pub last-open : (b c : Bool) (ts rest : List X) (s : X) → c ≡ odd (length ts) → not (beq b c) ≡ true → ts ≡ rest ++ s ∷ []
      → listed_from (begun_start b) ts ≡ listed_from (begun_start b) rest ++ (Included s, Unbounded) ∷ []
  last-open b c ts rest s e h k = grind (arith, listed-append (begun_start b) rest (s ∷ []), length-append)

  pub last-closed : (b c : Bool) (ts front rest : List X) (s e : X) → c ≡ odd (length ts) → not (beq b c) ≡ false
      → ts ≡ front ++ e ∷ [] → front ≡ rest ++ s ∷ []
      → listed_from (begun_start b) ts ≡ listed_from (begun_start b) rest ++ (Included s, Excluded e) ∷ []
  last-closed b c ts front rest s e h p k l =
      grind (arith, listed-append (begun_start b) rest (s ∷ e ∷ []), length-append, append_assoc)
