-- Closures that decide in place what stays, and look only at values.
use Rattle.std.specs.Prelude.{◌≡◌, Bool, Option, Some, None}
use Rattle.std.specs.Option.{option_copied}
use denote.Ref.{Bor, MutBor}
use denote.Param.Members.{Shared}
use Rattle.vc_btree_maps.specs.Keeping.{if_kept}

module _ {V W : Type 0} where
  -- at a key of both maps the result of h on the two values; at a key of only this map the value
  -- stays
  abbrev pub or_stays : (V → W → Option V) → V → Option W → Option V
  or_stays h v None = Some v
  or_stays h v (Some w) = h v w

  -- at a key of this map the result of h on its value and on what the other map has there; at a key
  -- of only the other map the result of i on its value; nothing elsewhere
  abbrev pub or_given : (V → Option W → Option V) → (W → Option V) → Option V → Option W → Option V
  or_given h i (Some v) w = h v w
  or_given h i None (Some w) = i w
  or_given h i None None = None

module _ {K V W F : Type 0} where
  -- the closure changes a value to the result of h on it and on what the other map has there
  abbrev pub LeavesBy : Shared F (Bor K × (MutBor V × (Option (Bor W) × Unit {0}))) (Bool × (MutBor V × Unit {0}))
      → F → (V → Option W → Option V) → Type 0
  LeavesBy g f h =
      (k : Bor K) (v : MutBor V) (w : Option (Bor W)) (kept : Bool) (left : MutBor V)
      → g.post f (k, (v, (w, tt))) (kept, (left, tt))
      → if_kept kept left.now ≡ h v.now (option_copied w)

  -- the same of a closure that is called only at keys of both maps
  abbrev pub LeavesSharedBy : Shared F (Bor K × (MutBor V × (Bor W × Unit {0}))) (Bool × (MutBor V × Unit {0}))
      → F → (V → W → Option V) → Type 0
  LeavesSharedBy g f h =
      (k : Bor K) (v : MutBor V) (w : Bor W) (kept : Bool) (left : MutBor V)
      → g.post f (k, (v, (w, tt))) (kept, (left, tt))
      → if_kept kept left.now ≡ h v.now w.now

  -- the closure for keys of only the other map answers the result of i on the value
  abbrev pub GivesBy : Shared F (Bor K × (Bor W × Unit {0})) (Option V) → F → (W → Option V) → Type 0
  GivesBy g f i = (k : Bor K) (w : Bor W) (r : Option V) → g.post f (k, (w, tt)) r → r ≡ i w.now
