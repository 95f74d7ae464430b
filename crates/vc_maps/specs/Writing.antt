-- Values of a map that a closure wrote to in place.
use Rattle.std.specs.Prelude.{◌≡◌, List, [], ◌∷◌, Option, Some, None}
use Rattle.std.specs.Fn.{Called, Takes}
use Rattle.std.specs.Iterator.{CallableAtEachTurn, YieldsFirst}
use denote.Ref.{Bor, MutBor}
use denote.Param.Members.{Mut}

module _ {F K V : Type 0} (g : Mut F (Bor K × (MutBor V × Unit {0})) (Unit {0} × (MutBor V × Unit {0}))) where
  -- a call of f at the key k and the value v may leave the value w there, and the closure as h
  pub record WritesAt (f : F) (k : K) (v w : V) (h : F) : Type 0 where
    pub key : Bor K
    pub value : MutBor V
    pub shows : (key.now ≡ k) × (value.now ≡ v)
    pub left : MutBor V
    pub called : Called g f (key, (value, tt)) (tt, (left, tt)) h
    pub leaves : left.now ≡ w

  -- f may be called at the pair
  abbrev pub CanWriteAt : F → K × V → Type 0
  CanWriteAt f p = (k : Bor K) (v : MutBor V) → k.now ≡ p.0 → v.now ≡ p.1 → Takes g f (k, (v, tt))

  -- it may be called at each pair of the list in turn, as the calls before left it
  abbrev pub CanWriteEach : F → List (K × V) → Type 0
  CanWriteEach f ps =
      CallableAtEachTurn (YieldsFirst (λ rest. rest)) (λ f p h. (w : V) × WritesAt f p.0 p.1 w h) CanWriteAt ps f

module _ {F K V : Type 0} (writes : F → K → V → V → F → Type 0) where
  -- the closure, f at first and `last` in the end, was called at each pair of ps in turn, and qs are these keys with the values
  -- that it left there
  abbrev pub WritesInTurn : F → List (K × V) → List (K × V) → F → Type 0
  WritesInTurn f [] [] last = f ≡ last
  WritesInTurn f [] (q ∷ qs) last = ⊥
  WritesInTurn f (p ∷ ps) [] last = ⊥
  WritesInTurn f (p ∷ ps) (q ∷ qs) last = (h : F) × writes f p.0 p.1 q.1 h × (q.0 ≡ p.0) × WritesInTurn h ps qs last

  -- where a pair was, the closure was called at it, and the value that it left is under the same
  -- key; where there was none, there is none
  abbrev pub WritesEntry : Option (K × V) → Option (K × V) → Type 0
  WritesEntry (Some p) found = (before : F) × (w : V) × (after : F) × writes before p.0 p.1 w after × (found ≡ Some (p.0, w))
  WritesEntry None found = found ≡ None
