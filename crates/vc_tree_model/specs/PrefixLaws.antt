-- The laws of maps by prefixes, of covers, of insertions and of the machine, as `laws` carries them.
use Rattle.std.specs.Prelude.{◌≡◌, ◌⊎◌, ◌↔◌, Bool, List, Option, Some, None, IsFalse, is_some, map}
use Rattle.std.specs.List.{filter}
use Rattle.std.specs.declared.cmp.Ordering.{Ordering}
use Rattle.vc_tree_model.specs.Key.{same_key, behind}
use Rattle.vc_tree_model.specs.Value.{Copies, IsKept}
use Rattle.vc_tree_model.specs.Matches.{HaveOneSource}
use Rattle.vc_tree_model.specs.Tree.{Tree}
use Rattle.vc_tree_model.specs.Map.{lookup, IsEqualMap, IsUpdated}
use Rattle.vc_tree_model.specs.Walk.{IsWalk, Lists, prepended}
use Rattle.vc_tree_model.specs.Under.{under, prefixed}
use Rattle.vc_tree_model.specs.Cover.{cover, IsLongestCover, IsRemoved, IsRetained}
use Rattle.vc_tree_model.specs.Machine.{Command, Run}

module _ (K V : Type 0) (cmp : K → K → Ordering) where
  -- the walk of the pairs under a prefix is the walk of all, without the keys that do not start with the prefix
  abbrev pub WalkUnder : Type 0
  WalkUnder =
      (f : List K → Option V) (l : List (List K × V)) (p : List K) → IsWalk cmp f l
      → IsWalk cmp (under cmp f p) (filter (λ b. is_some (behind cmp p b.0)) l)

  -- the walk of the pairs with a prefix before their keys is the walk of all, with the prefix before each key
  abbrev pub WalkPrefixed : Type 0
  WalkPrefixed =
      (f : List K → Option V) (l : List (List K × V)) (p : List K) → IsWalk cmp f l
      → IsWalk cmp (prefixed cmp f p) (map (prepended p) l)

  module _ (matches : V → V → Type 0) where
    -- the walk of a map lists what an equal map binds, and nothing else, by values that match
    pub record ListsEqualMap (l : List (List K × V)) (g : List K → Option V) : Type 0 where
      pub listed : (k : List K) (v : V) → Lists cmp l k v → (w : V) × (g k ≡ Some w) × matches v w
      pub bound : (k : List K) (w : V) → g k ≡ Some w → (v : V) × Lists cmp l k v × matches v w

    -- a walk under a prefix lists what a map of the pairs under it binds, and nothing else
    abbrev pub WalkIsFiltered : Type 0
    WalkIsFiltered =
        (f g : List K → Option V) (l : List (List K × V)) (p : List K) → IsWalk cmp (under cmp f p) l
        → IsEqualMap matches (under cmp f p) g → ListsEqualMap l g

  -- two keys that differ may be bound in either order
  abbrev pub InsertsCommute : Type 0
  InsertsCommute =
      (j k : List K) (v w : V) (m left both right both' : List K → Option V) → IsFalse (same_key cmp j k)
      → IsUpdated cmp (λ x y. x ≡ y) j v m left → IsUpdated cmp (λ x y. x ≡ y) k w left both
      → IsUpdated cmp (λ x y. x ≡ y) k w m right → IsUpdated cmp (λ x y. x ≡ y) j v right both'
      → IsEqualMap (λ x y. x ≡ y) both both'

  -- from maps whose values have one source a list of commands, accepted alike, leads to such maps
  abbrev pub RunIsFunction : (V → V → Type 0) → Type 0
  RunIsFunction is_clone =
      (m n : List K → Option V) (cs : List (Command K V)) (oks : List Bool) (m' n' : List K → Option V)
      → IsEqualMap (HaveOneSource is_clone) m n → Run cmp (Copies is_clone) m cs oks m'
      → Run cmp (Copies is_clone) n cs oks n' → IsEqualMap (HaveOneSource is_clone) m' n'

-- the cover of a key is the value of the longest key that is a prefix of it
abbrev pub CoverIsLongest : (K W : Type 0) → (K → K → Ordering) → Type 0
CoverIsLongest K W cmp =
    (t : Tree K W) (k : List K) (w : W)
    → ((cover (lookup cmp t) k ≡ Some w) ↔ ((p : List K) × IsLongestCover cmp (lookup cmp t) k p w))

module _ {V : Type 0} (keeps : V → V → Type 0) where
  -- one of the two has the value, and the other none; both have none where there is none
  abbrev pub IsInOne : Option V → Option V → Option V → Type 0
  IsInOne None y z = (y ≡ None) × (z ≡ None)
  IsInOne (Some v) y z = (IsKept keeps (Some v) y × (z ≡ None)) ⊎ ((y ≡ None) × IsKept keeps (Some v) z)

-- where the test may give one answer for each value, each pair is removed or retained, and never both
abbrev pub RemovalAndRetentionPart : (K V W : Type 0) → (V → V → Type 0) → (W → Bool → Type 0) → Type 0
RemovalAndRetentionPart K V W keeps may =
    (answer : W → Bool) → ((w : W) (b : Bool) → may w b → b ≡ answer w)
    → (q : List K → Option W) (f left kept : List K → Option V)
    → IsRemoved keeps may q f left → IsRetained keeps may q f kept → (k : List K) → IsInOne keeps (f k) (left k) (kept k)
