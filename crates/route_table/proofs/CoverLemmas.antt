-- Facts on keys of bits that are prefixes of others, and on the covers of keys.
use Rattle.std.proofs.Common.{◌≡◌, ◌≤◌, ℕ, zero, suc, Bool, true, false, List, [], ◌∷◌, ◌++◌, take, drop, length, Option, Some, None, IsTrue, refl, ap, sym, subst, ◌∙◌, get_or, rules}
use Rattle.std.proofs.Math.Seq.{take-append_seam}
use Rattle.std.proofs.lemmas.List.{take-append-drop}
use Rattle.std.proofs.lemmas.Option.{none-some}
use Rattle.std.specs.Ordering.{bool_cmp}
use Rattle.vec_collections.specs.Cover.{cover}
use Rattle.vec_collections.specs.Key.{same_key, Starts}
use Rattle.vec_collections.specs.Map.{or_else}

-- keys of bits that are the same are equal
pub same_key-equal : (j k : List Bool) → IsTrue (same_key bool_cmp j k) → j ≡ k
same_key-equal [] [] h = refl
same_key-equal [] (y ∷ k) h = search rules
same_key-equal (x ∷ j) [] h = search rules
same_key-equal (true ∷ j) (true ∷ k) h = ap (λ l. true ∷ l) (same_key-equal j k h)
same_key-equal (true ∷ j) (false ∷ k) h = search rules
same_key-equal (false ∷ j) (true ∷ k) h = search rules
same_key-equal (false ∷ j) (false ∷ k) h = ap (λ l. false ∷ l) (same_key-equal j k h)

-- a key is the same as itself
pub same_key-itself : (k : List Bool) → IsTrue (same_key bool_cmp k k)
same_key-itself [] = refl
same_key-itself (true ∷ k) = same_key-itself k
same_key-itself (false ∷ k) = same_key-itself k

-- what a key starts with are its first bits
pub starts-take : (k p : List Bool) → Starts bool_cmp k p → p ≡ take (length p) k
starts-take k p s = sym (take-append_seam p s.0) ∙ ap (λ l. take (length p) l) (same_key-equal (p ++ s.0) k s.1)

-- a key starts with its first bits
pub take-starts : (k p : List Bool) → p ≡ take (length p) k → Starts bool_cmp k p
take-starts k p e =
    let joined : k ≡ p ++ drop (length p) k =
    sym (take-append-drop (length p) k) ∙ ap (λ l. l ++ drop (length p) k) (sym e) in
    (drop (length p) k, subst (λ l. IsTrue (same_key bool_cmp l k)) joined (same_key-itself k))

-- where neither place has a value there is none
or_else-first : {V : Type 0} (a b : Option V) → or_else a b ≡ None → a ≡ None
or_else-first None b e = refl
or_else-first (Some v) b e = e

or_else-second : {V : Type 0} (a b : Option V) → or_else a b ≡ None → b ≡ None
or_else-second None b e = e
or_else-second (Some v) b e = absurd (none-some v (sym e))

-- where a key has no cover, nothing is bound to its first bits
pub cover-none : {V : Type 0} (f : List Bool → Option V) (k p : List Bool) → cover f k ≡ None
    → p ≡ take (length p) k → f p ≡ None
cover-none f [] [] e t = e
cover-none f [] (y ∷ p) e t = search rules
cover-none f (x ∷ k) [] e t = or_else-second _ _ e
cover-none f (x ∷ k) (y ∷ p) e t =
    let tail : p ≡ take (length p) k = ap (λ l. drop 1 l) t in
    let head : y ≡ x = ap (λ l. get_or l 0 y) t in
    subst (λ z. f (z ∷ p) ≡ None) (sym head) (cover-none (λ rest. f (x ∷ rest)) k p (or_else-first _ _ e) tail)
