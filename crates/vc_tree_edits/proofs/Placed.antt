-- The trees of a list that is changed in place without additions.
--     first-at, set-at        the tree at a place, and the list with another one there
--     alone-made        a tree that the left side alone has
--     two-stored        a node without a value keeps two children, if any
use Rattle.std.proofs.Common.{◌≡◌, ℕ, suc, ◌+◌, ◌<◌, ◌≤◌, [], ◌∷◌, ◌++◌, List, Option, None, Some, refl, ap}
use Rattle.std.proofs.Common.{map, take, drop, set, get_or, length, arith, append-nil, length-append, drop-cons}
use Rattle.std.proofs.Common.{Bool, true, option_map, zero, cond}
use Rattle.std.proofs.Math.ListN.{length-set, drop_of_length-le}
use Rattle.std.proofs.lemmas.List.{take-set-le, drop-set-lt, drop-set, take_all}
use Rattle.std.specs.Cmp.{IsTotalOrder}
use Rattle.std.specs.List.{cons_option}
use Rattle.std.specs.Option.{option_to_list}
use Rattle.std.specs.Prelude.{MatchBool}
use Rattle.std.specs.declared.cmp.Ordering.{Ordering}
use Rattle.vc_tree_model.specs.Canonical.{IsCanonical}
use Rattle.vc_tree_model.specs.Tree.{Tree, forest, shortened}
use Rattle.vc_tree_model.specs.Value.{IsKept}
use Rattle.vc_tree_facing.specs.Lessening.{left_of}
use Rattle.vc_tree_facing.specs.Made.{IsMade}
use Rattle.vc_tree_edits.specs.Kids.{AreKids, IsSetAt}

pub first-at : {A : Type 0} (xs : List A) (at : ℕ) (x : A) → at < length xs → x ≡ get_or xs at x → drop at xs ≡ x ∷ drop (at + 1) xs
first-at xs at x h e = grind (arith, drop-cons)

pub set-at : {A : Type 0} (xs ys : List A) (at : ℕ) (x : A) → at < length xs → ys ≡ set xs at x → IsSetAt xs at x ys
set-at xs ys at x h z = grind (arith, take-set-le, drop-set, drop-set-lt, length-set)

-- there is a tree at a place, and the list has it there
pub some-at : {A : Type 0} (xs : List A) (at : ℕ) → at < length xs → (x : A) × IsSetAt xs at x xs
some-at [] at h = absurd (omega (arith, h))
some-at (x ∷ xs) zero h = (x, grind arith)
some-at (x ∷ xs) (suc at) h = let s = some-at xs at (omega (arith, h)) in (s.0, grind (arith, s.1.here))

-- two trees, one after the other, at one place
pub set-again : {A : Type 0} {xs ys zs : List A} {at : ℕ} {x y : A} → IsSetAt xs at x ys → IsSetAt ys at y zs → IsSetAt xs at y zs
set-again a b = grind arith

-- a tree that the left side alone has stays or goes
pub alone-made : {K V O : Type 0} (cmp : K → K → Ordering) → IsTotalOrder cmp → (keeps : V → V → Type 0) → ((v : V) → keeps v v)
    → (R : Option V → O → Option V → Type 0) (none : O) (t : Tree K V) (i : ℕ) → IsCanonical cmp t → i < length t.prefix
    → (b : Bool)
    → MatchBool b ((v z : Option V) → IsKept keeps v z → R v none z) ((v : Option V) → R v none None)
    → IsMade cmp (λ v z. R v none z) (shortened i t) (left_of b i t)
alone-made cmp o keeps itself R none t i c h b k = grind arith

-- ---- the end of the list

-- where a node without a value keeps some children where they are stored, it keeps two
pub two-stored : {T : Type 0} (b : Bool) (o : Option T) (stored : List T) (many : ℕ) → AreKids b o stored many → o ≡ None
    → b ≡ true → (many ≡ 0 → ⊥) → 2 ≤ length stored
two-stored b o stored many k n e z = grind arith

-- the only tree of a list, taken out
pub only-popped : {A : Type 0} (xs ys : List A) (r : Option A) → xs ≡ ys ++ option_to_list r → length xs ≡ 1
    → cons_option r ys ≡ xs
only-popped xs [] r e n = grind arith
only-popped xs (y ∷ ys) r e n = grind (arith, append-nil, length-append)

-- as many trees
pub same-many : {K V A B : Type 0} (t : A → Tree K V) (u : B → Tree K V) (xs : List A) (ys : List B)
    → forest (map t xs) ≡ forest (map u ys) → length xs ≡ length ys
same-many t u [] [] e = refl
same-many t u [] (y ∷ ys) e = absurd (cc)
same-many t u (x ∷ xs) [] e = absurd (cc)
same-many t u (x ∷ xs) (y ∷ ys) e = ap suc (same-many t u xs ys (cc))

-- a slice that was lent whole
pub whole-back : {A : Type 0} (n : ℕ) (xs ys : List A) → n ≡ length xs → length ys ≡ length xs
    → take n (ys ++ drop (length ys) xs) ≡ ys
whole-back n xs ys e f = grind (arith, drop_of_length-le, append-nil, take_all)

-- what was made of a tree and put back is what is left of it
pub made-back : {A K V : Type 0} (tree : A → Tree K V) (b : Bool) (x : A) (o : Option A) → o ≡ cond b (Some x) None
    → option_map tree o ≡ left_of b 0 (tree x)
made-back tree b x o e = grind arith
