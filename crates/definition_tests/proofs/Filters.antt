-- Worked rows of the definitions on filters of paths, and of commands on trees.
use Rattle.std.specs.Prelude.{◌≡◌, ℕ, Bool, true, false, [], ◌∷◌, Some, None, codes, refl}
use Rattle.std.proofs.Common.{nat_cmp}
use Rattle.vc_tree_model.specs.Tree.{Tree, made}
use Rattle.vc_tree_model.specs.Map.{lookup}
use Rattle.vc_path_filter.specs.Allowed.{is_allowed, IsRestricted}
use Rattle.definition_tests.proofs.Digits.{same}
use Rattle.definition_tests.proofs.Letters.{a, b, by_letter, each_key, leaf, a_and_ab}

-- a and abcd are allowed, and ab is denied: a*(b*(cd*))
abbrev rules : Tree ℕ Bool
rules = made (codes "a") (Some true) (made (codes "b") (Some false) (leaf (codes "cd") true ∷ []) ∷ [])

-- of paths the longest rule decides
allowed : (is_allowed nat_cmp rules (codes "a") ≡ true) × (is_allowed nat_cmp rules (codes "abcde") ≡ true)
allowed = (refl, refl)

denied : (is_allowed nat_cmp rules (codes "abc") ≡ false) × (is_allowed nat_cmp rules (codes "b") ≡ false)
denied = (refl, refl)

-- where a is allowed and ab is denied, of a, ab and b only a is left
is_restricted : IsRestricted by_letter (a_and_ab true false) {V = ℕ} same
    (lookup by_letter (made [] None (a_and_ab 1 2 ∷ leaf (b ∷ []) 3 ∷ []))) (lookup by_letter (leaf (a ∷ []) 1))
is_restricted = each_key _ refl refl (λ k. refl) refl (λ y k. refl) refl (λ y k. refl)
