-- Worked rows of the definitions on what a test of key and value leaves of a tree.
use Rattle.std.specs.Prelude.{◌≡◌, ◌≢◌, ℕ, nat_le, List, [], ◌∷◌, Bool, true, false, Some, None, refl}
use Rattle.std.proofs.Common.{ap, arith}
use Rattle.vc_tree_model.specs.Cover.{StaysOrGoes}
use Rattle.vc_tree_model.specs.Tree.{no_tree}
use denote.Ref.{Bor}
use denote.Param.Members.{Shared}
use Rattle.vc_trees.specs.RetainedPairs.{CanTell, IsRetainedAsTold, IsTold, MayTell, StaysAsTold}
use Rattle.definition_tests.proofs.Closures.{closure, ref}
use Rattle.definition_tests.proofs.Digits.{same}
use Rattle.definition_tests.proofs.Letters.{Letter, a, b, by_letter, each_key, leaf, a_and_ab}

-- a test that keeps what is bound to 2 or more, and may be called at each key but the empty one
abbrev keeps_from_two : Shared (Unit {0}) (Bor (List Letter) × (Bor ℕ × Unit {0})) Bool
keeps_from_two = closure (λ asked. asked.0.now ≢ []) (λ asked stays. stays ≡ nat_le 2 asked.1.0.now)

-- at ab and 2 it answers true, at a and 1 false
may_tell : MayTell keeps_from_two tt (a ∷ b ∷ []) 2 true
may_tell = record { shown = ref (a ∷ b ∷ []); value = ref 2; shows = (refl, refl); answers = refl }

may_tell_otherwise : MayTell keeps_from_two tt (a ∷ []) 1 false
may_tell_otherwise = record { shown = ref (a ∷ []); value = ref 1; shows = (refl, refl); answers = refl }

-- it may be asked at a and any number, and not at the empty key
can_tell : (n : ℕ) → CanTell keeps_from_two tt (a ∷ []) (Some n)
can_tell n shown value e h i = cc

cannot_tell : (n : ℕ) → CanTell keeps_from_two tt [] (Some n) → ⊥
cannot_tell n h = h (ref []) (ref n) refl refl refl

-- so it is told of ab in a and ab, and of a
is_told : IsTold by_letter (MayTell keeps_from_two tt) (a_and_ab 1 2) (a ∷ b ∷ []) 2 true
is_told = record { spelled = a ∷ b ∷ []; same = refl; walked = (1, omega arith, refl); told = may_tell }

is_told_otherwise : IsTold by_letter (MayTell keeps_from_two tt) (a_and_ab 1 2) (a ∷ []) 1 false
is_told_otherwise = record { spelled = a ∷ []; same = refl; walked = (0, omega arith, refl); told = may_tell_otherwise }

-- 2 stays at ab, 1 goes at a
stays_as_told : StaysAsTold by_letter (MayTell keeps_from_two tt) same (a_and_ab 1 2) (a ∷ b ∷ []) (Some 2) (Some 2)
    × StaysAsTold by_letter (MayTell keeps_from_two tt) same (a_and_ab 1 2) (a ∷ []) (Some 1) None
stays_as_told = ((true, is_told, refl), (false, is_told_otherwise, refl))

-- and ab is left of a and ab
is_retained_as_told : IsRetainedAsTold by_letter (MayTell keeps_from_two tt) same (a_and_ab 1 2) (leaf (a ∷ b ∷ []) 2)
is_retained_as_told =
    each_key _ refl (false, is_told_otherwise, refl) (λ k. refl) (true, is_told, refl) (λ y k. refl) refl (λ y k. refl)

-- but not the empty tree
is_not_emptied : IsRetainedAsTold by_letter (MayTell keeps_from_two tt) same (a_and_ab 1 2) no_tree → ⊥
is_not_emptied h = by (h (a ∷ b ∷ [])).0 (h (a ∷ b ∷ [])).1 (h (a ∷ b ∷ [])).2
  where
    by : (stays : Bool) → IsTold by_letter (MayTell keeps_from_two tt) (a_and_ab 1 2) (a ∷ b ∷ []) 2 stays
        → StaysOrGoes {V = ℕ} same stays 2 None → ⊥
    by true t s = s
    by false t s =
        let two : nat_le 2 t.told.value.now ≡ true = ap (nat_le 2) t.told.shows.1 in
        absurd (cc (t.told.answers, two))
