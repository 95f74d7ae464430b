-- What a merge records is the script of its two lists.
use Rattle.std.proofs.Common.{◌≡◌, ℕ, false, List, [], ◌∷◌, ◌++◌, map, take, length, Ok, inl, inr, refl, sym, ap}
use Rattle.std.proofs.Common.{subst, ◌∙◌, append_assoc}
use Rattle.std.proofs.lemmas.List.{append-nil}
use Rattle.std.proofs.Math.Seq.{take-append_seam}
use mathlib.Core.Bool.{true≢false}
use Rattle.vec_collections.specs.Chain.{Allows, allows, Run, Step, of_left, of_right, of_both, run_events, events}
use Rattle.vec_collections.specs.Chain.{IsAllowed, Steps, IsMerged}
use Rattle.vec_collections.specs.Script.{left_alone, right_alone, IsScript}
use Rattle.vec_collections_tests.specs.declared.changes.Change.{Change}
use Rattle.vec_collections_tests.specs.declared.changes.Change.TheVariants.{Gone, New}
use Rattle.vec_collections_tests.specs.declared.changes.Diff.{Diff}
use Rattle.vec_collections_tests.specs.Changes.{event_of, by_number, noted, noting, first_of_both, old_left, new_left}

-- the events of changes behind others
pub gone-append : (cs : List Change) (xs : List ℕ) → map event_of (cs ++ map (λ x. Gone x) xs)
    ≡ map event_of cs ++ map (λ x. left_alone x) xs
gone-append [] [] = refl
gone-append [] (x ∷ xs) = ap (λ es. left_alone x ∷ es) (gone-append [] xs)
gone-append (c ∷ cs) xs = ap (λ es. event_of c ∷ es) (gone-append cs xs)

pub come-append : (cs : List Change) (ys : List ℕ) → map event_of (cs ++ map (λ y. New y) ys)
    ≡ map event_of cs ++ map (λ y. right_alone y) ys
come-append [] [] = refl
come-append [] (y ∷ ys) = ap (λ es. right_alone y ∷ es) (come-append [] ys)
come-append (c ∷ cs) ys = ap (λ es. event_of c ∷ es) (come-append cs ys)

pub ruleset gone_and_come = (gone-append, come-append)

-- the merge of this state
abbrev diffs : Allows Diff ℕ ℕ
diffs = allows old_left new_left noting

-- a run's events are noted
noted-step : (s u : Diff) (r : Run ℕ ℕ) → Step diffs s r u → noted u ≡ noted s ++ run_events r
noted-step s u (of_left xs) h =
    h.allowed.1 ∙ ap (λ l. noted s ++ map (λ x. left_alone x) (take (length xs) l)) h.front.1
    ∙ ap (λ l. noted s ++ map (λ x. left_alone x) l) (take-append_seam xs (old_left u))
noted-step s u (of_right ys) h =
    h.allowed.1 ∙ ap (λ l. noted s ++ map (λ y. right_alone y) (take (length ys) l)) h.front.2
    ∙ ap (λ l. noted s ++ map (λ y. right_alone y) l) (take-append_seam ys (new_left u))
noted-step s u (of_both x y) h =
    h.allowed.1 ∙ ap (λ l. noted s ++ first_of_both l (new_left s)) h.front.0
    ∙ ap (λ l. noted s ++ first_of_both (x ∷ old_left u) l) h.front.1

-- so are those of all runs
noted-steps : (s t : Diff) (runs : List (Run ℕ ℕ)) → Steps diffs s runs t → noted t ≡ noted s ++ events runs
noted-steps s t [] e = ap (λ d. noted d) (sym e) ∙ sym (append-nil (noted s))
noted-steps s t (r ∷ runs) (u, step, rest) =
    noted-steps u t runs rest ∙ ap (λ es. es ++ events runs) (noted-step s u r step)
    ∙ append_assoc (noted s) (run_events r) (events runs)

-- no event answers to stop
goes-on : (s t : Diff) (r : Run ℕ ℕ) → IsAllowed diffs s r (Ok false) t → ⊥
goes-on s t (of_left xs) h = true≢false (sym h.0)
goes-on s t (of_right ys) h = true≢false (sym h.0)
goes-on s t (of_both x y) h = true≢false (sym h.0)

-- what a whole merge notes is the script
pub script-noted : (s t : Diff) (done : Unit {0}) → IsMerged diffs by_number s (Ok done) t → noted s ≡ []
    → IsScript by_number (old_left s) (new_left s) (noted t)
script-noted s t done (inl w) e =
    subst (λ es. IsScript by_number (old_left s) (new_left s) es)
    (sym (noted-steps s t w.runs w.steps ∙ ap (λ es. es ++ events w.runs) e)) w.script
script-noted s t done (inr w) e = absurd (goes-on w.before t w.last w.allowed)
