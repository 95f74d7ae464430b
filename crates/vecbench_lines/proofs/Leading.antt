-- Commands that are read one by one, and runs of them.
--     says-next, no-fault-next        one command more was read
--     run-weaker        a run up to values that match, where matching values are equal
use Rattle.std.proofs.Common.{◌≡◌, ◌∙◌, ap, sym, subst, ℕ, Bool, true, false, List, [], ◌∷◌, ◌++◌, Option, Some, None}
use Rattle.std.proofs.lemmas.List.{append_assoc}
use Rattle.std.specs.Ordering.{nat_cmp}
use Rattle.vec_collections.specs.Machine.{Command, after, refused, Step, Run}
use Rattle.vec_collections.specs.Value.{IsKept}
use Rattle.vecbench_lines.specs.Changes.{Change, SaysChange, SaysChanges}
use Rattle.vecbench_lines.specs.Judged.{first_fault, fault_in_change, fault_in_changes}

-- what the words that are left say stands behind what was read, where one command more was read
pub says-next : (all left words : List (List ℕ)) (name word : List ℕ) (changes : List Change) (change : Change)
    → left ≡ name ∷ word ∷ words → SaysChange name word change
    → ((more : List Change) → SaysChanges left more → SaysChanges all (changes ++ more))
    → (more : List Change) → SaysChanges words more → SaysChanges all ((changes ++ change ∷ []) ++ more)
says-next all left words name word changes change is says before more h =
    subst (λ l. SaysChanges all l) (sym (append_assoc changes (change ∷ []) more))
    (before (change ∷ more) (subst (λ l. SaysChanges l (change ∷ more)) (sym is) (says, h)))

-- a command without a fault leaves the fault to those behind it
pub no-fault-next : (left words : List (List ℕ)) (name word : List ℕ) → left ≡ name ∷ word ∷ words
    → fault_in_change name word ≡ None
    → fault_in_changes left ≡ fault_in_changes words
no-fault-next left words name word is none =
    ap fault_in_changes is ∙ ap (λ fault. first_fault fault (fault_in_changes words)) none

module _ {V : Type 0} (matches others : V → V → Type 0) (weaker : (v w : V) → matches v w → others v w) where
  kept-weaker : (o p : Option V) → IsKept matches o p → IsKept others o p
  kept-weaker None None h = h
  kept-weaker None (Some w) h = absurd h
  kept-weaker (Some v) None h = absurd h
  kept-weaker (Some v) (Some w) h = weaker v w h

  step-weaker : (m n : List ℕ → Option V) (c : Command ℕ V) (ok : Bool) → Step nat_cmp matches m c ok n
      → Step nat_cmp others m c ok n
  step-weaker m n c true h = λ k. kept-weaker (after nat_cmp c m k) (n k) (h k)
  step-weaker m n c false h = λ k. kept-weaker (refused nat_cmp c m k) (n k) (h k)

  -- a run up to values that match is one up to what follows of these
  pub run-weaker : (m n : List ℕ → Option V) (cs : List (Command ℕ V)) (oks : List Bool)
      → Run nat_cmp matches m cs oks n → Run nat_cmp others m cs oks n
  run-weaker m n [] [] h = λ k. kept-weaker (m k) (n k) (h k)
  run-weaker m n [] (ok ∷ oks) h = absurd h
  run-weaker m n (c ∷ cs) [] h = absurd h
  run-weaker m n (c ∷ cs) (ok ∷ oks) h = (h.0, step-weaker m h.0 c ok h.1, run-weaker h.0 n cs oks h.2)
