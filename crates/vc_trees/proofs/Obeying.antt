-- Where kept values are copies, what a command keeps is what the machine gives, by copies.
--     step-copied, run-copied        of one command, and of a run
use Rattle.std.proofs.Common.{[], ◌∷◌, List, Option, Bool, true, false, arith}
use Rattle.std.specs.declared.cmp.Ordering.{Ordering}
use Rattle.vc_tree_model.specs.Machine.{Command, KeptRun, KeptStep, Run, Step, filter, insert, union}
use Rattle.vc_tree_model.specs.Map.{IsEqualMap}
use Rattle.vc_tree_model.specs.Value.{Copies, cloned, itself}

module _ {K V : Type 0} (cmp : K → K → Ordering) (keeps is_clone : V → V → Type 0)
    (copied : (v w : V) → keeps v w → Copies is_clone v w) where
  map-copied : (f g : List K → Option V) → IsEqualMap keeps f g → IsEqualMap (Copies is_clone) f g
  map-copied f g h k = grind (arith, copied)

  clone-copied : (v w : V) → is_clone v w → Copies is_clone v w
  clone-copied v w c = cloned c itself

  step-copied : (m n : List K → Option V) (c : Command K V) (ok : Bool) → KeptStep cmp keeps is_clone m c ok n
      → Step cmp (Copies is_clone) m c ok n
  step-copied m n (insert key v) true h = λ k. grind (arith, copied, itself)
  step-copied m n (filter p) true h = h
  step-copied m n (union t) true h = λ k. grind (arith, copied, clone-copied)
  step-copied m n c true h = grind (arith, map-copied)
  step-copied m n c false h = grind (arith, map-copied)

  -- a run that keeps values is one by copies
  pub run-copied : (m n : List K → Option V) (cs : List (Command K V)) (oks : List Bool)
      → KeptRun cmp keeps is_clone m cs oks n → Run cmp (Copies is_clone) m cs oks n
  run-copied m n [] [] h = map-copied m n h
  run-copied m n [] (ok ∷ oks) h = absurd h
  run-copied m n (c ∷ cs) [] h = absurd h
  run-copied m n (c ∷ cs) (ok ∷ oks) h = (h.0, step-copied m h.0 c ok h.1, run-copied h.0 n cs oks h.2)
