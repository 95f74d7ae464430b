-- The events of `EitherOp`, by how the first elements compare.
use Rattle.std.proofs.Common.{ℕ, Bool, true}
use Rattle.std.specs.declared.cmp.Ordering.{Ordering}
use Rattle.std.specs.declared.cmp.Ordering.TheVariants.{Less, Equal, Greater}
use Rattle.vc_merge.specs.Both.{Both, TakesOne}
use Rattle.vc_merge.specs.Chain.{Answer, gives_at}

-- to take the lesser one is what the operation says of the event
pub either-at : {M : Type 0} (advances_a : M → ℕ → Bool → Answer → M → Type 0) (skips_b takes_b : M → ℕ → Answer → M → Type 0)
    (heads : Ordering) (both : Bool) (s : M) (answer : Answer) (t : M) → TakesOne advances_a skips_b takes_b heads both s answer t
    → gives_at (record {
      from_a = λ s n answer t. advances_a s n true answer t;
      from_b = λ s n answer t. takes_b s n answer t;
      collision = λ s answer t. Both (λ p r q. advances_a p 1 both r q) (λ p r q. skips_b p 1 r q) s answer t;
    }) heads s answer t
either-at advances_a skips_b takes_b Less both s answer t h = h
either-at advances_a skips_b takes_b Greater both s answer t h = h
either-at advances_a skips_b takes_b Equal both s answer t h = h
