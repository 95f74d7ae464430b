-- What is found so far has each of the tags so far.
use Rattle.std.proofs.Common.{◌≡◌, ℕ, take}
use Rattle.users.specs.Tagged.{has_all, is_found}
use Rattle.users.proofs.tags.Index.all_of.Given as goal

abbrev pub invariant-loop-tag : goal.invariant-loop-tag
invariant-loop-tag l = (article : ℕ) → is_found l.found article ≡ has_all l.self (take l.tag-index l.tags) article
