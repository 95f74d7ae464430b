-- What is found so far has a tag among those so far.
use Rattle.std.proofs.Common.{◌≡◌, ℕ, take}
use Rattle.users.specs.Tagged.{has_any, is_found}
use Rattle.users.proofs.tags.Index.any_of.Given as goal

abbrev pub invariant-loop-tag : goal.invariant-loop-tag
invariant-loop-tag l = (article : ℕ) → is_found l.found article ≡ has_any l.self (take l.tag-index l.tags) article
