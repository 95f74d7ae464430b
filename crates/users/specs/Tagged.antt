-- Articles by their tags.
use Rattle.std.specs.Prelude.{Bool, false, ℕ, List, Option, Some, None}
use Rattle.std.specs.BTreeMap.{get}
use Rattle.std.specs.List.{list_all, list_any}
use Rattle.std.specs.Ordering.{nat_cmp}
use Rattle.vec_collections.specs.Ascending.{member}
use Rattle.vec_collections.specs.TotalSet.{has}
use Rattle.users.specs.declared.tags.Found.{Found}
use Rattle.users.specs.declared.tags.Index.{Index}

-- the article is one of the articles with a tag
abbrev pub is_among : List ℕ → ℕ → Bool
is_among articles article = member nat_cmp articles article

-- the article is among the articles, if there are any
abbrev pub is_in : Option (List ℕ) → ℕ → Bool
is_in None article = false
is_in (Some articles) article = is_among articles article

-- the article has the tag
abbrev pub tagged : Index → ℕ → ℕ → Bool
tagged index tag article = is_in (get nat_cmp index.by_tag tag) article

-- the article has each of the tags
abbrev pub has_all : Index → List ℕ → ℕ → Bool
has_all index tags article = list_all (λ tag. tagged index tag article) tags

-- the article has a tag among these
abbrev pub has_any : Index → List ℕ → ℕ → Bool
has_any index tags article = list_any (λ tag. tagged index tag article) tags

-- the article is one of those that a query found
abbrev pub is_found : Found → ℕ → Bool
is_found found article = has nat_cmp found.articles article
