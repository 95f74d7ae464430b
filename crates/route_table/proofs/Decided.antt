-- What the cover of an address among the keys of a table says of its routes.
use Rattle.std.proofs.Common.{◌≡◌, Bool, true, false, cond, ℕ, List, length, take, Option, Some, None, IsTrue, ap, sym, refl, ◌∙◌, rules}
use Rattle.std.specs.Option.{is_some, option_map}
use Rattle.std.specs.Ordering.{bool_cmp}
use Rattle.vec_collections.specs.Cover.{cover, IsLongestCover}
use Rattle.route_table.specs.Bits.{bits_of}
use Rattle.route_table.specs.Prefix.{Covers, same_prefix}
use Rattle.route_table.specs.Routes.{Routes, IsDecided, IsLongestRoute, NoneCovers}
use Rattle.route_table.specs.declared.table.Decision.{Decision}
use Rattle.route_table.proofs.CoverLemmas.{cover-none, same_key-equal, starts-take, take-starts}

module _ {V : Type 0} (name : V → List ℕ) (f : List Bool → Option V) (address : ℕ) where
  -- a value whose name is there is there
  named : (o : Option V) → IsTrue (is_some (option_map name o)) → (v : V) × (o ≡ Some v)
  named None h = absurd (search rules)
  named (Some v) h = (v, refl)

  -- without a cover no route covers the address
  pub none-decided : None ≡ cover f (bits_of address) → NoneCovers (λ p. option_map name (f p)) address
  none-decided e prefix covers = ap (option_map name) (cover-none f (bits_of address) prefix (sym e) covers)

  -- the longest cover is the longest route
  pub longest-decided : (n : ℕ) (v : V) → IsLongestCover bool_cmp f (bits_of address) (take n (bits_of address)) v
      → IsLongestRoute (λ p. option_map name (f p)) address (take n (bits_of address)) (name v)
  longest-decided n v h = record {
    covers = starts-take (bits_of address) (take n (bits_of address)) h.prefix;
    route = ap (option_map name) h.bound;
    longest = λ other covers some.
        let found = named (f other) some in
        h.longest other found.0 (take-starts (bits_of address) other covers) found.1;
  }

-- what is decided by some routes is decided by the same routes
pub decided-alike : (r s : Routes) (address : ℕ) (d : Option Decision) → ((p : List Bool) → r p ≡ s p)
    → IsDecided r address d → IsDecided s address d
decided-alike r s address None same h = λ prefix covers. sym (same prefix) ∙ h prefix covers
decided-alike r s address (Some d) same h = record {
  covers = h.covers;
  route = sym (same _) ∙ h.route;
  longest = λ other covers some.
      h.longest other covers (ap is_some (same other) ∙ some);
}

-- where a prefix has no route, to take its route out changes nothing
pub absent-stays : (r s : Routes) (p : List Bool) → is_some (r p) ≡ false
    → ((q : List Bool) → s q ≡ cond (same_prefix p q) None (r q)) → (q : List Bool) → s q ≡ r q
absent-stays r s p absent out q = out q ∙ by (same_prefix p q) refl
  where
    none : (o : Option (List ℕ)) → is_some o ≡ false → None ≡ o
    none None e = refl
    none (Some name) e = absurd (search rules)

    by : (b : Bool) → same_prefix p q ≡ b → cond b None (r q) ≡ r q
    by true e = none (r p) absent ∙ ap r (same_key-equal p q e)
    by false e = refl
