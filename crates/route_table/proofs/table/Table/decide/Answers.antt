use Rattle.std.proofs.Common.{◌≡◌, Option, Some, None, List, Bool, ℕ, take, ap, sym, subst, ◌∙◌}
use Rattle.std.specs.Net.Addr.{ipv4_bits}
use Rattle.std.specs.Ordering.{bool_cmp}
use Rattle.std.specs.String.{string_bytes}
use Rattle.vec_collections.specs.Cover.{cover, IsLongestCover}
use Rattle.vec_collections.specs.Map.{lookup}
use Rattle.route_table.specs.Bits.{bits_of}
use Rattle.route_table.specs.Prefix.{prefix_bits}
use Rattle.route_table.specs.Routes.{hop_at, IsDecided, IsLongestRoute, routes_after}
use Rattle.route_table.proofs.Decided.{decided-alike, longest-decided, none-decided}
use Rattle.route_table.proofs.table.Table.decide.Goals as goal

pub returns-in_err-length-clause-now : goal.returns-in_err-length-clause-now
returns-in_err-length-clause-now c =
    let f = lookup bool_cmp c.args.self.now.hops in
    let address = ipv4_bits c.args.address in
    subst (λ d. IsDecided (hop_at c.args.self.now) address d) (sym c.from_residual.ensures)
    (none-decided string_bytes f address
    (c.in_err-length.ensures.value ∙ ap (λ k. cover f k) c.address_bits-bits.ensures))

pub returns-in_err-length-clause-after : goal.returns-in_err-length-clause-after
returns-in_err-length-clause-after c lines after =
    decided-alike (hop_at c.args.self.now) (routes_after lines) (ipv4_bits c.args.address) c.from_residual.result after
    (returns-in_err-length-clause-now c)

pub returns-clause-now : goal.returns-clause-now
returns-clause-now c =
    let table = c.args.self.now in
    let f = lookup bool_cmp table.hops in
    let address = ipv4_bits c.args.address in
    let n = c.in_ok-length.length in
    let hop = c.in_ok-length.hop.now in
    let longest : IsLongestCover bool_cmp f (bits_of address) (take n (bits_of address)) hop =
    subst (λ k. IsLongestCover bool_cmp f k (take n k) hop) c.address_bits-bits.ensures c.in_ok-length.ensures.key in
    subst (λ name. IsLongestRoute (hop_at table) address (prefix_bits c.new.result) name) (sym c.as_str.ensures.value)
    (subst (λ p. IsLongestRoute (hop_at table) address p (string_bytes hop)) (sym c.new.ensures)
    (longest-decided string_bytes f address n hop longest))

pub returns-clause-after : goal.returns-clause-after
returns-clause-after c lines after =
    let decision = Some (record { prefix = c.new.result; hop = c.as_str.result }) in
    decided-alike (hop_at c.args.self.now) (routes_after lines) (ipv4_bits c.args.address) decision after (returns-clause-now c)
