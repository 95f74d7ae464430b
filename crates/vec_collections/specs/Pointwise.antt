-- Where `==` holds only of identical values, a combination of total maps has at every key the
-- result of a function on the two values there.
pub use Rattle.vc_total_maps.specs.Pointwise.{combined-values}

-- what calls cite whose clauses say `CombinesValues`
pub ruleset pointwise = (combined-values)
