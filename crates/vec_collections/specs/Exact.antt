-- Where clones are equal to their sources, a shared tree keeps its values as a plain one does.
pub use Rattle.vc_trees.specs.Exact.{copies-exact, are_copies-exact, one_source-exact, kept-exact, handed-exact, inserted-exact, equal_maps-exact, without-exact, maps-exact}
pub use Rattle.vc_trees.specs.Exact.{maps-one_source, maps-same, alike-exact, snapshot-exact}

-- what calls cite where clones are exact
pub ruleset exactly = (
  copies-exact,
  are_copies-exact,
  one_source-exact,
  kept-exact,
  handed-exact,
  inserted-exact,
  equal_maps-exact,
  without-exact,
  maps-exact,
  maps-same,
  alike-exact,
  snapshot-exact,
)
