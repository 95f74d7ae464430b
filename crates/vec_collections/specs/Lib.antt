-- What the public clauses of the exported items cite, and the definitions of the laws, so that a
-- user has every name from this crate.
pub mod Exact
pub mod Pointwise
pub mod Words
pub use Rattle.vc_btree_maps.specs.Keeping
pub use Rattle.vc_btree_maps.specs.KeepingValues
pub use Rattle.vc_btree_maps.specs.Pairs
pub use Rattle.vc_intervals.specs.IntervalsOf
pub use Rattle.vc_intervals.specs.Laws as IntervalLaws
pub use Rattle.vc_intervals.specs.Listed
pub use Rattle.vc_intervals.specs.Ranges
pub use Rattle.vc_intervals.specs.Boundaries
pub use Rattle.vc_joins.specs.Answers
pub use Rattle.vc_joins.specs.Entries
pub use Rattle.vc_joins.specs.Events as JoinEvents
pub use Rattle.vc_joins.specs.InPlace as JoinInPlace
pub use Rattle.vc_joins.specs.Join
pub use Rattle.vc_joins.specs.Laws as JoinLaws
pub use Rattle.vc_joins.specs.Question
pub use Rattle.vc_joins.specs.Values as JoinValues
pub use Rattle.vc_joins.specs.declared.question.JoinKind
pub use Rattle.vc_joins.specs.declared.question.OuterJoinArg
pub use Rattle.vc_maps.specs.Borrowed as MapBorrowed
pub use Rattle.vc_maps.specs.Collecting as MapCollecting
pub use Rattle.vc_maps.specs.Combining as MapCombining
pub use Rattle.vc_maps.specs.Iterating as MapIterating
pub use Rattle.vc_maps.specs.Lending
pub use Rattle.vc_maps.specs.Mapping as MapMapping
pub use Rattle.vc_maps.specs.Updating as MapUpdating
pub use Rattle.vc_maps.specs.Writing as MapWriting
pub use Rattle.vc_merge.specs.Ascending
pub use Rattle.vc_merge.specs.Chain
pub use Rattle.vc_merge.specs.Clones
pub use Rattle.vc_merge.specs.Count
pub use Rattle.vc_merge.specs.Fronts
pub use Rattle.vc_merge.specs.Gathering
pub use Rattle.vc_merge.specs.Laws as MergeLaws
pub use Rattle.vc_merge.specs.Retaining
pub use Rattle.vc_merge.specs.Script
pub use Rattle.vc_merge.specs.Showing
pub use Rattle.vc_merge.specs.Takes
pub use Rattle.vc_merge.specs.Yielded
pub use Rattle.vc_path_filter.specs.Allowed
pub use Rattle.vc_sets.specs.Algebra
pub use Rattle.vc_sets.specs.Borrowed
pub use Rattle.vc_sets.specs.Collecting
pub use Rattle.vc_sets.specs.EqualClones
pub use Rattle.vc_sets.specs.Iterating
pub use Rattle.vc_sets.specs.Laws as SetLaws
pub use Rattle.vc_sets.specs.SetOf
pub use Rattle.vc_sets.specs.Tests
pub use Rattle.vc_sets.specs.declared.vec_set.algebra.SetOp
pub use Rattle.vc_sets.specs.declared.vec_set.algebra.SetTest
pub use Rattle.vc_total_maps.specs.CombinedTotals
pub use Rattle.vc_total_maps.specs.Laws as TotalMapLaws
pub use Rattle.vc_total_maps.specs.MappedTotals
pub use Rattle.vc_total_maps.specs.Putting
pub use Rattle.vc_total_maps.specs.TotalMap
pub use Rattle.vc_total_sets.specs.Laws as TotalLaws
pub use Rattle.vc_total_sets.specs.TotalOf
pub use Rattle.vc_total_sets.specs.TotalSet
pub use Rattle.vc_total_sets.specs.TotalTests
pub use Rattle.vc_total_sets.specs.Within
pub use Rattle.vc_tree_edits.specs.Editing
pub use Rattle.vc_tree_model.specs.Asking
pub use Rattle.vc_tree_model.specs.Binds
pub use Rattle.vc_tree_model.specs.Canonical
pub use Rattle.vc_tree_model.specs.Combine
pub use Rattle.vc_tree_model.specs.Conditions
pub use Rattle.vc_tree_model.specs.Cover
pub use Rattle.vc_tree_model.specs.Depth
pub use Rattle.vc_tree_model.specs.Equal
pub use Rattle.vc_tree_model.specs.Key
pub use Rattle.vc_tree_model.specs.KeySets
pub use Rattle.vc_tree_model.specs.Laws as TreeLaws
pub use Rattle.vc_tree_model.specs.Machine
pub use Rattle.vc_tree_model.specs.Map
pub use Rattle.vc_tree_model.specs.Matches
pub use Rattle.vc_tree_model.specs.OneTree
pub use Rattle.vc_tree_model.specs.Pairs as TreePairs
pub use Rattle.vc_tree_model.specs.PrefixLaws
pub use Rattle.vc_tree_model.specs.Same
pub use Rattle.vc_tree_model.specs.Shortened
pub use Rattle.vc_tree_model.specs.Snapshot
pub use Rattle.vc_tree_model.specs.Tree
pub use Rattle.vc_tree_model.specs.TreeCode
pub use Rattle.vc_tree_model.specs.Under
pub use Rattle.vc_tree_model.specs.Value
pub use Rattle.vc_tree_model.specs.Walk
pub use Rattle.vc_tree_nodes.specs.Children
pub use Rattle.vc_tree_removal.specs.Changing
pub use Rattle.vc_tree_removal.specs.Without
pub use Rattle.vc_tree_walks.specs.Bounds
pub use Rattle.vc_tree_walks.specs.Ends
pub use Rattle.vc_tree_walks.specs.Folding
pub use Rattle.vc_tree_walks.specs.IterLeft
pub use Rattle.vc_tree_walks.specs.Left
pub use Rattle.vc_tree_walks.specs.OwnedLeft
pub use Rattle.vc_tree_walks.specs.Prefixes
pub use Rattle.vc_tree_walks.specs.PrefixesLeft
pub use Rattle.vc_tree_walks.specs.RangeLeft
pub use Rattle.vc_tree_walks.specs.ValuesLeft
pub use Rattle.vc_trees.specs.Commanded
pub use Rattle.vc_trees.specs.RetainedPairs
pub use Rattle.vc_trees.specs.declared.commands.TreeCommand
