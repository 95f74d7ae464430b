-- All words that contracts cite, from the files that define them, so that a caller has them in one import. Made by tools/pages.
pub use Rattle.vc_btree_maps.specs.Keeping.{IsGrown, MayGive, MayLeave, MayLeaveShared, OrGives, OrStays, StayedKey, StayedOrCloned, at_pair}
pub use Rattle.vc_btree_maps.specs.KeepingValues.{GivesBy, LeavesBy, LeavesSharedBy, or_given, or_stays}
pub use Rattle.vc_btree_maps.specs.Pairs.{GivesFirst, pairs_left}
pub use Rattle.vc_intervals.specs.IntervalsOf.{Comes, IsIntervalDisjoint, IsIntervalSubset, IsIntervalsOf}
pub use Rattle.vc_intervals.specs.Listed.{begun_start, listed, listed_from, shown_ends}
pub use Rattle.vc_intervals.specs.Ranges.{in_range, in_some}
pub use Rattle.vc_intervals.specs.Boundaries.{Intervals, IsClonedIntervals, IsEqualIntervals, complement as complement_of_intervals, holds, intervals, toggled}
pub use Rattle.vc_joins.specs.Answers.{MayAnswer, MayAnswerInner, MayAnswerLeft, MayAnswerRight, seen, seen_inner, seen_left, seen_right}
pub use Rattle.vc_joins.specs.Entries.{AscendsByKey, entry_at, value_at}
pub use Rattle.vc_joins.specs.InPlace.{MayTurn, MayTurnInner, MayTurnLeft, MayTurnRight, handed, handed_inner, handed_left, handed_right}
pub use Rattle.vc_joins.specs.Join.{ClonedKey, IsAnswered, IsAsked, IsJoin, IsJoinBy, MovedKey, OldKey}
pub use Rattle.vc_joins.specs.Question.{asked}
pub use Rattle.vc_joins.specs.Values.{AnswersBy, AnswersInnerBy, AnswersLeftBy, AnswersRightBy, JoinsValues, TurnsBy, TurnsInnerBy, TurnsLeftBy, TurnsRightBy, in_both, in_either, in_kind, in_left, in_right, of_values}
pub use Rattle.vc_maps.specs.Borrowed.{value_by}
pub use Rattle.vc_maps.specs.Collecting.{IsCollected as IsMapCollected, IsExtended as IsMapExtended}
pub use Rattle.vc_maps.specs.Combining.{CanCombine, Combines, IsCombinedBy, combined}
pub use Rattle.vc_maps.specs.Iterating.{HandsPairs, ShowsPairs}
pub use Rattle.vc_maps.specs.Lending.{IsWritten, lends_value}
pub use Rattle.vc_maps.specs.Mapping.{AnswersInTurn, MapsEntry}
pub use Rattle.vc_maps.specs.Updating.{IsBound, IsWrittenBy, UpsertsEntry, UpsertsValue, lends_bound, lends_value_by}
pub use Rattle.vc_maps.specs.Writing.{CanWriteAt, CanWriteEach, WritesAt, WritesEntry, WritesInTurn}
pub use Rattle.vc_merge.specs.Ascending.{Ascends, element_at, member}
pub use Rattle.vc_merge.specs.Chain.{Allows, Answer, Finishes, Gives, IsAllowed, IsAtFront, IsMerged, Run, Step, Steps, Stops, events, run_events}
pub use Rattle.vc_merge.specs.Clones.{ClonesAreEqual}
pub use Rattle.vc_merge.specs.Count.{bound, by_strides, digits, ticked}
pub use Rattle.vc_merge.specs.Fronts.{HeadsCompare, LeftBelow, RightBelow}
pub use Rattle.vc_merge.specs.Gathering.{Appends, Gathers, IsBuilding, IsBuilt}
pub use Rattle.vc_merge.specs.Retaining.{AnswersAs, IsRetained}
pub use Rattle.vc_merge.specs.Script.{BothAscend, Event, IsMatched, IsScript, lefts, place, rights}
pub use Rattle.vc_merge.specs.Showing.{ShowsBackwards, ShowsBothWays, ShowsByKey, ShowsItems}
pub use Rattle.vc_merge.specs.Takes.{TakesBoth, TakesLeft, TakesRight}
pub use Rattle.vc_merge.specs.Yielded.{AscendsAlong, Calls, gives_ascending}
pub use Rattle.vc_path_filter.specs.Allowed.{IsRestricted, is_allowed}
pub use Rattle.vc_sets.specs.Algebra.{IsTestedBy, made_by}
pub use Rattle.vc_sets.specs.Borrowed.{behind_by_form, behind_by_option, element_by, equal_by_form, equal_by_option, member_by, option_side}
pub use Rattle.vc_sets.specs.Collecting.{GivesMoreThan, IsCollected, IsExtended}
pub use Rattle.vc_sets.specs.Iterating.{Hands, Shows}
pub use Rattle.vc_sets.specs.SetOf.{IsSetOf, Keeps, and_not, exactly_one}
pub use Rattle.vc_sets.specs.Tests.{IsDisjoint, IsSubset}
pub use Rattle.vc_total_maps.specs.CombinedTotals.{CanOnClones, ClonesFirst, CombinesValues, GivesOnClones, HoldsEverywhere, IsCombined, IsListed, Stands}
pub use Rattle.vc_total_maps.specs.MappedTotals.{CanOnClone, GivesOnClone, HoldsOfEach, IsMapped}
pub use Rattle.vc_total_maps.specs.Putting.{IsPut}
pub use Rattle.vc_total_maps.specs.TotalMap.{IsClonedMap, NoneIsDefault, TotalMap, at, put_entry, put_value, total_map}
pub use Rattle.vc_total_sets.specs.TotalOf.{IsPointwise, IsTotalOf, IsTotalOfEither, listed_by}
pub use Rattle.vc_total_sets.specs.TotalSet.{IsClonedTotal, IsEqualTotal, TotalSet, complement, has, total}
pub use Rattle.vc_total_sets.specs.TotalTests.{IsTotalDisjoint, IsTotalSubset}
pub use Rattle.vc_total_sets.specs.Within.{within_by}
pub use Rattle.vc_tree_edits.specs.Editing.{CanLeave, CanMeet, KeptThen, MayLeave as MayLeaveInTree, OrStays as OrStaysInTree}
pub use Rattle.vc_tree_model.specs.Asking.{CanAsk, CanAskAt, CanJudge, MayAnswer as MayAnswerOfTree, MayAnswerAt, MayJudge}
pub use Rattle.vc_tree_model.specs.Binds.{Binds}
pub use Rattle.vc_tree_model.specs.Combine.{IsCombined as IsTreeCombined, IsDifferenceAt, IsInnerAt, IsIntersectionAt, IsLeftAt, IsOuterAt, IsUnionAt}
pub use Rattle.vc_tree_model.specs.Cover.{IsLongestCover, IsRemoved, IsRetained as IsTreeRetained, IsVerdict, cover}
pub use Rattle.vc_tree_model.specs.Depth.{IsShallow, depth, forest_depth}
pub use Rattle.vc_tree_model.specs.Equal.{same_tree}
pub use Rattle.vc_tree_model.specs.Key.{BeginsBelow, IsLess, Starts, behind, same_key}
pub use Rattle.vc_tree_model.specs.KeySets.{AreDisjoint, HasKeysOf, LacksKeyOf, ShareKey}
pub use Rattle.vc_tree_model.specs.Machine.{Command, KeptRun, KeptStep, Run as TreeRun, RunBy, Step as TreeStep, after, refused}
pub use Rattle.vc_tree_model.specs.Map.{HaveEqualMaps, IsEqualMap, IsInserted, IsUpdated, lookup}
pub use Rattle.vc_tree_model.specs.Matches.{AreCopies, HaveOneSource}
pub use Rattle.vc_tree_model.specs.OneTree.{IsOneTree, IsSmallest}
pub use Rattle.vc_tree_model.specs.Pairs.{IsCollected as IsTreeCollected, last_bound}
pub use Rattle.vc_tree_model.specs.Same.{IsAlike, IsSame}
pub use Rattle.vc_tree_model.specs.Shortened.{IsShortened, weight}
pub use Rattle.vc_tree_model.specs.Snapshot.{IsSnapshot}
pub use Rattle.vc_tree_model.specs.Tree.{Forest, Tree, forest, is_bare, key_count, made, no_tree, node, nodes, shortened, trees, width}
pub use Rattle.vc_tree_model.specs.TreeCode.{tree_code}
pub use Rattle.vc_tree_model.specs.Under.{prefixed, under}
pub use Rattle.vc_tree_model.specs.Value.{Copies, IsKept}
pub use Rattle.vc_tree_model.specs.Walk.{IsWalk, walk}
pub use Rattle.vc_tree_nodes.specs.Children.{seen as seen_children}
pub use Rattle.vc_tree_removal.specs.Changing.{CanChange, CanWrite, ComesOf, IsChanged, MayWrite}
pub use Rattle.vc_tree_removal.specs.Without.{AllBegin, IsWithout, IsWithoutAll, IsWithoutBelow}
pub use Rattle.vc_tree_walks.specs.Bounds.{above, below, not_below}
pub use Rattle.vc_tree_walks.specs.Ends.{IsGreatestPair, IsLeastPair}
pub use Rattle.vc_tree_walks.specs.Folding.{CanFold, IsStopped, TurnFails, Turns}
pub use Rattle.vc_tree_walks.specs.IterLeft.{pairs_left as tree_pairs_left, work_left}
pub use Rattle.vc_tree_walks.specs.Left.{Walks}
pub use Rattle.vc_tree_walks.specs.OwnedLeft.{WalksClones, held_left, held_work}
pub use Rattle.vc_tree_walks.specs.Prefixes.{bound_prefixes}
pub use Rattle.vc_tree_walks.specs.PrefixesLeft.{prefixes_left, prefixes_work}
pub use Rattle.vc_tree_walks.specs.RangeLeft.{range_left, range_work}
pub use Rattle.vc_tree_walks.specs.ValuesLeft.{values_left, values_work}
pub use Rattle.vc_trees.specs.Commanded.{command_of}
pub use Rattle.vc_trees.specs.RetainedPairs.{CanTell, IsRetainedAsTold, IsTold, MayTell, StaysAsTold}
