use Rattle.vc_merge.proofs.merge.walk_or_search.Goals as goal

pub returns-in-Walk-clause-walk : goal.returns-in-Walk-clause-walk
returns-in-Walk-clause-walk g c = rw c.in-Walk.is c.walk.ensures.walk

pub returns-in-Search-clause-walk : goal.returns-in-Search-clause-walk
returns-in-Search-clause-walk g c = rw c.in-Search.is c.search_each.ensures.walk
