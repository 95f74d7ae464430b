use Rattle.std.proofs.Common.{◌≡◌, ◌≤◌, ◌++◌, length, ap, arith, length-append, ◌∙◌, Result, Ok, Err, OnErr}
use Rattle.std.proofs.iter.runs.Consumers.{total_runs}
use Rattle.vc_sets.proofs.vec_set.conversions.list_of_items.Goals as goal

-- what holds is left by a refusal, too
at-refusal : {A E P : Type 0} → P → (r : Result A E) → OnErr r P
at-refusal p (Ok a) = tt
at-refusal p (Err e) = p

pub returns-in_err-extend-clause-room : goal.returns-in_err-extend-clause-room
returns-in_err-extend-clause-room g c =
    let full = c.in_err-extend.ensures.full in
    let items : length c.extend.new.self.items ≡ length (c.new-list.result.items ++ full.1) = ap length full.6 in
    let none : length c.new-list.result.items ≡ 0 = ap length c.new-list.ensures.items in
    let many : g.row.N ≤ length full.1 = omega (arith, c.new-list.ensures.capacity, c.in_err-extend.ensures.capacity, full.7, items, length-append c.new-list.result.items full.1, none) in
    at-refusal (full.1, full.2, full.3, rw full.4 at full.5, many) c.from_residual.result

pub returns-clause-runs : goal.returns-clause-runs
returns-clause-runs g c =
    let ran = c.in_ok-extend.ensures.ran in
    total_runs g.I.Iterator.next_gives c.args.iter (Unit {0}) (λ xs. c.extend.new.self.items ≡ xs)
    (ran.1, (λ _. rw ran.2 at ran.4), ran.3 ∙ ap (λ l. l ++ ran.1) c.new-list.ensures.items) tt
