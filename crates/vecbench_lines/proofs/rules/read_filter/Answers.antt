use Rattle.std.proofs.Common.{rules, ℕ, Bool, List, ◌≡◌, ◌∷◌, ◌++◌, [], Some}
use Rattle.vecbench_lines.specs.declared.parts.Separator.TheVariants.{Comma}
use Rattle.vecbench_lines.specs.Parts.{parts_of}
use Rattle.vecbench_lines.specs.PartsLeft.{parts_left}
use Rattle.vecbench_lines.specs.Rules.{rule_in, rules_in}
use Rattle.vecbench_lines.proofs.Members.{AreRead-none, AreRead-next}
use Rattle.vecbench_lines.proofs.Ruling.{collected-empty, collected-inserted}
use Rattle.vecbench_lines.proofs.rules.read_filter.Goals as goal

pub returns-then-eq-clause-rules : goal.returns-then-eq-clause-rules
returns-then-eq-clause-rules c =
    let none : rules_in c.args.word.now ≡ Some [] = search rules in
    ([], none, collected-empty c.new-filter.result c.new-filter.ensures.is)

pub loop-part-init : goal.loop-part-init
loop-part-init c =
    let parts : parts_left c.into_iter-part-iterator.result ≡ parts_of Comma c.args.word.now = search rules in
    (tt, tt, [], AreRead-none rule_in _ _ parts, collected-empty c.new-filter.result c.new-filter.ensures.is)

pub loop-part-preserved : goal.loop-part-preserved
loop-part-preserved c =
    let before = c.loop-part.invariant in
    let rule : List ℕ × Bool = (c.in-Some-read_rule.key.now, c.in-Some-read_rule.allowed) in
    let parts : parts_left c.loop-part.part-iterator ≡ c.in-Some.part.now ∷ parts_left c.next.new.self = search rules in
    let read : rule_in c.in-Some.part.now ≡ Some rule = search rules in (
      tt,
      tt,
      before.2 ++ rule ∷ [],
      AreRead-next rule_in before.2 _ _ _ _ (parts_of Comma c.args.word.now) parts read before.3,
      collected-inserted before.2 c.in-Some-read_rule.key.now c.in-Some-read_rule.allowed c.loop-part.filter
          c.put_rule.new.filter c.in_ok-put_rule.ensures before.4,
    )
