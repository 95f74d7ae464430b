use Rattle.std.proofs.Common.{rules, ◌≡◌, ◌∙◌, ap, sym, refl, subst, List, ◌++◌, ◌∷◌, []}
use Rattle.std.proofs.lemmas.List.{append-nil}
use Rattle.vecbench_lines.specs.Changes.{Change, SaysChanges}
use Rattle.vecbench_lines.specs.PartsLeft.{words_left}
use Rattle.vecbench_lines.proofs.Leading.{says-next, no-fault-next}
use Rattle.vecbench_lines.proofs.changes.read_changes.Goals as goal

pub loop-name-preserved : goal.loop-name-preserved
loop-name-preserved c =
    let before = c.loop-name.invariant in
    let all = words_left c.args.words in
    let left = words_left c.loop-name.words in
    let behind = words_left c.next-in-Some.new.self in
    let name = c.in-Some.name.now in
    let word = c.in_ok-word.word.now in
    let change = c.in_ok-read_change.field-0 in
    let first : left ≡ name ∷ words_left c.next.new.self = search rules in
    let second : words_left c.next.new.self ≡ word ∷ behind = search rules in
    let is : left ≡ name ∷ word ∷ behind = first ∙ ap (λ ws. name ∷ ws) second in
    let items : c.push.new.self.items ≡ c.loop-name.changes.items ++ change ∷ [] = search rules in (
      subst (λ changes. (more : List Change) → SaysChanges behind more → SaysChanges all (changes ++ more)) (sym items)
          (says-next all left behind name word c.loop-name.changes.items change is c.in_ok-read_change.ensures.says before.0),
      before.1 ∙ no-fault-next left behind name word is c.in_ok-read_change.ensures.judged,
    )

pub returns-clause-says : goal.returns-clause-says
returns-clause-says c =
    let none : words_left c.loop-name.words ≡ [] = search rules in
    subst (λ changes. SaysChanges (words_left c.args.words) changes) (append-nil c.loop-name.changes.items)
    (c.loop-name.invariant.0 [] (subst (λ ws. SaysChanges ws []) (sym none) refl))
