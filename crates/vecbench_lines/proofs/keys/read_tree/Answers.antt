use Rattle.std.proofs.Common.{rules, ◌≡◌, refl, ◌∷◌, ◌++◌, [], Some}
use Rattle.vecbench_lines.specs.declared.parts.Separator.TheVariants.{Comma}
use Rattle.vecbench_lines.specs.Keys.{key_in, keys_in}
use Rattle.vecbench_lines.specs.Parts.{parts_of}
use Rattle.vecbench_lines.specs.PartsLeft.{parts_left}
use Rattle.vecbench_lines.proofs.Binding.{HasKeys-empty, HasKeys-inserted}
use Rattle.vecbench_lines.proofs.Members.{AreRead-none, AreRead-next}
use Rattle.vecbench_lines.proofs.keys.read_tree.Goals as goal

pub returns-then-eq-clause-keys : goal.returns-then-eq-clause-keys
returns-then-eq-clause-keys c =
    let none : keys_in c.args.word.now ≡ Some [] = search rules in
    ([], none, HasKeys-empty c.empty-tree.result c.empty-tree.ensures.is)

pub loop-part-init : goal.loop-part-init
loop-part-init c =
    let parts : parts_left c.into_iter-part-iterator.result ≡ parts_of Comma c.args.word.now = search rules in
    (tt, tt, [], AreRead-none key_in _ _ parts, HasKeys-empty c.empty-tree.result c.empty-tree.ensures.is)

pub same-tree : goal.same-tree
same-tree c = refl

pub same-tree-in-Continue-1 : goal.same-tree-in-Continue-1
same-tree-in-Continue-1 c = refl

pub loop-part-preserved : goal.loop-part-preserved
loop-part-preserved c =
    let before = c.loop-part.invariant in
    let parts : parts_left c.loop-part.part-iterator ≡ c.in-Some.part.now ∷ parts_left c.next.new.self = search rules in
    let key : key_in c.in-Some.part.now ≡ Some c.in-Some-read_key.key.now = search rules in (
      tt,
      tt,
      before.2 ++ c.in-Some-read_key.key.now ∷ [],
      AreRead-next key_in before.2 _ _ _ _ (parts_of Comma c.args.word.now) parts key before.3,
      HasKeys-inserted before.2 c.in-Some-read_key.key.now _ _ _ c.in_ok-insert.ensures.ok
          c.in_ok-insert.ensures.canonical before.4,
    )
