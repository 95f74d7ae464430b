-- One more tree comes in.
use Rattle.std.proofs.Common.{◌≡◌, [], ◌∷◌, ◌++◌, ◌∙◌, ap, sym, rules, drop}
use Rattle.std.proofs.lemmas.List.{drop-drop}
use Rattle.vc_tree_edits.specs.Appended.{rest_of}
use Rattle.vc_tree_edits.specs.Woven.{comer}
use Rattle.vc_tree_edits.proofs.Appended.{moved-on}
use Rattle.vc_tree_edits.proofs.appending.move_next.Goals as goal

pub loop-moved-preserved : goal.loop-moved-preserved
loop-moved-preserved g c =
    let inv = c.loop-moved.invariant in
    let taken = c.in-Some.ensures.rest in
    let within = rw taken at inv.within in
    let pushed : c.push.new.self.items ≡ c.loop-moved.right.comers.items ++ (comer c.args.place c.in_ok-tree.tree ∷ []) =
    search rules in
    record {
      within = within.1;
      rest = ap (drop 1) (sym taken ∙ inv.rest) ∙ drop-drop 1 c.loop-moved._moved (rest_of c.args.right.now);
      ends =
          λ new a. inv.ends new (moved-on _ (comer c.args.place) c.args.n c.loop-moved._moved _ _ c.loop-moved-test.true taken
          c.in_ok-tree.ensures pushed new a);
    }
