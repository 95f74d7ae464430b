-- What a command on a tree means to the machine.
use Rattle.vc_tree_model.specs.Tree.{Tree}
use Rattle.vc_tree_model.specs.Machine.{Command, insert, prepend, filter, union, intersection, difference, remove_prefix}
use Rattle.vc_tree_model.specs.Machine.{retain_prefix}
use Rattle.vc_trees.specs.declared.commands.TreeCommand.{TreeCommand}
use Rattle.vc_trees.specs.declared.commands.TreeCommand.TheVariants.{Insert, Prepend, Filter, Union, Intersection, Difference}
use Rattle.vc_trees.specs.declared.commands.TreeCommand.TheVariants.{RemovePrefix, RetainPrefix}

-- the machine's command, which has lists of components for keys and prefixes, and what contracts
-- see of the other tree
abbrev pub command_of : {K V T : Type 0} → (T → Tree K V) → TreeCommand K V T → Command K V
command_of tree (Insert key v) = insert key.items v
command_of tree (Prepend p) = prepend p.items
command_of tree (Filter p) = filter p.items
command_of tree (Union t) = union (tree t)
command_of tree (Intersection t) = intersection (tree t)
command_of tree (Difference t) = difference (tree t)
command_of tree (RemovePrefix t) = remove_prefix (tree t)
command_of tree (RetainPrefix t) = retain_prefix (tree t)
