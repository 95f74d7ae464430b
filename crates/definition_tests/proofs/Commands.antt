-- Worked rows of the definition on commands.
use Rattle.std.specs.Prelude.{◌≡◌, ℕ, codes, refl}
use Rattle.vc_tree_model.specs.Machine.{union, remove_prefix}
use Rattle.vc_trees.specs.Commanded.{command_of}
use Rattle.vc_trees.specs.declared.commands.TreeCommand.TheVariants.{Union, RemovePrefix}
use Rattle.definition_tests.proofs.Letters.{leaf}

-- a union with a tree that is stored as 7, and is seen as ab*, is the machine's union with ab*
union_command : command_of {K = ℕ} {V = ℕ} {T = ℕ} (λ n. leaf (codes "ab") n) (Union 7) ≡ union (leaf (codes "ab") 7)
union_command = refl

remove_command : command_of {K = ℕ} {V = ℕ} {T = ℕ} (λ n. leaf (codes "ab") n) (RemovePrefix 7) ≡ remove_prefix (leaf (codes "ab") 7)
remove_command = refl
