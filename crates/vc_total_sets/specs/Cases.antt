-- How the operations of total sets are done on their lists. No public clause cites these words.
use Rattle.std.specs.Prelude.{◌≡◌, Bool, true, false, ◌||◌, ◌&&◌}
use Rattle.vc_sets.specs.Algebra.{made_by}
use Rattle.vc_sets.specs.SetOf.{and_not, exactly_one}
use Rattle.vc_total_sets.specs.declared.total_vec_set.cases.TotalOp.{TotalOp}
use Rattle.vc_total_sets.specs.declared.total_vec_set.cases.TotalOp.TheVariants.{And, Or, Xor, Minus}
use Rattle.vc_total_sets.specs.declared.total_vec_set.cases.ListOp.{ListOp}
use Rattle.vc_total_sets.specs.declared.total_vec_set.cases.ListOp.TheVariants.{Of, ReversedDifference}
use Rattle.vc_total_sets.specs.declared.total_vec_set.cases.Case.{Case}
use Rattle.vc_total_sets.specs.TotalOf.{listed_by}

-- what an operation of total sets says of a value
abbrev pub said_by : TotalOp → Bool → Bool → Bool
said_by And = ◌&&◌
said_by Or = ◌||◌
said_by Xor = exactly_one
said_by Minus = and_not

-- whether an operation of lists keeps what is in the left one, and in the right one
abbrev pub kept_by : ListOp → Bool → Bool → Bool
kept_by (Of op) = made_by op
kept_by ReversedDifference = λ a b. and_not b a

-- whether an operation keeps what is in only one of the lists: only then the left list may grow
abbrev pub keeps_either : (Bool → Bool → Bool) → Bool
keeps_either f = f true false && f false true

-- the case is what f does to the lists of two sets with these flags
pub record IsCase (f : Bool → Bool → Bool) (a_negated b_negated : Bool) (case : Case) : Type 0 where
  pub negated : case.negated ≡ f a_negated b_negated
  pub elements : (in_a in_b : Bool) → kept_by case.op in_a in_b ≡ listed_by f a_negated b_negated in_a in_b
