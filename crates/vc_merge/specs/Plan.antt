-- How a merge finds its events, and the most comparisons that this takes.
use Rattle.std.specs.Prelude.{ℕ, ◌+◌, ◌<◌, ⊤}
use Rattle.vc_merge.specs.declared.plan.Plan.{Plan}
use Rattle.vc_merge.specs.declared.plan.Plan.TheVariants.{Walk, Search}
use Rattle.vc_merge.specs.declared.plan.Side.{Side}
use Rattle.vc_merge.specs.declared.plan.Side.TheVariants.{Left, Right}
use Rattle.vc_merge.specs.Count.{by_strides}

-- the length of the shorter list, which is on this side, and that of the other list
abbrev pub fewer : Side → ℕ → ℕ → ℕ
fewer Left left right = left
fewer Right left right = right

abbrev pub more : Side → ℕ → ℕ → ℕ
more Left left right = right
more Right left right = left

-- the exponent of the strides is one of a usize
abbrev pub IsPlan : Plan → Type 0
IsPlan Walk = ⊤
IsPlan (Search shorter exponent) = exponent < 64

-- the most comparisons of a merge of lists of m and n elements that goes by a plan
abbrev pub planned : Plan → ℕ → ℕ → ℕ
planned Walk m n = m + n
planned (Search shorter exponent) m n = by_strides exponent (fewer shorter m n) (more shorter m n)
