-- How far two lists of answers agree.
use Rattle.std.specs.Prelude.{◌≡◌, ◌≢◌, ℕ, ◌<◌, ◌≤◌, List, length, take, slice_get}
use Rattle.model.specs.declared.StepAnswer.{StepAnswer}

-- n is the length of the longest front that two lists have in common.
pub record AgreeFor (n : ℕ) (xs ys : List StepAnswer) : Type 0 where
  pub in_one : n ≤ length xs
  pub in_other : n ≤ length ys
  pub same : take n xs ≡ take n ys
  pub longest : n < length xs → n < length ys → slice_get xs n ≢ slice_get ys n
