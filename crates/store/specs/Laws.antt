-- Laws of core boards.
use Rattle.std.specs.Prelude.{◌≡◌, ◌≤◌, ℕ, List, length, take}
use Rattle.model.specs.Stores.{store_limit}
use Rattle.store.specs.Boards.{core_boards}

-- Core boards mean what those of the halfwords within the limit mean.
abbrev pub BoardsWithin : Type 0
BoardsWithin = (words : List ℕ) → core_boards (take store_limit words) ≡ core_boards words

-- Within the limit, core boards are told by their meaning: where it is the same, so is each halfword, and their number.
abbrev pub BoardsToldApart : Type 0
BoardsToldApart = (xs ys : List ℕ) → length xs ≤ store_limit → length ys ≤ store_limit → core_boards xs ≡ core_boards ys → xs ≡ ys
