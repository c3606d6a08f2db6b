-- What each kind of store means, by what it is made of.
use Rattle.std.specs.Prelude.{cond, List, ℕ, min, ltb, length, get_or, set}
use Rattle.model.specs.declared.Kind.TheVariants.{Writable, Unfitted}
use Rattle.model.specs.Stores.{Store, store_limit}

-- Core boards over a list of halfwords: every place within the limit is writable; halfwords past it are not used.
abbrev pub board_places : List ℕ → ℕ
board_places words = min (length words) store_limit

abbrev pub core_boards : List ℕ → Store
core_boards words =
    record {
      fitted = board_places words;
      kind = λ p. cond (ltb p (board_places words)) Writable Unfitted;
      word = λ p. cond (ltb p (board_places words)) (get_or words p 0) 0;
    }

-- Their halfwords after v was written to the place p.
abbrev pub boards_after : List ℕ → ℕ → ℕ → List ℕ
boards_after words p v = cond (ltb p (board_places words)) (set words p v) words
