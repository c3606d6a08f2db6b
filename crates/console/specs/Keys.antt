-- The positions of the key by their numbers.
use Rattle.std.specs.Prelude.{◌≡◌, ℕ, ◌<◌, Result, MatchResult}
use Rattle.model.specs.declared.Denial.{Denial}
use Rattle.model.specs.declared.Denial.TheVariants.{OutOfRange}
use Rattle.model.specs.Answers.{off, on, lock}
use Rattle.console.specs.declared.key.Position.{Position}
use Rattle.console.specs.declared.key.Position.TheVariants.{Off, On, Lock}

-- The number of a position.
abbrev pub number_of : Position → ℕ
number_of Off = off
number_of On = on
number_of Lock = lock

-- The position of a number, or a denial where it is over 2.
abbrev pub Turns : ℕ → Result Position Denial → Type 0
Turns n r = MatchResult r (λ p. number_of p ≡ n) (λ d. (d ≡ OutOfRange) × (lock < n))
