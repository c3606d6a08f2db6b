use Rattle.std.specs.Prelude.{◌≡◌, ◌+◌, ◌*◌, ◌-◌}
use Rattle.model.specs.Buses.{Bus}
use Rattle.model.specs.Status.{address}
use Rattle.model.specs.Effects.{run}
use Rattle.processor.specs.View.{state_of}
use Rattle.multiples.specs.Multiples.{moves}
use Rattle.multiples.proofs.moves.Given as goal

-- What is left to do is what was to be done.
abbrev pub invariant-loop-n : goal.invariant-loop-n
invariant-loop-n g l =
    (l.m.bus ≡ l.initial.m.bus)
    × ((reply : Bus) → run reply (moves l.way (16 - l.n) l.n (address (l.from.at + 4 * (l.n - l.r1)))) (state_of g.S.Store.meaning g.B.Bus.devices l.m) ≡ run reply (moves l.way (16 - l.r1) l.r1 l.from.at) (state_of g.S.Store.meaning g.B.Bus.devices l.initial.m))
