use Rattle.std.proofs.Common.{◌≡◌, map, take, length}
use Rattle.std.specs.List.{range_with_len}
use Rattle.model.specs.Answers.{on}
use Rattle.model.specs.Console.{item_of}
use Rattle.console.specs.Keys.{number_of}
use Rattle.console.specs.View.{desk_of}
use Rattle.outcome.specs.Shown.{register}
use Rattle.outcome.proofs.shown.sixteen.Given as goal

-- the machine is as it was, and the registers so far are read
abbrev pub invariant-loop-number : goal.invariant-loop-number
invariant-loop-number g l =
    (l.machine ≡ l.initial.machine)
    × (length l.values ≡ 16)
    × (number_of l.initial.machine.key.position ≡ on →
    take l.number l.values ≡ map (λ number. item_of (register l.bank number) (desk_of g.S.Store.meaning g.B.Bus.devices l.initial.machine).core) (range_with_len 0 l.number))
