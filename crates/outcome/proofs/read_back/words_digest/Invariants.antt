use Rattle.std.proofs.Common.{◌≡◌}
use Rattle.model.specs.Answers.{on}
use Rattle.console.specs.Keys.{number_of}
use Rattle.console.specs.View.{desk_of}
use Rattle.outcome.specs.ReadBack.{digest_of}
use Rattle.outcome.proofs.read_back.words_digest.Given as goal

-- the machine is as it was, and the halfwords so far are taken in
abbrev pub invariant-loop-place : goal.invariant-loop-place
invariant-loop-place g l =
    record {
      same : l.machine ≡ l.initial.machine;
      taken : number_of l.initial.machine.key.position ≡ on → l.digest ≡ digest_of (desk_of g.S.Store.meaning g.B.Bus.devices l.initial.machine).core.store l.place;
    }
