use Rattle.std.proofs.Common.{◌-◌, length, refl, ap}
use Rattle.queue.specs.Rows.{queued, capacity}
use Rattle.model.specs.Console.{Did, onto}
use Rattle.console.specs.View.{desk_of, stepped_by}
use Rattle.model.specs.Calls.{key, examine, deposit, show, step}
use Rattle.queue.proofs.Extensions.{extended_same}
use Rattle.comparison.proofs.Chains.{step_followed, told_ok}
use Rattle.comparison.proofs.follow.follow_one.Goals as goal

pub returns-in-TurnKey-clause-does : goal.returns-in-TurnKey-clause-does
returns-in-TurnKey-clause-does g c = rw c.in-TurnKey.is (record { what = key c.in-TurnKey.position; each = refl; leads = ap (λ (d : Did). d.after) c.turn_key.ensures.says; adds = ap (λ (d : Did). onto (queued c.args.trace.now) d.added) c.turn_key.ensures.says; tells = refl })

pub returns-in-Examine-clause-does : goal.returns-in-Examine-clause-does
returns-in-Examine-clause-does g c = rw c.in-Examine.is (record { what = examine c.in-Examine.address; each = refl; leads = ap (λ (d : Did). d.after) c.examine.ensures.says; adds = ap (λ (d : Did). onto (queued c.args.trace.now) d.added) c.examine.ensures.says; tells = refl })

pub returns-in-Deposit-clause-does : goal.returns-in-Deposit-clause-does
returns-in-Deposit-clause-does g c = rw c.in-Deposit.is (record { what = deposit c.in-Deposit.address c.in-Deposit.word; each = refl; leads = ap (λ (d : Did). d.after) c.deposit.ensures.says; adds = ap (λ (d : Did). onto (queued c.args.trace.now) d.added) c.deposit.ensures.says; tells = refl })

pub returns-in-Show-clause-does : goal.returns-in-Show-clause-does
returns-in-Show-clause-does g c = rw c.in-Show.is (record { what = show c.in-Show.item; each = refl; leads = ap (λ (d : Did). d.after) c.show.ensures.says; adds = ap (λ (d : Did). onto (queued c.args.trace.now) d.added) c.show.ensures.says; tells = refl })

pub returns-in-Step-clause-does : goal.returns-in-Step-clause-does
returns-in-Step-clause-does g c =
    let room = capacity c.args.trace.now - length (queued c.args.trace.now) in
    let reply = g.B.Bus.devices c.step.new.self.core.bus in
    let w = desk_of g.S.Store.meaning g.B.Bus.devices c.args.machine.now in
    let v = desk_of g.S.Store.meaning g.B.Bus.devices c.step.new.self in
    let one = step_followed room reply w v (queued c.args.trace.now) (queued c.step.new.trace) (stepped_by c.step.result) c.ok.result c.step.ensures.says (told_ok c.step.result c.ok.result c.ok.ensures.value) in
    rw c.in-Step.is (record { what = step room reply; each = (reply, refl); leads = one.0; adds = one.1; tells = one.2 })

pub returns-in-TurnKey-clause-extended : goal.returns-in-TurnKey-clause-extended
returns-in-TurnKey-clause-extended g c = extended_same _

pub returns-in-Examine-clause-extended : goal.returns-in-Examine-clause-extended
returns-in-Examine-clause-extended g c = extended_same _

pub returns-in-Deposit-clause-extended : goal.returns-in-Deposit-clause-extended
returns-in-Deposit-clause-extended g c = extended_same _

pub returns-in-Show-clause-extended : goal.returns-in-Show-clause-extended
returns-in-Show-clause-extended g c = extended_same _
