use Rattle.std.proofs.Common.{sym, refl, subst, rules}
use Rattle.queue.specs.Rows.{queued, capacity}
use Rattle.queue.proofs.Extensions.{extended_same}
use Rattle.model.specs.Answers.{done, ran}
use Rattle.model.specs.Tapes.{Obeys}
use Rattle.instructions.specs.Instructions.{instruction}
use Rattle.tape.specs.declared.orders.Order.{Order}
use Rattle.tape.specs.Commands.{order_of}
use Rattle.console.specs.Tape.{on_desk}
use Rattle.console.proofs.RunCalls.{run_made}
use Rattle.console.proofs.tapes.obey.Goals as goal

pub returns-in-Point-clause-does : goal.returns-in-Point-clause-does
returns-in-Point-clause-does g c = (done, search rules, refl)

pub returns-in_ok-deposit_at-in-Deposit-clause-does : goal.returns-in_ok-deposit_at-in-Deposit-clause-does
returns-in_ok-deposit_at-in-Deposit-clause-does g c = (done, search rules, refl)

pub returns-in_ok-set_item-in-Set-clause-does : goal.returns-in_ok-set_item-in-Set-clause-does
returns-in_ok-set_item-in-Set-clause-does g c = (done, search rules, refl)

pub returns-in_ok-run-in-Go-clause-does : goal.returns-in_ok-run-in-Go-clause-does
returns-in_ok-run-in-Go-clause-does g c =
    let a = c.in_ok-run-in-Go.field-0 in
    let w = on_desk g.S.Store.meaning g.B.Bus.devices c.args.core.now in
    let v = on_desk g.S.Store.meaning g.B.Bus.devices c.run.new.m in
    let q = queued c.args.trace.now in
    let p = queued c.run.new.trace in
    let cap = capacity c.args.trace.now in
    let made = run_made instruction _ _ _ c.in-Go.count _ w q (ran a.steps a.reason) v p (sym c.in_ok-run-in-Go.ensures.refused) refl refl c.in_ok-run-in-Go.ensures.does in
    (ran a.steps a.reason, subst (λ (o : Order). Obeys instruction cap (order_of c.args.address o) w q (ran a.steps a.reason) v p) (sym c.in-Go.is) made, refl)

pub returns-in-Point-clause-extended : goal.returns-in-Point-clause-extended
returns-in-Point-clause-extended g c = extended_same _

pub returns-in_ok-deposit_at-in-Deposit-clause-extended : goal.returns-in_ok-deposit_at-in-Deposit-clause-extended
returns-in_ok-deposit_at-in-Deposit-clause-extended g c = extended_same _

pub returns-in_err-deposit_at-in-Deposit-clause-extended : goal.returns-in_err-deposit_at-in-Deposit-clause-extended
returns-in_err-deposit_at-in-Deposit-clause-extended g c = extended_same _

pub returns-in_ok-set_item-in-Set-clause-extended : goal.returns-in_ok-set_item-in-Set-clause-extended
returns-in_ok-set_item-in-Set-clause-extended g c = extended_same _

pub returns-in_err-set_item-in-Set-clause-extended : goal.returns-in_err-set_item-in-Set-clause-extended
returns-in_err-set_item-in-Set-clause-extended g c = extended_same _
