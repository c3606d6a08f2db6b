use Rattle.std.proofs.Common.{rules}
use Rattle.queue.proofs.Extensions.{extended_same}
use Rattle.instructions.specs.Instructions.{instruction}
use Rattle.tape.specs.Commands.{next_of}
use Rattle.console.proofs.TapeCalls.{stopped, held, broken_there, denied_there, obeyed_there, gone}
use Rattle.console.proofs.tapes.obey_next.Goals as goal

pub returns-in_err-command-clause-does : goal.returns-in_err-command-clause-does
returns-in_err-command-clause-does g c =
    stopped _ _ c.from_residual.result c.in_err-command.field-0.0 (search rules) (λ place k. broken_there instruction _ c.args.letter c.args.address place k c.args.bytes.now _ _ _ c.in_err-command.ensures)

pub returns-in_err-command-clause-extended : goal.returns-in_err-command-clause-extended
returns-in_err-command-clause-extended g c = extended_same _

pub returns-in_err-address-clause-does : goal.returns-in_err-address-clause-does
returns-in_err-address-clause-does g c =
    let a = c.args.address in
    let whole = held _ c.args.bytes.now _ (next_of a c.in_ok-command.command.order) _ (c.in_ok-command.ensures a) in
    stopped _ _ c.from_residual-in_err-address.result c.in_err-address.field-0.0 (search rules)
    (λ place k. denied_there instruction _ c.args.letter a whole.0 _ place k _ c.args.bytes.now _ _ _ _ _ whole.1 whole.2 c.in_err-address.ensures.does)

pub returns-clause-does : goal.returns-clause-does
returns-clause-does g c =
    let bytes = c.args.bytes.now in
    let rest = c.in_ok-command.command.rest.now in
    let a = c.args.address in
    let whole = held _ bytes _ (next_of a c.in_ok-command.command.order) rest (c.in_ok-command.ensures a) in
    let did = c.in_ok-address.ensures.does in
    λ place k x v p more.
    obeyed_there instruction _ c.args.letter a whole.0 _ place k bytes rest _ _ _ v _ _ p did.0 x _
    whole.1 whole.2 whole.3 (gone bytes rest whole.0 place whole.2 whole.3) did.1 did.2 (search (rules, more))
