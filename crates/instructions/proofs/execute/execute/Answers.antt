use Rattle.std.specs.Prelude.{◌≡◌, ℕ}
use mathlib.Core.Path.{◌∙◌, ap, subst}
use Rattle.model.specs.Effects.{run}
use Rattle.processor.specs.View.{state_of, out₀}
use Rattle.decode.specs.declared.operations.Operation.{Operation}
use Rattle.decode.specs.Codes.{permitted, is_privileged, operation_of}
use Rattle.decode.specs.Forms.{code_field}
use Rattle.instructions.specs.Instructions.{body_of, instruction}
use Rattle.instructions.proofs.Guards.{guard_first}
use Rattle.instructions.proofs.execute.execute.Goals as goal

pub returns-clause-does : goal.returns-clause-does
unfolding instruction permitted
returns-clause-does g c =
    let s = state_of g.S.Store.meaning g.B.Bus.devices c.args.m.now in
    let code = code_field c.args.first in
    let p = c.protected.result in
    let t = state_of g.S.Store.meaning g.B.Bus.devices c.body.new.m in
    let reply = g.B.Bus.devices c.body.new.m.bus in
    let z = out₀ c.body.result t in
    let op : c.operation-operation.result ≡ permitted p code = c.operation-operation.ensures ∙ ap (λ (k : ℕ). permitted p k) c.code_field.ensures in
    let at : c.location-own.result.at ≡ s.location = cc in
    guard_first p (is_privileged code) (operation_of code) s.location c.args.first reply s z (cc)
    (subst (λ (o : Operation). run reply (body_of o s.location c.args.first) s ≡ z) op
    (subst (λ (l : ℕ). run reply (body_of c.operation-operation.result l c.args.first) s ≡ z) at c.body.ensures.does))
