use Rattle.std.proofs.Common.{◌≡◌, ap, refl, rules}
use Rattle.model.specs.declared.Item.TheVariants.{General}
use Rattle.model.specs.Answers.{on}
use Rattle.model.specs.Console.{Did}
use Rattle.instructions.specs.Instructions.{instruction}
use Rattle.console.specs.Keys.{number_of}
use Rattle.console.specs.View.{desk_of}
use Rattle.session.proofs.Shows.{shown_on}
use Rattle.neighbours.proofs.Shown.{there, first_set}
use Rattle.neighbours.proofs.marks.marks_of.Goals as goal

pub returns-clause-register : goal.returns-clause-register
returns-clause-register g c =
    let key : on ≡ number_of c.turn_key.new.self.key.position = ap (λ (d : Did). d.after.key) c.turn_key.ensures.says in
    let told = shown_on instruction (General 0 3) (desk_of g.S.Store.meaning g.B.Bus.devices c.turn_key.new.self) _ c.show.result c.show.ensures.says (search (rules, key)) there in
    search (rules, told, first_set, c.turn_key.ensures.core)
