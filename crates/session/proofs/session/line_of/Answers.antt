use Rattle.std.proofs.Common.{◌≡◌, refl, ap, ◌∙◌, rules}
use Rattle.model.specs.Answers.{on}
use Rattle.model.specs.declared.Item.TheVariants.{Status, Location}
use Rattle.instructions.specs.Instructions.{instruction}
use Rattle.console.specs.Keys.{number_of}
use Rattle.console.specs.View.{desk_of}
use Rattle.session.proofs.Shows.{shown_on}
use Rattle.session.proofs.session.line_of.Goals as goal

pub returns-clause-shows : goal.returns-clause-shows
returns-clause-shows g c = λ key.
    let same = c.show.ensures.same in
    let key' : number_of c.show.new.self.key.position ≡ on = ap (λ m. number_of m.key.position) same ∙ key in
    let one = shown_on instruction Location (desk_of g.S.Store.meaning g.B.Bus.devices c.args.machine.now) _ c.show.result c.show.ensures.says key refl in
    let two = shown_on instruction Status (desk_of g.S.Store.meaning g.B.Bus.devices c.show.new.self) _ c.show-2.result c.show-2.ensures.says key' refl in
    search (rules, one, two, same)
