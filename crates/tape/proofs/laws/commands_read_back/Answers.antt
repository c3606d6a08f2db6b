use Rattle.tape.proofs.ReadBack.{read_back}
use Rattle.tape.proofs.laws.commands_read_back.Goals as goal

pub returns : goal.returns
returns c = read_back
