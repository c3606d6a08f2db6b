use Rattle.model.proofs.laws.interrupts_save_and_load.Goals as goal
use Rattle.model.proofs.Interrupts.{interrupts_in_words as law}

pub returns : goal.returns
returns c = law
