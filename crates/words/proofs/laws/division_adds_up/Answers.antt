use Rattle.words.proofs.Divisions.{division_adds_up_lem, remainder_small}
use Rattle.words.proofs.laws.division_adds_up.Goals as goal

pub returns : goal.returns
returns c = record { total = division_adds_up_lem; small = remainder_small }
