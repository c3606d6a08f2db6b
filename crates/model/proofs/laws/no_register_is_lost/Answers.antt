use Rattle.model.proofs.laws.no_register_is_lost.Goals as goal
use Rattle.model.proofs.Histories.{registers_stay as general_stay, segments_stay}

pub returns-clause-general : goal.returns-clause-general
returns-clause-general c = general_stay

pub returns-clause-segmentation : goal.returns-clause-segmentation
returns-clause-segmentation c = segments_stay
