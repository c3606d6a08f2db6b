use Rattle.model.proofs.laws.stores_stay_sound.Goals as goal
use Rattle.model.proofs.Histories.{places_stay, stores_stay_sound as sound_stay}

pub returns-clause-places : goal.returns-clause-places
returns-clause-places c = places_stay

pub returns-clause-sound : goal.returns-clause-sound
returns-clause-sound c = sound_stay
