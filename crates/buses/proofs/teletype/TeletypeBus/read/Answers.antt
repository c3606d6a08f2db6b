use Rattle.buses.specs.Touches.{by_read}
use Rattle.buses.proofs.teletype.TeletypeBus.read.Goals as goal

pub returns-clause-touches : goal.returns-clause-touches
returns-clause-touches c = by_read (record { bytes = c.take.ensures.taken; counted = c.take.ensures.counted; same = c.take.ensures.same; slots = c.take.ensures.slots })
