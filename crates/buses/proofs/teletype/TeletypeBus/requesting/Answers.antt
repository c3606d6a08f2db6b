use Rattle.std.proofs.Common.{arith, rules}
use Rattle.queue.specs.Rows.{queued}
use Rattle.bus.proofs.Searches.{lowest_only}
use Rattle.buses.specs.Devices.{teletype}
use Rattle.buses.proofs.teletype.TeletypeBus.requesting.Goals as goal

-- no device but 2 requests
pub returns : goal.returns
returns c =
    let only = lowest_only (teletype (queued c.args.self.now.waiting) c.args.self.now.usage) 2 (omega arith) (omega arith) (λ j other. search rules) in
    cc
