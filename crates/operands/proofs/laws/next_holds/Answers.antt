use Rattle.std.proofs.Common.{◌≡◌, ℕ, ◌+◌, ◌*◌, Bool, true, false, cond, refl}
use Rattle.model.specs.Status.{address}
use Rattle.decode.specs.Forms.{is_long}
use Rattle.operands.proofs.laws.next_holds.Goals as goal

behind : (b : Bool) (own : ℕ) → cond b (address (own + 6)) (address (own + 4)) ≡ address (own + 2 * cond b 3 2)
behind true own = refl
behind false own = refl

pub returns : goal.returns
returns c = λ own w. behind (is_long w) own
