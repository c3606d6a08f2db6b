-- A privileged code is decided before its body: taking it for illegal under protection is stopping it there.
use Rattle.std.specs.Prelude.{◌≡◌, ℕ, Bool, true, false, cond, ◌&&◌}
use Rattle.model.specs.Buses.{Bus}
use Rattle.model.specs.States.{State}
use Rattle.model.specs.Status.{protected}
use Rattle.model.specs.Effects.{Out, run}
use Rattle.decode.specs.declared.operations.Operation.{Operation}
use Rattle.decode.specs.declared.operations.Operation.TheVariants.{Illegal}
use Rattle.instructions.specs.Instructions.{body_of, guarded}

pub guard_first :
    (p b : Bool) (o : Operation) (own h : ℕ) (reply : Bus) (s : State) (z : Out) →
    protected s.status ≡ p →
    run reply (body_of (cond (p && b) Illegal o) own h) s ≡ z →
    run reply (guarded b (body_of o own h)) s ≡ z
guard_first true false o own h reply s z e r = r
guard_first false false o own h reply s z e r = r
guard_first true true o own h reply s z e r = rw e r
guard_first false true o own h reply s z e r = rw e r
