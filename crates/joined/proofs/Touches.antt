-- What any number of touches make of two buses joined.
use Rattle.std.proofs.Common.{inl, inr}
use Rattle.bus.specs.Touches.{Becomes, untouched, once_more}
use Rattle.bus.proofs.Touches.{becomes_same, becomes_then}
use Rattle.joined.specs.Parts.{OneTouched}
use Rattle.joined.specs.declared.JoinedBus.{JoinedBus}

-- one touch of the two, after any number of each
part_touched :
    {A B : Type 0} {first : A → A → Type 0} {second : B → B → Type 0} {a x y : A} {b u v : B}
    → Becomes first a x × Becomes second b u → OneTouched first second x y u v → Becomes first a y × Becomes second b v
part_touched p (inl t) = (once_more p.0 t.0, becomes_then p.1 (becomes_same t.1))
part_touched p (inr t) = (becomes_then p.0 (becomes_same t.0), once_more p.1 t.1)

-- any number of touches of the two are such touches of each
pub each_touched : {A B : Type 0} {first : A → A → Type 0} {second : B → B → Type 0} {j k : JoinedBus A B} → Becomes (λ (x y : JoinedBus A B). OneTouched first second x.first y.first x.second y.second) j k → Becomes first j.first k.first × Becomes second j.second k.second
each_touched untouched = (untouched, untouched)
each_touched (once_more q t) = part_touched (each_touched q) t
