-- What a bus may become, touch by touch.
use Rattle.std.proofs.Common.{◌≡◌, sym, subst}
use Rattle.bus.specs.Touches.{Becomes, untouched, once_more}

pub touched_once : {X : Type 0} {touched : X → X → Type 0} {a b : X} → touched a b → Becomes touched a b
touched_once t = once_more untouched t

-- the same value
pub becomes_same : {X : Type 0} {touched : X → X → Type 0} {a b : X} → b ≡ a → Becomes touched a b
becomes_same {X = X} {touched = t} {a = a} e = let P : X → Type 0 = λ x. Becomes t a x in subst P (sym e) untouched

-- one after the other
pub becomes_then : {X : Type 0} {touched : X → X → Type 0} {a b c : X} → Becomes touched a b → Becomes touched b c → Becomes touched a c
becomes_then p untouched = p
becomes_then p (once_more q t) = once_more (becomes_then p q) t
