use Rattle.std.proofs.Common.{◌≡◌, ℕ, ◌≤◌, Bool, true, false, cond, refl, ap, lit≤}
use Rattle.decode.specs.declared.operations.Form.{Form}
use Rattle.decode.specs.declared.operations.Form.TheVariants.{Single, Indexed, Pair, Triple}
use Rattle.decode.specs.Forms.{is_long, size_of}
use Rattle.decode.proofs.forms.lengths_hold.Goals as goal

two_or_three : (b : Bool) → (1 ≤ cond b 3 2) × (cond b 3 2 ≤ 3)
two_or_three true = (lit≤ tt, lit≤ tt)
two_or_three false = (lit≤ tt, lit≤ tt)

one_to_three : (f : Form) (w : ℕ) → (1 ≤ size_of f w) × (size_of f w ≤ 3)
one_to_three Single w = (lit≤ tt, lit≤ tt)
one_to_three Indexed w = two_or_three (is_long w)
one_to_three Pair w = (lit≤ tt, lit≤ tt)
one_to_three Triple w = (lit≤ tt, lit≤ tt)

same : (f : Form) (v w : ℕ) → is_long v ≡ is_long w → size_of f v ≡ size_of f w
same Single v w e = refl
same Indexed v w e = ap (λ b. cond b 3 2) e
same Pair v w e = refl
same Triple v w e = refl

pub returns : goal.returns
returns c = (one_to_three, same)
