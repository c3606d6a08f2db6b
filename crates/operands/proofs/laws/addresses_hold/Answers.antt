use Rattle.std.proofs.Common.{ℕ, ◌%◌, ◌^◌, ◌<◌, Bool, true, false, cond, ltb, arith}
use Rattle.model.specs.Status.{to_half, to_full, to_psw}
use Rattle.decode.specs.Forms.{address_of}
use Rattle.operands.specs.Laws.{Address}
use Rattle.operands.proofs.laws.addresses_hold.Goals as goal

either : (b : Bool) (x y : ℕ) → x < 2 ^ 20 → y < 2 ^ 20 → cond b x y < 2 ^ 20
either true x y p q = p
either false x y p q = q

cut : (n : ℕ) → n % 2 ^ 20 < 2 ^ 20
cut n = omega arith

small : (own w x i j : ℕ) → address_of own w x i j < 2 ^ 20
unfolding address_of
small own w x i j = either (ltb w (2 ^ 14)) _ _ (cut _) (either (ltb w (2 ^ 15)) _ _ (cut _) (cut _))

at : (a : ℕ) → a < 2 ^ 20 → Address a
unfolding to_half to_full to_psw
at a h =
    record {
      small = h;
      half = omega arith;
      full = omega arith;
      psw = omega arith;
      halves = omega arith;
      fulls = omega arith;
      psws = omega arith;
    }

pub returns : goal.returns
returns c = λ own w x i j. at (address_of own w x i j) (small own w x i j)
