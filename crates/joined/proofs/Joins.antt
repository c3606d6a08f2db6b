-- The search for a request on two buses joined.
use Rattle.std.proofs.Common.{◌≡◌, ℕ, ◌≤◌, true, false, cond, Some, None, Option, arith}
use Rattle.model.specs.Buses.{Bus, lowest}
use Rattle.model.specs.Requests.{NoneBelow, NoneRequests}
use Rattle.model.proofs.Requests.{Found, lowest_finds}
use Rattle.joined.specs.Parts.{joined, lower_of}

-- where neither requests, the two joined do not
quiet_joined : (a b : Bus) (j : ℕ) → (a j).requests ≡ false → (b j).requests ≡ false → (joined a b j).requests ≡ false
quiet_joined a b j p q =
    elim (a j).answers as (λ x. (cond x (a j) (b j)).requests ≡ false) [ true ↦ p | false ↦ q ]

-- before the lower of the two devices found, none requests
abbrev pub QuietTo : Bus → Option ℕ → Type 0
QuietTo b None = NoneRequests b
QuietTo b (Some d) = (1 ≤ d) × NoneBelow b d

found_joined : (a b : Bus) (x y : Option ℕ) → Found a x → Found b y → QuietTo (joined a b) (lower_of x y)
found_joined a b None None p q = λ j l m. quiet_joined a b j (p j l m) (q j l m)
found_joined a b None (Some e) p q = (q.from, λ j l m. quiet_joined a b j (p j l (omega (arith, q.to))) (q.none_lower j l m))
found_joined a b (Some d) None p q = (p.from, λ j l m. quiet_joined a b j (p.none_lower j l m) (q j l (omega (arith, p.to))))
found_joined a b (Some d) (Some e) p q =
    (omega (arith, p.from, q.from), λ j l m. quiet_joined a b j (p.none_lower j l (omega arith)) (q.none_lower j l (omega arith)))

pub joined_quiet : (a b : Bus) (x y r : Option ℕ) → x ≡ lowest a → y ≡ lowest b → r ≡ lower_of x y → QuietTo (joined a b) r
joined_quiet a b x y r p q e = rw (e, p, q) (found_joined a b (lowest a) (lowest b) (lowest_finds a) (lowest_finds b))
