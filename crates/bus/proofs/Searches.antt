-- The search for a request on a bus of which one device alone may request.
use Rattle.std.proofs.Common.{◌≡◌, ℕ, ◌<◌, ◌≤◌, ◌≢◌, true, false, refl, ⊎_elim, arith}
use Rattle.std.specs.Bool.{then_some}
use Rattle.std.proofs.lemmas.Bool.{cases_lt}
use Rattle.model.specs.Buses.{Bus, lowest}
use Rattle.model.proofs.Requests.{Found, is_lowest}

-- where no other device requests, it is that one, if it does
pub lowest_only : (b : Bus) (n : ℕ) → 1 ≤ n → n < 256 → ((j : ℕ) → j ≢ n → (b j).requests ≡ false) → then_some (b n).requests n ≡ lowest b
lowest_only b n from below others =
    is_lowest b _
    (elim (b n).requests as (λ x. (b n).requests ≡ x → Found b (then_some x n)) [
      | true ↦ λ asks. record { from = from; to = omega arith; requests = asks; none_lower = λ j p q. others j (λ e. omega arith) }
      | false ↦ λ rests. λ j p q. ⊎_elim (λ less. others j (λ e. omega arith)) (λ least. ⊎_elim (λ more. others j (λ e. omega arith)) (λ most. let e : j ≡ n = omega arith in rw e rests) (cases_lt n j)) (cases_lt j n)
    ] refl)
