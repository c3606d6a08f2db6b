-- The device whose request is taken first.
use Rattle.std.specs.Prelude.{◌≡◌, ℕ, ◌<◌, ◌≤◌, true, false, ◌↔◌, Some, None}
use Rattle.model.specs.Buses.{Bus, lowest}

-- No device below k requests.
abbrev pub NoneBelow : Bus → ℕ → Type 0
NoneBelow b k = (j : ℕ) → 1 ≤ j → j < k → (b j).requests ≡ false

-- Device n is there and requests, and none of a lower number does.
pub record IsLowestRequester (b : Bus) (n : ℕ) : Type 0 where
  pub from : 1 ≤ n
  pub to : n ≤ 255
  pub requests : (b n).requests ≡ true
  pub none_lower : NoneBelow b n

abbrev pub NoneRequests : Bus → Type 0
NoneRequests b = NoneBelow b 256

-- The lowest is just that device, and there is none just where no device requests.
pub record LowestIsTaken : Type 0 where
  pub device : (b : Bus) (n : ℕ) → (lowest b ≡ Some n) ↔ IsLowestRequester b n
  pub none : (b : Bus) → (lowest b ≡ None) ↔ NoneRequests b
