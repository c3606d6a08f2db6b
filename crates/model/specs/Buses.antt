-- The bus: what each device means, and what a read, a write or a command does to it.
use Rattle.std.specs.Prelude.{ℕ, zero, suc, ◌+◌, ◌%◌, ◌^◌, Bool, cond, Some, None, Option, ◌==◌}

-- The meaning of a device: whether it answers, its status, the byte that it offers, whether it requests an interrupt,
-- its latest data and command, and how often it was read, written and commanded.
pub record Device : Type 0 where
  pub answers : Bool
  pub status : ℕ
  pub offer : ℕ
  pub requests : Bool
  pub latest : ℕ
  pub command : ℕ
  pub reads : ℕ
  pub writes : ℕ
  pub commands : ℕ

-- The meaning of a bus: that of each device, 1 to 255.
abbrev pub Bus : Type 0
Bus = ℕ → Device

-- The bus b with device n as d, and all others as they were.
abbrev pub changed : Bus → ℕ → Device → Bus
changed b n d = λ k. cond (k == n) d (b k)

-- Counts are modulo 2^32.
abbrev pub counted : ℕ → ℕ
counted n = (n + 1) % 2 ^ 32

-- A device d that was read, was written the byte v, or was given the command v. Its status, offer and request may turn
-- into anything: they are then those of r.
abbrev pub was_read : Device → Device → Device
was_read r d =
    record { answers = d.answers; status = r.status; offer = r.offer; requests = r.requests; latest = d.latest; command = d.command; reads = counted d.reads; writes = d.writes; commands = d.commands }

abbrev pub was_written : ℕ → Device → Device → Device
was_written v r d =
    record { answers = d.answers; status = r.status; offer = r.offer; requests = r.requests; latest = v; command = d.command; reads = d.reads; writes = counted d.writes; commands = d.commands }

abbrev pub was_commanded : ℕ → Device → Device → Device
was_commanded v r d =
    record { answers = d.answers; status = r.status; offer = r.offer; requests = r.requests; latest = d.latest; command = v; reads = d.reads; writes = d.writes; commands = counted d.commands }

-- The first of n devices, from device k on, that requests.
unfoldable pub first_from : Bus → ℕ → ℕ → Option ℕ
first_from b zero k = None
first_from b (suc n) k = cond (b k).requests (Some k) (first_from b n (k + 1))

-- The lowest of the devices 1 to 255 that requests.
unfoldable pub lowest : Bus → Option ℕ
lowest b = first_from b 255 1
