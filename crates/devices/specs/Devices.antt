-- Input and output. A device that is not there is number 0.
use Rattle.std.specs.Prelude.{◌≡◌, ℕ, ◌%◌, Bool, true, cond, Some, None, Ok, Err, Option, Result, ◌==◌, nat_le}
use Rattle.model.specs.declared.Trap.{Trap}
use Rattle.model.specs.Stores.{Store}
use Rattle.model.specs.Buses.{Bus}
use Rattle.model.specs.States.{State}
use Rattle.model.specs.declared.Access.TheVariants.{Read, Write}
use Rattle.model.specs.Effects.{Out, went, stopped, run, Prog, ret, reg, set_reg, set_code, jump, store, check, answers, sense, read_from, write_to, command_to, seq}
use Rattle.registers.specs.Parity.{is_odd}
use Rattle.processor.specs.declared.cpu.Core.{Core}
use Rattle.processor.specs.View.{state_of}
use Rattle.processor.specs.Writes.{put_byte}
use Rattle.fields.specs.Parts.{low_byte, device_number}
use Rattle.devices.specs.declared.output.Output.{Output}
use Rattle.devices.specs.declared.output.Output.TheVariants.{Data, Command}
use Rattle.operands.specs.Operands.{then, load_byte}

-- The devices are 1 to 255.
unfoldable pub no_device : ℕ → Bool
no_device n = cond (n == 0) true (nat_le 256 n)

-- The device that register r names, or 0 if it does not answer.
unfoldable pub device_tree : ℕ → Prog
device_tree r =
    seq (reg r) (λ x.
    cond (no_device (device_number x)) (ret 0) (seq (answers (device_number x)) (λ b. ret (cond (b == 0) 0 (device_number x)))))

abbrev pub number_of : Option ℕ → ℕ
number_of None = 0
number_of (Some d) = d

abbrev pub out_device : Result (Option ℕ) Trap → State → Out
out_device (Ok d) s = went (number_of d) s
out_device (Err e) s = stopped e s

-- The call ended with the device that register r names, and changed nothing.
module _ {S B : Type 0} (meaning : S → Store) (devices : B → Bus) where
  abbrev pub Names : ℕ → Core S B → Result (Option ℕ) Trap → Type 0
  Names r m d = (reply : Bus) → run reply (device_tree r) (state_of meaning devices m) ≡ out_device d (state_of meaning devices m)

-- Goes on with a condition code: 0 if the device did as told, 4 if it is not there.
abbrev pub end_tree : ℕ → ℕ → Prog
end_tree code next = then (set_code code) (jump next)

abbrev pub if_there : ℕ → ℕ → Prog → Prog
if_there d next p = cond (d == 0) (end_tree 4 next) p

-- ── Between a device, which register r1 names, and register r2 ──
abbrev pub wdr_tree : ℕ → ℕ → ℕ → Prog
wdr_tree r1 r2 next = seq (device_tree r1) (λ d. if_there d next (seq (reg r2) (λ v. then (write_to d (low_byte v)) (end_tree 0 next))))

abbrev pub ocr_tree : ℕ → ℕ → ℕ → Prog
ocr_tree r1 r2 next = seq (device_tree r1) (λ d. if_there d next (seq (reg r2) (λ v. then (command_to d (low_byte v)) (end_tree 0 next))))

abbrev pub rdr_tree : ℕ → ℕ → ℕ → Prog
rdr_tree r1 r2 next = seq (device_tree r1) (λ d. if_there d next (seq (read_from d) (λ b. then (set_reg r2 b) (end_tree 0 next))))

-- What goes out to a device: a byte or a command. register_out_tree Data is wdr_tree, and register_out_tree Command is ocr_tree.
abbrev pub sent : Output → ℕ → ℕ → Prog
sent Data d b = write_to d b
sent Command d b = command_to d b

abbrev pub register_out_tree : Output → ℕ → ℕ → ℕ → Prog
register_out_tree o r1 r2 next = seq (device_tree r1) (λ d. if_there d next (seq (reg r2) (λ v. then (sent o d (low_byte v)) (end_tree 0 next))))

-- The status of the device that register r names; one that is not there has the status 4.
unfoldable pub status_tree : ℕ → Prog
status_tree r = seq (device_tree r) (λ d. cond (d == 0) (ret 4) (sense d))

-- The low four bits of the status are the condition code.
abbrev pub ssr_tree : ℕ → ℕ → ℕ → Prog
ssr_tree r1 r2 next = seq (status_tree r1) (λ b. then (set_reg r2 b) (end_tree (b % 16) next))

-- ── Between a device and the byte at the address a: first the checks of its access, then the device ──
abbrev pub wd_tree : ℕ → ℕ → ℕ → Prog
wd_tree r1 a next =
    then (check Read a) (seq (device_tree r1) (λ d. if_there d next (seq (load_byte a) (λ b. then (write_to d b) (end_tree 0 next)))))

abbrev pub oc_tree : ℕ → ℕ → ℕ → Prog
oc_tree r1 a next =
    then (check Read a) (seq (device_tree r1) (λ d. if_there d next (seq (load_byte a) (λ b. then (command_to d b) (end_tree 0 next)))))

-- out_tree Data is wd_tree, and out_tree Command is oc_tree.
abbrev pub out_tree : Output → ℕ → ℕ → ℕ → Prog
out_tree o r1 a next =
    then (check Read a) (seq (device_tree r1) (λ d. if_there d next (seq (load_byte a) (λ b. then (sent o d b) (end_tree 0 next)))))

abbrev pub rd_tree : ℕ → ℕ → ℕ → Prog
rd_tree r1 a next =
    then (check Write a) (seq (device_tree r1) (λ d. if_there d next (seq (read_from d) (λ b. then (store a (put_byte (is_odd a) b)) (end_tree 0 next)))))

abbrev pub ss_tree : ℕ → ℕ → ℕ → Prog
ss_tree r1 a next =
    then (check Write a) (seq (status_tree r1) (λ b. then (store a (put_byte (is_odd a) b)) (end_tree (b % 16) next)))
