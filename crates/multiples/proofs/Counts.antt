-- One register more, or none.
use Rattle.std.specs.Prelude.{◌≡◌, ℕ, suc, ◌+◌, ◌*◌, ◌-◌, ◌^◌, ◌<◌, ◌≤◌}
use mathlib.Core.Path.{ap, refl, sym, ◌∙◌}
use native.Mathlib.Omega.{arith}
use Rattle.model.specs.declared.Trap.{Trap}
use Rattle.model.specs.Buses.{Bus}
use Rattle.model.specs.States.{State}
use Rattle.model.specs.Status.{address}
use Rattle.model.specs.Effects.{Out, went, stopped, and_then, Prog, ret, reg, set_reg, seq, run}
use Rattle.operands.specs.Operands.{then, load_full, store_full}
use Rattle.multiples.specs.declared.Way.{Way}
use Rattle.multiples.specs.declared.Way.TheVariants.{Load, Store}
use Rattle.multiples.specs.Multiples.{loads, stores, moved, moves}

in_order : (o : Out) (f h : ℕ → State → Out) → and_then o (λ v t. and_then (f v t) h) ≡ and_then (and_then o f) h
in_order (went v s) f h = refl
in_order (stopped c s) f h = refl

loads_more :
    (n a : ℕ) → n < 16 → loads (16 - n) n a ≡ seq (load_full a) (λ v. then (set_reg n v) (loads (16 - (n + 1)) (n + 1) (address (a + 4))))
unfolding loads
loads_more n a h = let e : 16 - n ≡ suc (16 - (n + 1)) = omega arith in ap (λ (k : ℕ). loads k n a) e

stores_more :
    (n a : ℕ) → n < 16 → stores (16 - n) n a ≡ seq (reg n) (λ v. then (store_full a v) (stores (16 - (n + 1)) (n + 1) (address (a + 4))))
unfolding stores
stores_more n a h = let e : 16 - n ≡ suc (16 - (n + 1)) = omega arith in ap (λ (k : ℕ). stores k n a) e

moves_more :
    (w : Way) (n a : ℕ) (reply : Bus) (s : State) →
    n < 16 →
    run reply (moves w (16 - n) n a) s ≡ and_then (run reply (moved w n a) s) (λ _ t. run reply (moves w (16 - (n + 1)) (n + 1) (address (a + 4))) t)
moves_more Load n a reply s h = ap (λ (p : Prog). run reply p s) (loads_more n a h) ∙ in_order (run reply (load_full a) s) _ _
moves_more Store n a reply s h = ap (λ (p : Prog). run reply p s) (stores_more n a h)

-- What is left after one register, and after the last; a stop is the stop of all.
pub moves_on :
    (w : Way) (n a : ℕ) (reply : Bus) (s t : State) →
    n < 16 →
    run reply (moved w n a) s ≡ went 0 t →
    run reply (moves w (16 - (n + 1)) (n + 1) (address (a + 4))) t ≡ run reply (moves w (16 - n) n a) s
moves_on w n a reply s t h e = sym (rw e at (moves_more w n a reply s h))

pub moves_stopped :
    (w : Way) (n a : ℕ) (reply : Bus) (s t : State) (c : Trap) →
    n < 16 →
    run reply (moved w n a) s ≡ stopped c t →
    run reply (moves w (16 - n) n a) s ≡ stopped c t
moves_stopped w n a reply s t c h e = rw e at (moves_more w n a reply s h)

pub moves_none : (w : Way) (n a : ℕ) → 16 ≤ n → moves w (16 - n) n a ≡ ret 0
unfolding loads stores
moves_none Load n a h = let e : 16 - n ≡ 0 = omega arith in ap (λ (k : ℕ). loads k n a) e
moves_none Store n a h = let e : 16 - n ≡ 0 = omega arith in ap (λ (k : ℕ). stores k n a) e

-- The fullword of the first register, and the one after that of register n.
pub first_place : (a r : ℕ) → a < 2 ^ 20 → address (a + 4 * (r - r)) ≡ a
unfolding address
first_place a r h = omega arith

pub next_place : (a r n : ℕ) → r ≤ n → address (address (a + 4 * (n - r)) + 4) ≡ address (a + 4 * (n + 1 - r))
unfolding address
next_place a r n h = omega arith
