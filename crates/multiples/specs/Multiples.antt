-- The registers from one on to register 15, and the fullwords from an address on.
use Rattle.std.specs.Prelude.{ℕ, zero, suc, ◌+◌, ◌-◌}
use Rattle.model.specs.Status.{address, to_full}
use Rattle.model.specs.Effects.{Prog, ret, reg, set_reg, jump, seq}
use Rattle.multiples.specs.declared.Way.{Way}
use Rattle.multiples.specs.declared.Way.TheVariants.{Load, Store}
use Rattle.operands.specs.Operands.{then, load_full, store_full}

-- So many registers from r on, with the fullwords from a on; the address wraps.
unfoldable pub loads : ℕ → ℕ → ℕ → Prog
loads zero r a = ret 0
loads (suc n) r a = seq (load_full a) (λ v. then (set_reg r v) (loads n (r + 1) (address (a + 4))))

unfoldable pub stores : ℕ → ℕ → ℕ → Prog
stores zero r a = ret 0
stores (suc n) r a = seq (reg r) (λ v. then (store_full a v) (stores n (r + 1) (address (a + 4))))

-- One register with the fullword at a, and so many of them.
abbrev pub moved : Way → ℕ → ℕ → Prog
moved Load r a = seq (load_full a) (λ v. set_reg r v)
moved Store r a = seq (reg r) (λ v. store_full a v)

abbrev pub moves : Way → ℕ → ℕ → ℕ → Prog
moves Load n r a = loads n r a
moves Store n r a = stores n r a

-- Register 15 is the last one. multiple_tree Load is lm_tree, and multiple_tree Store is stm_tree.
abbrev pub multiple_tree : Way → ℕ → ℕ → ℕ → Prog
multiple_tree w r1 a next = then (moves w (16 - r1) r1 (to_full a)) (jump next)

abbrev pub lm_tree : ℕ → ℕ → ℕ → Prog
lm_tree r1 a next = then (loads (16 - r1) r1 (to_full a)) (jump next)

abbrev pub stm_tree : ℕ → ℕ → ℕ → Prog
stm_tree r1 a next = then (stores (16 - r1) r1 (to_full a)) (jump next)
