-- Every code has one form, and every instruction one length.
use Rattle.std.specs.Prelude.{◌≡◌, ℕ, ◌≤◌, Bool, true, false, cond, List, [], ◌∷◌, ◌++◌, map, ◌==◌}
use Rattle.decode.specs.declared.operations.Form.{Form}
use Rattle.decode.specs.declared.operations.Form.TheVariants.{Single, Indexed, Pair, Triple}
use Rattle.decode.specs.Codes.{operation_of}
use Rattle.decode.specs.Table.{numbers, is_legal}
use Rattle.decode.specs.Forms.{form_of, is_long, size_of}

-- The codes of each form.
abbrev pub codes_of : Form → List ℕ
codes_of Single =
    0x01 ∷ 0x02 ∷ 0x03 ∷ 0x04 ∷ 0x05 ∷ 0x06 ∷ 0x07 ∷ 0x08 ∷ 0x09 ∷ 0x0a ∷ 0x0b ∷
    0x10 ∷ 0x11 ∷ 0x18 ∷ 0x1c ∷ 0x1d ∷
    0x20 ∷ 0x21 ∷ 0x22 ∷ 0x23 ∷ 0x24 ∷ 0x25 ∷ 0x26 ∷ 0x27 ∷
    0x34 ∷
    0x92 ∷ 0x93 ∷ 0x94 ∷ 0x95 ∷ 0x9a ∷ 0x9b ∷ 0x9d ∷ 0x9e ∷
    []
codes_of Indexed =
    0x40 ∷ 0x41 ∷ 0x42 ∷ 0x43 ∷ 0x44 ∷ 0x45 ∷ 0x46 ∷ 0x47 ∷ 0x48 ∷ 0x49 ∷ 0x4a ∷ 0x4b ∷
    0x50 ∷ 0x51 ∷ 0x54 ∷ 0x55 ∷ 0x56 ∷ 0x57 ∷ 0x58 ∷ 0x59 ∷ 0x5a ∷ 0x5b ∷ 0x5c ∷ 0x5d ∷
    0x61 ∷
    0x73 ∷ 0x74 ∷ 0x75 ∷ 0x76 ∷ 0x77 ∷
    0xc0 ∷ 0xc1 ∷ 0xc2 ∷
    0xd0 ∷ 0xd1 ∷ 0xd2 ∷ 0xd3 ∷ 0xd4 ∷ 0xda ∷ 0xdb ∷ 0xdd ∷ 0xde ∷
    0xe0 ∷ 0xe1 ∷ 0xe6 ∷
    []
codes_of Pair =
    0xc3 ∷ 0xc4 ∷ 0xc5 ∷ 0xc6 ∷ 0xc7 ∷ 0xc8 ∷ 0xc9 ∷ 0xca ∷ 0xcb ∷
    0xea ∷ 0xeb ∷ 0xec ∷ 0xed ∷ 0xee ∷ 0xef ∷
    []
codes_of Triple =
    0xf3 ∷ 0xf4 ∷ 0xf5 ∷ 0xf6 ∷ 0xf7 ∷ 0xf8 ∷ 0xf9 ∷ 0xfa ∷ 0xfb ∷
    []

abbrev pub has : List ℕ → ℕ → Bool
has [] c = false
has (k ∷ ks) c = cond (k == c) true (has ks c)

abbrev pub under : Form → ℕ → List Form
under f c = cond (has (codes_of f) c) (f ∷ []) []

-- The forms under which a code stands.
abbrev pub forms_of : ℕ → List Form
forms_of c = under Single c ++ (under Indexed c ++ (under Pair c ++ under Triple c))

-- A legal code stands under one form, that of its operation; an illegal one under none.
abbrev pub FormsHold : Type 0
FormsHold = map forms_of (numbers 256 0) ≡ map (λ c. cond (is_legal (operation_of c)) (form_of (operation_of c) ∷ []) []) (numbers 256 0)

-- An instruction has one to three halfwords, and how many is settled by its form and by whether the second halfword begins 01.
abbrev pub LengthsHold : Type 0
LengthsHold =
    ((f : Form) (w : ℕ) → (1 ≤ size_of f w) × (size_of f w ≤ 3))
    × ((f : Form) (v w : ℕ) → is_long v ≡ is_long w → size_of f v ≡ size_of f w)
