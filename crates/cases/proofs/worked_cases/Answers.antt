use mathlib.Core.Path.{refl}
use Rattle.model.specs.Status.{relocated, protected, recoded, selected, slot, counter, address}
use Rattle.model.specs.Controller.{limit_of, relocation_of, no_execute_of, write_mode_of, present_of, chosen, block, within, present, no_execute, write_mode, real}
use Rattle.words.specs.Sums.{marks, sum, sum_code, difference, difference_code}
use Rattle.words.specs.Products.{product, product_high, product_low, quotient, remainder, divided}
use Rattle.shifts.specs.Shifts.{shift_left, shift_left_code, out_left}
use Rattle.decode.specs.Codes.{low, is_privileged}
use Rattle.decode.specs.Forms.{code_field, first_field, second_field, is_long, signed15, address_of}
use Rattle.operands.specs.Operands.{address_tree}
use Rattle.computing.specs.Computing.{pair_of}
use Rattle.instructions.specs.Instructions.{instruction}
use Rattle.cases.proofs.worked_cases.Goals as goal

pub returns : goal.returns
unfolding relocated protected recoded selected slot counter address limit_of relocation_of no_execute_of write_mode_of present_of chosen block within present no_execute write_mode real marks sum sum_code difference difference_code product product_high product_low quotient remainder divided shift_left shift_left_code out_left low is_privileged code_field first_field second_field is_long signed15 address_of address_tree pair_of instruction
returns c = λ store bus reply. (refl, refl, refl, refl, λ high low. refl, refl, (refl, refl), refl, λ s. refl, refl)
