use mathlib.Core.Path.{refl}
use Rattle.model.specs.Status.{protected, recoded, selected, slot, counter, address}
use Rattle.words.specs.Sums.{marks, sum, sum_code, difference, difference_code, compare_logical_code, extended}
use Rattle.words.specs.Products.{quotient, remainder, divided}
use Rattle.shifts.specs.Shifts.{shift_right, shift_right_code, shift_right_arithmetic, shift_right_arithmetic_code, shift_left_arithmetic, shift_left_arithmetic_code, out_right, out_left}
use Rattle.decode.specs.Codes.{low, upper, is_privileged}
use Rattle.decode.specs.Forms.{code_field, first_field, second_field}
use Rattle.operands.specs.Operands.{following}
use Rattle.computing.specs.Computing.{pair_of}
use Rattle.instructions.specs.Instructions.{instruction}
use Rattle.cases.proofs.further_cases.Goals as goal

pub returns : goal.returns
unfolding protected recoded selected slot counter address marks sum sum_code difference difference_code compare_logical_code extended quotient remainder divided shift_right shift_right_code shift_right_arithmetic shift_right_arithmetic_code shift_left_arithmetic shift_left_arithmetic_code out_right out_left low upper is_privileged code_field first_field second_field following pair_of instruction
returns c = λ store bus reply. ((refl, refl, refl), (refl, refl), (refl, refl, refl), (refl, refl), refl, (refl, refl))
