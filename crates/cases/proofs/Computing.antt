-- One name to unfold where a proof computes with a machine that is written out.
use Rattle.model.specs.Stores.{full_at}
use Rattle.model.specs.Status.{waits, polls, relocated, protected, recoded, selected, slot, no_set, file_of, counter, address, to_half}
use Rattle.model.specs.Controller.{limit_of, relocation_of, no_execute_of, write_mode_of, present_of, used, chosen, block, within, present, no_execute, write_mode, real, place}
use Rattle.model.specs.Console.{strange}
use Rattle.words.specs.Sums.{marks, sum, sum_code, extended}
use Rattle.fields.specs.Parts.{low_half}
use Rattle.processor.specs.Writes.{put}
use Rattle.decode.specs.Codes.{function_of, middle, high, low, is_privileged}
use Rattle.decode.specs.Forms.{code_field, first_field, second_field, is_long, address_of}
use Rattle.operands.specs.Operands.{address_tree}
use Rattle.instructions.specs.Instructions.{addressed_tree, memory_body, instruction}

-- What a call of the console needs, and what an instruction needs besides.
unfoldable pub console : Unit {0}
unfolding full_at waits polls relocated protected selected slot no_set file_of counter address limit_of relocation_of no_execute_of write_mode_of present_of used chosen block within present no_execute write_mode real place strange
console = tt

unfoldable pub instructions : Unit {0}
unfolding console recoded to_half marks sum sum_code extended low_half put function_of low middle high is_privileged code_field first_field second_field is_long address_of address_tree addressed_tree memory_body instruction
instructions = tt
