-- Register 3 of set 0 is there, and is shown of set 0.
use Rattle.std.proofs.Common.{◌≡◌, None, refl}
use Rattle.model.specs.declared.Item.TheVariants.{General}
use Rattle.model.specs.Status.{file_of, no_set}
use Rattle.model.specs.Console.{item_denial}

pub there : item_denial (General 0 3) ≡ None
unfolding no_set
there = refl

pub first_set : file_of 0 ≡ 0
unfolding file_of
first_set = refl
