-- What a bus may become, touch by touch.

-- A bus a that was touched any number of times, in turn, became b. One touch is a read, a write or a command.
pub data Becomes {X : Type 0} (touched : X → X → Type 0) (a : X) : X → Type 0 where
  untouched : Becomes touched a a
  once_more : {b c : X} → Becomes touched a b → touched b c → Becomes touched a c
