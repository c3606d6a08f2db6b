-- Laws of the stores.
use Rattle.std.specs.Prelude.{◌≡◌, ◌≤◌, ◌<◌, ◌*◌, ◌%◌, ◌^◌, ℕ, List, ◌++◌, length, take, get_or}
use Rattle.model.specs.Stores.{store_limit}
use Rattle.store.specs.Boards.{core_boards}
use Rattle.stores.specs.Layers.{byte_image, image_places, behind}

-- Two banks of core boards mean what one board of the halfwords of both means.
abbrev pub BanksJoined : Type 0
BanksJoined = (xs ys : List ℕ) → behind (core_boards xs) (core_boards ys) ≡ core_boards (xs ++ ys)

-- A byte image means what that of its whole halfwords within the limit means.
abbrev pub ImagesWithin : Type 0
ImagesWithin = (bytes : List ℕ) → byte_image (take (2 * image_places bytes) bytes) ≡ byte_image bytes

-- A list of bytes of which a byte image uses all: an even number within the limit, each below 256.
pub record AllUsed (bytes : List ℕ) : Type 0 where
  pub even : length bytes % 2 ≡ 0
  pub within : length bytes ≤ 2 * store_limit
  pub small : (k : ℕ) → k < length bytes → get_or bytes k 0 < 2 ^ 8

-- Such byte images are told by their meaning: where it is the same, so is each byte, and their number.
abbrev pub ImagesToldApart : Type 0
ImagesToldApart = (xs ys : List ℕ) → AllUsed xs → AllUsed ys → byte_image xs ≡ byte_image ys → xs ≡ ys
