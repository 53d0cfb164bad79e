-- Texts that are laid into rooms.
use Rattle.std.specs.Prelude.{ℕ, ◌≡◌, List, ◌++◌, drop, length, min, take}

-- The room with the text at its front, as far as it fits.
abbrev pub laid : List ℕ → List ℕ → List ℕ
laid text room = take (min (length text) (length room)) text ++ drop (min (length text) (length room)) room

-- A room, and the length of the text that was laid there.
pub record Room : Type 0 where
  pub bytes : List ℕ
  pub length : ℕ

-- The text was laid into the room.
pub record IsLaid (text : List ℕ) (old new : Room) : Type 0 where
  pub bytes_are : new.bytes ≡ laid text old.bytes
  pub length_is : new.length ≡ length text
