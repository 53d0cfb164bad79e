-- What a name is, and the test of it.
use Rattle.std.specs.Prelude.{ℕ, ◌≡◌, ◌==◌, ◌≤◌, ◌⊎◌, ◌&&◌, ◌||◌, Bool, false, List, [], ◌∷◌, nat_le}
use Rattle.std.specs.Bool.{Decides}
use Rattle.std.specs.List.{All, list_all}

-- a byte that may begin a name: a letter or `_`
abbrev pub IsNameStart : ℕ → Type 0
IsNameStart byte = ((65 ≤ byte) × (byte ≤ 90)) ⊎ (byte ≡ 95) ⊎ ((97 ≤ byte) × (byte ≤ 122))

-- a byte that may stand in a name: one that may begin it, or a digit
abbrev pub IsNameByte : ℕ → Type 0
IsNameByte byte = ((48 ≤ byte) × (byte ≤ 57)) ⊎ IsNameStart byte

-- a name: it begins as one, and has nothing else in it
abbrev pub IsName : List ℕ → Type 0
IsName [] = ⊥
IsName (byte ∷ bytes) = IsNameStart byte × All IsNameByte bytes

-- `0` to `9`
abbrev pub is_digit : ℕ → Bool
is_digit byte = nat_le 48 byte && nat_le byte 57

-- `A` to `Z`, `a` to `z`, `_`
abbrev pub is_letter : ℕ → Bool
is_letter byte = (nat_le 65 byte && nat_le byte 90) || ((nat_le 97 byte && nat_le byte 122) || byte == 95)

-- a letter or a digit
abbrev pub is_name_byte : ℕ → Bool
is_name_byte byte = is_letter byte || is_digit byte

-- whether the bytes are a name
abbrev pub is_name : List ℕ → Bool
is_name [] = false
is_name (byte ∷ bytes) = is_letter byte && list_all is_name_byte bytes

-- the test is true exactly where the bytes are a name
abbrev pub NameTestIsExact : Type 0
NameTestIsExact = (bytes : List ℕ) → Decides (is_name bytes) (IsName bytes)
