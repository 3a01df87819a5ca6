-- Classes of bytes, values of digits, and escapes.
use Rattle.std.specs.Prelude.{ℕ, ◌+◌, ◌-◌, Bool, ◌&&◌, ◌||◌, ◌==◌, nat_le, nat_lt, Option, Some, None, if◌then◌else◌}

-- whether a byte is between two others, or is one of them
abbrev pub is_between : ℕ → ℕ → ℕ → Bool
is_between low high b = nat_le low b && nat_le b high

-- A to Z, a to z
abbrev pub is_letter : ℕ → Bool
is_letter b = is_between 65 90 b || is_between 97 122 b

-- 0 to 9
abbrev pub is_digit : ℕ → Bool
is_digit b = is_between 48 57 b

-- a letter, a digit or a dot
abbrev pub is_name_byte : ℕ → Bool
is_name_byte b = is_letter b || is_digit b || (b == 46)

-- a space, a tab, CR, FF, or a line break, LF
abbrev pub is_space : ℕ → Bool
is_space b = (b == 32) || (b == 9) || (b == 13) || (b == 12) || (b == 10)

-- the value of a digit of any base up to 16
abbrev pub digit_value : ℕ → Option ℕ
digit_value b = if is_digit b then Some (b - 48)
    else (if is_between 65 70 b then Some (b - 65 + 10)
    else (if is_between 97 102 b then Some (b - 97 + 10)
    else None))

-- a digit's value, if it is below the base
abbrev pub below : ℕ → Option ℕ → Option ℕ
below base None = None
below base (Some n) = if nat_lt n base then Some n else None

-- the value of a digit of this base
abbrev pub digit_of : ℕ → ℕ → Option ℕ
digit_of base b = below base (digit_value b)

-- the byte that * and this byte denote: N T S B P C in upper or lower case denote LF, tab, space, BS, FF and CR; quotes and * denote
-- themselves
abbrev pub escaped : ℕ → Option ℕ
escaped b =
    if (b == 78) || (b == 110) then Some 10
    else (if (b == 84) || (b == 116) then Some 9
    else (if (b == 83) || (b == 115) then Some 32
    else (if (b == 66) || (b == 98) then Some 8
    else (if (b == 80) || (b == 112) then Some 12
    else (if (b == 67) || (b == 99) then Some 13
    else (if (b == 34) || (b == 39) || (b == 42) then Some b
    else None))))))
