-- The bytes of a string.
use Rattle.std.specs.Prelude.{ℕ, ◌==◌, ◌||◌, Bool, true, false, if◌then◌else◌, List, [], ◌∷◌, take, drop}

-- the byte of an escape, by the letter after `*` in either case; any other byte is itself
abbrev pub escaped : ℕ → ℕ
escaped e =
    if (e == 78) || (e == 110) then 10
    else (if (e == 84) || (e == 116) then 9
    else (if (e == 83) || (e == 115) then 32
    else (if (e == 66) || (e == 98) then 8
    else (if (e == 80) || (e == 112) then 12
    else (if (e == 67) || (e == 99) then 13
    else e)))))

-- the bytes up to the closing quote; `escape` says whether a `*` precedes them
abbrev pub characters : (escape : Bool) → List ℕ → List ℕ
characters escape [] = []
characters true (e ∷ bs) = escaped e ∷ characters false bs
characters false (b ∷ bs) = if b == 34 then [] else (if b == 42 then characters true bs else b ∷ characters false bs)

-- the bytes of a string that is spelled with its quotes; a string has at most 255 bytes
abbrev pub decoded : List ℕ → List ℕ
decoded text = take 255 (characters false (drop 1 text))
