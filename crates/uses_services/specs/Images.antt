-- What an image of the service shows: its shade, by its number.
use Rattle.std.specs.Prelude.{◌≡◌, ℕ, ◌%◌, List, replicate}

-- the shade of the image with this number
abbrev pub shade : ℕ → ℕ
shade number = number % 256

-- the bytes are 64 KiB of the shade of this number
unfoldable pub IsImageOf : ℕ → List ℕ → Type 0
IsImageOf number bytes = bytes ≡ replicate 65536 (shade number)
