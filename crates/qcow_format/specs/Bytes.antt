-- Big-endian numbers in a list of bytes, and bytes laid over others.
use Rattle.std.specs.Prelude.{ℕ, List, ◌++◌, length, take, drop}
use Rattle.byteorder.specs.Endian.{big_number, big_bytes}

-- the number in the n bytes from a place on, the highest first
unfoldable pub number : ℕ → ℕ → List ℕ → ℕ
number n at bytes = big_number n (drop at bytes)

-- bytes with others laid over them from a place on
unfoldable pub put : ℕ → List ℕ → List ℕ → List ℕ
put at new bytes = take at bytes ++ (new ++ drop (length new) (drop at bytes))

-- the lowest n bytes of a number, the highest first
unfoldable pub bytes_of : ℕ → ℕ → List ℕ
bytes_of n number = big_bytes n number
