-- Numbers worked by computation: the edges of 32 and 64 bits. Assumes nothing.
use mathlib.Core.Path.{◌≡◌, refl}
use mathlib.Core.List.{[], ◌∷◌}
use Prim.Native.Nat.{◌-◌, ◌^◌}
use Prim.Native.Char.{code}
use lib.IntN.{pos, negsuc}
use lib.ListN.{length}
use Rattle.decimal.specs.Decimal.{digits_of, decimal, magnitude, signed, int_text}
use Rattle.room.specs.Room.{laid}

-- the least i32, -2147483648: its magnitude fits no i32, and its text with the sign has eleven characters
least_magnitude : magnitude (2 ^ 31) ≡ 2147483648
unfolding magnitude
least_magnitude = refl

least_signed : signed (2 ^ 31) ≡ negsuc 2147483647
unfolding signed
least_signed = refl

least_text : int_text (2 ^ 31) ≡ code "-" ∷ code "2" ∷ code "1" ∷ code "4" ∷ code "7" ∷ code "4" ∷ code "8" ∷ code "3" ∷ code "6" ∷ code "4" ∷ code "8" ∷ []
unfolding int_text magnitude decimal digits_of
least_text = refl

least_width : length (int_text (2 ^ 31)) ≡ 11
unfolding int_text magnitude decimal digits_of
least_width = refl

-- the greatest i32 and -1 are on either side of it
greatest_signed : signed (2 ^ 31 - 1) ≡ pos 2147483647
unfolding signed
greatest_signed = refl

minus_one : signed (2 ^ 32 - 1) ≡ negsuc 0
unfolding signed
minus_one = refl

-- the most digits that a number of 32 and one of 64 bits has
widest_32 : length (decimal (2 ^ 32 - 1)) ≡ 10
unfolding decimal digits_of
widest_32 = refl

widest_64 : length (decimal (2 ^ 64 - 1)) ≡ 20
unfolding decimal digits_of
widest_64 = refl

-- 10 in a room of three bytes: at 1 it ends with the room, at 2 one byte is lacking, and far behind nothing is written
just_fits : laid (0 ∷ 0 ∷ 0 ∷ []) 1 (decimal 10) ≡ 0 ∷ code "1" ∷ code "0" ∷ []
unfolding laid decimal digits_of
just_fits = refl

one_short : laid (0 ∷ 0 ∷ 0 ∷ []) 2 (decimal 10) ≡ 0 ∷ 0 ∷ 0 ∷ []
unfolding laid decimal digits_of
one_short = refl

far_behind : laid (0 ∷ 0 ∷ 0 ∷ []) (2 ^ 64 - 1) (decimal 10) ≡ 0 ∷ 0 ∷ 0 ∷ []
unfolding laid decimal digits_of
far_behind = refl
