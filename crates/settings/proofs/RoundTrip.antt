-- A record comes back from the settings that it says, with byte 21 where it had none, and settings with a count of at most 16 from their bytes. Assumes nothing.
use mathlib.Core.Path.{◌≡◌, refl}
use mathlib.Core.List.{List, [], ◌∷◌, ◌++◌}
use mathlib.Core.Bool.{Bool, true, false, cond, and-eq-true_iff}
use Prim.Native.Nat.{ℕ, zero, suc, ◌≤◌, ◌-◌}
use Rattle.std.specs.Prelude.{Some}
use native.Mathlib.Nat.{sub-zero, suc-sub-suc}
use native.Mathlib.Omega.{arith}
use lib.ListN.{length, get_or, replicate}
use lib.Dec.{leb, eqb}
use borrow.Author.Tests.{leb-true, le-leb}
use Rattle.settings.specs.declared.IndentStyle.{IndentStyle}
use Rattle.settings.specs.declared.IndentStyle.TheVariants as Indent
use Rattle.settings.specs.declared.Whitespace.{Whitespace}
use Rattle.settings.specs.declared.Whitespace.TheVariants as White
use Rattle.settings.specs.declared.Settings.{Settings}
use Rattle.settings.specs.Settings.{limits, in_range, style_of, flag_of, whitespace_of, settings_of, fewest_bytes, is_record, read_settings, TIGHT, OPEN, EXPORT}
use Rattle.settings.specs.Bytes.{style_byte, flag_byte, whitespace_byte, settings_bytes}

-- a byte that was read and written again, by its limit: 1 is a flag, 2 a Whitespace, any other a number
again : ℕ → ℕ → ℕ
again zero b = b
again (suc zero) b = flag_byte (flag_of b)
again (suc (suc zero)) b = whitespace_byte (whitespace_of b)
again (suc (suc (suc m))) b = b

again_same : (m b : ℕ) → b ≤ m → again m b ≡ b
unfolding again whitespace_of
again_same zero b h = refl
again_same (suc zero) zero h = refl
again_same (suc zero) (suc zero) h = refl
again_same (suc zero) (suc (suc b)) h = absurd (omega arith)
again_same (suc (suc zero)) zero h = refl
again_same (suc (suc zero)) (suc zero) h = refl
again_same (suc (suc zero)) (suc (suc zero)) h = refl
again_same (suc (suc zero)) (suc (suc (suc b))) h = absurd (omega arith)
again_same (suc (suc (suc m))) b h = refl

-- the bytes from k on, each again by its limit
all_again : List ℕ → ℕ → List ℕ → List ℕ
all_again [] k bs = []
all_again (m ∷ ms) k bs = again m (get_or bs k 0) ∷ all_again ms (suc k) bs

-- bytes that are not there come back as 0
none_again : (ms : List ℕ) (k : ℕ) → all_again ms k [] ≡ replicate (length ms) 0
unfolding all_again
none_again [] k = refl
none_again (m ∷ ms) k = simp (again_same m 0 (omega arith), none_again ms (suc k))

one_further : (ms : List ℕ) (k b : ℕ) (bs : List ℕ) → all_again ms (suc k) (b ∷ bs) ≡ all_again ms k bs
unfolding all_again
one_further [] k b bs = refl
one_further (m ∷ ms) k b bs = simp (one_further ms (suc k) b bs)

all_same : (ms bs : List ℕ) → in_range bs ms ≡ true → all_again ms 0 bs ≡ bs ++ replicate (length ms - length bs) 0
unfolding all_again in_range
all_same ms [] e = simp sub-zero (none_again ms 0)
all_same [] (b ∷ bs) e = cc
all_same (m ∷ ms) (b ∷ bs) e =
    let both = (and-eq-true_iff (leb b m) (in_range bs ms)).0 e in
    simp (suc-sub-suc, again_same m b (leb-true _ _ both.0), one_further ms 0 b bs, all_same ms bs both.1)

-- a style is written as the Whitespace of the same byte
style_white_by : (x y : Bool) → style_byte (cond x Indent.None (cond y Indent.Tabs Indent.Spaces)) ≡ whitespace_byte (cond x White.None (cond y White.Space White.Newline))
style_white_by true y = refl
style_white_by false true = refl
style_white_by false false = refl

style_white : (b : ℕ) → style_byte (style_of b) ≡ whitespace_byte (whitespace_of b)
unfolding style_of whitespace_of
style_white b = style_white_by (eqb b 0) (eqb b 1)

-- a record of 22 bytes as it is, one of 21 with a 0 behind it
pub bytes_again : (bs : List ℕ) → is_record bs ≡ true → settings_bytes (settings_of bs) ≡ bs ++ replicate (22 - length bs) 0
unfolding is_record settings_bytes settings_of limits all_again again
bytes_again bs e = simp (style_white (get_or bs 0 0)) (all_same limits bs ((and-eq-true_iff (leb fewest_bytes (length bs)) (in_range bs limits)).0 e).1)

-- each byte of settings is in range, and says what it was made from
style_low : (s : IndentStyle) → leb (style_byte s) 2 ≡ true
style_low Indent.None = refl
style_low Indent.Tabs = refl
style_low Indent.Spaces = refl

flag_low : (f : Bool) → leb (flag_byte f) 1 ≡ true
flag_low false = refl
flag_low true = refl

white_low : (w : Whitespace) → leb (whitespace_byte w) 2 ≡ true
white_low White.None = refl
white_low White.Space = refl
white_low White.Newline = refl

style_same : (s : IndentStyle) → style_of (style_byte s) ≡ s
unfolding style_of
style_same Indent.None = refl
style_same Indent.Tabs = refl
style_same Indent.Spaces = refl

flag_same : (f : Bool) → flag_of (flag_byte f) ≡ f
flag_same false = refl
flag_same true = refl

white_same : (w : Whitespace) → whitespace_of (whitespace_byte w) ≡ w
unfolding whitespace_of
white_same White.None = refl
white_same White.Space = refl
white_same White.Newline = refl

pub settings_again : (s : Settings) → settings_of (settings_bytes s) ≡ s
unfolding settings_of settings_bytes
settings_again s = simp (style_same, flag_same, white_same)

pub settings_in_range : (s : Settings) → s.count ≤ 16 → is_record (settings_bytes s) ≡ true
unfolding settings_bytes is_record limits in_range
settings_in_range s h = simp (style_low, flag_low, white_low, le-leb s.count 16 h)

pub read_again : (s : Settings) → s.count ≤ 16 → read_settings (settings_bytes s) ≡ Some s
unfolding read_settings
read_again s h = simp (settings_in_range s h, settings_again s)

pub tight_in_range : is_record TIGHT ≡ true
unfolding is_record in_range limits
tight_in_range = refl

pub open_in_range : is_record OPEN ≡ true
unfolding is_record in_range limits
open_in_range = refl

pub export_in_range : is_record EXPORT ≡ true
unfolding is_record in_range limits
export_in_range = refl
