-- An expression that has every kind of expression and of callee in it is read as itself, and so is one that is sound only where spaces are kept. Assumes nothing.
use mathlib.Core.Path.{refl, subst}
use mathlib.Core.Bool.{true, false}
use mathlib.Core.List.{List}
use Prim.Native.Nat.{ℕ}
use Rattle.words.specs.Bytes.{bytes}
use Rattle.settings.specs.Settings.{OPEN, EXPORT, settings_of}
use Rattle.settings.specs.State.{fresh}
use Rattle.text.proofs.Computing.{computing}
use Rattle.lexis.specs.Keywords.{listed}
use Rattle.lexis.specs.Glsl.{glsl_word}
use Rattle.lexis.proofs.Glsl.{glsl_between}
use Rattle.sound.proofs.SoundKept.{sound_kept}
use Rattle.sound.proofs.Sample.{sample, sample_text, sample_formed, sample_sound, kept_sample, kept_text, kept_formed, kept_sound}
use Rattle.reading.specs.Read.{IsRead}
use Rattle.reading.proofs.Demand3.{tree_read}

pub sample_read : IsRead glsl_word (bytes "a[1] += -b < 1.5 ? vec2(2.lf, 3u) : T[][2](true).x, f(c++, (d.y)--, S())") sample
unfolding computing
sample_read = subst (λ (bs : List ℕ). IsRead glsl_word bs sample) sample_text (tree_read glsl_word glsl_between (settings_of OPEN) false sample sample_formed sample_sound (sound_kept listed (settings_of OPEN) refl sample sample_sound) fresh)

pub kept_read : IsRead glsl_word (bytes "- --a- --b+ + ++c*1 .lf") kept_sample
unfolding computing
kept_read = subst (λ (bs : List ℕ). IsRead glsl_word bs kept_sample) kept_text (tree_read glsl_word glsl_between (settings_of EXPORT) true kept_sample kept_formed kept_sound (sound_kept listed (settings_of EXPORT) refl kept_sample kept_sound) fresh)
