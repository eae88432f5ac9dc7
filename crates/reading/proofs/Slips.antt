-- Statements that say a little more than specs/Spaces and are false, each by a small example that is computed: settings are only layout without the agreement on collapse; joined is exact by document 01's old
-- rule, by the preprocessor's words, or under settings that put the needed spaces or spaces around operators. Assumes nothing.
use mathlib.Core.Path.{◌≡◌, refl, ap}
use mathlib.Core.Bool.{Bool, true, false, ◌&&◌}
use mathlib.Core.List.{List, [], ◌∷◌, ◌++◌}
use Prim.Native.Nat.{ℕ}
use Prim.Native.Char.{code}
use native.Mathlib.Omega.{arith}
use lib.Dec.{eqb}
use lib.ListN.{length}
use Rattle.words.specs.Bytes.{bytes}
use Rattle.words.specs.Symbol.Symbol.{dot}
use Rattle.records.specs.Record.{record_count}
use Rattle.records.proofs.Made.{rec, plain, named}
use Rattle.settings.specs.Settings.{settings_of, TIGHT, EXPORT}
use Rattle.accepted.proofs.Case.{computing as checking}
use Rattle.text.specs.Token.Token.{name, float, symbol}
use Rattle.text.specs.Joins.{joins_right}
use Rattle.text.specs.Reading.{binary_op_of}
use Rattle.text.specs.Joined.{right_operand, somewhere, joined_answer}
use Rattle.text.specs.Visible.{visible}
use Rattle.text.proofs.Computing.{computing}
use Rattle.lexis.specs.Glsl.{identifier_word, symbol_words, glsl_word}
use Rattle.lexis.specs.Preprocessing.{plain as plain_byte, goes_on, opens_number, preprocessing_number, preprocessing_word}
use Rattle.lexis.proofs.Front.{taken_out}
use Rattle.lexis.proofs.Glsl.{preprocessing_between}
use Rattle.lexis.proofs.Tests.{clash}
use Rattle.division.specs.Needed.{needs_space}
use Rattle.draft.specs.declared.Root.TheVariants as Root
use Rattle.glsl.specs.Printed.{fitted, outcome}
use Rattle.reading.specs.Call.{UnitCall, ExprCall}
use Rattle.reading.specs.Spaces.{SamePrinted, IsSplit, ExactlyNo}
use Rattle.reading.proofs.Computing.{reading}
use Rattle.reading.proofs.Story.{call, minus_over, open_call}
use Rattle.reading.proofs.Spaces.{joined_is_exact}

-- void f with one compound statement in its body, of an empty statement (kinds 80, 81, 40, 31, 20, 21, 60, 60, 61); TIGHT, and TIGHT that collapses (byte 15)
abbrev one_statement : List ℕ
one_statement = rec 80 0 1 0 0 ++ plain 81 0 ++ named 40 0 0 ++ plain 31 0 ++ plain 20 0 ++ plain 21 0 ++ rec 60 0 1 0 0 ++ rec 60 0 1 0 0 ++ plain 61 0

abbrev collapsing : List ℕ
collapsing = 0 ∷ 0 ∷ 0 ∷ 0 ∷ 0 ∷ 0 ∷ 0 ∷ 0 ∷ 0 ∷ 0 ∷ 0 ∷ 0 ∷ 0 ∷ 0 ∷ 0 ∷ 1 ∷ 0 ∷ 0 ∷ 0 ∷ 0 ∷ 0 ∷ []

unfoldable braced : UnitCall
unfolding computing checking reading fitted outcome
braced = call TIGHT one_statement (bytes "f") (bytes "void f(){{;}}") refl (record { handed = refl; numbered = refl; placed = refl })

unfoldable collapsed : UnitCall
unfolding computing checking reading fitted outcome
collapsed = call collapsing one_statement (bytes "f") (bytes "void f(){;}") refl (record { handed = refl; numbered = refl; placed = refl })

pub without_collapse : ((c d : UnitCall) → SamePrinted c d → visible c.written ≡ visible d.written) → ⊥
unfolding computing braced collapsed
without_collapse h = let z : ◌≡◌ {A = ℕ} 12 10 = ap length (h braced collapsed (refl, refl)) in omega arith

-- document 01's rule before 02, #103: of binary operators alone (what an operand begins with is told by its `sign`, as in 02's sentence: crates/joined/proofs/Sentence)
unfoldable pub old_rule : (records names : List ℕ) → Bool
old_rule records names = somewhere (λ r L. eqb r.kind 8 && joins_right (binary_op_of r.variant) (right_operand L).tree) (record_count records) records names 0

-- minus over a decremented k, in TIGHT and in EXPORT
unfoldable tight_sign : ExprCall
unfolding computing checking reading fitted outcome
tight_sign = call TIGHT minus_over (bytes "k") (bytes "---k") refl (record { handed = refl; numbered = refl; placed = refl })

unfoldable exported_sign : ExprCall
unfolding computing checking reading fitted outcome
exported_sign = call EXPORT minus_over (bytes "k") (bytes "- --k") refl (record { handed = refl; numbered = refl; placed = refl })

sign_is_joined : joined_answer minus_over (bytes "k") ≡ true
unfolding computing
sign_is_joined = refl

-- it says no of `---k`, which is not split into its tokens
pub by_old_rule : ExactlyNo glsl_word Root.Expr old_rule → ⊥
unfolding computing old_rule tight_sign
by_old_rule h = clash sign_is_joined ((joined_is_exact.rule Root.Expr tight_sign joined_is_exact.tight).0 ((h tight_sign joined_is_exact.tight).1 refl))

-- and of `- --k`, which has its space and is split, 02's rule says yes
pub whatever_needed : ((c : ExprCall) → (settings_of c.settings).spaces_around_binary_ops ≡ false → IsSplit glsl_word c → joined_answer c.records c.names ≡ false) → ⊥
unfolding computing exported_sign
whatever_needed h = clash sign_is_joined (h exported_sign refl ((joined_is_exact.everywhere exported_sign).1 (λ j. refl)))

-- so it does of OPEN's `n - --k`, which needs none beside its operator spaces
open_split : IsSplit glsl_word open_call
unfolding computing needs_space open_call
open_split = (joined_is_exact.everywhere open_call).1 (λ j. clash j refl)

pub whatever_around : ((c : ExprCall) → (settings_of c.settings).spaces_where_needed ≡ false → IsSplit glsl_word c → joined_answer c.records c.names ≡ false) → ⊥
unfolding computing open_call
whatever_around h = clash refl (h open_call refl open_split)

-- the field x of 1. (kind 13 over kind 5), which is not joined: `1..x` is the three words `1.`, `.`, `x` to GLSL, and one to the preprocessor
unfoldable field_of_float : ExprCall
unfolding computing checking reading fitted outcome
field_of_float = call TIGHT (named 13 0 0 ++ named 5 0 1) (bytes "x1") (bytes "1..x") refl (record { handed = refl; numbered = refl; placed = refl })

one_word : preprocessing_word (bytes "1..x") ≡ true
unfolding reading identifier_word symbol_words plain_byte goes_on opens_number preprocessing_number preprocessing_word
one_word = refl

pub by_preprocessor : ExactlyNo preprocessing_word Root.Expr joined_answer → ⊥
unfolding computing field_of_float
by_preprocessor h =
    let d = (h field_of_float joined_is_exact.tight).1 refl in
    (taken_out preprocessing_between {bs = bytes ".x"} {ts = symbol dot ∷ name (bytes "x") ∷ []} (float (bytes "1")) d refl refl).0 (code ".") (bytes "x") [] refl one_word
