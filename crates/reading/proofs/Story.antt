-- The story of `n---k`, from the bytes of records and names: n minus a decremented k, printed in OPEN, is read as itself; printed in TIGHT it is read as n, decremented
-- afterwards, minus k, and not as itself; and the joined question says so. Printed with the spaces that it needs and no others (02, #106; EXPORT) it is `n- --k`, and is read as itself. Where a
-- unary sign or a dot runs together with what stands beside it operator spaces don't help: `---k` and `1.lf` are misread in OPEN too, and the joined question (02, #103) says so; spaces where they are
-- needed do: `- --k` and `(1).lf` are read as themselves. Assumes nothing.
use Rattle.std.specs.Prelude.{Ok}
use mathlib.Core.Path.{◌≡◌, refl, sym, subst}
use mathlib.Core.Bool.{Bool, true, false}
use mathlib.Core.List.{List, [], ◌∷◌, ◌++◌}
use Prim.Native.Nat.{ℕ, zero, suc, ◌<◌}
use Prim.Native.String.{String}
use native.Mathlib.Omega.{arith}
use lib.Dec.{ltb}
use lib.ListN.{get_or, replicate}
use borrow.Author.Tests.{ltb-true}
use Rattle.words.specs.Bytes.{bytes}
use Rattle.words.specs.Form.{all}
use Rattle.words.specs.Symbol.Symbol.{dash, dec_op}
use Rattle.records.proofs.Made.{rec, plain, named}
use Rattle.settings.specs.Settings.{TIGHT, OPEN, EXPORT}
use Rattle.accepted.proofs.Case.{computing as checking}
use Rattle.text.specs.Token.Token.{name, symbol}
use Rattle.text.specs.Tree.{UnaryOp, BinaryOp, Expr}
use Rattle.text.specs.Tree.Expr.{Variable, IntConst, DoubleConst, Unary, Binary, Dot, PostDec}
use Rattle.sound.specs.Sound.{Unmixed, Sound}
use Rattle.text.specs.Reading.{expr, from}
use Rattle.text.specs.Whole.{expr_text}
use Rattle.text.proofs.Computing.{computing}
use Rattle.grammar.specs.Same.{Same}
use Rattle.lexis.specs.Keywords.{listed}
use Rattle.lexis.specs.Glsl.{glsl_word}
use Rattle.lexis.proofs.Tests.{both}
use Rattle.lexis.proofs.Glsl.{glsl_between}
use Rattle.glsl.specs.Printed.{expr_outcome, front, fitted, outcome}
use Rattle.glsl.specs.Joined.{whether_joined, joined_outcome}
use Rattle.reading.specs.Read.{IsRead}
use Rattle.draft.specs.declared.Root.{Root}
use Rattle.reading.specs.Call.{Promised, Call, ExprCall}
use Rattle.reading.specs.Demand3.{SpacedAndSound}
use Rattle.reading.proofs.Computing.{reading}
use Rattle.reading.proofs.Demand3.{in_glsl, covered, one_expression}
use Rattle.reading.proofs.Spelled.{tok}
use Rattle.reading.proofs.Needed.{Misread, as_reader, minus_over_dec, dot_over_int}

-- what is lent: records (kind 8 variant 15 is minus, kind 7 variant 1 a decrement before, kind 15 a decrement afterwards), names, a room of 16 bytes
abbrev pub names : List ℕ
names = bytes "nk"

abbrev minus_decremented : List ℕ
minus_decremented = plain 8 15 ++ named 1 0 0 ++ plain 7 1 ++ named 1 0 1

abbrev pub decremented_minus : List ℕ
decremented_minus = plain 8 15 ++ plain 15 0 ++ named 1 0 0 ++ named 1 0 1

abbrev pub room : List ℕ
room = replicate 16 0

-- the two expressions
abbrev n_minus_decremented_k : Expr
n_minus_decremented_k = Binary BinaryOp.Sub (Variable (bytes "n")) (Unary UnaryOp.Dec (Variable (bytes "k")))

abbrev n_decremented_minus_k : Expr
n_decremented_minus_k = Binary BinaryOp.Sub (PostDec (Variable (bytes "n"))) (Variable (bytes "k"))

-- minus of a decremented k and a decremented minus k; the field lf of 1 (kind 13, kind 2), and a double (kind 6)
abbrev pub minus_over : List ℕ
minus_over = plain 7 3 ++ plain 7 1 ++ named 1 0 0

abbrev decrement_over : List ℕ
decrement_over = plain 7 1 ++ plain 7 3 ++ named 1 0 0

abbrev dot_over : List ℕ
dot_over = rec 13 0 0 0 2 ++ rec 2 0 0 1 0

abbrev double : List ℕ
double = named 6 0 2

-- the first of each two, as trees
abbrev minus_decremented_k : Expr
minus_decremented_k = Unary UnaryOp.Minus (Unary UnaryOp.Dec (Variable (bytes "k")))

abbrev field_of_one : Expr
field_of_one = Dot (bytes "lf") (IntConst 1)

-- what print_expr hands back
abbrev handed : (settings records names : List ℕ) → List ℕ
handed settings records names = front (expr_outcome settings records names room) (expr_text settings records names)

-- records in which every number is below 256 are bytes
pub bytes_below : (bs : List ℕ) → all (λ b. ltb b 256) bs ≡ true → (p : ℕ) → get_or bs p 0 < 256
unfolding all
bytes_below [] h p = omega arith
bytes_below (b ∷ bs) h zero = ltb-true b 256 (both (ltb b 256) (all (λ b. ltb b 256) bs) h).0
bytes_below (b ∷ bs) h (suc p) = bytes_below bs (both (ltb b 256) (all (λ b. ltb b 256) bs) h).1 p

-- under some settings the records of two trees are printed as one text
abbrev pub OneText : (settings records others names : List ℕ) (written : String) → Type 0
OneText settings records others names written = (handed settings records names ≡ bytes written) × (handed settings others names ≡ bytes written)

-- the text is read as the second tree and not as the first, and the joined question tells the two apart
pub record Lost (records others names : List ℕ) (written : String) (tree other : Expr) : Type 0 where
  pub first : (expr (from records names 0)).tree ≡ tree
  pub second : (expr (from others names 0)).tree ≡ other
  pub read : IsRead glsl_word (bytes written) other
  pub lost : IsRead glsl_word (bytes written) tree → ⊥
  pub joined : joined_outcome records names ≡ Ok true
  pub not_joined : joined_outcome others names ≡ Ok false

-- with the spaces that it needs and no others, a tree is printed as this text, which is read as that tree
pub record Exported (records names : List ℕ) (written : String) (tree : Expr) : Type 0 where
  pub text : handed EXPORT records names ≡ bytes written
  pub read : IsRead glsl_word (bytes written) tree

pub record Story : Type 0 where
  -- OPEN: two texts, and the first is read as itself
  pub open_text : handed OPEN minus_decremented names ≡ bytes "n - --k"
  pub open_other : handed OPEN decremented_minus names ≡ bytes "n-- - k"
  pub open_read : IsRead glsl_word (bytes "n - --k") n_minus_decremented_k
  -- TIGHT: one text, and the first is lost
  pub tight_text : OneText TIGHT minus_decremented decremented_minus names "n---k"
  pub tight_lost : Lost minus_decremented decremented_minus names "n---k" n_minus_decremented_k n_decremented_minus_k
  -- EXPORT: one space more than in TIGHT, and it is read as itself
  pub exported : Exported minus_decremented names "n- --k" n_minus_decremented_k
  -- a unary sign, and a dot behind a whole number: one text in TIGHT and in OPEN, and in EXPORT each is read as itself
  pub sign_texts : OneText TIGHT minus_over decrement_over (bytes "k") "---k" × OneText OPEN minus_over decrement_over (bytes "k") "---k"
  pub sign_lost : Lost minus_over decrement_over (bytes "k") "---k" minus_decremented_k (Unary UnaryOp.Dec (Unary UnaryOp.Minus (Variable (bytes "k"))))
  pub sign_exported : Exported minus_over (bytes "k") "- --k" minus_decremented_k
  pub point_texts : OneText TIGHT dot_over double (bytes "lf1") "1.lf" × OneText OPEN dot_over double (bytes "lf1") "1.lf"
  pub point_lost : Lost dot_over double (bytes "lf1") "1.lf" field_of_one (DoubleConst (bytes "1"))
  pub point_exported : Exported dot_over (bytes "lf1") "1 .lf" field_of_one

tight : IsRead glsl_word (bytes "n---k") n_decremented_minus_k
unfolding computing reading
tight = as_reader (tok (name (bytes "n")) ∷ tok (symbol dec_op) ∷ tok (symbol dash) ∷ tok (name (bytes "k")) ∷ []) refl n_decremented_minus_k refl

pub different : Same n_decremented_minus_k n_minus_decremented_k → ⊥
unfolding reading
different s = let z : ◌≡◌ {A = ℕ} 0 1 = cc in omega arith

-- a call that writes these bytes
abbrev pub call : {root : Root} (settings records names written : List ℕ) → all (λ b. ltb b 256) records ≡ true → Promised root settings records names room written 0 0 → Call root
call settings records names written below promised = record {
  settings = settings;
  records = records;
  names = names;
  room = room;
  written = written;
  no = 0;
  place = 0;
  lent = bytes_below records below;
  promised = promised;
  accepted = refl;
}

-- the call in OPEN, of an expression that is sound and printed with spaces
unfoldable pub open_call : ExprCall
unfolding computing checking reading fitted outcome
open_call = call OPEN minus_decremented names (bytes "n - --k") refl (record { handed = refl; numbered = refl; placed = refl })

-- an operator over a name is not mixed
over_name : (kept : Bool) (op : UnaryOp) (n : List ℕ) → Unmixed kept op (Variable n)
over_name kept op n h = elim h [ ]

pub open_sound : SpacedAndSound open_call
unfolding computing checking reading fitted outcome open_call
open_sound = record { spaced = refl; sound = (refl, (over_name false UnaryOp.Dec (bytes "k"), refl)) }

-- a call in EXPORT, of an expression that is sound where spaces are kept
export_read : (records names : List ℕ) (written : String) (tree : Expr) → all (λ b. ltb b 256) records ≡ true → Promised Root.Expr EXPORT records names room (bytes written) 0 0
    → (expr (from records names 0)).tree ≡ tree → Sound listed true tree → Exported records names written tree
unfolding computing
export_read records names written tree below promised first sound = record {
  text = sym promised.handed;
  read = subst (λ (e : Expr). IsRead glsl_word (bytes written) e) first
      (in_glsl.read_as (call EXPORT records names (bytes written) below promised) (record { apart = refl; sound = subst (λ (e : Expr). Sound listed true e) (sym first) sound }));
}

-- what is misread is not read as itself
misread_lost : {byte : ℕ} {tree other : Expr} (written : String) → Misread byte tree written other → IsRead glsl_word (bytes written) tree → ⊥
misread_lost written m r = m.other (one_expression glsl_between m.read r)

pub story : Story
unfolding computing checking reading fitted outcome whether_joined open_call
story = record {
  open_text = refl;
  open_other = refl;
  open_read = in_glsl.read_as open_call (covered open_call open_sound);
  tight_text = (refl, refl);
  tight_lost = record { first = refl; second = refl; read = tight; lost = λ r. different (one_expression glsl_between tight r); joined = refl; not_joined = refl };
  exported = export_read minus_decremented names "n- --k" n_minus_decremented_k refl (record { handed = refl; numbered = refl; placed = refl }) refl (refl, (over_name true UnaryOp.Dec (bytes "k"), refl));
  sign_texts = ((refl, refl), (refl, refl));
  sign_lost = record { first = refl; second = refl; read = minus_over_dec.read; lost = misread_lost "---k" minus_over_dec; joined = refl; not_joined = refl };
  sign_exported = export_read minus_over (bytes "k") "- --k" minus_decremented_k refl (record { handed = refl; numbered = refl; placed = refl }) refl (elim [ ], (over_name true UnaryOp.Dec (bytes "k"), refl));
  point_texts = ((refl, refl), (refl, refl));
  point_lost = record { first = refl; second = refl; read = dot_over_int.read; lost = misread_lost "1.lf" dot_over_int; joined = refl; not_joined = refl };
  point_exported = export_read dot_over (bytes "lf1") "1 .lf" field_of_one refl (record { handed = refl; numbered = refl; placed = refl }) refl (elim [ ], refl, refl);
}
