-- A formed expression begins with its sign (text, specs/Joins), whatever the settings are, and with one of few bytes. Assumes nothing.
use mathlib.Core.Path.{◌≡◌, refl, sym, ◌∙◌, ap}
use mathlib.Core.Bool.{Bool, true, false, ◌&&◌, ◌||◌, cond, not, and-eq-true_iff as both}
use mathlib.Core.List.{List, [], ◌∷◌, ◌++◌, append-nil}
use Prim.Native.Nat.{ℕ, ◌≤◌}
use Prim.Native.Char.{code}
use native.Mathlib.Omega.{arith}
use native.Mathlib.Nat.{not-suc-le-zero}
use lib.Dec.{eqb, ltb, leb}
use lib.ListN.{length, get_or}
use borrow.Author.Tests.{ne_eqb, le-leb}
use Rattle.words.specs.Bytes.{bytes}
use Rattle.words.specs.Word.{Word, word_text}
use Rattle.words.specs.Symbol.{Symbol, symbol_text}
use Rattle.words.specs.Keyword.{type_keywords, fixed_words}
use Rattle.words.specs.Form.{between, digit, letter, name_byte, all, one_of, name_form, digits, whole_part, behind_digits, nothing_or_fraction, float_form, longest_name, longest_float}
use Rattle.decimal.specs.Decimal.{decimal, negative, magnitude}
use Rattle.decimal.proofs.Laws.{length_positive, all_digits}
use Rattle.shapes.proofs.Says.{below, at}
use Rattle.settings.specs.declared.Settings.{Settings}
use Rattle.settings.specs.declared.FormattingState.{FormattingState}
use Rattle.text.specs.Token.{Token, spell, has, point, pointed}
use Rattle.text.specs.Command.{Command}
use Rattle.text.specs.Command.Command.{token}
use Rattle.text.specs.Pen.{written, after, text, after_all}
use Rattle.text.specs.Tree.{UnaryOp, Expr, FunIdentifier, TypeSpecifier, TypeSpecifierNonArray}
use Rattle.text.specs.Operator.{precedence, postfix_precedence, binary_precedence, ternary_precedence, assignment_precedence, comma_precedence, unary_symbol}
use Rattle.text.specs.Joins.{unary_sign, sign_if, sign, sign_callee}
use Rattle.text.specs.Text.{bare_if, show_int, bool_word, show_expr, show_function_identifier, show_type_specifier, show_type_specifier_non_array}
use Rattle.text.proofs.Append.{text_append}
use Rattle.formed.specs.Formed.{Name, Float, KeywordNumber, FormedExpr, FormedCallee, FormedType, FormedBase}

abbrev pub plus : ℕ
plus = code "+"

abbrev pub minus : ℕ
minus = code "-"

-- a byte as a sign
abbrev pub sign_byte : ℕ → ℕ
sign_byte b = cond (eqb b plus || eqb b minus) b 0

-- a byte that an expression can begin with: of a name or a number, a parenthesis or a unary operator
abbrev pub front : ℕ → Bool
front b = name_byte b || has b (bytes "(+-!~")

name_front : (b : ℕ) → name_byte b ≡ true → front b ≡ true
name_front b h = rw h refl

digit_front : (b : ℕ) → digit b ≡ true → front b ≡ true
unfolding name_byte
digit_front b h = name_front b (go (letter b) (digit b) (eqb b (code "_")) h)
  where
    go : (l d u : Bool) → d ≡ true → l || d || u ≡ true
    go true d u e = refl
    go false true u e = refl
    go false false u e = let z : ◌≡◌ {A = ℕ} 0 1 = cc in absurd (omega arith)

letter_front : (b : ℕ) → letter b ≡ true → front b ≡ true
unfolding name_byte
letter_front b h = name_front b (rw h refl)

-- commands whose text begins with such a byte, whose sign is s
pub record Starts (s : ℕ) (cs : List Command) : Type 0 where
  pub byte : ℕ
  pub fronts : front byte ≡ true
  pub same : sign_byte byte ≡ s
  pub starts : (t : Settings) (x : FormattingState) → (bs : List ℕ) × (text t cs x ≡ byte ∷ bs)

-- and more commands behind them
infixl 20 ◌and_more◌
◌and_more◌ : {s : ℕ} {cs : List Command} → Starts s cs → (ds : List Command) → Starts s (cs ++ ds)
◌and_more◌ {cs = cs} h ds = record {
  byte = h.byte;
  fronts = h.fronts;
  same = h.same;
  starts = λ t x. ((h.starts t x).0 ++ text t ds (after_all t cs x), text_append t cs ds x ∙ ap (λ (v : List ℕ). v ++ text t ds (after_all t cs x)) (h.starts t x).1);
}

starts_token : {s : ℕ} (k : Token) (cs : List Command) (b : ℕ) (bs : List ℕ) → spell k ≡ b ∷ bs → front b ≡ true → sign_byte b ≡ s → Starts s (token k ∷ cs)
unfolding text written after
starts_token k cs b bs e f h = record {
  byte = b;
  fronts = f;
  same = h;
  starts = λ t x. (bs ++ text t cs x, ap (λ (v : List ℕ). v ++ text t cs x) e);
}

-- in parentheses it begins with no sign
pub starts_bare : {s : ℕ} {cs : List Command} (b : Bool) → Starts s cs → Starts (sign_if b s) (bare_if b cs)
unfolding spell symbol_text has name_byte letter digit
starts_bare true h = h
starts_bare false h = starts_token (Token.symbol Symbol.left_paren) _ (code "(") [] refl refl refl

-- a byte that passes a test which no sign passes
no_sign : (test : ℕ → Bool) (b : ℕ) → test plus ≡ false → test minus ≡ false → test b ≡ true → sign_byte b ≡ 0
no_sign test b p m h = rw (ne_eqb b plus (differ plus p), ne_eqb b minus (differ minus m)) refl
  where
    differ : (k : ℕ) → test k ≡ false → b ≡ k → ⊥
    differ k f e = let z : ◌≡◌ {A = Bool} true false = sym h ∙ ap test e ∙ f in absurd (let z : ◌≡◌ {A = ℕ} 0 1 = cc in omega arith)

-- names, floats and numbers begin with none
name_starts : (s : List ℕ) → Name s → (cs : List Command) → Starts 0 (token (Token.name s) ∷ cs)
unfolding spell name_form name_byte letter digit all
name_starts [] h cs = absurd (let z : ◌≡◌ {A = ℕ} 0 1 = cc in omega arith)
name_starts (b ∷ bs) h cs =
    let front = ((both (between 1 longest_name (length (b ∷ bs)) && not (digit b) && all name_byte (b ∷ bs)) (not (one_of fixed_words (b ∷ bs)))).0 h).0 in
    let each = ((both (between 1 longest_name (length (b ∷ bs)) && not (digit b)) (all name_byte (b ∷ bs))).0 front).1 in
    let first = ((both (name_byte b) (all name_byte bs)).0 each).0 in
    starts_token (Token.name (b ∷ bs)) cs b bs refl (name_front b first) (no_sign name_byte b refl refl first)

first_digit : (s : List ℕ) → Float s → (b : ℕ) × (bs : List ℕ) × (s ≡ b ∷ bs) × (digit b ≡ true)
unfolding float_form digits whole_part
first_digit [] h = absurd (let z : ◌≡◌ {A = ℕ} 0 1 = cc in omega arith)
first_digit (b ∷ bs) h = go (digit b) refl ((both (between 1 longest_float (length (b ∷ bs))) (whole_part (digits (b ∷ bs)))).0 ((both (between 1 longest_float (length (b ∷ bs)) && whole_part (digits (b ∷ bs))) (nothing_or_fraction (behind_digits (b ∷ bs)))).0 h).0).1
  where
    go : (d : Bool) → digit b ≡ d → whole_part (cond d (b ∷ digits bs) []) ≡ true → (c : ℕ) × (cs : List ℕ) × (b ∷ bs ≡ c ∷ cs) × (digit c ≡ true)
    go true e w = (b, bs, refl, e)
    go false e w = absurd (let z : ◌≡◌ {A = ℕ} 0 1 = cc in omega arith)

pointed_first : (b : ℕ) (bs : List ℕ) → (ds : List ℕ) × (pointed (b ∷ bs) ≡ b ∷ ds)
unfolding pointed
pointed_first b bs = go (has point (b ∷ bs))
  where
    go : (p : Bool) → (ds : List ℕ) × (cond p (b ∷ bs) (b ∷ bs ++ bytes ".") ≡ b ∷ ds)
    go true = (bs, refl)
    go false = (bs ++ bytes ".", refl)

float_starts : (s ds : List ℕ) → Float s → (k : Token) → spell k ≡ pointed s ++ ds → Starts 0 (token k ∷ [])
unfolding digit
float_starts s ds h k e =
    let f = first_digit s h in
    let p = pointed_first f.0 f.1 in
    starts_token k [] f.0 (p.0 ++ ds) (e ∙ ap (λ (v : List ℕ). pointed v ++ ds) f.2 ∙ ap (λ (v : List ℕ). v ++ ds) p.1) (digit_front f.0 f.3) (no_sign digit f.0 refl refl f.3)

number_starts : (n : ℕ) (ds : List ℕ) (k : Token) → spell k ≡ decimal n ++ ds → Starts 0 (token k ∷ [])
unfolding digit
number_starts n ds k e = go (decimal n) (length_positive n) (all_digits n 0 (length_positive n)) e
  where
    go : (v : List ℕ) → 1 ≤ length v → (code "0" ≤ get_or v 0 0) × (get_or v 0 0 ≤ code "9") → spell k ≡ v ++ ds → Starts 0 (token k ∷ [])
    go [] h d e = absurd (not-suc-le-zero h)
    go (b ∷ bs) h d e =
        let i : digit b ≡ true = (both (leb (code "0") b) (leb b (code "9"))).1 (le-leb _ _ d.0, le-leb _ _ d.1) in
        starts_token k [] b (bs ++ ds) e (digit_front b i) (no_sign digit b refl refl i)

int_starts : (n : ℕ) → Starts (cond (negative n) minus 0) (show_int n)
unfolding spell symbol_text has name_byte letter digit
int_starts n = go (negative n)
  where
    number : Starts 0 (token (Token.int (magnitude n)) ∷ [])
    number = number_starts (magnitude n) [] (Token.int (magnitude n)) (sym (append-nil (decimal (magnitude n))))

    go : (b : Bool) → Starts (cond b minus 0) (cond b (token (Token.symbol Symbol.dash) ∷ token (Token.int (magnitude n)) ∷ []) (token (Token.int (magnitude n)) ∷ []))
    go true = starts_token (Token.symbol Symbol.dash) _ minus [] refl refl refl
    go false = number

-- the type keywords, in one computed test
unfoldable with_letter : List ℕ → Bool
with_letter [] = false
with_letter (b ∷ bs) = letter b

keywords : below (length type_keywords) (λ v. with_letter (bytes (get_or type_keywords v ""))) ≡ below (length type_keywords) (λ v. true)
unfolding below type_keywords letter with_letter
keywords = refl

keyword_starts : (v : ℕ) → KeywordNumber v → Starts 0 (token (Token.type v) ∷ [])
unfolding spell type_keywords with_letter letter
keyword_starts v h = go (bytes (get_or type_keywords v "")) refl (at (λ v. with_letter (bytes (get_or type_keywords v ""))) (λ v. true) (length type_keywords) v h keywords)
  where
    go : (s : List ℕ) → bytes (get_or type_keywords v "") ≡ s → with_letter s ≡ true → Starts 0 (token (Token.type v) ∷ [])
    go [] e t = absurd (let z : ◌≡◌ {A = ℕ} 0 1 = cc in omega arith)
    go (b ∷ bs) e t = starts_token (Token.type v) [] b bs e (letter_front b t) (no_sign letter b refl refl t)

base_starts : (t : TypeSpecifierNonArray) → FormedBase t → Starts 0 (show_type_specifier_non_array t)
unfolding FormedBase show_type_specifier_non_array spell word_text name_byte letter digit
base_starts TypeSpecifierNonArray.no_base h = absurd h
base_starts (TypeSpecifierNonArray.Keyword v) h = keyword_starts v h
base_starts (TypeSpecifierNonArray.TypeName i) h = name_starts i h []
base_starts (TypeSpecifierNonArray.Struct i fs) h = starts_token (Token.word Word.struct) _ (code "s") (bytes "truct") refl refl refl

type_starts : (t : TypeSpecifier) → FormedType t → Starts 0 (show_type_specifier t)
unfolding FormedType show_type_specifier
type_starts TypeSpecifier.no_type h = absurd h
type_starts (TypeSpecifier.type t a) h = base_starts t h.0 and_more _

unary_starts : (op : UnaryOp) (cs : List Command) → Starts (unary_sign op) (token (Token.symbol (unary_symbol op)) ∷ cs)
unfolding unary_sign unary_symbol spell symbol_text has name_byte letter digit
unary_starts UnaryOp.Inc cs = starts_token _ cs plus (bytes "+") refl refl refl
unary_starts UnaryOp.Dec cs = starts_token _ cs minus (bytes "-") refl refl refl
unary_starts UnaryOp.Add cs = starts_token _ cs plus [] refl refl refl
unary_starts UnaryOp.Minus cs = starts_token _ cs minus [] refl refl refl
unary_starts UnaryOp.Not cs = starts_token _ cs (code "!") [] refl refl refl
unary_starts UnaryOp.Complement cs = starts_token _ cs (code "~") [] refl refl refl

bool_starts : (b : Bool) → Starts 0 (token (Token.word (bool_word b)) ∷ [])
unfolding spell word_text name_byte letter digit
bool_starts true = starts_token _ [] (code "t") (bytes "rue") refl refl refl
bool_starts false = starts_token _ [] (code "f") (bytes "alse") refl refl refl

mutual
  unfolding sign show_expr FormedExpr spell

  pub expr_starts : (e : Expr) → FormedExpr e → Starts (sign e) (show_expr e)
  expr_starts Expr.no_expr h = absurd h
  expr_starts (Expr.Variable i) h = name_starts i h []
  expr_starts (Expr.IntConst n) h = int_starts n
  expr_starts (Expr.UIntConst n) h = number_starts n (bytes "u") (Token.uint n) refl
  expr_starts (Expr.BoolConst b) h = bool_starts b
  expr_starts (Expr.FloatConst t) h = float_starts t [] h (Token.float t) (sym (append-nil (pointed t)))
  expr_starts (Expr.DoubleConst t) h = float_starts t (bytes "lf") h (Token.double t) refl
  expr_starts (Expr.Unary op e) h = unary_starts op _
  expr_starts (Expr.Binary op l r) h = starts_bare (leb (precedence l) (binary_precedence op)) (expr_starts l h.0) and_more _ and_more _
  expr_starts (Expr.Ternary c s e) h = starts_bare (ltb (precedence c) ternary_precedence) (expr_starts c h.0) and_more _ and_more _ and_more _ and_more _
  expr_starts (Expr.Assignment op v e) h = starts_bare (ltb (precedence v) assignment_precedence) (expr_starts v h.0) and_more _ and_more _
  expr_starts (Expr.Bracket e a) h = starts_bare (leb (precedence e) postfix_precedence) (expr_starts e h.0) and_more _
  expr_starts (Expr.FunCall f es) h = callee_starts f h.0 and_more _
  expr_starts (Expr.Dot i e) h = starts_bare (leb (precedence e) postfix_precedence) (expr_starts e h.1) and_more _ and_more _
  expr_starts (Expr.PostInc e) h = starts_bare (ltb (precedence e) postfix_precedence) (expr_starts e h) and_more _
  expr_starts (Expr.PostDec e) h = starts_bare (ltb (precedence e) postfix_precedence) (expr_starts e h) and_more _
  expr_starts (Expr.Comma a b) h = starts_bare (leb (precedence a) comma_precedence) (expr_starts a h.0) and_more _ and_more _

  callee_starts : (f : FunIdentifier) → FormedCallee f → Starts (sign_callee f) (show_function_identifier f)
  callee_starts (FunIdentifier.OfType t) h = type_starts t h
  callee_starts (FunIdentifier.OfExpr e) h = expr_starts e h
