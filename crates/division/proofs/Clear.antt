-- Which bytes may stand right behind a token without making it a longer word, in a wide language or in another (lexis, proofs/Laws). Assumes nothing.
use mathlib.Core.Path.{◌≡◌, refl, sym, ap, subst, ◌∙◌}
use mathlib.Core.Bool.{Bool, true, false, not, ◌&&◌, ◌||◌, and-false}
use mathlib.Core.List.{List, [], ◌∷◌, ◌++◌}
use Prim.Native.Nat.{ℕ}
use Prim.Native.Char.{code}
use lib.Dec.{eqb}
use borrow.Author.Tests.{eqb-true, eqb-false, ne_eqb, not-true}
use Rattle.words.specs.Bytes.{bytes}
use Rattle.words.specs.Form.{all, same, one_of}
use Rattle.words.specs.Letter.{letter, digit, name_byte}
use Rattle.words.specs.Symbol.{Symbol, symbol_text}
use Rattle.words.specs.Symbol.Symbol.{dot, inc_op, dec_op, plus, dash, bang, tilde}
use Rattle.text.specs.Token.{Token, has}
use Rattle.text.specs.Token.Token.{name, int, uint, float, double, word, symbol}
use Rattle.text.specs.Visible.{blank}
use Rattle.text.specs.Tree.{UnaryOp, BinaryOp, AssignmentOp}
use Rattle.text.specs.Operator.{binary_op, binary_symbol, unary_symbol, assignment_symbol, reads_as_one}
use Rattle.formed.proofs.Signs.{front, sign_byte}
use Rattle.lexis.specs.Division.{begins_with}
use Rattle.lexis.proofs.Tests.{both, either, clash}
use Rattle.lexis.proofs.Symbols.{no_blank}
use Rattle.lexis.proofs.Laws.{symbol_lengthens, lengthens}

-- what a space, a tab and a newline have, every blank has
pub blank_is : (P : ℕ → Type 0) → P (code " ") → P (code "\t") → P (code "\n") → (b : ℕ) → blank b ≡ true → P b
blank_is P p q r b h = either (eqb b (code " ") || eqb b (code "\t")) (eqb b (code "\n")) h (λ h. either (eqb b (code " ")) (eqb b (code "\t")) h (is p) (is q)) (is r)
  where
    is : {c : ℕ} → P c → eqb b c ≡ true → P b
    is {c = c} p e = subst P (sym (eqb-true b c e)) p

-- nothing behind t makes it longer
abbrev pub Clear : (wide : Bool) → Token → List ℕ → Type 0
Clear wide t [] = Unit
Clear wide t (b ∷ bs) = lengthens wide t b ≡ false

-- what the last token of a text can be; a whole number, or another number, only where `whole` or `other` says so
abbrev pub Ends : (whole other : Bool) → Token → Type 0
Ends i o (name n) = Unit
Ends i o (Token.type v) = Unit
Ends i o (int k) = i ≡ true
Ends i o (uint k) = o ≡ true
Ends i o (float t) = o ≡ true
Ends i o (double t) = o ≡ true
Ends i o (word w) = Unit
Ends i o (symbol y) = symbol_lengthens y ≡ ""

pub ends_wider : (i o : Bool) (t : Token) → Ends i o t → Ends true true t
ends_wider i o (name n) h = tt
ends_wider i o (Token.type v) h = tt
ends_wider i o (int k) h = refl
ends_wider i o (uint k) h = refl
ends_wider i o (float t) h = refl
ends_wider i o (double t) h = refl
ends_wider i o (word w) h = tt
ends_wider i o (symbol y) h = h

-- a byte that is of no name and no point stands clear behind a token, unless this is a symbol that the byte makes longer
plain_clear : (wide : Bool) (b : ℕ) → name_byte b ≡ false → eqb b (code ".") ≡ false → (t : Token) → ((y : Symbol) → t ≡ symbol y → has b (bytes (symbol_lengthens y)) ≡ false) → lengthens wide t b ≡ false
unfolding lengthens
plain_clear wide b h p (name n) k = h
plain_clear wide b h p (Token.type v) k = h
plain_clear wide b h p (int n) k = rw (h, p)
plain_clear wide b h p (uint n) k = rw (h, p) (and-false wide)
plain_clear wide b h p (float t) k = rw (h, p) (and-false wide)
plain_clear wide b h p (double t) k = rw (h, p) (and-false wide)
plain_clear wide b h p (word w) k = h
plain_clear wide b h p (symbol y) k = k y refl

-- so it does behind all that a text can end in
pub ends_clear : (wide : Bool) (b : ℕ) → name_byte b ≡ false → eqb b (code ".") ≡ false → (i o : Bool) (t : Token) → Ends i o t → lengthens wide t b ≡ false
unfolding has
ends_clear wide b h p i o t e = plain_clear wide b h p t (λ y q. rw (subst (λ (u : Token). Ends i o u) q e) refl)

-- a point stands clear behind what is no whole number, and in a wide language behind what is no number
pub point_clear : (wide o : Bool) → wide && o ≡ false → (t : Token) → Ends false o t → lengthens wide t (code ".") ≡ false
unfolding lengthens has name_byte letter digit
point_clear wide o h (name n) e = refl
point_clear wide o h (Token.type v) e = refl
point_clear wide o h (int k) e = clash e refl
point_clear wide o h (uint k) e = subst (λ (o : Bool). wide && o ≡ false) e h
point_clear wide o h (float t) e = subst (λ (o : Bool). wide && o ≡ false) e h
point_clear wide o h (double t) e = subst (λ (o : Bool). wide && o ≡ false) e h
point_clear wide o h (word w) e = refl
point_clear wide o h (symbol y) e = rw e

-- none of these bytes passes the test
abbrev pub none_pass : (ℕ → Bool) → List ℕ → Bool
none_pass f ks = all (λ k. not (f k)) ks

-- a byte that passes is none of those that don't
apart : (f : ℕ → Bool) (b : ℕ) (ks : List ℕ) → f b ≡ true → none_pass f ks ≡ true → has b ks ≡ false
unfolding all has
apart f b [] h n = refl
apart f b (k ∷ ks) h n =
    let a = both (not (f k)) (none_pass f ks) n in
    rw (ne_eqb k b (λ e. clash (ap f e ∙ h) (not-true (f k) a.0))) (apart f b ks h a.1)

-- a blank stands clear behind every token
pub blank_clear : (wide : Bool) (b : ℕ) → blank b ≡ true → (t : Token) → lengthens wide t b ≡ false
unfolding name_byte letter digit
blank_clear wide b h t =
    plain_clear wide b (blank_is (λ c. name_byte c ≡ false) refl refl refl b h) (blank_is (λ c. eqb c (code ".") ≡ false) refl refl refl b h) t
    (λ y q. apart blank b (bytes (symbol_lengthens y)) h (no_blank y))

-- a text whose first byte passes stands clear behind a symbol that no such byte makes longer
pub clear_of : (wide : Bool) (f : ℕ → Bool) (y : Symbol) (bs : List ℕ) → none_pass f (bytes (symbol_lengthens y)) ≡ true → begins_with f bs ≡ true → Clear wide (symbol y) bs
unfolding lengthens
clear_of wide f y [] n h = tt
clear_of wide f y (b ∷ bs) n h = apart f b (bytes (symbol_lengthens y)) h n

-- so does any text behind a symbol that nothing makes longer
pub never_longer : (wide : Bool) (y : Symbol) (bs : List ℕ) → symbol_lengthens y ≡ "" → Clear wide (symbol y) bs
unfolding lengthens has
never_longer wide y [] e = tt
never_longer wide y (b ∷ bs) e = rw e

-- a field's name stands clear behind the dot
pub field_clear : (wide : Bool) (bs : List ℕ) → begins_with (λ b. name_byte b && not (digit b)) bs ≡ true → Clear wide (symbol dot) bs
unfolding all symbol_lengthens name_byte letter digit
field_clear wide bs h = clear_of wide (λ b. name_byte b && not (digit b)) dot bs refl h

-- An operator before its operand: no byte that an expression can begin with makes it longer, but for the same sign behind a plus or minus.

abbrev Calm : Symbol → Type 0
Calm y = none_pass front (bytes (symbol_lengthens y)) ≡ true

calm_clear : (wide : Bool) (y : Symbol) → Calm y → (b : ℕ) (bs : List ℕ) → front b ≡ true → Clear wide (symbol y) (b ∷ bs)
calm_clear wide y n b bs h = clear_of wide front y (b ∷ bs) n h

-- plus and minus are made longer by the same sign c and by `=`: a byte of another sign that an expression can begin with is neither
sign_clear : (c b : ℕ) → front b ≡ true → (sign_byte b ≡ c → ⊥) → sign_byte c ≡ c → has b (c ∷ code "=" ∷ []) ≡ false
unfolding has name_byte letter digit
sign_clear c b f h k = rw (ne_eqb c b (λ e. h (ap sign_byte (sym e) ∙ k)), ne_eqb (code "=") b (λ e. clash (ap front e ∙ f) refl)) refl

-- where the two do not read as one, the byte has another sign
other_sign : (c s b : ℕ) → eqb c s ≡ false → sign_byte b ≡ s → sign_byte b ≡ c → ⊥
other_sign c s b h e q = eqb-false c s h (sym q ∙ e)

and_or : (a : Bool) → a && true || false ≡ false → a ≡ false
and_or true h = h
and_or false h = refl

-- so a byte b of sign s stands clear behind an operator with which s does not read as one
module _ (wide : Bool) (s b : ℕ) (bs : List ℕ) (f : front b ≡ true) (e : sign_byte b ≡ s) where
  abbrev Behind : Symbol → Type 0
  Behind y = reads_as_one (bytes (symbol_text y) ++ (s ∷ [])) ≡ false → Clear wide (symbol y) (b ∷ bs)

  plus_behind : Behind plus
  unfolding one_of same symbol_text lengthens symbol_lengthens
  plus_behind j = sign_clear (code "+") b f (other_sign (code "+") s b (and_or _ j) e) refl

  dash_behind : Behind dash
  unfolding one_of same symbol_text lengthens symbol_lengthens
  dash_behind j = sign_clear (code "-") b f (other_sign (code "-") s b (and_or _ j) e) refl

  calm_behind : (y : Symbol) → Calm y → Behind y
  calm_behind y n j = calm_clear wide y n b bs f

  pub unary_behind : (op : UnaryOp) → Behind (unary_symbol op)
  unfolding unary_symbol all symbol_lengthens has name_byte letter digit
  unary_behind UnaryOp.Inc = calm_behind inc_op refl
  unary_behind UnaryOp.Dec = calm_behind dec_op refl
  unary_behind UnaryOp.Add = plus_behind
  unary_behind UnaryOp.Minus = dash_behind
  unary_behind UnaryOp.Not = calm_behind bang refl
  unary_behind UnaryOp.Complement = calm_behind tilde refl

  pub binary_behind : (op : BinaryOp) → Behind (binary_symbol op)
  unfolding binary_op all symbol_lengthens has name_byte letter digit
  binary_behind BinaryOp.Or = calm_behind (binary_symbol BinaryOp.Or) refl
  binary_behind BinaryOp.Xor = calm_behind (binary_symbol BinaryOp.Xor) refl
  binary_behind BinaryOp.And = calm_behind (binary_symbol BinaryOp.And) refl
  binary_behind BinaryOp.BitOr = calm_behind (binary_symbol BinaryOp.BitOr) refl
  binary_behind BinaryOp.BitXor = calm_behind (binary_symbol BinaryOp.BitXor) refl
  binary_behind BinaryOp.BitAnd = calm_behind (binary_symbol BinaryOp.BitAnd) refl
  binary_behind BinaryOp.Equal = calm_behind (binary_symbol BinaryOp.Equal) refl
  binary_behind BinaryOp.NonEqual = calm_behind (binary_symbol BinaryOp.NonEqual) refl
  binary_behind BinaryOp.Lt = calm_behind (binary_symbol BinaryOp.Lt) refl
  binary_behind BinaryOp.Gt = calm_behind (binary_symbol BinaryOp.Gt) refl
  binary_behind BinaryOp.Lte = calm_behind (binary_symbol BinaryOp.Lte) refl
  binary_behind BinaryOp.Gte = calm_behind (binary_symbol BinaryOp.Gte) refl
  binary_behind BinaryOp.LShift = calm_behind (binary_symbol BinaryOp.LShift) refl
  binary_behind BinaryOp.RShift = calm_behind (binary_symbol BinaryOp.RShift) refl
  binary_behind BinaryOp.Add = plus_behind
  binary_behind BinaryOp.Sub = dash_behind
  binary_behind BinaryOp.Mult = calm_behind (binary_symbol BinaryOp.Mult) refl
  binary_behind BinaryOp.Div = calm_behind (binary_symbol BinaryOp.Div) refl
  binary_behind BinaryOp.Mod = calm_behind (binary_symbol BinaryOp.Mod) refl

assignment_calm : (op : AssignmentOp) → Calm (assignment_symbol op)
unfolding assignment_symbol all symbol_lengthens has name_byte letter digit
assignment_calm AssignmentOp.Equal = refl
assignment_calm AssignmentOp.Mult = refl
assignment_calm AssignmentOp.Div = refl
assignment_calm AssignmentOp.Mod = refl
assignment_calm AssignmentOp.Add = refl
assignment_calm AssignmentOp.Sub = refl
assignment_calm AssignmentOp.LShift = refl
assignment_calm AssignmentOp.RShift = refl
assignment_calm AssignmentOp.And = refl
assignment_calm AssignmentOp.Xor = refl
assignment_calm AssignmentOp.Or = refl

pub assignment_clear : (wide : Bool) (op : AssignmentOp) (b : ℕ) (bs : List ℕ) → front b ≡ true → Clear wide (symbol (assignment_symbol op)) (b ∷ bs)
assignment_clear wide op b bs h = calm_clear wide (assignment_symbol op) (assignment_calm op) b bs h

-- An operator behind its operand begins with no byte of a name, and with no point.

abbrev pub plain : ℕ → Bool
plain b = not (name_byte b) && not (eqb b (code "."))

pub ends_before : (wide : Bool) (bs : List ℕ) → begins_with plain bs ≡ true → (i o : Bool) (t : Token) → Ends i o t → Clear wide t bs
ends_before wide [] h i o t e = tt
ends_before wide (b ∷ bs) h i o t e = let g = both (not (name_byte b)) (not (eqb b (code "."))) h in ends_clear wide b (not-true (name_byte b) g.0) (not-true (eqb b (code ".")) g.1) i o t e

abbrev pub Operator : Symbol → Type 0
Operator y = begins_with plain (bytes (symbol_text y)) ≡ true

pub binary_operator : (op : BinaryOp) → Operator (binary_symbol op)
unfolding binary_op symbol_text name_byte letter digit
binary_operator BinaryOp.Or = refl
binary_operator BinaryOp.Xor = refl
binary_operator BinaryOp.And = refl
binary_operator BinaryOp.BitOr = refl
binary_operator BinaryOp.BitXor = refl
binary_operator BinaryOp.BitAnd = refl
binary_operator BinaryOp.Equal = refl
binary_operator BinaryOp.NonEqual = refl
binary_operator BinaryOp.Lt = refl
binary_operator BinaryOp.Gt = refl
binary_operator BinaryOp.Lte = refl
binary_operator BinaryOp.Gte = refl
binary_operator BinaryOp.LShift = refl
binary_operator BinaryOp.RShift = refl
binary_operator BinaryOp.Add = refl
binary_operator BinaryOp.Sub = refl
binary_operator BinaryOp.Mult = refl
binary_operator BinaryOp.Div = refl
binary_operator BinaryOp.Mod = refl

pub assignment_operator : (op : AssignmentOp) → Operator (assignment_symbol op)
unfolding assignment_symbol symbol_text name_byte letter digit
assignment_operator AssignmentOp.Equal = refl
assignment_operator AssignmentOp.Mult = refl
assignment_operator AssignmentOp.Div = refl
assignment_operator AssignmentOp.Mod = refl
assignment_operator AssignmentOp.Add = refl
assignment_operator AssignmentOp.Sub = refl
assignment_operator AssignmentOp.LShift = refl
assignment_operator AssignmentOp.RShift = refl
assignment_operator AssignmentOp.And = refl
assignment_operator AssignmentOp.Xor = refl
assignment_operator AssignmentOp.Or = refl
