-- The symbols, with chapter 9's names for them (4.60 chapter 9). Assumes nothing.
use Rattle.std.specs.Prelude.{List, [], ◌∷◌}
use Prim.Native.String.{String}

pub data Symbol : Type 0 where
  left_paren right_paren left_bracket right_bracket left_brace right_brace dot comma colon semicolon question : Symbol
  inc_op dec_op plus dash bang tilde : Symbol
  or_op xor_op and_op vertical_bar caret ampersand eq_op ne_op left_angle right_angle le_op ge_op left_op right_op star slash percent : Symbol
  equal mul_assign div_assign mod_assign add_assign sub_assign left_assign right_assign and_assign xor_assign or_assign : Symbol

unfoldable pub symbol_text : Symbol → String
symbol_text left_paren = "("
symbol_text right_paren = ")"
symbol_text left_bracket = "["
symbol_text right_bracket = "]"
symbol_text left_brace = "{"
symbol_text right_brace = "}"
symbol_text dot = "."
symbol_text comma = ","
symbol_text colon = ":"
symbol_text semicolon = ";"
symbol_text question = "?"
symbol_text inc_op = "++"
symbol_text dec_op = "--"
symbol_text plus = "+"
symbol_text dash = "-"
symbol_text bang = "!"
symbol_text tilde = "~"
symbol_text or_op = "||"
symbol_text xor_op = "^^"
symbol_text and_op = "&&"
symbol_text vertical_bar = "|"
symbol_text caret = "^"
symbol_text ampersand = "&"
symbol_text eq_op = "=="
symbol_text ne_op = "!="
symbol_text left_angle = "<"
symbol_text right_angle = ">"
symbol_text le_op = "<="
symbol_text ge_op = ">="
symbol_text left_op = "<<"
symbol_text right_op = ">>"
symbol_text star = "*"
symbol_text slash = "/"
symbol_text percent = "%"
symbol_text equal = "="
symbol_text mul_assign = "*="
symbol_text div_assign = "/="
symbol_text mod_assign = "%="
symbol_text add_assign = "+="
symbol_text sub_assign = "-="
symbol_text left_assign = "<<="
symbol_text right_assign = ">>="
symbol_text and_assign = "&="
symbol_text xor_assign = "^="
symbol_text or_assign = "|="

-- 000 show_unary_op, show_binary_op, show_assignment_op, each in its order
unfoldable pub unary_operators : List Symbol
unary_operators = inc_op ∷ dec_op ∷ plus ∷ dash ∷ bang ∷ tilde ∷ []

unfoldable pub binary_operators : List Symbol
binary_operators =
    or_op ∷ xor_op ∷ and_op ∷ vertical_bar ∷ caret ∷ ampersand ∷ eq_op ∷ ne_op ∷ left_angle ∷ right_angle ∷ le_op ∷ ge_op ∷ left_op ∷ right_op
    ∷ plus ∷ dash ∷ star ∷ slash ∷ percent ∷ []

unfoldable pub assignment_operators : List Symbol
assignment_operators =
    equal ∷ mul_assign ∷ div_assign ∷ mod_assign ∷ add_assign ∷ sub_assign ∷ left_assign ∷ right_assign ∷ and_assign ∷ xor_assign ∷ or_assign ∷ []
