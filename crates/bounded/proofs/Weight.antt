-- The weight of commands: no less than what they write, whatever the settings and the state, up to a level. Entering a level weighs too, so that a
-- weight bounds the levels as well. Assumes nothing.
use mathlib.Core.Path.{◌≡◌, refl}
use mathlib.Core.Bool.{Bool, true, false, ◌&&◌, cond}
use mathlib.Core.List.{List, [], ◌∷◌, ◌++◌}
use mathlib.Core.Option.{some}
use Prim.Native.Nat.{ℕ, ◌+◌, ◌*◌, ◌≤◌}
use Prim.Native.Char.{code}
use native.Mathlib.Nat.{le_refl, mul-le-mul}
use native.Mathlib.Omega.{arith}
use lib.Dec.{leb}
use lib.ListN.{length, length-append, length-replicate, get_or-eq_default}
use borrow.Author.Tests.{leb-true, lt-ltb}
use Rattle.words.specs.Bytes.{bytes}
use Rattle.words.specs.Word.{word_text, qualifier_words, jump_words, bool_words, lone_words}
use Rattle.words.specs.Symbol.{symbol_text, unary_operators, binary_operators, assignment_operators}
use Rattle.words.specs.Keyword.{type_keywords}
use Rattle.word_table.specs.Table.{widest}
use Rattle.records.proofs.Laws.{split}
use Rattle.decimal.specs.Decimal.{decimal}
use Rattle.settings.specs.declared.Settings.{Settings}
use Rattle.settings.specs.declared.FormattingState.{FormattingState}
use Rattle.settings.specs.declared.IndentStyle.{IndentStyle}
use Rattle.settings.specs.declared.IndentStyle.TheVariants as Indent
use Rattle.settings.specs.declared.Whitespace.{Whitespace}
use Rattle.settings.specs.declared.Whitespace.TheVariants as White
use Rattle.settings.specs.Settings.{widest_indent}
use Rattle.accept.specs.Check.{most_records}
use Rattle.text.specs.Token.{Token, has, point, pointed, spell}
use Rattle.text.specs.Token.Token.{name, type, int, uint, float, double, word, symbol}
use Rattle.text.specs.Asked.{flag, gap}
use Rattle.text.specs.Command.{Command}
use Rattle.text.specs.Command.Command.{token, space, space_if, space_at_body_if, newline_if, whitespace, write_indent, write_line, flush_line, flush_space, consume_newline, indent, dedent, enter_function_definition_statement, consume_function_definition_statement}
use Rattle.text.specs.Pen.{indentation, indent_of, line_of, whitespace_text, written}
use Rattle.lexis.proofs.Fixed.{types_from, others, fixed_tokens, find, every, found_passes, word_found, symbol_found, type_found}
use Rattle.pen.specs.Free.{climb, climbs}

-- A record's commands weigh at most `record_weight` (proofs/Fits.antt), so that 4,096 records weigh less than 2^32; and since a level weighs half of
-- that, they enter at most two levels a record. No line is longer than the indent of so many levels. The dearest record is a function: three lines and a
-- level.
abbrev pub level_weight : ℕ
level_weight = 400000

abbrev pub record_weight : ℕ
record_weight = 2 * level_weight

abbrev pub deepest_level : ℕ
deepest_level = 2 * most_records

abbrev pub line_weight : ℕ
line_weight = 1 + widest_indent * deepest_level

-- Texts and numbers weigh what they are long. Words and symbols weigh alike: none is longer than that.
abbrev pub weigh_token : Token → ℕ
weigh_token (name n) = length n
weigh_token (type v) = widest
weigh_token (int n) = length (decimal n)
weigh_token (uint n) = length (decimal n) + 1
weigh_token (float t) = length t + 1
weigh_token (double t) = length t + 3
weigh_token (word w) = widest
weigh_token (symbol y) = 3

abbrev pub weigh : Command → ℕ
weigh (token t) = weigh_token t
weigh space = 1
weigh (space_if f) = 1
weigh (space_at_body_if f) = 1
weigh (newline_if f) = 0
weigh (whitespace g) = 1
weigh write_indent = line_weight
weigh write_line = line_weight
weigh flush_line = line_weight
weigh flush_space = 1
weigh consume_newline = 0
weigh indent = level_weight
weigh dedent = 0
weigh enter_function_definition_statement = 0
weigh consume_function_definition_statement = 0

unfoldable pub weighs : List Command → ℕ
weighs [] = 0
weighs (c ∷ cs) = weigh c + weighs cs

pub weighs_append : (cs ds : List Command) → weighs (cs ++ ds) ≡ weighs cs + weighs ds
unfolding weighs
weighs_append [] ds = omega arith
weighs_append (c ∷ cs) ds = omega (arith, weighs_append cs ds)

-- a token is no longer than it weighs

-- by one test of the words, symbols and type keywords that there are (lexis)
abbrev short : Token → Bool
short t = leb (length (spell t)) (weigh_token t)

all_short : every short fixed_tokens ≡ true
unfolding every fixed_tokens others types_from type_keywords qualifier_words jump_words bool_words lone_words unary_operators binary_operators assignment_operators spell word_text symbol_text
all_short = refl

fixed_short : (t : Token) → find fixed_tokens (spell t) ≡ some t → length (spell t) ≤ weigh_token t
fixed_short t e = leb-true (length (spell t)) (weigh_token t) (found_passes short fixed_tokens (spell t) t all_short e)

-- a number that stands for no keyword is spelled as nothing
no_keyword : (v : ℕ) → length type_keywords ≤ v → length (spell (type v)) ≤ widest
unfolding spell
no_keyword v h = rw (get_or-eq_default type_keywords "" h) (omega arith)

keyword_short : (v : ℕ) → length (spell (type v)) ≤ widest
keyword_short v = split v (length type_keywords) (λ h. fixed_short (type v) (type_found v (lt-ltb v (length type_keywords) h))) (no_keyword v)

pointed_short : (t : List ℕ) → length (pointed t) ≤ length t + 1
unfolding pointed
pointed_short t = go (has point t)
  where
    go : (b : Bool) → length (cond b t (t ++ bytes ".")) ≤ length t + 1
    go true = omega arith
    go false = omega (arith, length-append t (bytes "."))

spell_weight : (t : Token) → length (spell t) ≤ weigh_token t
unfolding spell
spell_weight (name n) = le_refl (length n)
spell_weight (type v) = keyword_short v
spell_weight (int n) = le_refl (length (decimal n))
spell_weight (uint n) = omega (arith, length-append (decimal n) (bytes "u"))
spell_weight (float t) = pointed_short t
spell_weight (double t) = omega (arith, length-append (pointed t) (bytes "lf"), pointed_short t)
spell_weight (word w) = fixed_short (word w) (word_found w)
spell_weight (symbol y) = fixed_short (symbol y) (symbol_found y)

-- a command writes no more than it weighs

cond_short : (b : Bool) (bs : List ℕ) → length (cond b bs []) ≤ length bs
cond_short true bs = le_refl (length bs)
cond_short false bs = omega arith

whitespace_short : (w : Whitespace) → length (whitespace_text w) ≤ 1
whitespace_short White.None = omega arith
whitespace_short White.Space = omega arith
whitespace_short White.Newline = omega arith

indentation_short : (x : IndentStyle) (count levels : ℕ) → length (indentation x count levels) ≤ count * levels
indentation_short Indent.None count levels = omega arith
indentation_short Indent.Tabs count levels = omega (arith, length-replicate (count * levels) (code "\t"))
indentation_short Indent.Spaces count levels = omega (arith, length-replicate (count * levels) (code " "))

module _ (s : Settings) (narrow : s.count ≤ widest_indent) where
  indent_short : (st : FormattingState) → st.indentation_level ≤ deepest_level → length (indent_of s st) ≤ widest_indent * deepest_level
  unfolding indent_of
  indent_short st h =
      omega (arith, indentation_short s.indent_style s.count st.indentation_level, mul-le-mul narrow h)

  line_short : (st : FormattingState) → st.indentation_level ≤ deepest_level → length (line_of s st) ≤ line_weight
  unfolding line_of
  line_short st h = omega (arith, indent_short st h)

  pub written_weight : (c : Command) (st : FormattingState) → st.indentation_level ≤ deepest_level → length (written s c st) ≤ weigh c
  unfolding written
  written_weight (token t) st h = spell_weight t
  written_weight space st h = omega arith
  written_weight (space_if f) st h = cond_short (flag s f) (bytes " ")
  written_weight (space_at_body_if f) st h = cond_short (flag s f && st.in_function_definition_statement) (bytes " ")
  written_weight (newline_if f) st h = omega arith
  written_weight (whitespace g) st h = whitespace_short (gap s g)
  written_weight write_indent st h = omega (arith, indent_short st h)
  written_weight write_line st h = line_short st h
  written_weight flush_line st h = omega (arith, cond_short st.new_line_pending (line_of s st), line_short st h)
  written_weight flush_space st h = cond_short st.new_line_pending (bytes " ")
  written_weight consume_newline st h = omega arith
  written_weight indent st h = omega arith
  written_weight dedent st h = omega arith
  written_weight enter_function_definition_statement st h = omega arith
  written_weight consume_function_definition_statement st h = omega arith

-- the levels that they enter weigh, too

climb_weight : (c : Command) → level_weight * climb c ≤ weigh c
climb_weight (token t) = omega arith
climb_weight space = omega arith
climb_weight (space_if f) = omega arith
climb_weight (space_at_body_if f) = omega arith
climb_weight (newline_if f) = omega arith
climb_weight (whitespace g) = omega arith
climb_weight write_indent = omega arith
climb_weight write_line = omega arith
climb_weight flush_line = omega arith
climb_weight flush_space = omega arith
climb_weight consume_newline = omega arith
climb_weight indent = omega arith
climb_weight dedent = omega arith
climb_weight enter_function_definition_statement = omega arith
climb_weight consume_function_definition_statement = omega arith

pub climbs_weight : (cs : List Command) → level_weight * climbs cs ≤ weighs cs
unfolding climbs weighs
climbs_weight [] = omega arith
climbs_weight (c ∷ cs) = omega (arith, climb_weight c, climbs_weight cs)
