-- Chapter 9 of the GLSL 4.60 specification, for expressions: the nonterminals that `expression` reaches by their names, their productions in its order (each quoted
-- above its line), and the tree that each makes. `Derives n ts v` says that the nonterminal n derives the tokens ts, and that v is what they mean. A name is an
-- IDENTIFIER, a TYPE_NAME or a FIELD_SELECTION, as the derivation likes. Left out of type_specifier_nonarray are struct_specifier and the type keywords of Vulkan
-- alone: no text of a sound expression holds the words that these begin with (01, "Sound expression": callees, names). Which numbers, names and texts a token may have is
-- not asked here, but by lexis (`proper`). Assumes nothing.
use Rattle.std.specs.Prelude.{Bool, List, [], ◌∷◌, ◌++◌, ℕ}
use Rattle.words.specs.Symbol.Symbol.{left_paren, right_paren, left_bracket, right_bracket, dot, comma, colon, question, inc_op, dec_op, plus, dash, bang, tilde, or_op, xor_op, and_op, vertical_bar, caret, ampersand, eq_op, ne_op, left_angle, right_angle, le_op, ge_op, left_op, right_op, star, slash, percent, equal, mul_assign, div_assign, mod_assign, add_assign, sub_assign, left_assign, right_assign, and_assign, xor_assign, or_assign}
use Rattle.text.specs.Token.{Token}
use Rattle.text.specs.Token.Token.{name, int, uint, float, double, word, symbol}
use Rattle.text.specs.Tree.{Identifier, UnaryOp, BinaryOp, AssignmentOp, Expr, Exprs, FunIdentifier, TypeSpecifier, TypeSpecifierNonArray, ArraySpecifier}
use Rattle.text.specs.Tree.Expr.{Variable, IntConst, UIntConst, BoolConst, FloatConst, DoubleConst, Unary, Binary, Ternary, Assignment, Bracket, FunCall, Dot, PostInc, PostDec, Comma}
use Rattle.text.specs.Tree.Exprs.{no_exprs}
use Rattle.text.specs.Tree.FunIdentifier.{OfType, OfExpr}
use Rattle.text.specs.Tree.TypeSpecifierNonArray.{Keyword, TypeName}
use Rattle.text.specs.Tree.ArraySpecifier.{no_dimensions}
use Rattle.text.specs.Tree.ArraySpecifierDimension.{Unsized, ExplicitlySized}
use Rattle.text.specs.Text.{bool_word}
use Rattle.grammar.specs.Last.{last_expr, last_dimension}

-- VOID, the first of the type keywords
abbrev pub void : Token
void = Token.type 0

pub data Nonterminal : Type 0 where
  variable_identifier primary_expression postfix_expression integer_expression : Nonterminal
  function_call function_call_or_method function_call_generic function_call_header_no_parameters function_call_header_with_parameters function_call_header function_identifier : Nonterminal
  unary_expression unary_operator : Nonterminal
  multiplicative_expression additive_expression shift_expression relational_expression equality_expression and_expression : Nonterminal
  exclusive_or_expression inclusive_or_expression logical_and_expression logical_xor_expression logical_or_expression : Nonterminal
  conditional_expression assignment_expression assignment_operator expression : Nonterminal
  type_specifier array_specifier type_specifier_nonarray : Nonterminal

-- what derived tokens mean: a tree of the definition's, or a part of one
pub data Value : Type 0 where
  expr : Expr → Value
  prefix : UnaryOp → Value
  assign : AssignmentOp → Value
  -- a call's function_identifier, the same with its left parenthesis, and with its arguments so far
  callee header : FunIdentifier → Value
  call : FunIdentifier → Exprs → Value
  type : TypeSpecifier → Value
  base : TypeSpecifierNonArray → Value
  array : ArraySpecifier → Value

pub data Derives : Nonterminal → List Token → Value → Type 0 where
  -- variable_identifier
  --     IDENTIFIER
  variable-identifier : (n : Identifier) → Derives variable_identifier (name n ∷ []) (expr (Variable n))
  -- primary_expression
  --     variable_identifier
  primary-variable : {ts : List Token} {a : Expr} → Derives variable_identifier ts (expr a) → Derives primary_expression ts (expr a)
  --     INTCONSTANT
  primary-int : (n : ℕ) → Derives primary_expression (int n ∷ []) (expr (IntConst n))
  --     UINTCONSTANT
  primary-uint : (n : ℕ) → Derives primary_expression (uint n ∷ []) (expr (UIntConst n))
  --     FLOATCONSTANT
  primary-float : (t : List ℕ) → Derives primary_expression (float t ∷ []) (expr (FloatConst t))
  --     BOOLCONSTANT
  primary-bool : (b : Bool) → Derives primary_expression (word (bool_word b) ∷ []) (expr (BoolConst b))
  --     DOUBLECONSTANT
  primary-double : (t : List ℕ) → Derives primary_expression (double t ∷ []) (expr (DoubleConst t))
  --     LEFT_PAREN expression RIGHT_PAREN
  primary-parens : {ts : List Token} {a : Expr} → Derives expression ts (expr a) → Derives primary_expression (symbol left_paren ∷ (ts ++ (symbol right_paren ∷ []))) (expr a)
  -- postfix_expression
  --     primary_expression
  postfix-primary : {ts : List Token} {a : Expr} → Derives primary_expression ts (expr a) → Derives postfix_expression ts (expr a)
  --     postfix_expression LEFT_BRACKET integer_expression RIGHT_BRACKET
  postfix-index : {ts us : List Token} {a i : Expr} → Derives postfix_expression ts (expr a) → Derives integer_expression us (expr i) → Derives postfix_expression (ts ++ (symbol left_bracket ∷ (us ++ (symbol right_bracket ∷ [])))) (expr (Bracket a i))
  --     function_call
  postfix-call : {ts : List Token} {a : Expr} → Derives function_call ts (expr a) → Derives postfix_expression ts (expr a)
  --     postfix_expression DOT FIELD_SELECTION
  postfix-field : {ts : List Token} {a : Expr} → Derives postfix_expression ts (expr a) → (n : Identifier) → Derives postfix_expression (ts ++ (symbol dot ∷ name n ∷ [])) (expr (Dot n a))
  --     postfix_expression INC_OP
  postfix-inc : {ts : List Token} {a : Expr} → Derives postfix_expression ts (expr a) → Derives postfix_expression (ts ++ (symbol inc_op ∷ [])) (expr (PostInc a))
  --     postfix_expression DEC_OP
  postfix-dec : {ts : List Token} {a : Expr} → Derives postfix_expression ts (expr a) → Derives postfix_expression (ts ++ (symbol dec_op ∷ [])) (expr (PostDec a))
  -- integer_expression
  --     expression
  integer-expression : {ts : List Token} {a : Expr} → Derives expression ts (expr a) → Derives integer_expression ts (expr a)
  -- function_call
  --     function_call_or_method
  call-or_method : {ts : List Token} {a : Expr} → Derives function_call_or_method ts (expr a) → Derives function_call ts (expr a)
  -- function_call_or_method
  --     function_call_generic
  method-generic : {ts : List Token} {a : Expr} → Derives function_call_generic ts (expr a) → Derives function_call_or_method ts (expr a)
  -- function_call_generic
  --     function_call_header_with_parameters RIGHT_PAREN
  generic-with : {ts : List Token} {f : FunIdentifier} {es : Exprs} → Derives function_call_header_with_parameters ts (call f es) → Derives function_call_generic (ts ++ (symbol right_paren ∷ [])) (expr (FunCall f es))
  --     function_call_header_no_parameters RIGHT_PAREN
  generic-no : {ts : List Token} {f : FunIdentifier} {es : Exprs} → Derives function_call_header_no_parameters ts (call f es) → Derives function_call_generic (ts ++ (symbol right_paren ∷ [])) (expr (FunCall f es))
  -- function_call_header_no_parameters
  --     function_call_header VOID
  no-void : {ts : List Token} {f : FunIdentifier} → Derives function_call_header ts (header f) → Derives function_call_header_no_parameters (ts ++ (void ∷ [])) (call f no_exprs)
  --     function_call_header
  no-header : {ts : List Token} {f : FunIdentifier} → Derives function_call_header ts (header f) → Derives function_call_header_no_parameters ts (call f no_exprs)
  -- function_call_header_with_parameters
  --     function_call_header assignment_expression
  with-first : {ts us : List Token} {f : FunIdentifier} {a : Expr} → Derives function_call_header ts (header f) → Derives assignment_expression us (expr a) → Derives function_call_header_with_parameters (ts ++ us) (call f (last_expr no_exprs a))
  --     function_call_header_with_parameters COMMA assignment_expression
  with-next : {ts us : List Token} {f : FunIdentifier} {es : Exprs} {a : Expr} → Derives function_call_header_with_parameters ts (call f es) → Derives assignment_expression us (expr a) → Derives function_call_header_with_parameters (ts ++ (symbol comma ∷ us)) (call f (last_expr es a))
  -- function_call_header
  --     function_identifier LEFT_PAREN
  header-identifier : {ts : List Token} {f : FunIdentifier} → Derives function_identifier ts (callee f) → Derives function_call_header (ts ++ (symbol left_paren ∷ [])) (header f)
  -- function_identifier
  --     type_specifier
  identifier-type : {ts : List Token} {t : TypeSpecifier} → Derives type_specifier ts (type t) → Derives function_identifier ts (callee (OfType t))
  --     postfix_expression
  identifier-postfix : {ts : List Token} {a : Expr} → Derives postfix_expression ts (expr a) → Derives function_identifier ts (callee (OfExpr a))
  -- unary_expression
  --     postfix_expression
  unary-postfix : {ts : List Token} {a : Expr} → Derives postfix_expression ts (expr a) → Derives unary_expression ts (expr a)
  --     INC_OP unary_expression
  unary-inc : {ts : List Token} {a : Expr} → Derives unary_expression ts (expr a) → Derives unary_expression (symbol inc_op ∷ ts) (expr (Unary UnaryOp.Inc a))
  --     DEC_OP unary_expression
  unary-dec : {ts : List Token} {a : Expr} → Derives unary_expression ts (expr a) → Derives unary_expression (symbol dec_op ∷ ts) (expr (Unary UnaryOp.Dec a))
  --     unary_operator unary_expression
  unary-operator : {ts us : List Token} {o : UnaryOp} {a : Expr} → Derives unary_operator ts (prefix o) → Derives unary_expression us (expr a) → Derives unary_expression (ts ++ us) (expr (Unary o a))
  -- unary_operator
  --     PLUS
  unary_operator-plus : Derives unary_operator (symbol plus ∷ []) (prefix UnaryOp.Add)
  --     DASH
  unary_operator-dash : Derives unary_operator (symbol dash ∷ []) (prefix UnaryOp.Minus)
  --     BANG
  unary_operator-bang : Derives unary_operator (symbol bang ∷ []) (prefix UnaryOp.Not)
  --     TILDE
  unary_operator-tilde : Derives unary_operator (symbol tilde ∷ []) (prefix UnaryOp.Complement)
  -- multiplicative_expression
  --     unary_expression
  multiplicative-unary : {ts : List Token} {a : Expr} → Derives unary_expression ts (expr a) → Derives multiplicative_expression ts (expr a)
  --     multiplicative_expression STAR unary_expression
  multiplicative-star : {ts us : List Token} {a b : Expr} → Derives multiplicative_expression ts (expr a) → Derives unary_expression us (expr b) → Derives multiplicative_expression (ts ++ (symbol star ∷ us)) (expr (Binary BinaryOp.Mult a b))
  --     multiplicative_expression SLASH unary_expression
  multiplicative-slash : {ts us : List Token} {a b : Expr} → Derives multiplicative_expression ts (expr a) → Derives unary_expression us (expr b) → Derives multiplicative_expression (ts ++ (symbol slash ∷ us)) (expr (Binary BinaryOp.Div a b))
  --     multiplicative_expression PERCENT unary_expression
  multiplicative-percent : {ts us : List Token} {a b : Expr} → Derives multiplicative_expression ts (expr a) → Derives unary_expression us (expr b) → Derives multiplicative_expression (ts ++ (symbol percent ∷ us)) (expr (Binary BinaryOp.Mod a b))
  -- additive_expression
  --     multiplicative_expression
  additive-multiplicative : {ts : List Token} {a : Expr} → Derives multiplicative_expression ts (expr a) → Derives additive_expression ts (expr a)
  --     additive_expression PLUS multiplicative_expression
  additive-plus : {ts us : List Token} {a b : Expr} → Derives additive_expression ts (expr a) → Derives multiplicative_expression us (expr b) → Derives additive_expression (ts ++ (symbol plus ∷ us)) (expr (Binary BinaryOp.Add a b))
  --     additive_expression DASH multiplicative_expression
  additive-dash : {ts us : List Token} {a b : Expr} → Derives additive_expression ts (expr a) → Derives multiplicative_expression us (expr b) → Derives additive_expression (ts ++ (symbol dash ∷ us)) (expr (Binary BinaryOp.Sub a b))
  -- shift_expression
  --     additive_expression
  shift-additive : {ts : List Token} {a : Expr} → Derives additive_expression ts (expr a) → Derives shift_expression ts (expr a)
  --     shift_expression LEFT_OP additive_expression
  shift-left_op : {ts us : List Token} {a b : Expr} → Derives shift_expression ts (expr a) → Derives additive_expression us (expr b) → Derives shift_expression (ts ++ (symbol left_op ∷ us)) (expr (Binary BinaryOp.LShift a b))
  --     shift_expression RIGHT_OP additive_expression
  shift-right_op : {ts us : List Token} {a b : Expr} → Derives shift_expression ts (expr a) → Derives additive_expression us (expr b) → Derives shift_expression (ts ++ (symbol right_op ∷ us)) (expr (Binary BinaryOp.RShift a b))
  -- relational_expression
  --     shift_expression
  relational-shift : {ts : List Token} {a : Expr} → Derives shift_expression ts (expr a) → Derives relational_expression ts (expr a)
  --     relational_expression LEFT_ANGLE shift_expression
  relational-left_angle : {ts us : List Token} {a b : Expr} → Derives relational_expression ts (expr a) → Derives shift_expression us (expr b) → Derives relational_expression (ts ++ (symbol left_angle ∷ us)) (expr (Binary BinaryOp.Lt a b))
  --     relational_expression RIGHT_ANGLE shift_expression
  relational-right_angle : {ts us : List Token} {a b : Expr} → Derives relational_expression ts (expr a) → Derives shift_expression us (expr b) → Derives relational_expression (ts ++ (symbol right_angle ∷ us)) (expr (Binary BinaryOp.Gt a b))
  --     relational_expression LE_OP shift_expression
  relational-le_op : {ts us : List Token} {a b : Expr} → Derives relational_expression ts (expr a) → Derives shift_expression us (expr b) → Derives relational_expression (ts ++ (symbol le_op ∷ us)) (expr (Binary BinaryOp.Lte a b))
  --     relational_expression GE_OP shift_expression
  relational-ge_op : {ts us : List Token} {a b : Expr} → Derives relational_expression ts (expr a) → Derives shift_expression us (expr b) → Derives relational_expression (ts ++ (symbol ge_op ∷ us)) (expr (Binary BinaryOp.Gte a b))
  -- equality_expression
  --     relational_expression
  equality-relational : {ts : List Token} {a : Expr} → Derives relational_expression ts (expr a) → Derives equality_expression ts (expr a)
  --     equality_expression EQ_OP relational_expression
  equality-eq_op : {ts us : List Token} {a b : Expr} → Derives equality_expression ts (expr a) → Derives relational_expression us (expr b) → Derives equality_expression (ts ++ (symbol eq_op ∷ us)) (expr (Binary BinaryOp.Equal a b))
  --     equality_expression NE_OP relational_expression
  equality-ne_op : {ts us : List Token} {a b : Expr} → Derives equality_expression ts (expr a) → Derives relational_expression us (expr b) → Derives equality_expression (ts ++ (symbol ne_op ∷ us)) (expr (Binary BinaryOp.NonEqual a b))
  -- and_expression
  --     equality_expression
  and-equality : {ts : List Token} {a : Expr} → Derives equality_expression ts (expr a) → Derives and_expression ts (expr a)
  --     and_expression AMPERSAND equality_expression
  and-ampersand : {ts us : List Token} {a b : Expr} → Derives and_expression ts (expr a) → Derives equality_expression us (expr b) → Derives and_expression (ts ++ (symbol ampersand ∷ us)) (expr (Binary BinaryOp.BitAnd a b))
  -- exclusive_or_expression
  --     and_expression
  exclusive_or-and : {ts : List Token} {a : Expr} → Derives and_expression ts (expr a) → Derives exclusive_or_expression ts (expr a)
  --     exclusive_or_expression CARET and_expression
  exclusive_or-caret : {ts us : List Token} {a b : Expr} → Derives exclusive_or_expression ts (expr a) → Derives and_expression us (expr b) → Derives exclusive_or_expression (ts ++ (symbol caret ∷ us)) (expr (Binary BinaryOp.BitXor a b))
  -- inclusive_or_expression
  --     exclusive_or_expression
  inclusive_or-exclusive_or : {ts : List Token} {a : Expr} → Derives exclusive_or_expression ts (expr a) → Derives inclusive_or_expression ts (expr a)
  --     inclusive_or_expression VERTICAL_BAR exclusive_or_expression
  inclusive_or-vertical_bar : {ts us : List Token} {a b : Expr} → Derives inclusive_or_expression ts (expr a) → Derives exclusive_or_expression us (expr b) → Derives inclusive_or_expression (ts ++ (symbol vertical_bar ∷ us)) (expr (Binary BinaryOp.BitOr a b))
  -- logical_and_expression
  --     inclusive_or_expression
  logical_and-inclusive_or : {ts : List Token} {a : Expr} → Derives inclusive_or_expression ts (expr a) → Derives logical_and_expression ts (expr a)
  --     logical_and_expression AND_OP inclusive_or_expression
  logical_and-and_op : {ts us : List Token} {a b : Expr} → Derives logical_and_expression ts (expr a) → Derives inclusive_or_expression us (expr b) → Derives logical_and_expression (ts ++ (symbol and_op ∷ us)) (expr (Binary BinaryOp.And a b))
  -- logical_xor_expression
  --     logical_and_expression
  logical_xor-logical_and : {ts : List Token} {a : Expr} → Derives logical_and_expression ts (expr a) → Derives logical_xor_expression ts (expr a)
  --     logical_xor_expression XOR_OP logical_and_expression
  logical_xor-xor_op : {ts us : List Token} {a b : Expr} → Derives logical_xor_expression ts (expr a) → Derives logical_and_expression us (expr b) → Derives logical_xor_expression (ts ++ (symbol xor_op ∷ us)) (expr (Binary BinaryOp.Xor a b))
  -- logical_or_expression
  --     logical_xor_expression
  logical_or-logical_xor : {ts : List Token} {a : Expr} → Derives logical_xor_expression ts (expr a) → Derives logical_or_expression ts (expr a)
  --     logical_or_expression OR_OP logical_xor_expression
  logical_or-or_op : {ts us : List Token} {a b : Expr} → Derives logical_or_expression ts (expr a) → Derives logical_xor_expression us (expr b) → Derives logical_or_expression (ts ++ (symbol or_op ∷ us)) (expr (Binary BinaryOp.Or a b))
  -- conditional_expression
  --     logical_or_expression
  conditional-logical_or : {ts : List Token} {a : Expr} → Derives logical_or_expression ts (expr a) → Derives conditional_expression ts (expr a)
  --     logical_or_expression QUESTION expression COLON assignment_expression
  conditional-question : {ts us vs : List Token} {c a b : Expr} → Derives logical_or_expression ts (expr c) → Derives expression us (expr a) → Derives assignment_expression vs (expr b) → Derives conditional_expression (ts ++ (symbol question ∷ (us ++ (symbol colon ∷ vs)))) (expr (Ternary c a b))
  -- assignment_expression
  --     conditional_expression
  assignment-conditional : {ts : List Token} {a : Expr} → Derives conditional_expression ts (expr a) → Derives assignment_expression ts (expr a)
  --     unary_expression assignment_operator assignment_expression
  assignment-operator : {ts os us : List Token} {o : AssignmentOp} {a b : Expr} → Derives unary_expression ts (expr a) → Derives assignment_operator os (assign o) → Derives assignment_expression us (expr b) → Derives assignment_expression (ts ++ (os ++ us)) (expr (Assignment o a b))
  -- assignment_operator
  --     EQUAL
  assignment_operator-equal : Derives assignment_operator (symbol equal ∷ []) (assign AssignmentOp.Equal)
  --     MUL_ASSIGN
  assignment_operator-mul_assign : Derives assignment_operator (symbol mul_assign ∷ []) (assign AssignmentOp.Mult)
  --     DIV_ASSIGN
  assignment_operator-div_assign : Derives assignment_operator (symbol div_assign ∷ []) (assign AssignmentOp.Div)
  --     MOD_ASSIGN
  assignment_operator-mod_assign : Derives assignment_operator (symbol mod_assign ∷ []) (assign AssignmentOp.Mod)
  --     ADD_ASSIGN
  assignment_operator-add_assign : Derives assignment_operator (symbol add_assign ∷ []) (assign AssignmentOp.Add)
  --     SUB_ASSIGN
  assignment_operator-sub_assign : Derives assignment_operator (symbol sub_assign ∷ []) (assign AssignmentOp.Sub)
  --     LEFT_ASSIGN
  assignment_operator-left_assign : Derives assignment_operator (symbol left_assign ∷ []) (assign AssignmentOp.LShift)
  --     RIGHT_ASSIGN
  assignment_operator-right_assign : Derives assignment_operator (symbol right_assign ∷ []) (assign AssignmentOp.RShift)
  --     AND_ASSIGN
  assignment_operator-and_assign : Derives assignment_operator (symbol and_assign ∷ []) (assign AssignmentOp.And)
  --     XOR_ASSIGN
  assignment_operator-xor_assign : Derives assignment_operator (symbol xor_assign ∷ []) (assign AssignmentOp.Xor)
  --     OR_ASSIGN
  assignment_operator-or_assign : Derives assignment_operator (symbol or_assign ∷ []) (assign AssignmentOp.Or)
  -- expression
  --     assignment_expression
  expression-assignment : {ts : List Token} {a : Expr} → Derives assignment_expression ts (expr a) → Derives expression ts (expr a)
  --     expression COMMA assignment_expression
  expression-comma : {ts us : List Token} {a b : Expr} → Derives expression ts (expr a) → Derives assignment_expression us (expr b) → Derives expression (ts ++ (symbol comma ∷ us)) (expr (Comma a b))
  -- type_specifier
  --     type_specifier_nonarray
  specifier-nonarray : {ts : List Token} {b : TypeSpecifierNonArray} → Derives type_specifier_nonarray ts (base b) → Derives type_specifier ts (type (TypeSpecifier.type b no_dimensions))
  --     type_specifier_nonarray array_specifier
  specifier-array : {ts us : List Token} {b : TypeSpecifierNonArray} {ds : ArraySpecifier} → Derives type_specifier_nonarray ts (base b) → Derives array_specifier us (array ds) → Derives type_specifier (ts ++ us) (type (TypeSpecifier.type b ds))
  -- array_specifier
  --     LEFT_BRACKET RIGHT_BRACKET
  array-open : Derives array_specifier (symbol left_bracket ∷ symbol right_bracket ∷ []) (array (last_dimension no_dimensions Unsized))
  --     LEFT_BRACKET conditional_expression RIGHT_BRACKET
  array-sized : {ts : List Token} {a : Expr} → Derives conditional_expression ts (expr a) → Derives array_specifier (symbol left_bracket ∷ (ts ++ (symbol right_bracket ∷ []))) (array (last_dimension no_dimensions (ExplicitlySized a)))
  --     array_specifier LEFT_BRACKET RIGHT_BRACKET
  array-and_open : {ts : List Token} {ds : ArraySpecifier} → Derives array_specifier ts (array ds) → Derives array_specifier (ts ++ (symbol left_bracket ∷ symbol right_bracket ∷ [])) (array (last_dimension ds Unsized))
  --     array_specifier LEFT_BRACKET conditional_expression RIGHT_BRACKET
  array-and_sized : {ts us : List Token} {ds : ArraySpecifier} {a : Expr} → Derives array_specifier ts (array ds) → Derives conditional_expression us (expr a) → Derives array_specifier (ts ++ (symbol left_bracket ∷ (us ++ (symbol right_bracket ∷ [])))) (array (last_dimension ds (ExplicitlySized a)))
  -- type_specifier_nonarray
  --     VOID, FLOAT, .. (one of the type keywords: 01, and 02, #102)
  nonarray-keyword : (v : ℕ) → Derives type_specifier_nonarray (Token.type v ∷ []) (base (Keyword v))
  --     TYPE_NAME
  nonarray-name : (n : Identifier) → Derives type_specifier_nonarray (name n ∷ []) (base (TypeName n))
