-- The old dispute, closed (02, #107): settings are only layout (`OnlyLayout`), the joined question is exact (`JoinedIsExact`), and so what is not joined needs no space (`ReadIfUnjoined`). All of it is said of the
-- public calls: of what print_unit and print_expr hand back where they succeed (Call.antt), and of what joined answers. `Closed`, at the end, is what is proved; proofs/Slips has counterexamples to what is said
-- without the agreement on collapse or with other settings, another rule or other words. Units have no directives yet, which 02 leaves out. docs/LAYOUT.md tells it in plain words.
--
-- Where each word is defined: a blank, and a text without its blanks, in crate text (specs/Visible); the tokens of a tree there too (specs/Whole); the rule of joined tokens there (specs/Joins, Joined), and which
-- of them need a space in crate division (specs/Needed); longest match and GLSL's words in crate lexis (specs/Division, Glsl, Number); what joined promises (`Answers`) in crate glsl (specs/Joined). Assumes nothing.
use Rattle.std.specs.Prelude.{◌≡◌, Bool, true, false, List, [], ◌∷◌, ℕ, Ok}
use Rattle.settings.specs.declared.Settings.{Settings}
use Rattle.settings.specs.Settings.{settings_of, TIGHT}
use Rattle.draft.specs.declared.Root.{Root}
use Rattle.text.specs.Token.{Token}
use Rattle.text.specs.Visible.{blank, visible}
use Rattle.text.specs.Whole.{unit_tokens, expr_tokens}
use Rattle.text.specs.Joined.{joined_answer}
use Rattle.lexis.specs.Glsl.{glsl_word, Splits}
use Rattle.lexis.specs.Preprocessing.{Between}
use Rattle.division.specs.Needed.{needs_space}
use Rattle.glsl.specs.Joined.{Whether, Answers}
use Rattle.lexis.specs.Keywords.{listed}
use Rattle.sound.specs.Sound.{Sound}
use Rattle.reading.specs.Call.{Call, UnitCall, ExprCall}
use Rattle.reading.specs.Demand3.{recorded, ApartAndSound, ReadBack}

-- the one setting that decides which tokens there are: whether braces stand around a single statement
abbrev pub collapse : {root : Root} → Call root → Bool
collapse c = (settings_of c.settings).collapse_single_item_compound_statements

-- 1. SETTINGS ARE ONLY LAYOUT

-- two calls print the same records and names
abbrev pub SamePrinted : {root : Root} → (c d : Call root) → Type 0
SamePrinted c d = (c.records ≡ d.records) × (c.names ≡ d.names)

-- one text becomes the other by spaces, tabs and newlines that are taken out or put in
pub data DifferInBlanks : (xs ys : List ℕ) → Type 0 where
  at_end : DifferInBlanks [] []
  same_byte : {b : ℕ} {xs ys : List ℕ} → DifferInBlanks xs ys → DifferInBlanks (b ∷ xs) (b ∷ ys)
  taken_out : {b : ℕ} {xs ys : List ℕ} → blank b ≡ true → DifferInBlanks xs ys → DifferInBlanks (b ∷ xs) ys
  put_in : {b : ℕ} {xs ys : List ℕ} → blank b ≡ true → DifferInBlanks xs ys → DifferInBlanks xs (b ∷ ys)

-- 02 asks for it where byte 21 of both settings is 0. It holds whatever that byte is, since all that it writes is spaces.
pub record OnlyLayout : Type 0 where
  -- under any two settings that agree on collapse, the two texts of a unit are equal once spaces, tabs and newlines are removed
  pub units : (c d : UnitCall) → SamePrinted c d → collapse c ≡ collapse d → visible c.written ≡ visible d.written
  -- under any two settings, those of an expression are
  pub expressions : (c d : ExprCall) → SamePrinted c d → visible c.written ≡ visible d.written
  -- so nothing but these three bytes differs: texts are equal once they are removed exactly where one becomes the other by taking them out and putting them in
  pub nothing_else : (xs ys : List ℕ) → (visible xs ≡ visible ys → DifferInBlanks xs ys) × (DifferInBlanks xs ys → visible xs ≡ visible ys)

-- 2. JOINED IS EXACT

-- the tokens that a call printed, in the order of its text, brackets and separators included; a negative IntConst is two
abbrev pub tokens_in : (root : Root) → (collapse : Bool) (records names : List ℕ) → List Token
tokens_in Root.Unit collapse records names = unit_tokens collapse records names
tokens_in Root.Expr collapse records names = expr_tokens records names

-- longest-match splitting of what it wrote gives these tokens; any accepted name is a name, a word that GLSL lists too (`goto`)
abbrev pub IsSplit : (W : List ℕ → Bool) → {root : Root} → Call root → Type 0
IsSplit W {root = root} c = Splits W c.written (tokens_in root (collapse c) c.records c.names)

-- settings that put no space around operators and none where it is needed
abbrev pub Unspaced : Settings → Type 0
Unspaced s = (s.spaces_around_binary_ops ≡ false) × (s.spaces_where_needed ≡ false)

-- a question about records and names is exact if, of what is printed under such settings, it says no exactly where the text is split into its tokens
abbrev pub ExactlyNo : (W : List ℕ → Bool) (root : Root) → ((records names : List ℕ) → Bool) → Type 0
ExactlyNo W root asks = (c : Call root) → Unspaced (settings_of c.settings) → (IsSplit W c → asks c.records c.names ≡ false) × (asks c.records c.names ≡ false → IsSplit W c)

-- where a call's text needs a space, byte 21 puts it there
abbrev pub HasNeeded : {root : Root} → Call root → Type 0
HasNeeded c = needs_space (settings_of c.settings) c.records c.names ≡ true → (settings_of c.settings).spaces_where_needed ≡ true

-- 02 asks for it of expressions with no struct in a callee's type, in TIGHT. It holds of all expressions and of units, and for other settings there is an exact rule too (`needs_space`). W has the words.
pub record JoinedIsExact (W : List ℕ → Bool) : Type 0 where
  -- TIGHT is such settings
  pub tight : Unspaced (settings_of TIGHT)
  -- of an expression that is printed under them, the call `joined` answers no exactly where the text is split into its tokens
  pub expressions : (c : ExprCall) → Unspaced (settings_of c.settings) → (r : Whether) → Answers c.records c.names r → (IsSplit W c → r ≡ Ok false) × (r ≡ Ok false → IsSplit W c)
  -- so does the rule by which it answers; this can be asked of a unit's records too, and says whether some expression in it is joined
  pub rule : (root : Root) → ExactlyNo W root joined_answer
  -- under any settings a text is split into its tokens exactly where every space that is needed is there: none is, or byte 21 is 1
  pub everywhere : {root : Root} (c : Call root) → (IsSplit W c → HasNeeded c) × (HasNeeded c → IsSplit W c)
  -- so what is not joined is split, whatever the settings
  pub apart : {root : Root} (c : Call root) → joined_answer c.records c.names ≡ false → IsSplit W c
  -- splitting gives one list of tokens at most, whatever the text
  pub one_way : (bytes : List ℕ) (ts us : List Token) → Splits W bytes ts → Splits W bytes us → ts ≡ us

-- 3. SO WHAT IS NOT JOINED NEEDS NO SPACE

-- Demand 3 (Demand3.antt) covers calls whose settings keep tokens apart. It holds as well where `joined` answers no, under any settings, TIGHT among them; and any two calls that are covered in one way or the
-- other are told apart by their texts. Sound is meant as where needed spaces are kept: the conditions that fall away there follow from the answer.
pub data ApartOrUnjoined (c : ExprCall) : Type 0 where
  apart : ApartAndSound c → ApartOrUnjoined c
  unjoined : (r : Whether) → Answers c.records c.names r → r ≡ Ok false → Sound listed true (recorded c) → ApartOrUnjoined c

abbrev pub ReadIfUnjoined : (W : List ℕ → Bool) → Type 0
ReadIfUnjoined W = ReadBack W ApartOrUnjoined

-- WHAT IS PROVED (proofs/Spaces, `closed`)
pub record Closed : Type 0 where
  pub layout : OnlyLayout
  pub exact : JoinedIsExact glsl_word
  pub read : (W : List ℕ → Bool) → Between W → ReadIfUnjoined W
