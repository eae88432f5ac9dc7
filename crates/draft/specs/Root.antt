-- What is put, a unit or an expression: how it is read and shown, and where every print of it starts. Assumes nothing.
use Rattle.std.specs.Prelude.{List, ℕ}
use Rattle.settings.specs.declared.Settings.{Settings}
use Rattle.settings.specs.State.{fresh}
use Rattle.text.specs.Tree.{Expr, TranslationUnit}
use Rattle.text.specs.Command.{Command}
use Rattle.text.specs.Text.{show_expr, show_translation_unit}
use Rattle.text.specs.Reading as Reading
use Rattle.text.specs.Reading.{Reader, from}
use Rattle.pen.specs.declared.Pen.{Pen}
use Rattle.text.specs.Pen.{text}
use Rattle.pen.specs.Free.{Free}
use Rattle.leaves.specs.declared.Source.{Source}
use Rattle.draft.specs.declared.Root.{Root}

abbrev pub RootTree : Root → Type 0
RootTree Root.Unit = TranslationUnit
RootTree Root.Expr = Expr

abbrev pub root_reader : (root : Root) → Reader (RootTree root)
root_reader Root.Unit = Reading.unit
root_reader Root.Expr = Reading.expr

abbrev pub root_show : (root : Root) → Settings → RootTree root → List Command
root_show Root.Unit s = show_translation_unit s.collapse_single_item_compound_statements
root_show Root.Expr s = show_expr

abbrev pub root_commands : Root → Settings → (records names : List ℕ) → List Command
root_commands root s records names = root_show root s (root_reader root (from records names 0)).tree

-- at the front, before the first record, in a fresh state
abbrev pub start : Pen
start = record { at = 0; next = 0; state = fresh }

-- of a source: its text, and that no cap of the pen is met on the way
abbrev pub commands_of : Root → Source → List Command
commands_of root src = root_commands root src.settings src.tree.records.now src.tree.names.now

abbrev pub text_of : Root → Source → List ℕ
text_of root src = text src.settings (commands_of root src) fresh

abbrev pub FreeOf : Root → Source → Type 0
FreeOf root src = Free src.settings (commands_of root src) start
