-- `names::reserved_sort` meets its contract: by the length and the bytes. Assumes nothing.
use mathlib.Core.Path.{sym, ◌∙◌}
use Rattle.words.proofs.Names.{name_long}
use Rattle.words.proofs.Sorts.{is_no_name, is_reserved, reserved_name}
use Rattle.names.proofs.reserved_sort.Goals as goal
use Rattle.names.proofs.reserved_sort.Goals.{else-s-le-LONGEST_NAME-via-then-s-le-LONGEST_NAME+else-name_bytes_one_by_one, else-s-le-LONGEST_NAME-via-else-s-le-LONGEST_NAME}

pub returns-then-name_bytes_one_by_one : goal.returns-then-name_bytes_one_by_one
returns-then-name_bytes_one_by_one c =
    sym
    (is_reserved _ (reserved_name _ c.requires c.if-s-le-LONGEST_NAME.true ∙ sym c.name_bytes_one_by_one.ensures ∙ c.if-name_bytes_one_by_one.true) c.requires)

pub returns-else-s-le-LONGEST_NAME : goal.returns-else-s-le-LONGEST_NAME
returns-else-s-le-LONGEST_NAME c =
    elim c.else-s-le-LONGEST_NAME.branch [
      | else-s-le-LONGEST_NAME-via-then-s-le-LONGEST_NAME+else-name_bytes_one_by_one w ↦
          sym
          (is_no_name _
          (reserved_name _ c.requires w.if-s-le-LONGEST_NAME.true ∙ sym w.name_bytes_one_by_one.ensures ∙ w.if-name_bytes_one_by_one.false))
      | else-s-le-LONGEST_NAME-via-else-s-le-LONGEST_NAME w ↦ sym (is_no_name _ (name_long _ w.if-s-le-LONGEST_NAME.false))
    ]
