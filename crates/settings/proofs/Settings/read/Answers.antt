-- The tests of length and range are read_settings'; a record of 21 bytes is read with a 0 behind it. Assumes nothing.
use Rattle.std.proofs.Common.{◌≡◌, ◌≤◌, ℕ, Bool, true, List, length, ap, sym, ◌∙◌, ◌++◌, ◌-◌, drop, replicate, length-take-le}
use borrow.Author.Tests.{le-leb, lt-leb}
use Rattle.std.proofs.lemmas.List.{drop-replicate}
use Rattle.settings.specs.Settings.{limits, in_range, is_record, settings_of, read_settings}
use Rattle.settings.proofs.Range.{range_no_longer}
use Rattle.settings.proofs.Refusal.{reads}
use Rattle.settings.proofs.Shorter.{settings_of_more}
use Rattle.settings.proofs.Settings.read.Goals.{then-bytes-lt-FEWEST_BYTES-via-then-bytes-lt-FEWEST_BYTES, then-bytes-lt-FEWEST_BYTES-via-else-bytes-lt-FEWEST_BYTES+then-not-in_range}
use Rattle.settings.proofs.Settings.read.Goals as goal

pub returns-then-bytes-lt-FEWEST_BYTES : goal.returns-then-bytes-lt-FEWEST_BYTES
unfolding limits is_record read_settings
returns-then-bytes-lt-FEWEST_BYTES c =
    elim c.then-bytes-lt-FEWEST_BYTES.branch [
      | then-bytes-lt-FEWEST_BYTES-via-then-bytes-lt-FEWEST_BYTES w ↦ reads _ _ (simp (lt-leb _ _ w.if-bytes-lt-FEWEST_BYTES.true))
      | then-bytes-lt-FEWEST_BYTES-via-else-bytes-lt-FEWEST_BYTES+then-not-in_range w ↦ reads _ _ (simp (le-leb _ _ w.if-bytes-lt-FEWEST_BYTES.false, ← w.in_range.ensures, w.if-not-in_range.true))
    ]

-- no record has more bytes than limits
fits : (bs : List ℕ) {r : Bool} → r ≡ in_range bs limits → r ≡ true → length bs ≤ 22
unfolding limits
fits bs e f = range_no_longer bs limits (sym e ∙ f)

pub slice_bounds-whole-end : goal.slice_bounds-whole-end
unfolding limits
slice_bounds-whole-end c = fits c.args.bytes.now c.in_range.ensures c.if-not-in_range.false

pub slice_bounds-copy_from_slice-end : goal.slice_bounds-copy_from_slice-end
unfolding limits
slice_bounds-copy_from_slice-end c = sym (length-take-le _ (replicate 22 0) (fits c.args.bytes.now c.in_range.ensures c.if-not-in_range.false))

pub copy_from_slice-requires : goal.copy_from_slice-requires
unfolding limits
copy_from_slice-requires c = length-take-le _ (replicate 22 0) (fits c.args.bytes.now c.in_range.ensures c.if-not-in_range.false)

pub returns : goal.returns
unfolding limits is_record read_settings
returns c =
    let bs = c.args.bytes.now in
    let said : c.of.result ≡ settings_of bs =
    c.of.ensures
    ∙ ap (λ (xs : List ℕ). settings_of (xs ++ drop (length bs) (replicate 22 0))) c.copy_from_slice.ensures.after
    ∙ ap (λ (zs : List ℕ). settings_of (bs ++ zs)) (drop-replicate (length bs) 22 0)
    ∙ settings_of_more bs (22 - length bs) in
    reads _ _ (simp (le-leb _ _ c.if-bytes-lt-FEWEST_BYTES.false, ← c.in_range.ensures, c.if-not-in_range.false, said))
