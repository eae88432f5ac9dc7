-- No text of accepted records meets a cap of the pen: neither its place nor its level stops on the way. Assumes nothing.
use mathlib.Core.Path.{◌≡◌}
use mathlib.Core.Bool.{Bool, true}
use mathlib.Core.List.{List}
use Prim.Native.Nat.{ℕ, ◌*◌, ◌<◌, ◌≤◌}
use native.Mathlib.Omega.{arith}
use lib.ListN.{get_or}
use Rattle.settings.specs.declared.Settings.{Settings}
use Rattle.settings.specs.Settings.{widest_indent}
use Rattle.settings.specs.State.{fresh}
use Rattle.shapes.specs.Class.{Class}
use Rattle.std.specs.Prelude.{Ok}
use Rattle.accept.specs.Check.{most_records, check}
use Rattle.accepted.proofs.Sizes.{few_records}
use Rattle.text.specs.Command.{Command}
use Rattle.text.specs.Text.{show_expr, show_translation_unit}
use Rattle.text.specs.Reading.{expr, unit, from}
use Rattle.formed.proofs.Formed.{expr_formed, expr_size, unit_formed, unit_size}
use Rattle.pen.specs.declared.Pen.{Pen}
use Rattle.pen.specs.Free.{climbs, Free}
use Rattle.bounded.proofs.Weight.{record_weight, deepest_level, weighs, climbs_weight}
use Rattle.bounded.proofs.TextWeight.{text_weight}
use Rattle.bounded.proofs.Items.{item_fits}

-- commands that weigh no more than so many records may
free : (s : Settings) → s.count ≤ widest_indent → (cs : List Command) (n : ℕ) → weighs cs ≤ record_weight * n → n ≤ most_records
    → (p : Pen) → p.at ≡ 0 → p.state ≡ fresh → Free s cs p
free s narrow cs n w h p at state =
    let low : climbs cs ≤ deepest_level = omega (arith, climbs_weight cs) in
    record {
      place = rw (at, state) (omega (arith, text_weight s narrow cs fresh (omega arith)));
      levels = rw state (omega arith);
    }

module _ (rs ns : List ℕ) (byte : (p : ℕ) → get_or rs p 0 < 256) (m : ℕ) (s : Settings) (narrow : s.count ≤ widest_indent) where
  pub expr_free : check rs ns Class.expr ≡ Ok m → (p : Pen) → p.at ≡ 0 → p.state ≡ fresh → Free s (show_expr (expr (from rs ns 0)).tree) p
  expr_free e =
      let w = (item_fits true ns rs 0).expr.weight (expr_formed rs ns byte m e) in
      free s narrow _ (expr (from rs ns 0)).size (omega (arith, w)) (omega (arith, expr_size rs ns byte m e, few_records rs ns Class.expr m e))

  pub unit_free : check rs ns Class.unit ≡ Ok m → (collapse : Bool) (p : Pen) → p.at ≡ 0 → p.state ≡ fresh
      → Free s (show_translation_unit collapse (unit (from rs ns 0)).tree) p
  unit_free e collapse =
      let w = (item_fits collapse ns rs 0).unit.weight (unit_formed rs ns byte m e) in
      free s narrow _ (unit (from rs ns 0)).size (omega (arith, w)) (omega (arith, unit_size rs ns byte m e, few_records rs ns Class.unit m e))
