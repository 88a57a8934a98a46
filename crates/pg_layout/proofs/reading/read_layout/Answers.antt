use Rattle.std.proofs.Common.{◌≡◌, ◌∙◌, [], List, ap, arith, length, subst, sym}
use Rattle.pg_text.specs.Faults.{IsReadAs}
use Rattle.pg_layout.proofs.Common.{Bytes, lines, lines_few, reading}
use Rattle.pg_layout.specs.LayoutFile.{after, ended}
use Rattle.pg_layout.specs.Views.{number_of}
use Rattle.pg_layout.specs.declared.line.Placed.{Placed}
use Rattle.pg_layout.specs.declared.spot.Spot.{Spot}
use Rattle.pg_layout.proofs.Sound.{told_layout}
use Rattle.pg_layout.proofs.reading.read_layout.Goals as goal

pub read_placed-requires : goal.read_placed-requires
read_placed-requires c =
    let whole : c.of.result ≡ lines c.args.text.now = c.of.ensures in
    omega (
      arith,
      ap length whole,
      lines_few c.args.text.now,
      c.if-text-gt-MAX_LAYOUT_BYTES.false,
    )

pub returns-in-Ok-clause-layout : goal.returns-in-Ok-clause-layout
returns-in-Ok-clause-layout c =
    let points = c.args.points in
    told_layout points c.args.text.now c.in-Ok.placed.items c.spots_of.result
    (ap (λ (ls : List Bytes). reading (after points) 1 [] ls) (sym c.of.ensures)
    ∙ c.in-Ok.ensures)
    (subst (λ (qs : List Placed). IsReadAs number_of (λ (s : List Spot). s) c.spots_of.result
    (ended points qs)) c.deref.ensures.value c.spots_of.ensures)
