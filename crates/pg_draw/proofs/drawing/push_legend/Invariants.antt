use Rattle.std.proofs.Common.{◌≡◌, ◌+◌, ◌*◌, ◌++◌, drop}
use Rattle.pg_draw.specs.Pictures.{legend_shapes}
use Rattle.pg_draw.specs.declared.measures.TheConstants.{LEADING}
use Rattle.pg_draw.proofs.drawing.push_legend.Given as goal

abbrev pub invariant-loop-line : goal.invariant-loop-line
invariant-loop-line l =
    record {
      told : l.shapes.items ++ legend_shapes l.down (drop l.line-index l.legend)
          ≡ l.fn.shapes.items ++ legend_shapes l.bottom l.legend;
      low : l.down ≡ l.bottom + LEADING * l.line-index;
    }
