use Rattle.std.proofs.Common.{rules, ◌≡◌, false, sym, ap, arith, length, Some}
use Rattle.pg_files.specs.GameFile.{is_out_of_place}
use Rattle.pg_files.specs.Views.{view}
use Rattle.pg_files.specs.declared.key.Key.TheVariants as keys
use Rattle.pg_files.proofs.ShapeLine.{keyed_limit_of, totalled_with}
use Rattle.pg_files.proofs.draft.Draft.add_shape.Goals as goal

pub returns-then-exceeds_with : goal.returns-then-exceeds_with
returns-then-exceeds_with c =
    let low = c.in-len1.len_at_least in
    let high = c.in-len1.len_below in
    let one : length c.args.arguments.now ≡ 1 = omega arith in
    let place : is_out_of_place (view c.args.self.now) keys.Shape ≡ false =
    sym c.if-is_out_of_place.ensures in
    let counted : c.len.result ≡ length c.in_ok-lines.lines.items = search rules in
    let on : c.args.self.now.grid ≡ Some c.in-Some.grid = search rules in
    keyed_limit_of c.args.arguments.now _ (view c.args.self.now) c.in-Some.grid c.len.result
    (length c.as_slice-points.result.now) c.args.self.now.total c.in_ok-lines.lines.items
    c.in-Ok.shape one place
    (omega (arith, c.if-ones-longest.false, c.ones.ensures, c.longest.ensures)) c.in-Ok.ensures.told
    on c.as_slice-points.ensures.some c.in-Ok.ensures.cells c.in_ok-lines.ensures.listed counted
    (ap length c.as_slice-points.ensures.cells) c.args.self.now.totalled
    (sym c.if-exceeds_with.ensures.limit)

pub invariant_of-self-2 : goal.invariant_of-self-2
invariant_of-self-2 c =
    let counted : c.len-2.result ≡ length c.in_ok-lines.lines.items = search rules in
    record {
      totalled =
          totalled_with c.args.self.now.lines.items _ c.in_ok-lines.lines.items c.in-Some.grid
          c.in-Ok.shape c.len-2.result (length c.as_slice-points.result.now) c.args.self.now.total
          c.as_slice-points.ensures.some c.in_ok-lines.ensures.listed c.in_ok-append.ensures.items
          counted (ap length c.as_slice-points.ensures.cells) c.args.self.now.totalled;
      small = search rules;
      few_points = c.args.self.now.few_points;
      few_cells = c.args.self.now.few_cells;
      few_vertices = c.args.self.now.few_vertices;
      few_edges = c.args.self.now.few_edges;
    }
