use Rattle.std.proofs.Common.{◌≡◌, ◌<◌, ◌↔◌, ◌∙◌, List, Some, sym, subst, arith}
use Rattle.pg_fold.proofs.Common.{IfOk-weaker, AllPairs, Contains, cells, number_of, Fits, board_of}
use Rattle.pg_fold.proofs.Common.{GridMap}
use Rattle.pg_game.proofs.Limits.{point_count-le}
use Rattle.pg_fold.proofs.MapTables.{fits-all, tables-fit, tables-ordered}
use Rattle.pg_fold.proofs.tables.fitting_tables.Goals as goal

pub tables_of-requires-clause-maps : goal.tables_of-requires-clause-maps
tables_of-requires-clause-maps c =
    let has : board_of c.args.g.now.field ≡ Some c.in-Some.grid =
    sym c.grid_of.ensures ∙ c.in-Some.is in
    fits-all c.args.g.now c.in-Some.grid c.as_slice.result.now has
    (subst (λ (ms : List GridMap). (m : GridMap) → Contains ms m ↔ Fits c.args.g.now m)
    (sym c.as_slice.ensures.value) c.in_ok-maps.ensures.fit)

pub tables_of-requires-clause-few : goal.tables_of-requires-clause-few
tables_of-requires-clause-few c =
    let has : board_of c.args.g.now.field ≡ Some c.in-Some.grid =
    sym c.grid_of.ensures ∙ c.in-Some.is in
    omega (arith, cells c.args.g.now c.in-Some.grid has, point_count-le c.args.g.now)

pub returns-clause-tables : goal.returns-clause-tables
returns-clause-tables c =
    let has : board_of c.args.g.now.field ≡ Some c.in-Some.grid =
    sym c.grid_of.ensures ∙ c.in-Some.is in
    let fit = subst (λ (ms : List GridMap). (m : GridMap) → Contains ms m ↔ Fits c.args.g.now m)
    (sym c.as_slice.ensures.value) c.in_ok-maps.ensures.fit in
    IfOk-weaker c.tables_of.result _ _
    (λ tables are. tables-fit c.args.g.now c.in-Some.grid c.as_slice.result.now tables.items has fit
    are) c.tables_of.ensures

pub returns-clause-ordered : goal.returns-clause-ordered
returns-clause-ordered c =
    let up = subst (λ (ms : List GridMap). AllPairs (λ a b. number_of a < number_of b) ms)
    (sym c.as_slice.ensures.value) c.in_ok-maps.ensures.ascending in
    IfOk-weaker c.tables_of.result _ _
    (λ tables are. tables-ordered c.in-Some.grid c.as_slice.result.now tables.items up are)
    c.tables_of.ensures
