use Rattle.std.proofs.Common.{◌≡◌, ◌∙◌, ◌<◌, List, length, sym, ap, refl, subst, arith}
use Rattle.pg_fold.proofs.Common.{length-map, take_all, slice_get_read, get, All, equal_positions}
use Rattle.pg_fold.proofs.Common.{Position, GridMap}
use Rattle.pg_fold.specs.Places.{IsEarliest}
use Rattle.pg_fold.specs.Tables.{IsTable, maps_of}
use Rattle.pg_fold.specs.declared.tables.MapTable.{MapTable}
use Rattle.pg_fold.proofs.Listing.{all_at}
use Rattle.pg_fold.proofs.MapTables.{image_before-is, map-at, small-members}
use Rattle.pg_fold.proofs.Originals.{back_by, earliest-none, earliest-step}
use Rattle.pg_fold.proofs.original.original_of.Goals as goal

pub loop-table-init : goal.loop-table-init
loop-table-init c = λ grid tables. earliest-none (get equal_positions c.args.known.now.places)
    (back_by grid c.args.position.now)

pub source_of-requires-clause-table : goal.source_of-requires-clause-table
source_of-requires-clause-table c =
    let tables = c.args.tables.now in
    let t : MapTable = c.table-item.result in
    let at = slice_get_read tables
    (length tables) c.loop-table.table-index t refl c.loop-table-test.true c.table-item.is in
    all_at (λ (s : MapTable). All (λ u. u < 1024) s.sources.items) tables c.loop-table.table-index t
    at c.requires.ordered.small

pub source_of-requires-clause-x : goal.source_of-requires-clause-x
source_of-requires-clause-x c =
    subst (All (λ v. v < 1024)) (sym c.in_ok-marks.ensures.x) (small-members c.args.position.now.x)

pub source_of-requires-clause-y : goal.source_of-requires-clause-y
source_of-requires-clause-y c =
    subst (All (λ v. v < 1024)) (sym c.in_ok-marks.ensures.y) (small-members c.args.position.now.y)

pub loop-table-preserved : goal.loop-table-preserved
loop-table-preserved c = λ grid are.
    let tables = c.args.tables.now in
    let i = c.loop-table.table-index in
    let t : MapTable = c.table-item.result in
    let p = c.args.position.now in
    let at =
    slice_get_read tables (length tables) i t refl c.loop-table-test.true c.table-item.is in
    let is = all_at (IsTable grid) tables i t at are in
    let before : c.source_of.result ≡ back_by grid p t.map = c.source_of.ensures
    ∙ image_before-is grid t is c.in_ok-marks.marks p c.in_ok-marks.ensures.x
    c.in_ok-marks.ensures.y in
    earliest-step (get equal_positions c.args.known.now.places) (back_by grid p)
    (maps_of tables) i t.map c.loop-table.first c.earlier-first.result c.find-node.result
    (map-at tables i t at) c.requires.ordered.ascending (c.loop-table.invariant grid are)
    (c.find-node.ensures
    ∙ ap (λ (q : Position). get equal_positions c.args.known.now.places q) before)
    c.earlier-first.ensures

pub returns : goal.returns
returns c = λ grid are.
    let tables = c.args.tables.now in
    let size = length-map tables (λ (t : MapTable). t.map) in
    subst
    (λ (maps : List GridMap). IsEarliest (get equal_positions c.args.known.now.places)
    (back_by grid c.args.position.now) maps c.loop-table.first)
    (take_all c.loop-table.table-index (maps_of tables)
    (omega (arith, size, c.loop-table-test.false))) (c.loop-table.invariant grid are)
