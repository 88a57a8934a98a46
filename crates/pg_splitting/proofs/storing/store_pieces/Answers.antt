use Rattle.std.proofs.Common.{◌∙◌}
use Rattle.std.proofs.lemmas.Result.{err_from_is_err_and}
use Rattle.pg_splitting.proofs.Filed.{file_on, rules_then, stored_more, stored_until}
use Rattle.pg_splitting.proofs.Kept.{in_then}
use Rattle.pg_splitting.specs.SplitFiles.{piece_file}
use Rattle.pg_splitting.proofs.storing.store_pieces.Goals as goal

pub returns-in_err-store_piece-clause-stored : goal.returns-in_err-store_piece-clause-stored
returns-in_err-store_piece-clause-stored g c =
    let p = err_from_is_err_and c.from_residual.result c.from_residual.ensures.1 in
    let told = g.F.Files.told in
    let piece = c.piece-item.result in
    let here = c.loop-piece.game in
    rw (p.1, p.2)
    (stored_until (piece_file c.args.folder.now c.args.game.now) c.args.pieces.now
    c.loop-piece.piece-index piece (piece_file c.args.folder.now here piece)
    c.loop-piece-test.true c.piece-item.is
    (file_on c.args.folder.now c.args.game.now here piece c.loop-piece.invariant.rules)
    (told c.args.files.now).held (told c.loop-piece.files).held
    (told c.store_piece.new.files).held c.loop-piece.invariant.stored
    c.in_err-store_piece.field-0.0 c.in_err-store_piece.ensures.stored)

pub loop-piece-preserved : goal.loop-piece-preserved
loop-piece-preserved g c =
    let told = g.F.Files.told in
    let piece = c.piece-item.result in
    let here = c.loop-piece.game in
    let before = c.loop-piece.invariant in
    let next = c.in_ok-store_piece.ensures in
    record {
      rules = rules_then c.args.game.now here c.store_piece.new.game before.rules next.rules;
      stored = stored_more (piece_file c.args.folder.now c.args.game.now) c.args.pieces.now
          c.loop-piece.piece-index piece (piece_file c.args.folder.now here piece)
          c.loop-piece-test.true c.piece-item.is
          (file_on c.args.folder.now c.args.game.now here piece before.rules)
          (told c.args.files.now).held (told c.loop-piece.files).held
          (told c.store_piece.new.files).held before.stored next.stored;
      files = in_then c.args.folder.now (told c.args.files.now) (told c.loop-piece.files)
          (told c.store_piece.new.files) before.files next.files;
      calm = next.causes ∙ before.calm;
    }
