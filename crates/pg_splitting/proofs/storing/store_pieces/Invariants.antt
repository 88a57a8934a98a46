use Rattle.std.proofs.Common.{◌≡◌, Ok, map, take}
use Rattle.pg_splitting.specs.SplitFiles.{HasSameRules, StoresAll, StoresIn, piece_file}
use Rattle.pg_splitting.proofs.storing.store_pieces.Given as goal

abbrev pub invariant-loop-piece : goal.invariant-loop-piece
invariant-loop-piece g l = record {
  rules : HasSameRules l.initial.game l.game;
  stored : StoresAll (map (piece_file l.folder l.initial.game) (take l.piece-index l.pieces))
      (g.F.Files.told l.initial.files).held (g.F.Files.told l.files).held (Ok tt);
  files : StoresIn l.folder (g.F.Files.told l.initial.files) (g.F.Files.told l.files);
  calm : (g.F.Files.told l.files).faults ≡ (g.F.Files.told l.initial.files).faults;
}
