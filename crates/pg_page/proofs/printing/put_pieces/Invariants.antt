use Rattle.std.proofs.Common.{◌≡◌, ◌++◌, string_bytes, take}
use Rattle.std.specs.List.{flat_map}
use Rattle.pg_page.specs.Html.{piece_text}
use Rattle.pg_page.proofs.printing.put_pieces.Given as goal

abbrev pub invariant-loop-piece : goal.invariant-loop-piece
invariant-loop-piece l =
    string_bytes l.out ≡ string_bytes l.fn.out ++ flat_map piece_text (take l.piece-index l.pieces)
