use Rattle.std.proofs.Common.{◌≡◌, take}
use Rattle.std.specs.List.{flat_map}
use Rattle.pg_book.specs.Scenes.{kept}
use Rattle.pg_book.proofs.scenes.kept_items.Given as goal

abbrev pub invariant-loop-item : goal.invariant-loop-item
invariant-loop-item l = l.found.items ≡ flat_map kept (take l.item-index l.items)
