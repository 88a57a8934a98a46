use Rattle.std.proofs.Common.{[], ◌∷◌, ◌≡◌, ◌∙◌, ap, ap₂, subst}
use Rattle.pg_files.specs.Print.{printed}
use Rattle.pg_io.specs.Files.{Bytes, Making}
use Rattle.pg_splitting.proofs.Filed.{entry_here}
use Rattle.pg_splitting.proofs.Kept.{stores_one}
use Rattle.pg_splitting.specs.SplitFiles.{StoresAll, piece_file}
use Rattle.pg_splitting.proofs.storing.store_piece.Goals as goal

pub returns-clause-stored : goal.returns-clause-stored
returns-clause-stored g c =
    let before = (g.F.Files.told c.args.files.now).held in
    let after = (g.F.Files.told c.store.new.files).held in
    let file : Making = (c.as_str.result.now, c.deref.result.now) in
    let name = c.as_str.ensures.value ∙ c.in_ok-name.ensures in
    let text = c.deref.ensures.value ∙ c.in_ok-text.ensures
    ∙ ap printed (entry_here c.args.game.now c.stand_at.new.game c.args.piece.now.position
    c.stand_at.ensures) in
    let same : file ≡ piece_file c.args.folder.now c.args.game.now c.args.piece.now =
    ap₂ (λ (a b : Bytes). (a, b)) name text in
    subst (λ (f : Making). StoresAll (f ∷ []) before after c.store.result) same
    (stores_one before after file c.store.result c.store.ensures.stored)
