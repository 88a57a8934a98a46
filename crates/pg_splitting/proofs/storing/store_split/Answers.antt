use Rattle.std.proofs.Common.{[], ◌∷◌, ◌≡◌, ◌∙◌, Err, List, Ok, ap₂, map, subst}
use Rattle.std.proofs.lemmas.Result.{err_from_is_err_and}
use Rattle.pg_io.specs.Files.{Bytes, Making}
use Rattle.pg_split.specs.declared.numbering.Piece.{Piece}
use Rattle.pg_splitting.proofs.Kept.{stores_one, stores_some, stores_then}
use Rattle.pg_splitting.specs.SplitFiles.{StoresAll, piece_file, plan_file}
use Rattle.pg_splitting.proofs.storing.store_split.Goals as goal

pub returns-in_err-store_pieces-clause-stored : goal.returns-in_err-store_pieces-clause-stored
returns-in_err-store_pieces-clause-stored g c =
    let p = err_from_is_err_and c.from_residual-in_err-store_pieces.result
    c.from_residual-in_err-store_pieces.ensures.1 in
    let told = g.F.Files.told in
    let file_of = piece_file c.args.folder.now c.args.game.now in
    let stop = c.in_err-store_pieces.field-0.0 in
    rw (p.1, p.2)
    (stores_some (map file_of c.args.split.now.pieces.items)
    (plan_file c.args.folder.now c.args.split.now ∷ []) (told c.args.files.now).held
    (told c.store_pieces.new.files).held stop
    (subst (λ (ps : List Piece). StoresAll (map file_of ps) (told c.args.files.now).held
    (told c.store_pieces.new.files).held (Err stop)) c.as_slice.ensures.value
    c.in_err-store_pieces.ensures.stored))

pub returns-clause-stored : goal.returns-clause-stored
returns-clause-stored g c =
    let told = g.F.Files.told in
    let file_of = piece_file c.args.folder.now c.args.game.now in
    let pieces = map file_of c.args.split.now.pieces.items in
    let before = (told c.args.files.now).held in
    let mid = (told c.store_pieces.new.files).held in
    let after = (told c.store.new.files).held in
    let file : Making = (c.as_str-place.result.now, c.as_slice-bytes.result.now) in
    let same : file ≡ plan_file c.args.folder.now c.args.split.now =
    ap₂ (λ (a b : Bytes). (a, b)) (c.as_str-place.ensures.value ∙ c.in_ok-name.ensures)
    (c.as_slice-bytes.ensures.value ∙ c.in_ok-text.ensures) in
    stores_then pieces (plan_file c.args.folder.now c.args.split.now ∷ []) before mid after
    c.store.result
    (subst (λ (ps : List Piece). StoresAll (map file_of ps) before mid (Ok tt))
    c.as_slice.ensures.value c.in_ok-store_pieces.ensures.stored)
    (subst (λ (f : Making). StoresAll (f ∷ []) mid after c.store.result) same
    (stores_one mid after file c.store.result c.store.ensures.stored))
