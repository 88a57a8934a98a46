use Rattle.std.proofs.Common.{◌≡◌, ◌+◌, ◌-◌, ◌<◌, [], length, get_or, ap, ◌∙◌, sym, arith}
use Rattle.pg_undo.proofs.RowLemmas.{length-rows_of, rows_of-at, length-row_at}
use Rattle.pg_undo.proofs.rows.Rows.row_len.Goals as goal

pub len_of-requires : goal.len_of-requires
len_of-requires c =
    let starts = c.self.inside.starts.items in
    let same : length c.args.self.now ≡ length starts - 1 =
    ap length (sym c.self.view_is) ∙ length-rows_of starts c.self.inside.items.items in
    let within : c.args.i + 1 < length starts = omega (arith, c.requires) in
    rw c.as_slice.ensures.value
    (record { within = within; ascending = c.self.invariant.ascending c.args.i within })

pub returns : goal.returns
returns c =
    let starts = c.self.inside.starts.items in
    let items = c.self.inside.items.items in
    let same : length c.args.self.now ≡ length starts - 1 =
    ap length (sym c.self.view_is) ∙ length-rows_of starts items in
    let low : c.args.i < length starts - 1 = omega (arith, c.requires) in
    c.len_of.ensures
    ∙ (ap (λ xs. get_or xs (c.args.i + 1) 0 - get_or xs c.args.i 0) c.as_slice.ensures.value
    ∙ (sym (length-row_at starts items c.args.i c.self.invariant (omega (arith, low)))
    ∙ ap length (sym (rows_of-at starts items c.args.i low)
    ∙ ap (λ rows. get_or rows c.args.i []) c.self.view_is)))
