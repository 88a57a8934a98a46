use Rattle.std.proofs.Common.{◌≡◌, ◌∙◌, rules, ℕ, ◌-◌, ◌++◌, length, take, ap, ap₂}
use Rattle.std.specs.Prelude.{min}
use Rattle.std.specs.Vec.{vec_len}
use Rattle.pg_evidence.proofs.Common.{Bytes}
use Rattle.pg_evidence.specs.declared.first_line.TheConstants.{FIRST_LINE_BYTES}
use Rattle.pg_evidence.proofs.FirstLines.{first_more}
use Rattle.pg_evidence.proofs.first_line.add_first.Goals as goal

pub returns : goal.returns
returns c text is =
    let piece = c.args.piece.now in
    let len : vec_len c.args.first.now ≡ length c.args.first.now.items = search rules in
    let room : c.saturating_sub-room.result
    ≡ FIRST_LINE_BYTES - length (take FIRST_LINE_BYTES text) = c.saturating_sub-room.ensures
    ∙ ap (λ (k : ℕ). FIRST_LINE_BYTES - k) (c.len.ensures ∙ len ∙ ap length is) in
    let count : c.min.result
    ≡ min (FIRST_LINE_BYTES - length (take FIRST_LINE_BYTES text)) (length piece) =
    c.min.ensures ∙ ap (λ (k : ℕ). min k (length piece)) room in
    c.in_ok-extend_from_slice.ensures.items
    ∙ ap₂ (λ (front : Bytes) (n : ℕ). front ++ take n piece) is count
    ∙ first_more FIRST_LINE_BYTES text piece
