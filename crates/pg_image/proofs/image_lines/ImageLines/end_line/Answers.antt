use Rattle.std.proofs.Common.{◌≡◌, ◌∙◌, ◌++◌, ℕ, [], length, arith, ap, sym, subst}
use Rattle.std.specs.Global.{Vec}
use Rattle.std.proofs.lemmas.List.{nil_from_length}
use Rattle.std.proofs.lemmas.Result.{IfOk-weaker}
use Rattle.pg_image.proofs.Common.{Bytes, nat_tests}
use Rattle.pg_image.specs.Gathering.{HasReadLine}
use Rattle.pg_image.proofs.LinesRead.{ends}
use Rattle.pg_image.proofs.image_lines.ImageLines.end_line.Goals as goal

pub returns-then-is_empty : goal.returns-then-is_empty
returns-then-is_empty c =
    let old = c.args.self.now in
    let new = c.read_line.new.self in
    let last = c.args.last.now in
    let size : length old.pending.items ≡ 0 = grind (arith, nat_tests, old.pending.ok.0) in
    let none : old.pending.items ≡ [] = nil_from_length old.pending.items size in
    IfOk-weaker c.read_line.result _ _
    (λ u read text small h. ends old new text last c.requires small
    (ap (λ (v : Vec ℕ). v.items) c.read_line.ensures.pending ∙ none) c.read_line.ensures.count
    (subst (λ (p : Bytes). HasReadLine old (p ++ last) new) (sym none) read) h)
    c.read_line.ensures.said

pub returns : goal.returns
returns c =
    let old = c.args.self.now in
    let new = c.read_pending.new.self in
    let last = c.args.last.now in
    IfOk-weaker c.read_pending.result _ _
    (λ u read text small h. ends old new text last c.requires small c.read_pending.ensures.pending
    c.read_pending.ensures.count
    (subst (λ (line : Bytes). HasReadLine old line new) c.in_ok-extend_from_slice.ensures.items
    read) h) c.read_pending.ensures.said
