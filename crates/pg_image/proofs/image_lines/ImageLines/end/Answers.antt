use Rattle.std.proofs.Common.{◌≡◌, ◌<◌, ℕ, [], length, arith, sym, subst, Result}
use Rattle.std.proofs.lemmas.List.{nil_from_length}
use Rattle.pg_image.proofs.Common.{Fault, IsReadAs, nat_tests}
use Rattle.pg_image.specs.declared.cert.ImageCert.{ImageCert}
use Rattle.pg_image.proofs.LinesRead.{end_pending, end_whole}
use Rattle.pg_image.proofs.image_lines.ImageLines.end.Goals as goal

pub returns-then-is_empty : goal.returns-then-is_empty
returns-then-is_empty c text small h =
    let l = c.args.self in
    let size : length l.pending.items ≡ 0 = grind (arith, nat_tests, l.pending.ok.0) in
    let none : l.pending.items ≡ [] = nil_from_length l.pending.items size in
    subst (λ (r : Result ImageCert (Fault × ℕ)). IsReadAs c.finish.result r)
    (sym (end_whole l text none h)) c.finish.ensures

pub returns : goal.returns
returns c text small h =
    let l = c.args.self in
    let some : 0 < length l.pending.items = grind (arith, nat_tests, l.pending.ok.0) in
    subst (λ (r : Result ImageCert (Fault × ℕ)). IsReadAs c.finish-2.result r)
    (sym (end_pending l c.read_pending.new.self text small some c.in_ok-read_pending.ensures.said
    h)) c.finish-2.ensures
