use Rattle.std.proofs.Common.{◌∙◌, ◌++◌, ap, sym, subst}
use Rattle.pg_cert_files.specs.Shortening.{IsSpare}
use Rattle.pg_image.proofs.Common.{Bytes}
use Rattle.pg_image.proofs.ShortReads.{fault_none, shortened}
use Rattle.pg_image.proofs.image_lines.ImageLines.shorten.Goals as goal

pub returns : goal.returns
returns c text h =
    let kept = c.in-Some.ends.kept.now in
    let rest = c.in-Some.ends.rest.now in
    shortened c.args.self.now c.extend_from_slice-2.new.self kept rest text c.in-Node.field-0
    (fault_none c.args.self.now.fault (sym c.if-is_some.ensures)) c.in-Node.is
    (subst (λ (line : Bytes). IsSpare line kept rest) c.deref.ensures.value c.in-Some.ensures)
    (c.in_ok-extend_from_slice-2.ensures.items
    ∙ ap (λ (t : Bytes). t ++ rest) (c.in_ok-extend_from_slice.ensures.items
    ∙ ap (λ (t : Bytes). t ++ kept) c.new-short.ensures.items)) h
