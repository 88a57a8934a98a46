-- Lines that were read with the line in hand cut short.
use Rattle.std.proofs.Common.{◌≡◌, ◌∙◌, ℕ, ◌<◌, [], ◌∷◌, ◌++◌, length, Option, Some}
use Rattle.std.proofs.Common.{None, refl, sym, ap, subst, append_assoc, arith}
use Rattle.std.specs.Prelude.{◌==◌, IfNone, false, is_some}
use Rattle.std.specs.Global.{Vec}
use Rattle.pg_image.proofs.Common.{All-from_recursion, AllByRecursion, Bytes, Fault, LINE_FEED}
use Rattle.pg_image.proofs.Common.{Lacks, length-append, lines, recursion_from_All}
use Rattle.pg_cert_files.specs.Shortening.{IsSpare}
use Rattle.pg_cert_files.specs.declared.progress.Due.TheVariants as due
use Rattle.pg_image.specs.Gathering.{HasRead, HasReadShort, said_by}
use Rattle.pg_image.specs.ImageFile.{said}
use Rattle.pg_image.specs.Shortened.{short_image_result}
use Rattle.pg_image.specs.Views.{view}
use Rattle.pg_image.specs.declared.image_lines.ImageLines.{ImageLines}
use Rattle.pg_image.proofs.Drafts.{rest_same, spare_same}

quiet_in : (a b c : Bytes)
    → AllByRecursion (λ x. (x == LINE_FEED) ≡ false) (a ++ (b ++ c))
    → AllByRecursion (λ x. (x == LINE_FEED) ≡ false) (a ++ c)
quiet_in [] [] c h = h
quiet_in [] (y ∷ ys) c h = quiet_in [] ys c h.1
quiet_in (x ∷ xs) b c h = (h.0, quiet_in xs b c h.1)

lacks_in : (a b c : Bytes) → Lacks LINE_FEED (a ++ (b ++ c)) → Lacks LINE_FEED (a ++ c)
lacks_in a b c h = All-from_recursion (λ x. (x == LINE_FEED) ≡ false) (a ++ c)
    (quiet_in a b c (recursion_from_All (λ x. (x == LINE_FEED) ≡ false) (a ++ (b ++ c)) h))

at_none : (o : Option (Fault × ℕ)) (P : Type 0) → o ≡ None → IfNone o P → P
at_none None P e h = h
at_none (Some fault) P e h = absurd cc

pub fault_none : (o : Option (Fault × ℕ)) → is_some o ≡ false → o ≡ None
fault_none None e = refl
fault_none (Some fault) e = absurd cc

if_none : (o : Option (Fault × ℕ)) (P : Type 0) → P → IfNone o P
if_none None P h = h
if_none (Some fault) P h = tt

pub shortened : (l : ImageLines) (v : Vec ℕ) (kept rest text : Bytes) (others : ℕ)
    → l.fault ≡ None
    → l.draft.progress.due ≡ due.Node others
    → IsSpare l.pending.items kept rest
    → v.items ≡ kept ++ rest
    → HasRead l text
    → HasReadShort (record l { pending = v }) text
shortened l v kept rest text others none is spare made h =
    let pending : l.pending.items ≡ h.rest = at_none l.fault _ none h.pending in
    let long : h.rest ≡ kept ++ (spare.dropped ++ rest) = sym pending ∙ spare.cut in
    let quiet : Lacks LINE_FEED h.rest = at_none l.fault _ none h.lacks in
    let quiet_short : Lacks LINE_FEED (kept ++ rest) =
    lacks_in kept spare.dropped rest (subst (Lacks LINE_FEED) long quiet) in
    let short = h.front ++ (kept ++ rest) in
    let some : 0 < length h.rest =
    omega (arith, spare.some, ap length long, length-append kept (spare.dropped ++ rest)) in
    let some_short : 0 < length (kept ++ rest) =
    omega (arith, spare.some, length-append kept rest) in
    record {
      short = short;
      read = record {
        front = h.front;
        rest = kept ++ rest;
        cut = refl;
        pending = if_none l.fault _ made;
        lacks = if_none l.fault _ quiet_short;
        few = h.few;
        reads = h.reads;
      };
      fewer = omega (
        arith,
        ap length h.cut,
        ap length long,
        length-append h.front h.rest,
        length-append h.front (kept ++ rest),
        length-append kept (spare.dropped ++ rest),
        length-append kept rest,
        length-append spare.dropped rest,
      );
      alike = λ more.
          let whole : said (lines (text ++ more))
          ≡ said_by l.fault l.number (view l.draft) (lines (h.rest ++ more)) =
          ap (λ (t : Bytes). said (lines t))
          (ap (λ (t : Bytes). t ++ more) h.cut ∙ append_assoc h.front h.rest more)
          ∙ h.reads (h.rest ++ more) in
          let cut : said (lines (short ++ more))
          ≡ said_by l.fault l.number (view l.draft) (lines ((kept ++ rest) ++ more)) =
          ap (λ (t : Bytes). said (lines t)) (append_assoc h.front (kept ++ rest) more)
          ∙ h.reads ((kept ++ rest) ++ more) in
          ap short_image_result (whole ∙ ap (λ (o : Option (Fault × ℕ)).
          said_by o l.number (view l.draft) (lines (h.rest ++ more))) none)
          ∙ rest_same l.number (view l.draft) h.rest (kept ++ rest) more some some_short quiet
          quiet_short (λ t. spare_same (view l.draft) others h.rest kept rest t is
          (subst (λ (line : Bytes). IsSpare line kept rest) pending spare))
          ∙ sym (ap short_image_result (cut ∙ ap (λ (o : Option (Fault × ℕ)).
          said_by o l.number (view l.draft) (lines ((kept ++ rest) ++ more))) none));
    }
