-- Different entries of a log have different bytes.
use Rattle.std.proofs.Common.{◌≡◌, ℕ, ap, arith, refl}
use Rattle.std.specs.Prelude.{List, drop, get_or}
use Rattle.pg_io.specs.declared.entry.Entry.{Entry}
use Rattle.pg_io.specs.declared.entry.Entry.TheVariants.{Said, Heard, Skipped, Ended}
use Rattle.pg_request.specs.Answer.{entry_part}

-- the first bytes of equal texts, and those after them
first : (a b : List ℕ) → a ≡ b → get_or a 0 0 ≡ get_or b 0 0
first a b is = ap (λ (bytes : List ℕ). get_or bytes 0 0) is

rest : (a b : List ℕ) → a ≡ b → drop 1 a ≡ drop 1 b
rest a b is = ap (λ (bytes : List ℕ). drop 1 bytes) is

pub told_apart : (a b : Entry) → entry_part a ≡ entry_part b → a ≡ b
told_apart (Said t) (Said u) is = ap Said (rest (entry_part (Said t)) (entry_part (Said u)) is)
told_apart (Said t) (Heard u) is =
    let same : 60 ≡ 62 = first (entry_part (Said t)) (entry_part (Heard u)) is in
    absurd (omega (arith, same))
told_apart (Said t) (Skipped u) is =
    let same : 60 ≡ 33 = first (entry_part (Said t)) (entry_part (Skipped u)) is in
    absurd (omega (arith, same))
told_apart (Said t) Ended is =
    let same : 60 ≡ 46 = first (entry_part (Said t)) (entry_part Ended) is in
    absurd (omega (arith, same))
told_apart (Heard t) (Said u) is =
    let same : 62 ≡ 60 = first (entry_part (Heard t)) (entry_part (Said u)) is in
    absurd (omega (arith, same))
told_apart (Heard t) (Heard u) is = ap Heard (rest (entry_part (Heard t)) (entry_part (Heard u)) is)
told_apart (Heard t) (Skipped u) is =
    let same : 62 ≡ 33 = first (entry_part (Heard t)) (entry_part (Skipped u)) is in
    absurd (omega (arith, same))
told_apart (Heard t) Ended is =
    let same : 62 ≡ 46 = first (entry_part (Heard t)) (entry_part Ended) is in
    absurd (omega (arith, same))
told_apart (Skipped t) (Said u) is =
    let same : 33 ≡ 60 = first (entry_part (Skipped t)) (entry_part (Said u)) is in
    absurd (omega (arith, same))
told_apart (Skipped t) (Heard u) is =
    let same : 33 ≡ 62 = first (entry_part (Skipped t)) (entry_part (Heard u)) is in
    absurd (omega (arith, same))
told_apart (Skipped t) (Skipped u) is =
    ap Skipped (rest (entry_part (Skipped t)) (entry_part (Skipped u)) is)
told_apart (Skipped t) Ended is =
    let same : 33 ≡ 46 = first (entry_part (Skipped t)) (entry_part Ended) is in
    absurd (omega (arith, same))
told_apart Ended (Said u) is =
    let same : 46 ≡ 60 = first (entry_part Ended) (entry_part (Said u)) is in
    absurd (omega (arith, same))
told_apart Ended (Heard u) is =
    let same : 46 ≡ 62 = first (entry_part Ended) (entry_part (Heard u)) is in
    absurd (omega (arith, same))
told_apart Ended (Skipped u) is =
    let same : 46 ≡ 33 = first (entry_part Ended) (entry_part (Skipped u)) is in
    absurd (omega (arith, same))
told_apart Ended Ended is = refl
