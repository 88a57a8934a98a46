-- What the lines say is what the file says.
use Rattle.std.proofs.Common.{◌≡◌, ◌+◌, ◌≤◌, false, List, length, Ok, refl, arith}
use Rattle.std.specs.Prelude.{nat_lt}
use Rattle.pg_image.proofs.Common.{nat_tests, reading, Bytes, lines, end_fault}
use Rattle.pg_image.specs.ImageFile.{Draft, nothing, after, ended, said, image_certificate}

-- a file that isn't too large
pub fits_file : (text : Bytes)
    → length text ≤ 268435456
    → image_certificate text ≡ said (lines text)
unfolding image_certificate
fits_file text few =
    let t : nat_lt 268435456 (length text) ≡ false = grind (arith, nat_tests, few) in
    rw t refl

-- lines without a fault
pub said_is : (ls : List Bytes) (d : Draft)
    → reading after 1 nothing ls ≡ Ok d
    → said ls ≡ ended (length ls + 1) d (end_fault d.progress d.progress.due)
said_is ls d e = rw e refl
