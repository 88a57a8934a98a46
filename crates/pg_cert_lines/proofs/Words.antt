-- The bar stands in no printed text of words, and printed points are read again.
use Rattle.std.proofs.Common.{◌≡◌, ℕ, ◌<◌, true, false, List, [], ◌∷◌, map, arith, refl}
use Rattle.std.specs.Prelude.{◌==◌, nat_lt, Result, Ok}
use Rattle.pg_cert_lines.proofs.Common.{decimal, AllByRecursion, nat_tests, All-from_recursion}
use Rattle.pg_cert_lines.proofs.Common.{each_of, Bytes, Lacks, all_of, number_decimal, IsQuiet}
use Rattle.pg_cert_lines.specs.NodeLine.{point_of, child_of}
use Rattle.pg_cert_lines.specs.declared.fault.Fault.{Fault}

no_bar : (b : ℕ) → IsQuiet b → (b == 124) ≡ false
no_bar b h = grind (arith, nat_tests, h.1)

pub lacks_bar : (t : Bytes) → AllByRecursion IsQuiet t → Lacks 124 t
lacks_bar t h = All-from_recursion (λ b. (b == 124) ≡ false) t
    (all_of IsQuiet (λ b. (b == 124) ≡ false) no_bar t h)

pub point_decimal : (p : ℕ) → p < 1024 → point_of (decimal p) ≡ Ok p
point_decimal p small =
    let e = number_decimal p (omega arith) in
    let t : nat_lt p 1024 ≡ true = grind (arith, nat_tests) in
    rw (e, t) refl

pub child_decimal : (j : ℕ) → j < 100000 → child_of (decimal j) ≡ Ok j
child_decimal j small =
    let e = number_decimal j (omega arith) in
    let t : nat_lt j 100000 ≡ true = grind (arith, nat_tests) in
    rw (e, t) refl

-- words that are read one by one
pub each_back : {A : Type 0} (read : Bytes → Result A Fault) (word : A → Bytes) (P : A → Type 0)
    → ((a : A) → P a → read (word a) ≡ Ok a)
    → (all : List A) → AllByRecursion P all
    → each_of read (map word all) ≡ Ok all
each_back read word P h [] k = refl
each_back read word P h (a ∷ all) k =
    let here = h a k.0 in
    let others = each_back read word P h all k.1 in
    rw (here, others) refl

pub points_back : (ps : List ℕ)
    → AllByRecursion (λ p. p < 1024) ps
    → each_of point_of (map decimal ps) ≡ Ok ps
points_back ps h = each_back point_of decimal (λ p. p < 1024) point_decimal ps h
