-- The places of copies in a table of eight for each node.
use Rattle.std.proofs.Common.{◌≡◌, ℕ, ◌+◌, ◌*◌, ◌/◌, ◌%◌, ◌<◌, ap, ◌∙◌, arith}
use Rattle.pg_unfold.proofs.Common.{numbered, number_of, number-numbered, numbered-number}
use Rattle.pg_unfold.proofs.Common.{number-few}
use Rattle.pg_unfold.specs.Copies.{Copy}
use Rattle.pg_unfold.specs.Marks.{key_of, copy_at}

pub key-node : (k m : ℕ) → m < 8 → (8 * k + m) / 8 ≡ k
key-node k m lt = omega arith

pub key-map : (k m : ℕ) → m < 8 → (8 * k + m) % 8 ≡ m
key-map k m lt = omega arith

-- two copies are one where their nodes and their maps are
pub same_copy : (a b : Copy) → a.node ≡ b.node → a.map ≡ b.map → a ≡ b
same_copy a b node m = λ i. record { node = node i; map = m i }

pub copy_at-key : (c : Copy) → copy_at (key_of c) ≡ c
copy_at-key c =
    let few = number-few c.map in
    same_copy (copy_at (key_of c)) c (key-node c.node (number_of c.map) few)
    (ap numbered (key-map c.node (number_of c.map) few) ∙ numbered-number c.map)

pub key-copy_at : (key : ℕ) → key_of (copy_at key) ≡ key
key-copy_at key =
    let few : key % 8 < 8 = omega arith in
    let n = number-numbered (key % 8) few in
    omega (arith, n)
