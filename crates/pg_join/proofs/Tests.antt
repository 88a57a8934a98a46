-- Whether a certificate with images is within the limits of the format, as tests.
use Rattle.std.specs.Prelude.{ℕ, ◌&&◌, Bool, nat_lt, List}
use Rattle.std.specs.List.{list_all}
use Rattle.pg_base.specs.declared.limits.TheConstants.{MAX_MEMBERS}
use Rattle.pg_base.specs.declared.pair.Pair.{Pair}
use Rattle.pg_cert.specs.declared.limits.TheConstants.{MAX_CLAIM_NODES}
use Rattle.pg_cert.specs.declared.reply.Reply.{Reply}

abbrev pub are_points : List ℕ → Bool
are_points points = list_all (λ v. nat_lt v MAX_MEMBERS) points

abbrev pub are_pairs : List Pair → Bool
are_pairs pairs = list_all (λ p. nat_lt p.a MAX_MEMBERS && nat_lt p.b MAX_MEMBERS) pairs

abbrev pub are_replies : List Reply → Bool
are_replies replies =
    list_all (λ r. nat_lt r.point MAX_MEMBERS && nat_lt r.child MAX_CLAIM_NODES) replies
