use Rattle.std.proofs.Common.{◌≡◌, List, ℕ, ◌∷◌, ◌++◌, map, append_assoc, sym, ap, ◌∙◌}
use Rattle.std.specs.Prelude.{string_bytes}
use Rattle.pg_cert.proofs.Common.{decimal, behind_spaces, append-nil, Bytes}
use Rattle.pg_cert.proofs.printing.put_members.Goals as goal

pub loop-v-preserved : goal.loop-v-preserved
loop-v-preserved c =
    let now = string_bytes c.loop-v.out in
    let others = c.next.new.self in
    let rest : c.loop-v.v-iterator ≡ c.in-Some.v ∷ others = c.in-Some.ensures.steps in
    ap (λ (t : Bytes). t ++ behind_spaces (map decimal others)) c.in_ok-write.ensures.bytes
    ∙ append_assoc now (32 ∷ decimal c.in-Some.v) (behind_spaces (map decimal others))
    ∙ ap (λ (vs : List ℕ). now ++ behind_spaces (map decimal vs)) (sym rest)
    ∙ c.loop-v.invariant

pub returns : goal.returns
returns c =
    let now = string_bytes c.loop-v.out in
    sym (append-nil now)
    ∙ ap (λ (vs : List ℕ). now ++ behind_spaces (map decimal vs)) (sym c.in-None.ensures.steps.0)
    ∙ c.loop-v.invariant
