use Rattle.std.proofs.Common.{◌≡◌, ◌≤◌, ◌-◌, ◌==◌, ◌||◌, ◌∙◌, ℕ, true, nat_le, get_or, sym, subst}
use Rattle.std.proofs.Common.{arith}
use Rattle.pg_check.proofs.Common.{false≢true, list_all}
use Rattle.pg_check.specs.Rounds.{taken_at}
use Rattle.pg_check.proofs.RoundLaws.{sole-lacked}
use Rattle.pg_check.proofs.rounds.lacks_late.Goals as goal

pub returns-then-taken-lt2 : goal.returns-then-taken-lt2
returns-then-taken-lt2 c = (
  λ on. absurd (false≢true on),
  λ h.
      let mine = c.args.mine.now in
      let w = c.in-Some.w in
      let same = sole-lacked c.args.theirs.now c.args.line.now h.point w h.on h.lacked
      c.in-Some.ensures.one.2 in
      let some = subst (λ (x : ℕ). 2 ≤ taken_at mine c.args.times.now c.args.end x) same h.some in
      let much : 2 ≤ c.number_or-taken.result = subst (λ (n : ℕ). 2 ≤ n)
      (sym c.number_or-taken.ensures) some in
      absurd (omega (arith, much, c.if-taken-lt2.true)),
)

pub returns : goal.returns
returns c =
    let mine = c.args.mine.now in
    let times = c.args.times.now in
    let line = c.args.line.now in
    let w = c.in-Some.w in
    let one = c.in-Some.ensures.one in (
      λ on. record {
        point = w;
        on = one.0;
        lacked = one.1;
        rest = one.2;
        some =
            let much : 2 ≤ c.number_or-taken.result = omega (arith, c.if-taken-lt2.false) in
            subst (λ (n : ℕ). 2 ≤ n) c.number_or-taken.ensures much;
        early = subst (λ (n : ℕ). list_all (λ q. q == w || nat_le (get_or times q 0) (n - 2)) line ≡
            true)
            c.number_or-taken.ensures (sym c.are_at_most.ensures ∙ on);
      },
      λ h.
          let same = sole-lacked c.args.theirs.now line h.point w h.on h.lacked one.2 in
          let early = subst (λ (x : ℕ). list_all (λ q. q == x || nat_le (get_or times q 0)
          (taken_at mine times c.args.end x - 2)) line ≡ true)
          same h.early in
          c.are_at_most.ensures
          ∙ subst (λ (n : ℕ). list_all (λ q. q == w || nat_le (get_or times q 0) (n - 2)) line ≡
          true)
          (sym c.number_or-taken.ensures) early,
    )
