use Rattle.std.proofs.Common.{◌≤◌, ◌-◌, refl, sym, ap, ◌∙◌, subst, arith}
use Rattle.pg_plain.proofs.Common.{false≢true, Position, after}
use Rattle.pg_plain.specs.Attacks.{LeadsWithin, IsReply, ReplyLeads}
use Rattle.pg_plain.proofs.ThreatSearches.{within-filling, within-reply, within-none, reply-range}
use Rattle.pg_plain.proofs.ThreatSearches.{none-more}
use Rattle.pg_plain.proofs.threat_search.+attacks_and_replies.Goals as goal
use Rattle.pg_plain.proofs.threat_search.+attacks_and_replies.Goals.{reply_leads-else-is_forcing-via-then-is_forcing+else-leads_within}
use Rattle.pg_plain.proofs.threat_search.+attacks_and_replies.Goals.{reply_leads-else-is_forcing-via-else-is_forcing}

pub leads_within-returns-then-can_fill : goal.leads_within-returns-then-can_fill
leads_within-returns-then-can_fill t c =
    let filling = c.can_fill.ensures.0 c.if-can_fill.true in (
      λ on. within-filling c.args.g.now c.args.p.now c.args.side c.args.depth filling.0 filling.1,
      λ leads. refl,
    )

pub leads_within-returns-then-depth-eq0 : goal.leads_within-returns-then-depth-eq0
leads_within-returns-then-depth-eq0 t c = (
  λ on. absurd (false≢true on),
  λ leads. absurd (within-none c.args.g.now c.args.p.now c.args.side c.args.depth
      (λ v fills. false≢true (sym c.if-can_fill.false ∙ c.can_fill.ensures.1 (v, fills)))
      (λ some v within r. absurd (omega (arith, some, c.if-depth-eq0.true))) leads),
)

pub leads_within-returns-then-reply_leads : goal.leads_within-returns-then-reply_leads
leads_within-returns-then-reply_leads t c =
    let some : 1 ≤ c.args.depth = omega arith in (
      λ on. within-reply c.args.g.now c.args.p.now c.args.side c.args.depth c.loop-v.v some
          (c.reply_leads.ensures.0 c.if-reply_leads.true),
      λ leads. refl,
    )

pub leads_within-loop-v-preserved : goal.leads_within-loop-v-preserved
leads_within-loop-v-preserved t c =
    none-more (ReplyLeads (c.args.depth - 1) c.args.g.now c.args.p.now c.args.side) c.loop-v.v
    c.loop-v.invariant (λ r. false≢true (sym c.if-reply_leads.false ∙ c.reply_leads.ensures.1 r))

pub leads_within-returns : goal.leads_within-returns
leads_within-returns t c = (
  λ on. absurd (false≢true on),
  λ leads. absurd
      (within-none c.args.g.now c.args.p.now c.args.side c.args.depth
      (λ v fills. false≢true (sym c.if-can_fill.false ∙ c.can_fill.ensures.1 (v, fills)))
      (λ some v within r. c.loop-v.invariant v
      (omega (arith, within, c.points-v-end.ensures.count)) r) leads),
)

pub reply_leads-returns-then-leads_within : goal.reply_leads-returns-then-leads_within
reply_leads-returns-then-leads_within t c =
    let g = c.args.g.now in
    let reached =
    c.after-then-is_forcing.ensures ∙ ap (λ (q : Position). after g q c.loop-u.u) c.after.ensures in
    let list = subst (λ (q : Position). LeadsWithin c.args.depth g q c.args.side) reached
    (c.leads_within.ensures.0 c.if-leads_within.true) in (
      λ on. (
        c.loop-u.u,
        record { forced = c.is_forcing.ensures.forcing.0 c.if-is_forcing.true; leads = list },
      ),
      λ leads. refl,
    )

pub reply_leads-loop-u-preserved : goal.reply_leads-loop-u-preserved
reply_leads-loop-u-preserved t c =
    let g = c.args.g.now in
    none-more (IsReply c.args.depth g c.args.p.now c.args.side c.args.v) c.loop-u.u
    c.loop-u.invariant (λ r. elim c.else-is_forcing.branch [
      | reply_leads-else-is_forcing-via-then-is_forcing+else-leads_within w ↦
          let reached = w.after-then-is_forcing.ensures
          ∙ ap (λ (q : Position). after g q c.loop-u.u) w.after.ensures in
          false≢true (sym w.if-leads_within.false
          ∙ w.leads_within.ensures.1 (subst (λ (q : Position).
          LeadsWithin c.args.depth g q c.args.side) (sym reached) r.leads))
      | reply_leads-else-is_forcing-via-else-is_forcing w ↦
          false≢true (sym w.if-is_forcing.false ∙ c.is_forcing.ensures.forcing.1 r.forced)
    ])

pub reply_leads-returns : goal.reply_leads-returns
reply_leads-returns t c = (
  λ on. absurd (false≢true on),
  λ r. absurd (c.loop-u.invariant r.0 (omega (
    arith,
    reply-range c.args.g.now c.args.p.now c.args.side c.args.v r.0 r.1.forced,
    c.points-u-end.ensures.count,
  )) r.1),
)
