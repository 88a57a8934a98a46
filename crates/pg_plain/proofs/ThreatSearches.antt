-- Trying every attack and every reply finds each threat line.
use Rattle.std.specs.Prelude.{◌↔◌, IsTrue}
use Rattle.pg_plain.proofs.Common.{cases_Bool, false≢true, ltb-true, ltb-false, list_any, Switching}
use Rattle.pg_plain.proofs.Common.{Side, Game, Position, is_graph, is_switching, lines_of}
use Rattle.pg_plain.proofs.Common.{is_filled, point_count, after, points_of, Forcing, Filling}
use Rattle.pg_plain.proofs.Common.{LeadsToLine, has_threat_line}
use Rattle.std.specs.Cmp.{both_ways}
use Rattle.std.proofs.Common.{◌≡◌, ◌≢◌, ℕ, ◌<◌, ◌≤◌, ◌+◌, ◌-◌, nat_lt, Bool, true, false, List, []}
use Rattle.std.proofs.Common.{◌∷◌, refl, sym, ap, ◌∙◌, subst, inl, inr, arith}
use Rattle.pg_base.specs.declared.kind.Kind.{Kind}
use Rattle.pg_game.specs.declared.field.Field.{Field}
use Rattle.pg_game.specs.declared.field.Field.TheVariants.{Lines, Graph as OnGraph}
use Rattle.pg_game.specs.Field.{field_lines}
use Rattle.pg_game.proofs.ThreatLaws.{near-from, near-range}
use Rattle.pg_game.proofs.ThreatSearch.{line-within, within-line}
use Rattle.pg_plain.specs.Attacks.{IsGoing, LeadsWithin, ReplyLeads}

-- ---- one step

-- what fills a line leads to one
pub within-filling : (g : Game) (p : Position) (side : Side) (depth v : ℕ)
    → Filling g p side v
    → LeadsWithin depth g p side
within-filling g p side depth v fills = (v ∷ [], omega arith, fills)

-- an attack whose reply leads on leads to a line, with one reply more
pub within-reply : (g : Game) (p : Position) (side : Side) (depth v : ℕ)
    → 1 ≤ depth
    → ReplyLeads (depth - 1) g p side v
    → LeadsWithin depth g p side
within-reply g p side depth v some r =
    let rest = r.1.leads in
    (v ∷ (r.0 ∷ rest.0), omega (arith, some, rest.1), (r.1.forced, rest.2))

-- a reply that is forced is a point of the game
pub reply-range : (g : Game) (p : Position) (side : Side) (v u : ℕ)
    → Forcing g p side v u
    → u < point_count g
reply-range g p side v u f =
    let n = near-from g (after g p v) side u f.threat in
    near-range g n.line u n.listed n.on

-- where no attack fills a line and none has a reply that leads on, no list does
pub within-none : (g : Game) (p : Position) (side : Side) (depth : ℕ)
    → ((v : ℕ) → Filling g p side v → ⊥)
    → (1 ≤ depth → (v : ℕ) → v < point_count g → ReplyLeads (depth - 1) g p side v → ⊥)
    → LeadsWithin depth g p side
    → ⊥
within-none g p side depth fills replies ([], few, leads) = leads
within-none g p side depth fills replies (v ∷ [], few, leads) = fills v leads
within-none g p side depth fills replies (v ∷ (u ∷ others), few, leads) =
    let some : 1 ≤ depth = omega (arith, few) in
    replies some v leads.0.attack.range
    (u, record { forced = leads.0; leads = (others, omega (arith, few), leads.1) })

-- ---- no threat line on a graph

no-lines : (kind : Kind) (field : Field)
    → is_graph field ≡ is_switching kind
    → kind ≡ Switching
    → field_lines field ≡ []
no-lines kind (OnGraph h) fits e = refl
no-lines kind (Lines f) fits e = absurd (false≢true (fits ∙ ap is_switching e))

leads-nowhere : (g : Game) (side : Side)
    → lines_of g ≡ []
    → (points : List ℕ) (p : Position) → LeadsToLine g p side points
    → ⊥
leads-nowhere g side none [] p leads = leads
leads-nowhere g side none (v ∷ []) p leads =
    false≢true (sym (ap (list_any (is_filled (points_of (after g p v) side))) none) ∙ leads.fills)
leads-nowhere g side none (v ∷ (u ∷ others)) p leads =
    leads-nowhere g side none others (after g (after g p v) u) leads.1

-- ---- the whole

-- where a threat line is found, the game goes on
found-going : (g : Game) (p : Position) (depth : ℕ) → has_threat_line depth g p ≡ true → IsGoing g p
found-going g p depth h =
    let list = line-within g depth p h in
    let lines : g.kind ≢ Switching = λ e. leads-nowhere g p.turn
    (no-lines g.kind g.field g.fits.within.kind_fits e) list.0 p list.2.leads in
    record { single = list.2.single; going = list.2.going; lines = lines }

-- so none is found where it doesn't
pub not-going : (g : Game) (p : Position) (depth : ℕ) (a : Bool)
    → (IsTrue a ↔ IsGoing g p)
    → a ≡ false
    → has_threat_line depth g p ≡ false
not-going g p depth a goes off = elim (cases_Bool (has_threat_line depth g p)) [
  | inl found ↦ absurd (false≢true (sym off ∙ goes.1 (found-going g p depth found)))
  | inr none ↦ none
]

-- and where it does, the search decides
pub search-finds : (g : Game) (p : Position) (depth : ℕ) (a b : Bool)
    → (IsTrue a ↔ IsGoing g p)
    → a ≡ true
    → (IsTrue b ↔ LeadsWithin depth g p p.turn)
    → b ≡ has_threat_line depth g p
search-finds g p depth a b goes on leads = both_ways b (has_threat_line depth g p) found there
  where
    found : b ≡ true → has_threat_line depth g p ≡ true
    found h =
        let going = goes.0 on in
        let list = leads.0 h in
        within-line g depth p list.0 list.1 (record {
          single = going.single;
          going = going.going;
          turn = refl;
          leads = list.2;
        })

    there : has_threat_line depth g p ≡ true → b ≡ true
    there h =
        let list = line-within g depth p h in
        leads.1 (list.0, list.1, list.2.leads)

-- ---- all numbers below the next one

-- what is excluded below a number, and there, is excluded below the next
pub none-more : (P : ℕ → Type 0) (u : ℕ)
    → ((w : ℕ) → w < u → P w → ⊥)
    → (P u → ⊥)
    → (w : ℕ) → w < u + 1
    → P w
    → ⊥
none-more P u before here w less h = elim (cases_Bool (nat_lt w u)) [
  | inl earlier ↦ before w (ltb-true w u earlier) h
  | inr later ↦ let same : w ≡ u = omega (arith, less, ltb-false w u later) in here (subst P same h)
]
