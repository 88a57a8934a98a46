-- What a player has when it is opened.
use Rattle.std.proofs.Common.{◌≡◌, ◌∙◌, ℕ, ◌-◌, ◌<◌, true, List, [], ◌∷◌, Option, Some, None}
use Rattle.std.proofs.Common.{find, length, get_or, slice_get, refl, sym, ap, subst, arith}
use Rattle.std.proofs.Common.{Contains}
use Rattle.pg_player.proofs.Common.{∥∥₁_elim, ∥∥₁_map, le_prop, and_parts}
use Rattle.pg_player.proofs.Common.{slice_get-get_or, slice_get_read, slice_get_within, option_or}
use Rattle.pg_player.proofs.Common.{is_same_side, Side, Game, start, with_turn}
use Rattle.pg_player.proofs.Common.{find_member, Cert, Claim, Node, IsClaim, IsWithinLimits}
use Rattle.pg_player.proofs.Common.{Standing, arrives, IsNodeOf, IsValid}
use Rattle.pg_cert.specs.declared.node_fault.NodeFault.TheVariants as faults
use Rattle.pg_player.specs.InPlay.{GoesOn, IsSoundClaim}
use Rattle.pg_player.specs.Stand.{Settles}
use Rattle.pg_player.specs.Player.{is_claim_of, is_win_of, is_win, chosen_claim}
use Rattle.pg_player.proofs.Arriving.{arrived, Settles-node}
use Rattle.pg_player.proofs.Stable.{valid_claim}
use Rattle.pg_switch.proofs.Known.{IsChosen, same_side-true}

-- ---- the claim that is chosen

-- a claim of the certificate, of the side and the game's turn
abbrev pub IsChosenClaim : Game → Cert → Side → Claim → Type 0
IsChosenClaim g cert side claim =
    IsChosen (λ (c : Claim). c.side) (λ (c : Claim). c.turn) cert.claims side g.turn claim

from_test : (g : Game) (cert : Cert) (side : Side) (claim : Claim)
    → Contains cert.claims claim
    → is_claim_of side g.turn claim ≡ true
    → IsChosenClaim g cert side claim
from_test g cert side claim member on =
    let parts = and_parts (is_same_side claim.side side) (is_same_side claim.turn g.turn) on in
    record {
      place = member.0;
      at = slice_get_read cert.claims (length cert.claims) member.0 claim refl member.1
          (sym member.2);
      side_is = same_side-true claim.side side parts.0;
      turn_is = same_side-true claim.turn g.turn parts.1;
    }

pub chosen-is : (g : Game) (cert : Cert) (side : Side) (claim : Claim)
    → chosen_claim g cert side ≡ Some claim
    → IsChosenClaim g cert side claim
unfolding chosen_claim
chosen-is g cert side claim h = by_first (find (is_win_of side g.turn) cert.claims) refl h
  where
    by_first : (o : Option Claim)
        → find (is_win_of side g.turn) cert.claims ≡ o
        → option_or o (find (is_claim_of side g.turn) cert.claims) ≡ Some claim
        → IsChosenClaim g cert side claim
    by_first (Some first) e is =
        let same : first ≡ claim = cc in
        let member = find_member (is_win_of side g.turn) cert.claims claim (e ∙ is) in
        from_test g cert side claim member.0
        (and_parts (is_claim_of side g.turn claim) (is_win claim.goal) member.1).0
    by_first None e is =
        let member = find_member (is_claim_of side g.turn) cert.claims claim is in
        from_test g cert side claim member.0 member.1

-- ---- the claim is sound, and has a root

claim_limits : (cert : Cert) (i : ℕ) (claim : Claim)
    → slice_get cert.claims i ≡ Some claim
    → IsWithinLimits cert
    → IsClaim claim
claim_limits cert i claim at limits =
    let within = slice_get_within cert.claims i claim at in
    let there : Some (get_or cert.claims i claim) ≡ Some claim =
    sym (slice_get-get_or cert.claims i claim within) ∙ at in
    let same : get_or cert.claims i claim ≡ claim = cc in
    subst (λ (c : Claim). IsClaim c) same (limits.claims i claim within)

pub sound-chosen : (g : Game) (cert : Cert) (side : Side) (claim : Claim)
    → ∥ IsWithinLimits cert ∥₁
    → ∥ IsValid g cert ∥₁
    → IsChosenClaim g cert side claim
    → IsSoundClaim g claim
sound-chosen g cert side claim limits valid is = record {
  limits = ∥∥₁_map limits (claim_limits cert is.place claim is.at);
  valid = valid_claim g claim (∥∥₁_map valid (λ h. h is.place claim is.at));
}

pub some_node : (g : Game) (claim : Claim) → IsSoundClaim g claim → 0 < length claim.nodes
some_node g claim h = ∥∥₁_elim h.limits le_prop (λ l. l.some)

-- the root has the game's marks and turn
root : (g : Game) (claim : Claim)
    → IsSoundClaim g claim
    → claim.turn ≡ g.turn
    → IsNodeOf claim.nodes (length claim.nodes - 1) (start g)
root g claim h turn = at_last claim.nodes refl (some_node g claim h)
  where
    at_last : (nodes : List Node)
        → nodes ≡ claim.nodes
        → 0 < length claim.nodes
        → IsNodeOf claim.nodes (length claim.nodes - 1) (start g)
    at_last [] e some =
        absurd (let none : length claim.nodes ≡ 0 = sym (ap length e) in omega (arith, none, some))
    at_last (n ∷ nodes) e some =
        let last = length claim.nodes - 1 in
        let node = get_or claim.nodes last n in
        let at = slice_get-get_or claim.nodes last n (omega (arith, some)) in
        record {
          node = node;
          at = at;
          position = h.valid last node at faults.Root (omega (arith, some)) ∙ ap (with_turn g) turn;
        }

-- so the player goes on at the game's marks, and finds a node to stand at
pub on-root : (g : Game) (claim : Claim) (s : Standing)
    → IsSoundClaim g claim
    → claim.turn ≡ g.turn
    → arrives claim.nodes (length claim.nodes - 1) ≡ Some s
    → GoesOn g claim (start g) s
on-root g claim s h turn comes =
    arrived g claim (length claim.nodes - 1) (start g) s h (root g claim h turn) comes

pub Settles-root : (g : Game) (claim : Claim)
    → IsSoundClaim g claim
    → claim.turn ≡ g.turn
    → Settles claim.nodes (length claim.nodes - 1)
Settles-root g claim h turn =
    let node = root g claim h turn in
    Settles-node g claim h (length claim.nodes - 1) node.node node.at
