-- A map that fits a game keeps threat lines and pairs.
use Rattle.std.proofs.Common.{◌≡◌, ◌≢◌, ℕ, suc, ◌<◌, Bool, true, not, ◌&&◌, ◌||◌, List, [], ◌∷◌}
use Rattle.std.proofs.Common.{length, get_or, map, cond, sym, ap, ap₂, ◌∙◌, subst, arith, eqb}
use Rattle.std.proofs.Common.{eqb-true}
use Rattle.pg_maps.proofs.Common.{and_parts, All-weaker, All-head, All-tail, All-cons, All-contains}
use Rattle.pg_maps.proofs.Common.{length-filter, AllPairs-cons, sum_by-IsPermutation}
use Rattle.pg_maps.proofs.Common.{Contains-permutation, All-permutation, All, AllPairs, Any}
use Rattle.pg_maps.proofs.Common.{list_any, contains, other, Pair, Side, Game, Position, IsLineOf}
use Rattle.pg_maps.proofs.Common.{is_free, points_of, point_count, lines_of, free_points, after}
use Rattle.pg_maps.proofs.Common.{is_on, is_near, threatens, has_threat, IsAttack, Forcing, Filling}
use Rattle.pg_maps.proofs.Common.{LeadsToLine, IsThreatLine, is_open, has_point, is_paired}
use Rattle.pg_maps.proofs.Common.{IsInGame, SharesNone, HoldsPair, breaker_of, IsSafe, HoldLines}
use Rattle.pg_maps.proofs.Common.{unpaired, unpaired_due, AreOpenPairs, PairsHold, lines-fit}
use Rattle.pg_maps.proofs.Common.{member-within, All-from_members, member-from_any}
use Rattle.pg_maps.specs.Images.{image_line, IsAutomorphism, IsImage, image_pair}
use Rattle.pg_maps.proofs.ImageLines.{list_any-same, list_any-through}
use Rattle.pg_maps.proofs.Imaging.{permuted, any-image, all-image, any-lines, eqb-image, has-image}
use Rattle.pg_maps.proofs.Imaging.{free-image, filled-image, over-image, IsImage-after, one_to_one}
use Rattle.pg_maps.proofs.Criteria.{Contains-map, sum-through, sum-same, free_points-image}

-- ---- threat lines

module _ (g : Game) (f back : ℕ → ℕ) (fits : IsAutomorphism g f back) where
  near-image : (p q : Position) (h : IsImage g f p q) (side : Side) (line : List ℕ) (u : ℕ)
      → IsLineOf (point_count g) g.bias line
      → u < point_count g
      → is_near q side (image_line f (point_count g) line) (f u) ≡ is_near p side line u
  near-image p q h side line u is range =
      let on = any-image g f back fits (λ v. eqb v (f u)) (λ v. eqb v u) line is
      (λ v lt. eqb-image g f back fits u v range lt) in
      let rest = all-image g f back fits (λ v. eqb v (f u) || contains (points_of q side) v)
      (λ v. eqb v u || contains (points_of p side) v) line is (λ v lt. ap₂ (λ a b. a || b)
      (eqb-image g f back fits u v range lt) (has-image g f back fits p q h side v lt)) in
      ap₂ (λ a b. a && b) (free-image g f back fits p q h u range) (ap₂ (λ a b. a && b) on rest)

  threatens-image : (p q : Position) (h : IsImage g f p q) (side : Side) (u : ℕ)
      → u < point_count g
      → threatens g q side (f u) ≡ threatens g p side u
  threatens-image p q h side u range = any-lines g f back fits (λ line. is_near q side line (f u))
      (λ line. is_near p side line u) (λ line is. near-image p q h side line u is range)

  has_threat-image : (p q : Position) (h : IsImage g f p q) (side : Side)
      → has_threat g q side ≡ has_threat g p side
  has_threat-image p q h side = any-lines g f back fits
      (λ line. list_any (is_near q side line) line) (λ line. list_any (is_near p side line) line)
      (λ line is. any-image g f back fits (is_near q side (image_line f (point_count g) line))
      (is_near p side line) line is (λ u lt. near-image p q h side line u is lt))

  attack-image : (p q : Position) (h : IsImage g f p q) (v : ℕ)
      → IsAttack g p v
      → IsAttack g q (f v)
  attack-image p q h v a = record {
    range = fits.points.range v a.range;
    free = free-image g f back fits p q h v a.range ∙ a.free;
  }

  filling-image : (p q : Position) (h : IsImage g f p q) (side : Side) (v : ℕ)
      → Filling g p side v
      → Filling g q side (f v)
  filling-image p q h side v a = record {
    attack = attack-image p q h v a.attack;
    fills = filled-image g f back fits (after g p v) (after g q (f v))
        (IsImage-after g f back fits p q h v a.attack.range) side
        ∙ a.fills;
  }

  -- the point that an attack forces is one of the game
  forced_range : (p : Position) (side : Side) (u : ℕ)
      → threatens g p side u ≡ true
      → u < point_count g
  forced_range p side u t =
      let found = member-from_any (λ line. is_near p side line u) (lines_of g) t in
      let is =
      All-contains (IsLineOf (point_count g) g.bias) (lines_of g) found.0 (lines-fit g) found.1 in
      let on = (and_parts (is_on u found.0) _ (and_parts (is_free p u) _ found.2).1).0 in
      let place = member-from_any (λ v. eqb v u) found.0 on in
      subst (λ v. v < point_count g) (eqb-true place.0 u place.2)
      (All-contains (λ v. v < point_count g) found.0 place.0 is.range place.1)

  forcing-image : (p q : Position) (h : IsImage g f p q) (side : Side) (v u : ℕ)
      → Forcing g p side v u
      → Forcing g q side (f v) (f u)
  forcing-image p q h side v u a =
      let next = IsImage-after g f back fits p q h v a.attack.range in
      record {
        attack = attack-image p q h v a.attack;
        fills_none =
            filled-image g f back fits (after g p v) (after g q (f v)) next side ∙ a.fills_none;
        threat = threatens-image (after g p v) (after g q (f v)) next side u
            (forced_range (after g p v) side u a.threat)
            ∙ a.threat;
        safe = λ kind. has_threat-image (after g p v) (after g q (f v)) next (other side)
            ∙ a.safe kind;
      }

  leads-image : (p q : Position) (h : IsImage g f p q) (side : Side) (points : List ℕ)
      → LeadsToLine g p side points
      → LeadsToLine g q side (map f points)
  leads-image p q h side [] leads = leads
  leads-image p q h side (v ∷ []) leads = filling-image p q h side v leads
  leads-image p q h side (v ∷ (u ∷ others)) leads =
      let next = IsImage-after g f back fits p q h v leads.0.attack.range in
      let range = forced_range (after g p v) side u leads.0.threat in (
        forcing-image p q h side v u leads.0,
        leads-image (after g (after g p v) u) (after g (after g q (f v)) (f u))
            (IsImage-after g f back fits (after g p v) (after g q (f v)) next u range) side others
            leads.1,
      )

  pub IsThreatLine-image : (p q : Position) (h : IsImage g f p q) (side : Side) (points : List ℕ)
      → IsThreatLine g p side points
      → IsThreatLine g q side (map f points)
  IsThreatLine-image p q h side points t = record {
    single = t.single;
    going = over-image g f back fits p q h ∙ t.going;
    turn = h.turn ∙ t.turn;
    leads = leads-image p q h side points t.leads;
  }

  -- ---- pairs

  All-mapped : {A B : Type 0} (t : A → B) (P : B → Type 0) (xs : List A)
      → All (λ x. P (t x)) xs
      → All P (map t xs)
  All-mapped t P [] each = λ k d h. absurd (omega arith)
  All-mapped t P (x ∷ xs) each = All-cons P (t x) (map t xs) (All-head (λ y. P (t y)) x xs each)
      (All-mapped t P xs (All-tail (λ y. P (t y)) x xs each))

  AllPairs-mapped : {A B : Type 0} (t : A → B) (Q : A → Type 0) (R : A → A → Type 0)
      (S : B → B → Type 0)
      → ((x y : A) → Q x → Q y → R x y → S (t x) (t y))
      → (xs : List A) → All Q xs
      → AllPairs R xs
      → AllPairs S (map t xs)
  AllPairs-mapped t Q R S step [] each pairs = λ i j d before inside. absurd (omega arith)
  AllPairs-mapped t Q R S step (x ∷ xs) each pairs =
      let others = All-tail Q x xs each in
      let here = All-head Q x xs each in
      AllPairs-cons S (t x) (map t xs) (All-mapped t (S (t x)) xs (λ k d h.
      step x (get_or xs k d) here (others k d h) (pairs 0 (suc k) d (omega arith) (omega arith))))
      (AllPairs-mapped t Q R S step xs others
      (λ i j d before inside. pairs (suc i) (suc j) d (omega arith) (omega arith)))

  Any-mapped : {A B : Type 0} (t : A → B) (P : A → Type 0) (S : B → Type 0)
      → ((x : A) → P x → S (t x))
      → (xs : List A) → Any P xs
      → Any S (map t xs)
  Any-mapped t P S step xs any =
      let c = Contains-map t xs any.1 (any.0, any.2, any.3) in
      (c.0, t any.1, c.1, c.2, step any.1 any.4)

  apart-image : (v u : ℕ) → v < point_count g → u < point_count g → v ≢ u → f v ≢ f u
  apart-image v u vr ur ne e = ne (one_to_one g f back fits v u vr ur e)

  shares-image : (s t : Pair)
      → IsInGame g s
      → IsInGame g t
      → SharesNone s t
      → SharesNone (image_pair f s) (image_pair f t)
  shares-image s t sr tr none = record {
    aa = apart-image s.a t.a sr.0 tr.0 none.aa;
    ab = apart-image s.a t.b sr.0 tr.1 none.ab;
    ba = apart-image s.b t.a sr.1 tr.0 none.ba;
    bb = apart-image s.b t.b sr.1 tr.1 none.bb;
  }

  holds-image : (line : List ℕ) (s : Pair)
      → IsLineOf (point_count g) g.bias line
      → HoldsPair line s
      → HoldsPair (image_line f (point_count g) line) (image_pair f s)
  holds-image line s is held = (
    Contains-permutation (map f line) (image_line f (point_count g) line) (f s.a)
        (permuted g f back fits line is) (Contains-map f line s.a held.0),
    Contains-permutation (map f line) (image_line f (point_count g) line) (f s.b)
        (permuted g f back fits line is) (Contains-map f line s.b held.1),
  )

  module _ (p q : Position) (h : IsImage g f p q) where
    held-image : (side : Side) (pairs : List Pair)
        → HoldLines g p side pairs
        → HoldLines g q side (map (image_pair f) pairs)
    held-image side pairs held =
        let own = breaker_of g.kind side in
        All-permutation (IsSafe (points_of q own) (map (image_pair f) pairs))
        (map (image_line f (point_count g)) (lines_of g)) (lines_of g) fits.lines
        (All-mapped (image_line f (point_count g))
        (IsSafe (points_of q own) (map (image_pair f) pairs)) (lines_of g) (λ k d lt untouched.
        let line = get_or (lines_of g) k d in
        let is : IsLineOf (point_count g) g.bias line = lines-fit g k d lt in
        let before = held k d lt (sym (any-image g f back fits (contains (points_of q own))
        (contains (points_of p own)) line is (has-image g f back fits p q h own))
        ∙ untouched) in
        Any-mapped (image_pair f) (HoldsPair line) (HoldsPair (image_line f (point_count g) line))
        (λ s on. holds-image line s is on) pairs before))

    paired-image : (pairs : List Pair) (v : ℕ)
        → All (IsInGame g) pairs
        → v < point_count g
        → is_paired (map (image_pair f) pairs) (f v) ≡ is_paired pairs v
    paired-image pairs v range lt = list_any-through (image_pair f) (has_point (f v)) pairs
        ∙ list_any-same (λ s. has_point (f v) (image_pair f s)) (has_point v) pairs
        (All-weaker (IsInGame g) (λ s. has_point (f v) (image_pair f s) ≡ has_point v s)
        (λ s in_game. ap₂ (λ a b. a || b) (eqb-image g f back fits v s.a lt in_game.0)
        (eqb-image g f back fits v s.b lt in_game.1)) pairs range)

    unpaired-image : (pairs : List Pair)
        → All (IsInGame g) pairs
        → length (unpaired g q (map (image_pair f) pairs)) ≡ length (unpaired g p pairs)
    unpaired-image pairs range =
        let t : ℕ → Bool = λ v. not (is_paired (map (image_pair f) pairs) v) in
        let u : ℕ → Bool = λ v. not (is_paired pairs v) in
        length-filter t (free_points g q)
        ∙ sum_by-IsPermutation (λ v. cond (t v) 1 0) (map f (free_points g p)) (free_points g q)
        (free_points-image g f back fits p q h)
        ∙ sum-through f (λ v. cond (t v) 1 0) (free_points g p)
        ∙ sum-same (λ v. cond (t (f v)) 1 0) (λ v. cond (u v) 1 0) (free_points g p)
        (All-from_members (λ v. ◌≡◌ {A = ℕ} (cond (t (f v)) 1 0) (cond (u v) 1 0)) (free_points g p)
        (λ v c. ap {B = ℕ} (λ b. cond (not b) 1 0)
        (paired-image pairs v range (member-within g p v c))))
        ∙ sym (length-filter u (free_points g p))

    pub PairsHold-image : (side : Side) (pairs : List Pair)
        → PairsHold g p side pairs
        → PairsHold g q side (map (image_pair f) pairs)
    PairsHold-image side pairs held = record {
      apart = apart;
      held = held-image side pairs held.held;
      avoider = λ kind. let none = held.avoider kind in record {
        single = none.single;
        left_out =
            unpaired-image pairs held.apart.range ∙ none.left_out ∙ ap unpaired_due (sym h.turn);
      };
    }
      where
        apart : AreOpenPairs g q (map (image_pair f) pairs)
        apart = record {
          range = All-mapped (image_pair f) (IsInGame g) pairs
              (All-weaker (IsInGame g) (λ s. IsInGame g (image_pair f s)) (λ s is. (
                fits.points.range s.a is.0,
                fits.points.range s.b is.1,
              )) pairs held.apart.range);
          free = All-mapped (image_pair f) (λ s. is_open q s ≡ true) pairs (λ k d lt.
              let s = get_or pairs k d in
              let is : IsInGame g s = held.apart.range k d lt in
              ap₂ (λ a b. a && b) (free-image g f back fits p q h s.a is.0)
              (free-image g f back fits p q h s.b is.1)
              ∙ held.apart.free k d lt);
          different = All-mapped (image_pair f) (λ s. s.a ≢ s.b) pairs (λ k d lt.
              let s = get_or pairs k d in
              let is : IsInGame g s = held.apart.range k d lt in
              apart-image s.a s.b is.0 is.1 (held.apart.different k d lt));
          disjoint = AllPairs-mapped (image_pair f) (IsInGame g) SharesNone SharesNone
              (λ s t sr tr none. shares-image s t sr tr none) pairs held.apart.range
              held.apart.disjoint;
        }
