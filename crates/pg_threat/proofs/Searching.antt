-- The search, attack by attack and depth by depth.
use Rattle.std.specs.Prelude.{◌↔◌, ◌==◌, if◌then◌else◌, Option, Some, None, IfSome, IfNone}
use Rattle.std.proofs.Common.{◌≡◌, ◌≢◌, ℕ, ◌+◌, ◌-◌, ◌<◌, ◌≤◌, true, false, List, [], ◌∷◌, length}
use Rattle.std.proofs.Common.{refl, sym, ap, ◌∙◌, subst, inl, inr, arith, eqb-true}
use Rattle.pg_threat.proofs.Common.{cases_Bool, cases_eq, cases_lt, false≢true, FinSet, contains}
use Rattle.pg_threat.proofs.Common.{empty, contains-empty, nat_cmp, IsLeastFrom, ShareNone, Side}
use Rattle.pg_threat.proofs.Common.{Game, Position, is_free, lines_of, point_count, after, is_over}
use Rattle.pg_threat.proofs.Common.{IsPosition, depth_of, may_attack, ComesFirst, IsAttack}
use Rattle.pg_threat.proofs.Common.{LeadsToLine, IsAttacking, IsThreatLine, AreDeeper}
use Rattle.pg_threat.proofs.Common.{point_count-le, Near, near-from, near-to, near-range}
use Rattle.pg_threat.proofs.Common.{near-stays, near-filling, IsForced, attacking-after}
use Rattle.pg_threat.proofs.Common.{unfilled-going}
use Rattle.pg_threat.specs.declared.line.ThreatLine.{ThreatLine}
use Rattle.pg_threat.specs.Lacking.{is_lacking, is_partner, IsLackedTwice, come_to, left_to}
use Rattle.pg_threat.specs.Search.{Begins, points_of_line, IsFirstOf, NoneBelow, IsFound}
use Rattle.pg_threat.specs.Search.{IsAnswering, Replied, IsTried, IsSearching, SearchesAt}
use Rattle.pg_threat.specs.Forced.{IsAnswer}
use Rattle.pg_threat.proofs.LineCounts.{one-lacked, one-near, lacking-free}
use Rattle.pg_threat.proofs.Partners.{partner-lacking}
use Rattle.pg_threat.proofs.Attacks.{fork-twice, filling-near, none-near, near-was, answering-after}
use Rattle.pg_threat.proofs.Attacks.{leads-length, replied-length, replied-depth, attack-depth}
use Rattle.pg_threat.proofs.Attacks.{replied-leads, leads-tried}

-- the list that was found is this one
pub found-as : (P : List ℕ → Type 0) (depth : ℕ) (t : ThreatLine) (points : List ℕ)
    → points_of_line t ≡ points
    → length points ≡ t.len
    → IsFirstOf P points
    → depth_of points ≡ depth
    → IsFound P depth (Some t)
found-as P depth t points same whole first deep = record {
  first = subst (λ (xs : List ℕ). IsFirstOf P xs) (sym same) first;
  deep = ap depth_of same ∙ deep;
  whole = ap (λ (xs : List ℕ). length xs) same ∙ whole;
}

-- a smaller point comes first, and of lists that begin with the same point what follows decides
first-less : (v w : ℕ) (points others : List ℕ)
    → v ≤ w
    → (w ≡ v → ComesFirst points others)
    → ComesFirst (v ∷ points) (w ∷ others)
first-less v w points others le rest = elim (cases_eq w v) [
  | inl e ↦ inr (sym e, rest e)
  | inr ne ↦ inl (omega arith)
]

-- ---- attacks

module _ (g : Game) (p : Position) (side : Side) (depth : ℕ)
    (searches : SearchesAt g p side depth) where
  far : (v : ℕ) → Near g p side v → ⊥
  far = none-near g p side depth searches.attacking searches.some searches.least

  -- a list that leads to a line begins with one of all attacks that are tried
  pub begins-all : (attacks : FinSet nat_cmp)
      → ((v : ℕ) → (contains attacks v ≡ true) ↔ IsTried g p side v)
      → Begins g p side depth attacks
  begins-all attacks tried w points deep leads = (tried w).1
      (leads-tried g p side w points searches.attacking.turn searches.attacking.position.disjoint
      searches.attacking.unfilled.mine far leads).0

  -- where the side lacks more than one point of each line, an attack's replies are the other points
  -- of the lines through it
  pub replies-are : (v : ℕ)
      → IsAttack g p v
      → (replies : FinSet nat_cmp)
      → ((u : ℕ) → contains replies u ≡ is_partner g p side v u)
      → (u : ℕ) → contains replies u ≡ is_lacking g (after g p v) side 1 u
  replies-are v at replies is u = is u
      ∙ partner-lacking g side p searches.attacking.turn searches.attacking.position.disjoint far v
      at u

  module _ (v : ℕ) (at : IsAttack g p v) (answering : IsAnswering g (after g p v) side) where
    leads-on : (points : List ℕ)
        → Replied g (after g p v) side points
        → LeadsToLine g p side (v ∷ points)
    leads-on points h = replied-leads g p side v points at.range at.free answering h

    -- after an attack no list of less depth goes on
    pub attack-least : NoneBelow (Replied g (after g p v) side) depth
    attack-least points h =
        let le = searches.least (v ∷ points) (leads-on points h) in
        omega (arith, le, attack-depth g side v points (after g p v) h)

  module _ (attacks : FinSet nat_cmp)
      (tried : (v : ℕ) → contains attacks v ≡ true → IsTried g p side v)
      (begins : Begins g p side depth attacks) where
    -- the search goes on with the next attack
    pub search-next : (from : ℕ) (next : Option ℕ)
        → ((w : ℕ) (points : List ℕ) → w < from
        → depth_of (w ∷ points) ≡ depth
        → LeadsToLine g p side (w ∷ points)
        → ⊥)
        → IfSome next (λ v. IsLeastFrom attacks from v)
        → IfSome next (λ v. v < 1024)
        → IfNone next ((q : ℕ) → from ≤ q → contains attacks q ≡ false)
        → IsSearching g p side depth attacks next
    search-next from None before found small none = record {
      none = λ w points below deep leads. elim (cases_lt w from) [
        | inl early ↦ before w points early deep leads
        | inr late ↦ false≢true (sym (none w late) ∙ begins w points deep leads)
      ];
      tried = λ v e. absurd cc;
    }
    search-next from (Some v) before found small none = record {
      none = λ w points below deep leads. elim (cases_lt w from) [
        | inl early ↦ before w points early deep leads
        | inr late ↦
            let le = found.least w late (begins w points deep leads) in
            absurd (omega arith)
      ];
      tried = λ w e.
          let same : v ≡ w = cc in (
            subst (λ (x : ℕ). contains attacks x ≡ true) same found.member,
            subst (λ (x : ℕ). x < 1024) same small,
          );
    }

    -- an attack is a free point of the game
    pub attack-free : (v : ℕ) → contains attacks v ≡ true → IsAttack g p v
    attack-free v member =
        let free = lacking-free g p side 2 v (tried v member).two in
        record { range = free.0; free = free.1 }

    module _ (v : ℕ) (member : contains attacks v ≡ true) where
      pub attack-answering : IsAnswering g (after g p v) side
      attack-answering =
          answering-after g side searches.single p searches.attacking v far (tried v member)

      -- where none of that depth does, no list with this attack leads to a line
      pub attack-fails : (next : Option ℕ)
          → next ≡ Some v
          → IsSearching g p side depth attacks next
          → IsFound (Replied g (after g p v) side) depth None
          → (w : ℕ) (points : List ℕ) → w < v + 1
          → depth_of (w ∷ points) ≡ depth
          → LeadsToLine g p side (w ∷ points)
          → ⊥
      attack-fails next here searching none w points below deep leads = elim (cases_eq w v) [
        | inl e ↦
            let same = subst (λ (x : ℕ). LeadsToLine g p side (x ∷ points)) e leads in
            let replied =
            (leads-tried g p side v points searches.attacking.turn
            searches.attacking.position.disjoint searches.attacking.unfilled.mine far same).1 in
            none points replied
            (omega (arith, deep, attack-depth g side v points (after g p v) replied))
        | inr ne ↦
            let come = ap (come_to 1024) here in
            searching.none w points (omega (arith, come)) deep leads
      ]

      -- the first that does is the first with this attack
      pub attack-found : (next : Option ℕ) (found t : ThreatLine)
          → next ≡ Some v
          → IsSearching g p side depth attacks next
          → IsFound (Replied g (after g p v) side) depth (Some found)
          → points_of_line t ≡ v ∷ points_of_line found
          → t.len ≡ found.len + 1
          → IsFound (LeadsToLine g p side) depth (Some t)
      attack-found next found t here searching h same len =
          let points = points_of_line found in
          let deep = attack-depth g side v points (after g p v) h.first.is in
          found-as (LeadsToLine g p side) depth t (v ∷ points) same
          (omega (arith, h.whole, len)) (record {
            is = leads-on v (attack-free v member) attack-answering points h.first.is;
            first = first;
          }) (deep ∙ h.deep)
        where
          first : (others : List ℕ)
              → LeadsToLine g p side others
              → depth_of others ≡ depth_of (v ∷ points_of_line found)
              → ComesFirst (v ∷ points_of_line found) others
          first [] leads deep = absurd leads
          first (w ∷ others) leads deep =
              let depths = attack-depth g side v (points_of_line found) (after g p v) h.first.is in
              elim (cases_lt w v) [
                | inl early ↦
                    let come = ap (come_to 1024) here in
                    absurd
                    (searching.none w others (omega (arith, come)) (deep ∙ depths ∙ h.deep) leads)
                | inr late ↦ first-less v w (points_of_line found) others late (λ e.
                    let same = subst (λ (x : ℕ). LeadsToLine g p side (x ∷ others)) e leads in
                    let replied = (leads-tried g p side v others searches.attacking.turn
                    searches.attacking.position.disjoint searches.attacking.unfilled.mine far
                    same).1 in
                    let same_depth = attack-depth g side v others (after g p v) replied in
                    let heads : depth_of (w ∷ others) ≡ depth_of (v ∷ others) = omega arith in
                    h.first.first others replied (sym same_depth ∙ sym heads ∙ deep ∙ depths))
              ]

    -- where no attack is left none leads to a line
    pub search-over : IsSearching g p side depth attacks None
        → IsFound (LeadsToLine g p side) depth None
    search-over searching [] leads deep = leads
    search-over searching (w ∷ points) leads deep =
        let at = attack-free w (begins w points deep leads) in
        searching.none w points (omega (arith, at.range, point_count-le g)) deep leads

-- ---- replies

-- what goes on after an attack has room for the attack
pub replied-short : (g : Game) (q : Position) (side : Side) (depth : ℕ) (t : ThreatLine)
    → IsFound (Replied g q side) depth (Some t)
    → depth ≤ 3
    → t.len < 7
replied-short g q side depth t h few =
    omega (arith, few, h.whole, h.deep, replied-length g side (points_of_line t) q h.first.is)

module _ (g : Game) (q : Position) (side : Side) (one : g.bias ≡ 1)
    (answering : IsAnswering g q side) where
  -- where the side lacks a point the other side must take it, and the side is then to move again
  forced-at : (u : ℕ) → Near g q side u → IsForced g q side u
  forced-at u n = record {
    position = answering.position;
    turn = answering.turn;
    unfilled = answering.unfilled;
    near = n;
    safe = answering.safe;
  }

  pub replied-attacking : (u : ℕ) → Near g q side u → IsAttacking g (after g q u) side
  replied-attacking u n =
      attacking-after g side one q u u (forced-at u n) (near-range g n.line u n.listed n.on) n.free

  -- two such points are a reply and a last attack
  two-replied : (u w : ℕ)
      → Near g q side u
      → Near g q side w
      → u ≢ w
      → Replied g q side (u ∷ (w ∷ []))
  two-replied u w at there ne = (
    near-to g q side u at,
    near-filling g (after g q u) side w (replied-attacking u at).turn
        (near-stays g q side w u ne there),
  )

  -- a last attack after the reply takes a point that was lacked before it
  last-near : (u w : ℕ)
      → Near g q side u
      → LeadsToLine g (after g q u) side (w ∷ [])
      → Near g q side w × (w ≢ u)
  last-near u w at leads = near-was g q side u w answering.turn
      (filling-near g (after g q u) side w (replied-attacking u at).turn
      (replied-attacking u at).unfilled.mine leads)

  module _ (replies : FinSet nat_cmp)
      (is : (v : ℕ) → contains replies v ≡ is_lacking g q side 1 v) where
    reply-near : (u : ℕ) → contains replies u ≡ true → Near g q side u
    reply-near u member = one-near g q side answering.position.disjoint u (sym (is u) ∙ member)

    near-reply : (u : ℕ) → Near g q side u → contains replies u ≡ true
    near-reply u n = is u ∙ one-lacked g q side answering.position.disjoint u n

    pub reply-free : (u : ℕ)
        → contains replies u ≡ true
        → (u < point_count g) × (is_free q u ≡ true)
    reply-free u member =
        let n = reply-near u member in
        (near-range g n.line u n.listed n.on, n.free)

    pub reply-attacking : (u : ℕ) → contains replies u ≡ true → IsAttacking g (after g q u) side
    reply-attacking u member = replied-attacking u (reply-near u member)

    -- no reply is forced
    pub reply-none : (depth : ℕ)
        → ((v : ℕ) → 0 ≤ v → contains replies v ≡ false)
        → IsFound (Replied g q side) depth None
    reply-none depth none [] h deep = h
    reply-none depth none (u ∷ points) h deep =
        false≢true (sym (none u (omega arith)) ∙ near-reply u (near-from g q side u h.0))

    module _ (u : ℕ) (least : IsLeastFrom replies 0 u) where
      -- the last attack is the next point that is lacked
      pub reply-two : (w : ℕ) (t : ThreatLine)
          → IsLeastFrom replies (u + 1) w
          → points_of_line t ≡ u ∷ (w ∷ [])
          → t.len ≡ 2
          → IsFound (Replied g q side) 1 (Some t)
      reply-two w t next same len = found-as (Replied g q side) 1 t (u ∷ (w ∷ [])) same (sym len)
          (record {
            is = two-replied u w (reply-near u least.member) (reply-near w next.member) apart;
            first = first;
          }) refl
        where
          apart : u ≢ w
          apart e = let above = next.above in absurd (omega arith)

          last-le : (x : ℕ) → Near g q side x → x ≢ u → w ≤ x
          last-le x n ne =
              let low = least.least x (omega arith) (near-reply x n) in
              next.least x (omega arith) (near-reply x n)

          first : (others : List ℕ)
              → Replied g q side others
              → depth_of others ≡ 1
              → ComesFirst (u ∷ (w ∷ [])) others
          first [] h deep = absurd h
          first (v ∷ []) h deep = absurd h.1
          first (v ∷ (x ∷ [])) h deep =
              let at = near-from g q side v h.0 in
              let there = last-near v x at h.1 in
              first-less u v (w ∷ []) (x ∷ []) (least.least v (omega arith) (near-reply v at))
              (λ e. first-less w x [] [] (last-le x there.0 (λ f. there.1 (f ∙ sym e))) (λ _. tt))
          first (v ∷ (x ∷ (y ∷ points))) h deep =
              let long = replied-length g side (v ∷ (x ∷ (y ∷ points))) q h in
              absurd (omega (arith, long))

      -- with one point alone there is no last attack
      pub reply-one : ((v : ℕ) → u + 1 ≤ v → contains replies v ≡ false)
          → IsFound (Replied g q side) 1 None
      reply-one none [] h deep = h
      reply-one none (v ∷ []) h deep = h.1
      reply-one none (v ∷ (x ∷ [])) h deep =
          let at = near-from g q side v h.0 in
          let there = last-near v x at h.1 in
          there.1 (only x there.0 ∙ sym (only v at))
        where
          only : (y : ℕ) → Near g q side y → y ≡ u
          only y n = elim (cases_eq y u) [
            | inl e ↦ e
            | inr ne ↦
                let low = least.least y (omega arith) (near-reply y n) in
                absurd (false≢true (sym (none y (omega arith)) ∙ near-reply y n))
          ]
      reply-one none (v ∷ (x ∷ (y ∷ points))) h deep =
          let long = replied-length g side (v ∷ (x ∷ (y ∷ points))) q h in
          omega (arith, long)

      module _ (depth : ℕ) (deeper : 2 ≤ depth) (none : NoneBelow (Replied g q side) depth) where
        -- where no list of less depth goes on, no other reply is forced
        only-reply : (v : ℕ) → Near g q side v → v ≡ u
        only-reply v n = elim (cases_eq v u) [
          | inl e ↦ e
          | inr ne ↦
              let deep = none (u ∷ (v ∷ []))
              (two-replied u v (reply-near u least.member) n (λ e. ne (sym e))) in
              absurd (omega (arith, deep))
        ]

        reply-leads : (points : List ℕ)
            → LeadsToLine g (after g q u) side points
            → Replied g q side (u ∷ points)
        reply-leads points leads = (near-to g q side u (reply-near u least.member), leads)

        pub reply-least : NoneBelow (LeadsToLine g (after g q u) side) (depth - 1)
        reply-least points leads =
            let le = none (u ∷ points) (reply-leads points leads) in
            omega (arith, le, replied-depth g side u points q (reply-leads points leads))

        pub reply-fails : IsFound (LeadsToLine g (after g q u) side) (depth - 1) None
            → IsFound (Replied g q side) depth None
        reply-fails fails [] h deep = h
        reply-fails fails (v ∷ points) h deep =
            let same = only-reply v (near-from g q side v h.0) in
            let leads = subst (λ (x : ℕ). LeadsToLine g (after g q x) side points) same h.1 in
            fails points leads (omega (arith, deep, replied-depth g side v points q h))

        -- where no line is left after it of which the side lacks two
        pub reply-barren : ((w : ℕ) → is_lacking g (after g q u) side 2 w ≡ false)
            → IsFound (Replied g q side) depth None
        reply-barren barren = reply-fails no-list
          where
            no-list : (points : List ℕ)
                → LeadsToLine g (after g q u) side points
                → depth_of points ≡ depth - 1
                → ⊥
            no-list [] leads deep = leads
            no-list (w ∷ points) leads deep =
                let h = reply-attacking u least.member in
                let far = none-near g (after g q u) side (depth - 1) h (omega arith) reply-least in
                false≢true (sym (barren w)
                ∙ (leads-tried g (after g q u) side w points h.turn h.position.disjoint
                h.unfilled.mine far leads).0.two)

        pub reply-found : (found t : ThreatLine)
            → IsFound (LeadsToLine g (after g q u) side) (depth - 1) (Some found)
            → points_of_line t ≡ u ∷ points_of_line found
            → t.len ≡ found.len + 1
            → IsFound (Replied g q side) depth (Some t)
        reply-found found t h same len =
            let points = points_of_line found in
            let deep = replied-depth g side u points q (reply-leads points h.first.is) in
            found-as (Replied g q side) depth t (u ∷ points) same (omega (arith, h.whole, len))
            (record { is = reply-leads points h.first.is; first = first })
            (omega (arith, deep, h.deep))
          where
            first : (others : List ℕ)
                → Replied g q side others
                → depth_of others ≡ depth_of (u ∷ points_of_line found)
                → ComesFirst (u ∷ points_of_line found) others
            first [] replied deep = absurd replied
            first (v ∷ others) replied deep =
                let same = only-reply v (near-from g q side v replied.0) in
                let leads =
                subst (λ (x : ℕ). LeadsToLine g (after g q x) side others) same replied.1 in
                let one = replied-depth g side v others q replied in
                let two = replied-depth g side u (points_of_line found) q
                (reply-leads (points_of_line found) h.first.is) in
                inr (sym same, h.first.first others leads (omega (arith, deep, one, two)))

-- ---- lists of depth 1

-- which attacks may begin a list of a depth: all that are tried, and for depth 1 those that are
-- lacked on two lines
pub begins-depth : (g : Game) (p : Position) (side : Side) (depth : ℕ)
    (searches : SearchesAt g p side depth) (all forks attacks : FinSet nat_cmp)
    → attacks ≡ (if depth == 1 then forks else all)
    → ((v : ℕ) → (contains all v ≡ true) ↔ IsTried g p side v)
    → ((v : ℕ) → contains all v ≡ true
    → IsLackedTwice g p side 2 (length (lines_of g)) v
    → contains forks v ≡ true)
    → Begins g p side depth attacks
begins-depth g p side depth searches all forks attacks is tried twice v points deep leads =
    let member = begins-all g p side depth searches all tried v points deep leads in
    elim (cases_Bool (depth == 1)) [
      | inr deeper ↦
          subst (λ (s : FinSet nat_cmp). contains s v ≡ true) (sym (is ∙ pick_all deeper)) member
      | inl last ↦ subst (λ (s : FinSet nat_cmp). contains s v ≡ true) (sym (is ∙ pick_forks last))
          (twice v member (fork points (deep ∙ eqb-true depth 1 last) leads))
    ]
  where
    pick_all : (depth == 1) ≡ false → (if depth == 1 then forks else all) ≡ all
    pick_all off = rw off refl

    pick_forks : (depth == 1) ≡ true → (if depth == 1 then forks else all) ≡ forks
    pick_forks on = rw on refl

    far-off : (u : ℕ) → Near g p side u → ⊥
    far-off = none-near g p side depth searches.attacking searches.some searches.least

    fork : (points : List ℕ)
        → depth_of (v ∷ points) ≡ 1
        → LeadsToLine g p side (v ∷ points)
        → IsLackedTwice g p side 2 (length (lines_of g)) v
    fork [] deep leads = absurd (omega arith)
    fork (u ∷ []) deep leads = absurd leads.1
    fork (u ∷ (w ∷ [])) deep leads =
        let f = leads.0 in
        let answering = answering-after g side searches.single p searches.attacking v far-off
        (leads-tried g p side v (u ∷ (w ∷ [])) searches.attacking.turn
        searches.attacking.position.disjoint searches.attacking.unfilled.mine far-off leads).0 in
        let at = near-from g (after g p v) side u f.threat in
        let there = last-near g (after g p v) side searches.single answering u w at leads.1 in
        fork-twice g side p searches.attacking.turn searches.attacking.position.disjoint far-off v u
        w f.attack at there.0 there.1
    fork (u ∷ (w ∷ (x ∷ points))) deep leads =
        let long = leads-length g side (v ∷ (u ∷ (w ∷ (x ∷ points)))) p leads in
        absurd (omega (arith, long))

-- and they are all tried
pub tried-depth : (g : Game) (p : Position) (side : Side) (depth : ℕ)
    (all forks attacks : FinSet nat_cmp)
    → attacks ≡ (if depth == 1 then forks else all)
    → ((v : ℕ) → (contains all v ≡ true) ↔ IsTried g p side v)
    → ((v : ℕ) → contains forks v ≡ true → contains all v ≡ true)
    → (v : ℕ) → contains attacks v ≡ true
    → IsTried g p side v
tried-depth g p side depth all forks attacks is tried some v member =
    (tried v).0 (elim (cases_Bool (depth == 1)) [
      | inl last ↦
          some v (subst (λ (s : FinSet nat_cmp). contains s v ≡ true) (is ∙ pick_forks last) member)
      | inr deeper ↦
          subst (λ (s : FinSet nat_cmp). contains s v ≡ true) (is ∙ pick_all deeper) member
    ])
  where
    pick_all : (depth == 1) ≡ false → (if depth == 1 then forks else all) ≡ all
    pick_all off = rw off refl

    pick_forks : (depth == 1) ≡ true → (if depth == 1 then forks else all) ≡ forks
    pick_forks on = rw on refl

-- ---- the whole search

-- where the side lacks more than one point of each line and no attack is tried, there is no threat
-- line
pub forced-none : (g : Game) (p : Position) (side : Side) (depth : ℕ)
    → may_attack g.kind side ≡ true
    → ShareNone p.x p.y
    → is_over g p ≡ false
    → p.turn ≡ side
    → (wins : FinSet nat_cmp) → ((u : ℕ) → contains wins u ≡ is_lacking g p side 1 u)
    → ((v : ℕ) → 0 ≤ v → contains wins v ≡ false)
    → (all : FinSet nat_cmp) → ((v : ℕ) → (contains all v ≡ true) ↔ IsTried g p side v)
    → ((v : ℕ) → 0 ≤ v → contains all v ≡ false)
    → AreDeeper g p side depth
forced-none g p side depth may disjoint going turn wins is none all tried empty points line =
    absurd (no-list points line.leads)
  where
    far-off : (v : ℕ) → Near g p side v → ⊥
    far-off v n = false≢true (sym (none v (omega arith)) ∙ is v ∙ one-lacked g p side disjoint v n)

    no-list : (others : List ℕ) → LeadsToLine g p side others → ⊥
    no-list [] leads = leads
    no-list (v ∷ others) leads =
        let mine = (unfilled-going g side may p going).mine in
        false≢true (sym (empty v (omega arith))
        ∙ (tried v).1 (leads-tried g p side v others turn disjoint mine far-off leads).0)

-- where the side lacks more than two points of each line, there is none
pub forced-far : (g : Game) (p : Position) (side : Side) (depth : ℕ)
    → may_attack g.kind side ≡ true
    → ShareNone p.x p.y
    → is_over g p ≡ false
    → p.turn ≡ side
    → ((v : ℕ) → is_lacking g p side 1 v ≡ false)
    → ((v : ℕ) → is_lacking g p side 2 v ≡ false)
    → AreDeeper g p side depth
forced-far g p side depth may disjoint going turn one two =
    forced-none g p side depth may disjoint going turn empty
    (λ v. contains-empty nat_cmp v ∙ sym (one v)) (λ v _. contains-empty nat_cmp v) empty (λ v. (
      λ on. absurd (false≢true (sym (contains-empty nat_cmp v) ∙ on)),
      λ tried. absurd (false≢true (sym (two v) ∙ tried.two)),
    )) (λ v _. contains-empty nat_cmp v)

module _ (g : Game) (p : Position) (side : Side) (one : g.bias ≡ 1)
    (may : may_attack g.kind side ≡ true) (position : IsPosition g p) (going : is_over g p ≡ false)
    (turn : p.turn ≡ side) where
  forced-attacking : IsAttacking g p side
  forced-attacking = record {
    position = position;
    turn = turn;
    unfilled = unfilled-going g side may p going;
  }

  line-of : (points : List ℕ) → LeadsToLine g p side points → IsThreatLine g p side points
  line-of points leads = record { single = one; going = going; turn = turn; leads = leads }

  -- where there is none of less depth, lists of a depth are searched
  pub forced-searches : (depth : ℕ)
      → NoneBelow (LeadsToLine g p side) depth
      → 1 ≤ depth
      → depth ≤ 3
      → SearchesAt g p side depth
  forced-searches depth least some few = record {
    attacking = forced-attacking;
    single = one;
    least = least;
    some = some;
    few = few;
  }

  -- what was found at the least depth is the answer
  pub forced-found : (depth least : ℕ) (t : ThreatLine)
      → least ≤ depth
      → NoneBelow (LeadsToLine g p side) least
      → IsFound (LeadsToLine g p side) least (Some t)
      → IsAnswer g p side depth (Some t)
  forced-found depth least t few none h = record {
    first = record {
      line = line-of (points_of_line t) h.first.is;
      least = λ others line. let le = none others line.leads in omega (arith, h.deep);
      first = λ others line deep. h.first.first others line.leads deep;
    };
    few = omega (arith, h.deep);
    whole = h.whole;
  }

  -- the last attack of all, where there is one
  pub forced-near : (depth : ℕ) (wins : FinSet nat_cmp) (v : ℕ) (t : ThreatLine)
      → ((u : ℕ) → contains wins u ≡ is_lacking g p side 1 u)
      → IsLeastFrom wins 0 v
      → points_of_line t ≡ v ∷ []
      → t.len ≡ 1
      → IsAnswer g p side depth (Some t)
  forced-near depth wins v t is least same len = forced-found depth 0 t (omega arith)
      (λ points leads. omega arith)
      (found-as (LeadsToLine g p side) 0 t (v ∷ []) same (sym len) (record {
        is = wins-at;
        first = first;
      }) refl)
    where
      wins-at : LeadsToLine g p side (v ∷ [])
      wins-at = near-filling g p side v turn
          (one-near g p side position.disjoint v (sym (is v) ∙ least.member))

      first : (others : List ℕ)
          → LeadsToLine g p side others
          → depth_of others ≡ 0
          → ComesFirst (v ∷ []) others
      first [] leads deep = absurd leads
      first (w ∷ []) leads deep =
          let n = filling-near g p side w turn (unfilled-going g side may p going).mine leads in
          first-less v w [] []
          (least.least w (omega arith) (is w ∙ one-lacked g p side position.disjoint w n)) (λ _. tt)
      first (w ∷ (u ∷ others)) leads deep =
          let long = leads-length g side (w ∷ (u ∷ others)) p leads in
          absurd (omega (arith, long))

  -- where there is none each list is deeper
  pub forced-deeper : (wins : FinSet nat_cmp)
      → ((u : ℕ) → contains wins u ≡ is_lacking g p side 1 u)
      → ((v : ℕ) → 0 ≤ v → contains wins v ≡ false)
      → NoneBelow (LeadsToLine g p side) 1
  forced-deeper wins is none [] leads = absurd leads
  forced-deeper wins is none (w ∷ []) leads =
      let n = filling-near g p side w turn (unfilled-going g side may p going).mine leads in
      absurd
      (false≢true (sym (none w (omega arith)) ∙ is w ∙ one-lacked g p side position.disjoint w n))
  forced-deeper wins is none (w ∷ (u ∷ others)) leads =
      let long = leads-length g side (w ∷ (u ∷ others)) p leads in
      omega (arith, long)

-- one depth more
pub next-depth : (P : List ℕ → Type 0) (depth : ℕ)
    → NoneBelow P depth
    → IsFound P depth None
    → NoneBelow P (depth + 1)
next-depth P depth below none points h = elim (cases_eq (depth_of points) depth) [
  | inl e ↦ absurd (none points h e)
  | inr ne ↦ let le = below points h in omega arith
]

-- the next attack is further on
pub attack-falls : (attacks : FinSet nat_cmp) (v : ℕ) (last next : Option ℕ)
    → v < 1024
    → last ≡ Some v
    → IfSome next (λ w. IsLeastFrom attacks (v + 1) w)
    → left_to 1024 next < left_to 1024 last
attack-falls attacks v last None small is found =
    let come = ap (left_to 1024) is in
    omega (arith, come)
attack-falls attacks v last (Some w) small is found =
    let come = ap (left_to 1024) is in
    omega (arith, come, found.above)
