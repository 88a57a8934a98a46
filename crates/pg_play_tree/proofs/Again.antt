-- A player that is given the same points again stands where it stood.
use Rattle.std.proofs.Common.{◌≡◌, ◌∙◌, ℕ, suc, zero, ◌-◌, List, [], ◌∷◌, ◌++◌, length, take}
use Rattle.std.proofs.Common.{◌+◌, ◌<◌, Result, Ok, inl, inr, refl, ap, arith, get_or, sym}
use Rattle.std.proofs.Common.{subst}
use Rattle.std.proofs.lemmas.Bool.{false≢true}
use Rattle.std.proofs.lemmas.Option.{same_Some}
use Rattle.pg_cert.specs.OwnMove.{OwnMove, Standing}
use Rattle.pg_game.proofs.Moves.{IsPosition-played, IsPosition-start, side≢other}
use Rattle.pg_game.specs.Play.{IsLegalPlay, played}
use Rattle.pg_game.specs.declared.position.Illegal.{Illegal}
use Rattle.pg_play_tree.specs.Prelude.{Cert, Claim, Game, MakesMove, Play, Position, Side}
use Rattle.pg_play_tree.specs.Prelude.{Waits, arrives, judged_move}
use Rattle.pg_play_tree.specs.Prelude.{IsPosition, start}
use Rattle.pg_play_tree.specs.Lines.{ComesTo, Opens, Plays}
use Rattle.pg_play_tree.specs.Places.{CanPlay, CanPlayAll, Leads, OpensTo}

-- ---- plays

abbrev made : Game → Claim → Position → Standing → Play
made g c p s = record { game = g; claim = c; position = p; standing = s }

same_play : (a b : Play)
    → a.game ≡ b.game
    → a.claim ≡ b.claim
    → a.position ≡ b.position
    → a.standing ≡ b.standing
    → a ≡ b
same_play a b game claim position standing =
    ap (λ (x : Game). made x a.claim a.position a.standing) game
    ∙ ap (λ (x : Claim). made b.game x a.position a.standing) claim
    ∙ ap (λ (x : Position). made b.game b.claim x a.standing) position
    ∙ ap (λ (x : Standing). made b.game b.claim b.position x) standing

same_Ok : (x y : Position) (r : Result Position Illegal) → r ≡ Ok x → r ≡ Ok y → x ≡ y
same_Ok x y r e k = cc

-- a side's player opens in one way
pub opens_once : (g : Game) (cert : Cert) (side : Side) (a b : Play)
    → Opens g cert side a
    → Opens g cert side b
    → a ≡ b
opens_once g cert side a b o q =
    let claim : a.claim ≡ b.claim = same_Some _ _ (sym o.claim ∙ q.claim) in
    same_play a b (o.game ∙ sym q.game) claim (o.position ∙ sym q.position)
    (same_Some _ _ (sym o.standing
    ∙ ap (λ (c : Claim). arrives c.nodes (length c.nodes - 1)) claim
    ∙ q.standing))

-- where the player moves it doesn't wait
pub moves_only : (a b : Play) (v : ℕ) → MakesMove a b v → Waits a → ⊥
moves_only a b v m (inl over) = absurd (false≢true (sym m.going ∙ over))
moves_only a b v m (inr turn) = side≢other a.claim.side (sym m.turn ∙ turn)

imagined_once : (a b c : Play) (v w : ℕ) (m : MakesMove a b v) (n : MakesMove a c w)
    → m.imagined ≡ n.imagined
imagined_once a b c v w m n = same_Some _ _ (sym m.own ∙ n.own)

-- a point leads it to one place
pub plays_once : (a b c : Play) (v : ℕ) → Plays a b v → Plays a c v → b ≡ c
plays_once a b c v (inl m) (inl n) =
    same_play b c (m.same_game ∙ sym n.same_game) (m.same_claim ∙ sym n.same_claim)
    (m.position ∙ sym n.position)
    (same_Some _ _ (sym m.next
    ∙ ap (λ (i : OwnMove). i.next) (imagined_once a b c v v m n)
    ∙ n.next))
plays_once a b c v (inl m) (inr (waits, t)) = absurd (moves_only a b v m waits)
plays_once a b c v (inr (waits, t)) (inl n) = absurd (moves_only a c v n waits)
plays_once a b c v (inr (waits, t)) (inr (again, u)) =
    same_play b c (t.same_game ∙ sym u.same_game) (t.same_claim ∙ sym u.same_claim)
    (same_Ok b.position c.position (judged_move a.game a.position v) t.legal u.legal)
    (same_Some _ _ (sym t.replied ∙ u.replied))

-- the game stays
pub plays_game : (a b : Play) (v : ℕ) → Plays a b v → b.game ≡ a.game
plays_game a b v (inl m) = m.same_game
plays_game a b v (inr (waits, t)) = t.same_game

-- ---- points one after the other

pub leads_once : (vs : List ℕ) (a b c : Play) → Leads a vs b → Leads a vs c → b ≡ c
leads_once [] a b c l k = l ∙ sym k
leads_once (v ∷ vs) a b c (m, p, l) (n, q, k) =
    leads_once vs n b c (subst (λ (x : Play). Leads x vs b) (plays_once a m n v p q) l) k

pub leads_split : (vs : List ℕ) (a b : Play) (v : ℕ)
    → Leads a (vs ++ v ∷ []) b
    → (m : Play) × Leads a vs m × Plays m b v
leads_split [] a b v (m, p, same) = (a, refl, subst (λ (x : Play). Plays a x v) (sym same) p)
leads_split (w ∷ ws) a b v (n, q, l) =
    let rest = leads_split ws n b v l in (rest.0, (n, q, rest.1), rest.2)

-- the points up to the one with a number, and that one
pub leads_more : (vs : List ℕ) (i : ℕ) (a m b : Play)
    → i < length vs
    → Leads a (take i vs) m
    → Plays m b (get_or vs i 0)
    → Leads a (take (i + 1) vs) b
leads_more [] i a m b low l p = absurd (omega (arith, low))
leads_more (w ∷ ws) zero a m b low same p =
    (b, subst (λ (x : Play). Plays x b w) same p, refl)
leads_more (w ∷ ws) (suc i) a m b low (n, q, l) p =
    let on : suc (i + 1) ≡ suc i + 1 = omega arith in
    subst (λ (k : ℕ). Leads a (take k (w ∷ ws)) b) on
    (n, q, leads_more ws i n m b (omega (arith, low)) l p)

leads_game : (vs : List ℕ) (a b : Play) → Leads a vs b → b.game ≡ a.game
leads_game [] a b same = ap (λ (x : Play). x.game) same
leads_game (v ∷ vs) a b (m, p, l) = leads_game vs m b l ∙ plays_game a m v p

-- ---- what can be played

pub plays_able : (a b : Play) (v : ℕ) → Plays a b v → CanPlay a v
plays_able a b v (inl m) = inl (b, m)
plays_able a b v (inr (waits, t)) = inr (waits, b.position, t.legal)

-- after points that were played, a further one that can be played
pub all_able : (vs : List ℕ) (a m : Play) (v : ℕ)
    → Leads a vs m
    → CanPlay m v
    → CanPlayAll a (vs ++ v ∷ [])
all_able [] a m v same can = (subst (λ (x : Play). CanPlay x v) same can, λ n p. tt)
all_able (w ∷ ws) a m v (n, q, l) can = (
  plays_able a n w q,
  λ k p. subst (λ (x : Play). CanPlayAll x (ws ++ v ∷ [])) (plays_once a n k w q p)
      (all_able ws n m v l can),
)

-- of points that can be played, the one after those that were
pub able_at : (vs : List ℕ) (i : ℕ) (a m : Play)
    → i < length vs
    → CanPlayAll a vs
    → Leads a (take i vs) m
    → CanPlay m (get_or vs i 0)
able_at [] i a m low all l = absurd (omega (arith, low))
able_at (w ∷ ws) zero a m low all same = subst (λ (x : Play). CanPlay x w) (sym same) all.0
able_at (w ∷ ws) (suc i) a m low all (n, q, l) =
    able_at ws i n m (omega (arith, low)) (all.1 n q) l

-- ---- lines of play

comes_on : (g : Game) (cert : Cert) (side : Side) (vs : List ℕ) (a b : Play)
    → ComesTo g cert side a
    → Leads a vs b
    → ComesTo g cert side b
comes_on g cert side [] a b comes same =
    subst (λ (x : Play). ComesTo g cert side x) (sym same) comes
comes_on g cert side (v ∷ vs) a b comes (m, p, l) =
    comes_on g cert side vs m b (a ∷ comes.0, ((v, p), comes.1)) l

-- from the opening on, points are a line of play
pub opens_comes : (g : Game) (cert : Cert) (side : Side) (vs : List ℕ) (a : Play)
    → OpensTo g cert side vs a
    → ComesTo g cert side a
opens_comes g cert side vs a (o, opens, l) = comes_on g cert side vs o a ([], opens) l

pub opens_game : (g : Game) (cert : Cert) (side : Side) (vs : List ℕ) (a : Play)
    → OpensTo g cert side vs a
    → a.game ≡ g
opens_game g cert side vs a (o, opens, l) = leads_game vs o a l ∙ opens.game

-- a position after a legal play is one of the game
pub reached_fits : (h g : Game) (p : Position) (moves : List ℕ)
    → h ≡ g
    → IsLegalPlay h (start h) moves
    → played h (start h) moves ≡ p
    → IsPosition g p
reached_fits h g p moves same legal is = subst (λ (k : Game). IsPosition k p) same
    (subst (λ (q : Position). IsPosition h q) is
    (IsPosition-played h (start h) moves (IsPosition-start h) legal))
