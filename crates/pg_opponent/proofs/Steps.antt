-- Moves and replies of the player, put together.
use Rattle.std.proofs.Common.{◌≡◌, ◌∙◌, ℕ, ◌<◌, List, [], ◌∷◌, ◌++◌, map, length, Result, Ok}
use Rattle.std.proofs.Common.{Err, is_ok, refl, sym, ap, subst, arith, ◌≤◌, ◌-◌, drop, get_or, take}
use Rattle.std.proofs.lemmas.List.{append-nil, append_assoc, map-append, take_all}
use Rattle.std.proofs.lemmas.List.Elements.{All-append, All-cons, All-nil}
use Rattle.std.specs.Prelude.{IfOk}
use Rattle.pg_opponent.proofs.Common.{Claim, Event, Game, Illegal, MakesMove, Play, Player}
use Rattle.pg_opponent.proofs.Common.{Position, TakesReply, after, free_points, judged_move}
use Rattle.pg_opponent.proofs.Common.{length-free_points-after, point_count, start}
use Rattle.pg_opponent.specs.Fits.{AreOwnWithin, AreWithin, IsLegal, IsOn, Led, MayPlay, Went}
use Rattle.pg_opponent.specs.Sitting.{Answered, Begins, Comes, IsAnswered, Makes, MakesBy, Opens}
use Rattle.pg_opponent.specs.Sitting.{Sitting, event_of, place}
use Rattle.pg_opponent.specs.declared.seat.OwnPoint.{OwnPoint}
use Rattle.pg_record.specs.Session.{Recorded}
use Rattle.pg_opponent.proofs.Recording.{free_is_judged, judged_after, judged_within, legal_more}
use Rattle.pg_opponent.proofs.Recording.{no_events, no_moves, place_more}

-- ---- a move

-- a move that the player makes may be recorded
pub move_may : (g : Game) (a b : Player) (events : List Event) (v : ℕ)
    → a.game ≡ g
    → a.position ≡ place g events
    → MakesMove a b v
    → MayPlay g events v
move_may g a b events v same at made = ap is_ok judged_at where
  judged_at : judged_move g (place g events) v ≡ Ok (after g (place g events) v)
  judged_at = subst (λ (p : Position). judged_move g p v ≡ Ok (after g p v)) at
      (subst (λ (h : Game). judged_move h a.position v ≡ Ok (after h a.position v)) same
      (free_is_judged a.game a.position v made.within made.going made.free))

-- where it leads
pub move_leads : (g : Game) (a b : Player) (events : List Event) (v : ℕ)
    → a.game ≡ g
    → a.position ≡ place g events
    → MakesMove a b v
    → b.position ≡ place g (events ++ Play v ∷ [])
move_leads g a b events v same at made = made.position
    ∙ (λ i. after (same i) (at i) v) ∙ sym (place_more g events v)

-- fewer points are free
pub move_shortens : (a b : Player) (v : ℕ)
    → MakesMove a b v
    → length (free_points b.game b.position) < length (free_points a.game a.position)
move_shortens a b v made =
    let same : length (free_points b.game b.position)
    ≡ length (free_points a.game (after a.game a.position v)) =
    (λ i. length (free_points (made.same_game i) (made.position i))) in
    omega (arith, same, length-free_points-after a.game a.position v made.within made.free)

-- a further move
pub makes_more : (a b c : Player) (own : List OwnPoint) (made : OwnPoint)
    → Makes a own b
    → MakesBy b c made
    → Makes a (own ++ made ∷ []) c
makes_more a b c [] made makes by = (c, subst (λ (k : Player). MakesBy k c made) makes by, refl)
makes_more a b c (w ∷ others) made (m, first, rest) by =
    (m, first, makes_more m b c others made rest by)

-- ---- the moves that are owed

-- nothing was done yet
pub led_nothing : (s : Sitting) → Led s s
led_nothing s = record {
  own = [];
  makes = refl;
  more = sym (append-nil s.own);
  events = sym (append-nil s.events);
  replies = refl;
}

-- a further move is recorded
module _ (g : Game) (c : Claim) (s t u : Sitting) (made : OwnPoint) (on : IsOn g c t)
    (by : MakesBy t.player u.player made) (events : u.events ≡ t.events ++ event_of made ∷ [])
    (own : u.own ≡ t.own ++ made ∷ []) (replies : u.replies ≡ t.replies) where
  pub on_more : IsOn g c u
  on_more = record {
    same_game = by.makes.same_game ∙ on.same_game;
    same_claim = by.makes.same_claim ∙ on.same_claim;
    legal = subst (λ (es : List Event). IsLegal g es) (sym events)
        (legal_more g t.events made.point on.legal
        (move_may g t.player u.player t.events made.point on.same_game on.position by.makes));
    position = move_leads g t.player u.player t.events made.point on.same_game on.position by.makes
        ∙ ap (λ (es : List Event). place g es) (sym events);
    within = subst (λ (points : List OwnPoint). AreOwnWithin g points) (sym own)
        (All-append (λ (w : OwnPoint). w.point < point_count g) t.own (made ∷ []) on.within
        (All-cons (λ (w : OwnPoint). w.point < point_count g) made []
        (subst (λ (h : Game). made.point < point_count h) on.same_game by.makes.within)
        (All-nil (λ (w : OwnPoint). w.point < point_count g))));
    replies = subst (λ (vs : List ℕ). AreWithin g vs) (sym replies) on.replies;
  }

  pub led_more : Led s t → Led s u
  led_more led = record {
    own = led.own ++ made ∷ [];
    makes = makes_more s.player t.player u.player led.own made led.makes by;
    more = own ∙ ap (λ (points : List OwnPoint). points ++ made ∷ []) led.more
        ∙ append_assoc s.own led.own (made ∷ []);
    events = events ∙ ap (λ (es : List Event). es ++ event_of made ∷ []) led.events
        ∙ append_assoc s.events (map event_of led.own) (event_of made ∷ [])
        ∙ ap (λ (es : List Event). s.events ++ es) (sym (map-append event_of led.own (made ∷ [])));
    replies = replies ∙ led.replies;
  }

-- ---- a reply

-- a legal reply is recorded
module _ (g : Game) (c : Claim) (s : Sitting) (between : Player) (v : ℕ) (on : IsOn g c s)
    (takes : TakesReply s.player between v) (replies : List ℕ)
    (more : replies ≡ s.replies ++ v ∷ []) where
  judged_there : judged_move g (place g s.events) v ≡ Ok between.position
  judged_there = subst (λ (p : Position). judged_move g p v ≡ Ok between.position) on.position
      (subst (λ (h : Game). judged_move h s.player.position v ≡ Ok between.position) on.same_game
      takes.legal)

  -- before the player's own moves
  abbrev pub Heard : Sitting
  Heard = record {
    player = between;
    events = s.events ++ Play v ∷ [];
    own = [];
    replies = replies;
  }

  pub reply_on : IsOn g c Heard
  reply_on = record {
    same_game = takes.same_game ∙ on.same_game;
    same_claim = takes.same_claim ∙ on.same_claim;
    legal = legal_more g s.events v on.legal (ap is_ok judged_there);
    position = judged_after g (place g s.events) between.position v judged_there
        ∙ sym (place_more g s.events v);
    within = All-nil (λ (made : OwnPoint). made.point < point_count g);
    replies = subst (λ (vs : List ℕ). AreWithin g vs) (sym more)
        (All-append (λ w. w < point_count g) s.replies (v ∷ []) on.replies
        (All-cons (λ w. w < point_count g) v []
        (judged_within g (place g s.events) between.position v judged_there)
        (All-nil (λ w. w < point_count g))));
  }

  -- and after them
  pub answered_with : (t : Sitting) → Went Heard t → Answered s v t
  answered_with t (led, waits) = record {
    between = between;
    takes = takes;
    settles = (
      subst (λ (points : List OwnPoint). Makes between points t.player) (sym led.more) led.makes,
      waits,
    );
    events = led.events
        ∙ append_assoc s.events (Play v ∷ []) (map event_of led.own)
        ∙ ap (λ (points : List OwnPoint). s.events ++ Play v ∷ map event_of points) (sym led.more);
    replies = led.replies ∙ more;
  }

-- ---- the beginning

-- a player at the game's position, and a session without events
pub begun_on : (g : Game) (a : Player) (session : Recorded) (own : List OwnPoint)
    (replies : List ℕ)
    → a.game ≡ g
    → a.position ≡ start g
    → session ≡ record { game = g; events = [] }
    → own ≡ []
    → replies ≡ []
    → IsOn session.game a.claim (record {
      player = a;
      events = session.events;
      own = own;
      replies = replies;
    })
begun_on g a session own replies same at new none unheard = record {
  same_game = same ∙ sym game;
  same_claim = refl;
  legal =
      subst (λ (es : List Event). IsLegal session.game es) (sym events) (no_events session.game);
  position = at ∙ (λ i. start (sym game i)) ∙ sym (no_moves session.game)
      ∙ ap (λ (es : List Event). place session.game es) (sym events);
  within = subst (λ (points : List OwnPoint). AreOwnWithin session.game points) (sym none)
      (All-nil (λ (made : OwnPoint). made.point < point_count session.game));
  replies = subst (λ (vs : List ℕ). AreWithin session.game vs) (sym unheard)
      (All-nil (λ w. w < point_count session.game));
} where
  game : session.game ≡ g
  game = ap (λ (s : Recorded). s.game) new

  events : session.events ≡ []
  events = ap (λ (s : Recorded). s.events) new

-- the moves that are owed at the beginning
pub begins_with : (g : Game) (c : Claim) (s t : Sitting)
    → Opens g c s.player
    → s.events ≡ []
    → s.own ≡ []
    → s.replies ≡ []
    → Went s t
    → Begins g c t
begins_with g c s t opens events own replies (led, waits) = record {
  first = s.player;
  opens = opens;
  settles = (
    subst (λ (points : List OwnPoint). Makes s.player points t.player) (sym made) led.makes,
    waits,
  );
  events = led.events ∙ ap (λ (es : List Event). es ++ map event_of led.own) events
      ∙ ap (λ (points : List OwnPoint). map event_of points) (sym made);
  replies = led.replies ∙ replies;
} where
  made : t.own ≡ led.own
  made = led.more ∙ ap (λ (points : List OwnPoint). points ++ led.own) own

-- ---- replies, one after the other

-- a list that isn't empty, as it is taken apart
pub first_and_others : (xs : List ℕ)
    → 1 ≤ length xs
    → xs ≡ get_or xs 0 0 ∷ take (length xs - 1) (drop 1 xs)
first_and_others [] some = absurd (omega (arith, some))
first_and_others (v ∷ others) some =
    ap (λ (vs : List ℕ). v ∷ vs) (sym (take_all (length (v ∷ others) - 1) others (omega arith)))

-- a reply, and then others
pub comes_first : {E : Type 0} (s m t : Sitting) (replies others : List ℕ) (v : ℕ)
    (found : Result (Unit {0}) Illegal) (r : Result (Unit {0}) E)
    → replies ≡ v ∷ others
    → IsAnswered s v m found
    → IfOk r (λ _. Comes m others t)
    → IfOk r (λ _. Comes s replies t)
comes_first s m t replies others v found (Ok done) is answered comes =
    subst (λ (vs : List ℕ). Comes s vs t) (sym is) (m, found, answered, comes)
comes_first s m t replies others v found (Err e) is answered comes = tt
