use Rattle.std.proofs.Common.{◌≡◌, ◌≢◌, ◌∙◌, ◌++◌, ◌∷◌, [], ℕ, List, Some, length, length-append}
use Rattle.std.proofs.Common.{slice_get}
use Rattle.std.proofs.Common.{refl, sym, ap, subst, arith}
use Rattle.pg_pns.proofs.Common.{slice_get_within, keys_of, Contains, Position}
use Rattle.pg_pns.proofs.Common.{Game, Score, IsTable, View, start, one_at, contains_at, at_old}
use Rattle.pg_pns.proofs.Common.{at_new, Stand}
use Rattle.pg_pns.specs.Prelude.{Switching}
use Rattle.pg_met.specs.declared.table.Table.{Table}
use Rattle.pg_pns.specs.Search.{IsSearch, IsNext, CanGrow}
use Rattle.pg_pns.proofs.Searching.{next-in, can-grow, few-from}
use Rattle.pg_pns.specs.Descent.{first_stand}
use Rattle.pg_pns.proofs.expansion.step.Goals as goal

-- the place that was chosen, with the position read there
chosen : (g : Game) (t : Score) (list : List Position) (s : Table) (k : ℕ) (p : Position)
    → IsSearch g t [] list s
    → IsNext s k
    → slice_get s.positions.items k ≡ Some p
    → CanGrow g t list s k p
chosen g t list s k p is next at = can-grow g t list s k p is next at

pub go_down-k-requires-clause-search : goal.go_down-k-requires-clause-search
go_down-k-requires-clause-search c = (
  c.args.asked.question,
  keys_of c.args.work.now.entries,
  subst
      (λ (g : Game). IsSearch g c.args.asked.question [] (keys_of c.args.work.now.entries)
      c.args.table.now) (sym c.requires.reads.starts.game) c.requires.goes.search,
)

pub go_down-k-requires-clause-starts : goal.go_down-k-requires-clause-starts
go_down-k-requires-clause-starts c =
    let starts = c.requires.reads.starts in record {
      game = refl;
      lines = subst (λ (g : Game). g.kind ≢ Switching) (sym starts.game) starts.lines;
      first = starts.first ∙ ap start (sym starts.game);
    }

pub expand-requires-clause-reads : goal.expand-requires-clause-reads
expand-requires-clause-reads c = λ p at. record {
  asked = c.requires.reads.asked;
  position = c.requires.goes.search.tree.shape.fits c.go_down-k.result p at;
  stands = record {
    game = c.go_down-k.ensures.game ∙ c.requires.reads.starts.game;
    position = one_at c.args.table.now.positions.items c.go_down-k.result
        c.go_down-k.new.board.stand.position p c.go_down-k.ensures.stands at;
  };
  fits = c.requires.reads.fits;
}

pub returns-clause-starts : goal.returns-clause-starts
returns-clause-starts c =
    let kept = c.in_ok-expand.ensures.kept.same in
    let starts = c.requires.reads.starts in record {
      game = ap (λ (b : View). b.game) kept ∙ c.go_down-k.ensures.game ∙ starts.game;
      lines = starts.lines;
      first = ap (λ (t : Stand). t.position)
          (ap first_stand kept ∙ c.go_down-k.ensures.first) ∙ starts.first;
    }

pub key-p-requires : goal.key-p-requires
key-p-requires c =
    next-in c.args.asked.game.now c.args.asked.question (keys_of c.args.work.now.entries)
    c.args.table.now c.go_down-k.result c.requires.goes.search c.go_down-k.ensures.next

-- a position that can be expanded wasn't
unlisted : (g : Game) (t : Score) (list : List Position) (s : Table) (k : ℕ) (p : Position)
    → CanGrow g t list s k p
    → Contains list p
    → ⊥
unlisted g t list s k p can c =
    let at = contains_at list p c in
    let within = slice_get_within list at.0 p at.1 in
    let same =
    can.rules.different at.0 (length list) p (at_old list p p at.0 at.1) (at_new list p) in
    omega (arith, within, same)

pub keep-requires : goal.keep-requires
keep-requires c = record {
  fresh = unlisted c.args.asked.game.now c.args.asked.question
      (keys_of c.args.work.now.entries) c.args.table.now c.go_down-k.result c.key-p.result.now
      (chosen c.args.asked.game.now c.args.asked.question
      (keys_of c.args.work.now.entries) c.args.table.now c.go_down-k.result c.key-p.result.now
      c.requires.goes.search c.go_down-k.ensures.next c.key-p.ensures);
}

pub expand-requires-clause-grows : goal.expand-requires-clause-grows
expand-requires-clause-grows c = (
  (keys_of c.args.work.now.entries),
  c.key-p.result.now,
  chosen c.args.asked.game.now c.args.asked.question
      (keys_of c.args.work.now.entries) c.args.table.now c.go_down-k.result c.key-p.result.now
      c.requires.goes.search c.go_down-k.ensures.next c.key-p.ensures,
  c.requires.goes.few,
)

pub returns-in_err-expand-clause-rules : goal.returns-in_err-expand-clause-rules
returns-in_err-expand-clause-rules c =
    subst (λ (w : List Position). IsTable c.args.asked.game.now c.args.asked.question w)
    (sym c.in_ok-keep.ensures.kept)
    (chosen c.args.asked.game.now c.args.asked.question
    (keys_of c.args.work.now.entries) c.args.table.now c.go_down-k.result c.key-p.result.now
    c.requires.goes.search c.go_down-k.ensures.next c.key-p.ensures).rules

pub settle_from-requires-clause-some : goal.settle_from-requires-clause-some
settle_from-requires-clause-some c = (
  c.args.asked.game.now,
  c.args.asked.question,
  keys_of c.args.work.now.entries ++ c.key-p.result.now ∷ [],
  c.in_ok-expand.ensures.grows (keys_of c.args.work.now.entries) c.key-p.result.now
      (chosen c.args.asked.game.now c.args.asked.question
      (keys_of c.args.work.now.entries) c.args.table.now c.go_down-k.result c.key-p.result.now
      c.requires.goes.search c.go_down-k.ensures.next c.key-p.ensures),
)

pub settle_from-requires-clause-few : goal.settle_from-requires-clause-few
settle_from-requires-clause-few c =
    few-from c.args.asked.game.now c.args.asked.question (c.go_down-k.result ∷ [])
    (keys_of c.args.work.now.entries) c.key-p.result.now c.expand.new.table
    (c.in_ok-expand.ensures.grows (keys_of c.args.work.now.entries) c.key-p.result.now
    (chosen c.args.asked.game.now c.args.asked.question
    (keys_of c.args.work.now.entries) c.args.table.now c.go_down-k.result c.key-p.result.now
    c.requires.goes.search c.go_down-k.ensures.next c.key-p.ensures)) c.requires.goes.few

pub returns-in_err-settle_from-clause-rules : goal.returns-in_err-settle_from-clause-rules
returns-in_err-settle_from-clause-rules c =
    subst (λ (w : List Position). IsTable c.args.asked.game.now c.args.asked.question w)
    (sym c.in_ok-keep.ensures.kept)
    (chosen c.args.asked.game.now c.args.asked.question
    (keys_of c.args.work.now.entries) c.args.table.now c.go_down-k.result c.key-p.result.now
    c.requires.goes.search c.go_down-k.ensures.next c.key-p.ensures).rules

pub returns-in_err-order-clause-rules : goal.returns-in_err-order-clause-rules
returns-in_err-order-clause-rules c =
    subst (λ (w : List Position). IsTable c.args.asked.game.now c.args.asked.question w)
    (sym c.in_ok-keep.ensures.kept)
    (chosen c.args.asked.game.now c.args.asked.question
    (keys_of c.args.work.now.entries) c.args.table.now c.go_down-k.result c.key-p.result.now
    c.requires.goes.search c.go_down-k.ensures.next c.key-p.ensures).rules

pub update-requires : goal.update-requires
update-requires c = few-from c.args.asked.game.now c.args.asked.question []
    (keys_of c.args.work.now.entries) c.key-p.result.now c.settle_from.new.table
    (c.in_ok-settle_from.ensures c.args.asked.game.now c.args.asked.question
    ((keys_of c.args.work.now.entries) ++ c.key-p.result.now ∷ [])
    (c.in_ok-expand.ensures.grows (keys_of c.args.work.now.entries) c.key-p.result.now
    (chosen c.args.asked.game.now c.args.asked.question
    (keys_of c.args.work.now.entries) c.args.table.now c.go_down-k.result c.key-p.result.now
    c.requires.goes.search c.go_down-k.ensures.next c.key-p.ensures))) c.requires.goes.few

pub returns-in_err-update-clause-rules : goal.returns-in_err-update-clause-rules
returns-in_err-update-clause-rules c =
    subst (λ (w : List Position). IsTable c.args.asked.game.now c.args.asked.question w)
    (sym c.in_ok-keep.ensures.kept)
    (chosen c.args.asked.game.now c.args.asked.question
    (keys_of c.args.work.now.entries) c.args.table.now c.go_down-k.result c.key-p.result.now
    c.requires.goes.search c.go_down-k.ensures.next c.key-p.ensures).rules

pub returns-clause-rules : goal.returns-clause-rules
returns-clause-rules c =
    subst (λ (w : List Position). IsTable c.args.asked.game.now c.args.asked.question w)
    (sym c.in_ok-keep.ensures.kept)
    (chosen c.args.asked.game.now c.args.asked.question
    (keys_of c.args.work.now.entries) c.args.table.now c.go_down-k.result c.key-p.result.now
    c.requires.goes.search c.go_down-k.ensures.next c.key-p.ensures).rules

pub returns-clause-goes : goal.returns-clause-goes
returns-clause-goes c = record {
  search = subst (λ (w : List Position). IsSearch c.args.asked.game.now c.args.asked.question [] w
      c.settle_from.new.table) (sym c.in_ok-keep.ensures.kept)
      (c.in_ok-settle_from.ensures c.args.asked.game.now c.args.asked.question
      (keys_of c.args.work.now.entries ++ c.key-p.result.now ∷ [])
      (c.in_ok-expand.ensures.grows (keys_of c.args.work.now.entries) c.key-p.result.now
      (chosen c.args.asked.game.now c.args.asked.question
      (keys_of c.args.work.now.entries) c.args.table.now c.go_down-k.result c.key-p.result.now
      c.requires.goes.search c.go_down-k.ensures.next c.key-p.ensures)));
  count = ap length c.in_ok-keep.ensures.kept
      ∙ omega (
        arith,
        length-append (keys_of c.args.work.now.entries)
            (c.key-p.result.now ∷ []),
      );
}
