-- One part of a run, and then another.
use Rattle.std.proofs.Common.{◌≡◌, ℕ, List, [], ◌∷◌, ◌++◌, Option, Some, None, Result, Ok, Err}
use Rattle.std.proofs.Common.{refl, ◌∙◌, ap, subst, inl, inr, if◌then◌else◌}
use Rattle.std.specs.Prelude.{IfSome}
use Rattle.pg_talk.proofs.Common.{bytes_eq, ConsoleTold, Bytes, Holding, Making, FilesTold, Entry}
use Rattle.pg_talk.proofs.Common.{Stop, Read, Write, Memory}
use Rattle.pg_talk.specs.Done.{Done, End, Finished, Failed, Starved, Hears, Talked, Changes, Does}
use Rattle.pg_talk.specs.Done.{Follows, Keeps, Stops, behind, held_after, stop_end}
use Rattle.pg_talk.specs.Storing.{Delivers, DeliversThen, KeepOthers, delivered}
use Rattle.pg_talk.specs.declared.halt.Halt.{Halt}
use Rattle.pg_talk.specs.declared.halt.Halt.TheVariants.{Refused, Stopped}
use Rattle.pg_talk.proofs.Speaking.{Grows-then}
use Rattle.pg_talk.proofs.Talking.{Hearing-then}

-- ---- one part, and then another

held_twice : (held mid : Holding) (first more : List Making)
    → ((name : Bytes) → mid name ≡ held_after held first name)
    → (name : Bytes) → held_after mid more name ≡ held_after held (more ++ first) name
held_twice held mid first [] same name = same name
held_twice held mid first (file ∷ more) same name =
    ap (λ (o : Option Bytes). if bytes_eq file.0 name then Some file.1 else o)
    (held_twice held mid first more same name)

keeps_then : (held mid : Holding) (first more : List Making) (after : Option Holding)
    → Keeps held first (Some mid)
    → Keeps mid more after
    → Keeps held (more ++ first) after
keeps_then held mid first more None before now = absurd now
keeps_then held mid first more (Some after) before now =
    λ name. now name ∙ held_twice held mid first more before name

pub hears_then : (status : ℕ) (end : End) (a b c : Option Bytes) (xs ys : List Entry)
    → Hears (Finished status) a xs b
    → Hears end b ys c
    → Hears end a (xs ++ ys) c
hears_then status (Finished last) a b c xs ys first second = Hearing-then a b c xs ys first second
hears_then status Failed a b c xs ys first (unread, second) =
    (unread, Hearing-then a b unread xs ys first second)
hears_then status Starved a b c xs ys first second = Hearing-then a b c xs ys first second

-- what a part has changed, and what came behind it
changes_then : (held : Holding) (files' : FilesTold) (before mid after : ConsoleTold)
    (first part : Done) (status : ℕ) (end : End) (now : Holding)
    → Talked before mid first.entries (Finished status)
    → Keeps held first.stored (Some now)
    → Changes now files' mid after part end
    → Changes held files' before after (behind first part) end
changes_then held files' before mid after first part status end now talked names second = record {
  talked = record {
    logged = Grows-then before.log mid.log after.log first.entries part.entries talked.logged
        second.talked.logged;
    heard = hears_then status end before.left mid.left after.left first.entries part.entries
        talked.heard second.talked.heard;
  };
  names = keeps_then held now first.stored part.stored files'.held names second.names;
}

module _ (Act : Done → End → Type 0) (file : Making) (texts : List Bytes)
    (files mid files' : FilesTold) (before between after : ConsoleTold) where
  stops_then : (part : Done) (stop : Stop)
      → Stops Act part (stop_end stop)
      → DeliversThen file texts Act (behind (delivered file texts) part) (stop_end stop)
  stops_then part Read how = inr (part, how, refl)
  stops_then part Write how = inr (part, how, refl)
  stops_then part Memory how = (part, how, refl)

  -- the file was stored and the texts were said, and then this was done
  pub delivers_then : (r : Result ℕ Halt) (status : ℕ)
      → Does (Delivers file texts) files mid before between (Ok status)
      → Does Act mid files' between after r
      → Does (DeliversThen file texts Act) files files' before after r
  delivers_then r status first second = go files.held first where
    more : (held now : Holding) (done : Done)
        → done ≡ delivered file texts
        → Talked before between done.entries (Finished status)
        → Keeps held done.stored (Some now)
        → (r : Result ℕ Halt) → Follows (λ _. ⊥) Act now files' between after r
        → Follows (λ _. ⊥) (DeliversThen file texts Act) held files' before after r
    more held now done is talked names (Ok last) (part, act, changes) = (
      behind (delivered file texts) part,
      (part, act, refl),
      changes_then held files' before between after (delivered file texts) part status
          (Finished last) now
          (subst (λ (d : Done). Talked before between d.entries (Finished status)) is talked)
          (subst (λ (d : Done). Keeps held d.stored (Some now)) is names) changes,
    )
    more held now done is talked names (Err (Refused refusal)) (none, changes) = absurd none
    more held now done is talked names (Err (Stopped stop)) (part, how, changes) = (
      behind (delivered file texts) part,
      inr (stops_then part stop how),
      changes_then held files' before between after (delivered file texts) part status
          (stop_end stop) now
          (subst (λ (d : Done). Talked before between d.entries (Finished status)) is talked)
          (subst (λ (d : Done). Keeps held d.stored (Some now)) is names) changes,
    )

    on : (held : Holding) (m : Option Holding) (done : Done)
        → done ≡ delivered file texts
        → Talked before between done.entries (Finished status)
        → Keeps held done.stored m
        → IfSome m (λ now. Follows (λ _. ⊥) Act now files' between after r)
        → Follows (λ _. ⊥) (DeliversThen file texts Act) held files' before after r
    on held None done is talked names second = absurd names
    on held (Some now) done is talked names second = more held now done is talked names r second

    go : (h : Option Holding)
        → IfSome h
        (λ held. Follows (λ _. ⊥) (Delivers file texts) held mid before between (Ok status))
        → IfSome h
        (λ held. Follows (λ _. ⊥) (DeliversThen file texts Act) held files' before after r)
    go None first = tt
    go (Some held) (done, act, changes) =
        on held mid.held done act.0 changes.talked changes.names second

-- the run was stopped before the texts were said
pub delivers_first : (Act : Done → End → Type 0) (file : Making) (texts : List Bytes)
    (files files' : FilesTold) (before after : ConsoleTold) (halt : Halt)
    → Does (Delivers file texts) files files' before after (Err halt)
    → Does (DeliversThen file texts Act) files files' before after (Err halt)
delivers_first Act file texts files files' before after halt h = go files.held halt h where
  more : (done : Done) (stop : Stop)
      → Delivers file texts done (stop_end stop)
      → DeliversThen file texts Act done (stop_end stop)
  more done Read act = inl act
  more done Write act = inl act
  more done Memory act = absurd act

  go : (b : Option Holding) (halt : Halt)
      → IfSome b
      (λ held. Follows (λ _. ⊥) (Delivers file texts) held files' before after (Err halt))
      → IfSome b
      (λ held. Follows (λ _. ⊥) (DeliversThen file texts Act) held files' before after (Err halt))
  go None halt h = tt
  go (Some held) (Refused refusal) (none, changes) = absurd none
  go (Some held) (Stopped stop) (done, inl none, changes) = (done, inl none, changes)
  go (Some held) (Stopped stop) (done, inr act, changes) = (done, inr (more done stop act), changes)
