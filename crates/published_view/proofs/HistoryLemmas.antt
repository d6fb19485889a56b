-- What holds of a session after every history, and of the version that a reply in it names.
use Rattle.std.proofs.Common.{
  ◌≡◌,
  ℕ,
  ◌≤◌,
  List,
  [],
  ◌∷◌,
  ◌++◌,
  length,
  take,
  Contains,
  refl,
  sym,
  ap,
  subst,
  ◌∙◌,
  ◌⊎◌,
  false,
  max,
  inl,
  inr,
  arith,
}
use Rattle.std.specs.Prelude.{Option, Some, None, IfSome}
use Rattle.std.proofs.Math.Seq.{take-append_seam}
use Rattle.std.proofs.lemmas.List.{length-append}
use Rattle.session_state.specs.SessionState.{SessionState}
use Rattle.session_commands.specs.declared.actor.Actor.TheVariants.{Solver}
use Rattle.session_commands.specs.declared.command.Command.{Command}
use Rattle.session_commands.specs.declared.entry.Entry.{Entry}
use Rattle.session_commands.specs.declared.refusal.Refusal.{Refusal}
use Rattle.session_book.specs.declared.answer.Answer.TheVariants.{Accepted, Refused}
use Rattle.session_book.specs.Journal.{IsAccepted, refusal_after}
use Rattle.session_book.specs.Replay.{replay}
use Rattle.session_book.specs.Run.{run}
use Rattle.session_book.proofs.JournalLemmas.{accepted_length}
use Rattle.session_queries.specs.declared.reply.Reply.{Reply}
use Rattle.published_view.specs.History.{IsGivenIn, NamesPublished, state_there}
use Rattle.published_view.specs.Reply.{reply_of}
use Rattle.published_view.specs.View.{version_of, reply_after}
use Rattle.published_view.specs.World.{
  World,
  Reading,
  Read,
  Moment,
  Solves,
  ReadsVersion,
  MayGoOn,
  IsHistory,
  now,
  with_journal,
  with_seen,
}
use Rattle.published_view.proofs.StepLemmas.{Extends, same_extends, more_extends, step_leaves}
use Rattle.published_view.proofs.ElementLemmas.{contains_first, contains_cases}

-- what holds of a session after a history
record Holds (opening : SessionState) (world : World) : Type 0 where
  accepted : IsAccepted opening world.journal
  newest : Contains world.published (length world.journal)
  seen : (display : ℕ) → Contains world.published (world.seen display)
  within : (version : ℕ) → Contains world.published version → version ≤ length world.journal

longer : (before after : List Entry) → Extends before after → length before ≤ length after
longer before after (more, is) = omega (arith, ap length is, length-append before more)

-- a version that was published is how many entries the journal had at some moment
record WasNewest (history : List Moment) (version : ℕ) : Type 0 where
  earlier : List Moment
  later : List Moment
  split : history ≡ later ++ earlier
  length : length (now earlier).journal ≡ version

module _ (opening : SessionState) where
  -- the first moments of a history are one
  history_before : (later earlier : List Moment) → IsHistory opening (later ++ earlier) → IsHistory opening earlier
  history_before [] earlier is = is
  history_before (moment ∷ later) earlier is = history_before later earlier is.1

  all_hold : (history : List Moment) → IsHistory opening history → Holds opening (now history)
  all_hold [] is = record {
    accepted = tt;
    newest = contains_first 0 [];
    seen = λ display. contains_first 0 [];
    within = λ version there. at_first version (contains_cases 0 [] version there);
  }
    where
      at_first : (version : ℕ) → (0 ≡ version) ⊎ Contains {X = ℕ} [] version → version ≤ 0
      at_first version (inl is) = omega (arith, is)
      at_first version (inr (k, below, here)) = absurd (omega (arith, below))
  all_hold (moment ∷ earlier) (happens, is) =
      let before = all_hold earlier is in
      let leaves = step_leaves opening (now earlier) moment.step moment.after happens in
      record {
        accepted = leaves.accepted before.accepted;
        newest = leaves.newest before.newest;
        seen = leaves.seen before.seen;
        within = λ version there. no_longer version (longer (now earlier).journal moment.after.journal leaves.more)
            before.within (leaves.published version there);
      }
    where
      no_longer : (version : ℕ) → length (now earlier).journal ≤ length moment.after.journal →
          ((other : ℕ) → Contains (now earlier).published other → other ≤ length (now earlier).journal) →
          Contains (now earlier).published version ⊎ (version ≡ length moment.after.journal) →
          version ≤ length moment.after.journal
      no_longer version grown within (inl old) = omega (arith, grown, within version old)
      no_longer version grown within (inr new) = omega (arith, new)

  -- the journal only grows
  journal_grows : (later earlier : List Moment) → IsHistory opening (later ++ earlier) → Extends (now earlier).journal
      (now (later ++ earlier)).journal
  journal_grows [] earlier is = same_extends (now earlier).journal
  journal_grows (moment ∷ later) earlier (happens, is) =
      more_extends (now earlier).journal (now (later ++ earlier)).journal moment.after.journal
      (journal_grows later earlier is)
      (step_leaves opening (now (later ++ earlier)) moment.step moment.after happens).more

  was_newest : (history : List Moment) → IsHistory opening history → (version : ℕ) → Contains (now history).published
      version → WasNewest history version
  was_newest [] is version there = by_cases (contains_cases 0 [] version there)
    where
      by_cases : (0 ≡ version) ⊎ Contains {X = ℕ} [] version → WasNewest [] version
      by_cases (inl is) = record { earlier = []; later = []; split = refl; length = is }
      by_cases (inr (k, below, here)) = absurd (omega (arith, below))
  was_newest (moment ∷ earlier) (happens, is) version there =
      elim ((step_leaves opening (now earlier) moment.step moment.after happens).published version there) [
        | inl old ↦
            let was = was_newest earlier is version old in
            record {
              earlier = was.earlier;
              later = moment ∷ was.later;
              split = ap (λ moments. moment ∷ moments)
                  was.split;
              length = was.length;
            }
        | inr new ↦ record { earlier = moment ∷ earlier; later = []; split = refl; length = sym new }
      ]

  -- a step may be next: a command of the solver's is accepted, or answered why not
  solver_next : (before : World) (command : Command) (found : Option Refusal) → refusal_after opening before.journal
      Solver command ≡ found → (after : World) × Solves opening before command after
  solver_next before command None may =
      let journal = before.journal ++ record { actor = Solver; command = command } ∷ [] in
      (with_journal before journal, record { answer = Accepted; journal = journal; tried = (may, refl); leaves = refl })
  solver_next before command (Some cause) refused = (
    with_journal before before.journal,
    record {
      answer = Refused cause;
      journal = before.journal;
      tried =
          (inl refused, refl);
      leaves = refl;
    },
  )

  goes_on : (world : World) → Holds opening world → MayGoOn opening world
  goes_on world holds = record {
    batch = λ actor batch. (
      with_journal world (run opening world.journal actor batch).journal,
      record { stopped = false; progress = run opening world.journal actor batch; ran = refl; leaves = refl },
    );
    result = λ command. solver_next world command (refusal_after opening world.journal Solver command) refl;
    version = λ display version there.
        (with_seen world display (max (world.seen display) version), record { published = there; leaves = refl });
    query = λ display user query since. (
      reply_after opening (take (length world.journal) world.journal) user query since,
      with_seen world display (length world.journal),
      record {
        published = holds.newest;
        not_older = holds.within (world.seen display) (holds.seen display);
        reply =
            refl;
        leaves = refl;
      },
    );
  }

  pub may_go_on : (history : List Moment) → IsHistory opening history → IsAccepted opening (now history).journal ×
      MayGoOn opening (now history)
  may_go_on history is = let holds = all_hold history is in (holds.accepted, goes_on (now history) holds)

  -- a reply in a history: the version that it names, and that it is the one which the journal of that version gives
  record IsOf (history earlier : List Moment) (reading : Reading) (reply : Reply) : Type 0 where
    names : NamesPublished opening history earlier reading reply
    given : reply ≡ reply_after opening names.entries reading.user reading.query reading.since

  -- an accepted journal is never so long that its version is not its length
  version_is : (entries : List Entry) → IsAccepted opening entries → version_of entries ≡ length entries
  version_is entries accepted = let few = accepted_length opening entries accepted in omega (arith, few)

  reply_given : (before : World) (reading : Reading) (reply : Reply) (after : World) → ReadsVersion opening before
      reading after → reading.reply ≡ Some reply →
      reply ≡ reply_after opening (take reading.version before.journal) reading.user reading.query reading.since
  reply_given before reading reply after reads told =
      subst (λ (found : Option Reply). IfSome found (λ r. r ≡ reply_after opening (take reading.version before.journal)
      reading.user reading.query reading.since)) told reads.reply

  is_of : (later : List Moment) (after : World) (earlier : List Moment) (reading : Reading) (reply : Reply) →
      IsHistory opening (later ++ record { step = Read reading; after = after } ∷ earlier) → reading.reply ≡ Some
      reply →
      IsOf (later ++ record { step = Read reading; after = after } ∷ earlier) earlier reading reply
  is_of later after earlier reading reply is told =
      let moment : Moment = record { step = Read reading; after = after } in
      let here = history_before later (moment ∷ earlier) is in
      let reads : ReadsVersion opening (now earlier) reading after = here.0 in
      let was = was_newest earlier here.1 reading.version reads.published in
      let entries = (now was.earlier).journal in
      let then : IsHistory opening was.earlier = history_before was.later was.earlier
      (subst (IsHistory opening) was.split here.1) in
      let held = all_hold was.earlier then in
      let grown : Extends entries (now earlier).journal =
      subst (λ moments. Extends entries (now moments).journal) (sym was.split)
      (journal_grows was.later was.earlier (subst (IsHistory opening) was.split here.1)) in
      let grown_on : Extends (now (moment ∷ earlier)).journal (now (later ++ moment ∷ earlier)).journal =
      journal_grows later (moment ∷ earlier) is in
      let stayed : Extends (now earlier).journal after.journal =
      (step_leaves opening (now earlier) (Read reading) after reads).more in
      let whole : Extends entries (now (later ++ moment ∷ earlier)).journal =
      more_extends entries after.journal _ (more_extends entries (now earlier).journal after.journal grown stayed)
      grown_on in
      let first : take reading.version (now earlier).journal ≡ entries = begins_with entries (now earlier).journal
      reading.version was.length grown in
      let given : reply ≡ reply_after opening entries reading.user reading.query reading.since =
      reply_given (now earlier) reading reply after reads told
      ∙ ap (λ es. reply_after opening es reading.user reading.query reading.since) first in
      let version : reply.version ≡ length entries = ap (λ (r : Reply). r.version) given ∙ version_is entries
      held.accepted in
      record {
        names = record {
          entries = entries;
          version = version;
          published = record {
            earlier = was.earlier;
            later = was.later;
            split = was.split;
            journal = refl;
            published =
                held.newest;
          };
          not_older = omega (arith, reads.not_older, version, was.length);
          accepted = held.accepted;
          begins = begins_with entries (now (later ++ moment ∷ earlier)).journal reply.version (sym version) whole;
        };
        given = given;
      }
    where
      begins_with : (entries journal : List Entry) (version : ℕ) → length entries ≡ version → Extends entries journal →
          take version journal ≡ entries
      begins_with entries journal version long (more, is) =
          ap (λ n. take n journal) (sym long) ∙ (ap (take (length entries)) is ∙ take-append_seam entries more)

  module _ (history : List Moment) (reading : Reading) (reply : Reply) (is : IsHistory opening history)
      (told : IsGivenIn history reading reply) where
    reply_is : IsOf history told.earlier reading reply
    reply_is =
        subst (λ moments. IsOf moments told.earlier reading reply) (sym told.split)
        (is_of told.later told.after told.earlier reading reply (subst (IsHistory opening) told.split is) told.given)

    pub names_published : NamesPublished opening history told.earlier reading reply
    names_published = reply_is.names

    -- it is the one that the state of its version gives
    pub reply_there : reply ≡ reply_of (state_there opening history reply) reply.version reading.user reading.query
        reading.since
    reply_there =
        let version : version_of reply_is.names.entries ≡ reply.version =
        sym (ap (λ (r : Reply). r.version) reply_is.given) in
        reply_is.given ∙ (λ i. reply_of (replay opening (sym reply_is.names.begins i)) (version i) reading.user
        reading.query reading.since)

    pub journal_accepted : IsAccepted opening (now history).journal
    journal_accepted = (all_hold history is).accepted
