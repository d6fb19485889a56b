-- Publications that are entered again are steps.
use Rattle.std.proofs.Common.{
  ◌≡◌,
  ◌⊎◌,
  inl,
  inr,
  ℕ,
  List,
  [],
  ◌∷◌,
  ◌++◌,
  length,
  map,
  fold,
  Contains,
  refl,
  sym,
  ◌∙◌,
  ap,
  subst,
  arith,
  append_assoc,
  append-nil,
}
use Rattle.std.specs.Prelude.{All, false}
use Rattle.std.proofs.lemmas.List.Elements.{All-cons, All-nil, All-head, All-tail}
use Rattle.session_state.specs.SessionState.{SessionState}
use Rattle.session_commands.specs.declared.actor.Actor.{Actor}
use Rattle.session_commands.specs.declared.actor.Actor.TheVariants.{User, Solver}
use Rattle.session_commands.specs.declared.command.Command.{Command}
use Rattle.session_commands.specs.declared.entry.Entry.{Entry}
use Rattle.session_book.specs.declared.answer.Answer.TheVariants.{Accepted}
use Rattle.session_book.specs.Journal.{IsAccepted, Follow}
use Rattle.session_book.specs.Run.{Progress, run, after_command, answered}
use Rattle.history.specs.Prefixes.{entries_of}
use Rattle.published_view.specs.World.{World, Step, Submit, Solve, Moment, Happens, IsHistory, now, with_journal}
use Rattle.continued_history.specs.Publications.{
  entries_by,
  AreOfUser,
  AreOfSolver,
  AreOfOneStep,
  publications_of,
  MayBeEntered,
}
use Rattle.continued_history.specs.Restart.{NoneFrom, IsEntering}
use Rattle.continued_history.proofs.PublicationLemmas.{Adds, as_one, published_by, tell, newest_published}

-- ---- entries that follow, in two parts

pub follow_parts : (opening : SessionState) (before first later : List Entry) → Follow opening before (first ++ later) →
    Follow opening before first × Follow opening (before ++ first) later
follow_parts opening before [] later follow =
    (tt, subst (λ journal. Follow opening journal later) (sym (append-nil before)) follow)
follow_parts opening before (entry ∷ first) later follow =
    let rest = follow_parts opening (before ++ entry ∷ []) first later follow.1 in (
      (follow.0, rest.0),
      subst (λ journal. Follow opening journal later) (append_assoc before (entry ∷ []) first) rest.1,
    )

-- ---- one step

-- a user's commands that follow are all accepted
accepted_all : (opening : SessionState) (name : List ℕ) (commands : List Command) (so_far : Progress) →
    Follow opening so_far.journal (entries_by name commands) →
    (fold (after_command opening name) so_far commands).journal ≡ so_far.journal ++ entries_by name commands
accepted_all opening name [] so_far follow = sym (append-nil so_far.journal)
accepted_all opening name (command ∷ commands) so_far follow =
    let next : Progress = record {
      journal = so_far.journal ++ record { actor = User name; command = command } ∷ [];
      answers = so_far.answers ++ Accepted ∷ [];
    } in
    ap (λ found. (fold (after_command opening name) (answered so_far name command found) commands).journal) follow.0
    ∙ (accepted_all opening name commands next follow.1
    ∙ append_assoc so_far.journal (record { actor = User name; command = command } ∷ []) (entries_by name commands))

run_all : (opening : SessionState) (name : List ℕ) (before : List Entry) (commands : List Command) →
    Follow opening before (entries_by name commands) →
    (run opening before name commands).journal ≡ before ++ entries_by name commands
unfolding run
run_all opening name before commands follow =
    accepted_all opening name commands (record { journal = before; answers = [] }) follow

-- the step of a publication
abbrev step_of : (entries : List Entry) → AreOfUser entries ⊎ AreOfSolver entries → Step
step_of entries (inl user) = Submit user.name user.commands
step_of entries (inr solver) = Solve solver.command

enters : (entries : List Entry) (by : AreOfUser entries ⊎ AreOfSolver entries) → IsEntering (step_of entries by)
enters entries (inl user) = tt
enters entries (inr solver) = tt

happens : (opening : SessionState) (world : World) (entries : List Entry)
    (by : AreOfUser entries ⊎ AreOfSolver entries) → Follow opening world.journal entries →
    Happens opening world (step_of entries by) (with_journal world (world.journal ++ entries))
happens opening world entries (inl user) follow =
    let follows : Follow opening world.journal (entries_by user.name user.commands) =
    subst (Follow opening world.journal) user.are follow in
    record {
      stopped = false;
      progress = run opening world.journal user.name user.commands;
      ran = refl;
      leaves = ap (with_journal world) (ap (λ (l : List Entry). world.journal ++ l) user.are
          ∙ sym (run_all opening user.name world.journal user.commands follows));
    }
happens opening world entries (inr solver) follow =
    let follows : Follow opening world.journal (record { actor = Solver; command = solver.command } ∷ []) =
    subst (Follow opening world.journal) solver.are follow in
    record {
      answer = Accepted;
      journal = world.journal ++ record { actor = Solver; command = solver.command } ∷ [];
      tried = (follows.0, refl);
      leaves = ap (λ (l : List Entry). with_journal world (world.journal ++ l)) solver.are;
    }

-- a publication that follows is a moment more
pub record IsEnteredBehind (opening : SessionState) (earlier : List Moment) (entries : List Entry) : Type 0 where
  pub moment : Moment
  pub happens : Happens opening (now earlier) moment.step moment.after
  pub enters : IsEntering moment.step
  pub after : moment.after ≡ with_journal (now earlier) ((now earlier).journal ++ entries)
  pub published : publications_of (moment ∷ earlier) ≡ publications_of earlier ++ entries ∷ []

pub enter_behind : (opening : SessionState) (earlier : List Moment) (entries : List Entry) → AreOfOneStep entries →
    Follow opening (now earlier).journal entries → IsEnteredBehind opening earlier entries
enter_behind opening earlier entries one follow =
    let world = now earlier in
    let moment : Moment = record {
      step = step_of entries one.by;
      after = with_journal world (world.journal ++ entries);
    } in
    let adds : Adds world moment.after = record { more = entries; journal = refl; published = refl; step = inr one } in
    record {
      moment = moment;
      happens = happens opening world entries one.by follow;
      enters = enters entries one.by;
      after = refl;
      published = published_by earlier moment adds
          ∙ ap (λ publications. publications_of earlier ++ publications) (as_one entries one.some);
    }

-- ---- all of them

-- a history with these publications more
record IsEnteredAgain (opening : SessionState) (earlier : List Moment) (publications : List (List Entry)) : Type 0 where
  again : List Moment
  is : IsHistory opening again
  published : publications_of again ≡ publications_of earlier ++ publications
  unseen : NoneFrom 0 (now again)

enter_all : (opening : SessionState) (publications : List (List Entry)) (earlier : List Moment) →
    IsHistory opening earlier → NoneFrom 0 (now earlier) →
    Follow opening (now earlier).journal (entries_of publications) → All AreOfOneStep publications →
    IsEnteredAgain opening earlier publications
enter_all opening [] earlier is unseen follow steps = record {
  again = earlier;
  is = is;
  published = sym (append-nil (publications_of earlier));
  unseen = unseen;
}
enter_all opening (entries ∷ publications) earlier is unseen follow steps =
    let parts = follow_parts opening (now earlier).journal entries (entries_of publications) follow in
    let one = All-head AreOfOneStep entries publications steps in
    let entered = enter_behind opening earlier entries one parts.0 in
    let rest = enter_all opening publications (entered.moment ∷ earlier) (entered.happens, is)
    (λ display any. ap (λ (world : World). world.seen display) entered.after ∙ unseen display any)
    (subst (λ (world : World). Follow opening world.journal (entries_of publications)) (sym entered.after) parts.1)
    (All-tail AreOfOneStep entries publications steps) in
    record {
      again = rest.again;
      is = rest.is;
      published = rest.published ∙ (ap (λ (l : List (List Entry)). l ++ publications) entered.published
          ∙ append_assoc (publications_of earlier) (entries ∷ []) publications);
      unseen = rest.unseen;
    }

pub entered_again : (opening : SessionState) (publications : List (List Entry)) → MayBeEntered opening publications →
    (again : List Moment) × IsHistory opening again × (publications_of again ≡ publications) × NoneFrom 0 (now again)
entered_again opening publications may =
    let all = enter_all opening publications [] tt (λ display any. refl) may.accepted may.steps in
    (all.again, all.is, all.published, all.unseen)

-- ---- a journal, each entry by itself

abbrev singly : List Entry → List (List Entry)
singly entries = map (λ entry. entry ∷ []) entries

entries_of_singly : (entries : List Entry) → entries_of (singly entries) ≡ entries
entries_of_singly [] = refl
entries_of_singly (entry ∷ entries) = ap (λ (l : List Entry). entry ∷ l) (entries_of_singly entries)

one_step : (actor : Actor) (command : Command) → AreOfOneStep (record { actor = actor; command = command } ∷ [])
one_step (User name) command = record {
  some = omega arith;
  by = inl (record { name = name; commands = command ∷ []; are = refl });
}
one_step Solver command = record { some = omega arith; by = inr (record { command = command; are = refl }) }

one_step_each : (entries : List Entry) → All AreOfOneStep (singly entries)
one_step_each [] = All-nil AreOfOneStep
one_step_each (entry ∷ entries) = All-cons AreOfOneStep (entry ∷ []) (singly entries)
    (one_step entry.actor entry.command) (one_step_each entries)

pub journal_history : (opening : SessionState) (journal : List Entry) → IsAccepted opening journal →
    (history : List Moment) × IsHistory opening history × ((now history).journal ≡ journal)
    × Contains (now history).published (length journal)
journal_history opening journal accepted =
    let may : MayBeEntered opening (singly journal) = record {
      accepted = subst (IsAccepted opening) (sym (entries_of_singly journal)) accepted;
      steps = one_step_each journal;
    } in
    let entered = entered_again opening (singly journal) may in
    let whole : (now entered.0).journal ≡ journal =
    sym (tell opening entered.0 entered.1).entries ∙ (ap entries_of entered.2 ∙ entries_of_singly journal) in (
      entered.0,
      entered.1,
      whole,
      subst (λ (l : List Entry). Contains (now entered.0).published (length l)) whole
          (newest_published opening entered.0 entered.1),
    )
