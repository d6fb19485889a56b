-- A batch of one command more.
use Rattle.std.proofs.Common.{
  ◌≡◌,
  ℕ,
  Bool,
  true,
  false,
  List,
  [],
  ◌∷◌,
  ◌++◌,
  map,
  length,
  refl,
  sym,
  ap,
  ◌∙◌,
  subst,
  append_assoc,
  ◌⊎◌,
  inl,
  inr,
}
use Rattle.std.specs.Prelude.{Option, Some, None, ◌||◌}
use Rattle.std.proofs.lemmas.List.Sums.{fold-append}
use Rattle.session_book.specs.declared.answer.Answer.{Answer}
use Rattle.session_book.specs.declared.answer.Answer.TheVariants.{Accepted, Refused}
use Rattle.session_commands.specs.declared.actor.Actor.{Actor}
use Rattle.session_commands.specs.declared.actor.Actor.TheVariants.{User}
use Rattle.session_commands.specs.declared.command.Command.{Command}
use Rattle.session_commands.specs.declared.entry.Entry.{Entry}
use Rattle.session_commands.specs.declared.refusal.Refusal.{Refusal}
use Rattle.session_commands.specs.declared.refusal.Refusal.TheVariants.{OutOfMemory, NotTried}
use Rattle.session_book.specs.Exposure.{spoiler_of}
use Rattle.session_book.specs.Journal.{replay, refusal_after}
use Rattle.session_commands.specs.Refusal.{is_out_of_memory}
use Rattle.session_state.proofs.RefusalLemmas.{never_memory}
use Rattle.session_book.specs.Run.{Progress, stops, answered, after_command, run, Runs}
use Rattle.session_state.specs.SessionState.{SessionState}

run_more : (opening : SessionState) (before : List Entry) (actor : List ℕ) (tried : List Command) (command : Command) →
    run opening before actor (tried ++ command ∷ []) ≡ after_command opening actor (run opening before actor tried)
    command
unfolding run
run_more opening before actor tried command = fold-append (after_command opening actor)
    (record { journal = before; answers = [] }) tried (command ∷ [])

-- a command is answered as the journal so far says
pub runs_answered : (opening : SessionState) (before : List Entry) (actor : List ℕ) (tried : List Command)
    (command : Command) (so_far : Progress) (found : Option Refusal) →
    Runs false opening before actor tried so_far → refusal_after opening so_far.journal (User actor) command ≡ found →
    Runs false opening before actor (tried ++ command ∷ []) (answered so_far actor command found)
runs_answered opening before actor tried command so_far found ran refused =
    sym (ap (answered so_far actor command) refused) ∙ (ap (λ progress. after_command opening actor progress command)
    ran ∙ sym (run_more opening before actor tried command))

-- memory is refused at a command that nothing else refuses
pub runs_stopped : (opening : SessionState) (before : List Entry) (actor : List ℕ) (tried : List Command)
    (command : Command) (so_far : Progress) →
    Runs false opening before actor tried so_far → refusal_after opening so_far.journal (User actor) command ≡ None →
    Runs true opening before actor (tried ++ command ∷ [])
    (record { journal = so_far.journal; answers = so_far.answers ++ Refused OutOfMemory ∷ [] })
runs_stopped opening before actor tried command so_far ran accepted = record {
  tried = tried;
  command = command;
  later = [];
  split = refl;
  accepted = sym (ap (λ progress. refusal_after opening progress.journal (User actor) command) ran) ∙ accepted;
  journal = ap (λ progress. progress.journal) ran;
  answers = ap (λ progress. progress.answers ++ Refused OutOfMemory ∷ []) ran;
}

map_more : (later : List Command) (command : Command) → map (λ _. Refused NotTried) (later ++ command ∷ []) ≡ map
    (λ _. Refused NotTried) later ++ Refused NotTried ∷ []
map_more [] command = refl
map_more (first ∷ later) command = ap (λ answers. Refused NotTried ∷ answers) (map_more later command)

-- a command after that is not tried
later_not_tried : (opening : SessionState) (before : List Entry) (actor : List ℕ) (tried : List Command)
    (command : Command) (so_far : Progress) →
    Runs true opening before actor tried so_far →
    Runs true opening before actor (tried ++ command ∷ [])
    (record { journal = so_far.journal; answers = so_far.answers ++ Refused NotTried ∷ [] })
later_not_tried opening before actor tried command so_far until = record {
  tried = until.tried;
  command = until.command;
  later = until.later ++ command ∷ [];
  split = ap (λ commands. commands ++ command ∷ []) until.split ∙ append_assoc until.tried (until.command ∷ until.later)
      (command ∷ []);
  accepted = until.accepted;
  journal = until.journal;
  answers =
      ap (λ answers. answers ++ Refused NotTried ∷ []) until.answers
      ∙ (append_assoc _ (Refused OutOfMemory ∷ map (λ _. Refused NotTried) until.later) (Refused NotTried ∷ [])
      ∙ ap (λ answers. (run opening before actor until.tried).answers ++ Refused OutOfMemory ∷ answers)
      (sym (map_more until.later command)));
}

never_memory_after : (opening : SessionState) (journal : List Entry) (actor : Actor) (command : Command)
    (cause : Refusal) → refusal_after opening journal actor command ≡ Some cause → is_out_of_memory cause ≡ false
unfolding refusal_after
never_memory_after opening journal actor command cause refused = never_memory (replay opening journal)
    (spoiler_of opening journal command) actor command (length journal) cause refused

-- no command, no answer
pub runs_none : (opening : SessionState) (before : List Entry) (actor : List ℕ) (answers : List Answer) → answers ≡ [] →
    Runs false opening before actor [] (record { journal = before; answers = answers })
unfolding run
runs_none opening before actor answers none = λ i. record { journal = before; answers = none i }

-- what the answer to one command makes of it: not tried, accepted, or refused
module _ (opening : SessionState) (before : List Entry) (actor : List ℕ) (tried : List Command) (command : Command)
    (journal : List Entry) (answers : List Answer) (stopped : Bool) where
  pub runs_not_tried : stopped ≡ true → Runs stopped opening before actor tried
      (record { journal = journal; answers = answers }) →
      Runs (stopped || stops (Some NotTried)) opening before actor (tried ++ command ∷ [])
      (record { journal = journal; answers = answers ++ Refused NotTried ∷ [] })
  runs_not_tried is_stopped until =
      subst (λ b. Runs (b || stops (Some NotTried)) opening before actor (tried ++ command ∷ [])
      (record { journal = journal; answers = answers ++ Refused NotTried ∷ [] })) (sym is_stopped)
      (later_not_tried opening before actor tried command (record { journal = journal; answers = answers })
      (subst (λ b. Runs b opening before actor tried (record { journal = journal; answers = answers })) is_stopped
      until))

  pub runs_accepted : (after : List Entry) → stopped ≡ false → refusal_after opening journal (User actor) command ≡
      None → after ≡ journal ++ record { actor = User actor; command = command } ∷ [] →
      Runs stopped opening before actor tried (record { journal = journal; answers = answers }) →
      Runs (stopped || stops None) opening before actor (tried ++ command ∷ [])
      (record { journal = after; answers = answers ++ Accepted ∷ [] })
  runs_accepted after goes_on accepted more ran =
      subst (λ b. Runs (b || stops None) opening before actor (tried ++ command ∷ [])
      (record { journal = after; answers = answers ++ Accepted ∷ [] })) (sym goes_on)
      ((λ i. record { journal = more i; answers = answers ++ Accepted ∷ [] })
      ∙ runs_answered opening before actor tried command (record { journal = journal; answers = answers }) None
      (subst (λ b. Runs b opening before actor tried (record { journal = journal; answers = answers })) goes_on ran)
      accepted)

  pub runs_refused : (after : List Entry) (cause : Refusal) → stopped ≡ false → after ≡ journal →
      (refusal_after opening journal (User actor) command ≡ Some cause) ⊎
      ((cause ≡ OutOfMemory) × (refusal_after opening journal (User actor) command ≡ None)) →
      Runs stopped opening before actor tried (record { journal = journal; answers = answers }) →
      Runs (stopped || stops (Some cause)) opening before actor (tried ++ command ∷ [])
      (record { journal = after; answers = answers ++ Refused cause ∷ [] })
  runs_refused after cause goes_on same (inl refused) ran =
      let stops_not : (stopped || is_out_of_memory cause) ≡ false = λ i. goes_on i || never_memory_after opening journal
      (User actor) command cause refused i in
      subst (λ b. Runs b opening before actor (tried ++ command ∷ [])
      (record { journal = after; answers = answers ++ Refused cause ∷ [] })) (sym stops_not)
      ((λ i. record { journal = same i; answers = answers ++ Refused cause ∷ [] })
      ∙ runs_answered opening before actor tried command (record { journal = journal; answers = answers }) (Some cause)
      (subst (λ b. Runs b opening before actor tried (record { journal = journal; answers = answers })) goes_on ran)
      refused)
  runs_refused after cause goes_on same (inr (memory, accepted)) ran =
      let stops_here : (stopped || is_out_of_memory cause) ≡ true = λ i. goes_on i || is_out_of_memory (memory i) in
      let P : Bool → List Entry → Refusal → Type 0 = λ b entries other. Runs b opening before actor
      (tried ++ command ∷ []) (record { journal = entries; answers = answers ++ Refused other ∷ [] }) in
      subst (λ b. P b after cause) (sym stops_here) (subst (λ entries. P true entries cause) (sym same)
      (subst (λ other. P true journal other) (sym memory)
      (runs_stopped opening before actor tried command (record { journal = journal; answers = answers })
      (subst (λ b. Runs b opening before actor tried (record { journal = journal; answers = answers })) goes_on ran)
      accepted)))

-- a batch that is run so is run so, however its parts are named
pub runs_so : (stopped stops_now : Bool) (opening same_opening : SessionState) (before : List Entry) (actor : List ℕ)
    (tried tried_now : List Command) (journal : List Entry) (answers answers_now : List Answer) →
    stopped ≡ stops_now → opening ≡ same_opening → tried ≡ tried_now → answers ≡ answers_now →
    Runs stopped opening before actor tried (record { journal = journal; answers = answers }) →
    Runs stops_now same_opening before actor tried_now (record { journal = journal; answers = answers_now })
runs_so stopped stops_now opening same_opening before actor tried tried_now journal answers answers_now stopping opened
    same answered ran =
    subst (λ answers. Runs stops_now same_opening before actor tried_now
    (record { journal = journal; answers = answers })) answered
    (subst (λ tried. Runs stops_now same_opening before actor tried (record { journal = journal; answers = answers }))
    same
    (subst (λ opening. Runs stops_now opening before actor tried (record { journal = journal; answers = answers }))
    opened
    (subst (λ stopped. Runs stopped opening before actor tried (record { journal = journal; answers = answers }))
    stopping ran)))
