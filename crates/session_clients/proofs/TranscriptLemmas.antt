-- A transcript goes beside a server of a session's clients.
use Rattle.std.proofs.Common.{◌≡◌, ◌≢◌, ◌≤◌, ℕ, true, List, [], ◌∷◌, refl, sym, ap, subst, ◌∙◌}
use Rattle.std.specs.Prelude.{Option, None}
use Rattle.json_fields.specs.declared.request_fault.RequestFault.TheVariants.{Malformed, OutOfMemory}
use Rattle.session_state.specs.SessionState.{SessionState}
use Rattle.session_commands.specs.declared.entry.Entry.{Entry}
use Rattle.wire.specs.ReceiptText.{fault_text}
use Rattle.wire.specs.Request.{is_message_text}
use Rattle.connections.specs.Conversation.{AreExchanged, IsExchanged, journal_then, own_entries_then}
use Rattle.connections.specs.Linked.{Linked, signed_in}
use Rattle.connections.proofs.ConversationLemmas.{opening_stays}
use Rattle.many_clients.specs.Hall.{HasTaken, IsHallStep, arrivals}
use Rattle.many_clients.specs.Talker.{Talker}
use Rattle.many_clients.proofs.FollowingLemmas.{taken_too}
use Rattle.session_clients.specs.Transcript.{
  AreServedInTurns,
  Transcribes,
  Transcript,
  opening_transcript,
}

-- a connection is what its parts are
linked_is : (at : Linked) (opening : SessionState) (journal : List Entry) (own : ℕ) (user : Option (List ℕ)) →
    at.opening ≡ opening → at.journal ≡ journal → at.own_entries ≡ own → at.user ≡ user →
    at ≡ record { opening = opening; journal = journal; own_entries = own; user = user }
linked_is at opening journal own user same_opening same_journal same_own same_user = λ i. record {
  opening = same_opening i;
  journal = same_journal i;
  own_entries = same_own i;
  user = same_user i;
}

-- a transcript of what was exchanged on connections until now
record IsOf (Others : List Entry → List Entry → Type 0) (no_entry not_kept : Type 0) (opening : SessionState) (own : ℕ)
    (at : Linked) (transcript : Transcript) : Type 0 where
  now : transcript.now ≡ at
  same : at.opening ≡ opening
  journal : at.journal ≡ journal_then transcript.exchanges
  entered : at.own_entries ≡ own_entries_then own transcript.exchanges
  exchanged : AreExchanged Others no_entry not_kept opening own transcript.exchanges

module _ (Others : List Entry → List Entry → Type 0) (no_entry not_kept : Type 0) (opening : SessionState) (own : ℕ)
  where
    note : (before : Linked) (user : Option (List ℕ)) (after : Linked) (user_after : Option (List ℕ)) (message : List ℕ)
        (answer : Option (List ℕ)) (at : Transcript) →
        IsExchanged Others no_entry not_kept (signed_in user before) message answer after × (user_after ≡ after.user)
        × (answer ≡ None → is_message_text message ≡ true) →
        IsOf Others no_entry not_kept opening own before at →
        (later : Transcript) × Transcribes at user message answer later user_after
        × IsOf Others no_entry not_kept opening own after later
    note before user after user_after message answer at (exchanged, who, short) is =
        let one =
        subst (λ b. IsExchanged Others no_entry not_kept (signed_in user b) message answer after) (sym is.now) exchanged
        in
        let same = ap (λ (l : Linked). l.opening) is.now in
        let journal = ap (λ (l : Linked). l.journal) is.now in
        let entered = ap (λ (l : Linked). l.own_entries) is.now in (
          record {
            exchanges =
                record { before = signed_in user at.now; message = message; answer = answer; after = after }
                ∷ at.exchanges;
            now = after;
          },
          (refl, who, short),
          record {
            now = refl;
            same = opening_stays Others no_entry not_kept (signed_in user before) after message answer exchanged ∙ is.same;
            journal = refl;
            entered = refl;
            exchanged = (same ∙ is.same, journal ∙ is.journal, entered ∙ is.entered, one, is.exchanged);
          },
        )

    -- the transcript of whatever serves clients beside one another, from a session's opening on; the session stays the same
    pub transcribed_in_turns : {S A : Type 0} (remaining contents : S → Option (List ℕ)) (linked : A → Linked)
        (connections : ℕ) (places : ℕ → Option (Talker S (Option (List ℕ)))) (server after : A) →
        (linked server).opening ≡ opening → (linked server).journal ≡ [] → (linked server).own_entries ≡ own →
        (linked server).user ≡ None →
        (taken : HasTaken
        (IsHallStep remaining contents
        (λ old user message answer new user_after.
        IsExchanged Others no_entry not_kept (signed_in user (linked old)) message answer (linked new)
        × (user_after ≡ (linked new).user) × (answer ≡ None → is_message_text message ≡ true))
        (fault_text Malformed) (fault_text OutOfMemory) None)
        (λ _. None) server places after) → (connections ≢ 0 → arrivals taken.0 ≤ connections) →
        AreServedInTurns remaining contents Others no_entry not_kept opening own connections places (linked after).journal
        (linked after).own_entries
        × ((linked after).opening ≡ opening)
    transcribed_in_turns remaining contents linked connections places server after same_opening nothing same_own nobody
        (steps, taken) few =
        let begins : linked server ≡ record { opening = opening; journal = []; own_entries = own; user = None } =
        linked_is (linked server) opening [] own None same_opening nothing same_own nobody in
        let first : IsOf Others no_entry not_kept opening own (linked server) (opening_transcript opening own) =
        record { now = sym begins; same = same_opening; journal = nothing; entered = same_own; exchanged = tt } in
        let (transcript, served, as_many, is) =
        taken_too remaining contents (fault_text Malformed) (fault_text OutOfMemory) None _ Transcribes
        (λ a transcript. IsOf Others no_entry not_kept opening own (linked a) transcript)
        (λ one user other user_after message answer at answered is. note (linked one) user (linked other) user_after message
        answer at answered is)
        steps (λ _. None) places server after (opening_transcript opening own) taken first in (
          record {
            transcript = transcript;
            exchanged = is.exchanged;
            reached = sym is.journal;
            entered = sym is.entered;
            served = served;
            few = λ some. rw as_many (few some);
          },
          is.same,
        )
