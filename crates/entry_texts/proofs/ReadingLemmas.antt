-- What the texts of an entry tell, by what is read of them.
use Rattle.std.proofs.Common.{◌≡◌, ◌<◌, ℕ, List, codes, false, Option, Some, None, option_and_then, Result, Ok, Err, refl, sym, ap, subst, ◌∙◌}
use Rattle.std.proofs.lemmas.Option.{same_Some}
use Rattle.serde_json.specs.Data.{Data}
use Rattle.serde_json.specs.Find.{get}
use Rattle.cards.specs.declared.card.Card.{Card}
use Rattle.cards.specs.declared.deal_reading.DealTextError.{DealTextError}
use Rattle.cards.specs.Hands.{Hands, IsDeal}
use Rattle.cards.specs.HandText.{deal_text}
use Rattle.cards.specs.HandReading.{ReadsDeal}
use Rattle.cards.proofs.ReadBackLemmas.{deal_back}
use Rattle.movement.specs.declared.cell.Cell.{Cell}
use Rattle.solver_results.specs.PlayAnswer.{PlayedDeal}
use Rattle.session_commands.specs.declared.actor.Actor.{Actor}
use Rattle.session_commands.specs.declared.actor.Actor.TheVariants.{User, Solver}
use Rattle.session_commands.specs.declared.command.Command.{Command}
use Rattle.session_commands.specs.declared.command.Command.TheVariants as command
use Rattle.session_commands.specs.declared.entry.Entry.{Entry}
use Rattle.session_commands.specs.Command.{is_solvers}
use Rattle.json_fields.specs.Field.{text_at}
use Rattle.json_fields.specs.Reading.{wanted, Fails}
use Rattle.json_fields.specs.declared.request_fault.RequestFault.{RequestFault}
use Rattle.json_fields.specs.declared.request_fault.RequestFault.TheVariants as request
use Rattle.session_roles.specs.declared.edition.Edition.TheVariants.{Second}
use Rattle.command_object.specs.Command.{command_called, command_of}
use Rattle.command_object.specs.Play.{play}
use Rattle.command_object.proofs.MemberLemmas.{play_agrees}
use Rattle.command_writing.specs.ResultData.{written_play}
use Rattle.command_writing.specs.CommandData.{command_data, solved_data, analysed_data}
use Rattle.command_writing.specs.Values.{IsWritablePlay}
use Rattle.command_writing.specs.Writable.{IsWritable}
use Rattle.command_writing.proofs.WrittenLemmas.{play_is, read_back}
use Rattle.entry_texts.specs.declared.kept_entry.KeptEntry.{KeptEntry}
use Rattle.entry_texts.specs.declared.kept_entry.KeptEntry.TheVariants.{Given, Solved, Analysed}
use Rattle.entry_texts.specs.declared.text_fault.TextFault.{TextFault}
use Rattle.entry_texts.specs.declared.text_fault.TextFault.TheVariants.{OutOfMemory}
use Rattle.entry_texts.specs.EntryTexts.{IsKeepable}
use Rattle.entry_texts.specs.Kept.{IsSentBy, IsReadable, TellsEntry, kept_command, kept_of, fault_of}
use Rattle.entry_texts.proofs.UserLemmas.{is_users}

-- a command that isn't the solver's is told whole
pub told_whole : (entry : Entry) (c : Command) → is_solvers c ≡ false → Given entry ≡ kept_command entry c
told_whole entry (command.Solved board table) is = absurd (cc)
told_whole entry (command.Analysed cell costs) is = absurd (cc)
told_whole entry _ is = refl

-- with the actor that was read
with_actor : (entry : Entry) (actor : Actor) (read : Result KeptEntry TextFault) → entry.actor ≡ actor
    → TellsEntry (record { actor = actor; command = entry.command }) read → TellsEntry entry read
with_actor entry actor read is tells =
    subst (λ a. TellsEntry (record { actor = a; command = entry.command }) read) (sym is) tells

-- what is read of an object as a command
module _ (actor : Actor) (d : Data) (read : Result KeptEntry TextFault) where
  abbrev Solves : Type 0
  Solves =
      (board : ℕ) (deal : Hands) → board < 256 → IsDeal deal → d ≡ solved_data board deal
      → read ≡ Ok (Solved actor board deal)

  abbrev Analyses : Type 0
  Analyses =
      (cell : Cell) (played : PlayedDeal) → IsWritable (command.Analysed cell played) → d ≡ analysed_data cell played
      → TellsEntry (record { actor = actor; command = command.Analysed cell played }) read

  abbrev Gives : Type 0
  Gives =
      (name : List ℕ) (c : Command) → actor ≡ User name → command_of Second d ≡ Some c
      → TellsEntry (record { actor = User name; command = c }) read

-- a command that a client can send, by who gave it
sent_told : (actor : Actor) (c : Command) (d : Data) (read : Result KeptEntry TextFault) → IsWritable c
    → IsSentBy actor c → command_data c ≡ d → Gives actor d read
    → TellsEntry (record { actor = actor; command = c }) read
sent_told (User name) c d read is sent same gives =
    gives name c refl (ap (command_of Second) (sym same) ∙ read_back c is sent)
sent_told Solver c d read is sent same gives = absurd sent

-- each command, by who gave it
command_told : (actor : Actor) (c : Command) (d : Data) (read : Result KeptEntry TextFault) → IsWritable c
    → IsReadable actor c → command_data c ≡ d → Solves actor d read → Analyses actor d read → Gives actor d read
    → TellsEntry (record { actor = actor; command = c }) read
command_told actor (command.Solved board deal) d read is readable same solves analyses gives =
    subst (TellsEntry (record { actor = actor; command = command.Solved board deal }))
    (sym (solves board deal is.0 is.1.0 (sym same))) refl
command_told actor (command.Analysed cell played) d read is readable same solves analyses gives =
    analyses cell played is (sym same)
command_told actor c d read is readable same solves analyses gives = sent_told actor c d read is readable same gives

pub entry_told : (entry : Entry) (actor : Actor) (d : Data) (read : Result KeptEntry TextFault) → entry.actor ≡ actor
    → IsKeepable entry → IsReadable entry.actor entry.command → command_data entry.command ≡ d
    → Solves actor d read → Analyses actor d read → Gives actor d read → TellsEntry entry read
entry_told entry actor d read is keepable readable same solves analyses gives =
    with_actor entry actor read is
    (command_told actor entry.command d read keepable.command
    (subst (λ giver. IsReadable giver entry.command) is readable) same solves analyses gives)

-- no client sends what the solver tells
pub no_client_solves : (d : Data) (c : Command) → text_at (codes "cmd") d ≡ Some (codes "Solved")
    → command_of Second d ≡ Some c → ⊥
unfolding command_of
no_client_solves d c word was =
    let none : None ≡ Some c = ap (option_and_then (λ w. command_called Second w d)) (sym word) ∙ was in absurd (cc)

pub no_client_analyses : (d : Data) (c : Command) → text_at (codes "cmd") d ≡ Some (codes "Analysed")
    → command_of Second d ≡ Some c → ⊥
unfolding command_of
no_client_analyses d c word was =
    let none : None ≡ Some c = ap (option_and_then (λ w. command_called Second w d)) (sym word) ∙ was in absurd (cc)

-- ---- what was read

same_Ok : {A E : Type 0} (x y : A) (one other : Result A E) → one ≡ Ok x → other ≡ Ok y → one ≡ other → x ≡ y
same_Ok x y one other is also same = cc (is, also, same)

pub deal_found : (deal other : Hands) (text : List ℕ) (read : Result Hands DealTextError) → IsDeal deal
    → text ≡ deal_text deal → ReadsDeal text read → read ≡ Ok other → Some other ≡ Some deal
deal_found deal other text read is same reads was =
    ap Some (same_Ok other deal read read was (deal_back deal read is (subst (λ t. ReadsDeal t read) same reads)) refl)

pub no_deal_found : (deal : Hands) (text : List ℕ) (error : DealTextError) (read : Result Hands DealTextError)
    → IsDeal deal → text ≡ deal_text deal → ReadsDeal text read → read ≡ Err error → None ≡ Some deal
no_deal_found deal text error read is same reads was =
    let back = deal_back deal read is (subst (λ t. ReadsDeal t read) same reads) in absurd (cc)

there : {A : Type 0} (found : Option A) (x : A) → wanted found ≡ Ok x → found ≡ Some x
there None x same = absurd (cc)
there (Some y) x same = ap Some (same_Ok y x (wanted (Some y)) (wanted (Some y)) refl same refl)

pub given_whole : (name : List ℕ) (d : Data) (read c : Command) → wanted (command_of Second d) ≡ Ok read
    → command_of Second d ≡ Some c
    → Given (record { actor = User name; command = read }) ≡ kept_of (record { actor = User name; command = c })
given_whole name d read c was same =
    let one = same_Some read c (sym (there (command_of Second d) read was) ∙ same) in
    ap (λ (x : Command). Given (record { actor = User name; command = x })) one
    ∙ told_whole (record { actor = User name; command = c }) c (is_users d c same)

pub given_own : (d : Data) (read : Command) → wanted (command_of Second d) ≡ Ok read → is_solvers read ≡ false
given_own d read was = is_users d read (there (command_of Second d) read was)

play_there : (cell : Cell) (played : PlayedDeal) (d : Data) → IsWritablePlay played.play → d ≡ analysed_data cell played
    → play.value (get play.name d) ≡ Some played.play
play_there cell played d few same =
    ap (λ x. play.value (get play.name x)) same
    ∙ play_agrees.reads (Some (written_play played.play)) played.play (play_is played.play few)

pub analysed_told : (actor : Actor) (cell : Cell) (played : PlayedDeal) (d : Data) (cards : List Card)
    (read : Result KeptEntry TextFault) → IsWritablePlay played.play → d ≡ analysed_data cell played
    → wanted (play.value (get play.name d)) ≡ Ok cards → read ≡ Ok (Analysed actor cell played.deal played.contract cards)
    → TellsEntry (record { actor = actor; command = command.Analysed cell played }) read
analysed_told actor cell played d cards read few same found was =
    let one = same_Some cards played.play
    (sym (there (play.value (get play.name d)) cards found) ∙ play_there cell played d few same) in
    subst (TellsEntry (record { actor = actor; command = command.Analysed cell played })) (sym was)
    (ap (λ (x : List Card). Analysed actor cell played.deal played.contract x) one)

-- where there is something to be read, only memory is refused
refused : {A : Type 0} (fault : RequestFault) (x : A) → Fails fault (Ok x) → fault_of fault ≡ OutOfMemory
refused request.TooLong x fails = absurd (cc)
refused request.Malformed x fails = absurd (cc)
refused request.UnknownRequest x fails = absurd (cc)
refused request.BadField x fails = absurd (cc)
refused request.OutOfMemory x fails = refl

pub no_play_refused : (cell : Cell) (played : PlayedDeal) (d : Data) (fault : RequestFault) → IsWritablePlay played.play
    → d ≡ analysed_data cell played → Fails fault (wanted (play.value (get play.name d)))
    → fault_of fault ≡ OutOfMemory
no_play_refused cell played d fault few same fails =
    refused fault played.play (subst (λ found. Fails fault (wanted found)) (play_there cell played d few same) fails)

pub no_command_refused : (d : Data) (c : Command) (fault : RequestFault) → command_of Second d ≡ Some c
    → Fails fault (wanted (command_of Second d)) → fault_of fault ≡ OutOfMemory
no_command_refused d c fault same fails = refused fault c (subst (λ found. Fails fault (wanted found)) same fails)
