-- What desks do: a batch, or a command of the solver's, is tried after some journal, and what was accepted is published
-- as one publication.
use Rattle.std.specs.Prelude.{◌≡◌, ℕ, Bool, List, [], ◌∷◌, ◌++◌, length, refl}
use Rattle.std.specs.Coded.{Coded, code_by, coded×}
use Rattle.session_state.specs.SessionState.{SessionState}
use Rattle.session_commands.specs.declared.actor.Actor.TheVariants.{Solver}
use Rattle.session_commands.specs.declared.command.Command.{Command}
use Rattle.session_commands.specs.declared.entry.Entry.{Entry}
use Rattle.session_book.specs.declared.answer.Answer.{Answer}
use Rattle.session_book.specs.Run.{Runs, IsTried, first_number, last_number}
use Rattle.history.specs.Prefixes.{entries_of}
use Rattle.published_view.specs.World.{book_with}
use Rattle.displays.specs.Copies.{IsPublished, publications_code}
use Rattle.displays.specs.Publishing.{Outgoing, Receipted, receipted}

-- one publication more, of these entries, where there are any
abbrev pub with_publication : List (List Entry) → List Entry → List (List Entry)
with_publication publications [] = publications
with_publication publications (entry ∷ more) = publications ++ (entry ∷ more) ∷ []

-- the receipt for what joined a journal: the numbers of the first and the last entry, or twice 0 where none joined it,
-- and all that is published, which is that journal now
abbrev pub receipt_after : List Entry → List (List Entry) → Receipted
receipt_after before published =
    receipted (first_number (length before) (length (entries_of published)))
    (last_number (length before) (length (entries_of published))) published

-- behind publications with the entries of a journal these entries, where there are any, are one publication
pub record ArePublishedOnce (before more : List Entry) (published : List (List Entry)) : Type 0 where
  pub earlier : List (List Entry)
  pub behind : entries_of earlier ≡ before
  pub once : published ≡ with_publication earlier more

-- a user's batch was run after a journal, whole or up to a command for which memory was refused, with these answers;
-- its accepted entries stand behind that journal in what was published then, as one publication, and the receipt tells
-- their numbers
pub record IsSubmitted (opening : SessionState) (before : List Entry) (actor : List ℕ) (batch : List Command)
    (answers : List Answer) (receipt : Receipted) : Type 0 where
  pub stopped : Bool
  pub ran :
      Runs stopped opening before actor batch (record { journal = entries_of receipt.published; answers = answers })
  pub more : List Entry
  pub once : ArePublishedOnce before more receipt.published
  pub published : IsPublished opening receipt.published
  pub told : receipt ≡ receipt_after before receipt.published

-- the same of one command of the solver's
pub record IsEntered (opening : SessionState) (before : List Entry) (command : Command) (answer : Answer)
    (receipt : Receipted) : Type 0 where
  pub tried :
      IsTried (book_with opening before) Solver command answer (book_with opening (entries_of receipt.published))
  pub more : List Entry
  pub once : ArePublishedOnce before more receipt.published
  pub published : IsPublished opening receipt.published
  pub told : receipt ≡ receipt_after before receipt.published

-- what lies under the lock: what is published, and the store that keeps it
pub record KeptPublications (K : Type 0) : Type 0 where
  pub published : List (List Entry)
  pub store : K

abbrev pub kept_publications_code : {K : Type 0} → Coded K → Coded (KeptPublications K)
kept_publications_code {K} store =
    code_by (List (List Entry) × K) (coded× publications_code store) (λ s. (s.published, s.store))
    (λ p. record { published = p.0; store = p.1 }) (λ _. refl)

-- ---- for private clauses

-- once what is pending is published, if anything is
abbrev pub after_showing : Outgoing → Outgoing
after_showing outgoing = record { published = with_publication outgoing.published outgoing.pending; pending = [] }

-- once what is pending is dropped
abbrev pub only_published : Outgoing → Outgoing
only_published outgoing = record { published = outgoing.published; pending = [] }
