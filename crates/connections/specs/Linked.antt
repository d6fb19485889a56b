-- What contracts see of a connection: the session and the journal for which its keeper stands, how many entries of the
-- session the keeper has entered itself, in all, and who is signed in.
use Rattle.std.specs.Prelude.{◌≡◌, ℕ, Option, List, refl}
use Rattle.std.specs.Coded.{Coded, code_by, coded×, coded_list, coded_option, coded_ℕ}
use Rattle.session_state.specs.SessionState.{SessionState, session_code}
use Rattle.session_commands.specs.contracts.entry.Entry as the_entry
use Rattle.session_commands.specs.declared.entry.Entry.{Entry}
use Rattle.session_keeper.specs.Keeping.{GoesOn}

pub record Linked : Type 0 where
  pub opening : SessionState
  pub journal : List Entry
  pub own_entries : ℕ
  pub user : Option (List ℕ)

abbrev pub linked_code : Coded Linked
linked_code =
    code_by (SessionState × (List Entry × (ℕ × Option (List ℕ))))
    (coded× session_code
    (coded× (coded_list the_entry.the_row.coded) (coded× coded_ℕ (coded_option (coded_list coded_ℕ)))))
    (λ l. (l.opening, (l.journal, (l.own_entries, l.user))))
    (λ p. record { opening = p.0; journal = p.1.0; own_entries = p.1.1.0; user = p.1.1.1 })
    (λ _. refl)

-- the same connection, on which this user is signed in, or nobody is
abbrev pub signed_in : Option (List ℕ) → Linked → Linked
signed_in user at = record at { user = user }

-- the journal has gone on, if at all, and the session is the same
abbrev pub HasGoneOn : Linked → Linked → Type 0
HasGoneOn before after = GoesOn before.opening before.journal after.opening after.journal

-- and who was signed in still is
pub record StaysOn (before after : Linked) : Type 0 where
  pub later : HasGoneOn before after
  pub user : after.user ≡ before.user

-- its keeper has entered nothing
abbrev pub EntersNone : Linked → Linked → Type 0
EntersNone before after = after.own_entries ≡ before.own_entries
