-- What is prepared for a session.
use Rattle.std.specs.Prelude.{◌≡◌, ℕ, List, Some, string_bytes}
use Rattle.serde_json.specs.Read.{read}
use Rattle.session_opening.specs.declared.new_user.NewUser.{NewUser}
use Rattle.session_state.specs.SessionState.{SessionState}
use Rattle.opened_session.specs.Opened.{OpensWith}
use Rattle.session_text.specs.SessionData.{session_data, text_of_session}
use Rattle.people_list.specs.declared.person.Person.{Person}
use Rattle.sign_ins.specs.declared.sign_in_token.SignInToken.{SignInToken}
use Rattle.preparing.specs.declared.plan.Plan.{Plan}
use Rattle.preparing.specs.declared.prepared.Prepared.{Prepared}
use Rattle.preparing.specs.Cards.{sign_in_cards, cards_page_text}
use Rattle.preparing.specs.OpensAs.{OpensAs}
use Rattle.preparing.specs.Planned.{session_planned}
use Rattle.preparing.specs.SignInList.{sign_in_lines, sign_in_list_text}
use Rattle.preparing.specs.Users.{AreUsersOf}

-- the object is that of the plan's session with these people as its users, is read as JSON of it, and opens as it and as nothing
-- else; the cards and the list have the same people with the names and the tokens by which they are its users
pub record IsPreparedFor (plan : Plan) (people : List Person) (tokens : List SignInToken) (boards : List ℕ)
    (prepared : Prepared) : Type 0 where
  pub users : List NewUser
  pub are : AreUsersOf people tokens users
  pub session : string_bytes prepared.session ≡ text_of_session (session_planned plan boards users)
  pub reads : read (string_bytes prepared.session) ≡ Some (session_data (session_planned plan boards users))
  pub opens : (opening : SessionState) → OpensWith (Some boards) (string_bytes prepared.session) opening
      → OpensAs (session_planned plan boards users) opening
  pub sign_ins : string_bytes prepared.sign_ins ≡ sign_in_list_text (sign_in_lines people tokens users)
  pub cards : string_bytes prepared.cards ≡ cards_page_text (sign_in_cards plan.address.now people tokens users)
