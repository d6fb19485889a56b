-- For private clauses: people with what each signs in by.
use Rattle.std.specs.Prelude.{◌≡◌, ◌<◌, ◌≤◌, ℕ, true, List, [], ◌∷◌, length, Some, None, IfSome, All, string_bytes}
use Rattle.std.specs.List.{flat_map}
use Rattle.serde_json.specs.Read.{read}
use Rattle.json_fields.specs.Field.{is_shown_within}
use Rattle.notices.specs.declared.notice_text.TheConstants.NoticeText.{MOST}
use Rattle.notices.specs.declared.notices.TheConstants.Notices.{MOST_TITLE}
use Rattle.session_object.specs.AskedMovement.{StandsBeside}
use Rattle.session_object.specs.NoticeMembers.{is_date}
use Rattle.session_object.specs.Session.{most_visits}
use Rattle.session_opening.specs.declared.new_user.NewUser.{NewUser}
use Rattle.session_roles.specs.declared.edition.Edition.TheVariants.{Second}
use Rattle.session_text.specs.SessionData.{session_data, text_of_session}
use Rattle.session_text.specs.Writable.{IsNumbered, IsWritableSession, IsWritableUser}
use Rattle.people_list.specs.declared.person.Person.{Person}
use Rattle.sign_ins.specs.declared.sign_in_token.SignInToken.{SignInToken}
use Rattle.preparing.specs.declared.guest.Guest.{Guest}
use Rattle.preparing.specs.declared.plan.Plan.{Plan}
use Rattle.preparing.specs.declared.prepared.Prepared.{Prepared}
use Rattle.preparing.specs.Cards.{printed_card, on_page, cards_page_text, seat_on_card}
use Rattle.preparing.specs.Planned.{movement_planned, session_planned}
use Rattle.preparing.specs.SignInList.{sign_in_line_text, sign_in_list_text, quoted}
use Rattle.preparing.specs.Users.{IsUserOf}

-- the guest is this person with this token
pub record IsGuestOf (who : Person) (by : SignInToken) (guest : Guest) : Type 0 where
  pub person : guest.person.now ≡ who
  pub token : guest.token.now ≡ by
  pub name : IfSome who.sign_in (λ wanted. guest.name ≡ wanted)

-- each guest is the person in the same place
abbrev pub AreGuestsOf : List Person → List SignInToken → List Guest → Type 0
AreGuestsOf [] tokens [] = Unit {0}
AreGuestsOf [] tokens (guest ∷ guests) = ⊥
AreGuestsOf (person ∷ people) [] guests = ⊥
AreGuestsOf (person ∷ people) (token ∷ tokens) [] = ⊥
AreGuestsOf (person ∷ people) (token ∷ tokens) (guest ∷ guests) =
    IsGuestOf person token guest × AreGuestsOf people tokens guests

-- the guest's pair, where there is one, has a number
abbrev pub IsSeated : Guest → Type 0
IsSeated guest = IfSome guest.person.now.seat (λ seat. IsNumbered seat.pair)

-- the user is this guest's
pub record IsUserOfGuest (guest : Guest) (user : NewUser) : Type 0 where
  pub name : user.name ≡ guest.name
  pub is : IfSome guest.person.now.sign_in (λ wanted. guest.name ≡ wanted)
      → IsUserOf guest.person.now guest.token.now user
  pub writable : IsSeated guest → IsWritableUser Second user

-- each user is that of the guest in the same place
abbrev pub AreUsersOfGuests : List Guest → List NewUser → Type 0
AreUsersOfGuests [] [] = Unit {0}
AreUsersOfGuests [] (user ∷ users) = ⊥
AreUsersOfGuests (guest ∷ guests) [] = ⊥
AreUsersOfGuests (guest ∷ guests) (user ∷ users) = IsUserOfGuest guest user × AreUsersOfGuests guests users

-- a guest's card, with an address as it stands in a page
abbrev pub guest_card : List ℕ → Guest → List ℕ
guest_card address guest =
    printed_card (on_page guest.person.now.shown) (seat_on_card guest.person.now.seat) address (on_page guest.name)
    (string_bytes guest.token.now.text)

-- a guest's line
abbrev pub guest_line : Guest → List ℕ
guest_line guest =
    sign_in_line_text (quoted guest.person.now.shown) (seat_on_card guest.person.now.seat) guest.name
    (string_bytes guest.token.now.text)

-- the title and the date of a plan aren't too long for a notice, and are a title and a date
pub record HasShortNotices (plan : Plan) : Type 0 where
  pub title : IfSome plan.title (λ text. length text.now ≤ MOST)
  pub date : IfSome plan.date (λ text. length text.now ≤ MOST)
  pub is_title : IfSome plan.title (λ text. is_shown_within MOST_TITLE text.now ≡ true)
  pub is_date : IfSome plan.date (λ text. is_date text.now ≡ true)

-- an object can say the numbers of a plan, and those of the seats of its guests
pub record CanBeSaid (plan : Plan) (guests : List Guest) : Type 0 where
  pub absent : IfSome plan.absent IsNumbered
  pub budget : plan.budget ≤ most_visits
  pub together : StandsBeside (movement_planned plan.movement) plan.rounds None plan.switched
  pub seats : All IsSeated guests

-- the numbers of a plan are those of a byte
pub record AreSmall (plan : Plan) : Type 0 where
  pub per_set : plan.per_set < 256
  pub rounds : plan.rounds < 256
  pub tables : plan.tables < 256
  pub switched : IfSome plan.switched (λ many. many < 256)

-- the plan's session with these users can be said where its numbers can, whatever its boards
abbrev pub IsWritableWhereSaid : Plan → List Guest → List NewUser → Type 0
IsWritableWhereSaid plan guests users =
    CanBeSaid plan guests → (boards : List ℕ) → IsWritableSession (session_planned plan boards users)

-- the text is that of the object of a plan's session with these guests, whatever its boards, and JSON of it
pub record IsTextFor (plan : Plan) (guests : List Guest) (text : List ℕ) : Type 0 where
  pub users : List NewUser
  pub are : AreUsersOfGuests guests users
  pub is : (boards : List ℕ) → text ≡ text_of_session (session_planned plan boards users)
  pub reads : (boards : List ℕ) → read text ≡ Some (session_data (session_planned plan boards users))
  pub writable : IsWritableWhereSaid plan guests users

-- what is prepared is for these guests
pub record IsWrittenFor (plan : Plan) (guests : List Guest) (prepared : Prepared) : Type 0 where
  pub said : CanBeSaid plan guests
  pub session : IsTextFor plan guests (string_bytes prepared.session)
  pub sign_ins : string_bytes prepared.sign_ins ≡ sign_in_list_text (flat_map guest_line guests)
  pub cards : string_bytes prepared.cards ≡ cards_page_text (flat_map (guest_card (on_page plan.address.now)) guests)
