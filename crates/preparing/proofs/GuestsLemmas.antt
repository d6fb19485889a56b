-- People, their guests and their users, one after another.
use Rattle.std.proofs.Common.{◌≡◌, ◌<◌, ◌+◌, ℕ, List, [], ◌∷◌, ◌++◌, length, take, drop, get_or, refl, sym, ap, subst, ◌∙◌, IfSome, string_bytes, arith}
use Rattle.std.proofs.lemmas.List.{take_more, at_drop_more, length-take-le}
use Rattle.std.proofs.lemmas.List.Concat.{flat_map-cons}
use Rattle.std.specs.List.{flat_map}
use Rattle.session_opening.specs.declared.new_user.NewUser.{NewUser}
use Rattle.people_list.specs.declared.person.Person.{Person}
use Rattle.sign_ins.specs.declared.sign_in_token.SignInToken.{SignInToken}
use Rattle.preparing.specs.declared.guest.Guest.{Guest}
use Rattle.preparing.specs.declared.plan.Plan.{Plan}
use Rattle.preparing.specs.declared.prepared.Prepared.{Prepared}
use Rattle.preparing.specs.Cards.{sign_in_card, printed_card, sign_in_cards, on_page, cards_page_text, seat_on_card}
use Rattle.preparing.specs.Guests.{IsGuestOf, AreGuestsOf, IsUserOfGuest, AreUsersOfGuests, IsWrittenFor, guest_card, guest_line}
use Rattle.preparing.specs.Planned.{session_planned}
use Rattle.preparing.proofs.OpeningLemmas.{opens_as}
use Rattle.preparing.specs.Prepared.{IsPreparedFor}
use Rattle.preparing.specs.SignInList.{sign_in_line, sign_in_line_text, sign_in_lines, sign_in_list_text, quoted}
use Rattle.preparing.specs.Users.{IsUserOf, AreUsersOf}

-- one guest more, who has the next token
pub one_guest_more : (people : List Person) (tokens : List SignInToken) (guests : List Guest) (person : Person)
    (token : SignInToken) (guest : Guest) (rest : List SignInToken) → AreGuestsOf people tokens guests
    → drop (length people) tokens ≡ token ∷ rest → IsGuestOf person token guest
    → AreGuestsOf (people ++ person ∷ []) tokens (guests ++ guest ∷ [])
one_guest_more [] [] [] person token guest rest are next is = absurd (cc)
one_guest_more [] (t ∷ tokens) [] person token guest rest are next is =
    let same : token ≡ t = cc in (subst (λ (its : SignInToken). IsGuestOf person its guest) same is, tt)
one_guest_more [] [] (g ∷ guests) person token guest rest are next is = absurd are
one_guest_more [] (t ∷ tokens) (g ∷ guests) person token guest rest are next is = absurd are
one_guest_more (p ∷ people) [] guests person token guest rest are next is = absurd are
one_guest_more (p ∷ people) (t ∷ tokens) [] person token guest rest are next is = absurd are
one_guest_more (p ∷ people) (t ∷ tokens) (g ∷ guests) person token guest rest are next is =
    (are.0, one_guest_more people tokens guests person token guest rest are.1 next is)

-- the guest at a place of the people, who has the token there
pub guest_there : (people : List Person) (tokens : List SignInToken) (guests : List Guest) (place : ℕ) (person : Person)
    (token : SignInToken) (guest : Guest) → place < length people → place < length tokens → get_or people place person ≡ person
    → get_or tokens place token ≡ token → AreGuestsOf (take place people) tokens guests → IsGuestOf person token guest
    → AreGuestsOf (take (place + 1) people) tokens (guests ++ guest ∷ [])
guest_there people tokens guests place person token guest below below_tokens its_person its_token are is =
    let before = take place people in
    let rest = drop (place + 1) tokens in
    let here : length before ≡ place = omega (arith, length-take-le place people (omega (arith, below))) in
    let next = ap (λ (at : ℕ). drop at tokens) here ∙ at_drop_more (λ (ts : List SignInToken). ts) tokens place token below_tokens
    ∙ ap (λ (t : SignInToken). t ∷ rest) its_token in
    subst (λ (ps : List Person). AreGuestsOf ps tokens (guests ++ guest ∷ []))
    (sym (take_more people place person below ∙ ap (λ (p : Person). before ++ p ∷ []) its_person))
    (one_guest_more before tokens guests person token guest rest are next is)

-- one user more
pub one_user_more : (guests : List Guest) (users : List NewUser) (guest : Guest) (user : NewUser)
    → AreUsersOfGuests guests users → IsUserOfGuest guest user
    → AreUsersOfGuests (guests ++ guest ∷ []) (users ++ user ∷ [])
one_user_more [] [] guest user are is = (is, tt)
one_user_more [] (u ∷ users) guest user are is = absurd are
one_user_more (g ∷ guests) [] guest user are is = absurd are
one_user_more (g ∷ guests) (u ∷ users) guest user are is = (are.0, one_user_more guests users guest user are.1 is)

-- the user of a guest is the person's
user_of_person : (person : Person) (token : SignInToken) (guest : Guest) (user : NewUser) → IsGuestOf person token guest
    → IsUserOfGuest guest user → IsUserOf person token user
user_of_person person token guest user of is =
    let wanted = subst (λ (p : Person). IfSome p.sign_in (λ name. guest.name ≡ name)) (sym of.person) of.name in
    let theirs = is.is wanted in
    subst (λ (p : Person). IsUserOf p token user) of.person
    (subst (λ (t : SignInToken). IsUserOf guest.person.now t user) of.token theirs)

pub users_of_people : (people : List Person) (tokens : List SignInToken) (guests : List Guest) (users : List NewUser)
    → AreGuestsOf people tokens guests → AreUsersOfGuests guests users → AreUsersOf people tokens users
users_of_people [] tokens [] [] are is = tt
users_of_people [] tokens [] (u ∷ users) are is = absurd is
users_of_people [] tokens (g ∷ guests) users are is = absurd are
users_of_people (p ∷ people) [] guests users are is = absurd are
users_of_people (p ∷ people) (t ∷ tokens) [] users are is = absurd are
users_of_people (p ∷ people) (t ∷ tokens) (g ∷ guests) [] are is = absurd is
users_of_people (p ∷ people) (t ∷ tokens) (g ∷ guests) (u ∷ users) are is =
    (user_of_person p t g u are.0 is.0, users_of_people people tokens guests users are.1 is.1)

-- a guest's card is that of the person and the user
same_card : (address : List ℕ) (person : Person) (token : SignInToken) (guest : Guest) (user : NewUser)
    → IsGuestOf person token guest → IsUserOfGuest guest user
    → guest_card (on_page address) guest ≡ sign_in_card address person token user
same_card address person token guest user of is =
    ap (λ (p : Person). printed_card (on_page p.shown) (seat_on_card p.seat) (on_page address) (on_page guest.name) (string_bytes guest.token.now.text)) of.person
    ∙ ap (λ (t : SignInToken). printed_card (on_page person.shown) (seat_on_card person.seat) (on_page address) (on_page guest.name) (string_bytes t.text)) of.token
    ∙ ap (λ (name : List ℕ). printed_card (on_page person.shown) (seat_on_card person.seat) (on_page address) (on_page name) (string_bytes token.text)) (sym is.name)

pub same_cards : (address : List ℕ) (people : List Person) (tokens : List SignInToken) (guests : List Guest)
    (users : List NewUser) → AreGuestsOf people tokens guests → AreUsersOfGuests guests users
    → flat_map (guest_card (on_page address)) guests ≡ sign_in_cards address people tokens users
same_cards address [] tokens [] [] are is = refl
same_cards address [] tokens [] (u ∷ users) are is = absurd is
same_cards address [] tokens (g ∷ guests) users are is = absurd are
same_cards address (p ∷ people) [] guests users are is = absurd are
same_cards address (p ∷ people) (t ∷ tokens) [] users are is = absurd are
same_cards address (p ∷ people) (t ∷ tokens) (g ∷ guests) [] are is = absurd is
same_cards address (p ∷ people) (t ∷ tokens) (g ∷ guests) (u ∷ users) are is =
    flat_map-cons (guest_card (on_page address)) g guests
    ∙ ap (λ (card : List ℕ). card ++ flat_map (guest_card (on_page address)) guests) (same_card address p t g u are.0 is.0)
    ∙ ap (λ (cards : List ℕ). sign_in_card address p t u ++ cards) (same_cards address people tokens guests users are.1 is.1)

-- and so is a guest's line
same_line : (person : Person) (token : SignInToken) (guest : Guest) (user : NewUser) → IsGuestOf person token guest
    → IsUserOfGuest guest user → guest_line guest ≡ sign_in_line person token user
same_line person token guest user of is =
    ap (λ (p : Person). sign_in_line_text (quoted p.shown) (seat_on_card p.seat) guest.name (string_bytes guest.token.now.text)) of.person
    ∙ ap (λ (t : SignInToken). sign_in_line_text (quoted person.shown) (seat_on_card person.seat) guest.name (string_bytes t.text)) of.token
    ∙ ap (λ (name : List ℕ). sign_in_line_text (quoted person.shown) (seat_on_card person.seat) name (string_bytes token.text)) (sym is.name)

pub same_lines : (people : List Person) (tokens : List SignInToken) (guests : List Guest) (users : List NewUser)
    → AreGuestsOf people tokens guests → AreUsersOfGuests guests users
    → flat_map guest_line guests ≡ sign_in_lines people tokens users
same_lines [] tokens [] [] are is = refl
same_lines [] tokens [] (u ∷ users) are is = absurd is
same_lines [] tokens (g ∷ guests) users are is = absurd are
same_lines (p ∷ people) [] guests users are is = absurd are
same_lines (p ∷ people) (t ∷ tokens) [] users are is = absurd are
same_lines (p ∷ people) (t ∷ tokens) (g ∷ guests) [] are is = absurd is
same_lines (p ∷ people) (t ∷ tokens) (g ∷ guests) (u ∷ users) are is =
    flat_map-cons guest_line g guests
    ∙ ap (λ (line : List ℕ). line ++ flat_map guest_line guests) (same_line p t g u are.0 is.0)
    ∙ ap (λ (lines : List ℕ). sign_in_line p t u ++ lines) (same_lines people tokens guests users are.1 is.1)

-- what is written for guests is prepared for their people
pub prepared_for : (plan : Plan) (people : List Person) (tokens : List SignInToken) (boards : List ℕ) (prepared : Prepared)
    (guests : List Guest) → AreGuestsOf people tokens guests → IsWrittenFor plan guests prepared
    → IsPreparedFor plan people tokens boards prepared
prepared_for plan people tokens boards prepared guests are is =
    let users = is.session.users in
    let theirs = is.session.are in
    record {
      users = users;
      are = users_of_people people tokens guests users are theirs;
      session = is.session.is boards;
      reads = is.session.reads boards;
      opens = λ opening opens. opens_as (session_planned plan boards users) (string_bytes prepared.session) opening
          (is.session.writable is.said boards) (is.session.reads boards) opens;
      sign_ins = is.sign_ins ∙ ap sign_in_list_text (same_lines people tokens guests users are theirs);
      cards = is.cards ∙ ap cards_page_text (same_cards plan.address.now people tokens guests users are theirs);
    }
