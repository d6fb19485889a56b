-- The page of cards.
use Rattle.std.specs.Prelude.{ℕ, List, [], ◌∷◌, ◌++◌, Option, Some, None, codes, chars, string_bytes}
use Rattle.table_terms.specs.Pair.{pair_text}
use Rattle.table_terms.specs.Place.{place_letter}
use Rattle.disclosure_rules.specs.declared.seat.Seat.{Seat}
use Rattle.session_opening.specs.declared.new_user.NewUser.{NewUser}
use Rattle.people_list.specs.declared.person.Person.{Person}
use Rattle.sign_ins.specs.declared.sign_in_token.SignInToken.{SignInToken}
use Rattle.preparing.specs.declared.cards_page.TheConstants.{HEAD, FOOT}
use Rattle.preparing.specs.Escaping.{escaped_signs}

-- where somebody sits: the pair and the place, or nothing
abbrev pub seat_on_card : Option Seat → List ℕ
seat_on_card None = []
seat_on_card (Some seat) = pair_text seat.pair ++ (codes " " ++ place_letter seat.place ∷ [])

-- a text as it stands in a page
abbrev pub on_page : List ℕ → List ℕ
on_page text = escaped_signs (chars text)

-- a card: a name to show, a seat, an address, a name to sign in by and a token; the last three stand once more together, for a
-- code
unfoldable pub printed_card : List ℕ → List ℕ → List ℕ → List ℕ → List ℕ → List ℕ
printed_card shown seat address name token =
    codes "<div class=\"card\">\n<h2><bdi>"
    ++ (shown
    ++ (codes "</bdi></h2>\n<p class=\"seat\">"
    ++ (seat
    ++ (codes "</p>\n<p class=\"address\">"
    ++ (address
    ++ (codes "</p>\n<p>Sign in as <b>"
    ++ (name
    ++ (codes "</b></p>\n<p class=\"token\">"
    ++ (token
    ++ (codes "</p>\n<p class=\"code\" data-link=\""
    ++ (address
    ++ (codes "#" ++ (name ++ (codes ":" ++ (token ++ codes "\">no QR code</p>\n</div>\n")))))))))))))))

-- the card of a person, who is this user by this token
abbrev pub sign_in_card : List ℕ → Person → SignInToken → NewUser → List ℕ
sign_in_card address person token user =
    printed_card (on_page person.shown) (seat_on_card person.seat) (on_page address) (on_page user.name) (string_bytes token.text)

-- a card for each person, in their order
abbrev pub sign_in_cards : List ℕ → List Person → List SignInToken → List NewUser → List ℕ
sign_in_cards address [] tokens users = []
sign_in_cards address (person ∷ people) [] users = []
sign_in_cards address (person ∷ people) (token ∷ tokens) [] = []
sign_in_cards address (person ∷ people) (token ∷ tokens) (user ∷ users) =
    sign_in_card address person token user ++ sign_in_cards address people tokens users

-- the page of these cards
unfoldable pub cards_page_text : List ℕ → List ℕ
cards_page_text cards = HEAD.now ++ (cards ++ FOOT.now)
