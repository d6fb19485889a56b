-- The list of who signs in by what.
use Rattle.std.specs.Prelude.{ℕ, nat_eq, List, [], ◌∷◌, ◌++◌, codes, chars, encode_utf8, if◌then◌else◌, string_bytes}
use Rattle.session_opening.specs.declared.new_user.NewUser.{NewUser}
use Rattle.people_list.specs.declared.person.Person.{Person}
use Rattle.sign_ins.specs.declared.sign_in_token.SignInToken.{SignInToken}
use Rattle.preparing.specs.Cards.{seat_on_card}

-- a sign of a field in double quotes, which is written twice where it is one of them
abbrev pub quoted_sign : ℕ → List ℕ
quoted_sign sign = if nat_eq sign 34 then codes "\"\"" else encode_utf8 sign

-- signs one after another
abbrev pub quoted_signs : List ℕ → List ℕ
quoted_signs [] = []
quoted_signs (sign ∷ signs) = quoted_sign sign ++ quoted_signs signs

-- a text in double quotes
abbrev pub quoted : List ℕ → List ℕ
quoted text = (codes "\"" ++ quoted_signs (chars text)) ++ codes "\""

-- a line: a name to show, a seat, a name to sign in by and a token
unfoldable pub sign_in_line_text : List ℕ → List ℕ → List ℕ → List ℕ → List ℕ
sign_in_line_text shown seat name token =
    shown ++ (codes "," ++ (seat ++ (codes "," ++ (name ++ (codes "," ++ (token ++ codes "\n"))))))

-- the line of a person, who is this user by this token
abbrev pub sign_in_line : Person → SignInToken → NewUser → List ℕ
sign_in_line person token user =
    sign_in_line_text (quoted person.shown) (seat_on_card person.seat) user.name (string_bytes token.text)

-- a line for each person, in their order
abbrev pub sign_in_lines : List Person → List SignInToken → List NewUser → List ℕ
sign_in_lines [] tokens users = []
sign_in_lines (person ∷ people) [] users = []
sign_in_lines (person ∷ people) (token ∷ tokens) [] = []
sign_in_lines (person ∷ people) (token ∷ tokens) (user ∷ users) = sign_in_line person token user ++ sign_in_lines people tokens users

-- the list of these lines, under the names of its columns
abbrev pub sign_in_list_text : List ℕ → List ℕ
sign_in_list_text lines = codes "name,seat,sign_in,token\n" ++ lines
