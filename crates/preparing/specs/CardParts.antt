-- For private clauses: a card in parts.
use Rattle.std.specs.Prelude.{ℕ, List, ◌++◌, codes}

-- who somebody is, and where to sit and to sign in
unfoldable pub card_head : List ℕ → List ℕ → List ℕ → List ℕ
card_head shown seat address =
    codes "<div class=\"card\">\n<h2><bdi>"
    ++ (shown
    ++ (codes "</bdi></h2>\n<p class=\"seat\">" ++ (seat ++ (codes "</p>\n<p class=\"address\">" ++ (address ++ codes "</p>\n")))))

-- by what one signs in
unfoldable pub card_sign_in : List ℕ → List ℕ → List ℕ
card_sign_in name token =
    codes "<p>Sign in as <b>" ++ (name ++ (codes "</b></p>\n<p class=\"token\">" ++ (token ++ codes "</p>\n")))

-- the same together, for a code
unfoldable pub card_code : List ℕ → List ℕ → List ℕ → List ℕ
card_code address name token =
    codes "<p class=\"code\" data-link=\""
    ++ (address ++ (codes "#" ++ (name ++ (codes ":" ++ (token ++ codes "\">no QR code</p>\n</div>\n")))))
