-- The text of a reply: its body's text under its word, and the version.
use Rattle.std.proofs.Common.{◌≡◌, ℕ, List, [], ◌∷◌, ◌++◌, codes, append_assoc, refl, ◌∙◌}
use Rattle.std.specs.Fmt.{decimal}
use Rattle.json.specs.Print.{escape_byte}
use Rattle.serde_json.specs.Data.{Data, object, member, no_members}
use Rattle.serde_json.specs.Written.{compact_text}
use Rattle.session_queries.specs.declared.body.Body.{Body}
use Rattle.session_queries.specs.declared.body.Body.TheVariants as body
use Rattle.reply_texts.specs.DataOf.{number_data}
use Rattle.reply_texts.specs.ReplyText.{around, body_word}
use Rattle.reply_texts.proofs.BoardLemmas.{IsPlain, between_marks}

marked : (word body version : List ℕ) →
    codes "{\"" ++ (word ++ (codes "\":" ++ (body ++ (codes ",\"version\":" ++ (version ++ codes "}")))))
    ≡ 123 ∷ ((34 ∷ (word ++ 34 ∷ [])) ++ (codes ":" ++ (body ++ (codes ",\"version\":" ++ (version ++ codes "}")))))
marked word body version = simp append_assoc

under_word : (word : List ℕ) (version : ℕ) (body : Data) → IsPlain word →
    around word version (compact_text body)
    ≡ compact_text (object (member word body (member (codes "version") (number_data version) no_members)))
unfolding escape_byte
under_word word version body is =
    marked word (compact_text body) (decimal version)
    ∙ (λ i. 123 ∷ (between_marks word is i ++ (codes ":" ++ (compact_text body ++ (codes ",\"version\":" ++ (decimal version ++ codes "}"))))))

plain_word : (body : Body) → IsPlain (body_word body)
unfolding escape_byte
plain_word body.NoSuchBoard = refl
plain_word body.NoSuchCell = refl
plain_word body.Behind = refl
plain_word (body.Denied denial) = refl
plain_word (body.Status public seats names notices) = refl
plain_word (body.Board number hands marks) = refl
plain_word (body.Traveller number rows) = refl
plain_word (body.Analysis number tricks) = refl
plain_word (body.Par number par) = refl
plain_word (body.Play cell cards) = refl
plain_word (body.Costs cell costs) = refl
plain_word (body.Reason cell code) = refl
plain_word (body.List boards more) = refl
plain_word (body.Ranking standings) = refl
plain_word (body.Accounts users pairs) = refl

pub reply_pieces : (body : Body) (version : ℕ) (told : Data) →
    around (body_word body) version (compact_text told)
    ≡ compact_text (object (member (body_word body) told (member (codes "version") (number_data version) no_members)))
reply_pieces body version told = under_word (body_word body) version told (plain_word body)
