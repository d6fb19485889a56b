-- What is written of a reply to a query: JSON texts with no space.
--
-- own: no public standard has these members; their names stand in the order of their bytes.
use Rattle.std.specs.Prelude.{ℕ, List, ◌++◌, codes}
use Rattle.std.specs.Fmt.{decimal}
use Rattle.serde_json.specs.Data.{Data, string, object, member, no_members}
use Rattle.serde_json.specs.Written.{compact_text}
use Rattle.disclosure_rules.specs.Policy.{rule_number}
use Rattle.denials.specs.declared.denial.Denial.{Denial}
use Rattle.denials.specs.Evidence.{explanation}
use Rattle.session_queries.specs.declared.body.Body.{Body}
use Rattle.session_queries.specs.declared.body.Body.TheVariants as body
use Rattle.session_queries.specs.declared.reply.Reply.{Reply}
use Rattle.reply_texts.specs.DataOf.{number_data}
use Rattle.reply_texts.specs.StatusText.{status_data}
use Rattle.reply_texts.specs.BoardText.{board_data, analysis_data}
use Rattle.reply_texts.specs.ParText.{par_data}
use Rattle.reply_texts.specs.TravellerText.{traveller_data}
use Rattle.reply_texts.specs.CostsText.{costs_data}
use Rattle.reply_texts.specs.TableText.{play_data, reason_data}
use Rattle.reply_texts.specs.ListText.{boards_data, ranking_data, accounts_data}

-- the board or 0, the rule's number in its edition, the table or 0, and what the user is told
abbrev pub denial_data : Denial → Data
denial_data denial =
    object (member (codes "board") (number_data denial.board)
    (member (codes "rule") (number_data (rule_number denial.edition denial.rule))
    (member (codes "table") (number_data denial.table)
    (member (codes "why") (string (explanation denial.rule)) no_members))))

-- the word for the kind of a reply
abbrev pub body_word : Body → List ℕ
body_word body.NoSuchBoard = codes "error"
body_word body.NoSuchCell = codes "error"
body_word body.Behind = codes "error"
body_word (body.Denied denial) = codes "denied"
body_word (body.Status public seats names notices) = codes "status"
body_word (body.Board number hands marks) = codes "board"
body_word (body.Traveller number rows) = codes "traveller"
body_word (body.Analysis number tricks) = codes "analysis"
body_word (body.Par number par) = codes "par"
body_word (body.Play cell cards) = codes "play"
body_word (body.Costs cell costs) = codes "costs"
body_word (body.Reason cell code) = codes "reason"
body_word (body.List boards more) = codes "list"
body_word (body.Ranking standings) = codes "ranking"
body_word (body.Accounts users pairs) = codes "accounts"

-- what stands under that word
abbrev pub body_data : Body → Data
body_data body.NoSuchBoard = string (codes "NoSuchBoard")
body_data body.NoSuchCell = string (codes "NoSuchCell")
body_data body.Behind = string (codes "Behind")
body_data (body.Denied denial) = denial_data denial
body_data (body.Status public seats names notices) = status_data public seats names notices
body_data (body.Board number hands marks) = board_data number hands marks
body_data (body.Traveller number rows) = traveller_data number rows
body_data (body.Analysis number tricks) = analysis_data number tricks
body_data (body.Par number par) = par_data number par
body_data (body.Play cell cards) = play_data cell cards
body_data (body.Costs cell costs) = costs_data cell costs
body_data (body.Reason cell code) = reason_data cell code
body_data (body.List boards more) = boards_data boards more
body_data (body.Ranking standings) = ranking_data standings
body_data (body.Accounts users pairs) = accounts_data users pairs

-- the body under its word, and the version that it is true of
abbrev pub reply_data : Reply → Data
reply_data reply =
    object (member (body_word reply.body) (body_data reply.body)
    (member (codes "version") (number_data reply.version) no_members))

-- the reply as it is written
unfoldable pub reply_text : Reply → List ℕ
reply_text reply = compact_text (reply_data reply)

-- ---- for private clauses

-- a body's text under its word, and the version
abbrev pub around : List ℕ → ℕ → List ℕ → List ℕ
around word version body =
    codes "{\"" ++ (word ++ (codes "\":" ++ (body ++ (codes ",\"version\":" ++ (decimal version ++ codes "}")))))
