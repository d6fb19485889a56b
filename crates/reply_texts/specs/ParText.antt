-- What is written of a board's par.
use Rattle.std.specs.Prelude.{ℕ, Option, codes}
use Rattle.serde_json.specs.Data.{Data, number, object, member, no_members}
use Rattle.serde_json.specs.Find.{of_integer}
use Rattle.par.specs.declared.par.Par.{Par}
use Rattle.reply_texts.specs.DataOf.{number_data, option_data}
use Rattle.reply_texts.specs.TravellerText.{outcome_data}

-- how the board ends, as a message has it
abbrev pub end_data : Par → Data
end_data par = outcome_data par.outcome

-- what that scores for North-South
abbrev pub score_data : Par → Data
score_data par = number (of_integer par.score)

-- the board's number, how it ends and what that scores for North-South, both of which are null while the board's
-- double-dummy table is still to come
abbrev pub par_data : ℕ → Option Par → Data
par_data board par =
    object (member (codes "board") (number_data board)
    (member (codes "result") (option_data end_data par)
    (member (codes "score") (option_data score_data par) no_members)))
