-- What is written of one table's play of a board: the cards, and the reason of a ruling. Each is null
-- where there is no result.
use Rattle.std.specs.Prelude.{ℕ, List, Option, codes}
use Rattle.serde_json.specs.Data.{Data, string, object, member, no_members}
use Rattle.cards.specs.declared.card.Card.{Card}
use Rattle.cards.specs.Card.{card_text}
use Rattle.movement.specs.declared.cell.Cell.{Cell}
use Rattle.reply_texts.specs.DataOf.{number_data, list_data, option_data}

abbrev pub card_data : Card → Data
card_data card = string (card_text card)

-- the cards, in the order in which they were played
abbrev pub play_data : Cell → Option (List Card) → Data
play_data cell cards =
    object (member (codes "board") (number_data cell.board)
    (member (codes "cards") (option_data (list_data card_data) cards)
    (member (codes "table") (number_data cell.table) no_members)))

-- the code of the reason: 0 where the result was played
abbrev pub reason_data : Cell → Option ℕ → Data
reason_data cell code =
    object (member (codes "board") (number_data cell.board)
    (member (codes "code") (option_data number_data code)
    (member (codes "table") (number_data cell.table) no_members)))
