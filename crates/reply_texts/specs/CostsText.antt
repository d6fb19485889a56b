-- What is written of what the cards of a play cost.
use Rattle.std.specs.Prelude.{Option, codes}
use Rattle.serde_json.specs.Data.{Data, string, array, object, member, no_members, no_items}
use Rattle.movement.specs.declared.cell.Cell.{Cell}
use Rattle.session_queries.specs.declared.card_costs.CardCosts.{CardCosts}
use Rattle.session_queries.specs.declared.card_costs.CardCosts.TheVariants.{Pending, NoCards, Each, NotAPlay}
use Rattle.reply_texts.specs.DataOf.{number_data, list_data, option_data}

-- what the cards cost, one after another: where no card was noted, an empty list; or the number of the first card that
-- is not legal
abbrev pub card_costs_data : CardCosts → Data
card_costs_data Pending = string (codes "pending")
card_costs_data NoCards = array no_items
card_costs_data (Each costs) = list_data number_data costs
card_costs_data (NotAPlay number) = object (member (codes "not_a_play") (number_data number) no_members)

abbrev pub costs_data : Cell → Option CardCosts → Data
costs_data cell costs =
    object (member (codes "board") (number_data cell.board)
    (member (codes "costs") (option_data card_costs_data costs)
    (member (codes "table") (number_data cell.table) no_members)))
