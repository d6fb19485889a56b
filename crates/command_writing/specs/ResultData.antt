-- How a board ended, and the cards of its play, as a message has them.
use Rattle.std.specs.Prelude.{List, [], ◌∷◌, codes, map}
use Rattle.serde_json.specs.Data.{Data, string, array, object, Members, member, no_members}
use Rattle.serde_json.specs.View.{items_of}
use Rattle.table_terms.specs.Place.{place_letter}
use Rattle.table_terms.specs.Strain.{strain_letter}
use Rattle.cards.specs.declared.card.Card.{Card}
use Rattle.cards.specs.Card.{card_text}
use Rattle.scoring.specs.declared.contract.Contract.{Contract}
use Rattle.scoring.specs.declared.outcome.Outcome.{Outcome}
use Rattle.scoring.specs.declared.outcome.Outcome.TheVariants.{PassedOut, Played}
use Rattle.scoring.specs.Doubling.{times_doubled}
use Rattle.command_writing.specs.NumberData.{written_number}

-- a contract: who declares, how often it was doubled, its level and its strain, and what stands behind these
abbrev pub contract_members : Contract → Members → Members
contract_members contract rest =
    member (codes "by") (string (place_letter contract.declarer ∷ []))
    (member (codes "doubled") (written_number (times_doubled contract.doubling))
    (member (codes "level") (written_number contract.level)
    (member (codes "strain") (string (strain_letter contract.strain ∷ [])) rest)))

-- the text `pass`, or a contract with the tricks that were won
abbrev pub written_outcome : Outcome → Data
written_outcome PassedOut = string (codes "pass")
written_outcome (Played contract won) =
    object (contract_members contract (member (codes "tricks") (written_number won) no_members))

-- the cards as they were played, each a text such as `SA`
abbrev pub written_play : List Card → Data
written_play cards = array (items_of (map (λ card. string (card_text card)) cards))
