-- What is written of a board, and of its double-dummy table.
use Rattle.std.specs.Prelude.{ℕ, List, [], ◌∷◌, Option, codes}
use Rattle.serde_json.specs.Data.{Data, string, object, member, no_members}
use Rattle.cards.specs.Hands.{Hands}
use Rattle.cards.specs.HandText.{deal_text}
use Rattle.table_terms.specs.Place.{place_letter}
use Rattle.table_terms.specs.declared.place.Place.{Place}
use Rattle.table_terms.specs.declared.place.Place.TheVariants.{North, East, South, West}
use Rattle.table_terms.specs.declared.strain.Strain.TheVariants.{Spades, Hearts, Diamonds, Clubs, NoTrump}
use Rattle.table_terms.specs.Vulnerability.{vulnerability_text}
use Rattle.disclosure_rules.specs.declared.marks.Marks.{Marks}
use Rattle.query_filter.specs.declared.trick_table.TrickTable.{TrickTable}
use Rattle.query_filter.specs.TrickTable.{tricks_of}
use Rattle.reply_texts.specs.DataOf.{number_data, list_data, option_data}

-- the hands from North on, the dealer's letter, the board's number and who is vulnerable
abbrev pub board_data : ℕ → Hands → Marks → Data
board_data board hands marks =
    object (member (codes "deal") (string (deal_text hands))
    (member (codes "dealer") (string (place_letter marks.dealer ∷ []))
    (member (codes "number") (number_data board)
    (member (codes "vul") (string (vulnerability_text marks.vulnerability)) no_members))))

-- a declarer's tricks in spades, hearts, diamonds, clubs and no trump
abbrev pub tricks_by_strain : TrickTable → Place → List ℕ
tricks_by_strain table declarer =
    tricks_of table Spades declarer
    ∷ tricks_of table Hearts declarer
    ∷ tricks_of table Diamonds declarer
    ∷ tricks_of table Clubs declarer
    ∷ tricks_of table NoTrump declarer
    ∷ []

abbrev pub declarer_data : TrickTable → Place → Data
declarer_data table declarer = list_data number_data (tricks_by_strain table declarer)

-- each declarer's tricks
abbrev pub tricks_data : TrickTable → Data
tricks_data table =
    object (member (codes "E") (declarer_data table East)
    (member (codes "N") (declarer_data table North)
    (member (codes "S") (declarer_data table South)
    (member (codes "W") (declarer_data table West) no_members))))

-- a board's double-dummy table, which is null while it is still to come
abbrev pub analysis_data : ℕ → Option TrickTable → Data
analysis_data board tricks =
    object (member (codes "board") (number_data board)
    (member (codes "tricks") (option_data tricks_data tricks) no_members))
