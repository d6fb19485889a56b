-- What the solver found, as JSON: the numbers stand in the form in which replies have them.
use Rattle.std.specs.Prelude.{ℕ, List, [], ◌∷◌, codes}
use Rattle.serde_json.specs.Data.{Data, object, member, no_members}
use Rattle.table_terms.specs.declared.place.Place.{Place}
use Rattle.table_terms.specs.declared.place.Place.TheVariants.{North, East, South, West}
use Rattle.table_terms.specs.declared.strain.Strain.TheVariants.{Spades, Hearts, Diamonds, Clubs, NoTrump}
use Rattle.cards.specs.Hands.{Hands}
use Rattle.cards.specs.DoubleDummy.{declarer_tricks}
use Rattle.scoring.specs.declared.contract.Contract.{Contract}
use Rattle.solver_results.specs.declared.play_answer.PlayAnswer.{PlayAnswer}
use Rattle.solver_results.specs.declared.play_answer.PlayAnswer.TheVariants.{Costs, NotAPlay}
use Rattle.command_writing.specs.NumberData.{written_number, numbers_data}
use Rattle.command_writing.specs.ResultData.{contract_members}

-- a declarer's tricks in spades, hearts, diamonds, clubs and no trump
abbrev pub written_strains : Hands → Place → List ℕ
written_strains hands declarer =
    declarer_tricks hands Spades declarer
    ∷ declarer_tricks hands Hearts declarer
    ∷ declarer_tricks hands Diamonds declarer
    ∷ declarer_tricks hands Clubs declarer
    ∷ declarer_tricks hands NoTrump declarer
    ∷ []

-- each declarer's tricks
abbrev pub written_tricks : Hands → Data
written_tricks hands =
    object (member (codes "E") (numbers_data (written_strains hands East))
    (member (codes "N") (numbers_data (written_strains hands North))
    (member (codes "S") (numbers_data (written_strains hands South))
    (member (codes "W") (numbers_data (written_strains hands West)) no_members))))

-- what each card costs, or the number of the first card that is not legal
abbrev pub written_answer : PlayAnswer → Data
written_answer (Costs costs) = numbers_data costs
written_answer (NotAPlay number) = object (member (codes "not_a_play") (written_number number) no_members)

-- the contract that was played
abbrev pub contract_data : Contract → Data
contract_data contract = object (contract_members contract no_members)
