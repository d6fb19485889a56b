-- What is found of a play: what each card costs, or which is the first that is not legal.
use Rattle.std.specs.Prelude.{ℕ, List, Option, Some, None, refl}
use Rattle.std.specs.Coded.{Coded, code_by, coded×, coded_list}
use Rattle.cards.specs.contracts.card.Card as the_card
use Rattle.scoring.specs.contracts.contract.Contract as the_contract
use Rattle.cards.specs.declared.card.Card.{Card}
use Rattle.cards.specs.Hands.{Hands, hands_code}
use Rattle.cards.specs.Play.{start}
use Rattle.solver_results.specs.declared.play_answer.PlayAnswer.{PlayAnswer}
use Rattle.solver_results.specs.declared.play_answer.PlayAnswer.TheVariants.{Costs, NotAPlay}
use Rattle.cards.specs.DoubleDummy.{cost_list, first_illegal}
use Rattle.scoring.specs.declared.contract.Contract.{Contract}

-- a deal, its contract, and the cards that were played
pub record PlayedDeal : Type 0 where
  pub deal : Hands
  pub contract : Contract
  pub play : List Card

-- it is stored as a tuple
abbrev pub played_code : Coded PlayedDeal
played_code =
    let cards : Coded (List Card) = coded_list the_card.the_row.coded in
    code_by (Hands × (Contract × List Card)) (coded× hands_code (coded× the_contract.the_row.coded cards))
    (λ p. (p.deal, (p.contract, p.play)))
    (λ q. record { deal = q.0; contract = q.1.0; play = q.1.1 })
    (λ _. refl)

-- the answer, by the first card that is not legal, if there is one
abbrev pub answer_by : Option ℕ → List ℕ → PlayAnswer
answer_by None costs = Costs costs
answer_by (Some number) costs = NotAPlay number

-- the answer for a play: its first card that is not legal, and where all are legal, what each costs
abbrev pub answer_for_play : PlayedDeal → PlayAnswer
answer_for_play played =
    answer_by (first_illegal 1 (start played.deal played.contract.strain played.contract.declarer) played.play)
    (cost_list (start played.deal played.contract.strain played.contract.declarer) played.play)
