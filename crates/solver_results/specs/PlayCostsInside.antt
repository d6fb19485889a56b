-- What is stored of a play that was solved: its deal, its contract, its cards, and the answer.
use Rattle.std.specs.Prelude.{◌≡◌}
use Rattle.std.proofs.Common.{sym}
use Rattle.solver_results.specs.PlayAnswer.{PlayedDeal, answer_for_play}
use Rattle.solver_results.specs.declared.play_costs.PlayCosts.TheInside.{Inside}

-- the deal, the contract and the cards
abbrev pub played_of : Inside → PlayedDeal
played_of costs = record { deal = costs.deal; contract = costs.contract; play = costs.play }

-- the answer is theirs
abbrev pub IsAnswered : Inside → Type 0
IsAnswered costs = costs.answer ≡ answer_for_play (played_of costs)

-- what is stored of a deal, a contract and cards
abbrev pub inside_of : PlayedDeal → Inside
inside_of played =
    record { deal = played.deal; contract = played.contract; play = played.play; answer = answer_for_play played }

-- the three give the answer back
pub inside_of-played_of : (costs : Inside) → IsAnswered costs → inside_of (played_of costs) ≡ costs
inside_of-played_of costs is i =
    record { deal = costs.deal; contract = costs.contract; play = costs.play; answer = sym is i }
