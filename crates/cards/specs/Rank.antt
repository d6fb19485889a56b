-- The ranks of the cards of a suit (Law 1).
use Rattle.std.specs.Prelude.{ℕ, List, [], ◌∷◌}
use Rattle.cards.specs.declared.rank.Rank.{Rank}
use Rattle.cards.specs.declared.rank.Rank.TheVariants.{
  Two,
  Three,
  Four,
  Five,
  Six,
  Seven,
  Eight,
  Nine,
  Ten,
  Jack,
  Queen,
  King,
  Ace,
}

-- the ranks from the ace down, as a hand is written
unfoldable pub ranks_down : List Rank
ranks_down = Ace ∷ King ∷ Queen ∷ Jack ∷ Ten ∷ Nine ∷ Eight ∷ Seven ∷ Six ∷ Five ∷ Four ∷ Three ∷ Two ∷ []

-- the ranks from the two up
abbrev pub ranks_up : List Rank
ranks_up = Two ∷ Three ∷ Four ∷ Five ∷ Six ∷ Seven ∷ Eight ∷ Nine ∷ Ten ∷ Jack ∷ Queen ∷ King ∷ Ace ∷ []

-- how high a rank is: the lowest has 0, and of two cards of a suit the one with the greater number is higher
abbrev pub height : Rank → ℕ
height Two = 0
height Three = 1
height Four = 2
height Five = 3
height Six = 4
height Seven = 5
height Eight = 6
height Nine = 7
height Ten = 8
height Jack = 9
height Queen = 10
height King = 11
height Ace = 12

-- `A`, `K`, `Q`, `J`, `T` and the digits
abbrev pub rank_letter : Rank → ℕ
rank_letter Two = 50
rank_letter Three = 51
rank_letter Four = 52
rank_letter Five = 53
rank_letter Six = 54
rank_letter Seven = 55
rank_letter Eight = 56
rank_letter Nine = 57
rank_letter Ten = 84
rank_letter Jack = 74
rank_letter Queen = 81
rank_letter King = 75
rank_letter Ace = 65
