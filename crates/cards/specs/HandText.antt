-- How a hand and a deal are written: the tag Deal of PBN 2.1, from North, each suit from the ace down.
use Rattle.std.specs.Prelude.{ℕ, List, ◌++◌, map, filter, codes}
use Rattle.std.specs.FinSet as set
use Rattle.table_terms.specs.declared.suit.Suit.{Suit}
use Rattle.table_terms.specs.declared.suit.Suit.TheVariants.{Spades, Hearts, Diamonds, Clubs}
use Rattle.cards.specs.declared.rank.Rank.{Rank}
use Rattle.cards.specs.Rank.{ranks_down, rank_letter}
use Rattle.cards.specs.Cards.{Cards}
use Rattle.cards.specs.Hands.{Hands}

-- the letters of those ranks that are held in a suit
unfoldable pub held_letters : Cards → Suit → List Rank → List ℕ
held_letters cards suit ranks =
    map rank_letter (filter (λ rank. set.contains cards (record { suit = suit; rank = rank })) ranks)

-- what is held in a suit, from the ace down; nothing for a void
abbrev pub holding_text : Cards → Suit → List ℕ
holding_text cards suit = held_letters cards suit ranks_down

-- the suits of a hand, from the spades down, with a dot between them: `AKQ.JT.98765.432`
abbrev pub hand_text : Cards → List ℕ
hand_text cards =
    holding_text cards Spades
    ++ (codes "." ++ (holding_text cards Hearts
    ++ (codes "." ++ (holding_text cards Diamonds
    ++ (codes "." ++ holding_text cards Clubs)))))

-- the hands of a deal, clockwise from North, with a space between them
abbrev pub deal_text : Hands → List ℕ
deal_text hands =
    codes "N:" ++ (hand_text hands.north
    ++ (codes " " ++ (hand_text hands.east
    ++ (codes " " ++ (hand_text hands.south
    ++ (codes " " ++ hand_text hands.west))))))
