-- A card by its parts.
use Rattle.std.proofs.Common.{◌≡◌, ℕ, List, ◌++◌, append_assoc}
use Rattle.preparing.specs.CardParts.{card_head, card_sign_in, card_code}
use Rattle.preparing.specs.Cards.{printed_card}

pub card_of_parts : (shown seat address name token : List ℕ)
    → card_head shown seat address ++ (card_sign_in name token ++ card_code address name token) ≡ printed_card shown seat address name token
unfolding printed_card card_head card_sign_in card_code
card_of_parts shown seat address name token = simp append_assoc
