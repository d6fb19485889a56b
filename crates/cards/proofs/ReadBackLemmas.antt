-- What is written is read back.
use Rattle.std.proofs.Common.{◌≡◌, Result, Ok, Err, ap, subst}
use Rattle.cards.specs.declared.hand_reading.NotAHand.{NotAHand}
use Rattle.cards.specs.declared.deal_reading.DealTextError.{DealTextError}
use Rattle.cards.specs.declared.deal_reading.DealTextError.TheVariants.{NotADealText, NotADeal}
use Rattle.cards.specs.Cards.{Cards}
use Rattle.cards.specs.Hands.{Hands, IsDeal}
use Rattle.cards.specs.HandText.{hand_text, deal_text}
use Rattle.cards.specs.HandReading.{ReadsHand, ReadsDeal}
use Rattle.cards.proofs.HandLawsLemmas.{hand_reads, one_hand}
use Rattle.cards.proofs.DealReadingLemmas.{deal_reads, one_deal}

pub hand_back : (hand : Cards) (read : Result Cards NotAHand) → ReadsHand (hand_text hand) read → read ≡ Ok hand
hand_back hand (Ok other) h = ap Ok (one_hand other hand (hand_text hand) h.0 (hand_reads hand))
hand_back hand (Err e) h = absurd (h.1 hand (hand_reads hand))

pub deal_back : (deal : Hands) (read : Result Hands DealTextError) → IsDeal deal → ReadsDeal (deal_text deal) read →
    read ≡ Ok deal
deal_back deal (Ok other) is h = ap Ok (one_deal other deal (deal_text deal) h.0 (deal_reads deal))
deal_back deal (Err NotADealText) is h = absurd (h.2 deal (deal_reads deal))
deal_back deal (Err NotADeal) is h =
    let refused = h.2 in
    absurd (refused.2 (subst IsDeal (one_deal deal refused.0 (deal_text deal) (deal_reads deal) refused.1) is))
