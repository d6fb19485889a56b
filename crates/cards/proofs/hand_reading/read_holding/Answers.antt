use Rattle.std.proofs.Common.{◌<◌, [], take, get_or, length, sym, ap, subst, ◌∙◌, arith}
use Rattle.std.proofs.lemmas.List.{take_more}
use Rattle.std.proofs.lemmas.Bool.{true≢false}
use Rattle.std.specs.FinSet as set
use Rattle.cards.specs.Card.{card_cmp}
use Rattle.cards.specs.HandReading.{IsHoldingText}
use Rattle.cards.proofs.HandReadingLemmas.{holding_of_none, holding_more, only_more, names_none, named_twice}
use Rattle.cards.proofs.hand_reading.read_holding.Goals as goal

pub loop-letter-init : goal.loop-letter-init
loop-letter-init c = record {
  held = subst (λ hand. IsHoldingText hand c.args.suit []) (sym c.new-hand.ensures) (holding_of_none c.args.suit);
  only = λ card held. absurd (true≢false (sym held ∙ ap (λ hand. set.contains hand card) c.new-hand.ensures
      ∙ set.contains-empty card_cmp card));
}

pub returns-in_default-clause-none : goal.returns-in_default-clause-none
returns-in_default-clause-none c = λ cards h.
    let letters = c.as_bytes-letter-items.result.now in
    let within : c.loop-letter.letter-index < length letters = omega arith in
    names_none cards c.args.suit letters c.loop-letter.letter-index within
    (λ rank e. c.in_default.ensures.none rank (e ∙ sym (c.from.ensures ∙ c.to_ascii_uppercase.ensures.value)))
    (subst (λ text. IsHoldingText cards c.args.suit text) (sym c.as_bytes-letter-items.ensures.value) h)

pub returns-then-contains-clause-none : goal.returns-then-contains-clause-none
returns-then-contains-clause-none c = λ cards h.
    let letters = c.as_bytes-letter-items.result.now in
    let within : c.loop-letter.letter-index < length letters = omega arith in
    named_twice cards c.loop-letter.hand c.args.suit letters c.loop-letter.letter-index c.in-Some.rank within
    c.loop-letter.invariant.held
    (sym (c.in-Some.ensures.found ∙ c.from.ensures ∙ c.to_ascii_uppercase.ensures.value))
    (sym c.contains.ensures ∙ c.if-contains.true)
    (subst (λ text. IsHoldingText cards c.args.suit text) (sym c.as_bytes-letter-items.ensures.value) h)

pub loop-letter-preserved : goal.loop-letter-preserved
loop-letter-preserved c =
    let letters = c.as_bytes-letter-items.result.now in
    let i = c.loop-letter.letter-index in
    let within : i < length letters = omega arith in
    let more = holding_more c.loop-letter.hand c.args.suit (take i letters) (get_or letters i 0) c.in-Some.rank
    c.loop-letter.invariant.held
    (sym (c.in-Some.ensures.found ∙ c.from.ensures ∙ c.to_ascii_uppercase.ensures.value))
    (sym c.contains.ensures ∙ c.if-contains.false) in
    record {
      held = rw (c.insert.ensures, take_more letters i 0 within) more;
      only = rw c.insert.ensures (only_more c.loop-letter.hand (record { suit = c.args.suit; rank = c.in-Some.rank })
          c.loop-letter.invariant.only);
    }
