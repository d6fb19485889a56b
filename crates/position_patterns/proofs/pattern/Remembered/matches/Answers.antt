use Rattle.table_terms.specs.declared.suit.Suit.{Suit}
use Rattle.std.proofs.Common.{subst, rules, ap, arith, length}
use Rattle.table_terms.specs.declared.suit.Suit.TheVariants.{Spades, Hearts, Diamonds, Clubs}
use Rattle.position_patterns.proofs.pattern.Remembered.matches.Goals as goal
use Rattle.position_patterns.proofs.TopsLemmas.{each_suit, has_tops}
use Rattle.position_patterns.specs.Tops.{HasTops, tops_of}
use Rattle.double_dummy_laws.specs.Pattern.{holding}

pub returns : goal.returns
returns c last =
    let hands = c.args.holders.now in
    let count = c.tricks_left.ensures.quarter in
    let start = ap length c.requires.start in
    record {
      strain = search rules;
      leader = search rules;
      table = c.requires.start;
      left = let same = c.if-self-tricks_left.false in omega arith;
      suits = subst (λ h. (suit : Suit) → HasTops (tops_of c.args.self.now suit) (holding h suit)) c.requires.same
          (each_suit (λ suit. HasTops (tops_of c.args.self.now suit) (holding hands suit))
          (has_tops _ _ _ (c.requires.pattern Spades) (c.has.ensures.owners c.if-not-has.false)
          (c.has.ensures.lengths c.if-not-has.false))
          (has_tops _ _ _ (c.requires.pattern Hearts) (c.has-2.ensures.owners c.if-not-has-2.false)
          (c.has-2.ensures.lengths c.if-not-has-2.false))
          (has_tops _ _ _ (c.requires.pattern Diamonds) (c.has-3.ensures.owners c.if-not-has-3.false)
          (c.has-3.ensures.lengths c.if-not-has-3.false))
          (has_tops _ _ _ (c.requires.pattern Clubs) (c.has-4.ensures.owners last) (c.has-4.ensures.lengths last)));
    }
