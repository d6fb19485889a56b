use Rattle.std.proofs.Common.{true, false, refl, sym, ap, ◌∙◌, rules, arith}
use Rattle.std.specs.Prelude.{encode_utf8}
use Rattle.std.proofs.Output.{has_written_append, has_written_of_eq, has_written_to_eq}
use Rattle.cards.specs.declared.rank.Rank.TheVariants.{Two}
use Rattle.cards.specs.HandText.{held_letters}
use Rattle.cards.specs.Rank.{ranks_down}
use Rattle.cards.proofs.HandTextLemmas.{held_letters_more, encode-rank_letter}
use Rattle.cards.proofs.holding.HoldingDisplay.fmt.Goals as goal
use Rattle.cards.proofs.holding.HoldingDisplay.fmt.Goals.{then-contains+in_ok-write_char, else-contains}

pub loop-rank-init : goal.loop-rank-init
unfolding held_letters
loop-rank-init g c = search rules

pub loop-rank-preserved : goal.loop-rank-preserved
unfolding ranks_down
loop-rank-preserved g c = λ plain.
    elim c.if-contains.branch [
      | then-contains+in_ok-write_char w ↦
          let e = held_letters_more c.args.self.now.hand c.args.self.now.suit ranks_down c.loop-rank.rank-index Two true
          (omega arith) (sym w.if-contains.true ∙ c.contains.ensures) in
          let so_far = c.loop-rank.invariant plain in
          let letter = has_written_of_eq _ _ _ _ _ (ap encode_utf8 w.letter.ensures ∙ encode-rank_letter _)
          (w.in_ok-write_char.ensures.writes so_far.plain refl) in
          has_written_of_eq _ _ _ _ _ (sym e) (has_written_append _ _ _ _ _ _ so_far
          (has_written_to_eq _ _ _ _ _ w.f-is letter))
      | else-contains w ↦
          let e = held_letters_more c.args.self.now.hand c.args.self.now.suit ranks_down c.loop-rank.rank-index Two
          false (omega arith) (sym w.if-contains.false ∙ c.contains.ensures) in
          has_written_of_eq _ _ _ _ _ (sym e) (search rules)
    ]

pub returns-clause-writes : goal.returns-clause-writes
unfolding ranks_down
returns-clause-writes g c = λ plain _. search (rules, c.loop-rank.invariant plain)
