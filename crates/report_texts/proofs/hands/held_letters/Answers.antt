use Rattle.std.proofs.Common.{◌∷◌, ◌++◌, [], List, ℕ, ap, sym, ◌∙◌, cond, get_or, rules, arith}
use Rattle.cards.specs.declared.rank.Rank.TheVariants.{Two}
use Rattle.cards.specs.HandText.{held_letters}
use Rattle.cards.specs.Rank.{ranks_down, rank_letter}
use Rattle.cards.proofs.HandTextLemmas.{held_letters_more}
use Rattle.report_texts.proofs.hands.held_letters.Goals as goal

pub loop-rank-init : goal.loop-rank-init
unfolding held_letters
loop-rank-init c = search rules

pub loop-rank-preserved : goal.loop-rank-preserved
unfolding ranks_down
loop-rank-preserved c =
    let held = c.contains-held.result in
    let more = held_letters_more c.args.hand c.args.suit ranks_down c.loop-rank.rank-index Two held
    (omega arith) c.contains-held.ensures in
    c.in_ok-push_if.ensures
    ∙ (ap (λ (t : List ℕ). t ++ cond held (rank_letter (get_or ranks_down c.loop-rank.rank-index Two) ∷ []) []) c.loop-rank.invariant ∙ sym more)

pub returns : goal.returns
unfolding ranks_down
returns c = search (rules, c.loop-rank.invariant)
