use Rattle.std.proofs.Common.{Bool, true, false, ◌+◌, ◌∙◌, [], ◌∷◌, take, get_or, string_bytes, append-nil, refl, sym, ap, rules, arith}
use Rattle.cards.specs.declared.rank.Rank.TheVariants.{Two}
use Rattle.cards.specs.HandText.{held_letters}
use Rattle.cards.specs.Rank.{ranks_down, rank_letter}
use Rattle.cards.proofs.HandTextLemmas.{held_letters_more, encode-rank_letter}
use Rattle.std.specs.Prelude.{encode_utf8}
use Rattle.reply_texts.proofs.BoardLemmas.{written_behind}
use Rattle.reply_texts.proofs.hand_writing.push_holding.Goals as goal
use Rattle.reply_texts.proofs.hand_writing.push_holding.Goals.{then-contains+in_ok-push, else-contains}

pub loop-rank-init : goal.loop-rank-init
unfolding held_letters
loop-rank-init c = sym (append-nil (string_bytes c.args.text.now))

pub loop-rank-preserved : goal.loop-rank-preserved
unfolding ranks_down
loop-rank-preserved c =
    let before = string_bytes c.args.text.now in
    let so_far = held_letters c.args.hand c.args.suit (take c.loop-rank.rank-index ranks_down) in
    let whole = held_letters c.args.hand c.args.suit (take (c.loop-rank.rank-index + 1) ranks_down) in
    let more = λ (b : Bool). held_letters_more c.args.hand c.args.suit ranks_down c.loop-rank.rank-index Two b (omega arith) in
    elim c.if-contains.branch [
      | then-contains+in_ok-push w ↦
          ap string_bytes w.text-is
          ∙ written_behind before so_far (rank_letter (get_or ranks_down c.loop-rank.rank-index Two) ∷ []) whole _ _ _
          w.in_ok-push.ensures.bytes c.loop-rank.invariant (ap encode_utf8 w.letter.ensures ∙ encode-rank_letter _)
          (more true (sym w.if-contains.true ∙ c.contains.ensures))
      | else-contains w ↦
          ap string_bytes w.text-is
          ∙ written_behind before so_far [] whole _ _ [] (sym (append-nil _)) c.loop-rank.invariant refl
          (more false (sym w.if-contains.false ∙ c.contains.ensures))
    ]

pub returns : goal.returns
unfolding ranks_down
returns c = search (rules, c.loop-rank.invariant)
