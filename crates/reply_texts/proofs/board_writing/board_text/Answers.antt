use Rattle.std.proofs.Common.{◌++◌, List, ℕ, codes, ap, ◌∙◌}
use Rattle.cards.specs.HandText.{deal_text}
use Rattle.reply_texts.proofs.BoardLemmas.{behind_deal, board_pieces}
use Rattle.reply_texts.proofs.board_writing.board_text.Goals as goal

pub returns : goal.returns
returns c =
    let number = c.args.number in
    let marks = c.args.marks in
    c.in_ok-write.ensures.bytes
    ∙ (ap (λ (s : List ℕ). s ++ behind_deal number marks)
    (c.in_ok-push_deal.ensures ∙ ap (λ (s : List ℕ). s ++ deal_text c.args.deal.now)
    (c.in_ok-push_str.ensures.bytes ∙ ap (λ (s : List ℕ). s ++ codes "{\"deal\":\"") c.in_ok-text.ensures.bytes))
    ∙ board_pieces number c.args.deal.now marks)
