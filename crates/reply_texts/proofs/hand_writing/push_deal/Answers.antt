use Rattle.std.proofs.Common.{◌++◌, List, ℕ, codes, ap, ◌∙◌}
use Rattle.std.proofs.lemmas.Result.{on_ok_weaker}
use Rattle.cards.specs.HandText.{hand_text}
use Rattle.reply_texts.proofs.BoardLemmas.{deal_behind}
use Rattle.reply_texts.proofs.hand_writing.push_deal.Goals as goal

pub returns : goal.returns
unfolding lib.Utf8.encode
returns c =
    let deal = c.args.deal.now in
    let north = c.in_ok-push_dealt.ensures ∙ ap (λ (s : List ℕ). s ++ hand_text deal.north) c.in_ok-push_str.ensures.bytes in
    let first = c.in_ok-push.ensures.bytes ∙ ap (λ (s : List ℕ). s ++ codes " ") north in
    let east = c.in_ok-push_dealt-2.ensures ∙ ap (λ (s : List ℕ). s ++ hand_text deal.east) first in
    let second = c.in_ok-push-2.ensures.bytes ∙ ap (λ (s : List ℕ). s ++ codes " ") east in
    let south = c.in_ok-push_dealt-3.ensures ∙ ap (λ (s : List ℕ). s ++ hand_text deal.south) second in
    let third = c.in_ok-push-3.ensures.bytes ∙ ap (λ (s : List ℕ). s ++ codes " ") south in
    on_ok_weaker c.push_dealt-4.result
    (λ west. west ∙ ap (λ (s : List ℕ). s ++ hand_text deal.west) third ∙ deal_behind _ deal)
    c.push_dealt-4.ensures
