use Rattle.std.proofs.Common.{refl, ◌+◌, ◌++◌, ◌∷◌, [], take, sym, ap, ◌∙◌, arith}
use Rattle.std.proofs.lemmas.List.{take_more}
use Rattle.session_book.proofs.RunLemmas.{runs_none, runs_so}
use Rattle.session_book.proofs.book.Book.submit.Goals as goal

pub loop-command-init : goal.loop-command-init
loop-command-init c = record {
  counted = c.in_ok-answers.ensures.len;
  room = c.in_ok-answers.ensures.capacity;
  opening = refl;
  runs = runs_none c.args.self.now.opening c.args.self.now.journal c.args.actor _ c.in_ok-answers.ensures.items;
}

pub loop-command-preserved : goal.loop-command-preserved
loop-command-preserved c =
    let now = c.args.self.now in
    let actor = c.args.actor in
    let batch = c.args.batch.now in
    let i = c.loop-command.command-index in
    let answers = c.loop-command.answers.items in
    let kept = c.loop-command.invariant in
    let ran = c.attempt-refusal.ensures.runs now.journal (take i batch) answers
    (runs_so _ _ _ _ now.journal actor _ _ _ _ _ refl (sym kept.opening) refl refl kept.runs) in
    record {
      counted = c.put_item.ensures.len ∙ ap (λ n. n + 1) kept.counted;
      room = omega (arith, kept.room, c.put_item.ensures.capacity);
      opening = c.attempt-refusal.ensures.opening ∙ kept.opening;
      runs =
          runs_so _ _ _ _ now.journal actor _ _ _ _ _ (sym c.is_stopped-stopped.ensures) kept.opening
          (ap (λ command. take i batch ++ command ∷ []) c.command-item.is
          ∙ sym (take_more batch i c.command-item.result c.loop-command-test.true))
          (ap (λ answer. answers ++ answer ∷ []) (sym c.new.ensures) ∙ sym c.put_item.ensures.items) ran;
    }
