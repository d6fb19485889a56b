use Rattle.std.proofs.Common.{rules, refl, ◌+◌, ◌++◌, ◌∷◌, [], List, take, sym, ap, ◌∙◌, arith, append-nil}
use Rattle.std.proofs.lemmas.List.{take_more}
use Rattle.history.specs.Prefixes.{entries_of}
use Rattle.session_commands.specs.declared.entry.Entry.{Entry}
use Rattle.session_book.proofs.RunLemmas.{runs_none, runs_so}
use Rattle.desks.proofs.batches.run_batch.Goals as goal

pub loop-command-init : goal.loop-command-init
loop-command-init g c = record {
  opening = c.requires.opening;
  published = refl;
  journal =
      sym c.requires.published.0
      ∙ (sym (append-nil (entries_of c.args.publisher.now.published))
      ∙ ap (λ (l : List Entry). entries_of c.args.publisher.now.published ++ l) (sym c.requires.published.1));
  counted = search rules;
  room = c.requires.room.1;
  runs = runs_none g.N.Server.opening c.args.book.now.journal c.args.actor _ c.requires.room.0;
}

pub loop-command-preserved : goal.loop-command-preserved
loop-command-preserved g c =
    let now = c.args.book.now in
    let actor = c.args.actor in
    let batch = c.args.batch.now in
    let i = c.loop-command.command-index in
    let answers = c.loop-command.answers.items in
    let kept = c.loop-command.invariant in
    let ran = c.try_command-refusal.ensures.runs now.journal (take i batch) answers kept.runs in
    record {
      opening = c.try_command-refusal.ensures.opening;
      published = c.try_command-refusal.ensures.same ∙ kept.published;
      journal = c.try_command-refusal.ensures.journal;
      counted = c.put_item.ensures.len ∙ ap (λ n. n + 1) kept.counted;
      room = omega (arith, kept.room, c.put_item.ensures.capacity);
      runs =
          runs_so _ _ _ _ now.journal actor _ _ _ _ _ (sym c.is_stopped-stopped.ensures) refl
          (ap (λ command. take i batch ++ command ∷ []) c.command-item.is
          ∙ sym (take_more batch i c.command-item.result c.loop-command-test.true))
          (ap (λ answer. answers ++ answer ∷ []) (sym c.new.ensures) ∙ sym c.put_item.ensures.items) ran;
    }
