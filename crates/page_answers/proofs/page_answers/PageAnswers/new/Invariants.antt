use Rattle.std.proofs.Common.{◌≡◌, map}
use Rattle.page_answers.proofs.page_answers.PageAnswers.new.Given as goal

abbrev pub invariant-loop-file : goal.invariant-loop-file
invariant-loop-file l = map (λ tagged. tagged.file) l.tagged.items ≡ l.yielded
