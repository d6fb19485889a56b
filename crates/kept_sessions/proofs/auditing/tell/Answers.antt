use Rattle.std.proofs.Common.{◌≡◌, ◌∙◌, sym, ap, ℕ, ◌+◌, List, [], ◌∷◌, ◌++◌, length, arith}
use Rattle.kept_sessions.specs.Audited.{line_of_row, lines_from}
use Rattle.kept_sessions.proofs.LineLemmas.{lines_from_more}
use Rattle.kept_sessions.proofs.NotToldLemmas.{fault_here}
use Rattle.kept_sessions.proofs.auditing.tell.Goals as goal

pub returns-in-Ok-add_line : goal.returns-in-Ok-add_line
returns-in-Ok-add_line c =
    let journal = c.args.book.now.journal in
    let entry = c.args.entry.now in
    let number : ℕ = c.version-number.result + 1 in
    let next : number ≡ 1 + length journal = omega (arith, c.version-number.ensures.version) in
    let entered : c.commit.new.self.journal ≡ journal ++ entry ∷ [] =
    rw (c.in-Ok.ensures.ok, c.check.ensures.same) at c.commit.ensures.journal in
    record {
      lines =
          c.in-Ok-add_line.ensures
          ∙ ap (λ (lines : List ℕ). lines ++ line_of_row number entry) c.requires
          ∙ sym (lines_from_more 1 journal entry number next)
          ∙ ap (lines_from 1) (sym entered);
      entered = entered;
      fault = tt;
      opening = rw c.check.ensures.same at c.commit.ensures.opening;
    }

pub returns-in-Err-clause-fault : goal.returns-in-Err-clause-fault
returns-in-Err-clause-fault c =
    fault_here c.fault_of.result c.in-Err.cause c.args.book.now.opening c.args.book.now.journal c.args.entry.now
    (c.version-number.result + 1) c.fault_of.ensures (omega (arith, c.version-number.ensures.version))
    c.version-number.ensures.accepted c.in-Err.ensures.err
