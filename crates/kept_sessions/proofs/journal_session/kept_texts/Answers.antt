use Rattle.std.proofs.Common.{inl}
use Rattle.kept_sessions.proofs.FaultLemmas.{cleanly}
use Rattle.kept_sessions.proofs.journal_session.kept_texts.Goals as goal

pub returns-in-Err-open_kept_journal-clause-why : goal.returns-in-Err-open_kept_journal-clause-why
returns-in-Err-open_kept_journal-clause-why g c = λ clean.
    let refused = c.in-Err-open_kept_journal in
    inl (cleanly _ _ refused.left refused.ensures.refuses clean)

pub returns-in-Err-clause-why : goal.returns-in-Err-clause-why
returns-in-Err-clause-why g c = λ clean. inl c.in-Err.ensures
