use Rattle.std.proofs.Common.{◌≡◌, length, sym, ap, ◌∙◌, arith}
use Rattle.session_book.specs.Exposure.{spoiler_of}
use Rattle.session_book.specs.Journal.{refusal_at, refusal_after}
use Rattle.session_state.specs.Refusal.{refusal_of}
use Rattle.session_book.proofs.book.Book.refusal.Goals as goal

pub returns : goal.returns
unfolding refusal_after
returns c =
    let entries : c.len.result ≡ length c.self.inside.journal.items = omega (
      arith,
      c.self.inside.journal.ok.0,
      c.len.ensures,
    ) in
    let spoiler = c.spoiler-spoiler.ensures ∙ ap (λ ledger. spoiler_of ledger.opening ledger.journal
    c.args.entry.now.command) (sym c.self.view_is) in
    c.refusal.ensures
    ∙ ((λ i. refusal_of (c.self.invariant.replayed i) (spoiler i) c.args.entry.now.actor c.args.entry.now.command
    (entries i))
    ∙ ap (λ ledger. refusal_at ledger c.args.entry.now.actor c.args.entry.now.command) c.self.view_is)
