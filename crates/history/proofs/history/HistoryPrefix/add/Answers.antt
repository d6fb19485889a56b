use Rattle.std.proofs.Common.{◌≡◌, sym, ◌∙◌, ap}
use Rattle.history.specs.Prefixes.{Prefix}
use Rattle.history.proofs.AddingLemmas.{adds_moves}
use Rattle.history.proofs.history.HistoryPrefix.add.Goals as goal

pub compare_exchange-found-requires : goal.compare_exchange-found-requires
compare_exchange-found-requires c =
    let h = c.head.invariant in
    let offer = c.plain-offer.ensures in
    let pen = c.no_pen-pen.ensures in
    let seen = c.again-seen.ensures in
    let one : c.head.inside.word.book ≡ c.self.inside.seen.book = c.head.view_is ∙ c.requires.history
    ∙ sym (ap (λ (r : Prefix). r.history) c.self.view_is) in (
      ap (λ w. w.tracked) h,
      ap (λ s. s.book) seen ∙ sym one,
      pen.0 ∙ (ap (λ s. s.book) seen ∙ sym one),
      offer.0,
      rw (ap (λ w. w.key) h, pen.1, offer.1, offer.3, seen) (adds_moves c.self.inside.seen.log c.args.entries.now.items
          c.self.inside.count (sym c.self.invariant)),
    )
