use Rattle.std.proofs.Common.{◌≡◌, ◌++◌, ◌∷◌, [], drop, refl, arith}
use Rattle.history.specs.Prefixes.{prefix_in}
use Rattle.displays.specs.Copies.{addition}
use Rattle.displays.proofs.PublishingLemmas.{few_publications, kept_more}
use Rattle.displays.proofs.publisher.show_too.Goals as goal

pub noted-prefix-requires-clause-room : goal.noted-prefix-requires-clause-room
noted-prefix-requires-clause-room g c = let few = few_publications _ _ c.requires.kept.published in
    rw (c.prefix.ensures, c.published.ensures) (omega (arith, few))

pub replace_with-requires : goal.replace_with-requires
replace_with-requires g c =
    let w = c.args.writer.now in
    let x = w.desk.shown.value in
    let h = g.N.Server.history in
    let prefix : c.noted-prefix.result ≡ prefix_in h (x.prefix.publications ++ c.args.entries.items ∷ []) =
    rw (c.noted-prefix.ensures, c.prefix.ensures, c.published.ensures, c.requires.kept.history_is) refl in
    let op : c.new.result ≡ addition c.args.entries.items
    (prefix_in h (x.prefix.publications ++ c.args.entries.items ∷ [])) = rw (c.new.ensures, prefix) refl in
    rw (c.log.ensures.desk, c.log.ensures.pending, op) (kept_more g.N.Server.opening h x (drop w.behind w.log.items)
    c.args.entries.items c.requires.kept c.requires.idle c.requires.published)
