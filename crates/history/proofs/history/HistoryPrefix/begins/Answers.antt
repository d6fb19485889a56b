use Rattle.std.proofs.Common.{◌≡◌, ◌≤◌, ap, subst, length, List}
use mathlib.Core.List.{IsPrefix}
use Rattle.session_commands.specs.declared.entry.Entry.{Entry}
use Rattle.history.specs.Prefixes.{Prefix}
use Rattle.history.proofs.PrefixLemmas.{prefix_shorter}
use Rattle.history.proofs.history.HistoryPrefix.begins.Goals as goal

pub returns : goal.returns
returns c =
    let both = c.learn.new.self.log in
    let this : IsPrefix c.self.inside.seen.log both = subst (λ (l : List (List Entry)). IsPrefix l both)
    (ap (λ s. s.log) c.again-both.ensures) c.learn.ensures.2 in
    let mine : c.self.inside.seen.log ≡ c.args.self.now.publications = ap (λ (r : Prefix). r.publications)
    c.self.view_is in
    let theirs : c.other.inside.seen.log ≡ c.args.other.now.publications = ap (λ (r : Prefix). r.publications)
    c.other.view_is in
    let less : length c.self.inside.seen.log ≤ length c.other.inside.seen.log = rw (mine, theirs) c.requires.shorter in
    rw (← mine, ← theirs) (prefix_shorter c.self.inside.seen.log c.other.inside.seen.log both this c.learn.ensures.3
    less)
