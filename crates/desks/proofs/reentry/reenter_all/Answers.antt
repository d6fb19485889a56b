use Rattle.std.proofs.Common.{◌≡◌, ℕ, ◌+◌, ◌<◌, ◌++◌, List, ◌∷◌, length, take, drop, get_or, map, ap, sym, subst, ◌∙◌, Vec, Global}
use Rattle.std.proofs.lemmas.List.{map-append}
use Rattle.session_commands.specs.declared.entry.Entry.{Entry}
use Rattle.session_book.specs.Journal.{Follow}
use Rattle.desks.specs.Reentry.{IsReentryFault}
use Rattle.desks.specs.declared.reentry.ReentryFault.{ReentryFault}
use Rattle.desks.specs.declared.reentry.ReentryFault.TheVariants.{OutOfMemory}
use Rattle.desks.proofs.ReentryLemmas.{split_at, may_be_next, refused_next}
use Rattle.desks.proofs.reentry.reenter_all.Goals as goal

-- the entries of publications, up to one of them and from there on
entries_split : (publications : List (Vec Entry Global)) (i : ℕ) (one : Vec Entry Global) → i < length publications →
    one ≡ get_or publications i one →
    map (λ (publication : Vec Entry Global). publication.items) publications
    ≡ map (λ (publication : Vec Entry Global). publication.items) (take i publications)
    ++ one.items ∷ map (λ (publication : Vec Entry Global). publication.items) (drop (i + 1) publications)
entries_split publications i one low is =
    ap (λ (l : List (Vec Entry Global)). map (λ (publication : Vec Entry Global). publication.items) l)
    (split_at publications i one low is)
    ∙ map-append (λ (publication : Vec Entry Global). publication.items) (take i publications)
    (one ∷ drop (i + 1) publications)

pub returns-in-Err-clause-refused : goal.returns-in-Err-clause-refused
returns-in-Err-clause-refused g c cause is =
    let opening = g.N.Server.opening in
    let publications = c.args.publications.now in
    let i = c.loop-publication.publication-index in
    let one = c.publication-item.result in
    let items = λ (publication : Vec Entry Global). publication.items in
    let end = c.reenter.new.book.journal in
    let now = c.loop-publication.publisher.published in
    let journal = c.loop-publication.book.journal in
    refused_next opening c.args.publisher.now.published (map items publications) (map items (take i publications))
    one.items (map items (drop (i + 1) publications)) now c.args.book.now.journal journal cause end
    (entries_split publications i one c.loop-publication-test.true c.publication-item.is)
    c.loop-publication.invariant.shown c.loop-publication.invariant.published c.requires.published.0
    (subst (λ (f : ReentryFault). IsReentryFault f opening journal one.items end) is
    (subst (λ (l : List Entry). IsReentryFault c.in-Err.fault opening journal l end) c.as_slice.ensures.value
    c.in-Err.ensures.fault))

pub returns-in-Err-clause-complete : goal.returns-in-Err-clause-complete
returns-in-Err-clause-complete g c allowed =
    let opening = g.N.Server.opening in
    let publications = c.args.publications.now in
    let i = c.loop-publication.publication-index in
    let one = c.publication-item.result in
    let items = λ (publication : Vec Entry Global). publication.items in
    let now = c.loop-publication.publisher.published in
    let journal = c.loop-publication.book.journal in
    let next : (0 < length one.items) × Follow opening journal one.items =
    may_be_next opening c.args.publisher.now.published (map items publications) (map items (take i publications))
    one.items (map items (drop (i + 1) publications)) now c.args.book.now.journal journal
    (entries_split publications i one c.loop-publication-test.true c.publication-item.is)
    c.loop-publication.invariant.shown c.loop-publication.invariant.published allowed in
    let complete : 0 < length one.items → Follow opening journal one.items → c.in-Err.fault ≡ OutOfMemory =
    subst (λ (l : List Entry). 0 < length l → Follow opening journal l → c.in-Err.fault ≡ OutOfMemory)
    c.as_slice.ensures.value c.in-Err.ensures.complete in
    complete next.0 next.1
