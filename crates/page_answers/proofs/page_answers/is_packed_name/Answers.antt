use Rattle.std.proofs.Common.{◌∙◌, ◌++◌, Some, None, bytes_eq, codes, ap, sym}
use Rattle.std.proofs.lemmas.Bool.Decides.{Decides-eqb}
use Rattle.std.proofs.lemmas.Slice.Eq.{strip_suffix_is}
use Rattle.page_answers.proofs.PackedLemmas.{same_front, no_front}
use Rattle.page_answers.proofs.page_answers.is_packed_name.Goals as goal

pub returns-in-Some : goal.returns-in-Some
returns-in-Some c =
    let packed = c.args.packed.now in
    let name = c.args.name.now in
    let front = c.in-Some.front in
    let whole = strip_suffix_is Decides-eqb packed (codes ".gz") (Some front) c.in-Some.ensures.cases in
    c.eq.ensures ∙ same_front front.now name (codes ".gz")
    ∙ ap (λ begin. bytes_eq begin (name ++ codes ".gz")) (sym whole)

pub returns-in-None : goal.returns-in-None
returns-in-None c =
    let packed = c.args.packed.now in
    let none = strip_suffix_is Decides-eqb packed (codes ".gz") None c.in-None.ensures.cases in
    sym (no_front packed c.args.name.now (codes ".gz") none)
