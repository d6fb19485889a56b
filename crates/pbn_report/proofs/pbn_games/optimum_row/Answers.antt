use Rattle.std.proofs.Common.{◌≡◌, ℕ, subst}
use Rattle.std.specs.Prelude.{IfOk, string_bytes}
use Rattle.std.specs.Fmt.{decimal}
use Rattle.query_filter.specs.TrickTable.{tricks_of}
use Rattle.pbn_report.proofs.pbn_games.optimum_row.Goals as goal

pub returns : goal.returns
returns c =
    let tricks = tricks_of c.args.tricks.now c.args.strain c.args.declarer in
    let digits : IfOk c.to_string.result (λ text. string_bytes text ≡ decimal tricks) =
    subst (λ (n : ℕ). IfOk c.to_string.result (λ text. string_bytes text ≡ decimal n)) c.tricks.ensures
    c.to_string.ensures.ok in
    c.finish.ensures _
    (c.text.ensures _
    (c.part-3.ensures _ _
    (c.part-2.ensures _ _
    (c.part.ensures _ _
    c.new.ensures
    (c.first_item.ensures _ (c.bytes_of.ensures _ c.to_string-2.ensures.ok)))
    (c.next_item.ensures _ c.strain_value.ensures))
    (c.next_item-2.ensures _ (c.bytes_of-number.ensures _ digits))))
