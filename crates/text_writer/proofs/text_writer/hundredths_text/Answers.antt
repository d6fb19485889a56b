use Rattle.std.proofs.Common.{◌/◌, ◌%◌, [], ◌∷◌}
use Rattle.std.specs.Prelude.{codes}
use Rattle.std.specs.Fmt.{decimal}
use Rattle.text_writer.proofs.text_writer.hundredths_text.Goals as goal

pub returns : goal.returns
returns c =
    let n = c.args.number in
    let whole = decimal (n / 100) in
    let tenths = decimal ((n % 100) / 10) in
    let rest = decimal (n % 10) in
    c.finish.ensures (whole ∷ codes "." ∷ tenths ∷ rest ∷ [])
    (c.string-3.ensures (whole ∷ codes "." ∷ tenths ∷ []) rest
    (c.string-2.ensures (whole ∷ codes "." ∷ []) tenths
    (c.text.ensures (whole ∷ []) (c.string.ensures [] whole c.new.ensures c.to_string.ensures.ok))
    c.to_string-2.ensures.ok)
    c.to_string-3.ensures.ok)
