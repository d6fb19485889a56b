use Rattle.std.proofs.Common.{◌≡◌, ◌∙◌, ◌==◌, drop, get_or, true, false, length-drop, take_all, sym, ap, arith, refl}
use Rattle.fast_float.specs.Text.{scan}
use Rattle.serde_json.specs.Read.{number_of, number_from}
use Rattle.json_reading.proofs.number.number_written.Goals as goal

pub returns-then-has_sign : goal.returns-then-has_sign
unfolding number_of
returns-then-has_sign c =
    let s = c.as_bytes-bytes.result.now in
    let sign : (get_or s 0 0 == 45) ≡ true = sym c.if-has_sign.ensures.sign in
    let behind : c.scan.result ≡ scan (drop 1 s) =
    c.scan.ensures.parts ∙ ap scan (take_all _ (drop 1 s) (omega (arith, length-drop 1 s))) in
    let read : number_from true (scan (drop 1 s)) ≡ number_of s = rw sign refl in
    c.negative.ensures ∙ ap (number_from true) behind ∙ read ∙ ap number_of c.as_bytes-bytes.ensures.value

pub returns-else-has_sign : goal.returns-else-has_sign
unfolding number_of
returns-else-has_sign c =
    let s = c.as_bytes-bytes.result.now in
    let none : (get_or s 0 0 == 45) ≡ false = sym c.if-has_sign.ensures.sign in
    let read : number_from false (scan s) ≡ number_of s = rw none refl in
    c.unsigned.ensures ∙ ap (number_from false) c.scan-else-has_sign.ensures.parts ∙ read
    ∙ ap number_of c.as_bytes-bytes.ensures.value
