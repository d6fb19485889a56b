use Rattle.std.proofs.Common.{ℕ, List, ◌++◌, ap, ◌∙◌}
use Rattle.serde_json.specs.Written.{compact_text}
use Rattle.table_terms.specs.Place.{place_letter}
use Rattle.table_terms.specs.Strain.{strain_letter}
use Rattle.entry_texts.proofs.ConfirmLemmas.{result_data, first_piece, second_piece, third_piece, result_parts}
use Rattle.entry_texts.proofs.confirming.result_text.Goals as goal

pub returns : goal.returns
returns c =
    let by = c.args.contract.declarer in
    let x = c.args.contract.strain in
    let doubled = c.number-doubled.ensures.number in
    let level = c.number-level.ensures.value in
    let won = c.number-tricks.ensures.value in
    record {
      text =
          c.in_ok-write-3.ensures.bytes
          ∙ (ap (λ (s : List ℕ). s ++ third_piece c.number-tricks.result)
          (c.in_ok-write-2.ensures.bytes ∙ ap (λ (s : List ℕ). s ++ second_piece c.number-level.result x)
          (c.in_ok-write.ensures.bytes ∙ ap (λ (s : List ℕ). s ++ first_piece by c.number-doubled.result) c.in_ok-text.ensures.bytes))
          ∙ (result_parts c.number-doubled.result c.number-level.result c.number-tricks.result by x
          ∙ (λ i. compact_text (result_data (place_letter by) (doubled i) (level i) (strain_letter x) (won i)))));
    }
