-- What is read by each form of the table of queries is what it is.
use Rattle.std.proofs.Common.{◌≡◌, true, refl}
use Rattle.session_roles.specs.declared.edition.Edition.{Edition}
use Rattle.session_roles.specs.declared.edition.Edition.TheVariants.{First, Second}
use Rattle.json_fields.specs.Form.{words}
use Rattle.json_fields.specs.Message.{table, board}
use Rattle.wire.specs.List.{filter, from, limit}
use Rattle.wire.specs.Query.{added_queries, queries}
use Rattle.json_fields.proofs.FormLemmas.{form_agrees, with_agrees, numbered_agrees}
use Rattle.json_fields.proofs.TableLemmas.{AllAgree, are_apart}
use Rattle.wire.proofs.MemberLemmas.{filter_agrees, from_agrees, limit_agrees}

added_agree : (edition : Edition) → AllAgree (added_queries edition)
added_agree First = tt
added_agree Second = (with_agrees _ board (form_agrees _ _) (numbered_agrees _), tt)

pub queries_agree : (edition : Edition) → AllAgree (queries edition)
queries_agree edition = (
  form_agrees _ _,
  (
    form_agrees _ _,
    (
      form_agrees _ _,
      (
        with_agrees _ board (form_agrees _ _) (numbered_agrees _),
        (
          with_agrees _ board (form_agrees _ _) (numbered_agrees _),
          (
            with_agrees _ board (form_agrees _ _) (numbered_agrees _),
            (
              with_agrees _ board (with_agrees _ table (form_agrees _ _) (numbered_agrees _)) (numbered_agrees _),
              (
                with_agrees _ board (with_agrees _ table (form_agrees _ _) (numbered_agrees _)) (numbered_agrees _),
                (
                  with_agrees _ board (with_agrees _ table (form_agrees _ _) (numbered_agrees _)) (numbered_agrees _),
                  (
                    with_agrees _ limit (with_agrees _ from (with_agrees _ filter (form_agrees _ _) filter_agrees)
                        from_agrees) limit_agrees,
                    added_agree edition,
                  ),
                ),
              ),
            ),
          ),
        ),
      ),
    ),
  ),
)

-- no two queries have one word
pub queries_apart : (edition : Edition) → are_apart (words (queries edition)) ≡ true
queries_apart First = refl
queries_apart Second = refl
