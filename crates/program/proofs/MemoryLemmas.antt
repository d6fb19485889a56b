-- A script over bytes in memory.
use Rattle.std.proofs.Common.{◌≡◌, ◌⊎◌, ◌<◌, inl, inr, ℕ, List, [], ◌∷◌, ◌++◌, length, refl, sym, ap, ◌∙◌, length-append, arith}
use Rattle.std.specs.Prelude.{Option, Some}
use Rattle.script_lines.specs.Lines.{lines_of, first_line_of}
use Rattle.program.specs.declared.fault.Fault.{Fault}
use Rattle.program.specs.declared.fault.Fault.TheVariants.{Session, Opening, Input, Output, OutOfMemory}
use Rattle.program.specs.FirstLine.{BeginsNone}
use Rattle.program.specs.Status.{status_of}
use Rattle.program.specs.Writes.{script_limit, IsDone, IsTooLong, AnswersScript, EndsInMemory}
use Rattle.program.proofs.ScriptLemmas.{taken_of}

pub answered : (input before after : List ℕ) (left : Option (List ℕ)) → IsDone input left (Some before) (Some after) →
    AnswersScript input before after
answered input before after left done =
    let w = done.written in
    record {
      opening = w.opening;
      opened = w.opened;
      received = w.responses.received;
      each = w.responses.each;
      written = w.appended ∙ ap (λ text. before ++ text) (sym w.responses.text_is);
    }

too_long : (input : List ℕ) (left before after : Option (List ℕ)) → IsTooLong input left before after →
    script_limit < length input
too_long input left before after long =
    let (rest, known, is_input) = taken_of input left (long.read ++ long.beyond ∷ []) long.consumed in
    omega (
      arith,
      long.full,
      ap length is_input,
      length-append (long.read ++ long.beyond ∷ []) rest,
      length-append long.read (long.beyond ∷ []),
    )

pub ends_in_memory : (input : List ℕ) (left before after : Option (List ℕ)) (fault : Fault) →
    EndsInMemory fault input left before after →
    (status_of fault ≡ 4) ⊎ BeginsNone fault (first_line_of (lines_of input)) ⊎ (script_limit < length input)
ends_in_memory input left before after (Session fault) none = inr (inl none.begins_none)
ends_in_memory input left before after (Opening cause) none = inr (inl none.begins_none)
ends_in_memory input left before after Input (inl cut) = absurd cut.0
ends_in_memory input left before after Input (inr long) = inr (inr (too_long input left before after long))
ends_in_memory input left before after Output unwritten = let same = unwritten.0 in absurd (cc)
ends_in_memory input left before after OutOfMemory ends = inl refl
