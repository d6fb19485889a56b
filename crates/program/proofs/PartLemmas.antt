-- What was written before a fault is a first part of the text of the whole script.
use Rattle.std.proofs.Common.{
  ◌≡◌,
  ℕ,
  Bool,
  true,
  false,
  ◌==◌,
  inl,
  inr,
  List,
  [],
  ◌∷◌,
  ◌++◌,
  map,
  refl,
  sym,
  ap,
  subst,
  ◌∙◌,
  append_assoc,
  append-nil,
  arith,
}
use Rattle.std.specs.Prelude.{if◌then◌else◌, Option, Some, filter, ◌⊎◌}
use Rattle.std.proofs.lemmas.List.{map-append}
use Rattle.std.specs.Io.KnownBytes.{Consumes, Appends, IsAtEnd}
use Rattle.script_lines.specs.Lines.{
  CutText,
  before_rest,
  pieces_of,
  ended_line,
  ended_lines,
  last_line,
  lines_of,
  first_line_of,
}
use Rattle.script_lines.proofs.LineLemmas.{all_ended}
use Rattle.session_commands.specs.declared.entry.Entry.{Entry}
use Rattle.session_state.specs.SessionState.{SessionState}
use Rattle.program.specs.FirstLine.{Opens}
use Rattle.program.specs.Script.{Received, with_ample_memory, responses_to, is_not_empty, messages_among}
use Rattle.program.specs.Writes.{
  RespondsToEach,
  WritesSoFar,
  WritesPartOfLast,
  WritesPartOfResponses,
  IsCutShort,
  IsCutForMemory,
  IsTooLong,
  IsUnwritten,
}
use Rattle.program.proofs.ScriptLemmas.{among_first, first_more, taken_of, responds_to_more}
use Rattle.program.proofs.TextLemmas.{goes_on}

-- ---- lines of a text that goes on

-- a first part of a list
abbrev IsBeginning : {A : Type 0} → List A → List A → Type 0
IsBeginning first whole = (later : List _) × (whole ≡ first ++ later)

-- a byte more before pieces, and before those of a text that goes on
byte_more : (byte : ℕ) (first whole : List (List ℕ)) (rest rest' : List ℕ) → IsBeginning first whole →
    IsBeginning (before_rest byte first rest).ended (before_rest byte whole rest').ended
byte_more byte [] whole rest rest' first = ((before_rest byte whole rest').ended, refl)
byte_more byte (line ∷ lines) whole rest rest' (later, is_whole) =
    (later, ap (λ ended. (before_rest byte ended rest').ended) is_whole)

piece_more : (byte : ℕ) (b : Bool) (first whole : CutText) → IsBeginning first.ended whole.ended →
    IsBeginning (if b then record { ended = [] ∷ first.ended; rest = first.rest } else before_rest byte first.ended
    first.rest).ended
    (if b then record { ended = [] ∷ whole.ended; rest = whole.rest } else before_rest byte whole.ended
    whole.rest).ended
piece_more byte true first whole (later, is_whole) = (later, ap (λ ended. [] ∷ ended) is_whole)
piece_more byte false first whole is_first = byte_more byte first.ended whole.ended first.rest whole.rest is_first

-- what an LF ends in a text, it ends in a text that goes on
pieces_first : (text more : List ℕ) → IsBeginning (pieces_of text).ended (pieces_of (text ++ more)).ended
pieces_first [] more = ((pieces_of more).ended, refl)
pieces_first (byte ∷ text) more = piece_more byte (byte == 10) (pieces_of text) (pieces_of (text ++ more))
    (pieces_first text more)

lines_first : (text more : List ℕ) → IsBeginning (ended_lines text) (lines_of (text ++ more))
unfolding ended_lines lines_of
lines_first text more =
    let (later, is_whole) = pieces_first text more in
    let rest : List (List ℕ) = last_line (pieces_of (text ++ more)).rest in (
      map ended_line later ++ rest,
      ap (λ ended. map ended_line ended ++ rest) is_whole
          ∙ ap (λ lines. lines ++ rest) (map-append ended_line (pieces_of text).ended later)
          ∙ append_assoc (map ended_line (pieces_of text).ended) (map ended_line later) rest,
    )

messages_first : (lines whole : List (List ℕ)) → IsBeginning lines whole → IsBeginning (messages_among lines)
    (messages_among whole)
messages_first [] whole (later, is_whole) = (messages_among whole, refl)
messages_first (line ∷ lines) whole (later, is_whole) = (
  filter is_not_empty later,
  ap messages_among is_whole
      ∙ among_first (line ∷ lines) later (omega arith),
)

-- ---- responses that go on

same_lines : (messages : List (List ℕ)) → map (λ (r : Received). r.line) (map with_ample_memory messages) ≡ messages
same_lines [] = refl
same_lines (message ∷ messages) = ap (λ lines. message ∷ lines) (same_lines messages)

-- responses to messages are a first part of those to more messages
record GoesOn (opening : SessionState) (messages : List (List ℕ)) (text : List ℕ) : Type 0 where
  more : List ℕ
  journal : List Entry
  responses : RespondsToEach opening messages journal (text ++ more)

responses_on : (opening : SessionState) (messages later : List (List ℕ)) (journal : List Entry) (text : List ℕ) →
    RespondsToEach opening messages journal text →
    GoesOn opening (messages ++ later) text
responses_on opening messages later journal text responds =
    let whole : List Received = responds.received ++ map with_ample_memory later in
    let (more, is_whole) = goes_on opening responds.received (map with_ample_memory later) in
    record {
      more = more;
      journal = (responses_to opening whole).journal;
      responses = record {
        received = whole;
        each = map-append (λ (r : Received). r.line) responds.received (map with_ample_memory later)
            ∙ (λ i. responds.each i ++ same_lines later i);
        journal_is = refl;
        text_is = is_whole ∙ ap (λ bytes. bytes ++ more) responds.text_is;
      };
    }

part_of : (messages whole : List (List ℕ)) (opening : SessionState) (journal : List Entry) (text : List ℕ) →
    IsBeginning messages whole → RespondsToEach opening messages journal text → GoesOn opening whole text
part_of messages whole opening journal text (later, is_whole) responds =
    subst (λ all. GoesOn opening all text) (sym is_whole) (responses_on opening messages later journal text responds)

-- ---- faults

module _ (input : List ℕ) (left before after : Option (List ℕ)) where
  -- nothing, or a first part of the responses to a script
  abbrev IsPart : Type 0
  IsPart = Appends before after [] ⊎ WritesPartOfResponses (lines_of input) before after

  part_of_lines : (lines : List (List ℕ)) → IsBeginning lines (lines_of input) → WritesSoFar lines before after → IsPart
  part_of_lines [] first unwritten = inl unwritten
  part_of_lines (line ∷ lines) first w =
      let on = part_of _ _ w.opening w.journal w.text (messages_first (line ∷ lines) (lines_of input) first) w.responses
      in
      inr (record {
        opening = w.opening;
        opened = subst (λ l. Opens l w.opening) (sym (ap first_line_of first.1)) w.opened;
        journal = on.journal;
        text = w.text ++ on.more;
        responses = on.responses;
        part = w.text;
        missing = on.more;
        split = refl;
        appended = w.appended;
      })

  -- of what was read, and then so many bytes
  part_of_read : (read more : List ℕ) → Consumes (Some input) left (read ++ more) → WritesSoFar (ended_lines read)
      before after → IsPart
  part_of_read read more consumed w =
      let (rest, known, is_input) = taken_of input left (read ++ more) consumed in
      let all : input ≡ read ++ (more ++ rest) = is_input ∙ append_assoc read more rest in
      let lines : IsBeginning (ended_lines read) (lines_of input) =
      subst (λ bytes. IsBeginning (ended_lines read) (lines_of bytes)) (sym all) (lines_first read (more ++ rest))
      in
      part_of_lines (ended_lines read) lines w

  pub part_of_cut : IsCutShort input left before after → IsPart
  part_of_cut cut = part_of_read cut.read [] (subst (Consumes (Some input) left) (sym (append-nil cut.read))
      cut.consumed) cut.written

  pub part_of_memory : IsCutForMemory input left before after → IsPart
  part_of_memory cut = part_of_read cut.read [] (subst (Consumes (Some input) left) (sym (append-nil cut.read))
      cut.consumed) cut.written

  pub part_of_long : IsTooLong input left before after → IsPart
  part_of_long long = part_of_read long.read (long.beyond ∷ []) long.consumed long.written

  lines_read : (read rest : List ℕ) → left ≡ Some rest → input ≡ read ++ rest → ((pieces_of read).rest ≡ []) ⊎
      IsAtEnd left → IsBeginning (lines_of read) (lines_of input)
  lines_read read rest known is_input (inl whole) =
      subst (λ lines. IsBeginning lines (lines_of input)) (sym (all_ended read whole))
      (subst (λ bytes. IsBeginning (ended_lines read) (lines_of bytes)) (sym is_input) (lines_first read rest))
  lines_read read rest known is_input (inr at_end) =
      let none : rest ≡ [] = subst IsAtEnd known at_end in
      ([], ap lines_of (is_input ∙ ap (λ more. read ++ more) none ∙ append-nil read) ∙ sym (append-nil (lines_of read)))

  -- of a script whose writing ended early
  pub part_of_broken : IsUnwritten input left before after → WritesPartOfResponses (lines_of input) before after
  part_of_broken broken =
      let (rest, known, is_input) = taken_of input left broken.read broken.consumed in
      let w : WritesPartOfLast broken.lines broken.last before after = broken.written in
      let with_last : RespondsToEach w.opening (messages_among (lines_of broken.read)) w.journal_after
      (w.text ++ w.response) =
      subst (λ messages. RespondsToEach w.opening messages w.journal_after (w.text ++ w.response)) (sym broken.message)
      (responds_to_more w.opening (messages_among broken.lines) w.journal w.journal_after w.text w.response broken.last
      w.responses w.responds) in
      let first : IsBeginning (lines_of broken.read) (lines_of input) = lines_read broken.read rest known is_input
      broken.whole in
      let opener : first_line_of (lines_of input) ≡ first_line_of broken.lines =
      ap first_line_of (first.1 ∙ ap (λ lines. lines ++ first.0) broken.last_line ∙ append_assoc broken.lines
      (broken.last ∷ []) first.0)
      ∙ first_more broken.lines ((broken.last ∷ []) ++ first.0) broken.begun in
      let on = part_of _ _ w.opening w.journal_after (w.text ++ w.response)
      (messages_first (lines_of broken.read) (lines_of input) first) with_last in
      record {
        opening = w.opening;
        opened = subst (λ l. Opens l w.opening) (sym opener) w.opened;
        journal = on.journal;
        text = (w.text ++ w.response) ++ on.more;
        responses = on.responses;
        part = w.text ++ w.part;
        missing = w.missing ++ on.more;
        split = ap (λ bytes. (w.text ++ bytes) ++ on.more) w.split
            ∙ ap (λ bytes. bytes ++ on.more) (sym (append_assoc w.text w.part w.missing))
            ∙ append_assoc (w.text ++ w.part) w.missing on.more;
        appended = w.appended;
      }
