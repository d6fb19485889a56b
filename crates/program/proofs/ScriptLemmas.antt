-- How a script's run goes on from line to line.
use Rattle.std.proofs.Common.{◌≡◌, ◌≢◌, ℕ, ◌==◌, false, ◌+◌, ◌≤◌, inl, inr, List, [], ◌∷◌, ◌++◌, take, length, refl, sym, ap, subst, ◌∙◌, append_assoc, append-nil, length-append, arith}
use Rattle.std.specs.Prelude.{Option, Some, None, IfSome, IfErr, OnOk, Err, Ok, Result, filter}
use Rattle.std.proofs.lemmas.List.{map-append, length-take}
use Rattle.std.proofs.lemmas.List.Sums.{fold-append}
use Rattle.std.proofs.lemmas.List.Elements.{filter-append, All-append, All-cons, All-nil}
use Rattle.std.specs.Io.KnownBytes.{Consumes, Appends, IsAtEnd}
use Rattle.std.proofs.KnownBytes.{Consumes-trans, Appends-nil, Appends-trans}
use Rattle.script_lines.specs.declared.line_end.LineEnd.{LineEnd}
use Rattle.script_lines.specs.declared.line_end.LineEnd.TheVariants.{LineFeed, EndOfInput}
use Rattle.script_lines.specs.declared.reading.ReadFault.{ReadFault}
use Rattle.script_lines.specs.declared.reading.ReadFault.TheVariants as read
use Rattle.script_lines.specs.declared.sink.SinkFault.{SinkFault}
use Rattle.script_lines.specs.declared.sink.SinkFault.TheVariants as sink
use Rattle.script_lines.specs.Lines.{CutText, pieces_of, ended_line, ended_lines, last_line, lines_of, first_line_of}
use Rattle.script_lines.specs.Reading.{
  IsUnbroken,
  TakesLine,
  TakesLonger,
  FailsAtInput,
  IsBeyondLimit,
  FailsForMemory,
  FailsFor,
}
use Rattle.script_lines.specs.Writing.{WritesPart}
use Rattle.script_lines.proofs.LineLemmas.{piece_more, rest_more, ended_more, ended_same, all_ended, lines_rest, lines_more}
use Rattle.script_lines.proofs.ShortLineLemmas.{at_most_one_less}
use Rattle.session_commands.specs.declared.entry.Entry.{Entry}
use Rattle.session_book.specs.Journal.{Ledger}
use Rattle.session_object.specs.Reading.{most_bytes}
use Rattle.session_object.specs.declared.session_fault.SessionFault.TheVariants as session
use Rattle.session_state.specs.SessionState.{SessionState}
use Rattle.program.specs.declared.fault.Fault.{Fault}
use Rattle.program.specs.declared.fault.Fault.TheVariants.{Session, Opening, Input, Output, OutOfMemory}
use Rattle.program.specs.FirstLine.{Opens, BeginsNone}
use Rattle.request_answers.specs.Response.{Response}
use Rattle.program.specs.Script.{Received, respond, responses_to, response_to_line, is_not_empty, messages_among}
use Rattle.program.specs.Writes.{
  script_limit,
  Responds,
  RespondsToEach,
  WritesResponses,
  WritesSoFar,
  WritesPartOfLast,
  IsDone,
  IsUnopened,
  IsCutShort,
  IsCutForMemory,
  IsTooLong,
  IsUnwritten,
  EndsOver,
}
use Rattle.program.specs.Standing.{StandsAtLine, StandsAtEnd, StandsAfter, line_feeds, fault_of_read, fault_of_write}

-- ---- responses

-- no message, no response
pub responds_to_none : (opening : SessionState) → RespondsToEach opening [] [] []
unfolding responses_to
responds_to_none opening = record { received = []; each = refl; journal_is = refl; text_is = refl }

-- one message more
pub responds_to_more : (opening : SessionState) (messages : List (List ℕ)) (journal after : List Entry)
    (text more line : List ℕ) →
    RespondsToEach opening messages journal text → Responds opening journal line after more → RespondsToEach opening
    (messages ++ line ∷ []) after (text ++ more)
unfolding responses_to
responds_to_more opening messages journal after text more line so_far next =
    let received : Received = record { line = line; memory = next.memory } in
    let before : Response = responses_to opening so_far.received in
    let step : responses_to opening (so_far.received ++ received ∷ []) ≡ respond opening before received =
    fold-append (respond opening) (record { journal = []; text = [] }) so_far.received (received ∷ []) in
    let here : response_to_line opening before.journal received ≡ response_to_line opening journal received =
    ap (λ j. response_to_line opening j received) so_far.journal_is in
    record {
      received = so_far.received ++ received ∷ [];
      each = map-append (λ (h : Received). h.line) so_far.received (received ∷ []) ∙ ap (λ lines. lines ++ line ∷ [])
          so_far.each;
      journal_is = ap (λ (t : Response). t.journal) step ∙ ap (λ (t : Response). t.journal) here ∙ next.journal_is;
      text_is = ap (λ (t : Response). t.text) step ∙ (λ i. so_far.text_is i ++ ((here i).text ++ 10 ∷ []))
          ∙ ap (λ bytes. text ++ bytes) next.text_is;
    }

-- ---- messages among lines

-- the messages among lines, after the first of them, are a first part of those among more lines
pub among_first : (lines later : List (List ℕ)) → 1 ≤ length lines → messages_among (lines ++ later) ≡ messages_among
    lines ++ filter is_not_empty later
among_first [] later begun = absurd (omega arith)
among_first (first ∷ lines) later begun = filter-append is_not_empty lines later

is_message : (line : List ℕ) → 1 ≤ length line → filter is_not_empty (line ∷ []) ≡ line ∷ []
is_message [] some = absurd (omega arith)
is_message (byte ∷ bytes) some = refl

nothing_of : (line : List ℕ) → length line ≡ 0 → line ≡ []
nothing_of [] none = refl
nothing_of (byte ∷ bytes) none = absurd (omega arith)

no_message : (line : List ℕ) → line ≡ [] → filter is_not_empty (line ∷ []) ≡ []
no_message line empty = ap (λ l. filter is_not_empty (l ∷ [])) empty

pub isnt_empty : (n : ℕ) → (n == 0) ≡ false → 1 ≤ n
isnt_empty n h = grind arith

-- as much as is kept of a line is empty where the line is
pub kept_none : (most : ℕ) (line whole : List ℕ) → line ≡ take (most + 1) whole → length line ≡ 0 → length whole ≡ 0
kept_none most line whole is none = let kept = ap length is ∙ length-take (most + 1) whole in omega (arith, kept, none)

pub kept_some : (most : ℕ) (line whole : List ℕ) → line ≡ take (most + 1) whole → 1 ≤ length line → 1 ≤ length whole
kept_some most line whole is some = let kept = ap length is ∙ length-take (most + 1) whole in omega (arith, kept, some)

-- what no LF ends is a message as any line is
last_message : (line : List ℕ) → filter is_not_empty (last_line line) ≡ filter is_not_empty (line ∷ [])
last_message [] = refl
last_message (byte ∷ bytes) = refl

is_last : (line : List ℕ) → 1 ≤ length line → last_line line ≡ line ∷ []
is_last [] some = absurd (omega arith)
is_last (byte ∷ bytes) some = refl

-- the first of lines stays the first
pub first_more : (lines later : List (List ℕ)) → 1 ≤ length lines → first_line_of (lines ++ later) ≡ first_line_of lines
first_more [] later begun = absurd (omega arith)
first_more (first ∷ lines) later begun = refl

first_last : (line : List ℕ) → first_line_of (last_line line) ≡ line
first_last [] = refl
first_last (byte ∷ bytes) = refl

at_most_one : (line : List ℕ) → length (last_line line) ≤ 1
at_most_one [] = omega arith
at_most_one (byte ∷ bytes) = omega arith

-- what is written after the first line
so_far : (lines : List (List ℕ)) (before after : Option (List ℕ)) → 1 ≤ length lines → WritesResponses lines before
    after → WritesSoFar lines before after
so_far [] before after begun written = absurd (omega arith)
so_far (first ∷ lines) before after begun written = written

-- ---- the bytes that were taken

-- a reader of known bytes has lost what was taken of them
pub taken_of : (input : List ℕ) (reader : Option (List ℕ)) (taken : List ℕ) → Consumes (Some input) reader taken →
    (rest : List ℕ) × (reader ≡ Some rest) × (input ≡ taken ++ rest)
taken_of input None taken consumed = absurd consumed
taken_of input (Some rest) taken consumed = (rest, refl, consumed)

-- ---- one line more

-- the responses to the messages so far, as those with a line more that is none
abbrev with_line : List (List ℕ) → List ℕ → List (List ℕ)
with_line messages line = messages ++ filter is_not_empty (line ∷ [])

module _ (input before : Option (List ℕ)) (reader reader' writer' : Option (List ℕ)) (ledger' : Ledger) (left left' : ℕ)
    (line : List ℕ) (taken text' : List ℕ) where
  -- after a line more, whose message has its response or is passed over
  advance : (end : LineEnd) → (whole : (pieces_of taken).rest ≡ []) → 1 ≤ length (ended_lines taken) →
      Consumes input reader taken → left + length taken ≡ script_limit →
      Opens (first_line_of (ended_lines taken)) ledger'.opening → TakesLine end reader reader' line left left' →
      RespondsToEach ledger'.opening (with_line (messages_among (ended_lines taken)) line) ledger'.journal text' →
      Appends before writer' text' → StandsAfter end input before reader' writer' ledger' left'
  advance LineFeed whole begun consumed counted opened takes responses appended =
      let lines : ended_lines (taken ++ (takes.piece ++ 10 ∷ [])) ≡ ended_lines taken ++ line ∷ [] =
      ended_more taken takes.piece whole takes.unbroken ∙ ap (λ l. ended_lines taken ++ l ∷ []) (sym takes.shortened) in
      record {
        taken = taken ++ (takes.piece ++ 10 ∷ []);
        whole = ap (λ p. p.rest) (piece_more taken takes.piece whole takes.unbroken);
        begun = subst (λ ls. 1 ≤ length ls) (sym lines) (omega (arith, length-append (ended_lines taken) (line ∷ [])));
        stands = record {
          consumed = Consumes-trans input reader reader' taken (takes.piece ++ 10 ∷ []) consumed takes.consumed;
          counted = omega (
            arith,
            counted,
            takes.counted,
            length-append taken (takes.piece ++ 10 ∷ []),
            length-append takes.piece (10 ∷ []),
          );
          opened = subst (λ first. Opens first ledger'.opening)
              (sym (ap first_line_of lines ∙ first_more (ended_lines taken) (line ∷ []) begun)) opened;
          text = text';
          responses = subst (λ messages. RespondsToEach ledger'.opening messages ledger'.journal text')
              (sym (ap messages_among lines ∙ among_first (ended_lines taken) (line ∷ []) begun)) responses;
          appended = appended;
        };
      }
  advance EndOfInput whole begun consumed counted opened takes responses appended =
      let lines : lines_of (taken ++ line) ≡ ended_lines taken ++ last_line line = lines_rest taken line whole
      takes.unbroken in
      record {
        taken = taken ++ line;
        at_end = takes.at_end;
        stands = record {
          consumed = Consumes-trans input reader reader' taken line consumed takes.consumed;
          counted = omega (arith, counted, takes.counted, length-append taken line);
          opened = subst (λ first. Opens first ledger'.opening)
              (sym (ap first_line_of lines ∙ first_more (ended_lines taken) (last_line line) begun)) opened;
          text = text';
          responses = subst (λ messages. RespondsToEach ledger'.opening messages ledger'.journal text')
              (sym (ap messages_among lines ∙ among_first (ended_lines taken) (last_line line) begun
              ∙ ap (λ rest. messages_among (ended_lines taken) ++ rest) (last_message line))) responses;
          appended = appended;
        };
      }

module _ (input before reader reader' writer writer' : Option (List ℕ)) (ledger ledger' : Ledger) (left left' : ℕ)
    (line : List ℕ) (end : LineEnd) where
  -- an empty line is passed over
  pub passed_over : StandsAtLine input before reader writer ledger left → TakesLine end reader reader' line left left' →
      length line ≡ 0 → ledger' ≡ ledger → writer' ≡ writer →
      StandsAfter end input before reader' writer' ledger' left'
  passed_over at takes empty same unwritten =
      subst (λ (l : Ledger). StandsAfter end input before reader' writer' l left') (sym same)
      (subst (λ w. StandsAfter end input before reader' w ledger left') (sym unwritten)
      (advance input before reader reader' writer ledger left left' line at.taken at.stands.text end at.whole at.begun
      at.stands.consumed at.stands.counted at.stands.opened takes
      (subst (λ messages. RespondsToEach ledger.opening messages ledger.journal at.stands.text)
      (sym (ap (λ more. messages_among (ended_lines at.taken) ++ more) (no_message line (nothing_of line empty))
      ∙ append-nil (messages_among (ended_lines at.taken)))) at.stands.responses)
      at.stands.appended))

  -- a message has its response
  pub responded_next : StandsAtLine input before reader writer ledger left → TakesLine end reader reader' line left
      left' → 1 ≤ length line → ledger'.opening ≡ ledger.opening →
      (text : List ℕ) → Responds ledger.opening ledger.journal line ledger'.journal text → Appends writer writer' text →
      StandsAfter end input before reader' writer' ledger' left'
  responded_next at takes some same text tells appended =
      advance input before reader reader' writer' ledger' left left' line at.taken (at.stands.text ++ text) end at.whole
      at.begun at.stands.consumed at.stands.counted
      (subst (Opens (first_line_of (ended_lines at.taken))) (sym same) at.stands.opened) takes
      (subst (λ opening. RespondsToEach opening (with_line (messages_among (ended_lines at.taken)) line) ledger'.journal
      (at.stands.text ++ text)) (sym same)
      (subst (λ more. RespondsToEach ledger.opening (messages_among (ended_lines at.taken) ++ more) ledger'.journal
      (at.stands.text ++ text)) (sym (is_message line some))
      (responds_to_more ledger.opening _ ledger.journal ledger'.journal at.stands.text text line at.stands.responses
      tells)))
      (Appends-trans before writer writer' at.stands.text text at.stands.appended appended)

-- ---- faults

-- a byte that is lost ends no line
with_lost : (line : List ℕ) (lost : ℕ) → IsUnbroken line → lost ≢ 10 → IsUnbroken (line ++ lost ∷ [])
with_lost line lost unbroken other = All-append (λ byte. byte ≢ 10) line (lost ∷ []) unbroken
    (All-cons (λ byte. byte ≢ 10) lost [] other (All-nil (λ byte. byte ≢ 10)))

module _ (input : List ℕ) (before reader reader' writer : Option (List ℕ)) (ledger : Ledger) (left left' most : ℕ)
    (taken text line : List ℕ) where
  module _ (whole : (pieces_of taken).rest ≡ []) (begun : 1 ≤ length (ended_lines taken))
      (taken_first : Consumes (Some input) reader taken) (counted : left + length taken ≡ script_limit)
      (opened : Opens (first_line_of (ended_lines taken)) ledger.opening) (responses : RespondsToEach ledger.opening
      (messages_among (ended_lines taken)) ledger.journal text) (appended : Appends before writer text) where
    -- bytes of a line that hasn't ended change nothing
    written_so_far : (piece : List ℕ) → IsUnbroken piece → WritesSoFar (ended_lines (taken ++ piece)) before writer
    written_so_far piece unbroken =
        subst (λ lines. WritesSoFar lines before writer) (sym (ended_same taken piece whole unbroken))
        (so_far (ended_lines taken) before writer begun (record {
          opening = ledger.opening;
          opened = opened;
          journal = ledger.journal;
          text = text;
          responses = responses;
          appended = appended;
        }))

    -- reading ends early in the line after
    at_input : (reading : Type 0) → FailsAtInput reading reader reader' most line left left' →
        reading × IsCutShort input reader' before writer
    at_input reading fails = (
      fails.failed,
      record {
        read = taken ++ fails.piece;
        consumed = Consumes-trans (Some input) reader reader' taken fails.piece taken_first fails.consumed;
        within = omega (arith, counted, fails.counted, length-append taken fails.piece);
        written = written_so_far fails.piece fails.unbroken;
      },
    )

    -- there is a byte too many
    beyond_limit : IsBeyondLimit reader reader' most line left left' → IsTooLong input reader' before writer
    beyond_limit more = record {
      read = taken ++ more.piece;
      beyond = more.beyond;
      consumed = subst (Consumes (Some input) reader') (sym (append_assoc taken more.piece (more.beyond ∷ [])))
          (Consumes-trans (Some input) reader reader' taken (more.piece ++ more.beyond ∷ []) taken_first more.consumed);
      full = omega (arith, counted, more.counted, more.full, length-append taken more.piece);
      written = written_so_far more.piece more.unbroken;
    }

    -- there is no memory for a byte of the line after
    for_memory : most ≤ most_bytes → FailsForMemory reader reader' most line left left' → IsCutForMemory input reader'
        before writer
    for_memory room fails =
        let piece : List ℕ = line ++ fails.lost ∷ [] in
        let unbroken : IsUnbroken piece = with_lost line fails.lost fails.unbroken fails.ends_no_line in
        let same : length (pieces_of (taken ++ piece)).rest ≡ length piece =
        ap (λ (p : CutText). length p.rest) (rest_more taken piece whole unbroken) in
        let rest : length (pieces_of (taken ++ piece)).rest ≡ length line + 1 =
        omega (arith, same, length-append line (fails.lost ∷ [])) in
        record {
          read = taken ++ piece;
          consumed = Consumes-trans (Some input) reader reader' taken piece taken_first fails.consumed;
          within = omega (
            arith,
            counted,
            fails.counted,
            length-append taken piece,
            length-append line
                (fails.lost ∷ []),
          );
          midst = omega (arith, rest);
          few = omega (arith, rest, fails.few, room);
          written = written_so_far piece unbroken;
        }

    ends_of_read : (reading : Type 0) (writing : SinkFault → Type 0) → most ≤ most_bytes → (fault : ReadFault) →
        FailsFor reading fault reader reader' most line left left' →
        EndsOver reading writing (fault_of_read fault) input reader' before writer
    ends_of_read reading writing room read.Input (inl fails) = inl (at_input reading fails)
    ends_of_read reading writing room read.Input (inr more) = inr (beyond_limit more)
    ends_of_read reading writing room read.OutOfMemory fails = inr (inl (for_memory room fails))

-- a line after the first isn't read
pub cut_short : (reading : Type 0) (writing : SinkFault → Type 0) (fault : ReadFault) (input : List ℕ)
    (before reader reader' writer : Option (List ℕ)) (ledger : Ledger) (left left' most : ℕ) (line : List ℕ) →
    most ≤ most_bytes →
    StandsAtLine (Some input) before reader writer ledger left →
    FailsFor reading fault reader reader' most line left left' →
    EndsOver reading writing (fault_of_read fault) input reader' before writer
cut_short reading writing fault input before reader reader' writer ledger left left' most line room at fails =
    ends_of_read input before reader reader' writer ledger left left' most at.taken at.stands.text line at.whole
    at.begun at.stands.consumed at.stands.counted at.stands.opened at.stands.responses at.stands.appended reading writing
    room fault fails

-- no LF ends a line of these bytes
none_ended : (piece : List ℕ) → IsUnbroken piece → ended_lines piece ≡ []
unfolding ended_lines
none_ended piece unbroken = ended_same [] piece refl unbroken

nothing_written : (piece : List ℕ) (writer : Option (List ℕ)) → IsUnbroken piece → WritesSoFar (ended_lines piece)
    writer writer
nothing_written piece writer unbroken = subst (λ lines. WritesSoFar lines writer writer)
    (sym (none_ended piece unbroken)) (Appends-nil writer)

-- the first line isn't read
first_cut_short : (reading : Type 0) (fault : ReadFault) (input : List ℕ) (reader' writer : Option (List ℕ)) (room : ℕ)
    (line : List ℕ) (left' : ℕ) → room ≤ most_bytes →
    FailsFor reading fault (Some input) reader' room line script_limit left' →
    EndsOver reading (λ _. ⊥) (fault_of_read fault) input reader' writer writer
first_cut_short reading read.Input input reader' writer room line left' small (inl fails) = inl (
  fails.failed,
  record {
    read = fails.piece;
    consumed = fails.consumed;
    within = omega (arith, fails.counted);
    written = nothing_written fails.piece writer fails.unbroken;
  },
)
first_cut_short reading read.Input input reader' writer room line left' small (inr more) = inr (record {
  read = more.piece;
  beyond = more.beyond;
  consumed = more.consumed;
  full = omega (arith, more.counted, more.full);
  written = nothing_written more.piece writer more.unbroken;
})
first_cut_short reading read.OutOfMemory input reader' writer room line left' small fails =
    let piece : List ℕ = line ++ fails.lost ∷ [] in
    let unbroken : IsUnbroken piece = with_lost line fails.lost fails.unbroken fails.ends_no_line in
    let same : length (pieces_of piece).rest ≡ length piece =
    ap (λ (p : CutText). length p.rest) (rest_more [] piece refl unbroken) in
    let rest : length (pieces_of piece).rest ≡ length line + 1 = omega (arith, same, length-append line (fails.lost ∷ []))
    in
    inr (inl (record {
      read = piece;
      consumed = fails.consumed;
      within = omega (arith, fails.counted, length-append line (fails.lost ∷ []));
      midst = omega (arith, rest);
      few = omega (arith, rest, fails.few, small);
      written = nothing_written piece writer unbroken;
    }))

-- a response was written in part alone
pub broken : (input : List ℕ) (before reader reader' writer writer' : Option (List ℕ)) (ledger : Ledger)
    (left left' : ℕ) (line : List ℕ) (end : LineEnd) →
    StandsAtLine (Some input) before reader writer ledger left → TakesLine end reader reader' line left left' →
    1 ≤ length line →
    (after : List Entry) (text : List ℕ) → Responds ledger.opening ledger.journal line after text →
    WritesPart writer writer' text → IsUnwritten input reader' before writer'
broken input before reader reader' writer writer' ledger left left' line end at takes some after text tells part =
    by end takes
  where
    lines : List (List ℕ)
    lines = ended_lines at.taken

    written : WritesPartOfLast lines line before writer'
    written = record {
      opening = ledger.opening;
      opened = at.stands.opened;
      journal = ledger.journal;
      text = at.stands.text;
      responses = at.stands.responses;
      journal_after = after;
      response = text;
      responds = tells;
      part = part.part;
      missing = part.missing;
      split = part.split;
      appended = Appends-trans before writer writer' at.stands.text part.part at.stands.appended part.appended;
    }

    one_more : (read : List ℕ) → lines_of read ≡ lines ++ line ∷ [] → messages_among (lines_of read) ≡ messages_among
        lines ++ line ∷ []
    one_more read are = ap messages_among are ∙ among_first lines (line ∷ []) at.begun
        ∙ ap (λ more. messages_among lines ++ more) (is_message line some)

    by : (end : LineEnd) → TakesLine end reader reader' line left left' → IsUnwritten input reader' before writer'
    by LineFeed takes =
        let read : List ℕ = at.taken ++ (takes.piece ++ 10 ∷ []) in
        let whole : (pieces_of read).rest ≡ [] = ap (λ p. p.rest)
        (piece_more at.taken takes.piece at.whole takes.unbroken) in
        let are : lines_of read ≡ lines ++ line ∷ [] =
        all_ended read whole ∙ ended_more at.taken takes.piece at.whole takes.unbroken ∙ ap (λ l. lines ++ l ∷ [])
        (sym takes.shortened) in
        record {
          read = read;
          consumed = Consumes-trans (Some input) reader reader' at.taken (takes.piece ++ 10 ∷ []) at.stands.consumed
              takes.consumed;
          within = omega (
            arith,
            at.stands.counted,
            takes.counted,
            length-append at.taken (takes.piece ++ 10 ∷ []),
            length-append takes.piece (10 ∷ []),
          );
          whole = inl whole;
          lines = lines;
          last = line;
          begun = at.begun;
          last_line = are;
          message = one_more read are;
          written = written;
        }
    by EndOfInput takes =
        let read : List ℕ = at.taken ++ line in
        let are : lines_of read ≡ lines ++ line ∷ [] = lines_rest at.taken line at.whole takes.unbroken
        ∙ ap (λ l. lines ++ l) (is_last line some) in
        record {
          read = read;
          consumed = Consumes-trans (Some input) reader reader' at.taken line at.stands.consumed takes.consumed;
          within = omega (arith, at.stands.counted, takes.counted, length-append at.taken line);
          whole = inr takes.at_end;
          lines = lines;
          last = line;
          begun = at.begun;
          last_line = are;
          message = one_more read are;
          written = written;
        }

-- so the sink fails
pub ends_unwritten : (reading : Type 0) (writing : SinkFault → Type 0) (fault : SinkFault) (input : List ℕ)
    (left before after : Option (List ℕ)) → writing fault → IsUnwritten input left before after →
    EndsOver reading writing (fault_of_write fault) input left before after
ends_unwritten reading writing sink.Output input left before after failed unwritten = (failed, unwritten)
ends_unwritten reading writing sink.OutOfMemory input left before after failed unwritten =
    inr (inr (failed, unwritten))

-- ---- the first line and the end

-- the first line has opened its session, and there is no message yet
pub begins : (reader reader' writer : Option (List ℕ)) (ledger : Ledger) (left' : ℕ) (line : List ℕ) (end : LineEnd) →
    Opens line ledger.opening → ledger.journal ≡ [] →
    TakesLine end reader reader' line script_limit left' → StandsAfter end reader writer reader' writer ledger left'
unfolding ended_lines
begins reader reader' writer ledger left' line LineFeed opened none takes =
    let lines : ended_lines (takes.piece ++ 10 ∷ []) ≡ ended_line takes.piece ∷ [] = ended_more [] takes.piece refl
    takes.unbroken in
    record {
      taken = takes.piece ++ 10 ∷ [];
      whole = ap (λ p. p.rest) (piece_more [] takes.piece refl takes.unbroken);
      begun = subst (λ ls. 1 ≤ length ls) (sym lines) (omega arith);
      stands = record {
        consumed = takes.consumed;
        counted = omega (arith, takes.counted, length-append takes.piece (10 ∷ []));
        opened = subst (λ first. Opens first ledger.opening) (takes.shortened ∙ sym (ap first_line_of lines)) opened;
        text = [];
        responses = subst (λ ls. RespondsToEach ledger.opening (messages_among ls) ledger.journal []) (sym lines)
            (subst (λ j. RespondsToEach ledger.opening [] j []) (sym none) (responds_to_none ledger.opening));
        appended = Appends-nil writer;
      };
    }
begins reader reader' writer ledger left' line EndOfInput opened none takes =
    let lines : lines_of line ≡ last_line line = lines_rest [] line refl takes.unbroken in
    record {
      taken = line;
      at_end = takes.at_end;
      stands = record {
        consumed = takes.consumed;
        counted = omega (arith, takes.counted);
        opened = subst (λ first. Opens first ledger.opening) (sym (ap first_line_of lines ∙ first_last line)) opened;
        text = [];
        responses = subst (λ ls. RespondsToEach ledger.opening (messages_among ls) ledger.journal []) (sym lines)
            (no_more line);
        appended = Appends-nil writer;
      };
    }
  where
    nothing : RespondsToEach ledger.opening [] ledger.journal []
    nothing = subst (λ j. RespondsToEach ledger.opening [] j []) (sym none) (responds_to_none ledger.opening)

    no_more : (line : List ℕ) → RespondsToEach ledger.opening (messages_among (last_line line)) ledger.journal []
    no_more [] = nothing
    no_more (byte ∷ bytes) = nothing

-- ---- the first line opens no session

-- so many bytes were read, which are no more than the first line
record ReadsFirst (input : List ℕ) (left : Option (List ℕ)) (line : List ℕ) : Type 0 where
  read : List ℕ
  consumed : Consumes (Some input) left read
  few : length read ≤ most_bytes + 2
  one : length (lines_of read) ≤ 1
  first : first_line_of (lines_of input) ≡ line

reads_first : (end : LineEnd) (input : List ℕ) (reader' : Option (List ℕ)) (line : List ℕ) (all left' : ℕ) →
    TakesLine end (Some input) reader' line all left' →
    length line ≤ most_bytes → ReadsFirst input reader' line
unfolding ended_lines
reads_first LineFeed input reader' line all left' takes short =
    let (rest, known, is_input) = taken_of input reader' (takes.piece ++ 10 ∷ []) takes.consumed in
    let whole : (pieces_of (takes.piece ++ 10 ∷ [])).rest ≡ [] = ap (λ p. p.rest)
    (piece_more [] takes.piece refl takes.unbroken) in
    let lines : ended_lines (takes.piece ++ 10 ∷ []) ≡ ended_line takes.piece ∷ [] = ended_more [] takes.piece refl
    takes.unbroken in
    record {
      read = takes.piece ++ 10 ∷ [];
      consumed = takes.consumed;
      few = omega (
        arith,
        short,
        ap length takes.shortened,
        at_most_one_less takes.piece,
        length-append takes.piece
            (10 ∷ []),
      );
      one = subst (λ ls. length ls ≤ 1) (sym (all_ended (takes.piece ++ 10 ∷ []) whole ∙ lines)) (omega arith);
      first = ap (λ bytes. first_line_of (lines_of bytes)) is_input
          ∙ ap first_line_of (lines_more (takes.piece ++ 10 ∷ []) rest whole)
          ∙ ap (λ ls. first_line_of (ls ++ lines_of rest)) lines
          ∙ sym takes.shortened;
    }
reads_first EndOfInput input reader' line all left' takes short =
    let (rest, known, is_input) = taken_of input reader' line takes.consumed in
    let none : rest ≡ [] = subst IsAtEnd known takes.at_end in
    let lines : lines_of line ≡ last_line line = lines_rest [] line refl takes.unbroken in
    record {
      read = line;
      consumed = takes.consumed;
      few = omega (arith, short);
      one = subst (λ ls. length ls ≤ 1) (sym lines) (at_most_one line);
      first = ap (λ bytes. first_line_of (lines_of bytes)) (is_input ∙ ap (λ r. line ++ r) none ∙ append-nil line)
          ∙ ap first_line_of lines ∙ first_last line;
    }

module _ (input : List ℕ) (reader' writer : Option (List ℕ)) (line : List ℕ) (reads : ReadsFirst input reader' line)
    (reading : Type 0) where
  isnt_opened : (fault : Fault) → BeginsNone fault line → IsUnopened fault input reader' writer writer
  isnt_opened fault none = record {
    read = reads.read;
    consumed = reads.consumed;
    few = reads.few;
    first = reads.one;
    begins_none = subst (BeginsNone fault) (sym reads.first) none;
    unwritten = Appends-nil writer;
  }

  ends_there : (fault : Fault) → BeginsNone fault line → EndsOver reading (λ _. ⊥) fault input reader' writer writer
  ends_there (Session fault) none = isnt_opened (Session fault) none
  ends_there (Opening cause) none = isnt_opened (Opening cause) none
  ends_there Input none = absurd none
  ends_there Output none = absurd none
  ends_there OutOfMemory none = inl (isnt_opened OutOfMemory none)

-- no run begins with a line that is no longer than a session object
pub first_refused : (reading : Type 0) (known reader' writer : Option (List ℕ)) (end : LineEnd) (line : List ℕ)
    (left' : ℕ) (fault : Fault) →
    TakesLine end known reader' line script_limit left' → length line ≤ most_bytes → BeginsNone fault line →
    IfSome known (λ input. EndsOver reading (λ _. ⊥) fault input reader' writer writer)
first_refused reading None reader' writer end line left' fault takes short none = tt
first_refused reading (Some input) reader' writer end line left' fault takes short none =
    ends_there input reader' writer line (reads_first end input reader' line script_limit left' takes short) reading
    fault none

-- a longer line
pub first_too_long : (reading : Type 0) (known reader' writer : Option (List ℕ)) (left' : ℕ) →
    TakesLonger known reader' most_bytes script_limit left' →
    IfSome known (λ input. EndsOver reading (λ _. ⊥) (Session session.TooLong) input reader' writer writer)
unfolding ended_lines
first_too_long reading None reader' writer left' takes = tt
first_too_long reading (Some input) reader' writer left' takes = record {
  read = takes.piece;
  consumed = takes.consumed;
  few = takes.few;
  first = subst (λ ls. length ls ≤ 1) (sym (lines_rest [] takes.piece refl takes.unbroken)) (at_most_one takes.piece);
  begins_none = record { refused = takes.longer; memory = λ same. absurd (cc) };
  unwritten = Appends-nil writer;
}

-- reading the first line fails
pub first_unread : (reading : Type 0) (known reader' writer : Option (List ℕ)) (room : ℕ) (line : List ℕ) (left' : ℕ)
    (fault : ReadFault) (ended : Fault) → ended ≡ fault_of_read fault → room ≤ most_bytes →
    FailsFor reading fault known reader' room line script_limit left' → IfSome known
    (λ input. EndsOver reading (λ _. ⊥) ended input reader' writer writer)
first_unread reading None reader' writer room line left' fault ended same small fails = tt
first_unread reading (Some input) reader' writer room line left' fault ended same small fails =
    subst (λ f. EndsOver reading (λ _. ⊥) f input reader' writer writer) (sym same)
    (first_cut_short reading fault input reader' writer room line left' small fails)

-- what ends a run whose sink never fails may end any
pub ends_anywhere : (reading : Type 0) (writing : SinkFault → Type 0) (fault : Fault) (input : List ℕ)
    (left before after : Option (List ℕ)) → EndsOver reading (λ _. ⊥) fault input left before after →
    EndsOver reading writing fault input left before after
ends_anywhere reading writing (Session fault) input left before after ends = ends
ends_anywhere reading writing (Opening cause) input left before after ends = ends
ends_anywhere reading writing Input input left before after ends = ends
ends_anywhere reading writing Output input left before after ends = absurd ends.0
ends_anywhere reading writing OutOfMemory input left before after (inl none) = inl none
ends_anywhere reading writing OutOfMemory input left before after (inr (inl cut)) = inr (inl cut)
ends_anywhere reading writing OutOfMemory input left before after (inr (inr unwritten)) = absurd unwritten.0

-- the whole input is read
pub finished : (input : List ℕ) (before reader writer : Option (List ℕ)) (ledger : Ledger) (left : ℕ) →
    StandsAtEnd (Some input) before reader writer ledger left → IsDone input reader before writer
finished input before reader writer ledger left at =
    let (rest, known, is_input) = taken_of input reader at.taken at.stands.consumed in
    let none : rest ≡ [] = subst IsAtEnd known at.at_end in
    let all : input ≡ at.taken = is_input ∙ ap (λ r. at.taken ++ r) none ∙ append-nil at.taken in
    record {
      short = subst (λ bytes. length bytes ≤ script_limit) (sym all) (omega (arith, at.stands.counted));
      consumed = subst (Consumes (Some input) reader) (sym all) at.stands.consumed;
      written = record {
        opening = ledger.opening;
        opened = subst (λ bytes. Opens (first_line_of (lines_of bytes)) ledger.opening) (sym all) at.stands.opened;
        journal = ledger.journal;
        text = at.stands.text;
        responses = subst (λ bytes. RespondsToEach ledger.opening (messages_among (lines_of bytes)) ledger.journal
            at.stands.text) (sym all) at.stands.responses;
        appended = at.stands.appended;
      };
    }

-- a line that is read leaves fewer bytes to read, unless it was the last
pub fewer : (end : LineEnd) (reader reader' : Option (List ℕ)) (line : List ℕ) (left left' : ℕ) → TakesLine end reader
    reader' line left left' → left' + line_feeds end ≤ left
fewer LineFeed reader reader' line left left' takes = omega (arith, takes.counted)
fewer EndOfInput reader reader' line left left' takes = omega (arith, takes.counted)

-- ---- what is known of a reader

pub done_from : {T E : Type 0} (known before reader writer : Option (List ℕ)) (ledger : Ledger) (left : ℕ)
    (result : Result T E) → OnOk result (StandsAtEnd known before reader writer ledger left) →
    OnOk result (IfSome known (λ input. IsDone input reader before writer))
done_from None before reader writer ledger left (Ok x) at = tt
done_from (Some input) before reader writer ledger left (Ok x) at = finished input before reader writer ledger left at
done_from known before reader writer ledger left (Err fault) at = tt

pub ended_from : {T : Type 0} (reading : Type 0) (writing : SinkFault → Type 0) (known before reader writer :
    Option (List ℕ)) (result : Result T Fault) →
    ((input : List ℕ) → known ≡ Some input →
    IfErr result (λ fault. EndsOver reading writing fault input reader before writer)) →
    IfErr result (λ fault. IfSome known (λ input. EndsOver reading writing fault input reader before writer))
ended_from reading writing known before reader writer (Ok x) ends = tt
ended_from reading writing None before reader writer (Err fault) ends = tt
ended_from reading writing (Some input) before reader writer (Err fault) ends = ends input refl

pub ended_at_first : (reading : Type 0) (writing : SinkFault → Type 0) (known reader writer : Option (List ℕ))
    (fault : Fault) → IfSome known (λ input. EndsOver reading (λ _. ⊥) fault input reader writer writer) →
    IfSome known (λ input. EndsOver reading writing fault input reader writer writer)
ended_at_first reading writing None reader writer fault ends = tt
ended_at_first reading writing (Some input) reader writer fault ends =
    ends_anywhere reading writing fault input reader writer writer ends
