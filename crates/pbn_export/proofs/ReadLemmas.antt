-- What is exported is read back.
use Rattle.std.proofs.Common.{◌≡◌, ◌≢◌, ℕ, suc, ◌+◌, ◌-◌, ◌<◌, ◌≤◌, Bool, true, false, List, [], ◌∷◌, ◌++◌, length, map, refl, sym, ap, subst, ◌∙◌, arith, inl, inr}
use Rattle.std.proofs.Common.{append_assoc}
use Rattle.std.specs.Prelude.{◌==◌, Option, Some, None, slice_get, if◌then◌else◌, codes}
use Rattle.std.specs.List.{concat, flat_map, list_all, AllByRecursion}
use Rattle.std.specs.Option.{option_or}
use Rattle.std.proofs.lemmas.Bool.{true≢false, and_parts, and_from, cases_Bool, eqb-true, eq-eqb, ne_eqb}
use Rattle.std.proofs.lemmas.List.{length-map}
use Rattle.std.proofs.lemmas.List.Folds.{find-append}
use Rattle.pbn_pieces.specs.Pieces.{is_other_than, Each, Piece, EscapeLine, Plain, Joins}
use Rattle.pbn_records.specs.Boards.{game_board, is_this_board, first_game, IsRead}
use Rattle.pbn_records.specs.Faults.{FaultAtTag, first_game_if_any, HasFault}
use Rattle.pbn_records.specs.Reads.{values_from, Reads, start_of}
use Rattle.pbn_records.specs.Tags.{Break, marks_from, games_from, ended}
use Rattle.pbn_records.specs.Values.{Values, no_values, all_values, values_of, valued}
use Rattle.pbn_records.specs.declared.board.Board.{Board}
use Rattle.pbn_export.specs.Tables.{GameTag, game_text}
use Rattle.pbn_export.specs.Games.{ExportedBoard, board_game}
use Rattle.pbn_export.specs.Export.{export_header, export_text, is_further, AreExported}
use Rattle.pbn_export.proofs.SafeLemmas.{spell, plain_stands, safe_joins, spell-append}
use Rattle.pbn_export.proofs.SpellLemmas.{game_pieces, all_spelled, game_spelled, is_named, game_stands, Stand, stand-append}
use Rattle.pbn_export.proofs.MarkLemmas.{sizes, marks-append, is_whole, none_bad, both_pass, each_pass, game_whole, placed_tags, named_all, game_marks}
use Rattle.pbn_export.proofs.GameLemmas.{one_game, further_fresh, further_unused}
use Rattle.pbn_export.proofs.BoardLemmas.{is_read_back, read_back, IsValued, board_valued, board_fresh, game_is, board_read, no_board_fault}

-- ---- the pieces of an export

abbrev pub board_pieces : ExportedBoard → List Piece
board_pieces board = game_pieces (board_game board)

abbrev pub body_pieces : List ExportedBoard → List GameTag → List Piece
body_pieces boards last = flat_map board_pieces boards ++ game_pieces last

abbrev pub export_pieces : List ExportedBoard → List GameTag → List Piece
export_pieces boards last =
    EscapeLine (codes " PBN 2.1") ∷ Plain 10 ∷ EscapeLine (codes " EXPORT") ∷ Plain 10 ∷ body_pieces boards last

each_of : (test : ℕ → Bool) (bytes : List ℕ) → list_all test bytes ≡ true → Each test bytes
each_of test [] all = tt
each_of test (byte ∷ bytes) all =
    let both = and_parts (test byte) (list_all test bytes) all in (both.0, each_of test bytes both.1)

header_joins : (pieces : List Piece) (text : List ℕ) → Joins true pieces text →
    Joins true (EscapeLine (codes " PBN 2.1") ∷ Plain 10 ∷ EscapeLine (codes " EXPORT") ∷ Plain 10 ∷ pieces)
    (export_header ++ text)
header_joins pieces text joins =
    let second = codes "% EXPORT" ++ 10 ∷ text in (
      10 ∷ second,
      refl,
      (refl, each_of (is_other_than 10) (codes " PBN 2.1") refl, refl),
      (
        second,
        refl,
        plain_stands false 10 second refl,
        (
          10 ∷ text,
          refl,
          (refl, each_of (is_other_than 10) (codes " EXPORT") refl, refl),
          (text, refl, plain_stands false 10 text refl, joins),
        ),
      ),
    )

further_named : (tags : List GameTag) → list_all is_further tags ≡ true → list_all is_named tags ≡ true
further_named [] all = refl
further_named (tag ∷ tags) all =
    let both = and_parts (is_further tag) (list_all is_further tags) all in
    and_from (is_named tag) (list_all is_named tags) (and_parts (is_named tag) _ both.0).0 (further_named tags both.1)

boards_stand : (number : ℕ) (boards : List ExportedBoard) → AreExported number boards →
    Stand true true (flat_map board_pieces boards)
boards_stand number [] exported = record { safe = tt; ends_so = refl }
boards_stand number (board ∷ boards) exported =
    stand-append true true true (board_pieces board) (flat_map board_pieces boards)
    (game_stands (board_game board) (further_named board.further exported.2))
    (boards_stand (number + 1) boards exported.3)

body_spelled : (boards : List ExportedBoard) (last : List GameTag) →
    concat (map (λ board. game_text (board_game board)) boards) ++ (game_text last ++ [])
    ≡ spell (body_pieces boards last) []
body_spelled boards last =
    all_spelled (λ board. game_text (board_game board)) board_pieces (λ board rest. game_spelled (board_game board) rest)
    boards (game_text last ++ [])
    ∙ (ap (spell (flat_map board_pieces boards)) (game_spelled last [])
    ∙ sym (spell-append (flat_map board_pieces boards) (game_pieces last) []))

export_joins : (boards : List ExportedBoard) (last : List GameTag) → AreExported 1 boards →
    list_all is_further last ≡ true → Joins true (export_pieces boards last) (export_text boards last)
export_joins boards last exported further =
    let body = body_pieces boards last in
    let safe = stand-append true true true (flat_map board_pieces boards) (game_pieces last)
    (boards_stand 1 boards exported) (game_stands last (further_named last further)) in
    subst (λ text. Joins true (export_pieces boards last) (export_header ++ text)) (sym (body_spelled boards last))
    (header_joins body (spell body []) (safe_joins true body safe.safe))

boards_whole : (boards : List ExportedBoard) → list_all is_whole (flat_map board_pieces boards) ≡ true
boards_whole boards = each_pass is_whole board_pieces (λ board. game_whole (board_game board)) boards

export_whole : (boards : List ExportedBoard) (last : List GameTag) →
    list_all is_whole (export_pieces boards last) ≡ true
export_whole boards last =
    both_pass is_whole (flat_map board_pieces boards) (game_pieces last) (boards_whole boards) (game_whole last)

-- ---- the values of its games

-- the values of boards' games, and then of games that have none of the used tags
abbrev pub AreValues : List ExportedBoard → List Values → Type 0
AreValues [] others = AllByRecursion (λ (values : Values). (used : _) → values used ≡ None) others
AreValues (board ∷ boards) [] = ⊥
AreValues (board ∷ boards) (values ∷ others) = IsValued board values × AreValues boards others

-- each number of the boards is one that is read back
number_back : (number : ℕ) (board : ExportedBoard) (many : ℕ) → board.number ≡ number → 1 ≤ number →
    number + suc many ≤ 129 → is_read_back board.number ≡ true
number_back number board many same from to =
    read_back board.number (omega (arith, same, from)) (omega (arith, same, to))

last_values : (offset : ℕ) (before : Values) (last : List GameTag) → list_all is_further last ≡ true →
    AreValues [] (all_values before (games_from [] (marks_from offset (game_pieces last))))
last_values offset before last further =
    subst (λ games. AreValues [] (all_values before games))
    (sym (ap (games_from []) (game_marks offset last)
    ∙ one_game [] (placed_tags offset last) [] (further_fresh [] offset last further)))
    (by_tags last further)
  where
    by_tags : (tags : List GameTag) → list_all is_further tags ≡ true →
        AreValues [] (all_values before (ended (placed_tags offset tags) []))
    by_tags [] further = tt
    by_tags (tag ∷ tags) further =
        ((λ used. ap (valued (before used)) (further_unused offset (tag ∷ tags) further used)), tt)

board_marks : (offset : ℕ) (board : ExportedBoard) (pieces : List Piece) →
    marks_from offset (board_pieces board ++ pieces)
    ≡ named_all (placed_tags offset (board_game board)) ++ Break ∷ marks_from (offset + sizes (board_pieces board)) pieces
board_marks offset board pieces =
    let tags = named_all (placed_tags offset (board_game board)) in
    let more = marks_from (offset + sizes (board_pieces board)) pieces in
    marks-append offset (board_pieces board) pieces
    ∙ (ap (λ marks. marks ++ more) (game_marks offset (board_game board))
    ∙ append_assoc tags (Break ∷ []) more)

body_values : (offset : ℕ) (before : Values) (number : ℕ) (boards : List ExportedBoard) (last : List GameTag) →
    AreExported number boards → 1 ≤ number → number + length boards ≤ 129 → list_all is_further last ≡ true →
    AreValues boards (all_values before (games_from [] (marks_from offset (body_pieces boards last))))
body_values offset before number [] last exported from to further = last_values offset before last further
body_values offset before number (board ∷ boards) last exported from to further =
    let placed = placed_tags offset (board_game board) in
    let next = offset + sizes (board_pieces board) in
    let back = number_back number board (length boards) exported.0 from to in
    let games = games_from [] (marks_from next (body_pieces boards last)) in
    let same = ap (λ pieces. games_from [] (marks_from offset pieces))
    (append_assoc (board_pieces board) (flat_map board_pieces boards) (game_pieces last))
    ∙ (ap (games_from []) (board_marks offset board (body_pieces boards last))
    ∙ one_game [] placed (marks_from next (body_pieces boards last)) (board_fresh offset board exported.2)) in
    subst (λ all. AreValues (board ∷ boards) (all_values before all)) (sym same) (
      board_valued before offset board back,
      body_values next (values_of before placed) (number + 1) boards last exported.3 (omega (arith, from))
          (omega (arith, to)) further,
    )

-- ---- no fault

no_tags_no_fault : (boards : ℕ) (before others : List Values) →
    AllByRecursion (λ (values : Values). (used : _) → values used ≡ None) others → (fault : _) (offset : ℕ) →
    ¬ HasFault boards before others fault offset
no_tags_no_fault boards before [] none fault offset is = is
no_tags_no_fault boards before (values ∷ others) none fault offset (inl (used, at)) =
    subst (λ o. FaultAtTag (game_board boards values) (first_game_if_any boards before (game_board boards values)) used o
    fault offset) (none.0 used) at
no_tags_no_fault boards before (values ∷ others) none fault offset (inr more) =
    no_tags_no_fault boards (before ++ values ∷ []) others none.1 fault offset more

-- a board that comes later has no game among these, nor behind a board with a lesser number
first_later : (boards number : ℕ) (before : List Values) (board : ExportedBoard) (values : Values) →
    game_board boards values ≡ Some board.number → board.number < number → first_game boards number before ≡ None →
    first_game boards number (before ++ values ∷ []) ≡ None
first_later boards number before board values is below none =
    find-append (λ v. is_this_board number (game_board boards v)) before (values ∷ [])
    ∙ (ap (λ o. option_or o (first_game boards number (values ∷ []))) none
    ∙ ap (λ (b : Bool). if b then Some values else None)
    (ap (is_this_board number) is ∙ ne_eqb board.number number (λ same. absurd (omega (arith, same, below)))))

no_faults : (boards : ℕ) (before : List Values) (number : ℕ) (exported : List ExportedBoard) (all : List Values) →
    AreValues exported all → AreExported number exported → 1 ≤ number → number + length exported ≤ boards + 1 →
    boards ≤ 128 → ((later : ℕ) → number ≤ later → first_game boards later before ≡ None) →
    (fault : _) (offset : ℕ) → ¬ HasFault boards before all fault offset
no_faults boards before number [] all known are from to few none fault offset is =
    no_tags_no_fault boards before all known fault offset is
no_faults boards before number (board ∷ exported) [] known are from to few none fault offset is = absurd known
no_faults boards before number (board ∷ exported) (values ∷ others) known are from to few none fault offset (inl is) =
    let same = are.0 in
    no_board_fault boards before board values known.0 are.1
    (number_back number board (length exported) same from (omega (arith, to, few)))
    (omega (arith, same, from)) (omega (arith, same, to)) (none board.number (omega (arith, same))) fault offset is
no_faults boards before number (board ∷ exported) (values ∷ others) known are from to few none fault offset (inr more) =
    let same = are.0 in
    let is = game_is boards board values known.0
    (number_back number board (length exported) same from (omega (arith, to, few)))
    (omega (arith, same, from)) (omega (arith, same, to)) in
    no_faults boards (before ++ values ∷ []) (number + 1) exported others known.1 are.3 (omega (arith, from))
    (omega (arith, to)) few
    (λ later above. first_later boards later before board values is (omega (arith, same, above))
    (none later (omega (arith, above)))) fault offset more

-- ---- what is read

-- what is read of a board, which stands at a place
abbrev pub IsFoundAt : ℕ → List Values → ℕ → Option Board → Type 0
IsFoundAt boards all number at =
    (values : Values) × (board : Board) × (first_game boards number all ≡ Some values) × (at ≡ Some board)
    × IsRead number values board

found : (boards number : ℕ) (exported : List ExportedBoard) (all : List Values) → AreValues exported all →
    AreExported number exported → 1 ≤ number → number + length exported ≤ boards + 1 → boards ≤ 128 →
    (wanted : ℕ) → number ≤ wanted → wanted < number + length exported →
    IsFoundAt boards all wanted (slice_get (map (λ (b : ExportedBoard). b.board) exported) (wanted - number))
found boards number [] all valued are from to few wanted above below = absurd (omega (arith, above, below))
found boards number (board ∷ exported) [] valued are from to few wanted above below = absurd valued
found boards number (board ∷ exported) (values ∷ others) valued are from to few wanted above below =
    let same = are.0 in
    let is = game_is boards board values valued.0
    (number_back number board (length exported) same from (omega (arith, to, few)))
    (omega (arith, same, from)) (omega (arith, same, to)) in
    elim (cases_Bool (board.number == wanted)) [
      | inl here ↦
          let this : board.number ≡ wanted = eqb-true board.number wanted here in
          let place : wanted - number ≡ 0 = omega (arith, same, this) in (
            values,
            board.board,
            ap (λ (b : Bool). if b then Some values else first_game boards wanted others)
                (ap (is_this_board wanted) is ∙ here),
            ap (slice_get (board.board ∷ map (λ (b : ExportedBoard). b.board) exported)) place,
            subst (λ n. IsRead n values board.board) this (board_read board values valued.0 are.1),
          )
      | inr there ↦
          let differs : board.number ≢ wanted = λ e. true≢false (sym (eq-eqb board.number wanted e) ∙ there) in
          let beyond : number + 1 ≤ wanted = omega (arith, same, differs, above) in
          let place : wanted - number ≡ suc (wanted - (number + 1)) = omega (arith, beyond) in
          let rest = found boards (number + 1) exported others valued.1 are.3 (omega (arith, from)) (omega (arith, to))
          few wanted beyond (omega (arith, below)) in (
            rest.0,
            rest.1,
            ap (λ (b : Bool). if b then Some values else first_game boards wanted others)
                (ap (is_this_board wanted) is ∙ there) ∙ rest.2,
            ap (slice_get (board.board ∷ map (λ (b : ExportedBoard). b.board) exported)) place ∙ rest.3,
            rest.4,
          )
    ]

none_some : {A : Type 0} (x : A) → None ≡ Some x → ⊥
none_some x same = absurd (cc)

-- what is written of boards is read as these boards
pub reads_back : (boards : List ExportedBoard) (last : List GameTag) → AreExported 1 boards → length boards ≤ 128 →
    list_all is_further last ≡ true →
    Reads (export_text boards last) (length boards) (map (λ (b : ExportedBoard). b.board) boards)
reads_back boards last exported few further =
    let text = export_text boards last in
    let start = start_of text in
    let pieces = export_pieces boards last in
    let valued = λ (offset : ℕ). body_values offset no_values 1 boards last exported (omega arith) (omega (arith, few))
    further in
    record {
      pieces = pieces;
      joined = export_joins boards last exported further;
      faultless = λ fault offset is. elim is [
        | inl fault_is ↦ no_faults (length boards) [] 1 boards (values_from start pieces) (valued _) exported
            (omega arith) (omega arith) few (λ later above. refl) fault offset fault_is
        | inr bad ↦ none_some offset (sym (none_bad start pieces (export_whole boards last)) ∙ bad.1)
      ];
      many = length-map boards _;
      read = λ number from to. found (length boards) 1 boards (values_from start pieces) (valued _) exported
          (omega arith) (omega arith) few number from (omega (arith, to));
    }
