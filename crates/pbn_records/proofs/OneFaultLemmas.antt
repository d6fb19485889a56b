-- At one offset a text has one fault at most: each tag stands in one place, and one of its faults excludes the others.
use Rattle.std.proofs.Common.{
  ◌≡◌,
  ◌≢◌,
  ℕ,
  ◌+◌,
  ◌<◌,
  ◌≤◌,
  Bool,
  true,
  false,
  inl,
  inr,
  List,
  [],
  ◌∷◌,
  ◌++◌,
  refl,
  sym,
  ap,
  subst,
  ◌∙◌,
  arith,
  suc,
}
use Rattle.std.specs.Prelude.{Option, Some, None, All, codes, bytes_eq, if◌then◌else◌}
use Rattle.std.specs.Option.{is_some, option_or}
use Rattle.std.specs.Char.{to_ascii_uppercase}
use Rattle.std.specs.List.{AllByRecursion}
use Rattle.std.proofs.lemmas.Bool.{true≢false, cases_Bool, cond_both}
use Rattle.cards.specs.declared.rank.Rank.{Rank}
use Rattle.cards.specs.Rank.{rank_letter}
use Rattle.cards.specs.Cards.{Cards}
use Rattle.cards.specs.Hands.{Hands}
use Rattle.cards.specs.HandReading.{IsHandText}
use Rattle.cards.specs.CardBits.{each_rank}
use Rattle.pbn_pieces.specs.Pieces.{
  Piece,
  Comment,
  OpenComment,
  LineComment,
  EscapeLine,
  BlankLine,
  Quoted,
  Tagged,
  Broken,
  Plain,
  size,
}
use Rattle.pbn_pieces.proofs.CutLemmas.{some_same}
use Rattle.pbn_pieces.proofs.WalkLemmas.{has_bytes}
use Rattle.pbn_records.specs.declared.used.Used.{Used}
use Rattle.pbn_records.specs.declared.used.Used.TheVariants as used
use Rattle.pbn_records.specs.declared.fault.Fault.{Fault}
use Rattle.pbn_records.specs.declared.fault.Fault.TheVariants as kind
use Rattle.pbn_records.specs.Tags.{
  Placed,
  Valued,
  Mark,
  Named,
  Break,
  mark_of,
  marks_from,
  bad_at,
  bad_from,
  tag_name,
  used_of,
  tag_in,
  has_already,
  ended,
  games_from,
}
use Rattle.pbn_records.specs.Values.{Values, inherited, read_value, valued, values_of, all_values, is_inherited_form}
use Rattle.pbn_records.specs.DealValue.{IsDealValue, IsHiddenValue}
use Rattle.pbn_records.specs.Boards.{game_board}
use Rattle.pbn_records.specs.Faults.{DealFault, BoardFault, FaultAtTag, first_game_if_any, IsFaultOf, HasFault}
use Rattle.pbn_records.specs.Reads.{values_from, IsFault}
use Rattle.pbn_records.proofs.DealValueLemmas.{hand_has}
use Rattle.pbn_records.proofs.PartsLemmas.{not_hidden}
use Rattle.pbn_records.proofs.RisingLemmas.{
  Stand,
  StandAt,
  ValuesStand,
  MarkStands,
  tag_stands,
  values_stand,
  fault_stands,
  faults_stand,
  all_stand,
  games_stand,
  marks_stand,
  bad_from_here,
}
use Rattle.pbn_records.proofs.StateLemmas.{used_by_name}

-- a hand's text is no hyphen
rank_is_high : (rank : Rank) → 46 ≤ rank_letter rank
rank_is_high = each_rank (λ rank. 46 ≤ rank_letter rank)
    (omega arith) (omega arith) (omega arith) (omega arith) (omega arith) (omega arith) (omega arith)
    (omega arith) (omega arith) (omega arith) (omega arith) (omega arith) (omega arith)

upper_is_high : (letter : ℕ) → 46 ≤ to_ascii_uppercase letter → 46 ≤ letter
upper_is_high letter above = grind (arith, above)

no_hyphen : (cards : Cards) (text : List ℕ) → IsHandText cards text → text ≢ codes "-"
no_hyphen cards text is e =
    let all = subst (λ bytes. All (λ byte. 46 ≤ byte) bytes) e (hand_has (λ byte. 46 ≤ byte)
    (λ letter rank named. upper_is_high letter (subst (λ n. 46 ≤ n) (sym named) (rank_is_high rank))) (omega arith)
    cards text is) in
    let first = all 0 0 (omega arith) in omega (arith, first)

shown_deal : (hands : Hands) (value : List ℕ) → IsDealValue hands value → ¬ IsHiddenValue value
shown_deal hands value is =
    not_hidden value is.first is.own is.left is.opposite is.right is.has (λ hidden. elim hidden.some [
      | inl own ↦ no_hyphen _ _ is.is.is_own own
      | inr others ↦ elim others [
        | inl left ↦ no_hyphen _ _ is.is.is_left left
        | inr others ↦ elim others [
          | inl opposite ↦ no_hyphen _ _ is.is.is_opposite opposite
          | inr right ↦ no_hyphen _ _ is.is.is_right right
        ]
      ]
    ])

-- a Deal has one fault
one_deal_fault : (first : Option Values) (value : List ℕ) (one other : Fault) → DealFault first value one →
    DealFault first value other → one ≡ other
one_deal_fault first value kind.BadTag other a b = absurd a
one_deal_fault first value kind.BadMark other a b = absurd a
one_deal_fault first value kind.InheritedForm other a b = absurd a
one_deal_fault first value kind.BadDeal kind.BadTag a b = absurd b
one_deal_fault first value kind.BadDeal kind.BadDeal a b = refl
one_deal_fault first value kind.BadDeal kind.HiddenHand a b = absurd (a.0 b)
one_deal_fault first value kind.BadDeal kind.BadMark a b = absurd b
one_deal_fault first value kind.BadDeal kind.DealConflict a b = absurd (a.1 b.0 b.1)
one_deal_fault first value kind.BadDeal kind.InheritedForm a b = absurd b
one_deal_fault first value kind.HiddenHand kind.BadTag a b = absurd b
one_deal_fault first value kind.HiddenHand kind.BadDeal a b = absurd (b.0 a)
one_deal_fault first value kind.HiddenHand kind.HiddenHand a b = refl
one_deal_fault first value kind.HiddenHand kind.BadMark a b = absurd b
one_deal_fault first value kind.HiddenHand kind.DealConflict a b = absurd (shown_deal b.0 value b.1 a)
one_deal_fault first value kind.HiddenHand kind.InheritedForm a b = absurd b
one_deal_fault first value kind.DealConflict kind.BadTag a b = absurd b
one_deal_fault first value kind.DealConflict kind.BadDeal a b = absurd (b.1 a.0 a.1)
one_deal_fault first value kind.DealConflict kind.HiddenHand a b = absurd (shown_deal a.0 value a.1 b)
one_deal_fault first value kind.DealConflict kind.BadMark a b = absurd b
one_deal_fault first value kind.DealConflict kind.DealConflict a b = refl
one_deal_fault first value kind.DealConflict kind.InheritedForm a b = absurd b

one_board_fault : (first : Option Values) (used : Used) (value : List ℕ) (one other : Fault) → BoardFault first used
    value one →
    BoardFault first used value other → one ≡ other
one_board_fault first used.Board value one other a b = absurd a
one_board_fault first used.Dealer value one other a b = a.1 ∙ sym b.1
one_board_fault first used.Vulnerable value one other a b = a.1 ∙ sym b.1
one_board_fault first used.Deal value one other a b = one_deal_fault first value one other a b

-- a tag has one fault
one_tag_fault : (board : Option ℕ) (first : Option Values) (used : Used) (tag : Option Valued) (one other : Fault)
    (offset : ℕ) →
    FaultAtTag board first used tag one offset → FaultAtTag board first used tag other offset → one ≡ other
one_tag_fault board first used None one other offset a b = absurd a
one_tag_fault board first used (Some tag) one other offset a b =
    elim (cases_Bool (is_inherited_form tag.value)) [
      | inl form ↦ a.1.0 form ∙ sym (b.1.0 form)
      | inr plain ↦ one_board_fault first used tag.value one other (a.1.1 plain).1 (b.1.1 plain).1
    ]

-- a fault that is no `[` of a broken tag
no_bad_tag : (board : Option ℕ) (first : Option Values) (used : Used) (tag : Option Valued) (fault : Fault)
    (offset : ℕ) →
    FaultAtTag board first used tag fault offset → (found : Valued) × (tag ≡ Some found) × (found.offset ≡ offset)
no_bad_tag board first used None fault offset is = absurd is
no_bad_tag board first used (Some tag) fault offset is = (tag, refl, is.0)

-- a game's tags stand one after the other
Apart : List Placed → Type 0
Apart [] = Unit {0}
Apart (tag ∷ game) = Stand (λ n. tag.offset < n) game × Apart game

apart_more : (game : List Placed) (tag : Placed) → Stand (λ n. n < tag.offset) game → Apart game →
    Apart (game ++ tag ∷ [])
unfolding Apart
apart_more [] tag below apart = (tt, tt)
apart_more (first ∷ game) tag below apart = (stand_one_more game apart.0, apart_more game tag below.1 apart.1)
  where
    stand_one_more : (game : List Placed) → Stand (λ n. first.offset < n) game → Stand (λ n. first.offset < n)
        (game ++ tag ∷ [])
    stand_one_more [] all = (below.0, tt)
    stand_one_more (other ∷ game) all = (all.0, stand_one_more game all.1)

one_used : (name : List ℕ) (one other : Used) → bytes_eq name (tag_name one) ≡ true → bytes_eq name (tag_name other) ≡
    true → one ≡ other
one_used name one other a b = some_same one other (sym (used_by_name name one a) ∙ used_by_name name other b)

at_or_past : (used : Used) (game : List Placed) (least : ℕ) (found : Valued) → Stand (λ n. least < n) game →
    tag_in used game ≡ Some found → least < found.offset
at_or_past used game least found all is = subst (StandAt (λ n. least < n)) is
    (tag_stands (λ n. least < n) used game all)

-- tags of two names stand in two places
two_places : (one other : Used) (game : List Placed) (a b : Valued) → Apart game → tag_in one game ≡ Some a →
    tag_in other game ≡ Some b →
    a.offset ≡ b.offset → one ≡ other
unfolding Apart
two_places one other [] a b apart at_a at_b same = absurd (true≢false (sym (ap is_some at_a)))
two_places one other (tag ∷ game) a b apart at_a at_b same =
    elim (cases_Bool (bytes_eq tag.name (tag_name one))) [
      | inl is ↦ elim (cases_Bool (bytes_eq tag.name (tag_name other))) [
        | inl also ↦ one_used tag.name one other is also
        | inr isnt ↦
            let here = here_at one a at_a is in
            let past = at_or_past other game tag.offset b apart.0 (further other isnt ∙ at_b) in
            absurd (omega (arith, here, past, same))
      ]
      | inr isnt ↦ elim (cases_Bool (bytes_eq tag.name (tag_name other))) [
        | inl also ↦
            let here = here_at other b at_b also in
            let past = at_or_past one game tag.offset a apart.0 (further one isnt ∙ at_a) in
            absurd (omega (arith, here, past, same))
        | inr neither ↦ two_places one other game a b apart.1 (further one isnt ∙ at_a) (further other neither ∙ at_b)
            same
      ]
    ]
  where
    further : (used : Used) → bytes_eq tag.name (tag_name used) ≡ false → tag_in used game ≡ tag_in used (tag ∷ game)
    further used isnt =
        sym (ap (λ (b : Bool). if b then Some (record { offset = tag.offset; value = tag.value }) else tag_in used game)
        isnt)

    here_at : (used : Used) (found : Valued) → tag_in used (tag ∷ game) ≡ Some found → bytes_eq tag.name (tag_name used)
        ≡ true → tag.offset ≡ found.offset
    here_at used found at is = ap (λ (v : Valued). v.offset)
        (some_same _ found
        (sym (ap (λ (b : Bool). if b then Some (record { offset = tag.offset; value = tag.value }) else tag_in used
        game) is) ∙ at))

-- a value stands where its tag does
placed_at : (before tag : Option Valued) (found : Valued) → valued before tag ≡ Some found → (own : Valued) ×
    (tag ≡ Some own) × (own.offset ≡ found.offset)
placed_at before None found is = absurd (true≢false (sym (ap is_some is)))
placed_at before (Some tag) found is = (tag, refl, offset_of before (bytes_eq tag.value (codes "#")) is)
  where
    offset_of : (before : Option Valued) (b : Bool) →
        (if b then inherited tag.offset before else Some (record { offset = tag.offset; value = read_value tag.value }))
        ≡ Some found → tag.offset ≡ found.offset
    offset_of None true is = absurd (true≢false (sym (ap is_some is)))
    offset_of (Some other) true is = ap (λ (v : Valued). v.offset) (some_same _ found is)
    offset_of before false is = ap (λ (v : Valued). v.offset) (some_same _ found is)

ValuesApart : Values → Type 0
ValuesApart values = (one other : Used) (a b : Valued) → values one ≡ Some a → values other ≡ Some b →
    a.offset ≡ b.offset → one ≡ other

values_apart : (before : Values) (game : List Placed) → Apart game → ValuesApart (values_of before game)
unfolding ValuesApart
values_apart before game apart one other a b at_a at_b same =
    let x = placed_at (before one) (tag_in one game) a at_a in
    let y = placed_at (before other) (tag_in other game) b at_b in
    two_places one other game x.0 y.0 apart x.1 y.1 (x.2 ∙ same ∙ sym y.2)

-- a game has one fault at an offset
one_game_fault : (boards : ℕ) (before : List Values) (values : Values) (one other : Fault) (offset : ℕ) →
    ValuesApart values →
    IsFaultOf boards before values one offset → IsFaultOf boards before values other offset → one ≡ other
unfolding ValuesApart
one_game_fault boards before values one other offset apart (some, a) (another, b) =
    let x = no_bad_tag (game_board boards values) (first_game_if_any boards before (game_board boards values)) some
    (values some) one offset a in
    let y = no_bad_tag (game_board boards values) (first_game_if_any boards before (game_board boards values)) another
    (values another) other offset b in
    let same = apart some another x.0 y.0 x.1 y.1 (x.2 ∙ sym y.2) in
    one_tag_fault (game_board boards values) (first_game_if_any boards before (game_board boards values)) another
    (values another) one other offset
    (subst (λ u. FaultAtTag (game_board boards values) (first_game_if_any boards before (game_board boards values)) u
    (values u) one offset) same a) b

-- games one after the other
Follow : List Values → Type 0
Follow [] = Unit {0}
Follow (values ∷ games) =
    ((next : ℕ) × ValuesStand (λ n. n < next) values × AllByRecursion (ValuesStand (λ n. next ≤ n)) games) ×
    ValuesApart values × Follow games

one_fault_of_games : (boards : ℕ) (before games : List Values) (one other : Fault) (offset : ℕ) → Follow games →
    HasFault boards before games one offset → HasFault boards before games other offset → one ≡ other
unfolding Follow
one_fault_of_games boards before [] one other offset follow a b = absurd a
one_fault_of_games boards before (values ∷ games) one other offset follow (inl a) (inl b) =
    one_game_fault boards before values one other offset follow.1 a b
one_fault_of_games boards before (values ∷ games) one other offset follow (inl a) (inr b) =
    let next = follow.0.0 in
    let below = fault_stands (λ n. n < next) boards before values one offset follow.0.1 a in
    let above = faults_stand (λ n. next ≤ n) boards (before ++ values ∷ []) games other offset follow.0.2 b in
    absurd (omega (arith, below, above))
one_fault_of_games boards before (values ∷ games) one other offset follow (inr a) (inl b) =
    let next = follow.0.0 in
    let below = fault_stands (λ n. n < next) boards before values other offset follow.0.1 b in
    let above = faults_stand (λ n. next ≤ n) boards (before ++ values ∷ []) games one offset follow.0.2 a in
    absurd (omega (arith, below, above))
one_fault_of_games boards before (values ∷ games) one other offset follow (inr a) (inr b) =
    one_fault_of_games boards (before ++ values ∷ []) games one other offset follow.2 a b

-- marks one after the other, from an offset on
Rise : ℕ → List Mark → Type 0
Rise least [] = Unit {0}
Rise least (Break ∷ marks) = Rise least marks
Rise least (Named tag ∷ marks) = (least ≤ tag.offset) × Rise (suc tag.offset) marks

rise_lower : (least offset : ℕ) (marks : List Mark) → least ≤ offset → Rise offset marks → Rise least marks
unfolding Rise
rise_lower least offset [] within all = tt
rise_lower least offset (Break ∷ marks) within all = rise_lower least offset marks within all
rise_lower least offset (Named tag ∷ marks) within all = (omega (arith, within, all.0), all.1)

rise_piece : (offset next : ℕ) (marks : List Mark) (piece : Piece) → offset < next → Rise next marks →
    Rise offset (mark_of offset piece ++ marks)
unfolding Rise
rise_piece offset next marks (Comment inside) lt all = rise_lower offset next marks (omega (arith, lt)) all
rise_piece offset next marks (OpenComment inside) lt all = rise_lower offset next marks (omega (arith, lt)) all
rise_piece offset next marks (LineComment inside) lt all = rise_lower offset next marks (omega (arith, lt)) all
rise_piece offset next marks (EscapeLine inside) lt all = rise_lower offset next marks (omega (arith, lt)) all
rise_piece offset next marks (BlankLine spaces return) lt all = rise_lower offset next marks (omega (arith, lt)) all
rise_piece offset next marks (Quoted within) lt all = rise_lower offset next marks (omega (arith, lt)) all
rise_piece offset next marks (Tagged tag) lt all = (
  omega arith,
  rise_lower (suc offset) next marks (omega (arith, lt))
      all,
)
rise_piece offset next marks (Broken after) lt all = rise_lower offset next marks (omega (arith, lt)) all
rise_piece offset next marks (Plain byte) lt all = rise_lower offset next marks (omega (arith, lt)) all

marks_rise : (offset : ℕ) (pieces : List Piece) → Rise offset (marks_from offset pieces)
unfolding Rise
marks_rise offset [] = tt
marks_rise offset (piece ∷ pieces) =
    let some = has_bytes piece in
    rise_piece offset (offset + size piece) (marks_from (offset + size piece) pieces) piece (omega (arith, some))
    (marks_rise (offset + size piece) pieces)

rise_stand : (least offset : ℕ) (marks : List Mark) → least ≤ offset → Rise offset marks → AllByRecursion
    (MarkStands (λ n. least ≤ n)) marks
unfolding Rise
rise_stand least offset [] within all = tt
rise_stand least offset (Break ∷ marks) within all = (tt, rise_stand least offset marks within all)
rise_stand least offset (Named tag ∷ marks) within all =
    (omega (arith, within, all.0), rise_stand least (suc tag.offset) marks (omega (arith, within, all.0)) all.1)

-- games of such marks
stand_under : (here next : ℕ) (game : List Placed) → here ≤ next → Stand (λ n. n < here) game → Stand (λ n. n < next)
    game
stand_under here next [] within all = tt
stand_under here next (tag ∷ game) within all = (omega (arith, within, all.0), stand_under here next game within all.1)

follow_ended : (before : Values) (here : ℕ) (game : List Placed) (games : List (List Placed)) → Stand (λ n. n < here)
    game → Apart game →
    AllByRecursion (Stand (λ n. here ≤ n)) games → ((before : Values) → Follow (all_values before games)) →
    Follow (all_values before (ended game games))
unfolding Follow
follow_ended before here [] games below apart above follow = follow before
follow_ended before here (tag ∷ game) games below apart above follow = (
  (
    here,
    values_stand (λ n. n < here) before (tag ∷ game) below,
    all_stand (λ n. here ≤ n)
        (values_of before (tag ∷ game)) games above,
  ),
  values_apart before (tag ∷ game) apart,
  follow (values_of before (tag ∷ game)),
)

games_follow : (before : Values) (here : ℕ) (game : List Placed) (marks : List Mark) → Stand (λ n. n < here) game →
    Apart game → Rise here marks →
    Follow (all_values before (games_from game marks))
unfolding Follow Rise Apart
games_follow before here game [] below apart rise = follow_ended before here game [] below apart tt (λ before. tt)
games_follow before here game (Break ∷ marks) below apart rise =
    follow_ended before here game (games_from [] marks) below apart
    (games_stand (λ n. here ≤ n) [] marks tt (rise_stand here here marks (omega arith) rise))
    (λ before. games_follow before here [] marks tt tt rise)
games_follow before here game (Named tag ∷ marks) below apart rise =
    let next : here ≤ suc tag.offset = let at = rise.0 in omega (arith, at) in
    cond_both (has_already game (used_of tag.name)) (ended game (games_from (tag ∷ []) marks))
    (games_from (game ++ tag ∷ []) marks)
    (λ games. Follow (all_values before games))
    (λ e. follow_ended before here game (games_from (tag ∷ []) marks) below apart
    (games_stand (λ n. here ≤ n) (tag ∷ []) marks (rise.0, tt) (rise_stand here (suc tag.offset) marks next rise.1))
    (λ before. games_follow before (suc tag.offset) (tag ∷ []) marks (omega arith, tt) (tt, tt) rise.1))
    (λ e. games_follow before (suc tag.offset) (game ++ tag ∷ []) marks
    (one_more game (stand_under here (suc tag.offset) game next below))
    (apart_more game tag (stand_under here tag.offset game rise.0 below) apart) rise.1)
  where
    one_more : (game : List Placed) → Stand (λ n. n < suc tag.offset) game → Stand (λ n. n < suc tag.offset)
        (game ++ tag ∷ [])
    one_more [] all = (omega arith, tt)
    one_more (first ∷ game) all = (all.0, one_more game all.1)

-- no tag stands where a `[` begins none
apart_from_bad : (offset : ℕ) (pieces : List Piece) (place : ℕ) → bad_from offset pieces ≡ Some place →
    AllByRecursion (MarkStands (λ n. n ≢ place)) (marks_from offset pieces)
apart_from_bad offset [] place e = absurd (true≢false (sym (ap is_some e)))
apart_from_bad offset (piece ∷ pieces) place e =
    of_piece piece (has_bytes piece) (λ next e. apart_from_bad next pieces place e) e
  where
    not_here : (least : ℕ) (marks : List Mark) → place < least → AllByRecursion (MarkStands (λ n. least ≤ n)) marks →
        AllByRecursion (MarkStands (λ n. n ≢ place)) marks
    not_here least [] lt all = tt
    not_here least (Break ∷ marks) lt all = (tt, not_here least marks lt all.1)
    not_here least (Named tag ∷ marks) lt all = (
      (λ same. let at = all.0 in omega (arith, at, lt, same)),
      not_here least marks lt all.1,
    )

    of_piece : (piece : Piece) → 0 < size piece →
        ((next : ℕ) → bad_from next pieces ≡ Some place → AllByRecursion (MarkStands (λ n. n ≢ place))
        (marks_from next pieces)) →
        option_or (bad_at offset piece) (bad_from (offset + size piece) pieces) ≡ Some place →
        AllByRecursion (MarkStands (λ n. n ≢ place)) (mark_of offset piece ++ marks_from (offset + size piece) pieces)
    of_piece (Comment inside) some further e = further (offset + size (Comment inside)) e
    of_piece (OpenComment inside) some further e = further (offset + size (OpenComment inside)) e
    of_piece (LineComment inside) some further e = further (offset + size (LineComment inside)) e
    of_piece (EscapeLine inside) some further e = further (offset + size (EscapeLine inside)) e
    of_piece (BlankLine spaces return) some further e = (tt, further (offset + size (BlankLine spaces return)) e)
    of_piece (Quoted within) some further e = further (offset + size (Quoted within)) e
    of_piece (Tagged tag) some further e = (
      (λ same. let past = bad_from_here (offset + size (Tagged tag)) pieces place e in
          omega (arith, past, some, same)),
      further (offset + size (Tagged tag)) e,
    )
    of_piece (Broken after) some further e =
        let same = some_same offset place e in
        not_here (offset + size (Broken after)) (marks_from (offset + size (Broken after)) pieces)
        (omega (arith, same, some))
        (marks_stand (offset + size (Broken after)) pieces)
    of_piece (Plain byte) some further e = further (offset + size (Plain byte)) e

not_bad : (boards start : ℕ) (pieces : List Piece) (fault : Fault) (offset : ℕ) → HasFault boards []
    (values_from start pieces) fault offset →
    bad_from start pieces ≢ Some offset
not_bad boards start pieces fault offset has e =
    faults_stand (λ n. n ≢ offset) boards [] (values_from start pieces) fault offset
    (all_stand (λ n. n ≢ offset) _ (games_from [] (marks_from start pieces))
    (games_stand (λ n. n ≢ offset) [] (marks_from start pieces) tt (apart_from_bad start pieces offset e))) has refl

-- at an offset of a text there is one fault
pub one_fault : (boards start : ℕ) (pieces : List Piece) (one other : Fault) (offset : ℕ) → IsFault boards start pieces
    one offset →
    IsFault boards start pieces other offset → one ≡ other
unfolding Apart
one_fault boards start pieces one other offset (inl a) (inl b) =
    one_fault_of_games boards [] (values_from start pieces) one other offset
    (games_follow _ start [] (marks_from start pieces) tt tt (marks_rise start pieces)) a b
one_fault boards start pieces one other offset (inl a) (inr b) = absurd (not_bad boards start pieces one offset a b.1)
one_fault boards start pieces one other offset (inr a) (inl b) = absurd (not_bad boards start pieces other offset b a.1)
one_fault boards start pieces one other offset (inr a) (inr b) = a.0 ∙ sym b.0
