-- Tags come with rising offsets, and a fault stands at a tag of its game.
use Rattle.std.proofs.Common.{
  ◌≡◌,
  ℕ,
  ◌+◌,
  ◌≤◌,
  ◌⊎◌,
  inl,
  inr,
  List,
  [],
  ◌∷◌,
  ◌++◌,
  sym,
  ap,
  subst,
  arith,
  append_assoc,
  append-nil,
}
use Rattle.std.specs.Prelude.{Option, Some, None, codes, bytes_eq}
use Rattle.std.specs.Option.{is_some, option_or}
use Rattle.std.specs.List.{AllByRecursion}
use Rattle.std.proofs.lemmas.Bool.{true≢false, cond_both}
use Rattle.pbn_pieces.specs.Pieces.{
  Piece,
  Comment,
  OpenComment,
  LineComment,
  EscapeLine,
  BlankLine,
  Quoted,
  Tagged,
  Broken,
  Plain,
  size,
}
use Rattle.pbn_pieces.proofs.CutLemmas.{some_same}
use Rattle.pbn_records.specs.declared.used.Used.{Used}
use Rattle.pbn_records.specs.declared.fault.Fault.{Fault}
use Rattle.pbn_records.specs.Tags.{
  Placed,
  Valued,
  Mark,
  Named,
  Break,
  mark_of,
  marks_from,
  bad_at,
  bad_from,
  tag_name,
  used_of,
  tag_in,
  has_already,
  ended,
  games_from,
}
use Rattle.pbn_records.specs.Values.{Values, read_value, inherited, valued, values_of, all_values}
use Rattle.pbn_records.specs.Boards.{game_board}
use Rattle.pbn_records.specs.Faults.{FaultAtTag, first_game_if_any, IsFaultOf, HasFault}

-- the tags of a game stand where this holds
abbrev pub Stand : (ℕ → Type 0) → List Placed → Type 0
Stand P game = AllByRecursion (λ (tag : Placed). P tag.offset) game

abbrev pub StandAt : (ℕ → Type 0) → Option Valued → Type 0
StandAt P None = Unit {0}
StandAt P (Some tag) = P tag.offset

pub tag_stands : (P : ℕ → Type 0) (used : Used) (game : List Placed) → Stand P game → StandAt P (tag_in used game)
tag_stands P used [] all = tt
tag_stands P used (tag ∷ game) all =
    cond_both (bytes_eq tag.name (tag_name used)) (Some (record { offset = tag.offset; value = tag.value }))
    (tag_in used game) (StandAt P)
    (λ e. all.0) (λ e. tag_stands P used game all.1)

inherited_stands : (P : ℕ → Type 0) (offset : ℕ) (before : Option Valued) → P offset →
    StandAt P (inherited offset before)
inherited_stands P offset None is = tt
inherited_stands P offset (Some tag) is = is

valued_stands : (P : ℕ → Type 0) (before tag : Option Valued) → StandAt P tag → StandAt P (valued before tag)
valued_stands P before None is = tt
valued_stands P before (Some tag) is =
    cond_both (bytes_eq tag.value (codes "#")) (inherited tag.offset before)
    (Some (record { offset = tag.offset; value = read_value tag.value })) (StandAt P)
    (λ e. inherited_stands P tag.offset before is) (λ e. is)

abbrev pub ValuesStand : (ℕ → Type 0) → Values → Type 0
ValuesStand P values = (used : Used) → StandAt P (values used)

pub values_stand : (P : ℕ → Type 0) (before : Values) (game : List Placed) → Stand P game → ValuesStand P
    (values_of before game)
values_stand P before game all used = valued_stands P (before used) (tag_in used game) (tag_stands P used game all)

fault_stands_at : (P : ℕ → Type 0) (board : Option ℕ) (first : Option Values) (used : Used) (tag : Option Valued)
    (fault : Fault) (offset : ℕ) →
    StandAt P tag → FaultAtTag board first used tag fault offset → P offset
fault_stands_at P board first used None fault offset is has = absurd has
fault_stands_at P board first used (Some tag) fault offset is has = subst P has.0 is

pub fault_stands : (P : ℕ → Type 0) (boards : ℕ) (before : List Values) (values : Values) (fault : Fault) (offset : ℕ) →
    ValuesStand P values → IsFaultOf boards before values fault offset → P offset
fault_stands P boards before values fault offset all (used, is) =
    fault_stands_at P (game_board boards values) (first_game_if_any boards before (game_board boards values)) used
    (values used) fault offset (all used) is

pub faults_stand : (P : ℕ → Type 0) (boards : ℕ) (before games : List Values) (fault : Fault) (offset : ℕ) →
    AllByRecursion (ValuesStand P) games → HasFault boards before games fault offset → P offset
faults_stand P boards before [] fault offset all has = absurd has
faults_stand P boards before (values ∷ games) fault offset all (inl is) = fault_stands P boards before values fault
    offset all.0 is
faults_stand P boards before (values ∷ games) fault offset all (inr has) = faults_stand P boards (before ++ values ∷ [])
    games fault offset all.1 has

pub all_stand : (P : ℕ → Type 0) (before : Values) (games : List (List Placed)) → AllByRecursion (Stand P) games →
    AllByRecursion (ValuesStand P) (all_values before games)
all_stand P before [] all = tt
all_stand P before (game ∷ games) all = (
  values_stand P before game all.0,
  all_stand P (values_of before game) games
      all.1,
)

abbrev pub MarkStands : (ℕ → Type 0) → Mark → Type 0
MarkStands P (Named tag) = P tag.offset
MarkStands P Break = Unit {0}

ended_stand : (P : ℕ → Type 0) (game : List Placed) (games : List (List Placed)) → Stand P game → AllByRecursion
    (Stand P) games → AllByRecursion (Stand P) (ended game games)
ended_stand P [] games one all = all
ended_stand P (tag ∷ game) games one all = (one, all)

stand_more : (P : ℕ → Type 0) (game : List Placed) (tag : Placed) → Stand P game → P tag.offset →
    Stand P (game ++ tag ∷ [])
stand_more P [] tag all is = (is, tt)
stand_more P (first ∷ game) tag all is = (all.0, stand_more P game tag all.1 is)

pub games_stand : (P : ℕ → Type 0) (game : List Placed) (marks : List Mark) → Stand P game → AllByRecursion
    (MarkStands P) marks → AllByRecursion (Stand P) (games_from game marks)
games_stand P game [] one all = ended_stand P game [] one tt
games_stand P game (Break ∷ marks) one all = ended_stand P game (games_from [] marks) one
    (games_stand P [] marks tt all.1)
games_stand P game (Named tag ∷ marks) one all =
    cond_both (has_already game (used_of tag.name)) (ended game (games_from (tag ∷ []) marks))
    (games_from (game ++ tag ∷ []) marks) (AllByRecursion (Stand P))
    (λ e. ended_stand P game (games_from (tag ∷ []) marks) one (games_stand P (tag ∷ []) marks (all.0, tt) all.1))
    (λ e. games_stand P (game ++ tag ∷ []) marks (stand_more P game tag one all.0) all.1)

pub lower : (least offset : ℕ) (marks : List Mark) → least ≤ offset → AllByRecursion (MarkStands (λ n. offset ≤ n))
    marks → AllByRecursion (MarkStands (λ n. least ≤ n)) marks
lower least offset [] within all = tt
lower least offset (Named tag ∷ marks) within all = (
  omega (arith, within, all.0),
  lower least offset marks within
      all.1,
)
lower least offset (Break ∷ marks) within all = (tt, lower least offset marks within all.1)

pub piece_stands : (offset : ℕ) (marks : List Mark) (piece : Piece) → AllByRecursion (MarkStands (λ n. offset ≤ n))
    marks →
    AllByRecursion (MarkStands (λ n. offset ≤ n)) (mark_of offset piece ++ marks)
piece_stands offset marks (Comment inside) all = all
piece_stands offset marks (OpenComment inside) all = all
piece_stands offset marks (LineComment inside) all = all
piece_stands offset marks (EscapeLine inside) all = all
piece_stands offset marks (BlankLine spaces return) all = (tt, all)
piece_stands offset marks (Quoted within) all = all
piece_stands offset marks (Tagged tag) all = (omega arith, all)
piece_stands offset marks (Broken after) all = all
piece_stands offset marks (Plain byte) all = all

pub marks_stand : (offset : ℕ) (pieces : List Piece) → AllByRecursion (MarkStands (λ n. offset ≤ n))
    (marks_from offset pieces)
marks_stand offset [] = tt
marks_stand offset (piece ∷ pieces) =
    piece_stands offset (marks_from (offset + size piece) pieces) piece
    (lower offset (offset + size piece) (marks_from (offset + size piece) pieces) (omega arith)
    (marks_stand (offset + size piece) pieces))

pub games_high : (least offset : ℕ) (before : Values) (game : List Placed) (pieces : List Piece) → least ≤ offset →
    Stand (λ n. least ≤ n) game →
    AllByRecursion (ValuesStand (λ n. least ≤ n)) (all_values before (games_from game (marks_from offset pieces)))
games_high least offset before game pieces within one =
    all_stand (λ n. least ≤ n) before _ (games_stand (λ n. least ≤ n) game (marks_from offset pieces) one
    (lower least offset (marks_from offset pieces) within (marks_stand offset pieces)))

bad_piece : (least offset place : ℕ) (rest : Option ℕ) (piece : Piece) → least ≤ offset →
    option_or (bad_at offset piece) rest ≡ Some place →
    (rest ≡ Some place → least ≤ place) → least ≤ place
bad_piece least offset place rest (Comment inside) within e f = f e
bad_piece least offset place rest (OpenComment inside) within e f = f e
bad_piece least offset place rest (LineComment inside) within e f = f e
bad_piece least offset place rest (EscapeLine inside) within e f = f e
bad_piece least offset place rest (BlankLine spaces return) within e f = f e
bad_piece least offset place rest (Quoted inside) within e f = f e
bad_piece least offset place rest (Tagged tag) within e f = f e
bad_piece least offset place rest (Broken after) within e f = subst (λ n. least ≤ n) (some_same offset place e) within
bad_piece least offset place rest (Plain byte) within e f = f e

bad_high : (least offset : ℕ) (pieces : List Piece) (place : ℕ) → least ≤ offset → bad_from offset pieces ≡ Some place →
    least ≤ place
bad_high least offset [] place within e = absurd (true≢false (ap is_some (sym e)))
bad_high least offset (piece ∷ pieces) place within e =
    bad_piece least offset place (bad_from (offset + size piece) pieces) piece within e
    (bad_high least (offset + size piece) pieces place (omega (arith, within)))

pub bad_from_here : (offset : ℕ) (pieces : List Piece) (place : ℕ) → bad_from offset pieces ≡ Some place →
    offset ≤ place
bad_from_here offset pieces place = bad_high offset offset pieces place (omega arith)

-- a fault of a game among games
pub has_fault : (boards : ℕ) (before games more : List Values) (values : Values) (fault : Fault) (offset : ℕ) →
    IsFaultOf boards (before ++ games) values fault offset → HasFault boards before (games ++ values ∷ more) fault
    offset
has_fault boards before [] more values fault offset is = inl (subst (λ b. IsFaultOf boards b values fault offset)
    (append-nil before) is)
has_fault boards before (game ∷ games) more values fault offset is =
    inr (has_fault boards (before ++ game ∷ []) games more values fault offset
    (subst (λ b. IsFaultOf boards b values fault offset) (sym (append_assoc before (game ∷ []) games)) is))

pub fault_among : (boards : ℕ) (before games more : List Values) (fault : Fault) (offset : ℕ) → HasFault boards before
    (games ++ more) fault offset →
    HasFault boards before games fault offset ⊎ HasFault boards (before ++ games) more fault offset
fault_among boards before [] more fault offset has = inr (subst (λ b. HasFault boards b more fault offset)
    (sym (append-nil before)) has)
fault_among boards before (game ∷ games) more fault offset (inl is) = inl (inl is)
fault_among boards before (game ∷ games) more fault offset (inr has) =
    elim (fault_among boards (before ++ game ∷ []) games more fault offset has) [
      | inl a ↦ inl (inr a)
      | inr b ↦ inr (subst (λ g. HasFault boards g more fault offset) (append_assoc before (game ∷ []) games) b)
    ]
