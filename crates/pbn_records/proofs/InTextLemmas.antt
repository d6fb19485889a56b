-- Where a reader is in a text, piece after piece, and what its text is refused for.
use Rattle.std.proofs.Common.{
  ◌≡◌,
  ◌≢◌,
  ℕ,
  ◌+◌,
  ◌-◌,
  ◌<◌,
  ◌≤◌,
  Bool,
  true,
  false,
  ◌⊎◌,
  inl,
  inr,
  List,
  [],
  ◌∷◌,
  ◌++◌,
  length,
  refl,
  sym,
  ap,
  subst,
  ◌∙◌,
  arith,
  append_assoc,
  append-nil,
  length-append,
}
use Rattle.std.specs.Prelude.{Option, Some, None, ◌==◌, ◌&&◌, if◌then◌else◌}
use Rattle.std.specs.Option.{is_some, option_or}
use Rattle.std.specs.List.{AllByRecursion}
use Rattle.std.proofs.lemmas.Bool.{true≢false, cond_both}
use Rattle.pbn_pieces.specs.Pieces.{
  Piece,
  Comment,
  OpenComment,
  LineComment,
  EscapeLine,
  BlankLine,
  Quoted,
  Tagged,
  Broken,
  Plain,
  spelled,
  size,
  MayStand,
  Joins,
}
use Rattle.pbn_pieces.specs.declared.piece.NextPiece.{NextPiece}
use Rattle.pbn_pieces.specs.declared.piece.NextPiece.TheVariants as found
use Rattle.pbn_pieces.specs.Told.{IsSkipped, Shows, Uncut, Takes}
use Rattle.pbn_pieces.proofs.CutLemmas.{some_same}
use Rattle.pbn_pieces.proofs.ExistenceLemmas.{cut_each}
use Rattle.pbn_pieces.proofs.WalkLemmas.{spelled_front, has_bytes}
use Rattle.pbn_records.specs.declared.fault.Fault.{Fault}
use Rattle.pbn_records.specs.declared.fault.Fault.TheVariants as kind
use Rattle.pbn_records.specs.declared.state.State.{State}
use Rattle.pbn_records.specs.declared.deals_error.DealsError.{DealsError}
use Rattle.pbn_records.specs.Tags.{
  without_mark,
  Placed,
  Mark,
  Named,
  Break,
  mark_of,
  marks_from,
  bad_at,
  bad_from,
  used_of,
  has_already,
  ended,
  games_from,
}
use Rattle.pbn_records.specs.Values.{Values, no_values, values_of, all_values}
use Rattle.pbn_records.specs.Faults.{HasFault}
use Rattle.pbn_records.specs.Reads.{start_of, values_from, ArePieces, IsFirstFault, IsRefused}
use Rattle.pbn_records.specs.Kept.{Walk, ended_walk, end_of, add_to, after_mark, all_games, error_of, Knows}
use Rattle.pbn_records.specs.At.{IsStateAfter, walk_on, EndsInFault, EndsInBadTag}
use Rattle.pbn_records.specs.InText.{IsInText, StandsInText, HasRead}
use Rattle.pbn_records.proofs.RisingLemmas.{
  Stand,
  ValuesStand,
  values_stand,
  fault_stands,
  faults_stand,
  games_high,
  bad_from_here,
  has_fault,
  fault_among,
}
use Rattle.pbn_records.proofs.StateLemmas.{ended_game}

-- the games may be grouped as their marks come
ended_all : (done : List Values) (before : Values) (game : List Placed) (games : List (List Placed)) →
    done ++ all_values before (ended game games) ≡ (ended_walk done before game).done ++ all_values
    (ended_walk done before game).before games
ended_all done before [] games = refl
ended_all done before (tag ∷ game) games =
    sym (append_assoc done (values_of before (tag ∷ game) ∷ []) (all_values (values_of before (tag ∷ game)) games))

ends_all : (walk : Walk) (games : List (List Placed)) →
    walk.done ++ all_values walk.before (ended walk.game games) ≡ (end_of walk).done ++ all_values (end_of walk).before
    games
ends_all walk games = ended_all walk.done walk.before walk.game games

end_game_none : (walk : Walk) → (end_of walk).game ≡ []
end_game_none walk = ended_game walk.done walk.before walk.game

break_step : (walk : Walk) (marks : List Mark) → all_games walk (Break ∷ marks) ≡ all_games (end_of walk) marks
break_step walk marks =
    ends_all walk (games_from [] marks)
    ∙ ap (λ game. (end_of walk).done ++ all_values (end_of walk).before (games_from game marks))
    (sym (end_game_none walk))

tag_step : (walk : Walk) (tag : Placed) (marks : List Mark) → all_games walk (Named tag ∷ marks) ≡ all_games
    (after_mark walk (Named tag)) marks
tag_step walk tag marks = by_case (has_already walk.game (used_of tag.name))
  where
    by_case : (b : Bool) →
        walk.done ++ all_values walk.before (if b then ended walk.game (games_from (tag ∷ []) marks) else games_from
        (walk.game ++ tag ∷ []) marks)
        ≡ all_games (if b then add_to (end_of walk) tag else add_to walk tag) marks
    by_case true =
        ends_all walk (games_from (tag ∷ []) marks)
        ∙ ap (λ game. (end_of walk).done ++ all_values (end_of walk).before (games_from (game ++ tag ∷ []) marks))
        (sym (end_game_none walk))
    by_case false = refl

skipped_marks : (offset : ℕ) (piece : Piece) → IsSkipped piece → (mark_of offset piece ≡ []) ×
    (bad_at offset piece ≡ None)
skipped_marks offset (Comment inside) is = (refl, refl)
skipped_marks offset (OpenComment inside) is = (refl, refl)
skipped_marks offset (LineComment inside) is = (refl, refl)
skipped_marks offset (EscapeLine inside) is = (refl, refl)
skipped_marks offset (BlankLine spaces return) is = absurd is
skipped_marks offset (Quoted within) is = (refl, refl)
skipped_marks offset (Tagged tag) is = absurd is
skipped_marks offset (Broken after) is = absurd is
skipped_marks offset (Plain byte) is = (refl, refl)

marks_told : (walk : Walk) (offset : ℕ) (seen : NextPiece) (piece : Piece) (marks : List Mark) → Shows seen piece →
    seen ≢ found.BadTag →
    (all_games walk (mark_of offset piece ++ marks) ≡ all_games (walk_on walk offset seen) marks) ×
    (bad_at offset piece ≡ None)
marks_told walk offset (found.Tag name value) piece marks shows good = (
  ap (λ p. all_games walk (mark_of offset p ++ marks)) shows.1
      ∙ (λ i. all_games walk (Named (record { offset = offset; name = shows.2 i; value = shows.3 i }) ∷ marks))
      ∙ tag_step walk (record { offset = offset; name = name.now; value = value.now }) marks,
  ap (bad_at offset) shows.1,
)
marks_told walk offset found.BlankLine piece marks shows good =
    (ap (λ p. all_games walk (mark_of offset p ++ marks)) shows.2 ∙ break_step walk marks, ap (bad_at offset) shows.2)
marks_told walk offset found.BadTag piece marks shows good = absurd (good refl)
marks_told walk offset (found.Skipped ends) piece marks shows good = (
  ap (λ m. all_games walk (m ++ marks)) (skipped_marks offset piece shows.0).0,
  (skipped_marks offset piece shows.0).1,
)

-- where tags stand
stand_on : (here next : ℕ) (game : List Placed) → here ≤ next → Stand (λ n. n < here) game → Stand (λ n. n < next) game
stand_on here next [] le all = tt
stand_on here next (tag ∷ game) le all = (omega (arith, le, all.0), stand_on here next game le all.1)

stand_one_more : (next : ℕ) (game : List Placed) (tag : Placed) → Stand (λ n. n < next) game → tag.offset < next →
    Stand (λ n. n < next) (game ++ tag ∷ [])
stand_one_more next [] tag all is = (is, tt)
stand_one_more next (first ∷ game) tag all is = (all.0, stand_one_more next game tag all.1 is)

end_stands : (P : ℕ → Type 0) (walk : Walk) → Stand P (end_of walk).game
end_stands P walk = subst (Stand P) (sym (end_game_none walk)) tt

walk_stands : (here next : ℕ) (walk : Walk) (seen : NextPiece) → here < next → Stand (λ n. n < here) walk.game →
    Stand (λ n. n < next) (walk_on walk here seen).game
walk_stands here next walk (found.Tag name value) lt all =
    let tag : Placed = record { offset = here; name = name.now; value = value.now } in
    cond_both (has_already walk.game (used_of name.now)) (add_to (end_of walk) tag) (add_to walk tag)
    (λ (w : Walk). Stand (λ n. n < next) w.game)
    (λ e. stand_one_more next (end_of walk).game tag (end_stands (λ n. n < next) walk) lt)
    (λ e. stand_one_more next walk.game tag (stand_on here next walk.game (omega (arith, lt)) all) lt)
walk_stands here next walk found.BlankLine lt all = end_stands (λ n. n < next) walk
walk_stands here next walk found.BadTag lt all = end_stands (λ n. n < next) walk
walk_stands here next walk (found.Skipped ends) lt all = stand_on here next walk.game (omega (arith, lt)) all

-- how long a piece is
piece_long : (old new : Uncut) (seen : NextPiece) → (takes : Takes old seen new) → length old.rest ≡ size
    takes.cuts.piece + length new.rest
piece_long old new seen takes =
    ap length (takes.cuts.joined ∙ spelled_front takes.cuts.piece new.rest) ∙ length-append
    (spelled takes.cuts.piece []) new.rest

pub shrinks : (old new : Uncut) (seen : NextPiece) → Takes old seen new → length new.rest < length old.rest
shrinks old new seen takes = let long = piece_long old new seen takes in let some = has_bytes takes.cuts.piece in
    omega (arith, long, some)

marked_within : (text : List ℕ) → length (without_mark text) ≤ length text
marked_within [] = omega arith
marked_within (a ∷ []) = omega arith
marked_within (a ∷ b ∷ []) = omega arith
marked_within (a ∷ b ∷ c ∷ text) =
    cond_both (a == 239 && (b == 187 && c == 191)) text (a ∷ b ∷ c ∷ text)
    (λ rest. length rest ≤ length (a ∷ b ∷ c ∷ text)) (λ e. omega arith) (λ e. omega arith)

pub starts_in : (text : List ℕ) → IsInText text (record { starting = true; rest = without_mark text })
    (record { done = []; before = no_values; game = [] })
starts_in text = record { within = marked_within text; below = tt; whole = λ more joins. (more, joins, refl, refl) }

-- one piece more
joins_more : (old new : Uncut) (seen : NextPiece) (more : List Piece) → (takes : Takes old seen new) →
    Joins new.starting more new.rest →
    Joins old.starting (takes.cuts.piece ∷ more) old.rest
joins_more old new seen more takes joins =
    (new.rest, takes.cuts.joined, takes.cuts.stands, subst (λ b. Joins b more new.rest) takes.starts joins)

pub steps_in : (text : List ℕ) (old new : Uncut) (walk : Walk) (seen : NextPiece) → IsInText text old walk →
    Takes old seen new → seen ≢ found.BadTag →
    IsInText text new (walk_on walk (length text - length old.rest) seen)
steps_in text old new walk seen at takes good =
    let here = length text - length old.rest in
    let long = piece_long old new seen takes in
    let some = has_bytes takes.cuts.piece in
    let within = at.within in
    let place : here + size takes.cuts.piece ≡ length text - length new.rest = omega (arith, long, within) in
    record {
      within = omega (arith, long, within);
      below = walk_stands here (length text - length new.rest) walk seen (omega (arith, long, within, some)) at.below;
      whole = λ more joins.
          let all = at.whole (takes.cuts.piece ∷ more) (joins_more old new seen more takes joins) in
          let told = marks_told walk here seen takes.cuts.piece (marks_from (here + size takes.cuts.piece) more)
          takes.cuts.shown good in (
            all.0,
            all.1,
            all.2 ∙ told.0 ∙ ap (λ n. all_games (walk_on walk here seen) (marks_from n more)) place,
            all.3 ∙ ap (λ bad. option_or bad (bad_from (here + size takes.cuts.piece) more)) told.1
                ∙ ap (λ n. bad_from n more) place,
          );
    }

-- a refusal by its fault
refused_as : (text : List ℕ) (boards : ℕ) (fault : Fault) (offset : ℕ) → IsFirstFault text boards fault offset →
    IsRefused (error_of fault offset) text boards
refused_as text boards kind.BadTag offset is = is
refused_as text boards kind.BadDeal offset is = is
refused_as text boards kind.HiddenHand offset is = is
refused_as text boards kind.BadMark offset is = is
refused_as text boards kind.DealConflict offset is = is
refused_as text boards kind.InheritedForm offset is = is

refused_by : (text : List ℕ) (boards here : ℕ) (walk next : Walk) (error : DealsError) (all : List Piece)
    (more : List Values) → ArePieces text all →
    values_from (start_of text) all ≡ next.done ++ more → AllByRecursion (ValuesStand (λ n. here ≤ n)) more →
    ((place : ℕ) → bad_from (start_of text) all ≡ Some place → here ≤ place) → Stand (λ n. n < here) walk.game →
    ((fault : Fault) (offset : ℕ) → ¬ HasFault boards [] walk.done fault offset) → EndsInFault boards walk next error →
    IsRefused error text boards
refused_by text boards here walk next error all more pieces games high bad below faultless ends =
    let values = values_of walk.before walk.game in
    let fault = ends.fault in
    let whole : values_from (start_of text) all ≡ walk.done ++ values ∷ more =
    games ∙ ap (λ done. done ++ more) ends.ended ∙ append_assoc walk.done (values ∷ []) more in
    let within : fault.offset < here =
    fault_stands (λ n. n < here) boards walk.done values fault.fault fault.offset
    (values_stand (λ n. n < here) walk.before walk.game below) fault.is in
    subst (λ e. IsRefused e text boards) (sym fault.named)
    (refused_as text boards fault.fault fault.offset (record {
      pieces = all;
      joined = pieces;
      is = inl (subst (λ games. HasFault boards [] games fault.fault fault.offset) (sym whole)
          (has_fault boards [] walk.done more values fault.fault fault.offset fault.is));
      least = λ other place is. elim is [
        | inl has ↦ elim (fault_among boards [] walk.done (values ∷ more) other place
            (subst (λ games. HasFault boards [] games other place) whole has)) [
              | inl early ↦ absurd (faultless other place early)
              | inr late ↦ elim late [
                | inl own ↦ fault.least other place own
                | inr later ↦ let after = faults_stand (λ n. here ≤ n) boards (walk.done ++ values ∷ []) more other place
                    high later in omega (arith, within, after)
              ]
            ]
        | inr tag ↦ let after = bad place tag.1 in omega (arith, within, after)
      ];
    }))

-- a game that has ended isn't there again
no_end : (done : List Values) (values : Values) → done ≡ done ++ values ∷ [] → ⊥
no_end done values e = let long = ap length e ∙ length-append done (values ∷ []) in omega (arith, long)

next_high : (here : ℕ) (walk : Walk) (seen : NextPiece) → (walk_on walk here seen).done ≡ walk.done
    ++ values_of walk.before walk.game ∷ [] →
    Stand (λ n. here ≤ n) (walk_on walk here seen).game
next_high here walk (found.Tag name value) same =
    let tag : Placed = record { offset = here; name = name.now; value = value.now } in
    cond_both (has_already walk.game (used_of name.now)) (add_to (end_of walk) tag) (add_to walk tag)
    (λ (w : Walk). w.done ≡ walk.done ++ values_of walk.before walk.game ∷ [] → Stand (λ n. here ≤ n) w.game)
    (λ e same. subst (λ game. Stand (λ n. here ≤ n) (game ++ tag ∷ [])) (sym (end_game_none walk)) ((omega arith), tt))
    (λ e same. absurd (no_end walk.done (values_of walk.before walk.game) same))
    same
next_high here walk found.BlankLine same = end_stands (λ n. here ≤ n) walk
next_high here walk found.BadTag same = end_stands (λ n. here ≤ n) walk
next_high here walk (found.Skipped more) same = absurd (no_end walk.done (values_of walk.before walk.game) same)

-- the text ends here
record EndsHere (text : List ℕ) (walk : Walk) (bad : Option ℕ) : Type 0 where
  pub all : List Piece
  pub pieces : ArePieces text all
  pub games : values_from (start_of text) all ≡ (end_of walk).done ++ []
  pub bad_so : bad_from (start_of text) all ≡ bad

ends_here : (text : List ℕ) (uncut : Uncut) (walk : Walk) → IsInText text uncut walk → uncut.rest ≡ [] →
    EndsHere text walk None
ends_here text uncut walk at none =
    let all = at.whole [] none in
    record { all = all.0; pieces = all.1; games = all.2 ∙ ends_all walk []; bad_so = all.3 }

broken_ends : (here : ℕ) (starting : Bool) (piece : Piece) (after rest : List ℕ) → piece ≡ Broken after →
    MayStand starting piece rest → rest ≡ []
broken_ends here starting piece after rest is stands = (subst (λ p. MayStand starting p rest) is stands).0

bad_here : (text : List ℕ) (old new : Uncut) (walk : Walk) → IsInText text old walk → Takes old found.BadTag new →
    EndsHere text walk (Some (length text - length old.rest))
bad_here text old new walk at takes =
    let here = length text - length old.rest in
    let piece = takes.cuts.piece in
    let shown = takes.cuts.shown in
    let none = broken_ends here old.starting piece shown.0 new.rest shown.1 takes.cuts.stands in
    let all = at.whole (piece ∷ []) (joins_more old new found.BadTag [] takes none) in
    record {
      all = all.0;
      pieces = all.1;
      games = all.2 ∙ ap (λ p. all_games walk (mark_of here p ++ [])) shown.1 ∙ ends_all walk [];
      bad_so = all.3 ∙ ap (λ p. option_or (bad_at here p) None) shown.1;
    }

refused_ending : (text : List ℕ) (boards here : ℕ) (walk : Walk) (error : DealsError) (bad : Option ℕ) →
    EndsHere text walk bad →
    ((place : ℕ) → bad ≡ Some place → here ≤ place) → Stand (λ n. n < here) walk.game →
    ((fault : Fault) (offset : ℕ) → ¬ HasFault boards [] walk.done fault offset) → EndsInFault boards walk (end_of walk)
    error → IsRefused error text boards
refused_ending text boards here walk error bad ends high below faultless fault =
    refused_by text boards here walk (end_of walk) error ends.all [] ends.pieces ends.games tt
    (λ place e. high place (sym ends.bad_so ∙ e)) below faultless fault

-- a game's fault is the first of the text
refused_good : (text : List ℕ) (boards : ℕ) (old new : Uncut) (walk : Walk) (seen : NextPiece) (error : DealsError) →
    IsInText text old walk → Takes old seen new →
    seen ≢ found.BadTag → ((fault : Fault) (offset : ℕ) → ¬ HasFault boards [] walk.done fault offset) →
    EndsInFault boards walk (walk_on walk (length text - length old.rest) seen) error → IsRefused error text boards
refused_good text boards old new walk seen error at takes good faultless ends =
    let here = length text - length old.rest in
    let next = walk_on walk here seen in
    let more = cut_each new.starting new.rest in
    let all = (steps_in text old new walk seen at takes good).whole more.0 more.1 in
    let less = shrinks old new seen takes in
    let later : here ≤ length text - length new.rest = omega (arith, less) in
    refused_by text boards here walk next error all.0
    (all_values next.before (games_from next.game (marks_from (length text - length new.rest) more.0)))
    all.1 all.2 (games_high here (length text - length new.rest) next.before next.game more.0 later
    (next_high here walk seen ends.ended))
    (λ place e. let after = bad_from_here (length text - length new.rest) more.0 place (sym all.3 ∙ e) in
    omega (arith, after, later))
    at.below faultless ends

is_bad : NextPiece → Bool
is_bad (found.Tag name value) = false
is_bad found.BlankLine = false
is_bad found.BadTag = true
is_bad (found.Skipped ends) = false

refused_fault : (text : List ℕ) (boards : ℕ) (old new : Uncut) (walk : Walk) (seen : NextPiece) (error : DealsError) →
    IsInText text old walk → Takes old seen new →
    ((fault : Fault) (offset : ℕ) → ¬ HasFault boards [] walk.done fault offset) →
    EndsInFault boards walk (walk_on walk (length text - length old.rest) seen) error → IsRefused error text boards
unfolding is_bad
refused_fault text boards old new walk (found.Tag name value) error at takes faultless ends =
    refused_good text boards old new walk (found.Tag name value) error at takes (λ e. true≢false (sym (ap is_bad e)))
    faultless ends
refused_fault text boards old new walk found.BlankLine error at takes faultless ends =
    refused_good text boards old new walk found.BlankLine error at takes (λ e. true≢false (sym (ap is_bad e))) faultless
    ends
refused_fault text boards old new walk found.BadTag error at takes faultless ends =
    refused_ending text boards (length text - length old.rest) walk error _ (bad_here text old new walk at takes)
    (λ place e. subst (λ n. length text - length old.rest ≤ n) (some_same _ place e) (omega arith)) at.below faultless
    ends
refused_fault text boards old new walk (found.Skipped more) error at takes faultless ends =
    refused_good text boards old new walk (found.Skipped more) error at takes (λ e. true≢false (sym (ap is_bad e)))
    faultless ends

refused_bad : (text : List ℕ) (boards : ℕ) (old new : Uncut) (walk : Walk) (seen : NextPiece) (error : DealsError) →
    IsInText text old walk → Takes old seen new →
    EndsInBadTag boards walk seen (length text - length old.rest) error → IsRefused error text boards
refused_bad text boards old new walk seen error at takes ends =
    let here = length text - length old.rest in
    let bad = bad_here text old new walk at (subst (λ seen. Takes old seen new) ends.seen_so takes) in
    let games = bad.games ∙ append-nil (end_of walk).done in
    subst (λ e. IsRefused e text boards) (sym ends.named) (record {
      pieces = bad.all;
      joined = bad.pieces;
      is = inr (refl, bad.bad_so);
      least = λ other place is. elim is [
        | inl has ↦ absurd (ends.faultless other place (subst (λ games. HasFault boards [] games other place) games
            has))
        | inr tag ↦ let same = some_same here place (sym bad.bad_so ∙ tag.1) in omega (arith, same)
      ];
    })

pub refused_taken : (text : List ℕ) (boards offset : ℕ) (old new : Uncut) (state : State) (seen : NextPiece)
    (error : DealsError) →
    (stands : StandsInText text old boards state) → offset ≡ length text - length old.rest → Takes old seen new →
    EndsInFault state.boards stands.walk (walk_on stands.walk offset seen) error ⊎ EndsInBadTag state.boards stands.walk
    seen offset error →
    IsRefused error text boards
refused_taken text boards offset old new state seen error stands place takes (inl ends) =
    let moved = subst (λ n. EndsInFault state.boards stands.walk (walk_on stands.walk n seen) error) place ends in
    subst (λ b. IsRefused error text b) stands.same
    (refused_fault text state.boards old new stands.walk seen error stands.in_text takes stands.at.faultless moved)
refused_taken text boards offset old new state seen error stands place takes (inr ends) =
    subst (λ b. IsRefused error text b) stands.same
    (refused_bad text state.boards old new stands.walk seen error stands.in_text takes
    (subst (λ n. EndsInBadTag state.boards stands.walk seen n error) place ends))

pub refused_at_end : (text : List ℕ) (boards : ℕ) (uncut : Uncut) (state : State) (error : DealsError) →
    (stands : StandsInText text uncut boards state) →
    uncut.rest ≡ [] → EndsInFault state.boards stands.walk (end_of stands.walk) error → IsRefused error text boards
refused_at_end text boards uncut state error stands none ends =
    subst (λ b. IsRefused error text b) stands.same
    (refused_ending text state.boards (length text - length uncut.rest) stands.walk error None
    (ends_here text uncut stands.walk stands.in_text none)
    (λ place e. absurd (true≢false (ap is_some (sym e)))) stands.in_text.below stands.at.faultless ends)

pub reads_all : (text : List ℕ) (boards : ℕ) (uncut : Uncut) (old new : State) →
    (stands : StandsInText text uncut boards old) → uncut.rest ≡ [] →
    new.boards ≡ old.boards → IsStateAfter new (end_of stands.walk) → HasRead text boards new
reads_all text boards uncut old new stands none same at =
    let ends = ends_here text uncut stands.walk stands.in_text none in
    let games = ends.games ∙ append-nil (end_of stands.walk).done in
    subst (λ b. HasRead text b new) (same ∙ stands.same) (record {
      pieces = ends.all;
      joined = ends.pieces;
      faultless = λ fault offset is. elim is [
        | inl has ↦ at.faultless fault offset (subst (λ games. HasFault new.boards [] games fault offset) games has)
        | inr bad ↦ true≢false (ap is_some (sym bad.1 ∙ ends.bad_so))
      ];
      known = subst (λ (games : List Values). Knows new.boards games new.known) (sym games) at.known;
    })

pub stands_on : (text : List ℕ) (boards offset : ℕ) (old new : Uncut) (before after : State) (seen : NextPiece) →
    (stands : StandsInText text old boards before) →
    offset ≡ length text - length old.rest → Takes old seen new → seen ≢ found.BadTag → after.boards ≡ before.boards →
    ((walk : Walk) → IsStateAfter before walk → IsStateAfter after (walk_on walk offset seen)) → StandsInText text new
    boards after
stands_on text boards offset old new before after seen stands place takes good same on = record {
  walk = walk_on stands.walk (length text - length old.rest) seen;
  same = same ∙ stands.same;
  at = subst (λ n. IsStateAfter after (walk_on stands.walk n seen)) place (on stands.walk stands.at);
  in_text = steps_in text old new stands.walk seen stands.in_text takes good;
}
