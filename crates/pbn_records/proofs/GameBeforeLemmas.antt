-- What value a tag has in a game, by the game before.
use Rattle.std.proofs.Common.{
  ◌≡◌,
  ◌≢◌,
  ℕ,
  zero,
  suc,
  ◌+◌,
  ◌<◌,
  arith,
  Bool,
  true,
  false,
  inl,
  inr,
  List,
  [],
  ◌∷◌,
  ◌++◌,
  get_or,
  map,
  refl,
  sym,
  ap,
  subst,
  ◌∙◌,
}
use Rattle.std.specs.Prelude.{Option, Some, None, nat_eq, slice_get, cond, codes, bytes_eq, if◌then◌else◌}
use Rattle.std.specs.Option.{is_some}
use Rattle.std.specs.List.{find}
use Rattle.std.proofs.lemmas.Bool.{true≢false, false_from_ne_true, eq-eqb, eqb-true, cases_Bool}
use Rattle.std.proofs.lemmas.Slice.Eq.{bytes_eq-Decides}
use Rattle.pbn_pieces.proofs.CutLemmas.{some_same, cut_once}
use Rattle.table_terms.specs.declared.place.Place.{Place}
use Rattle.table_terms.specs.declared.vulnerability.Vulnerability.{Vulnerability}
use Rattle.cards.specs.Hands.{Hands}
use Rattle.pbn_records.specs.declared.board.Board.{Board}
use Rattle.pbn_records.specs.declared.used.Used.{Used}
use Rattle.pbn_records.specs.declared.used.Used.TheVariants as used_tag
use Rattle.pbn_records.specs.Tags.{Placed, Valued, tag_in, without_mark}
use Rattle.pbn_records.specs.Values.{
  Values,
  no_values,
  values_of,
  all_values,
  valued,
  inherited,
  read_value,
  is_inherited_form,
}
use Rattle.pbn_records.specs.MarkValue.{ReadsDealer, ReadsVulnerable}
use Rattle.pbn_records.specs.Boards.{is_there, number_in, is_this_board, game_board, first_game, HasDeal, IsRead}
use Rattle.pbn_records.specs.declared.fault.Fault.TheVariants.{InheritedForm}
use Rattle.pbn_records.specs.Faults.{FaultAtTag, first_game_if_any, HasFault}
use Rattle.pbn_records.specs.Reads.{start_of, values_from}
use Rattle.pbn_records.specs.GameBefore.{values_at, values_before, IsTagAsWritten, HasHash, IsFirstOf, IsReadAt}

-- the values in the game before, where these are the values before the first
ahead : Values → List (List Placed) → ℕ → Values
ahead before games zero = before
ahead before games (suc index) = get_or (all_values before games) index no_values

ahead_next : (before : Values) (game : List Placed) (games : List (List Placed)) (index : ℕ) →
    ahead (values_of before game) games index ≡ ahead before (game ∷ games) (suc index)
unfolding ahead
ahead_next before game games zero = refl
ahead_next before game games (suc index) = refl

-- the values in a game are its own, and where a tag is `#` those in the game before
stepped : (before : Values) (games : List (List Placed)) (index : ℕ) (game : List Placed) → slice_get games index ≡ Some
    game →
    get_or (all_values before games) index no_values ≡ values_of (ahead before games index) game
unfolding ahead
stepped before [] index game is = absurd (true≢false (ap is_some (sym is)))
stepped before (first ∷ games) zero game is = ap (values_of before) (some_same first game is)
stepped before (first ∷ games) (suc index) game is =
    stepped (values_of before first) games index game is
    ∙ ap (λ values. values_of values game) (ahead_next before first games index)

ahead_is_before : (games : List (List Placed)) (index : ℕ) → ahead no_values games index ≡ values_before games index
unfolding ahead
ahead_is_before games zero = refl
ahead_is_before games (suc index) = refl

at_written : (games : List (List Placed)) (index : ℕ) (used : Used) (tag : Option Valued) → IsTagAsWritten games index
    used tag →
    values_at games index used ≡ valued (values_before games index used) tag
at_written games index used tag is =
    ap (λ (values : Values). values used) (stepped no_values games index is.game is.there)
    ∙ ap (λ (values : Values). valued (values used) (tag_in used is.game)) (ahead_is_before games index)
    ∙ ap (valued (values_before games index used)) is.written

-- the value of `#`
at_hash : (games : List (List Placed)) (index offset : ℕ) (used : Used) → HasHash games index used offset →
    values_at games index used ≡ inherited offset (values_before games index used)
at_hash games index offset used has = at_written games index used _ has

pub at_none : (games : List (List Placed)) (index : ℕ) (used : Used) → IsTagAsWritten games index used None →
    values_at games index used ≡ None
at_none games index used is = at_written games index used None is

-- any other value
pub at_other : (games : List (List Placed)) (index : ℕ) (used : Used) (tag : Valued) → IsTagAsWritten games index used
    (Some tag) → tag.value ≢ codes "#" →
    values_at games index used ≡ Some (record { offset = tag.offset; value = read_value tag.value })
at_other games index used tag is other =
    at_written games index used (Some tag) is ∙ ap (λ hash. if hash then inherited tag.offset
    (values_before games index used)
    else Some (record { offset = tag.offset; value = read_value tag.value })) isnt_hash
  where
    isnt_hash : bytes_eq tag.value (codes "#") ≡ false
    isnt_hash = false_from_ne_true (bytes_eq tag.value (codes "#"))
        (λ e. other ((bytes_eq-Decides tag.value (codes "#")).0 e))

-- the value of `#`, by the game before
hash_after : (games : List (List Placed)) (index offset : ℕ) (used : Used) → HasHash games (index + 1) used offset →
    values_at games (index + 1) used ≡ inherited offset (values_at games index used)
hash_after games index offset used has =
    at_hash games (index + 1) offset used has ∙ ap (λ n. inherited offset (values_before games n used)) after
  where
    after : index + 1 ≡ suc index
    after = omega arith

pub taken_at : (games : List (List Placed)) (index offset place : ℕ) (used : Used) (value : List ℕ) → HasHash games
    (index + 1) used offset →
    values_at games index used ≡ Some (record { offset = place; value = value }) →
    values_at games (index + 1) used ≡ Some (record { offset = offset; value = value })
taken_at games index offset place used value has is = hash_after games index offset used has ∙ ap (inherited offset) is

pub missing_at : (games : List (List Placed)) (index offset : ℕ) (used : Used) → HasHash games (index + 1) used offset →
    values_at games index used ≡ None → values_at games (index + 1) used ≡ None
missing_at games index offset used has is = hash_after games index offset used has ∙ ap (inherited offset) is

pub missing_first : (games : List (List Placed)) (offset : ℕ) (used : Used) → HasHash games zero used offset →
    values_at games zero used ≡ None
missing_first games offset used has = at_hash games zero offset used has

-- a tag's values, by that tag alone
first_tag : Option Valued → List (Option Valued) → Option Valued
first_tag other [] = other
first_tag other (tag ∷ tags) = tag

other_tags : List (Option Valued) → List (Option Valued)
other_tags [] = []
other_tags (tag ∷ tags) = tags

has_any : List (Option Valued) → Bool
has_any [] = false
has_any (tag ∷ tags) = true

alone_from : (used : Used) (one other : Values) (some others : List (List Placed)) (index : ℕ) → one used ≡ other used →
    map (tag_in used) some ≡ map (tag_in used) others →
    get_or (all_values one some) index no_values used ≡ get_or (all_values other others) index no_values used
unfolding first_tag other_tags has_any
alone_from used one other [] [] index before same = refl
alone_from used one other [] (game ∷ others) index before same = absurd (true≢false (ap has_any (sym same)))
alone_from used one other (game ∷ some) [] index before same = absurd (true≢false (ap has_any same))
alone_from used one other (here ∷ some) (there ∷ others) zero before same = λ i. valued (before i)
    (first_tag None (same i))
alone_from used one other (here ∷ some) (there ∷ others) (suc index) before same =
    alone_from used (values_of one here) (values_of other there) some others index
    (λ i. valued (before i) (first_tag None (same i)))
    (ap other_tags same)

pub alone : (used : Used) (some others : List (List Placed)) (index : ℕ) → map (tag_in used) some ≡ map (tag_in used)
    others →
    values_at some index used ≡ values_at others index used
alone used some others index same = alone_from used no_values no_values some others index refl same

-- a board's first game
isnt : (board : ℕ) (found : Option ℕ) → found ≢ Some board → is_this_board board found ≡ false
isnt board None apart = refl
isnt board (Some other) apart = elim (cases_Bool (nat_eq other board)) [
  | inl same ↦ absurd (apart (ap (λ (n : ℕ). Some n) (eqb-true other board same)))
  | inr differs ↦ differs
]

found_at : (test : Values → Bool) (xs : List Values) (index : ℕ) → test no_values ≡ false →
    test (get_or xs index no_values) ≡ true →
    ((other : ℕ) → other < index → test (get_or xs other no_values) ≡ false) → find test xs ≡ Some
    (get_or xs index no_values)
found_at test [] index none is others = absurd (true≢false (sym is ∙ none))
found_at test (values ∷ xs) zero none is others = ap (λ b. cond b (Some values) (find test xs)) is
found_at test (values ∷ xs) (suc index) none is others =
    ap (λ b. cond b (Some values) (find test xs)) (others zero (omega arith))
    ∙ found_at test xs index none is (λ other before. others (suc other) (omega (arith, before)))

first_is : (boards number : ℕ) (games : List (List Placed)) (index : ℕ) → IsFirstOf boards number games index →
    first_game boards number (all_values no_values games) ≡ Some (values_at games index)
first_is boards number games index first =
    found_at (λ values. is_this_board number (game_board boards values)) (all_values no_values games) index refl
    (ap (is_this_board number) first.is ∙ eq-eqb number number refl)
    (λ other before. isnt number (game_board boards (values_at games other)) (first.first other before))

-- a board is what its first game says of it
read_at : (text : List ℕ) (boards number index : ℕ) (board : Board) (games : List (List Placed)) → IsReadAt text boards
    number board games index →
    IsRead number (values_at games index) board
read_at text boards number index board games at =
    let read = at.reads.read number at.from at.to in
    let pieces = cut_once true at.reads.pieces at.pieces (without_mark text) at.reads.joined at.joined in
    let values = some_same _ _ (sym read.2 ∙ ap (λ p. first_game boards number (values_from (start_of text) p)) pieces
    ∙ ap (λ games. first_game boards number (all_values no_values games)) (sym at.grouped) ∙ first_is boards number
    games index at.first) in
    subst (λ (b : Board). IsRead number (values_at games index) b) (some_same _ _ (sym read.3 ∙ at.there))
    (subst (λ (v : Values). IsRead number v read.1) values read.4)

has_before : (offset : ℕ) (before : Option Valued) (deal : Hands) → HasDeal (inherited offset before) deal →
    HasDeal before deal
has_before offset None deal has = has
has_before offset (Some tag) deal has = has

dealer_before : (number offset : ℕ) (before : Option Valued) (place : Place) → ReadsDealer number
    (inherited offset before) place → ReadsDealer number before place
dealer_before number offset None place reads = reads
dealer_before number offset (Some tag) place reads = reads

marking_before : (number offset : ℕ) (before : Option Valued) (vulnerability : Vulnerability) → ReadsVulnerable number
    (inherited offset before) vulnerability →
    ReadsVulnerable number before vulnerability
marking_before number offset None vulnerability reads = reads
marking_before number offset (Some tag) vulnerability reads = reads

number_before : (boards number offset : ℕ) (before : Option Valued) → number_in boards (inherited offset before) ≡ Some
    number → number_in boards before ≡ Some number
number_before boards number offset None is = is
number_before boards number offset (Some tag) is = is

number_if : (there : Bool) (found : Option ℕ) (number : ℕ) → (if there then found else None) ≡ Some number →
    found ≡ Some number
number_if true found number is = is
number_if false found number is = absurd (true≢false (ap is_some (sym is)))

pub number_at : (text : List ℕ) (boards number index offset : ℕ) (board : Board) (games : List (List Placed)) →
    IsReadAt text boards number board games index →
    HasHash games index used_tag.Board offset → number_in boards (values_before games index used_tag.Board) ≡ Some
    number
number_at text boards number index offset board games at has =
    number_before boards number offset (values_before games index used_tag.Board)
    (ap (number_in boards) (sym (at_hash games index offset used_tag.Board has))
    ∙ number_if (is_there (values_at games index used_tag.Deal))
    (number_in boards (values_at games index used_tag.Board)) number at.first.is)

pub deal_at : (text : List ℕ) (boards number index offset : ℕ) (board : Board) (games : List (List Placed)) →
    IsReadAt text boards number board games index →
    HasHash games index used_tag.Deal offset → HasDeal (values_before games index used_tag.Deal) board.deal
deal_at text boards number index offset board games at has =
    has_before offset (values_before games index used_tag.Deal) board.deal
    (subst (λ tag. HasDeal tag board.deal) (at_hash games index offset used_tag.Deal has)
    (read_at text boards number index board games at).deal)

pub dealer_at : (text : List ℕ) (boards number index offset : ℕ) (board : Board) (games : List (List Placed)) →
    IsReadAt text boards number board games index →
    HasHash games index used_tag.Dealer offset → ReadsDealer number (values_before games index used_tag.Dealer)
    board.dealer
dealer_at text boards number index offset board games at has =
    dealer_before number offset (values_before games index used_tag.Dealer) board.dealer
    (subst (λ tag. ReadsDealer number tag board.dealer) (at_hash games index offset used_tag.Dealer has)
    (read_at text boards number index board games at).dealer)

pub marking_at : (text : List ℕ) (boards number index offset : ℕ) (board : Board) (games : List (List Placed)) →
    IsReadAt text boards number board games index →
    HasHash games index used_tag.Vulnerable offset → ReadsVulnerable number
    (values_before games index used_tag.Vulnerable) board.vulnerability
marking_at text boards number index offset board games at has =
    marking_before number offset (values_before games index used_tag.Vulnerable) board.vulnerability
    (subst (λ tag. ReadsVulnerable number tag board.vulnerability) (at_hash games index offset used_tag.Vulnerable has)
    (read_at text boards number index board games at).vulnerability)

-- a value that begins with `##` is a fault in any game
pub form_fault : (boards : ℕ) (before games : List Values) (index : ℕ) (values : Values) (used : Used) (tag : Valued) →
    slice_get games index ≡ Some values → values used ≡ Some tag → is_inherited_form tag.value ≡ true →
    HasFault boards before games InheritedForm tag.offset
form_fault boards before [] index values used tag there is form = absurd (true≢false (ap is_some (sym there)))
form_fault boards before (game ∷ games) zero values used tag there is form =
    inl (
      used,
      subst
          (λ found. FaultAtTag (game_board boards game) (first_game_if_any boards before (game_board boards game)) used
          found InheritedForm tag.offset)
          (sym (ap (λ (values : Values). values used) (some_same game values there) ∙ is))
          (refl, ((λ e. refl), (λ plain. absurd (true≢false (sym form ∙ plain))))),
    )
form_fault boards before (game ∷ games) (suc index) values used tag there is form =
    inr (form_fault boards (before ++ game ∷ []) games index values used tag there is form)
