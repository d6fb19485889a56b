-- The games of an export, and the values of their tags.
use Rattle.std.proofs.Common.{◌≡◌, ℕ, ◌+◌, Bool, true, false, List, [], ◌∷◌, ◌++◌, refl, sym, ap, ◌∙◌, inl, inr}
use Rattle.std.proofs.Common.{append_assoc}
use Rattle.std.specs.Prelude.{◌&&◌, ◌||◌, not, nat_eq, is_none, Option, Some, None, if◌then◌else◌, bytes_eq, codes}
use Rattle.std.specs.List.{list_all}
use Rattle.std.specs.Option.{is_some}
use Rattle.std.proofs.lemmas.Bool.{true≢false, and_parts, cases_Bool}
use Rattle.std.proofs.lemmas.List.{append-nil}
use Rattle.pbn_pieces.specs.Pieces.{is_escape}
use Rattle.pbn_records.specs.Tags.{Placed, Valued, Mark, Break, tag_name, used_of, tag_in, has_already, ended, games_from}
use Rattle.pbn_records.specs.Values.{read_value, inherited, valued}
use Rattle.pbn_records.proofs.StateLemmas.{used_by_name}
use Rattle.pbn_export.specs.Tables.{is_control_byte, value_byte, value_text, GameTag}
use Rattle.pbn_export.specs.Export.{is_further}
use Rattle.pbn_export.proofs.SpellLemmas.{tag_pieces}
use Rattle.pbn_export.proofs.MarkLemmas.{sizes, placed_tag, placed_tags, named_all}

-- ---- games

-- no tag of a game is a used one that the game has before it
abbrev pub AreFresh : List Placed → List Placed → Type 0
AreFresh game [] = Unit {0}
AreFresh game (tag ∷ tags) = (has_already game (used_of tag.name) ≡ false) × AreFresh (game ++ tag ∷ []) tags

pub one_game : (game tags : List Placed) (marks : List Mark) → AreFresh game tags →
    games_from game (named_all tags ++ Break ∷ marks) ≡ ended (game ++ tags) (games_from [] marks)
one_game game [] marks fresh = ap (λ g. ended g (games_from [] marks)) (sym (append-nil game))
one_game game (tag ∷ tags) marks fresh =
    ap (λ (b : Bool). if b then ended game (games_from (tag ∷ []) (named_all tags ++ Break ∷ marks))
    else games_from (game ++ tag ∷ []) (named_all tags ++ Break ∷ marks)) fresh.0
    ∙ (one_game (game ++ tag ∷ []) tags marks fresh.1
    ∙ ap (λ g. ended g (games_from [] marks)) (append_assoc game (tag ∷ []) tags))

none_of : {A : Type 0} (o : Option A) → is_none o ≡ true → o ≡ None
none_of None none = refl
none_of (Some x) none = absurd (cc)

not_used : (tag : GameTag) → is_further tag ≡ true → used_of tag.name ≡ None
not_used tag further = none_of (used_of tag.name) (and_parts _ (is_none (used_of tag.name)) further).1

pub further_fresh : (game : List Placed) (offset : ℕ) (tags : List GameTag) → list_all is_further tags ≡ true →
    AreFresh game (placed_tags offset tags)
further_fresh game offset [] further = tt
further_fresh game offset (tag ∷ tags) further =
    let both = and_parts (is_further tag) (list_all is_further tags) further in (
      ap (has_already game) (not_used tag both.0),
      further_fresh (game ++ placed_tag offset tag ∷ []) (offset + sizes (tag_pieces tag)) tags both.1,
    )

no_used : (name : List ℕ) → used_of name ≡ None → (used : _) → bytes_eq name (tag_name used) ≡ false
no_used name none used = elim (cases_Bool (bytes_eq name (tag_name used))) [
  | inl is ↦ absurd (true≢false (ap is_some (sym (used_by_name name used is) ∙ none)))
  | inr isnt ↦ isnt
]

-- no tag of a list that isn't used is found
pub further_unused : (offset : ℕ) (tags : List GameTag) → list_all is_further tags ≡ true → (used : _) →
    tag_in used (placed_tags offset tags) ≡ None
further_unused offset [] further used = refl
further_unused offset (tag ∷ tags) further used =
    let both = and_parts (is_further tag) (list_all is_further tags) further in
    let rest = placed_tags (offset + sizes (tag_pieces tag)) tags in
    let here : Valued = record { offset = offset; value = value_text tag.value } in
    ap (λ (b : Bool). if b then Some here else tag_in used rest) (no_used tag.name (not_used tag both.0) used)
    ∙ further_unused (offset + sizes (tag_pieces tag)) tags both.1 used

-- ---- values

-- a byte that stands for itself within quotes
abbrev pub is_itself : ℕ → Bool
is_itself byte = (not (nat_eq byte 34) && not (nat_eq byte 92)) && not (is_control_byte byte)

not_true : (b : Bool) → not b ≡ true → b ≡ false
not_true true is = absurd (cc)
not_true false is = refl

-- it is no quote, no backslash and no control character
record IsPlain (byte : ℕ) : Type 0 where
  pub quote : nat_eq byte 34 ≡ false
  pub backslash : nat_eq byte 92 ≡ false
  pub control : is_control_byte byte ≡ false

plain_byte : (byte : ℕ) → is_itself byte ≡ true → IsPlain byte
plain_byte byte is =
    let both = and_parts (not (nat_eq byte 34) && not (nat_eq byte 92)) _ is in
    let marks = and_parts (not (nat_eq byte 34)) _ both.0 in
    record {
      quote = not_true (nat_eq byte 34) marks.0;
      backslash = not_true (nat_eq byte 92) marks.1;
      control = not_true (is_control_byte byte) both.1;
    }

itself : (byte : ℕ) → is_itself byte ≡ true → value_byte byte ≡ byte ∷ []
itself byte is =
    let plain = plain_byte byte is in
    λ i. if plain.quote i then 92 ∷ 34 ∷ [] else if plain.backslash i then 92 ∷ 92 ∷ []
    else if plain.control i then 63 ∷ [] else byte ∷ []

pub written_so : (value : List ℕ) → list_all is_itself value ≡ true → value_text value ≡ value
unfolding value_text
written_so [] all = refl
written_so (byte ∷ value) all =
    let both = and_parts (is_itself byte) (list_all is_itself value) all in
    (λ i. itself byte both.0 i ++ written_so value both.1 i)

no_escape : (byte next : ℕ) → is_itself byte ≡ true → is_escape byte next ≡ false
no_escape byte next is =
    ap (λ (b : Bool). b && (nat_eq next 34 || nat_eq next 92)) (plain_byte byte is).backslash

pub read_so : (value : List ℕ) → list_all is_itself value ≡ true → read_value value ≡ value
read_so [] all = refl
read_so (byte ∷ []) all = refl
read_so (byte ∷ next ∷ value) all =
    let both = and_parts (is_itself byte) (list_all is_itself (next ∷ value)) all in
    ap (λ (b : Bool). if b then next ∷ read_value value else byte ∷ read_value (next ∷ value)) (no_escape byte next both.0)
    ∙ ap (λ more. byte ∷ more) (read_so (next ∷ value) both.1)

-- whether a value is read as it is
abbrev pub is_own : List ℕ → Bool
is_own value = list_all is_itself value && not (bytes_eq value (codes "#"))

own_value : (before : Option Valued) (offset : ℕ) (value written : List ℕ) → written ≡ value → is_own value ≡ true →
    valued before (Some (record { offset = offset; value = written })) ≡ Some (record { offset = offset; value = value })
own_value before offset value written same own =
    let both = and_parts (list_all is_itself value) _ own in
    let other : bytes_eq value (codes "#") ≡ false = not_true (bytes_eq value (codes "#")) both.1 in
    ap (λ bytes. valued before (Some (record { offset = offset; value = bytes }))) same
    ∙ (ap (λ (b : Bool). if b then inherited offset before else Some (record { offset = offset; value = read_value value }))
    other
    ∙ ap (λ bytes. Some (record { offset = offset; value = bytes })) (read_so value both.0))

-- a value is there
pub record HasValue (o : Option Valued) (value : List ℕ) : Type 0 where
  pub offset : ℕ
  pub is : o ≡ Some (record { offset = offset; value = value })

pub has_own : (before : Option Valued) (offset : ℕ) (value : List ℕ) → is_own value ≡ true →
    HasValue (valued before (Some (record { offset = offset; value = value_text value }))) value
has_own before offset value own = record {
  offset = offset;
  is = own_value before offset value (value_text value) (written_so value (and_parts (list_all is_itself value) _ own).0)
      own;
}
