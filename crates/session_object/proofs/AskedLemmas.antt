-- What is read of the members about the movement is what they say, and the other way round.
use Rattle.std.proofs.Common.{◌≡◌, ◌≢◌, ◌≤◌, ℕ, nat_le, ◌&&◌, Bool, true, false, cond, List, [], ◌∷◌, length, codes, Option, Some, None, option_map, option_and_then, refl, sym, ap, subst, ◌∙◌, arith}
use Rattle.std.proofs.lemmas.Option.{same_Some}
use Rattle.std.proofs.lemmas.Slice.Eq.{bytes_eq-Decides}
use Rattle.std.specs.Str.{bytes_eq}
use Rattle.serde_json.specs.Data.{Data, null, boolean, number as a_number, string, array, object, Items, no_items, item}
use Rattle.serde_json.specs.Find.{as_str, as_array}
use Rattle.serde_json.specs.View.{items_view}
use Rattle.serde_json.specs.declared.value.Value.{Value}
use Rattle.movement.specs.declared.row.Row.{Row}
use Rattle.movement.specs.Movement.{most_tables}
use Rattle.named_movements.specs.Words.{text_of_word}
use Rattle.named_movements.specs.declared.movement_word.MovementWord.{MovementWord}
use Rattle.named_movements.specs.declared.movement_word.MovementWord.TheVariants.{Mitchell, Howell, ShareAndRelay, Web}
use Rattle.json_fields.proofs.LetterLemmas.{find_nothing, found_passes}
use Rattle.json_fields.specs.Form.{item_count, each}
use Rattle.json_fields.specs.Field.{small}
use Rattle.json_fields.specs.User.{pair_said}
use Rattle.json_fields.proofs.FormLemmas.{Agrees, applied_some, kept, both_true, is_most, most_is, each_read, each_reads, each_count, if_there_agrees, numbered_agrees}
use Rattle.json_fields.proofs.UserLemmas.{paired_agrees}
use Rattle.session_object.specs.declared.asked_movement.AskedMovement.{AskedMovement}
use Rattle.session_object.specs.declared.asked_movement.AskedMovement.TheVariants.{Nothing, Word, Rows}
use Rattle.session_object.specs.AskedMovement.{
  a_row,
  row_of_items,
  row_said,
  AreRow,
  IsRow,
  longest_list,
  is_row_count,
  rows_said,
  AreRows,
  word_named,
  movement_said,
  SaysMovement,
  asked_movement,
  shared_by,
  switched_rounds,
  IsSwitched,
  is_switched,
  StandsBeside,
  stands_beside,
}

-- ---- rows

-- fewer or more items than five are no row
pub no_row : (values : List Value) → length values ≢ 5 → None ≡ row_of_items (items_view values)
no_row [] other = refl
no_row (a ∷ []) other = refl
no_row (a ∷ b ∷ []) other = refl
no_row (a ∷ b ∷ c ∷ []) other = refl
no_row (a ∷ b ∷ c ∷ d ∷ []) other = refl
no_row (a ∷ b ∷ c ∷ d ∷ e ∷ []) other = absurd (other refl)
no_row (a ∷ b ∷ c ∷ d ∷ e ∷ f ∷ rest) other = refl

-- five items that are read are the row's
five_read : (round table set north_south east_west : Data) (row : Row)
    → row_of_items (item round (item table (item set (item north_south (item east_west no_items))))) ≡ Some row
    → AreRow (item round (item table (item set (item north_south (item east_west no_items))))) row
five_read round table set north_south east_west row h =
    let last = applied_some _ (pair_said (Some east_west)) row h in
    let fourth = applied_some _ (pair_said (Some north_south)) last.0 last.2 in
    let third = applied_some _ (small (Some set)) fourth.0 fourth.2 in
    let second = applied_some _ (small (Some table)) third.0 third.2 in
    let first = applied_some (Some a_row) (small (Some round)) second.0 second.2 in
    let makes : a_row ≡ first.0 = same_Some a_row first.0 first.2 in
    let is : a_row first.1 second.1 third.1 fourth.1 last.1 ≡ row =
    cc (makes, first.4, second.4, third.4, fourth.4, last.4) in
    subst (AreRow (item round (item table (item set (item north_south (item east_west no_items)))))) is (
      (numbered_agrees []).read (Some round) first.1 first.3,
      (numbered_agrees []).read (Some table) second.1 second.3,
      (numbered_agrees []).read (Some set) third.1 third.3,
      (paired_agrees []).read (Some north_south) fourth.1 fourth.3,
      (paired_agrees []).read (Some east_west) last.1 last.3,
    )

five_reads : (round table set north_south east_west : Data) (row : Row)
    → AreRow (item round (item table (item set (item north_south (item east_west no_items))))) row
    → row_of_items (item round (item table (item set (item north_south (item east_west no_items))))) ≡ Some row
five_reads round table set north_south east_west row is =
    rw (
      (numbered_agrees []).reads (Some round) row.round is.0,
      (numbered_agrees []).reads (Some table) row.table is.1,
      (numbered_agrees []).reads (Some set) row.set is.2,
      (paired_agrees []).reads (Some north_south) row.north_south is.3,
      (paired_agrees []).reads (Some east_west) row.east_west is.4,
    ) refl

items_read : (items : Items) (row : Row) → row_of_items items ≡ Some row → AreRow items row
items_read (item a (item b (item c (item d (item e no_items))))) row h = five_read a b c d e row h
items_read no_items row h = absurd (cc)
items_read (item a no_items) row h = absurd (cc)
items_read (item a (item b no_items)) row h = absurd (cc)
items_read (item a (item b (item c no_items))) row h = absurd (cc)
items_read (item a (item b (item c (item d no_items)))) row h = absurd (cc)
items_read (item a (item b (item c (item d (item e (item f rest)))))) row h = absurd (cc)

items_reads : (items : Items) (row : Row) → AreRow items row → row_of_items items ≡ Some row
items_reads (item a (item b (item c (item d (item e no_items))))) row is = five_reads a b c d e row is
items_reads no_items row is = absurd is
items_reads (item a no_items) row is = absurd is
items_reads (item a (item b no_items)) row is = absurd is
items_reads (item a (item b (item c no_items))) row is = absurd is
items_reads (item a (item b (item c (item d no_items)))) row is = absurd is
items_reads (item a (item b (item c (item d (item e (item f rest)))))) row is = absurd is

in_array : (o : Option Items) (row : Row) → option_and_then row_of_items o ≡ Some row
    → (items : Items) × (o ≡ Some items) × AreRow items row
in_array None row h = absurd (cc)
in_array (Some items) row h = (items, refl, items_read items row h)

row_read : (d : Data) (row : Row) → row_said d ≡ Some row → IsRow d row
unfolding row_said
row_read d row h = in_array (as_array d) row h

row_reads : (d : Data) (row : Row) → IsRow d row → row_said d ≡ Some row
unfolding row_said
row_reads d row is = ap (option_and_then row_of_items) is.1 ∙ items_reads is.0 row is.2

-- ---- lists of rows

rows_read : (items : Items) (rows : List Row) → rows_said items ≡ Some rows → AreRows items rows
unfolding rows_said
rows_read items rows h =
    let both = kept (is_row_count (item_count items)) (each row_said items) rows h in
    let counts = both_true (nat_le 1 (item_count items)) (nat_le (item_count items) longest_list) both.0 in
    let are = each_read row_said IsRow row_read items rows both.1 in
    let many : item_count items ≡ length rows = each_count IsRow items rows are in
    record {
      each = are;
      least = subst (λ n. 1 ≤ n) many (is_most 1 (item_count items) counts.0);
      most = subst (λ n. n ≤ longest_list) many (is_most (item_count items) longest_list counts.1);
    }

rows_reads : (items : Items) (rows : List Row) → AreRows items rows → rows_said items ≡ Some rows
unfolding rows_said
rows_reads items rows are =
    let many : item_count items ≡ length rows = each_count IsRow items rows are.each in
    let least : nat_le 1 (item_count items) ≡ true = most_is 1 (item_count items) (subst (λ n. 1 ≤ n) (sym many) are.least)
    in
    let most : nat_le (item_count items) longest_list ≡ true = most_is (item_count items) longest_list
    (subst (λ n. n ≤ longest_list) (sym many) are.most) in
    ap (λ b. cond (b && nat_le (item_count items) longest_list) (each row_said items) None) least
    ∙ ap (λ b. cond b (each row_said items) None) most
    ∙ each_reads row_said IsRow row_reads items rows are.each

-- ---- what is asked for

word_back : (word : MovementWord) → word_named (text_of_word word) ≡ Some word
word_back Mitchell = refl
word_back Howell = refl
word_back ShareAndRelay = refl
word_back Web = refl

other_text : (a b : List ℕ) (is : Bool) → bytes_eq a b ≡ is → a ≢ b → is ≡ false
other_text a b true is other = absurd (other ((bytes_eq-Decides a b).0 is))
other_text a b false is other = refl

pub word_found : (text : List ℕ) (word : MovementWord) → text_of_word word ≡ text → Some word ≡ word_named text
word_found text word is = subst (λ t. Some word ≡ word_named t) is (sym (word_back word))

pub no_word_found : (text : List ℕ) → ((word : MovementWord) → text_of_word word ≢ text) → None ≡ word_named text
no_word_found text none =
    sym (find_nothing (λ word. bytes_eq (text_of_word word) text) (Mitchell ∷ Howell ∷ ShareAndRelay ∷ Web ∷ [])
    (λ word. other_text (text_of_word word) text _ refl (none word)))

text_is : (text : List ℕ) (word : MovementWord) → word_named text ≡ Some word → text ≡ text_of_word word
text_is text word h =
    sym ((bytes_eq-Decides (text_of_word word) text).0 (found_passes (λ w. bytes_eq (text_of_word w) text)
    (Mitchell ∷ Howell ∷ ShareAndRelay ∷ Web ∷ []) word h))

named_read : (o : Option MovementWord) (asked : AskedMovement) → option_map (λ word. Word word) o ≡ Some asked
    → (word : MovementWord) × (o ≡ Some word) × (asked ≡ Word word)
named_read None asked h = absurd (cc)
named_read (Some word) asked h = (word, refl, sym (same_Some (Word word) asked h))

listed_read : (o : Option (List Row)) (asked : AskedMovement) → option_map (λ rows. Rows rows) o ≡ Some asked
    → (rows : List Row) × (o ≡ Some rows) × (asked ≡ Rows rows)
listed_read None asked h = absurd (cc)
listed_read (Some rows) asked h = (rows, refl, sym (same_Some (Rows rows) asked h))

-- a text
word_read : (d : Data) (text : List ℕ) (asked : AskedMovement) → as_str d ≡ Some text
    → option_map (λ word. Word word) (word_named text) ≡ Some asked → SaysMovement (Some d) asked
word_read d text asked is h =
    let found = named_read (word_named text) asked h in
    subst (SaysMovement (Some d)) (sym found.2) (is ∙ ap Some (text_is text found.0 found.1))

-- a list
list_read : (d : Data) (items : Items) (asked : AskedMovement) → as_array d ≡ Some items
    → option_map (λ rows. Rows rows) (rows_said items) ≡ Some asked → SaysMovement (Some d) asked
list_read d items asked is h =
    let found = listed_read (rows_said items) asked h in
    subst (SaysMovement (Some d)) (sym found.2) (items, is, rows_read items found.0 found.1)

asked_read : (o : Option Data) (asked : AskedMovement) → movement_said o ≡ Some asked → SaysMovement o asked
asked_read None asked h = sym (same_Some Nothing asked h)
asked_read (Some (string word)) asked h = word_read (string word) word asked refl h
asked_read (Some (array items)) asked h = list_read (array items) items asked refl h
asked_read (Some null) asked h = absurd (cc)
asked_read (Some (boolean b)) asked h = absurd (cc)
asked_read (Some (a_number n)) asked h = absurd (cc)
asked_read (Some (object ms)) asked h = absurd (cc)

word_reads : (text : List ℕ) (word : MovementWord) → text ≡ text_of_word word
    → option_map (λ w. Word w) (word_named text) ≡ Some (Word word)
word_reads text word is = ap (option_map (λ w. Word w)) (ap word_named is ∙ word_back word)

asked_reads : (o : Option Data) (asked : AskedMovement) → SaysMovement o asked → movement_said o ≡ Some asked
asked_reads None asked is = ap Some (sym is)
asked_reads (Some d) Nothing is = absurd is
asked_reads (Some (string text)) (Word word) is = word_reads text word (same_Some text (text_of_word word) is)
asked_reads (Some (array items)) (Word word) is = absurd (cc)
asked_reads (Some null) (Word word) is = absurd (cc)
asked_reads (Some (boolean b)) (Word word) is = absurd (cc)
asked_reads (Some (a_number n)) (Word word) is = absurd (cc)
asked_reads (Some (object ms)) (Word word) is = absurd (cc)
asked_reads (Some (array items)) (Rows rows) is =
    ap (λ i. option_map (λ r. Rows r) (rows_said i)) (same_Some items is.0 is.1)
    ∙ ap (option_map (λ r. Rows r)) (rows_reads is.0 rows is.2)
asked_reads (Some (string word)) (Rows rows) is = let none = is.1 in absurd (cc)
asked_reads (Some null) (Rows rows) is = let none = is.1 in absurd (cc)
asked_reads (Some (boolean b)) (Rows rows) is = let none = is.1 in absurd (cc)
asked_reads (Some (a_number n)) (Rows rows) is = let none = is.1 in absurd (cc)
asked_reads (Some (object ms)) (Rows rows) is = let none = is.1 in absurd (cc)

pub asked_agrees : Agrees asked_movement
asked_agrees = record { read = asked_read; reads = asked_reads }

-- ---- beside it

pub shared_by_agrees : Agrees shared_by
shared_by_agrees = if_there_agrees _ (numbered_agrees (codes "shared_by"))

pub switched_agrees : Agrees switched_rounds
switched_agrees = if_there_agrees _ (numbered_agrees (codes "switched"))

switched_read : (word : MovementWord) (rounds : ℕ) (switched : Option ℕ) → is_switched word rounds switched ≡ true
    → IsSwitched word rounds switched
switched_read Mitchell rounds None h = tt
switched_read Mitchell rounds (Some many) h = is_most many rounds h
switched_read Howell rounds None h = refl
switched_read Howell rounds (Some many) h = absurd (cc)
switched_read ShareAndRelay rounds None h = tt
switched_read ShareAndRelay rounds (Some many) h = is_most many rounds h
switched_read Web rounds None h = tt
switched_read Web rounds (Some many) h = is_most many rounds h

switched_reads : (word : MovementWord) (rounds : ℕ) (switched : Option ℕ) → IsSwitched word rounds switched
    → is_switched word rounds switched ≡ true
switched_reads Mitchell rounds None is = most_is 0 rounds (omega arith)
switched_reads Mitchell rounds (Some many) is = most_is many rounds is
switched_reads Howell rounds None is = refl
switched_reads Howell rounds (Some many) is = absurd (cc)
switched_reads ShareAndRelay rounds None is = most_is 0 rounds (omega arith)
switched_reads ShareAndRelay rounds (Some many) is = most_is many rounds is
switched_reads Web rounds None is = most_is 0 rounds (omega arith)
switched_reads Web rounds (Some many) is = most_is many rounds is

pub stands_read : (asked : AskedMovement) (rounds : ℕ) (tables switched : Option ℕ)
    → stands_beside asked rounds tables switched ≡ true → StandsBeside asked rounds tables switched
stands_read Nothing rounds None None h = (refl, refl)
stands_read Nothing rounds None (Some many) h = absurd (cc)
stands_read Nothing rounds (Some many) switched h = absurd (cc)
stands_read (Word word) rounds None switched h = (refl, switched_read word rounds switched h)
stands_read (Word word) rounds (Some many) switched h = absurd (cc)
stands_read (Rows rows) rounds None None h = (tt, refl)
stands_read (Rows rows) rounds None (Some many) h = absurd (cc)
stands_read (Rows rows) rounds (Some many) None h =
    let whole = both_true (nat_le 1 many && nat_le many most_tables) true h in
    let both = both_true (nat_le 1 many) (nat_le many most_tables) whole.0 in
    ((is_most 1 many both.0, is_most many most_tables both.1), refl)
stands_read (Rows rows) rounds (Some many) (Some other) h =
    let whole = both_true (nat_le 1 many && nat_le many most_tables) false h in absurd (cc)

pub stands_reads : (asked : AskedMovement) (rounds : ℕ) (tables switched : Option ℕ)
    → StandsBeside asked rounds tables switched → stands_beside asked rounds tables switched ≡ true
stands_reads Nothing rounds None None is = refl
stands_reads Nothing rounds None (Some many) is = absurd (cc (is.1))
stands_reads Nothing rounds (Some many) switched is = absurd (cc (is.0))
stands_reads (Word word) rounds None switched is = switched_reads word rounds switched is.1
stands_reads (Word word) rounds (Some many) switched is = absurd (cc (is.0))
stands_reads (Rows rows) rounds None None is = refl
stands_reads (Rows rows) rounds None (Some many) is = absurd (cc (is.1))
stands_reads (Rows rows) rounds (Some many) None is =
    rw (most_is 1 many is.0.0, most_is many most_tables is.0.1) refl
stands_reads (Rows rows) rounds (Some many) (Some other) is = absurd (cc (is.1))
