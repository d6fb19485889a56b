-- The text of a session object that was read, and where its boards' text is.
use Rattle.std.proofs.Common.{
  ◌≡◌,
  ◌==◌,
  ◌≤◌,
  ℕ,
  zero,
  suc,
  Bool,
  true,
  false,
  cond,
  List,
  [],
  length,
  take,
  Option,
  Some,
  None,
  is_some,
  refl,
  ap,
  subst,
  arith,
}
use Rattle.std.specs.Prelude.{IsUtf8, IsSome}
use Rattle.std.specs.Str.{is_utf8}
use Rattle.std.specs.Str.Lossy.{valid_len_up_to, utf8_valid_len}
use Rattle.std.proofs.lemmas.Str.{IsUtf8-from_is_utf8, is_utf8-from_IsUtf8, IsUtf8-nil}
use Rattle.std.proofs.lemmas.List.{take_all}
use Rattle.serde_json.specs.Data.{Data}
use Rattle.session_object.specs.Session.{Session, IsSession}
use Rattle.session_object.specs.Reading.{IsObjectText, IsReadAsJson}
use Rattle.session_check.specs.Lines.{boards_text, line_at, IsLineIn}

-- ---- a text in UTF-8

cond_le : (b : Bool) (m n : ℕ) → n ≤ m → cond b (suc m) n ≤ suc m
cond_le true m n below = omega arith
cond_le false m n below = omega arith

valid_le : (bs : List ℕ) (m : ℕ) → valid_len_up_to bs m ≤ m
valid_le bs zero = omega arith
valid_le bs (suc m) = cond_le (is_utf8 (take (suc m) bs)) m (valid_len_up_to bs m) (valid_le bs m)

was_taken : (b : Bool) (m n : ℕ) → n ≤ m → cond b (suc m) n ≡ suc m → b ≡ true
was_taken true m n below same = refl
was_taken false m n below same = absurd (omega (arith, below, same))

-- where the longest front that is UTF-8 is the whole, the whole is
whole_front : (bs : List ℕ) (n : ℕ) → length bs ≡ n → valid_len_up_to bs n ≡ n → is_utf8 (take n bs) ≡ true
whole_front bs zero long same = is_utf8-from_IsUtf8 [] IsUtf8-nil
whole_front bs (suc n) long same =
    was_taken (is_utf8 (take (suc n) bs)) n (valid_len_up_to bs n) (valid_le bs n) same

pub text_of_whole : (bs : List ℕ) → utf8_valid_len bs ≡ length bs → IsUtf8 bs
unfolding utf8_valid_len
text_of_whole bs same =
    subst IsUtf8 (take_all (length bs) bs (omega arith))
    (IsUtf8-from_is_utf8 (take (length bs) bs) (whole_front bs (length bs) refl same))

same_number : (a b : ℕ) → (a == b) ≡ true → a ≡ b
same_number a b same = grind (arith, same)

pub text_of_object : (text : List ℕ) (d : Data) → IsObjectText text d → utf8_valid_len text ≡ length text
text_of_object text d is = same_number (utf8_valid_len text) (length text) is.object.utf8

-- so memory may be asked for it
pub read_as_json : (text : List ℕ) (d : Data) → IsObjectText text d → IsReadAsJson text
read_as_json text d is = record { short = is.short; utf8 = text_of_whole text (text_of_object text d is) }

-- ---- the boards' text

some_of : {A : Type 0} (o : Option A) (x : A) → o ≡ Some x → is_some o ≡ true
some_of None x is = absurd cc
some_of (Some y) x is = refl

-- an object that says a session has a text for its boards
pub has_boards : (given : Option (List ℕ)) (d : Data) (session : Session) → IsSession given d session →
    IsSome (boards_text given d)
has_boards (Some deals) d session is = refl
has_boards None d session is =
    let users = is.members.made in
    let title = users.2 in
    let tables = title.2 in
    let switched = tables.2 in
    let shared = switched.2 in
    let rounds = shared.2 in
    let reasons = rounds.2 in
    let per_set = reasons.2 in
    let pbn = per_set.2 in
    some_of _ pbn.1 pbn.3

-- the line of a byte of the text that is given beside an object
pub line_beside : (given : Option (List ℕ)) (text boards : List ℕ) (offset line : ℕ) (d : Data) → given ≡ Some boards →
    IsObjectText text d → line ≡ line_at boards offset → IsLineIn given text offset line
line_beside given text boards offset line d beside is counted = record {
  said = d;
  is = is;
  boards = boards;
  stands = ap (λ (g : Option (List ℕ)). boards_text g d) beside;
  counted = counted;
}
