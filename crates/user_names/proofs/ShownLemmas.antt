-- Texts to show: the last of their characters, their test where they are UTF-8, and names that are such or none.
use Rattle.std.proofs.Common.{◌≡◌, ◌≢◌, ◌≤◌, ℕ, Bool, true, false, List, [], ◌∷◌, ◌++◌, ◌&&◌, length, nat_le, refl, ap, arith, chars}
use Rattle.std.specs.Prelude.{IsUtf8}
use Rattle.std.proofs.lemmas.Str.{is_utf8-from_IsUtf8}
use Rattle.user_names.specs.ShownName.{is_shown_name, is_shown_or_none}
use Rattle.user_names.specs.declared.shown_name.TheConstants.ShownName.{MOST}
use Rattle.user_names.specs.ShownText.{last_character, are_shown, is_shown_text}

-- what is put behind comes last
pub last_character_append : (before : ℕ) (cs : List ℕ) (c : ℕ) → c ≡ last_character before (cs ++ c ∷ [])
last_character_append before [] c = refl
last_character_append before (d ∷ cs) c = last_character_append d cs c

-- of a text that is UTF-8 its characters alone are asked
pub shown_where_utf8 : (text : List ℕ) → IsUtf8 text → is_shown_text text ≡ are_shown (chars text)
unfolding is_shown_text
shown_where_utf8 text utf8 = ap (λ b. b && are_shown (chars text)) (is_utf8-from_IsUtf8 text utf8)

-- a name to show is such or none
pub shown_or_none : (text : List ℕ) → is_shown_name text ≡ true → is_shown_or_none text ≡ true
unfolding is_shown_or_none
shown_or_none [] h = refl
shown_or_none (b ∷ bs) h = h

-- and what isn't empty is one or is neither
pub where_not_empty : (text : List ℕ) → length text ≢ 0 → is_shown_or_none text ≡ is_shown_name text
unfolding is_shown_or_none
where_not_empty [] some = absurd (some refl)
where_not_empty (b ∷ bs) some = refl

most_is : (m n : ℕ) → nat_le m n ≡ true → m ≤ n
most_is m n h = grind arith

left_of : (a b : Bool) → (a && b) ≡ true → a ≡ true
left_of true b h = refl
left_of false b h = absurd (cc)

-- both are short
pub short_shown : (text : List ℕ) → is_shown_or_none text ≡ true → length text ≤ MOST
unfolding is_shown_or_none is_shown_name
short_shown [] h = omega arith
short_shown (b ∷ bs) h =
    let short : nat_le (length (b ∷ bs)) MOST ≡ true =
    left_of (nat_le (length (b ∷ bs)) MOST) (is_shown_text (b ∷ bs)) h in
    most_is (length (b ∷ bs)) MOST short
