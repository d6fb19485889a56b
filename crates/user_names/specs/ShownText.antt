-- own: a text that is shown to others, as a player's name. What turns the direction of writing, ends a line or can't be
-- seen would let one text pass for another, or break the list in which it stands.
use Rattle.std.specs.Prelude.{◌≡◌, ℕ, true, Bool, List, [], ◌∷◌, ◌&&◌, ◌||◌, not, get_or, nat_eq, chars}
use Rattle.std.specs.Char.{is_whitespace, is_control}
use Rattle.std.specs.Int.{is_in_range}
use Rattle.std.specs.List.{list_all}
use Rattle.std.specs.Str.{is_utf8}

-- Unicode's marks that turn the direction of writing: U+061C, U+200E and U+200F, U+202A to U+202E, U+2066 to U+2069
unfoldable pub turns_writing : ℕ → Bool
turns_writing c = nat_eq c 0x61C || (is_in_range 0x200E 0x200F c || (is_in_range 0x202A 0x202E c || is_in_range 0x2066 0x2069 c))

-- the separators of lines and of paragraphs: U+2028 and U+2029
unfoldable pub ends_line : ℕ → Bool
ends_line c = is_in_range 0x2028 0x2029 c

-- a character that may stand in such a text: no control character (U+0000 to U+001F, U+007F to U+009F), and none of these
unfoldable pub is_shown_character : ℕ → Bool
is_shown_character c = not (is_control c) && (not (turns_writing c) && not (ends_line c))

-- the last of some characters, or else the one before them
abbrev pub last_character : ℕ → List ℕ → ℕ
last_character before [] = before
last_character before (c ∷ cs) = last_character c cs

-- each character may stand there, and neither the first nor the last is a blank (Unicode's White_Space); where there is
-- none, a blank (U+0020) stands for both
unfoldable pub are_shown : List ℕ → Bool
are_shown cs =
    list_all is_shown_character cs && (not (is_whitespace (get_or cs 0 0x20)) && not (is_whitespace (last_character 0x20 cs)))

-- a text that may be shown: UTF-8 whose characters are such
unfoldable pub is_shown_text : List ℕ → Bool
is_shown_text text = is_utf8 text && are_shown (chars text)

-- the same as a sentence
abbrev pub IsShownText : List ℕ → Type 0
IsShownText text = is_shown_text text ≡ true
