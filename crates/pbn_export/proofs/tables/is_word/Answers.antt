use Rattle.std.proofs.Common.{◌≡◌, ℕ, ◌≤◌, List, [], ◌∷◌, length, refl, ◌∙◌, arith}
use Rattle.std.specs.List.{list_all}
use Rattle.pbn_export.specs.Tables.{is_word, is_word_byte}
use Rattle.pbn_export.proofs.tables.is_word.Goals as goal

some_word : (item : List ℕ) → 1 ≤ length item → list_all is_word_byte item ≡ is_word item
some_word [] some = absurd (omega (arith, some))
some_word (byte ∷ bytes) some = refl

pub returns-in-len1-up : goal.returns-in-len1-up
returns-in-len1-up c = c.are_word_bytes.ensures ∙ some_word c.args.item.now c.in-len1-up.len_at_least
