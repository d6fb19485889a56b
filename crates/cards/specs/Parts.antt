-- A text in four parts with a mark between them: the suits of a hand, and the hands of a deal.
use Rattle.std.specs.Prelude.{◌≡◌, ◌≢◌, ℕ, ◌<◌, List, ◌∷◌, ◌++◌, length, get_or}

-- the mark does not stand in the text
abbrev pub HasNo : ℕ → List ℕ → Type 0
HasNo mark text = (i : ℕ) → i < length text → get_or text i 0 ≢ mark

-- the text is four parts with the mark between them, and the mark stands in none but perhaps the last
pub record JoinsFour (mark : ℕ) (text one two three four : List ℕ) : Type 0 where
  pub joined : text ≡ one ++ mark ∷ (two ++ mark ∷ (three ++ mark ∷ four))
  pub in_one : HasNo mark one
  pub in_two : HasNo mark two
  pub in_three : HasNo mark three
