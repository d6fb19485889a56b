-- Which cards of a trick decided who won it, and which cards of a player do the same.
use Rattle.std.specs.Prelude.{ℕ, ◌≡◌, ◌≢◌, ◌<◌, ◌↔◌, true, ◌||◌, List, [], ◌∷◌}
use Rattle.cards.specs.declared.card.Card.{Card}
use Rattle.table_terms.specs.declared.strain.Strain.{Strain}
use Rattle.cards.specs.Rank.{height}
use Rattle.cards.specs.Play.{strength_in}
use Rattle.double_dummy_laws.specs.Renaming.{Ownership}

-- one number is greater than three others
pub record IsAbove (top a b c : ℕ) : Type 0 where
  pub first : a < top
  pub second : b < top
  pub third : c < top

-- the winning card of a trick is known, or the other cards of its suit in the trick are
pub record IsSettled (ownership : Ownership) (top a b c : Card) : Type 0 where
  pub first : a.suit ≡ top.suit → (ownership.is_known a || ownership.is_known top) ≡ true
  pub second : b.suit ≡ top.suit → (ownership.is_known b || ownership.is_known top) ≡ true
  pub third : c.suit ≡ top.suit → (ownership.is_known c || ownership.is_known top) ≡ true

-- whoever wins the trick, it is known why
pub record IsTrickKnown (ownership : Ownership) (strain : Strain) (a b c d : Card) : Type 0 where
  pub first : IsAbove (strength_in strain a a) (strength_in strain a b) (strength_in strain a c)
      (strength_in strain a d) → IsSettled ownership a b c d
  pub second : IsAbove (strength_in strain a b) (strength_in strain a a) (strength_in strain a c)
      (strength_in strain a d) → IsSettled ownership b a c d
  pub third : IsAbove (strength_in strain a c) (strength_in strain a a) (strength_in strain a b)
      (strength_in strain a d) → IsSettled ownership c a b d
  pub fourth : IsAbove (strength_in strain a d) (strength_in strain a a) (strength_in strain a b)
      (strength_in strain a c) → IsSettled ownership d a b c

-- where a card completes the trick, who wins it is known
abbrev pub IsKnown : Ownership → Strain → List Card → Card → Type 0
IsKnown ownership strain [] d = Unit {0}
IsKnown ownership strain (a ∷ []) d = Unit {0}
IsKnown ownership strain (a ∷ b ∷ []) d = Unit {0}
IsKnown ownership strain (a ∷ b ∷ c ∷ _) d = IsTrickKnown ownership strain a b c d

-- two live cards of a player's suit, with no other player's live card between them
pub record IsLike (ownership : Ownership) (a b : Card) : Type 0 where
  pub suit : a.suit ≡ b.suit
  pub owner : ownership.owner a ≡ ownership.owner b
  pub first_live : ownership.is_live a ≡ true
  pub second_live : ownership.is_live b ≡ true
  pub above : (other : Card) → ownership.is_live other ≡ true → ownership.owner other ≢ ownership.owner a →
      other.suit ≡ a.suit →
      (height a.rank < height other.rank) ↔ (height b.rank < height other.rank)
  pub below : (other : Card) → ownership.is_live other ≡ true → ownership.owner other ≢ ownership.owner a →
      other.suit ≡ a.suit →
      (height other.rank < height a.rank) ↔ (height other.rank < height b.rank)
