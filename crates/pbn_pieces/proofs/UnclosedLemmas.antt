-- Where a `"` isn't closed on its line, no later one on that line is: each of them stands in a `\"` of that search.
use Rattle.std.proofs.Common.{
  ◌≡◌,
  ◌≢◌,
  ℕ,
  ◌+◌,
  ◌≤◌,
  true,
  false,
  ◌⊎◌,
  inl,
  inr,
  List,
  [],
  ◌∷◌,
  ◌++◌,
  length,
  refl,
  sym,
  ap,
  subst,
  ◌∙◌,
  arith,
  length-append,
}
use Rattle.std.specs.Prelude.{Option, Some, None}
use Rattle.std.proofs.lemmas.Bool.{cases_Bool, cases_eq}
use Rattle.pbn_pieces.specs.Pieces.{is_escape, is_other_than}
use Rattle.pbn_pieces.specs.Cutting.{split, in_front, closing}
use Rattle.pbn_pieces.specs.Told.{NoneCloses}
use Rattle.pbn_pieces.proofs.CutLemmas.{none_some}
use Rattle.pbn_pieces.proofs.FirstPieceLemmas.{no_quotes}
use Rattle.pbn_pieces.proofs.SplitLemmas.{closing_quote, closing_escape}

in_front_none : (byte : ℕ) (found : Option (List ℕ × List ℕ)) → in_front byte found ≡ None → found ≡ None
in_front_none byte None e = refl
in_front_none byte (Some (within, rest)) e = absurd (none_some _ (sym e))

quote_closes : (back : List ℕ) → closing (34 ∷ back) ≡ None → ⊥
quote_closes back e = none_some ([], back) (sym e ∙ closing_quote back)

-- so many bytes from the first LF on
abbrev line_left : List ℕ → ℕ
line_left bytes = length (split (is_other_than 10) bytes).1

left_after : (byte : ℕ) (bytes : List ℕ) → byte ≢ 10 → line_left (byte ∷ bytes) ≡ line_left bytes
left_after byte bytes other = grind (arith, other)

left_all : (byte : ℕ) (bytes : List ℕ) → byte ≡ 10 → line_left (byte ∷ bytes) ≡ 1 + length bytes
left_all byte bytes feed = grind (arith, feed)

none_letter : (byte next : ℕ) (bytes : List ℕ) → closing (byte ∷ next ∷ bytes) ≡ None → byte ≢ 10 →
    is_escape byte next ≡ false → closing (next ∷ bytes) ≡ None
none_letter byte next bytes none feed plain = by_quote (cases_eq byte 34)
  where
    by_quote : (byte ≡ 34) ⊎ (byte ≡ 34 → ⊥) → closing (next ∷ bytes) ≡ None
    by_quote (inl quote) = absurd (quote_closes (next ∷ bytes) (ap (λ b. closing (b ∷ next ∷ bytes)) (sym quote)
        ∙ none))
    by_quote (inr other) = in_front_none byte (closing (next ∷ bytes)) (sym (letter other) ∙ none)
      where
        letter : byte ≢ 34 → closing (byte ∷ next ∷ bytes) ≡ in_front byte (closing (next ∷ bytes))
        letter quote = grind (arith, quote, feed, plain)

none_escape : (byte next : ℕ) (bytes : List ℕ) → closing (byte ∷ next ∷ bytes) ≡ None → is_escape byte next ≡ true →
    closing bytes ≡ None
none_escape byte next bytes none escape =
    in_front_none next _ (in_front_none byte _ (sym (closing_escape byte next bytes escape) ∙ none))

escape_feeds : (byte next : ℕ) → is_escape byte next ≡ true → (byte ≢ 10) × (next ≢ 10)
escape_feeds byte next escape = (grind (arith, escape), grind (arith, escape))

feeds_first : (byte : ℕ) (front back : List ℕ) → byte ≡ 10 → line_left (byte ∷ (front ++ 34 ∷ back)) ≤ length back → ⊥
feeds_first byte front back feed left =
    let all = left_all byte (front ++ 34 ∷ back) feed in
    let long = length-append front (34 ∷ back) in
    omega (arith, all, long, left)

pub none_after : (front back : List ℕ) → closing (front ++ 34 ∷ back) ≡ None → line_left (front ++ 34 ∷ back) ≤ length
    back → closing back ≡ None
none_after [] back none left = absurd (quote_closes back none)
none_after (byte ∷ []) back none left =
    elim (cases_eq byte 10) [
      | inl feed ↦ absurd (feeds_first byte [] back feed left)
      | inr other ↦ elim (cases_Bool (is_escape byte 34)) [
        | inl escape ↦ none_escape byte 34 back none escape
        | inr plain ↦ absurd (quote_closes back (none_letter byte 34 back none other plain))
      ]
    ]
none_after (byte ∷ next ∷ front) back none left =
    elim (cases_eq byte 10) [
      | inl feed ↦ absurd (feeds_first byte (next ∷ front) back feed left)
      | inr other ↦ elim (cases_Bool (is_escape byte next)) [
        | inl escape ↦
            let feeds = escape_feeds byte next escape in
            none_after front back (none_escape byte next (front ++ 34 ∷ back) none escape)
            (omega (
              arith,
              left,
              left_after byte (next ∷ (front ++ 34 ∷ back)) other,
              left_after next
                  (front ++ 34 ∷ back) feeds.1,
            ))
        | inr plain ↦
            none_after (next ∷ front) back (none_letter byte next (front ++ 34 ∷ back) none other plain)
            (omega (arith, left, left_after byte (next ∷ (front ++ 34 ∷ back)) other))
      ]
    ]

tail_of : List ℕ → List ℕ
tail_of [] = []
tail_of (byte ∷ bytes) = bytes

pub unclosed_on_line : (after : List ℕ) → closing after ≡ None → NoneCloses (34 ∷ after) (line_left after)
unfolding tail_of
unclosed_on_line after none [] back e left = no_quotes back (ap closing (sym (ap tail_of e)) ∙ none)
unclosed_on_line after none (byte ∷ front) back e left =
    let rest : after ≡ front ++ 34 ∷ back = ap tail_of e in
    no_quotes back (none_after front back (ap closing (sym rest) ∙ none) (subst (λ text. line_left text ≤ length back)
    rest left))
