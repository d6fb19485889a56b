-- What a caller reads of the rows of a parse.
use Rattle.std.proofs.Common.{◌≡◌, ◌∙◌, refl, sym, subst, List, ℕ}
use Rattle.std.specs.Prelude.{Option, Some, None, IsSomeAnd}
use Rattle.std.specs.Str.Parse.{
  ParsesUnsigned,
  ExplainsUnsignedError,
  HasUnsignedDigitsIfOk,
  digits_value,
  without_leading_plus,
}
use Rattle.clap.specs.Words.{ReadsOne, first_of, first_value, found_of, one_text, rows_of}
use Rattle.clap.specs.declared.parser.matches.ArgMatches.{ArgMatches}
use Rattle.clap.proofs.WalkLemmas.{first_value-rows, one_text-rows}
use Rattle.server_words.specs.Words.{IsGiven}

-- an option's first value, if it has any, is that of its row
pub maybe_first_in_rows : (m : ArgMatches) (id : List ℕ) (value : Option (List ℕ)) → first_value (found_of m) id ≡ value
    → first_of id (rows_of (found_of m)) ≡ value
maybe_first_in_rows m id value is = sym (first_value-rows (found_of m) id) ∙ is

-- a number that is read of an option is what the digits of its text write
module _ (m : ArgMatches) (id : List ℕ) (bits : ℕ) (found : Option ℕ) (number : ℕ) (is : found ≡ Some number) where
  pub number_in_rows : (one_text (found_of m) id ≡ None → found ≡ None)
      → ((text : List ℕ) → one_text (found_of m) id ≡ Some text
      → ReadsOne (λ bs r. ParsesUnsigned bits 10 bs r × ExplainsUnsignedError 10 bs r × HasUnsignedDigitsIfOk bs r) text
      found)
      → IsGiven (rows_of (found_of m)) id number
  number_in_rows none value =
      subst (λ (text : Option (List ℕ)). IsSomeAnd text (λ t. number ≡ digits_value 10 (without_leading_plus t)))
      (one_text-rows (found_of m) id) (by_text (one_text (found_of m) id) refl)
    where
      by_text : (text : Option (List ℕ)) → one_text (found_of m) id ≡ text
          → IsSomeAnd text (λ t. number ≡ digits_value 10 (without_leading_plus t))
      by_text None missing = let never : None ≡ Some number = sym (none missing) ∙ is in absurd cc
      by_text (Some text) there =
          (subst (λ (f : Option ℕ). ReadsOne (λ bs r. ParsesUnsigned bits 10 bs r × ExplainsUnsignedError 10 bs r ×
          HasUnsignedDigitsIfOk bs r) text f)
          is (value text there)).0.1
