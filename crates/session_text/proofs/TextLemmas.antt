-- Texts and lists that may be empty, and are then left out.
use Rattle.std.proofs.Common.{◌≡◌, ◌==◌, ℕ, Bool, true, false, List, [], ◌∷◌, length, map, Some, None, refl, arith}
use Rattle.serde_json.specs.Data.{string, array}
use Rattle.serde_json.specs.View.{items_of}
use Rattle.session_text.specs.SessionData.{shown_name_data, reasons_data}

is_zero : (n : ℕ) → (n == 0) ≡ true → n ≡ 0
is_zero n h = grind arith

pub shown_none : (bytes : List ℕ) → (length bytes == 0) ≡ true → shown_name_data bytes ≡ None
shown_none [] is = refl
shown_none (byte ∷ bytes) is =
    let none = is_zero (length (byte ∷ bytes)) is in absurd (omega (arith, none))

pub shown_some : (bytes : List ℕ) → (length bytes == 0) ≡ false → shown_name_data bytes ≡ Some (string bytes)
shown_some [] is = absurd (cc)
shown_some (byte ∷ bytes) is = refl

pub reasons_none : (reasons : List (List ℕ)) → (length reasons == 0) ≡ true → reasons_data reasons ≡ None
reasons_none [] is = refl
reasons_none (reason ∷ reasons) is =
    let none = is_zero (length (reason ∷ reasons)) is in absurd (omega (arith, none))

pub reasons_some : (reasons : List (List ℕ)) → (length reasons == 0) ≡ false
    → reasons_data reasons ≡ Some (array (items_of (map (λ bytes. string bytes) reasons)))
reasons_some [] is = absurd (cc)
reasons_some (reason ∷ reasons) is = refl
