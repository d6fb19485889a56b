-- A receipt has no float.
use Rattle.std.proofs.Common.{◌≡◌, ℕ, List, [], ◌∷◌, ◌||◌, false, refl, ap}
use Rattle.serde_json.specs.Written.{has_float, items_have_float}
use Rattle.session_book.specs.declared.answer.Answer.{Answer}
use Rattle.wire.specs.ReceiptText.{answers_data, receipt_data}

answers_have_no_float : (answers : List Answer) → items_have_float (answers_data answers) ≡ false
answers_have_no_float [] = refl
answers_have_no_float (answer ∷ answers) = answers_have_no_float answers

pub no_float_in_a_receipt : (answers : List Answer) (first last version : ℕ)
    → has_float (receipt_data answers first last version) ≡ false
no_float_in_a_receipt answers first last version = ap (λ b. b || false) (answers_have_no_float answers)
